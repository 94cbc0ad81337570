-- The lines of a namespace from those of the namespace `x`: each word `x`, and each `x` that begins a word before a
-- colon, is exchanged.
use Rattle.std.specs.Prelude.{ℕ, List, [], ◌∷◌, ◌++◌, Bool, true, false, ◌&&◌, not, nat_eq, if◌then◌else◌, map}
use Rattle.mc_cmd.specs.Form.{Text, lacks}

-- at the beginning of a word; behind an `x` with which one begins; inside of one
pub data Where : Type 0 where
  at_start : Where
  behind_x : Where
  within : Where

abbrev pub behind : ℕ → Where
behind b = if nat_eq b 32 then at_start else within

abbrev pub under_from : Text → Where → Text → Text
under_from ns at_start [] = []
under_from ns behind_x [] = ns
under_from ns within [] = []
under_from ns at_start (b ∷ t) = if nat_eq b 120 then under_from ns behind_x t else b ∷ under_from ns (behind b) t
under_from ns behind_x (b ∷ t) =
    if nat_eq b 32 then ns ++ (32 ∷ under_from ns at_start t)
    else if nat_eq b 58 then ns ++ (58 ∷ under_from ns within t)
    else 120 ∷ (b ∷ under_from ns within t)
under_from ns within (b ∷ t) = b ∷ under_from ns (behind b) t

abbrev pub under : Text → List Text → List Text
under ns lines = map (under_from ns at_start) lines

-- a word that stays: without spaces, and not begun by an `x`
abbrev pub begins_plain : Text → Bool
begins_plain [] = false
begins_plain (b ∷ w) = not (nat_eq b 120)

abbrev pub is_plain : Text → Bool
is_plain w = begins_plain w && lacks 32 w

-- whole words, each followed by a space, of which none is begun by an `x`
abbrev pub are_words : Where → Text → Bool
are_words at_start [] = true
are_words within [] = false
are_words behind_x t = false
are_words at_start (b ∷ t) = if nat_eq b 120 then false else are_words (behind b) t
are_words within (b ∷ t) = are_words (behind b) t
