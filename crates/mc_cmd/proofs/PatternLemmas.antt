-- Macro lines are read as they are spelled.
use Rattle.std.proofs.Common.{◌≡◌, ℕ, List, [], ◌∷◌, ◌++◌, true, refl, ap, ◌∙◌}
use Rattle.std.specs.Prelude.{if◌then◌else◌}
use Rattle.std.specs.List.{list_all}
use Rattle.mc_nbt.specs.Word.{is_name_byte, is_key}
use Rattle.mc_nbt.proofs.TestLemmas.{and_first, and_second, other}
use Rattle.mc_cmd.specs.Form.{Text}
use Rattle.mc_cmd.specs.Command.{PatternPart, literal, hole}
use Rattle.mc_cmd.specs.Pattern.{parts_text, is_literal_byte, is_literal, begins_with_hole, parts_fit, has_word, pattern_fits, pattern_text, outside, opening, inside, onto_literal, onto_hole, parts_in, pattern_value, patterns}
use Rattle.mc_cmd.proofs.FormLemmas.{IsLast, compared_is}
use Rattle.mc_cmd.proofs.WordLemmas.{key_bytes}

hole_in : (n t : Text) → list_all is_name_byte n ≡ true → parts_in (n ++ (41 ∷ t)) inside ≡ hole n ∷ parts_in t outside
hole_in [] t h = refl
hole_in (b ∷ n) t h =
    ap (λ c. if c then hole [] ∷ parts_in (n ++ (41 ∷ t)) outside else onto_hole b (parts_in (n ++ (41 ∷ t)) inside)) (other is_name_byte 41 b refl (and_first _ _ h))
    ∙ ap (onto_hole b) (hole_in n t (and_second (is_name_byte b) _ h))

onto_hole_or_end : (b : ℕ) (ps : List PatternPart) → begins_with_hole ps ≡ true → onto_literal b ps ≡ literal (b ∷ []) ∷ ps
onto_hole_or_end b [] h = refl
onto_hole_or_end b (literal l ∷ ps) h = absurd cc
onto_hole_or_end b (hole n ∷ ps) h = refl

literal_in : (b : ℕ) (l t : Text) → list_all is_literal_byte (b ∷ l) ≡ true → begins_with_hole (parts_in t outside) ≡ true → parts_in ((b ∷ l) ++ t) outside ≡ literal (b ∷ l) ∷ parts_in t outside
literal_in b [] t h a =
    ap (λ c. if c then parts_in t opening else onto_literal b (parts_in t outside)) (other is_literal_byte 36 b refl (and_first _ _ h))
    ∙ onto_hole_or_end b (parts_in t outside) a
literal_in b (c ∷ l) t h a =
    ap (λ d. if d then parts_in ((c ∷ l) ++ t) opening else onto_literal b (parts_in ((c ∷ l) ++ t) outside)) (other is_literal_byte 36 b refl (and_first _ _ h))
    ∙ ap (onto_literal b) (literal_in c l t (and_second (is_literal_byte b) _ h) a)

parts_in_text : (ps : List PatternPart) → parts_fit ps ≡ true → parts_in (parts_text ps) outside ≡ ps
parts_in_text [] h = refl
parts_in_text (hole n ∷ ps) h =
    hole_in n (parts_text ps) (key_bytes n (and_first (is_key n) _ h)) ∙ ap (λ l. hole n ∷ l) (parts_in_text ps (and_second (is_key n) _ h))
parts_in_text (literal [] ∷ ps) h = absurd cc
parts_in_text (literal (b ∷ l) ∷ ps) h =
    let g = and_second (is_literal (b ∷ l)) _ h in
    let e = parts_in_text ps (and_second (begins_with_hole ps) _ g) in
    literal_in b l (parts_text ps) (and_first _ _ h) (ap begins_with_hole e ∙ and_first _ _ g) ∙ ap (λ q. literal (b ∷ l) ∷ q) e

pattern_value_text : (ps : List PatternPart) → pattern_fits ps ≡ true → pattern_value (pattern_text ps) ≡ ps
pattern_value_text [] h = absurd cc
pattern_value_text (hole n ∷ ps) h = absurd cc
pattern_value_text (literal l ∷ []) h = absurd cc
pattern_value_text (literal l ∷ p ∷ ps) h = parts_in_text (literal l ∷ p ∷ ps) (and_second (has_word l) _ h)

pub patterns_is : IsLast patterns
patterns_is = compared_is pattern_text pattern_fits pattern_value pattern_value_text
