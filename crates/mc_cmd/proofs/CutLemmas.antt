-- How a text is cut at a separator.
use Rattle.std.proofs.Common.{◌≡◌, ℕ, suc, ◌+◌, [], ◌∷◌, take, drop, Bool, true, false, cond, Option, Some, None, refl, sym, ap, ◌∙◌, eqb, arith}
use Rattle.std.specs.Prelude.{option_map}
use Rattle.std.specs.List.{position, position_from}
use Rattle.std.proofs.lemmas.Iterator.Adapters.{position_from-zero}
use Rattle.mc_cmd.specs.Form.{Text, cut_here, cut_at}

-- the place of the first byte c
abbrev place_here : Bool → Option ℕ → Option ℕ
place_here true o = Some 0
place_here false o = option_map suc o

abbrev place_at : ℕ → Text → Option ℕ
place_at c [] = None
place_at c (b ∷ t) = place_here (eqb b c) (place_at c t)

from_place : (c i : ℕ) (t : Text) → position_from (λ b. eqb b c) i t ≡ option_map (λ k. i + k) (place_at c t)
from_place c i [] = refl
from_place c i (b ∷ t) = go (eqb b c) (place_at c t) (from_place c (i + 1) t)
  where
    go : (d : Bool) (o : Option ℕ) → position_from (λ b. eqb b c) (i + 1) t ≡ option_map (λ k. (i + 1) + k) o → cond d (Some i) (position_from (λ b. eqb b c) (i + 1) t) ≡ option_map (λ k. i + k) (place_here d o)
    go true o ih = ap Some (omega arith)
    go false None ih = ih
    go false (Some k) ih = ih ∙ ap Some (omega arith)

same_place : (o : Option ℕ) → option_map (λ k. 0 + k) o ≡ o
same_place None = refl
same_place (Some k) = ap Some (omega arith)

abbrev pub cut_by : Text → Option ℕ → Option (Text × Text)
cut_by t None = None
cut_by t (Some i) = Some (take i t, drop (suc i) t)

cut_at-place : (c : ℕ) (t : Text) → cut_at c t ≡ cut_by t (place_at c t)
cut_at-place c [] = refl
cut_at-place c (b ∷ t) = go (eqb b c) (place_at c t) (cut_at-place c t)
  where
    go : (d : Bool) (o : Option ℕ) → cut_at c t ≡ cut_by t o → cut_here d b t (cut_at c t) ≡ cut_by (b ∷ t) (place_here d o)
    go true o e = refl
    go false None e = ap (option_map (λ p. (b ∷ p.0, p.1))) e
    go false (Some i) e = ap (option_map (λ p. (b ∷ p.0, p.1))) e

-- a text is cut at the position of the separator
pub cut_at-position : (c : ℕ) (t : Text) → cut_at c t ≡ cut_by t (position (λ b. eqb b c) t)
cut_at-position c t = cut_at-place c t ∙ ap (cut_by t) (sym (position_from-zero (λ b. eqb b c) t ∙ from_place c 0 t ∙ same_place (place_at c t)))
