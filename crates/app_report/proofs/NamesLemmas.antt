-- Names of pieces: what is read as one is the text of one.
use Rattle.std.proofs.Common.{◌≡◌, ◌⊎◌, ◌∙◌, sym, ap, refl, subst, inl, inr, ℕ, [], ◌∷◌, ◌++◌, Bool, true, false, Option, Some, None}
use Rattle.std.proofs.lemmas.Bool.Decides.{Decides-eqb}
use Rattle.std.specs.Prelude.{is_some, nat_eq, option_and_then, if◌then◌else◌}
use Rattle.std.specs.Fmt.{decimal}
use Rattle.mc_cmd.specs.Form.{Text, cut_at}
use Rattle.mc_cmd.proofs.FormLemmas.{cut_at_spells}
use Rattle.app_words.specs.Script.{address, digits, is_address}
use Rattle.app_words.proofs.NumberLemmas.{digits_is, limited_is}
use Rattle.app_report.specs.Costs.{function_group, group_of, numbered}
use Rattle.app_report.specs.declared.pieces.Group.{Group}
use Rattle.app_report.specs.declared.pieces.Group.TheVariants as groups

-- `fI_J`, `iJ` or `sJ`
abbrev pub IsPieceText : Text → Type 0
IsPieceText name =
    ((i : ℕ) × (j : ℕ) × (name ≡ 102 ∷ (decimal i ++ (95 ∷ decimal j))))
    ⊎ (((j : ℕ) × (name ≡ 105 ∷ decimal j)) ⊎ ((j : ℕ) × (name ≡ 115 ∷ decimal j)))

number_is : (w : Text) (j : ℕ) → address.read w ≡ Some j → w ≡ decimal j
number_is w j h = ((limited_is digits is_address digits_is).spells w j h).0

function_text : (w : Text) (o : Option (Text × Text)) → cut_at 95 w ≡ o → is_some (function_group o) ≡ true → (i : ℕ) × (j : ℕ) × (102 ∷ w ≡ 102 ∷ (decimal i ++ (95 ∷ decimal j)))
function_text w None c h = absurd cc
function_text w (Some p) c h = go (address.read p.0) (address.read p.1) refl refl h
  where
    go : (o q : Option ℕ) → address.read p.0 ≡ o → address.read p.1 ≡ q → is_some (option_and_then (λ i. numbered (groups.Function i) q) o) ≡ true
        → (i : ℕ) × (j : ℕ) × (102 ∷ w ≡ 102 ∷ (decimal i ++ (95 ∷ decimal j)))
    go None q e f h = absurd cc
    go (Some i) None e f h = absurd cc
    go (Some i) (Some j) e f h =
        (i, j, ap (λ v. 102 ∷ v) (cut_at_spells 95 w p.0 p.1 c ∙ ap (λ u. u ++ (95 ∷ p.1)) (number_is p.0 i e) ∙ ap (λ u. decimal i ++ (95 ∷ u)) (number_is p.1 j f)))

other_text : (b : ℕ) (w : Text) (g : Group) (o : Option ℕ) → address.read w ≡ o → is_some (numbered g o) ≡ true → (j : ℕ) × (b ∷ w ≡ b ∷ decimal j)
other_text b w g None e h = absurd cc
other_text b w g (Some j) e h = (j, ap (λ v. b ∷ v) (number_is w j e))

pub piece_text : (name : Text) → is_some (group_of name) ≡ true → IsPieceText name
piece_text [] h = absurd cc
piece_text (b ∷ w) h = go (nat_eq b 102) (nat_eq b 105) (nat_eq b 115) refl refl refl h
  where
    begins : (c : ℕ) → nat_eq b c ≡ true → IsPieceText (c ∷ w) → IsPieceText (b ∷ w)
    begins c e p = subst (λ (d : ℕ). IsPieceText (d ∷ w)) (sym ((Decides-eqb b c).0 e)) p

    go : (x y z : Bool) → nat_eq b 102 ≡ x → nat_eq b 105 ≡ y → nat_eq b 115 ≡ z
        → is_some (if x then function_group (cut_at 95 w) else if y then numbered groups.Instantiation (address.read w) else if z then numbered groups.Shared (address.read w) else None) ≡ true → IsPieceText (b ∷ w)
    go true y z e f g h = begins 102 e (inl (function_text w (cut_at 95 w) refl h))
    go false true z e f g h = begins 105 f (inr (inl (other_text 105 w groups.Instantiation (address.read w) refl h)))
    go false false true e f g h = begins 115 g (inr (inr (other_text 115 w groups.Shared (address.read w) refl h)))
    go false false false e f g h = absurd cc
