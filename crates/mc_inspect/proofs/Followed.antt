-- Which piece follows the call of the last caller.
use Rattle.std.proofs.Common.{◌≡◌, ◌≤◌, ◌-◌, ℕ, zero, suc, List, [], ◌∷◌, ◌++◌, length, take, get_or, Bool, true, Option, Some, Vec, Global, refl, sym, ap, subst, ◌∙◌, arith}
use Rattle.std.specs.Prelude.{option_map}
use Rattle.std.proofs.lemmas.List.{same_from_push}
use Rattle.cc_line.specs.declared.leaf.PieceId as programs
use Rattle.cc_line.specs.declared.leaf.PieceId.TheVariants as ids
use Rattle.cc_line.specs.View.{piece_view}
use Rattle.pk_entries.specs.declared.entry.Entry.{Entry}
use Rattle.mc_inspect.specs.steps.Ways.{IsFollowedBy}

pub view_tells : (i j : programs.PieceId) → piece_view i ≡ piece_view j → i ≡ j
view_tells (ids.Body f k) (ids.Body g n) e = cc
view_tells (ids.Init k) (ids.Init n) e = cc
view_tells (ids.Shared k) (ids.Shared n) e = cc
view_tells (ids.End k) (ids.End n) e = cc
view_tells _ _ e = absurd cc

last_parted : {A : Type 0} (xs : List A) (k : ℕ) (x : A) → length xs ≡ suc k → x ≡ get_or xs k x → xs ≡ take k xs ++ x ∷ []
last_parted [] k x l e = absurd (omega arith)
last_parted (y ∷ []) zero x l e = ap (λ z. z ∷ []) (sym e)
last_parted (y ∷ (z ∷ ys)) zero x l e = absurd (omega arith)
last_parted (y ∷ ys) (suc k) x l e = ap (λ zs. y ∷ zs) (last_parted ys k x (omega arith) e)

first_and_last : {A : Type 0} (xs : List A) (x : A) → 2 ≤ length xs → x ≡ get_or xs (length xs - 1) x → (first : A) × (others : List A) × (xs ≡ first ∷ (others ++ x ∷ []))
first_and_last [] x l e = absurd (omega arith)
first_and_last (y ∷ []) x l e = absurd (omega arith)
first_and_last (y ∷ (z ∷ zs)) x l e =
    let at : length (y ∷ (z ∷ zs)) - 1 ≡ suc (length zs) = omega arith in
    (y, take (length zs) (z ∷ zs), ap (λ us. y ∷ us) (last_parted (z ∷ zs) (length zs) x refl (e ∙ ap (λ k. get_or (y ∷ (z ∷ zs)) k x) at)))

pub followed_by_last : (o : Option (Vec Entry Global)) (v : Vec Entry Global) → o ≡ Some v → (es : List Entry) → es ≡ v.items → 2 ≤ length es → (last : Entry) → last ≡ get_or es (length es - 1) last
    → (i : programs.PieceId) (b : Bool) → (b ≡ true → last.follows ≡ i) → (last.follows ≡ i → b ≡ true)
    → (b ≡ true → IsFollowedBy (option_map (λ u. u.items) o) (piece_view i)) × (IsFollowedBy (option_map (λ u. u.items) o) (piece_view i) → b ≡ true)
followed_by_last o v is es same some last at i b so only = (
  λ e. subst (λ q. IsFollowedBy q (piece_view i)) there (parts.0, parts.1, last, parts.2, ap piece_view (so e)),
  λ f. only (back (subst (λ q. IsFollowedBy q (piece_view i)) (sym there) f)),
)
  where
    there : Some es ≡ option_map (λ u. u.items) o
    there = ap Some same ∙ ap (option_map (λ u. u.items)) (sym is)

    parts : (first : Entry) × (others : List Entry) × (es ≡ first ∷ (others ++ last ∷ []))
    parts = first_and_last es last some at

    back : IsFollowedBy (Some es) (piece_view i) → last.follows ≡ i
    back (first, others, own, whole, follows) =
        let one = same_from_push (parts.0 ∷ parts.1) (first ∷ others) last own (sym parts.2 ∙ whole) in
        view_tells last.follows i (ap (λ e. piece_view e.follows) one.1 ∙ follows)
