-- On the way through a body the heights of its cuts are found.
use Rattle.std.proofs.Common.{◌≡◌, ℕ, ◌+◌, List, [], ◌∷◌, ◌++◌, Bool, true, false, refl, sym, ap, ◌∙◌, append_assoc, append-nil}
use Rattle.std.specs.Prelude.{if◌then◌else◌}
use Rattle.std.specs.List.{FoldsTo}
use Rattle.wm_ast.specs.declared.module.ValType.{ValType}
use Rattle.wm_place.specs.Visit.{Visit}
use Rattle.cc_cut.specs.Law.{widths}
use Rattle.cc_cut.specs.Piece.{place_cost, is_cut, piece, up_to_cut, pieces, pieces_from}
use Rattle.cc_body.specs.Layout.{cut_heights}
use Rattle.cc_body.specs.steps.Heights.{heights_behind, IsMeasured}

module _ {V : Type 0} (own spent : V → ℕ) (found : V → List ℕ) (locals : List ValType) where
  abbrev pub Measures : V → Visit → V → Type 0
  Measures s v t = IsMeasured (own s) (spent s) (found s) v (own t) (spent t) (found t)

  -- behind these heights
  goes_on : (vs : List Visit) (s t : V) → FoldsTo Measures s vs t → own s ≡ widths locals → found t ≡ found s ++ cut_heights locals (pieces_from (spent s) vs)
  goes_on [] s t f e = ap found (sym f) ∙ sym (append-nil (found s))
  goes_on (v ∷ vs) s t (j, r, f) e =
      goes_on vs j t f (r.locals_are ∙ e)
      ∙ (ap (λ (l : List ℕ). l ++ cut_heights locals (pieces_from (spent j) vs)) (r.heights_are ∙ ap (λ (n : ℕ). heights_behind n (spent s) (found s) v) e)
      ∙ (ap (λ (n : ℕ). heights_behind (widths locals) (spent s) (found s) v ++ cut_heights locals (pieces_from n vs)) r.spent_is
      ∙ by_test (is_cut (spent s) v)))
    where
      by_test : (c : Bool)
          → (if c then found s ++ (widths locals + widths v.kinds) ∷ [] else found s) ++ cut_heights locals (pieces_from (if c then place_cost v else spent s + place_cost v) vs)
          ≡ found s ++ cut_heights locals (if c then piece v (up_to_cut (place_cost v) vs) ∷ pieces_from (place_cost v) vs else pieces_from (spent s + place_cost v) vs)
      by_test true = append_assoc (found s) ((widths locals + widths v.kinds) ∷ []) (cut_heights locals (pieces_from (place_cost v) vs))
      by_test false = refl

  -- from none
  pub heights_found : (vs : List Visit) (s t : V) → FoldsTo Measures s vs t → own s ≡ widths locals → spent s ≡ 0 → found s ≡ [] → found t ≡ cut_heights locals (pieces vs)
  heights_found vs s t f e z n =
      goes_on vs s t f e ∙ (ap (λ (l : List ℕ). l ++ cut_heights locals (pieces_from (spent s) vs)) n ∙ ap (λ (k : ℕ). cut_heights locals (pieces_from k vs)) z)
