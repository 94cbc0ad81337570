-- On the way through a body the cut of an index is found, and the most places that a frame needs.
use Rattle.std.proofs.Common.{◌≡◌, ◌≤◌, ℕ, zero, suc, ◌+◌, ◌-◌, max, List, [], ◌∷◌, Bool, true, false, Option, Some, None, refl, sym, ap, ap₂, ◌∙◌, arith}
use Rattle.std.specs.Prelude.{◌&&◌, nat_eq, if◌then◌else◌}
use Rattle.std.specs.List.{FoldsTo}
use Rattle.std.proofs.lemmas.Bool.{ne_eqb}
use Rattle.wm_ast.specs.declared.module.Module.{Module}
use Rattle.wm_ast.specs.declared.module.ValType.{ValType}
use Rattle.wm_place.specs.Visit.{Visit}
use Rattle.cc_line.specs.Place.{score_places}
use Rattle.cc_cut.specs.Law.{widths}
use Rattle.cc_cut.specs.Piece.{place_cost, is_cut, Piece, piece, up_to_cut, pieces, pieces_from}
use Rattle.cc_body.specs.Layout.{most_places}
use Rattle.cc_spots.specs.declared.size.Measuring.{Measuring}
use Rattle.cc_spots.specs.declared.spot.CutSpot.{CutSpot}
use Rattle.cc_spots.specs.Spot.{spot_shown}
use Rattle.cc_spots.specs.steps.Search.{measured, found_behind, IsPassed, numbered, chosen}

-- ---- the cut of an index

no_piece : (left : ℕ) → numbered left [] ≡ None
no_piece zero = refl
no_piece (suc k) = refl

module _ {V : Type 0} (module_of : V → Module) (locals : V → List ValType) (size spent left : V → ℕ) (found : V → Option CutSpot) where
  abbrev pub Passes : V → Visit → V → Type 0
  Passes s v t =
      IsPassed (module_of s) (locals s) (size s) (spent s) (left s) (found s) v (spent t) (left t) (found t)
      × (module_of t ≡ module_of s) × (locals t ≡ locals s) × (size t ≡ size s)

  module _ (m : Module) (ls : List ValType) (z : ℕ) where
    by_left : (l : ℕ) (v : Visit) (vs : List Visit) (old : Option CutSpot) (ps : List Piece)
        → chosen m ls z (if nat_eq l 1 then Some (spot_shown m ls z v) else old) (numbered (l - 1) ps)
        ≡ chosen m ls z old (numbered l (piece v (up_to_cut (place_cost v) vs) ∷ ps))
    by_left zero v vs old ps = refl
    by_left (suc zero) v vs old ps = refl
    by_left (suc (suc k)) v vs old ps =
        let less : suc (suc k) - 1 ≡ suc k = omega arith in
        let other : nat_eq (suc (suc k)) 1 ≡ false = ne_eqb (suc (suc k)) 1 (λ e. omega arith) in
        ap (λ (b : Bool). chosen m ls z (if b then Some (spot_shown m ls z v) else old) (numbered (suc (suc k) - 1) ps)) other
        ∙ ap (λ (j : ℕ). chosen m ls z old (numbered j ps)) less

    by_test : (c : Bool) (l spent : ℕ) (v : Visit) (vs : List Visit) (old : Option CutSpot)
        → chosen m ls z (if c && nat_eq l 1 then Some (spot_shown m ls z v) else old) (numbered (if c then l - 1 else l) (pieces_from (if c then place_cost v else spent + place_cost v) vs))
        ≡ chosen m ls z old (numbered l (if c then piece v (up_to_cut (place_cost v) vs) ∷ pieces_from (place_cost v) vs else pieces_from (spent + place_cost v) vs))
    by_test true l spent v vs old = by_left l v vs old (pieces_from (place_cost v) vs)
    by_test false l spent v vs old = refl

    -- behind what was found
    goes_on : (vs : List Visit) (s t : V) → FoldsTo Passes s vs t → module_of s ≡ m → locals s ≡ ls → size s ≡ z → found t ≡ chosen m ls z (found s) (numbered (left s) (pieces_from (spent s) vs))
    goes_on [] s t f a b c = ap found (sym f) ∙ ap (chosen m ls z (found s)) (sym (no_piece (left s)))
    goes_on (v ∷ vs) s t (j, (r, d, e, g), f) a b c =
        let here : found j ≡ found_behind (spent s) (left s) v (spot_shown m ls z v) (found s) =
        r.found_is
        ∙ (ap (λ (x : Module). found_behind (spent s) (left s) v (spot_shown x (locals s) (size s) v) (found s)) a
        ∙ (ap (λ (x : List ValType). found_behind (spent s) (left s) v (spot_shown m x (size s) v) (found s)) b
        ∙ ap (λ (x : ℕ). found_behind (spent s) (left s) v (spot_shown m ls x v) (found s)) c)) in
        goes_on vs j t f (d ∙ a) (e ∙ b) (g ∙ c)
        ∙ (ap (λ (o : Option CutSpot). chosen m ls z o (numbered (left j) (pieces_from (spent j) vs))) here
        ∙ (ap₂ (λ (l k : ℕ). chosen m ls z (found_behind (spent s) (left s) v (spot_shown m ls z v) (found s)) (numbered l (pieces_from k vs))) r.left_is r.spent_is
        ∙ by_test (is_cut (spent s) v) (left s) (spent s) v vs (found s)))

    -- from none
    pub all_found : (vs : List Visit) (s t : V) (index : ℕ) → FoldsTo Passes s vs t → module_of s ≡ m → locals s ≡ ls → size s ≡ z → spent s ≡ 0 → left s ≡ index → found s ≡ None
        → found t ≡ chosen m ls z None (numbered index (pieces vs))
    all_found vs s t index f a b c d e g =
        goes_on vs s t f a b c
        ∙ (ap (λ (o : Option CutSpot). chosen m ls z o (numbered (left s) (pieces_from (spent s) vs))) g
        ∙ ap₂ (λ (l k : ℕ). chosen m ls z None (numbered l (pieces_from k vs))) e d)

-- ---- the most places

least : (locals : List ValType) (vs : List Visit) → widths locals ≤ most_places locals vs
least locals [] = omega arith
least locals (v ∷ vs) = let h : widths locals ≤ most_places locals vs = least locals vs in omega arith

abbrev all_measured : Measuring → List Visit → Measuring
all_measured s [] = s
all_measured s (v ∷ vs) = all_measured (measured s v) vs

folds : (vs : List Visit) (s t : Measuring) → FoldsTo (λ s v t. t ≡ measured s v) s vs t → t ≡ all_measured s vs
folds [] s t f = sym f
folds (v ∷ vs) s t (j, r, f) = folds vs j t f ∙ ap (λ (x : Measuring). all_measured x vs) r

most_measured : (locals : List ValType) (vs : List Visit) (s : Measuring) → s.locals ≡ widths locals → widths locals ≤ s.most → (all_measured s vs).most ≡ max s.most (most_places locals vs)
most_measured locals [] s e h = omega arith
most_measured locals (v ∷ vs) s e h =
    let deeper : (all_measured (measured s v) vs).most ≡ max (measured s v).most (most_places locals vs) = most_measured locals vs (measured s v) e (omega arith) in
    let here : (measured s v).most ≡ max (s.locals + widths v.kinds) s.most = refl in
    let next : most_places locals (v ∷ vs) ≡ max (widths locals + widths v.kinds) (most_places locals vs) = refl in
    omega arith

-- from the places of the locals alone
pub most_found : (locals : List ValType) (vs : List Visit) (s t : Measuring) (size : ℕ) → FoldsTo (λ s v t. t ≡ measured s v) s vs t → s.locals ≡ widths locals → s.most ≡ widths locals → size ≡ max score_places t.most
    → size ≡ max score_places (most_places locals vs)
most_found locals vs s t size f e k is =
    let so_far : t.most ≡ (all_measured s vs).most = ap (λ (x : Measuring). x.most) (folds vs s t f) in
    let h : (all_measured s vs).most ≡ max s.most (most_places locals vs) = most_measured locals vs s e (omega arith) in
    let l : widths locals ≤ most_places locals vs = least locals vs in
    omega arith
