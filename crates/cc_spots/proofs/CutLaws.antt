-- The index of a cut tells it, and so the visit of its place.
use Rattle.std.proofs.Common.{◌≡◌, ℕ, zero, suc, List, [], Option, Some, None, refl, sym, ap, ◌∙◌, subst, arith}
use Rattle.std.specs.Prelude.{max, slice_get, MatchOption, option_map}
use Rattle.std.specs.List.{Contains}
use Rattle.wm_ast.specs.declared.module.Func.{Func}
use Rattle.wm_ast.specs.declared.module.Module.{Module}
use Rattle.wm_ast.specs.declared.module.ValType.{ValType}
use Rattle.wm_ast.specs.Types.{function_type}
use Rattle.wm_valid.specs.declared.scope.Scope.{Scope as Surroundings}
use Rattle.wm_valid.specs.Arrows.{◌>>=◌}
use Rattle.wm_valid.specs.ScopeView.{ScopeFound}
use Rattle.wm_place.specs.Kinds.{Body, body_of, function_body}
use Rattle.wm_place.specs.Visit.{body_visits, function_visits}
use Rattle.wm_place.proofs.LevelLemmas.{some_of}
use Rattle.cc_line.specs.Place.{score_places}
use Rattle.cc_cut.specs.declared.table.Cut.{Cut}
use Rattle.cc_cut.specs.Cuts.{cut_for, body_cuts, function_cuts}
use Rattle.cc_cut.specs.Piece.{Piece, function_pieces}
use Rattle.cc_cut.proofs.ListLemmas.{contains, among, in_get, get_in}
use Rattle.cc_cut.proofs.LawLemmas.{cuts_are_of_pieces}
use Rattle.cc_cut.proofs.PieceLemmas.{cut_among}
use Rattle.cc_move.proofs.StandLemmas.{paths_tell}
use Rattle.cc_body.specs.Layout.{body_size, frame_size, most_places}
use Rattle.cc_spots.specs.declared.spot.CutSpot.{CutSpot}
use Rattle.cc_spots.specs.Spot.{spot_shown, CutAt, IsSpot}
use Rattle.cc_spots.specs.Law.{CutsAreTold}
use Rattle.cc_spots.specs.steps.Search.{numbered, chosen}

-- ---- no cut

-- no cut of the function has this index
abbrev pub NoCut : Module → ℕ → ℕ → Type 0
NoCut m n index = (c : Cut) → Contains (function_cuts m n) c → c.index ≡ index → ⊥

no_body : (m : Module) (n index : ℕ) → function_body m n ≡ None → NoCut m n index
no_body m n index e c h k = absurd (among [] c (subst (λ (o : Option Body). Contains (body_cuts n o) c) e h))

pub no_function : (m : Module) (n index : ℕ) → slice_get m.funcs n ≡ None → NoCut m n index
no_function m n index e =
    no_body m n index (ap (λ (o : Option Func). o >>= λ f. option_map (body_of m f) (function_type m f)) e)

pub no_type : (m : Module) (n index : ℕ) (f : Func) → slice_get m.funcs n ≡ Some f → function_type m f ≡ None → NoCut m n index
no_type m n index f e k =
    no_body m n index
    (ap (λ (o : Option Func). o >>= λ g. option_map (body_of m g) (function_type m g)) e ∙ ap (option_map (body_of m f)) k)

-- ---- the cut of an index

module _ (m : Module) (n : ℕ) (b : Body) (e : function_body m n ≡ Some b) where
  -- the piece of a cut
  record Of (c : Cut) : Type 0 where
    position : ℕ
    there : slice_get (function_cuts m n) position ≡ Some c
    piece : Piece
    is_piece : slice_get (function_pieces m n) position ≡ Some piece
    is_index : c.index ≡ suc position

  of : (c : Cut) → Contains (function_cuts m n) c → Of c
  of c h =
      let w = get_in (function_cuts m n) c (among (function_cuts m n) c h) in
      let x = (cuts_are_of_pieces m n b e w.0).1 c w.1 in
      record { position = w.0; there = w.1; piece = x.0; is_piece = x.1; is_index = ap (λ (y : Cut). y.index) x.2 }

  no_cut : (index : ℕ) → numbered index (function_pieces m n) ≡ None → NoCut m n index
  no_cut index none c h k =
      let w : Of c = of c h in
      let some : numbered index (function_pieces m n) ≡ Some w.piece =
      ap (λ (j : ℕ). numbered j (function_pieces m n)) (sym k ∙ w.is_index) ∙ w.is_piece in
      absurd (let x : None ≡ Some w.piece = sym none ∙ some in cc)

  cut_at : (index : ℕ) (p : Piece) → numbered index (function_pieces m n) ≡ Some p → (x : CutAt m n index) × (x.body ≡ b) × (x.piece ≡ p)
  cut_at zero p h = absurd cc
  cut_at (suc k) p h =
      let c : Cut = cut_for n b.scope (function_pieces m n) (suc k) p in (
        record {
          body = b;
          is_body = e;
          cut = c;
          is_cut = contains (function_cuts m n) c (in_get (function_cuts m n) k c ((cuts_are_of_pieces m n b e k).0 p h));
          is_index = refl;
          position = k;
          is_position = refl;
          piece = p;
          is_piece = h;
          is_visit = contains (function_visits m n) p.cut (cut_among (function_visits m n) 0 p (in_get (function_pieces m n) k p h));
          place = refl;
          layout = refl;
        },
        refl,
        refl,
      )

  -- ---- what is found

  module _ (index : ℕ) (locals : List ValType) (size : ℕ) (same_locals : locals ≡ b.scope.locals) (same_size : size ≡ frame_size m n) where
    is_spot : (p : Piece) → numbered index (function_pieces m n) ≡ Some p → IsSpot m n index (spot_shown m locals size p.cut)
    is_spot p h =
        let w = cut_at index p h in
        record {
          at = w.0;
          shown =
              ap (λ (l : List ValType). spot_shown m l size p.cut) (same_locals ∙ ap (λ (x : Body). x.scope.locals) (sym w.1))
              ∙ (ap (λ (z : ℕ). spot_shown m w.0.body.scope.locals z p.cut) same_size
              ∙ ap (λ (q : Piece). spot_shown m w.0.body.scope.locals (frame_size m n) q.cut) (sym w.2));
        }

    pub found : (o : Option CutSpot) → o ≡ chosen m locals size None (numbered index (function_pieces m n)) → MatchOption o (NoCut m n index) (IsSpot m n index)
    found o h = by_piece (numbered index (function_pieces m n)) refl h
      where
        by_piece : (q : Option Piece) → numbered index (function_pieces m n) ≡ q → o ≡ chosen m locals size None q → MatchOption o (NoCut m n index) (IsSpot m n index)
        by_piece None g k = subst (λ (x : Option CutSpot). MatchOption x (NoCut m n index) (IsSpot m n index)) (sym k) (no_cut index g)
        by_piece (Some p) g k = subst (λ (x : Option CutSpot). MatchOption x (NoCut m n index) (IsSpot m n index)) (sym k) (is_spot p g)

-- of a function that is there, by what its body may name
pub found_in : (m seen : Module) (n index : ℕ) (f : Func) (scope : Option Surroundings) (s : Surroundings) (locals : List ValType) (size : ℕ) (o : Option CutSpot) → seen ≡ m → Some f ≡ slice_get seen.funcs n
    → ScopeFound scope seen f → scope ≡ Some s → locals ≡ s.locals.items → size ≡ max score_places (most_places locals (function_visits m n))
    → o ≡ chosen m locals size None (numbered index (function_pieces m n)) → MatchOption o (NoCut m n index) (IsSpot m n index)
found_in m seen n index f scope s locals size o same at is_scope some own same_size h =
    let (t, w) = subst (λ (x : Option Surroundings). ScopeFound x seen f) some is_scope in
    let b : Body = body_of m f t in
    let there : slice_get m.funcs n ≡ Some f = ap (λ (x : Module). slice_get x.funcs n) (sym same) ∙ sym at in
    let named : function_type m f ≡ Some t = ap (λ (x : Module). function_type x f) (sym same) ∙ w.named in
    let body : function_body m n ≡ Some b =
    ap (λ (x : Option Func). x >>= λ g. option_map (body_of m g) (function_type m g)) there ∙ ap (option_map (body_of m f)) named in
    let same_locals : locals ≡ b.scope.locals = own ∙ w.locals in
    let frame : max score_places (most_places locals (function_visits m n)) ≡ frame_size m n =
    ap (λ (l : List ValType). max score_places (most_places l (function_visits m n))) same_locals
    ∙ (ap (λ (x : Option Body). max score_places (most_places b.scope.locals (body_visits x))) body ∙ sym (ap body_size body)) in
    found m n b body index locals size same_locals (same_size ∙ frame) o h

-- ---- there is no other

pub cuts_are_told : CutsAreTold
cuts_are_told m n index x c h k =
    let y : Of m n x.body x.is_body c = of m n x.body x.is_body c h in
    let z : Of m n x.body x.is_body x.cut = of m n x.body x.is_body x.cut x.is_cut in
    let indices : suc y.position ≡ suc z.position = sym y.is_index ∙ (k ∙ (sym x.is_index ∙ z.is_index)) in
    let position : y.position ≡ z.position = omega arith in
    let same : c ≡ x.cut = some_of c x.cut (sym y.there ∙ (ap (slice_get (function_cuts m n)) position ∙ z.there)) in
    record {
      same = same;
      visit = λ v listed path.
          paths_tell m n v x.piece.cut listed x.is_visit (path ∙ (ap (λ (d : Cut). d.place) same ∙ sym x.place));
      piece = λ i p is there.
          let also : suc i ≡ suc x.position = sym is ∙ (k ∙ (sym x.is_index ∙ x.is_position)) in
          let at : i ≡ x.position = omega arith in
          some_of p x.piece (sym there ∙ (ap (slice_get (function_pieces m n)) at ∙ x.is_piece));
    }
