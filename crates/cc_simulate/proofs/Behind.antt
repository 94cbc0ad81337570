-- Where a caller stands behind its call, with the results: over the places that it has had in use.
use Rattle.std.proofs.Common.{◌≡◌, ℕ, ◌+◌, ◌-◌, ◌≤◌, List, ◌++◌, length, Some, refl, sym, ap, ◌∙◌, subst, arith, ℤ, append_assoc}
use Rattle.std.specs.Prelude.{slice_get}
use Rattle.mc_nbt.specs.declared.value.Value.{Value}
use Rattle.wm_ast.specs.declared.module.Func.{Func}
use Rattle.wm_ast.specs.declared.module.Module.{Module}
use Rattle.wm_ast.specs.declared.module.ValType.{ValType}
use Rattle.wm_ast.specs.Store.{Store}
use Rattle.wm_flat.specs.Flat.{Activation}
use Rattle.wm_flat.specs.FlatTyping.{types_of}
use Rattle.wm_flat.specs.Operands.{under, operands}
use Rattle.wm_flat.specs.Program.{IsProgram}
use Rattle.wm_place.specs.Kinds.{body_of}
use Rattle.wm_place.specs.Visit.{Visit}
use Rattle.wm_place.proofs.KindLemmas.{Typed, scope_in, body_in}
use Rattle.cc_line.specs.Place.{score_places}
use Rattle.cc_line.specs.Running.{Kept}
use Rattle.cc_call.specs.Law.{CallsWork}
use Rattle.cc_cut.specs.Law.{widths}
use Rattle.cc_cut.proofs.ListLemmas.{in_get}
use Rattle.cc_cut.proofs.VisitLemmas.{same_visit}
use Rattle.cc_move.specs.Calls.{with_results, gives_of}
use Rattle.cc_move.specs.Law.{MovesFollow}
use Rattle.cc_move.specs.Standing.{StandsAt}
use Rattle.cc_body.specs.Layout.{top_place, frame_size}
use Rattle.cc_simulate.specs.Callers.{Waits, Waiting}
use Rattle.cc_simulate.specs.Frame.{local_ints, stack_ints}
use Rattle.cc_simulate.proofs.Frames.{stack_length, types_append, widths_append, widths_reverse, top_of, held_length}
use Rattle.cc_simulate.proofs.SimulateReach.{Setting, L, has_scores, Seen, seen}
use Rattle.cc_simulate.proofs.Ways.{cut_listed, Begins, begins}

-- the places that it has had in use
abbrev pub kept_of : Activation → List ℤ
kept_of c = local_ints c.locals ++ stack_ints (operands c)

module _ (moves : MovesFollow) (works : CallsWork) (m : Module) (program : IsProgram m) (results : List ValType) (st : Store) (cs : List Activation) (below : List Kept) (c : Activation) (waiting : Waiting m c.func cs below)
    (callee : ℕ) (entry : Kept) (w : Waits m callee c entry) (f : Func) (there : slice_get m.funcs c.func ≡ Some f) (t : Typed m c.func f) where
  pub begun : Begins m c.func (body_of m f t.type) w.cut w.piece
  begun = begins m c.func (body_of m f t.type) t.body w.cut w.is_cut w.piece w.is_piece

  -- the piece that follows the call
  abbrev pub setting : Setting
  setting = record {
    moves = moves;
    works = works;
    m = m;
    program = program;
    results = results;
    st = st;
    cs = cs;
    bs = below;
    n = c.func;
    waiting = waiting;
    f = f;
    there = there;
    t = t;
    q = w.piece;
    is_piece = begun.piece;
  }

  pub record BehindCall (us : List Value) : Type 0 where
    pub visit : Visit
    pub stands : StandsAt m (with_results c us) visit
    pub place : visit.path ≡ w.cut.place
    pub parts : operands (with_results c us) ≡ us ++ operands c
    pub wide : length (stack_ints us) ≡ widths w.type.results
    pub under : top_place (L setting) w.piece.cut - widths w.type.results ≡ length (kept_of c)
    pub room : length (kept_of c) + length (stack_ints us) ≤ frame_size m c.func
    pub scores : score_places ≤ frame_size m c.func

  pub behind : (us : List Value) → types_of us ≡ gives_of m callee → BehindCall us
  behind us types =
      let (visit, stands, place) = w.stands us types in
      let sees : Seen setting visit (with_results c us) = seen setting visit (with_results c us) stands refl in
      let here : visit ≡ w.piece.cut =
      same_visit (scope_in m c.func f t) (body_in m c.func f t) visit w.piece.cut sees.listed
      (cut_listed m c.func f t w.piece (in_get _ w.is_piece.position w.piece w.is_piece.is_piece)) (place ∙ begun.place) in
      let parts : operands (with_results c us) ≡ us ++ operands c = append_assoc us c.values (under c.levels) in
      let top : top_place (L setting) w.piece.cut ≡ top_of c.locals (us ++ operands c) = ap (top_place (L setting)) (sym here) ∙ (sees.top ∙ ap (top_of c.locals) parts) in
      let types_are = ap widths (types_append us (operands c)) in
      let both = widths_append (types_of us) (types_of (operands c)) in
      let held = held_length c.locals (operands c) in
      let long = stack_length us in
      let wide : length (stack_ints us) ≡ widths w.type.results = stack_length us ∙ (ap widths (types ∙ sym w.gives) ∙ widths_reverse w.type.results) in
      let fits : top_of c.locals (us ++ operands c) ≤ frame_size m c.func = subst (λ (os : List Value). top_of c.locals os ≤ frame_size m c.func) parts sees.room in
      record {
        visit = visit;
        stands = stands;
        place = place;
        parts = parts;
        wide = wide;
        under = omega arith;
        room = omega arith;
        scores = has_scores setting;
      }
