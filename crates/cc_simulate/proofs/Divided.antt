-- A division goes on: a run of its turns leaves fewer of them, and where none is left the answer comes to its places, and the cut
-- behind is next.
use Rattle.std.proofs.Common.{◌≡◌, ℕ, suc, ◌+◌, ◌-◌, ◌*◌, ◌<◌, ◌≤◌, List, [], ◌∷◌, length, Option, Some, refl, sym, ap, ◌∙◌, subst, arith}
use Rattle.std.specs.Prelude.{slice_get}
use Rattle.mc_nbt.specs.declared.value.Value.{Value}
use Rattle.mc_nbt.specs.declared.value.Value.TheVariants as values
use Rattle.wm_ast.specs.declared.module.Func.{Func}
use Rattle.wm_ast.specs.declared.module.Module.{Module}
use Rattle.wm_ast.specs.declared.module.ValType.{ValType}
use Rattle.wm_ast.specs.Store.{Store}
use Rattle.wm_flat.specs.Flat.{Activation}
use Rattle.wm_flat.specs.Program.{IsProgram}
use Rattle.wm_flat.proofs.Consequences.{leads_nowhere}
use Rattle.wm_place.specs.Kinds.{Body, body_of, function_body}
use Rattle.wm_place.proofs.KindLemmas.{Typed, scope_in, body_in}
use Rattle.cc_line.specs.Sight.{in_rest}
use Rattle.cc_line.specs.Key.{key_next, body_piece, id_tree}
use Rattle.cc_line.specs.Routine.{value_ints, Gives}
use Rattle.cc_line.specs.State.{State, set_places, with_tree}
use Rattle.cc_line.specs.Step.{Flow}
use Rattle.cc_line.specs.Item.{Items, no_more, join, steps_items}
use Rattle.cc_call.specs.Frames.{next_site, next_acts}
use Rattle.cc_call.specs.Law.{CallsWork}
use Rattle.cc_cut.specs.Law.{rank}
use Rattle.cc_cut.proofs.ListLemmas.{in_get}
use Rattle.cc_cut.proofs.VisitLemmas.{same_visit}
use Rattle.cc_move.specs.Law.{MovesFollow, at}
use Rattle.cc_div64.specs.Division.{turns_items, end_items}
use Rattle.cc_div64.specs.Law.{Divides}
use Rattle.cc_div64.specs.Law as divisions
use Rattle.cc_pieces.specs.Dividing.{answering_piece, dividing_piece, turning_piece, none_left_step, turning_items, most_left}
use Rattle.cc_body.specs.Layout.{top_place, frame_size}
use Rattle.cc_body.specs.Pieces.{answer_in}
use Rattle.cc_simulate.specs.Frame.{Frame}
use Rattle.cc_simulate.specs.Stands.{RunsOver, ChangesFrameAlone, At, Dividing}
use Rattle.cc_simulate.specs.Stands as stands
use Rattle.cc_simulate.specs.Stored.{Stored}
use Rattle.cc_simulate.specs.Law.{Enters, Simulates}
use Rattle.cc_simulate.specs.Uses.{uses_bytes}
use Rattle.cc_simulate.proofs.Acts.{acts_then, keeps_replaced, calm_replaced, keeps_tree, Passes, join_passes, end_enters, acts_enter}
use Rattle.cc_simulate.proofs.Divisions.{before_divides, GoesOn, goes_on}
use Rattle.cc_simulate.proofs.Frames.{top_of, long_below, frame_same, frame_push}
use Rattle.cc_simulate.proofs.Globals.{stored_kept}
use Rattle.cc_simulate.proofs.NumbersWork.{DivisionsWork}
use Rattle.cc_simulate.proofs.Proceeding.{keeps_spares}
use Rattle.cc_simulate.proofs.SimulateReach.{Setting, L, Seen, seen}
use Rattle.cc_simulate.proofs.Ways.{cut_listed, Begins, begins}

-- ---- turns

module _ (works : DivisionsWork) (m : Module) (cs : List Activation) (a : Activation) (s : State) (p : Dividing m cs a s) (k : ℕ) (left : p.left ≡ suc k) where
  abbrev index : ℕ
  index = p.cut.index

  turned : Divides turns_items s p.op p.answer k
  turned = works.go_on p.op p.answer k s (subst (λ (n : ℕ). divisions.Dividing p.op p.answer n s) left p.division)

  still_named : turned.state.keys in_rest key_next ≡ Some (id_tree (turning_piece a.func index))
  still_named = turned.replaced.keys in_rest key_next refl ∙ (p.named ∙ ap (λ (n : ℕ). Some (id_tree (dividing_piece a.func index n))) left)

  on : GoesOn a.func index k turned.state
  on = goes_on a.func index k turned.state turned.dividing.told still_named

  abbrev next : Dividing m cs a on.state
  next = record {
    cut = p.cut;
    is_cut = p.is_cut;
    piece = p.piece;
    is_piece = p.is_piece;
    op = p.op;
    behind = p.behind;
    visit = p.visit;
    stands = p.stands;
    place = p.place;
    answer = p.answer;
    others = p.others;
    parts = p.parts;
    left = k;
    few = turned.dividing.few;
    division = works.stay p.op p.answer k turned.state on.state (λ h w. ap (λ g. g h) on.scores) turned.dividing;
    named = on.named;
    frame = frame_same (frame_size m a.func) a.locals p.others s.places on.state.places (on.places ∙ turned.replaced.places) p.frame;
    below = p.below;
    waiting = p.waiting;
    calm = on.calm p.below (calm_replaced p.below s turned.state 0 [] turned.replaced p.calm);
  }

  -- with fewer turns left
  abbrev Fewer : State → Type 0
  Fewer t = (x : Dividing m cs a t) × (x.left ≡ k)

  pub turns_enter : Enters (turning_items a.func index) s Fewer
  turns_enter =
      let tail : Items = steps_items (none_left_step (answering_piece a.func index) ∷ []) in
      let passes : Passes turns_items s turned.state = record { ready = turned.ready; used = turned.used; ends = turned.ends; keeps = keeps_replaced s turned.state 0 [] turned.replaced } in
      join_passes Fewer turns_items tail s turned.state passes
      (record {
        ready = on.passes.ready;
        there = subst Fewer (sym (ap (λ (q : Flow). q.state) on.passes.ends)) (next, refl);
        keeps = subst (ChangesFrameAlone turned.state) (sym (ap (λ (q : Flow). q.state) on.passes.ends)) on.passes.keeps;
      })

-- ---- the answer

module _ (works : DivisionsWork) (moves : MovesFollow) (calls : CallsWork) (m : Module) (program : IsProgram m) (results : List ValType) (st : Store) (cs : List Activation) (a : Activation) (s : State)
    (p : Dividing m cs a s) (none : p.left ≡ 0) (f : Func) (there : slice_get m.funcs a.func ≡ Some f) (t : Typed m a.func f) where
  abbrev n : ℕ
  n = a.func

  abbrev size : ℕ
  size = frame_size m a.func

  begun : Begins m a.func (body_of m f t.type) p.cut p.piece
  begun = begins m a.func (body_of m f t.type) t.body p.cut p.is_cut p.piece p.is_piece

  -- the piece that follows the division
  abbrev setting : Setting
  setting = record {
    moves = moves;
    works = calls;
    m = m;
    program = program;
    results = results;
    st = st;
    cs = cs;
    bs = p.below;
    n = a.func;
    waiting = p.waiting;
    f = f;
    there = there;
    t = t;
    q = p.piece;
    is_piece = begun.piece;
  }

  sees : Seen setting p.visit a
  sees = seen setting p.visit a p.stands refl

  here : p.visit ≡ p.piece.cut
  here =
      same_visit (scope_in m a.func f t) (body_in m a.func f t) p.visit p.piece.cut sees.listed
      (cut_listed m a.func f t p.piece (in_get _ p.is_piece.position p.piece p.is_piece.is_piece)) (p.place ∙ begun.place)

  -- its places
  abbrev os : List Value
  os = values.I64 p.answer ∷ p.others

  under : top_place (L setting) p.piece.cut - 2 ≡ top_of a.locals p.others
  under =
      let top : top_place (L setting) p.piece.cut ≡ top_of a.locals os = ap (top_place (L setting)) (sym here) ∙ (sees.top ∙ ap (top_of a.locals) p.parts) in
      ap (λ (j : ℕ). j - 2) top ∙ long_below a.locals p.others p.answer

  room : top_of a.locals os ≤ size
  room = subst (λ (xs : List Value). top_of a.locals xs ≤ size) p.parts sees.room

  abbrev from : ℕ
  from = top_of a.locals p.others

  given : Gives (end_items p.op from) s from (value_ints (values.I64 p.answer))
  given =
      let sized : length s.places ≡ size = p.frame.sized in
      let within : top_of a.locals os ≤ size = room in
      works.finish p.op (before_divides p.piece.cut p.op p.behind) p.answer from s (omega arith) (subst (λ (j : ℕ). divisions.Dividing p.op p.answer j s) none p.division)

  abbrev first : ℕ
  first = suc p.is_piece.position

  -- the cut is next
  abbrev led : State
  led = with_tree given.state next_site (Some (id_tree (body_piece n first)))

  keeps : ChangesFrameAlone given.state led
  keeps = keeps_tree given.state next_site (Some (id_tree (body_piece n first))) refl

  calm : RunsOver (uses_bytes m) p.below given.state
  calm = calm_replaced p.below s given.state from (value_ints (values.I64 p.answer)) given.replaced p.calm

  comes : At m cs a led
  comes = record {
    cut = p.cut;
    is_cut = p.is_cut;
    visit = p.visit;
    stands = p.stands;
    place = p.place;
    named = ap (λ i. Some (id_tree (body_piece n i))) (sym p.is_piece.is_index);
    frame = subst (λ (xs : List Value). Frame size a.locals xs led.places) (sym p.parts)
        (frame_same size a.locals os (set_places s.places from (value_ints (values.I64 p.answer))) led.places given.replaced.places (frame_push size a.locals (values.I64 p.answer) p.others s.places p.frame room));
    below = p.below;
    waiting = p.waiting;
    calm = record { trap = calm.trap; state = calm.state; ending = calm.ending; standing = calm.standing; below = calm.below };
  }

  answers : Enters (join (end_items p.op from) (acts_then (next_acts (body_piece n first)) no_more)) s (At m cs a)
  answers =
      let passes : Passes (end_items p.op from) s given.state = record { ready = given.ready; used = given.used; ends = given.ends; keeps = keeps_replaced s given.state from (value_ints (values.I64 p.answer)) given.replaced } in
      join_passes (At m cs a) (end_items p.op from) (acts_then (next_acts (body_piece n first)) no_more) s given.state passes
      (acts_enter (At m cs a) (next_acts (body_piece n first)) no_more given.state (tt, tt) keeps (end_enters (At m cs a) led comes))

  pub answer_enters : Enters (answer_in n first p.piece.cut p.op (function_body m n)) s (At m cs a)
  answer_enters =
      subst (λ (o : Option Body). Enters (answer_in n first p.piece.cut p.op o) s (At m cs a)) (sym t.body)
      (subst (λ (j : ℕ). Enters (join (end_items p.op j) (acts_then (next_acts (body_piece n first)) no_more)) s (At m cs a)) (sym under) answers)

-- ---- both

-- with fewer turns left, or at the cut, the state has a higher rank
module _ (m : Module) (st : Store) (cs : List Activation) (a : Activation) (s : State) (p : Dividing m cs a s) (stored : Stored m st s) where
  pub turns_simulate : (k : ℕ) → p.left ≡ suc k → (xs : Items) → Enters xs s (λ t. (x : Dividing m cs a t) × (x.left ≡ k)) → Simulates m (most_left - p.left) st cs a xs s
  turns_simulate k left xs e =
      let x : Dividing m cs a _ = e.there.0 in
      let same : x.left ≡ k = e.there.1 in
      let few : p.left ≤ 8 = p.few in
      let paid : 8 - p.left < 16 * 0 + (8 - x.left) = omega arith in
      record {
        ready = e.ready;
        arrives = stands.to_standing 0 st cs a (leads_nowhere m (at st cs a)) (stands.dividing x) (stored_kept m st s _ e.keeps stored) paid;
        spares = keeps_spares s _ e.keeps;
      }

  pub answer_simulates : (xs : Items) → Enters xs s (At m cs a) → Simulates m (most_left - p.left) st cs a xs s
  answer_simulates xs e =
      let paid : 8 - p.left < 16 * 0 + (8 + suc (rank e.there.visit)) = omega arith in
      record {
        ready = e.ready;
        arrives = stands.to_standing 0 st cs a (leads_nowhere m (at st cs a)) (stands.at_cut e.there) (stored_kept m st s _ e.keeps stored) paid;
        spares = keeps_spares s _ e.keeps;
      }
