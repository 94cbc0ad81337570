-- A value that is on its way comes to its place, and the cut to which the branch leads is next.
use Rattle.std.proofs.Common.{◌≡◌, ℕ, ◌≤◌, List, [], ◌∷◌, ◌++◌, length, Option, Some, option_and_then, refl, sym, ap, ◌∙◌, subst, arith, ℤ}
use Rattle.std.specs.Prelude.{slice_get}
use Rattle.mc_nbt.specs.Tree.{Tree, select}
use Rattle.mc_nbt.specs.declared.value.Value.{Value}
use Rattle.wm_ast.specs.declared.module.Func.{Func}
use Rattle.wm_ast.specs.declared.module.Module.{Module}
use Rattle.wm_ast.specs.declared.module.ValType.{ValType}
use Rattle.wm_ast.specs.Store.{Store}
use Rattle.wm_ast.specs.Types.{const_type}
use Rattle.wm_flat.specs.Flat.{Activation}
use Rattle.wm_flat.specs.Operands.{operands}
use Rattle.wm_flat.specs.Program.{IsProgram}
use Rattle.wm_place.specs.Kinds.{body_of}
use Rattle.wm_place.proofs.KindLemmas.{Typed}
use Rattle.cc_line.specs.Sight.{in_rest}
use Rattle.cc_line.specs.Key.{key_next, key_follows, body_piece, id_tree}
use Rattle.cc_line.specs.Routine.{value_ints}
use Rattle.cc_line.specs.State.{State, at_key, set_places, with_tree, with_copy}
use Rattle.cc_line.specs.Step.{Act, copy_site}
use Rattle.cc_call.specs.Frames.{take_acts}
use Rattle.cc_call.specs.Law.{CallsWork}
use Rattle.cc_call.proofs.ActLemmas.{with_places, acts_append, ready_append}
use Rattle.cc_cut.specs.Law.{width}
use Rattle.cc_move.specs.Law.{MovesFollow}
use Rattle.cc_pieces.specs.Placing.{placer_items}
use Rattle.cc_body.specs.Layout.{frame_size}
use Rattle.cc_simulate.specs.Frame.{Frame}
use Rattle.cc_simulate.specs.Stands.{ChangesFrameAlone, At, Placing}
use Rattle.cc_simulate.specs.Law.{Enters}
use Rattle.cc_simulate.proofs.Acts.{keeps_both, keeps_places, keeps_tree, after_acts, ActsReady, acts_end}
use Rattle.cc_simulate.proofs.Frames.{value_length, top_of, held_length, frame_push}
use Rattle.cc_simulate.proofs.HandedLemmas.{taken_are, taken_ready}
use Rattle.cc_simulate.proofs.SimulateReach.{Setting, Seen, seen}
use Rattle.cc_simulate.proofs.Ways.{cuts_have_pieces, Begins, begins}

module _ (moves : MovesFollow) (works : CallsWork) (m : Module) (program : IsProgram m) (results : List ValType) (st : Store) (cs : List Activation) (a : Activation) (s : State) (p : Placing m cs a s)
    (f : Func) (there : slice_get m.funcs a.func ≡ Some f) (t : Typed m a.func f) where
  abbrev size : ℕ
  size = frame_size m a.func

  abbrev zs : List ℤ
  zs = value_ints p.value

  abbrev last : List Act
  last = copy_site (at_key in_rest key_next) (at_key in_rest key_follows) ∷ []

  abbrev acts : List Act
  acts = take_acts (length zs) p.spot 0 ++ last

  -- the value is in its places, and then the cut is next
  abbrev put : State
  put = with_places s (set_places s.places p.spot zs)

  abbrev there_state : State
  there_state = with_tree put (at_key in_rest key_next) (Some (id_tree (body_piece a.func p.cut.index)))

  leads : after_acts acts s ≡ there_state
  leads =
      acts_append (take_acts (length zs) p.spot 0) last s
      ∙ (ap (λ u. after_acts last u) (taken_are zs p.spot 0 s p.handed) ∙ ap (λ (o : Option Tree). with_copy put (at_key in_rest key_next) (option_and_then (λ u. select u []) o)) p.follows)

  -- all operands have room
  room : top_of a.locals (p.value ∷ p.others) ≤ size
  room =
      let (q, is_piece) = cuts_have_pieces m a.func p.cut p.is_cut in
      let begun : Begins m a.func (body_of m f t.type) p.cut q = begins m a.func (body_of m f t.type) t.body p.cut p.is_cut q is_piece in
      let c : Setting = record {
        moves = moves;
        works = works;
        m = m;
        program = program;
        results = results;
        st = st;
        cs = cs;
        bs = p.below;
        n = a.func;
        waiting = p.waiting;
        f = f;
        there = there;
        t = t;
        q = q;
        is_piece = begun.piece;
      } in
      let sees : Seen c p.visit a = seen c p.visit a p.stands refl in
      subst (λ (os : List Value). top_of a.locals os ≤ size) p.parts sees.room

  spot_is : p.spot ≡ top_of a.locals p.others
  spot_is = p.is_next ∙ held_length a.locals p.others

  framed : Frame size a.locals (operands a) there_state.places
  framed =
      let pushed : Frame size a.locals (p.value ∷ p.others) (set_places s.places (top_of a.locals p.others) zs) = frame_push size a.locals p.value p.others s.places p.frame room in
      subst (λ (os : List Value). Frame size a.locals os there_state.places) (sym p.parts)
      (subst (λ (i : ℕ). Frame size a.locals (p.value ∷ p.others) (set_places s.places i zs)) (sym spot_is) pushed)

  comes : At m cs a there_state
  comes = record {
    cut = p.cut;
    is_cut = p.is_cut;
    visit = p.visit;
    stands = p.stands;
    place = p.place;
    named = refl;
    frame = framed;
    below = p.below;
    waiting = p.waiting;
    calm = record { trap = p.calm.trap; state = p.calm.state; ending = p.calm.ending; standing = p.calm.standing; below = p.calm.below };
  }

  keeps : ChangesFrameAlone s there_state
  keeps = keeps_both s put there_state (keeps_places s put refl refl) (keeps_tree put (at_key in_rest key_next) (Some (id_tree (body_piece a.func p.cut.index))) refl)

  ready : ActsReady acts s
  ready =
      let sized : length s.places ≡ size = p.frame.sized in
      let wide : length zs ≡ width (const_type p.value) = value_length p.value in
      let at : p.spot ≡ top_of a.locals p.others = spot_is in
      let top : top_of a.locals (p.value ∷ p.others) ≤ size = room in
      ready_append (take_acts (length zs) p.spot 0) last s (taken_ready zs p.spot 0 s p.handed (omega arith)) (tt, tt)

  pub placed : Enters (placer_items (length (value_ints p.value)) p.spot) s (At m cs a)
  placed = acts_end (At m cs a) acts s (record { ready = ready; there = subst (At m cs a) (sym leads) comes; keeps = subst (ChangesFrameAlone s) (sym leads) keeps })
