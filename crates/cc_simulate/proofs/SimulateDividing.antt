-- What a division of i64 makes of a state that stands for an activation: its trap; or the machine has made its step, and the
-- piece is next that makes turns, or puts the answer to its places.
use Rattle.std.proofs.Common.{◌≡◌, ℕ, suc, ◌+◌, ◌-◌, ◌*◌, ◌≤◌, List, [], ◌∷◌, ◌++◌, length, take, drop, reverse, true, Option, Some, refl, sym, ap, ◌∙◌, subst, arith, ℤ}
use Rattle.std.specs.Int.{w64, cast_signed, cast_unsigned}
use Rattle.std.specs.List.{Contains}
use Rattle.mc_nbt.specs.Word.{is_long}
use Rattle.mc_nbt.specs.declared.value.Kind.TheVariants as kinds
use Rattle.mc_nbt.specs.declared.value.Value.{Value}
use Rattle.mc_nbt.specs.declared.value.Value.TheVariants as values
use Rattle.wm_ast.specs.declared.answer.Answer.{Answer}
use Rattle.wm_ast.specs.declared.answer.Answer.TheVariants as answers
use Rattle.wm_ast.specs.declared.answer.TrapKind.{TrapKind}
use Rattle.wm_ast.specs.declared.answer.TrapKind.TheVariants.{DivideByZero, Overflow}
use Rattle.wm_ast.specs.declared.module.ValType.{ValType}
use Rattle.wm_ast.specs.declared.module.ValType.TheVariants.{I64}
use Rattle.wm_ast.specs.declared.operation.NumOp.{NumOp}
use Rattle.wm_ast.specs.declared.operator.BinaryOp.{BinaryOp}
use Rattle.wm_ast.specs.declared.operator.Operator.{Operator}
use Rattle.wm_ast.specs.Apply.{binary_op, outcome, operate, apply}
use Rattle.wm_ast.specs.Code.{num, Code, cons}
use Rattle.wm_ast.specs.Integer.{Outcome, number, divides_by_zero, overflows}
use Rattle.wm_ast.specs.Operation.{operator_type}
use Rattle.wm_ast.specs.Operator.{operator_of}
use Rattle.wm_ast.specs.Simple.{answered}
use Rattle.wm_ast.specs.Types.{const_type}
use Rattle.wm_valid.specs.Arrows.{◌>>=◌, Change, changes, changed, by_arrow, change}
use Rattle.wm_flat.specs.Flat.{Activation, running, past, does, move}
use Rattle.wm_flat.specs.FlatTyping.{types_of, Are}
use Rattle.wm_flat.specs.Operands.{under, operands}
use Rattle.wm_valid.specs.InRange.{IsInRange}
use Rattle.wm_flat.proofs.Consequences.{leads_nowhere}
use Rattle.wm_flat.proofs.ValueLaws.{First, first_of_all}
use Rattle.wm_place.specs.Kinds.{Body}
use Rattle.wm_place.specs.Visit.{Visit}
use Rattle.cc_line.specs.Key.{id_tree}
use Rattle.cc_line.specs.Routine.{Traps, AreAt, trap_number, value_ints}
use Rattle.cc_line.specs.State.{State, with_tree}
use Rattle.cc_line.specs.Step.{run_act, set_site, Flow}
use Rattle.cc_line.specs.Item.{Items, steps_items}
use Rattle.cc_call.specs.Frames.{next_site}
use Rattle.cc_cut.specs.Cuts.{function_cuts}
use Rattle.cc_cut.specs.Piece.{function_pieces, index_of}
use Rattle.cc_cut.specs.Way.{way, path_behind}
use Rattle.cc_cut.proofs.CutLemmas.{all_visits}
use Rattle.cc_cut.proofs.IndexLemmas.{Named, index_tells}
use Rattle.cc_cut.proofs.ListLemmas.{In, in_get}
use Rattle.cc_move.specs.Law.{at}
use Rattle.cc_move.specs.Standing.{Comes}
use Rattle.cc_div64.specs.Division.{begin_items}
use Rattle.cc_div64.specs.Law.{Divides, Begins}
use Rattle.cc_pieces.specs.Restoring.{restore_by}
use Rattle.cc_pieces.specs.Dividing.{turning_piece, answering_piece, dividing_piece, none_left_step, divided_items, most_left}
use Rattle.cc_pieces.specs.Fetching.{fetch_from}
use Rattle.cc_body.specs.Behind.{division_of, op_division, division_before}
use Rattle.cc_body.specs.Layout.{top_place, frame_size}
use Rattle.cc_simulate.specs.Callers.{IsPieceOf, Waiting}
use Rattle.cc_simulate.specs.Frame.{Frame}
use Rattle.cc_simulate.specs.Stands.{RunsOver, ChangesStoreAlone, Dividing}
use Rattle.cc_simulate.specs.Stands as stands
use Rattle.cc_simulate.specs.Uses.{uses_bytes}
use Rattle.cc_simulate.proofs.Acts.{keeps_replaced, calm_replaced, keeps_tree, Passes}
use Rattle.cc_simulate.proofs.Divisions.{IsDivision, is_division, division_ends, frame_are_at, GoesOn, goes_on}
use Rattle.cc_simulate.proofs.Doing.{Fails, traps_fail, fails_enters}
use Rattle.cc_simulate.proofs.Frames.{top_of, frame_same, frame_drop}
use Rattle.cc_simulate.proofs.Globals.{stored_kept}
use Rattle.cc_simulate.proofs.NumbersWork.{NumbersWork}
use Rattle.cc_simulate.proofs.Proceeding.{Proceeds, passes_proceed, acts_proceed, keeps_spares}
use Rattle.cc_simulate.proofs.SimulateKnown.{Ruled, ruled, are_taken, parted, top_parted}
use Rattle.cc_simulate.proofs.SimulateReach.{reaches_trap, attains_standing, stays, moved_to, move_is, Setting, S, L, size, all, Reach, Attain, body_is, Seen, seen, Here}
use Rattle.cc_simulate.proofs.Ways.{cut_listed, CutAt, cut_at, Next, behind_index}

-- ---- the operands

-- two numbers of 64 bits, the second one of which is the last operand
record TwoLongs (vs : List Value) : Type 0 where
  first : ℤ
  second : ℤ
  others : List Value
  parts : vs ≡ values.I64 second ∷ (values.I64 first ∷ others)
  first_range : is_long first ≡ true
  second_range : is_long second ≡ true

is_i64 : (v : Value) → const_type v ≡ I64 → (z : ℤ) × (v ≡ values.I64 z)
is_i64 (values.I64 z) e = (z, refl)
is_i64 (values.I32 z) e = absurd cc

two_longs : (below : List ValType) (vs : List Value) → Are (I64 ∷ (I64 ∷ below)) vs → TwoLongs vs
two_longs below vs k =
    let f : First I64 (I64 ∷ below) vs = first_of_all I64 (I64 ∷ below) vs k in
    let g : First I64 below f.others = first_of_all I64 below f.others f.rest in
    let y = is_i64 f.value f.is.type in
    let x = is_i64 g.value g.is.type in
    record {
      first = x.0;
      second = y.0;
      others = g.others;
      parts = f.parts ∙ (ap (λ (v : Value). v ∷ f.others) y.1 ∙ (ap (λ (l : List Value). values.I64 y.0 ∷ l) g.parts ∙ ap (λ (v : Value). values.I64 y.0 ∷ (v ∷ g.others)) x.1));
      first_range = subst IsInRange x.1 g.is.range;
      second_range = subst IsInRange y.1 f.is.range;
    }

module _ (c : Setting) (v : Visit) (d : ℕ) (low : d ≤ 16) (a : Activation) (s : State) (h : Here c v a s) (works : NumbersWork) (op : NumOp) (is : Code) (e : a.code ≡ cons (num op) is) (o : BinaryOp) (divided : division_of (operator_of op) ≡ Some o) where
  sees : Seen c v a
  sees = seen c v a h.stands h.func

  its : IsDivision (operator_of op) o
  its = is_division (operator_of op) o divided

  -- ---- the operands

  longs : TwoLongs a.values
  longs =
      let r : Ruled c.m a (num op) = ruled h (num op) is e in
      two_longs r.below a.values (are_taken h (num op) r (I64 ∷ (I64 ∷ [])) (r.rule.0 ∙ ap (λ (q : Operator). (operator_type q).takes) its.shape))

  abbrev x : ℤ
  x = longs.first

  abbrev y : ℤ
  y = longs.second

  abbrev us : List Value
  us = values.I64 y ∷ (values.I64 x ∷ [])

  abbrev os : List Value
  os = longs.others ++ under a.levels

  framed : Frame (size c) a.locals (us ++ os) s.places
  framed = parted h (values.I64 y ∷ (values.I64 x ∷ longs.others)) (us ++ os) longs.parts refl

  abbrev place : ℕ
  place = top_place (L c) v - 4

  place_is : place ≡ top_of a.locals os
  place_is = let top : top_place (L c) v ≡ top_of a.locals (us ++ os) = top_parted h (values.I64 y ∷ (values.I64 x ∷ longs.others)) (us ++ os) longs.parts refl in omega arith

  there : AreAt s place (value_ints (values.I64 x) ++ value_ints (values.I64 y))
  there = subst (λ (j : ℕ). AreAt s j (value_ints (values.I64 x) ++ value_ints (values.I64 y))) (sym place_is) (frame_are_at (size c) a.locals us os s framed)

  -- ---- the machine's step

  moves : (w : Answer) → apply op (values.I64 x ∷ (values.I64 y ∷ [])) ≡ Some w → move c.m c.st (running c.cs a) ≡ does c.m c.st c.cs a (num op) is (answered c.m c.st a.locals longs.others (Some w))
  moves w q =
      move_is c.m c.st c.cs a (num op) is (values.I64 y ∷ (values.I64 x ∷ longs.others)) e longs.parts
      ∙ (ap
      (λ (k : ℕ).
      does c.m c.st c.cs a (num op) is
      (answered c.m c.st a.locals (drop k (values.I64 y ∷ (values.I64 x ∷ longs.others))) (apply op (reverse (take k (values.I64 y ∷ (values.I64 x ∷ longs.others)))))))
      (ap (λ (r : Operator). length (operator_type r).takes) its.shape)
      ∙ ap (λ (r : Option Answer). does c.m c.st c.cs a (num op) is (answered c.m c.st a.locals longs.others r)) q)

  -- the activation behind the instruction, with this answer
  abbrev b : ℤ → Activation
  b z = past a (num op) is a.locals (values.I64 z ∷ longs.others)

  abbrev its_change : Change
  its_change = changes 2 (I64 ∷ [])

  comes : (z : ℤ) → Comes c.m (b z) (way (path_behind v.path) (changed its_change (types_of (operands a))))
  comes z =
      let long : length a.values ≡ suc (suc (length longs.others)) = ap length longs.parts in
      let few : 2 ≤ length a.values = omega arith in
      let takes : change (num op) (S c) ≡ Some its_change = ap (λ (q : Operator). Some (by_arrow (operator_type q))) its.shape in
      c.moves.onward c.m a v h.stands (num op) is its_change a.locals (values.I64 z ∷ longs.others) e (ap (λ (o : Body). change (num op) o.scope) (body_is c a v h.stands h.func) ∙ takes) few
      (ap (λ (l : List Value). I64 ∷ drop 2 (types_of l)) (sym longs.parts)) refl

  -- ---- the cut behind

  next : Next c.m c.n c.f c.t v (num op)
  next = behind_index c.m c.n c.f c.t v sees.listed (num op) is (sees.rest ∙ e) (division_ends (operator_of op) o divided)

  behind : CutAt c.m c.n next.index (path_behind v.path)
  behind = cut_at c.m c.n c.f c.t next.index (path_behind v.path) next.found

  piece : Named (function_pieces c.m c.n) 1 (path_behind v.path) next.index
  piece = index_tells (function_pieces c.m c.n) 1 (path_behind v.path) next.index next.found

  its_piece : IsPieceOf c.m c.n behind.cut piece.piece
  its_piece =
      let i : next.index ≡ 1 + piece.at = piece.is in
      let j : suc piece.at ≡ next.index = omega arith in
      record { position = piece.at; is_index = behind.index ∙ sym j; is_piece = piece.there }

  listed : In piece.piece.cut (all_visits c.m c.n c.f c.t)
  listed = cut_listed c.m c.n c.f c.t piece.piece (in_get (function_pieces c.m c.n) piece.at piece.piece piece.there)

  behind_division : division_before piece.piece.cut ≡ Some o
  behind_division = ap (λ r. r >>= op_division) (next.before piece.piece.cut listed piece.same) ∙ divided

  -- ---- the items

  abbrev after : Option ℕ → Items
  after r = steps_items (run_act (set_site next_site (id_tree (fetch_from c.n r))) ∷ (none_left_step (restore_by c.n r) ∷ []))

  abbrev begins : Items
  begins = begin_items o place

  -- by its trap
  traps : (k : TrapKind) → apply op (values.I64 x ∷ (values.I64 y ∷ [])) ≡ Some (answers.Trap k) → Traps begins s (trap_number k)
      → Proceeds (divided_items o (top_place (L c) v) c.n (index_of (all c) (path_behind v.path))) s (Attain c d a)
  traps k q g =
      let w : Fails k begins s = traps_fail c.bs k begins s h.calm g in
      stays c.m c.st c.cs d a (divided_items o (top_place (L c) v) c.n (index_of (all c) (path_behind v.path))) s h.stored
      (fails_enters (Reach c d a) k begins (after (index_of (all c) (path_behind v.path))) s w
      (reaches_trap 0 0 c.cs a k (leads_nowhere c.m (at c.st c.cs a)) (moves (answers.Trap k) q) w.recorded w.running))

  -- by the division that goes on
  module _ (z : ℤ) (q : apply op (values.I64 x ∷ (values.I64 y ∷ [])) ≡ Some (answers.Value (values.I64 z))) (left : ℕ) (g : Divides begins s o z left) where
    begun : Passes begins s g.state
    begun = record { ready = g.ready; used = g.used; ends = g.ends; keeps = keeps_replaced s g.state 0 [] g.replaced }

    -- turns are next, or the answer
    abbrev named : State
    named = with_tree g.state next_site (Some (id_tree (turning_piece c.n next.index)))

    on : GoesOn c.n next.index left named
    on = goes_on c.n next.index left named g.dividing.told refl

    calm : RunsOver (uses_bytes c.m) c.bs named
    calm = let k : RunsOver (uses_bytes c.m) c.bs g.state = calm_replaced c.bs s g.state 0 [] g.replaced h.calm in record { trap = k.trap; state = k.state; ending = k.ending; standing = k.standing; below = k.below }

    frame : Frame (size c) a.locals os on.state.places
    frame = frame_same (size c) a.locals os s.places on.state.places (on.places ∙ g.replaced.places) (frame_drop (size c) a.locals us os s.places framed)

    abbrev dividing : Dividing c.m c.cs (b z) on.state
    dividing = record {
      cut = behind.cut;
      is_cut = subst (λ (i : ℕ). Contains (function_cuts c.m i) behind.cut) (sym h.func) behind.is_cut;
      piece = piece.piece;
      is_piece = subst (λ (i : ℕ). IsPieceOf c.m i behind.cut piece.piece) (sym h.func) its_piece;
      op = o;
      behind = behind_division;
      visit = (comes z).visit;
      stands = (comes z).stands;
      place = (comes z).path ∙ sym behind.place;
      answer = z;
      others = os;
      parts = refl;
      left = left;
      few = g.dividing.few;
      division = works.divisions.stay o z left g.state on.state (λ t w. ap (λ k. k t) on.scores) g.dividing;
      named = on.named ∙ (ap (λ (i : ℕ). Some (id_tree (dividing_piece c.n i left))) (sym behind.index) ∙ ap (λ (i : ℕ). Some (id_tree (dividing_piece i behind.cut.index left))) (sym h.func));
      frame = subst (λ (i : ℕ). Frame (frame_size c.m i) a.locals os on.state.places) (sym h.func) frame;
      below = c.bs;
      waiting = subst (λ (i : ℕ). Waiting c.m i c.cs c.bs) (sym h.func) c.waiting;
      calm = on.calm c.bs calm;
    }

    attained : Attain c d a on.state
    attained =
        attains_standing 1 c.st c.cs (b z) (moved_to c.m c.st c.cs c.st 1 a (b z) (moves (answers.Value (values.I64 z)) q)) (stands.dividing dividing)
        (stored_kept c.m c.st named on.state on.passes.keeps
        (stored_kept c.m c.st g.state named (keeps_tree g.state next_site (Some (id_tree (turning_piece c.n next.index))) refl) (stored_kept c.m c.st s g.state begun.keeps h.stored)))
        (paid (most_left - left))
      where
        paid : (k : ℕ) → d ≤ 16 * 1 + k
        paid k = let x : d ≤ 16 * 1 + k = omega arith in x

    leads : Proceeds (divided_items o (top_place (L c) v) c.n (index_of (all c) (path_behind v.path))) s (Attain c d a)
    leads =
        passes_proceed (Attain c d a) begins (after (index_of (all c) (path_behind v.path))) s g.state begun
        (subst (λ (r : Option ℕ). Proceeds (after r) g.state (Attain c d a)) (sym next.found)
        (acts_proceed (Attain c d a) (set_site next_site (id_tree (turning_piece c.n next.index)) ∷ []) (steps_items (none_left_step (answering_piece c.n next.index) ∷ [])) g.state (tt, tt)
        (keeps_spares g.state named (keeps_tree g.state next_site (Some (id_tree (turning_piece c.n next.index))) refl))
        (record {
          ready = on.passes.ready;
          there = subst (Attain c d a) (sym (ap (λ (q : Flow). q.state) on.passes.ends)) attained;
          spares = subst (λ t. ChangesStoreAlone named t) (sym (ap (λ (q : Flow). q.state) on.passes.ends)) (keeps_spares named on.state on.passes.keeps);
        })))

  pub divide_on : Proceeds (divided_items o (top_place (L c) v) c.n (index_of (all c) (path_behind v.path))) s (Attain c d a)
  divide_on = by_outcome (binary_op o w64 (cast_unsigned w64 x) (cast_unsigned w64 y)) (ap (λ (r : Operator). operate r (values.I64 x ∷ (values.I64 y ∷ []))) its.shape)
    where
      begin : (w : Answer) → apply op (values.I64 x ∷ (values.I64 y ∷ [])) ≡ Some w → Begins o place s w
      begin w q = works.divisions.begin op o its.shape its.divides place s x y w longs.first_range longs.second_range there q

      by_outcome : (r : Outcome) → apply op (values.I64 x ∷ (values.I64 y ∷ [])) ≡ Some (outcome kinds.I64 r) → Proceeds (divided_items o (top_place (L c) v) c.n (index_of (all c) (path_behind v.path))) s (Attain c d a)
      by_outcome (number i) q = let k = begin (answers.Value (values.I64 (cast_signed w64 i))) q in leads (cast_signed w64 i) q k.0 k.1
      by_outcome divides_by_zero q = traps DivideByZero q (begin (answers.Trap DivideByZero) q)
      by_outcome overflows q = traps Overflow q (begin (answers.Trap Overflow) q)
