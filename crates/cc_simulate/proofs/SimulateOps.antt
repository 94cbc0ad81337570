-- The items of a place do what the machine does there, one lemma for each instruction.
use Rattle.std.proofs.Common.{◌≡◌, ℕ, suc, ◌+◌, ◌*◌, ◌-◌, ◌≤◌, ◌<◌, inl, List, [], ◌∷◌, ◌++◌, length, take, drop, reverse, Bool, true, false, cond, ltb, if◌then◌else◌, Option, Some, None, option_map, refl, sym, ap, ◌∙◌, subst, arith, append_assoc, ℤ, pos, codes, nat_le}
use Rattle.std.specs.Prelude.{option_to_list, slice_get, slice_set}
use Rattle.std.proofs.lemmas.Bool.{leb-true, leb-false}
use Rattle.std.proofs.lemmas.List.{length-map, take-append-drop, take-append-le}
use Rattle.std.proofs.lemmas.List.Elements.{All-take}
use Rattle.std.proofs.Math.Seq.{drop-append_seam, take-length}
use Rattle.mc_nbt.specs.declared.value.Value.{Value}
use Rattle.mc_nbt.specs.declared.value.Value.TheVariants as values
use Rattle.wm_ast.specs.declared.answer.Answer.{Answer}
use Rattle.wm_ast.specs.declared.answer.Answer.TheVariants as answers
use Rattle.wm_ast.specs.declared.answer.TrapKind.TheVariants.{Unreachable, OutOfBounds}
use Rattle.wm_ast.specs.declared.module.ValType.{ValType}
use Rattle.wm_ast.specs.declared.module.ValType.TheVariants.{I32}
use Rattle.wm_ast.specs.declared.operation.NumOp.{NumOp}
use Rattle.wm_ast.specs.Apply.{apply}
use Rattle.wm_ast.specs.Code.{Op, unreachable, nop, block, loop, if_else, br, br_if, br_table, return, drop_one, select, local_get, local_set, local_tee, global_get, global_set, load, store, memory_size, memory_grow, memory_copy, memory_fill, const, num, call, call_indirect, float, mul64, Code, nil, cons}
use Rattle.wm_ast.specs.declared.operator.BinaryOp.{BinaryOp}
use Rattle.wm_ast.specs.Operation.{num_type}
use Rattle.wm_ast.specs.Operator.{operator_of}
use Rattle.wm_ast.specs.Simple.{Executed, done, unfit, if_nonzero, unsigned, answered, got}
use Rattle.wm_ast.specs.Step.{chosen}
use Rattle.wm_ast.specs.Store.{Store, page_count}
use Rattle.wm_ast.specs.Types.{const_type, run_types}
use Rattle.wm_valid.specs.Arrows.{◌>>=◌, arrow, Change, changes, changed, by_arrow, change}
use Rattle.wm_flat.specs.Flat.{Activation, running, goes, past, inner, handed, handed_some, jump, does, move}
use Rattle.wm_flat.specs.FlatTyping.{types_of, Are}
use Rattle.wm_flat.specs.Operands.{under, operands}
use Rattle.wm_valid.specs.InRange.{IsInRange}
use Rattle.wm_flat.specs.Runs.{Leads}
use Rattle.wm_flat.proofs.Consequences.{leads_nowhere}
use Rattle.wm_flat.proofs.Operands.{top_taken}
use Rattle.wm_flat.proofs.SimpleTyping.{IsExecuted, simple_typed}
use Rattle.wm_flat.proofs.ValueLaws.{Is, at_position, set_position, First, first_of_all, FirstI32, first_i32, one_of, take_are}
use Rattle.wm_place.specs.Kinds.{Body}
use Rattle.wm_place.specs.Visit.{Around, Visit}
use Rattle.cc_line.specs.Place.{scratch}
use Rattle.cc_line.specs.Core.{fetch}
use Rattle.cc_line.specs.Key.{score_trap}
use Rattle.cc_line.specs.Routine.{value_ints, answer_places}
use Rattle.cc_line.specs.State.{State}
use Rattle.cc_line.specs.Step.{set_spot, Cond, conds_hold}
use Rattle.cc_line.specs.Item.{Items, no_more}
use Rattle.cc_cut.specs.Cost.{most_tested}
use Rattle.cc_cut.specs.Way as cuts
use Rattle.cc_cut.specs.Way.{Way, way, path_behind, block_path, labelled, left_by, op_ways, code_ways, ways}
use Rattle.cc_cut.specs.Law.{IsConstantAt, width, widths}
use Rattle.cc_cut.proofs.ListLemmas.{In, in_right}
use Rattle.cc_move.specs.Standing.{Comes}
use Rattle.cc_move.specs.Law.{at, by_br, by_br_if, by_br_table, behind_block, out_of_body}
use Rattle.cc_move.specs.Law as move_law
use Rattle.cc_call.specs.Frames.{return_acts}
use Rattle.cc_table.specs.Law.{NumbersAreFound, TargetsAreFound}
use Rattle.cc_mem.specs.Size.{size_items}
use Rattle.cc_body.specs.Emit.{exit_then, is_zero, not_zero, num_by, number_items, places_of, carry_acts, global_get_acts, global_set_acts, constant_acts, goto_acts, acts_to, cut_acts, leads_to, branch_acts, table_items, looked_items, onward, steps_then, op_items, leave_by, code_items, places_items}
use Rattle.cc_body.specs.Behind.{division_of}
use Rattle.cc_body.specs.KnownConstants.{Knowns, known_last, known_next, fewer_known, set_known, knowns_behind, knowns_at}
use Rattle.cc_body.specs.Layout.{local_place, top_place}
use Rattle.cc_simulate.specs.Frame.{Frame}
use Rattle.cc_simulate.specs.Stands.{RunsOver, ChangesFrameAlone}
use Rattle.cc_simulate.specs.Stored.{Stored}
use Rattle.cc_simulate.specs.Law.{Enters}
use Rattle.cc_simulate.specs.Uses.{uses_bytes}
use Rattle.cc_simulate.proofs.Acts.{acts_then, QuietBelow, acts_end, fetch_enters, Tests, zero_holds, zero_fails, not_zero_holds, not_zero_fails, ZeroCase, zero_is, zero_isnt, zero_case}
use Rattle.cc_simulate.proofs.Doing.{Makes, Answers, fails_enters, nothing_does, constant_does, local_get_does, local_set_does, local_tee_does, select_does, num_by_does, unreachable_does, table_enters}
use Rattle.cc_simulate.proofs.Frames.{value_length, top_of, one_below, frame_top, frame_drop}
use Rattle.cc_simulate.proofs.Globals.{stored_kept}
use Rattle.cc_simulate.proofs.Knowns.{AreKnown, LocalsKnown, value_known, one_more, left_known, local_known, set_is_known}
use Rattle.cc_simulate.proofs.Proceeding.{Proceeds, proceeds_as, crosses_proceed, breaks_proceed, passes_proceed, fetch_proceeds}
use Rattle.cc_simulate.proofs.SimulateReach.{reaches_trap, attains_trap, reaches_after, attains_after, stays, moved_to, moved_once, move_is, typed_after, acts_as, top_enough, Setting, S, L, R, size, all, Reach, Attain, body_is, Seen, seen, Here, Arrived, GoOn, pays_none, goto_on, lead_on, return_on, branch_on}
use Rattle.cc_simulate.proofs.SimulateCalls.{call_on}
use Rattle.cc_simulate.proofs.SimulateLooks.{chosen_among, look_on}
use Rattle.cc_simulate.proofs.SimulateIndirect.{indirect_on}
use Rattle.cc_simulate.proofs.Uses.{meets_bytes}
use Rattle.cc_simulate.proofs.Ways.{Rest, rest_on, rest_constant, risen, arm_index}
use Rattle.cc_simulate.proofs.SimulateKnown.{Ruled, Loaded, first_long, enough, ruled, are_taken, own_locals, parted, top_parted, loaded}
use Rattle.cc_simulate.proofs.SimulateGlobals.{places_at, Got, Put, global_got, global_put_on}
use Rattle.cc_simulate.proofs.SimulateDividing.{divide_on}
use Rattle.cc_simulate.proofs.NumbersWork.{NumbersWork}
use Rattle.cc_simulate.proofs.SimulateGrowing.{grow_on}
use Rattle.cc_simulate.proofs.SimulateRepeats.{fill_on, copy_on}
use Rattle.cc_simulate.proofs.SteadyTests.{Steady, test_steady, way_taken, way_passed}
use Rattle.cc_simulate.proofs.SimulateMemory.{MemoryWorks, Accessed, Access, goes_on, traps, size_first, size_retyped, size_on, loads_on, stores_on}

-- a test of the last operand in a state whose frame has the others
pub record ByTest (c : Setting) (v : Visit) (a : Activation) (others : List Value) (cs : List Cond) (u : State) : Type 0 where
  pub reach : ℕ
  pub steady : Steady (top_place (L c) v - 1) reach cs
  pub within : reach ≤ length u.places
  pub frame : Frame (size c) a.locals (others ++ under a.levels) u.places
  pub calm : RunsOver (uses_bytes c.m) c.bs u
  pub stored : Stored c.m c.st u

-- where it is loaded
by_loaded : (c : Setting) (v : Visit) (a : Activation) (s : State) (z : ℤ) (others : List Value) (l : Loaded c v a s z others) (cs : List Cond) → Tests (top_place (L c) v - 1) cs → ByTest c v a others cs l.state
by_loaded c v a s z others l cs t = record {
  reach = suc (top_place (L c) v - 1);
  steady = test_steady (top_place (L c) v - 1) cs t;
  within = let w : top_place (L c) v - 1 < length l.state.places = l.is_tested.within in let x : suc (top_place (L c) v - 1) ≤ length l.state.places = omega arith in x;
  frame = l.frame;
  calm = l.calm;
  stored = l.stored;
}

-- an activation stands at the first of these places of the piece
module _ (c : Setting) (numbers : NumbersAreFound) (targets : TargetsAreFound) (works : MemoryWorks) (sums : NumbersWork) (ks : Knowns) (v : Visit) (vs : List Visit) (d : ℕ) (rest : Rest c.m c.n c.f c.t c.q d (v ∷ vs)) (a : Activation) (s : State) (h : Here c v a s) (are_known : AreKnown ks a.locals (operands a))
    (go : (now : Store) (i : ℕ) → Rest c.m c.n c.f c.t c.q i vs → GoOn (record c { st = now }) i (knowns_at ks v.rest) None vs) where
  abbrev P : State → Type 0
  P = Attain c d a

  -- where the store stays
  abbrev Q : State → Type 0
  Q = Reach c d a

  still : (xs : Items) → Enters xs s Q → Proceeds xs s P
  still xs e = stays c.m c.st c.cs d a xs s h.stored e

  kept : (u : State) → ChangesFrameAlone s u → Stored c.m c.st u
  kept u k = stored_kept c.m c.st s u k h.stored

  abbrev later : Items
  later = places_items c.m c.n (R c) (L c) (all c) (knowns_at ks v.rest) None vs

  -- over another store
  abbrev over : Store → Setting
  over now = record c { st = now }

  abbrev goes_over : Store → ℕ → Activation → Type 0
  goes_over now k b = move c.m c.st (running c.cs a) ≡ goes k now (running c.cs b)

  abbrev goes_to : ℕ → Activation → Type 0
  goes_to k b = goes_over c.st k b

  sees : Seen c v a
  sees = seen c v a h.stands h.func

  -- ---- what is known at the next place

  pub behind : (i : Op) (is : Code) (ls os : List Value) → a.code ≡ cons i is → AreKnown (knowns_behind i ks) ls os → AreKnown (knowns_at ks v.rest) ls os
  behind i is ls os e k = subst (λ (x : Code). AreKnown (knowns_at ks x) ls os) (sym (sees.rest ∙ e)) k

  -- of the operands under these
  pub left : (n : ℕ) (us others : List Value) → a.values ≡ us ++ others → length us ≡ n → AreKnown (fewer_known n ks) a.locals (others ++ under a.levels)
  left n us others parts long = left_known ks n a.locals us others (under a.levels) a.values parts long are_known

  -- ---- by a move

  pub by_move : (now : Store) (k i : ℕ) (b : Activation) (xs : Items) (u : State) → goes_over now k b → d ≤ 16 * k + i → Proceeds xs u (Attain (over now) i b) → Proceeds xs u P
  by_move now k i b xs u e l g = proceeds_as (Attain (over now) i b) P xs u (λ t r. attains_after c.m c.st c.cs now d i k a b (moved_to c.m c.st c.cs now k a b e) l t r) g

  pub paid : d ≤ 16 * 1 + 0
  paid = let l : d ≤ 16 = rest.low in let x : d ≤ 16 * 1 + 0 = omega arith in x

  among : (i : Op) (is : Code) (w : Way) → a.code ≡ cons i is → In w (op_ways (S c) i v.path v.blocks (types_of (operands a))) → In w (ways (S c) v)
  among i is w e k =
      subst (λ (x : Code). In w (code_ways (S c) x v.path v.blocks (reverse v.kinds))) (sym (sees.rest ∙ e))
      (subst (λ (ts : List ValType). In w (op_ways (S c) i v.path v.blocks ts)) (sym sees.back) k)

  came : (now : Store) (k : ℕ) (w : Way) (b : Activation) (u : State) → goes_over now k b → b.func ≡ c.n → Comes c.m b w → Frame (size c) b.locals (operands b) u.places → RunsOver (uses_bytes c.m) c.bs u → Stored c.m now u → Arrived (over now) w b u
  came now k w b u e same comes frame calm stored = record { func = same; comes = comes; frame = frame; calm = calm; typed = typed_after c.m c.st c.cs c.program c.results now k a b h.typed e; stored = stored }

  -- a step, and then what the way leads to
  by_way_over : (now : Store) (w : Way) (b : Activation) (u : State) → goes_over now 1 b → b.func ≡ c.n → In w (ways (S c) v) → Comes c.m b w → Frame (size c) b.locals (operands b) u.places → RunsOver (uses_bytes c.m) c.bs u → Stored c.m now u → AreKnown (knowns_at ks v.rest) b.locals (operands b)
      → Proceeds (leads_to c.m c.n (R c) (L c) (all c) w.to later) u P
  by_way_over now w b u e same k comes frame calm stored known =
      let next : Rest c.m c.n c.f c.t c.q 0 vs = rest_on c.m c.n c.f c.t c.q d v vs rest in
      by_move now 1 0 b (leads_to c.m c.n (R c) (L c) (all c) w.to later) u e paid
      (lead_on (over now) 0 d (knowns_at ks v.rest) v vs rest w k b u (came now 1 w b u e same comes frame calm stored) known (pays_none (over now) w.to) (go now 0 next))

  by_way : (w : Way) (b : Activation) (u : State) → goes_to 1 b → b.func ≡ c.n → In w (ways (S c) v) → Comes c.m b w → Frame (size c) b.locals (operands b) u.places → RunsOver (uses_bytes c.m) c.bs u → Stored c.m c.st u → AreKnown (knowns_at ks v.rest) b.locals (operands b)
      → Proceeds (leads_to c.m c.n (R c) (L c) (all c) w.to later) u P
  by_way w b u e same k comes frame calm stored known = by_way_over c.st w b u e same k comes frame calm stored known

  -- ---- instructions that go on behind themselves

  pub record Onward (i : Op) (is : Code) (ls us : List Value) : Type 0 where
    pub code : a.code ≡ cons i is
    pub made : Change
    pub changes_so : change i (S c) ≡ Some made
    pub few : made.takes ≤ length a.values
    pub types : types_of us ≡ changed made (types_of a.values)
    pub locals : types_of ls ≡ types_of a.locals
    pub on : (ts : List ValType) → In (way (path_behind v.path) (left_by (change i (S c)) ts)) (op_ways (S c) i v.path v.blocks ts)

  -- where it comes to
  onward_way : (i : Op) (is : Code) (ls us : List Value) (o : Onward i is ls us) → Way
  onward_way i is ls us o = way (path_behind v.path) (changed o.made (types_of (operands a)))

  pub onward_among : (i : Op) (is : Code) (ls us : List Value) (o : Onward i is ls us) → In (way (path_behind v.path) (changed o.made (types_of (operands a)))) (ways (S c) v)
  onward_among i is ls us o =
      among i is (way (path_behind v.path) (changed o.made (types_of (operands a)))) o.code
      (subst (λ (x : Option Change). In (way (path_behind v.path) (left_by x (types_of (operands a)))) (op_ways (S c) i v.path v.blocks (types_of (operands a)))) o.changes_so (o.on (types_of (operands a))))

  pub onward_comes : (i : Op) (is : Code) (ls us : List Value) (o : Onward i is ls us) → Comes c.m (past a i is ls us) (way (path_behind v.path) (changed o.made (types_of (operands a))))
  onward_comes i is ls us o =
      c.moves.onward c.m a v h.stands i is o.made ls us o.code (ap (λ (b : Body). change i b.scope) (body_is c a v h.stands h.func) ∙ o.changes_so) o.few o.types o.locals

  onward_room : (i : Op) (is : Code) (ls us : List Value) (o : Onward i is ls us) → top_of ls (us ++ under a.levels) ≤ size c
  onward_room i is ls us o = let y = onward_comes i is ls us o in (seen c y.visit (past a i is ls us) y.stands h.func).room

  plain : (i : Op) (is : Code) (ls us : List Value) (xs : Items) (o : Onward i is ls us) → goes_to 1 (past a i is ls us) → AreKnown (knowns_behind i ks) ls (us ++ under a.levels)
      → (top_of ls (us ++ under a.levels) ≤ size c → Makes (uses_bytes c.m) c.bs (size c) ls (us ++ under a.levels) xs s)
      → Proceeds (onward c.m c.n (R c) (L c) (all c) v xs later) s P
  plain i is ls us xs o e known makes =
      let y = makes (onward_room i is ls us o) in
      passes_proceed P xs (leads_to c.m c.n (R c) (L c) (all c) (path_behind v.path) later) s y.state y.passes
      (by_way (way (path_behind v.path) (changed o.made (types_of (operands a)))) (past a i is ls us) y.state e h.func (onward_among i is ls us o) (onward_comes i is ls us o) y.frame y.calm (kept y.state y.passes.keeps) (behind i is ls (us ++ under a.levels) o.code known))

  -- ---- plain instructions

  do_nop : (is : Code) → a.code ≡ cons nop is → Proceeds (op_items c.m c.n (R c) (L c) (all c) ks v nop later) s P
  do_nop is e =
      plain nop is a.locals a.values no_more
      (record { code = e; made = changes 0 []; changes_so = refl; few = omega arith; types = refl; locals = refl; on = λ ts. inl refl })
      (move_is c.m c.st c.cs a nop is a.values e refl)
      are_known
      (λ r. nothing_does c.bs (size c) a.locals s h.calm [] (operands a) h.frame)

  do_drop : (is : Code) → a.code ≡ cons drop_one is → Proceeds (op_items c.m c.n (R c) (L c) (all c) ks v drop_one later) s P
  do_drop is e =
      let r = ruled h drop_one is e in
      let x : First r.rule.0 r.below a.values = first_of_all r.rule.0 r.below a.values (are_taken h drop_one r (r.rule.0 ∷ []) r.rule.1.0) in
      plain drop_one is a.locals x.others no_more
      (record {
        code = e;
        made = changes 1 [];
        changes_so = refl;
        few = first_long x.value x.others a.values x.parts;
        types = ap (λ (l : List Value). drop 1 (types_of l)) (sym x.parts);
        locals = refl;
        on = λ ts. inl refl;
      })
      (move_is c.m c.st c.cs a drop_one is (x.value ∷ x.others) e x.parts)
      (left 1 (x.value ∷ []) x.others x.parts refl)
      (λ room. nothing_does c.bs (size c) a.locals s h.calm (x.value ∷ []) (x.others ++ under a.levels) (parted h (x.value ∷ x.others) (x.value ∷ (x.others ++ under a.levels)) x.parts refl))

  do_get : (x : ℕ) (is : Code) → a.code ≡ cons (local_get x) is → Proceeds (op_items c.m c.n (R c) (L c) (all c) ks v (local_get x) later) s P
  do_get x is e =
      let r = ruled h (local_get x) is e in
      let ty : ValType = r.rule.0 in
      let here : slice_get (types_of a.locals) x ≡ Some ty = ap (λ (l : List ValType). slice_get l x) (sym r.locals) ∙ r.rule.1 in
      let found = at_position a.locals (types_of a.locals) x ty (own_locals h) here in
      let u : Value = found.0 in
      let known : slice_get (L c) x ≡ Some ty = ap (λ (l : List ValType). slice_get l x) (sym sees.locals) ∙ here in
      let n : ℕ = places_of (slice_get (L c) x) in
      let wide : n ≡ width (const_type u) = ap places_of known ∙ ap width (sym found.2.type) in
      subst (λ (k : ℕ). Proceeds (onward c.m c.n (R c) (L c) (all c) v (acts_then (carry_acts n (local_place (L c) x) k) no_more) later) s P) (sym sees.top)
      (subst (λ (l : List ValType). Proceeds (onward c.m c.n (R c) (L c) (all c) v (acts_then (carry_acts n (local_place l x) (top_of a.locals (operands a))) no_more) later) s P) sees.locals
      (plain (local_get x) is a.locals (u ∷ a.values) (acts_then (carry_acts n (local_place (types_of a.locals) x) (top_of a.locals (operands a))) no_more)
      (record {
        code = e;
        made = changes 0 (ty ∷ []);
        changes_so = ap (λ o. option_map by_arrow (o >>= λ t. Some (arrow [] (t ∷ [])))) known;
        few = omega arith;
        types = ap (λ (t : ValType). t ∷ types_of a.values) found.2.type;
        locals = refl;
        on = λ ts. inl refl;
      })
      (move_is c.m c.st c.cs a (local_get x) is a.values e refl ∙ ap (λ o. does c.m c.st c.cs a (local_get x) is (got c.m c.st a.locals a.values o)) found.1)
      (local_known x u ks a.locals (operands a) found.1 are_known)
      (λ room. local_get_does c.bs (size c) a.locals s h.calm x u (operands a) n found.1 wide h.frame room)))

  -- a local gets the last operand, which goes or stays
  module _ (x : ℕ) (ty : ValType) (below : List ValType) (here : slice_get (types_of a.locals) x ≡ Some ty) (y : First ty below a.values) where
    known : slice_get (L c) x ≡ Some ty
    known = ap (λ (l : List ValType). slice_get l x) (sym sees.locals) ∙ here

    old : (u : Value) × (slice_get a.locals x ≡ Some u) × Is ty u
    old = at_position a.locals (types_of a.locals) x ty (own_locals h) here

    new : (ltb x (length a.locals) ≡ true) × Are (types_of a.locals) (slice_set a.locals x y.value)
    new = set_position a.locals (types_of a.locals) x y.value ty (own_locals h) here y.is

    framed : Frame (size c) a.locals (y.value ∷ (y.others ++ under a.levels)) s.places
    framed = parted h (y.value ∷ y.others) (y.value ∷ (y.others ++ under a.levels)) y.parts refl

    -- how many places they take
    abbrev n : ℕ
    n = places_of (slice_get (L c) x)

    wide : n ≡ width (const_type y.value)
    wide = ap places_of known ∙ ap width (sym y.is.type)

    same_type : const_type y.value ≡ const_type old.0
    same_type = y.is.type ∙ sym old.2.type

    -- the operands that are left
    tail_types : drop 1 (types_of (y.value ∷ y.others)) ≡ drop 1 (types_of a.values)
    tail_types = ap (λ (l : List Value). drop 1 (types_of l)) (sym y.parts)

    -- what is known then
    set_knows : AreKnown (set_known x ks) (slice_set a.locals x y.value) (y.value ∷ (y.others ++ under a.levels))
    set_knows =
        set_is_known x old.0 y.value ks a.locals (y.others ++ under a.levels) old.1
        (subst (λ (l : List Value). AreKnown ks a.locals (l ++ under a.levels)) y.parts are_known)

    -- the items, by where the places are
    by_places : (i : Op) (is : Code) (us : List Value) → Onward i is (slice_set a.locals x y.value) us → goes_to 1 (past a i is (slice_set a.locals x y.value) us) → AreKnown (knowns_behind i ks) (slice_set a.locals x y.value) (us ++ under a.levels)
        → Makes (uses_bytes c.m) c.bs (size c) (slice_set a.locals x y.value) (us ++ under a.levels) (acts_then (carry_acts n (top_of a.locals (y.value ∷ (y.others ++ under a.levels)) - n) (local_place (types_of a.locals) x)) no_more) s
        → Proceeds (onward c.m c.n (R c) (L c) (all c) v (acts_then (carry_acts n (top_place (L c) v - n) (local_place (L c) x)) no_more) later) s P
    by_places i is us o e known makes =
        subst (λ (k : ℕ). Proceeds (onward c.m c.n (R c) (L c) (all c) v (acts_then (carry_acts n (k - n) (local_place (L c) x)) no_more) later) s P)
        (sym (top_parted h (y.value ∷ y.others) (y.value ∷ (y.others ++ under a.levels)) y.parts refl))
        (subst (λ (l : List ValType). Proceeds (onward c.m c.n (R c) (L c) (all c) v (acts_then (carry_acts n (top_of a.locals (y.value ∷ (y.others ++ under a.levels)) - n) (local_place l x)) no_more) later) s P) sees.locals
        (plain i is (slice_set a.locals x y.value) us (acts_then (carry_acts n (top_of a.locals (y.value ∷ (y.others ++ under a.levels)) - n) (local_place (types_of a.locals) x)) no_more) o e known (λ room. makes)))

    set_on : (is : Code) → a.code ≡ cons (local_set x) is → Proceeds (op_items c.m c.n (R c) (L c) (all c) ks v (local_set x) later) s P
    set_on is e =
        by_places (local_set x) is y.others
        (record {
          code = e;
          made = changes 1 [];
          changes_so = ap (λ o. option_map by_arrow (o >>= λ t. Some (arrow (t ∷ []) []))) known;
          few = first_long y.value y.others a.values y.parts;
          types = tail_types;
          locals = new.1.types;
          on = λ ts. inl refl;
        })
        (move_is c.m c.st c.cs a (local_set x) is (y.value ∷ y.others) e y.parts ∙ ap (λ b. does c.m c.st c.cs a (local_set x) is (cond b (done c.st (slice_set a.locals x y.value) y.others) unfit)) new.0)
        (left_known (set_known x ks) 1 (slice_set a.locals x y.value) (y.value ∷ []) y.others (under a.levels) (y.value ∷ y.others) refl refl set_knows)
        (local_set_does c.bs (size c) a.locals s h.calm x old.0 y.value (y.others ++ under a.levels) n old.1 same_type wide framed)

    tee_on : (is : Code) → a.code ≡ cons (local_tee x) is → Proceeds (op_items c.m c.n (R c) (L c) (all c) ks v (local_tee x) later) s P
    tee_on is e =
        by_places (local_tee x) is (y.value ∷ y.others)
        (record {
          code = e;
          made = changes 1 (ty ∷ []);
          changes_so = ap (λ o. option_map by_arrow (o >>= λ t. Some (arrow (t ∷ []) (t ∷ [])))) known;
          few = first_long y.value y.others a.values y.parts;
          types = ap (λ (t : ValType). t ∷ types_of y.others) y.is.type ∙ ap (λ (l : List ValType). ty ∷ l) tail_types;
          locals = new.1.types;
          on = λ ts. inl refl;
        })
        (move_is c.m c.st c.cs a (local_tee x) is (y.value ∷ y.others) e y.parts ∙ ap (λ b. does c.m c.st c.cs a (local_tee x) is (cond b (done c.st (slice_set a.locals x y.value) (y.value ∷ y.others)) unfit)) new.0)
        set_knows
        (local_tee_does c.bs (size c) a.locals s h.calm x old.0 y.value (y.others ++ under a.levels) n old.1 same_type wide framed)

  do_set : (x : ℕ) (is : Code) → a.code ≡ cons (local_set x) is → Proceeds (op_items c.m c.n (R c) (L c) (all c) ks v (local_set x) later) s P
  do_set x is e =
      let r = ruled h (local_set x) is e in
      set_on x r.rule.0 r.below (ap (λ (l : List ValType). slice_get l x) (sym r.locals) ∙ r.rule.1)
      (first_of_all r.rule.0 r.below a.values (are_taken h (local_set x) r (r.rule.0 ∷ []) r.rule.2.0)) is e

  do_tee : (x : ℕ) (is : Code) → a.code ≡ cons (local_tee x) is → Proceeds (op_items c.m c.n (R c) (L c) (all c) ks v (local_tee x) later) s P
  do_tee x is e =
      let r = ruled h (local_tee x) is e in
      tee_on x r.rule.0 r.below (ap (λ (l : List ValType). slice_get l x) (sym r.locals) ∙ r.rule.1)
      (first_of_all r.rule.0 r.below a.values (are_taken h (local_tee x) r (r.rule.0 ∷ []) r.rule.2.0)) is e

  -- one of two values by a number
  select_on : (is : Code) (n : ℤ) (y x : Value) (others : List Value) → a.code ≡ cons select is → a.values ≡ values.I32 n ∷ y ∷ x ∷ others → const_type (if_nonzero n x y) ≡ const_type x → const_type y ≡ const_type x
      → Proceeds (op_items c.m c.n (R c) (L c) (all c) ks v select later) s P
  select_on is n y x others e parts same alike =
      let long : length a.values ≡ suc (suc (suc (length others))) = ap length parts in
      let k : ℕ = places_of (slice_get (reverse v.kinds) 1) in
      let wide : k ≡ width (const_type x) = ap (λ (ts : List ValType). places_of (slice_get ts 1)) (sees.back ∙ ap (λ (l : List Value). types_of (l ++ under a.levels)) parts) ∙ ap width alike in
      plain select is a.locals (if_nonzero n x y ∷ others) _
      (record {
        code = e;
        made = changes 2 [];
        changes_so = refl;
        few = omega arith;
        types = ap (λ (t : ValType). t ∷ types_of others) same ∙ ap (λ (l : List Value). drop 2 (types_of l)) (sym parts);
        locals = refl;
        on = λ ts. inl refl;
      })
      (move_is c.m c.st c.cs a select is (values.I32 n ∷ y ∷ x ∷ others) e parts)
      (one_more (if_nonzero n x y) (fewer_known 3 ks) a.locals (others ++ under a.levels) (left 3 (values.I32 n ∷ y ∷ x ∷ []) others parts refl))
      (λ room. select_does c.bs (size c) a.locals s h.calm n y x (others ++ under a.levels) k (top_place (L c) v) wide alike
      (top_parted h (values.I32 n ∷ y ∷ x ∷ others) (values.I32 n ∷ y ∷ x ∷ (others ++ under a.levels)) parts refl)
      (parted h (values.I32 n ∷ y ∷ x ∷ others) (values.I32 n ∷ y ∷ x ∷ (others ++ under a.levels)) parts refl))

  select_from : (is : Code) (ty : ValType) (below : List ValType) → a.code ≡ cons select is → (n : FirstI32 (ty ∷ ty ∷ below) a.values) (y : First ty (ty ∷ below) n.others) (x : First ty below y.others)
      → Proceeds (op_items c.m c.n (R c) (L c) (all c) ks v select later) s P
  select_from is ty below e n y x =
      select_on is n.number y.value x.value x.others e
      (n.parts ∙ ap (λ (l : List Value). values.I32 n.number ∷ l) (y.parts ∙ ap (λ (l : List Value). y.value ∷ l) x.parts))
      ((one_of n.number x.value y.value ty x.is y.is).type ∙ sym x.is.type) (y.is.type ∙ sym x.is.type)

  select_by : (is : Code) (ty : ValType) (below : List ValType) → a.code ≡ cons select is → Are (I32 ∷ ty ∷ ty ∷ below) a.values
      → Proceeds (op_items c.m c.n (R c) (L c) (all c) ks v select later) s P
  select_by is ty below e are =
      let n : FirstI32 (ty ∷ ty ∷ below) a.values = first_i32 (ty ∷ ty ∷ below) a.values are in
      let y : First ty (ty ∷ below) n.others = first_of_all ty (ty ∷ below) n.others n.rest in
      select_from is ty below e n y (first_of_all ty below y.others y.rest)

  do_select : (is : Code) → a.code ≡ cons select is → Proceeds (op_items c.m c.n (R c) (L c) (all c) ks v select later) s P
  do_select is e =
      let r = ruled h select is e in
      select_by is r.rule.0 r.below e (are_taken h select r (I32 ∷ r.rule.0 ∷ r.rule.0 ∷ []) r.rule.1.0)

  -- ---- globals

  do_global_get : (x : ℕ) (is : Code) → a.code ≡ cons (global_get x) is → Proceeds (op_items c.m c.n (R c) (L c) (all c) ks v (global_get x) later) s P
  do_global_get x is e =
      let y : Got c a s x is = global_got h x is e in
      subst (λ (k : ℕ). Proceeds (onward c.m c.n (R c) (L c) (all c) v (acts_then (global_get_acts x 0 (places_at c x) k) no_more) later) s P) (sym sees.top)
      (plain (global_get x) is a.locals (y.value ∷ a.values) (acts_then (global_get_acts x 0 (places_at c x) (top_of a.locals (operands a))) no_more)
      (record {
        code = e;
        made = changes 0 (y.type ∷ []);
        changes_so = y.changes_so;
        few = omega arith;
        types = ap (λ (t : ValType). t ∷ types_of a.values) y.is_type;
        locals = refl;
        on = λ ts. inl refl;
      })
      y.moves (one_more y.value ks a.locals (operands a) are_known) y.does)

  do_global_set : (x : ℕ) (is : Code) → a.code ≡ cons (global_set x) is → Proceeds (op_items c.m c.n (R c) (L c) (all c) ks v (global_set x) later) s P
  do_global_set x is e =
      let y : Put c v a s x is = global_put_on h x is e in
      let b : Activation = past a (global_set x) is a.locals y.others in
      let o : Onward (global_set x) is a.locals y.others = record { code = e; made = changes 1 []; changes_so = y.changes_so; few = y.few; types = y.types; locals = refl; on = λ ts. inl refl } in
      let w : Way = way (path_behind v.path) (changed (changes 1 []) (types_of (operands a))) in
      let rest : Items = leads_to c.m c.n (R c) (L c) (all c) (path_behind v.path) later in
      crosses_proceed P (acts_then (global_set_acts x 0 (places_at c x) (top_place (L c) v - places_at c x)) no_more) rest s y.state y.crosses
      (by_way_over y.now w b y.state y.moves h.func (onward_among (global_set x) is a.locals y.others o) (onward_comes (global_set x) is a.locals y.others o) y.frame y.calm y.stored
      (behind (global_set x) is a.locals (y.others ++ under a.levels) e (left 1 (y.value ∷ []) y.others y.parts refl)))

  -- ---- memory

  -- behind an access that leads on
  accessed_on : (i : Op) (is : Code) (us : List Value) (xs : Items) → Onward i is a.locals us → AreKnown (knowns_behind i ks) a.locals (us ++ under a.levels) → Accessed c a s i is us xs → Proceeds (onward c.m c.n (R c) (L c) (all c) v xs later) s P
  accessed_on i is us xs o known y =
      crosses_proceed P xs (leads_to c.m c.n (R c) (L c) (all c) (path_behind v.path) later) s y.state y.crosses
      (by_way_over y.now (way (path_behind v.path) (changed o.made (types_of (operands a)))) (past a i is a.locals us) y.state y.moves h.func (onward_among i is a.locals us o) (onward_comes i is a.locals us o) y.frame y.calm y.stored (behind i is a.locals (us ++ under a.levels) o.code known))

  do_access : (i : Op) (is : Code) (xs : Items) → a.code ≡ cons i is → ((ts : List ValType) → In (way (path_behind v.path) (left_by (change i (S c)) ts)) (op_ways (S c) i v.path v.blocks ts)) → Access c ks a s i is xs
      → Proceeds (onward c.m c.n (R c) (L c) (all c) v xs later) s P
  do_access i is xs e on (goes_on us r known y) = accessed_on i is us xs (record { code = e; made = r.made; changes_so = r.changes_so; few = r.few; types = r.types; locals = refl; on = on }) known y
  do_access i is xs e on (traps y) =
      breaks_proceed P xs (leads_to c.m c.n (R c) (L c) (all c) (path_behind v.path) later) s y.state y.breaks
      (attains_trap 0 0 c.st c.cs a OutOfBounds (leads_nowhere c.m (at c.st c.cs a)) y.stored y.moves y.recorded y.running_still)

  do_size : (is : Code) → a.code ≡ cons memory_size is → Proceeds (op_items c.m c.n (R c) (L c) (all c) ks v memory_size later) s P
  do_size is e =
      let r = size_retyped h works (size_first h works is e) is e in
      let us : List Value = unsigned (page_count c.st.memory) ∷ a.values in
      let o : Onward memory_size is a.locals us = record { code = e; made = r.made; changes_so = r.changes_so; few = r.few; types = r.types; locals = refl; on = λ ts. inl refl } in
      accessed_on memory_size is us (size_items (top_place (L c) v)) o (one_more (unsigned (page_count c.st.memory)) ks a.locals (operands a) are_known) (size_on h works (size_first h works is e) is e (onward_room memory_size is a.locals us o))

  -- ---- constants, which are no step

  do_const : (z : Value) (is : Code) → a.code ≡ cons (const z) is → Proceeds (op_items c.m c.n (R c) (L c) (all c) ks v (const z) later) s P
  do_const z is e =
      let constant : IsConstantAt v.rest = subst IsConstantAt (sym (sees.rest ∙ e)) tt in
      let b : Activation = past a (const z) is a.locals (z ∷ a.values) in
      let o : Onward (const z) is a.locals (z ∷ a.values) = record { code = e; made = changes 0 (const_type z ∷ []); changes_so = refl; few = omega arith; types = refl; locals = refl; on = λ ts. inl refl } in
      let w : Way = way (path_behind v.path) (changed (changes 0 (const_type z ∷ [])) (types_of (operands a))) in
      let k : In w (ways (S c) v) = onward_among (const z) is a.locals (z ∷ a.values) o in
      let moves : goes_to 0 b = move_is c.m c.st c.cs a (const z) is a.values e refl in
      let y = constant_does c.bs (size c) a.locals s h.calm z (operands a) h.frame (onward_room (const z) is a.locals (z ∷ a.values) o) in
      let next : Rest c.m c.n c.f c.t c.q d vs = rest_constant c.m c.n c.f c.t c.q d v vs constant rest in
      let same : d ≤ 16 * 0 + d = omega arith in
      subst (λ (j : ℕ). Proceeds (onward c.m c.n (R c) (L c) (all c) v (acts_then (constant_acts z j) no_more) later) s P) (sym sees.top)
      (passes_proceed P (acts_then (constant_acts z (top_of a.locals (operands a))) no_more) (leads_to c.m c.n (R c) (L c) (all c) (path_behind v.path) later) s y.state y.passes
      (by_move c.st 0 d b (leads_to c.m c.n (R c) (L c) (all c) w.to later) y.state moves same
      (lead_on c d d (knowns_at ks v.rest) v vs rest w k b y.state (came c.st 0 w b y.state moves h.func (onward_comes (const z) is a.locals (z ∷ a.values) o) y.frame y.calm (kept y.state y.passes.keeps))
      (behind (const z) is a.locals (z ∷ operands a) e ((value_known z, are_known.0), are_known.1))
      (risen c.m c.n c.f c.t c.program.valid c.q c.is_piece d v vs constant rest w k refl) (go c.st d next))))

  -- ---- operations

  do_num : (op : NumOp) (is : Code) → a.code ≡ cons (num op) is → Proceeds (op_items c.m c.n (R c) (L c) (all c) ks v (num op) later) s P
  do_num op is e = by_division (division_of (operator_of op)) refl
    where
      k : ℕ
      k = length (num_type op).takes

      us : List Value
      us = take k a.values

      others : List Value
      others = drop k a.values

      r : Ruled c.m a (num op)
      r = ruled h (num op) is e

      types : types_of a.values ≡ (num_type op).takes ++ r.below
      types = r.types ∙ ap (λ (l : List ValType). l ++ r.below) r.rule.0

      parts : a.values ≡ us ++ others
      parts = sym (take-append-drop k a.values)

      whole : (us ++ others) ++ under a.levels ≡ us ++ (others ++ under a.levels)
      whole = append_assoc us others (under a.levels)

      Says : Executed → Type 0
      Says x = IsExecuted c.m (h.typed.flat.1.params ++ run_types h.typed.flat.0.locals) (r.takes ++ r.below) (r.gives ++ r.below) x

      said : Says (answered c.m c.st a.locals others (apply op (reverse us)))
      said =
          simple_typed c.m c.st h.typed.flat.0 h.typed.flat.1 a.locals [] h.typed.store h.typed.flat.2.locals (num op) r.takes r.gives r.below a.values tt r.rule
          (record { types = r.types; range = r.range })

      does_so : (o : Option Answer) → apply op (reverse us) ≡ o → move c.m c.st (running c.cs a) ≡ does c.m c.st c.cs a (num op) is (answered c.m c.st a.locals others o)
      does_so o q = move_is c.m c.st c.cs a (num op) is a.values e refl ∙ ap (λ x. does c.m c.st c.cs a (num op) is (answered c.m c.st a.locals others x)) q

      framed : Frame (size c) a.locals (us ++ (others ++ under a.levels)) s.places
      framed = parted h (us ++ others) (us ++ (others ++ under a.levels)) parts whole

      os : List Value
      os = others ++ under a.levels

      knows : AreKnown ks a.locals (us ++ os)
      knows = subst (λ (l : List Value). AreKnown ks a.locals l) (ap (λ (l : List Value). l ++ under a.levels) parts ∙ whole) are_known

      taken : types_of us ≡ (num_type op).takes
      taken = (take_are k (num_type op).takes r.below a.values refl (are_taken h (num op) r (num_type op).takes r.rule.0)).types

      long : length us ≡ k
      long = sym (length-map us const_type) ∙ ap length taken

      answers_so : division_of (operator_of op) ≡ None → (o : Answer) → apply op (reverse us) ≡ Some o → top_of a.locals os + answer_places o ≤ size c → Answers (uses_bytes c.m) c.bs (size c) a.locals os (num_by (known_next ks) (known_last ks) op (top_place (L c) v)) s o
      answers_so none o q room =
          subst (λ (j : ℕ). Answers (uses_bytes c.m) c.bs (size c) a.locals os (num_by (known_next ks) (known_last ks) op j) s o) (sym (top_parted h (us ++ others) (us ++ os) parts whole))
          (num_by_does c.bs (size c) a.locals s h.calm sums ks op us os o (meets_bytes c.m a v h.stands op is e) knows none q (All-take IsInRange k a.values r.range) taken framed room)

      by_answer : division_of (operator_of op) ≡ None → (o : Option Answer) → apply op (reverse us) ≡ o → Proceeds (onward c.m c.n (R c) (L c) (all c) v (num_by (known_next ks) (known_last ks) op (top_place (L c) v)) later) s P
      by_answer none None q = absurd (subst (λ (o : Option Answer). Says (answered c.m c.st a.locals others o)) q said)
      by_answer none (Some (answers.Value u)) q =
          let x : Says (done c.st a.locals (u ∷ others)) = subst (λ (o : Option Answer). Says (answered c.m c.st a.locals others o)) q said in
          let rest_types : drop k (types_of a.values) ≡ r.below = ap (λ (l : List ValType). drop k l) types ∙ drop-append_seam (num_type op).takes r.below in
          plain (num op) is a.locals (u ∷ others) (num_by (known_next ks) (known_last ks) op (top_place (L c) v))
          (record {
            code = e;
            made = by_arrow (num_type op);
            changes_so = refl;
            few = enough (num_type op).takes r.below a.values types;
            types = x.2.types ∙ (ap (λ (l : List ValType). l ++ r.below) r.rule.1 ∙ ap (λ (l : List ValType). (num_type op).gives ++ l) (sym rest_types));
            locals = refl;
            on = λ ts. inl refl;
          })
          (does_so (Some (answers.Value u)) q)
          (one_more u (fewer_known k ks) a.locals os (left k us others parts long))
          (λ room. answers_so none (answers.Value u) q (let wide = value_length u in let fits : top_of a.locals os + length (value_ints u) ≤ size c = omega arith in fits))
      by_answer none (Some (answers.Trap t)) q =
          let sized = framed.sized in
          let low = frame_top (size c) a.locals os s.places (frame_drop (size c) a.locals us os s.places framed) in
          let room : top_of a.locals os + 0 ≤ size c = omega arith in
          let y = answers_so none (answers.Trap t) q room in
          still (onward c.m c.n (R c) (L c) (all c) v (num_by (known_next ks) (known_last ks) op (top_place (L c) v)) later)
          (fails_enters Q t (num_by (known_next ks) (known_last ks) op (top_place (L c) v)) (leads_to c.m c.n (R c) (L c) (all c) (path_behind v.path) later) s y
          (reaches_trap 0 0 c.cs a t (leads_nowhere c.m (at c.st c.cs a)) (does_so (Some (answers.Trap t)) q) y.recorded y.running))

      by_division : (o : Option BinaryOp) → division_of (operator_of op) ≡ o → Proceeds (number_items c.m c.n (R c) (L c) (all c) ks v op o later) s P
      by_division None q = by_answer q (apply op (reverse us)) refl
      by_division (Some o) q = divide_on c v d rest.low a s h sums op is e o q

  -- ---- into blocks

  do_block : (ty : Option ValType) (body is : Code) → a.code ≡ cons (block ty body) is → Proceeds (op_items c.m c.n (R c) (L c) (all c) ks v (block ty body) later) s P
  do_block ty body is e =
      let w : Way = way (v.path ++ 0 ∷ []) (types_of (operands a)) in
      by_way w (inner a (block ty body) is a.values (0 ∷ []) body) s (move_is c.m c.st c.cs a (block ty body) is a.values e refl) h.func (among (block ty body) is w e (inl refl))
      ((c.moves.in_block c.m a v h.stands ty body is).0 e) h.frame h.calm h.stored (behind (block ty body) is a.locals (operands a) e (tt, are_known.1))

  do_loop : (ty : Option ValType) (body is : Code) → a.code ≡ cons (loop ty body) is → Proceeds (op_items c.m c.n (R c) (L c) (all c) ks v (loop ty body) later) s P
  do_loop ty body is e =
      let w : Way = way (v.path ++ 0 ∷ []) (types_of (operands a)) in
      by_way w (inner a (loop ty body) is a.values (0 ∷ []) body) s (move_is c.m c.st c.cs a (loop ty body) is a.values e refl) h.func (among (loop ty body) is w e (inl refl))
      ((c.moves.in_block c.m a v h.stands ty body is).1 e) h.frame h.calm h.stored (behind (loop ty body) is a.locals (operands a) e (tt, are_known.1))

  -- ---- by a tested operand

  abbrev place : ℕ
  place = top_place (L c) v - 1

  -- the place under the operand
  under_tested : (z : ℤ) (others : List Value) → a.values ≡ values.I32 z ∷ others → top_of a.locals (others ++ under a.levels) ≡ place
  under_tested z others parts =
      sym (ap (λ (j : ℕ). j - 1) (top_parted h (values.I32 z ∷ others) (values.I32 z ∷ (others ++ under a.levels)) parts refl) ∙ one_below a.locals (others ++ under a.levels) z)

  -- in a state whose frame has the operands under it, by conditions that hold where it is 0
  pub if_at : (ty : Option ValType) (one other is : Code) (z : ℤ) (others : List Value) → a.code ≡ cons (if_else ty one other) is → a.values ≡ values.I32 z ∷ others → (cs : List Cond) (u : State) → ByTest c v a others cs u
      → (z ≡ pos 0 → conds_hold cs u ≡ true) → ((z ≡ pos 0 → ⊥) → conds_hold cs u ≡ false)
      → Proceeds (exit_then cs (cut_acts c.m c.n (R c) (L c) (all c) (v.path ++ 1 ∷ 0 ∷ [])) (leads_to c.m c.n (R c) (L c) (all c) (v.path ++ 0 ∷ 0 ∷ []) later)) u P
  if_at ty one other is z others e parts cs u t holds fails = by_case (zero_case z)
    where
      arm : List ℕ → Code → Activation
      arm first body = inner a (if_else ty one other) is others first body

      arms : Comes c.m (arm (0 ∷ 0 ∷ []) one) (way (v.path ++ 0 ∷ 0 ∷ []) (drop 1 (types_of (operands a)))) × Comes c.m (arm (1 ∷ 0 ∷ []) other) (way (v.path ++ 1 ∷ 0 ∷ []) (drop 1 (types_of (operands a))))
      arms = c.moves.in_arm c.m a v h.stands ty one other is (values.I32 z) others e parts

      goes_in : move c.m c.st (running c.cs a) ≡ goes 1 c.st (running c.cs (arm (if_nonzero z (0 ∷ 0 ∷ []) (1 ∷ 0 ∷ [])) (if_nonzero z one other)))
      goes_in = move_is c.m c.st c.cs a (if_else ty one other) is (values.I32 z ∷ others) e parts

      ways_are : (w : Way) → In w (op_ways (S c) (if_else ty one other) v.path v.blocks (types_of (operands a))) → In w (ways (S c) v)
      ways_are w k = among (if_else ty one other) is w e k

      by_case : ZeroCase z → Proceeds (exit_then cs (cut_acts c.m c.n (R c) (L c) (all c) (v.path ++ 1 ∷ 0 ∷ [])) (leads_to c.m c.n (R c) (L c) (all c) (v.path ++ 0 ∷ 0 ∷ []) later)) u P
      by_case (zero_is k pick) =
          let w : Way = way (v.path ++ 1 ∷ 0 ∷ []) (drop 1 (types_of (operands a))) in
          let b : Activation = arm (1 ∷ 0 ∷ []) other in
          let moves : goes_to 1 b = goes_in ∙ (ap (λ (p : List ℕ). goes 1 c.st (running c.cs (arm p (if_nonzero z one other)))) (pick (List ℕ) (0 ∷ 0 ∷ []) (1 ∷ 0 ∷ [])) ∙ ap (λ (d : Code). goes 1 c.st (running c.cs (arm (1 ∷ 0 ∷ []) d))) (pick Code one other)) in
          let idx = arm_index c.m c.n c.f c.t v sees.listed ty one other is (sees.rest ∙ e) in
          let g = goto_on c 0 w b u place idx.0 (came c.st 1 w b u moves h.func arms.1 t.frame t.calm t.stored) (pays_none c w.to) idx.1 in
          stays c.m c.st c.cs d a _ u t.stored
          (subst (λ (o : Option ℕ). Enters (exit_then cs (acts_to c.m c.n (R c) (L c) (all c) o) (leads_to c.m c.n (R c) (L c) (all c) (v.path ++ 0 ∷ 0 ∷ []) later)) u Q) (sym idx.1)
          (way_taken place t.reach cs t.steady Q (goto_acts c.m c.n (R c) (L c) (all c) idx.0) (leads_to c.m c.n (R c) (L c) (all c) (v.path ++ 0 ∷ 0 ∷ []) later) u t.within g.quiet (holds k)
          (acts_as (Reach c 0 b) Q (goto_acts c.m c.n (R c) (L c) (all c) idx.0) u (λ x y. reaches_after c.m c.st c.cs d 0 1 a b (moved_once c.m c.st c.cs 1 a b moves) paid x y) g.enters)))
      by_case (zero_isnt k pick) =
          let w : Way = way (v.path ++ 0 ∷ 0 ∷ []) (drop 1 (types_of (operands a))) in
          let b : Activation = arm (0 ∷ 0 ∷ []) one in
          let moves : goes_to 1 b = goes_in ∙ (ap (λ (p : List ℕ). goes 1 c.st (running c.cs (arm p (if_nonzero z one other)))) (pick (List ℕ) (0 ∷ 0 ∷ []) (1 ∷ 0 ∷ [])) ∙ ap (λ (d : Code). goes 1 c.st (running c.cs (arm (0 ∷ 0 ∷ []) d))) (pick Code one other)) in
          way_passed place t.reach cs t.steady P (cut_acts c.m c.n (R c) (L c) (all c) (v.path ++ 1 ∷ 0 ∷ [])) (leads_to c.m c.n (R c) (L c) (all c) (v.path ++ 0 ∷ 0 ∷ []) later) u t.within (fails k)
          (by_way w b u moves h.func (ways_are w (inl refl)) arms.0 t.frame t.calm t.stored (behind (if_else ty one other) is a.locals (operands b) e (tt, are_known.1)))

  do_if : (ty : Option ValType) (one other is : Code) → a.code ≡ cons (if_else ty one other) is → Proceeds (op_items c.m c.n (R c) (L c) (all c) ks v (if_else ty one other) later) s P
  do_if ty one other is e =
      let r : Ruled c.m a (if_else ty one other) = ruled h (if_else ty one other) is e in
      let x : FirstI32 r.below a.values = first_i32 r.below a.values (are_taken h (if_else ty one other) r (I32 ∷ []) r.rule.0.0) in
      let l : Loaded c v a s x.number x.others = loaded h x.number x.others x.parts in
      fetch_proceeds P place _ s l.state l.is_tested
      (if_at ty one other is x.number x.others e x.parts (is_zero place) l.state (by_loaded c v a s x.number x.others l (is_zero place) (refl, tt)) (zero_holds place l.state x.number l.reads)
      (zero_fails place l.state x.number l.reads))

  -- by conditions that hold where it isn't 0
  pub br_if_at : (l : ℕ) (is : Code) (z : ℤ) (others : List Value) → a.code ≡ cons (br_if l) is → a.values ≡ values.I32 z ∷ others → (cs : List Cond) (u : State) → ByTest c v a others cs u
      → (z ≡ pos 0 → conds_hold cs u ≡ false) → ((z ≡ pos 0 → ⊥) → conds_hold cs u ≡ true)
      → Proceeds (exit_then cs (branch_acts c.m c.n (R c) (L c) (all c) v (drop 1 (reverse v.kinds)) l) (leads_to c.m c.n (R c) (L c) (all c) (path_behind v.path) later)) u P
  br_if_at l is z others e parts cs u t fails holds = by_case (zero_case z)
    where
      branch : Activation
      branch = past a (br_if l) is a.locals others

      goes_by : move c.m c.st (running c.cs a) ≡ if_nonzero z (jump c.m c.st c.cs a 2 l others a.levels) (goes 1 c.st (running c.cs branch))
      goes_by = move_is c.m c.st c.cs a (br_if l) is (values.I32 z ∷ others) e parts

      o : Onward (br_if l) is a.locals others
      o = record {
        code = e;
        made = changes 1 [];
        changes_so = refl;
        few = first_long (values.I32 z) others a.values parts;
        types = ap (λ (l : List Value). drop 1 (types_of l)) (sym parts);
        locals = refl;
        on = λ ts. in_right (way (path_behind v.path) (left_by (change (br_if l) (S c)) ts)) (cuts.branch v.path v.blocks (drop 1 ts) l) (cuts.onward (S c) (br_if l) v.path ts) (inl refl);
      }

      by_case : ZeroCase z → Proceeds (exit_then cs (branch_acts c.m c.n (R c) (L c) (all c) v (drop 1 (reverse v.kinds)) l) (leads_to c.m c.n (R c) (L c) (all c) (path_behind v.path) later)) u P
      by_case (zero_is k pick) =
          let moves : goes_to 1 branch = goes_by ∙ pick _ (jump c.m c.st c.cs a 2 l others a.levels) (goes 1 c.st (running c.cs branch)) in
          way_passed place t.reach cs t.steady P (branch_acts c.m c.n (R c) (L c) (all c) v (drop 1 (reverse v.kinds)) l) (leads_to c.m c.n (R c) (L c) (all c) (path_behind v.path) later) u t.within (fails k)
          (by_way (way (path_behind v.path) (changed o.made (types_of (operands a)))) branch u moves h.func (onward_among (br_if l) is a.locals others o) (onward_comes (br_if l) is a.locals others o) t.frame t.calm t.stored (behind (br_if l) is a.locals (operands branch) e (tt, are_known.1)))
      by_case (zero_isnt k pick) =
          let moves : move c.m c.st (running c.cs a) ≡ jump c.m c.st c.cs a 2 l others a.levels = goes_by ∙ pick _ (jump c.m c.st c.cs a 2 l others a.levels) (goes 1 c.st (running c.cs branch)) in
          let low : d ≤ 16 = rest.low in
          let g = branch_on c d v a sees h.stands h.func h.typed rest.low (br_if l) is l 1 2 (values.I32 z ∷ []) others e (by_br_if l) parts refl moves (omega arith) u t.frame t.calm in
          stays c.m c.st c.cs d a _ u t.stored
          (way_taken place t.reach cs t.steady Q (branch_acts c.m c.n (R c) (L c) (all c) v (drop 1 (reverse v.kinds)) l) (leads_to c.m c.n (R c) (L c) (all c) (path_behind v.path) later) u t.within
          (subst (λ (j : ℕ). QuietBelow j (branch_acts c.m c.n (R c) (L c) (all c) v (drop 1 (reverse v.kinds)) l)) (under_tested z others parts) g.quiet) (holds k) g.enters)

  do_br_if : (l : ℕ) (is : Code) → a.code ≡ cons (br_if l) is → Proceeds (op_items c.m c.n (R c) (L c) (all c) ks v (br_if l) later) s P
  do_br_if l is e =
      let r : Ruled c.m a (br_if l) = ruled h (br_if l) is e in
      let x : FirstI32 (r.rule.0 ++ r.below) a.values = first_i32 (r.rule.0 ++ r.below) a.values (are_taken h (br_if l) r (I32 ∷ r.rule.0) r.rule.2.0) in
      let y : Loaded c v a s x.number x.others = loaded h x.number x.others x.parts in
      fetch_proceeds P place _ s y.state y.is_tested
      (br_if_at l is x.number x.others e x.parts (not_zero place) y.state (by_loaded c v a s x.number x.others y (not_zero place) (refl, tt)) (not_zero_fails place y.state x.number y.reads)
      (not_zero_holds place y.state x.number y.reads))

  do_br_table : (ls : List ℕ) (last : ℕ) (is : Code) → a.code ≡ cons (br_table ls last) is → Proceeds (op_items c.m c.n (R c) (L c) (all c) ks v (br_table ls last) later) s P
  do_br_table ls last is e = still _ (by_many (nat_le (length ls) most_tested) refl)
    where
      r : Ruled c.m a (br_table ls last)
      r = ruled h (br_table ls last) is e

      x : FirstI32 ((r.rule.0 ++ r.rule.1) ++ r.below) a.values
      x = first_i32 ((r.rule.0 ++ r.rule.1) ++ r.below) a.values (are_taken h (br_table ls last) r (I32 ∷ (r.rule.0 ++ r.rule.1)) r.rule.4)

      -- one label after the other
      tested_so : length ls ≤ most_tested → Enters (steps_then (fetch place (codes "#a")) (table_items c.m c.n (R c) (L c) (all c) v (drop 1 (reverse v.kinds)) place 0 ls last)) s Q
      tested_so few =
          let y : Loaded c v a s x.number x.others = loaded h x.number x.others x.parts in
          let moves : move c.m c.st (running c.cs a) ≡ jump c.m c.st c.cs a 2 (chosen ls last x.number) x.others a.levels = move_is c.m c.st c.cs a (br_table ls last) is (values.I32 x.number ∷ x.others) e x.parts in
          let low : d ≤ 16 = rest.low in
          let g = branch_on c d v a sees h.stands h.func h.typed rest.low (br_table ls last) is (chosen ls last x.number) 1 2 (values.I32 x.number ∷ []) x.others e (by_br_table ls last (chosen ls last x.number) (chosen_among ls last x.number)) x.parts refl moves (omega arith) y.state y.frame y.calm in
          fetch_enters Q place _ s y.state y.is_tested
          (table_enters Q c.m c.n (R c) (L c) (all c) v (drop 1 (reverse v.kinds)) place x.number y.state ls last y.reads y.is_tested.within x.range few
          (subst (λ (j : ℕ). QuietBelow j (branch_acts c.m c.n (R c) (L c) (all c) v (drop 1 (reverse v.kinds)) (chosen ls last x.number))) y.place_is g.quiet) g.enters)

      by_many : (b : Bool) → nat_le (length ls) most_tested ≡ b
          → Enters (if b then steps_then (fetch place (codes "#a")) (table_items c.m c.n (R c) (L c) (all c) v (drop 1 (reverse v.kinds)) place 0 ls last) else looked_items c.m c.n (R c) (L c) (all c) v (drop 1 (reverse v.kinds)) place ls last) s Q
      by_many true q = tested_so (leb-true (length ls) most_tested q)
      by_many false q = look_on numbers c v d rest.low a s h ls last is e (leb-false (length ls) most_tested q) x.number x.others x.parts x.range

  -- ---- ways out of the piece

  do_br : (l : ℕ) (is : Code) → a.code ≡ cons (br l) is → Proceeds (op_items c.m c.n (R c) (L c) (all c) ks v (br l) later) s P
  do_br l is e =
      let low : d ≤ 16 = rest.low in
      let g = branch_on c d v a sees h.stands h.func h.typed rest.low (br l) is l 0 1 [] a.values e (by_br l) refl refl (move_is c.m c.st c.cs a (br l) is a.values e refl) (omega arith) s h.frame h.calm in
      still _ (acts_end Q (branch_acts c.m c.n (R c) (L c) (all c) v (reverse v.kinds) l) s g.enters)

  do_unreachable : (is : Code) → a.code ≡ cons unreachable is → Proceeds (op_items c.m c.n (R c) (L c) (all c) ks v unreachable later) s P
  do_unreachable is e =
      still _
      (acts_end Q (set_spot (scratch score_trap) (pos 1) ∷ []) s
      (acts_as _ Q (set_spot (scratch score_trap) (pos 1) ∷ []) s
      (λ t y. reaches_trap 0 0 c.cs a Unreachable (leads_nowhere c.m (at c.st c.cs a)) (move_is c.m c.st c.cs a unreachable is a.values e refl) y.0 y.1)
      (unreachable_does c.bs s h.calm)))

  -- the call's end, after so many steps
  returns_so : (b : Activation) (steps : ℕ) (us : List Value) → b.func ≡ c.n → Leads c.m steps (at c.st c.cs a) (at c.st c.cs b) → move c.m c.st (running c.cs b) ≡ handed c.st c.cs us → us ≡ take (R c) (operands a)
      → Enters (acts_then (return_acts (widths (take (R c) (reverse v.kinds))) (top_place (L c) v)) no_more) s Q
  returns_so b steps us same l e k =
      let g = return_on c d a b steps (operands a) us s 0 same h.typed l e k h.frame h.calm rest.low in
      subst (λ (ts : List ValType). Enters (acts_then (return_acts (widths (take (R c) ts)) (top_place (L c) v)) no_more) s Q) (sym sees.back)
      (subst (λ (j : ℕ). Enters (acts_then (return_acts (widths (take (R c) (types_of (operands a)))) j) no_more) s Q) (sym sees.top)
      (acts_end Q (return_acts (widths (take (R c) (types_of (operands a)))) (top_of a.locals (operands a))) s g.enters))

  do_return : (is : Code) → a.code ≡ cons return is → Proceeds (op_items c.m c.n (R c) (L c) (all c) ks v return later) s P
  do_return is e =
      let y = c.moves.returns c.m c.program.valid a v h.stands is e in
      let few : R c ≤ length a.values = subst (λ (j : ℕ). j ≤ length a.values) sees.results (top_enough a.results a.values y.0 y.1) in
      let is_us : y.0 ≡ take (R c) (operands a) =
      top_taken a.results a.values y.0 y.1 ∙ (ap (λ (j : ℕ). take j a.values) sees.results ∙ sym (take-append-le (R c) a.values (under a.levels) few)) in
      still _ (returns_so a 0 y.0 h.func (leads_nowhere c.m (at c.st c.cs a)) (move_is c.m c.st c.cs a return is a.values e refl ∙ ap (handed_some c.st c.cs) y.1) is_us)

  do_end : a.code ≡ nil → Proceeds (code_items c.m c.n (R c) (L c) (all c) ks v nil later) s P
  do_end e = by_end (c.moves.leave c.m c.program.valid c.st c.cs a v h.stands e)
    where
      by_end : move_law.Left c.m c.st c.cs a v → Proceeds (leave_by c.m c.n (R c) (L c) (all c) v (labelled v.blocks 0) later) s P
      by_end (behind_block x b lab moves same comes ops) =
          let w : Way = way (path_behind (block_path v.path x)) (types_of (operands a)) in
          let among_them : In w (code_ways (S c) nil v.path v.blocks (types_of (operands a))) =
          subst (λ (o : Option Around). In w (option_to_list (option_map (λ y. way (path_behind (block_path v.path y)) (types_of (operands a))) o))) (sym lab) (inl refl) in
          let there : In w (ways (S c) v) =
          subst (λ (y : Code). In w (code_ways (S c) y v.path v.blocks (reverse v.kinds))) (sym (sees.rest ∙ e)) (subst (λ (ts : List ValType). In w (code_ways (S c) nil v.path v.blocks ts)) (sym sees.back) among_them) in
          let framed : Frame (size c) b.locals (operands b) s.places =
          subst (λ (ls : List Value). Frame (size c) ls (operands b) s.places) (sym same.locals) (subst (λ (os : List Value). Frame (size c) a.locals os s.places) (sym ops) h.frame) in
          subst (λ (o : Option Around). Proceeds (leave_by c.m c.n (R c) (L c) (all c) v o later) s P) (sym lab)
          (by_way w b s moves (same.func ∙ h.func) there comes framed h.calm h.stored (subst (λ (x : Code). AreKnown (knowns_at ks x) b.locals (operands b)) (sym (sees.rest ∙ e)) (tt, subst (LocalsKnown ks.locals) (sym same.locals) are_known.1)))
      by_end (out_of_body b lab moves hand own long) =
          let many : length (operands a) ≡ R c = ap length (sym own) ∙ (long ∙ sees.results) in
          let whole : a.values ≡ take (R c) (operands a) = own ∙ (sym (take-length (operands a)) ∙ ap (λ (j : ℕ). take j (operands a)) many) in
          subst (λ (o : Option Around). Proceeds (leave_by c.m c.n (R c) (L c) (all c) v o later) s P) (sym lab)
          (still _ (returns_so b 1 a.values ((c.moves.functions c.m c.st c.cs a 1 c.st b moves).0 ∙ h.func) (moved_once c.m c.st c.cs 1 a b moves) hand whole))

  -- ---- all of them

  do_op : (i : Op) (is : Code) → a.code ≡ cons i is → Proceeds (op_items c.m c.n (R c) (L c) (all c) ks v i later) s P
  do_op unreachable is e = do_unreachable is e
  do_op nop is e = do_nop is e
  do_op drop_one is e = do_drop is e
  do_op select is e = do_select is e
  do_op (local_get x) is e = do_get x is e
  do_op (local_set x) is e = do_set x is e
  do_op (local_tee x) is e = do_tee x is e
  do_op (global_get x) is e = do_global_get x is e
  do_op (global_set x) is e = do_global_set x is e
  do_op (load op align offset) is e = do_access (load op align offset) is _ e (λ ts. inl refl) (loads_on h works is ks are_known op align offset e)
  do_op (store op align offset) is e = do_access (store op align offset) is _ e (λ ts. inl refl) (stores_on h works is ks are_known op align offset e)
  do_op memory_size is e = do_size is e
  do_op memory_grow is e = grow_on c v d rest.low a s h works is e
  do_op memory_fill is e = fill_on c v d rest.low a s h works is e
  do_op memory_copy is e = copy_on c v d rest.low a s h works is e
  do_op (const z) is e = do_const z is e
  do_op (num op) is e = do_num op is e
  do_op (br l) is e = do_br l is e
  do_op (br_if l) is e = do_br_if l is e
  do_op (br_table ls l) is e = do_br_table ls l is e
  do_op return is e = do_return is e
  do_op (call f) is e = still _ (call_on c v d rest.low a s h f is e)
  do_op (call_indirect n) is e = still _ (indirect_on c targets h.stored.table v d rest.low a s h n is e)
  do_op (block ty body) is e = do_block ty body is e
  do_op (loop ty body) is e = do_loop ty body is e
  do_op (if_else ty one other) is e = do_if ty one other is e
  do_op (float opcode) is e = absurd (ruled h (float opcode) is e).rule
  do_op mul64 is e = absurd (ruled h mul64 is e).rule

  do_code : (is : Code) → a.code ≡ is → Proceeds (code_items c.m c.n (R c) (L c) (all c) ks v is later) s P
  do_code nil e = do_end e
  do_code (cons i is) e = do_op i is e

  -- what the items of the place do
  pub do_place : Proceeds (code_items c.m c.n (R c) (L c) (all c) ks v v.rest later) s (Attain c d a)
  do_place = subst (λ (is : Code). Proceeds (code_items c.m c.n (R c) (L c) (all c) ks v is later) s P) (sym sees.rest) (do_code a.code refl)
