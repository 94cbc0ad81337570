-- A comparison of which no number is made, and the instruction that tests it.
use Rattle.std.proofs.Common.{◌≡◌, ℕ, ◌-◌, ◌≤◌, inl, List, [], ◌∷◌, ◌++◌, length, take, drop, reverse, true, Option, Some, None, refl, sym, ap, ◌∙◌, subst, append_assoc}
use Rattle.std.proofs.lemmas.List.{length-map, take-append-drop}
use Rattle.std.proofs.lemmas.List.Elements.{All-take}
use Rattle.std.proofs.Math.Seq.{drop-append_seam}
use Rattle.mc_nbt.specs.declared.value.Value.{Value}
use Rattle.mc_nbt.specs.declared.value.Value.TheVariants as values
use Rattle.wm_ast.specs.declared.answer.Answer.{Answer}
use Rattle.wm_ast.specs.declared.answer.Answer.TheVariants as answers
use Rattle.wm_ast.specs.declared.module.ValType.{ValType}
use Rattle.wm_ast.specs.declared.operation.NumOp.{NumOp}
use Rattle.wm_ast.specs.declared.operator.Operator.{Operator}
use Rattle.wm_ast.specs.Apply.{apply, operate}
use Rattle.wm_ast.specs.Code.{br_if, if_else, num, Code, cons}
use Rattle.wm_ast.specs.Operation.{num_type}
use Rattle.wm_ast.specs.Simple.{Executed, done, answered}
use Rattle.wm_ast.specs.Store.{Store}
use Rattle.wm_ast.specs.Types.{const_type, run_types}
use Rattle.wm_valid.specs.Arrows.{changed, by_arrow}
use Rattle.wm_valid.specs.InRange.{IsInRange}
use Rattle.wm_flat.specs.Flat.{Activation, running, goes, past, does, move}
use Rattle.wm_flat.specs.FlatTyping.{types_of}
use Rattle.wm_flat.specs.Operands.{under, operands}
use Rattle.wm_flat.proofs.SimpleTyping.{IsExecuted, simple_typed}
use Rattle.wm_flat.proofs.ValueLaws.{take_are}
use Rattle.wm_place.specs.Visit.{Visit}
use Rattle.cc_line.specs.Item.{Items, steps_items}
use Rattle.cc_line.specs.State.{State, set_places}
use Rattle.cc_line.specs.Routine.{value_ints}
use Rattle.cc_table.specs.Law.{NumbersAreFound, TargetsAreFound}
use Rattle.cc_cut.specs.Piece.{index_of}
use Rattle.cc_cut.specs.Way.{Way, way, path_behind}
use Rattle.cc_body.specs.Conditions.{tests_first, first_operand, condition_steps, is_so, is_not_so}
use Rattle.cc_body.specs.Emit.{steps_then, compared, test_items, places_items}
use Rattle.cc_body.specs.KnownConstants.{Knowns, fewer_known, knowns_at}
use Rattle.cc_body.specs.Layout.{top_place}
use Rattle.cc_body.proofs.ConditionLemmas.{Compared, compared_so}
use Rattle.cc_simulate.specs.Frame.{Frame}
use Rattle.cc_simulate.specs.Uses.{uses_bytes}
use Rattle.cc_simulate.proofs.Acts.{keeps_places, calm_places}
use Rattle.cc_simulate.proofs.Frames.{top_of, frame_push}
use Rattle.cc_simulate.proofs.Globals.{stored_kept}
use Rattle.cc_simulate.proofs.Knowns.{AreKnown, one_more}
use Rattle.cc_simulate.proofs.NumbersWork.{NumbersWork}
use Rattle.cc_simulate.proofs.Proceeding.{Proceeds, passes_proceed}
use Rattle.cc_simulate.proofs.SimulateKnown.{Ruled, enough, ruled, are_taken, parted, top_parted}
use Rattle.cc_simulate.proofs.SimulateMemory.{MemoryWorks}
use Rattle.cc_simulate.proofs.SimulateOps.{ByTest, Onward, onward_among, onward_comes, behind, left, by_move, paid, if_at, br_if_at}
use Rattle.cc_simulate.proofs.SimulateReach.{move_is, typed_after, Setting, L, R, size, all, Attain, Seen, seen, Here, Testing, ArrivedTesting, GoOn, lead_tested}
use Rattle.cc_simulate.proofs.Truths.{Compares, comparison_does, extent, so_steady, not_so_steady, so_fails, so_holds, not_so_fails, not_so_holds}
use Rattle.cc_simulate.proofs.Ways.{Rest, rest_on}

-- ---- the test

-- a comparison is tested at the first of these places of the piece
module _ (c : Setting) (numbers : NumbersAreFound) (targets : TargetsAreFound) (works : MemoryWorks) (sums : NumbersWork) (ks : Knowns) (v : Visit) (vs : List Visit) (d : ℕ) (rest : Rest c.m c.n c.f c.t c.q d (v ∷ vs)) (q : Operator) (a : Activation) (s : State) (p : Testing c q v a s)
    (are_known : AreKnown ks a.locals (operands a)) (go : (now : Store) (i : ℕ) → Rest c.m c.n c.f c.t c.q i vs → GoOn (record c { st = now }) i (knowns_at ks v.rest) None vs) where
  abbrev later : Items
  later = places_items c.m c.n (R c) (L c) (all c) (knowns_at ks v.rest) None vs

  abbrev place : ℕ
  place = top_place (L c) v - 1

  abbrev others : List Value
  others = p.others ++ under a.levels

  -- the state in which the number stands in its place
  abbrev whole : State
  whole = record s { places = set_places s.places (top_of a.locals others) (value_ints (values.I32 p.number)) }

  sees : Seen c v a
  sees = seen c v a p.stands p.func

  operands_are : operands a ≡ values.I32 p.number ∷ others
  operands_are = ap (λ (us : List Value). us ++ under a.levels) p.parts

  room : top_of a.locals (values.I32 p.number ∷ others) ≤ size c
  room = subst (λ (os : List Value). top_of a.locals os ≤ size c) operands_are sees.room

  here : Here c v a whole
  here = record {
    func = p.func;
    stands = p.stands;
    frame = subst (λ (os : List Value). Frame (size c) a.locals os whole.places) (sym operands_are) (frame_push (size c) a.locals (values.I32 p.number) others s.places p.frame room);
    calm = calm_places c.bs s whole refl refl p.calm;
    typed = p.typed;
    stored = stored_kept c.m c.st s whole (keeps_places s whole refl refl) p.stored;
  }

  so : ByTest c v a p.others (is_so q place) s
  so = record { reach = extent q place; steady = so_steady q place; within = p.decides.within; frame = p.frame; calm = p.calm; stored = p.stored }

  not_so : ByTest c v a p.others (is_not_so q place) s
  not_so = record { reach = extent q place; steady = not_so_steady q place; within = p.decides.within; frame = p.frame; calm = p.calm; stored = p.stored }

  do_code : (is : Code) → a.code ≡ is → tests_first is ≡ true → Proceeds (test_items c.m c.n (R c) (L c) (all c) q v is later) s (Attain c d a)
  do_code (cons (if_else ty one other) is) e t =
      if_at c numbers targets works sums ks v vs d rest a whole here are_known go ty one other is p.number p.others e p.parts (is_not_so q place) s not_so (not_so_holds q place p.number s p.decides) (not_so_fails q place p.number s p.decides)
  do_code (cons (br_if l) is) e t =
      br_if_at c numbers targets works sums ks v vs d rest a whole here are_known go l is p.number p.others e p.parts (is_so q place) s so (so_fails q place p.number s p.decides) (so_holds q place p.number s p.decides)
  do_code _ e t = absurd cc

  -- what the items of the place do
  pub do_test : Proceeds (test_items c.m c.n (R c) (L c) (all c) q v v.rest later) s (Attain c d a)
  do_test = subst (λ (is : Code). Proceeds (test_items c.m c.n (R c) (L c) (all c) q v is later) s (Attain c d a)) (sym sees.rest) (do_code a.code refl p.tests)

-- ---- the comparison

-- one stands at the first of these places, and the next one tests it
module _ (c : Setting) (numbers : NumbersAreFound) (targets : TargetsAreFound) (works : MemoryWorks) (sums : NumbersWork) (ks : Knowns) (v : Visit) (vs : List Visit) (d : ℕ) (rest : Rest c.m c.n c.f c.t c.q d (v ∷ vs)) (a : Activation) (s : State) (h : Here c v a s) (are_known : AreKnown ks a.locals (operands a))
    (go : (now : Store) (i : ℕ) → Rest c.m c.n c.f c.t c.q i vs → GoOn (record c { st = now }) i (knowns_at ks v.rest) None vs) (q : Operator) (so : compared c.m c.n (R c) (L c) (all c) v ≡ Some q) (next : Rest c.m c.n c.f c.t c.q 0 vs → GoOn c 0 (knowns_at ks v.rest) (Some q) vs) where
  seen_here : Seen c v a
  seen_here = seen c v a h.stands h.func

  found : (index_of (all c) (path_behind v.path) ≡ None) × Compared v.rest q
  found = compared_so (index_of (all c) (path_behind v.path)) v.rest q so

  abbrev op : NumOp
  op = found.1.op

  abbrev is : Code
  is = found.1.rest

  code : a.code ≡ cons (num op) is
  code = sym seen_here.rest ∙ found.1.parts

  abbrev k : ℕ
  k = length (num_type op).takes

  abbrev us : List Value
  us = take k a.values

  abbrev left_values : List Value
  left_values = drop k a.values

  abbrev os : List Value
  os = left_values ++ under a.levels

  r : Ruled c.m a (num op)
  r = ruled h (num op) is code

  types : types_of a.values ≡ (num_type op).takes ++ r.below
  types = r.types ∙ ap (λ (l : List ValType). l ++ r.below) r.rule.0

  parts : a.values ≡ us ++ left_values
  parts = sym (take-append-drop k a.values)

  whole_values : (us ++ left_values) ++ under a.levels ≡ us ++ os
  whole_values = append_assoc us left_values (under a.levels)

  framed : Frame (size c) a.locals (us ++ os) s.places
  framed = parted h (us ++ left_values) (us ++ os) parts whole_values

  abbrev Says : Executed → Type 0
  Says x = IsExecuted c.m (h.typed.flat.1.params ++ run_types h.typed.flat.0.locals) (r.takes ++ r.below) (r.gives ++ r.below) x

  said : Says (answered c.m c.st a.locals left_values (apply op (reverse us)))
  said =
      simple_typed c.m c.st h.typed.flat.0 h.typed.flat.1 a.locals [] h.typed.store h.typed.flat.2.locals (num op) r.takes r.gives r.below a.values tt r.rule
      (record { types = r.types; range = r.range })

  taken : types_of us ≡ (num_type op).takes
  taken = (take_are k (num_type op).takes r.below a.values refl (are_taken h (num op) r (num_type op).takes r.rule.0)).types

  long : length us ≡ k
  long = sym (length-map us const_type) ∙ ap length taken

  does_so : (o : Option Answer) → apply op (reverse us) ≡ o → move c.m c.st (running c.cs a) ≡ does c.m c.st c.cs a (num op) is (answered c.m c.st a.locals left_values o)
  does_so o e = move_is c.m c.st c.cs a (num op) is a.values code refl ∙ ap (λ x. does c.m c.st c.cs a (num op) is (answered c.m c.st a.locals left_values x)) e

  compares_so : (o : Answer) → apply op (reverse us) ≡ Some o → (first_operand q (top_of a.locals (us ++ os)) ≡ top_of a.locals os) × Compares (uses_bytes c.m) c.bs (size c) a.locals os q (top_of a.locals os) s o
  compares_so o e =
      comparison_does c.bs (size c) a.locals s h.calm q found.1.compares us os o (sym (ap (λ (x : Operator). operate x (reverse us)) found.1.is_operator) ∙ e) (All-take IsInRange k a.values r.range) framed

  abbrev after : Items
  after = places_items c.m c.n (R c) (L c) (all c) (knowns_at ks v.rest) (Some q) vs

  by_value : (u : Value) → apply op (reverse us) ≡ Some (answers.Value u) → Proceeds (steps_then (condition_steps q (first_operand q (top_place (L c) v))) after) s (Attain c d a)
  by_value u e =
      let w = compares_so (answers.Value u) e in
      let x : Says (done c.st a.locals (u ∷ left_values)) = subst (λ (o : Option Answer). Says (answered c.m c.st a.locals left_values o)) e said in
      let rest_types : drop k (types_of a.values) ≡ r.below = ap (λ (l : List ValType). drop k l) types ∙ drop-append_seam (num_type op).takes r.below in
      let o : Onward c numbers targets works sums ks v vs d rest a s h are_known go (num op) is a.locals (u ∷ left_values) = record {
        code = code;
        made = by_arrow (num_type op);
        changes_so = refl;
        few = enough (num_type op).takes r.below a.values types;
        types = x.2.types ∙ (ap (λ (l : List ValType). l ++ r.below) r.rule.1 ∙ ap (λ (l : List ValType). (num_type op).gives ++ l) (sym rest_types));
        locals = refl;
        on = λ ts. inl refl;
      } in
      let b : Activation = past a (num op) is a.locals (u ∷ left_values) in
      let moves : move c.m c.st (running c.cs a) ≡ goes 1 c.st (running c.cs b) = does_so (Some (answers.Value u)) e in
      let y : Way = way (path_behind v.path) (changed (by_arrow (num_type op)) (types_of (operands a))) in
      let number_is : u ≡ values.I32 w.1.number = value_is u (values.I32 w.1.number) w.1.answers_so in
      let arrived : ArrivedTesting c q y b w.1.state = record {
        func = h.func;
        comes = onward_comes c numbers targets works sums ks v vs d rest a s h are_known go (num op) is a.locals (u ∷ left_values) o;
        number = w.1.number;
        others = left_values;
        parts = ap (λ (z : Value). z ∷ left_values) number_is;
        tests = found.1.tests;
        frame = w.1.frame;
        decides = w.1.decides;
        calm = w.1.calm;
        typed = typed_after c.m c.st c.cs c.program c.results c.st 1 a b h.typed moves;
        stored = stored_kept c.m c.st s w.1.state w.1.passes.keeps h.stored;
      } in
      let known : AreKnown (knowns_at ks v.rest) a.locals (operands b) =
      behind c numbers targets works sums ks v vs d rest a s h are_known go (num op) is a.locals (u ∷ os) code
      (one_more u (fewer_known k ks) a.locals os (left c numbers targets works sums ks v vs d rest a s h are_known go k us left_values parts long)) in
      let on : Rest c.m c.n c.f c.t c.q 0 vs = rest_on c.m c.n c.f c.t c.q d v vs rest in
      subst (λ (i : ℕ). Proceeds (steps_then (condition_steps q i) after) s (Attain c d a)) (sym (ap (first_operand q) (top_parted h (us ++ left_values) (us ++ os) parts whole_values) ∙ w.0))
      (passes_proceed (Attain c d a) (steps_items (condition_steps q (top_of a.locals os))) after s w.1.state w.1.passes
      (by_move c numbers targets works sums ks v vs d rest a s h are_known go c.st 1 0 b after w.1.state moves (paid c numbers targets works sums ks v vs d rest a s h are_known go)
      (lead_tested c 0 d (knowns_at ks v.rest) q v vs rest y (onward_among c numbers targets works sums ks v vs d rest a s h are_known go (num op) is a.locals (u ∷ left_values) o) found.0 b w.1.state arrived known (next on))))
    where
      value_is : (u w : Value) → answers.Value u ≡ answers.Value w → u ≡ w
      value_is u w e = cc

  by_answer : (o : Option Answer) → apply op (reverse us) ≡ o → Proceeds (steps_then (condition_steps q (first_operand q (top_place (L c) v))) after) s (Attain c d a)
  by_answer None e = absurd (subst (λ (o : Option Answer). Says (answered c.m c.st a.locals left_values o)) e said)
  by_answer (Some (answers.Value u)) e = by_value u e
  by_answer (Some (answers.Trap t)) e =
      let w = compares_so (answers.Trap t) e in
      absurd (let x : answers.Trap t ≡ answers.Value (values.I32 w.1.number) = w.1.answers_so in cc)

  -- what the items of the place do
  pub do_comparison : Proceeds (steps_then (condition_steps q (first_operand q (top_place (L c) v))) after) s (Attain c d a)
  do_comparison = by_answer (apply op (reverse us)) refl
