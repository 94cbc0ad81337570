-- What the items of instructions that go on make of a state that has a frame.
use Rattle.std.proofs.Common.{◌≡◌, ℕ, suc, ◌+◌, ◌-◌, ◌<◌, ◌≤◌, inl, inr, ◌⊎◌, List, [], ◌∷◌, ◌++◌, length, map, reverse, Option, Some, None, Bool, true, false, refl, sym, ap, ◌∙◌, subst, arith, ℤ, pos, slice_get, slice_set, unwrap_or, All, codes, if◌then◌else◌, length-set}
use Rattle.mc_nbt.specs.Tree.{int}
use Rattle.mc_nbt.specs.declared.value.Value.{Value}
use Rattle.mc_nbt.specs.declared.value.Value.TheVariants as values
use Rattle.wm_ast.specs.declared.answer.Answer.{Answer}
use Rattle.wm_ast.specs.declared.answer.Answer.TheVariants as answers
use Rattle.wm_ast.specs.declared.answer.TrapKind.{TrapKind}
use Rattle.wm_ast.specs.declared.operation.NumOp.{NumOp}
use Rattle.wm_ast.specs.Apply.{apply}
use Rattle.wm_ast.specs.Operation.{num_type}
use Rattle.wm_ast.specs.Operator.{operator_of}
use Rattle.wm_ast.specs.Types.{const_type}
use Rattle.wm_ast.specs.Simple.{if_nonzero}
use Rattle.wm_flat.specs.FlatTyping.{types_of}
use Rattle.wm_valid.specs.InRange.{IsInRange}
use Rattle.cc_line.specs.Sight.{in_io}
use Rattle.cc_line.specs.Key.{key_state, score_trap}
use Rattle.cc_line.specs.Running.{Kept}
use Rattle.cc_line.specs.State.{State, place_at, read, with_place, set_places}
use Rattle.cc_line.specs.Step.{Act, when}
use Rattle.cc_line.specs.Core.{fetch}
use Rattle.cc_line.specs.Item.{Items, no_more, join, steps_items}
use Rattle.cc_line.specs.Standing.{takes_bytes}
use Rattle.cc_line.specs.Routine.{Traps, Performs, AreAt, value_ints, values_ints, answer_places, trap_number, outcome_of}
use Rattle.cc_line.proofs.RunLemmas.{steps_joined}
use Rattle.cc_line.proofs.StandingLemmas.{standing_less}
use Rattle.cc_cut.specs.Law.{width, widths}
pub use Rattle.cc_simulate.proofs.Leaving.{Carries, Gone, Returned, carry_does, return_does, goto_does, landing_does, gone_enters, unreachable_does, table_enters}
use Rattle.cc_body.specs.Behind.{division_of}
use Rattle.cc_body.specs.Emit.{tested, is_zero, is_of_i32, short_below, long_items, num_below, num_by, value_acts, constant_acts, carry_acts, carry_steps, select_steps}
use Rattle.cc_access.specs.KnownLaw.{IsOperand}
use Rattle.cc_known.specs.Choice.{chosen_items}
use Rattle.cc_known.specs.Law as known
use Rattle.cc_known.proofs.Choices.{chosen_is, chosen_perform}
use Rattle.cc_body.specs.KnownConstants.{Knowns, known_last, known_next}
use Rattle.cc_body.specs.Layout.{local_place}
use Rattle.cc_simulate.specs.Frame.{stack_ints, Frame}
use Rattle.cc_simulate.specs.Stands.{RunsOver}
use Rattle.cc_simulate.specs.Law.{Enters}
use Rattle.cc_simulate.proofs.Frames.{value_length, types_append, widths_append, top_of, one_below, two_below, value_below, Stand, stand_at, frame_top, frame_same, frame_drop, frame_pop, frame_last, frame_push, frame_swap, frame_stand, frame_local, local_within, frame_local_set, moved, moved_stand}
use Rattle.cc_simulate.proofs.Acts.{acts_then, after_acts, ActsReady, keeps_places, calm_places, keeps_replaced, calm_replaced, unwritten_is_no_work, Passes, Halts, passes_none, passes_join, join_halts, acts_pass, is_tested, Tested, zero_holds, zero_fails, ZeroCase, zero_is, zero_isnt, zero_case, tested_acts_pass, tested_acts_skipped}
use Rattle.cc_simulate.proofs.NumbersWork.{NumbersWork}
use Rattle.cc_simulate.proofs.Leaving.{carry_leaves, carry_ready, carry_quiet}
use Rattle.cc_simulate.proofs.Knowns.{AreKnown, last_known, next_known}
use Rattle.cc_simulate.proofs.Operating.{ShortOp, chosen_two, of_one, of_two, short_op, long_performs, turned, first_in_range, second_in_range, values_turned, turned_in_range}

-- ---- what items make of a state with a frame

-- they lead on, to a state with this frame, which is calm again
pub record Makes (bytes : Bool) (bs : List Kept) (size : ℕ) (ls os : List Value) (xs : Items) (s : State) : Type 0 where
  pub state : State
  pub passes : Passes xs s state
  pub frame : Frame size ls os state.places
  pub calm : RunsOver bytes bs state

-- they record a trap and end their list
pub record Fails (k : TrapKind) (xs : Items) (s : State) : Type 0 where
  pub state : State
  pub halts : Halts xs s state
  pub recorded : state.scores score_trap ≡ Some (pos (trap_number k))
  pub running : state.keys in_io key_state ≡ Some (int (pos 1))

-- so does a routine that traps
pub traps_fail : {bytes : Bool} (bs : List Kept) (k : TrapKind) (xs : Items) (s : State) → RunsOver bytes bs s → Traps xs s (trap_number k) → Fails k xs s
traps_fail bs k xs s calm g = record {
  state = g.state;
  halts = record { ready = g.ready; used = g.used; ends = g.ends; keeps = record { keys = λ q j w. g.keys q j (unwritten_is_no_work q j w); scores = g.scores } };
  recorded = g.recorded;
  running = g.keys in_io key_state refl ∙ calm.state;
}

-- what an operation answers is over these operands
abbrev pub Answers : Bool → List Kept → ℕ → List Value → List Value → Items → State → Answer → Type 0
Answers bytes bs size ls os xs s (answers.Value v) = Makes bytes bs size ls (v ∷ os) xs s
Answers bytes bs size ls os xs s (answers.Trap k) = Fails k xs s

pub fails_enters : (P : State → Type 0) (k : TrapKind) (xs ys : Items) (s : State) (f : Fails k xs s) → P f.state → Enters (join xs ys) s P
fails_enters P k xs ys s f p = join_halts P xs ys s f.state f.halts p

-- ---- values that come to places

pub values_leave : (zs : List ℤ) (i : ℕ) (s : State) → (let t : State = after_acts (value_acts zs i) s in (t.places ≡ set_places s.places i zs) × (t.keys ≡ s.keys) × (t.scores ≡ s.scores))
values_leave [] i s = (refl, refl, refl)
values_leave (z ∷ zs) i s = values_leave zs (suc i) (with_place s i z)

values_ready : (zs : List ℤ) (i : ℕ) (s : State) → i + length zs ≤ length s.places → ActsReady (value_acts zs i) s
values_ready [] i s l = tt
values_ready (z ∷ zs) i s l =
    let long : length (slice_set s.places i z) ≡ length s.places = length-set s.places i z in
    let a : i < length s.places = omega arith in
    let b : suc i + length zs ≤ length (slice_set s.places i z) = omega arith in
    (a, values_ready zs (suc i) (with_place s i z) b)

-- a value that is copied from where it stands apart
carries_value : (v : Value) (from to n : ℕ) (s : State) → length (value_ints v) ≡ n → (to + n ≤ from) ⊎ (from + n ≤ to) → Stand s.places from (value_ints v)
    → (let t : State = after_acts (carry_acts n from to) s in (t.places ≡ set_places s.places to (value_ints v)) × (t.keys ≡ s.keys) × (t.scores ≡ s.scores))
carries_value v from to n s wide d h =
    let c = carry_leaves n from to s in
    let apart : (to + length (value_ints v) ≤ from) ⊎ (from + length (value_ints v) ≤ to) = subst (λ j. (to + j ≤ from) ⊎ (from + j ≤ to)) (sym wide) d in
    (c.0 ∙ (ap (λ j. moved j from to s.places) (sym wide) ∙ moved_stand (value_ints v) s.places from to apart h), c.1, c.2)

-- ---- instructions that go on

module _ {bytes : Bool} (bs : List Kept) (size : ℕ) (ls : List Value) (s : State) (calm : RunsOver bytes bs s) where
  -- no items: operands may go
  pub nothing_does : (us os : List Value) → Frame size ls (us ++ os) s.places → Makes bytes bs size ls os no_more s
  nothing_does us os f = record { state = s; passes = passes_none s; frame = frame_drop size ls us os s.places f; calm = calm }

  -- acts that write places alone
  pub writes : (ls' os' : List Value) (acts : List Act) (zs : List ℤ) → ActsReady acts s → (let t : State = after_acts acts s in (t.places ≡ zs) × (t.keys ≡ s.keys) × (t.scores ≡ s.scores)) → Frame size ls' os' zs
      → Makes bytes bs size ls' os' (acts_then acts no_more) s
  writes ls' os' acts zs r (p, k, h) f = record {
    state = after_acts acts s;
    passes = acts_pass acts s r (keeps_places s (after_acts acts s) k h);
    frame = frame_same size ls' os' zs (after_acts acts s).places p f;
    calm = calm_places bs s (after_acts acts s) k h calm;
  }

  -- the ints of a value come to the places above the operands
  pub pushes : (v : Value) (os : List Value) (acts : List Act) → ActsReady acts s
      → (let t : State = after_acts acts s in (t.places ≡ set_places s.places (top_of ls os) (value_ints v)) × (t.keys ≡ s.keys) × (t.scores ≡ s.scores))
      → Frame size ls os s.places → top_of ls (v ∷ os) ≤ size → Makes bytes bs size ls (v ∷ os) (acts_then acts no_more) s
  pushes v os acts r w f l = writes ls (v ∷ os) acts (set_places s.places (top_of ls os) (value_ints v)) r w (frame_push size ls v os s.places f l)

  pub constant_does : (v : Value) (os : List Value) → Frame size ls os s.places → top_of ls (v ∷ os) ≤ size → Makes bytes bs size ls (v ∷ os) (acts_then (constant_acts v (top_of ls os)) no_more) s
  constant_does v os f l =
      let sized = f.sized in
      let wide = value_length v in
      let room : top_of ls os + length (value_ints v) ≤ length s.places = omega arith in
      pushes v os (constant_acts v (top_of ls os)) (values_ready (value_ints v) (top_of ls os) s room) (values_leave (value_ints v) (top_of ls os) s) f l

  pub local_get_does : (x : ℕ) (v : Value) (os : List Value) (n : ℕ) → slice_get ls x ≡ Some v → n ≡ width (const_type v) → Frame size ls os s.places → top_of ls (v ∷ os) ≤ size
      → Makes bytes bs size ls (v ∷ os) (acts_then (carry_acts n (local_place (types_of ls) x) (top_of ls os)) no_more) s
  local_get_does x v os n e is f l =
      let sized = f.sized in
      let w = local_within size ls x v e in
      let to_fits : top_of ls os + n ≤ length s.places = omega arith in
      let below : local_place (types_of ls) x + n ≤ top_of ls os = omega arith in
      let from_fits : local_place (types_of ls) x + n ≤ length s.places = omega arith in
      pushes v os (carry_acts n (local_place (types_of ls) x) (top_of ls os)) (carry_ready n (local_place (types_of ls) x) (top_of ls os) s to_fits from_fits)
      (carries_value v (local_place (types_of ls) x) (top_of ls os) n s (value_length v ∙ sym is) (inr below) (frame_local size ls x v os s.places f e)) f l

  -- the last operand to a local
  to_local : (x : ℕ) (u v : Value) (os os' : List Value) (n : ℕ) → slice_get ls x ≡ Some u → const_type v ≡ const_type u → n ≡ width (const_type v) → Frame size ls (v ∷ os) s.places → Frame size ls os' s.places
      → Makes bytes bs size (slice_set ls x v) os' (acts_then (carry_acts n (top_of ls (v ∷ os) - n) (local_place (types_of ls) x)) no_more) s
  to_local x u v os os' n e k is f g =
      let at : top_of ls (v ∷ os) - n ≡ top_of ls os = ap (λ j. top_of ls (v ∷ os) - j) is ∙ value_below ls os v in
      let same : width (const_type v) ≡ width (const_type u) = ap width k in
      let w = local_within size ls x u e in
      let top = frame_top size ls (v ∷ os) s.places f in
      let to : ℕ = local_place (types_of ls) x in
      let below : to + n ≤ top_of ls os = omega arith in
      let from_fits : top_of ls os + n ≤ length s.places = omega arith in
      let to_fits : to + n ≤ length s.places = omega arith in
      subst (λ j. Makes bytes bs size (slice_set ls x v) os' (acts_then (carry_acts n j to) no_more) s) (sym at)
      (writes (slice_set ls x v) os' (carry_acts n (top_of ls os) to) (set_places s.places to (value_ints v)) (carry_ready n (top_of ls os) to s to_fits from_fits)
      (carries_value v (top_of ls os) to n s (value_length v ∙ sym is) (inl below) (frame_stand size ls (v ∷ []) os s.places f)) (frame_local_set size ls x u v os' s.places g e k))

  pub local_set_does : (x : ℕ) (u v : Value) (os : List Value) (n : ℕ) → slice_get ls x ≡ Some u → const_type v ≡ const_type u → n ≡ width (const_type v) → Frame size ls (v ∷ os) s.places
      → Makes bytes bs size (slice_set ls x v) os (acts_then (carry_acts n (top_of ls (v ∷ os) - n) (local_place (types_of ls) x)) no_more) s
  local_set_does x u v os n e k is f = to_local x u v os os n e k is f (frame_pop size ls v os s.places f)

  pub local_tee_does : (x : ℕ) (u v : Value) (os : List Value) (n : ℕ) → slice_get ls x ≡ Some u → const_type v ≡ const_type u → n ≡ width (const_type v) → Frame size ls (v ∷ os) s.places
      → Makes bytes bs size (slice_set ls x v) (v ∷ os) (acts_then (carry_acts n (top_of ls (v ∷ os) - n) (local_place (types_of ls) x)) no_more) s
  local_tee_does x u v os n e k is f = to_local x u v os (v ∷ os) n e k is f f

-- a value of n ints that is chosen by a number, where the places of the three begin at these
module _ {bytes : Bool} (bs : List Kept) (size : ℕ) (ls : List Value) (s : State) (calm : RunsOver bytes bs s) (c : ℤ) (b a : Value) (os : List Value) (n third second first : ℕ) (wide : n ≡ width (const_type a)) (same : const_type b ≡ const_type a)
    (at_third : third ≡ top_of ls (b ∷ (a ∷ os))) (at_second : second ≡ top_of ls (a ∷ os)) (at_first : first ≡ top_of ls os) (f : Frame size ls (values.I32 c ∷ (b ∷ (a ∷ os))) s.places) where
  two_left : Frame size ls (b ∷ (a ∷ os)) s.places
  two_left = frame_pop size ls (values.I32 c) (b ∷ (a ∷ os)) s.places f

  one_left : Frame size ls (a ∷ os) s.places
  one_left = frame_pop size ls b (a ∷ os) s.places two_left

  abbrev acts : List Act
  acts = carry_acts n second first

  abbrev xs : Items
  xs = join (steps_items (fetch third (codes "#a"))) (steps_items (map (when (is_zero third)) acts))

  long_b : length (value_ints b) ≡ n
  long_b = value_length b ∙ (ap width same ∙ sym wide)

  reads_number : (t : State) → Tested third s t → read t (tested third) ≡ Some c
  reads_number t w = w.reads ∙ (ap (λ k. Some (place_at s k)) at_third ∙ ap Some (frame_last size ls c (b ∷ (a ∷ os)) s.places f).0)

  choosing : (t : State) → Tested third s t → ZeroCase c → Makes bytes bs size ls (if_nonzero c a b ∷ os) xs s
  choosing t w (zero_is z chooses) =
      let top = frame_top size ls (b ∷ (a ∷ os)) s.places two_left in
      let long : length t.places ≡ length s.places = ap length w.places in
      let wide_a = wide in
      let wide_b : width (const_type b) ≡ n = ap width same ∙ sym wide in
      let p = at_third in
      let q = at_second in
      let r = at_first in
      let to_fits : first + n ≤ length t.places = omega arith in
      let from_fits : second + n ≤ length t.places = omega arith in
      let apart : first + n ≤ second = omega arith in
      let below : first + n ≤ third = omega arith in
      let stands : Stand t.places second (value_ints b) =
      subst (λ (zs : List ℤ). Stand zs second (value_ints b)) (sym w.places) (subst (λ j. Stand s.places j (value_ints b)) (sym at_second) (frame_stand size ls (b ∷ []) (a ∷ os) s.places two_left))
      in
      let u : State = after_acts acts t in
      let leads = carries_value b second first n t long_b (inl apart) stands in
      let places : u.places ≡ set_places s.places (top_of ls os) (value_ints b) = leads.0 ∙ (ap (λ (zs : List ℤ). set_places zs first (value_ints b)) w.places ∙ ap (λ j. set_places s.places j (value_ints b)) at_first) in
      let made : Makes bytes bs size ls (b ∷ os) xs s = record {
        state = u;
        passes = passes_join (steps_items (fetch third (codes "#a"))) (steps_items (map (when (is_zero third)) acts)) s t u w.passes
            (tested_acts_pass third (is_zero third) acts t (refl, tt) w.within (carry_quiet third n second first below) (zero_holds third t c (reads_number t w) z) (carry_ready n second first t to_fits from_fits) (keeps_places t u leads.1 leads.2));
        frame = frame_same size ls (b ∷ os) (set_places s.places (top_of ls os) (value_ints b)) u.places places (frame_swap size ls a b os s.places same one_left);
        calm = calm_places bs t u leads.1 leads.2 (w.calm bs calm);
      } in
      subst (λ (v : Value). Makes bytes bs size ls (v ∷ os) xs s) (sym (chooses Value a b)) made
  choosing t w (zero_isnt z chooses) =
      let made : Makes bytes bs size ls (a ∷ os) xs s = record {
        state = t;
        passes = passes_join (steps_items (fetch third (codes "#a"))) (steps_items (map (when (is_zero third)) acts)) s t t w.passes
            (tested_acts_skipped third (is_zero third) acts t (refl, tt) w.within (zero_fails third t c (reads_number t w) z));
        frame = frame_same size ls (a ∷ os) s.places t.places w.places one_left;
        calm = w.calm bs calm;
      } in
      subst (λ (v : Value). Makes bytes bs size ls (v ∷ os) xs s) (sym (chooses Value a b)) made

  selects : Makes bytes bs size ls (if_nonzero c a b ∷ os) (steps_items (fetch third (codes "#a") ++ carry_steps (is_zero third) n second first)) s
  selects =
      let last = frame_last size ls c (b ∷ (a ∷ os)) s.places f in
      let w = is_tested third s (subst (λ k. k < length s.places) (sym at_third) last.1) in
      subst (λ (ys : Items). Makes bytes bs size ls (if_nonzero c a b ∷ os) ys s) (sym (steps_joined (fetch third (codes "#a")) (carry_steps (is_zero third) n second first)))
      (choosing w.0 w.1 (zero_case c))

module _ {bytes : Bool} (bs : List Kept) (size : ℕ) (ls : List Value) (s : State) (calm : RunsOver bytes bs s) where
  -- with h the place above all three
  pub select_does : (c : ℤ) (b a : Value) (os : List Value) (n h : ℕ) → n ≡ width (const_type a) → const_type b ≡ const_type a → h ≡ top_of ls (values.I32 c ∷ (b ∷ (a ∷ os))) → Frame size ls (values.I32 c ∷ (b ∷ (a ∷ os))) s.places
      → Makes bytes bs size ls (if_nonzero c a b ∷ os) (steps_items (select_steps n h)) s
  select_does c b a os n h wide same e f =
      let third : h - 1 ≡ top_of ls (b ∷ (a ∷ os)) = ap (λ k. k - 1) e ∙ one_below ls (b ∷ (a ∷ os)) c in
      let wide_b : n ≡ width (const_type b) = wide ∙ ap width (sym same) in
      let second : h - 1 - n ≡ top_of ls (a ∷ os) = ap (λ k. k - n) third ∙ (ap (λ j. top_of ls (b ∷ (a ∷ os)) - j) wide_b ∙ value_below ls (a ∷ os) b) in
      let first : h - 1 - n - n ≡ top_of ls os = ap (λ k. k - n) second ∙ (ap (λ j. top_of ls (a ∷ os) - j) wide ∙ value_below ls os a) in
      selects bs size ls s calm c b a os n (h - 1) (h - 1 - n) (h - 1 - n - n) wide same third second first f

  -- what is performed into the places above the operands os
  answered : (xs : Items) (os : List Value) (r : ℕ) (o : Answer) → r ≡ top_of ls os → Frame size ls os s.places → top_of ls os + answer_places o ≤ size → Performs xs s r (outcome_of o) → Answers bytes bs size ls os xs s o
  answered xs os r (answers.Value v) e f l g =
      let wide = value_length v in
      let room : top_of ls (v ∷ os) ≤ size = omega arith in
      record {
        state = g.state;
        passes = record { ready = g.ready; used = g.used; ends = g.ends; keeps = keeps_replaced s g.state r (value_ints v) g.replaced };
        frame = frame_same size ls (v ∷ os) (set_places s.places (top_of ls os) (value_ints v)) g.state.places (g.replaced.places ∙ ap (λ k. set_places s.places k (value_ints v)) e) (frame_push size ls v os s.places f room);
        calm = calm_replaced bs s g.state r (value_ints v) g.replaced calm;
      }
  answered xs os r (answers.Trap k) e f l g = traps_fail bs k xs s calm g

  -- an operation of i32 on the operands us, the last of which stands first
  short_does : (op : NumOp) (us os : List Value) (o : Answer) → (takes_bytes op ≡ true → bytes ≡ true) → ShortOp op → apply op (reverse us) ≡ Some o → All IsInRange us → Frame size ls (us ++ os) s.places → top_of ls os + answer_places o ≤ size
      → Answers bytes bs size ls os (short_below op (top_of ls (us ++ os))) s o
  short_does op us os o stands (of_one performs shape) e r f l =
      let q = shape (reverse us) o e in
      let is : us ≡ values.I32 q.first ∷ [] = turned us _ q.operands in
      let g : Frame size ls (values.I32 q.first ∷ os) s.places = subst (λ (ws : List Value). Frame size ls (ws ++ os) s.places) is f in
      let last = frame_last size ls q.first os s.places g in
      let below = one_below ls os q.first in
      let room : top_of ls (values.I32 q.first ∷ os) - 1 < length s.places = subst (λ k. k < length s.places) (sym below) last.1 in
      let at : place_at s (top_of ls (values.I32 q.first ∷ os) - 1) ≡ q.first = ap (λ k. place_at s k) below ∙ last.0 in
      let range = first_in_range q.first [] (subst (λ (ws : List Value). All IsInRange ws) is r) in
      let done = performs (top_of ls (values.I32 q.first ∷ os)) s q.first o room room at range (sym (ap (λ (vs : List Value). apply op vs) q.operands) ∙ e) in
      subst (λ (ws : List Value). Answers bytes bs size ls os (short_below op (top_of ls (ws ++ os))) s o) (sym is)
      (answered (short_below op (top_of ls (values.I32 q.first ∷ os))) os (top_of ls (values.I32 q.first ∷ os) - 1) o below (frame_pop size ls (values.I32 q.first) os s.places g) l done)
  short_does op us os o stands (of_two performs shape) e r f l =
      let q = shape (reverse us) o e in
      let is : us ≡ values.I32 q.second ∷ (values.I32 q.first ∷ []) = turned us _ q.operands in
      let g : Frame size ls (values.I32 q.second ∷ (values.I32 q.first ∷ os)) s.places = subst (λ (ws : List Value). Frame size ls (ws ++ os) s.places) is f in
      let g1 : Frame size ls (values.I32 q.first ∷ os) s.places = frame_pop size ls (values.I32 q.second) (values.I32 q.first ∷ os) s.places g in
      let last = frame_last size ls q.second (values.I32 q.first ∷ os) s.places g in
      let under = frame_last size ls q.first os s.places g1 in
      let h : ℕ = top_of ls (values.I32 q.second ∷ (values.I32 q.first ∷ os)) in
      let one : h - 1 ≡ top_of ls (values.I32 q.first ∷ os) = one_below ls (values.I32 q.first ∷ os) q.second in
      let two : h - 2 ≡ top_of ls os = two_below ls os q.second q.first in
      let room_one : h - 1 < length s.places = subst (λ k. k < length s.places) (sym one) last.1 in
      let room_two : h - 2 < length s.places = subst (λ k. k < length s.places) (sym two) under.1 in
      let at_two : place_at s (h - 2) ≡ q.first = ap (λ k. place_at s k) two ∙ under.0 in
      let at_one : place_at s (h - 1) ≡ q.second = ap (λ k. place_at s k) one ∙ last.0 in
      let range : All IsInRange (values.I32 q.second ∷ (values.I32 q.first ∷ [])) = subst (λ (ws : List Value). All IsInRange ws) is r in
      let done = performs h s q.first q.second o (standing_less (takes_bytes op) s stands calm.standing) room_two room_one room_two at_two at_one (second_in_range q.second q.first [] range) (first_in_range q.second (values.I32 q.first ∷ []) range) (sym (ap (λ (vs : List Value). apply op vs) q.operands) ∙ e) in
      subst (λ (ws : List Value). Answers bytes bs size ls os (short_below op (top_of ls (ws ++ os))) s o) (sym is)
      (answered (short_below op h) os (h - 2) o two (frame_pop size ls (values.I32 q.first) os s.places g1) l done)

  -- any other one but a division of i64
  long_does : NumbersWork → (op : NumOp) (us os : List Value) (o : Answer) → (takes_bytes op ≡ true → bytes ≡ true) → is_of_i32 op ≡ false → division_of (operator_of op) ≡ None → apply op (reverse us) ≡ Some o → All IsInRange us → types_of us ≡ (num_type op).takes
      → Frame size ls (us ++ os) s.places → top_of ls os + answer_places o ≤ size → Answers bytes bs size ls os (long_items op (top_of ls (us ++ os) - widths (num_type op).takes)) s o
  long_does numbers op us os o lasts d none e r types f l =
      let sized = f.sized in
      let wide = ap widths (types_append us os) in
      let parts = widths_append (types_of us) (types_of os) in
      let takes : widths (types_of us) ≡ widths (num_type op).takes = ap widths types in
      let at : top_of ls (us ++ os) - widths (num_type op).takes ≡ top_of ls os = omega arith in
      let room : top_of ls os + answer_places o ≤ length s.places = omega arith in
      let stands : AreAt s (top_of ls os) (values_ints (reverse us)) = subst (λ zs. AreAt s (top_of ls os) zs) (values_turned us) (stand_at (stack_ints us) (top_of ls os) s (frame_stand size ls us os s.places f)) in
      let done = long_performs numbers op d none (top_of ls os) s (reverse us) o (standing_less (takes_bytes op) s lasts calm.standing) (turned_in_range us r) stands room e in
      subst (λ j. Answers bytes bs size ls os (long_items op j) s o) (sym at) (answered (long_items op (top_of ls os)) os (top_of ls os) o refl (frame_drop size ls us os s.places f) l done)

  -- an operation on the operands us, the last of which stands first
  pub num_does : NumbersWork → (op : NumOp) (us os : List Value) (o : Answer) → (takes_bytes op ≡ true → bytes ≡ true) → division_of (operator_of op) ≡ None → apply op (reverse us) ≡ Some o → All IsInRange us → types_of us ≡ (num_type op).takes
      → Frame size ls (us ++ os) s.places → top_of ls os + answer_places o ≤ size → Answers bytes bs size ls os (num_below op (top_of ls (us ++ os))) s o
  num_does numbers op us os o stands none e r types f l = go (is_of_i32 op) refl
    where
      go : (b : Bool) → is_of_i32 op ≡ b → Answers bytes bs size ls os (if b then short_below op (top_of ls (us ++ os)) else long_items op (top_of ls (us ++ os) - widths (num_type op).takes)) s o
      go true q = short_does op us os o stands (short_op op q) e r f l
      go false q = long_does numbers op us os o stands q none e r types f l

  -- with a constant, on the operands us, of which this is known
  chosen_does : (op : NumOp) (first second : Option ℕ) (us os : List Value) (o : Answer) (xs : Items)
      → chosen_items op first second (top_of ls (us ++ os) - 2) (top_of ls (us ++ os) - 1) (top_of ls (us ++ os) - 2) ≡ Some xs
      → ((x y : ℤ) → us ≡ values.I32 y ∷ (values.I32 x ∷ []) → known.IsOperand first x × known.IsOperand second y) → apply op (reverse us) ≡ Some o → All IsInRange us
      → Frame size ls (us ++ os) s.places → top_of ls os + answer_places o ≤ size → Answers bytes bs size ls os xs s o
  chosen_does op first second us os o xs c so e r f l =
      let q = chosen_two op first second _ _ _ xs (chosen_is op first second (top_of ls (us ++ os) - 2) (top_of ls (us ++ os) - 1) (top_of ls (us ++ os) - 2) xs c) (reverse us) o e in
      let is : us ≡ values.I32 q.second ∷ (values.I32 q.first ∷ []) = turned us _ q.operands in
      let g : Frame size ls (values.I32 q.second ∷ (values.I32 q.first ∷ os)) s.places = subst (λ (ws : List Value). Frame size ls (ws ++ os) s.places) is f in
      let g1 : Frame size ls (values.I32 q.first ∷ os) s.places = frame_pop size ls (values.I32 q.second) (values.I32 q.first ∷ os) s.places g in
      let last = frame_last size ls q.second (values.I32 q.first ∷ os) s.places g in
      let under = frame_last size ls q.first os s.places g1 in
      let h : ℕ = top_of ls (values.I32 q.second ∷ (values.I32 q.first ∷ os)) in
      let one : h - 1 ≡ top_of ls (values.I32 q.first ∷ os) = one_below ls (values.I32 q.first ∷ os) q.second in
      let two : h - 2 ≡ top_of ls os = two_below ls os q.second q.first in
      let room_one : h - 1 < length s.places = subst (λ k. k < length s.places) (sym one) last.1 in
      let room_two : h - 2 < length s.places = subst (λ k. k < length s.places) (sym two) under.1 in
      let at_two : place_at s (h - 2) ≡ q.first = ap (λ k. place_at s k) two ∙ under.0 in
      let at_one : place_at s (h - 1) ≡ q.second = ap (λ k. place_at s k) one ∙ last.0 in
      let range : All IsInRange (values.I32 q.second ∷ (values.I32 q.first ∷ [])) = subst (λ (ws : List Value). All IsInRange ws) is r in
      let here : chosen_items op first second (h - 2) (h - 1) (h - 2) ≡ Some xs = subst (λ (ws : List Value). chosen_items op first second (top_of ls (ws ++ os) - 2) (top_of ls (ws ++ os) - 1) (top_of ls (ws ++ os) - 2) ≡ Some xs) is c in
      let both = so q.first q.second is in
      let done =
      chosen_perform op first second (h - 2) (h - 1) (h - 2) xs here s q.first q.second o room_two room_one room_two at_two at_one (second_in_range q.second q.first [] range) (first_in_range q.second (values.I32 q.first ∷ []) range)
      both.0 both.1 (sym (ap (λ (vs : List Value). apply op vs) q.operands) ∙ e)
      in
      answered xs os (h - 2) o two (frame_pop size ls (values.I32 q.first) os s.places g1) l done

  same_operand : (k : Option ℕ) (z : ℤ) → IsOperand k z → known.IsOperand k z
  same_operand None z e = tt
  same_operand (Some n) z e = e

  -- an operation on the operands us, by what is known of all of them
  pub num_by_does : NumbersWork → (ks : Knowns) (op : NumOp) (us os : List Value) (o : Answer) → (takes_bytes op ≡ true → bytes ≡ true) → AreKnown ks ls (us ++ os) → division_of (operator_of op) ≡ None → apply op (reverse us) ≡ Some o → All IsInRange us
      → types_of us ≡ (num_type op).takes → Frame size ls (us ++ os) s.places → top_of ls os + answer_places o ≤ size
      → Answers bytes bs size ls os (num_by (known_next ks) (known_last ks) op (top_of ls (us ++ os))) s o
  num_by_does numbers ks op us os o stands so none e r types f l = go (chosen_items op (known_next ks) (known_last ks) (top_of ls (us ++ os) - 2) (top_of ls (us ++ os) - 1) (top_of ls (us ++ os) - 2)) refl
    where
      knows : (x y : ℤ) → us ≡ values.I32 y ∷ (values.I32 x ∷ []) → known.IsOperand (known_next ks) x × known.IsOperand (known_last ks) y
      knows x y is =
          let k : AreKnown ks ls (values.I32 y ∷ (values.I32 x ∷ os)) = subst (λ (ws : List Value). AreKnown ks ls (ws ++ os)) is so in
          (same_operand (known_next ks) x (next_known (values.I32 y) x ks ls os k), same_operand (known_last ks) y (last_known y ks ls (values.I32 x ∷ os) k))

      go : (p : Option Items) → chosen_items op (known_next ks) (known_last ks) (top_of ls (us ++ os) - 2) (top_of ls (us ++ os) - 1) (top_of ls (us ++ os) - 2) ≡ p
          → Answers bytes bs size ls os (unwrap_or p (num_below op (top_of ls (us ++ os)))) s o
      go None c = num_does numbers op us os o stands none e r types f l
      go (Some xs) c = chosen_does op (known_next ks) (known_last ks) us os o xs c knows e r f l
