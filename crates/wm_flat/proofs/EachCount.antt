-- For each number of steps: within it the machine has come to a move that reaches past it, or to its last.
use Rattle.std.proofs.Common.{◌≡◌, ℕ, zero, suc, ◌+◌, ◌<◌, ◌≤◌, List, [], ◌∷◌, length, Bool, true, false, cond}
use Rattle.std.proofs.Common.{Option, Some, None, refl, sym, subst, arith, ◌⊎◌, inl, inr, ℤ, pos, negsuc}
use Rattle.std.specs.Prelude.{nat_lt, ◌==◌}
use Rattle.mc_nbt.specs.declared.value.Value.{Value}
use Rattle.mc_nbt.specs.declared.value.Value.TheVariants.{I32, I64}
use Rattle.wm_ast.specs.declared.answer.TrapKind.TheVariants.{StackExhausted}
use Rattle.wm_ast.specs.declared.limit.TheConstants.{MAX_FRAMES}
use Rattle.wm_ast.specs.declared.module.Module.{Module}
use Rattle.wm_ast.specs.Code.{Op, block, loop, if_else, br, br_if, br_table, return, call, call_indirect, const}
use Rattle.wm_ast.specs.Code.{Code, nil, cons}
use Rattle.wm_ast.specs.Simple.{Executed, done, repeats, fault, unfit, if_nonzero, simple}
use Rattle.wm_ast.specs.Step.{top, chosen, Target, function, refused, unknown, target}
use Rattle.wm_ast.specs.Store.{Store, Callee, callee_of}
use Rattle.wm_flat.specs.Flat.{Level, Activation, Flat, starting, running, finished, Moved, goes, fails, over, none}
use Rattle.wm_flat.specs.Flat.{count_of, past, handed, handed_some, opened, opens, calls, starts, carried, jump, leave}
use Rattle.wm_flat.specs.Flat.{does, calls_target, op_move}
use Rattle.wm_flat.specs.Runs.{State, moved, Leads, IsWithin, Stage}
use Rattle.wm_flat.proofs.Consequences.{leads_on, leads_nowhere, further_on, makes_one}

-- a move of one or two steps, or the last
abbrev pub IsCounted : Moved → Type 0
IsCounted (goes n s f) = (0 < n) × (n ≤ 2)
IsCounted (fails n k) = n ≤ 1
IsCounted (over vs) = Unit {0}
IsCounted none = Unit {0}

one : (0 < 1) × (1 ≤ 2)
one = (omega arith, omega arith)

two : (0 < 2) × (2 ≤ 2)
two = (omega arith, omega arith)

handed_counted : (s : Store) (cs : List Activation) (us : List Value) → IsCounted (handed s cs us)
handed_counted s [] us = one
handed_counted s (c ∷ cs) us = one

some_counted : (s : Store) (cs : List Activation) (o : Option (List Value)) → IsCounted (handed_some s cs o)
some_counted s cs None = tt
some_counted s cs (Some us) = handed_counted s cs us

either_counted : (b : Bool) (x y : Moved) → IsCounted x → IsCounted y → IsCounted (cond b x y)
either_counted true x y p q = p
either_counted false x y p q = q

nonzero_counted : (n : ℤ) (x y : Moved) → IsCounted x → IsCounted y → IsCounted (if_nonzero n x y)
nonzero_counted (pos zero) x y p q = q
nonzero_counted (pos (suc n)) x y p q = p
nonzero_counted (negsuc n) x y p q = p

opens_counted : (n : ℕ) (s : Store) (cs : List Activation) (f : ℕ) (c : Callee) (o : Option (List Value)) → n ≤ 1
    → IsCounted (opens n s cs f c o)
opens_counted n s cs f c None l = tt
opens_counted n s cs f c (Some us) l = (omega arith, omega (arith, l))

calls_counted : (n : ℕ) (s : Store) (cs : List Activation) (a : Activation) (f : ℕ) (vs : List Value)
    (o : Option Callee) → n ≤ 1 → IsCounted (calls n s cs a f vs o)
calls_counted n s cs a f vs None l = tt
calls_counted n s cs a f vs (Some c) l =
    either_counted (nat_lt (suc (length cs)) MAX_FRAMES) _ (fails n StackExhausted) (opens_counted n s _ f c _ l) l

starts_counted : (s : Store) (f : ℕ) (vs : List Value) (o : Option Callee) → IsCounted (starts s f vs o)
starts_counted s f vs None = tt
starts_counted s f vs (Some c) =
    either_counted (length vs == length c.takes) (goes 1 s (running [] (opened f c vs))) none one tt

abbrev IsConst : Op → Type 0
IsConst (const v) = Unit {0}
IsConst _ = ⊥

module _ (m : Module) (s : Store) (cs : List Activation) (a : Activation) where
  carried_counted : (n : ℕ) (lv : Level) (lvs : List Level) (o : Option (List Value)) → (0 < n) × (n ≤ 2)
      → IsCounted (carried m s cs a n lv lvs o)
  carried_counted n lv lvs None h = tt
  carried_counted n lv lvs (Some us) h = h

  jump_counted : (n l : ℕ) (vs : List Value) (lvs : List Level) → (0 < n) × (n ≤ 2)
      → IsCounted (jump m s cs a n l vs lvs)
  jump_counted n l vs [] h = tt
  jump_counted n zero vs (lv ∷ lvs) h = carried_counted n lv lvs (top (count_of lv.block.op) vs) h
  jump_counted n (suc l) vs (lv ∷ lvs) h = jump_counted n l vs lvs h

  does_counted : (i : Op) (is : Code) (x : Executed) → IsCounted (does m s cs a i is x)
  does_counted i is (done s' locals vs) = one
  does_counted i is (repeats s' vs) = one
  does_counted i is (fault k) = omega arith
  does_counted i is unfit = tt

  target_counted : (i : Op) (is : Code) (vs : List Value) (x : Target) → IsCounted (calls_target m s cs a i is vs x)
  target_counted i is vs (function f) = calls_counted 1 s cs (past a i is a.locals vs) f vs (callee_of m f) (omega arith)
  target_counted i is vs (refused k) = omega arith
  target_counted i is vs unknown = tt

  leave_counted : (lvs : List Level) → IsCounted (leave m s cs a lvs)
  leave_counted [] = handed_counted s cs a.values
  leave_counted (lv ∷ lvs) = one

  op_counted : (i : Op) (vs : List Value) (is : Code) → (IsConst i → ⊥) → IsCounted (op_move m s cs a i vs is)
  op_counted (const v) vs is h = absurd (h tt)
  op_counted (block ty body) vs is h = one
  op_counted (loop ty body) vs is h = one
  op_counted (if_else ty first second) (I32 n ∷ vs) is h = one
  op_counted (if_else ty first second) (I64 n ∷ vs) is h = tt
  op_counted (if_else ty first second) [] is h = tt
  op_counted (br l) vs is h = jump_counted 1 l vs a.levels one
  op_counted (br_if l) (I32 n ∷ vs) is h =
      nonzero_counted n (jump m s cs a 2 l vs a.levels) (goes 1 s (running cs (past a (br_if l) is a.locals vs)))
      (jump_counted 2 l vs a.levels two) one
  op_counted (br_if l) (I64 n ∷ vs) is h = tt
  op_counted (br_if l) [] is h = tt
  op_counted (br_table ls l) (I32 n ∷ vs) is h = jump_counted 2 (chosen ls l n) vs a.levels two
  op_counted (br_table ls l) (I64 n ∷ vs) is h = tt
  op_counted (br_table ls l) [] is h = tt
  op_counted return vs is h = some_counted s cs (top a.results vs)
  op_counted (call f) vs is h = calls_counted 0 s cs (past a (call f) is a.locals vs) f vs (callee_of m f) (omega arith)
  op_counted (call_indirect n) (I32 i ∷ vs) is h = target_counted (call_indirect n) is vs (target m s n i)
  op_counted i vs is h = does_counted i is (simple m s a.locals i vs)

-- a state behind the constants that stand next, which are no step
record Quiet (m : Module) (c : State) : Type 0 where
  state : State
  leads : Leads m 0 c state
  counted : IsCounted (moved m state)

abbrev state_at : Store → List Activation → Activation → List Value → Code → State
state_at s cs a vs is = record { store = s; flat = running cs (record a { values = vs; code = is }) }

module _ (m : Module) where
  still : (c : State) → IsCounted (moved m c) → Quiet m c
  still c l = record { state = c; leads = leads_nowhere m c; counted = l }

  quiet_op : (s : Store) (cs : List Activation) (a : Activation) (vs : List Value) (i : Op) (is : Code)
      → ((b : Activation) (us : List Value) → Quiet m (state_at s cs b us is))
      → Quiet m (state_at s cs a vs (cons i is))
  quiet_op s cs a vs (const v) is rest =
      let b : Activation = past (record a { values = vs; code = cons (const v) is }) (const v) is a.locals (v ∷ vs) in
      let q = rest b (v ∷ vs) in
      let first : Leads m 0 (state_at s cs a vs (cons (const v) is)) (state_at s cs b (v ∷ vs) is) =
      record { moves = 1; made = makes_one m 0 (state_at s cs a vs (cons (const v) is)) (state_at s cs b (v ∷ vs) is) refl } in
      record {
        state = q.state;
        leads = leads_on m 0 0 (state_at s cs a vs (cons (const v) is)) (state_at s cs b (v ∷ vs) is) q.state first q.leads;
        counted = q.counted;
      }
  quiet_op s cs a vs i is rest =
      still (state_at s cs a vs (cons i is))
      (op_counted m s cs (record a { values = vs; code = cons i is }) i vs is (λ h. h))

  quiet_code : (s : Store) (cs : List Activation) (a : Activation) (vs : List Value) (is : Code)
      → Quiet m (state_at s cs a vs is)
  quiet_code s cs a vs nil =
      still (state_at s cs a vs nil) (leave_counted m s cs (record a { values = vs; code = nil }) a.levels)
  quiet_code s cs a vs (cons i is) = quiet_op s cs a vs i is (λ b us. quiet_code s cs b us is)

  quiet_flat : (s : Store) (f : Flat) → Quiet m (record { store = s; flat = f })
  quiet_flat s (starting f vs) =
      still (record { store = s; flat = starting f vs }) (starts_counted s f vs (callee_of m f))
  quiet_flat s (running cs a) = quiet_code s cs a a.values a.code
  quiet_flat s (finished vs) = still (record { store = s; flat = finished vs }) tt

  within_here : (n : ℕ) (x : Moved) → IsCounted x → IsWithin n n x
  within_here n (goes j s f) h = let l : 0 < j = h.0 in (omega arith, h.1)
  within_here n (fails j k) h = h
  within_here n (over vs) h = tt
  within_here n none h = tt

  -- the stage of a state that stands after n steps
  reached : (c : State) (n : ℕ) (d : State) → Leads m n c d → Stage m c n
  reached c n d h =
      let q = quiet_flat d.store d.flat in
      let z : n + 0 ≡ n = omega arith in
      record {
        steps = n;
        state = q.state;
        leads = subst (λ i. Leads m i c q.state) z (leads_on m n 0 c d q.state h q.leads);
        done = omega arith;
        within = within_here n (moved m q.state) q.counted;
      }

  two_orders : (x y : ℕ) → (x < y) ⊎ (y ≤ x)
  two_orders x y = grind arith

  further : (c : State) (n : ℕ) (t : Stage m c n) (x : Moved) → moved m t.state ≡ x → IsWithin n t.steps x
      → Stage m c (suc n)
  further c n t (goes j s f) e w = by_order (two_orders (suc n) (t.steps + j))
    where
      by_order : (suc n < t.steps + j) ⊎ (t.steps + j ≤ suc n) → Stage m c (suc n)
      by_order (inl l) = record {
        steps = t.steps;
        state = t.state;
        leads = t.leads;
        done = let d = t.done in omega arith;
        within = subst (IsWithin (suc n) t.steps) (sym e) (l, w.1);
      }
      by_order (inr l) =
          let past_n : n < t.steps + j = w.0 in
          let z : t.steps + j ≡ suc n = omega arith in
          reached c (suc n) (record { store = s; flat = f })
          (subst (λ i. Leads m i c (record { store = s; flat = f })) z
          (further_on m t.steps j c t.state (record { store = s; flat = f }) t.leads e))
  further c n t (fails j k) e w = record {
    steps = t.steps;
    state = t.state;
    leads = t.leads;
    done = let d = t.done in omega arith;
    within = subst (IsWithin (suc n) t.steps) (sym e) w;
  }
  further c n t (over vs) e w = record {
    steps = t.steps;
    state = t.state;
    leads = t.leads;
    done = let d = t.done in omega arith;
    within = subst (IsWithin (suc n) t.steps) (sym e) tt;
  }
  further c n t none e w = record {
    steps = t.steps;
    state = t.state;
    leads = t.leads;
    done = let d = t.done in omega arith;
    within = subst (IsWithin (suc n) t.steps) (sym e) tt;
  }

  pub stage : (c : State) (n : ℕ) → Stage m c n
  stage c zero = reached c 0 c (leads_nowhere m c)
  stage c (suc n) = let s = stage c n in further c n s (moved m s.state) refl s.within
