-- What the steps of a reduction come to.
use Rattle.std.proofs.Common.{◌≡◌, ◌∙◌, sym, ap, refl, subst, ℕ, zero, suc, ◌+◌, ◌-◌, ◌<◌, ◌≤◌, List, reverse, Option, Some, None, Ok, Err, arith, [], false}
use Rattle.std.specs.Prelude.{option_and_then, option_map, option_to_list, slice_get}
use Rattle.mc_nbt.specs.declared.value.Value.{Value}
use Rattle.mc_cmd.specs.Layout.{running, done, trap}
use Rattle.wm_ast.specs.declared.answer.TrapKind.{TrapKind}
use Rattle.wm_ast.specs.declared.module.Module.{Module}
use Rattle.wm_ast.specs.After.{after, one_more, settled, settled_by}
use Rattle.wm_ast.specs.Configuration.{Config, Items}
use Rattle.wm_ast.specs.Instance.{call_config, exported_functions, first_config, first_store}
use Rattle.wm_ast.specs.Step.{Reduct, values, rewritten, branching, returning, trapping, irreducible, reduct, progress, step}
use Rattle.wm_ast.specs.Step.{Progress, Next, Ended, Trapped, Stuck}
use Rattle.cc_line.specs.Routine.{trap_number}
use Rattle.wm_flat.proofs.Consequences.{after_reach, over_stays}
use Rattle.wm_reduce.specs.Call.{IsCalled, Takes, called, first_phase, first_state}
use Rattle.wm_reduce.specs.State.{State, Answers, Steps}
use Rattle.wm_reduce.specs.declared.task.CallFault.{CallFault}
use Rattle.wm_reduce.specs.declared.task.CallFault.TheVariants as faults
use Rattle.wm_reduce.specs.declared.task.Moved.{Moved}
use Rattle.wm_reduce.specs.declared.task.Moved.TheVariants as moves
use Rattle.wm_reduce.specs.declared.task.Phase.TheVariants.{Ready, Dead}
use Rattle.app_workload.specs.Reduced.{HasMain, most_steps, reduced, told_of}
use Rattle.app_workload.specs.steps.Reducing.{IsReducing, comes_to, moved_told, over_store}

first_of : (vs : List Value) (v : Option Value) → vs ≡ option_to_list v → slice_get vs 0 ≡ v
first_of vs None e = ap (λ l. slice_get l 0) e
first_of vs (Some v) e = ap (λ l. slice_get l 0) e

-- the step of a configuration is that of what its term comes to
answers_by : (s : State) (c : Config) (moved : Moved) (t : State) (r : Reduct) → reduct s.program c ≡ r → Answers s (step s.program c) moved t → Answers s (progress c.store r) moved t
answers_by s c moved t r e h = subst (λ (x : Reduct). Answers s (progress c.store x) moved t) e h

settled_is : (m : Module) (c : Config) (r : Reduct) → reduct m c ≡ r → after m c 0 ≡ settled_by c r
settled_is m c r e = ap (settled_by c) e

-- a step that tells an end: there was one already
ended_now : (s : State) (c : Config) (v : Option Value) (t : State) → Answers s (step s.program c) (moves.Ended v) t → (n : ℕ) → told_of (after s.program c n) ≡ Some (done v)
ended_now s c v t h n = go (reduct s.program c) refl
  where
    go : (r : Reduct) → reduct s.program c ≡ r → told_of (after s.program c n) ≡ Some (done v)
    go (values vs) e =
        let a = answers_by s c (moves.Ended v) t (values vs) e h in
        let same : v ≡ a.0 = let f : moves.Ended v ≡ moves.Ended a.0 = a.2 in cc in
        let z : 0 + n ≡ n = omega arith in
        ap (λ k. told_of (after s.program c k)) (sym z)
        ∙ ap told_of (over_stays s.program c (Ended (reverse vs) c.store) 0 n (settled_is s.program c (values vs) e) refl)
        ∙ ap (λ o. Some (done o)) (first_of (reverse vs) a.0 a.1 ∙ sym same)
    go (rewritten s' own is) e = let a = answers_by s c (moves.Ended v) t (rewritten s' own is) e h in let f : moves.Ended v ≡ moves.Next = a.0 in absurd cc
    go (branching l vs) e = absurd (answers_by s c (moves.Ended v) t (branching l vs) e h)
    go (returning vs) e = absurd (answers_by s c (moves.Ended v) t (returning vs) e h)
    go (trapping k) e = let a = answers_by s c (moves.Ended v) t (trapping k) e h in let f : moves.Ended v ≡ moves.Trapped k = a.0 in absurd cc
    go irreducible e = absurd (answers_by s c (moves.Ended v) t irreducible e h)

-- a step that traps
trapped_now : (s : State) (c : Config) (k : TrapKind) (t : State) → Answers s (step s.program c) (moves.Trapped k) t → (n : ℕ) → told_of (after s.program c (suc n)) ≡ Some (trap (trap_number k))
trapped_now s c k t h n = go (reduct s.program c) refl
  where
    go : (r : Reduct) → reduct s.program c ≡ r → told_of (after s.program c (suc n)) ≡ Some (trap (trap_number k))
    go (values vs) e = let a = answers_by s c (moves.Trapped k) t (values vs) e h in let f : moves.Trapped k ≡ moves.Ended a.0 = a.2 in absurd cc
    go (rewritten s' own is) e = let a = answers_by s c (moves.Trapped k) t (rewritten s' own is) e h in let f : moves.Trapped k ≡ moves.Next = a.0 in absurd cc
    go (branching l vs) e = absurd (answers_by s c (moves.Trapped k) t (branching l vs) e h)
    go (returning vs) e = absurd (answers_by s c (moves.Trapped k) t (returning vs) e h)
    go (trapping j) e =
        let a = answers_by s c (moves.Trapped k) t (trapping j) e h in
        let same : k ≡ j = let f : moves.Trapped k ≡ moves.Trapped j = a.0 in cc in
        let one : after s.program c 1 ≡ Trapped j c.store = ap (one_more s.program) (settled_is s.program c (trapping j) e) ∙ ap (λ (x : Reduct). settled s.program (progress c.store x)) e in
        let z : suc n ≡ 1 + n = omega arith in
        ap (λ i. told_of (after s.program c i)) z
        ∙ ap told_of (over_stays s.program c (Trapped j c.store) 1 n one refl)
        ∙ ap (λ (x : TrapKind). Some (trap (trap_number x))) (sym same)
    go irreducible e = absurd (answers_by s c (moves.Trapped k) t irreducible e h)

-- a step that goes on
goes_on : (s : State) (t : Items) (moved : Moved) (u : State) → moved ≡ moves.Next → Answers s (step s.program (over_store s t)) moved u
    → (e : Config) × (step s.program (over_store s t) ≡ Next e) × (u ≡ record s { store = e.store; term = Some e.term })
goes_on s t moved u is_next h = go (step s.program (over_store s t)) refl h
  where
    go : (p : Progress) → step s.program (over_store s t) ≡ p → Answers s p moved u
        → (e : Config) × (step s.program (over_store s t) ≡ Next e) × (u ≡ record s { store = e.store; term = Some e.term })
    go (Next e) same a = (e, same, a.1)
    go (Ended vs store) same a = let f : moves.Next ≡ moves.Ended a.0 = sym is_next ∙ a.2 in absurd cc
    go (Trapped k store) same a = let f : moves.Next ≡ moves.Trapped k = sym is_next ∙ a.0 in absurd cc
    go Stuck same a = absurd a

-- the step of a state whose term is this
steps_of : (s : State) (moved : Moved) (u : State) (r : IsReducing s) → Steps s s.term moved u → Answers s (step s.program (over_store s r.term)) moved u
steps_of s moved u r h = subst (λ (o : Option Items). Steps s o moved u) r.is_term h

comes_is : (s : State) (r : IsReducing s) (n : ℕ) → comes_to s n ≡ Some (after s.program (over_store s r.term) n)
unfolding comes_to
comes_is s r n = ap (option_map (λ t. after s.program (over_store s t) n)) r.is_term

-- what it comes to is told alike from the next term on, which has a step less
next_term : (s : State) (u : State) (moved : Moved) (r : IsReducing s) → moved ≡ moves.Next → Steps s s.term moved u → IsReducing u × ((n : ℕ) → comes_to s (suc n) ≡ comes_to u n)
next_term s u moved r is_next h =
    let g = goes_on s r.term moved u is_next (steps_of s moved u r h) in
    let under : IsReducing u = record {
      sound = ap (λ (x : State). x.failed) g.2 ∙ r.sound;
      term = g.0.term;
      is_term = ap (λ (x : State). x.term) g.2;
    } in (
      under,
      λ n.
          let z : suc n ≡ 1 + n = omega arith in
          comes_is s r (suc n)
          ∙ ap (λ i. Some (after s.program (over_store s r.term) i)) z
          ∙ ap Some (after_reach s.program 1 (over_store s r.term) g.0 n (g.0, g.1, refl))
          ∙ ap (λ (x : State). Some (after x.program (over_store x g.0.term) n)) (sym g.2)
          ∙ sym (comes_is u under n),
    )

-- an end or a trap is told of any number of steps that isn't 0
over_within : (s : State) (u : State) (moved : Moved) (r : IsReducing s) (n : ℕ) → (moved ≡ moves.Next → ⊥) → Steps s s.term moved u → option_map told_of (comes_to s (suc n)) ≡ Some (moved_told moved)
over_within s u moves.Next r n other h = absurd (other refl)
over_within s u (moves.Ended v) r n other h =
    ap (option_map told_of) (comes_is s r (suc n)) ∙ ap Some (ended_now s (over_store s r.term) v u (steps_of s (moves.Ended v) u r h) (suc n))
over_within s u (moves.Trapped k) r n other h =
    ap (option_map told_of) (comes_is s r (suc n)) ∙ ap Some (trapped_now s (over_store s r.term) k u (steps_of s (moves.Trapped k) u r h) n)

-- an end is told of no step too
ended_within : (s : State) (u : State) (v : Option Value) (r : IsReducing s) → Steps s s.term (moves.Ended v) u → option_map told_of (comes_to s 0) ≡ Some (moved_told (moves.Ended v))
ended_within s u v r h =
    ap (option_map told_of) (comes_is s r 0) ∙ ap Some (ended_now s (over_store s r.term) v u (steps_of s (moves.Ended v) u r h) 0)

-- where the next step tells no end, no step has come to one
open_now : (s : State) (u : State) (moved : Moved) (r : IsReducing s) → ((v : Option Value) → moved ≡ moves.Ended v → ⊥) → Steps s s.term moved u → option_map told_of (comes_to s 0) ≡ Some (moved_told moves.Next)
open_now s u moved r other h = ap (option_map told_of) (comes_is s r 0) ∙ ap Some (go (reduct s.program (over_store s r.term)) refl)
  where
    go : (x : Reduct) → reduct s.program (over_store s r.term) ≡ x → told_of (after s.program (over_store s r.term) 0) ≡ Some running
    go (values vs) e =
        let a = answers_by s (over_store s r.term) moved u (values vs) e (steps_of s moved u r h) in
        absurd (other a.0 a.2)
    go (rewritten s' own is) e = ap told_of (settled_is s.program (over_store s r.term) (rewritten s' own is) e)
    go (branching l vs) e = ap told_of (settled_is s.program (over_store s r.term) (branching l vs) e)
    go (returning vs) e = ap told_of (settled_is s.program (over_store s r.term) (returning vs) e)
    go (trapping k) e = ap told_of (settled_is s.program (over_store s r.term) (trapping k) e)
    go irreducible e = ap told_of (settled_is s.program (over_store s r.term) irreducible e)

-- ---- as the loop has it

pub goes_left : (s : State) (u : State) (moved : Moved) (n : ℕ) (r : IsReducing s) → 0 < n → moved ≡ moves.Next → Steps s s.term moved u → IsReducing u × (comes_to s n ≡ comes_to u (n - 1))
goes_left s u moved zero r more is_next h = absurd (omega (arith, more))
goes_left s u moved (suc n) r more is_next h =
    let next = next_term s u moved r is_next h in
    let z : suc n - 1 ≡ n = omega arith in
    (next.0, next.1 n ∙ ap (comes_to u) (sym z))

pub over_left : (s : State) (u : State) (moved : Moved) (n : ℕ) (r : IsReducing s) → 0 < n → (moved ≡ moves.Next → ⊥) → Steps s s.term moved u → option_map told_of (comes_to s n) ≡ Some (moved_told moved)
over_left s u moved zero r more other h = absurd (omega (arith, more))
over_left s u moved (suc n) r more other h = over_within s u moved r n other h

pub ended_left : (s : State) (u : State) (moved : Moved) (v : Option Value) (n : ℕ) (r : IsReducing s) → n ≤ 0 → moved ≡ moves.Ended v → Steps s s.term moved u → option_map told_of (comes_to s n) ≡ Some (moved_told (moves.Ended v))
ended_left s u moved v zero r none is_end h = ended_within s u v r (subst (λ (x : Moved). Steps s s.term x u) is_end h)
ended_left s u moved v (suc n) r none is_end h = absurd (omega (arith, none))

pub open_left : (s : State) (u : State) (moved : Moved) (n : ℕ) (r : IsReducing s) → n ≤ 0 → ((v : Option Value) → moved ≡ moves.Ended v → ⊥) → Steps s s.term moved u → option_map told_of (comes_to s n) ≡ Some (moved_told moves.Next)
open_left s u moved zero r none other h = open_now s u moved r other h
open_left s u moved (suc n) r none other h = absurd (omega (arith, none))

-- ---- the call of `main`

pub steps_are : most_steps ≡ 100000000
unfolding most_steps
steps_are = refl

-- a call that was put under reduction
abbrev pub called_reducing : (s t : State) (f : ℕ) → s.failed ≡ false → t ≡ called s f [] → IsReducing t
called_reducing s t f sound e = record {
  sound = ap (λ (x : State). x.failed) e ∙ sound;
  term = (call_config s.store f []).term;
  is_term = ap (λ (x : State). x.term) e;
}

some_is : {A : Type 0} (a b : A) → Some a ≡ Some b → a ≡ b
some_is a b e = cc

-- what is told of that call, within the steps that are waited for
pub reduced_is : (m : Module) (s t : State) (f n : ℕ) (moved : Moved) → s ≡ first_state m → slice_get (exported_functions m) 0 ≡ Some f → t ≡ called s f [] → n ≡ most_steps
    → option_map told_of (comes_to t n) ≡ Some (moved_told moved) → moved_told moved ≡ reduced m
reduced_is m s t f n moved first exported e steps told =
    let sound : s.failed ≡ false = ap (λ (x : State). x.failed) first in
    let same : t ≡ called (first_state m) f [] = e ∙ ap (λ (x : State). called x f []) first in
    let all : comes_to t n ≡ Some (after m (call_config (first_store m) f []) n) =
    comes_is t (called_reducing s t f sound e) n
    ∙ ap (λ (x : State). Some (after x.program (over_store x (call_config s.store f []).term) n)) same
    ∙ ap (λ (x : State). Some (after m (over_store (first_state m) (call_config x.store f []).term) n)) first in
    some_is _ _ (sym told ∙ ap (option_map told_of) all)
    ∙ ap (λ i. told_of (after m (call_config (first_store m) f []) i)) steps
    ∙ ap (option_and_then (λ c. told_of (after m c most_steps))) (ap (option_map (λ k. call_config (first_store m) k [])) (sym exported))

-- `main` is there and can be called
pub main_called : (m : Module) (s t : State) → s ≡ first_state m → IsCalled s 0 [] (Ok tt) t
    → (s.failed ≡ false) × (f : ℕ) × (slice_get (exported_functions m) 0 ≡ Some f) × (t ≡ called s f [])
main_called m s t first c = (c.0, c.1, ap (λ (x : State). slice_get (exported_functions x.program) 0) (sym first) ∙ c.2.exported, c.5)

pub not_refused : (m : Module) (s t : State) (fault : CallFault) → HasMain m → s ≡ first_state m → (fault ≡ faults.Memory → ⊥) → IsCalled s 0 [] (Err fault) t → ⊥
not_refused m s t fault h first other c = go fault other (subst (λ (x : State). IsCalled x 0 [] (Err fault) t) first c)
  where
    go : (e : CallFault) → (e ≡ faults.Memory → ⊥) → IsCalled (first_state m) 0 [] (Err e) t → ⊥
    go faults.Memory other d = other refl
    go faults.NoFunction other d = let e : None ≡ Some h.func = sym d.2 ∙ h.calls.exported in absurd cc
    go faults.WrongArgs other d =
        let same : d.2 ≡ h.func = some_is d.2 h.func (sym d.3 ∙ h.calls.exported) in
        d.4 (subst (λ (f : ℕ). Takes m f []) (sym same) h.calls.takes)
    go faults.Busy other d = d.4 (ap (option_map (λ f. (first_config m).term)) h.no_start)
    go faults.Dead other d = let e : Ready ≡ Dead = sym (ap first_phase h.no_start) ∙ d.5 in absurd cc
