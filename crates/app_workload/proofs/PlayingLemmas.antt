-- The play of a pack that is waited for.
use Rattle.std.proofs.Common.{◌≡◌, ◌∙◌, sym, ap, refl, subst, ℕ, zero, suc, ◌-◌, ◌<◌, ◌≤◌, [], Bool, true, false, Option, Some, None, Result, Ok, Err, inl, inr, ◌⊎◌, arith, pos, negsuc, codes}
use Rattle.std.specs.Prelude.{IfOk, if◌then◌else◌, not, slice_get}
use Rattle.std.proofs.lemmas.Bool.{eqb-true}
use Rattle.mc_nbt.specs.Tree.{Tree, int, string, list, compound}
use Rattle.mc_cmd.specs.Layout.{Answer, new, running, done, trap, dead, io_value}
use Rattle.mc_cmd.specs.Pack.{ExportType, IsCallOf, Pack, Standing, happen, tick}
use Rattle.mc_layout.specs.State.{int_in}
use Rattle.mc_tick.specs.Answers.{AreOfOtherKinds, IsStarted}
use Rattle.mc_tick.specs.State.{State, IsDead, IsRunning, after}
use Rattle.mc_tick.specs.StateView.{IsResumed, resting_state, state_of}
use Rattle.mc_tick.specs.declared.refusal.StartRefusal.{StartRefusal}
use Rattle.mc_tick.specs.declared.refusal.StartRefusal.TheVariants as starts
use Rattle.mc_tick.specs.declared.resting.Resting.{Resting}
use Rattle.mc_tick.specs.declared.resumed.Resumed.{Resumed}
use Rattle.mc_tick.specs.declared.resumed.Resumed.TheVariants as resumed
use Rattle.app_words.specs.Report.{answer_of, is_dead, is_four}
use Rattle.app_words.specs.Workload.{CallsMain, CanCallMain, is_running, most_ticks, tick_budget, waited}
use Rattle.app_workload.specs.steps.Playing.{EndsFrom, IsPlayedOut}

-- ---- whether it runs

not_running : (o : Option Answer) → ¬ (o ≡ Some running) → is_running o ≡ false
not_running None h = refl
not_running (Some new) h = refl
not_running (Some running) h = absurd (h refl)
not_running (Some (done v)) h = refl
not_running (Some (trap k)) h = refl
not_running (Some (dead k)) h = refl

flip : (b : Bool) → true ≡ not b → b ≡ false
flip true h = absurd cc
flip false h = refl

flip_not : (b : Bool) → false ≡ not b → b ≡ true
flip_not true h = refl
flip_not false h = absurd cc

-- ---- ticks that are waited for

waited_none : (pack : Pack) (s : Standing) → waited pack 0 s ≡ s
unfolding waited
waited_none pack s = refl

waited_more : (pack : Pack) (n : ℕ) (s : Standing) → is_running (answer_of pack s) ≡ true → waited pack (suc n) s ≡ waited pack n (happen pack s (tick tick_budget))
unfolding waited
waited_more pack n s h = ap (λ b. if b then waited pack n (happen pack s (tick tick_budget)) else s) h

waited_rests : (pack : Pack) (n : ℕ) (s : Standing) → is_running (answer_of pack s) ≡ false → waited pack n s ≡ s
unfolding waited
waited_rests pack zero s h = refl
waited_rests pack (suc n) s h = ap (λ b. if b then waited pack n (happen pack s (tick tick_budget)) else s) h

waited_on : (pack : Pack) (n : ℕ) (s : Standing) → 0 < n → is_running (answer_of pack s) ≡ true → waited pack n s ≡ waited pack (n - 1) (happen pack s (tick tick_budget))
waited_on pack zero s more h = absurd (omega (arith, more))
waited_on pack (suc n) s more h = let z : suc n - 1 ≡ n = omega arith in waited_more pack n s h ∙ ap (λ k. waited pack k (happen pack s (tick tick_budget))) (sym z)

waited_out : (pack : Pack) (n : ℕ) (s : Standing) → n ≤ 0 → waited pack n s ≡ s
waited_out pack zero s none = waited_none pack s
waited_out pack (suc n) s none = absurd (omega (arith, none))

-- a state by its parts
state_is : (a : State) (p : Pack) (s : Standing) → a.pack ≡ p → a.standing ≡ s → a ≡ record { pack = p; standing = s }
state_is a p s e f = ap (λ (x : Pack). let r : State = record { pack = x; standing = a.standing } in r) e ∙ ap (λ (x : Standing). let r : State = record { pack = p; standing = x } in r) f

-- ---- the call of `main`

-- the state 4, as the report and as a state tell it
four : (o : Option Tree) → is_four o ≡ true → int_in o ≡ Some (pos 4)
four None h = absurd cc
four (Some (int (pos n))) h = ap (λ m. Some (pos m)) (eqb-true n 4 h)
four (Some (int (negsuc n))) h = absurd cc
four (Some (string t)) h = absurd cc
four (Some (list ts)) h = absurd cc
four (Some (compound fs)) h = absurd cc

alive : (s : State) → ¬ IsDead s → is_dead s.pack s.standing ≡ false
alive s h = go (is_dead s.pack s.standing) refl
  where
    go : (b : Bool) → is_dead s.pack s.standing ≡ b → b ≡ false
    go true e = absurd (h (four _ e))
    go false e = refl

four_is : (o : Option Tree) → int_in o ≡ Some (pos 4) → is_four o ≡ true
four_is None h = absurd cc
four_is (Some (int z)) h = let e : z ≡ pos 4 = cc in ap (λ k. is_four (Some (int k))) e
four_is (Some (string t)) h = absurd cc
four_is (Some (list ts)) h = absurd cc
four_is (Some (compound fs)) h = absurd cc

true_false : true ≡ false → ⊥
true_false e = cc

-- a call that is started, and one that is refused, which leaves the state as it was
can_call : (s : State) (r : Resumed) → IsStarted s 0 [] (Ok r) → CanCallMain s.pack s.standing
can_call s r h = (h.0, alive s h.1)

no_export : (o : Option ExportType) → o ≡ None → ¬ IsCallOf o []
no_export o e c = let P : Option ExportType → Type 0 = λ x. IsCallOf x [] in subst P e c

other_kinds : (o : Option ExportType) → AreOfOtherKinds o [] → ¬ IsCallOf o []
other_kinds None h c = h
other_kinds (Some e) h c = h c.0

-- a refusal that gives this state back
abbrev pub GivesBack : StartRefusal → Resting → Type 0
GivesBack refusal r = (refusal ≡ starts.NoExport r) ⊎ ((refusal ≡ starts.WrongArgs r) ⊎ (refusal ≡ starts.Dead r))

left_out : (s : State) (refusal : StartRefusal) (r : Resting) → GivesBack refusal r → IsStarted s 0 [] (Err refusal) → (resting_state r ≡ s) × (¬ CanCallMain s.pack s.standing)
left_out s refusal r (inl e) h =
    let g : IsStarted s 0 [] (Err (starts.NoExport r)) = subst (λ (f : StartRefusal). IsStarted s 0 [] (Err f)) e h in
    (g.1, λ can. no_export (slice_get s.pack.index.exports 0) g.0 can.0)
left_out s refusal r (inr (inl e)) h =
    let g : IsStarted s 0 [] (Err (starts.WrongArgs r)) = subst (λ (f : StartRefusal). IsStarted s 0 [] (Err f)) e h in
    (g.1, λ can. other_kinds (slice_get s.pack.index.exports 0) g.0 can.0)
left_out s refusal r (inr (inr e)) h =
    let g : IsStarted s 0 [] (Err (starts.Dead r)) = subst (λ (f : StartRefusal). IsStarted s 0 [] (Err f)) e h in
    (g.2, λ can. true_false (sym (four_is (io_value s.pack.index.ns s.standing.world (codes "state")) g.1) ∙ can.1))

pub call_left_out : (s : State) (refusal : StartRefusal) (r : Resting) → GivesBack refusal r → IsStarted s 0 [] (Err refusal) → ¬ IsRunning (resting_state r)
    → IsPlayedOut s.pack (CallsMain s.pack s.standing) (resumed.Resting r)
call_left_out s refusal r g h rests =
    let left = left_out s refusal r g h in
    record { same = ap (λ (z : State). z.pack) left.0; told = rests; ends = inr (left.1, ap (λ (z : State). z.standing) left.0) }

pub call_made : (s : State) (r t : Resumed) → IsStarted s 0 [] (Ok r) → IsResumed (record (state_of r) { standing = waited (state_of r).pack most_ticks (state_of r).standing }) t
    → IsPlayedOut s.pack (CallsMain s.pack s.standing) t
call_made s r t h w =
    record {
      same = ap (λ (z : State). z.pack) w.state ∙ ap (λ (z : State). z.pack) h.2.state;
      told = w.told;
      ends = inl (can_call s r h, ap (λ (z : State). z.standing) w.state ∙ ap (λ (z : State). waited z.pack most_ticks z.standing) h.2.state);
    }

-- ---- the end

pub ends_resting : (s : State) (r : Resumed) (q : Resting) (t : Resumed) → r ≡ resumed.Resting q → IsResumed (record s { standing = waited s.pack most_ticks s.standing }) r
    → IsPlayedOut (resting_state q).pack (CallsMain (resting_state q).pack (resting_state q).standing) t → IsPlayedOut s.pack (EndsFrom s.pack s.standing) t
ends_resting s r q t e h p =
    let g : IsResumed (record s { standing = waited s.pack most_ticks s.standing }) (resumed.Resting q) = subst (λ (x : Resumed). IsResumed (record s { standing = waited s.pack most_ticks s.standing }) x) e h in
    record {
      same = p.same ∙ ap (λ (z : State). z.pack) g.state;
      told = p.told;
      ends = inr (
        ap (λ (z : State). is_running (answer_of z.pack z.standing)) (sym g.state) ∙ not_running (answer_of (resting_state q).pack (resting_state q).standing) g.told,
        subst (λ (z : State). CallsMain z.pack z.standing (state_of t).standing) g.state p.ends,
      );
    }

-- ---- as the loop has it

pub if_ok : {T E : Type 0} (P Q : T → Type 0) (r : Result T E) → ((x : T) → P x → Q x) → IfOk r P → IfOk r Q
if_ok P Q (Ok x) f h = f x h
if_ok P Q (Err e) f h = h

-- a state of the pack with which it began, as it is waited for
pub record Waits (first now : State) (most left : ℕ) : Type 0 where
  pub same : now.pack ≡ first.pack
  pub waits : waited first.pack left now.standing ≡ waited first.pack most first.standing

-- a tick further, while it runs
pub waits_on : (first now next : State) (most left : ℕ) → 0 < left → false ≡ not (is_running (answer_of now.pack now.standing)) → next ≡ after now (tick tick_budget) → Waits first now most left → Waits first next most (left - 1)
waits_on first now next most left more works e h =
    let runs : is_running (answer_of first.pack now.standing) ≡ true = ap (λ (p : Pack). is_running (answer_of p now.standing)) (sym h.same) ∙ flip_not (is_running (answer_of now.pack now.standing)) works in
    let stands : next.standing ≡ happen first.pack now.standing (tick tick_budget) = ap (λ (z : State). z.standing) e ∙ ap (λ (p : Pack). happen p now.standing (tick tick_budget)) h.same in
    record {
      same = ap (λ (z : State). z.pack) e ∙ h.same;
      waits = ap (waited first.pack (left - 1)) stands ∙ sym (waited_on first.pack left now.standing more runs) ∙ h.waits;
    }

-- it rests, or was waited for long enough
pub waits_rest : (first now : State) (most left : ℕ) → true ≡ not (is_running (answer_of now.pack now.standing)) → Waits first now most left → now ≡ record first { standing = waited first.pack most first.standing }
waits_rest first now most left rests h =
    let stays : is_running (answer_of first.pack now.standing) ≡ false = ap (λ (p : Pack). is_running (answer_of p now.standing)) (sym h.same) ∙ flip (is_running (answer_of now.pack now.standing)) rests in
    state_is now first.pack (waited first.pack most first.standing) h.same (sym (waited_rests first.pack left now.standing stays) ∙ h.waits)

pub waits_out : (first now : State) (most left : ℕ) → left ≤ 0 → Waits first now most left → now ≡ record first { standing = waited first.pack most first.standing }
waits_out first now most left none h =
    state_is now first.pack (waited first.pack most first.standing) h.same (sym (waited_out first.pack left now.standing none) ∙ h.waits)
