-- Only one job of linked modules stands after a list of events.
use Rattle.std.proofs.Common.{◌≡◌, ℕ, zero, suc, ◌+◌, List, [], ◌∷◌, Option, Some, None, refl, sym, ap, subst, ◌∙◌, arith}
use Rattle.mc_nbt.specs.declared.value.Value.{Value}
use Rattle.mc_cmd.specs.Layout.{Answer, answer}
use Rattle.mc_cmd.specs.Pack.{Pack, Event, call, tick, reload, other, Standing, happen, loaded}
use Rattle.mc_cmd.proofs.FormLemmas.{some_same}
use Rattle.wm_match.specs.Program.{Program}
use Rattle.wm_join.specs.Agree.{left_by}
use Rattle.wm_join.specs.LinkedAfter.{after, one_more, IsNext, Outcome, Ends, Traps, Runs, HasOutcome}
use Rattle.wm_join.specs.LinkedConfiguration.{Config}
use Rattle.wm_join.specs.LinkedInstance.{export_config}
use Rattle.wm_join.specs.LinkedStep.{Progress, Ended, Trapped}
use Rattle.wm_join.specs.LinkedStore.{Store}
use Rattle.app_linked.specs.Job.{Job, first_job, call_job, AfterCall, begins, stays, AfterEvent, AfterEvents, IsPresent}

abbrev outcome : Progress → Outcome
outcome (Ended vs s) = Ends vs s
outcome (Trapped k s) = Traps k s
outcome _ = Runs

module _ (p : Program) (c : Config) where
  -- what is over stays so
  over_stays : (x : Progress) (n d : ℕ) → after p c n ≡ x → one_more p x ≡ x → after p c (n + d) ≡ x
  over_stays x n zero e u = let z : n + zero ≡ n = omega arith in ap (after p c) z ∙ e
  over_stays x n (suc d) e u =
      let z : n + suc d ≡ suc (n + d) = omega arith in
      ap (after p c) z ∙ ap (one_more p) (over_stays x n d e u) ∙ u

  -- what was over after some steps, and after some others
  both_over : (n k : ℕ) (x y : Progress) → after p c n ≡ x → after p c k ≡ y → one_more p x ≡ x → one_more p y ≡ y → outcome x ≡ outcome y
  both_over n k x y e h u v =
      let z : n + k ≡ k + n = omega arith in
      ap outcome (sym (over_stays x n k e u) ∙ ap (after p c) z ∙ over_stays y k n h v)

  one_outcome : (x y : Outcome) → HasOutcome p c x → HasOutcome p c y → x ≡ y
  one_outcome (Ends vs s) (Ends ws t) h g = both_over h.0 g.0 (Ended vs s) (Ended ws t) h.1 g.1 refl refl
  one_outcome (Ends vs s) (Traps k t) h g = both_over h.0 g.0 (Ended vs s) (Trapped k t) h.1 g.1 refl refl
  one_outcome (Ends vs s) Runs h g = absurd (subst IsNext h.1 (g h.0))
  one_outcome (Traps k s) (Ends ws t) h g = both_over h.0 g.0 (Trapped k s) (Ended ws t) h.1 g.1 refl refl
  one_outcome (Traps k s) (Traps j t) h g = both_over h.0 g.0 (Trapped k s) (Trapped j t) h.1 g.1 refl refl
  one_outcome (Traps k s) Runs h g = absurd (subst IsNext h.1 (g h.0))
  one_outcome Runs (Ends ws t) h g = absurd (subst IsNext g.1 (h g.0))
  one_outcome Runs (Traps j t) h g = absurd (subst IsNext g.1 (h g.0))
  one_outcome Runs Runs h g = refl

  -- a configuration that goes on for ever leaves no store
  none_left : (x : Outcome) (s : Store) → HasOutcome p c x → left_by x ≡ Some s → HasOutcome p c Runs → ⊥
  none_left x s h e g =
      let w : None ≡ Some s = ap left_by (one_outcome Runs x g h) ∙ e in
      cc

module _ (p : Program) where
  one_call : (a : Option Answer) (j : Job) (k : ℕ) (args : List Value) (g i : Job) → AfterCall p a j k args g → AfterCall p a j k args i → g ≡ i
  one_call a j k args g i (begins x s c r o l e) (begins y t d q h n f) =
      let u : s ≡ t = some_same s t (sym l ∙ ap left_by (one_outcome p j.config x y o h) ∙ n) in
      ap call_job (some_same c d (sym e ∙ ap (λ r. export_config p r k args) u ∙ f))
  one_call a j k args g i (begins x s c r o l e) (stays h) = absurd (none_left p j.config x s o l (h r))
  one_call a j k args g i (stays h) (begins x s c r o l e) = absurd (none_left p j.config x s o l (h r))
  one_call a j k args g i (stays h) (stays f) = refl

  one_event : (a : Option Answer) (j : Job) (e : Event) (g i : Job) → AfterEvent p a j e g → AfterEvent p a j e i → g ≡ i
  one_event a j (call k args) g i h q = one_call a j k args g i h q
  one_event a j (tick b) g i h q = h ∙ sym q
  one_event a j (reload b) g i h q = h ∙ sym q
  one_event a j (other c) g i h q = h ∙ sym q

  one_list : (pack : Pack) (events : List Event) (s : Standing) (j g i : Job) → AfterEvents p pack s j events g → AfterEvents p pack s j events i → g ≡ i
  one_list pack [] s j g i h q = h ∙ sym q
  one_list pack (e ∷ es) s j g i h q =
      one_list pack es (happen pack s e) h.0 g i h.2
      (subst (λ f. AfterEvents p pack (happen pack s e) f es i)
      (sym (one_event (answer pack.index.ns s.world) j e h.0 q.0 h.1 q.1)) q.2)

pub only_one : (p : Program) (pack : Pack) (events : List Event) (i j : Job) → IsPresent p pack events i → IsPresent p pack events j → i ≡ j
only_one p pack events i j h q = one_list p pack events (loaded pack) (first_job p) i j h q
