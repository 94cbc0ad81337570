-- Only one job stands after a list of events.
use Rattle.std.proofs.Common.{◌≡◌, ℕ, List, [], ◌∷◌, Option, Some, None, refl, sym, ap, ◌∙◌, subst}
use Rattle.mc_nbt.specs.declared.value.Value.{Value}
use Rattle.mc_cmd.specs.Layout.{Answer, answer}
use Rattle.mc_cmd.specs.Pack.{Pack, Event, call, tick, reload, other, Standing, happen, loaded}
use Rattle.wm_ast.specs.declared.module.Module.{Module}
use Rattle.wm_ast.specs.After.{Outcome, Runs, HasOutcome}
use Rattle.wm_ast.specs.Configuration.{Config}
use Rattle.wm_ast.specs.Instance.{export_config}
use Rattle.wm_ast.specs.Store.{Store}
use Rattle.wm_flat.proofs.Outcomes.{one_outcome}
use Rattle.pk_agree.specs.Job.{Job, first_job, call_job, left_by, AfterCall, begins, stays, AfterEvent, AfterEvents, IsPresent}

some_same : {A : Type 0} (x y : A) → Some x ≡ Some y → x ≡ y
some_same x y e = ap (from x) e
  where
    from : {A : Type 0} → A → Option A → A
    from d None = d
    from d (Some z) = z

-- a configuration that goes on for ever leaves no store
none_left : (m : Module) (d : Config) (x : Outcome) (s : Store) → HasOutcome m d x → left_by x ≡ Some s
    → HasOutcome m d Runs → ⊥
none_left m d x s h e g =
    let w : None ≡ Some s = ap left_by (one_outcome m d Runs x g h) ∙ e in
    cc

module _ (m : Module) where
  one_call : (a : Option Answer) (j : Job) (k : ℕ) (args : List Value) (g i : Job) → AfterCall m a j k args g
      → AfterCall m a j k args i → g ≡ i
  one_call a j k args g i (begins x s c r o l e) (begins y t d q p n f) =
      let u : s ≡ t = some_same s t (sym l ∙ ap left_by (one_outcome m j.config x y o p) ∙ n) in
      ap call_job (some_same c d (sym e ∙ ap (λ r. export_config m r k args) u ∙ f))
  one_call a j k args g i (begins x s c r o l e) (stays h) = absurd (none_left m j.config x s o l (h r))
  one_call a j k args g i (stays h) (begins x s c r o l e) = absurd (none_left m j.config x s o l (h r))
  one_call a j k args g i (stays h) (stays f) = refl

  one_event : (a : Option Answer) (j : Job) (e : Event) (g i : Job) → AfterEvent m a j e g → AfterEvent m a j e i
      → g ≡ i
  one_event a j (call k args) g i p q = one_call a j k args g i p q
  one_event a j (tick b) g i p q = p ∙ sym q
  one_event a j (reload b) g i p q = p ∙ sym q
  one_event a j (other c) g i p q = p ∙ sym q

  one_list : (pack : Pack) (events : List Event) (s : Standing) (j g i : Job) → AfterEvents m pack s j events g
      → AfterEvents m pack s j events i → g ≡ i
  one_list pack [] s j g i p q = p ∙ sym q
  one_list pack (e ∷ es) s j g i p q =
      one_list pack es (happen pack s e) p.0 g i p.2
      (subst (λ h. AfterEvents m pack (happen pack s e) h es i)
      (sym (one_event (answer pack.index.ns s.world) j e p.0 q.0 p.1 q.1)) q.2)

pub only_one : (m : Module) (pack : Pack) (events : List Event) (i j : Job) → IsPresent m pack events i
    → IsPresent m pack events j → i ≡ j
only_one m pack events i j p q = one_list m pack events (loaded pack) (first_job m) i j p q
