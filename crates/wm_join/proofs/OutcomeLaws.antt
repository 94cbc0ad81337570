-- Outcomes of the joined module are those of the linked modules.
use Rattle.std.proofs.Common.{◌≡◌, ℕ, List, Option, Some, None, option_map, refl, sym, ap, subst, ◌∙◌}
use Rattle.std.specs.Prelude.{slice_get}
use Rattle.mc_nbt.specs.declared.value.Value.{Value}
use Rattle.wm_ast.specs.declared.answer.TrapKind.{TrapKind}
use Rattle.wm_ast.specs.After as one_after
use Rattle.wm_ast.specs.Configuration as one
use Rattle.wm_ast.specs.Instance as one_instance
use Rattle.wm_ast.specs.Instance.{exported_functions}
use Rattle.wm_ast.specs.Step as one_step
use Rattle.wm_ast.specs.Store.{Store}
use Rattle.wm_match.specs.Program.{Program}
use Rattle.wm_join.specs.Agree.{Fits}
use Rattle.wm_join.specs.Image.{HasGlobals, image_store, image_config, image_progress}
use Rattle.wm_join.specs.Joined.{joined}
use Rattle.wm_join.specs.LinkedAfter.{IsNext, Outcome as LinkedOutcome, Ends, Traps, Runs, HasOutcome as HasLinkedOutcome, after}
use Rattle.wm_join.specs.LinkedConfiguration.{Config as LinkedConfig}
use Rattle.wm_join.specs.LinkedInstance.{call_config}
use Rattle.wm_join.specs.LinkedStep.{Progress, Next, Ended, Trapped, Stuck}
use Rattle.wm_join.specs.LinkedStore.{Store as LinkedStore}
use Rattle.wm_join.specs.Image.{image_outcome}
use Rattle.wm_join.specs.Agree.{LeavesGlobals, IsOutcomeOf, OutcomesAgree, left_by, one_left_by, IsCallAfter, CallsFollow}
use Rattle.wm_join.proofs.RunLaws.{after_is_image, after_keeps, calls_are}

module _ (p : Program) (c : LinkedConfig) where
  ended : (n : ℕ) (vs : List Value) (s : Store) (x : Progress) → after p c n ≡ x → Fits p x → image_progress p x ≡ one_step.Ended vs s → IsOutcomeOf p c (one_after.Ends vs s)
  ended n vs s (Ended us t) e fits h = record {
    outcome = Ends us t;
    has = (n, e);
    image = let a : vs ≡ us = cc in let b : s ≡ image_store p t = cc in cc;
    leaves = fits;
  }
  ended n vs s (Next d) e fits h = absurd cc
  ended n vs s (Trapped k t) e fits h = absurd cc
  ended n vs s Stuck e fits h = absurd cc

  trapped : (n : ℕ) (k : TrapKind) (s : Store) (x : Progress) → after p c n ≡ x → Fits p x → image_progress p x ≡ one_step.Trapped k s → IsOutcomeOf p c (one_after.Traps k s)
  trapped n k s (Trapped j t) e fits h = record {
    outcome = Traps j t;
    has = (n, e);
    image = let a : k ≡ j = cc in let b : s ≡ image_store p t = cc in cc;
    leaves = fits;
  }
  trapped n k s (Next d) e fits h = absurd cc
  trapped n k s (Ended us t) e fits h = absurd cc
  trapped n k s Stuck e fits h = absurd cc

  next_is : (x : Progress) → one_after.IsNext (image_progress p x) → IsNext x
  next_is (Next d) h = tt
  next_is (Ended us t) h = absurd h
  next_is (Trapped j t) h = absurd h
  next_is Stuck h = absurd h

pub outcomes_agree : (p : Program) → OutcomesAgree p
outcomes_agree p c (one_after.Ends vs s) has h =
    ended p c h.0 vs s (after p c h.0) refl (after_keeps p c h.0 has) (sym (after_is_image p c h.0 has) ∙ h.1)
outcomes_agree p c (one_after.Traps k s) has h =
    trapped p c h.0 k s (after p c h.0) refl (after_keeps p c h.0 has) (sym (after_is_image p c h.0 has) ∙ h.1)
outcomes_agree p c one_after.Runs has h = record {
  outcome = Runs;
  has = λ n. next_is p c (after p c n) (subst one_after.IsNext (after_is_image p c n has) (h n));
  image = refl;
  leaves = tt;
}

module _ (p : Program) (c : LinkedConfig) (k : ℕ) (arguments : List Value) (d : one.Config) where
  over_store : (y : LinkedOutcome) → HasLinkedOutcome p c y → (t : LinkedStore) → left_by y ≡ Some t → HasGlobals p t → (o : Option ℕ) → slice_get (exported_functions p.main) k ≡ o
      → option_map (image_config p) (option_map (λ f. call_config p t f arguments) o) ≡ Some d → IsCallAfter p c k arguments d
  over_store y h t l g None e w = absurd cc
  over_store y h t l g (Some f) e w = record {
    outcome = y;
    has = h;
    store = t;
    left = l;
    config = call_config p t f arguments;
    begins = ap (option_map (λ (n : ℕ). call_config p t n arguments)) e;
    image = let v : image_config p (call_config p t f arguments) ≡ d = cc in sym v;
    globals = g;
  }

  from_image : (y : LinkedOutcome) → HasLinkedOutcome p c y → (t : LinkedStore) → left_by y ≡ Some t → HasGlobals p t
      → one_instance.export_config (joined p) (image_store p t) k arguments ≡ Some d → IsCallAfter p c k arguments d
  from_image y h t l g w = over_store y h t l g (slice_get (exported_functions p.main) k) refl (sym (calls_are p t k arguments) ∙ w)

  by_outcome : (y : LinkedOutcome) → HasLinkedOutcome p c y → LeavesGlobals p y → (s : Store) → one_left_by (image_outcome p y) ≡ Some s
      → one_instance.export_config (joined p) s k arguments ≡ Some d → IsCallAfter p c k arguments d
  by_outcome (Ends vs t) h g s l w =
      let e : image_store p t ≡ s = cc in
      from_image (Ends vs t) h t refl g (ap (λ (z : Store). one_instance.export_config (joined p) z k arguments) e ∙ w)
  by_outcome (Traps j t) h g s l w =
      let e : image_store p t ≡ s = cc in
      from_image (Traps j t) h t refl g (ap (λ (z : Store). one_instance.export_config (joined p) z k arguments) e ∙ w)
  by_outcome Runs h g s l w = absurd cc

pub calls_follow : (p : Program) → CallsFollow p
calls_follow p c x s k arguments d has h l w =
    let o = outcomes_agree p c x has h in
    by_outcome p c k arguments d o.outcome o.has o.leaves s (ap one_left_by (sym o.image) ∙ l) w
