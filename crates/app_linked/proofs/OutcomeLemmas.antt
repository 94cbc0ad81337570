-- What becomes of an image, for the configuration of linked modules of which it is one.
use Rattle.std.proofs.Common.{◌≡◌, ℕ, ◌-◌, List, sym, subst}
use Rattle.mc_nbt.specs.declared.value.Value.{Value}
use Rattle.wm_ast.specs.declared.answer.TrapKind.{TrapKind}
use Rattle.wm_ast.specs.After as one_after
use Rattle.wm_ast.specs.Store as one_store
use Rattle.wm_match.specs.Program.{Program}
use Rattle.wm_join.specs.Image.{HasGlobals, image_store, image_config, image_progress, image_outcome}
use Rattle.wm_join.specs.Joined.{joined}
use Rattle.wm_join.specs.LinkedAfter.{after, IsNext, Outcome, Ends, Traps, Runs, HasOutcome}
use Rattle.wm_join.specs.LinkedConfiguration.{Config}
use Rattle.wm_join.specs.LinkedStep.{Progress, Next, Ended, Trapped, Stuck}
use Rattle.wm_join.specs.LinkedStore.{Store}
use Rattle.wm_join.proofs.RunLaws.{after_is_image}
use Rattle.wm_join.proofs.OutcomeLaws.{outcomes_agree}
use Rattle.pk_agree.specs.Job as one
use Rattle.app_linked.specs.Job.{Job, IsOverWithin, image_job}

module _ (p : Program) (c : Config) where
  -- the store of linked modules that an image of an outcome with a store has
  pub record Left (x : Store → Outcome) (s : one_store.Store) : Type 0 where
    pub store : Store
    pub image : s ≡ image_store p store
    pub has : HasOutcome p c (x store)

  ends_in : (vs : List Value) (s : one_store.Store) (y : Outcome) → HasOutcome p c y → one_after.Ends vs s ≡ image_outcome p y → Left (Ends vs) s
  ends_in vs s (Ends us t) h e =
      let a : vs ≡ us = cc in
      let b : s ≡ image_store p t = cc in
      record { store = t; image = b; has = subst (λ ws. HasOutcome p c (Ends ws t)) (sym a) h }
  ends_in vs s (Traps k t) h e = absurd cc
  ends_in vs s Runs h e = absurd cc

  traps_in : (k : TrapKind) (s : one_store.Store) (y : Outcome) → HasOutcome p c y → one_after.Traps k s ≡ image_outcome p y → Left (Traps k) s
  traps_in k s (Traps i t) h e =
      let a : k ≡ i = cc in
      let b : s ≡ image_store p t = cc in
      record { store = t; image = b; has = subst (λ j. HasOutcome p c (Traps j t)) (sym a) h }
  traps_in k s (Ends us t) h e = absurd cc
  traps_in k s Runs h e = absurd cc

  runs_in : (y : Outcome) → HasOutcome p c y → one_after.Runs ≡ image_outcome p y → HasOutcome p c Runs
  runs_in Runs h e = h
  runs_in (Ends us t) h e = absurd cc
  runs_in (Traps k t) h e = absurd cc

  module _ (fits : HasGlobals p c.store) where
    pub ends_linked : (vs : List Value) (s : one_store.Store) → one_after.HasOutcome (joined p) (image_config p c) (one_after.Ends vs s) → Left (Ends vs) s
    ends_linked vs s h =
        let o = outcomes_agree p c (one_after.Ends vs s) fits h in
        ends_in vs s o.outcome o.has o.image

    pub traps_linked : (k : TrapKind) (s : one_store.Store) → one_after.HasOutcome (joined p) (image_config p c) (one_after.Traps k s) → Left (Traps k) s
    traps_linked k s h =
        let o = outcomes_agree p c (one_after.Traps k s) fits h in
        traps_in k s o.outcome o.has o.image

    pub runs_linked : one_after.HasOutcome (joined p) (image_config p c) one_after.Runs → HasOutcome p c Runs
    runs_linked h =
        let o = outcomes_agree p c one_after.Runs fits h in
        runs_in o.outcome o.has o.image

-- what goes on has an image that goes on, and the other way round
next_has : (p : Program) (x : Progress) → one_after.IsNext (image_progress p x) → IsNext x
next_has p (Next d) h = tt
next_has p (Ended us t) h = absurd h
next_has p (Trapped k t) h = absurd h
next_has p Stuck h = absurd h

-- a job that is over within so many steps is over within them as its image
pub over_is : (p : Program) (j : Job) (n : ℕ) → HasGlobals p j.config.store → IsOverWithin p j n → one.IsOverWithin (joined p) (image_job p j) n
over_is p j n fits over =
    (over.0, λ h. over.1 (next_has p (after p j.config (n - j.offset)) (subst one_after.IsNext (after_is_image p j.config (n - j.offset) fits) h)))
