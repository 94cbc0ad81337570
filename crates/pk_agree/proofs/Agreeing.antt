-- A linked pack agrees with its module, over every lawful list of events.
use Rattle.std.proofs.Common.{◌≡◌, ℕ, Some, true, refl, sym, ◌∙◌, subst}
use Rattle.mc_cmd.specs.Layout.{running, answer}
use Rattle.mc_cmd.specs.Pack.{Pack}
use Rattle.mc_cmd.specs.Word.{is_namespace}
use Rattle.mc_cmd.specs.World.{World}
use Rattle.wm_ast.specs.declared.module.Module.{Module}
use Rattle.wm_valid.specs.Height.{Low}
use Rattle.wm_flat.specs.Program.{IsProgram}
use Rattle.pk_agree.specs.Agree.{TellsOfJob, Agrees}
use Rattle.pk_agree.specs.Job.{Job}
use Rattle.pk_agree.specs.Law.{LinkedPacksAgree, LinkedPacksAgreeStepwise}
use Rattle.pk_agree.specs.Linked.{Linked}
use Rattle.pk_agree.specs.Stepwise.{Stepwise}
use Rattle.pk_agree.proofs.Answers.{public_store}
use Rattle.pk_agree.proofs.Layered.{IsRunning, IsResting}
use Rattle.pk_agree.proofs.Layered as layered
use Rattle.pk_agree.proofs.Pieces.{PiecesAreRight}
use Rattle.pk_agree.proofs.Schedules.{Layers, says, stands_after, stays_public}
use Rattle.pk_agree.proofs.Stages.{stage_same, rests_same}
use Rattle.pk_agree.proofs.Turning.{stands_after_moves}

module _ (m : Module) (p : IsProgram m) (low : Low m) (pack : Pack) (l : Linked m pack) (n : is_namespace pack.index.ns ≡ true) (d : PiecesAreRight) where
  -- the world shows a state that stands for the job; or one in which the job is over
  abbrev pub Running : World → Job → ℕ → Type 0
  Running w j k = IsRunning m p low pack l n d w j k

  abbrev pub Resting : World → Job → Type 0
  Resting w j = IsResting m p low pack l n d w j

  pub tells : (w : World) (j : Job) → (a : Resting w j)
      → TellsOfJob m pack.index.ns w j (answer pack.index.ns w) × (answer pack.index.ns w ≡ Some running → ⊥)
  tells w j a =
      let e : answer pack.index.ns w ≡ Some a.rests.says = layered.rests_answer m p low pack l n d w j a in (
        subst (TellsOfJob m pack.index.ns w j) (sym e) (a.rests.tells w j (refl, refl, refl) (public_store m pack.index.ns w a.state a.rests.store a.rests.stored a.shows)),
        λ f. a.rests.silent (sym e ∙ f),
      )

  pub layers : Layers m pack Running Resting
  layers = record {
    runs = layered.runs_answer m p low pack l n d;
    not_over = layered.not_over m p low pack l n d;
    at_same = λ w j i k e a. record { state = a.state; shows = a.shows; stage = stage_same m a.state j i k e a.stage; opened = a.opened };
    rest_same = λ w j i e a. record { state = a.state; shows = a.shows; rests = rests_same m pack.index.ns a.state j i e a.rests };
    tells = tells;
    tick_runs = layered.tick_runs m p low pack l n d;
    tick_rests = layered.tick_rests m p low pack l n d;
    reload_runs = layered.reload_runs m p low pack l n d;
    reload_rests = layered.reload_rests m p low pack l n d;
    other_runs = layered.other_runs m p low pack l n d;
    other_rests = layered.other_rests m p low pack l n d;
    call_runs = layered.call_runs m p low pack l n d;
    call_rests = layered.call_rests m p low pack l n d;
    turn_runs = layered.turn_runs m p low pack l n d;
    turn_rests = layered.turn_rests m p low pack l n d;
    begins = layered.begins m p low pack l n d;
  }

  pub agrees : Agrees m pack
  agrees = record {
    exports = l.exports;
    always = λ events h.
        let r = stands_after m pack Running Resting layers events h in
        (r.0, r.1, says m pack Running Resting layers _ r.0 r.2);
    quiet = λ events h e.
        let r = stands_after m pack Running Resting layers events h in
        stays_public m pack Running Resting layers _ r.0 r.2 e;
  }

  pub agrees_stepwise : Stepwise m pack
  agrees_stepwise = record {
    exports = l.exports;
    always = λ moves h.
        let r = stands_after_moves m pack Running Resting layers moves h in
        (r.0, r.1, says m pack Running Resting layers _ r.0 r.2);
  }

pub linked_agree : PiecesAreRight → LinkedPacksAgree
linked_agree d m pack p low l n = agrees m p low pack l n d

pub linked_agree_stepwise : PiecesAreRight → LinkedPacksAgreeStepwise
linked_agree_stepwise d m pack p low l n = agrees_stepwise m p low pack l n d
