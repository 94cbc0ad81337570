-- What becomes of each pack of the example under the events of `Events`.
use Rattle.std.specs.Prelude.{◌≡◌, ℕ, zero, suc, pos, List, [], ◌∷◌, ◌++◌, Some, None, codes}
use Rattle.mc_nbt.specs.declared.value.Kind.TheVariants as kinds
use Rattle.mc_nbt.specs.declared.value.Value.{Value}
use Rattle.mc_nbt.specs.declared.value.Value.TheVariants as values
use Rattle.mc_cmd.specs.declared.TheConstants.{BMIN}
use Rattle.mc_cmd.specs.Layout.{Answer, new, running, done, trap, dead, answer}
use Rattle.mc_cmd.specs.Pack.{Event, ExportType, Pack, loaded, play, tick}
use Rattle.wm_ast.specs.declared.answer.TrapKind.TheVariants.{Unreachable}
use Rattle.wm_ast.specs.declared.module.Module.{Module}
use Rattle.wm_ast.specs.After.{Ends, HasOutcome, after}
use Rattle.wm_ast.specs.Configuration.{Config}
use Rattle.wm_ast.specs.Instance.{call_config, first_config}
use Rattle.wm_ast.specs.Step.{Next}
use Rattle.wm_ast.specs.Store.{Store}
use Rattle.cc_line.specs.Routine.{trap_number}
use Rattle.pk_agree.specs.Agree.{IsTrueOf}
use Rattle.pk_agree.specs.Job.{Job, IsPresent, call_job, first_job, ticked_job}
use Rattle.pk_agree.specs.Resume.{Resumes, StandsFor}
use Rattle.pk_agree.specs.Stepwise.{Move, call, turn, LawfulMoves, after_moves}
use Rattle.witness.specs.Events.{greatest, schedule, up_to_call}
use Rattle.witness.specs.Example.{example, dying}

-- the exports
abbrev pub run_type : ExportType
run_type = record { name = codes "run"; params = kinds.I64 ∷ []; result = Some kinds.I64 }

abbrev pub spin_type : ExportType
spin_type = record { name = codes "spin"; params = []; result = None }

abbrev pub fail_type : ExportType
fail_type = record { name = codes "fail"; params = []; result = None }

abbrev pub export_types : List ExportType
export_types = run_type ∷ spin_type ∷ fail_type ∷ []

-- after these events the pack is at this job, of which all holds that agreement says, and answers so
pub record StandsAt (m : Module) (pack : Pack) (events : List Event) (j : Job) (a : Answer) : Type 0 where
  pub present : IsPresent m pack events j
  pub true_of : IsTrueOf m pack (play pack events) j
  pub answers : answer pack.index.ns (play pack events).world ≡ Some a

-- after these events the pack runs at this job, and can be resumed
pub record RunsAt (pack : Pack) (events : List Event) (j : Job) : Type 0 where
  pub stands : StandsAt example pack events j running
  pub resumes : Resumes example pack.index.ns (play pack events).world j

-- after these events the state of the pack stands for a configuration that the job has come to
pub record ShowsConfiguration (pack : Pack) (events : List Event) (j : Job) : Type 0 where
  pub steps : ℕ
  pub config : Config
  pub reached : after example j.config steps ≡ Next config
  pub shows : StandsFor example pack.index.ns (play pack events).world config

-- ticks of the least and of the greatest budget, and the job of instantiation after these
abbrev pub ticks : List Event
ticks = tick BMIN ∷ tick greatest ∷ []

abbrev pub ready_job : Module → Job
ready_job m = ticked_job (ticked_job (first_job m) BMIN) greatest

-- the job of a call of a function over a store, and after a tick
abbrev pub job_of : Store → ℕ → List Value → Job
job_of s f arguments = call_job (call_config s f arguments)

abbrev pub ticked_call : Store → ℕ → List Value → Job
ticked_call s f arguments = ticked_job (job_of s f arguments) greatest

-- The pack runs from loading on, and is new after ticks. A call of an export begins over the store that instantiation
-- left, and the pack runs. It answers the sum that the first export gives, and the trap of the third; the second runs
-- on.
pub record IsPlayed (pack : Pack) : Type 0 where
  pub store : Store
  pub instantiates : HasOutcome example (first_config example) (Ends [] store)
  pub starts : RunsAt pack [] (first_job example)
  pub is_new : StandsAt example pack ticks (ready_job example) new
  pub called : RunsAt pack (up_to_call 0 run_type.params) (job_of store 0 (values.I64 (pos 301) ∷ []))
  pub ends : StandsAt example pack (schedule pack.index.ns 0 run_type.params)
      (ticked_call store 0 (values.I64 (pos 301) ∷ [])) (done (Some (values.I64 (pos 70))))
  pub spins : RunsAt pack (schedule pack.index.ns 1 spin_type.params) (ticked_call store 3 [])
  pub shows : ShowsConfiguration pack (schedule pack.index.ns 1 spin_type.params) (ticked_call store 3 [])
  pub fails : StandsAt example pack (schedule pack.index.ns 2 fail_type.params) (ticked_call store 4 [])
      (trap (trap_number Unreachable))

-- Piece after piece: turns enough for instantiation, a call of the first export, and turns enough for the call.
abbrev pub turns : ℕ → List Move
turns zero = []
turns (suc n) = turn ∷ turns n

abbrev pub moves : List Move
moves = turns 1000 ++ (call 0 (values.I64 (pos 301) ∷ []) ∷ turns 1000)

-- After these moves the pack has answered with the sum.
abbrev pub IsPlayedByTurns : Pack → Type 0
IsPlayedByTurns pack =
    LawfulMoves pack.index moves
    × (answer pack.index.ns (after_moves pack moves (loaded pack)).world ≡ Some (done (Some (values.I64 (pos 70)))))

-- the pack of a module whose start function traps is dead after ticks
abbrev pub Dies : Pack → Type 0
Dies pack = StandsAt dying pack ticks (ready_job dying) (dead (trap_number Unreachable))
