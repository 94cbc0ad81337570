-- Laws of agreement, which the contracts of public functions cite.
use Rattle.std.specs.Prelude.{◌≡◌, List, true}
use Rattle.mc_cmd.specs.Pack.{Pack, Event}
use Rattle.mc_cmd.specs.Word.{is_namespace}
use Rattle.wm_ast.specs.declared.module.Module.{Module}
use Rattle.wm_valid.specs.Height.{Low}
use Rattle.wm_flat.specs.Program.{IsProgram}
use Rattle.pk_agree.specs.Agree.{Agrees}
use Rattle.pk_agree.specs.Job.{Job, IsPresent}
use Rattle.pk_agree.specs.Linked.{Linked}
use Rattle.pk_agree.specs.Resume.{Resumable}
use Rattle.pk_agree.specs.Stepwise.{Stepwise}

-- a pack that is linked of a module agrees with it, under every namespace
abbrev pub LinkedPacksAgree : Type 0
LinkedPacksAgree = (m : Module) (pack : Pack) → IsProgram m → Low m → Linked m pack
    → is_namespace pack.index.ns ≡ true → Agrees m pack

-- and does so piece after piece
abbrev pub LinkedPacksAgreeStepwise : Type 0
LinkedPacksAgreeStepwise = (m : Module) (pack : Pack) → IsProgram m → Low m → Linked m pack
    → is_namespace pack.index.ns ≡ true → Stepwise m pack

-- and while it runs it stands for what its job has come to
abbrev pub LinkedPacksAreResumable : Type 0
LinkedPacksAreResumable = (m : Module) (pack : Pack) → IsProgram m → Low m → Linked m pack
    → is_namespace pack.index.ns ≡ true → Resumable m pack

-- only one job stands after a list of events
abbrev pub OnlyOneJob : Type 0
OnlyOneJob = (m : Module) (pack : Pack) (events : List Event) (i j : Job) → IsPresent m pack events i
    → IsPresent m pack events j → i ≡ j
