-- The laws of linked modules under the events of a pack, which the contracts of public functions cite.
use Rattle.std.specs.Prelude.{◌≡◌, List}
use Rattle.mc_cmd.specs.Pack.{Pack, Event}
use Rattle.pk_agree.specs.Job as one
use Rattle.wm_valid.specs.Valid.{Valid}
use Rattle.wm_match.specs.Program.{Program}
use Rattle.wm_join.specs.Image.{HasGlobals}
use Rattle.wm_join.specs.Joined.{joined}
use Rattle.app_words.specs.Act.{ScriptLine}
use Rattle.app_words.specs.Report.{Reported}
use Rattle.app_tell.specs.Tell.{TellsReduction}
use Rattle.app_linked.specs.Job.{Job, IsPresent, image_job}
use Rattle.app_linked.specs.Tell.{TellsLinked}

-- A job of the joined module, after these events, is the image of the job of the linked modules after them.
pub record IsLinkedJob (p : Program) (pack : Pack) (events : List Event) (j : one.Job) : Type 0 where
  pub job : Job
  pub is_present : IsPresent p pack events job
  pub image : j ≡ image_job p job
  pub globals : HasGlobals p job.config.store

-- so it is of each job that stands
abbrev pub JoinedJobsAreLinked : Type 0
JoinedJobsAreLinked = (p : Program) (pack : Pack) (events : List Event) (j : one.Job) → Valid (joined p)
    → one.IsPresent (joined p) pack events j → IsLinkedJob p pack events j

-- only one job of linked modules stands after a list of events
abbrev pub OnlyOneLinkedJob : Type 0
OnlyOneLinkedJob = (p : Program) (pack : Pack) (events : List Event) (i j : Job) → IsPresent p pack events i
    → IsPresent p pack events j → i ≡ j

-- what is told by the reduction of the joined module is told by that of the linked modules
abbrev pub LinesTellLinkedModules : Type 0
LinesTellLinkedModules = (p : Program) (pack : Pack) (ls : List ScriptLine) (r : Reported) → Valid (joined p)
    → TellsReduction (joined p) pack ls r → TellsLinked p pack ls r
