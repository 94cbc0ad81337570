-- What may be printed where a script asks where the program is, and when the lines of such a script are what
-- WebAssembly's reduction gives.
use Rattle.std.specs.Prelude.{◌≡◌, ◌⊎◌, ◌≤◌, ℕ, ◌+◌, ◌*◌, List, [], ◌∷◌, ◌++◌, Some, Result, Ok, Err}
use Rattle.mc_cmd.specs.Form.{Text}
use Rattle.mc_cmd.specs.Layout.{Answer, running, answer}
use Rattle.mc_cmd.specs.Pack.{Pack, Event, play}
use Rattle.mc_cmd.specs.World.{World}
use Rattle.wm_ast.specs.declared.module.Module.{Module}
use Rattle.wm_ast.specs.After.{after}
use Rattle.wm_ast.specs.Configuration.{Config}
use Rattle.wm_ast.specs.Step.{Next}
use Rattle.wm_view.specs.declared.view.Inspection.{Inspection}
use Rattle.wm_view.specs.View.{view}
use Rattle.pk_agree.specs.Job.{Job}
use Rattle.pk_agree.specs.Resume.{StandsFor}
use Rattle.mc_inspect.specs.declared.fault.InspectFault.{InspectFault}
use Rattle.mc_inspect.specs.declared.fault.InspectFault.TheVariants as faults
use Rattle.mc_inspect.specs.Inspect.{IsAnswer, IsStarting}
use Rattle.app_words.specs.Act.{Act, ScriptLine}
use Rattle.app_words.specs.Act as act
use Rattle.app_words.specs.Lines.{last_line, no_part, show_text, shown}
use Rattle.app_words.specs.Report.{Cause, finished, refused, stops, acted}
use Rattle.app_words.specs.WhereReport.{Begun, IsBefore, IsLeft}
use Rattle.app_report.specs.Where.{start_line, where_lines}
use Rattle.app_tell.specs.Tell.{LineTells, Now}

-- ---- what may be printed

-- the text of an answer to who asks where the program is; want of memory has none
abbrev pub IsTextOf : Text → World → Result Inspection InspectFault → Text → Type 0
IsTextOf ns w (Ok v) t = t ≡ where_lines v
IsTextOf ns w (Err faults.NotRunning) t = t ≡ show_text ns w
IsTextOf ns w (Err faults.Starting) t = t ≡ start_line
IsTextOf ns w (Err (faults.NoPlace piece)) t = t ≡ no_part
IsTextOf ns w (Err faults.Memory) t = ⊥

-- a text may be printed of the program of a module, for the pack of a namespace in a world: it is that of an answer
abbrev pub MayTell : Module → Text → World → Text → Type 0
MayTell m ns w t = (a : Result Inspection InspectFault) × IsAnswer m ns w a × IsTextOf ns w a t

-- ---- where a job is

-- a piece of instantiation is next, and the credit is at most 16 for each of its steps and one more
pub record IsAtStart (ns : Text) (w : World) (j : Job) (text : Text) : Type 0 where
  pub starting : IsStarting ns w
  pub paid : j.credit ≤ 16 * (j.offset + 1)
  pub prints : text ≡ start_line

-- The world stands for what the job has come to after n steps, and the credit is at most 16 for each of these and one
-- more, and those before. What this configuration shows is printed.
pub record IsAtPlace (m : Module) (ns : Text) (w : World) (j : Job) (text : Text) : Type 0 where
  pub started : IsStarting ns w → ⊥
  pub n : ℕ
  pub config : Config
  pub comes : after m j.config n ≡ Next config
  pub stands : StandsFor m ns w config
  pub paid : j.credit ≤ 16 * (n + 1 + j.offset)
  pub prints : text ≡ where_lines (view config)

-- what is printed of where a job is, by the answer: while the pack runs, the beginning or a place; and else the answer
abbrev pub TellsPlace : Module → Text → World → Job → Answer → Text → Type 0
TellsPlace m ns w j running text = IsAtStart ns w j text ⊎ IsAtPlace m ns w j text
TellsPlace m ns w j a text = text ≡ shown (Some a)

-- a line that asks where the program is, after these events: of the job that stands then, which came to this answer
pub record WhereTells (m : Module) (pack : Pack) (events : List Event) (text : Text) : Type 0 where
  pub now : Now m pack events
  pub answers : answer pack.index.ns (play pack events).world ≡ Some now.answer
  pub tells : TellsPlace m pack.index.ns (play pack events).world now.job now.answer text

-- ---- a whole script

-- a line of a script that may ask: it prints what the reduction gives, and makes events, of which there are none where
-- it asks
abbrev pub LineTellsToo : Module → Pack → List Event → Act → Text → List Event → Type 0
LineTellsToo m pack events act.inspect text made = WhereTells m pack events text × (made ≡ [])
LineTellsToo m pack events a text made = LineTells m pack events a text made

-- a line is refused after these events: nothing more is printed, and the script ends there
abbrev pub IsStopped : Pack → List Event → ScriptLine → Begun → Type 0
IsStopped pack events l r =
    (c : Cause)
    × (acted pack l.act (play pack events) ≡ stops c)
    × (r ≡ record { text = []; end = Some (refused l.line c) })

-- What is reported of these lines, after these events: the text of each line is what the reduction gives after the
-- events of the lines before it. Behind the last line both counts are printed. Where the report was left, this is so of
-- the lines so far.
abbrev pub TellsFrom : Module → Pack → List Event → List ScriptLine → Begun → Type 0
TellsFrom m pack events [] r =
    IsLeft r
    ⊎ (r ≡ record { text = last_line (play pack events).ticks (play pack events).used; end = Some finished })
TellsFrom m pack events (l ∷ ls) r =
    IsLeft r
    ⊎ (IsStopped pack events l r
    ⊎ ((text : Text) × (made : List Event) × (rest : Begun)
    × LineTellsToo m pack events l.act text made
    × TellsFrom m pack (events ++ made) ls rest
    × IsBefore text rest r))

-- What is reported of a script that may ask, from the loading of the pack on, is what the reduction of the module gives,
-- line by line.
abbrev pub TellsWhere : Module → Pack → List ScriptLine → Begun → Type 0
TellsWhere m pack ls r = TellsFrom m pack [] ls r
