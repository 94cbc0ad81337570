-- The laws of printed lines, which the contracts of public functions cite.
use Rattle.std.specs.Prelude.{◌≡◌, List, Some, None}
use Rattle.mc_cmd.specs.Form.{Text}
use Rattle.mc_cmd.specs.Layout.{Answer, new, running, done, trap, dead}
use Rattle.mc_cmd.specs.Pack.{Pack, loaded}
use Rattle.wm_ast.specs.declared.module.Module.{Module}
use Rattle.pk_agree.specs.Agree.{Agrees}
use Rattle.app_words.specs.Act.{ScriptLine}
use Rattle.app_words.specs.Lines.{shown, trap_name, value_text}
use Rattle.app_words.specs.Report.{report}
use Rattle.app_words.specs.Script.{script_read, lines}
use Rattle.app_tell.specs.Tell.{TellsReduction}

-- the report of a script over a pack that agrees with a module tells the reduction, line by line
abbrev pub LinesTellReduction : Type 0
LinesTellReduction = (m : Module) (pack : Pack) (script : Text) (ls : List ScriptLine) → Agrees m pack
    → script_read script ≡ lines ls → TellsReduction m pack ls (report pack ls (loaded pack))

-- two answers are of one kind, with the same text of a value or name of a trap; `dead` names none
abbrev pub IsAlike : Answer → Answer → Type 0
IsAlike new new = Unit {0}
IsAlike running running = Unit {0}
IsAlike (done None) (done None) = Unit {0}
IsAlike (done (Some v)) (done (Some w)) = value_text v ≡ value_text w
IsAlike (trap n) (trap k) = trap_name n ≡ trap_name k
IsAlike (dead n) (dead k) = Unit {0}
IsAlike _ _ = ⊥

-- answers that are printed as one line are alike
abbrev pub LinesTellAnswersApart : Type 0
LinesTellAnswersApart = (a b : Answer) → shown (Some a) ≡ shown (Some b) → IsAlike a b
