-- The law of lines that tell where a program is, which the contract of a public function cites.
use Rattle.std.specs.Prelude.{◌≡◌, List}
use Rattle.mc_cmd.specs.Form.{Text}
use Rattle.mc_cmd.specs.Pack.{Pack, loaded}
use Rattle.wm_ast.specs.declared.module.Module.{Module}
use Rattle.wm_valid.specs.Height.{Low}
use Rattle.wm_flat.specs.Program.{IsProgram}
use Rattle.pk_agree.specs.Agree.{Agrees}
use Rattle.pk_agree.specs.Resume.{Resumable}
use Rattle.app_words.specs.Act.{ScriptLine}
use Rattle.app_words.specs.Script.{lines}
use Rattle.app_words.specs.WhereReport.{Begun, IsReport}
use Rattle.app_words.specs.WhereScript.{where_script_read}
use Rattle.app_inspect.specs.Tell.{MayTell, TellsWhere}

-- each report of a script that may ask, over a pack that agrees with a module and can be resumed, tells the reduction
abbrev pub LinesTellWhere : Type 0
LinesTellWhere = (m : Module) (pack : Pack) (script : Text) (ls : List ScriptLine) (r : Begun)
    → IsProgram m → Low m → Agrees m pack → Resumable m pack → where_script_read script ≡ lines ls
    → IsReport (MayTell m) pack ls (loaded pack) r → TellsWhere m pack ls r
