-- The plain data that the code's lines of scripts stand for, and what the reader of scripts answers.
use Rattle.std.specs.Prelude.{◌≡◌, ℕ, map, Result, Ok, Err}
use Rattle.std.specs.declared.vec.Vec.{Vec}
use Rattle.std.specs.declared.alloc.Global.{Global}
use Rattle.mc_cmd.specs.Form.{Text}
use Rattle.mc_cmd.specs.View.{cmd_view}
use Rattle.app_words.specs.Act as act
use Rattle.app_words.specs.Script.{ScriptRead, script_read, lines, bad}
use Rattle.app_words.specs.SharedScript as shared
use Rattle.app_words.specs.SharedScript.{shared_script_read}
use Rattle.app_words.specs.WhereScript.{where_script_read}
use Rattle.app_words.specs.declared.act.Act.{Act}
use Rattle.app_words.specs.declared.act.Act.TheVariants as acts
use Rattle.app_words.specs.declared.act.ScriptLine.{ScriptLine}
use Rattle.app_words.specs.declared.act.SharedAct.{SharedAct}
use Rattle.app_words.specs.declared.act.SharedAct.TheVariants as shared_acts
use Rattle.app_words.specs.declared.act.SharedLine.{SharedLine}
use Rattle.app_words.specs.declared.reading.ScriptFault.{ScriptFault}
use Rattle.app_words.specs.declared.reading.ScriptFault.TheVariants as faults

abbrev pub act_view : Act → act.Act
act_view (acts.Call name args) = act.call name args.items
act_view (acts.Tick b) = act.tick b
act_view (acts.Ticks n b) = act.ticks n b
act_view (acts.Reload b) = act.reload b
act_view (acts.Other c) = act.other (cmd_view c)
act_view acts.Show = act.show
act_view acts.Globals = act.globals
act_view (acts.Memory at len) = act.memory at len
act_view acts.Dump = act.dump
act_view acts.Inspect = act.inspect

abbrev pub line_view : ScriptLine → act.ScriptLine
line_view l = record { line = l.line; act = act_view l.act }

abbrev pub shared_act_view : SharedAct → shared.SharedAct
shared_act_view (shared_acts.ForAll a) = shared.for_all (act_view a)
shared_act_view (shared_acts.Within ns a) = shared.within ns (act_view a)

abbrev pub shared_line_view : SharedLine → shared.SharedLine
shared_line_view l = record { line = l.line; act = shared_act_view l.act }

-- an answer to a script that says this: that, or want of memory
abbrev pub ReadsSaid : ScriptRead act.Act → Result (Vec ScriptLine Global) ScriptFault → Type 0
ReadsSaid said (Ok v) = said ≡ lines (map line_view v.items)
ReadsSaid said (Err (faults.Line n low)) = said ≡ bad n low
ReadsSaid said (Err faults.Memory) = Unit {0}

-- an answer to a script, and to one that may ask where the program is
abbrev pub ReadsScript : Text → Result (Vec ScriptLine Global) ScriptFault → Type 0
ReadsScript bytes r = ReadsSaid (script_read bytes) r

abbrev pub ReadsWhereScript : Text → Result (Vec ScriptLine Global) ScriptFault → Type 0
ReadsWhereScript bytes r = ReadsSaid (where_script_read bytes) r

-- an answer to a script over n programs
abbrev pub ReadsSharedScript : ℕ → Text → Result (Vec SharedLine Global) ScriptFault → Type 0
ReadsSharedScript n bytes (Ok v) = shared_script_read n bytes ≡ lines (map shared_line_view v.items)
ReadsSharedScript n bytes (Err (faults.Line i low)) = shared_script_read n bytes ≡ bad i low
ReadsSharedScript n bytes (Err faults.Memory) = Unit {0}
