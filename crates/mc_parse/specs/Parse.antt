-- What a reading of a line says.
use Rattle.std.specs.Prelude.{◌≡◌, ◌≤◌, ◌<◌, length, Some, None, Result, Ok, Err, codes}
use Rattle.mc_cmd.specs.Form.{Text}
use Rattle.mc_cmd.specs.Grammar.{most, line_said}
use Rattle.mc_cmd.specs.View.{line_view}
use Rattle.mc_cmd.specs.declared.line.Line.{Line}
use Rattle.mc_parse.specs.declared.fault.ParseFault.{ParseFault}
use Rattle.mc_parse.specs.declared.fault.ParseFault.TheVariants as faults

-- the line is the one that the text says; or the text is too long for a line; or it isn't, and says no line
abbrev pub IsParsed : Text → Result Line ParseFault → Type 0
IsParsed t (Ok l) = line_said t ≡ Some (line_view l)
IsParsed t (Err faults.TooLong) = most < length t
IsParsed t (Err faults.NotInGrammar) = (length t ≤ most) × (line_said t ≡ None)
IsParsed t (Err faults.Memory) = Unit {0}

-- how a fault is shown
abbrev pub fault_text : ParseFault → Text
fault_text faults.TooLong = codes "line too long"
fault_text faults.NotInGrammar = codes "not in the grammar"
fault_text faults.Memory = codes "out of memory"
