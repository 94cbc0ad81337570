-- A command whose text says it.
use Rattle.std.specs.Prelude.{◌≡◌, Some}
use Rattle.mc_cmd.specs.Command.{Cmd, command}
use Rattle.mc_cmd.specs.Grammar.{cmd_text, line_said}

abbrev pub Speaks : Cmd → Type 0
Speaks x = line_said (cmd_text x) ≡ Some (command x)
