-- What the lines of a script do, as plain data.
use Rattle.std.specs.Prelude.{ℕ, ℤ, List}
use Rattle.mc_cmd.specs.Form.{Text}
use Rattle.mc_cmd.specs.Command.{Cmd}

-- a call of the first export of a name with arguments; a tick, several ticks and a reload with a budget; a command of
-- somebody else; what is printed: the answer, the globals, so many bytes of the memory from an address on, and all of
-- these; and where the program is, which only some scripts ask
pub data Act : Type 0 where
  call : Text → List ℤ → Act
  tick : ℕ → Act
  ticks : ℕ → ℕ → Act
  reload : ℕ → Act
  other : Cmd → Act
  show : Act
  globals : Act
  memory : ℕ → ℕ → Act
  dump : Act
  inspect : Act

-- a line that does something, by its number from 1
pub record LineOf (A : Type 0) : Type 0 where
  pub line : ℕ
  pub act : A

-- a line of a script over one pack
abbrev pub ScriptLine : Type 0
ScriptLine = LineOf Act
