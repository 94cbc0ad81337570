-- The static weight of lines: that of each of them, and for each that runs a function that of the function's lines.
use Rattle.std.specs.Prelude.{◌≡◌, ℕ, ◌+◌, [], ◌∷◌, ℤ, Option, Some, None, true}
use Rattle.std.specs.Fmt.{signed_decimal}
use Rattle.mc_nbt.specs.Tree.{Tree}
use Rattle.mc_nbt.specs.Word.{is_int}
use Rattle.mc_cmd.specs.Form.{Text}
use Rattle.mc_cmd.specs.Command.{Simple, call, call_with, Cmd, plain, execute, Line, nothing, command, pattern}
use Rattle.mc_cmd.specs.Grammar.{line_said}
use Rattle.mc_cmd.specs.Fill.{filled, fill, value_of}
use Rattle.mc_cmd.specs.Chain.{Texts, Functions, line_of, line_weight}

-- the function that a command runs, if it runs one
abbrev pub simple_runs : Simple → Option Text
simple_runs (call f) = Some f
simple_runs (call_with f i ps) = Some f
simple_runs _ = None

abbrev pub command_runs : Cmd → Option Text
command_runs (plain s) = simple_runs s
command_runs (execute us s) = simple_runs s

-- what fills macro lines has ints alone
abbrev pub HasIntsAlone : Tree → Type 0
HasIntsAlone v = (name t : Text) → value_of v name ≡ Some t → (z : ℤ) × (t ≡ signed_decimal z) × (is_int z ≡ true)

-- A line that runs no function: a command that is no call, and a macro line that becomes none, whatever ints fill it.
abbrev pub RunsNothing : Line → Type 0
RunsNothing nothing = Unit {0}
RunsNothing (command c) = command_runs c ≡ None
RunsNothing (pattern ps) = (v : Tree) (t : Text) (c : Cmd) → HasIntsAlone v → fill ps v ≡ filled t
    → line_said t ≡ Some (command c) → command_runs c ≡ None

-- The lines weigh so much with all that they run, in a pack of these functions. No function runs itself on the way,
-- since such lines would have no weight.
pub data Weighs (functions : Functions) : Texts → ℕ → Type 0 where
  no_line : Weighs functions [] 0
  line_alone : (t : Text) (ts : Texts) (k : ℕ) → RunsNothing (line_of t) → Weighs functions ts k
      → Weighs functions (t ∷ ts) (line_weight (line_of t) + k)
  line_that_runs : (t f : Text) (us ts : Texts) (c : Cmd) (j k : ℕ) → line_of t ≡ command c → command_runs c ≡ Some f
      → functions f ≡ Some us → Weighs functions us j → Weighs functions ts k
      → Weighs functions (t ∷ ts) (line_weight (line_of t) + (j + k))
