-- The answers that the code has, as the public layout of a pack has them.
use Rattle.std.specs.Prelude.{ℕ}
use Rattle.mc_cmd.specs.Layout as layout
use Rattle.mc_layout.specs.declared.trap.TrapKind.{TrapKind}
use Rattle.mc_layout.specs.declared.trap.TrapKind.TheVariants as traps
use Rattle.mc_layout.specs.declared.answers.Answer.{Answer}
use Rattle.mc_layout.specs.declared.answers.Answer.TheVariants as answers

-- the numbers of the traps
abbrev pub trap_number : TrapKind → ℕ
trap_number traps.Unreachable = 1
trap_number traps.DivideByZero = 2
trap_number traps.IntegerOverflow = 3
trap_number traps.OutOfBoundsMemory = 4
trap_number traps.UndefinedElement = 5
trap_number traps.UninitializedElement = 6
trap_number traps.CallTypeMismatch = 7
trap_number traps.StackExhausted = 8

abbrev pub answer_view : Answer → layout.Answer
answer_view answers.New = layout.new
answer_view answers.Running = layout.running
answer_view (answers.Done v) = layout.done v
answer_view (answers.Trap k) = layout.trap (trap_number k)
answer_view (answers.Dead k) = layout.dead (trap_number k)
