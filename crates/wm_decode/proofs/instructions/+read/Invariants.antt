use Rattle.std.proofs.Common.{◌+◌, ◌<◌, ◌≤◌, ◌*◌, ℕ, length, map}
use Rattle.wm_ast.specs.View.{op_of}
use Rattle.wm_decode.proofs.Turns.{Going}
use Rattle.wm_decode.proofs.instructions.+read.Given as goal

abbrev pub decreases-block : goal.decreases-block
decreases-block l = 4 * length l.bytes.now + 2

abbrev pub decreases-choice : goal.decreases-choice
decreases-choice l = 4 * length l.bytes.now + 2

abbrev pub decreases-inside : goal.decreases-inside
decreases-inside l = 4 * length l.bytes.now + 2

abbrev pub decreases-instr : goal.decreases-instr
decreases-instr l = 4 * length l.bytes.now

abbrev pub decreases-instr_by : goal.decreases-instr_by
decreases-instr_by l = 4 * length l.bytes.now + 3

abbrev pub decreases-instrs : goal.decreases-instrs
decreases-instrs l = 4 * length l.bytes.now + 1

abbrev pub invariant-instrs-loop-rest : goal.invariant-instrs-loop-rest
invariant-instrs-loop-rest l = record {
  within : length l.rest ≤ length l.bytes;
  going : (n : ℕ) → length l.bytes < n → Going (map op_of l.found.items) n l.depth l.bytes l.rest;
}

abbrev pub decreases-instrs-loop-rest : goal.decreases-instrs-loop-rest
decreases-instrs-loop-rest l = length l.rest
