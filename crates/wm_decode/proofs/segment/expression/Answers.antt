use Rattle.std.proofs.Common.{ℕ, List, Some, Result, Ok, Err, refl, ap}
use Rattle.std.specs.Borrow.{Bor}
use Rattle.wm_ast.specs.declared.instruction.Instr.{Instr}
use Rattle.wm_ast.specs.View.{code_of}
use Rattle.wm_ast.proofs.ViewLaws.{views_back}
use Rattle.wm_decode.specs.declared.fault.Fault.{Fault}
use Rattle.wm_decode.specs.declared.fault.Fault.TheVariants.{Memory, Malformed}
use Rattle.wm_decode.specs.steps.Gives.{Gives}
use Rattle.wm_decode.specs.steps.Instruction.{expr_at}
use Rattle.wm_decode.specs.steps.SegmentReading.{expression_at}
use Rattle.wm_decode.proofs.segment.expression.Goals as goal

-- plain data stand for the instructions that were made of them
is_read : (bytes : List ℕ) (r : Result (List Instr × Bor (List ℕ)) Fault) → Gives (λ x. (code_of x.0, x.1.now)) r (expr_at bytes) → Gives (λ x. (x.0, x.1.now)) r (expression_at bytes)
unfolding expression_at
is_read bytes (Ok x) e = rw e (ap (λ (is : List Instr). Some (is, x.1.now)) (views_back x.0))
is_read bytes (Err Memory) e = tt
is_read bytes (Err Malformed) e = rw e refl

pub returns : goal.returns
returns c = is_read c.args.bytes.now c.expr.result c.expr.ensures.exact
