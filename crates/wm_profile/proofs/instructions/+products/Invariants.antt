use Rattle.std.proofs.Common.{◌≡◌, drop}
use Rattle.wm_ast.specs.View.{code_of}
use Rattle.wm_ast.specs.Profile.{has_mul64_code}
use Rattle.wm_profile.proofs.instructions.+products.Given as goal

abbrev pub invariant-has_product-loop-instr : goal.invariant-has_product-loop-instr
invariant-has_product-loop-instr l = has_mul64_code (code_of (drop l.instr-index l.body)) ≡ has_mul64_code (code_of l.body)
