use Rattle.std.proofs.Common.{◌≡◌, ◌≤◌, ℕ, max, ◌+◌, arith, sym, ◌∙◌, ap, drop, length}
use Rattle.wm_ast.specs.Profile.{op_and_inside, all_ops}
use Rattle.wm_ast.specs.View.{op_of, code_of}
use Rattle.wm_valid.specs.ScopeView.{made, body_of}
use Rattle.wm_valid.specs.PlaceReading.{op_height, code_height}
use Rattle.wm_valid.proofs.ChangeLaws.{alike_long, few_found}
use Rattle.wm_valid.proofs.HeightLaws.{one_more, one_fewer, at_least_one}
use Rattle.wm_valid.proofs.height.+height.Goals as goal

pub code_height-count_after-operands-requires-clause-one : goal.code_height-count_after-operands-requires-clause-one
code_height-count_after-operands-requires-clause-one t c = few_found c.args.scope.now (op_of c.instr-item.result) c.in-Some.change c.requires.valid c.in-Some.ensures

pub code_height-loop-instr-preserved : goal.code_height-loop-instr-preserved
code_height-loop-instr-preserved t c = record {
  greatest =
      let greatest : c.greater-greatest.result ≡ max c.loop-instr.greatest (max c.loop-instr.operands (op_height (op_of c.instr-item.result) (body_of c.args.scope.now) c.loop-instr.operands)) = omega arith in
      ap (λ (k : ℕ). max k (code_height (code_of (drop (c.loop-instr.instr-index + 1) c.args.code.now)) (body_of c.args.scope.now) c.count_after-operands.result)) greatest
      ∙ one_more c.args.code.now c.loop-instr.instr-index c.instr-item.result (body_of c.args.scope.now) c.loop-instr.operands c.count_after-operands.result c.loop-instr.greatest
      (code_height (code_of c.args.code.now) (body_of c.args.scope.now) c.args.operands) (made c.in-Some.change) (omega arith) c.instr-item.is (sym c.in-Some.ensures) c.count_after-operands.ensures c.loop-instr.invariant.greatest;
  room =
      let given : length c.in-Some.change.gives.now ≤ 1 = few_found c.args.scope.now (op_of c.instr-item.result) c.in-Some.change c.requires.valid c.in-Some.ensures in
      let split : length (all_ops (code_of (drop c.loop-instr.instr-index c.args.code.now))) ≡ length (op_and_inside (op_of c.instr-item.result)) + length (all_ops (code_of (drop (c.loop-instr.instr-index + 1) c.args.code.now))) =
      one_fewer c.args.code.now c.loop-instr.instr-index c.instr-item.result (omega arith) c.instr-item.is in
      omega (arith, alike_long c.in-Some.change.gives.now, at_least_one (op_of c.instr-item.result));
}
