use Rattle.std.proofs.Common.{◌≡◌, ℕ, List, Bool, Option, Some, None, sym, ◌∙◌, ap, subst, arith}
use Rattle.std.specs.Prelude.{reverse, IfOk}
use Rattle.wm_ast.specs.declared.instruction.Instr.{Instr}
use Rattle.wm_ast.specs.declared.module.ValType.{ValType}
use Rattle.wm_ast.specs.View.{code_of}
use Rattle.wm_valid.specs.ScopeView.{body_of}
use Rattle.wm_valid.specs.steps.Found.{Came}
use Rattle.wm_valid.specs.PlaceReading.{run, operands_at, continued}
use Rattle.wm_valid.proofs.FrontLaws.{outside, unreached, leads_on}
use Rattle.wm_valid.proofs.place.+place.Goals as goal

pub find_operands-returns-then-at-code : goal.find_operands-returns-then-at-code
find_operands-returns-then-at-code t c =
    ap (λ (p : List ℕ). operands_at p (code_of c.args.code.now) (body_of c.args.scope.now) (reverse c.args.operands.now.items)) c.in-Some.ensures.cases.0
    ∙ outside c.in-Some.at.now c.in-Some.path.now c.args.code.now (body_of c.args.scope.now) (reverse c.args.operands.now.items) c.if-at-code.true

pub find_operands-returns-then-not-branch : goal.find_operands-returns-then-not-branch
find_operands-returns-then-not-branch t c =
    let none : run (code_of c.split_at.result.0.now) (body_of c.args.scope.now) (reverse c.args.operands.now.items) ≡ None =
    subst (λ (b : Bool). Came b (run (code_of c.split_at.result.0.now) (body_of c.args.scope.now) (reverse c.args.operands.now.items)) (reverse c.run.new.operands.items)) c.if-not-branch.true c.in_ok-run.ensures in
    ap (λ (p : List ℕ). operands_at p (code_of c.args.code.now) (body_of c.args.scope.now) (reverse c.args.operands.now.items)) c.in-Some.ensures.cases.0
    ∙ unreached c.in-Some.at.now c.in-Some.path.now c.args.code.now (body_of c.args.scope.now) (reverse c.args.operands.now.items) (omega arith)
    (ap (λ (l : List Instr). run (code_of l) (body_of c.args.scope.now) (reverse c.args.operands.now.items)) (sym c.split_at.ensures.front) ∙ none)

pub find_operands-returns : goal.find_operands-returns
find_operands-returns t c =
    let some : run (code_of c.split_at.result.0.now) (body_of c.args.scope.now) (reverse c.args.operands.now.items) ≡ Some (reverse c.run.new.operands.items) =
    subst (λ (b : Bool). Came b (run (code_of c.split_at.result.0.now) (body_of c.args.scope.now) (reverse c.args.operands.now.items)) (reverse c.run.new.operands.items)) c.if-not-branch.false c.in_ok-run.ensures in
    let same : operands_at c.args.place.now (code_of c.args.code.now) (body_of c.args.scope.now) (reverse c.args.operands.now.items) ≡ continued c.in-Some.path.now (code_of c.split_at.result.1.now) (body_of c.args.scope.now) (reverse c.run.new.operands.items) =
    ap (λ (p : List ℕ). operands_at p (code_of c.args.code.now) (body_of c.args.scope.now) (reverse c.args.operands.now.items)) c.in-Some.ensures.cases.0
    ∙ (leads_on c.in-Some.at.now c.in-Some.path.now c.args.code.now (body_of c.args.scope.now) (reverse c.args.operands.now.items) (reverse c.run.new.operands.items) (omega arith)
    (ap (λ (l : List Instr). run (code_of l) (body_of c.args.scope.now) (reverse c.args.operands.now.items)) (sym c.split_at.ensures.front) ∙ some)
    ∙ ap (λ (l : List Instr). continued c.in-Some.path.now (code_of l) (body_of c.args.scope.now) (reverse c.run.new.operands.items)) (sym c.split_at.ensures.back)) in
    subst (λ (o : Option (List ValType)). IfOk c.go_on.result (λ (there : Bool). Came there o (reverse c.go_on.new.operands.items))) (sym same) c.go_on.ensures
