use Rattle.std.proofs.Common.{◌≡◌, List}
use Rattle.std.proofs.lemmas.Result.{IfOk-weaker}
use Rattle.wm_ast.specs.declared.instruction.Instr.{Instr}
use Rattle.wm_ast.specs.View.{code_of}
use Rattle.wm_join.specs.Renumbered.{renumbered}
use Rattle.wm_join.specs.steps.Numbers.{renumbering_of}
use Rattle.wm_join.specs.steps.Parts.{code_with}
use Rattle.wm_join.proofs.CodeLaws.{code_back}
use Rattle.wm_join.proofs.parts.code_with.Goals as goal

pub returns : goal.returns
returns c =
    let code = renumbered (renumbering_of c.args.numbers.now) (code_of c.args.body.now) in
    IfOk-weaker c.renumber.result (λ (is : List Instr). code_of is ≡ code) (λ (is : List Instr). is ≡ code_with c.args.numbers.now c.args.body.now)
    (code_back code) c.renumber.ensures
