use Rattle.std.proofs.Common.{ap, ◌∙◌}
use Rattle.wm_match.specs.Cause.{program}
use Rattle.wm_match.proofs.ModuleLaws.{library_module}
use Rattle.wm_join.specs.steps.Parts.{with_module}
use Rattle.wm_join.proofs.JoinLaws.{joined_more}
use Rattle.wm_join.proofs.joining.join_libraries.Goals as goal

pub loop-k-preserved : goal.loop-k-preserved
loop-k-preserved c =
    c.in_ok-add_module.ensures ∙ ap (with_module c.in_ok-numbers.numbers c.index-libs-k.result.«module») c.loop-k.invariant
    ∙ joined_more (program c.args.libs.now c.args.main.now c.args.bindings.now) c.loop-k.k c.index-libs-k.result.«module»
    (library_module c.args.libs.now c.args.main.now c.loop-k.k c.index-libs-k.result c.loop-k-test.true c.index-libs-k.is)
    c.in_ok-numbers.numbers c.in_ok-numbers.ensures
