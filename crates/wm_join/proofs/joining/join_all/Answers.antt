use Rattle.std.proofs.Common.{List, ◌++◌, map, ap, ◌∙◌}
use Rattle.wm_ast.specs.declared.module.Export.{Export}
use Rattle.wm_match.specs.Cause.{program}
use Rattle.wm_join.specs.steps.Parts.{export_with}
use Rattle.wm_join.proofs.JoinLaws.{joined_is}
use Rattle.wm_join.proofs.joining.join_all.Goals as goal

pub returns : goal.returns
returns c =
    joined_is (program c.args.libs.now c.args.main.now c.args.bindings.now) c.in_ok-numbers.numbers c.in_ok-numbers.ensures
    c.in_ok-joined.joined c.add_module.new.joined c.add_exports.new.found c.start_with-joined.result c.in_ok-joined.ensures c.in_ok-add_module.ensures
    (c.in_ok-add_exports.ensures ∙ ap (λ (es : List Export). c.add_module.new.joined.exports ++ map (export_with c.in_ok-numbers.numbers) es) c.as_slice.ensures)
    c.start_with-joined.ensures
