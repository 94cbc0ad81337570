use Rattle.std.proofs.Common.{rules}
use Rattle.std.proofs.lemmas.Slice.Eq.{slice_eq-Decides}
use denote.Enum.Bare.{same_true, true_same}
use Rattle.wm_ast.specs.contracts.module.ValType.{the_type}
use Rattle.wm_ast.proofs.TypeLaws.{same_types_by}
use Rattle.wm_ast.proofs.types.are_same.Goals as goal

pub returns : goal.returns
returns c =
    let d = slice_eq-Decides (λ a b. (same_true the_type (search rules) a b, true_same the_type a b)) c.args.first.now c.args.second.now c.eq.result c.eq.ensures in
    same_types_by c.args.first.now c.args.second.now c.eq.result d
