use Rattle.wm_ast.proofs.InitialLaws.{no_value}
use Rattle.wm_ast.proofs.initial.constant_value.Goals as goal

pub returns-in_default-2 : goal.returns-in_default-2
returns-in_default-2 c = no_value c.args.code.now c.in_default.len_at_least
