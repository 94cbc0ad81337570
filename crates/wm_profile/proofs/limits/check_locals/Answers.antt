use Rattle.std.proofs.Common.{◌∙◌, lit<, ap}
use Rattle.wm_ast.specs.declared.limit.TheConstants.{MAX_LOCALS}
use Rattle.wm_ast.specs.Profile.{function_locals}
use Rattle.wm_profile.specs.steps.Counted.{found_fault}
use Rattle.wm_profile.proofs.Telling.{find_told}
use Rattle.wm_profile.proofs.limits.check_locals.Goals as goal

pub returns : goal.returns
returns c = c.none_above.ensures ∙ (ap (found_fault 3 MAX_LOCALS) c.locals_above.ensures ∙ find_told 3 MAX_LOCALS (function_locals c.args.m.now) c.args.m.now.funcs (lit< tt))
