use Rattle.std.proofs.Common.{Option, subst}
use Rattle.wm_valid.specs.declared.scope.Scope.{Scope}
use Rattle.wm_valid.specs.ScopeView.{ScopeFound}
use Rattle.wm_valid.proofs.FunctionLaws.{function_checked}
use Rattle.wm_valid.proofs.body.check_function.Goals as goal

pub returns-clause-typed : goal.returns-clause-typed
returns-clause-typed c =
    let m = c.args.m.now in
    let f = c.args.f.now in
    let (t, is) = subst (λ (o : Option Scope). ScopeFound o m f) c.in_ok-scope.ensures.ok_part c.in_ok-scope_of.ensures in
    function_checked m f t c.check_body.result c.in_ok-scope.scope c.new-labels.result.items c.as_slice.result.now is c.new-labels.ensures.items c.as_slice.ensures c.check_body.ensures.exact
