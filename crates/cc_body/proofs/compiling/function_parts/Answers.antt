use Rattle.cc_body.proofs.CompileLemmas.{function_made}
use Rattle.cc_body.proofs.compiling.function_parts.Goals as goal

pub returns : goal.returns
returns c =
    function_made c.args.m.now c.module-module.result.now c.args.func c.args.f.now c.in-Some.ty.now c.in-Some-get.shape _ c.in_ok-scope.field-0 c.in-Some-2.scope _ _ c.requires.there c.module-module.ensures.same
    c.in-Some.ensures.value c.in-Some-get.ensures (c.requires.shapes c.args.func) c.in_ok-scope.ensures c.in-Some-2.is c.as_slice-locals.ensures.value c.in_ok-parts.ensures
