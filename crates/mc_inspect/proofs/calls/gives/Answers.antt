use Rattle.std.proofs.Common.{sym, ap, ◌∙◌}
use Rattle.std.specs.Option.{option_copied}
use Rattle.mc_inspect.proofs.Giving.{same_given}
use Rattle.mc_inspect.proofs.calls.gives.Goals as goal

pub returns-in-Some-get : goal.returns-in-Some-get
returns-in-Some-get c =
    same_given c.args.m.now c.args.func c.in-Some.f.now c.in-Some-get.ty.now (sym c.get.ensures.value ∙ ap option_copied c.in-Some.is) (sym c.get-2.ensures.value ∙ ap option_copied c.in-Some-get.is) c.as_slice.result.now c.args.results.now
    c.as_slice.ensures c.are_same.result c.are_same.ensures
