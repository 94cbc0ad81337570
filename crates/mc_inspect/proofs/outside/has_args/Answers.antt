use Rattle.std.proofs.Common.{ap}
use Rattle.std.specs.Prelude.{option_map}
use Rattle.mc_inspect.proofs.outside.has_args.Goals as goal

pub returns-in-Some : goal.returns-in-Some
returns-in-Some c = (_, ap (option_map (λ v. v.items)) c.in-Some.is)

pub returns-in-None : goal.returns-in-None
returns-in-None c = ap (option_map (λ v. v.items)) c.in-None.is
