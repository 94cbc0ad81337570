use Rattle.std.proofs.Common.{rules}
use Rattle.std.specs.Int.{w32}
use Rattle.std.proofs.lemmas.Int.{wrapping_add_is}
use Rattle.cc_div64.specs.Division.{least}
use Rattle.mc_inspect.proofs.divisions.for_order.Goals as goal

pub returns : goal.returns
returns c = wrapping_add_is w32 c.args.word least c.ranges.word (search rules)
