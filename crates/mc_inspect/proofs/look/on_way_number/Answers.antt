use Rattle.std.proofs.Common.{◌≡◌, ◌+◌, ◌-◌, ◌*◌, ◌/◌, ◌%◌, arith}
use Rattle.cc_pieces.specs.Fetching.{first_fetch, most_fetches}
use Rattle.mc_inspect.proofs.Looking.{body_tells, mapped}
use Rattle.mc_inspect.proofs.look.on_way_number.Goals as goal

pub returns : goal.returns
returns c =
    let n = c.args.index - first_fetch in
    let e : first_fetch + (most_fetches * (n / most_fetches) + n % most_fetches) ≡ c.args.index = omega (arith, c.requires) in
    mapped c.on_way_to.result _ _ (λ o h. body_tells c.args.m.now c.args.reading.now c.args.func _ c.args.index o e h) c.on_way_to.ensures
