use Rattle.mc_inspect.proofs.Takings.{taken_answer}
use Rattle.mc_inspect.proofs.outside.are_taken.Goals as goal

pub returns-in-Some-Some : goal.returns-in-Some-Some
returns-in-Some-Some c =
    let behind = c.in-Some-Some.ensures.lookup.0 in
    let others = c.in-Some-Some.ensures'.lookup.0 in
    taken_answer c.args.places.now c.args.ints.now c.in-Some-Some.behind.now c.in-Some-Some.others.now c.args.from behind.0 others.0 behind.2 others.2 c.starts_with.result c.starts_with.ensures.value
