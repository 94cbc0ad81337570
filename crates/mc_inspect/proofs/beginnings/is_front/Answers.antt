use Rattle.std.proofs.Common.{◌∙◌}
use Rattle.std.proofs.lemmas.Slice.{between_from_start}
use Rattle.mc_inspect.proofs.Places.{front_answer}
use Rattle.mc_inspect.proofs.beginnings.is_front.Goals as goal

pub returns-in-Some : goal.returns-in-Some
returns-in-Some c =
    front_answer c.args.places.now c.args.front.now c.in-Some.first.now _ (c.in-Some.ensures.lookup.0.2 ∙ between_from_start _ _) c.eq.ensures
