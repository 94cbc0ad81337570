use Rattle.std.proofs.Common.{◌∙◌, length, arith}
use Rattle.std.proofs.lemmas.Slice.{between_from_start, between_to_end}
use Rattle.mc_inspect.proofs.Places.{zeros_answer}
use Rattle.mc_inspect.proofs.beginnings.are_zeros.Goals as goal

pub returns-in-Some-get : goal.returns-in-Some-get
returns-in-Some-get c =
    zeros_answer c.args.from c.args.count c.args.places.now c.in-Some.others.now c.in-Some-get.ints.now _ c.in-Some.ensures.lookup.0.0
    (c.in-Some.ensures.lookup.0.2 ∙ between_to_end c.args.places.now c.args.from (length c.args.places.now) (omega arith)) (c.in-Some-get.ensures.lookup.0.2 ∙ between_from_start _ _) (omega (arith, c.in-Some-get.ensures.lookup.0.3)) c.all_zeros.ensures
