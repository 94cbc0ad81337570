use Rattle.cc_body.proofs.Arguments.{fetches_few}
use Rattle.cc_body.proofs.LightPieces.{pieces_light, takers_few, placers_few}
use Rattle.cc_body.proofs.NumbersLaws.{numbers_are_lines}
use Rattle.cc_body.proofs.law.pieces_are_light.Goals as goal

pub returns-clause-bodies : goal.returns-clause-bodies
returns-clause-bodies c = pieces_light numbers_are_lines

pub returns-clause-few : goal.returns-clause-few
returns-clause-few c = takers_few

pub returns-clause-few_fetches : goal.returns-clause-few_fetches
returns-clause-few_fetches c = fetches_few

pub returns-clause-few_placers : goal.returns-clause-few_placers
returns-clause-few_placers c = placers_few
