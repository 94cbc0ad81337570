use Rattle.cc_pieces.proofs.LightPieces.{takers_light, placers_light, grower_light, dones_light}
use Rattle.cc_pieces.proofs.law.shared_pieces_are_light.Goals as goal

pub returns-clause-takers : goal.returns-clause-takers
returns-clause-takers c = takers_light

pub returns-clause-placers : goal.returns-clause-placers
returns-clause-placers c = placers_light

pub returns-clause-grower : goal.returns-clause-grower
returns-clause-grower c = grower_light

pub returns-clause-dones : goal.returns-clause-dones
returns-clause-dones c = dones_light
