use Rattle.witness.proofs.Holding.{is_held}
use Rattle.witness.proofs.pack_law.packs_of_the_example_are_held.Goals as goal

pub returns : goal.returns
returns c = is_held
