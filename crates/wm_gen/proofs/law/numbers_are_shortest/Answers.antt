use Rattle.wm_gen.proofs.ShortestLaws.{unsigned_is_shortest, signed_is_shortest}
use Rattle.wm_gen.proofs.law.numbers_are_shortest.Goals as goal

pub returns : goal.returns
returns c = record { unsigned_ones = unsigned_is_shortest; signed_ones = signed_is_shortest }
