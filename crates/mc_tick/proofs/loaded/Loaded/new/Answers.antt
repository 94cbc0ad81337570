use Rattle.std.proofs.Common.{◌∙◌, ap}
use Rattle.mc_tick.specs.Packs.{as_one}
use Rattle.mc_tick.proofs.PlayLemmas.{alone, is_empty}
use Rattle.mc_tick.proofs.loaded.Loaded.new.Goals as goal

pub invariant_of-result : goal.invariant_of-result
invariant_of-result c = record { untouched = record { one = c.requires.one; empty = is_empty _ c.requires.world } }

pub returns : goal.returns
returns c = λ p e. ap as_one e ∙ alone p
