use Rattle.std.proofs.Common.{◌∙◌, ap, sym, refl}
use Rattle.std.specs.Prelude.{option_map}
use Rattle.mc_nbt.specs.View.{view}
use Rattle.mc_world.specs.WorldView.{seen}
use Rattle.mc_inspect.proofs.ReadLemmas.{entries_read}
use Rattle.mc_inspect.proofs.reading.entries.Goals as goal

pub returns-in-Some : goal.returns-in-Some
returns-in-Some c =
    entries_read c.args.names.now.ns (seen c.args.world.now) (view c.in-Some.below.now) c.entries_of.result
    (λ p s. ap (option_map (λ t. view t.now)) (sym c.in-Some.is) ∙ c.in_ok-below.ensures.of_states p s refl) c.entries_of.ensures
