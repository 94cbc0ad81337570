use Rattle.mc_cmd.specs.Packing.{pack_view}
use Rattle.witness.proofs.Packs.{dies, exports_are, is_played}
use Rattle.witness.proofs.Turns.{played_by_turns}
use Rattle.witness.proofs.pack_law.packs_of_the_example_are_played.Goals as goal

pub returns : goal.returns
returns c = record {
  exports = λ ns pack h. exports_are (pack_view pack).index.exports h.agrees.exports;
  stepwise = λ ns pack h. played_by_turns (pack_view pack) h.stepwise;
  dies = λ ns pack h. dies (pack_view pack) h.agrees;
  played = λ ns pack h. is_played (pack_view pack) h.agrees h.resumable;
}
