use Rattle.std.proofs.Common.{take}
use Rattle.pk_multi.specs.Counting.{AreFresh, AreNamed}
use Rattle.pk_multi.specs.Making.{AreTidy, AreWritten}
use Rattle.pk_multi.proofs.making.programs_of.Given as goal

abbrev pub invariant-loop-index : goal.invariant-loop-index
invariant-loop-index l =
    record {
      named : AreNamed l.programs.items (take l.index l.packs);
      fresh : AreFresh l.programs.items;
      written : AreWritten l.packs l.index;
      tidy : AreTidy l.packs l.index;
    }
