use Rattle.std.proofs.Common.{◌≡◌, ◌+◌, take, drop, map}
use Rattle.pk_files.specs.Held.{bad_from}
use Rattle.pk_files.proofs.lines.lines_of.Given as goal

abbrev pub invariant-loop-i : goal.invariant-loop-i
invariant-loop-i l = record {
  kept : l.lines ≡ map (λ t. t.now) (take l.i l.text-items);
  bad : bad_from (l.i + 1) (map (λ t. t.now) (drop l.i l.text-items)) ≡ bad_from 1 (map (λ t. t.now) l.text-items);
}
