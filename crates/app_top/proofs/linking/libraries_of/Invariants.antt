use Rattle.std.proofs.Common.{drop}
use Rattle.app_top.proofs.JoinLemmas.{DecodesOn}
use Rattle.app_top.proofs.linking.libraries_of.Given as goal

abbrev pub invariant-loop-k : goal.invariant-loop-k
invariant-loop-k l = DecodesOn l.libraries (drop l.k l.named) l.named (drop l.k l.bytes) l.bytes
