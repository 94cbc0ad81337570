use Rattle.std.proofs.Common.{◌≡◌}
use Rattle.cc_pieces.specs.Parts.{parts_view}
use Rattle.cc_init.specs.Init as init
use Rattle.cc_init.proofs.parts.init_parts.Given as goal

abbrev pub invariant-loop-number : goal.invariant-loop-number
invariant-loop-number l = parts_view l.parts.items ≡ init.init_parts l.fn.m l.number
