use Rattle.std.proofs.Common.{◌≡◌, ◌-◌}
use Rattle.wm_decode.specs.steps.Listing.{times_at}
use Rattle.wm_decode.proofs.Repeats.{before}
use Rattle.wm_decode.proofs.part.parts.Given as goal

abbrev pub invariant-loop : goal.invariant-loop
invariant-loop g l = before l.found.items (times_at g.P.Part.at (l.count - l.counter) l.rest) ≡ times_at g.P.Part.at l.count l.bytes
