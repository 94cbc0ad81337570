use Rattle.std.proofs.Common.{ap, arith}
use Rattle.cc_call.specs.View.{acts_view}
use Rattle.cc_pieces.proofs.EntryLemmas.{taker_made}
use Rattle.cc_pieces.proofs.entry.taker_acts.Goals as goal

pub returns : goal.returns
returns c = taker_made c.args.number _ _ _ _ _ (omega (arith, c.if-number-eq0.false)) c.in_ok-from.ensures c.in_ok-taker.ensures (ap acts_view c.new-acts.ensures.items) c.in_ok-push_takes-2.ensures c.in_ok-push_next.ensures
