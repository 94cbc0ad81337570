use Rattle.std.proofs.Common.{sym, arith}
use Rattle.wm_frame.specs.Front.{Unsigned}
use Rattle.wm_frame.specs.Reading.{unsigned_at}
use Rattle.wm_frame.proofs.NumberLaws.{unsigned_reads}
use Rattle.wm_frame.proofs.Readers.{no_front}
use Rattle.wm_frame.proofs.number.u32_at.Goals as goal

pub returns-in_err-n : goal.returns-in_err-n
returns-in_err-n c =
    rw c.from_residual.ensures
    (record {
      found = tt;
      none = no_front (Unsigned 32) (unsigned_at 32) (unsigned_reads 32) c.args.bytes.now (sym c.in_err-n.ensures.exact);
      exact = c.in_err-n.ensures.exact;
      shorter = tt;
    })

pub returns : goal.returns
returns c = record {
  found = (unsigned_reads 32).takes c.args.bytes.now (c.in_ok-n.n, c.in_ok-n.rest.now) (λ i. omega (arith, c.type_inv.bytes i)) (sym c.in_ok-n.ensures.exact);
  none = tt;
  exact = c.in_ok-n.ensures.exact;
  shorter = c.in_ok-n.ensures.shorter;
}
