use Rattle.std.proofs.Common.{Some, sym, ap, ◌∙◌, arith, ℤ}
use Rattle.wm_frame.specs.Front.{Signed}
use Rattle.wm_frame.specs.Reading.{signed_at}
use Rattle.wm_frame.proofs.NumberLaws.{signed_reads}
use Rattle.wm_frame.proofs.Readers.{no_front}
use Rattle.wm_frame.proofs.SignedBounds.{cast_is, fits_32}
use Rattle.wm_frame.proofs.number.s32_at.Goals as goal

pub returns-in_err-n-clause-first : goal.returns-in_err-n-clause-first
returns-in_err-n-clause-first c =
    rw c.from_residual.ensures
    (record {
      found = tt;
      none = no_front (Signed 32) (signed_at 32) (signed_reads 32) c.args.bytes.now (sym c.in_err-n.ensures.exact);
      exact = c.in_err-n.ensures.exact;
      shorter = tt;
    })

pub returns-clause-first : goal.returns-clause-first
returns-clause-first c = record {
  found = rw (cast_is c.in_ok-n.n c.in_ok-n.ensures.small)
      ((signed_reads 32).takes c.args.bytes.now (c.in_ok-n.n, c.in_ok-n.rest.now) (λ i. omega (arith, c.type_inv.bytes i)) (sym c.in_ok-n.ensures.exact));
  none = tt;
  exact = ap (λ (z : ℤ). Some (z, c.in_ok-n.rest.now)) (cast_is c.in_ok-n.n c.in_ok-n.ensures.small) ∙ c.in_ok-n.ensures.exact;
  shorter = c.in_ok-n.ensures.shorter;
}

pub returns-clause-range : goal.returns-clause-range
returns-clause-range c = rw (cast_is c.in_ok-n.n c.in_ok-n.ensures.small) (fits_32 c.in_ok-n.n c.in_ok-n.ensures.small)
