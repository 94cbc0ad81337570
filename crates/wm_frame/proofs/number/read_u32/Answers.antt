use Rattle.std.proofs.Common.{refl, rules, sym, arith}
use Rattle.wm_frame.specs.Front.{Unsigned}
use Rattle.wm_frame.specs.Reading.{unsigned_at}
use Rattle.wm_frame.proofs.Bounds.{read_at}
use Rattle.wm_frame.proofs.NumberLaws.{unsigned_reads}
use Rattle.wm_frame.proofs.number.read_u32.Goals as goal

pub returns-in_err-n : goal.returns-in_err-n
returns-in_err-n c = rw c.from_residual.ensures (record { found = tt; moved = tt; none = search rules; unchanged = refl; end = refl })

pub returns : goal.returns
returns c = record {
  found =
      read_at (Unsigned 32) (unsigned_at 32) (unsigned_reads 32) c.args.bytes.now c.args.c.now.at c.args.c.now.end c.in_ok-n.n c.in_ok-n.rest.now (λ i. omega (arith, c.type_inv.bytes i)) c.requires.ordered c.requires.within (sym c.in_ok-n.ensures.exact);
  moved = (search rules, search rules);
  none = tt;
  unchanged = tt;
  end = refl;
}
