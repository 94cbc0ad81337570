use Rattle.std.proofs.Common.{refl, rules, sym, arith, w64}
use Rattle.std.proofs.lemmas.Int.{to_z-of_z}
use Rattle.wm_frame.specs.Front.{Signed}
use Rattle.wm_frame.specs.Reading.{signed_at}
use Rattle.wm_frame.proofs.Bounds.{read_at}
use Rattle.wm_frame.proofs.NumberLaws.{signed_reads}
use Rattle.wm_frame.proofs.number.read_s64.Goals as goal

pub returns-in_err-n : goal.returns-in_err-n
returns-in_err-n c = rw c.from_residual.ensures (record { found = tt; moved = tt; none = search rules; unchanged = refl; end = refl })

pub returns : goal.returns
returns c = record {
  found =
      rw (to_z-of_z w64 c.in_ok-n.n c.in_ok-n.ensures.range)
      (read_at (Signed 64) (signed_at 64) (signed_reads 64) c.args.bytes.now c.args.c.now.at c.args.c.now.end c.in_ok-n.n c.in_ok-n.rest.now (λ i. omega (arith, c.type_inv.bytes i)) c.requires.ordered c.requires.within (sym c.in_ok-n.ensures.first.exact));
  moved = (search rules, search rules);
  none = tt;
  unchanged = tt;
  end = refl;
}
