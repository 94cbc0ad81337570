use Rattle.std.proofs.Common.{◌≡◌, ◌<◌, List, ℕ, Option, Some, None, length, sym, arith, lit≤, w64, ℤ}
use Rattle.std.specs.Prelude.{IfSome, option_map, FitsSigned}
use Rattle.std.specs.Borrow.{Bor}
use Rattle.wm_frame.specs.Front.{Signed}
use Rattle.wm_frame.specs.Read.{IsFirst}
use Rattle.wm_frame.specs.Reading.{signed_at, IsWithin}
use Rattle.wm_frame.proofs.NumberLaws.{signed_reads}
use Rattle.wm_frame.proofs.Readers.{IsBytes, no_front}
use Rattle.wm_frame.proofs.SignedBounds.{within_fits}
use Rattle.wm_frame.proofs.number.s64_at.Goals as goal

is_first : (bytes : List ℕ) (r : Option (ℤ × Bor (List ℕ))) → IsBytes bytes → option_map (λ x. (x.0, x.1.now)) r ≡ signed_at 64 bytes
    → IfSome r (λ x. length x.1.now < length bytes) → IsFirst (Signed 64) (signed_at 64) bytes (option_map (λ x. (x.0, x.1.now)) r)
is_first bytes None fits e short = record { found = tt; none = no_front (Signed 64) (signed_at 64) (signed_reads 64) bytes (sym e); exact = e; shorter = tt }
is_first bytes (Some x) fits e short = record { found = (signed_reads 64).takes bytes (x.0, x.1.now) fits (sym e); none = tt; exact = e; shorter = short }

pub returns-clause-first : goal.returns-clause-first
returns-clause-first c = is_first c.args.bytes.now c.signed.result (λ i. omega (arith, c.type_inv.bytes i)) c.signed.ensures.exact c.signed.ensures.shorter

in_range : (r : Option (ℤ × Bor (List ℕ))) → IfSome r (λ x. IsWithin 64 x.0) → IfSome r (λ x. FitsSigned w64 x.0)
in_range None small = tt
in_range (Some x) small = within_fits 64 x.0 (lit≤ tt) small

pub returns-clause-range : goal.returns-clause-range
returns-clause-range c = in_range c.signed.result c.signed.ensures.small
