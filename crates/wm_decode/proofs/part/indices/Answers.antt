use Rattle.std.proofs.Common.{◌<◌, ℕ, List, length, Result, Ok, Err, arith}
use Rattle.std.specs.Prelude.{IfOk}
use Rattle.std.specs.Borrow.{Bor}
use Rattle.wm_ast.specs.Vector.{SpellsIndex}
use Rattle.wm_frame.specs.Reading.{unsigned_at}
use Rattle.wm_frame.proofs.Readers.{IsBytes}
use Rattle.wm_decode.specs.declared.fault.Fault.{Fault}
use Rattle.wm_decode.specs.steps.Gives.{Gives}
use Rattle.wm_decode.specs.steps.Listing.{list_at}
use Rattle.wm_decode.proofs.Listings.{index_reads, list_shorter}
use Rattle.wm_decode.proofs.part.indices.Goals as goal

is_shorter : (bytes : List ℕ) (r : Result (List ℕ × Bor (List ℕ)) Fault) → IsBytes bytes → Gives (λ x. (x.0, x.1.now)) r (list_at (unsigned_at 32) bytes) → IfOk r (λ x. length x.1.now < length bytes)
is_shorter bytes (Ok x) fits e = list_shorter SpellsIndex (unsigned_at 32) index_reads bytes (x.0, x.1.now) fits e
is_shorter bytes (Err f) fits e = tt

pub returns-clause-shorter : goal.returns-clause-shorter
returns-clause-shorter c = is_shorter c.args.bytes.now c.list.result (λ i. omega (arith, c.type_inv.bytes i)) c.list.ensures
