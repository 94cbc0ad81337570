-- What the crates below say of the lines of operations on numbers and of accesses to memory.
use Rattle.std.proofs.Common.{◌≡◌, ℕ, ◌+◌, ◌≤◌, true}
use Rattle.wm_ast.specs.declared.operation.NumOp.{NumOp}
use Rattle.cc_line.specs.Fit.{place_fits}
use Rattle.cc_line.specs.Item.{items_fit, items_most}
use Rattle.cc_access.specs.KnownLaw.{LoadsByAreLines, StoresByAreLines}
use Rattle.cc_bits64.specs.Operation as long_bits
use Rattle.cc_i64.specs.Operation as pairs

-- the laws of numbers of 64 bits, and of accesses
pub record NumbersAreLines : Type 0 where
  pub pairs_fit : (op : NumOp) (a : ℕ) → place_fits (a + 3) ≡ true → items_fit (pairs.op_items op a) ≡ true
  pub pairs_weigh : (op : NumOp) (a : ℕ) → items_most (pairs.op_items op a) ≤ pairs.op_most op
  pub bits_fit : (op : NumOp) (a : ℕ) → place_fits (a + 3) ≡ true → items_fit (long_bits.op_items op a) ≡ true
  pub bits_weigh : (op : NumOp) (a : ℕ) → items_most (long_bits.op_items op a) ≤ long_bits.op_most op
  pub loads : LoadsByAreLines
  pub stores : StoresByAreLines
