use Rattle.std.proofs.Common.{ℕ, arith, rules}
use Rattle.std.specs.Prelude.{All}
use Rattle.wm_ast.specs.declared.module.Data.{Data}
use Rattle.wm_valid.specs.InRange.{IsByte}
use Rattle.wm_valid.specs.Valid.{IsValidData}
use Rattle.wm_valid.proofs.FirstLaws.{one_more, at_end}
use Rattle.wm_valid.proofs.item_check.first_data.Goals as goal

pub loop-index-preserved : goal.loop-index-preserved
loop-index-preserved c = record {
  items = c.loop-index.invariant.items;
  valid = one_more c.args.m.now.datas c.as_slice-data-items.result.now (λ (n : ℕ) (e : Data). IsValidData c.args.m.now e) c.loop-index.index c.data-item.result c.loop-index.invariant.items c.data-item.is (search rules) c.loop-index.invariant.valid;
  range = one_more c.args.m.now.datas c.as_slice-data-items.result.now (λ (n : ℕ) (e : Data). All IsByte e.bytes) c.loop-index.index c.data-item.result c.loop-index.invariant.items c.data-item.is c.is_valid_data.ensures.range c.loop-index.invariant.range;
}

pub returns-clause-first : goal.returns-clause-first
returns-clause-first c = at_end c.args.m.now.datas c.as_slice-data-items.result.now (λ (n : ℕ) (e : Data). IsValidData c.args.m.now e) c.loop-index.index c.loop-index.invariant.items (omega arith) c.loop-index.invariant.valid

pub returns-clause-range : goal.returns-clause-range
returns-clause-range c = at_end c.args.m.now.datas c.as_slice-data-items.result.now (λ (n : ℕ) (e : Data). All IsByte e.bytes) c.loop-index.index c.loop-index.invariant.items (omega arith) c.loop-index.invariant.range
