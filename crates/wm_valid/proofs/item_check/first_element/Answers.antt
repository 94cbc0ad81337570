use Rattle.std.proofs.Common.{ℕ, arith, rules}
use Rattle.wm_ast.specs.declared.module.Elem.{Elem}
use Rattle.wm_valid.specs.Valid.{IsValidElement}
use Rattle.wm_valid.proofs.FirstLaws.{one_more, at_end}
use Rattle.wm_valid.proofs.item_check.first_element.Goals as goal

pub loop-index-preserved : goal.loop-index-preserved
loop-index-preserved c = record {
  items = c.loop-index.invariant.items;
  valid = one_more c.args.m.now.elems c.as_slice-elem-items.result.now (λ (n : ℕ) (e : Elem). IsValidElement c.args.m.now e) c.loop-index.index c.elem-item.result c.loop-index.invariant.items c.elem-item.is (search rules) c.loop-index.invariant.valid;
}

pub returns : goal.returns
returns c = at_end c.args.m.now.elems c.as_slice-elem-items.result.now (λ (n : ℕ) (e : Elem). IsValidElement c.args.m.now e) c.loop-index.index c.loop-index.invariant.items (omega arith) c.loop-index.invariant.valid
