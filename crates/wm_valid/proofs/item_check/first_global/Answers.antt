use Rattle.std.proofs.Common.{ℕ, arith, rules, subst, sym}
use Rattle.std.specs.Prelude.{IsTrue}
use Rattle.wm_ast.specs.declared.module.Global.{Global}
use Rattle.wm_ast.specs.Profile.{global_code}
use Rattle.wm_valid.specs.InRange.{CodeInRange}
use Rattle.wm_valid.specs.Valid.{IsValidGlobal}
use Rattle.wm_valid.proofs.FirstLaws.{one_more, at_end}
use Rattle.wm_valid.proofs.item_check.first_global.Goals as goal

pub loop-index-preserved : goal.loop-index-preserved
loop-index-preserved c =
    let is : IsTrue c.is_constant.result = subst IsTrue (sym c.if-not-is_constant.false) (search rules) in
    record {
      items = c.loop-index.invariant.items;
      valid = one_more c.args.m.now.globals c.as_slice-global-items.result.now (λ (n : ℕ) (g : Global). IsValidGlobal g) c.loop-index.index c.global-item.result c.loop-index.invariant.items c.global-item.is (c.is_constant.ensures.exact.0 is) c.loop-index.invariant.valid;
      range = one_more c.args.m.now.globals c.as_slice-global-items.result.now (λ (n : ℕ) (g : Global). CodeInRange (global_code g)) c.loop-index.index c.global-item.result c.loop-index.invariant.items c.global-item.is (c.is_constant.ensures.range is) c.loop-index.invariant.range;
    }

pub returns-clause-first : goal.returns-clause-first
returns-clause-first c = at_end c.args.m.now.globals c.as_slice-global-items.result.now (λ (n : ℕ) (g : Global). IsValidGlobal g) c.loop-index.index c.loop-index.invariant.items (omega arith) c.loop-index.invariant.valid

pub returns-clause-range : goal.returns-clause-range
returns-clause-range c = at_end c.args.m.now.globals c.as_slice-global-items.result.now (λ (n : ℕ) (g : Global). CodeInRange (global_code g)) c.loop-index.index c.loop-index.invariant.items (omega arith) c.loop-index.invariant.range
