use Rattle.std.proofs.Common.{rules, ◌∙◌, sym}
use Rattle.wm_place.specs.Stop.{visit_told}
use Rattle.cc_cut.proofs.MakingLemmas.{numbered}
use Rattle.cc_cut.proofs.making.NumberingVisitor.visit.Goals as goal

pub returns-in_ok-insert : goal.returns-in_ok-insert
returns-in_ok-insert c =
    numbered c.args.self.now.spent c.args.self.now.count c.args.self.now.indices (visit_told c.args.stop) c.code_cost-cost.result c.in_ok-count.count c.insert.new.self c.in_ok-path.path
    (sym c.is_cut.ensures ∙ c.if-is_cut.true) c.code_cost-cost.ensures.value (search rules) c.in_ok-path.ensures.items c.in_ok-insert.ensures.updates.1 c.in_ok-insert.ensures.updates.3
