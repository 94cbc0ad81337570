use Rattle.wm_ast.specs.Step.{arity, top}
use Rattle.wm_reduce.proofs.SeenLaws.{no_item, no_block, block_at, behind_short, behind_step, again_step, not_carried, did_carry}
use Rattle.wm_reduce.proofs.calls.Calls.branch.Goals as goal

pub returns-in_default : goal.returns-in_default
returns-in_default c = λ m s is.
    no_block m s c.args.self c.drop_top.new.self c.args.label is c.drop_top.ensures (no_item c.pop.result _ _ c.pop.ensures c.in_default.not-Some).0

pub returns-then-not-branch : goal.returns-then-not-branch
returns-then-not-branch c = λ m s is.
    behind_short m s c.args.self c.args.label is c.in-Some.block c.pop.new.self
    (block_at m s c.args.self c.drop_top.new.self c.pop.new.self c.args.label c.in-Some.block c.drop_top.ensures c.in-Some.ensures)
    c.in-Behind.ty c.in-Behind.is
    (not_carried c.in_ok-carry-in-Behind.field-0 _ _ _ c.if-not-branch.true c.in_ok-carry-in-Behind.ensures)

pub returns-else-not-branch : goal.returns-else-not-branch
returns-else-not-branch c = λ m s is.
    let d = did_carry c.in_ok-carry-in-Behind.field-0 (top (arity c.in-Behind.ty) c.args.self.current.values) c.in-Some.block.values c.carry.new.under c.if-not-branch.false c.in_ok-carry-in-Behind.ensures in
    behind_step m s c.args.self c.args.label is c.in-Some.block c.pop.new.self
    (block_at m s c.args.self c.drop_top.new.self c.pop.new.self c.args.label c.in-Some.block c.drop_top.ensures c.in-Some.ensures)
    c.in-Behind.ty d.0 c.carry.new.under c.in-Behind.is d.1 d.2

pub returns-in-Again : goal.returns-in-Again
returns-in-Again c = λ m s is.
    again_step m s c.args.self c.args.label is c.in-Some.block c.pop.new.self
    (block_at m s c.args.self c.drop_top.new.self c.pop.new.self c.args.label c.in-Some.block c.drop_top.ensures c.in-Some.ensures)
    c.in-Again.start c.in-Again.is
