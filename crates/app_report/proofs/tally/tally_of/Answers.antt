use Rattle.std.proofs.Common.{◌∙◌, sym, ap, arith}
use Rattle.app_report.specs.Costs.{same_group}
use Rattle.app_report.specs.declared.pieces.Group.TheVariants as groups
use Rattle.app_report.proofs.TallyLemmas.{few_at, passed_over, passes}
use Rattle.app_report.proofs.tally.tally_of.Goals.{then-same_group, else-same_group}
use Rattle.app_report.proofs.tally.tally_of.Goals as goal

pub with_piece-tally-requires : goal.with_piece-tally-requires
with_piece-tally-requires c =
    let fewer = few_at (same_group c.args.group) c.args.pieces.now c.loop-piece.piece-index in
    let same = ap (λ t. t.pieces) c.loop-piece.invariant in
    omega (arith, fewer, same)

pub loop-piece-preserved : goal.loop-piece-preserved
loop-piece-preserved c =
    elim c.if-same_group.branch [
      | then-same_group w ↦ passes (same_group c.args.group) c.args.pieces.now c.loop-piece.piece-index (record { group = groups.Function 0; weight = 0 }) c.loop-piece.tally c.if-same_group.tally
          c.loop-piece-test.true c.loop-piece.invariant (sym c.same_group.ensures ∙ w.if-same_group.true) (w.tally-is ∙ w.with_piece-tally.ensures)
      | else-same_group w ↦ w.tally-is ∙ passed_over (same_group c.args.group) c.args.pieces.now c.loop-piece.piece-index (record { group = groups.Function 0; weight = 0 }) c.loop-piece.tally
          c.loop-piece-test.true c.loop-piece.invariant (sym c.same_group.ensures ∙ w.if-same_group.false)
    ]
