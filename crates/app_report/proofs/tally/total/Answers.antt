use Rattle.std.proofs.Common.{refl, ap, true, arith}
use Rattle.app_report.specs.declared.pieces.Group.TheVariants as groups
use Rattle.app_report.proofs.TallyLemmas.{few_at, passes}
use Rattle.app_report.proofs.tally.total.Goals as goal

pub with_piece-tally-requires : goal.with_piece-tally-requires
with_piece-tally-requires c =
    let fewer = few_at (λ g. true) c.args.pieces.now c.loop-piece.piece-index in
    let same = ap (λ t. t.pieces) c.loop-piece.invariant in
    omega (arith, fewer, same)

pub loop-piece-preserved : goal.loop-piece-preserved
loop-piece-preserved c =
    passes (λ g. true) c.args.pieces.now c.loop-piece.piece-index (record { group = groups.Function 0; weight = 0 }) c.loop-piece.tally c.with_piece-tally.result
    c.loop-piece-test.true c.loop-piece.invariant refl c.with_piece-tally.ensures
