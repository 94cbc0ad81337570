use Rattle.std.proofs.Common.{◌<◌, length, sym, arith}
use Rattle.std.proofs.lemmas.Option.{get_or_from_slice_get}
use Rattle.wm_match.specs.Space.{own_items}
use Rattle.wm_match.proofs.OneLaws.{found_below}
use Rattle.wm_match.proofs.SpaceLaws.{passed, other}
use Rattle.wm_match.proofs.space.item_among.Goals as goal
use Rattle.wm_match.proofs.space.item_among.Goals.{then-is_in+else-left-eq0, else-is_in}

pub loop-n-preserved : goal.loop-n-preserved
loop-n-preserved c =
    let lt : c.loop-n.n < length c.args.part.now = omega arith in
    let b = found_below c.args.part.now c.loop-n.n lt in
    let g = sym (get_or_from_slice_get c.args.part.now c.loop-n.n b.0 b.0 b.1) in
    elim c.if-is_in.branch [
      | then-is_in+else-left-eq0 w ↦ rw w.left-is
          (passed c.args.space (own_items c.args.k 0 c.args.own) c.args.imports.now c.args.part.now c.loop-n.n c.index-imports-n.result b.0 c.loop-n.left c.args.index
          (omega arith) lt c.index-imports-n.is g w.if-is_in.ensures w.if-left-eq0.false c.loop-n.invariant)
      | else-is_in w ↦ rw w.left-is
          (other c.args.space (own_items c.args.k 0 c.args.own) c.args.imports.now c.args.part.now c.loop-n.n c.index-imports-n.result b.0 c.loop-n.left c.args.index
          (omega arith) lt c.index-imports-n.is g w.if-is_in.ensures c.loop-n.invariant)
    ]
