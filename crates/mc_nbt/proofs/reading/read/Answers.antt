use Rattle.std.proofs.Common.{sym, ap, ◌∙◌}
use Rattle.mc_nbt.specs.steps.ScanView.{verdict}
use Rattle.mc_nbt.proofs.ReadLemmas.{whole_built, broken_read, deep_read, shallow_read}
use Rattle.mc_nbt.proofs.reading.read.Goals as goal

pub returns-in-Broken : goal.returns-in-Broken
returns-in-Broken c = broken_read c.args.bytes.now c.in-Broken.at (sym c.in_ok-at.ensures ∙ ap verdict c.in-Broken.is)

pub returns-then-depth-gt-MAX_DEPTH : goal.returns-then-depth-gt-MAX_DEPTH
returns-then-depth-gt-MAX_DEPTH c =
    deep_read c.args.bytes.now c.in-Whole.depth (sym c.in_ok-at.ensures ∙ ap verdict c.in-Whole.is) c.if-depth-gt-MAX_DEPTH.true

pub build_spelled-requires : goal.build_spelled-requires
build_spelled-requires c =
    let w = whole_built c.args.bytes.now c.in-Whole.depth (sym c.in_ok-at.ensures ∙ ap verdict c.in-Whole.is) in
    (w.0, w.1)

pub returns-in_ok-build_spelled-in-Whole : goal.returns-in_ok-build_spelled-in-Whole
returns-in_ok-build_spelled-in-Whole c =
    let whole = sym c.in_ok-at.ensures ∙ ap verdict c.in-Whole.is in
    shallow_read c.args.bytes.now c.in-Whole.depth _ whole c.if-depth-gt-MAX_DEPTH.false c.in_ok-build_spelled-in-Whole.ensures
