use Rattle.std.proofs.Common.{map, ap, ◌∙◌}
use Rattle.cc_line.specs.BlockView.{block_items}
use Rattle.cc_cut.specs.Law.{widths}
use Rattle.cc_cut.specs.Piece.{function_pieces}
use Rattle.cc_body.proofs.CompileLemmas.{body_made}
use Rattle.cc_body.proofs.compiling.body_parts.Goals as goal

pub returns : goal.returns
returns c =
    let body = c.args.body in
    body_made body.module.now body.func body.size body.locals.now c.args.shape c.in_ok-given.given _ body.heights.now _ _ (function_pieces c.args.m.now body.func) _ _ _ _ _ _ (ap (map block_items) c.as_slice.ensures.value ∙ c.in_ok-cuts.ensures)
    c.in_ok-entry_part.ensures (c.in_ok-given.ensures ∙ ap widths c.as_slice-2.ensures) c.in_ok-opening_part.ensures c.new-parts.ensures.items c.in_ok-push.ensures.items c.in_ok-push-2.ensures.items c.in_ok-parts.ensures
