use Rattle.std.proofs.Common.{◌∙◌}
use Rattle.wm_ast.specs.View.{code_of}
use Rattle.wm_place.specs.Stop.{visit_told}
use Rattle.cc_spots.proofs.CodeLaws.{shown_is}
use Rattle.cc_spots.proofs.place.spot_shown.Goals as goal

pub returns : goal.returns
returns c =
    shown_is c.args.m.now c.args.locals.now c.args.size (visit_told c.args.stop) (code_of c.behind_constants-behind.result.now) _ _ _ _ _ _ _ c.behind_constants-behind.ensures
    (c.from_vec.ensures ∙ c.in_ok-from_slice.ensures.items) (c.from_vec-2.ensures ∙ c.in_ok-from_slice-2.ensures.items) (c.from_vec-3.ensures ∙ c.in_ok-constants.ensures)
    c.opcode_of_first.ensures (c.from_vec-4.ensures ∙ c.in_ok-left.ensures) c.in_ok-own_call_before.ensures c.division_before.ensures
