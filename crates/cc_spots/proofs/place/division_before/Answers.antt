use Rattle.std.proofs.Common.{Option, ap, sym, ◌∙◌}
use Rattle.wm_ast.specs.Code.{Op}
use Rattle.wm_valid.specs.Arrows.{◌>>=◌}
use Rattle.cc_body.specs.Behind.{op_division}
use Rattle.cc_body.proofs.CallingLemmas.{last_told}
use Rattle.cc_spots.proofs.place.division_before.Goals as goal

pub returns : goal.returns
returns c =
    c.op_division.ensures
    ∙ ap (λ (o : Option Op). o >>= op_division) (sym (last_told c.args.stop.before.now c.in_ok-last.field-0.now (sym c.in_ok-last.ensures.value)))
