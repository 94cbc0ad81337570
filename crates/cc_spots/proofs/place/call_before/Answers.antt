use Rattle.std.proofs.Common.{Option, ap, sym, ◌∙◌}
use Rattle.wm_ast.specs.Code.{Op}
use Rattle.wm_valid.specs.Arrows.{◌>>=◌}
use Rattle.cc_body.specs.Behind.{call_type}
use Rattle.cc_body.proofs.CallingLemmas.{last_told}
use Rattle.cc_spots.proofs.place.call_before.Goals as goal

pub returns : goal.returns
returns c =
    c.call_type.ensures
    ∙ ap (λ (o : Option Op). o >>= call_type c.args.m.now) (sym (last_told c.args.stop.before.now c.in_ok-last.field-0.now (sym c.in_ok-last.ensures.value)))
