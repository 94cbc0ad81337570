use Rattle.std.proofs.Common.{◌≡◌, Some, None, sym, ap, ◌∙◌}
use Rattle.std.specs.Prelude.{option_map}
use Rattle.mc_cmd.specs.Command.{plain}
use Rattle.mc_cmd.specs.Grammar.{simple_read}
use Rattle.mc_cmd.specs.View.{cmd_view, simple_view}
use Rattle.mc_parse.proofs.ExecuteLemmas.{plain_fits}
use Rattle.mc_parse.proofs.reading.read_plain.Goals as goal

pub unreachable-requires : goal.unreachable-requires
unreachable-requires c =
    let said : simple_read c.args.t.now ≡ Some (simple_view c.in-Some.simple) = sym c.in_ok-simple.ensures ∙ ap (option_map simple_view) c.in-Some.is in
    let fits = plain_fits c.args.t.now (simple_view c.in-Some.simple) said in
    let other = c.in-None-new.ensures in
    absurd cc

pub returns-in-Some-new : goal.returns-in-Some-new
returns-in-Some-new c =
    let said : simple_read c.args.t.now ≡ Some (simple_view c.in-Some.simple) = sym c.in_ok-simple.ensures ∙ ap (option_map simple_view) c.in-Some.is in
    ap (λ k. Some (cmd_view k)) c.in-Some-new.ensures ∙ ap (option_map plain) (sym said)

pub returns-in-None : goal.returns-in-None
returns-in-None c =
    let said : simple_read c.args.t.now ≡ None = sym c.in_ok-simple.ensures ∙ ap (option_map simple_view) c.in-None.is in
    ap (option_map plain) (sym said)
