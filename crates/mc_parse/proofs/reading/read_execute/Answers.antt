use Rattle.std.proofs.Common.{◌≡◌, Some, suc, length, map, sym, ap, ◌∙◌}
use Rattle.std.specs.Prelude.{option_map, option_and_then}
use Rattle.mc_cmd.specs.Grammar.{subs_read, execute_of, cmd_fits}
use Rattle.mc_cmd.specs.View.{cmd_view, simple_view, sub_view}
use Rattle.mc_parse.proofs.ExecuteLemmas.{execute_fits, execute_fails}
use Rattle.mc_parse.proofs.reading.read_execute.Goals as goal

pub returns-in-Some-new : goal.returns-in-Some-new
returns-in-Some-new c =
    let t = c.args.t.now in
    let ss = map sub_view c.in-Some.subs.items in
    let s = simple_view c.in-Some.run' in
    let said : subs_read (suc (length t)) t ≡ Some (ss, s) = sym c.in_ok-subs.ensures ∙ ap (option_map (λ q. (map sub_view q.0.items, simple_view q.1))) c.in-Some.is in
    let kind = c.in-Some-new.ensures in
    let fits = ap (λ k. cmd_fits (cmd_view k)) (sym kind) ∙ c.kind-kind.ensures.fits in
    ap (λ k. Some (cmd_view k)) kind ∙ sym (execute_fits ss s fits) ∙ ap (option_and_then execute_of) (sym said)

pub returns-in-None-new : goal.returns-in-None-new
returns-in-None-new c =
    let t = c.args.t.now in
    let ss = map sub_view c.in-Some.subs.items in
    let s = simple_view c.in-Some.run' in
    let said : subs_read (suc (length t)) t ≡ Some (ss, s) = sym c.in_ok-subs.ensures ∙ ap (option_map (λ q. (map sub_view q.0.items, simple_view q.1))) c.in-Some.is in
    sym (execute_fails (suc (length t)) t ss s said c.in-None-new.ensures) ∙ ap (option_and_then execute_of) (sym said)
