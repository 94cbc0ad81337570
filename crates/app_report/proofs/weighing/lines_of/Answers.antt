use Rattle.std.proofs.Common.{◌≡◌, ◌∙◌, sym, ap}
use Rattle.mc_cmd.specs.Layout.{full_name}
use Rattle.app_report.proofs.WeighingLemmas.{named_lines, nameless}
use Rattle.app_report.proofs.weighing.lines_of.Goals as goal

pub returns-in_ok-new-in-Some : goal.returns-in_ok-new-in-Some
returns-in_ok-new-in-Some c =
    let ns : c.as_str.result.now ≡ c.args.pack.now.index.ns = c.as_str.ensures ∙ ap (λ i. i.ns) c.index.ensures.index in
    let full : c.args.full.now ≡ full_name c.args.pack.now.index.ns c.in_ok-new-in-Some.field-0 =
    sym c.as_str-2.ensures ∙ c.in-Some.ensures.some ∙ ap (λ n. full_name n c.in-Some.name.now) ns ∙ ap (full_name c.args.pack.now.index.ns) (sym c.in_ok-new-in-Some.ensures)
    in
    c.lines-in-Some.ensures ∙ named_lines c.args.pack.now c.args.full.now c.in_ok-new-in-Some.field-0 full

pub returns-in-None : goal.returns-in-None
returns-in-None c =
    let ns : c.as_str.result.now ≡ c.args.pack.now.index.ns = c.as_str.ensures ∙ ap (λ i. i.ns) c.index.ensures.index in
    nameless c.args.pack.now c.args.full.now (λ name e. c.in-None.ensures.none name (c.as_str-2.ensures ∙ e ∙ ap (λ n. full_name n name) (sym ns)))
