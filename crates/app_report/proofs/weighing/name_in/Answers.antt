use Rattle.std.proofs.Common.{◌∙◌, ◌++◌, sym, ap, lit<}
use Rattle.std.proofs.lemmas.Str.Pattern.{strip_prefix_char}
use Rattle.app_report.proofs.WeighingLemmas.{no_name}
use Rattle.app_report.proofs.weighing.name_in.Goals as goal

pub returns-clause-none : goal.returns-clause-none
returns-clause-none c =
    let stripped = c.in_ok-rest.ensures.cases in
    no_name c.args.ns.now c.args.full.now c.in_ok-rest.rest.now c.strip_prefix-2.result (stripped.1.1 ∙ ap (λ rest. c.args.ns.now ++ rest) (sym stripped.2))
    (strip_prefix_char 58 c.in_ok-rest.rest.now c.strip_prefix-2.result c.strip_prefix-2.ensures.cases (lit< tt))
