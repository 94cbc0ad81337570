use Rattle.std.proofs.Common.{◌≡◌, ◌∙◌, ◌+◌, sym, ap, ◌<◌, length, subst, Some, None, arith}
use Rattle.std.specs.Prelude.{option_map}
use Rattle.mc_cmd.specs.Packing.{lines_at}
use Rattle.mc_tidy.specs.First.{IsFirstUntidy}
use Rattle.pk_multi.proofs.LinesLemmas.{no_lines, untidy_here, untidy_line, untidy_within}
use Rattle.pk_multi.proofs.making.untidy_of.Goals as goal

pub unreachable-requires : goal.unreachable-requires
unreachable-requires c =
    no_lines c.args.pack.now c.args.at c.name.result.now c.in_ok-name.name c.requires.written c.name.ensures c.in_ok-name.ensures (ap (option_map (λ t. t.now)) (sym c.in-None.is) ∙ c.lines.ensures)

pub returns-in-Some-2 : goal.returns-in-Some-2
returns-in-Some-2 c =
    let ns = c.args.names.now.ns in
    let lines = c.in-Some.lines.now in
    let here : Some lines ≡ lines_at c.args.pack.now c.in_ok-name.name = ap (option_map (λ t. t.now)) (sym c.in-Some.is) ∙ c.lines.ensures in
    let first : IsFirstUntidy ns lines (Some c.in-Some-2.place) = subst (IsFirstUntidy ns lines) c.in-Some-2.is c.in_ok-place-in-Some.ensures in
    let within : c.in-Some-2.place < length lines = untidy_within ns lines c.in-Some-2.place first in
    let number : c.min.result ≡ c.in-Some-2.place + 1 = omega arith in
    untidy_here ns c.args.pack.now c.args.at c.name.result.now c.in_ok-name.name lines _ c.requires.written c.name.ensures c.in_ok-name.ensures here
    (untidy_line ns c.in_ok-name.name lines c.in-Some-2.place c.min.result number first)

pub returns-in-None-2 : goal.returns-in-None-2
returns-in-None-2 c =
    let ns = c.args.names.now.ns in
    let lines = c.in-Some.lines.now in
    let here : Some lines ≡ lines_at c.args.pack.now c.in_ok-name.name = ap (option_map (λ t. t.now)) (sym c.in-Some.is) ∙ c.lines.ensures in
    let none : IsFirstUntidy ns lines None = subst (IsFirstUntidy ns lines) c.in-None-2.is c.in_ok-place-in-Some.ensures in
    untidy_here ns c.args.pack.now c.args.at c.name.result.now c.in_ok-name.name lines None c.requires.written c.name.ensures c.in_ok-name.ensures here none
