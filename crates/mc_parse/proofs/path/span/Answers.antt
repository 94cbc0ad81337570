use Rattle.std.proofs.Common.{◌≡◌, ◌-◌, take, drop, length, sym, ap, ◌∙◌, arith}
use Rattle.std.proofs.lemmas.Grind.{common_steps}
use Rattle.mc_nbt.specs.Word.{is_name_byte}
use Rattle.mc_parse.proofs.ManyLemmas.{span-position, span_by}
use Rattle.mc_parse.proofs.path.span.Goals as goal

pub returns-in-None : goal.returns-in-None
returns-in-None c = sym (span-position is_name_byte c.args.t.now ∙ ap (span_by c.args.t.now) (sym c.in-None.ensures))

pub returns-in-Some : goal.returns-in-Some
returns-in-Some c =
    let t = c.args.t.now in
    let i = c.in-Some.i in
    let e : take (length t - i) (drop i t) ≡ drop i t = grind (arith, common_steps) in
    ap (λ r. (take i t, r)) e ∙ sym (span-position is_name_byte t ∙ ap (span_by t) (sym c.in-Some.ensures))
