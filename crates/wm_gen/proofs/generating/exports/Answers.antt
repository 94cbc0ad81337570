use Rattle.std.proofs.Common.{◌≡◌, ◌++◌, ◌∙◌, ap, rules}
use Rattle.wm_gen.specs.Shortest.{unsigned}
use Rattle.wm_gen.proofs.CodeLaws.{export_section}
use Rattle.wm_gen.proofs.generating.exports.Goals as goal

pub returns : goal.returns
returns c =
    let same : c.from.result ≡ c.args.index = search rules in
    export_section c.args.index c.push_unsigned.new.bytes.items (c.in_ok-push_unsigned.ensures ∙ ap (λ n. c.in_ok-bytes.bytes.items ++ unsigned n) same ∙ ap (λ l. l ++ unsigned c.args.index) c.in_ok-bytes.ensures.items)
