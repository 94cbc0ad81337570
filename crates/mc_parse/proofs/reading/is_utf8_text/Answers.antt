use Rattle.std.proofs.Common.{◌∙◌}
use Rattle.mc_cmd.proofs.TextLemmas.{is_utf8_is}
use Rattle.mc_parse.proofs.reading.is_utf8_text.Goals as goal

pub returns : goal.returns
returns c = c.is_ok.ensures.value ∙ is_utf8_is (λ s. s.now) c.args.t.now _ c.from_utf8.result c.from_utf8.ensures.cases
