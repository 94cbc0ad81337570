use Rattle.std.proofs.Common.{ap, ◌∙◌}
use Rattle.std.specs.List.{list_all}
use Rattle.mc_cmd.specs.Pattern.{is_literal_byte}
use Rattle.mc_cmd.proofs.TextLemmas.{literal_ascii}
use Rattle.mc_parse.proofs.ManyLemmas.{span_spells}
use Rattle.mc_parse.proofs.pattern.read_piece.Goals as goal

pub text_where-requires : goal.text_where-requires
text_where-requires c = λ _. literal_ascii _ (ap (list_all is_literal_byte) (ap (λ p. p.0) c.span.ensures) ∙ (span_spells is_literal_byte c.args.t.now).1)
