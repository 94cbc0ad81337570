use Rattle.std.proofs.Common.{sym, ◌∙◌}
use Rattle.mc_cmd.proofs.TextLemmas.{key_ascii}
use Rattle.mc_parse.proofs.words.read_key.Goals as goal

pub text_where-requires : goal.text_where-requires
text_where-requires c = λ fits. key_ascii c.args.w.now (sym c.is_key-fits.ensures ∙ fits)
