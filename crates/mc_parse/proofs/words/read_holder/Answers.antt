use Rattle.std.proofs.Common.{sym, ◌∙◌}
use Rattle.mc_cmd.proofs.TextLemmas.{holder_ascii}
use Rattle.mc_parse.proofs.words.read_holder.Goals as goal

pub text_where-requires : goal.text_where-requires
text_where-requires c = λ fits. holder_ascii c.args.w.now (sym c.is_holder-fits.ensures ∙ fits)
