use Rattle.std.proofs.Common.{sym, ◌∙◌}
use Rattle.mc_cmd.proofs.TextLemmas.{id_ascii}
use Rattle.mc_parse.proofs.words.read_id.Goals as goal

pub text_where-requires : goal.text_where-requires
text_where-requires c = λ fits. id_ascii c.args.w.now (sym c.is_id-fits.ensures ∙ fits)
