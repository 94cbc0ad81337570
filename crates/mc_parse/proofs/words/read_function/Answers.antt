use Rattle.std.proofs.Common.{sym, ◌∙◌}
use Rattle.mc_cmd.proofs.TextLemmas.{function_ascii}
use Rattle.mc_parse.proofs.words.read_function.Goals as goal

pub text_where-requires : goal.text_where-requires
text_where-requires c = λ fits. function_ascii c.args.w.now (sym c.is_function-fits.ensures ∙ fits)
