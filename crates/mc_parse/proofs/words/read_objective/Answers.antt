use Rattle.std.proofs.Common.{sym, ◌∙◌}
use Rattle.mc_cmd.proofs.TextLemmas.{objective_ascii}
use Rattle.mc_parse.proofs.words.read_objective.Goals as goal

pub text_where-requires : goal.text_where-requires
text_where-requires c = λ fits. objective_ascii c.args.w.now (sym c.is_objective-fits.ensures ∙ fits)
