use Rattle.std.proofs.Common.{sym, ap, ◌∙◌}
use Rattle.std.specs.Prelude.{option_map}
use Rattle.mc_nbt.specs.View.{parts}
use Rattle.mc_parse.proofs.StepLemmas.{path_by_steps, path_made_of}
use Rattle.mc_parse.proofs.path.read_path.Goals as goal

pub returns-in-Some : goal.returns-in-Some
returns-in-Some c = path_made_of c.args.t.now c.in-Some.steps.items c.new.result (sym (ap (option_map (λ v. parts v.items)) c.in-Some.is) ∙ c.in_ok-steps.ensures) c.new.ensures

pub returns-in-None : goal.returns-in-None
returns-in-None c = sym (ap (option_map (λ v. parts v.items)) c.in-None.is) ∙ c.in_ok-steps.ensures ∙ path_by_steps c.args.t.now
