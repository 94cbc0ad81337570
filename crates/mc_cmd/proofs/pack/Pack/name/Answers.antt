use Rattle.std.proofs.Common.{◌∙◌, sym, ap, Some}
use Rattle.mc_cmd.proofs.PackLemmas.{name_at}
use Rattle.mc_cmd.proofs.pack.Pack.name.Goals as goal

pub returns : goal.returns
returns c = rw (← c.self.view_is) (name_at c.self.inside.functions.entries c.args.at c.in-Some.name.now c.in-Some.field-0-1.now (sym c.in-Some.ensures.entry) ∙ ap Some (sym c.as_str.ensures.value))
