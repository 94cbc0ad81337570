use Rattle.std.proofs.Common.{◌∙◌, sym, ap}
use Rattle.mc_cmd.specs.Packing.{Written, named, refusal}
use Rattle.mc_cmd.proofs.PackLemmas.{written_after}
use Rattle.mc_cmd.proofs.pack.Pack.add.Goals as goal

pub invariant_of-self : goal.invariant_of-self
invariant_of-self c =
    let w : Written = record { index = c.self.inside.index; functions = named c.self.inside.functions.entries } in
    let free = ap (λ (v : Written). refusal v c.args.name) c.self.view_is ∙ sym c.refusal.ensures ∙ c.in_default.is in
    written_after w c.args.name c.args.lines (named c.push_function.new.functions.entries) c.push_function.result _ c.self.invariant free c.requires.name c.requires.lines c.push_function.ensures.ok c.push_function.ensures.err
