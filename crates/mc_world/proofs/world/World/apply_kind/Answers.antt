use Rattle.std.proofs.Common.{◌∙◌, sym, ap, map}
use Rattle.mc_cmd.specs.Grammar.{cmd_fits, may_run}
use Rattle.mc_cmd.specs.View.{cmd_view, simple_view, sub_view}
use Rattle.mc_cmd.proofs.FormLemmas.{and_first, and_second}
use Rattle.mc_world.proofs.world.World.apply_kind.Goals as goal

pub execute-requires-clause-fits : goal.execute-requires-clause-fits
execute-requires-clause-fits c = and_second _ _ (and_second _ _ (ap (λ k. cmd_fits (cmd_view k)) (sym c.in-Execute.is) ∙ c.requires.fits))

pub execute-requires-clause-may : goal.execute-requires-clause-may
execute-requires-clause-may c =
    ap (λ l. may_run (map sub_view l) (simple_view c.in-Execute.run')) c.as_slice.ensures.value
    ∙ and_first _ _ (ap (λ k. cmd_fits (cmd_view k)) (sym c.in-Execute.is) ∙ c.requires.fits)
