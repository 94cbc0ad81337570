use Rattle.std.proofs.Common.{◌∙◌, ap}
use Rattle.mc_world.specs.WorldView.{seen}
use Rattle.cc_line.specs.View.{scratch_text}
use Rattle.pk_sight.proofs.ShownLemmas.{score_is, scratch_is}
use Rattle.pk_sight.proofs.reading.score.Goals as goal

pub returns-clause-of_states : goal.returns-clause-of_states
returns-clause-of_states c p s =
    c.score.ensures
    ∙ ap (λ h. (seen c.args.world.now).scores h c.args.names.now.ns) (c.in_ok-holder.ensures ∙ c.holder.ensures)
    ∙ score_is c.args.names.now.ns (seen c.args.world.now) p s (scratch_text c.args.which) (scratch_is c.args.which)
