use Rattle.std.proofs.Common.{◌∙◌, ap, codes, false}
use Rattle.mc_cmd.specs.World.{World}
use Rattle.mc_cmd.specs.Pack.{after_chain, chain_in}
use Rattle.mc_cmd.specs.declared.TheConstants.{LOAD_QUOTA}
use Rattle.mc_engine.specs.EngineView.{shown}
use Rattle.mc_tick.specs.State.{State}
use Rattle.mc_tick.specs.Packs.{as_one}
use Rattle.mc_tick.proofs.PlayLemmas.{empty_is}
use Rattle.mc_tick.proofs.play.Play.boot.Goals as goal

-- src/play.rt:61:5
pub returns : goal.returns
returns c =
    let loaded_over : World → State = λ w. record {
      pack = as_one (shown c.args.engine).packs;
      standing =
          after_chain (record { world = w; ticks = 0; used = 0; cut = false }) 0 LOAD_QUOTA
          (chain_in (as_one (shown c.args.engine).packs) (codes "load") LOAD_QUOTA w);
    } in
    c.in_ok-load.ensures ∙ ap loaded_over (empty_is _ c.requires.empty)
