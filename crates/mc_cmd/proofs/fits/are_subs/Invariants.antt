use Rattle.std.proofs.Common.{◌≡◌, map, drop}
use Rattle.mc_cmd.specs.Grammar.{subs_fit}
use Rattle.mc_cmd.specs.View.{sub_view}
use Rattle.mc_cmd.proofs.fits.are_subs.Given as goal

abbrev pub invariant-loop-sub : goal.invariant-loop-sub
invariant-loop-sub l = subs_fit (map sub_view l.subs) ≡ subs_fit (map sub_view (drop l.sub-index l.subs))
