use Rattle.std.proofs.Common.{◌≡◌, map, drop}
use Rattle.mc_cmd.specs.Grammar.{any_stores}
use Rattle.mc_cmd.specs.View.{sub_view}
use Rattle.mc_cmd.proofs.fits.any_stores.Given as goal

abbrev pub invariant-loop-sub : goal.invariant-loop-sub
invariant-loop-sub l = any_stores (map sub_view l.subs) ≡ any_stores (map sub_view (drop l.sub-index l.subs))
