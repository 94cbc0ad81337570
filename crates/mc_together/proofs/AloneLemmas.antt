-- The chains of a tidy pack, by itself. This speaks of one pack alone, and would stand as well in `mc_cmd`.
use Rattle.std.proofs.Common.{◌≡◌, ℕ, true, false, refl}
use Rattle.mc_cmd.specs.Form.{Text}
use Rattle.mc_cmd.specs.World.{World}
use Rattle.mc_cmd.specs.Word.{is_namespace}
use Rattle.mc_cmd.specs.Layout.{full_name}
use Rattle.mc_cmd.specs.Foreign.{is_own, IsKept}
use Rattle.mc_cmd.specs.Pack.{Pack, chain_in}
use Rattle.mc_together.specs.Part.{Bare, IsTidyPack}
use Rattle.mc_together.proofs.RunLemmas.{Ran, chain_ran}
use Rattle.mc_together.proofs.ApartLemmas.{full_own, same_self}

module _ (p : Pack) (good : is_namespace p.index.ns ≡ true) (t : IsTidyPack p) (name : Text) (q : ℕ) (w : World) (b : Bare p.index.ns w) where
  ran_alone : Ran p.functions p.functions p.index.ns (λ f own. refl) t.tidy w w (chain_in p name q w) (chain_in p name q w)
  ran_alone =
      chain_ran p.functions p.functions p.index.ns (λ f own. refl) t.tidy (full_name p.index.ns name) q w w
      (full_own p.index.ns good name) (same_self p.index.ns w) refl b

  pub alone_kept : (n : Text) → is_own p.index.ns n ≡ false → IsKept n w (chain_in p name q w).world
  alone_kept n h = ran_alone.kept n h

  pub alone_bare : Bare p.index.ns (chain_in p name q w).world
  alone_bare = ran_alone.bare
