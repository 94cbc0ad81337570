-- The part of a world that is a namespace's own: its objective with the scores, and its three storages.
use Rattle.std.specs.Prelude.{◌≡◌, true, false, Some, None}
use Rattle.mc_cmd.specs.Form.{Text}
use Rattle.mc_cmd.specs.World.{World}
use Rattle.mc_cmd.specs.Pack.{Pack}
use Rattle.mc_cmd.specs.Chain.{Texts}
use Rattle.mc_cmd.specs.Tidy.{own_objective, own_storage, own_function, Tidy}
use Rattle.mc_together.specs.Bare.{bare_in}

-- two worlds have the same part under a namespace
pub record SamePart (ns : Text) (w v : World) : Type 0 where
  pub objective : (o : Text) → own_objective ns o ≡ true → w.objectives o ≡ v.objectives o
  pub scores : (h o : Text) → own_objective ns o ≡ true → w.scores h o ≡ v.scores h o
  pub storages : (i : Text) → own_storage ns i ≡ true → w.storages i ≡ v.storages i

-- no string stands in the storages of a namespace
abbrev pub Bare : Text → World → Type 0
Bare ns w = (i : Text) → own_storage ns i ≡ true → bare_in (w.storages i) ≡ true

-- a pack whose functions stand in its namespace, and whose lines are tidy there
pub record IsTidyPack (p : Pack) : Type 0 where
  pub inside : (f : Text) → own_function p.index.ns f ≡ false → p.functions f ≡ None
  pub tidy : (f : Text) (ts : Texts) → p.functions f ≡ Some ts → Tidy p.index.ns ts
