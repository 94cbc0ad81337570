use Rattle.std.proofs.Common.{◌≡◌, ◌<◌, List, [], ◌∷◌, length, true, arith, ap, ◌∙◌}
use Rattle.mc_nbt.specs.Path.{is_path}
use Rattle.mc_nbt.specs.View.{parts}
use Rattle.mc_nbt.specs.declared.path.PathPart.{PathPart}
use Rattle.mc_nbt.proofs.ChangeLemmas.{path_not_empty}
use Rattle.mc_nbt.proofs.path.Path.split.Goals as goal

pub unreachable-requires : goal.unreachable-requires
unreachable-requires c = go c.parts.result.now c.in-empty.len_below (ap (λ s. is_path (parts s)) c.parts.ensures.steps ∙ c.parts.ensures.path)
  where
    go : (s : List PathPart) → length s < 1 → is_path (parts s) ≡ true → ⊥
    go [] l p = path_not_empty p
    go (q ∷ qs) l p = absurd (omega arith)
