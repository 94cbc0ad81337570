-- What a change of one tree is in a world.
use Rattle.std.proofs.Common.{◌≡◌, false, Option, Some, sym, ap, ◌∙◌}
use Rattle.std.specs.Prelude.{if◌then◌else◌, is_some, unwrap_or}
use Rattle.mc_nbt.specs.declared.edit.Changed.{Changed}
use Rattle.mc_nbt.specs.declared.edit.Changed.TheVariants as made
use Rattle.mc_nbt.specs.Change.{IsChanged}
use Rattle.mc_nbt.specs.Tree.{Tree, compound, no_fields}
use Rattle.mc_cmd.specs.Form.{Text}
use Rattle.mc_cmd.specs.World.{World, fails, leaves, stored, tree_in, with_storage}
use Rattle.mc_cmd.proofs.WorldLemmas.{tree_here, with_storage-same}
use Rattle.mc_world.specs.declared.outcome.Outcome.{Outcome}
use Rattle.mc_world.specs.steps.Changing.{is_made}
use Rattle.mc_world.specs.WorldView.{told}
use Rattle.mc_world.proofs.WorldViewLemmas.{none_here}

-- a change of the tree that stands in a storage
pub changed_there : (c : Changed) (w v : World) (i : Text) (old new : Tree) (target : Tree → Option Tree) (o : Outcome) → w.storages i ≡ Some old → v ≡ with_storage w i new
    → IsChanged c old new (target old) → told o v ≡ (if is_made c then leaves v else fails v) → told o v ≡ stored w i (target (tree_in w i))
changed_there made.Yes w v i old new target o h e c t = t ∙ ap leaves e ∙ sym (ap (λ u. stored w i (target u)) (tree_here w i old h) ∙ ap (stored w i) c)
changed_there made.No w v i old new target o h e c t =
    t ∙ ap fails (e ∙ ap (with_storage w i) c.1 ∙ with_storage-same w i old h)
    ∙ sym (ap (λ u. stored w i (target u)) (tree_here w i old h) ∙ ap (stored w i) c.0)

-- what a storage holds that no command made
pub tree_missing : (w : World) (i : Text) → is_some (w.storages i) ≡ false → tree_in w i ≡ compound no_fields
tree_missing w i h = ap (λ q. unwrap_or q (compound no_fields)) (none_here (w.storages i) h)

-- a change that makes a storage, and one that fails to
pub changed_new : (c : Changed) (w v : World) (i : Text) (old new : Tree) (target : Tree → Option Tree) (o : Outcome) → is_some (w.storages i) ≡ false → old ≡ compound no_fields → c ≡ made.Yes
    → IsChanged c old new (target old) → v ≡ with_storage w i new → told o v ≡ leaves v → told o v ≡ stored w i (target (tree_in w i))
changed_new made.Yes w v i old new target o h e y c s t =
    t ∙ ap leaves s ∙ sym (ap (λ u. stored w i (target u)) (tree_missing w i h ∙ sym e) ∙ ap (stored w i) c)
changed_new made.No w v i old new target o h e y c s t = absurd cc

pub unchanged_new : (c : Changed) (w : World) (i : Text) (old new : Tree) (target : Tree → Option Tree) (o : Outcome) → is_some (w.storages i) ≡ false → old ≡ compound no_fields → c ≡ made.No
    → IsChanged c old new (target old) → told o w ≡ fails w → told o w ≡ stored w i (target (tree_in w i))
unchanged_new made.Yes w i old new target o h e n c t = absurd cc
unchanged_new made.No w i old new target o h e n c t = t ∙ sym (ap (λ u. stored w i (target u)) (tree_missing w i h ∙ sym e) ∙ ap (stored w i) c.0)

-- a storage put back with the tree that stood there
pub put_back_there : (w v : World) (i : Text) (old new : Tree) → w.storages i ≡ Some old → v ≡ with_storage w i new → new ≡ old → v ≡ w
put_back_there w v i old new h e same = e ∙ ap (with_storage w i) same ∙ with_storage-same w i old h
