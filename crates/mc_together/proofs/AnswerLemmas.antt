-- What a pack answers is told from its part of the world.
use Rattle.std.proofs.Common.{◌≡◌, ℕ, zero, suc, [], ◌∷◌, Option, Some, None, refl, ap, ◌∙◌}
use Rattle.std.specs.Prelude.{pos, negsuc, codes}
use Rattle.mc_nbt.specs.Tree.{Tree, int, string, list, compound, key, select}
use Rattle.mc_cmd.specs.Form.{Text}
use Rattle.mc_cmd.specs.World.{World}
use Rattle.mc_cmd.specs.Layout.{io_of, memory_of, trap, dead, result_in, trap_in, io_value, answer_by, answer_in, answer, globals_in, globals, memory_in, memory}
use Rattle.mc_together.specs.Part.{SamePart}
use Rattle.mc_together.proofs.EffectLemmas.{tree_same}
use Rattle.mc_together.proofs.ApartLemmas.{io_storage, memory_storage}

module _ (ns : Text) (w v : World) (k : SamePart ns w v) where
  value_same : (x : Text) → io_value ns w x ≡ io_value ns v x
  value_same x = ap (λ t. select t (key x ∷ [])) (tree_same ns w v (io_of ns) k (io_storage ns))

  by_same : (n : ℕ) → answer_by ns w n ≡ answer_by ns v n
  by_same zero = refl
  by_same (suc zero) = refl
  by_same (suc (suc zero)) = ap result_in (value_same (codes "result"))
  by_same (suc (suc (suc zero))) = ap (trap_in trap) (value_same (codes "trap"))
  by_same (suc (suc (suc (suc zero)))) = ap (trap_in dead) (value_same (codes "trap"))
  by_same (suc (suc (suc (suc (suc n))))) = refl

  in_same : (o : Option Tree) → answer_in ns w o ≡ answer_in ns v o
  in_same None = refl
  in_same (Some (int (pos n))) = by_same n
  in_same (Some (int (negsuc n))) = refl
  in_same (Some (string s)) = refl
  in_same (Some (list ts)) = refl
  in_same (Some (compound fs)) = refl

  pub answer_same : answer ns w ≡ answer ns v
  answer_same = in_same (io_value ns w (codes "state")) ∙ ap (answer_in ns v) (value_same (codes "state"))

  pub memory_same : memory ns w ≡ memory ns v
  memory_same = ap (λ t. memory_in (select t (key (codes "mem") ∷ []))) (tree_same ns w v (memory_of ns) k (memory_storage ns))

  pub globals_same : globals ns w ≡ globals ns v
  globals_same = ap (λ t. globals_in (select t (key (codes "g") ∷ []))) (tree_same ns w v (memory_of ns) k (memory_storage ns))
