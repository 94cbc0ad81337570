-- Images of terms.
use Rattle.std.proofs.Common.{◌≡◌, ℕ, List, [], ◌∷◌, refl, ap, ◌∙◌}
use Rattle.mc_nbt.specs.declared.value.Value.{Value}
use Rattle.wm_ast.specs.Code.{Op, block, loop, if_else, call, call_indirect, global_get, global_set, const, Code, nil, cons}
use Rattle.wm_ast.specs.Configuration as one
use Rattle.wm_match.specs.Program.{Program}
use Rattle.wm_join.specs.Image.{image_item, image_items}
use Rattle.wm_join.specs.Joined.{renumbering}
use Rattle.wm_join.specs.LinkedConfiguration.{Items, empty, more, item_of, items_of, append, after_values}
use Rattle.wm_join.specs.Renumbered.{renumbered_op, renumbered}

module _ (p : Program) where
  item_is : (k : ℕ) (i : Op) → image_item p k (item_of i) ≡ one.item_of (renumbered_op (renumbering p k) i)
  item_is k (const v) = refl
  item_is k (block ty body) = refl
  item_is k (loop ty body) = refl
  item_is k (if_else ty first second) = refl
  item_is k (call f) = refl
  item_is k (call_indirect t) = refl
  item_is k (global_get x) = refl
  item_is k (global_set x) = refl
  item_is k _ = refl

  pub items_are : (k : ℕ) (c : Code) → image_items p k (items_of c) ≡ one.items_of (renumbered (renumbering p k) c)
  items_are k nil = refl
  items_are k (cons i is) =
      ap (λ (x : one.Item). one.more x (image_items p k (items_of is))) (item_is k i)
      ∙ ap (one.more (one.item_of (renumbered_op (renumbering p k) i))) (items_are k is)

  pub append_is : (k : ℕ) (is js : Items) → image_items p k (append is js) ≡ one.append (image_items p k is) (image_items p k js)
  append_is k empty js = refl
  append_is k (more i is) js = ap (one.more (image_item p k i)) (append_is k is js)

  pub after_is : (k : ℕ) (vs : List Value) (is : Items) → image_items p k (after_values vs is) ≡ one.after_values vs (image_items p k is)
  after_is k [] is = refl
  after_is k (v ∷ vs) is = after_is k vs (more _ is)
