-- What paths select, and what may stand in a storage.
use Rattle.std.proofs.Common.{◌≡◌, List, [], ◌∷◌, true, Option, Some, None, refl, sym, ap, ◌∙◌, arith}
use Rattle.std.specs.Prelude.{nat_le, option_and_then, unwrap_or}
use Rattle.mc_nbt.specs.Path.{is_path}
use Rattle.mc_nbt.specs.Shape.{is_tree, is_shaped}
use Rattle.mc_nbt.specs.Tree.{Tree, compound, no_fields, Part, key, place, child, select, depth}
use Rattle.mc_nbt.proofs.DepthLaws.{set_depth_least}
use Rattle.mc_nbt.proofs.ShapeLaws.{child_shaped}
use Rattle.mc_nbt.proofs.TreeLemmas.{set_at_same}
use Rattle.std.proofs.lemmas.Bool.Decides.{nat_tests}
use Rattle.mc_cmd.proofs.FormLemmas.{and_first, and_second, and_both}
use Rattle.mc_world.specs.steps.Trees.{is_stored}

-- a path selects nothing in the compound without keys
pub nothing_selected : (ps : List Part) → is_path ps ≡ true → select (compound no_fields) ps ≡ None
unfolding is_path
nothing_selected [] h = absurd cc
nothing_selected (key k ∷ ps) h = refl
nothing_selected (place i ∷ ps) h = refl

-- what a path selects has the shape of trees
select_shaped : (ps : List Part) (t u : Tree) → select t ps ≡ Some u → is_shaped t ≡ true → is_shaped u ≡ true
select_shaped [] t u h s = let e : t ≡ u = cc in ap is_shaped (sym e) ∙ s
select_shaped (p ∷ ps) t u h s = go (child t p) refl h (λ v. select_shaped ps v u)
  where
    go : (o : Option Tree) → child t p ≡ o → option_and_then (λ v. select v ps) o ≡ Some u → ((v : Tree) → select v ps ≡ Some u → is_shaped v ≡ true → is_shaped u ≡ true) → is_shaped u ≡ true
    go None e h ih = absurd cc
    go (Some v) e h ih = ih v h (child_shaped t p v e s)

select_within : (ps : List Part) (t u : Tree) → select t ps ≡ Some u → nat_le (depth t) 64 ≡ true → nat_le (depth u) 64 ≡ true
select_within [] t u h s = let e : t ≡ u = cc in ap (λ v. nat_le (depth v) 64) (sym e) ∙ s
select_within (p ∷ ps) t u h s =
    let d = set_depth_least p ps u t t (set_at_same p ps u t h) in
    grind (arith, nat_tests)

-- what a path selects in a storage may stand in one
pub select_is_stored : (ps : List Part) (o : Option Tree) → is_stored o ≡ true → is_stored (select (unwrap_or o (compound no_fields)) ps) ≡ true
select_is_stored ps o h = go (select t ps) refl
  where
    t : Tree
    t = unwrap_or o (compound no_fields)

    whole : (q : Option Tree) → is_stored q ≡ true → is_tree (unwrap_or q (compound no_fields)) ≡ true
    whole None g = refl
    whole (Some u) g = g

    go : (q : Option Tree) → select t ps ≡ q → is_stored q ≡ true
    go None e = refl
    go (Some u) e = and_both _ _ (select_shaped ps t u e (and_first _ _ (whole o h))) (select_within ps t u e (and_second (is_shaped t) _ (whole o h)))
