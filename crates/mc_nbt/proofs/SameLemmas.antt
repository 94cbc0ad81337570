-- Equality of trees: it holds both ways round, and lists and compounds of different sizes differ.
use Rattle.std.proofs.Common.{◌≡◌, ℕ, suc, List, [], ◌∷◌, length, Bool, true, false, refl, sym, ap, ◌∙◌}
use Rattle.std.specs.Prelude.{◌&&◌}
use Rattle.std.specs.Str.{bytes_eq}
use Rattle.mc_nbt.specs.Tree.{Tree, Items, items, fields, tree_same, items_same, fields_same}
use Rattle.mc_nbt.proofs.TreeLemmas.{items_same_sound, items_same_refl}

and_false : (a : Bool) → false ≡ a && false
and_false true = refl
and_false false = refl

pub items_differ : (ts us : List Tree) → (length ts ≡ length us → ⊥) → false ≡ items_same (items ts) (items us)
items_differ [] [] d = absurd (d refl)
items_differ [] (u ∷ us) d = refl
items_differ (t ∷ ts) [] d = refl
items_differ (t ∷ ts) (u ∷ us) d = and_false (tree_same t u) ∙ ap (λ b. tree_same t u && b) (items_differ ts us (λ e. d (ap suc e)))

pub fields_differ : (es gs : List (List ℕ × Tree)) → (length es ≡ length gs → ⊥) → false ≡ fields_same (fields es) (fields gs)
fields_differ [] [] d = absurd (d refl)
fields_differ [] (g ∷ gs) d = refl
fields_differ (e ∷ es) [] d = refl
fields_differ (e ∷ es) (g ∷ gs) d =
    and_false (bytes_eq e.0 g.0 && tree_same e.1 g.1) ∙ both (bytes_eq e.0 g.0) (tree_same e.1 g.1) (fields_same (fields es) (fields gs)) (fields_differ es gs (λ q. d (ap suc q)))
  where
    both : (a b c : Bool) → false ≡ c → (a && b) && false ≡ a && (b && c)
    both true true c h = h
    both true false c h = refl
    both false b c h = refl

-- of two equivalent tests both hold or neither does
equivalent : (a b : Bool) → (a ≡ true → b ≡ true) → (b ≡ true → a ≡ true) → a ≡ b
equivalent true b f g = sym (f refl)
equivalent false true f g = g refl
equivalent false false f g = refl

pub items_same_turned : (ts us : Items) → items_same ts us ≡ items_same us ts
items_same_turned ts us =
    equivalent (items_same ts us) (items_same us ts)
    (λ h. ap (λ v. items_same us v) (items_same_sound ts us h) ∙ items_same_refl us)
    (λ h. ap (λ v. items_same ts v) (items_same_sound us ts h) ∙ items_same_refl ts)
