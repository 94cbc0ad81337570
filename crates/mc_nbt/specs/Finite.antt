-- A `BTreeMap` as the finite map that it stands for.
use Rattle.std.specs.Prelude.{◌≡◌, ◌∷◌, [], List, Some, refl}
use Rattle.std.proofs.Common.{◌∙◌, sym, ap, cond}
use Rattle.std.specs.declared.cmp.Ordering.{Ordering}
use Rattle.std.specs.Ordering.{eq_by_cmp}
use Rattle.std.specs.Map.{lookup}
use Rattle.std.specs.BTreeMap.{BTreeMap, Updates, is_at}
use Rattle.std.specs.Cmp.{IsTotalOrder}
use Rattle.std.proofs.lemmas.Cmp.{eq_by_cmp_equiv}
use Rattle.std.specs.BTreeMap as tree
use Rattle.std.specs.FinMap as map

module _ {K X : Type 0} (R : K → K → Ordering) where
  -- the finite map of a `BTreeMap`
  abbrev pub as_map : BTreeMap K X → map.FinMap R X
  as_map m = map.from_entries m.entries

  find-lookup : (es : List (K × X)) (q : K) → map.find R q es ≡ lookup (is_at (R q)) es
  find-lookup [] q = refl
  find-lookup (e ∷ es) q = ap (cond (eq_by_cmp R q e.0) (Some e.1)) (find-lookup es q)

module _ {K X : Type 0} {R : K → K → Ordering} (total : IsTotalOrder R) where
  -- what a look-up finds
  pub get-as_map : (m : BTreeMap K X) (q : K) → map.get (as_map R m) q ≡ tree.get R m q
  get-as_map m q = map.get-from_entries total m.entries q ∙ find-lookup R m.entries q

  -- what an insertion leaves
  pub as_map-insert :
      map.IsAntisymmetric R → (m n : BTreeMap K X) (k : K) (v : X)
      → Updates R m n k (Some v) → as_map R n ≡ map.insert (as_map R m) k v
  as_map-insert anti m n k v u =
      map.same_map total anti (as_map R n) (map.insert (as_map R m) k v) (λ q.
      get-as_map n q
      ∙ u.0 q
      ∙ ap (λ b. cond b (Some v) (tree.get R m q)) ((eq_by_cmp_equiv total).symm k q)
      ∙ ap (cond (eq_by_cmp R q k) (Some v)) (sym (get-as_map m q))
      ∙ sym (map.get-insert total (as_map R m) k v q))
