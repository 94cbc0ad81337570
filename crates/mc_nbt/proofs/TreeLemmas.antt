-- Laws of trees: equality, and a `set` of what is there already.
use Rattle.std.proofs.Common.{◌≡◌, ℕ, zero, suc, ◌≤◌, List, [], ◌∷◌, length, Option, Some, None, Bool, true, false, refl, sym, ap, ◌∙◌}
use Rattle.std.specs.Prelude.{ℤ, pos, negsuc, if◌then◌else◌, unwrap_or, nat_eq, option_and_then, option_map, slice_get, slice_set}
use Rattle.std.specs.Str.{bytes_eq}
use Rattle.std.proofs.lemmas.Slice.Eq.{bytes_eq-Decides}
use Rattle.std.proofs.lemmas.Bool.Decides.{Decides-eqb}
use Rattle.std.proofs.lemmas.Bool.{le-leb, and_from}
use Rattle.mc_nbt.proofs.TestLemmas.{and_first, and_second}
use Rattle.mc_nbt.specs.Tree.{Tree, int, string, list, compound, Items, no_items, item, Fields, no_fields, field, Part, key, place, items, of_items, fields, of_fields, list_of, compound_of, find, replace, put, put_found, index_of, item_at, child, select, child_or, below, below_last, put_item, exchange, kind, is_of_kind, put_last, through, set_at, depth, int_same, tree_same, items_same, fields_same, is_already, within_depth, set}

-- a list of bytes equals itself
pub bytes_refl : (a : List ℕ) → bytes_eq a a ≡ true
bytes_refl a = (bytes_eq-Decides a a).1 refl

nat_eq_refl : (n : ℕ) → nat_eq n n ≡ true
nat_eq_refl n = (Decides-eqb n n).1 refl

-- items and fields are the same things as their plain lists
pub items-of_items : (ts : Items) → items (of_items ts) ≡ ts
items-of_items no_items = refl
items-of_items (item t ts) = ap (item t) (items-of_items ts)

pub fields-of_fields : (fs : Fields) → fields (of_fields fs) ≡ fs
fields-of_fields no_fields = refl
fields-of_fields (field k t fs) = ap (field k t) (fields-of_fields fs)

pub of_items-items : (ts : List Tree) → of_items (items ts) ≡ ts
of_items-items [] = refl
of_items-items (t ∷ ts) = ap (λ l. t ∷ l) (of_items-items ts)

pub of_fields-fields : (es : List (List ℕ × Tree)) → of_fields (fields es) ≡ es
of_fields-fields [] = refl
of_fields-fields (e ∷ es) = ap (λ l. e ∷ l) (of_fields-fields es)

-- what stands under a key, put there again
replace_same : (k : List ℕ) (v : Tree) (es : List (List ℕ × Tree)) → find k es ≡ Some v → replace k v es ≡ es
replace_same k v [] h = refl
replace_same k v (e ∷ es) h = go (bytes_eq k e.0) h (replace_same k v es)
  where
    go : (b : Bool) → (if b then Some e.1 else find k es) ≡ Some v → (find k es ≡ Some v → replace k v es ≡ es) → (if b then (e.0, v) ∷ es else e ∷ replace k v es) ≡ e ∷ es
    go true h ih = let g : v ≡ e.1 = cc in ap (λ w. (e.0, w) ∷ es) g
    go false h ih = ap (λ l. e ∷ l) (ih h)

put_same : (k : List ℕ) (v : Tree) (es : List (List ℕ × Tree)) → find k es ≡ Some v → put k v es ≡ es
put_same k v es h = ap (λ o. put_found o k v es) h ∙ replace_same k v es h

set_same_item : (ts : List Tree) (i : ℕ) (v : Tree) → slice_get ts i ≡ Some v → slice_set ts i v ≡ ts
set_same_item [] i v h = refl
set_same_item (t ∷ ts) zero v h = let g : v ≡ t = cc in ap (λ u. u ∷ ts) g
set_same_item (t ∷ ts) (suc i) v h = ap (λ l. t ∷ l) (set_same_item ts i v h)

put_item_same : (ts : List Tree) (i : ℤ) (v : Tree) → item_at ts i ≡ Some v → put_item ts i v ≡ Some (list_of ts)
put_item_same ts i v h = go (index_of (length ts) i) h
  where
    go : (o : Option ℕ) → option_and_then (slice_get ts) o ≡ Some v → option_map (λ k. list_of (slice_set ts k v)) o ≡ Some (list_of ts)
    go None h = cc
    go (Some k) h = ap (λ l. Some (list_of l)) (set_same_item ts k v h)

exchange_same : (t u : Tree) (p : Part) → child t p ≡ Some u → exchange t p u ≡ Some t
exchange_same (compound fs) u (key k) h = ap (λ es. Some (compound_of es)) (put_same k u (of_fields fs) h) ∙ ap (λ f. Some (compound f)) (fields-of_fields fs)
exchange_same (list ts) u (place i) h = put_item_same (of_items ts) i u h ∙ ap (λ l. Some (list l)) (items-of_items ts)
exchange_same (int z) u p h = cc
exchange_same (string s) u p h = cc
exchange_same (compound fs) u (place i) h = cc
exchange_same (list ts) u (key k) h = cc

put_last_same : (t u : Tree) (p : Part) → child t p ≡ Some u → put_last t p u ≡ Some t
put_last_same (compound fs) u (key k) h = exchange_same (compound fs) u (key k) h
put_last_same (list ts) u (place i) h =
    ap (λ o. if is_of_kind o u then put_item (of_items ts) i u else None) h
    ∙ ap (λ b. if b then put_item (of_items ts) i u else None) (nat_eq_refl (kind u))
    ∙ exchange_same (list ts) u (place i) h
put_last_same (int z) u p h = cc
put_last_same (string s) u p h = cc
put_last_same (compound fs) u (place i) h = cc
put_last_same (list ts) u (key k) h = cc

pub child_or_child : (new t u : Tree) (p : Part) → child t p ≡ Some u → child_or new t p ≡ Some u
child_or_child new (compound fs) u (key k) h = ap (λ o. Some (unwrap_or o new)) h
child_or_child new (list ts) u (place i) h = h
child_or_child new (int z) u p h = cc
child_or_child new (string s) u p h = cc
child_or_child new (compound fs) u (place i) h = cc
child_or_child new (list ts) u (key k) h = cc

pub below_child : (t u : Tree) (p : Part) → child t p ≡ Some u → below t p ≡ Some u
below_child = child_or_child (compound no_fields)

pub below_last_child : (t u : Tree) (p : Part) → child t p ≡ Some u → below_last t p ≡ Some u
below_last_child = child_or_child (list no_items)

pub select_last : (t v : Tree) (p : Part) → select t (p ∷ []) ≡ Some v → child t p ≡ Some v
select_last t v p h = go (child t p) h
  where
    go : (o : Option Tree) → option_and_then (λ u. select u []) o ≡ Some v → o ≡ Some v
    go None h = h
    go (Some u) h = h

-- a value set where it stands already leaves the tree as it is
pub set_at_same : (p : Part) (ps : List Part) (v t : Tree) → select t (p ∷ ps) ≡ Some v → set_at p ps v t ≡ Some t
set_at_same p [] v t h = put_last_same t v p (select_last t v p h)
set_at_same p (q ∷ ps) v t h = go (child t p) refl h (λ u. set_at_same q ps v u)
  where
    go : (o : Option Tree) → child t p ≡ o → option_and_then (λ u. select u (q ∷ ps)) o ≡ Some v → ((u : Tree) → select u (q ∷ ps) ≡ Some v → set_at q ps v u ≡ Some u) → set_at p (q ∷ ps) v t ≡ Some t
    go None e h ih = absurd cc
    go (Some u) e h ih =
        ap (through t p (set_at q ps v)) (below_child t u p e)
        ∙ ap (option_and_then (exchange t p)) (ih u h)
        ∙ exchange_same t u p e

-- equal trees are the same
int_same_sound : (a b : ℤ) → int_same a b ≡ true → a ≡ b
int_same_sound (pos a) (pos b) h = ap pos ((Decides-eqb a b).0 h)
int_same_sound (negsuc a) (negsuc b) h = ap negsuc ((Decides-eqb a b).0 h)
int_same_sound (pos a) (negsuc b) h = absurd cc
int_same_sound (negsuc a) (pos b) h = absurd cc

mutual
  pub tree_same_sound : (a b : Tree) → tree_same a b ≡ true → a ≡ b
  tree_same_sound (int a) (int b) h = ap int (int_same_sound a b h)
  tree_same_sound (string a) (string b) h = ap string ((bytes_eq-Decides a b).0 h)
  tree_same_sound (list as') (list bs) h = ap list (items_same_sound as' bs h)
  tree_same_sound (compound as') (compound bs) h = ap compound (fields_same_sound as' bs h)
  tree_same_sound (int a) (string b) h = absurd cc
  tree_same_sound (int a) (list b) h = absurd cc
  tree_same_sound (int a) (compound b) h = absurd cc
  tree_same_sound (string a) (int b) h = absurd cc
  tree_same_sound (string a) (list b) h = absurd cc
  tree_same_sound (string a) (compound b) h = absurd cc
  tree_same_sound (list a) (int b) h = absurd cc
  tree_same_sound (list a) (string b) h = absurd cc
  tree_same_sound (list a) (compound b) h = absurd cc
  tree_same_sound (compound a) (int b) h = absurd cc
  tree_same_sound (compound a) (string b) h = absurd cc
  tree_same_sound (compound a) (list b) h = absurd cc

  pub items_same_sound : (a b : Items) → items_same a b ≡ true → a ≡ b
  items_same_sound no_items no_items h = refl
  items_same_sound no_items (item b bs) h = absurd cc
  items_same_sound (item a as') no_items h = absurd cc
  items_same_sound (item a as') (item b bs) h =
      let first : a ≡ b = tree_same_sound a b (and_first _ _ h) in
      let others : as' ≡ bs = items_same_sound as' bs (and_second (tree_same a b) _ h) in
      cc

  fields_same_sound : (a b : Fields) → fields_same a b ≡ true → a ≡ b
  fields_same_sound no_fields no_fields h = refl
  fields_same_sound no_fields (field l b bs) h = absurd cc
  fields_same_sound (field k a as') no_fields h = absurd cc
  fields_same_sound (field k a as') (field l b bs) h =
      let keys : k ≡ l = (bytes_eq-Decides k l).0 (and_first _ _ h) in
      let g = and_second (bytes_eq k l) _ h in
      let first : a ≡ b = tree_same_sound a b (and_first _ _ g) in
      let others : as' ≡ bs = fields_same_sound as' bs (and_second (tree_same a b) _ g) in
      cc

int_same_refl : (a : ℤ) → int_same a a ≡ true
int_same_refl (pos a) = nat_eq_refl a
int_same_refl (negsuc a) = nat_eq_refl a

mutual
  pub tree_same_refl : (a : Tree) → tree_same a a ≡ true
  tree_same_refl (int a) = int_same_refl a
  tree_same_refl (string a) = bytes_refl a
  tree_same_refl (list as') = items_same_refl as'
  tree_same_refl (compound as') = fields_same_refl as'

  pub items_same_refl : (a : Items) → items_same a a ≡ true
  items_same_refl no_items = refl
  items_same_refl (item a as') = and_from _ _ (tree_same_refl a) (items_same_refl as')

  fields_same_refl : (a : Fields) → fields_same a a ≡ true
  fields_same_refl no_fields = refl
  fields_same_refl (field k a as') = and_from _ _ (bytes_refl k) (and_from _ _ (tree_same_refl a) (fields_same_refl as'))

-- Whether or not the command `set` fails because an equal tree stands there already, the tree that is
-- left is the one with the value at the path.
pub set_or_same : (p : Part) (ps : List Part) (v t t' : Tree) → set_at p ps v t ≡ Some t' → depth t' ≤ 64 → unwrap_or (set t (p ∷ ps) v) t ≡ t'
set_or_same p ps v t t' h shallow = go (select t (p ∷ ps)) refl
  where
    fits : option_and_then within_depth (set_at p ps v t) ≡ Some t'
    fits = ap (option_and_then within_depth) h ∙ ap (λ b. if b then Some t' else None) (le-leb (depth t') 64 shallow)

    choose : (b : Bool) → (b ≡ true → t ≡ t') → unwrap_or (if b then None else option_and_then within_depth (set_at p ps v t)) t ≡ t'
    choose true same = same refl
    choose false same = ap (λ o. unwrap_or o t) fits

    go : (o : Option Tree) → select t (p ∷ ps) ≡ o → unwrap_or (set t (p ∷ ps) v) t ≡ t'
    go None e = choose (is_already (select t (p ∷ ps)) v) (λ f. let g : is_already (select t (p ∷ ps)) v ≡ false = ap (λ o. is_already o v) e in absurd cc)
    go (Some u) e = choose (is_already (select t (p ∷ ps)) v) (λ f.
        let same : u ≡ v = tree_same_sound u v (sym (ap (λ o. is_already o v) e) ∙ f) in
        let found : select t (p ∷ ps) ≡ Some v = e ∙ ap Some same in
        let both : Some t ≡ Some t' = sym (set_at_same p ps v t found) ∙ h in
        cc)
