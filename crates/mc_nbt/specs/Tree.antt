-- The trees of command storages (NBT), paths into them, and what `set`, `append` and `remove` at a path leave.
use Rattle.std.specs.Prelude.{ℕ, suc, ◌-◌, max, ℤ, pos, negsuc, List, [], ◌∷◌, ◌++◌, length, slice_get, slice_set}
use Rattle.std.specs.Prelude.{Bool, true, false, ◌&&◌, nat_lt, nat_le, nat_eq, if◌then◌else◌}
use Rattle.std.specs.Prelude.{Option, Some, None, option_map, option_and_then, unwrap_or}
use Rattle.std.specs.List.{remove as remove_item}
use Rattle.std.specs.Str.{bytes_eq}
use Rattle.std.specs.Ordering.{nat_cmp, is_lt}
use Rattle.std.specs.Cmp.Lexicographic.{slice_cmp}

mutual
  -- an int, a string by its bytes, a list or a compound
  pub data Tree : Type 0 where
    int : ℤ → Tree
    string : List ℕ → Tree
    list : Items → Tree
    compound : Fields → Tree

  -- the elements of a list
  pub data Items : Type 0 where
    no_items : Items
    item : Tree → Items → Items

  -- the keys of a compound with what stands under each
  pub data Fields : Type 0 where
    no_fields : Fields
    field : List ℕ → Tree → Fields → Fields

-- a step of a path: to a key of a compound, or to a place of a list
pub data Part : Type 0 where
  key : List ℕ → Part
  place : ℤ → Part

-- the elements as a plain list, and back
abbrev pub items : List Tree → Items
items [] = no_items
items (t ∷ ts) = item t (items ts)

abbrev pub of_items : Items → List Tree
of_items no_items = []
of_items (item t ts) = t ∷ of_items ts

-- the fields as a plain list, and back
abbrev pub fields : List (List ℕ × Tree) → Fields
fields [] = no_fields
fields (e ∷ es) = field e.0 e.1 (fields es)

abbrev pub of_fields : Fields → List (List ℕ × Tree)
of_fields no_fields = []
of_fields (field k t fs) = (k, t) ∷ of_fields fs

-- a list of these elements; a compound of these fields
abbrev pub list_of : List Tree → Tree
list_of ts = list (items ts)

abbrev pub compound_of : List (List ℕ × Tree) → Tree
compound_of es = compound (fields es)

-- what stands under a key
abbrev pub find : List ℕ → List (List ℕ × Tree) → Option Tree
find k [] = None
find k (e ∷ es) = if bytes_eq k e.0 then Some e.1 else find k es

-- the value under a key that stands there, exchanged
abbrev pub replace : List ℕ → Tree → List (List ℕ × Tree) → List (List ℕ × Tree)
replace k v [] = []
replace k v (e ∷ es) = if bytes_eq k e.0 then (e.0, v) ∷ es else e ∷ replace k v es

-- a new key, before the first greater one
abbrev pub insert : List ℕ → Tree → List (List ℕ × Tree) → List (List ℕ × Tree)
insert k v [] = (k, v) ∷ []
insert k v (e ∷ es) = if is_lt (slice_cmp nat_cmp k e.0) then (k, v) ∷ e ∷ es else e ∷ insert k v es

abbrev pub put_found : Option Tree → List ℕ → Tree → List (List ℕ × Tree) → List (List ℕ × Tree)
put_found None k v es = insert k v es
put_found (Some u) k v es = replace k v es

-- the fields with this value under this key
abbrev pub put : List ℕ → Tree → List (List ℕ × Tree) → List (List ℕ × Tree)
put k v es = put_found (find k es) k v es

-- the index that a place names in a list of n; a negative one counts from the end
abbrev pub index_of : ℕ → ℤ → Option ℕ
index_of n (pos i) = if nat_lt i n then Some i else None
index_of n (negsuc k) = if nat_lt k n then Some (n - suc k) else None

abbrev pub item_at : List Tree → ℤ → Option Tree
item_at ts i = option_and_then (slice_get ts) (index_of (length ts) i)

-- what one step of a path leads to
abbrev pub child : Tree → Part → Option Tree
child (compound fs) (key k) = find k (of_fields fs)
child (list ts) (place i) = item_at (of_items ts) i
child (int z) p = None
child (string s) p = None
child (compound fs) (place i) = None
child (list ts) (key k) = None

-- what a path selects
abbrev pub select : Tree → List Part → Option Tree
select t [] = Some t
select t (p ∷ ps) = option_and_then (λ u. select u ps) (child t p)

-- what a change goes on in: what is there, or this new tree under a missing key
abbrev pub child_or : Tree → Tree → Part → Option Tree
child_or new (compound fs) (key k) = Some (unwrap_or (find k (of_fields fs)) new)
child_or new (list ts) (place i) = item_at (of_items ts) i
child_or new (int z) p = None
child_or new (string s) p = None
child_or new (compound fs) (place i) = None
child_or new (list ts) (key k) = None

-- what a `set` goes on in: what is there, or a new compound under a missing key
abbrev pub below : Tree → Part → Option Tree
below t p = child_or (compound no_fields) t p

abbrev pub put_item : List Tree → ℤ → Tree → Option Tree
put_item ts i v = option_map (λ k. list_of (slice_set ts k v)) (index_of (length ts) i)

-- the tree with another child there
abbrev pub exchange : Tree → Part → Tree → Option Tree
exchange (compound fs) (key k) v = Some (compound_of (put k v (of_fields fs)))
exchange (list ts) (place i) v = put_item (of_items ts) i v
exchange (int z) p v = None
exchange (string s) p v = None
exchange (compound fs) (place i) v = None
exchange (list ts) (key k) v = None

-- which of the four kinds of tree
abbrev pub kind : Tree → ℕ
kind (int z) = 0
kind (string s) = 1
kind (list ts) = 2
kind (compound fs) = 3

abbrev pub is_of_kind : Option Tree → Tree → Bool
is_of_kind None v = false
is_of_kind (Some u) v = nat_eq (kind u) (kind v)

-- another element at a place; it has the kind of the one that stands there
abbrev pub put_in : List Tree → ℤ → Tree → Option Tree
put_in ts i v = if is_of_kind (item_at ts i) v then put_item ts i v else None

-- a `set` at the last step of a path
abbrev pub put_last : Tree → Part → Tree → Option Tree
put_last (compound fs) (key k) v = Some (compound_of (put k v (of_fields fs)))
put_last (list ts) (place i) v = put_in (of_items ts) i v
put_last (int z) p v = None
put_last (string s) p v = None
put_last (compound fs) (place i) v = None
put_last (list ts) (key k) v = None

-- one step of a path, round what is done below it
abbrev pub through : Tree → Part → (Tree → Option Tree) → Option Tree → Option Tree
through t p f o = option_and_then (λ u. option_and_then (exchange t p) (f u)) o

-- the tree with this one put back where something stands, at a path
abbrev pub put_back : Tree → List Part → Tree → Option Tree
put_back t [] v = Some v
put_back t (p ∷ ps) v = through t p (λ u. put_back u ps v) (child t p)

-- the tree with this value at a path, which is a part and the parts behind it
abbrev pub set_at : Part → List Part → Tree → Tree → Option Tree
set_at p [] v t = put_last t p v
set_at p (q ∷ ps) v t = through t p (set_at q ps v) (below t p)

abbrev mutual
  -- how deep a tree is: an int or a string is 1 deep, a list or a compound one more than its deepest part
  pub depth : Tree → ℕ
  depth (int z) = 1
  depth (string s) = 1
  depth (list ts) = suc (items_depth ts)
  depth (compound fs) = suc (fields_depth fs)

  pub items_depth : Items → ℕ
  items_depth no_items = 0
  items_depth (item t ts) = max (depth t) (items_depth ts)

  pub fields_depth : Fields → ℕ
  fields_depth no_fields = 0
  fields_depth (field k t fs) = max (depth t) (fields_depth fs)

-- whether two whole numbers are equal
abbrev pub int_same : ℤ → ℤ → Bool
int_same (pos a) (pos b) = nat_eq a b
int_same (pos a) (negsuc b) = false
int_same (negsuc a) (pos b) = false
int_same (negsuc a) (negsuc b) = nat_eq a b

abbrev mutual
  -- whether two trees are equal
  pub tree_same : Tree → Tree → Bool
  tree_same (int a) (int b) = int_same a b
  tree_same (string a) (string b) = bytes_eq a b
  tree_same (list as') (list bs) = items_same as' bs
  tree_same (compound as') (compound bs) = fields_same as' bs
  tree_same a b = false

  pub items_same : Items → Items → Bool
  items_same no_items no_items = true
  items_same (item a as') (item b bs) = tree_same a b && items_same as' bs
  items_same as' bs = false

  pub fields_same : Fields → Fields → Bool
  fields_same no_fields no_fields = true
  fields_same (field k a as') (field l b bs) = bytes_eq k l && (tree_same a b && fields_same as' bs)
  fields_same as' bs = false

abbrev pub is_already : Option Tree → Tree → Bool
is_already None v = false
is_already (Some t) v = tree_same t v

-- a tree is at most 64 deep
abbrev pub within_depth : Tree → Option Tree
within_depth t = if nat_le (depth t) 64 then Some t else None

-- the command `set`: the tree that it leaves, or none where it fails. It fails where the path leads
-- nowhere, where an equal tree stands there already, and where the new tree would be too deep.
abbrev pub set : Tree → List Part → Tree → Option Tree
set t [] v = None
set t (p ∷ ps) v = if is_already (select t (p ∷ ps)) v then None else option_and_then within_depth (set_at p ps v t)

-- the fields without a key
abbrev pub without : List ℕ → List (List ℕ × Tree) → List (List ℕ × Tree)
without k [] = []
without k (e ∷ es) = if bytes_eq k e.0 then es else e ∷ without k es

-- the elements without the one at a place
abbrev pub without_at : List Tree → ℤ → Option Tree
without_at ts i = option_map (λ k. list_of (remove_item ts k)) (index_of (length ts) i)

-- a `remove` at the last step of a path
abbrev pub leave_out : Tree → Part → Option Tree
leave_out (compound fs) (key k) = option_map (λ u. compound_of (without k (of_fields fs))) (find k (of_fields fs))
leave_out (list ts) (place i) = without_at (of_items ts) i
leave_out (int z) p = None
leave_out (string s) p = None
leave_out (compound fs) (place i) = None
leave_out (list ts) (key k) = None

-- the tree without what stands at a path
abbrev pub remove_at : Part → List Part → Tree → Option Tree
remove_at p [] t = leave_out t p
remove_at p (q ∷ ps) t = through t p (remove_at q ps) (child t p)

-- the command `remove`: the tree that it leaves, or none where it fails. It fails where the path selects nothing.
abbrev pub remove : Tree → List Part → Option Tree
remove t [] = None
remove t (p ∷ ps) = remove_at p ps t

-- one more element at the end; it has the kind of the first
abbrev pub add_item : List Tree → Tree → Option Tree
add_item [] v = Some (list_of (v ∷ []))
add_item (t ∷ ts) v = if nat_eq (kind t) (kind v) then Some (list_of ((t ∷ ts) ++ (v ∷ []))) else None

-- a list with one more element
abbrev pub add_to : Tree → Tree → Option Tree
add_to v (list ts) = add_item (of_items ts) v
add_to v (int z) = None
add_to v (string s) = None
add_to v (compound fs) = None

-- what an `append` adds to at its last step: what is there, or a new list under a missing key
abbrev pub below_last : Tree → Part → Option Tree
below_last t p = child_or (list no_items) t p

-- the tree with this value at the end of the list at a path
abbrev pub append_at : Part → List Part → Tree → Tree → Option Tree
append_at p [] v t = through t p (add_to v) (below_last t p)
append_at p (q ∷ ps) v t = through t p (append_at q ps v) (below t p)

-- the command `append`: the tree that it leaves, or none where it fails. It fails where the path leads nowhere,
-- where something other than a list stands there, where the value has another kind than the list's elements, and
-- where the new tree would be too deep.
abbrev pub append : Tree → List Part → Tree → Option Tree
append t [] v = None
append t (p ∷ ps) v = option_and_then within_depth (append_at p ps v t)
