-- What a change of a tree leaves, step by step, and how the code's answers are seen.
use Rattle.std.specs.Prelude.{◌≡◌, ◌<◌, ℕ, zero, suc, List, [], ◌∷◌, length, map, slice_set}
use Rattle.std.specs.Prelude.{Option, Some, None, Bool, true, false, if◌then◌else◌, Result, Ok, Err}
use Rattle.std.specs.Str.{bytes_eq}
use Rattle.mc_nbt.specs.Word.{comes_before}
use Rattle.mc_nbt.specs.Tree.{Tree, int, string, list, compound, Part, key, place, list_of, compound_of}
use Rattle.mc_nbt.specs.Tree.{find, put, child, below, below_last, exchange}
use Rattle.mc_nbt.specs.View.{view, entry}
use Rattle.mc_nbt.specs.declared.tree.Nbt.{Nbt}
use Rattle.mc_nbt.specs.declared.memory.Memory.{Memory}
use Rattle.mc_nbt.specs.declared.edit.Changed.{Changed}
use Rattle.mc_nbt.specs.declared.edit.Changed.TheVariants as changed
use Rattle.mc_nbt.specs.declared.edit.Edited.{Edited}
use Rattle.mc_nbt.specs.declared.edit.Edited.TheVariants as edits
use Rattle.mc_nbt.specs.declared.edit.open.Opened.{Opened}
use Rattle.mc_nbt.specs.declared.edit.open.Opened.TheVariants as opens

-- a changed tree, or the tree as it was: where the change fails, and where memory is short
pub data Edit : Type 0 where
  made : Tree → Edit
  fails : Tree → Edit
  short : Tree → Edit

abbrev pub IsEdit : Edit → Tree → Option Tree → Type 0
IsEdit (made t) old target = target ≡ Some t
IsEdit (fails t) old target = (target ≡ None) × (t ≡ old)
IsEdit (short t) old target = t ≡ old

abbrev pub is_short : Edit → Bool
is_short (made t) = false
is_short (fails t) = false
is_short (short t) = true

abbrev pub edited : Edited → Edit
edited (edits.Made t) = made (view t)
edited (edits.Failed t) = fails (view t)
edited (edits.Short t) = short (view t)

-- the tree of a change is put back, with its answer
abbrev pub IsSettled : Edit → Result Changed Memory → Tree → Type 0
IsSettled (made t) (Ok c) new = (c ≡ changed.Yes) × (new ≡ t)
IsSettled (made t) (Err m) new = ⊥
IsSettled (fails t) (Ok c) new = (c ≡ changed.No) × (new ≡ t)
IsSettled (fails t) (Err m) new = ⊥
IsSettled (short t) (Ok c) new = ⊥
IsSettled (short t) (Err m) new = new ≡ t

abbrev pub edit_map : (Tree → Tree) → Edit → Edit
edit_map f (made t) = made (f t)
edit_map f (fails t) = fails (f t)
edit_map f (short t) = short (f t)

-- the value at an index of the fields
abbrev pub value_at : ℕ → List (List ℕ × Tree) → Option Tree
value_at i [] = None
value_at zero (e ∷ es) = Some e.1
value_at (suc i) (e ∷ es) = value_at i es

-- the fields with another value there
abbrev pub with_value : ℕ → Tree → List (List ℕ × Tree) → List (List ℕ × Tree)
with_value i v [] = []
with_value zero v (e ∷ es) = (e.0, v) ∷ es
with_value (suc i) v (e ∷ es) = e ∷ with_value i v es

-- the index at which a key stands
abbrev pub index_found : Bool → Option ℕ → Option ℕ
index_found true more = Some 0
index_found false None = None
index_found false (Some i) = Some (suc i)

abbrev pub index_of_key : List ℕ → List (List ℕ × Tree) → Option ℕ
index_of_key k [] = None
index_of_key k (e ∷ es) = index_found (bytes_eq k e.0) (index_of_key k es)

-- the index at which a new key goes
abbrev pub rank_of_key : List ℕ → List (List ℕ × Tree) → ℕ
rank_of_key k [] = 0
rank_of_key k (e ∷ es) = if comes_before k e.0 then 0 else suc (rank_of_key k es)

-- a compound or a list with another value at an index
abbrev pub field_put : List (List ℕ × Nbt) → ℕ → Tree → Tree
field_put es i v = compound_of (with_value i v (map entry es))

abbrev pub item_put : List Nbt → ℕ → Tree → Tree
item_put xs i v = list_of (slice_set (map view xs) i v)

abbrev pub is_leaf : Tree → Bool
is_leaf (int z) = true
is_leaf (string s) = true
is_leaf (list ts) = false
is_leaf (compound fs) = false

-- nothing, or a tree in which nothing can stand
abbrev pub is_closed : Option Tree → Bool
is_closed None = true
is_closed (Some u) = is_leaf u

-- a tree from which what stands at a step has been taken out: a tree in which nothing can be changed there; a
-- compound that lacks the key; or the rest and what was taken, where the rest with a value put in is the tree
-- with that value there
abbrev pub IsOpened : Opened → Tree → Part → Type 0
IsOpened (opens.Leaf t) old p =
    (view t ≡ old) × (is_closed (child old p) ≡ true)
    × (below old p ≡ child old p) × (below_last old p ≡ child old p)
IsOpened (opens.Missing es) old p =
    (k : List ℕ) × (p ≡ key k) × (old ≡ compound_of (map entry es.items)) × (find k (map entry es.items) ≡ None)
IsOpened (opens.Field es i c) old p =
    (child old p ≡ Some (view c)) × (below old p ≡ Some (view c)) × (below_last old p ≡ Some (view c))
    × ((v : Tree) → exchange old p v ≡ Some (field_put es.items i v))
    × (field_put es.items i (view c) ≡ old) × (i < length es.items)
IsOpened (opens.Item xs i c) old p =
    (child old p ≡ Some (view c)) × (below old p ≡ Some (view c)) × (below_last old p ≡ Some (view c))
    × ((v : Tree) → exchange old p v ≡ Some (item_put xs.items i v))
    × (item_put xs.items i (view c) ≡ old) × (i < length xs.items)

-- a new field, or no memory for it
abbrev pub AddsField : Edit → List (List ℕ × Tree) → List ℕ → Tree → Type 0
AddsField (made t) es k v = t ≡ compound_of (put k v es)
AddsField (fails t) es k v = ⊥
AddsField (short t) es k v = t ≡ compound_of es

-- a new field with what a change has made for it
abbrev pub AddsMade : Edit → List (List ℕ × Tree) → Part → Tree → Type 0
AddsMade e es (key k) v = AddsField e es k v
AddsMade e es (place i) v = ⊥

abbrev pub AddsDone : Edit → List (List ℕ × Tree) → Part → Edit → Type 0
AddsDone e es p (made v) = AddsMade e es p v
AddsDone e es p (fails v) = e ≡ fails (compound_of es)
AddsDone e es p (short v) = e ≡ short (compound_of es)
