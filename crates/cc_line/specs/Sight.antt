-- What a world shows of a namespace, as plain data; and the contract of lines.
use Rattle.std.specs.Prelude.{◌≡◌, ◌≤◌, ℕ, ℤ, Option, Some, Bool, true, false, ◌&&◌, if◌then◌else◌, codes}
use Rattle.std.specs.Str.{bytes_eq}
use Rattle.mc_nbt.specs.Tree.{Tree, compound, Fields, key, child, depth}
use Rattle.mc_cmd.specs.Form.{Text}
use Rattle.mc_cmd.specs.World.{World, tree_in}
use Rattle.mc_cmd.specs.Chain.{Texts, Functions}
use Rattle.mc_cmd.specs.Layout.{full_name}
use Rattle.mc_cmd.specs.steps.Straight.{Falls, Returns}

-- the three storages of a namespace: where it answers, its memory and globals, and all else
pub data Store : Type 0 where
  in_io : Store
  in_memory : Store
  in_rest : Store

abbrev pub store_name : Store → Text
store_name in_io = codes "io"
store_name in_memory = codes "m"
store_name in_rest = codes "c"

-- the name of a storage under a namespace
abbrev pub store_id : Text → Store → Text
store_id ns s = full_name ns (store_name s)

abbrev pub same_store : Store → Store → Bool
same_store in_io in_io = true
same_store in_memory in_memory = true
same_store in_rest in_rest = true
same_store s r = false

-- the scores of the namespace's objective by their holders, and what stands under each key of each storage
pub record Sight : Type 0 where
  pub scores : Text → Option ℤ
  pub keys : Store → Text → Option Tree

-- with this tree under this key
abbrev pub with_key : (Store → Text → Option Tree) → Store → Text → Tree → Store → Text → Option Tree
with_key keys s k t r j = if same_store s r && bytes_eq k j then Some t else keys r j

-- with this score
abbrev pub with_holder : (Text → Option ℤ) → Text → ℤ → Text → Option ℤ
with_holder scores h z j = if bytes_eq h j then Some z else scores j

-- a tree is a compound with these keys, and at most 64 deep
pub record HasKeys (t : Tree) (keys : Text → Option Tree) : Type 0 where
  pub fields : Fields
  pub is : t ≡ compound fields
  pub at : (k : Text) → child t (key k) ≡ keys k
  pub shallow : depth t ≤ 64

-- a world shows this under the namespace: its objective stands, and a storage that nobody wrote shows no key
pub record Shows (ns : Text) (w : World) (v : Sight) : Type 0 where
  pub objective : w.objectives ns ≡ true
  pub scores : (h : Text) → w.scores h ns ≡ v.scores h
  pub stores : (s : Store) → HasKeys (tree_in w (store_id ns s)) (v.keys s)

-- nothing outside the namespace differs
pub record SameOutside (ns : Text) (w w' : World) : Type 0 where
  pub objectives : (o : Text) → w'.objectives o ≡ w.objectives o
  pub scores : (h o : Text) → bytes_eq ns o ≡ false → w'.scores h o ≡ w.scores h o
  pub storages : (i : Text) → ((s : Store) → bytes_eq (store_id ns s) i ≡ false) → w'.storages i ≡ w.storages i
  pub rule : w'.rule ≡ w.rule

-- lines end their list, or are run to their end
abbrev pub Leaves : Functions → Bool → Texts → World → ℕ → World → Type 0
Leaves functions true ts w k w' = Returns functions ts w k w'
Leaves functions false ts w k w' = Falls functions ts w k w'

-- what lines do from one world: they leave a world that shows this, with at most so much weight
pub record Done (functions : Functions) (ns : Text) (ts : Texts) (w : World) (k : ℕ) (b : Bool) (u : Sight)
    : Type 0 where
  pub world : World
  pub weight : ℕ
  pub light : weight ≤ k
  pub leaves : Leaves functions b ts w weight world
  pub shows : Shows ns world u
  pub outside : SameOutside ns w world

-- The contract of lines: from each world that shows the one thing they lead to one that shows the other, with at most
-- so much weight, and nothing outside the namespace differs then. `b` tells whether they end their list.
pub record Does (functions : Functions) (ns : Text) (ts : Texts) (v : Sight) (k : ℕ) (b : Bool) (u : Sight)
    : Type 0 where
  pub by : (w : World) → Shows ns w v → Done functions ns ts w k b u
