-- The public layout of a running pack: where it answers, what its answer is, and where its globals and its memory lie.
use Rattle.std.specs.Prelude.{ℕ, zero, suc, ◌-◌, ◌/◌, ◌%◌, ◌^◌, ℤ, pos, negsuc, ◌+ℤ◌, ◌*ℤ◌, List, [], ◌∷◌, ◌++◌}
use Rattle.std.specs.Prelude.{length, Option, Some, None, option_map, nat_lt, nat_eq, ◌&&◌, if◌then◌else◌, codes}
use Rattle.mc_nbt.specs.Tree.{Tree, Items, int, list, no_items, item, of_items, key, select}
use Rattle.mc_nbt.specs.declared.value.Value.{Value}
use Rattle.mc_nbt.specs.declared.value.Value.TheVariants as value
use Rattle.mc_cmd.specs.Form.{Text}
use Rattle.mc_cmd.specs.World.{World, tree_in}

-- the full name of a function or a storage
abbrev pub full_name : Text → Text → Text
full_name ns name = ns ++ (58 ∷ name)

-- the storage in which a pack answers; that of its memory and its globals; and that of all else that it keeps
abbrev pub io_of : Text → Text
io_of ns = full_name ns (codes "io")

abbrev pub memory_of : Text → Text
memory_of ns = full_name ns (codes "m")

abbrev pub rest_of : Text → Text
rest_of ns = full_name ns (codes "c")

-- new; running; done with no value or one; trapped, by the number of the trap; dead, since the start
-- function trapped
pub data Answer : Type 0 where
  new : Answer
  running : Answer
  done : Option Value → Answer
  trap : ℕ → Answer
  dead : ℕ → Answer

-- the unsigned number of the same 32 bits
abbrev pub unsigned_half : ℤ → ℤ
unsigned_half (pos n) = pos n
unsigned_half (negsuc n) = pos (2 ^ 32 - suc n)

-- the 64-bit number of a low and a high half
abbrev pub joined_halves : ℤ → ℤ → ℤ
joined_halves low high = (high *ℤ pos (2 ^ 32)) +ℤ unsigned_half low

-- a value is a list: of an i32, or of the low and the high half of an i64
abbrev pub value_in : Tree → Option Value
value_in (list (item (int z) no_items)) = Some (value.I32 z)
value_in (list (item (int low) (item (int high) no_items))) = Some (value.I64 (joined_halves low high))
value_in t = None

-- in state 2 the result is an empty list, or a value
abbrev pub result_in : Option Tree → Option Answer
result_in (Some (list no_items)) = Some (done None)
result_in (Some t) = option_map (λ v. done (Some v)) (value_in t)
result_in None = None

-- in the states 3 and 4 the trap is its number, from 1 to 8
abbrev pub trap_in : (ℕ → Answer) → Option Tree → Option Answer
trap_in how (Some (int (pos k))) = if nat_lt 0 k && nat_lt k 9 then Some (how k) else None
trap_in how o = None

abbrev pub io_value : Text → World → Text → Option Tree
io_value ns w k = select (tree_in w (io_of ns)) (key k ∷ [])

abbrev pub answer_by : Text → World → ℕ → Option Answer
answer_by ns w zero = Some new
answer_by ns w (suc zero) = Some running
answer_by ns w (suc (suc zero)) = result_in (io_value ns w (codes "result"))
answer_by ns w (suc (suc (suc zero))) = trap_in trap (io_value ns w (codes "trap"))
answer_by ns w (suc (suc (suc (suc zero)))) = trap_in dead (io_value ns w (codes "trap"))
answer_by ns w (suc (suc (suc (suc (suc n))))) = None

abbrev pub answer_in : Text → World → Option Tree → Option Answer
answer_in ns w (Some (int (pos n))) = answer_by ns w n
answer_in ns w o = None

-- what the pack of a namespace answers in a world, or none where that isn't of the layout
abbrev pub answer : Text → World → Option Answer
answer ns w = answer_in ns w (io_value ns w (codes "state"))

-- the lists that each gives, one behind the other, or none where one gives none
abbrev pub joined : {A : Type 0} → Option (List A) → Option (List A) → Option (List A)
joined (Some xs) (Some ys) = Some (xs ++ ys)
joined o p = None

abbrev pub global_in : Tree → Option (List Value)
global_in t = option_map (λ v. v ∷ []) (value_in t)

abbrev pub values_in : Items → Option (List Value)
values_in no_items = Some []
values_in (item t ts) = joined (global_in t) (values_in ts)

abbrev pub globals_in : Option Tree → Option (List Value)
globals_in (Some (list ts)) = values_in ts
globals_in o = None

-- the globals of the pack of a namespace, or none where what stands in `g` isn't a list of values
abbrev pub globals : Text → World → Option (List Value)
globals ns w = globals_in (select (tree_in w (memory_of ns)) (key (codes "g") ∷ []))

-- the words of a page of memory, each of 4 bytes
abbrev pub page_words : ℕ
page_words = 16384

-- the four bytes of a number below 2^32, the least significant one first
abbrev pub four_bytes : ℕ → List ℕ
four_bytes n = (n % 256) ∷ ((n / 256) % 256) ∷ ((n / 65536) % 256) ∷ ((n / 16777216) % 256) ∷ []

-- the bytes of a word that is kept as a signed number
abbrev pub word_in : Tree → Option (List ℕ)
word_in (int (pos n)) = Some (four_bytes n)
word_in (int (negsuc n)) = Some (four_bytes (2 ^ 32 - suc n))
word_in t = None

abbrev pub words_in : Items → Option (List ℕ)
words_in no_items = Some []
words_in (item t ts) = joined (word_in t) (words_in ts)

-- the bytes of a page, which has just its number of words
abbrev pub page_in : Tree → Option (List ℕ)
page_in (list ts) = if nat_eq (length (of_items ts)) page_words then words_in ts else None
page_in t = None

abbrev pub pages_in : Items → Option (List ℕ)
pages_in no_items = Some []
pages_in (item t ts) = joined (page_in t) (pages_in ts)

abbrev pub memory_in : Option Tree → Option (List ℕ)
memory_in (Some (list ts)) = pages_in ts
memory_in o = None

-- the bytes of the memory of the pack of a namespace, or none where what stands in `mem` isn't a list of pages of words
abbrev pub memory : Text → World → Option (List ℕ)
memory ns w = memory_in (select (tree_in w (memory_of ns)) (key (codes "mem") ∷ []))
