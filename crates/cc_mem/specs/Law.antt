-- Laws of accesses to memory, which the contracts of public functions cite.
use Rattle.std.specs.Prelude.{◌≡◌, ◌≤◌, ◌<◌, ◌⊎◌, ℕ, ◌+◌, ◌*◌, List, [], ◌∷◌, length, ℤ, pos, Some, None, Bool, true}
use Rattle.std.specs.Prelude.{false, ◌||◌, if◌then◌else◌, nat_eq, codes}
use Rattle.std.specs.Str.{bytes_eq}
use Rattle.mc_nbt.specs.Word.{is_int}
use Rattle.mc_nbt.specs.declared.value.Value.TheVariants as values
use Rattle.mc_cmd.specs.Form.{Text}
use Rattle.wm_ast.specs.declared.operation.LoadOp.{LoadOp}
use Rattle.wm_ast.specs.declared.operation.LoadOp.TheVariants.{I32Load, I32Load8S, I32Load8U, I32Load16S, I32Load16U}
use Rattle.wm_ast.specs.declared.operation.StoreOp.{StoreOp}
use Rattle.wm_ast.specs.declared.operation.StoreOp.TheVariants.{I32Store, I32Store8, I32Store16}
use Rattle.wm_ast.specs.Operation.{load_width}
use Rattle.wm_ast.specs.Simple.{address}
use Rattle.wm_ast.specs.Storage.{loaded, stored}
use Rattle.wm_ast.specs.Store.{items_at, overwritten}
use Rattle.cc_line.specs.Sight.{Store, in_io, in_memory, in_rest}
use Rattle.cc_line.specs.Place.{score_places, is_scratch}
use Rattle.cc_line.specs.Key.{key_memory, key_filling, score_trap, is_work, is_work_key, score_window}
use Rattle.cc_line.specs.Routine.{value_ints}
use Rattle.cc_line.specs.State.{State, place_at, set_places}
use Rattle.cc_line.specs.Step.{flow}
use Rattle.cc_line.specs.Item.{Items, items_fit, items_most, run_items, ItemsReady}
use Rattle.mc_cmd.specs.Layout.{page_words}
use Rattle.cc_page.specs.Pages.{pages_bytes, byte_address}
use Rattle.cc_mem.specs.Standing.{filling_tree, HasMemory}
use Rattle.cc_mem.specs.Address.{bounds_trap, most_near, least_place, address_items}
use Rattle.cc_mem.specs.Load.{load_items}
use Rattle.cc_mem.specs.Size.{size_items}
use Rattle.cc_mem.specs.Store.{store_items}

-- ---- what accesses leave

-- the keys that an access may write: the memory, the window's compound, and those that anyone may
abbrev pub is_access_key : Store → Text → Bool
is_access_key in_io k = false
is_access_key in_memory k = bytes_eq key_memory k
is_access_key in_rest k = bytes_eq key_filling k || is_work_key in_rest k

-- all other keys, and all scores but places, scratch, the window's and the trap's, are as they were
pub record Spares (s t : State) : Type 0 where
  pub keys : (r : Store) (k : Text) → is_access_key r k ≡ false → t.keys r k ≡ s.keys r k
  pub scores : (h : Text) → is_scratch h ≡ true → is_work h ≡ false → bytes_eq score_trap h ≡ false
      → bytes_eq score_window h ≡ false → t.scores h ≡ s.scores h

-- items that lead on: these ints are in the places from one on, the memory has these pages, and no trap is recorded
pub record Does (xs : Items) (s : State) (r : ℕ) (zs : List ℤ) (qs : List (List ℕ)) : Type 0 where
  pub ready : ItemsReady xs s
  pub state : State
  pub used : ℕ
  pub ends : run_items xs s ≡ flow false state used
  pub places : state.places ≡ set_places s.places r zs
  pub trap : state.scores score_trap ≡ Some (pos 0)
  pub memory : HasMemory qs state
  pub spares : Spares s state

-- items that record the trap of an access out of bounds and end their list; the memory is as it was
pub record Faults (xs : Items) (s : State) (ps : List (List ℕ)) : Type 0 where
  pub ready : ItemsReady xs s
  pub state : State
  pub used : ℕ
  pub ends : run_items xs s ≡ flow true state used
  pub trap : state.scores score_trap ≡ Some (pos bounds_trap)
  pub memory : HasMemory ps state
  pub spares : Spares s state

-- what is asked of a state before an access: the memory stands, with a page where `sure` says so, no trap is recorded,
-- and an int is in the place of the address
pub record Before (sure : Bool) (a : ℕ) (ps : List (List ℕ)) (s : State) : Type 0 where
  pub memory : HasMemory ps s
  pub a_page : sure ≡ true → 1 ≤ length ps
  pub trap : s.scores score_trap ≡ Some (pos 0)
  pub there : a < length s.places
  pub int : is_int (place_at s a) ≡ true

-- ---- addresses

-- A state from which an access goes on: `#i` and `#r` have place and byte of the address in the window. No trap is
-- recorded, and the places are as they were.
pub record Found (ps : List (List ℕ)) (address : ℕ) (s t : State) : Type 0 where
  pub page : ℕ
  pub place : ℕ
  pub byte : ℕ
  pub within : (page < length ps) × (place < page_words) × (byte < 4)
  pub is : byte_address page place byte ≡ address
  pub at_place : t.scores (codes "#i") ≡ Some (pos place)
  pub at_byte : t.scores (codes "#r") ≡ Some (pos byte)
  pub filling : (y : ℤ) × (is_int y ≡ true) × (t.keys in_rest key_filling ≡ Some (filling_tree page (pos place) y))
  pub trap : t.scores score_trap ≡ Some (pos 0)
  pub places : t.places ≡ s.places
  pub memory : HasMemory ps t
  pub spares : Spares s t

-- the trap is recorded, and the list has ended, or goes on with any place and byte
pub record Missed (ended : Bool) (ps : List (List ℕ)) (s t : State) : Type 0 where
  pub trap : t.scores score_trap ≡ Some (pos bounds_trap)
  pub goes_on : ended ≡ false → (place byte : ℕ) × (place < page_words) × (byte < 4)
      × (t.scores (codes "#i") ≡ Some (pos place)) × (t.scores (codes "#r") ≡ Some (pos byte))
  pub places : t.places ≡ s.places
  pub memory : HasMemory ps t
  pub spares : Spares s t

-- Where the byte at the address is within the memory, it is found; else the trap is recorded.
abbrev pub AddressesAreFound : Type 0
AddressesAreFound = (sure : Bool) (a offset : ℕ) (ps : List (List ℕ)) (s : State) → Before sure a ps s
    → ItemsReady (address_items sure a offset) s
    × (address (place_at s a) offset < 65536 * length ps → (t : State) × (k : ℕ)
    × (run_items (address_items sure a offset) s ≡ flow false t k) × Found ps (address (place_at s a) offset) s t)
    × (65536 * length ps ≤ address (place_at s a) offset → (b : Bool) (t : State) (k : ℕ)
    → run_items (address_items sure a offset) s ≡ flow b t k → Missed b ps s t)

-- ---- loads

abbrev pub is_load : LoadOp → Bool
is_load I32Load = true
is_load I32Load8S = true
is_load I32Load8U = true
is_load I32Load16S = true
is_load I32Load16U = true
is_load _ = false

abbrev pub LoadsAreDone : Type 0
LoadsAreDone = (sure : Bool) (op : LoadOp) (a offset r : ℕ) (ps : List (List ℕ)) (s : State) → Before sure a ps s
    → is_load op ≡ true → r < length s.places
    → ((bytes : List ℕ) → items_at (pages_bytes ps) (address (place_at s a) offset) (load_width op) ≡ Some bytes
    → Does (load_items sure op a offset r) s r (value_ints (loaded op bytes)) ps)
    × (items_at (pages_bytes ps) (address (place_at s a) offset) (load_width op) ≡ None
    → Faults (load_items sure op a offset r) s ps)

-- ---- stores

abbrev pub is_store : StoreOp → Bool
is_store I32Store = true
is_store I32Store8 = true
is_store I32Store16 = true
is_store _ = false

-- the bytes of the value lie within the memory, and stand there then; or the trap is recorded, and nothing is written
abbrev pub StoresAreDone : Type 0
StoresAreDone = (sure : Bool) (op : StoreOp) (a offset v : ℕ) (ps : List (List ℕ)) (s : State) (bytes : List ℕ)
    → Before sure a ps s → is_store op ≡ true → v < length s.places → is_int (place_at s v) ≡ true
    → stored op (values.I32 (place_at s v)) ≡ Some bytes
    → (address (place_at s a) offset + length bytes ≤ length (pages_bytes ps) → (qs : List (List ℕ))
    × (pages_bytes qs ≡ overwritten (pages_bytes ps) (address (place_at s a) offset) bytes)
    × Does (store_items sure op a offset v) s 0 [] qs)
    × (length (pages_bytes ps) < address (place_at s a) offset + length bytes
    → Faults (store_items sure op a offset v) s ps)

-- ---- the size

abbrev pub SizesAreTold : Type 0
SizesAreTold = (r : ℕ) (ps : List (List ℕ)) (s : State) → HasMemory ps s → s.scores score_trap ≡ Some (pos 0)
    → r < length s.places → Does (size_items r) s r (pos (length ps) ∷ []) ps

-- ---- lines and weights

-- items that are lines under every namespace, and weigh at most so much
pub record AreLines (xs : Items) (most : ℕ) : Type 0 where
  pub fits : items_fit xs ≡ true
  pub weigh : items_most xs ≤ most

abbrev pub LoadsAreLines : Type 0
LoadsAreLines = (sure : Bool) (op : LoadOp) (a offset r : ℕ) → a < 2147483648 → r < 2147483648
    → AreLines (load_items sure op a offset r) 90

abbrev pub StoresAreLines : Type 0
StoresAreLines = (sure : Bool) (op : StoreOp) (a offset v : ℕ) → a < 2147483648 → v < 2147483648
    → AreLines (store_items sure op a offset v) 117

abbrev pub SizesAreLines : Type 0
SizesAreLines = (r : ℕ) → r < 2147483648 → AreLines (size_items r) 4

-- ---- what accesses to the window weigh

-- An access to the window from a place that is a score, with an offset that is near: its first byte lies in none of the
-- window's first words, as many as the offset may lead over.
pub record InWindow (a offset : ℕ) (ps : List (List ℕ)) (s : State) : Type 0 where
  pub before : Before true a ps s
  pub is_score : a < score_places
  pub near : offset ≤ most_near
  pub place : ℕ
  pub byte : ℕ
  pub within : (least_place offset ≤ place) × (place < page_words) × (byte < 4)
  pub is : address (place_at s a) offset ≡ byte_address before.memory.window.page place byte

-- an offset adds a line, unless it is 0
abbrev pub offset_weight : ℕ → ℕ
offset_weight offset = if nat_eq offset 0 then 0 else 1

-- a load and a store of a whole word, where value and result are scores
abbrev pub WordsWeigh : Type 0
WordsWeigh = (a offset : ℕ) (ps : List (List ℕ)) (s : State) → (w : InWindow a offset ps s) → w.byte ≡ 0
    → ((r : ℕ) → r < score_places → (run_items (load_items true I32Load a offset r) s).used ≡ 17 + offset_weight offset)
    × ((v : ℕ) → v < score_places
    → (run_items (store_items true I32Store a offset v) s).used ≡ 17 + offset_weight offset)

-- and of a byte
abbrev pub BytesWeigh : Type 0
BytesWeigh = (a offset : ℕ) (ps : List (List ℕ)) (s : State) → InWindow a offset ps s
    → ((op : LoadOp) (r : ℕ) → r < score_places → (op ≡ I32Load8S) ⊎ (op ≡ I32Load8U)
    → (run_items (load_items true op a offset r) s).used ≡ 19 + offset_weight offset)
    × ((v : ℕ) → v < score_places
    → (run_items (store_items true I32Store8 a offset v) s).used ≡ 29 + offset_weight offset)
