-- Laws of accesses of all widths, which the contracts of public functions cite.
use Rattle.std.specs.Prelude.{◌≡◌, ◌≤◌, ◌<◌, ℕ, suc, ◌+◌, List, [], length, Some, None, Bool, true}
use Rattle.mc_nbt.specs.declared.value.Kind.{Kind}
use Rattle.mc_nbt.specs.declared.value.Kind.TheVariants as kinds
use Rattle.mc_nbt.specs.declared.value.Value.{Value}
use Rattle.mc_nbt.specs.Value.{is_value}
use Rattle.wm_ast.specs.declared.operation.LoadOp.{LoadOp}
use Rattle.wm_ast.specs.declared.operation.LoadOp.TheVariants.{I64Load, I64Load8S, I64Load8U, I64Load16S, I64Load16U}
use Rattle.wm_ast.specs.declared.operation.LoadOp.TheVariants.{I64Load32S, I64Load32U}
use Rattle.wm_ast.specs.declared.operation.StoreOp.{StoreOp}
use Rattle.wm_ast.specs.declared.operation.StoreOp.TheVariants.{I64Store}
use Rattle.wm_ast.specs.Operation.{load_kind, load_width}
use Rattle.wm_ast.specs.Simple.{address}
use Rattle.wm_ast.specs.Storage.{loaded, stored}
use Rattle.wm_ast.specs.Store.{items_at, overwritten}
use Rattle.cc_line.specs.Routine.{value_ints, AreAt}
use Rattle.cc_line.specs.State.{State, place_at}
use Rattle.cc_page.specs.Pages.{pages_bytes}
use Rattle.cc_mem.specs.Law.{Does, Faults, Before, AreLines}
use Rattle.cc_access.specs.Access.{load_items, store_items}

-- how many places a value of a type takes
abbrev pub kind_places : Kind → ℕ
kind_places kinds.I32 = 1
kind_places kinds.I64 = 2

-- ---- loads

-- The result of a load stands from the place of its address on: what the reduction makes of the bytes at the address,
-- where all of them lie within the memory; else the trap is recorded. There is room for the result.
abbrev pub LoadsAreDone : Type 0
LoadsAreDone = (sure : Bool) (op : LoadOp) (a offset : ℕ) (ps : List (List ℕ)) (s : State) → Before sure a ps s
    → a + kind_places (load_kind op) ≤ length s.places
    → ((bytes : List ℕ) → items_at (pages_bytes ps) (address (place_at s a) offset) (load_width op) ≡ Some bytes
    → Does (load_items sure op a offset) s a (value_ints (loaded op bytes)) ps)
    × (items_at (pages_bytes ps) (address (place_at s a) offset) (load_width op) ≡ None
    → Faults (load_items sure op a offset) s ps)

-- ---- stores

-- The bytes of a value, whose ints stand from the next place on, lie within the memory, and stand there then; or the
-- trap is recorded, and nothing is written.
abbrev pub StoresAreDone : Type 0
StoresAreDone =
    (sure : Bool) (op : StoreOp) (a offset : ℕ) (ps : List (List ℕ)) (s : State) (v : Value) (bytes : List ℕ)
    → Before sure a ps s → is_value v ≡ true → AreAt s (suc a) (value_ints v) → stored op v ≡ Some bytes
    → (address (place_at s a) offset + length bytes ≤ length (pages_bytes ps) → (qs : List (List ℕ))
    × (pages_bytes qs ≡ overwritten (pages_bytes ps) (address (place_at s a) offset) bytes)
    × Does (store_items sure op a offset) s 0 [] qs)
    × (length (pages_bytes ps) < address (place_at s a) offset + length bytes
    → Faults (store_items sure op a offset) s ps)

-- ---- lines and weights

-- the most that loads and stores weigh
abbrev pub load_most : LoadOp → ℕ
load_most I64Load = 180
load_most I64Load8S = 95
load_most I64Load16S = 95
load_most I64Load32S = 95
load_most I64Load8U = 91
load_most I64Load16U = 91
load_most I64Load32U = 91
load_most _ = 90

abbrev pub store_most : StoreOp → ℕ
store_most I64Store = 234
store_most _ = 117

abbrev pub LoadsAreLines : Type 0
LoadsAreLines = (sure : Bool) (op : LoadOp) (a offset : ℕ) → a + 1 < 2147483648
    → AreLines (load_items sure op a offset) (load_most op)

abbrev pub StoresAreLines : Type 0
StoresAreLines = (sure : Bool) (op : StoreOp) (a offset : ℕ) → a + 2 < 2147483648
    → AreLines (store_items sure op a offset) (store_most op)
