-- Laws of accesses whose address may be known, which the contracts of public functions cite.
use Rattle.std.specs.Prelude.{◌≡◌, ◌≤◌, ◌<◌, ℕ, suc, ◌+◌, List, [], length, ℤ, Option, Some, None, Bool, true}
use Rattle.std.specs.Int.{w32, cast_unsigned}
use Rattle.mc_nbt.specs.declared.value.Value.{Value}
use Rattle.mc_nbt.specs.Value.{is_value}
use Rattle.wm_ast.specs.declared.operation.LoadOp.{LoadOp}
use Rattle.wm_ast.specs.declared.operation.StoreOp.{StoreOp}
use Rattle.wm_ast.specs.Operation.{load_kind, load_width}
use Rattle.wm_ast.specs.Simple.{address}
use Rattle.wm_ast.specs.Storage.{loaded, stored}
use Rattle.wm_ast.specs.Store.{items_at, overwritten}
use Rattle.cc_line.specs.Routine.{value_ints, AreAt}
use Rattle.cc_line.specs.State.{State, place_at}
use Rattle.cc_page.specs.Pages.{pages_bytes}
use Rattle.cc_mem.specs.Law.{Does, Faults, Before, AreLines}
use Rattle.cc_access.specs.Known.{loads_by, stores_by}
use Rattle.cc_access.specs.Law.{kind_places, load_most, store_most}

-- an operand is what is known of it, if anything is
abbrev pub IsOperand : Option ℕ → ℤ → Type 0
IsOperand None z = Unit {0}
IsOperand (Some n) z = cast_unsigned w32 z ≡ n

-- as `LoadsAreDone`, of a memory of at least so many pages
abbrev pub LoadsByAreDone : Type 0
LoadsByAreDone =
    (least : ℕ) (known : Option ℕ) (sure : Bool) (op : LoadOp) (a offset : ℕ) (ps : List (List ℕ)) (s : State)
    → Before sure a ps s → least ≤ length ps → IsOperand known (place_at s a)
    → a + kind_places (load_kind op) ≤ length s.places
    → ((bytes : List ℕ) → items_at (pages_bytes ps) (address (place_at s a) offset) (load_width op) ≡ Some bytes
    → Does (loads_by least known sure op a offset) s a (value_ints (loaded op bytes)) ps)
    × (items_at (pages_bytes ps) (address (place_at s a) offset) (load_width op) ≡ None
    → Faults (loads_by least known sure op a offset) s ps)

-- as `StoresAreDone`, likewise
abbrev pub StoresByAreDone : Type 0
StoresByAreDone =
    (least : ℕ) (known : Option ℕ) (sure : Bool) (op : StoreOp) (a offset : ℕ) (ps : List (List ℕ)) (s : State)
    (v : Value) (bytes : List ℕ) → Before sure a ps s → least ≤ length ps → IsOperand known (place_at s a)
    → is_value v ≡ true → AreAt s (suc a) (value_ints v) → stored op v ≡ Some bytes
    → (address (place_at s a) offset + length bytes ≤ length (pages_bytes ps) → (qs : List (List ℕ))
    × (pages_bytes qs ≡ overwritten (pages_bytes ps) (address (place_at s a) offset) bytes)
    × Does (stores_by least known sure op a offset) s 0 [] qs)
    × (length (pages_bytes ps) < address (place_at s a) offset + length bytes
    → Faults (stores_by least known sure op a offset) s ps)

-- they weigh no more than where nothing is known
abbrev pub LoadsByAreLines : Type 0
LoadsByAreLines = (least : ℕ) (known : Option ℕ) (sure : Bool) (op : LoadOp) (a offset : ℕ) → a + 1 < 2147483648
    → AreLines (loads_by least known sure op a offset) (load_most op)

abbrev pub StoresByAreLines : Type 0
StoresByAreLines = (least : ℕ) (known : Option ℕ) (sure : Bool) (op : StoreOp) (a offset : ℕ) → a + 2 < 2147483648
    → AreLines (stores_by least known sure op a offset) (store_most op)
