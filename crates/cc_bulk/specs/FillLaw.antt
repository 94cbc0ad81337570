-- Laws of filling and copying, which the contracts of public functions cite.
use Rattle.std.specs.Prelude.{◌≡◌, ◌≤◌, ◌<◌, ℕ, suc, ◌+◌, ◌%◌, List, [], ◌∷◌, ◌++◌, length, ℤ, pos, Some, Bool, true}
use Rattle.std.specs.Prelude.{false}
use Rattle.std.specs.Prelude.{if◌then◌else◌, nat_le, slice_set, slice_index}
use Rattle.std.specs.Int.{w32, cast_unsigned}
use Rattle.mc_nbt.specs.Tree.{int}
use Rattle.mc_nbt.specs.Word.{is_int}
use Rattle.cc_line.specs.Sight.{in_rest, with_key}
use Rattle.cc_line.specs.Key.{key_entry, score_trap}
use Rattle.cc_line.specs.State.{State, place_at}
use Rattle.cc_line.specs.Step.{flow}
use Rattle.cc_line.specs.Item.{Items, run_items, ItemsReady}
use Rattle.cc_page.specs.Pages.{pages_bytes}
use Rattle.cc_mem.specs.Standing.{HasMemory}
use Rattle.cc_bulk.specs.Fill.{reach_items, fill_byte_items}
use Rattle.cc_bulk.specs.Copy.{copy_byte_items}
use Rattle.cc_mem.specs.Law.{Spares, Does, Faults, Before, AreLines}

-- ---- where bytes reach to

-- bytes from an address on that lie within the memory, and others, which trap
abbrev pub ReachesAreTested : Type 0
ReachesAreTested = (a n : ℕ) (ps : List (List ℕ)) (s : State) → Before false a ps s → n < length s.places
    → is_int (place_at s n) ≡ true
    → (cast_unsigned w32 (place_at s a) + cast_unsigned w32 (place_at s n) ≤ length (pages_bytes ps)
    → Does (reach_items a n) s 0 [] ps)
    × (length (pages_bytes ps) < cast_unsigned w32 (place_at s a) + cast_unsigned w32 (place_at s n)
    → Faults (reach_items a n) s ps)

-- ---- a byte

-- three operands stand in these places, one above the other, over others and under others
pub record Operands (p q r : ℕ) (under : List ℤ) (x y z : ℤ) (over : List ℤ) (s : State) : Type 0 where
  pub first : p ≡ length under
  pub second : q ≡ suc (length under)
  pub third : r ≡ suc (suc (length under))
  pub stand : s.places ≡ under ++ (x ∷ (y ∷ (z ∷ over)))

-- the memory stands, with a page where `sure` says so, and no trap is recorded
pub record Open (sure : Bool) (ps : List (List ℕ)) (s : State) : Type 0 where
  pub memory : HasMemory ps s
  pub a_page : sure ≡ true → 1 ≤ length ps
  pub trap : s.scores score_trap ≡ Some (pos 0)

-- Items that lead on from a state: these numbers are the places then, the memory has these pages, and no trap is
-- recorded. From this other state nothing else differs but what an access may change.
pub record Turns (xs : Items) (s other : State) (places : List ℤ) (qs : List (List ℕ)) : Type 0 where
  pub ready : ItemsReady xs s
  pub state : State
  pub used : ℕ
  pub ends : run_items xs s ≡ flow false state used
  pub is : state.places ≡ places
  pub trap : state.scores score_trap ≡ Some (pos 0)
  pub memory : HasMemory qs state
  pub spares : Spares other state

-- a byte is written, as by a step of the reduction
abbrev pub FillsGoOn : Type 0
FillsGoOn = (sure : Bool) (p q r : ℕ) (ps : List (List ℕ)) (s : State) (under over : List ℤ) (to others : ℕ) (y : ℤ)
    → Open sure ps s → Operands p q r under (pos to) y (pos (suc others)) over s → is_int y ≡ true
    → to + suc others ≤ length (pages_bytes ps)
    → (qs : List (List ℕ)) × (pages_bytes qs ≡ slice_set (pages_bytes ps) to (cast_unsigned w32 y % 256))
    × Turns (fill_byte_items sure p q r) s s (under ++ (pos (suc to) ∷ (y ∷ (pos others ∷ over)))) qs

-- the count is under a key meanwhile
abbrev pub counting : State → ℕ → State
counting s n = record s { keys = with_key s.keys in_rest key_entry (int (pos n)) }

-- Bytes that go up are copied from the last one on, which has as many others before it, and
-- others from the first one on.
abbrev pub turn_at : Bool → ℕ → ℕ → ℕ
turn_at down place others = if down then place else place + others

-- where the others begin
abbrev pub next_at : Bool → ℕ → ℕ
next_at down place = if down then suc place else place

-- a byte is copied, as by a step of the reduction
abbrev pub CopiesGoOn : Type 0
CopiesGoOn = (sure : Bool) (p q r : ℕ) (ps : List (List ℕ)) (s : State) (under over : List ℤ) (to source others : ℕ)
    → Open sure ps s → Operands p q r under (pos to) (pos source) (pos (suc others)) over s
    → to + suc others ≤ length (pages_bytes ps) → source + suc others ≤ length (pages_bytes ps)
    → ((i : ℕ) → slice_index (pages_bytes ps) i < 256)
    → (qs : List (List ℕ))
    × (pages_bytes qs
    ≡ slice_set (pages_bytes ps) (turn_at (nat_le to source) to others)
    (slice_index (pages_bytes ps) (turn_at (nat_le to source) source others)))
    × Turns (copy_byte_items sure p q r) s (counting s others)
    (under
    ++ (pos (next_at (nat_le to source) to) ∷ (pos (next_at (nat_le to source) source) ∷ (pos others ∷ over)))) qs

-- ---- lines

abbrev pub ReachesAreLines : Type 0
ReachesAreLines = (a n : ℕ) → a < 2147483648 → n < 2147483648 → AreLines (reach_items a n) 16

abbrev pub FillsAreLines : Type 0
FillsAreLines = (sure : Bool) (p q r : ℕ) → p < 2147483648 → q < 2147483648 → r < 2147483648
    → AreLines (fill_byte_items sure p q r) 75

abbrev pub CopiesAreLines : Type 0
CopiesAreLines = (sure : Bool) (p q r : ℕ) → p < 2147483648 → q < 2147483648 → r < 2147483648
    → AreLines (copy_byte_items sure p q r) 157
