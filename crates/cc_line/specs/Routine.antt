-- What routines make of numbers in places: numbers in the result's places, or a trap that ends the piece.
use Rattle.std.specs.Prelude.{◌≡◌, ℕ, suc, ◌+◌, ◌<◌, ◌≤◌, List, [], ◌∷◌, ◌++◌, length, ℤ, pos, Some, true, false}
use Rattle.std.specs.List.{list_all}
use Rattle.std.specs.Int.{w32, int_wrap}
use Rattle.std.specs.Str.{bytes_eq}
use Rattle.mc_nbt.specs.declared.value.Value.{Value}
use Rattle.mc_nbt.specs.declared.value.Value.TheVariants as values
use Rattle.mc_nbt.specs.Value.{is_value}
use Rattle.mc_nbt.specs.Word.{is_int}
use Rattle.mc_cmd.specs.Form.{Text}
use Rattle.mc_cmd.specs.Pack.{high_half}
use Rattle.wm_ast.specs.declared.answer.Answer.{Answer}
use Rattle.wm_ast.specs.declared.answer.Answer.TheVariants as answers
use Rattle.wm_ast.specs.declared.answer.TrapKind.{TrapKind}
use Rattle.wm_ast.specs.declared.answer.TrapKind.TheVariants as trap_kinds
use Rattle.wm_ast.specs.declared.operation.NumOp.{NumOp}
use Rattle.wm_ast.specs.Apply.{apply}
use Rattle.cc_line.specs.Sight.{Store}
use Rattle.cc_line.specs.Place.{scratch, is_scratch}
use Rattle.cc_line.specs.Key.{score_trap, is_work, is_work_key}
use Rattle.cc_line.specs.Standing.{Standing, takes_bytes}
use Rattle.cc_line.specs.State.{State, place_at}
use Rattle.cc_line.specs.Step.{set_spot, Cond, when, stop_when, flow}
use Rattle.cc_line.specs.Core.{Replaced}
use Rattle.cc_line.specs.Item.{Items, first, step_item, run_items, ItemsReady}

-- what an operation comes to on scores: numbers, or a trap by its number
pub data Outcome : Type 0 where
  gives : List ℤ → Outcome
  traps : ℕ → Outcome

-- items that lead on, with these numbers in the places from one on
pub record Gives (xs : Items) (s : State) (r : ℕ) (zs : List ℤ) : Type 0 where
  pub ready : ItemsReady xs s
  pub state : State
  pub used : ℕ
  pub ends : run_items xs s ≡ flow false state used
  pub replaced : Replaced s state r zs

-- items that record a trap and end their list, and leave all places as they were
pub record Traps (xs : Items) (s : State) (n : ℕ) : Type 0 where
  pub ready : ItemsReady xs s
  pub state : State
  pub used : ℕ
  pub ends : run_items xs s ≡ flow true state used
  pub recorded : state.scores score_trap ≡ Some (pos n)
  pub places : state.places ≡ s.places
  pub keys : (r : Store) (k : Text) → is_work_key r k ≡ false → state.keys r k ≡ s.keys r k
  pub scores : (h : Text) → is_scratch h ≡ true → is_work h ≡ false → bytes_eq score_trap h ≡ false
      → state.scores h ≡ s.scores h

abbrev pub Performs : Items → State → ℕ → Outcome → Type 0
Performs xs s r (gives zs) = Gives xs s r zs
Performs xs s r (traps n) = Traps xs s n

-- the ints of a value: an i32 is one, an i64 its low and its high half
abbrev pub value_ints : Value → List ℤ
value_ints (values.I32 z) = z ∷ []
value_ints (values.I64 z) = int_wrap w32 z ∷ (high_half z ∷ [])

-- the ints of values, the first one first
abbrev pub values_ints : List Value → List ℤ
values_ints [] = []
values_ints (v ∷ vs) = value_ints v ++ values_ints vs

-- the number of a trap in a pack
abbrev pub trap_number : TrapKind → ℕ
trap_number trap_kinds.Unreachable = 1
trap_number trap_kinds.DivideByZero = 2
trap_number trap_kinds.Overflow = 3
trap_number trap_kinds.OutOfBounds = 4
trap_number trap_kinds.UndefinedElement = 5
trap_number trap_kinds.UninitializedElement = 6
trap_number trap_kinds.TypeMismatch = 7
trap_number trap_kinds.StackExhausted = 8

-- where conditions hold a trap is recorded, and the list ends
abbrev pub trap_when : List Cond → TrapKind → Items → Items
trap_when cs k xs =
    first (step_item (when cs (set_spot (scratch score_trap) (pos (trap_number k)))))
    (first (step_item (stop_when cs))
    xs)

abbrev pub outcome_of : Answer → Outcome
outcome_of (answers.Value v) = gives (value_ints v)
outcome_of (answers.Trap k) = traps (trap_number k)

-- Items that do an operation of one i32 operand: whatever stands in its place, they make of it what the operation
-- answers.
abbrev pub PerformsOne : NumOp → Items → ℕ → ℕ → Type 0
PerformsOne op xs a r =
    (s : State) (x : ℤ) (o : Answer) → a < length s.places → r < length s.places → place_at s a ≡ x → is_int x ≡ true
    → apply op (values.I32 x ∷ []) ≡ Some o → Performs xs s r (outcome_of o)

-- the same of an operation of two
abbrev pub PerformsTwo : NumOp → Items → ℕ → ℕ → ℕ → Type 0
PerformsTwo op xs a b r =
    (s : State) (x y : ℤ) (o : Answer) → a < length s.places → b < length s.places → r < length s.places
    → place_at s a ≡ x → place_at s b ≡ y → is_int x ≡ true → is_int y ≡ true
    → apply op (values.I32 x ∷ (values.I32 y ∷ [])) ≡ Some o → Performs xs s r (outcome_of o)

-- the same where constants and tables stand
abbrev pub PerformsTwoStanding : NumOp → Items → ℕ → ℕ → ℕ → Type 0
PerformsTwoStanding op xs a b r =
    (s : State) (x y : ℤ) (o : Answer) → Standing (takes_bytes op) s → a < length s.places → b < length s.places
    → r < length s.places → place_at s a ≡ x → place_at s b ≡ y → is_int x ≡ true → is_int y ≡ true
    → apply op (values.I32 x ∷ (values.I32 y ∷ [])) ≡ Some o → Performs xs s r (outcome_of o)

-- ints in the places from one on
abbrev pub AreAt : State → ℕ → List ℤ → Type 0
AreAt s i [] = Unit {0}
AreAt s i (z ∷ zs) = (i < length s.places) × (place_at s i ≡ z) × AreAt s (suc i) zs

-- how many places an answer takes
abbrev pub answer_places : Answer → ℕ
answer_places (answers.Value v) = length (value_ints v)
answer_places (answers.Trap k) = 0

-- Items that do an operation whose operands stand from a place on, one behind the other: whatever they are, the items
-- make of them what the operation answers, from the same place on.
abbrev pub PerformsFrom : NumOp → Items → ℕ → Type 0
PerformsFrom op xs a =
    (s : State) (vs : List Value) (o : Answer) → list_all is_value vs ≡ true → AreAt s a (values_ints vs)
    → a + answer_places o ≤ length s.places → apply op vs ≡ Some o → Performs xs s a (outcome_of o)

-- the same where constants and tables stand
abbrev pub PerformsFromStanding : NumOp → Items → ℕ → Type 0
PerformsFromStanding op xs a =
    (s : State) (vs : List Value) (o : Answer) → Standing (takes_bytes op) s → list_all is_value vs ≡ true
    → AreAt s a (values_ints vs) → a + answer_places o ≤ length s.places → apply op vs ≡ Some o
    → Performs xs s a (outcome_of o)
