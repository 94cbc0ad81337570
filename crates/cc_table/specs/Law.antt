-- What looking numbers up leaves, which the contracts of public functions cite.
use Rattle.std.specs.Prelude.{◌≡◌, ◌≤◌, ◌<◌, ℕ, ◌+◌, List, ◌∷◌, [], ◌++◌, length, ℤ, pos, Some, true, false, codes}
use Rattle.std.specs.Prelude.{All}
use Rattle.std.specs.Int.{w32, cast_unsigned}
use Rattle.mc_nbt.specs.Word.{is_int}
use Rattle.mc_cmd.specs.Form.{Text}
use Rattle.wm_ast.specs.declared.answer.TrapKind.{TrapKind}
use Rattle.wm_ast.specs.declared.module.Module.{Module}
use Rattle.wm_ast.specs.Instance.{first_store}
use Rattle.wm_ast.specs.Step.{function, refused, target}
use Rattle.wm_ast.specs.Store as stores
use Rattle.wm_flat.specs.Program.{IsProgram}
use Rattle.cc_line.specs.Sight.{Store, in_rest}
use Rattle.cc_line.specs.Key.{key_choice, score_trap, is_work, is_work_key}
use Rattle.cc_line.specs.State.{State, place_at}
use Rattle.cc_line.specs.Step.{flow}
use Rattle.cc_line.specs.Item.{Items, run_items, items_fit, items_most, ItemsReady}
use Rattle.cc_line.specs.Routine.{Traps, trap_number}
use Rattle.cc_call.specs.Frames.{first_opening}
use Rattle.cc_table.specs.Look.{element_or, find_items, look_items}
use Rattle.cc_table.specs.Target.{target_items}

-- nothing differs but the scratch scores and the scratch keys of routines
pub record Nearby (s t : State) : Type 0 where
  pub places : t.places ≡ s.places
  pub keys : (r : Store) (k : Text) → is_work_key r k ≡ false → t.keys r k ≡ s.keys r k
  pub scores : (h : Text) → is_work h ≡ false → t.scores h ≡ s.scores h

-- items that lead on, with this number in `#c`
pub record Finds (xs : Items) (s : State) (z : ℤ) : Type 0 where
  pub ready : ItemsReady xs s
  pub state : State
  pub used : ℕ
  pub ends : run_items xs s ≡ flow false state used
  pub found : state.scores (codes "#c") ≡ Some z
  pub near : Nearby s state

-- ---- tables

-- The number in `#a` is looked up in a table of these elements and behind them this one. The index stays told: as long
-- as its compound stays, it is found in further tables of as many elements.
pub record Looks (zs : List ℤ) (z a : ℤ) (s : State) : Type 0 where
  pub finds : Finds (look_items zs z) s (element_or zs z (cast_unsigned w32 a))
  pub again : (ys : List ℤ) (y : ℤ) (t : State) → length ys ≡ length zs
      → t.keys in_rest key_choice ≡ finds.state.keys in_rest key_choice
      → Finds (find_items (ys ++ y ∷ [])) t (element_or ys y (cast_unsigned w32 a))

abbrev pub NumbersAreFound : Type 0
NumbersAreFound = (zs : List ℤ) (z a : ℤ) (s : State) → length zs < 2147483648 → s.scores (codes "#a") ≡ Some a
    → is_int a ≡ true → Looks zs z a s

-- ---- the module's table

-- An element is looked up by the index in a place. Where it leads to a function of the type, the index of the shared
-- piece with which this opens is in `#c`, and else its trap is recorded.
pub record TargetIsFound (m : Module) (st : stores.Store) (n i : ℕ) (z : ℤ) (s : State) : Type 0 where
  pub finds : (f : ℕ) → target m st n z ≡ function f → Finds (target_items m n i) s (pos (first_opening + f))
  pub traps : (k : TrapKind) → target m st n z ≡ refused k → Traps (target_items m n i) s (trap_number k)

-- the table is as it was in the first store
abbrev pub TargetsAreFound : Type 0
TargetsAreFound = (m : Module) → IsProgram m → (st : stores.Store) → st.table ≡ (first_store m).table → (n i : ℕ)
    (z : ℤ) (s : State) → is_int z ≡ true → i < length s.places → place_at s i ≡ z
    → s.scores score_trap ≡ Some (pos 0) → TargetIsFound m st n i z s

-- ---- lines

-- items that are lines under every namespace, and weigh at most so much
pub record AreLines (xs : Items) (most : ℕ) : Type 0 where
  pub fits : items_fit xs ≡ true
  pub weigh : items_most xs ≤ most

abbrev pub IsInt : ℤ → Type 0
IsInt z = is_int z ≡ true

-- of a table that a line can set
abbrev pub LooksAreLines : Type 0
LooksAreLines = (zs : List ℤ) (z : ℤ) → All IsInt (zs ++ z ∷ []) → length zs < 32768
    → AreLines (look_items zs z) 9 × AreLines (find_items (zs ++ z ∷ [])) 4

abbrev pub TargetsAreLines : Type 0
TargetsAreLines = (m : Module) → IsProgram m → (n i : ℕ) → n < 2147483648 → i < 2147483648
    → AreLines (target_items m n i) 15
