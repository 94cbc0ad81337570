-- Laws of the operations with a constant, which contracts of public functions cite.
use Rattle.std.specs.Prelude.{◌≡◌, ◌≤◌, ◌<◌, ℕ, List, [], ◌∷◌, length, ℤ, Option, Some, None, true}
use Rattle.std.specs.Int.{w32, cast_unsigned}
use Rattle.mc_nbt.specs.Word.{is_int}
use Rattle.mc_nbt.specs.declared.value.Value.TheVariants as values
use Rattle.wm_ast.specs.declared.answer.Answer.{Answer}
use Rattle.wm_ast.specs.declared.operation.NumOp.{NumOp}
use Rattle.wm_ast.specs.Apply.{apply}
use Rattle.cc_line.specs.Fit.{place_fits}
use Rattle.cc_line.specs.Item.{Items, items_fit, items_most}
use Rattle.cc_line.specs.Routine.{Performs, outcome_of}
use Rattle.cc_line.specs.State.{State, place_at}
use Rattle.cc_line.specs.Step.{Step}
use Rattle.cc_text.specs.Short.{items_short}
use Rattle.cc_text.specs.Tables.{ItemsNamed, NamedHelper}
use Rattle.cc_known.specs.Choice.{chosen_items}
use Rattle.cc_known.specs.Operation.{known_core, known_most}
use Rattle.cc_known.specs.Work.{steps_work}

-- an operand is what is known of it, if anything is
abbrev pub IsOperand : Option ℕ → ℤ → Type 0
IsOperand None z = Unit {0}
IsOperand (Some n) z = cast_unsigned w32 z ≡ n

-- whatever the operands are, the lines that are chosen make of them what the operation answers
abbrev pub ChosenPerform : Type 0
ChosenPerform =
    (op : NumOp) (first second : Option ℕ) (a b r : ℕ) (xs : Items) → chosen_items op first second a b r ≡ Some xs
    → (s : State) (x y : ℤ) (o : Answer) → a < length s.places → b < length s.places → r < length s.places
    → place_at s a ≡ x → place_at s b ≡ y → is_int x ≡ true → is_int y ≡ true → IsOperand first x
    → IsOperand second y → apply op (values.I32 x ∷ (values.I32 y ∷ [])) ≡ Some o → Performs xs s r (outcome_of o)

-- on places below 2^31 they are lines under every namespace
abbrev pub ChosenFit : Type 0
ChosenFit =
    (op : NumOp) (first second : Option ℕ) (a b r : ℕ) (xs : Items) → chosen_items op first second a b r ≡ Some xs
    → place_fits a ≡ true → place_fits b ≡ true → place_fits r ≡ true → items_fit xs ≡ true

abbrev pub ChosenWeigh : Type 0
ChosenWeigh =
    (op : NumOp) (first second : Option ℕ) (a b r : ℕ) (xs : Items) → chosen_items op first second a b r ≡ Some xs
    → items_most xs ≤ known_most op

abbrev pub ChosenShort : Type 0
ChosenShort =
    (op : NumOp) (first second : Option ℕ) (a b r : ℕ) (xs : Items) → chosen_items op first second a b r ≡ Some xs
    → items_short xs ≡ true

-- they call no helper
abbrev pub ChosenNamed : Type 0
ChosenNamed =
    (names : List NamedHelper) (op : NumOp) (first second : Option ℕ) (a b r : ℕ) (xs : Items)
    → chosen_items op first second a b r ≡ Some xs → ItemsNamed names xs

-- the steps of each operation write to working scores and read no others
abbrev pub CoresWork : Type 0
CoresWork = (op : NumOp) (n : ℕ) (core : List Step) → known_core op n ≡ Some core → steps_work core ≡ true
