-- Why a module isn't valid or is too high, and what validating it answers.
use Rattle.std.specs.Prelude.{◌≡◌, ℕ, List, ◌++◌, codes, Result, Ok, Err}
use Rattle.std.specs.Fmt.{decimal}
use Rattle.wm_ast.specs.ItemWord.{item_word}
use Rattle.wm_ast.specs.declared.module.Module.{Module}
use Rattle.wm_valid.specs.declared.valid_fault.ValidFault.{ValidFault}
use Rattle.wm_valid.specs.declared.valid_fault.ValidFault.TheVariants as faults
use Rattle.wm_valid.specs.Checked.{IsTyped}
use Rattle.wm_valid.specs.Height.{IsFirstHigh}
use Rattle.wm_valid.specs.Typing.{IsFirstUntyped}
use Rattle.wm_valid.specs.Valid.{IsFirstInvalid, AllItemsValid, Valid}

-- the cause stands, and no other that is told before it; want of memory is no cause
abbrev pub IsCause : ValidFault → Module → Type 0
IsCause (faults.Item kind index) m = IsFirstInvalid m (record { item = kind; index = index })
IsCause (faults.Body n) m = AllItemsValid m × IsFirstUntyped m n
IsCause (faults.Height n found) m = Valid m × IsFirstHigh m n found
IsCause faults.Memory m = Unit {0}

-- What validating a module of the profile answers: the module itself where it is valid and low, or the module and why
-- not.
abbrev pub IsValidated : Module → Result Module (Module × ValidFault) → Type 0
IsValidated m (Ok n) = (n ≡ m) × IsTyped m
IsValidated m (Err e) = (e.0 ≡ m) × IsCause e.1 m

-- the line that tells of it
abbrev pub fault_line : ValidFault → List ℕ
fault_line (faults.Item kind index) = codes "invalid " ++ (item_word kind ++ (codes " " ++ decimal index))
fault_line (faults.Body n) = codes "invalid body " ++ decimal n
fault_line (faults.Height n found) = codes "height " ++ (decimal found ++ (codes " in function " ++ decimal n))
fault_line faults.Memory = codes "out of memory"
