-- Which calls are planned to fail, and how an answer tells it.
use Rattle.std.specs.Prelude.{◌≡◌, ◌==◌, ℕ, List, Bool, true, false, Option, Result, Ok, Err, is_some, find}
use Rattle.std.specs.Option.{option_map}
use Rattle.io_dev.specs.declared.fails.Fail.{Fail}
use Rattle.io_dev.specs.declared.answers.ReadAnswer.{ReadAnswer}
use Rattle.io_dev.specs.declared.answers.ReadAnswer.TheVariants as read
use Rattle.io_dev.specs.declared.answers.NamesAnswer.{NamesAnswer}
use Rattle.io_dev.specs.declared.answers.NamesAnswer.TheVariants as names
use Rattle.io_dev.specs.declared.answers.WriteAnswer.{WriteAnswer}
use Rattle.io_dev.specs.declared.answers.WriteAnswer.TheVariants as write

-- the prefix of the first entry with this call, if there is one
abbrev pub planned : List Fail → ℕ → Option ℕ
planned fails call = option_map (λ fail. fail.prefix) (find (λ fail. fail.call == call) fails)

-- whether the call of this number is planned to fail
abbrev pub must_fail : List Fail → ℕ → Bool
must_fail fails call = is_some (planned fails call)

-- a read answers `Failed` just where it must, but for want of memory
abbrev pub ReadFailsIf : {T : Type 0} → Bool → Result T ReadAnswer → Type 0
ReadFailsIf must (Ok x) = must ≡ false
ReadFailsIf must (Err read.Failed) = must ≡ true
ReadFailsIf must (Err read.TooLong) = must ≡ false
ReadFailsIf must (Err read.Memory) = Unit {0}

-- a listing answers `Failed` just where it must, but for want of memory
abbrev pub NamesFailsIf : {T : Type 0} → Bool → Result T NamesAnswer → Type 0
NamesFailsIf must (Ok x) = must ≡ false
NamesFailsIf must (Err names.Failed) = must ≡ true
NamesFailsIf must (Err names.Memory) = Unit {0}

-- a write answers `Failed` just where it must, but for want of memory
abbrev pub WriteFailsIf : {T : Type 0} → Bool → Result T WriteAnswer → Type 0
WriteFailsIf must (Ok x) = must ≡ false
WriteFailsIf must (Err write.Failed) = must ≡ true
WriteFailsIf must (Err write.Memory) = Unit {0}
