-- A sink as contracts see it, and what a write to it answers and leaves.
use Rattle.std.specs.Prelude.{◌≡◌, ◌++◌, ℕ, List, take, Option, Result, Ok, Err}
use Rattle.std.specs.Option.{option_map}
use Rattle.io_dev.specs.Faults.{Rose}
use Rattle.io_dev.specs.declared.answers.WriteAnswer.{WriteAnswer}
use Rattle.io_dev.specs.declared.answers.WriteAnswer.TheVariants as write

-- a sink: the bytes that it took, where they are told, and how often a write failed
pub record SinkState : Type 0 where
  pub written : Option (List ℕ)
  pub faults : ℕ

-- the sink with these bytes at the end
abbrev pub append : SinkState → List ℕ → SinkState
append sink bytes = record sink { written = option_map (λ written. written ++ bytes) sink.written }

-- a write of these bytes failed: the count of these rose, and a prefix of the bytes was appended
pub record AppendFailed (before after : SinkState) (bytes : List ℕ) : Type 0 where
  pub counted : Rose before.faults after.faults
  pub left : (n : ℕ) × (after.written ≡ (append before (take n bytes)).written)

-- a prefix of these bytes was appended, and no write failed
abbrev pub IsPartlyAppended : SinkState → SinkState → List ℕ → Type 0
IsPartlyAppended before after bytes = (n : ℕ) × (after ≡ append before (take n bytes))

-- a write appended the bytes, or a prefix of them where it was refused; a fault is told just where its count rose
abbrev pub IsSinkWritten : SinkState → SinkState → List ℕ → Result (Unit {0}) WriteAnswer → Type 0
IsSinkWritten before after bytes (Ok done) = after ≡ append before bytes
IsSinkWritten before after bytes (Err write.Failed) = AppendFailed before after bytes
IsSinkWritten before after bytes (Err write.Memory) = IsPartlyAppended before after bytes
