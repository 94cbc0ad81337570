-- What a sink in memory took, and what each write leaves of it.
use Rattle.std.specs.Prelude.{ℕ, ◌++◌, List, [], Some, Result, Ok, Err, take, unwrap_or}
use Rattle.io_dev.specs.Faults.{rise}
use Rattle.io_dev.specs.Plan.{planned}
use Rattle.io_dev.specs.Sink.{SinkState}
use Rattle.io_dev.specs.declared.fails.Fail.{Fail}
use Rattle.io_dev.specs.declared.mem_sink.MemSink.{MemSink}
use Rattle.io_dev.specs.declared.answers.WriteAnswer.{WriteAnswer}
use Rattle.io_dev.specs.declared.answers.WriteAnswer.TheVariants as write

-- what was written, the calls that are to fail, the number of calls so far, and the faults
pub record State : Type 0 where
  pub written : List ℕ
  pub fails : List Fail
  pub calls : ℕ
  pub faults : ℕ

-- the state of a sink in memory
abbrev pub state_of : MemSink → State
state_of s = record { written = s.bytes.items; fails = s.plan.fails; calls = s.plan.calls; faults = s.faults }

-- the sink as every sink is seen: it tells what it took
abbrev pub sink_of : MemSink → SinkState
sink_of s = record { written = Some (state_of s).written; faults = (state_of s).faults }

-- nothing is written, with no call yet and no fault
abbrev pub first_state : List Fail → State
first_state fails = record { written = []; fails = fails; calls = 0; faults = 0 }

-- what a write leaves: the bytes at the end, or where it fails the planned prefix of them
abbrev pub after_write : {T : Type 0} → State → List ℕ → Result T WriteAnswer → State
after_write s bytes (Ok x) = record s { written = s.written ++ bytes; calls = rise s.calls }
after_write s bytes (Err write.Failed) =
    let prefix = take (unwrap_or (planned s.fails s.calls) 0) bytes in
    record s { written = s.written ++ prefix; calls = rise s.calls; faults = rise s.faults }
after_write s bytes (Err write.Memory) = record s { calls = rise s.calls }
