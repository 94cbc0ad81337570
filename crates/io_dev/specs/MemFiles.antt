-- What files in memory hold, and what each call leaves of it.
use Rattle.std.specs.Prelude.{ℕ, ◌||◌, List, Bool, Option, Some, None, Result, Ok, Err, is_none, take, unwrap_or}
use Rattle.std.specs.Ordering.{nat_cmp}
use Rattle.std.specs.Cmp.Lexicographic.{slice_cmp}
use Rattle.std.specs.FinMap.{empty, get, insert}
use Rattle.mc_nbt.specs.Finite.{as_map}
use Rattle.io_dev.specs.Faults.{rise}
use Rattle.io_dev.specs.Files.{FilesState}
use Rattle.io_dev.specs.Folder.{Folder}
use Rattle.io_dev.specs.Plan.{must_fail, planned}
use Rattle.io_dev.specs.declared.fails.Fail.{Fail}
use Rattle.io_dev.specs.declared.mem_files.MemFiles.{MemFiles}
use Rattle.io_dev.specs.declared.answers.ReadAnswer.{ReadAnswer}
use Rattle.io_dev.specs.declared.answers.ReadAnswer.TheVariants as read
use Rattle.io_dev.specs.declared.answers.NamesAnswer.{NamesAnswer}
use Rattle.io_dev.specs.declared.answers.NamesAnswer.TheVariants as names
use Rattle.io_dev.specs.declared.answers.WriteAnswer.{WriteAnswer}
use Rattle.io_dev.specs.declared.answers.WriteAnswer.TheVariants as write

-- what the files hold, the calls that are to fail, the number of calls so far, and the faults
pub record State : Type 0 where
  pub folder : Folder
  pub fails : List Fail
  pub calls : ℕ
  pub read_faults : ℕ
  pub write_faults : ℕ
  pub last_failed : Option (List ℕ)

-- the state of files in memory
abbrev pub state_of : MemFiles → State
state_of m = record {
  folder = as_map (slice_cmp nat_cmp) m.files;
  fails = m.plan.fails;
  calls = m.plan.calls;
  read_faults = m.faults.reads;
  write_faults = m.faults.writes;
  last_failed = m.faults.last;
}

-- the files as all files are seen: they tell what they hold
abbrev pub files_of : MemFiles → FilesState
files_of m =
    let s = state_of m in
    record {
      content = Some s.folder;
      read_faults = s.read_faults;
      write_faults = s.write_faults;
      last_failed = s.last_failed;
    }

-- no file, no call yet and no fault
abbrev pub first_state : List Fail → State
first_state fails = record {
  folder = empty;
  fails = fails;
  calls = 0;
  read_faults = 0;
  write_faults = 0;
  last_failed = None;
}

-- the state with these bytes at this path
abbrev pub with_bytes : State → List ℕ → List ℕ → State
with_bytes s path bytes = record s { folder = insert s.folder path bytes }

-- the state after one more call
abbrev pub with_call : State → State
with_call s = record s { calls = rise s.calls }

-- the state after one more call, a read or a listing that failed
abbrev pub with_read_fault : State → List ℕ → State
with_read_fault s path = record s { calls = rise s.calls; read_faults = rise s.read_faults; last_failed = Some path }

-- the state after one more call, a write that failed and left this prefix of the bytes
abbrev pub with_write_fault : State → List ℕ → List ℕ → State
with_write_fault s path bytes =
    record (with_bytes s path bytes) {
      calls = rise s.calls;
      write_faults = rise s.write_faults;
      last_failed = Some path;
    }

-- whether the next call, a read of this path, must fail: it is planned to, or no file is there
abbrev pub must_fail_read : State → List ℕ → Bool
must_fail_read s path = must_fail s.fails s.calls || is_none (get s.folder path)

-- what a read leaves
abbrev pub after_read : {T : Type 0} → State → List ℕ → Result T ReadAnswer → State
after_read s path (Ok x) = with_call s
after_read s path (Err read.Failed) = with_read_fault s path
after_read s path (Err read.TooLong) = with_call s
after_read s path (Err read.Memory) = with_call s

-- what a listing leaves
abbrev pub after_names : {T : Type 0} → State → List ℕ → Result T NamesAnswer → State
after_names s dir (Ok x) = with_call s
after_names s dir (Err names.Failed) = with_read_fault s dir
after_names s dir (Err names.Memory) = with_call s

-- what a write leaves: the bytes, or where it fails the planned prefix of them
abbrev pub after_write : {T : Type 0} → State → List ℕ → List ℕ → Result T WriteAnswer → State
after_write s path bytes (Ok x) = with_call (with_bytes s path bytes)
after_write s path bytes (Err write.Failed) =
    with_write_fault s path (take (unwrap_or (planned s.fails s.calls) 0) bytes)
after_write s path bytes (Err write.Memory) = with_call s
