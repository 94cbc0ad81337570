-- Files as contracts see them, and what each call of them answers and leaves.
use Rattle.std.specs.Prelude.{◌≡◌, ℕ, List, Option, Some, Result, Ok, Err}
use Rattle.io_dev.specs.Faults.{Rose}
use Rattle.io_dev.specs.Folder.{Folder, Reads, IsLonger, with_file, LeavesPrefix}
use Rattle.io_dev.specs.Names.{IsListingOf, IsRising}
use Rattle.io_dev.specs.declared.answers.ReadAnswer.{ReadAnswer}
use Rattle.io_dev.specs.declared.answers.ReadAnswer.TheVariants as read
use Rattle.io_dev.specs.declared.answers.NamesAnswer.{NamesAnswer}
use Rattle.io_dev.specs.declared.answers.NamesAnswer.TheVariants as names
use Rattle.io_dev.specs.declared.answers.WriteAnswer.{WriteAnswer}
use Rattle.io_dev.specs.declared.answers.WriteAnswer.TheVariants as write

-- files: what they hold, where it is told, how often a read or a listing failed, how often a write failed, and the path
-- of the call that failed last
pub record FilesState : Type 0 where
  pub content : Option Folder
  pub read_faults : ℕ
  pub write_faults : ℕ
  pub last_failed : Option (List ℕ)

-- the files with these bytes at this path
abbrev pub put : FilesState → List ℕ → List ℕ → FilesState
put files path bytes = record files { content = with_file files.content path bytes }

-- a read or a listing of this path failed: the count of these rose, and nothing else changed
pub record ReadFailed (before after : FilesState) (path : List ℕ) : Type 0 where
  pub counted : Rose before.read_faults after.read_faults
  pub at : after.last_failed ≡ Some path
  pub same : after.content ≡ before.content
  pub same_writes : after.write_faults ≡ before.write_faults

-- a write of these bytes failed: the count of these rose, a prefix may be left, and nothing else changed
pub record WriteFailed (before after : FilesState) (path bytes : List ℕ) : Type 0 where
  pub counted : Rose before.write_faults after.write_faults
  pub at : after.last_failed ≡ Some path
  pub left : LeavesPrefix before.content after.content path bytes
  pub same_reads : after.read_faults ≡ before.read_faults

-- a write of these bytes was given up for want of memory: a prefix may be left, and nothing else changed
pub record WriteGivenUp (before after : FilesState) (path bytes : List ℕ) : Type 0 where
  pub left : LeavesPrefix before.content after.content path bytes
  pub same : after ≡ record before { content = after.content }

-- a read gave the bytes of a file, or refused it; a fault is told just where its count rose
abbrev pub IsFileRead : FilesState → FilesState → List ℕ → ℕ → Result (List ℕ) ReadAnswer → Type 0
IsFileRead before after path cap (Ok bytes) = Reads before.content path cap bytes × (after ≡ before)
IsFileRead before after path cap (Err read.Failed) = ReadFailed before after path
IsFileRead before after path cap (Err read.TooLong) = IsLonger before.content path cap × (after ≡ before)
IsFileRead before after path cap (Err read.Memory) = after ≡ before

-- a listing gave the names in a folder in rising order, or refused it; a fault is told just where its count rose
abbrev pub IsFolderListed : FilesState → FilesState → List ℕ → Result (List (List ℕ)) NamesAnswer → Type 0
IsFolderListed before after dir (Ok names) = IsListingOf before.content dir names × IsRising names × (after ≡ before)
IsFolderListed before after dir (Err names.Failed) = ReadFailed before after dir
IsFolderListed before after dir (Err names.Memory) = after ≡ before

-- a write put the bytes at the path, or refused it; a fault is told just where its count rose
abbrev pub IsFileWritten : FilesState → FilesState → List ℕ → List ℕ → Result (Unit {0}) WriteAnswer → Type 0
IsFileWritten before after path bytes (Ok done) = after ≡ put before path bytes
IsFileWritten before after path bytes (Err write.Failed) = WriteFailed before after path bytes
IsFileWritten before after path bytes (Err write.Memory) = WriteGivenUp before after path bytes
