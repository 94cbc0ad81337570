-- What the calls on the folder of a pack answer and leave.
use Rattle.std.specs.Prelude.{◌≡◌, ◌⊎◌, [], ◌∷◌, Option, Some, Result, Ok, Err}
use Rattle.io_dev.specs.Faults.{Rose}
use Rattle.io_dev.specs.Files.{FilesState, ReadFailed}
use Rattle.io_dev.specs.Folder.{Folder}
use Rattle.io_dev.specs.Names.{IsListingOf, IsRising}
use Rattle.mc_cmd.specs.Chain.{Texts}
use Rattle.mc_cmd.specs.Form.{Text}
use Rattle.mc_cmd.specs.Packing.{Written}
use Rattle.pk_files.specs.Held.{Holds, IsRefused}
use Rattle.pk_files.specs.Put.{pack_files, put_all, StopsAt, IsReadBack}
use Rattle.pk_files.specs.Step.{Step}
use Rattle.pk_files.specs.Told.{Told, told_of}
use Rattle.pk_files.specs.declared.fault.GetFault.{GetFault}
use Rattle.pk_files.specs.declared.fault.GetFault.TheVariants as get
use Rattle.pk_files.specs.declared.fault.PutFault.{PutFault}
use Rattle.pk_files.specs.declared.fault.PutFault.TheVariants as put

-- the writing of a pack into a folder with no name in it has begun
pub record IsBegun (before : FilesState) (dir : Text) (t : Told) : Type 0 where
  pub bare : IsListingOf before.content dir []
  pub read_back : IsReadBack t.index

-- the write at this path failed: the count of these rose, and the files before it are put
pub record IsStopped (before after : FilesState) (dir : Text) (t : Told) (path : Text) : Type 0 where
  pub stops : StopsAt before.content after.content (pack_files dir t) path
  pub counted : Rose before.write_faults after.write_faults
  pub at : after.last_failed ≡ Some path
  pub same_reads : after.read_faults ≡ before.read_faults

-- memory was wanting at the write at some path: the files before it are put
pub record IsGivenUp (before after : FilesState) (dir : Text) (t : Told) : Type 0 where
  pub path : Text
  pub stops : StopsAt before.content after.content (pack_files dir t) path
  pub same : after ≡ record before { content = after.content }

-- a folder was seen to be empty, or wasn't
abbrev pub IsSeen : FilesState → FilesState → Text → Result (Unit {0}) PutFault → Type 0
IsSeen before after dir (Ok done) = IsListingOf before.content dir [] × (after ≡ before)
IsSeen before after dir (Err (put.NotEmpty name)) =
    ((names : Texts) × IsListingOf before.content dir (name ∷ names) × IsRising (name ∷ names)) × (after ≡ before)
IsSeen before after dir (Err (put.ListFailed path)) = (path ≡ dir) × ReadFailed before after dir
IsSeen before after dir (Err (put.Failed path)) = ⊥
IsSeen before after dir (Err put.Memory) = after ≡ before

-- a pack was written into a folder, or wasn't
abbrev pub IsPackWritten : FilesState → FilesState → Text → Written → Result (Unit {0}) PutFault → Type 0
IsPackWritten before after dir w (Ok done) =
    IsBegun before dir (told_of w)
    × (after ≡ record before { content = put_all before.content (pack_files dir (told_of w)) })
IsPackWritten before after dir w (Err (put.NotEmpty name)) =
    ((names : Texts) × IsListingOf before.content dir (name ∷ names) × IsRising (name ∷ names)) × (after ≡ before)
IsPackWritten before after dir w (Err (put.ListFailed path)) = (path ≡ dir) × ReadFailed before after dir
IsPackWritten before after dir w (Err (put.Failed path)) =
    IsBegun before dir (told_of w) × IsStopped before after dir (told_of w) path
IsPackWritten before after dir w (Err put.Memory) =
    (after ≡ before) ⊎ (IsBegun before dir (told_of w) × IsGivenUp before after dir (told_of w))

-- what a refused step of reading leaves: where it failed its count rose, and else nothing has changed
abbrev pub Leaves : FilesState → FilesState → GetFault → Type 0
Leaves before after (get.ListFailed path) = ReadFailed before after path
Leaves before after (get.Failed path) = ReadFailed before after path
Leaves before after fault = after ≡ before

-- a step of reading was done: it gave one of its answers, or was refused for want of memory alone
abbrev pub IsDone : {X A : Type 0}
    → (X → A) → FilesState → FilesState → (Option Folder → Step A) → Result X GetFault → Type 0
IsDone view before after step (Ok x) = step before.content (Ok (view x)) × (after ≡ before)
IsDone view before after step (Err fault) =
    ((fault ≡ get.Memory) ⊎ step before.content (Err fault)) × Leaves before after fault

-- the files of a folder were read as the pack that they say, or refused
abbrev pub IsPackRead : FilesState → FilesState → Text → Result Written GetFault → Type 0
IsPackRead before after dir (Ok w) = Holds before.content dir (told_of w) × (after ≡ before)
IsPackRead before after dir (Err fault) =
    ((fault ≡ get.Memory) ⊎ IsRefused before.content dir fault) × Leaves before after fault
