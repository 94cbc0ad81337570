-- What `gen` does: the module of a workload is put into FILE and its pack into DIR, and what both of them give is told.
use Rattle.std.specs.Prelude.{◌≡◌, ◌⊎◌, ◌+◌, ℕ, length, codes, true, Ok, Err}
use Rattle.io_dev.specs.Files.{IsFileWritten}
use Rattle.io_dev.specs.Folder.{IsFile}
use Rattle.io_dev.specs.declared.answers.WriteAnswer.{WriteAnswer}
use Rattle.io_dev.specs.declared.answers.WriteAnswer.TheVariants as writes
use Rattle.mc_cmd.specs.Form.{Text}
use Rattle.mc_cmd.specs.Pack.{Pack}
use Rattle.mc_cmd.specs.Packing.{Written, is_written, pack_view}
use Rattle.app_words.specs.Workload.{CanCallMain, started}
use Rattle.app_workload.specs.Told.{IsWorkloadText}
use Rattle.pk_agree.specs.Agree.{Agrees}
use Rattle.pk_files.specs.Folder.{IsPackRead}
use Rattle.pk_link.specs.Linked.{IsPackFor}
use Rattle.wm_gen.specs.Shortest.{module_bytes}
use Rattle.wm_gen.specs.Workload.{workload}
use Rattle.app_top.specs.Jobs.{End, IsDelivered, IsGivenBack, IsSaid, IsUndelivered, IsUnreadAgain}
use Rattle.app_top.specs.Outside.{Outside}
use Rattle.app_top.specs.declared.refusal.Refusal.{Refusal}
use Rattle.app_top.specs.declared.refusal.Refusal.TheVariants as refusals

-- the namespace of a workload's pack
abbrev pub workload_namespace : Text
workload_namespace = codes "gen"

-- the bytes of a workload
abbrev pub workload_bytes : ℕ → ℕ → Text
workload_bytes number size = module_bytes (workload number size)

-- why a file wasn't written
abbrev pub of_write : Text → WriteAnswer → Refusal
of_write path writes.Failed = refusals.CannotWrite path
of_write path writes.Memory = refusals.Memory

-- the file wasn't written whole, for this fault
abbrev pub IsUnwritten : Outside → Outside → Text → Text → End → Type 0
IsUnwritten before after path bytes r =
    (fault : WriteAnswer)
    × IsFileWritten before.files after.files path bytes (Err fault)
    × (after.out ≡ before.out)
    × (r ≡ Err (of_write path fault))

-- the five lines of a workload, which has so many functions and `main`, and of which this pack is played
abbrev pub IsTextOf : ℕ → ℕ → Pack → Text → Type 0
IsTextOf number size pack text =
    IsWorkloadText (length (workload_bytes number size)) (size + 1) (workload number size) pack text

-- The pack that was written into DIR was read back, and the workload was told of which it is played; or there was no
-- memory for that. Where the files tell their content, or give back what was written, the pack that is played agrees
-- with the workload, and a call of its `main` isn't refused.
pub record IsWorkloadTold (before after : Outside) (dir : Text) (number size : ℕ) (pack : Written) (r : End)
    : Type 0 where
  pub read : Written
  pub is_read : IsPackRead before.files after.files dir (Ok read)
  pub agrees : IsGivenBack before.files.content pack read → Agrees (workload number size) (pack_view read)
  pub called : IsGivenBack before.files.content pack read → CanCallMain (pack_view read) (started (pack_view read))
  pub told : ((r ≡ Err refusals.Memory) × (after.out ≡ before.out))
      ⊎ ((text : Text) × IsTextOf number size (pack_view read) text × IsSaid text before.out after.out r)

-- the pack was written into DIR, which was empty, and FILE still has the bytes; then it was read back and told, or
-- wasn't
pub record IsWorkloadPlayed (before after : Outside) (file dir : Text) (number size : ℕ) (pack : Written) (r : End)
    : Type 0 where
  pub between : Outside
  pub delivered : IsDelivered before.files between.files dir (workload number size) pack
  pub same_out : between.out ≡ before.out
  pub ends : IsUnreadAgain between after dir r ⊎ IsWorkloadTold between after dir number size pack r
  pub is_file : IsFile after.files.content file (workload_bytes number size)

-- the bytes were put into FILE; then the pack was written into DIR and played, or not, for the first cause
pub record IsWorkloadPut (before after : Outside) (file dir : Text) (number size : ℕ) (pack : Written) (r : End)
    : Type 0 where
  pub between : Outside
  pub put : IsFileWritten before.files between.files file (workload_bytes number size) (Ok tt)
  pub same_out : between.out ≡ before.out
  pub ends : IsUndelivered between after dir pack r ⊎ IsWorkloadPlayed between after file dir number size pack r

-- the pack of the workload, and what became of both
pub record IsWorkloadLinked (before after : Outside) (file dir : Text) (number size : ℕ) (r : End) : Type 0 where
  pub pack : Written
  pub is_pack : IsPackFor workload_namespace (workload number size) pack
  pub written : is_written pack ≡ true
  pub ends : IsUnwritten before after file (workload_bytes number size) r
      ⊎ IsWorkloadPut before after file dir number size pack r

-- `gen`: there was no memory for the workload and its pack, and nothing happened; or there was, and this became of it
abbrev pub IsWorkloadAnswered : ℕ → ℕ → Text → Text → Outside → Outside → End → Type 0
IsWorkloadAnswered number size file dir before after r =
    ((r ≡ Err refusals.Memory) × (after ≡ before)) ⊎ IsWorkloadLinked before after file dir number size r
