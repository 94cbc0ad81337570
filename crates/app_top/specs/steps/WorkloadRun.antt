-- The parts of `gen`, as the private functions of the program do them.
use Rattle.std.specs.Prelude.{◌≡◌, ◌⊎◌, ℕ, length, Result, Ok, Err}
use Rattle.io_dev.specs.Files.{FilesState, IsFileWritten}
use Rattle.io_dev.specs.declared.answers.WriteAnswer.{WriteAnswer}
use Rattle.mc_cmd.specs.Form.{Text}
use Rattle.mc_cmd.specs.Packing.{Written, pack_view}
use Rattle.app_workload.specs.Told.{IsWorkloadText}
use Rattle.pk_files.specs.Folder.{IsPackRead}
use Rattle.pk_files.specs.declared.fault.GetFault.{GetFault}
use Rattle.wm_ast.specs.declared.module.Module.{Module}
use Rattle.wm_gen.specs.Workload.{workload}
use Rattle.app_top.specs.Jobs.{End, IsSaid, IsUnread}
use Rattle.app_top.specs.Outside.{Outside}
use Rattle.app_top.specs.Workload.{of_write, workload_bytes}
use Rattle.app_top.specs.declared.refusal.Refusal.{Refusal}
use Rattle.app_top.specs.declared.refusal.Refusal.TheVariants as refusals
use Rattle.app_top.specs.declared.workload.Made.{Made}

-- a workload was made, or there was no memory
abbrev pub IsMade : ℕ → ℕ → Result Made Refusal → Type 0
IsMade number size (Ok m) = (m.wasm ≡ workload_bytes number size) × (m.typed ≡ workload number size)
IsMade number size (Err refusal) = refusal ≡ refusals.Memory

-- the bytes were put at the path, or weren't
abbrev pub IsPutAt : FilesState → FilesState → Text → Text → End → Type 0
IsPutAt before after path bytes (Ok u) = IsFileWritten before after path bytes (Ok tt)
IsPutAt before after path bytes (Err refusal) =
    (fault : WriteAnswer) × IsFileWritten before after path bytes (Err fault) × (refusal ≡ of_write path fault)

-- the pack of a folder was read, and a workload of so many bytes and of this module was told; or not
abbrev pub IsFolderTold : Outside → Outside → Text → ℕ → Module → End → Type 0
IsFolderTold before after dir bytes m r =
    ((fault : GetFault) × IsUnread before after dir fault r)
    ⊎ ((read : Written)
    × IsPackRead before.files after.files dir (Ok read)
    × (((r ≡ Err refusals.Memory) × (after.out ≡ before.out))
    ⊎ ((text : Text)
    × IsWorkloadText bytes (length m.funcs) m (pack_view read) text
    × IsSaid text before.out after.out r)))
