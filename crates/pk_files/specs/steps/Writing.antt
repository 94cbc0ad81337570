-- What the private functions of writing leave.
use Rattle.std.specs.Prelude.{◌≡◌, List, Some, Result, Ok, Err}
use Rattle.io_dev.specs.Faults.{Rose}
use Rattle.io_dev.specs.Files.{FilesState, ReadFailed}
use Rattle.io_dev.specs.Names.{IsListingOf, IsRising}
use Rattle.mc_cmd.specs.Chain.{Texts}
use Rattle.mc_cmd.specs.Form.{Text}
use Rattle.pk_files.specs.Put.{File, put_all, StopsAt}
use Rattle.pk_files.specs.declared.fault.PutFault.{PutFault}
use Rattle.pk_files.specs.declared.fault.PutFault.TheVariants as put
use Rattle.pk_files.specs.declared.put.FileBytes.{FileBytes}

abbrev pub file_view : FileBytes → File
file_view f = (f.path, f.bytes.items)

-- the files with all of these
abbrev pub with_files : FilesState → List File → FilesState
with_files files fs = record files { content = put_all files.content fs }

-- all of these were put, or one of them wasn't
abbrev pub ArePut : FilesState → FilesState → List File → Result (Unit {0}) PutFault → Type 0
ArePut before after fs (Ok done) = after ≡ with_files before fs
ArePut before after fs (Err (put.Failed path)) =
    StopsAt before.content after.content fs path
    × Rose before.write_faults after.write_faults
    × (after.last_failed ≡ Some path)
    × (after.read_faults ≡ before.read_faults)
ArePut before after fs (Err put.Memory) =
    ((path : Text) × StopsAt before.content after.content fs path) × (after ≡ record before { content = after.content })
ArePut before after fs (Err fault) = ⊥

-- a folder was listed, or wasn't
abbrev pub AreListed : FilesState → FilesState → Text → Result Texts PutFault → Type 0
AreListed before after dir (Ok names) = IsListingOf before.content dir names × IsRising names × (after ≡ before)
AreListed before after dir (Err (put.ListFailed path)) = (path ≡ dir) × ReadFailed before after dir
AreListed before after dir (Err put.Memory) = after ≡ before
AreListed before after dir (Err fault) = ⊥
