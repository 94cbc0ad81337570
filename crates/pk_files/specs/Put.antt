-- The files of a pack in the order of writing, and what is left where a write stops.
use Rattle.std.specs.Prelude.{◌≡◌, ◌⊎◌, ◌≤◌, List, [], ◌∷◌, ◌++◌, length, map, Option, Some, codes}
use Rattle.std.specs.List.{AllByRecursion}
use Rattle.io_dev.specs.Folder.{Folder, with_file, LeavesPrefix}
use Rattle.serde_json.specs.Written.{compact_text}
use Rattle.mc_cmd.specs.Chain.{Texts}
use Rattle.mc_cmd.specs.Form.{Text}
use Rattle.mc_cmd.specs.Layout.{full_name}
use Rattle.mc_cmd.specs.Lines.{file_text}
use Rattle.mc_cmd.specs.Pack.{Index}
use Rattle.pk_files.specs.Json.{meta_data, tag_data, index_data, tag_said, index_said}
use Rattle.pk_files.specs.Paths.{pack_cap, at, tags_of, functions_of, tag_file, function_file}
use Rattle.pk_files.specs.Told.{Told}

-- a path with the bytes of the file there
abbrev pub File : Type 0
File = Text × Text

-- the file of a function, in the folder of its namespace
abbrev pub function_written : Text → Text × Texts → File
function_written folder f = (at folder (function_file f.0), file_text f.1)

abbrev pub function_files : Text → Text → List (Text × Texts) → List File
function_files dir ns functions = map (function_written (functions_of dir ns)) functions

abbrev pub tag_written : Text → Text → Text → File
tag_written dir ns name = (at (tags_of dir) (tag_file name), compact_text (tag_data ns name))

-- the files behind the functions; `pack.mcmeta`, without which a folder holds no pack, is the last
abbrev pub last_files : Text → Index → List File
last_files dir i =
    tag_written dir i.ns (codes "load")
    ∷ tag_written dir i.ns (codes "tick")
    ∷ (at dir (codes "dpwasm.json"), compact_text (index_data i))
    ∷ (at dir (codes "pack.mcmeta"), compact_text meta_data)
    ∷ []

-- the files of a pack: its functions in their order, the tags, the index and `pack.mcmeta`
abbrev pub pack_files : Text → Told → List File
pack_files dir t = function_files dir t.index.ns t.functions ++ last_files dir t.index

-- the content with all of these, put one after the other
abbrev pub put_all : Option Folder → List File → Option Folder
put_all content [] = content
put_all content (f ∷ fs) = put_all (with_file content f.0 f.1) fs

-- the files before the one at this path are put, at the path stands what stood or a prefix of the file's bytes, and
-- nothing else has changed
abbrev pub StopsAt : Option Folder → Option Folder → List File → Text → Type 0
StopsAt before after [] path = ⊥
StopsAt before after (f ∷ fs) path =
    ((path ≡ f.0) × LeavesPrefix before after f.0 f.1) ⊎ StopsAt (with_file before f.0 f.1) after fs path

-- no file has more bytes than are read
abbrev pub AreWithin : List File → Type 0
AreWithin files = AllByRecursion (λ f. length f.1 ≤ pack_cap) files

-- the JSON files of a pack are read as what was written
pub record IsReadBack (i : Index) : Type 0 where
  pub index : index_said (compact_text (index_data i)) ≡ Some i
  pub load : tag_said (full_name i.ns (codes "load")) (compact_text (tag_data i.ns (codes "load"))) ≡ Some tt
  pub tick : tag_said (full_name i.ns (codes "tick")) (compact_text (tag_data i.ns (codes "tick"))) ≡ Some tt
