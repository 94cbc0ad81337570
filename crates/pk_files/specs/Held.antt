-- What pack the files of a folder say, and why they say none.
use Rattle.std.specs.Prelude.{◌≡◌, ◌⊎◌, ℕ, ◌+◌, List, [], ◌∷◌, Bool, true, false, length, nat_le, if◌then◌else◌, codes}
use Rattle.std.specs.Prelude.{Option, Some, None, is_some, Result, Ok, Err}
use Rattle.std.specs.List.{list_any}
use Rattle.std.specs.Str.{bytes_eq}
use Rattle.io_dev.specs.Folder.{Folder, Reads, IsLonger}
use Rattle.io_dev.specs.Names.{IsListingOf, IsRising}
use Rattle.mc_cmd.specs.Form.{Text}
use Rattle.mc_cmd.specs.Chain.{Texts}
use Rattle.mc_cmd.specs.Grammar.{line_said}
use Rattle.mc_cmd.specs.Layout.{full_name}
use Rattle.mc_cmd.specs.Lines.{file_lines}
use Rattle.mc_cmd.specs.Pack.{Index}
use Rattle.mc_cmd.specs.Packing.{most_functions}
use Rattle.pk_files.specs.Json.{meta_said, tag_said, index_said}
use Rattle.pk_files.specs.Paths.{pack_cap, at, tags_of, functions_of, tag_file, function_file, function_names}
use Rattle.pk_files.specs.Step.{Step, Gives, ◌>>=◌}
use Rattle.pk_files.specs.Told.{Told}
use Rattle.pk_files.specs.declared.fault.GetFault.{GetFault}
use Rattle.pk_files.specs.declared.fault.GetFault.TheVariants as faults

-- ---- folders and files. Where the content isn't told, any rising names and any bytes within the cap may be given

-- the names in a folder, in rising order
abbrev pub ListsFolder : Option Folder → Text → Step Texts
ListsFolder content dir (Ok names) = IsListingOf content dir names × IsRising names
ListsFolder content dir (Err fault) = fault ≡ faults.ListFailed dir

-- the bytes of a file, if they are not too many
abbrev pub ReadsFile : Option Folder → Text → Step Text
ReadsFile content path (Ok bytes) = Reads content path pack_cap bytes
ReadsFile content path (Err fault) =
    (fault ≡ faults.Failed path) ⊎ ((fault ≡ faults.TooLong path) × IsLonger content path pack_cap)

-- a file of this name is listed
abbrev pub listed : Texts → Text → GetFault → Result (Unit {0}) GetFault
listed names name fault = if list_any (bytes_eq name) names then Ok tt else Err fault

-- it says something
abbrev pub said_or : {A : Type 0} → GetFault → Option A → Result A GetFault
said_or fault None = Err fault
said_or fault (Some a) = Ok a

-- what the bytes of a file say, where it is listed and of its form; else it has this fault
abbrev pub ReadsForm : {A : Type 0} → Option Folder → Text → Texts → Text → GetFault → (Text → Option A) → Step A
ReadsForm content dir names name fault said =
    Gives (listed names name fault) >>= λ _.
    ReadsFile content (at dir name) >>= λ bytes.
    Gives (said_or fault (said bytes))

-- ---- the index and the tags

-- the folder of a pack, its `pack.mcmeta` and its `dpwasm.json`
abbrev pub ReadsIndex : Option Folder → Text → Step Index
ReadsIndex content dir =
    ListsFolder content dir >>= λ names.
    ReadsForm content dir names (codes "pack.mcmeta") faults.NoMeta meta_said >>= λ _.
    ReadsForm content dir names (codes "dpwasm.json") faults.BadIndex index_said

-- the tag of this name, which runs the function of the same name
abbrev pub ReadsTag : Option Folder → Text → Text → Texts → Text → Step (Unit {0})
ReadsTag content dir ns names name =
    ReadsForm content (tags_of dir) names (tag_file name) (faults.BadTag name) (tag_said (full_name ns name))

abbrev pub ReadsTags : Option Folder → Text → Text → Step (Unit {0})
ReadsTags content dir ns =
    ListsFolder content (tags_of dir) >>= λ names.
    ReadsTag content dir ns names (codes "load") >>= λ _.
    ReadsTag content dir ns names (codes "tick")

-- ---- the functions

-- the number of the first of the texts that is no line of the grammar, counted from n
abbrev pub bad_from : ℕ → Texts → Option ℕ
bad_from n [] = None
bad_from n (t ∷ ts) = if is_some (line_said t) then bad_from (n + 1) ts else Some n

-- the texts of a function, unless one of them is no line
abbrev pub lines_unless : Text → Texts → Option ℕ → Result Texts GetFault
lines_unless name ts None = Ok ts
lines_unless name ts (Some line) = Err (faults.BadLine name line)

abbrev pub said_lines : Text → Texts → Result Texts GetFault
said_lines name ts = lines_unless name ts (bad_from 1 ts)

-- the lines of the function of this name, whose file lies in this folder
abbrev pub ReadsLines : Option Folder → Text → Text → Step Texts
ReadsLines content folder name =
    ReadsFile content (at folder (function_file name)) >>= λ bytes.
    Gives (said_lines name (file_lines bytes))

-- the functions of these names, one after the other
abbrev pub ReadsEach : Option Folder → Text → Texts → Step (List (Text × Texts))
ReadsEach content folder [] = Gives (Ok [])
ReadsEach content folder (name ∷ names) =
    ReadsLines content folder name >>= λ lines.
    ReadsEach content folder names >>= λ rest.
    Gives (Ok ((name, lines) ∷ rest))

abbrev pub few_enough : Texts → Result Texts GetFault
few_enough names = if nat_le (length names) most_functions then Ok names else Err (faults.TooMany (length names))

-- the functions among the files of this folder, in the order of the listing
abbrev pub ReadsFunctions : Option Folder → Text → Step (List (Text × Texts))
ReadsFunctions content folder =
    ListsFolder content folder >>= λ files.
    Gives (few_enough (function_names files)) >>= λ names.
    ReadsEach content folder names

-- ---- the pack

abbrev pub ReadsPack : Option Folder → Text → Step Told
ReadsPack content dir =
    ReadsIndex content dir >>= λ index.
    ReadsTags content dir index.ns >>= λ _.
    ReadsFunctions content (functions_of dir index.ns) >>= λ functions.
    Gives (Ok (record { index = index; functions = functions }))

-- the files of a folder say this pack: each step goes through
abbrev pub Holds : Option Folder → Text → Told → Type 0
Holds content dir t = ReadsPack content dir (Ok t)

-- the first step that doesn't go through has this fault. That a listing or a read fails isn't told by the content:
-- for such a fault it says that the reading comes to that folder or file
abbrev pub IsRefused : Option Folder → Text → GetFault → Type 0
IsRefused content dir fault = ReadsPack content dir (Err fault)

-- whether a fault is told by what the files hold
abbrev pub is_told : GetFault → Bool
is_told (faults.ListFailed path) = false
is_told (faults.Failed path) = false
is_told faults.Memory = false
is_told fault = true
