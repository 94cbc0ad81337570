-- The parts of a job that joins modules, as the private functions of the program do them.
use Rattle.std.specs.Prelude.{◌≡◌, ◌≤◌, List, [], ◌∷◌, map, length, Result, Ok, Err}
use Rattle.io_dev.specs.Files.{FilesState, ReadFailed}
use Rattle.io_dev.specs.Folder.{IsLonger, Reads}
use Rattle.mc_cmd.specs.Form.{Text}
use Rattle.wm_ast.specs.declared.module.Module.{Module}
use Rattle.wm_ast.specs.Spelling.{Spells}
use Rattle.wm_valid.specs.declared.typed.Typed.{Typed}
use Rattle.wm_match.specs.declared.library.Binding.{Binding}
use Rattle.wm_match.specs.declared.library.Library.{Library}
use Rattle.wm_match.specs.Binds.{Binds}
use Rattle.wm_match.specs.Cause.{program}
use Rattle.wm_match.specs.Program.{Program}
use Rattle.wm_join.specs.Joined.{joined}
use Rattle.app_words.specs.declared.named_files.NamedFile.{NamedFile}
use Rattle.app_top.specs.Jobs.{file_cap}
use Rattle.app_top.specs.Joining.{AreLibraries, AreLinked, AreRead, HasJoined, IsFirstUndecoded, IsJoinedInvalid}
use Rattle.app_top.specs.Joining.{IsJoinedOutside, IsNextOf, IsUndecodedAt, IsUnlinkable, IsUnlinked, file_of, paths_of}
use Rattle.app_top.specs.Source.{IsNotDecoded}
use Rattle.app_top.specs.declared.inputs.JoinInputs.{JoinInputs}
use Rattle.app_top.specs.declared.inputs.Sources.{Sources}
use Rattle.app_top.specs.declared.refusal.Refusal.{Refusal}
use Rattle.app_top.specs.declared.refusal.Refusal.TheVariants as refusals

-- one of these files could not be read or is too long, or there was no memory
abbrev pub IsReadingRefused : List Text → FilesState → FilesState → Refusal → Type 0
IsReadingRefused paths before after (refusals.CannotRead p) =
    IsNextOf before.content paths p × ReadFailed before after p
IsReadingRefused paths before after (refusals.TooLong p c) =
    IsNextOf before.content paths p × (c ≡ file_cap) × (after ≡ before) × IsLonger before.content p c
IsReadingRefused paths before after refusals.Memory = after ≡ before
IsReadingRefused paths before after refusal = ⊥

-- the libraries' files were read, or one was refused
abbrev pub AreLibrariesRead : List NamedFile → FilesState → FilesState → Result (List Text) Refusal → Type 0
AreLibrariesRead libraries before after (Ok found) =
    (after ≡ before) × AreRead before.content (map file_of libraries) found
AreLibrariesRead libraries before after (Err refusal) = IsReadingRefused (map file_of libraries) before after refusal

-- the files of a job that joins modules were read, or one was refused
abbrev pub AreSourcesRead : Text → List NamedFile → Text → FilesState → FilesState → Result JoinInputs Refusal → Type 0
AreSourcesRead script libraries main before after (Ok i) =
    (after ≡ before)
    × Reads before.content script file_cap i.script
    × AreRead before.content (map file_of libraries) i.sources.libraries
    × Reads before.content main file_cap i.sources.main
AreSourcesRead script libraries main before after (Err refusal) =
    IsReadingRefused (paths_of script libraries main) before after refusal

-- there is a text for each library, and none is too long
abbrev pub AreShort : List NamedFile → List Text → Type 0
AreShort [] [] = Unit {0}
AreShort (n ∷ named) (bytes ∷ others) = (length bytes ≤ file_cap) × AreShort named others
AreShort _ _ = ⊥

-- so it is, and the main module's isn't too long either
abbrev pub AreSourcesShort : List NamedFile → Sources → Type 0
AreSourcesShort named s = AreShort named s.libraries × (length s.main ≤ file_cap)

-- the module that the bytes of the file at a path spell, or they spell none
abbrev pub IsDecodedAt : Text → Text → Result Module Refusal → Type 0
IsDecodedAt path bytes (Ok m) = Spells bytes m
IsDecodedAt path bytes (Err (refusals.NotDecodedAt p fault)) = (p ≡ path) × IsNotDecoded bytes fault
IsDecodedAt path bytes (Err refusals.Memory) = Unit {0}
IsDecodedAt path bytes (Err refusal) = ⊥

-- the library whose file has these bytes
abbrev pub IsLibraryDecoded : NamedFile → Text → Result Library Refusal → Type 0
IsLibraryDecoded named bytes (Ok l) = (l.name ≡ named.name) × Spells bytes l.«module»
IsLibraryDecoded named bytes (Err (refusals.NotDecodedAt p fault)) = (p ≡ named.file) × IsNotDecoded bytes fault
IsLibraryDecoded named bytes (Err refusals.Memory) = Unit {0}
IsLibraryDecoded named bytes (Err refusal) = ⊥

-- the libraries whose files have these bytes, or the first that is none
abbrev pub AreLibrariesDecoded : List NamedFile → List Text → Result (List Library) Refusal → Type 0
AreLibrariesDecoded named bytes (Ok libraries) = AreLibraries named bytes libraries
AreLibrariesDecoded named bytes (Err (refusals.NotDecodedAt path fault)) =
    IsFirstUndecoded (map file_of named) bytes path fault
AreLibrariesDecoded named bytes (Err refusals.Memory) = Unit {0}
AreLibrariesDecoded named bytes (Err refusal) = ⊥

-- what libraries and a main module make together, or they aren't linked
abbrev pub IsJoined : List Library → Module → Result Module Refusal → Type 0
IsJoined libraries main (Ok m) =
    (bs : List (List Binding)) × Binds (program libraries main bs) × (m ≡ joined (program libraries main bs))
IsJoined libraries main (Err (refusals.NotLinked fault)) = IsUnlinkable libraries main fault
IsJoined libraries main (Err refusals.Memory) = Unit {0}
IsJoined libraries main (Err refusal) = ⊥

-- what the modules in these files make together, or they aren't modules that are linked
abbrev pub IsSourceJoined : List NamedFile → Text → Sources → Result Module Refusal → Type 0
IsSourceJoined named main s (Ok m) = (p : Program) × AreLinked named s p × (m ≡ joined p)
IsSourceJoined named main s (Err (refusals.NotDecodedAt path fault)) = IsUndecodedAt named s main path fault
IsSourceJoined named main s (Err (refusals.NotLinked fault)) = IsUnlinked named s fault
IsSourceJoined named main s (Err refusals.Memory) = Unit {0}
IsSourceJoined named main s (Err refusal) = ⊥

-- what the modules in these files make together was taken, or refused
abbrev pub IsSourceTakenJoin : List NamedFile → Text → Sources → Result Typed Refusal → Type 0
IsSourceTakenJoin named main s (Ok m) = (p : Program) × HasJoined named s p × (m ≡ joined p)
IsSourceTakenJoin named main s (Err (refusals.NotDecodedAt path fault)) = IsUndecodedAt named s main path fault
IsSourceTakenJoin named main s (Err (refusals.NotLinked fault)) = IsUnlinked named s fault
IsSourceTakenJoin named main s (Err (refusals.NotInProfile fault)) = IsJoinedOutside named s fault
IsSourceTakenJoin named main s (Err (refusals.NotValid fault)) = IsJoinedInvalid named s fault
IsSourceTakenJoin named main s (Err refusals.Memory) = Unit {0}
IsSourceTakenJoin named main s (Err refusal) = ⊥
