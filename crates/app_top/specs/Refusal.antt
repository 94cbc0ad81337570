-- The causes for which a run ends before all is done: the line and the status of each.
use Rattle.std.specs.Prelude.{ℕ, [], ◌∷◌, ◌++◌, Bool, true, false, codes}
use Rattle.std.specs.Fmt.{decimal}
use Rattle.mc_cmd.specs.Form.{Text}
use Rattle.wm_decode.specs.FaultLine as decode
use Rattle.wm_profile.specs.FaultLine as profile
use Rattle.wm_valid.specs.ValidFault as valid
use Rattle.wm_match.specs.FaultLine as matching
use Rattle.pk_files.specs.Paths.{pack_cap}
use Rattle.pk_files.specs.declared.fault.GetFault.{GetFault}
use Rattle.pk_files.specs.declared.fault.GetFault.TheVariants as gets
use Rattle.pk_files.specs.declared.fault.PutFault.{PutFault}
use Rattle.pk_files.specs.declared.fault.PutFault.TheVariants as puts
use Rattle.app_words.specs.Lines.{ended_line}
use Rattle.app_play.specs.declared.fault.Cause.{Cause}
use Rattle.app_play.specs.declared.fault.Cause.TheVariants as causes
use Rattle.app_play.specs.declared.fault.PlayFault.{PlayFault}
use Rattle.app_play.specs.declared.fault.PlayFault.TheVariants as plays
use Rattle.app_top.specs.declared.refusal.Status.{Status}
use Rattle.app_top.specs.declared.refusal.Status.TheVariants as status
use Rattle.app_top.specs.declared.refusal.Refusal.{Refusal}
use Rattle.app_top.specs.declared.refusal.Refusal.TheVariants as refusals

-- the cause for which a run ends, for a fault of writing a pack, of reading one, and of playing a script over it
abbrev pub of_put : PutFault → Refusal
of_put (puts.NotEmpty name) = refusals.NotEmpty name
of_put (puts.ListFailed path) = refusals.CannotList path
of_put (puts.Failed path) = refusals.CannotWrite path
of_put puts.Memory = refusals.Memory

abbrev pub of_get : GetFault → Refusal
of_get (gets.ListFailed path) = refusals.CannotList path
of_get (gets.Failed path) = refusals.CannotRead path
of_get (gets.TooLong path) = refusals.TooLong path pack_cap
of_get gets.NoMeta = refusals.NoMeta
of_get gets.BadIndex = refusals.BadIndex
of_get (gets.BadTag name) = refusals.BadTag name
of_get (gets.TooMany found) = refusals.TooManyFiles
of_get (gets.BadLine name line) = refusals.BadLine name line
of_get gets.Memory = refusals.Memory

abbrev pub of_play : PlayFault → Refusal
of_play plays.Output = refusals.Output
of_play (plays.Refused line cause) = refusals.Refused line cause
of_play plays.Memory = refusals.Memory

-- the status of a cause
abbrev pub status_of : Refusal → Status
status_of refusals.Usage = status.Usage
status_of (refusals.NotDecoded fault) = status.Module
status_of (refusals.NotDecodedAt path fault) = status.Module
status_of (refusals.NotLinked fault) = status.Module
status_of (refusals.NotInProfile fault) = status.Module
status_of (refusals.NotValid fault) = status.Module
status_of (refusals.CannotRead path) = status.Read
status_of (refusals.CannotList path) = status.Read
status_of (refusals.TooLong path cap) = status.Read
status_of (refusals.CannotWrite path) = status.Write
status_of refusals.Output = status.Write
status_of refusals.NoMeta = status.Pack
status_of refusals.BadIndex = status.Pack
status_of (refusals.BadTag name) = status.Pack
status_of refusals.TooManyFiles = status.Pack
status_of (refusals.BadLine name line) = status.Pack
status_of (refusals.NoPackAt path fault) = status.Pack
status_of (refusals.SameSpace place) = status.Pack
status_of (refusals.Untidy path name line) = status.Pack
status_of (refusals.Script line low) = status.Script
status_of (refusals.LowBudget line least) = status.Script
status_of (refusals.Refused line cause) = status.Script
status_of (refusals.NotEmpty name) = status.NotEmpty
status_of refusals.Memory = status.Memory

-- what is said of a script line that was refused before its turn, and at it
abbrev pub read_cause : Bool → Text
read_cause true = codes "budget below 512"
read_cause false = codes "not a script line"

abbrev pub turn_cause : Cause → Text
turn_cause causes.NoSuchExport = codes "no such export"
turn_cause causes.WrongArguments = codes "wrong arguments"
turn_cause causes.InstanceIsDead = codes "the instance is dead"
turn_cause (causes.Names name) = codes "names " ++ name
turn_cause causes.NoSuchProgram = codes "no such program"

abbrev pub script_line : ℕ → Text → Text
script_line line cause = codes "script line " ++ (decimal line ++ (codes ": " ++ ended_line cause))

-- the forms of the words
abbrev pub usage : Text
usage =
    codes "usage: dpwasm compile FILE DIR NS or costs FILE DIR NS or run DIR SCRIPT"
    ++ codes " or exec FILE DIR NS SCRIPT or gen NUMBER SIZE FILE DIR or join MAIN DIR NS SCRIPT NAME FILE .."
    ++ codes " or multi SCRIPT DIR .. or inspect FILE DIR NS SCRIPT"

-- what the files of a folder say that is no pack
abbrev pub fault_text : GetFault → Text
fault_text gets.NoMeta = codes "no pack.mcmeta"
fault_text gets.BadIndex = codes "bad index"
fault_text (gets.BadTag name) = codes "bad tag " ++ name
fault_text (gets.TooMany found) = codes "too many files"
fault_text (gets.BadLine name line) = codes "bad line " ++ (name ++ (58 ∷ decimal line))
fault_text fault = []

-- the line of a cause, with the line feed that ends it
abbrev pub line_of : Refusal → Text
line_of refusals.Usage = ended_line usage
line_of (refusals.NotDecoded fault) = codes "module: " ++ ended_line (decode.fault_line fault)
line_of (refusals.NotDecodedAt path fault) = path ++ (codes ": " ++ ended_line (decode.fault_line fault))
line_of (refusals.NotLinked fault) = codes "join: " ++ ended_line (matching.fault_line fault)
line_of (refusals.NotInProfile fault) = codes "module: " ++ ended_line (profile.fault_line fault)
line_of (refusals.NotValid fault) = codes "module: " ++ ended_line (valid.fault_line fault)
line_of (refusals.CannotRead path) = codes "cannot read " ++ ended_line path
line_of (refusals.CannotList path) = codes "cannot list " ++ ended_line path
line_of (refusals.TooLong path cap) = path ++ (codes " is longer than " ++ (decimal cap ++ ended_line (codes " bytes")))
line_of (refusals.CannotWrite path) = codes "cannot write " ++ ended_line path
line_of refusals.Output = ended_line (codes "cannot write output")
line_of refusals.NoMeta = ended_line (codes "pack: no pack.mcmeta")
line_of refusals.BadIndex = ended_line (codes "pack: bad index")
line_of (refusals.BadTag name) = codes "pack: bad tag " ++ ended_line name
line_of refusals.TooManyFiles = ended_line (codes "pack: too many files")
line_of (refusals.BadLine name line) = codes "pack: bad line " ++ (name ++ (58 ∷ ended_line (decimal line)))
line_of (refusals.NoPackAt path fault) = path ++ (codes ": " ++ ended_line (fault_text fault))
line_of (refusals.SameSpace place) = codes "multi: same namespace " ++ ended_line (decimal place)
line_of (refusals.Untidy path name line) =
    codes "multi: untidy line " ++ (name ++ (58 ∷ (decimal line ++ (codes " in " ++ ended_line path))))
line_of (refusals.Script line low) = script_line line (read_cause low)
line_of (refusals.LowBudget line least) = script_line line (codes "budget below " ++ decimal least)
line_of (refusals.Refused line cause) = script_line line (turn_cause cause)
line_of (refusals.NotEmpty name) = codes "folder not empty: " ++ ended_line name
line_of refusals.Memory = ended_line (codes "out of memory")
