-- The line that tells why modules aren't linked.
use Rattle.std.specs.Prelude.{ℕ, List, ◌++◌, codes}
use Rattle.std.specs.Fmt.{decimal}
use Rattle.wm_match.specs.declared.fault.MatchFault.{MatchFault}
use Rattle.wm_match.specs.declared.fault.MatchFault.TheVariants as faults
use Rattle.wm_match.specs.declared.fault.Single.{Single}
use Rattle.wm_match.specs.declared.fault.Single.TheVariants as singles

-- what modules define at most one of
abbrev pub single_word : Single → List ℕ
single_word singles.Memory = codes "memory"
single_word singles.Table = codes "table"

-- an import by its place among those of its module
abbrev import_of : ℕ → ℕ → List ℕ
import_of module' import' = decimal import' ++ (codes " of module " ++ decimal module')

abbrev pub fault_line : MatchFault → List ℕ
fault_line (faults.SameName k) = codes "same name " ++ decimal k
fault_line (faults.GlobalImport k n) = codes "global import " ++ import_of k n
fault_line (faults.NotClosed k) = codes "module " ++ (decimal k ++ codes " is not closed")
fault_line (faults.Start k) = codes "start in module " ++ decimal k
fault_line (faults.Unknown k n) = codes "unknown import " ++ import_of k n
fault_line (faults.Mismatch k n) = codes "mismatched import " ++ import_of k n
fault_line (faults.Second k single) = codes "second " ++ (single_word single ++ (codes " in module " ++ decimal k))
fault_line faults.Memory = codes "out of memory"
