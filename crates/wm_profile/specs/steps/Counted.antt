-- What the checks of limits find.
use Rattle.std.specs.Prelude.{ℕ, ◌-◌, ◌^◌, List, map, min, find, nat_lt, Option, option_map}
use Rattle.std.specs.List.{concat}
use Rattle.wm_ast.specs.declared.limit.TheConstants.{MAX_LABELS}
use Rattle.wm_ast.specs.Code.{Code}
use Rattle.wm_ast.specs.Profile.{code_labels}
use Rattle.wm_profile.specs.declared.fault.ProfileFault.{ProfileFault}
use Rattle.wm_profile.specs.Cause.{excess_of, over}

-- a count as it is told: 2^64 - 1 where it is more
abbrev pub told : ℕ → ℕ
told n = min n (2 ^ 64 - 1)

-- the fault of a limit, by its number, the counts and the most that each may be
abbrev pub limit_fault : ℕ → List ℕ → ℕ → Option ProfileFault
limit_fault which counts most = option_map over (excess_of which (record { counts = counts; most = most }))

-- the fault of a limit, by its number, the first count that exceeds it, and the most that it may be
abbrev pub found_fault : ℕ → ℕ → Option ℕ → Option ProfileFault
found_fault which most first =
    option_map (λ count. over (record { which = which; found = count; most = most })) first

-- the first number of labels that is too great, among these expressions
abbrev pub labels_beyond : List Code → Option ℕ
labels_beyond cs = find (nat_lt MAX_LABELS) (concat (map code_labels cs))
