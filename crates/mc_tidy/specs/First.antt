-- The first of some lines that isn't tidy.
use Rattle.std.specs.Prelude.{◌≡◌, ℕ, List, take, slice_get, Option, Some, None, false}
use Rattle.mc_cmd.specs.Form.{Text}
use Rattle.mc_cmd.specs.Tidy.{is_tidy, Tidy}

-- a line that is there, and isn't tidy under a namespace
abbrev pub IsUntidy : Text → Option Text → Type 0
IsUntidy ns None = ⊥
IsUntidy ns (Some t) = is_tidy ns t ≡ false

-- all are tidy; or those before a place are, and the one at this place isn't
abbrev pub IsFirstUntidy : Text → List Text → Option ℕ → Type 0
IsFirstUntidy ns ts None = Tidy ns ts
IsFirstUntidy ns ts (Some i) = Tidy ns (take i ts) × IsUntidy ns (slice_get ts i)
