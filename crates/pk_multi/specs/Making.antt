-- Which packs may live together, and why others may not.
use Rattle.std.specs.Prelude.{◌≡◌, ◌<◌, ◌-◌, ℕ, List, length, take, Bool, true, false, Option, Some, None, slice_get}
use Rattle.std.specs.List.{list_all, list_any}
use Rattle.std.specs.Str.{bytes_eq}
use Rattle.mc_cmd.specs.Form.{Text}
use Rattle.mc_cmd.specs.Chain.{Texts}
use Rattle.mc_cmd.specs.Packing.{Written, is_written}
use Rattle.mc_cmd.specs.Tidy.{is_tidy}
use Rattle.mc_tidy.specs.First.{IsFirstUntidy}
use Rattle.mc_together.specs.Programs.{all_tidy}
use Rattle.pk_multi.specs.declared.making.Untidy.{Untidy}
use Rattle.pk_multi.specs.declared.fault.MultiFault.{MultiFault}
use Rattle.pk_multi.specs.declared.fault.MultiFault.TheVariants as faults

-- some pack has this namespace
abbrev pub has_space : Text → List Written → Bool
has_space ns ws = list_any (λ w. bytes_eq ns w.index.ns) ws

-- each of the first n packs has a namespace that none before it has
abbrev pub AreApart : List Written → ℕ → Type 0
AreApart ws n = (i : ℕ) (w : Written) → i < n → slice_get ws i ≡ Some w → has_space w.index.ns (take i ws) ≡ false

-- a pack is there, with the namespace of one of these
abbrev pub IsTaken : List Written → Option Written → Type 0
IsTaken ws None = ⊥
IsTaken ws (Some w) = has_space w.index.ns ws ≡ true

-- the pack at this place is the first that has the namespace of one before it
abbrev pub IsSame : List Written → ℕ → Type 0
IsSame ws i = AreApart ws i × IsTaken (take i ws) (slice_get ws i)

-- no pack has the namespace of one before it; or the one at a place is the first that has
abbrev pub IsFirstSame : List Written → Option ℕ → Type 0
IsFirstSame ws None = AreApart ws (length ws)
IsFirstSame ws (Some i) = IsSame ws i

-- the lines of the functions before a place are tidy
abbrev pub tidy_before : Text → Written → ℕ → Bool
tidy_before ns w i = all_tidy ns (take i w.functions)

-- a function is there; all its lines are tidy, or a line of this number is the first that isn't
abbrev pub IsUntidyEntry : Text → Option (Text × Texts) → Option Untidy → Type 0
IsUntidyEntry ns None u = ⊥
IsUntidyEntry ns (Some e) None = list_all (is_tidy ns) e.1 ≡ true
IsUntidyEntry ns (Some e) (Some u) = (u.name ≡ e.0) × (0 < u.line) × IsFirstUntidy ns e.1 (Some (u.line - 1))

-- the same of the function at a place of a pack
abbrev pub IsUntidyOf : Text → Written → ℕ → Option Untidy → Type 0
IsUntidyOf ns w i u = IsUntidyEntry ns (slice_get w.functions i) u

-- a line of a pack that is the first that isn't tidy under a namespace
pub record HasUntidy (ns : Text) (w : Written) (u : Untidy) : Type 0 where
  pub place : ℕ
  pub before : tidy_before ns w place ≡ true
  pub here : IsUntidyOf ns w place (Some u)

-- all lines of a pack are tidy under a namespace; or this one is the first that isn't
abbrev pub IsUntidyIn : Text → Written → Option Untidy → Type 0
IsUntidyIn ns w None = all_tidy ns w.functions ≡ true
IsUntidyIn ns w (Some u) = HasUntidy ns w u

-- the first n packs are tidy, each under its namespace
abbrev pub AreTidy : List Written → ℕ → Type 0
AreTidy ws n =
    (i : ℕ) (w : Written) → i < n → slice_get ws i ≡ Some w → all_tidy w.index.ns w.functions ≡ true

-- the first n are packs as the code keeps them
abbrev pub AreWritten : List Written → ℕ → Type 0
AreWritten ws n = (i : ℕ) (w : Written) → i < n → slice_get ws i ≡ Some w → is_written w ≡ true

-- a pack is there, and this line is the first that isn't tidy
abbrev pub IsUntidyHere : Option Written → Untidy → Type 0
IsUntidyHere None u = ⊥
IsUntidyHere (Some w) u = HasUntidy w.index.ns w u

-- the first line that isn't tidy, in the order of packs, of functions and of lines
abbrev pub IsUntidyPack : List Written → MultiFault → Type 0
IsUntidyPack ws (faults.SameSpace i) = ⊥
IsUntidyPack ws (faults.Untidy i name line) =
    AreTidy ws i × IsUntidyHere (slice_get ws i) (record { name = name; line = line })
IsUntidyPack ws faults.Memory = Unit {0}

-- why packs may not live together: the first namespace that comes again, else the first line that isn't tidy
abbrev pub IsRefused : List Written → MultiFault → Type 0
IsRefused ws (faults.SameSpace i) = IsSame ws i
IsRefused ws (faults.Untidy i name line) =
    AreApart ws (length ws) × IsUntidyPack ws (faults.Untidy i name line)
IsRefused ws faults.Memory = AreApart ws (length ws)
