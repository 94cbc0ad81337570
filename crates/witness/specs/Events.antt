-- A list of events with one of each kind.
use Rattle.std.specs.Prelude.{ℕ, ◌-◌, ◌^◌, pos, List, [], ◌∷◌, map, codes, if◌then◌else◌}
use Rattle.std.specs.Str.{bytes_eq}
use Rattle.mc_nbt.specs.declared.value.Kind.{Kind}
use Rattle.mc_nbt.specs.declared.value.Kind.TheVariants as kinds
use Rattle.mc_nbt.specs.declared.value.Value.{Value}
use Rattle.mc_nbt.specs.declared.value.Value.TheVariants as values
use Rattle.mc_cmd.specs.declared.TheConstants.{BMIN}
use Rattle.mc_cmd.specs.Form.{Text}
use Rattle.mc_cmd.specs.Command.{Cmd, plain, score_set}
use Rattle.mc_cmd.specs.Pack.{Event, call, tick, reload, other}

-- the greatest budget
abbrev pub greatest : ℕ
greatest = 2 ^ 31 - 1

-- an objective that isn't the namespace's own
abbrev pub other_objective : Text → Text
other_objective ns = if bytes_eq (codes "x") ns then codes "y" else codes "x"

-- a command of somebody else
abbrev pub foreign : Text → Cmd
foreign ns = plain (score_set (codes "somebody") (other_objective ns) (pos 1))

-- arguments of these kinds
abbrev pub argument : Kind → Value
argument kinds.I32 = values.I32 (pos 301)
argument kinds.I64 = values.I64 (pos 301)

abbrev pub arguments : List Kind → List Value
arguments ks = map argument ks

-- ticks, and then a call of the export of this number
abbrev pub up_to_call : ℕ → List Kind → List Event
up_to_call k ks = tick BMIN ∷ tick greatest ∷ call k (arguments ks) ∷ []

-- the same, a tick, a reload, and a command of somebody else
abbrev pub schedule : Text → ℕ → List Kind → List Event
schedule ns k ks =
    tick BMIN ∷ tick greatest ∷ call k (arguments ks) ∷ tick greatest ∷ reload greatest ∷ other (foreign ns) ∷ []
