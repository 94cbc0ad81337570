-- Packs, the events that drive them, and their play.
use Rattle.std.specs.Prelude.{◌≡◌, ◌≤◌, ℕ, ◌+◌, ◌-◌, ◌/◌, ◌^◌, min, ℤ, pos, negsuc, List, [], ◌∷◌, Option, Some, None}
use Rattle.std.specs.Prelude.{Bool, true, false, ◌||◌, map, codes, length, slice_get}
use Rattle.std.specs.Fmt.{decimal}
use Rattle.std.specs.Int.{w32, int_wrap}
use Rattle.std.specs.List.{AllByRecursion, list_all}
use Rattle.std.specs.Option.{option_or}
use Rattle.mc_nbt.specs.Tree.{Tree, int, list_of, key}
use Rattle.mc_nbt.specs.Value.{kind_of, is_value}
use Rattle.mc_nbt.specs.declared.value.Kind.{Kind}
use Rattle.mc_nbt.specs.declared.value.Value.{Value}
use Rattle.mc_nbt.specs.declared.value.Value.TheVariants as value
use Rattle.mc_cmd.specs.declared.TheConstants.{BMIN, LOAD_QUOTA}
use Rattle.mc_cmd.specs.Form.{Text}
use Rattle.mc_cmd.specs.Command.{Cmd, set_value}
use Rattle.mc_cmd.specs.Grammar.{cmd_fits}
use Rattle.mc_cmd.specs.World.{World, empty_world, with_rule, effect, cmd_effect}
use Rattle.mc_cmd.specs.Chain.{Functions, Ended, chain_from}
use Rattle.mc_cmd.specs.Foreign.{is_foreign, first_own}
use Rattle.mc_cmd.specs.Layout.{full_name, io_of}

-- the type of an exported function: its name, the kinds of its parameters, and that of its result
pub record ExportType : Type 0 where
  pub name : Text
  pub params : List Kind
  pub result : Option Kind

-- the bytes of an export's name, and its parameters
abbrev pub export_weight : ExportType → ℕ
export_weight e = length e.name + length e.params

-- the namespace of a pack, and its exported functions in their order
pub record Index : Type 0 where
  pub ns : Text
  pub exports : List ExportType

-- a pack: its index, and the lines of its functions by their full names
pub record Pack : Type 0 where
  pub index : Index
  pub functions : Functions

-- the functions of a list of packs: those of the first one that has a function of this full name
abbrev pub functions_of : List Pack → Functions
functions_of [] = λ f. None
functions_of (p ∷ ps) = λ f. option_or (p.functions f) (functions_of ps f)

-- a call of an exported function by its place in the index, a tick with a budget, a reload with a budget, or a command
-- of somebody else
pub data Event : Type 0 where
  call : ℕ → List Value → Event
  tick : ℕ → Event
  reload : ℕ → Event
  other : Cmd → Event

-- a call names an export and hands in arguments of its kinds, each in the signed range of its kind
abbrev pub IsCallOf : Option ExportType → List Value → Type 0
IsCallOf None args = ⊥
IsCallOf (Some e) args = (map kind_of args ≡ e.params) × (list_all is_value args ≡ true)

-- the budgets of a tick and of a reload
abbrev pub IsBudget : ℕ → Type 0
IsBudget b = (BMIN ≤ b) × (b ≤ 2 ^ 31 - 1)

-- a command of the grammar that is one of scores or of storages, and names nothing of the namespace
pub record IsForeign (ns : Text) (c : Cmd) : Type 0 where
  pub fits : cmd_fits c ≡ true
  pub foreign : is_foreign c ≡ true
  pub apart : first_own ns c ≡ None

-- a call is one of an export; a budget is from BMIN to 2^31 - 1; a command of somebody else keeps off the pack's names
abbrev pub IsLawful : Index → Event → Type 0
IsLawful index (call k args) = IsCallOf (slice_get index.exports k) args
IsLawful index (tick b) = IsBudget b
IsLawful index (reload b) = IsBudget b
IsLawful index (other c) = IsForeign index.ns c

abbrev pub Lawful : Index → List Event → Type 0
Lawful index events = AllByRecursion (IsLawful index) events

-- where the play of a pack stands: the world, the number of ticks, the weight used by all chains, and
-- whether one of them was cut
pub record Standing : Type 0 where
  pub world : World
  pub ticks : ℕ
  pub used : ℕ
  pub cut : Bool

-- both counts stay at the last number of 128 bits
abbrev pub counted : ℕ → ℕ
counted n = min n (2 ^ 128 - 1)

abbrev pub after_chain : Standing → ℕ → ℕ → Ended → Standing
after_chain s ticks quota e = record {
  world = e.world;
  ticks = counted (s.ticks + ticks);
  used = counted (s.used + (quota - e.left));
  cut = s.cut || e.cut;
}

-- the high half of a 64-bit number
abbrev pub high_half : ℤ → ℤ
high_half (pos n) = pos (n / 2 ^ 32)
high_half (negsuc n) = negsuc (n / 2 ^ 32)

-- the ints of the arguments: an i32 is one, an i64 its low and its high half
abbrev pub ints_of : List Value → List Tree
ints_of [] = []
ints_of (value.I32 z ∷ vs) = int z ∷ ints_of vs
ints_of (value.I64 z ∷ vs) = int (int_wrap w32 z) ∷ int (high_half z) ∷ ints_of vs

-- the arguments of a call, as a `set value` puts them into the storage
abbrev pub with_args : Text → List Value → World → World
with_args ns args w = (effect (set_value (io_of ns) (key (codes "args") ∷ []) (list_of (ints_of args))) w).world

-- the chain of a pack's function, over a world
abbrev pub chain_in : Pack → Text → ℕ → World → Ended
chain_in pack name quota w = chain_from pack.functions (full_name pack.index.ns name) quota w

-- What an event does. A call sets its arguments and runs the function `c` and its place, with the quota BMIN. A tick
-- and a reload set the rule and run `tick` or `load`, with the budget as quota. A command of somebody else is no chain
-- and has no weight.
abbrev pub happen : Pack → Standing → Event → Standing
happen pack s (call k args) =
    after_chain s 0 BMIN (chain_in pack (99 ∷ decimal k) BMIN (with_args pack.index.ns args s.world))
happen pack s (tick b) = after_chain s 1 b (chain_in pack (codes "tick") b (with_rule s.world (pos b)))
happen pack s (reload b) = after_chain s 0 b (chain_in pack (codes "load") b (with_rule s.world (pos b)))
happen pack s (other c) = record s { world = (cmd_effect c s.world).world }

-- a pack after it is loaded
abbrev pub loaded : Pack → Standing
loaded pack =
    let nothing : Standing = record { world = empty_world; ticks = 0; used = 0; cut = false } in
    after_chain nothing 0 LOAD_QUOTA (chain_in pack (codes "load") LOAD_QUOTA empty_world)

-- a pack after these events, from a standing on
abbrev pub after_events : Pack → List Event → Standing → Standing
after_events pack [] s = s
after_events pack (e ∷ es) s = after_events pack es (happen pack s e)

-- the play of a pack
abbrev pub play : Pack → List Event → Standing
play pack events = after_events pack events (loaded pack)
