-- The parts of the play of a script, as the private functions do them.
use Rattle.std.specs.Prelude.{◌≡◌, ◌⊎◌, ℕ, ℤ, List, [], Bool, true, false, map, slice_get}
use Rattle.std.specs.Prelude.{Option, Some, None, Result, Ok, Err}
use Rattle.std.specs.declared.vec.Vec.{Vec}
use Rattle.std.specs.declared.alloc.Global.{Global}
use Rattle.mc_nbt.specs.Value.{kind_of}
use Rattle.mc_nbt.specs.declared.value.Value.{Value}
use Rattle.mc_cmd.specs.Pack.{ExportType, Index}
use Rattle.app_words.specs.Arguments.{export_named, values_of_args}
use Rattle.app_play.specs.declared.fault.Cause.TheVariants as told
use Rattle.io_dev.specs.Sink.{SinkState, append, AppendFailed, IsPartlyAppended}
use Rattle.mc_cmd.specs.Form.{Text}
use Rattle.mc_cmd.specs.World.{World}
use Rattle.app_words.specs.Act.{Act}
use Rattle.app_words.specs.Act as act
use Rattle.app_words.specs.Lines.{show_text, globals_text, memory_text, dump_text}
use Rattle.app_words.specs.Report.{Acted, goes, stops}
use Rattle.app_words.specs.WhereReport.{IsActed}
use Rattle.mc_tick.specs.State.{State}
use Rattle.mc_tick.specs.StateView.{IsResumed}
use Rattle.mc_tick.specs.declared.resumed.Resumed.{Resumed}
use Rattle.app_play.specs.Play.{cause_view}
use Rattle.app_play.specs.declared.fault.PlayFault.{PlayFault}
use Rattle.app_play.specs.declared.fault.PlayFault.TheVariants as faults

-- a text was written, or a prefix of it at a fault of the sink or at want of memory
abbrev pub IsSaid : Text → SinkState → SinkState → Result (Unit {0}) PlayFault → Type 0
IsSaid t before after (Ok u) = after ≡ append before t
IsSaid t before after (Err faults.Output) = AppendFailed before after t
IsSaid t before after (Err faults.Memory) = IsPartlyAppended before after t
IsSaid t before after (Err (faults.Refused line cause)) = ⊥

-- an event of a line, which prints nothing: it happened, or the line of this number was refused, or there was no memory
abbrev pub IsMade : State → Acted → ℕ → Result Resumed PlayFault → Type 0
IsMade st (goes t s) n (Ok r) = (t ≡ []) × IsResumed (record st { standing = s }) r
IsMade st (stops c) n (Ok r) = ⊥
IsMade st (goes t s) n (Err (faults.Refused line told)) = ⊥
IsMade st (stops c) n (Err (faults.Refused line told)) = (line ≡ n) × (cause_view told ≡ c)
IsMade st a n (Err faults.Output) = ⊥
IsMade st a n (Err faults.Memory) = Unit {0}

-- what a line prints
abbrev pub text_of : Acted → Text
text_of (goes t s) = t
text_of (stops c) = []

-- a line did what it does, was refused with its number and cause, or was left with a prefix of its text
abbrev pub IsStep : State → Acted → ℕ → Result Resumed PlayFault → SinkState → SinkState → Type 0
IsStep st (goes t s) n (Ok r) before after = IsResumed (record st { standing = s }) r × (after ≡ append before t)
IsStep st (stops c) n (Ok r) before after = ⊥
IsStep st (goes t s) n (Err (faults.Refused line told)) before after = ⊥
IsStep st (stops c) n (Err (faults.Refused line told)) before after =
    (line ≡ n) × (cause_view told ≡ c) × (after ≡ before)
IsStep st a n (Err faults.Output) before after = AppendFailed before after (text_of a)
IsStep st a n (Err faults.Memory) before after = IsPartlyAppended before after (text_of a)

-- whether an act prints what the pack shows, and whether it is an event that prints nothing
abbrev pub is_print : Act → Bool
is_print act.show = true
is_print act.globals = true
is_print (act.memory at len) = true
is_print act.dump = true
is_print a = false

abbrev pub is_quiet : Act → Bool
is_quiet (act.tick b) = true
is_quiet (act.ticks n b) = true
is_quiet (act.reload b) = true
is_quiet (act.other c) = true
is_quiet a = false

-- whether it asks where the program is
abbrev pub is_where : Act → Bool
is_where act.inspect = true
is_where a = false

-- what an act prints that shows what the pack shows
abbrev pub printed : Text → World → Act → Text
printed ns w act.show = show_text ns w
printed ns w act.globals = globals_text ns w
printed ns w (act.memory at len) = memory_text ns at len w
printed ns w act.dump = dump_text ns w
printed ns w a = []

-- A text was said that may be printed where the program is asked after, or not whole. Or there was no memory for one.
abbrev pub IsLocated :
    (Text → World → Text → Type 0) → State → SinkState → SinkState → Result (Unit {0}) PlayFault → Type 0
IsLocated May s before after r =
    ((r ≡ Err faults.Memory) × (after ≡ before))
    ⊎ ((t : Text) × May s.pack.index.ns s.standing.world t × IsSaid t before after r)

-- A line of this number did what it does, or was refused or left. Or there was no memory for what it prints.
abbrev pub IsStepped :
    (Text → World → Text → Type 0) → State → Act → ℕ → Result Resumed PlayFault → SinkState → SinkState → Type 0
IsStepped May s a n r before after =
    ((r ≡ Err faults.Memory) × (after ≡ before))
    ⊎ ((x : Acted) × IsActed May s.pack a s.standing x × IsStep s x n r before after)

-- values for the parameters of an export
abbrev pub FitsExport : Option ExportType → List Value → Type 0
FitsExport None vs = ⊥
FitsExport (Some e) vs = map kind_of vs ≡ e.params

-- the place of the first export of a name and the values of the arguments for it, or why the line of this number is
-- refused
abbrev pub IsPrepared : Index → ℕ → Text → List ℤ → Result (ℕ × Vec Value Global) PlayFault → Type 0
IsPrepared i n name args (Ok v) =
    (e : ExportType)
    × (export_named name i.exports ≡ Some (v.0, e))
    × (values_of_args e.params args ≡ Some v.1.items)
    × (slice_get i.exports v.0 ≡ Some e)
IsPrepared i n name args (Err (faults.Refused line told.NoSuchExport)) =
    (line ≡ n) × (export_named name i.exports ≡ None)
IsPrepared i n name args (Err (faults.Refused line told.WrongArguments)) =
    (line ≡ n)
    × ((k : ℕ) × (e : ExportType)
    × (export_named name i.exports ≡ Some (k, e)) × (values_of_args e.params args ≡ None))
IsPrepared i n name args (Err faults.Memory) = Unit {0}
IsPrepared i n name args (Err fault) = ⊥
