-- When the lines that a script prints over a pack are what WebAssembly's reduction gives.
use Rattle.std.specs.Prelude.{◌≡◌, ◌⊎◌, ◌≤◌, ℕ, ◌+◌, ◌*◌, ℤ, List, [], ◌∷◌, ◌++◌, replicate, true, false, codes}
use Rattle.std.specs.Prelude.{Option, Some, None}
use Rattle.std.specs.Option.{option_to_list}
use Rattle.mc_nbt.specs.declared.value.Value.{Value}
use Rattle.mc_cmd.specs.Form.{Text}
use Rattle.mc_cmd.specs.Layout.{Answer, new, running, done, trap, dead, globals, memory}
use Rattle.mc_cmd.specs.Pack.{ExportType, Index, Pack, Event, call, tick, reload, other, Lawful, play}
use Rattle.mc_cmd.specs.World.{World}
use Rattle.wm_ast.specs.declared.answer.TrapKind.{TrapKind}
use Rattle.wm_ast.specs.declared.module.Module.{Module}
use Rattle.wm_ast.specs.After.{Ends, Traps, HasOutcome}
use Rattle.wm_ast.specs.Store.{Store}
use Rattle.cc_line.specs.Routine.{trap_number}
use Rattle.pk_agree.specs.Job.{Job, IsOverWithin, IsPresent}
use Rattle.app_words.specs.Act.{Act, ScriptLine}
use Rattle.app_words.specs.Act as act
use Rattle.app_words.specs.Arguments.{values_of_args, export_named}
use Rattle.app_words.specs.Lines.{ended_line, shown, shown_globals, shown_bytes, shown_rows, busy_line, last_line}
use Rattle.app_words.specs.Report.{Cause, finished, refused, stops, acted, Reported}

-- ---- what a job came to

-- the job isn't over within the steps that its credit pays for, which is 16 for each of them and 16 more
abbrev pub IsUnpaid : Module → Job → Type 0
IsUnpaid m j = (n : ℕ) → IsOverWithin m j n → 16 * (n + 1) ≤ j.credit → ⊥

-- What an answer says of a job, by the reduction, and of the store that the job left. `new`: instantiation has ended.
-- `done`: the call has ended, with just this value or with none. `trap`: the call has trapped so. `dead`: instantiation
-- has trapped so. `running`: the credit of the job doesn't pay for it yet, and no store is spoken of.
abbrev pub ComesTo : Module → Job → Answer → Option Store → Type 0
ComesTo m j new (Some s) = (j.instantiates ≡ true) × (vs : List Value) × HasOutcome m j.config (Ends vs s)
ComesTo m j (done v) (Some s) = (j.instantiates ≡ false) × HasOutcome m j.config (Ends (option_to_list v) s)
ComesTo m j (trap n) (Some s) =
    (j.instantiates ≡ false) × (k : TrapKind) × (n ≡ trap_number k) × HasOutcome m j.config (Traps k s)
ComesTo m j (dead n) (Some s) =
    (j.instantiates ≡ true) × (k : TrapKind) × (n ≡ trap_number k) × HasOutcome m j.config (Traps k s)
ComesTo m j running None = IsUnpaid m j
ComesTo m j _ _ = ⊥

-- Where a pack is after these events, which are lawful: at the job that stands then, which came to this answer and left
-- this store.
pub record Now (m : Module) (pack : Pack) (events : List Event) : Type 0 where
  pub lawful : Lawful pack.index events
  pub job : Job
  pub is_present : IsPresent m pack events job
  pub answer : Answer
  pub left : Option Store
  pub comes : ComesTo m job answer left

-- ---- what a line prints, and which events it makes

-- the globals and the memory that are shown: those of the store that was left, and while the pack runs what stands in
-- its world
abbrev pub globals_of : Text → World → Option Store → Option (List Value)
globals_of ns w (Some s) = Some s.globals
globals_of ns w None = globals ns w

abbrev pub memory_of : Text → World → Option Store → Option (List ℕ)
memory_of ns w (Some s) = Some s.memory
memory_of ns w None = memory ns w

-- a call of a pack that runs is left out, which is told
abbrev pub call_text : Answer → Text
call_text running = busy_line
call_text _ = []

-- what a line prints, by the answer, the globals and the memory
abbrev pub text_of : Answer → Option (List Value) → Option (List ℕ) → Act → Text
text_of a vs bytes (act.call name args) = call_text a
text_of a vs bytes act.show = shown (Some a)
text_of a vs bytes act.globals = shown_globals vs
text_of a vs bytes (act.memory at len) = shown_bytes at len bytes
text_of a vs bytes act.dump =
    shown (Some a) ++ (shown_globals vs ++ (shown_rows bytes ++ ended_line (codes "end")))
text_of a vs bytes _ = []

-- the event is a call of the first export of this name, with the values that the numbers stand for
pub record IsCall (index : Index) (name : Text) (args : List ℤ) (e : Event) : Type 0 where
  pub place : ℕ
  pub type : ExportType
  pub values : List Value
  pub named : export_named name index.exports ≡ Some (place, type)
  pub stood_for : values_of_args type.params args ≡ Some values
  pub is_event : e ≡ call place values

-- a call of a pack that runs makes no event
abbrev pub Calls : Index → Text → List ℤ → Answer → List Event → Type 0
Calls index name args running made = made ≡ []
Calls index name args _ made = (e : Event) × IsCall index name args e × (made ≡ e ∷ [])

-- the events that a line makes, by the answer
abbrev pub Makes : Index → Answer → Act → List Event → Type 0
Makes index a (act.call name args) made = Calls index name args a made
Makes index a (act.tick b) made = made ≡ tick b ∷ []
Makes index a (act.ticks n b) made = made ≡ replicate n (tick b)
Makes index a (act.reload b) made = made ≡ reload b ∷ []
Makes index a (act.other c) made = made ≡ other c ∷ []
Makes index a _ made = made ≡ []

-- A line of a script, after these events: it prints what the reduction has made of the job that stands then, and makes
-- events.
pub record LineTells (m : Module) (pack : Pack) (events : List Event) (a : Act) (text : Text) (made : List Event)
    : Type 0 where
  pub now : Now m pack events
  pub prints :
      let ns : Text = pack.index.ns in
      let w : World = (play pack events).world in
      text ≡ text_of now.answer (globals_of ns w now.left) (memory_of ns w now.left) a
  pub makes : Makes pack.index now.answer a made

-- ---- a whole script

-- a line is refused after these events: nothing more is printed, and the script ends there
abbrev pub IsStopped : Pack → List Event → ScriptLine → Reported → Type 0
IsStopped pack events l r =
    (c : Cause)
    × (acted pack l.act (play pack events) ≡ stops c)
    × (r ≡ record { text = []; end = refused l.line c })

-- the text of a line stands before what is reported of the lines after it
abbrev pub IsBefore : Text → Reported → Reported → Type 0
IsBefore text rest r = r ≡ record { text = text ++ rest.text; end = rest.end }

-- What is reported of these lines, after these events: the text of each line is what the reduction gives after the
-- events of the lines before it. Behind the last line both counts are printed.
abbrev pub TellsFrom : Module → Pack → List Event → List ScriptLine → Reported → Type 0
TellsFrom m pack events [] r =
    r ≡ record { text = last_line (play pack events).ticks (play pack events).used; end = finished }
TellsFrom m pack events (l ∷ ls) r =
    IsStopped pack events l r
    ⊎ ((text : Text) × (made : List Event) × (rest : Reported)
    × LineTells m pack events l.act text made
    × TellsFrom m pack (events ++ made) ls rest
    × IsBefore text rest r)

-- What is reported of a script, from the loading of the pack on, is what the reduction of the module gives, line by
-- line.
abbrev pub TellsReduction : Module → Pack → List ScriptLine → Reported → Type 0
TellsReduction m pack ls r = TellsFrom m pack [] ls r
