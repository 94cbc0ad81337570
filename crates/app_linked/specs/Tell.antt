-- When the lines that a script prints over the pack of a joined module are what the reduction of the linked modules
-- gives: as `Tell` of `app_tell`.
use Rattle.std.specs.Prelude.{◌≡◌, ◌⊎◌, ◌≤◌, ℕ, ◌+◌, ◌*◌, List, [], ◌∷◌, ◌++◌, true, false, Option, Some, None}
use Rattle.std.specs.Prelude.{option_map}
use Rattle.std.specs.Option.{option_to_list}
use Rattle.mc_nbt.specs.declared.value.Value.{Value}
use Rattle.mc_cmd.specs.Form.{Text}
use Rattle.mc_cmd.specs.Layout.{Answer, new, running, done, trap, dead}
use Rattle.mc_cmd.specs.Pack.{Pack, Event, Lawful, play}
use Rattle.mc_cmd.specs.World.{World}
use Rattle.wm_ast.specs.declared.answer.TrapKind.{TrapKind}
use Rattle.wm_ast.specs.Store as one_store
use Rattle.cc_line.specs.Routine.{trap_number}
use Rattle.wm_match.specs.Program.{Program}
use Rattle.wm_join.specs.Image.{image_store}
use Rattle.wm_join.specs.LinkedAfter.{Ends, Traps, HasOutcome}
use Rattle.wm_join.specs.LinkedStore.{Store}
use Rattle.app_words.specs.Act.{Act, ScriptLine}
use Rattle.app_words.specs.Lines.{last_line}
use Rattle.app_words.specs.Report.{finished, Reported}
use Rattle.app_tell.specs.Tell.{IsBefore, IsStopped, Makes, globals_of, memory_of, text_of}
use Rattle.app_linked.specs.Job.{Job, IsOverWithin, IsPresent}

-- ---- what a job came to

-- the job isn't over within the steps that its credit pays for, which is 16 for each of them and 16 more
abbrev pub IsUnpaid : Program → Job → Type 0
IsUnpaid p j = (n : ℕ) → IsOverWithin p j n → 16 * (n + 1) ≤ j.credit → ⊥

-- What an answer says of a job, by the linked reduction, and of the store that the job left. `new`: instantiation has
-- ended. `done`: the call has ended, with just this value or with none. `trap`: the call has trapped so. `dead`:
-- instantiation has trapped so. `running`: the credit of the job doesn't pay for it yet, and no store is spoken of.
abbrev pub ComesTo : Program → Job → Answer → Option Store → Type 0
ComesTo p j new (Some s) = (j.instantiates ≡ true) × (vs : List Value) × HasOutcome p j.config (Ends vs s)
ComesTo p j (done v) (Some s) = (j.instantiates ≡ false) × HasOutcome p j.config (Ends (option_to_list v) s)
ComesTo p j (trap n) (Some s) =
    (j.instantiates ≡ false) × (k : TrapKind) × (n ≡ trap_number k) × HasOutcome p j.config (Traps k s)
ComesTo p j (dead n) (Some s) =
    (j.instantiates ≡ true) × (k : TrapKind) × (n ≡ trap_number k) × HasOutcome p j.config (Traps k s)
ComesTo p j running None = IsUnpaid p j
ComesTo p j _ _ = ⊥

-- Where the pack is after these events, which are lawful: at the job that stands then, which came to this answer and
-- left this store.
pub record Now (p : Program) (pack : Pack) (events : List Event) : Type 0 where
  pub lawful : Lawful pack.index events
  pub job : Job
  pub is_present : IsPresent p pack events job
  pub answer : Answer
  pub left : Option Store
  pub comes : ComesTo p job answer left

-- ---- what a line prints, and which events it makes

-- what is shown of a store: the globals of the modules stand one after the other
abbrev pub shown_store : Program → Option Store → Option one_store.Store
shown_store p s = option_map (image_store p) s

-- A line of a script, after these events: it prints what the linked reduction has made of the job that stands then, and
-- makes events.
pub record LineTells (p : Program) (pack : Pack) (events : List Event) (a : Act) (text : Text) (made : List Event)
    : Type 0 where
  pub now : Now p pack events
  pub prints :
      let ns : Text = pack.index.ns in
      let w : World = (play pack events).world in
      let left : Option one_store.Store = shown_store p now.left in
      text ≡ text_of now.answer (globals_of ns w left) (memory_of ns w left) a
  pub makes : Makes pack.index now.answer a made

-- ---- a whole script

-- What is reported of these lines, after these events: the text of each line is what the linked reduction gives after
-- the events of the lines before it. Behind the last line both counts are printed.
abbrev pub TellsFrom : Program → Pack → List Event → List ScriptLine → Reported → Type 0
TellsFrom p pack events [] r =
    r ≡ record { text = last_line (play pack events).ticks (play pack events).used; end = finished }
TellsFrom p pack events (l ∷ ls) r =
    IsStopped pack events l r
    ⊎ ((text : Text) × (made : List Event) × (rest : Reported)
    × LineTells p pack events l.act text made
    × TellsFrom p pack (events ++ made) ls rest
    × IsBefore text rest r)

-- What is reported of a script, from the loading of the pack on, is what the reduction of the linked modules gives,
-- line by line.
abbrev pub TellsLinked : Program → Pack → List ScriptLine → Reported → Type 0
TellsLinked p pack ls r = TellsFrom p pack [] ls r
