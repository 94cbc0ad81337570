-- The report of a script: what is printed over a pack, line by line, and how it ends.
use Rattle.std.specs.Prelude.{ℕ, ℤ, pos, List, [], ◌∷◌, ◌++◌, replicate, Bool, false, nat_eq, if◌then◌else◌}
use Rattle.std.specs.Prelude.{Option, Some, None, codes}
use Rattle.mc_nbt.specs.Tree.{Tree, int}
use Rattle.mc_nbt.specs.declared.value.Value.{Value}
use Rattle.mc_cmd.specs.Form.{Text}
use Rattle.mc_cmd.specs.Command.{Cmd}
use Rattle.mc_cmd.specs.Foreign.{first_own}
use Rattle.mc_cmd.specs.Layout.{Answer, running, answer, io_value}
use Rattle.mc_cmd.specs.Pack.{ExportType, Pack, call, tick, reload, other, Standing, happen, after_events}
use Rattle.app_words.specs.Act.{Act, ScriptLine}
use Rattle.app_words.specs.Act as act
use Rattle.app_words.specs.Arguments.{values_of_args, export_named}
use Rattle.app_words.specs.Lines.{show_text, globals_text, memory_text, dump_text, busy_line, last_line}

-- why a line is refused; of a command of somebody else, the first name in it that is the pack's; of several programs,
-- also that none has the namespace that the line says
pub data Cause : Type 0 where
  no_such_export : Cause
  wrong_arguments : Cause
  instance_is_dead : Cause
  names : Text → Cause
  no_such_program : Cause

-- how a script ends: at its end, or at the line of this number
pub data End : Type 0 where
  finished : End
  refused : ℕ → Cause → End

-- what one line does: it prints a text and leaves a standing, or is refused
pub data ActedOf (S : Type 0) : Type 0 where
  goes : Text → S → ActedOf S
  stops : Cause → ActedOf S

-- over one pack
abbrev pub Acted : Type 0
Acted = ActedOf Standing

-- what a pack answers where its play stands so
abbrev pub answer_of : Pack → Standing → Option Answer
answer_of pack s = answer pack.index.ns s.world

-- whether the state is 4, since the start function trapped
abbrev pub is_four : Option Tree → Bool
is_four (Some (int (pos n))) = nat_eq n 4
is_four o = false

abbrev pub is_dead : Pack → Standing → Bool
is_dead pack s = is_four (io_value pack.index.ns s.world (codes "state"))

-- a call of the export at a place, where the arguments stand for these values and the pack is dead or not
abbrev pub called_with : Pack → Standing → ℕ → Option (List Value) → Bool → Acted
called_with pack s k None dead = stops wrong_arguments
called_with pack s k (Some vs) dead = if dead then stops instance_is_dead else goes [] (happen pack s (call k vs))

-- a call of the first export of a name
abbrev pub called_found : Pack → Standing → List ℤ → Option (ℕ × ExportType) → Acted
called_found pack s args None = stops no_such_export
called_found pack s args (Some p) = called_with pack s p.0 (values_of_args p.1.params args) (is_dead pack s)

-- a call while the pack runs is none, whatever it names
abbrev pub called : Pack → Standing → Text → List ℤ → Option Answer → Acted
called pack s name args (Some running) = goes busy_line s
called pack s name args o = called_found pack s args (export_named name pack.index.exports)

-- a command of somebody else, where this is the first name in it that is the pack's
abbrev pub other_done : Pack → Standing → Cmd → Option Text → Acted
other_done pack s c None = goes [] (happen pack s (other c))
other_done pack s c (Some name) = stops (names name)

-- what an act does to a pack; where the program is is told by `WhereReport`, and nothing is printed of it here
abbrev pub acted : Pack → Act → Standing → Acted
acted pack (act.call name args) s = called pack s name args (answer_of pack s)
acted pack (act.tick b) s = goes [] (happen pack s (tick b))
acted pack (act.ticks n b) s = goes [] (after_events pack (replicate n (tick b)) s)
acted pack (act.reload b) s = goes [] (happen pack s (reload b))
acted pack (act.other c) s = other_done pack s c (first_own pack.index.ns c)
acted pack act.show s = goes (show_text pack.index.ns s.world) s
acted pack act.globals s = goes (globals_text pack.index.ns s.world) s
acted pack (act.memory at len) s = goes (memory_text pack.index.ns at len s.world) s
acted pack act.dump s = goes (dump_text pack.index.ns s.world) s
acted pack act.inspect s = goes [] s

-- what a script prints, and how it ends
pub record Reported : Type 0 where
  pub text : Text
  pub end : End

-- what a line of this number does, and then what is reported from the standing that it leaves; at a
-- refused line nothing more is printed
abbrev pub and_then : {S : Type 0} → ℕ → ActedOf S → (S → Reported) → Reported
and_then n (goes t s) rest = record { text = t ++ (rest s).text; end = (rest s).end }
and_then n (stops c) rest = record { text = []; end = refused n c }

-- the report of a script over a pack, from a standing on
abbrev pub report : Pack → List ScriptLine → Standing → Reported
report pack [] s = record { text = last_line s.ticks s.used; end = finished }
report pack (l ∷ ls) s = and_then l.line (acted pack l.act s) (report pack ls)
