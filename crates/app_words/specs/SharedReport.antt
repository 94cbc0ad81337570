-- The report of a script over several programs: what is printed over the packs of one world, line by line, and how it
-- ends. A program is shown as one that is alone.
use Rattle.std.specs.Prelude.{ℕ, zero, suc, ◌+◌, ℤ, List, [], ◌∷◌, replicate, length, map, Bool}
use Rattle.std.specs.Prelude.{if◌then◌else◌, Option, Some, None, codes, find, position, slice_get}
use Rattle.std.specs.List.{list_any}
use Rattle.std.specs.Str.{bytes_eq}
use Rattle.mc_nbt.specs.declared.value.Value.{Value}
use Rattle.mc_cmd.specs.Form.{Text}
use Rattle.mc_cmd.specs.Command.{Cmd, plain, execute}
use Rattle.mc_cmd.specs.Foreign.{is_own, simple_names}
use Rattle.mc_cmd.specs.Layout.{Answer, running, answer, io_value}
use Rattle.mc_cmd.specs.Pack.{ExportType, Pack, counted}
use Rattle.mc_cmd.specs.World.{World}
use Rattle.mc_together.specs.Together.{Count, Standing, call, tick, reload, other, happen, after_events}
use Rattle.app_words.specs.Act.{Act}
use Rattle.app_words.specs.Act as act
use Rattle.app_words.specs.Arguments.{values_of_args, export_named}
use Rattle.app_words.specs.Lines.{show_text, globals_text, memory_text, dump_text, busy_line, last_line}
use Rattle.app_words.specs.Report.{no_such_program, no_such_export, wrong_arguments, instance_is_dead, names}
use Rattle.app_words.specs.Report.{finished, ActedOf, goes, stops, is_four, Reported, and_then}
use Rattle.app_words.specs.SharedScript.{SharedAct, for_all, within, SharedLine}

-- the place of the program that has a namespace
abbrev pub place_of : Text → List Pack → Option ℕ
place_of ns ps = position (λ p. bytes_eq p.index.ns ns) ps

-- whether a program can't be called, since its start function trapped
abbrev pub dead_in : Text → World → Bool
dead_in ns w = is_four (io_value ns w (codes "state"))

-- a call of the export at place k of the program at place i, where the arguments stand for these values and the program
-- is dead or not
abbrev pub called_with : List Pack → Standing → ℕ → ℕ → Option (List Value) → Bool → ActedOf Standing
called_with ps s i k None dead = stops wrong_arguments
called_with ps s i k (Some vs) dead = if dead then stops instance_is_dead else goes [] (happen ps s (call i k vs))

-- a call of the first export of a name
abbrev pub called_found : List Pack → Standing → ℕ → Text → List ℤ → Option (ℕ × ExportType) → ActedOf Standing
called_found ps s i ns args None = stops no_such_export
called_found ps s i ns args (Some e) = called_with ps s i e.0 (values_of_args e.1.params args) (dead_in ns s.world)

-- a call while the program runs is none, whatever it names
abbrev pub called : List Pack → Standing → ℕ → Pack → Text → List ℤ → Option Answer → ActedOf Standing
called ps s i p name args (Some running) = goes busy_line s
called ps s i p name args o = called_found ps s i p.index.ns args (export_named name p.index.exports)

-- what an act of one program does, which is the one at this place, if one is there
abbrev pub own_acted : List Pack → Act → Standing → ℕ → Option Pack → ActedOf Standing
own_acted ps a s i None = stops no_such_program
own_acted ps (act.call name args) s i (Some p) = called ps s i p name args (answer p.index.ns s.world)
own_acted ps act.show s i (Some p) = goes (show_text p.index.ns s.world) s
own_acted ps act.globals s i (Some p) = goes (globals_text p.index.ns s.world) s
own_acted ps (act.memory at len) s i (Some p) = goes (memory_text p.index.ns at len s.world) s
own_acted ps act.dump s i (Some p) = goes (dump_text p.index.ns s.world) s
own_acted ps a s i (Some p) = goes [] s

abbrev pub acted_within : List Pack → Act → Standing → Option ℕ → ActedOf Standing
acted_within ps a s None = stops no_such_program
acted_within ps a s (Some i) = own_acted ps a s i (slice_get ps i)

-- whether a name is one of any of these packs
abbrev pub is_own_of : List Pack → Text → Bool
is_own_of ps name = list_any (λ ns. is_own ns name) (map (λ p. p.index.ns) ps)

-- the first name in a command that is one of any of these packs
abbrev pub first_own_of : List Pack → Cmd → Option Text
first_own_of ps (plain s) = find (is_own_of ps) (simple_names s)
first_own_of ps (execute ss s) = find (is_own_of ps) (simple_names s)

-- a command of somebody else, where this is the first name in it that is a pack's
abbrev pub other_done : List Pack → Standing → Cmd → Option Text → ActedOf Standing
other_done ps s c None = goes [] (happen ps s (other c))
other_done ps s c (Some name) = stops (names name)

-- what an act for all does
abbrev pub acted_for_all : List Pack → Act → Standing → ActedOf Standing
acted_for_all ps (act.tick b) s = goes [] (happen ps s (tick b))
acted_for_all ps (act.ticks n b) s = goes [] (after_events ps (replicate n (tick b)) s)
acted_for_all ps (act.reload b) s = goes [] (happen ps s (reload b))
acted_for_all ps (act.other c) s = other_done ps s c (first_own_of ps c)
acted_for_all ps a s = goes [] s

-- what a line does: an act for all, or one of the program that has a namespace
abbrev pub shared_acted : List Pack → SharedAct → Standing → ActedOf Standing
shared_acted ps (for_all a) s = acted_for_all ps a s
shared_acted ps (within ns a) s = acted_within ps a s (place_of ns ps)

-- the weight that the chains of the first n programs used, at most the last number of 128 bits
abbrev pub sum_used : (ℕ → Count) → ℕ → ℕ
sum_used counts zero = 0
sum_used counts (suc n) = sum_used counts n + (counts n).used

abbrev pub used_by_all : List Pack → Standing → ℕ
used_by_all ps s = counted (sum_used s.counts (length ps))

-- the report of a script over several programs, from a standing on
abbrev pub shared_report : List Pack → List SharedLine → Standing → Reported
shared_report ps [] s = record { text = last_line s.ticks (used_by_all ps s); end = finished }
shared_report ps (l ∷ ls) s = and_then l.line (shared_acted ps l.act s) (shared_report ps ls)
