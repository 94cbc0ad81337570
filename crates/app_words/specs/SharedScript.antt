-- Scripts over several programs: what their lines do, how they are spelled, and what a whole script says.
use Rattle.std.specs.Prelude.{ℕ, ◌*◌, Bool, true, false, not, ◌&&◌, Option, None, option_map, codes}
use Rattle.std.specs.Option.{option_or}
use Rattle.mc_cmd.specs.declared.TheConstants.{BMIN}
use Rattle.mc_cmd.specs.Form.{Text, Last, word, spaced, after, follow}
use Rattle.mc_cmd.specs.Word.{is_namespace}
use Rattle.app_words.specs.Act.{Act, LineOf}
use Rattle.app_words.specs.Act as act
use Rattle.app_words.specs.Script.{act_text, act_fits, call_form, call_of, print_read, turn_read, is_low}
use Rattle.app_words.specs.Script.{ScriptRead, lines_read, texts_of}

-- an act for all programs, or one of the program that has a namespace
pub data SharedAct : Type 0 where
  for_all : Act → SharedAct
  within : Text → Act → SharedAct

-- a line of a script over several programs
abbrev pub SharedLine : Type 0
SharedLine = LineOf SharedAct

-- the acts for all: ticks, a reload, and a command of somebody else; calls, and what prints, are of one program
abbrev pub is_for_all : Act → Bool
is_for_all (act.tick b) = true
is_for_all (act.ticks n b) = true
is_for_all (act.reload b) = true
is_for_all (act.other c) = true
is_for_all a = false

-- the least budget of so many programs
abbrev pub least_of : ℕ → ℕ
least_of n = BMIN * n

-- the acts for all of n programs
abbrev pub all_fits : ℕ → Act → Bool
all_fits n a = is_for_all a && act_fits (least_of n) a

abbrev pub all_form : ℕ → Last Act
all_form n = record { text = act_text; fits = all_fits n; read = turn_read (least_of n) }

-- the acts of one program
abbrev pub own_fits : Act → Bool
own_fits a = not (is_for_all a) && act_fits BMIN a

abbrev pub own_read : Text → Option Act
own_read t = option_or (option_map call_of (call_form.read t)) (print_read t)

abbrev pub own_form : Last Act
own_form = record { text = act_text; fits = own_fits; read = own_read }

-- `in NS` before such an act
abbrev pub in_form : Last (Text × Act)
in_form = after (codes "in ") (follow (spaced (word is_namespace)) own_form)

abbrev pub within_of : Text × Act → SharedAct
within_of p = within p.0 p.1

-- the one text of an act of a script over n programs, which acts have one, and the act that a text spells
abbrev pub shared_text : SharedAct → Text
shared_text (for_all a) = act_text a
shared_text (within ns a) = in_form.text (ns, a)

abbrev pub shared_fits : ℕ → SharedAct → Bool
shared_fits n (for_all a) = all_fits n a
shared_fits n (within ns a) = in_form.fits (ns, a)

abbrev pub shared_read : ℕ → Text → Option SharedAct
shared_read n t =
    option_or (option_map (λ a. for_all a) ((all_form n).read t))
    (option_or (option_map within_of (in_form.read t)) None)

-- the form of acts of scripts over n programs
abbrev pub shared_acts : ℕ → Last SharedAct
shared_acts n = record { text = shared_text; fits = shared_fits n; read = shared_read n }

-- what a script over n programs says: its lines are numbered from 1
abbrev pub shared_script_read : ℕ → Text → ScriptRead SharedAct
shared_script_read n t = lines_read (shared_read n) (is_low (least_of n)) 1 (texts_of t)
