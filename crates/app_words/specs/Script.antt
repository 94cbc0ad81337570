-- Scripts: the lines that drive a pack, how they are spelled, and what a whole script says.
use Rattle.std.specs.Prelude.{◌≡◌, ℕ, zero, suc, ◌+◌, ◌^◌, ℤ, pos, negsuc, List, [], ◌∷◌, length, map, codes}
use Rattle.std.specs.Prelude.{nat_eq, nat_lt, nat_le, Bool, true, false, ◌&&◌, ◌||◌, if◌then◌else◌}
use Rattle.std.specs.Prelude.{Option, Some, None, option_map, option_and_then, is_some}
use Rattle.std.specs.Option.{option_or}
use Rattle.std.specs.List.{list_all, slice_split, join_with_byte}
use Rattle.std.specs.Fmt.{decimal, signed_decimal}
use Rattle.std.specs.Str.{is_utf8}
use Rattle.std.specs.Str.Parse.{digits_value}
use Rattle.mc_cmd.specs.declared.TheConstants.{BMIN}
use Rattle.mc_cmd.specs.Form.{Text, Last, word, spaced, after, follow, guessed}
use Rattle.mc_cmd.specs.Command.{Cmd, Line, command}
use Rattle.mc_cmd.specs.Grammar.{cmd_text, cmd_fits, line_said, most}
use Rattle.mc_cmd.specs.Foreign.{is_foreign}
use Rattle.app_words.specs.Act.{Act, LineOf}
use Rattle.app_words.specs.Act as act

-- a value, where it passes a test
abbrev pub only : {A : Type 0} → (A → Bool) → A → Option A
only p a = if p a then Some a else None

-- a form of which only the values are taken that pass a test
abbrev pub limited : {A : Type 0} → Last A → (A → Bool) → Last A
limited l p = record { text = l.text; fits = λ a. l.fits a && p a; read = λ t. option_and_then (only p) (l.read t) }

-- a fixed text, which is all of what is left
abbrev pub fixed : Text → Last (Unit {0})
fixed w = guessed (λ u. w) (λ u. true) (λ t. tt)

-- a number of at most 20 decimal digits, without leading zeros and without sign
abbrev pub has_few_digits : ℕ → Bool
has_few_digits n = nat_lt n (10 ^ 20)

unfoldable pub digits_number : Text → ℕ
digits_number w = digits_value 10 w

abbrev pub digits : Last ℕ
digits = guessed decimal has_few_digits digits_number

-- an argument: such a number, or the negative of one that isn't 0, with `-` before it
abbrev pub is_argument : ℤ → Bool
is_argument (pos n) = has_few_digits n
is_argument (negsuc n) = has_few_digits (suc n)

abbrev pub negative : ℕ → Option ℤ
negative zero = None
negative (suc n) = Some (negsuc n)

abbrev pub argument_read : Text → Option ℤ
argument_read [] = None
argument_read (b ∷ w) =
    if nat_eq b 45 then option_and_then negative (digits.read w) else option_map pos (digits.read (b ∷ w))

abbrev pub argument : Last ℤ
argument = record { text = signed_decimal; fits = is_argument; read = argument_read }

-- how often: from 1 to 1,000,000
abbrev pub is_count : ℕ → Bool
is_count n = nat_le 1 n && nat_le n 1000000

abbrev pub count : Last ℕ
count = limited digits is_count

-- a budget is from a least one, which for one pack is BMIN, to 2147483647; a lower number is too low for one
abbrev pub is_budget : ℕ → ℕ → Bool
is_budget least n = nat_le least n && nat_le n 2147483647

abbrev pub budget : ℕ → Last ℕ
budget least = limited digits (is_budget least)

abbrev pub is_low_budget : ℕ → ℕ → Bool
is_low_budget least n = nat_lt n least

abbrev pub low_budget : ℕ → Last ℕ
low_budget least = limited digits (is_low_budget least)

-- an address is a number of 32 bits; so many bytes are printed: from 1 to 65,536
abbrev pub is_address : ℕ → Bool
is_address n = nat_le n 4294967295

abbrev pub address : Last ℕ
address = limited digits is_address

abbrev pub is_byte_count : ℕ → Bool
is_byte_count n = nat_le 1 n && nat_le n 65536

abbrev pub byte_count : Last ℕ
byte_count = limited digits is_byte_count

-- at least one byte, and none below 33
abbrev pub is_visible : Text → Bool
is_visible w = nat_le 1 (length w) && list_all (λ b. nat_le 33 b) w

-- the name of an export: UTF-8 with at least one byte and none below 33
unfoldable pub is_export_name : Text → Bool
is_export_name w = is_utf8 w && is_visible w

abbrev pub export_name : Last Text
export_name = word is_export_name

-- words, each of which spells an argument
abbrev pub argument_before : Option ℤ → Option (List ℤ) → Option (List ℤ)
argument_before (Some z) (Some zs) = Some (z ∷ zs)
argument_before o p = None

abbrev pub arguments_read : List Text → Option (List ℤ)
arguments_read [] = Some []
arguments_read (w ∷ ws) = argument_before (argument.read w) (arguments_read ws)

-- a name and arguments, divided by one space
abbrev pub called_words : List Text → Option (Text × List ℤ)
called_words [] = None
called_words (w ∷ ws) = option_and_then (λ name. option_map (λ zs. (name, zs)) (arguments_read ws)) (export_name.read w)

abbrev pub called : Last (Text × List ℤ)
called = record {
  text = λ p. join_with_byte 32 (p.0 ∷ map signed_decimal p.1);
  fits = λ p. is_export_name p.0 && list_all is_argument p.1;
  read = λ t. called_words (slice_split (λ b. nat_eq b 32) t);
}

-- a command of the grammar that is one of scores or of storages
abbrev pub foreign_said : Option Line → Option Cmd
foreign_said (Some (command c)) = only is_foreign c
foreign_said o = None

abbrev pub foreign : Last Cmd
foreign = record {
  text = cmd_text;
  fits = λ c. is_foreign c && (cmd_fits c && nat_le (length (cmd_text c)) most);
  read = λ t. foreign_said (line_said t);
}

-- `call NAME ARG ..`
abbrev pub call_form : Last (Text × List ℤ)
call_form = after (codes "call ") called

-- `tick B`, `ticks N B` and `reload B`, by the form of B
abbrev pub tick_form : Last ℕ → Last ℕ
tick_form b = after (codes "tick ") b

abbrev pub ticks_form : Last ℕ → Last (ℕ × ℕ)
ticks_form b = after (codes "ticks ") (follow (spaced count) b)

abbrev pub reload_form : Last ℕ → Last ℕ
reload_form b = after (codes "reload ") b

-- `other COMMAND`
abbrev pub other_form : Last Cmd
other_form = after (codes "other ") foreign

-- `show` and `globals`
abbrev pub show_form : Last (Unit {0})
show_form = fixed (codes "show")

abbrev pub globals_form : Last (Unit {0})
globals_form = fixed (codes "globals")

-- `memory ADDR LEN`
abbrev pub memory_form : Last (ℕ × ℕ)
memory_form = after (codes "memory ") (follow (spaced address) byte_count)

-- `dump`
abbrev pub dump_form : Last (Unit {0})
dump_form = fixed (codes "dump")

-- `where`
abbrev pub where_form : Last (Unit {0})
where_form = fixed (codes "where")

abbrev pub call_of : Text × List ℤ → Act
call_of p = act.call p.0 p.1

abbrev pub ticks_of : ℕ × ℕ → Act
ticks_of p = act.ticks p.0 p.1

abbrev pub memory_of : ℕ × ℕ → Act
memory_of p = act.memory p.0 p.1

-- the one text of an act
abbrev pub act_text : Act → Text
act_text (act.call name args) = call_form.text (name, args)
act_text (act.tick b) = (tick_form digits).text b
act_text (act.ticks n b) = (ticks_form digits).text (n, b)
act_text (act.reload b) = (reload_form digits).text b
act_text (act.other c) = other_form.text c
act_text act.show = show_form.text tt
act_text act.globals = globals_form.text tt
act_text (act.memory at len) = memory_form.text (at, len)
act_text act.dump = dump_form.text tt
act_text act.inspect = where_form.text tt

-- which acts stand in a script, where this is the least budget; only some scripts ask where the program is
abbrev pub act_fits : ℕ → Act → Bool
act_fits least (act.call name args) = call_form.fits (name, args)
act_fits least (act.tick b) = (tick_form (budget least)).fits b
act_fits least (act.ticks n b) = (ticks_form (budget least)).fits (n, b)
act_fits least (act.reload b) = (reload_form (budget least)).fits b
act_fits least (act.other c) = other_form.fits c
act_fits least act.show = show_form.fits tt
act_fits least act.globals = globals_form.fits tt
act_fits least (act.memory at len) = memory_form.fits (at, len)
act_fits least act.dump = dump_form.fits tt
act_fits least act.inspect = false

-- the act that a text spells: one that names no export and makes events, or a call, or one that prints
abbrev pub turn_read : ℕ → Text → Option Act
turn_read least t =
    option_or (option_map (λ b. act.tick b) ((tick_form (budget least)).read t))
    (option_or (option_map ticks_of ((ticks_form (budget least)).read t))
    (option_or (option_map (λ b. act.reload b) ((reload_form (budget least)).read t))
    (option_or (option_map (λ c. act.other c) (other_form.read t)) None)))

abbrev pub event_read : ℕ → Text → Option Act
event_read least t = option_or (option_map call_of (call_form.read t)) (turn_read least t)

abbrev pub print_read : Text → Option Act
print_read t =
    option_or (option_map (λ u. act.show) (show_form.read t))
    (option_or (option_map (λ u. act.globals) (globals_form.read t))
    (option_or (option_map memory_of (memory_form.read t))
    (option_or (option_map (λ u. act.dump) (dump_form.read t)) None)))

abbrev pub act_read : ℕ → Text → Option Act
act_read least t = option_or (event_read least t) (print_read t)

-- the form of acts
abbrev pub acts : ℕ → Last Act
acts least = record { text = act_text; fits = act_fits least; read = act_read least }

-- a form whose values that fit are read from their texts; what is read from a text fits, and has that text
pub record IsReadAsSpelled {A : Type 0} (l : Last A) : Type 0 where
  pub reads : (a : A) → l.fits a ≡ true → l.read (l.text a) ≡ Some a
  pub spells : (t : Text) (a : A) → l.read t ≡ Some a → (t ≡ l.text a) × (l.fits a ≡ true)

-- whether a text would spell an act but for a budget below the least one
abbrev pub is_low : ℕ → Text → Bool
is_low least t =
    is_some ((tick_form (low_budget least)).read t)
    || (is_some ((ticks_form (low_budget least)).read t) || is_some ((reload_form (low_budget least)).read t))

-- a line that is empty or begins with `#` does nothing; any other one spells an act or is no script line
abbrev pub does_nothing : Text → Bool
does_nothing [] = true
does_nothing (b ∷ t) = nat_eq b 35

-- the lines of a script that do something, or the number of the first line that is no script line and
-- whether that is for a low budget alone
pub data ScriptRead (A : Type 0) : Type 0 where
  lines : List (LineOf A) → ScriptRead A
  bad : ℕ → Bool → ScriptRead A

-- a line that does something, and then what follows
abbrev pub line_before : {A : Type 0} → LineOf A → ScriptRead A → ScriptRead A
line_before l (lines ls) = lines (l ∷ ls)
line_before l (bad n low) = bad n low

-- a line of this number that spells an act or is none, and then what follows
abbrev pub act_before : {A : Type 0} → ℕ → Option A → Bool → ScriptRead A → ScriptRead A
act_before n (Some a) low r = line_before (record { line = n; act = a }) r
act_before n None low r = bad n low

-- lines that are numbered from n on, by the act that a text spells, and by whether it would spell one but for a low
-- budget
abbrev pub lines_read : {A : Type 0} → (Text → Option A) → (Text → Bool) → ℕ → List Text → ScriptRead A
lines_read read low n [] = lines []
lines_read read low n (t ∷ ts) =
    if does_nothing t then lines_read read low (n + 1) ts
    else act_before n (read t) (low t) (lines_read read low (n + 1) ts)

-- the lines of a text: they are divided at line feeds
abbrev pub texts_of : Text → List Text
texts_of t = slice_split (λ b. nat_eq b 10) t

-- what a script over one pack says: its lines are numbered from 1
abbrev pub script_read : Text → ScriptRead Act
script_read t = lines_read (act_read BMIN) (is_low BMIN) 1 (texts_of t)
