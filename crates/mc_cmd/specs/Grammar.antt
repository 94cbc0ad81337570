-- The grammar of lines: which text each line has, and how a text is read.
use Rattle.std.specs.Prelude.{◌≡◌, ℕ, zero, suc, ℤ, List, [], ◌∷◌, ◌++◌, length, Bool, true, false, ◌&&◌, ◌||◌, not}
use Rattle.std.specs.Prelude.{nat_eq, nat_le, if◌then◌else◌, Option, Some, None, option_map, option_and_then, codes}
use Rattle.std.specs.Option.{option_or}
use Rattle.std.specs.List.{list_all}
use Rattle.std.specs.Str.{is_utf8}
use Rattle.mc_nbt.specs.Tree.{Tree, Part}
use Rattle.mc_cmd.specs.Form.{Text, Last, Front, strip, spaced, after, before, ended, closed, follow, both, fixed}
use Rattle.mc_cmd.specs.Word.{holder, objective, id, function, number, natural, op, cmp, range}
use Rattle.mc_cmd.specs.Value.{path, value}
use Rattle.mc_cmd.specs.Pattern.{patterns}
use Rattle.mc_cmd.specs.Command.{Op, Cmp, Range, Simple, objective_add, score_set, score_add, score_remove, score_get}
use Rattle.mc_cmd.specs.Command.{score_op, score_reset, data_get, set_value, set_from, append_value, append_from}
use Rattle.mc_cmd.specs.Command.{data_remove, call, call_with, return_value, chain_length, Test, scores_compare}
use Rattle.mc_cmd.specs.Command.{score_matches, path_selects, Sub, if_test, unless_test, store_score, store_data, Cmd}
use Rattle.mc_cmd.specs.Command.{plain, execute, PatternPart, Line, nothing, command, pattern}

-- a score: a holder and an objective. A place of a storage: its name and a path
abbrev pub score : Last (Text × Text)
score = follow (spaced holder) objective

abbrev pub data_place : Last (Text × List Part)
data_place = follow (spaced id) path

-- the same before others, each word with a space behind it
abbrev pub score_front : Front (Text × Text)
score_front = both (spaced holder) (spaced objective)

abbrev pub place_front : Front (Text × List Part)
place_front = both (spaced id) (spaced path)

-- a score behind these words; a place of a storage behind these words and before those
abbrev pub score_after : Text → Front (Text × Text)
score_after w = before w score_front

abbrev pub place_within : Text → Text → Front (Text × List Part)
place_within w u = before w (closed place_front u)

-- a place that is changed so
abbrev pub modified : Text → Front (Text × List Part)
modified u = place_within (codes "data modify storage ") u

-- one form a command
abbrev pub objective_add_form : Last Text
objective_add_form = after (codes "scoreboard objectives add ") (ended objective (codes " dummy"))

abbrev pub score_set_form : Last ((Text × Text) × ℤ)
score_set_form = follow (score_after (codes "scoreboard players set ")) number

abbrev pub score_add_form : Last ((Text × Text) × ℤ)
score_add_form = follow (score_after (codes "scoreboard players add ")) natural

abbrev pub score_remove_form : Last ((Text × Text) × ℤ)
score_remove_form = follow (score_after (codes "scoreboard players remove ")) natural

abbrev pub score_get_form : Last (Text × Text)
score_get_form = after (codes "scoreboard players get ") score

abbrev pub score_op_form : Last ((Text × Text) × (Op × (Text × Text)))
score_op_form = follow (score_after (codes "scoreboard players operation ")) (follow (spaced op) score)

abbrev pub score_reset_form : Last (Text × Text)
score_reset_form = after (codes "scoreboard players reset ") score

abbrev pub data_get_form : Last (Text × List Part)
data_get_form = after (codes "data get storage ") data_place

abbrev pub set_value_form : Last ((Text × List Part) × Tree)
set_value_form = follow (modified (codes "set value ")) value

abbrev pub set_from_form : Last ((Text × List Part) × (Text × List Part))
set_from_form = follow (modified (codes "set from storage ")) data_place

abbrev pub append_value_form : Last ((Text × List Part) × Tree)
append_value_form = follow (modified (codes "append value ")) value

abbrev pub append_from_form : Last ((Text × List Part) × (Text × List Part))
append_from_form = follow (modified (codes "append from storage ")) data_place

abbrev pub data_remove_form : Last (Text × List Part)
data_remove_form = after (codes "data remove storage ") data_place

abbrev pub call_form : Last Text
call_form = after (codes "function ") function

abbrev pub call_with_form : Last (Text × (Text × List Part))
call_with_form = after (codes "function ") (follow (spaced function) (after (codes "with storage ") data_place))

abbrev pub return_value_form : Last ℤ
return_value_form = after (codes "return ") number

abbrev pub chain_length_text : Text
chain_length_text = codes "gamerule maxCommandChainLength"

-- the command of the parts of a form
abbrev pub score_set_of : (Text × Text) × ℤ → Simple
score_set_of p = score_set p.0.0 p.0.1 p.1

abbrev pub score_add_of : (Text × Text) × ℤ → Simple
score_add_of p = score_add p.0.0 p.0.1 p.1

abbrev pub score_remove_of : (Text × Text) × ℤ → Simple
score_remove_of p = score_remove p.0.0 p.0.1 p.1

abbrev pub score_get_of : Text × Text → Simple
score_get_of p = score_get p.0 p.1

abbrev pub score_op_of : (Text × Text) × (Op × (Text × Text)) → Simple
score_op_of p = score_op p.0.0 p.0.1 p.1.0 p.1.1.0 p.1.1.1

abbrev pub score_reset_of : Text × Text → Simple
score_reset_of p = score_reset p.0 p.1

abbrev pub data_get_of : Text × List Part → Simple
data_get_of p = data_get p.0 p.1

abbrev pub set_value_of : (Text × List Part) × Tree → Simple
set_value_of p = set_value p.0.0 p.0.1 p.1

abbrev pub set_from_of : (Text × List Part) × (Text × List Part) → Simple
set_from_of p = set_from p.0.0 p.0.1 p.1.0 p.1.1

abbrev pub append_value_of : (Text × List Part) × Tree → Simple
append_value_of p = append_value p.0.0 p.0.1 p.1

abbrev pub append_from_of : (Text × List Part) × (Text × List Part) → Simple
append_from_of p = append_from p.0.0 p.0.1 p.1.0 p.1.1

abbrev pub data_remove_of : Text × List Part → Simple
data_remove_of p = data_remove p.0 p.1

abbrev pub call_with_of : Text × (Text × List Part) → Simple
call_with_of p = call_with p.0 p.1.0 p.1.1

-- the one text of a command other than `execute`, and which have one
abbrev pub simple_text : Simple → Text
simple_text (objective_add o) = objective_add_form.text o
simple_text (score_set h o z) = score_set_form.text ((h, o), z)
simple_text (score_add h o z) = score_add_form.text ((h, o), z)
simple_text (score_remove h o z) = score_remove_form.text ((h, o), z)
simple_text (score_get h o) = score_get_form.text (h, o)
simple_text (score_op h o f i q) = score_op_form.text ((h, o), (f, (i, q)))
simple_text (score_reset h o) = score_reset_form.text (h, o)
simple_text (data_get i ps) = data_get_form.text (i, ps)
simple_text (set_value i ps v) = set_value_form.text ((i, ps), v)
simple_text (set_from i ps j qs) = set_from_form.text ((i, ps), (j, qs))
simple_text (append_value i ps v) = append_value_form.text ((i, ps), v)
simple_text (append_from i ps j qs) = append_from_form.text ((i, ps), (j, qs))
simple_text (data_remove i ps) = data_remove_form.text (i, ps)
simple_text (call f) = call_form.text f
simple_text (call_with f i ps) = call_with_form.text (f, (i, ps))
simple_text (return_value z) = return_value_form.text z
simple_text chain_length = chain_length_text

abbrev pub simple_fits : Simple → Bool
simple_fits (objective_add o) = objective_add_form.fits o
simple_fits (score_set h o z) = score_set_form.fits ((h, o), z)
simple_fits (score_add h o z) = score_add_form.fits ((h, o), z)
simple_fits (score_remove h o z) = score_remove_form.fits ((h, o), z)
simple_fits (score_get h o) = score_get_form.fits (h, o)
simple_fits (score_op h o f i q) = score_op_form.fits ((h, o), (f, (i, q)))
simple_fits (score_reset h o) = score_reset_form.fits (h, o)
simple_fits (data_get i ps) = data_get_form.fits (i, ps)
simple_fits (set_value i ps v) = set_value_form.fits ((i, ps), v)
simple_fits (set_from i ps j qs) = set_from_form.fits ((i, ps), (j, qs))
simple_fits (append_value i ps v) = append_value_form.fits ((i, ps), v)
simple_fits (append_from i ps j qs) = append_from_form.fits ((i, ps), (j, qs))
simple_fits (data_remove i ps) = data_remove_form.fits (i, ps)
simple_fits (call f) = call_form.fits f
simple_fits (call_with f i ps) = call_with_form.fits (f, (i, ps))
simple_fits (return_value z) = return_value_form.fits z
simple_fits chain_length = true

abbrev pub simple_read : Text → Option Simple
simple_read t =
    option_or (option_map objective_add (objective_add_form.read t))
    (option_or (option_map score_set_of (score_set_form.read t))
    (option_or (option_map score_add_of (score_add_form.read t))
    (option_or (option_map score_remove_of (score_remove_form.read t))
    (option_or (option_map score_get_of (score_get_form.read t))
    (option_or (option_map score_op_of (score_op_form.read t))
    (option_or (option_map score_reset_of (score_reset_form.read t))
    (option_or (option_map data_get_of (data_get_form.read t))
    (option_or (option_map set_value_of (set_value_form.read t))
    (option_or (option_map set_from_of (set_from_form.read t))
    (option_or (option_map append_value_of (append_value_form.read t))
    (option_or (option_map append_from_of (append_from_form.read t))
    (option_or (option_map data_remove_of (data_remove_form.read t))
    (option_or (option_map call (call_form.read t))
    (option_or (option_map call_with_of (call_with_form.read t))
    (option_or (option_map return_value (return_value_form.read t))
    (option_or (fixed chain_length_text chain_length t) None))))))))))))))))

abbrev pub simple : Last Simple
simple = record { text = simple_text; fits = simple_fits; read = simple_read }

-- one form a test
abbrev pub compare_form : Front ((Text × Text) × (Cmp × (Text × Text)))
compare_form = both (score_after (codes "score ")) (both (spaced cmp) score_front)

abbrev pub matches_form : Front ((Text × Text) × Range)
matches_form = both (score_after (codes "score ")) (before (codes "matches ") (spaced range))

abbrev pub selects_form : Front (Text × List Part)
selects_form = before (codes "data storage ") place_front

abbrev pub compare_of : (Text × Text) × (Cmp × (Text × Text)) → Test
compare_of p = scores_compare p.0.0 p.0.1 p.1.0 p.1.1.0 p.1.1.1

abbrev pub matches_of : (Text × Text) × Range → Test
matches_of p = score_matches p.0.0 p.0.1 p.1

abbrev pub selects_of : Text × List Part → Test
selects_of p = path_selects p.0 p.1

-- a front whose parts make something
abbrev pub front_map : {A B : Type 0} → (A → B) → Option (A × Text) → Option (B × Text)
front_map f o = option_map (λ p. (f p.0, p.1)) o

abbrev pub test_text : Test → Text → Text
test_text (scores_compare h o c i q) t = compare_form.text ((h, o), (c, (i, q))) t
test_text (score_matches h o r) t = matches_form.text ((h, o), r) t
test_text (path_selects i ps) t = selects_form.text (i, ps) t

abbrev pub test_fits : Test → Bool
test_fits (scores_compare h o c i q) = compare_form.fits ((h, o), (c, (i, q)))
test_fits (score_matches h o r) = matches_form.fits ((h, o), r)
test_fits (path_selects i ps) = selects_form.fits (i, ps)

abbrev pub test_read : Text → Option (Test × Text)
test_read t =
    option_or (front_map compare_of (compare_form.read t))
    (option_or (front_map matches_of (matches_form.read t))
    (option_or (front_map selects_of (selects_form.read t)) None))

abbrev pub test : Front Test
test = record { text = test_text; fits = test_fits; read = test_read }

-- one form a sub-command
abbrev pub if_form : Front Test
if_form = before (codes "if ") test

abbrev pub unless_form : Front Test
unless_form = before (codes "unless ") test

abbrev pub store_score_form : Front (Text × Text)
store_score_form = score_after (codes "store result score ")

abbrev pub store_data_form : Front (Text × List Part)
store_data_form = place_within (codes "store result storage ") (codes "int 1 ")

abbrev pub store_score_of : Text × Text → Sub
store_score_of p = store_score p.0 p.1

abbrev pub store_data_of : Text × List Part → Sub
store_data_of p = store_data p.0 p.1

abbrev pub sub_text : Sub → Text → Text
sub_text (if_test c) t = if_form.text c t
sub_text (unless_test c) t = unless_form.text c t
sub_text (store_score h o) t = store_score_form.text (h, o) t
sub_text (store_data i ps) t = store_data_form.text (i, ps) t

abbrev pub sub_fits : Sub → Bool
sub_fits (if_test c) = if_form.fits c
sub_fits (unless_test c) = unless_form.fits c
sub_fits (store_score h o) = store_score_form.fits (h, o)
sub_fits (store_data i ps) = store_data_form.fits (i, ps)

abbrev pub sub_read : Text → Option (Sub × Text)
sub_read t =
    option_or (front_map if_test (if_form.read t))
    (option_or (front_map unless_test (unless_form.read t))
    (option_or (front_map store_score_of (store_score_form.read t))
    (option_or (front_map store_data_of (store_data_form.read t)) None)))

abbrev pub sub : Front Sub
sub = record { text = sub_text; fits = sub_fits; read = sub_read }

-- the sub-commands of an `execute` and the command that it runs
abbrev pub subs_text : List Sub → Text → Text
subs_text [] t = codes "run " ++ t
subs_text (s ∷ ss) t = sub_text s (subs_text ss t)

abbrev pub subs_fit : List Sub → Bool
subs_fit [] = true
subs_fit (s ∷ ss) = sub_fits s && subs_fit ss

-- a store asks for a command with a result: `scoreboard players get`, `data get`, or the rule
abbrev pub has_result : Simple → Bool
has_result (score_get h o) = true
has_result (data_get i ps) = true
has_result chain_length = true
has_result s = false

abbrev pub stores : Sub → Bool
stores (store_score h o) = true
stores (store_data i ps) = true
stores s = false

abbrev pub any_stores : List Sub → Bool
any_stores [] = false
any_stores (s ∷ ss) = stores s || any_stores ss

abbrev pub may_run : List Sub → Simple → Bool
may_run [] s = false
may_run (c ∷ cs) s = if any_stores (c ∷ cs) then has_result s else true

-- the one text of a command, and which have one
abbrev pub cmd_text : Cmd → Text
cmd_text (plain s) = simple_text s
cmd_text (execute ss s) = codes "execute " ++ subs_text ss (simple_text s)

abbrev pub cmd_fits : Cmd → Bool
cmd_fits (plain s) = simple_fits s
cmd_fits (execute ss s) = may_run ss s && (subs_fit ss && simple_fits s)

-- the sub-commands of a text, of which there are at most n, and the command behind `run `
abbrev pub subs_by : Option Text → Option (Sub × Text) → (Text → Option (List Sub × Simple))
    → Option (List Sub × Simple)
subs_by (Some t) o more = option_map (λ s. ([], s)) (simple_read t)
subs_by None None more = None
subs_by None (Some p) more = option_map (λ q. (p.0 ∷ q.0, q.1)) (more p.1)

unfoldable pub subs_read : ℕ → Text → Option (List Sub × Simple)
subs_read zero t = None
subs_read (suc n) t = subs_by (strip (codes "run ") t) (sub_read t) (subs_read n)

abbrev pub execute_of : List Sub × Simple → Option Cmd
execute_of p = if may_run p.0 p.1 then Some (execute p.0 p.1) else None

-- the command that a text says
abbrev pub cmd_by : Option Text → Text → Option Cmd
cmd_by None t = option_map plain (simple_read t)
cmd_by (Some r) t = option_and_then execute_of (subs_read (suc (length r)) r)

abbrev pub cmd_read : Text → Option Cmd
cmd_read t = cmd_by (strip (codes "execute ") t) t

abbrev pub commands : Last Cmd
commands = record { text = cmd_text; fits = cmd_fits; read = cmd_read }

-- the one text of a line; a comment isn't told from an empty line
abbrev pub line_text : Line → Text
line_text nothing = []
line_text (command c) = cmd_text c
line_text (pattern ps) = patterns.text ps

abbrev pub line_fits : Line → Bool
line_fits nothing = true
line_fits (command c) = cmd_fits c
line_fits (pattern ps) = patterns.fits ps

-- what may stand behind the `#` of a comment: UTF-8 without line feed
unfoldable pub is_comment : Text → Bool
is_comment t = is_utf8 t && list_all (λ b. not (nat_eq b 10)) t

-- a line has at most so many bytes
abbrev pub most : ℕ
most = 524288

-- the text says the line
pub data Says : Text → Line → Type 0 where
  says_nothing : Says [] nothing
  says_comment : (t : Text) → is_comment t ≡ true → nat_le (length (35 ∷ t)) most ≡ true → Says (35 ∷ t) nothing
  says_command : (t : Text) (c : Cmd) → t ≡ cmd_text c → cmd_fits c ≡ true → nat_le (length t) most ≡ true
      → Says t (command c)
  says_pattern : (t : Text) (ps : List PatternPart) → t ≡ patterns.text ps → patterns.fits ps ≡ true
      → nat_le (length t) most ≡ true → Says t (pattern ps)

-- the line that a text says, if it says one
abbrev pub said_in : Text → Option Line
said_in [] = Some nothing
said_in (b ∷ t) =
    if nat_eq b 35 then (if is_comment t then Some nothing else None)
    else if nat_eq b 36 then option_map pattern (patterns.read (b ∷ t))
    else option_map command (cmd_read (b ∷ t))

unfoldable pub line_said : Text → Option Line
line_said t = if nat_le (length t) most then said_in t else None

-- a function from texts to lines that answers just what texts say
pub record IsReader (read : Text → Option Line) : Type 0 where
  pub reads : (t : Text) (l : Line) → Says t l → read t ≡ Some l
  pub says : (t : Text) (l : Line) → read t ≡ Some l → Says t l
