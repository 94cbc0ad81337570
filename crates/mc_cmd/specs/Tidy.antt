-- Tidy lines: those that name nothing outside a namespace, and have no quotation mark, so that no string stands in a
-- storage of the pack and a placeholder is never filled but by a whole number.
use Rattle.std.specs.Prelude.{◌≡◌, List, [], ◌∷◌, ◌++◌, Bool, true, false, ◌&&◌, ◌||◌, Option, Some, None}
use Rattle.std.specs.Prelude.{option_and_then}
use Rattle.std.specs.List.{list_all}
use Rattle.std.specs.Str.{bytes_eq}
use Rattle.mc_cmd.specs.Form.{Text, lacks, cut_at}
use Rattle.mc_cmd.specs.Command.{Simple, objective_add, score_set, score_add, score_remove, score_get, score_op}
use Rattle.mc_cmd.specs.Command.{score_reset, data_get, set_value, set_from, append_value, append_from, data_remove}
use Rattle.mc_cmd.specs.Command.{call, call_with, return_value, chain_length, Test, scores_compare, score_matches}
use Rattle.mc_cmd.specs.Command.{path_selects, Sub, if_test, unless_test, store_score, store_data, Cmd, plain, execute}
use Rattle.mc_cmd.specs.Command.{PatternPart, literal, hole, Line, nothing, command, pattern}
use Rattle.mc_cmd.specs.Grammar.{line_said}
use Rattle.mc_cmd.specs.Layout.{io_of, memory_of, rest_of}

-- whether a name is the namespace's objective
abbrev pub own_objective : Text → Text → Bool
own_objective ns o = bytes_eq o ns

-- whether a name is that of one of its three storages
abbrev pub own_storage : Text → Text → Bool
own_storage ns i = bytes_eq i (io_of ns) || (bytes_eq i (memory_of ns) || bytes_eq i (rest_of ns))

-- whether the part of a name before its `:` is the namespace
abbrev pub is_before : Text → Option (Text × Text) → Bool
is_before ns None = false
is_before ns (Some p) = bytes_eq p.0 ns

-- whether a function is one of the namespace
abbrev pub own_function : Text → Text → Bool
own_function ns f = is_before ns (cut_at 58 f)

-- whether a command names nothing outside the namespace
abbrev pub simple_is_tidy : Text → Simple → Bool
simple_is_tidy ns (objective_add o) = own_objective ns o
simple_is_tidy ns (score_set h o z) = own_objective ns o
simple_is_tidy ns (score_add h o z) = own_objective ns o
simple_is_tidy ns (score_remove h o z) = own_objective ns o
simple_is_tidy ns (score_get h o) = own_objective ns o
simple_is_tidy ns (score_op h o f i q) = own_objective ns o && own_objective ns q
simple_is_tidy ns (score_reset h o) = own_objective ns o
simple_is_tidy ns (data_get i ps) = own_storage ns i
simple_is_tidy ns (set_value i ps v) = own_storage ns i
simple_is_tidy ns (set_from i ps j qs) = own_storage ns i && own_storage ns j
simple_is_tidy ns (append_value i ps v) = own_storage ns i
simple_is_tidy ns (append_from i ps j qs) = own_storage ns i && own_storage ns j
simple_is_tidy ns (data_remove i ps) = own_storage ns i
simple_is_tidy ns (call f) = own_function ns f
simple_is_tidy ns (call_with f i ps) = own_function ns f && own_storage ns i
simple_is_tidy ns (return_value z) = true
simple_is_tidy ns chain_length = true

abbrev pub test_is_tidy : Text → Test → Bool
test_is_tidy ns (scores_compare h o c i q) = own_objective ns o && own_objective ns q
test_is_tidy ns (score_matches h o r) = own_objective ns o
test_is_tidy ns (path_selects i ps) = own_storage ns i

abbrev pub sub_is_tidy : Text → Sub → Bool
sub_is_tidy ns (if_test c) = test_is_tidy ns c
sub_is_tidy ns (unless_test c) = test_is_tidy ns c
sub_is_tidy ns (store_score h o) = own_objective ns o
sub_is_tidy ns (store_data i ps) = own_storage ns i

-- the same of any command
abbrev pub cmd_is_tidy : Text → Cmd → Bool
cmd_is_tidy ns (plain s) = simple_is_tidy ns s
cmd_is_tidy ns (execute ss s) = list_all (sub_is_tidy ns) ss && simple_is_tidy ns s

-- the parts of a pattern with each placeholder filled by the same text
abbrev pub parts_by : Text → List PatternPart → Text
parts_by t [] = []
parts_by t (literal l ∷ ps) = l ++ parts_by t ps
parts_by t (hole n ∷ ps) = t ++ parts_by t ps

-- a line's text with each of its placeholders filled so
abbrev pub text_by : Text → Text → Line → Text
text_by d t nothing = t
text_by d t (command c) = t
text_by d t (pattern ps) = parts_by d ps

-- whether a text says nothing, or a command that names nothing outside the namespace
abbrev pub says_tidy : Text → Option Line → Bool
says_tidy ns None = false
says_tidy ns (Some nothing) = true
says_tidy ns (Some (command c)) = cmd_is_tidy ns c
says_tidy ns (Some (pattern ps)) = false

-- the same of a line with each placeholder filled by this text
abbrev pub is_tidy_by : Text → Text → Text → Bool
is_tidy_by ns d t = says_tidy ns (option_and_then (λ l. line_said (text_by d t l)) (line_said t))

-- a tidy line: no quotation mark, and with 0 and with 1 for each placeholder nothing outside the namespace
abbrev pub is_tidy : Text → Text → Bool
is_tidy ns t = lacks 34 t && (is_tidy_by ns (48 ∷ []) t && is_tidy_by ns (49 ∷ []) t)

abbrev pub Tidy : Text → List Text → Type 0
Tidy ns lines = list_all (is_tidy ns) lines ≡ true
