-- The helpers that look numbers up, by their names, and how these begin: the one of all tables of numbers, and for each
-- type of a module the one that has where the elements of the module's table lead.
use Rattle.std.specs.Prelude.{ℕ, List, [], ◌∷◌, ◌++◌, length, None, codes}
use Rattle.mc_cmd.specs.Form.{Text}
use Rattle.wm_ast.specs.declared.module.Module.{Module}
use Rattle.cc_line.specs.View.{look_up_steps}
use Rattle.cc_text.specs.Tables.{NamedHelper, numbered, of_steps}
use Rattle.cc_table.specs.Look.{element_steps}
use Rattle.cc_table.specs.Target.{call_helper, call_numbers, element_number}

abbrev pub look_beginning : Text
look_beginning = codes "h_cc_look"

abbrev pub look_helpers : List NamedHelper
look_helpers = of_steps (codes "h_cc_look") element_steps ∷ []

abbrev pub call_beginning : Text
call_beginning = codes "h_cc_call_"

-- that of the type of this index
abbrev pub type_helper : Module → ℕ → NamedHelper
type_helper m n =
    of_steps (call_helper n) (look_up_steps (call_numbers m n ++ element_number m n None ∷ []) element_steps)

abbrev pub call_helpers : Module → List NamedHelper
call_helpers m = numbered (type_helper m) (length m.types)
