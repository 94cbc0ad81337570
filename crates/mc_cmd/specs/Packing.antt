-- Packs as the code keeps them: the index, and the functions in the order in which they were added.
use Rattle.std.specs.Prelude.{ℕ, List, [], ◌∷◌, ◌++◌, length, Bool, true, ◌&&◌, not, nat_le, if◌then◌else◌, Option}
use Rattle.std.specs.Prelude.{Some, None, is_some, is_none, map, codes, String, string_bytes}
use Rattle.std.specs.List.{list_all}
use Rattle.std.specs.Map.{lookup, keys_of}
use Rattle.std.specs.Str.{bytes_eq}
use Rattle.mc_cmd.specs.declared.pack.Index.{Index}
use Rattle.mc_cmd.specs.declared.pack.ExportType.{ExportType}
use Rattle.mc_cmd.specs.declared.pack.AddFault.{AddFault}
use Rattle.mc_cmd.specs.declared.pack.AddFault.TheVariants as faults
use Rattle.mc_cmd.specs.Form.{Text}
use Rattle.mc_cmd.specs.Word.{is_namespace, is_function_name}
use Rattle.mc_cmd.specs.Grammar.{line_said}
use Rattle.mc_cmd.specs.Chain.{Texts}
use Rattle.mc_cmd.specs.Layout.{full_name}
use Rattle.mc_cmd.specs.Pack as spec

-- an index, and the functions by their names without the namespace
pub record Written : Type 0 where
  pub index : Index
  pub functions : List (Text × Texts)

-- the entries of the map from names to lines
abbrev pub named : {A : Type 0} → List (String A × Texts) → List (Text × Texts)
named es = map (λ e. (string_bytes e.0, e.1)) es

-- the namespace of a pack isn't that of the game
abbrev pub is_pack_namespace : Text → Bool
is_pack_namespace ns = is_namespace ns && not (bytes_eq ns (codes "minecraft"))

-- each of the texts says a line
abbrev pub are_lines : Texts → Bool
are_lines ts = list_all (λ t. is_some (line_said t)) ts

abbrev pub is_entry : Text × Texts → Bool
is_entry e = is_function_name e.0 && are_lines e.1

-- no two of the functions have one name
abbrev pub names_differ : List (Text × Texts) → Bool
names_differ [] = true
names_differ (e ∷ es) = is_none (lookup (bytes_eq e.0) es) && names_differ es

abbrev pub names : Written → List Text
names w = keys_of w.functions

-- the lines of the function of this name
abbrev pub lines_at : Written → Text → Option Texts
lines_at w name = lookup (bytes_eq name) w.functions

abbrev pub with_function : Written → Text → Texts → Written
with_function w name lines = record w { functions = w.functions ++ ((name, lines) ∷ []) }

-- the most functions of a pack
abbrev pub most_functions : ℕ
most_functions = 1000000

-- why no function of this name may be added
abbrev pub refusal : Written → Text → Option AddFault
refusal w name =
    if is_some (lines_at w name) then Some faults.Twice
    else if nat_le most_functions (length w.functions) then Some faults.Full
    else None

-- what a pack keeps: its namespace, that it has no more functions, their names and lines, and that the names differ
abbrev pub is_written : Written → Bool
is_written w =
    is_pack_namespace w.index.ns
    && (nat_le (length w.functions) most_functions && (list_all is_entry w.functions && names_differ w.functions))

abbrev pub export_view : ExportType → spec.ExportType
export_view e = record { name = e.name; params = e.params.items; result = e.result }

abbrev pub index_view : Index → spec.Index
index_view i = record { ns = i.ns; exports = map export_view i.exports.items }

-- the pack: its functions by their full names
abbrev pub pack_view : Written → spec.Pack
pack_view w = record {
  index = index_view w.index;
  functions = λ f. lookup (λ name. bytes_eq f (full_name w.index.ns name)) w.functions;
}
