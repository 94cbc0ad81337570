-- Functions that are added to a pack one after the other, and what the code sees of a module.
use Rattle.std.specs.Prelude.{◌≡◌, ◌≤◌, ℕ, List, filter, length, map, true}
use Rattle.std.specs.List.{list_all}
use Rattle.mc_cmd.specs.Packing.{is_entry, most_functions, names_differ}
use Rattle.mc_cmd.specs.Pack.{ExportType}
use Rattle.wm_ast.specs.declared.module.Export.{Export}
use Rattle.wm_ast.specs.declared.module.Module.{Module}
use Rattle.wm_ast.specs.Instance.{exported_index, is_function}
use Rattle.cc_line.specs.Item.{Helper}
use Rattle.pk_link.specs.Functions.{entry, export_of}

-- functions that an empty pack takes one after the other: their names and lines are such, no two names are one, and
-- they are no more than a pack has
pub record AreTaken (hs : List Helper) : Type 0 where
  pub entries : list_all is_entry (map entry hs) ≡ true
  pub differ : names_differ (map entry hs) ≡ true
  pub few : length hs ≤ most_functions

-- the indices of the functions among these exports, and their entries
abbrev pub exported_in : List Export → List ℕ
exported_in es = map exported_index (filter (λ e. is_function e.space) es)

abbrev pub export_entries : Module → List Export → List ExportType
export_entries m es = map (export_of m) (filter (λ e. is_function e.space) es)
