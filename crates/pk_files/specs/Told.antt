-- Packs as plain data.
use Rattle.std.specs.Prelude.{◌≡◌, List, Option}
use Rattle.std.specs.Str.{bytes_eq}
use Rattle.std.specs.Map.{lookup}
use Rattle.mc_cmd.specs.Form.{Text}
use Rattle.mc_cmd.specs.Chain.{Texts}
use Rattle.mc_cmd.specs.Layout.{full_name}
use Rattle.mc_cmd.specs.Pack.{Index, Pack}
use Rattle.mc_cmd.specs.Packing.{Written, index_view}

-- a pack: its index, and the names of its functions with their lines
pub record Told : Type 0 where
  pub index : Index
  pub functions : List (Text × Texts)

abbrev pub told_of : Written → Told
told_of w = record { index = index_view w.index; functions = w.functions }

-- what is played of it: its functions by their full names
abbrev pub pack_told : Told → Pack
pack_told t = record {
  index = t.index;
  functions = λ f. lookup (λ name. bytes_eq f (full_name t.index.ns name)) t.functions;
}

-- the lines of the function of this name
abbrev pub lines_in : Told → Text → Option Texts
lines_in t name = lookup (bytes_eq name) t.functions

-- two packs have one index, and the same lines under each name
pub record same (p q : Told) : Type 0 where
  pub index : p.index ≡ q.index
  pub functions : (name : Text) → lines_in p name ≡ lines_in q name
