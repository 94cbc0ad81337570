-- The numbers that the code keeps for the indices of one module.
use Rattle.std.specs.Prelude.{◌≡◌, ℕ, ◌-◌, ◌^◌, ◌<◌, List, length, map}
use Rattle.std.specs.Prelude.{slice_get, unwrap_or}
use Rattle.wm_ast.specs.declared.module.Module.{Module}
use Rattle.wm_ast.specs.declared.module.Space.{Space}
use Rattle.wm_ast.specs.declared.module.Space.TheVariants as spaces
use Rattle.wm_match.specs.declared.library.Binding.{Binding}
use Rattle.wm_match.specs.Program.{Program}
use Rattle.wm_match.specs.Space.{own_count, imported_items}
use Rattle.wm_join.specs.declared.counts.Counts.{Counts}
use Rattle.wm_join.specs.declared.numbers.Indices.{Indices}
use Rattle.wm_join.specs.declared.numbers.Numbers.{Numbers}
use Rattle.wm_join.specs.Joined.{index_number, renumbering}
use Rattle.wm_join.specs.Numbering.{total}
use Rattle.wm_join.specs.Renumbered.{Renumbering}
use Rattle.wm_join.specs.steps.Places.{IsPlace, number_in, binding_number}

-- How many items the modules have.

-- how many types the module has
abbrev pub own_types : Module → ℕ
own_types m = length m.types

-- so many items each module has, and there are few of all
pub record IsCount (own : Module → ℕ) (ms : List Module) (counts : List ℕ) : Type 0 where
  pub items : counts ≡ map own ms
  pub few : total counts < 2 ^ 32

-- the counts are those of the modules
pub record AreCounts (ms : List Module) (c : Counts) : Type 0 where
  pub types : IsCount own_types ms c.types.items
  pub functions : IsCount (own_count spaces.Func) ms c.functions.items
  pub tables : IsCount (own_count spaces.Table) ms c.tables.items
  pub memories : IsCount (own_count spaces.Memory) ms c.memories.items
  pub globals : IsCount (own_count spaces.Global) ms c.globals.items

-- The items of one module.

-- the indices are those of a space of module k, by how many items each module defines in it
pub record AreIndices (sizes : List ℕ) (space : Space) (k : ℕ) (m : Module) (part : List Binding) (i : Indices)
    : Type 0 where
  pub imported : i.imported.items ≡ map (binding_number sizes) (imported_items space m.imports part)
  pub own : IsPlace sizes k i.own

-- the number of an index, where imported items come first
abbrev pub number_of : Indices → ℕ → ℕ
number_of i n = unwrap_or (slice_get i.imported.items n) (number_in i.own (n - length i.imported.items))

-- the number of an index in a space; no global is imported
abbrev pub space_number : Numbers → Space → ℕ → ℕ
space_number x spaces.Func n = number_of x.functions n
space_number x spaces.Table n = number_of x.tables n
space_number x spaces.Memory n = number_of x.memories n
space_number x spaces.Global n = number_in x.globals n

-- the indices in instructions
abbrev pub renumbering_of : Numbers → Renumbering
renumbering_of x = record {
  type = number_in x.types;
  function = number_of x.functions;
  global = number_in x.globals;
}

-- the numbers are those of the indices of module k
pub record AreNumbers (p : Program) (k : ℕ) (x : Numbers) : Type 0 where
  pub renumbering : renumbering_of x ≡ renumbering p k
  pub indices : (space : Space) → space_number x space ≡ index_number p space k
