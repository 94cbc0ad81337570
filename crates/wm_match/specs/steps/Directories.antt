-- What imports are looked up in.
use Rattle.std.specs.Prelude.{◌≡◌, ℕ, List, length, Option, Some, slice_get, position}
use Rattle.std.specs.BTreeMap.{BTreeMap, get}
use Rattle.std.specs.Cmp.Lexicographic.{slice_cmp}
use Rattle.std.specs.Ordering.{nat_cmp}
use Rattle.std.specs.Str.{bytes_eq}
use Rattle.wm_ast.specs.declared.module.Export.{Export}
use Rattle.wm_ast.specs.declared.module.Module.{Module}
use Rattle.wm_ast.specs.declared.module.Space.TheVariants as spaces
use Rattle.wm_match.specs.declared.directory.Directory.{Directory}
use Rattle.wm_match.specs.declared.library.Binding.{Binding}
use Rattle.wm_match.specs.declared.library.Library.{Library}
use Rattle.wm_match.specs.Program.{modules_of}
use Rattle.wm_match.specs.Space.{imported_items}

-- what stands under a name
abbrev pub named_place : BTreeMap (List ℕ) ℕ → List ℕ → Option ℕ
named_place names name = get (slice_cmp nat_cmp) names name

-- under each name stands the place of the first export of the name
abbrev pub AreNamed : List Export → BTreeMap (List ℕ) ℕ → Type 0
AreNamed es names = (name : List ℕ) → named_place names name ≡ position (λ (e : Export). bytes_eq e.name name) es

-- the directory of a module whose imports are bound to these
pub record IsDirectory (m : Module) (part : List Binding) (d : Directory) : Type 0 where
  pub named : AreNamed m.exports d.exports
  pub functions : d.functions.items ≡ imported_items spaces.Func m.imports part

-- the directories of the modules whose imports are bound so far
pub record AreDirectories (libraries : List Library) (main : Module) (done : List (List Binding)) (ds : List Directory)
    : Type 0 where
  pub count : length ds ≡ length done
  pub each : (j : ℕ) (m : Module) (part : List Binding) (d : Directory)
      → slice_get (modules_of libraries main) j ≡ Some m → slice_get done j ≡ Some part → slice_get ds j ≡ Some d
      → IsDirectory m part d
