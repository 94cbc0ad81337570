-- Where globals are in the public storage, and how many pages the memory has in any case.
use Rattle.std.specs.Prelude.{ℕ, [], ◌∷◌, pos, Option, option_map, Bool, nat_le, slice_get}
use Rattle.mc_nbt.specs.Tree.{place}
use Rattle.wm_ast.specs.declared.module.Global.{Global}
use Rattle.wm_ast.specs.declared.module.Module.{Module}
use Rattle.wm_ast.specs.declared.module.ValType.{ValType}
use Rattle.wm_flat.specs.FlatTyping.{least_pages}
use Rattle.cc_line.specs.Sight.{in_memory}
use Rattle.cc_line.specs.Key.{key_globals}
use Rattle.cc_line.specs.State.{Site}

-- an int of a global: its low half, or its only one, is the first
abbrev pub global_site : ℕ → ℕ → Site
global_site x k = record { store = in_memory; name = key_globals; parts = place (pos x) ∷ (place (pos k) ∷ []) }

-- the type of a global
abbrev pub type_of_global : Module → ℕ → Option ValType
type_of_global m x = option_map (λ (g : Global). g.ty) (slice_get m.globals x)

-- how many pages the module's memory has in any case, and whether it has one
abbrev pub least_memory : Module → ℕ
least_memory m = least_pages (slice_get m.mems 0)

abbrev pub has_page : Module → Bool
has_page m = nat_le 1 (least_memory m)
