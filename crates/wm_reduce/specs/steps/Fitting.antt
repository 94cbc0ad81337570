-- Segments that fit, and items that are left to go over.
use Rattle.std.specs.Prelude.{◌≡◌, ℕ, ◌≤◌, List, length, Some, false, slice_get}
use Rattle.wm_ast.specs.declared.limit.TheConstants.{PAGES}
use Rattle.wm_ast.specs.declared.module.Data.{Data}
use Rattle.wm_ast.specs.declared.module.Elem.{Elem}
use Rattle.wm_ast.specs.declared.module.Limits.{Limits}
use Rattle.wm_ast.specs.declared.module.Module.{Module}
use Rattle.wm_ast.specs.Instance.{empty_elements, zeros}
use Rattle.wm_ast.specs.Profile.{constant_offset, data_code, element_code, is_beyond, pages}

-- none of these data segments reaches beyond so many bytes
abbrev pub DatasFit : List Data → ℕ → Type 0
DatasFit ds size =
    (n : ℕ) (d : Data) → slice_get ds n ≡ Some d
    → is_beyond (constant_offset (data_code d)) (length d.bytes) (Some size) ≡ false

-- none of these element segments reaches beyond so many elements
abbrev pub ElementsFit : List Elem → ℕ → Type 0
ElementsFit es size =
    (n : ℕ) (e : Elem) → slice_get es n ≡ Some e
    → is_beyond (constant_offset (element_code e)) (length e.funcs) (Some size) ≡ false

-- the segments fit into the memory and the table, and the memory into the profile
pub record Fits (m : Module) : Type 0 where
  pub few_pages : (l : Limits) → slice_get m.mems 0 ≡ Some l → pages l ≤ PAGES
  pub datas : DatasFit m.datas (length (zeros (slice_get m.mems 0)))
  pub elements : ElementsFit m.elems (length (empty_elements (slice_get m.tables 0)))
