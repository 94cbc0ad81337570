-- Whether the memory of a module grows, before a cut that follows.
use Rattle.std.specs.Prelude.{◌≡◌, ℕ, pos, Some}
use Rattle.wm_ast.specs.declared.module.Module.{Module}
use Rattle.wm_valid.specs.Typing.{HasFirst}
use Rattle.cc_line.specs.declared.leaf.PieceId.TheVariants as ids
use Rattle.mc_inspect.specs.declared.reading.Reading.{Reading}

-- there is a memory, so many pages are still to be appended, and this cut follows
pub record Grows (m : Module) (x : Reading) (func index : ℕ) : Type 0 where
  pub has_memory : HasFirst m.mems
  pub missing : ℕ
  pub told : x.scores.g ≡ Some (pos missing)
  pub follows : x.follows ≡ Some (ids.Body func index)

abbrev pub GrowsNot : Module → Reading → Type 0
GrowsNot m x = (func index : ℕ) → Grows m x func index → ⊥
