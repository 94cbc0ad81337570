-- Instructions without a body that go to no other place.
use Rattle.wm_ast.specs.Code.{Op, block, loop, if_else, br, br_if, br_table, return, call, call_indirect, const}

abbrev pub IsPlain : Op → Type 0
IsPlain (const v) = ⊥
IsPlain (block ty body) = ⊥
IsPlain (loop ty body) = ⊥
IsPlain (if_else ty first second) = ⊥
IsPlain (br l) = ⊥
IsPlain (br_if l) = ⊥
IsPlain (br_table ls l) = ⊥
IsPlain return = ⊥
IsPlain (call f) = ⊥
IsPlain (call_indirect n) = ⊥
IsPlain _ = Unit {0}
