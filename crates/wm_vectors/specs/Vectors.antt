-- How long the vectors of a module are, and those in its items and in its code.
use Rattle.std.specs.Prelude.{ℕ, suc, ◌≤◌, length, All}
use Rattle.wm_ast.specs.declared.module.Data.{Data}
use Rattle.wm_ast.specs.declared.module.Elem.{Elem}
use Rattle.wm_ast.specs.declared.module.Export.{Export}
use Rattle.wm_ast.specs.declared.module.Func.{Func}
use Rattle.wm_ast.specs.declared.module.FuncType.{FuncType}
use Rattle.wm_ast.specs.declared.module.Global.{Global}
use Rattle.wm_ast.specs.declared.module.Import.{Import}
use Rattle.wm_ast.specs.declared.module.Module.{Module}
use Rattle.wm_ast.specs.Code.{Op, block, loop, if_else, br_table, Code, nil, cons}
use Rattle.wm_ast.specs.View.{code_of}
use Rattle.wm_match.specs.Lists.{HasListsWithin}

-- how many instructions a sequence has; a block counts as one, whatever stands in it
abbrev pub code_length : Code → ℕ
code_length nil = 0
code_length (cons i is) = suc (code_length is)

abbrev mutual
  -- each sequence in an instruction has at most n instructions, and each `br_table` at most n labels
  pub OpWithin : ℕ → Op → Type 0
  OpWithin n (block ty body) = (code_length body ≤ n) × EachOpWithin n body
  OpWithin n (loop ty body) = (code_length body ≤ n) × EachOpWithin n body
  OpWithin n (if_else ty first second) =
      ((code_length first ≤ n) × EachOpWithin n first) × ((code_length second ≤ n) × EachOpWithin n second)
  OpWithin n (br_table labels last) = length labels ≤ n
  OpWithin _ _ = Unit {0}

  -- so it is in each instruction of a sequence
  pub EachOpWithin : ℕ → Code → Type 0
  EachOpWithin n nil = Unit {0}
  EachOpWithin n (cons i is) = OpWithin n i × EachOpWithin n is

-- code is so: the sequence and each one inside has at most n instructions, and each `br_table` at most n labels
abbrev pub CodeWithin : ℕ → Code → Type 0
CodeWithin n is = (code_length is ≤ n) × EachOpWithin n is

-- a type has at most n parameters and at most n results
abbrev pub TypeWithin : ℕ → FuncType → Type 0
TypeWithin n t = (length t.params ≤ n) × (length t.results ≤ n)

-- both names of an import have at most n bytes
abbrev pub ImportWithin : ℕ → Import → Type 0
ImportWithin n i = (length i.module ≤ n) × (length i.name ≤ n)

-- the code of a global's first value is so
abbrev pub GlobalWithin : ℕ → Global → Type 0
GlobalWithin n g = CodeWithin n (code_of g.init)

-- the name of an export has at most n bytes
abbrev pub ExportWithin : ℕ → Export → Type 0
ExportWithin n e = length e.name ≤ n

-- the code of an element segment's offset is so, and the segment has at most n functions
abbrev pub ElemWithin : ℕ → Elem → Type 0
ElemWithin n e = CodeWithin n (code_of e.offset) × (length e.funcs ≤ n)

-- the code of a data segment's offset is so, and the segment has at most n bytes
abbrev pub DataWithin : ℕ → Data → Type 0
DataWithin n d = CodeWithin n (code_of d.offset) × (length d.bytes ≤ n)

-- a function has at most n runs of locals, and the code of its body is so
abbrev pub FuncWithin : ℕ → Func → Type 0
FuncWithin n f = (length f.locals ≤ n) × CodeWithin n (code_of f.body)

-- No vector of the module has more than n items: neither its lists nor those in their items.
pub record HasVectorsWithin (n : ℕ) (m : Module) : Type 0 where
  pub lists : HasListsWithin n m
  pub types : All (TypeWithin n) m.types
  pub imports : All (ImportWithin n) m.imports
  pub globals : All (GlobalWithin n) m.globals
  pub exports : All (ExportWithin n) m.exports
  pub elems : All (ElemWithin n) m.elems
  pub datas : All (DataWithin n) m.datas
  pub funcs : All (FuncWithin n) m.funcs
