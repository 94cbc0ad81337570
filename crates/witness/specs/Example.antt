-- A module with something of each kind. In the text format it is
--
--     (module
--       (type (func (param i64) (result i64)))
--       (type (func))
--       (func (type 0)
--         (i64.store (i32.const 8) (local.get 0))
--         (i64.load (i32.const 0))
--         (call_indirect (type 0) (call 1 (i64.load (i32.const 8))) (i32.const 0))
--         (i64.add)
--         (i64.add (global.get 0)))
--       (func (type 0)
--         (loop (result i64)
--           (if (i64.gt_s (local.get 0) (i64.const 40))
--             (then (local.set 0 (i64.div_s (local.get 0) (i64.const 3))) (br 1)))
--           (local.get 0)))
--       (func (type 1) (global.set 0 (i64.const 2)))
--       (func (type 1) (loop (br 0)))
--       (func (type 1) (unreachable))
--       (table 1 funcref)
--       (memory 1)
--       (global (mut i64) (i64.const 1))
--       (export "run" (func 0))
--       (export "spin" (func 3))
--       (export "fail" (func 4))
--       (start 2)
--       (elem (i32.const 0) func 1)
--       (data (i32.const 0) "\23\00\00\00\00\00\00\00"))
use Rattle.std.specs.Prelude.{List, [], ◌∷◌, ℕ, Some, None, pos, true, codes}
use Rattle.mc_nbt.specs.declared.value.Value.TheVariants as values
use Rattle.wm_ast.specs.declared.instruction.Instr.{Instr}
use Rattle.wm_ast.specs.declared.module.ValType.TheVariants.{I64}
use Rattle.wm_ast.specs.declared.module.Func.{Func}
use Rattle.wm_ast.specs.declared.module.FuncType.{FuncType}
use Rattle.wm_ast.specs.declared.module.Limits.{Limits}
use Rattle.wm_ast.specs.declared.module.Export.{Export}
use Rattle.wm_ast.specs.declared.module.Module.{Module}
use Rattle.wm_ast.specs.declared.module.Space.TheVariants as spaces
use Rattle.wm_ast.specs.declared.operation.NumOp.TheVariants.{I64Add, I64DivS, I64GtS}
use Rattle.wm_ast.specs.declared.operation.LoadOp.TheVariants.{I64Load}
use Rattle.wm_ast.specs.declared.operation.StoreOp.TheVariants.{I64Store}
use Rattle.wm_ast.specs.Code.{Op, unreachable, loop, if_else, br, call, call_indirect, local_get, local_set}
use Rattle.wm_ast.specs.Code.{global_get, global_set, load, store, const, num, Code, nil, cons}
use Rattle.wm_ast.specs.View.{instrs_of}

-- instructions one after the other
abbrev pub code : List Op → Code
code [] = nil
code (i ∷ is) = cons i (code is)

-- constants
abbrev pub int : ℕ → Op
int n = const (values.I32 (pos n))

abbrev pub long : ℕ → Op
long n = const (values.I64 (pos n))

-- the code of the functions, of the global's first value, and of the offset of both segments
abbrev pub run : List Op
run =
    int 8 ∷ local_get 0 ∷ store I64Store 3 0
    ∷ int 0 ∷ load I64Load 3 0
    ∷ int 8 ∷ load I64Load 3 0 ∷ call 1 ∷ int 0 ∷ call_indirect 0
    ∷ num I64Add ∷ global_get 0 ∷ num I64Add ∷ []

-- a third of the local, and another turn
abbrev pub third : List Op
third = local_get 0 ∷ long 3 ∷ num I64DivS ∷ local_set 0 ∷ br 1 ∷ []

abbrev pub turn : List Op
turn = local_get 0 ∷ long 40 ∷ num I64GtS ∷ if_else None (code third) nil ∷ local_get 0 ∷ []

abbrev pub lower : List Op
lower = loop (Some I64) (code turn) ∷ []

abbrev pub start : List Op
start = long 2 ∷ global_set 0 ∷ []

abbrev pub spin : List Op
spin = loop None (code (br 0 ∷ [])) ∷ []

abbrev pub fail : List Op
fail = unreachable ∷ []

abbrev pub first : List Op
first = long 1 ∷ []

abbrev pub offset : List Op
offset = int 0 ∷ []

-- the sizes of the memory and of the table
abbrev pub one : Limits
one = record { min = 1; max = None }

-- the types of functions: from an i64 to an i64, and from nothing to nothing
abbrev pub of_one : FuncType
of_one = record { params = I64 ∷ []; results = I64 ∷ [] }

abbrev pub of_none : FuncType
of_none = record { params = []; results = [] }

-- the bytes of the data segment, an i64
abbrev pub initial : List ℕ
initial = 0x23 ∷ 0 ∷ 0 ∷ 0 ∷ 0 ∷ 0 ∷ 0 ∷ 0 ∷ []

-- the exports
abbrev pub exported : List Export
exported =
    record { name = codes "run"; space = spaces.Func; index = 0 }
    ∷ record { name = codes "spin"; space = spaces.Func; index = 3 }
    ∷ record { name = codes "fail"; space = spaces.Func; index = 4 }
    ∷ []

-- the same code as lists of instructions
pub record Bodies : Type 0 where
  pub run : List Instr
  pub lower : List Instr
  pub start : List Instr
  pub spin : List Instr
  pub fail : List Instr
  pub first : List Instr
  pub offset : List Instr

abbrev pub bodies : Bodies
bodies = record {
  run = instrs_of (code run);
  lower = instrs_of (code lower);
  start = instrs_of (code start);
  spin = instrs_of (code spin);
  fail = instrs_of (code fail);
  first = instrs_of (code first);
  offset = instrs_of (code offset);
}

-- a function without locals of its own, by the index of its type
abbrev pub function : ℕ → List Instr → Func
function kind body = record { kind = kind; locals = []; body = body }

-- the module of these lists, with this start function
abbrev pub module_of : ℕ → Bodies → Module
module_of begin b = record {
  types = of_one ∷ of_none ∷ [];
  funcs =
      function 0 b.run ∷ function 0 b.lower ∷ function 1 b.start ∷ function 1 b.spin ∷ function 1 b.fail ∷ [];
  tables = one ∷ [];
  mems = one ∷ [];
  globals = record { ty = I64; mutable = true; init = b.first } ∷ [];
  exports = exported;
  start = Some begin;
  elems = record { table = 0; offset = b.offset; funcs = 1 ∷ [] } ∷ [];
  datas = record { memory = 0; offset = b.offset; bytes = initial } ∷ [];
  imports = [];
}

abbrev pub example : Module
example = module_of 2 bodies

-- a module whose start function traps
abbrev pub dying : Module
dying = module_of 4 bodies

-- what a file of it may hold: the header, and a section a line, but for the code
abbrev pub example_bytes : List ℕ
example_bytes =
    0x00 ∷ 0x61 ∷ 0x73 ∷ 0x6D ∷ 0x01 ∷ 0x00 ∷ 0x00 ∷ 0x00
    ∷ 0x01 ∷ 0x09 ∷ 0x02 ∷ 0x60 ∷ 0x01 ∷ 0x7E ∷ 0x01 ∷ 0x7E ∷ 0x60 ∷ 0x00 ∷ 0x00
    ∷ 0x03 ∷ 0x06 ∷ 0x05 ∷ 0x00 ∷ 0x00 ∷ 0x01 ∷ 0x01 ∷ 0x01
    ∷ 0x04 ∷ 0x04 ∷ 0x01 ∷ 0x70 ∷ 0x00 ∷ 0x01
    ∷ 0x05 ∷ 0x03 ∷ 0x01 ∷ 0x00 ∷ 0x01
    ∷ 0x06 ∷ 0x06 ∷ 0x01 ∷ 0x7E ∷ 0x01 ∷ 0x42 ∷ 0x01 ∷ 0x0B
    ∷ 0x07 ∷ 0x15 ∷ 0x03 ∷ 0x03 ∷ 0x72 ∷ 0x75 ∷ 0x6E ∷ 0x00 ∷ 0x00 ∷ 0x04 ∷ 0x73 ∷ 0x70 ∷ 0x69 ∷ 0x6E ∷ 0x00 ∷ 0x03
    ∷ 0x04 ∷ 0x66 ∷ 0x61 ∷ 0x69 ∷ 0x6C ∷ 0x00 ∷ 0x04
    ∷ 0x08 ∷ 0x01 ∷ 0x02
    ∷ 0x09 ∷ 0x07 ∷ 0x01 ∷ 0x00 ∷ 0x41 ∷ 0x00 ∷ 0x0B ∷ 0x01 ∷ 0x01
    ∷ 0x0A ∷ 0x4C ∷ 0x05
    ∷ 0x1E ∷ 0x00 ∷ 0x41 ∷ 0x08 ∷ 0x20 ∷ 0x00 ∷ 0x37 ∷ 0x03 ∷ 0x00 ∷ 0x41 ∷ 0x00 ∷ 0x29 ∷ 0x03 ∷ 0x00 ∷ 0x41 ∷ 0x08
    ∷ 0x29 ∷ 0x03 ∷ 0x00 ∷ 0x10 ∷ 0x01 ∷ 0x41 ∷ 0x00 ∷ 0x11 ∷ 0x00 ∷ 0x00 ∷ 0x7C ∷ 0x23 ∷ 0x00 ∷ 0x7C ∷ 0x0B
    ∷ 0x18 ∷ 0x00 ∷ 0x03 ∷ 0x7E ∷ 0x20 ∷ 0x00 ∷ 0x42 ∷ 0x28 ∷ 0x55 ∷ 0x04 ∷ 0x40 ∷ 0x20 ∷ 0x00 ∷ 0x42 ∷ 0x03 ∷ 0x7F
    ∷ 0x21 ∷ 0x00 ∷ 0x0C ∷ 0x01 ∷ 0x0B ∷ 0x20 ∷ 0x00 ∷ 0x0B ∷ 0x0B
    ∷ 0x06 ∷ 0x00 ∷ 0x42 ∷ 0x02 ∷ 0x24 ∷ 0x00 ∷ 0x0B
    ∷ 0x07 ∷ 0x00 ∷ 0x03 ∷ 0x40 ∷ 0x0C ∷ 0x00 ∷ 0x0B ∷ 0x0B
    ∷ 0x03 ∷ 0x00 ∷ 0x00 ∷ 0x0B
    ∷ 0x0B ∷ 0x0E ∷ 0x01 ∷ 0x00 ∷ 0x41 ∷ 0x00 ∷ 0x0B ∷ 0x08 ∷ 0x23 ∷ 0x00 ∷ 0x00 ∷ 0x00 ∷ 0x00 ∷ 0x00 ∷ 0x00 ∷ 0x00
    ∷ []
