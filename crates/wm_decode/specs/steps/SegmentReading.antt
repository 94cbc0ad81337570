-- The parts of a module that hold instructions, read from the left.
use Rattle.std.specs.Prelude.{◌^◌, List, Some, None, nat_lt, if◌then◌else◌}
use Rattle.wm_ast.specs.declared.instruction.Instr.{Instr}
use Rattle.wm_ast.specs.declared.module.Run.{Run}
use Rattle.wm_ast.specs.declared.module.Global.{Global}
use Rattle.wm_ast.specs.declared.module.Elem.{Elem}
use Rattle.wm_ast.specs.declared.module.Data.{Data}
use Rattle.wm_ast.specs.Part.{locals_count}
use Rattle.wm_ast.specs.View.{instrs_of}
use Rattle.wm_frame.specs.Reading.{Reader, ◌>>=◌, unsigned_at}
use Rattle.wm_decode.specs.steps.Instruction.{expr_at}
use Rattle.wm_decode.specs.steps.Listing.{list_at, bytes_at, three_at, whole}
use Rattle.wm_decode.specs.steps.PartReading.{global_type_at}
use Rattle.wm_decode.specs.steps.ValueType.{val_type_at}
use Rattle.wm_decode.specs.declared.segment.Body.{Body}

-- an expression, as the instructions that its plain data stand for
unfoldable pub expression_at : Reader (List Instr)
expression_at bytes = expr_at bytes >>= λ code. Some (instrs_of code.0, code.1)

unfoldable pub global_at : Reader Global
global_at bytes = do
  type' ← global_type_at bytes
  init ← expression_at type'.1
  Some (record { ty = type'.0.0; mutable = type'.0.1; init = init.0 }, init.1)

unfoldable pub elem_at : Reader Elem
elem_at bytes =
    three_at (unsigned_at 32) expression_at (list_at (unsigned_at 32))
    (λ table offset funcs. record { table = table; offset = offset; funcs = funcs }) bytes

unfoldable pub data_at : Reader Data
data_at bytes =
    three_at (unsigned_at 32) expression_at bytes_at
    (λ memory offset items. record { memory = memory; offset = offset; bytes = items }) bytes

unfoldable pub run_at : Reader Run
run_at bytes = do
  count ← unsigned_at 32 bytes
  t ← val_type_at count.1
  Some (record { count = count.0; ty = t.0 }, t.1)

-- a function without its size
unfoldable pub function_at : Reader Body
function_at bytes = do
  locals ← list_at run_at bytes
  body ← expression_at locals.1
  if nat_lt (locals_count locals.0) (2 ^ 32) then Some (record { locals = locals.0; body = body.0 }, body.1) else None

-- a function that takes up its size
unfoldable pub body_at : Reader Body
body_at bytes = bytes_at bytes >>= λ part. whole (function_at part.0) >>= λ body. Some (body, part.1)
