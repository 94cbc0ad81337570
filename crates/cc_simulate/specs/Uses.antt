-- Which modules look bytes up: only for these the tables of bytes stand.
use Rattle.std.specs.Prelude.{Bool, false}
use Rattle.std.specs.List.{list_any}
use Rattle.wm_ast.specs.declared.module.Func.{Func}
use Rattle.wm_ast.specs.declared.module.Module.{Module}
use Rattle.wm_ast.specs.Code.{Op, num}
use Rattle.wm_ast.specs.Profile.{all_ops, function_code}
use Rattle.cc_line.specs.Standing.{takes_bytes}

-- an operation that looks bytes up
abbrev pub op_takes_bytes : Op → Bool
op_takes_bytes (num op) = takes_bytes op
op_takes_bytes _ = false

-- the function's body has one, at any depth
abbrev pub function_takes_bytes : Func → Bool
function_takes_bytes f = list_any op_takes_bytes (all_ops (function_code f))

-- a function of the module does
abbrev pub uses_bytes : Module → Bool
uses_bytes m = list_any function_takes_bytes m.funcs
