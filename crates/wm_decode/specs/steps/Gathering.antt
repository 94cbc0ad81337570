-- What was read of the sections so far.
use Rattle.std.specs.Prelude.{◌≡◌, ℕ, map, Option, Some, Result, Ok, Err, option_map}
use Rattle.wm_ast.specs.declared.module.Func.{Func}
use Rattle.wm_ast.specs.Spelling as grammar
use Rattle.wm_ast.specs.Spelling.{Content, with_content}
use Rattle.wm_decode.specs.steps.ContentReading.{limits_of, seen_body}
use Rattle.wm_decode.specs.steps.Gives.{Fails}
use Rattle.wm_decode.specs.declared.fault.Fault.{Fault}
use Rattle.wm_decode.specs.declared.section.Parts.{Parts}
use Rattle.wm_decode.specs.declared.segment.Body.{Body}

-- the parts, as the grammar has them
abbrev pub seen : Parts → grammar.Parts
seen p = record {
  types = p.types;
  imports = p.imports;
  kinds = p.kinds;
  tables = map limits_of p.tables;
  memories = p.memories;
  globals = p.globals;
  exports = p.exports;
  start = p.start;
  elements = p.elements;
  bodies = map seen_body p.bodies;
  datas = p.datas;
}

-- a function of a type and a body
abbrev pub func_of : ℕ × Body → Func
func_of x = record { kind = x.0; locals = x.1.locals; body = x.1.body }

-- the new parts are the old ones with the content that was read, unless memory ran out
abbrev pub Adds : {X : Type 0} → Parts → Parts → Result X Fault → Option Content → Type 0
Adds old new (Ok x) read = option_map (λ c. with_content c (seen old)) read ≡ Some (seen new)
Adds old new (Err e) read = Fails e read
