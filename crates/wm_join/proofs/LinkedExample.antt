-- Worked facts of linked modules: a library's function that the main module imports.
use Rattle.std.proofs.Common.{◌≡◌, List, [], ◌∷◌, Option, Some, None, refl, pos}
use Rattle.mc_nbt.specs.declared.value.Value.{Value}
use Rattle.mc_nbt.specs.declared.value.Value.TheVariants.{I32}
use Rattle.wm_ast.specs.declared.instruction.Instr.{Instr}
use Rattle.wm_ast.specs.declared.module.FuncType.{FuncType}
use Rattle.wm_ast.specs.declared.module.Imported.TheVariants as imported
use Rattle.wm_ast.specs.declared.module.Module.{Module}
use Rattle.wm_ast.specs.declared.module.Space.TheVariants as spaces
use Rattle.wm_ast.specs.declared.module.ValType.TheVariants as types
use Rattle.wm_ast.specs.declared.operation.NumOp.TheVariants.{I32Add}
use Rattle.wm_ast.specs.Code.{local_get, call, num, nil, cons}
use Rattle.wm_ast.specs.View.{code_of}
use Rattle.wm_match.specs.Program.{Program}
use Rattle.wm_join.specs.LinkedAfter.{after}
use Rattle.wm_join.specs.LinkedInstance.{call_config}
use Rattle.wm_join.specs.LinkedStep.{Progress, Ended}
use Rattle.wm_join.specs.LinkedStore.{Store as LinkedStore}

abbrev to_one : FuncType
to_one = record { params = types.I32 ∷ []; results = types.I32 ∷ [] }

-- a library that exports a function of this body
abbrev library : List Instr → Module
library body = record {
  types = to_one ∷ [];
  funcs = record { kind = 0; locals = []; body = body } ∷ [];
  tables = [];
  mems = [];
  globals = [];
  exports = record { name = 116 ∷ []; space = spaces.Func; index = 0 } ∷ [];
  start = None;
  elems = [];
  datas = [];
  imports = [];
}

-- a module that imports it, and has a function of this body
abbrev user : List Instr → Module
user body = record {
  types = to_one ∷ [];
  funcs = record { kind = 0; locals = []; body = body } ∷ [];
  tables = [];
  mems = [];
  globals = [];
  exports = record { name = 102 ∷ []; space = spaces.Func; index = 1 } ∷ [];
  start = None;
  elems = [];
  datas = [];
  imports = record { «module» = 109 ∷ []; name = 116 ∷ []; what = imported.Func 0 } ∷ [];
}

abbrev both : List Instr → List Instr → Program
both twice body = record {
  libraries = record { name = 109 ∷ []; «module» = library twice } ∷ [];
  main = user body;
  bindings = [] ∷ (record { «module» = 0; index = 0 } ∷ []) ∷ [];
}

abbrev nothing : LinkedStore
nothing = record { globals = [] ∷ [] ∷ []; memory = []; table = [] }

abbrev results_of : Progress → Option (List Value)
results_of (Ended vs s) = Some vs
results_of _ = None

module _ (twice body : List Instr)
    (e : code_of twice ≡ cons (local_get 0) (cons (local_get 0) (cons (num I32Add) nil)))
    (g : code_of body ≡ cons (local_get 0) (cons (call 0) nil)) where
  twice_is : results_of (after (both twice body) (call_config (both twice body) nothing 1 (I32 (pos 21) ∷ [])) 10) ≡ Some (I32 (pos 42) ∷ [])
  twice_is = rw g (rw e refl)
