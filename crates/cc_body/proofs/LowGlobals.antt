-- The instructions on globals in a valid module of the profile name few globals.
use Rattle.std.proofs.Common.{◌≡◌, ℕ, ◌≤◌, ◌<◌, List, [], ◌++◌, length, map, subst, arith}
use Rattle.std.proofs.lemmas.List.{length-map}
use Rattle.std.proofs.lemmas.Option.{slice_get_within}
use Rattle.wm_ast.specs.declared.module.Func.{Func}
use Rattle.wm_ast.specs.declared.module.FuncType.{FuncType}
use Rattle.wm_ast.specs.declared.module.Module.{Module}
use Rattle.wm_ast.specs.declared.module.ValType.{ValType}
use Rattle.wm_ast.specs.Code.{Op, block, loop, if_else, global_get, global_set, Code, nil, cons}
use Rattle.wm_ast.specs.Profile.{InProfile}
use Rattle.wm_ast.specs.Types.{results_of}
use Rattle.wm_ast.specs.View.{code_of}
use Rattle.wm_valid.specs.Typing.{Context, under_label, Rule, TypesCode, global_type, body_context}
use Rattle.wm_valid.proofs.PlaceLaws.{of_arm}
use Rattle.wm_place.specs.Place.{Step, in_block, in_arm}
use Rattle.wm_place.proofs.LevelLemmas.{IsInner}

abbrev mutual
  -- the globals that an instruction names, with those inside it, have small indices
  pub OpLowGlobals : Op → Type 0
  OpLowGlobals (global_get x) = x < 4096
  OpLowGlobals (global_set x) = x < 4096
  OpLowGlobals (block ty body) = LowGlobals body
  OpLowGlobals (loop ty body) = LowGlobals body
  OpLowGlobals (if_else ty one other) = LowGlobals one × LowGlobals other
  OpLowGlobals _ = Unit {0}

  -- those that a sequence names
  pub LowGlobals : Code → Type 0
  LowGlobals nil = Unit {0}
  LowGlobals (cons i is) = OpLowGlobals i × LowGlobals is

pub globals_behind : (i : Op) (is : Code) → LowGlobals (cons i is) → LowGlobals is
globals_behind i is h = h.1

pub globals_inner : (s : Step) (i : Op) (is d : Code) → IsInner s i d → LowGlobals (cons i is) → LowGlobals d
globals_inner (in_block n) (block ty c) is d e h = subst LowGlobals e h.0
globals_inner (in_block n) (loop ty c) is d e h = subst LowGlobals e h.0
globals_inner (in_block n) _ is d e h = absurd e
globals_inner (in_arm n k) (if_else ty a b) is d e h = of_arm k a b d LowGlobals e h.0.0 h.0.1
globals_inner (in_arm n k) _ is d e h = absurd e

-- ---- typed code

named_low : (C : Context) (x : ℕ) → length C.scope.globals ≤ 4096 → x < length C.scope.globals → x < 4096
named_low C x few h = omega arith

mutual
  op_low : (i : Op) (C : Context) (a b : List ValType) → length C.scope.globals ≤ 4096 → Rule i C a b → OpLowGlobals i
  op_low (global_get x) C a b few (g, there, r) = named_low C x few (slice_get_within C.scope.globals x g there)
  op_low (global_set x) C a b few (g, there, mutable, r) = named_low C x few (slice_get_within C.scope.globals x g there)
  op_low (block ty body) C a b few r = code_low body (under_label (results_of ty) C) [] (results_of ty) few r.1
  op_low (loop ty body) C a b few r = code_low body (under_label [] C) [] (results_of ty) few r.1
  op_low (if_else ty one other) C a b few r = (
    code_low one (under_label (results_of ty) C) [] (results_of ty) few r.1,
    code_low other (under_label (results_of ty) C) [] (results_of ty) few r.2,
  )
  op_low _ C a b few r = tt

  code_low : (c : Code) (C : Context) (a b : List ValType) → length C.scope.globals ≤ 4096 → TypesCode c C a b → LowGlobals c
  code_low nil C a b few t = tt
  code_low (cons i is) C a b few (takes, gives, below, r, e, others) = (op_low i C takes gives few r, code_low is C (gives ++ below) b few others)

-- ---- a module

pub globals_are_few : (m : Module) → InProfile m → length m.globals ≤ 4096
globals_are_few m p = p.within_limits.globals

pub globals_low : (m : Module) (f : Func) (t : FuncType) (gives : List ValType) → InProfile m → TypesCode (code_of f.body) (body_context m f t) [] gives → LowGlobals (code_of f.body)
globals_low m f t gives p typed =
    let few : length m.globals ≤ 4096 = globals_are_few m p in
    let same : length (map global_type m.globals) ≡ length m.globals = length-map m.globals global_type in
    code_low (code_of f.body) (body_context m f t) [] gives (omega arith) typed
