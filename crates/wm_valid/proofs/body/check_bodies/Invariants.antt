use Rattle.std.proofs.Common.{◌≡◌, ℕ, ◌<◌, Some}
use Rattle.std.specs.Prelude.{slice_get}
use Rattle.wm_ast.specs.declared.module.Func.{Func}
use Rattle.wm_ast.specs.Profile.{function_code}
use Rattle.wm_valid.specs.InRange.{CodeInRange}
use Rattle.wm_valid.specs.Typing.{HasTyping}
use Rattle.wm_valid.proofs.body.check_bodies.Given as goal

abbrev pub invariant-loop-func : goal.invariant-loop-func
invariant-loop-func l = record {
  typed : (k : ℕ) (f : Func) → k < l.func → slice_get l.m.funcs k ≡ Some f → HasTyping l.m f;
  range : (k : ℕ) (f : Func) → k < l.func → slice_get l.m.funcs k ≡ Some f → CodeInRange (function_code f);
}
