-- A function's body, checked in its context, against its typing.
use Rattle.std.proofs.Common.{◌≡◌, List, [], ◌∷◌, reverse, Option, Some, Result, Ok, Err, refl, sym, subst, ◌∙◌}
use Rattle.std.specs.Borrow.{Bor}
use Rattle.wm_ast.specs.declared.module.Func.{Func}
use Rattle.wm_ast.specs.declared.module.FuncType.{FuncType}
use Rattle.wm_ast.specs.declared.module.Module.{Module}
use Rattle.wm_ast.specs.declared.module.ValType.{ValType}
use Rattle.wm_ast.specs.declared.instruction.Instr.{Instr}
use Rattle.wm_ast.specs.View.{code_of}
use Rattle.wm_valid.specs.declared.fault.Fault.{Fault}
use Rattle.wm_valid.specs.declared.fault.Fault.TheVariants.{Untyped, Memory}
use Rattle.wm_valid.specs.declared.scope.Scope.{Scope}
use Rattle.wm_ast.specs.Types.{function_type}
use Rattle.wm_valid.specs.Typing.{body_context}
use Rattle.wm_valid.specs.steps.Checking.{bare, ended, check_code, check_body}
use Rattle.wm_valid.specs.ScopeView.{IsScopeOf}
use Rattle.wm_valid.specs.steps.Found.{Finds, labels_of, context, TypesFunction}
use Rattle.wm_valid.proofs.OperandLaws.{some_is}
use Rattle.wm_valid.proofs.CheckLaws.{check_sound, check_complete}

checked : (m : Module) (f : Func) (t : FuncType) (r : Result (Unit {0}) Fault) → function_type m f ≡ Some t
    → Finds (λ u. tt {0}) r (check_body (code_of f.body) (body_context m f t) (reverse t.results)) → TypesFunction r m f
checked m f t (Ok u) is e = (t, is, check_sound (code_of f.body) (body_context m f t) (reverse t.results) tt e)
checked m f t (Err Untyped) is e = λ h.
    let same : h.0 ≡ t = some_is h.0 t (sym h.1 ∙ is) in
    let typed = check_complete (code_of f.body) (body_context m f h.0) (reverse h.0.results) h.2 in
    let found = subst (λ (u : FuncType). check_body (code_of f.body) (body_context m f u) (reverse u.results) ≡ Some tt) same typed in
    absurd cc
checked m f t (Err Memory) is e = tt

-- the same, where what the body may name is known to be the function's
pub function_checked : (m : Module) (f : Func) (t : FuncType) (r : Result (Unit {0}) Fault) (s : Scope) (ls : List (Bor (List ValType))) (body : List Instr) → IsScopeOf s m f t
    → ls ≡ [] → body ≡ f.body
    → Finds (λ u. tt {0}) r (ended (reverse s.results.now) (check_code (code_of body) (context s (reverse s.results.now ∷ labels_of ls)) bare)) → TypesFunction r m f
function_checked m f t r s ls body is en eb g =
    let e : ended (reverse s.results.now) (check_code (code_of body) (context s (reverse s.results.now ∷ labels_of ls)) bare) ≡ check_body (code_of f.body) (body_context m f t) (reverse t.results) = rw (is.of_module, is.locals, is.results, en, eb) refl in
    checked m f t r is.named (subst (λ (o : Option (Unit {0})). Finds (λ (u : Unit {0}). tt {0}) r o) e g)
