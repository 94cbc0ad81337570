-- The functions of a module.
use Rattle.std.proofs.Common.{◌≡◌, ℕ, ◌<◌, List, [], ◌∷◌, length, get_or, Option, Some, None, sym, ap, ◌∙◌, arith}
use Rattle.std.specs.Prelude.{slice_get, option_map, option_and_then}
use Rattle.std.proofs.lemmas.List.{length-reverse}
use Rattle.wm_ast.specs.declared.module.Func.{Func}
use Rattle.wm_ast.specs.declared.module.FuncType.{FuncType}
use Rattle.wm_ast.specs.declared.module.Module.{Module}
use Rattle.wm_ast.specs.declared.module.ValType.{ValType}
use Rattle.wm_ast.specs.Store.{Callee, callee, callee_of, one_result}
use Rattle.wm_ast.specs.View.{code_of}
use Rattle.wm_reduce.specs.declared.function.Function.{Function}
use Rattle.wm_reduce.specs.steps.Seen.{Shows}

pub no_result : (xs ts : List ValType) → xs ≡ ts → length xs < 1 → one_result ts ≡ Some None
no_result [] ts e h = ap one_result (sym e)
no_result (x ∷ xs) ts e h = absurd (omega arith)

pub a_result : (xs ts : List ValType) (d : ValType) → xs ≡ ts → length xs < 2 → 0 < length xs → one_result ts ≡ Some (Some (get_or xs 0 d))
a_result [] ts d e h k = absurd (omega arith)
a_result (x ∷ []) ts d e h k = ap one_result (sym e)
a_result (x ∷ y ∷ xs) ts d e h k = absurd (omega arith)

pub shown : (m : Module) (n : ℕ) (f : Func) (t : FuncType) (g : Option ValType) (r : Function)
    → Some f ≡ slice_get m.funcs n → Some t ≡ slice_get m.types f.kind → one_result t.results ≡ Some g
    → r.takes ≡ length t.params → r.gives ≡ g → r.locals.now ≡ f.locals → r.body.now ≡ f.body
    → (c : Callee) × (callee_of m n ≡ Some c) × Shows r c
shown m n f t g r a b o k l p q = (
  callee f t g,
  ap (λ (x : Option Func). option_and_then (λ (f : Func). option_and_then (λ (t : FuncType). option_map (callee f t) (one_result t.results)) (slice_get m.types f.kind)) x) (sym a)
      ∙ ap (λ (x : Option FuncType). option_and_then (λ (t : FuncType). option_map (callee f t) (one_result t.results)) x) (sym b)
      ∙ ap (option_map (callee f t)) o,
  record {
    takes = length-reverse t.params ∙ sym k;
    gives = sym l;
    zeros = ap (λ rs. (callee (record f { locals = rs }) t g).zeros) (sym p);
    body = ap code_of (sym q);
  },
)
