-- The operands at places of the functions of a valid module.
use Rattle.std.proofs.Common.{◌≡◌, ℕ, List, [], ◌++◌, Option, Some, None, refl, sym, ap, ◌∙◌, subst}
use Rattle.std.specs.Prelude.{slice_get, reverse}
use Rattle.wm_ast.specs.declared.module.Func.{Func}
use Rattle.wm_ast.specs.declared.module.FuncType.{FuncType}
use Rattle.wm_ast.specs.declared.module.Module.{Module}
use Rattle.wm_ast.specs.declared.module.ValType.{ValType}
use Rattle.wm_ast.specs.View.{code_of}
use Rattle.wm_ast.specs.Types.{function_type, run_types}
use Rattle.wm_valid.specs.Typing.{TypesCode, body_context, Scope, body_scope}
use Rattle.wm_valid.specs.declared.scope.Scope.{Scope as Surroundings}
use Rattle.wm_valid.specs.ScopeView.{body_of, IsScopeOf, ScopeFound}
use Rattle.wm_valid.specs.Place.{LeadsTo, AreKinds}
use Rattle.wm_valid.specs.PlaceReading.{operands_at}
use Rattle.wm_valid.specs.Valid.{Valid}
use Rattle.wm_valid.proofs.PlaceLaws.{complete, sound}

-- the scope of the function's body
scope_is : (s : Surroundings) (m : Module) (f : Func) (t : FuncType) → IsScopeOf s m f t → body_of s ≡ body_scope m (t.params ++ run_types f.locals)
scope_is s m f t is = rw (is.of_module, is.locals) refl

pub are_kinds : (m : Module) (n : ℕ) (f : Func) (found : Option Surroundings) (s : Surroundings) (path : List ℕ) (kinds : List ValType) → Valid m → slice_get m.funcs n ≡ Some f
    → ScopeFound found m f → found ≡ Some s → operands_at path (code_of f.body) (body_of s) [] ≡ Some (reverse kinds) → AreKinds m n path (Some kinds)
are_kinds m n f found s path kinds v at scope some e =
    let (t, is) = subst (λ (o : Option Surroundings). ScopeFound o m f) some scope in
    let (u, also, typed) = v.bodies n f at in
    let named : function_type m f ≡ Some t = is.named in
    let same : u ≡ t = cc in
    let here : TypesCode (code_of f.body) (body_context m f t) [] (reverse t.results) = subst (λ (x : FuncType). TypesCode (code_of f.body) (body_context m f x) [] (reverse x.results)) same typed in
    let (rest, leads) = sound path (code_of f.body) (body_context m f t) [] (reverse t.results) [] (reverse kinds) here (ap (λ (S : Scope). operands_at path (code_of f.body) S []) (sym (scope_is s m f t is)) ∙ e) in
    (f, at, (rest, (t, named, leads)))

pub no_kinds : (m : Module) (n : ℕ) (f : Func) (found : Option Surroundings) (s : Surroundings) (path : List ℕ) → slice_get m.funcs n ≡ Some f
    → ScopeFound found m f → found ≡ Some s → operands_at path (code_of f.body) (body_of s) [] ≡ None → AreKinds m n path None
no_kinds m n f found s path at scope some e g ts there (rest, (u, also, leads)) =
    let (t, is) = subst (λ (o : Option Surroundings). ScopeFound o m f) some scope in
    let named : function_type m f ≡ Some t = is.named in
    let one : f ≡ g = cc in
    let same : u ≡ t = let also' : function_type m f ≡ Some u = subst (λ (x : Func). function_type m x ≡ Some u) (sym one) also in cc in
    let here : LeadsTo path (code_of f.body) (body_context m f t) [] [] rest ts =
    subst (λ (x : FuncType). LeadsTo path (code_of f.body) (body_context m f x) [] [] rest ts) same (subst (λ (x : Func). LeadsTo path (code_of x.body) (body_context m x u) [] [] rest ts) (sym one) leads) in
    let found' : operands_at path (code_of f.body) (body_scope m (t.params ++ run_types f.locals)) [] ≡ Some ts = complete path (code_of f.body) (body_context m f t) [] [] rest ts here in
    let none : operands_at path (code_of f.body) (body_scope m (t.params ++ run_types f.locals)) [] ≡ None = ap (λ (S : Scope). operands_at path (code_of f.body) S []) (sym (scope_is s m f t is)) ∙ e in
    absurd (cc)

-- the type index of a function of a valid module names a type
pub no_type : (m : Module) (n : ℕ) (f : Func) (found : Option Surroundings) → Valid m → slice_get m.funcs n ≡ Some f → ScopeFound found m f → found ≡ None → ⊥
no_type m n f found v at scope none =
    let unnamed : function_type m f ≡ None = subst (λ (o : Option Surroundings). ScopeFound o m f) none scope in
    let (t, named, typed) = v.bodies n f at in
    absurd (cc)
