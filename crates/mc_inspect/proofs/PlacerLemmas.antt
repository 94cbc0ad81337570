-- Whether a body puts a value to a place by a shared piece, from what is found on the way through it.
use Rattle.std.proofs.Common.{◌≡◌, ℕ, List, [], ◌∷◌, length, Bool, true, false, Option, Some, refl, sym, ap, ap₂, ◌∙◌, if◌then◌else◌}
use Rattle.std.specs.Prelude.{◌||◌, option_map, slice_get}
use Rattle.std.specs.List.{FoldsTo}
use Rattle.wm_ast.specs.declared.module.Func.{Func}
use Rattle.wm_ast.specs.declared.module.FuncType.{FuncType}
use Rattle.wm_ast.specs.declared.module.Module.{Module}
use Rattle.wm_ast.specs.Types.{function_type, results_of}
use Rattle.wm_valid.specs.Arrows.{◌>>=◌}
use Rattle.wm_place.specs.Kinds.{Body, body_of, first_of, function_body}
use Rattle.wm_place.specs.Visit.{Visit, body_visits, function_visits}
use Rattle.cc_body.specs.Layout.{frame_size}
use Rattle.cc_body.specs.Placers.{body_placers, code_places, function_placers, some_place}
use Rattle.mc_inspect.specs.declared.placers.Finding.{Finding}
use Rattle.mc_inspect.specs.steps.Placers.{passed}

-- ---- on the way

abbrev all_passed : Finding → List Visit → Finding
all_passed s [] = s
all_passed s (v ∷ vs) = all_passed (passed s v) vs

folds : (vs : List Visit) (s t : Finding) → FoldsTo (λ s v t. t ≡ passed s v) s vs t → t ≡ all_passed s vs
folds [] s t f = sym f
folds (v ∷ vs) s t (j, r, f) = folds vs j t f ∙ ap (λ (x : Finding). all_passed x vs) r

none : (a : Bool) → a ≡ (a || false)
none true = refl
none false = refl

either : (a b c : Bool) → ((a || b) || c) ≡ (a || (b || c))
either true b c = refl
either false b c = refl

found_passed : (vs : List Visit) (s : Finding) → (all_passed s vs).found ≡ (s.found || some_place s.results vs)
found_passed [] s = none s.found
found_passed (v ∷ vs) s = found_passed vs (passed s v) ∙ either s.found (code_places s.results v v.rest) (some_place s.results vs)

-- from none
place_found : (vs : List Visit) (s t : Finding) → FoldsTo (λ s v t. t ≡ passed s v) s vs t → s.found ≡ false → t.found ≡ some_place s.results vs
place_found vs s t f e =
    ap (λ (x : Finding). x.found) (folds vs s t f) ∙ found_passed vs s ∙ ap (λ (b : Bool). b || some_place s.results vs) e

-- ---- the function

-- one that is there, of a module that was looked up
module _ (m seen : Module) (same : seen ≡ m) (func : ℕ) (f : Func) (there : Some f ≡ slice_get seen.funcs func) (t : FuncType)
    (type : Some t ≡ slice_get seen.types f.kind) where
  body_is : function_body m func ≡ Some (body_of m f t)
  body_is =
      ap (λ (o : Option Func). o >>= λ g. option_map (body_of m g) (function_type m g)) (ap (λ (k : Module). slice_get k.funcs func) (sym same) ∙ sym there)
      ∙ ap (option_map (body_of m f)) (ap (λ (k : Module). slice_get k.types f.kind) (sym same) ∙ sym type)

  -- where a place was found, or none
  pub placers_found : (s u : Finding) → FoldsTo (λ s v t. t ≡ passed s v) s (function_visits m func) u → s.found ≡ false
      → s.results ≡ length (results_of (first_of t.results)) → (size : ℕ) → size ≡ frame_size m func → (b : Bool) → u.found ≡ b
      → (if b then size else 0) ≡ function_placers m func
  placers_found s u folds_to e results size size_is b is =
      let found : b ≡ some_place (length (results_of (first_of t.results))) (body_visits (Some (body_of m f t))) =
      sym is ∙ place_found (function_visits m func) s u folds_to e ∙ ap₂ (λ (n : ℕ) (o : Option Body). some_place n (body_visits o)) results body_is in
      ap₂ (λ (c : Bool) (n : ℕ). if c then n else 0) found size_is ∙ sym (ap (body_placers (frame_size m func)) body_is)
