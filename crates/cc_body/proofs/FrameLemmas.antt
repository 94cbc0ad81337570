-- What is found of a frame on the way through a body.
use Rattle.std.proofs.Common.{◌≡◌, ◌≤◌, ◌<◌, ℕ, zero, suc, ◌+◌, max, List, [], ◌∷◌, ◌++◌, length, get_or, drop, Bool, true, false, Option, Some, None, option_map, refl, sym, ap, ◌∙◌, arith, append-nil}
use Rattle.std.specs.Prelude.{◌||◌, slice_get}
use Rattle.std.specs.List.{FoldsTo}
use Rattle.std.proofs.lemmas.List.{drop_all}
use Rattle.std.proofs.lemmas.Option.{slice_get-get_or}
use Rattle.wm_ast.specs.declared.module.Func.{Func}
use Rattle.wm_ast.specs.declared.module.FuncType.{FuncType}
use Rattle.wm_ast.specs.declared.module.Module.{Module}
use Rattle.wm_ast.specs.declared.module.ValType.{ValType}
use Rattle.wm_ast.specs.Profile.{InProfile}
use Rattle.wm_ast.specs.Types.{function_type}
use Rattle.wm_valid.specs.Arrows.{◌>>=◌}
use Rattle.wm_place.specs.Kinds.{body_of, function_body}
use Rattle.wm_place.specs.Visit.{Visit}
use Rattle.cc_line.specs.Place.{score_places}
use Rattle.cc_cut.specs.Law.{widths}
use Rattle.cc_cut.proofs.MakingLemmas.{few_functions}
use Rattle.cc_pieces.specs.declared.shape.Shape.{Shape}
use Rattle.cc_body.specs.Layout.{frame_size, most_places}
use Rattle.cc_body.specs.declared.frame.Sizing.{Sizing}
use Rattle.cc_body.specs.Placers.{code_places, some_place, body_placers, function_placers, most_placers_of}
use Rattle.cc_body.specs.steps.Sizing.{passed, function_shape, shapes_from, shape_in, shape_in_list, shape_of, placers_in}

least : (locals : List ValType) (vs : List Visit) → widths locals ≤ most_places locals vs
least locals [] = omega arith
least locals (v ∷ vs) = let h : widths locals ≤ most_places locals vs = least locals vs in omega arith

abbrev all_passed : Sizing → List Visit → Sizing
all_passed s [] = s
all_passed s (v ∷ vs) = all_passed (passed s v) vs

folds : (vs : List Visit) (s t : Sizing) → FoldsTo (λ s v t. t ≡ passed s v) s vs t → t ≡ all_passed s vs
folds [] s t f = sym f
folds (v ∷ vs) s t (j, r, f) = folds vs j t f ∙ ap (λ (x : Sizing). all_passed x vs) r

most_passed : (locals : List ValType) (vs : List Visit) (s : Sizing) → s.locals ≡ widths locals → widths locals ≤ s.most → (all_passed s vs).most ≡ max s.most (most_places locals vs)
most_passed locals [] s e h = omega arith
most_passed locals (v ∷ vs) s e h =
    let deeper : (all_passed (passed s v) vs).most ≡ max (passed s v).most (most_places locals vs) = most_passed locals vs (passed s v) e (omega arith) in
    let here : (passed s v).most ≡ max (s.locals + widths v.kinds) s.most = refl in
    let next : most_places locals (v ∷ vs) ≡ max (widths locals + widths v.kinds) (most_places locals vs) = refl in
    omega arith

none : (a : Bool) → a ≡ (a || false)
none true = refl
none false = refl

either : (a b c : Bool) → ((a || b) || c) ≡ (a || (b || c))
either true b c = refl
either false b c = refl

places_passed : (vs : List Visit) (s : Sizing) → (all_passed s vs).places ≡ (s.places || some_place s.results vs)
places_passed [] s = none s.places
places_passed (v ∷ vs) s =
    places_passed vs (passed s v) ∙ either s.places (code_places s.results v v.rest) (some_place s.results vs)

-- from the places of the locals alone
pub most_found : (locals : List ValType) (vs : List Visit) (s t : Sizing) → FoldsTo (λ s v t. t ≡ passed s v) s vs t → s.locals ≡ widths locals → s.most ≡ widths locals
    → max score_places t.most ≡ max score_places (most_places locals vs)
most_found locals vs s t f e k =
    let so_far : t.most ≡ (all_passed s vs).most = ap (λ (x : Sizing). x.most) (folds vs s t f) in
    let h : (all_passed s vs).most ≡ max s.most (most_places locals vs) = most_passed locals vs s e (omega arith) in
    let l : widths locals ≤ most_places locals vs = least locals vs in
    omega arith

-- from none
pub places_found : (vs : List Visit) (s t : Sizing) → FoldsTo (λ s v t. t ≡ passed s v) s vs t → s.places ≡ false → t.places ≡ some_place s.results vs
places_found vs s t f e =
    ap (λ (x : Sizing). x.places) (folds vs s t f) ∙ (places_passed vs s ∙ ap (λ (b : Bool). b || some_place s.results vs) e)

-- ---- the functions of a module, one after the other

-- their indices are few
pub index_low : (m seen : Module) (fs : List Func) (i : ℕ) → InProfile m → seen ≡ m → fs ≡ seen.funcs → i < length fs → i < 4294967296
index_low m seen fs i p same are h =
    let few : length m.funcs ≤ 8192 = few_functions m p in
    let size : length fs ≡ length m.funcs = ap length are ∙ ap (λ (x : Module). length x.funcs) same in
    omega arith

-- the one that is read
pub function_there : (m seen : Module) (fs : List Func) (i : ℕ) (f : Func) → seen ≡ m → fs ≡ seen.funcs → i < length fs → f ≡ get_or fs i f → slice_get m.funcs i ≡ Some f
function_there m seen fs i f same are h is =
    ap (λ (l : List Func). slice_get l i) (sym (are ∙ ap (λ (x : Module). x.funcs) same)) ∙ (slice_get-get_or fs i f h ∙ ap Some (sym is))

-- ---- the table of shapes

-- the shape in the table
pub tabled : (m : Module) (fs : List Func) (k n : ℕ) → shape_in_list (shapes_from m k fs) n ≡ (slice_get fs n >>= function_shape m (k + n))
tabled m [] k n = refl
tabled m (f ∷ fs) k zero = let e : k ≡ k + 0 = omega arith in ap (λ (j : ℕ). function_shape m j f) e
tabled m (f ∷ fs) k (suc n) =
    let e : suc k + n ≡ k + suc n = omega arith in
    tabled m fs (suc k) n ∙ ap (λ (j : ℕ). slice_get fs n >>= function_shape m j) e

-- the table, once all functions are in it
pub all_tabled : (m seen : Module) (fs : List Func) (shapes : List (Option Shape)) (i : ℕ) → seen ≡ m → fs ≡ seen.funcs → length fs ≤ i → shapes ++ shapes_from m i (drop i m.funcs) ≡ shapes_from m 0 m.funcs
    → (n : ℕ) → shape_in_list shapes n ≡ shape_of m n
all_tabled m seen fs shapes i same are h so_far n =
    let size : length fs ≡ length m.funcs = ap length are ∙ ap (λ (x : Module). length x.funcs) same in
    let none : drop i m.funcs ≡ [] = drop_all i m.funcs (omega arith) in
    let e : 0 + n ≡ n = omega arith in
    ap (λ (l : List (Option Shape)). shape_in_list l n) (sym (append-nil shapes) ∙ (ap (λ (l : List Func). shapes ++ shapes_from m i l) (sym none) ∙ so_far))
    ∙ (tabled m m.funcs 0 n ∙ ap (λ (j : ℕ). slice_get m.funcs n >>= function_shape m j) e)

-- ---- pieces that put values to places

-- those of a function, in the table
placers_there : (m : Module) (n : ℕ) (f : Func) → slice_get m.funcs n ≡ Some f → placers_in (shape_of m n) ≡ function_placers m n
placers_there m n f there = by_type (function_type m f) refl
  where
    shaped : (o : Option FuncType) → function_type m f ≡ o → shape_of m n ≡ option_map (shape_in m n f) o
    shaped o e = ap (λ (g : Option Func). g >>= function_shape m n) there ∙ ap (option_map (shape_in m n f)) e

    found : (o : Option FuncType) → function_type m f ≡ o → function_body m n ≡ option_map (body_of m f) o
    found o e =
        ap (λ (g : Option Func). g >>= λ h. option_map (body_of m h) (function_type m h)) there ∙ ap (option_map (body_of m f)) e

    by_type : (o : Option FuncType) → function_type m f ≡ o → placers_in (shape_of m n) ≡ function_placers m n
    by_type None e = ap placers_in (shaped None e) ∙ sym (ap (body_placers (frame_size m n)) (found None e))
    by_type (Some t) e = ap placers_in (shaped (Some t) e)

-- one more function is passed
pub placers_more : (m : Module) (fs rest : List Func) (n : ℕ) (f : Func) (own before now whole : ℕ) → slice_get m.funcs n ≡ Some f → fs ≡ f ∷ rest → own ≡ placers_in (shape_of m n) → now ≡ max before own
    → max before (most_placers_of m n fs) ≡ whole → max now (most_placers_of m (n + 1) rest) ≡ whole
placers_more m fs rest n f own before now whole there are own_is now_is so_far =
    let here : own ≡ function_placers m n = own_is ∙ placers_there m n f there in
    let both : most_placers_of m n fs ≡ max (function_placers m n) (most_placers_of m (n + 1) rest) = ap (most_placers_of m n) are in
    omega arith
