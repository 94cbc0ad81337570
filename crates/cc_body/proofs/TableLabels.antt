-- Each `br_table` of a module of the profile has few labels.
use Rattle.std.proofs.Common.{◌≡◌, ℕ, zero, suc, ◌≤◌, List, [], ◌∷◌, ◌++◌, map, Some, subst, ap, ◌∙◌, arith}
use Rattle.std.specs.Prelude.{slice_get, option_map, All}
use Rattle.std.specs.List.{concat, filter_map}
use Rattle.std.proofs.lemmas.List.Elements.{All-nil, All-cons, All-head, All-tail, filter_map-append}
use Rattle.std.proofs.lemmas.Option.{slice_get-map}
use Rattle.wm_ast.specs.declared.limit.TheConstants.{MAX_LABELS}
use Rattle.wm_ast.specs.declared.module.Func.{Func}
use Rattle.wm_ast.specs.declared.module.Module.{Module}
use Rattle.wm_ast.specs.Code.{Op, block, loop, if_else, Code, cons}
use Rattle.wm_ast.specs.Profile.{op_and_inside, all_ops, table_labels, code_labels, global_code, element_code, data_code, function_code, InProfile}
use Rattle.wm_ast.specs.View.{code_of}
use Rattle.wm_valid.proofs.PlaceLaws.{of_arm}
use Rattle.wm_place.specs.Place.{Step, in_block, in_arm}
use Rattle.wm_place.proofs.LevelLemmas.{some_of, IsInner}

abbrev Few : List ℕ → Type 0
Few ns = All (λ n. n ≤ MAX_LABELS) ns

-- each `br_table` of a sequence has few labels, and each of an instruction with those inside it
abbrev pub FewLabels : Code → Type 0
FewLabels c = Few (code_labels c)

abbrev pub OpFewLabels : Op → Type 0
OpFewLabels i = Few (filter_map table_labels (op_and_inside i))

-- ---- lists

few_both : (ms ns : List ℕ) → Few (ms ++ ns) → Few ms × Few ns
few_both [] ns h = (All-nil (λ n. n ≤ MAX_LABELS), h)
few_both (m ∷ ms) ns h =
    let b : Few ms × Few ns = few_both ms ns (All-tail (λ n. n ≤ MAX_LABELS) m (ms ++ ns) h) in
    (All-cons (λ n. n ≤ MAX_LABELS) m ms (All-head (λ n. n ≤ MAX_LABELS) m (ms ++ ns) h) b.0, b.1)

module _ {A : Type 0} (labels : A → List ℕ) where
  few_behind : (xs ys : List A) → Few (concat (map labels (xs ++ ys))) → Few (concat (map labels ys))
  few_behind [] ys h = h
  few_behind (x ∷ xs) ys h = few_behind xs ys (few_both (labels x) (concat (map labels (xs ++ ys))) h).1

  few_at : (xs : List A) (n : ℕ) (x : A) → Few (concat (map labels xs)) → slice_get xs n ≡ Some x → Few (labels x)
  few_at [] n x h e = absurd cc
  few_at (y ∷ ys) zero x h e = subst (λ (z : A). Few (labels z)) (some_of y x e) (few_both (labels y) (concat (map labels ys)) h).0
  few_at (y ∷ ys) (suc n) x h e = few_at ys n x (few_both (labels y) (concat (map labels ys)) h).1 e

-- ---- code

ops_few : (is js : List Op) → Few (filter_map table_labels (is ++ js)) → Few (filter_map table_labels is) × Few (filter_map table_labels js)
ops_few is js h = few_both (filter_map table_labels is) (filter_map table_labels js) (subst Few (filter_map-append table_labels is js) h)

pub labels_of : (i : Op) (is : Code) → FewLabels (cons i is) → OpFewLabels i × FewLabels is
labels_of i is h = ops_few (op_and_inside i) (all_ops is) h

pub labels_behind : (i : Op) (is : Code) → FewLabels (cons i is) → FewLabels is
labels_behind i is h = (labels_of i is h).1

pub labels_inner : (s : Step) (i : Op) (is d : Code) → IsInner s i d → FewLabels (cons i is) → FewLabels d
labels_inner (in_block n) (block ty c) is d e h = subst FewLabels e (labels_of (block ty c) is h).0
labels_inner (in_block n) (loop ty c) is d e h = subst FewLabels e (labels_of (loop ty c) is h).0
labels_inner (in_block n) _ is d e h = absurd e
labels_inner (in_arm n k) (if_else ty a b) is d e h =
    let both : FewLabels a × FewLabels b = ops_few (all_ops a) (all_ops b) (labels_of (if_else ty a b) is h).0 in
    of_arm k a b d FewLabels e both.0 both.1
labels_inner (in_arm n k) _ is d e h = absurd e

-- ---- a function

pub labels_few : (m : Module) (n : ℕ) (f : Func) → InProfile m → slice_get m.funcs n ≡ Some f → FewLabels (code_of f.body)
labels_few m n f p at =
    let globals : List Code = map global_code m.globals in
    let elements : List Code = map element_code m.elems in
    let datas : List Code = map data_code m.datas in
    let bodies : List Code = map function_code m.funcs in
    let all : Few (concat (map code_labels (globals ++ (elements ++ (datas ++ bodies))))) = p.within_limits.labels in
    let some : Few (concat (map code_labels (elements ++ (datas ++ bodies)))) = few_behind code_labels globals (elements ++ (datas ++ bodies)) all in
    let fewer : Few (concat (map code_labels (datas ++ bodies))) = few_behind code_labels elements (datas ++ bodies) some in
    let own : Few (concat (map code_labels bodies)) = few_behind code_labels datas bodies fewer in
    few_at code_labels bodies n (code_of f.body) own (slice_get-map function_code m.funcs n ∙ ap (option_map function_code) at)
