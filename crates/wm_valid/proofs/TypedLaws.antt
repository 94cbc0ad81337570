-- Heights of the functions of a valid module.
use Rattle.std.proofs.Common.{◌≡◌, ℕ, ◌+◌, ◌<◌, ◌≤◌, List, [], ◌∷◌, ◌++◌, length, get_or, Some, sym, ◌∙◌, ap, subst, below_more, arith}
use Rattle.std.specs.Prelude.{slice_get, reverse}
use Rattle.std.proofs.Math.ListN.{get_or-append}
use Rattle.std.proofs.Math.Seq.{get_or-append_seam}
use Rattle.std.proofs.lemmas.Bool.{cases_lt}
use Rattle.std.proofs.lemmas.List.{length-append}
use Rattle.std.proofs.lemmas.Option.{slice_get_within}
use Rattle.std.proofs.lemmas.List.{get_or_past}
use mathlib.Core.Logic.{⊎_elim}
use Rattle.wm_ast.specs.declared.module.Func.{Func}
use Rattle.wm_ast.specs.declared.module.FuncType.{FuncType}
use Rattle.wm_ast.specs.declared.module.Module.{Module}
use Rattle.wm_ast.specs.Code.{cons}
use Rattle.wm_ast.specs.Profile.{InProfile}
use Rattle.wm_ast.specs.View.{code_of}
use Rattle.wm_ast.specs.Types.{function_type, run_types}
use Rattle.wm_valid.specs.Typing.{TypesCode, body_context, HasTyping, body_scope}
use Rattle.wm_valid.specs.Valid.{Valid}
use Rattle.wm_valid.specs.Place.{LeadsTo}
use Rattle.wm_valid.specs.PlaceReading.{code_height}
use Rattle.wm_valid.specs.Height.{IsLow, IsHeight, Low, IsFirstHigh}
use Rattle.wm_valid.specs.Checked.{AreHeights, IsTyped}
use Rattle.wm_valid.specs.InRange.{HasNumbersInRange}
use Rattle.wm_valid.proofs.HeightLaws.{none_higher, code_top, Over}

-- the height that is computed of a typed function is its height
pub is_height : (m : Module) (f : Func) (t : FuncType) (h : ℕ) → function_type m f ≡ Some t → HasTyping m f
    → h ≡ code_height (code_of f.body) (body_scope m (t.params ++ run_types f.locals)) 0 → IsHeight m f h
is_height m f t h named (u, also, typed) is = record {
  none_higher = λ count s.
      let (v, third, leads) = s.reached in
      let same : v ≡ t = cc in
      let here : LeadsTo s.path (code_of f.body) (body_context m f t) [] [] (cons s.instruction s.others) s.operands = subst (λ (x : FuncType). LeadsTo s.path (code_of f.body) (body_context m f x) [] [] (cons s.instruction s.others) s.operands) same leads in
      let low : length s.operands ≤ code_height (code_of f.body) (body_scope m (t.params ++ run_types f.locals)) 0 = none_higher s.path (code_of f.body) (body_context m f t) [] [] s.instruction s.others s.operands here in
      let so_many : length s.operands ≡ count = s.so_many in
      omega arith;
  least = λ bound above.
      let same : u ≡ t = cc in
      let here : TypesCode (code_of f.body) (body_context m f t) [] (reverse t.results) = subst (λ (x : FuncType). TypesCode (code_of f.body) (body_context m f x) [] (reverse x.results)) same typed in
      let top : ℕ = code_height (code_of f.body) (body_scope m (t.params ++ run_types f.locals)) 0 in
      ⊎_elim
      (λ (z : code_height (code_of f.body) (body_scope m (t.params ++ run_types f.locals)) 0 ≡ 0). omega arith)
      (λ (o : Over (code_of f.body) (body_context m f t) [] [] (code_height (code_of f.body) (body_scope m (t.params ++ run_types f.locals)) 0)).
      let low : top ≤ bound = above top (record { path = o.path; instruction = o.instruction; others = o.others; operands = o.operands; reached = (t, named, o.leads); so_many = o.so_many }) in
      omega arith)
      (code_top (code_of f.body) (body_context m f t) [] (reverse t.results) [] here);
}

-- a function of which the height is kept is low
pub low_before : (m : Module) (count : ℕ) (hs : List ℕ) → AreHeights m count hs → (k : ℕ) (f : Func) → k < count → slice_get m.funcs k ≡ Some f → IsLow m f
low_before m count hs h k f within at over some =
    let under : over ≤ get_or hs k 0 = (h.each k f within at).none_higher over some in
    let low : get_or hs k 0 ≤ 1024 = h.low k in
    omega arith

pub all_low : (m : Module) (hs : List ℕ) → AreHeights m (length m.funcs) hs → Low m
all_low m hs h n f at = low_before m (length m.funcs) hs h n f (slice_get_within m.funcs n f at) at

pub is_typed : (m : Module) (hs : List ℕ) → InProfile m → Valid m → AreHeights m (length m.funcs) hs → HasNumbersInRange m → IsTyped m
is_typed m hs p v h n = record { profile = p; valid = v; low = all_low m hs h; numbers = n }

-- one more height
pub one_height : (m : Module) (count : ℕ) (hs : List ℕ) (f : Func) (height : ℕ) → slice_get m.funcs count ≡ Some f → IsHeight m f height → height ≤ 1024 → AreHeights m count hs → AreHeights m (count + 1) (hs ++ height ∷ [])
one_height m count hs f height at is short h = record {
  so_many = length-append hs (height ∷ []) ∙ ap (λ (n : ℕ). n + 1) h.so_many;
  each = λ n g within. below_more (λ (n : ℕ). (g : Func) → slice_get m.funcs n ≡ Some g → IsHeight m g (get_or (hs ++ height ∷ []) n 0)) count
      (λ n before g there. let so_many : length hs ≡ count = h.so_many in
      subst (λ (x : ℕ). IsHeight m g x) (sym (get_or-append hs (height ∷ []) 0 n (omega arith))) (h.each n g before there))
      (λ g there. let same : f ≡ g = cc in subst (λ (x : ℕ). IsHeight m g x) (sym (last count h.so_many)) (subst (λ (x : Func). IsHeight m x height) same is))
      n within g;
  low = λ n. ⊎_elim
      (λ (before : n < length hs). let old : get_or hs n 0 ≤ 1024 = h.low n in let kept : get_or (hs ++ height ∷ []) n 0 ≡ get_or hs n 0 = get_or-append hs (height ∷ []) 0 n before in omega arith)
      (λ (past : length hs ≤ n). beyond n past)
      (cases_lt n (length hs));
}
  where
    last : (n : ℕ) → length hs ≡ n → get_or (hs ++ height ∷ []) n 0 ≡ height
    last n e = ap (λ (k : ℕ). get_or (hs ++ height ∷ []) k 0) (sym e) ∙ get_or-append_seam hs height [] 0

    beyond : (n : ℕ) → length hs ≤ n → get_or (hs ++ height ∷ []) n 0 ≤ 1024
    beyond n past = ⊎_elim
        (λ (end : length hs < n). let none : get_or (hs ++ height ∷ []) n 0 ≡ 0 = get_or_past (hs ++ height ∷ []) n 0 (omega (arith, length-append hs (height ∷ []))) in omega arith)
        (λ (here : n ≤ length hs). let it : get_or (hs ++ height ∷ []) n 0 ≡ height = last n (omega arith) in omega arith)
        (cases_lt (length hs) n)

-- the first function that is too high
pub first_high : (m : Module) (count : ℕ) (hs : List ℕ) (f : Func) (height : ℕ) → slice_get m.funcs count ≡ Some f → IsHeight m f height → 1024 < height → AreHeights m count hs → IsFirstHigh m count height
first_high m count hs f height at is high h = record { function = f; there = at; is_height = is; high = high; before = λ k g within also. low_before m count hs h k g within also }
