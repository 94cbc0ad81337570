-- What initial expressions give, gone over one by one.
use Rattle.std.proofs.Common.{◌≡◌, ℕ, ◌+◌, ◌<◌, ◌≤◌, List, [], ◌∷◌, ◌++◌, length, drop, get_or, Option, Some, None, refl, sym, ap, ◌∙◌, append_assoc, arith}
use Rattle.std.specs.Prelude.{filter_map, option_to_list}
use Rattle.std.proofs.lemmas.List.{drop_more}
use Rattle.mc_nbt.specs.declared.value.Value.{Value}
use Rattle.wm_ast.specs.declared.instruction.Instr.{Instr}
use Rattle.wm_ast.specs.declared.module.Global.{Global}
use Rattle.wm_ast.specs.Instance.{constant_value, first_value}
use Rattle.wm_ast.specs.View.{code_of}

-- an expression of two instructions and more is no constant
pub no_value : (is : List Instr) → 2 ≤ length is → None ≡ constant_value (code_of is)
no_value [] h = absurd (omega arith)
no_value (i ∷ []) h = absurd (omega arith)
no_value (i ∷ j ∷ is) h = refl

filter_more : {A B : Type 0} (f : A → Option B) (x : A) (xs : List A) → filter_map f (x ∷ xs) ≡ option_to_list (f x) ++ filter_map f xs
filter_more f x xs = by_value (f x) refl
  where
    by_value : (o : Option _) → f x ≡ o → filter_map f (x ∷ xs) ≡ option_to_list (f x) ++ filter_map f xs
    by_value None e = rw e refl
    by_value (Some y) e = rw e refl

pub global_more : (old new all : List Value) (gs : List Global) (i : ℕ) (g : Global) (v : Option Value) → i < length gs → g ≡ get_or gs i g
    → v ≡ first_value g → new ≡ old ++ option_to_list v → old ++ filter_map first_value (drop i gs) ≡ all → new ++ filter_map first_value (drop (i + 1) gs) ≡ all
global_more old new all gs i g v lt is e n h =
    let rest = filter_map first_value (drop (i + 1) gs) in
    ap (λ (l : List Value). l ++ rest) (n ∙ ap (λ (o : Option Value). old ++ option_to_list o) e)
    ∙ append_assoc old (option_to_list (first_value g)) rest
    ∙ ap (λ (l : List Value). old ++ l) (sym (filter_more first_value g (drop (i + 1) gs)))
    ∙ ap (λ (x : Global). old ++ filter_map first_value (x ∷ drop (i + 1) gs)) is
    ∙ ap (λ (l : List Global). old ++ filter_map first_value l) (sym (drop_more gs i g lt)) ∙ h
