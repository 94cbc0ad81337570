-- Types, and lists of types, that are one.
use Rattle.std.proofs.Common.{◌≡◌, List, [], ◌∷◌, Bool, true, false, refl, sym, ap, ◌∙◌}
use Rattle.std.proofs.lemmas.Bool.{and_parts}
use Rattle.wm_ast.specs.declared.module.ValType.{ValType}
use Rattle.wm_ast.specs.declared.module.ValType.TheVariants.{I32, I64, F32, F64}
use Rattle.wm_ast.specs.Types.{same_type, same_types}

pub same_is : (s t : ValType) → same_type s t ≡ true → s ≡ t
same_is I32 I32 e = refl
same_is I64 I64 e = refl
same_is F32 F32 e = refl
same_is F64 F64 e = refl
same_is _ _ e = absurd cc

pub same_self : (t : ValType) → same_type t t ≡ true
same_self I32 = refl
same_self I64 = refl
same_self F32 = refl
same_self F64 = refl

pub same_types_is : (ts us : List ValType) → same_types ts us ≡ true → ts ≡ us
same_types_is [] [] e = refl
same_types_is (t ∷ ts) (u ∷ us) e =
    let a = and_parts (same_type t u) (same_types ts us) e in
    ap (λ (z : ValType). z ∷ ts) (same_is t u a.0) ∙ ap (λ (l : List ValType). u ∷ l) (same_types_is ts us a.1)
same_types_is [] (u ∷ us) e = absurd cc
same_types_is (t ∷ ts) [] e = absurd cc

pub same_types_self : (ts : List ValType) → same_types ts ts ≡ true
same_types_self [] = refl
same_types_self (t ∷ ts) = let e = same_self t in rw e (same_types_self ts)

-- two lists of types are one where a test says so
pub same_types_by : (xs ys : List ValType) (r : Bool) → (r ≡ true → xs ≡ ys) × (xs ≡ ys → r ≡ true) → r ≡ same_types xs ys
same_types_by xs ys true d = sym (ap (λ (l : List ValType). same_types l ys) (d.0 refl) ∙ same_types_self ys)
same_types_by xs ys false d = go (same_types xs ys) refl
  where
    apart : xs ≡ ys → ⊥
    apart e = let h = d.1 e in absurd cc

    go : (b : Bool) → same_types xs ys ≡ b → false ≡ b
    go false e = refl
    go true e = absurd (apart (same_types_is xs ys e))
