-- Sequences joined, and what stands before a place.
use Rattle.std.proofs.Common.{◌≡◌, ℕ, zero, suc, List, [], ◌∷◌, ◌++◌, length, Some, None, refl, sym, ap, subst, ◌∙◌, append_assoc, false, ℤ, pos, negsuc}
use Rattle.std.specs.Prelude.{slice_get}
use Rattle.std.specs.Int.{w32, cast_unsigned}
use Rattle.std.proofs.lemmas.List.{append-nil}
use Rattle.wm_ast.specs.declared.module.ValType.{ValType}
use Rattle.wm_ast.specs.declared.module.ValType.TheVariants.{I32}
use Rattle.wm_ast.specs.Code.{Op, block, loop, if_else, Code, nil, cons}
use Rattle.wm_ast.specs.Simple.{if_nonzero}
use Rattle.wm_ast.specs.Step.{or_last, chosen}
use Rattle.wm_ast.specs.Types.{results_of}
use Rattle.wm_valid.specs.Place.{is_jump, HasNoJump}
use Rattle.wm_valid.specs.Typing.{Context, EachTakes, Rule, TypesCode}
use Rattle.wm_flat.specs.Flat.{join, with_op, count_of, again_of, resume_before}
use Rattle.wm_flat.specs.FlatTyping.{enters, branch_types, exits, IsBlock, After}
use Rattle.wm_valid.specs.InRange.{OpInRange, CodeInRange}

pub weaken : (is : Code) (C : Context) (a b under : List ValType) → TypesCode is C a b → TypesCode is C (a ++ under) (b ++ under)
weaken nil C a b under t = ap (λ (l : List ValType). l ++ under) t
weaken (cons i is) C a b under t = (
  t.0,
  t.1,
  t.2 ++ under,
  t.3,
  ap (λ (l : List ValType). l ++ under) t.4 ∙ append_assoc t.0 t.2 under,
  subst (λ (l : List ValType). TypesCode is C l (b ++ under)) (append_assoc t.1 t.2 under) (weaken is C (t.1 ++ t.2) b under t.5),
)

pub join_typed : (is js : Code) (C : Context) (a m b : List ValType) → TypesCode is C a m → TypesCode js C m b → TypesCode (join is js) C a b
join_typed nil js C a m b t u = subst (λ (l : List ValType). TypesCode js C l b) (sym t) u
join_typed (cons i is) js C a m b t u = (t.0, t.1, t.2, t.3, t.4, join_typed is js C (t.1 ++ t.2) m b t.5 u)

pub join_in_range : (is js : Code) → CodeInRange is → CodeInRange js → CodeInRange (join is js)
join_in_range nil js h g = g
join_in_range (cons i is) js h g = (h.0, join_in_range is js h.1 g)

jumps_joined : (is js : Code) → HasNoJump is → HasNoJump js → HasNoJump (join is js)
jumps_joined nil js h g = g
jumps_joined (cons i is) js h g = (h.0, jumps_joined is js h.1 g)

-- one instruction more
pub after_op : (before : Code) (i : Op) (C : Context) (takes gives below : List ValType) → is_jump i ≡ false → Rule i C takes gives → After before C (takes ++ below) → After (with_op before i) C (gives ++ below)
after_op before i C takes gives below g r t = (
  jumps_joined before (cons i nil) t.0 (g, tt),
  join_typed before (cons i nil) C [] (takes ++ below) (gives ++ below) t.1 (takes, gives, below, r, refl, refl),
)

-- Blocks.

pub goes_on : (i : Op) → IsBlock i → is_jump i ≡ false
goes_on (block ty body) w = refl
goes_on (loop ty body) w = refl
goes_on (if_else ty first second) w = refl
goes_on i w = absurd w

pub count_is : (i : Op) → length (branch_types i) ≡ count_of i
count_is (block None body) = refl
count_is (block (Some t) body) = refl
count_is (if_else None first second) = refl
count_is (if_else (Some t) first second) = refl
count_is _ = refl

-- what a branch goes on with
pub again_typed : (i : Op) (D : Context) → Rule i D (enters i) (exits i) → IsBlock i → TypesCode (again_of i) D (branch_types i) (exits i)
again_typed (loop ty body) D r w = ([], results_of ty, [], r, refl, append-nil (results_of ty))
again_typed (block ty body) D r w = refl
again_typed (if_else ty first second) D r w = refl
again_typed _ D r w = absurd w

pub again_in_range : (i : Op) → OpInRange i → CodeInRange (again_of i)
again_in_range (loop ty body) h = (h, tt)
again_in_range _ h = tt

-- what stands before the place that a branch goes to
pub resumed_after : (i : Op) (before : Code) (D : Context) (below : List ValType) → IsBlock i → Rule i D (enters i) (exits i) → After before D (enters i ++ below) → After (resume_before i before) D (branch_types i ++ below)
resumed_after (loop ty body) before D below w r t = t
resumed_after (block ty body) before D below w r t = after_op before (block ty body) D [] (results_of ty) below refl r t
resumed_after (if_else ty first second) before D below w r t = after_op before (if_else ty first second) D (I32 ∷ []) (results_of ty) below refl r t
resumed_after i before D below w r t = absurd w

-- an arm of an `if`
pub arm_typed : (n : ℤ) (x y : Code) (C : Context) (p q : List ValType) → TypesCode x C p q → TypesCode y C p q → TypesCode (if_nonzero n x y) C p q
arm_typed (pos zero) x y C p q t u = u
arm_typed (pos (suc n)) x y C p q t u = t
arm_typed (negsuc n) x y C p q t u = t

pub arm_in_range : (n : ℤ) (x y : Code) → CodeInRange x → CodeInRange y → CodeInRange (if_nonzero n x y)
arm_in_range (pos zero) x y t u = u
arm_in_range (pos (suc n)) x y t u = t
arm_in_range (negsuc n) x y t u = t

-- the label of a `br_table`
each_at : (ls : List ℕ) (n l : ℕ) (ts : List ValType) (labels : List (List ValType)) → EachTakes ls labels ts → slice_get labels l ≡ Some ts → slice_get labels (or_last l (slice_get ls n)) ≡ Some ts
each_at [] n l ts labels t e = e
each_at (k ∷ ls) zero l ts labels t e = t.0
each_at (k ∷ ls) (suc n) l ts labels t e = each_at ls n l ts labels t.1 e

pub chosen_at : (ls : List ℕ) (l : ℕ) (n : ℤ) (ts : List ValType) (labels : List (List ValType)) → EachTakes ls labels ts → slice_get labels l ≡ Some ts → slice_get labels (chosen ls l n) ≡ Some ts
chosen_at ls l n ts labels t e = each_at ls (cast_unsigned w32 n) l ts labels t e
