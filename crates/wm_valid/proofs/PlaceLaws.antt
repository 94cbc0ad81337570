-- What is computed of a place of typed code is what typed prefixes say of it.
use Rattle.std.proofs.Common.{◌≡◌, ℕ, zero, suc, List, [], ◌∷◌, ◌++◌, drop, true, false, Option, Some, None, refl, sym, ◌∙◌, ap, subst}
use Rattle.std.proofs.lemmas.Bool.{cases_Bool}
use mathlib.Core.Logic.{⊎_elim}
use Rattle.wm_ast.specs.declared.module.ValType.{ValType}
use Rattle.wm_ast.specs.declared.module.ValType.TheVariants.{I32}
use Rattle.wm_ast.specs.Code.{Op, block, loop, if_else, Code, nil, cons}
use Rattle.wm_ast.specs.Types.{results_of}
use Rattle.wm_valid.specs.Typing.{Context, Rule, TypesCode, under_label, Scope}
use Rattle.wm_valid.specs.Place.{is_jump, HasNoJump, front, after_front, TypesFront, arm, Inside, LeadsTo}
use Rattle.wm_valid.specs.Arrows.{◌>>=◌, Change, changed, change}
use Rattle.wm_valid.specs.PlaceReading.{run, within, into_arm, into_op, into, operands_at}
use Rattle.wm_valid.proofs.ChangeLaws.{Stepped, step, stops}

-- what follows a change that is known
run_behind : (i : Op) (is : Code) (S : Scope) (ts us : List ValType) (e : Change) → change i S ≡ Some e → changed e ts ≡ us → run (cons i is) S ts ≡ run is S us
run_behind i is S ts us e made leaves = ap (λ (o : Option Change). o >>= λ f. run is S (changed f ts)) made ∙ ap (λ (l : List ValType). run is S l) leaves

-- a typed sequence without a jump leaves what its type says, over any operands under it
pub runs : (p : Code) (C : Context) (a b : List ValType) → HasNoJump p → TypesCode p C a b → (under : List ValType) → run p C.scope (a ++ under) ≡ Some (b ++ under)
runs nil C a b n e under = ap (λ (l : List ValType). Some (l ++ under)) e
runs (cons i is) C a b (n, ns) (takes, gives, below, r, e, others) under =
    let s : Stepped i C.scope a (gives ++ below) under = step i C a takes gives below under n r e in
    run_behind i is C.scope (a ++ under) ((gives ++ below) ++ under) s.made s.is s.leaves ∙ runs is C (gives ++ below) b ns others under

-- what stands after the first instructions of a typed sequence
pub record Reached (n : ℕ) (c : Code) (C : Context) (a b under : List ValType) (rest : Code) (found : List ValType) : Type 0 where
  pub own : List ValType
  pub leads : TypesFront n c C a own rest
  pub is : found ≡ own ++ under
  pub others : TypesCode rest C own b

jumped : (i : Op) (is : Code) (S : Scope) (ts found : List ValType) → is_jump i ≡ true → run (cons i is) S ts ≡ Some found → ⊥
jumped i is S ts found n e = let none : None ≡ Some found = sym (ap (λ (o : Option Change). o >>= λ f. run is S (changed f ts)) (stops i S n)) ∙ e in absurd (cc)

pub splits : (n : ℕ) (c : Code) (C : Context) (a b under : List ValType) (rest : Code) (found : List ValType)
    → TypesCode c C a b → after_front n c ≡ Some rest → run (front n c) C.scope (a ++ under) ≡ Some found → Reached n c C a b under rest found
splits zero c C a b under rest found t f e = record {
  own = a;
  leads = record { follows = f; no_jump = tt; typed = refl };
  is = cc;
  others = let same : c ≡ rest = cc in subst (λ (d : Code). TypesCode d C a b) same t;
}
splits (suc n) nil C a b under rest found t f e = absurd (cc)
splits (suc n) (cons i is) C a b under rest found (takes, gives, below, r, k, others) f e =
    ⊎_elim
    (λ (j : is_jump i ≡ true). absurd (jumped i (front n is) C.scope (a ++ under) found j e))
    (λ (j : is_jump i ≡ false).
    let s : Stepped i C.scope a (gives ++ below) under = step i C a takes gives below under j r k in
    let x : Reached n is C (gives ++ below) b under rest found =
    splits n is C (gives ++ below) b under rest found others f
    (sym (run_behind i (front n is) C.scope (a ++ under) ((gives ++ below) ++ under) s.made s.is s.leaves) ∙ e) in
    record {
      own = x.own;
      leads = record { follows = f; no_jump = (j, x.leads.no_jump); typed = (takes, gives, below, r, k, x.leads.typed) };
      is = x.is;
      others = x.others;
    })
    (cases_Bool (is_jump i))

-- what is inside an instruction is found, where what is found of its sequences is
enters : (i : Op) (m : ℕ) (C : Context) (own under ts : List ValType) (Body Arm : Code → Context → List ValType → Type 0) (body_at arm_at : Code → List ValType → Option (List ValType))
    → ((c : Code) (D : Context) (below : List ValType) → D.scope ≡ C.scope → Body c D below → body_at c below ≡ Some ts)
    → ((c : Code) (D : Context) (below : List ValType) → D.scope ≡ C.scope → Arm c D below → arm_at c below ≡ Some ts)
    → Inside i m C own under Body Arm → into_op i m (own ++ under) body_at arm_at ≡ Some ts
enters (block ty body) m C own under ts Body Arm body_at arm_at of_body of_arm h = of_body body (under_label (results_of ty) C) (own ++ under) refl h
enters (loop ty body) m C own under ts Body Arm body_at arm_at of_body of_arm h = of_body body (under_label [] C) (own ++ under) refl h
enters (if_else ty first second) m C own under ts Body Arm body_at arm_at of_body of_arm (kept, taken, e, chosen, h) =
    ap (λ (o : Option Code). into_arm o (λ c. arm_at c (drop 1 (own ++ under)))) chosen
    ∙ (ap (λ (l : List ValType). arm_at taken (drop 1 (l ++ under))) e ∙ of_arm taken (under_label (results_of ty) C) (kept ++ under) refl h)
enters _ m C own under ts Body Arm body_at arm_at of_body of_arm h = absurd h

-- a place that is reached has the operands that are computed
pub complete : (path : List ℕ) (c : Code) (C : Context) (a under : List ValType) (rest : Code) (ts : List ValType)
    → LeadsTo path c C a under rest ts → operands_at path c C.scope (a ++ under) ≡ Some ts
complete [] c C a under rest ts h = absurd h
complete (n ∷ []) c C a under rest ts (own, leads, e) =
    ap (λ (o : Option Code). within o (run (front n c) C.scope (a ++ under))) leads.follows
    ∙ (runs (front n c) C a own leads.no_jump leads.typed under ∙ ap (λ (l : List ValType). Some l) (sym e))
complete (n ∷ m ∷ path) c C a under rest ts (own, i, is, leads, inside) =
    let body_at : Code → List ValType → Option (List ValType) = λ body us. operands_at (m ∷ path) body C.scope us in
    let arm_at : Code → List ValType → Option (List ValType) = λ body us. operands_at path body C.scope us in
    ap (λ (o : Option Code). into o (run (front n c) C.scope (a ++ under)) m body_at arm_at) leads.follows
    ∙ (ap (λ (o : Option (List ValType)). into (Some (cons i is)) o m body_at arm_at) (runs (front n c) C a own leads.no_jump leads.typed under)
    ∙ enters i m C own under ts (λ body D below. LeadsTo (m ∷ path) body D [] below rest ts) (λ body D below. LeadsTo path body D [] below rest ts) body_at arm_at
    (λ d D below e h. ap (λ (S : Scope). operands_at (m ∷ path) d S below) (sym e) ∙ complete (m ∷ path) d D [] below rest ts h)
    (λ d D below e h. ap (λ (S : Scope). operands_at path d S below) (sym e) ∙ complete path d D [] below rest ts h)
    inside)

arm_found : (o : Option Code) (Found : Code → Option (List ValType)) (ts : List ValType) → into_arm o Found ≡ Some ts → (c : Code) × (o ≡ Some c) × (Found c ≡ Some ts)
arm_found None Found ts e = absurd (cc)
arm_found (Some c) Found ts e = (c, refl, e)

-- what holds of both arms holds of the one that is taken
pub of_arm : (m : ℕ) (first second taken : Code) (P : Code → Type 0) → arm m first second ≡ Some taken → P first → P second → P taken
of_arm zero first second taken P e f s = let same : first ≡ taken = cc in subst P same f
of_arm (suc zero) first second taken P e f s = let same : second ≡ taken = cc in subst P same s
of_arm (suc (suc n)) first second taken P e f s = absurd (cc)

-- what is found inside a typed instruction is inside it
found_inside : (i : Op) (m : ℕ) (C : Context) (takes gives below own under ts : List ValType) (Body Arm : Code → Code → Context → List ValType → Type 0) (body_at arm_at : Code → List ValType → Option (List ValType))
    → Rule i C takes gives → own ≡ takes ++ below
    → ((c : Code) (D : Context) (end others : List ValType) → D.scope ≡ C.scope → TypesCode c D [] end → body_at c others ≡ Some ts → (rest : Code) × Body rest c D others)
    → ((c : Code) (D : Context) (end others : List ValType) → D.scope ≡ C.scope → TypesCode c D [] end → arm_at c others ≡ Some ts → (rest : Code) × Arm rest c D others)
    → into_op i m (own ++ under) body_at arm_at ≡ Some ts → (rest : Code) × Inside i m C own under (Body rest) (Arm rest)
found_inside (block ty body) m C takes gives below own under ts Body Arm body_at arm_at r k of_body of_arms e = of_body body (under_label (results_of ty) C) (results_of ty) (own ++ under) refl r.1 e
found_inside (loop ty body) m C takes gives below own under ts Body Arm body_at arm_at r k of_body of_arms e = of_body body (under_label [] C) (results_of ty) (own ++ under) refl r.1 e
found_inside (if_else ty first second) m C takes gives below own under ts Body Arm body_at arm_at r k of_body of_arms e =
    let (taken, chosen, found) = arm_found (arm m first second) (λ c. arm_at c (drop 1 (own ++ under))) ts e in
    let whole : own ≡ I32 ∷ below = k ∙ ap (λ (l : List ValType). l ++ below) r.0.0 in
    let typed : TypesCode taken (under_label (results_of ty) C) [] (results_of ty) = of_arm m first second taken (λ (c : Code). TypesCode c (under_label (results_of ty) C) [] (results_of ty)) chosen r.1 r.2 in
    let (rest, h) = of_arms taken (under_label (results_of ty) C) (results_of ty) (below ++ under) refl typed (sym (ap (λ (l : List ValType). arm_at taken (drop 1 (l ++ under))) whole) ∙ found) in
    (rest, (below, taken, whole, chosen, h))
found_inside _ m C takes gives below own under ts Body Arm body_at arm_at r k of_body of_arms e = absurd (cc)

entered : (o : Option Code) (found : Option (List ValType)) (m : ℕ) (ts : List ValType) (body_at arm_at : Code → List ValType → Option (List ValType)) → into o found m body_at arm_at ≡ Some ts
    → (i : Op) × (is : Code) × (us : List ValType) × (o ≡ Some (cons i is)) × (found ≡ Some us) × (into_op i m us body_at arm_at ≡ Some ts)
entered None found m ts body_at arm_at e = absurd (cc)
entered (Some rest) None m ts body_at arm_at e = absurd (cc)
entered (Some nil) (Some us) m ts body_at arm_at e = absurd (cc)
entered (Some (cons i is)) (Some us) m ts body_at arm_at e = (i, is, us, refl, refl, e)

found_within : (o : Option Code) (found : Option (List ValType)) (ts : List ValType) → within o found ≡ Some ts → (rest : Code) × (o ≡ Some rest) × (found ≡ Some ts)
found_within None found ts e = absurd (cc)
found_within (Some rest) found ts e = (rest, refl, e)

-- a place of a typed sequence of which operands are computed is reached, and has these operands
pub sound : (path : List ℕ) (c : Code) (C : Context) (a b under ts : List ValType) → TypesCode c C a b
    → operands_at path c C.scope (a ++ under) ≡ Some ts → (rest : Code) × LeadsTo path c C a under rest ts
sound [] c C a b under ts t e = absurd (cc)
sound (n ∷ []) c C a b under ts t e =
    let (rest, follows, found) = found_within (after_front n c) (run (front n c) C.scope (a ++ under)) ts e in
    let x : Reached n c C a b under rest ts = splits n c C a b under rest ts t follows found in
    (rest, (x.own, x.leads, x.is))
sound (n ∷ m ∷ path) c C a b under ts t e =
    let body_at : Code → List ValType → Option (List ValType) = λ body us. operands_at (m ∷ path) body C.scope us in
    let arm_at : Code → List ValType → Option (List ValType) = λ body us. operands_at path body C.scope us in
    let (i, is, us, follows, found, inside) = entered (after_front n c) (run (front n c) C.scope (a ++ under)) m ts body_at arm_at e in
    let x : Reached n c C a b under (cons i is) us = splits n c C a b under (cons i is) us t follows found in
    let (takes, gives, below, r, k, others) = x.others in
    let (rest, h) = found_inside i m C takes gives below x.own under ts (λ rest body D below. LeadsTo (m ∷ path) body D [] below rest ts) (λ rest body D below. LeadsTo path body D [] below rest ts) body_at arm_at r k
    (λ d D end others e t f. sound (m ∷ path) d D [] end others ts t (ap (λ (S : Scope). operands_at (m ∷ path) d S others) e ∙ f))
    (λ d D end others e t f. sound path d D [] end others ts t (ap (λ (S : Scope). operands_at path d S others) e ∙ f))
    (sym (ap (λ (l : List ValType). into_op i m l body_at arm_at) x.is) ∙ inside) in
    (rest, (x.own, i, is, x.leads, h))
