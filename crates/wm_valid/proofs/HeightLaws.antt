-- What is computed of the height of typed code is what typed prefixes say of it.
use Rattle.std.proofs.Common.{◌≡◌, ℕ, zero, suc, add-one, get_or, ◌+◌, ◌-◌, ◌<◌, ◌≤◌, ◌⊎◌, max, List, [], ◌∷◌, ◌++◌, length, drop, true, false, Option, Some, None, refl, sym, ◌∙◌, ap, subst, inl, inr, arith}
use Rattle.std.proofs.lemmas.Bool.{cases_Bool, cases_lt}
use Rattle.std.proofs.lemmas.List.{length-append, length-drop}
use Rattle.std.proofs.Math.Nat.{le-max_left, le-max_right, max-eq_left, max_comm, le_of_lt}
use mathlib.Core.Logic.{⊎_elim}
use Rattle.wm_ast.specs.declared.module.ValType.{ValType}
use Rattle.wm_ast.specs.declared.module.ValType.TheVariants.{I32}
use Rattle.std.proofs.Math.Seq.{drop-cons}
use Rattle.wm_ast.specs.declared.instruction.Instr.{Instr}
use Rattle.wm_ast.specs.Profile.{op_and_inside, all_ops}
use Rattle.wm_ast.specs.View.{op_of, code_of}
use Rattle.wm_ast.specs.Code.{Op, block, loop, if_else, Code, nil, cons}
use Rattle.wm_ast.specs.Types.{results_of}
use Rattle.wm_valid.specs.Typing.{Context, Rule, TypesCode, under_label, Scope}
use Rattle.wm_valid.specs.Place.{is_jump, HasNoJump, front, after_front, TypesFront, arm, Inside, LeadsTo}
use Rattle.wm_valid.specs.Arrows.{Change, changed, change}
use Rattle.wm_valid.specs.PlaceReading.{counted, behind, op_height, code_height}
use Rattle.wm_valid.proofs.ChangeLaws.{Stepped, step, stops}
use Rattle.wm_valid.proofs.PlaceLaws.{of_arm}

max_cases : (x y : ℕ) → (max x y ≡ x) ⊎ (max x y ≡ y)
max_cases x y = ⊎_elim (λ (l : x < y). inr (max_comm x y ∙ max-eq_left (le_of_lt l))) (λ (l : y ≤ x). inl (max-eq_left l)) (cases_lt x y)

-- the number of operands after a change
counts : (e : Change) (ts us : List ValType) → changed e ts ≡ us → counted e (length ts) ≡ length us
counts e ts us leaves =
    sym (sym (ap length leaves) ∙ (length-append e.gives (drop e.takes ts) ∙ ap (λ (k : ℕ). length e.gives + k) (length-drop e.takes ts)))

-- what follows an instruction
abbrev others_height : Op → Code → Scope → ℕ → ℕ
others_height i is S n = behind (change i S) n (λ k. code_height is S k)

-- what follows an instruction that is no jump is reached
others_reached : (i : Op) (is : Code) (C : Context) (a takes gives below under : List ValType) → is_jump i ≡ false → Rule i C takes gives → a ≡ takes ++ below
    → others_height i is C.scope (length (a ++ under)) ≡ code_height is C.scope (length ((gives ++ below) ++ under))
others_reached i is C a takes gives below under j r k =
    let s : Stepped i C.scope a (gives ++ below) under = step i C a takes gives below under j r k in
    ap (λ (o : Option Change). behind o (length (a ++ under)) (λ n. code_height is C.scope n)) s.is
    ∙ ap (λ (h : ℕ). code_height is C.scope h) (counts s.made (a ++ under) ((gives ++ below) ++ under) s.leaves)

-- the rest of a sequence isn't higher than the whole
lower : (n : ℕ) (c : Code) (C : Context) (a own under : List ValType) (rest : Code) → TypesFront n c C a own rest
    → code_height rest C.scope (length (own ++ under)) ≤ code_height c C.scope (length (a ++ under))
lower n c C a own under rest l = go n c C a own under rest l.follows l.no_jump l.typed
  where
    go : (n : ℕ) (c : Code) (C : Context) (a own under : List ValType) (rest : Code) → after_front n c ≡ Some rest → HasNoJump (front n c) → TypesCode (front n c) C a own
        → code_height rest C.scope (length (own ++ under)) ≤ code_height c C.scope (length (a ++ under))
    go zero c C a own under rest f j t =
        let same : c ≡ rest = cc in
        subst (λ (l : List ValType). code_height rest C.scope (length (l ++ under)) ≤ code_height c C.scope (length (a ++ under))) t
        (subst (λ (d : Code). code_height d C.scope (length (a ++ under)) ≤ code_height c C.scope (length (a ++ under))) same (omega arith))
    go (suc n) nil C a own under rest f j t = absurd (cc)
    go (suc n) (cons i is) C a own under rest f (j, js) (takes, gives, below, r, k, others) =
        let deeper : code_height rest C.scope (length (own ++ under)) ≤ code_height is C.scope (length ((gives ++ below) ++ under)) = go n is C (gives ++ below) own under rest f js others in
        let same : others_height i is C.scope (length (a ++ under)) ≡ code_height is C.scope (length ((gives ++ below) ++ under)) = others_reached i is C a takes gives below under j r k in
        let first : others_height i is C.scope (length (a ++ under)) ≤ max (op_height i C.scope (length (a ++ under))) (others_height i is C.scope (length (a ++ under))) =
        le-max_right (op_height i C.scope (length (a ++ under))) (others_height i is C.scope (length (a ++ under))) in
        let second : max (op_height i C.scope (length (a ++ under))) (others_height i is C.scope (length (a ++ under))) ≤ code_height (cons i is) C.scope (length (a ++ under)) =
        le-max_right (length (a ++ under)) (max (op_height i C.scope (length (a ++ under))) (others_height i is C.scope (length (a ++ under)))) in
        omega arith

-- the operands over which an instruction stands are no more than the height of a sequence that begins with it
at_front : (i : Op) (is : Code) (S : Scope) (n : ℕ) → n ≤ code_height (cons i is) S n
at_front i is S n = le-max_left n (max (op_height i S n) (others_height i is S n))

-- what is inside an instruction isn't higher than a sequence that begins with it
inside_front : (i : Op) (is : Code) (S : Scope) (n : ℕ) → op_height i S n ≤ code_height (cons i is) S n
inside_front i is S n =
    let first : op_height i S n ≤ max (op_height i S n) (others_height i is S n) = le-max_left (op_height i S n) (others_height i is S n) in
    let second : max (op_height i S n) (others_height i is S n) ≤ code_height (cons i is) S n = le-max_right n (max (op_height i S n) (others_height i is S n)) in
    omega arith

inside_height : (i : Op) (m : ℕ) (C : Context) (own under : List ValType) (count : ℕ) (Body Arm : Code → Context → List ValType → Type 0)
    → ((c : Code) (D : Context) (below : List ValType) → D.scope ≡ C.scope → Body c D below → count ≤ code_height c C.scope (length below))
    → ((c : Code) (D : Context) (below : List ValType) → D.scope ≡ C.scope → Arm c D below → count ≤ code_height c C.scope (length below))
    → Inside i m C own under Body Arm → count ≤ op_height i C.scope (length (own ++ under))
inside_height (block ty body) m C own under count Body Arm of_body of_arms h = of_body body (under_label (results_of ty) C) (own ++ under) refl h
inside_height (loop ty body) m C own under count Body Arm of_body of_arms h = of_body body (under_label [] C) (own ++ under) refl h
inside_height (if_else ty first second) m C own under count Body Arm of_body of_arms (kept, taken, e, chosen, h) =
    let S : Scope = C.scope in
    let n : ℕ = length (own ++ under) in
    let low : count ≤ code_height taken S (length (kept ++ under)) = of_arms taken (under_label (results_of ty) C) (kept ++ under) refl h in
    let one_less : length (kept ++ under) ≡ n - 1 = let more : n ≡ length (kept ++ under) + 1 = ap (λ (l : List ValType). length (l ++ under)) e ∙ omega arith in omega arith in
    let low' : count ≤ code_height taken S (n - 1) = subst (λ (k : ℕ). count ≤ code_height taken S k) one_less low in
    let P : Code → Type 0 = λ c. code_height c S (n - 1) ≤ max (code_height first S (n - 1)) (code_height second S (n - 1)) in
    let arm_low : code_height taken S (n - 1) ≤ max (code_height first S (n - 1)) (code_height second S (n - 1)) =
    of_arm m first second taken P chosen (le-max_left (code_height first S (n - 1)) (code_height second S (n - 1))) (le-max_right (code_height first S (n - 1)) (code_height second S (n - 1))) in
    omega arith
inside_height _ m C own under count Body Arm of_body of_arms h = absurd h

-- a reached instruction stands over no more operands than the height that is computed
pub none_higher : (path : List ℕ) (c : Code) (C : Context) (a under : List ValType) (i : Op) (is : Code) (ts : List ValType)
    → LeadsTo path c C a under (cons i is) ts → length ts ≤ code_height c C.scope (length (a ++ under))
none_higher [] c C a under i is ts h = absurd h
none_higher (n ∷ []) c C a under i is ts (own, leads, e) =
    let up : code_height (cons i is) C.scope (length (own ++ under)) ≤ code_height c C.scope (length (a ++ under)) = lower n c C a own under (cons i is) leads in
    let here : length (own ++ under) ≤ code_height (cons i is) C.scope (length (own ++ under)) = at_front i is C.scope (length (own ++ under)) in
    let same : length ts ≡ length (own ++ under) = ap length e in
    omega arith
none_higher (n ∷ m ∷ path) c C a under i is ts (own, j, js, leads, inside) =
    let up : code_height (cons j js) C.scope (length (own ++ under)) ≤ code_height c C.scope (length (a ++ under)) = lower n c C a own under (cons j js) leads in
    let here : op_height j C.scope (length (own ++ under)) ≤ code_height (cons j js) C.scope (length (own ++ under)) = inside_front j js C.scope (length (own ++ under)) in
    let deep : length ts ≤ op_height j C.scope (length (own ++ under)) =
    inside_height j m C own under (length ts) (λ body D below. LeadsTo (m ∷ path) body D [] below (cons i is) ts) (λ body D below. LeadsTo path body D [] below (cons i is) ts)
    (λ d D below e h. subst (λ (S : Scope). length ts ≤ code_height d S (length below)) e (none_higher (m ∷ path) d D [] below i is ts h))
    (λ d D below e h. subst (λ (S : Scope). length ts ≤ code_height d S (length below)) e (none_higher path d D [] below i is ts h))
    inside in
    omega arith

-- a place in a sequence at which a reached instruction stands over so many operands
pub record Over (c : Code) (C : Context) (a under : List ValType) (count : ℕ) : Type 0 where
  pub path : List ℕ
  pub instruction : Op
  pub others : Code
  pub operands : List ValType
  pub leads : LeadsTo path c C a under (cons instruction others) operands
  pub so_many : length operands ≡ count

-- no instruction is there, or one stands over so many operands
abbrev pub IsTop : Code → Context → List ValType → List ValType → ℕ → Type 0
IsTop c C a under count = (count ≡ 0) ⊎ Over c C a under count

-- the same of what is inside an instruction
record OverInside (i : Op) (C : Context) (own under : List ValType) (count : ℕ) : Type 0 where
  pub position : ℕ
  pub path : List ℕ
  pub instruction : Op
  pub others : Code
  pub operands : List ValType
  pub inside : Inside i position C own under (λ body D below. LeadsTo (position ∷ path) body D [] below (cons instruction others) operands) (λ body D below. LeadsTo path body D [] below (cons instruction others) operands)
  pub so_many : length operands ≡ count

-- a place behind an instruction is a place of the sequence that begins with it
further_on : (path : List ℕ) (i : Op) (is : Code) (C : Context) (a takes gives below under : List ValType) (rest : Code) (ts : List ValType)
    → is_jump i ≡ false → Rule i C takes gives → a ≡ takes ++ below → LeadsTo path is C (gives ++ below) under rest ts → (further : List ℕ) × LeadsTo further (cons i is) C a under rest ts
further_on [] i is C a takes gives below under rest ts j r k h = absurd h
further_on (n ∷ []) i is C a takes gives below under rest ts j r k (own, leads, e) =
    (suc n ∷ [], (own, record { follows = leads.follows; no_jump = (j, leads.no_jump); typed = (takes, gives, below, r, k, leads.typed) }, e))
further_on (n ∷ m ∷ path) i is C a takes gives below under rest ts j r k (own, o, os, leads, inside) =
    (suc n ∷ m ∷ path, (own, o, os, record { follows = leads.follows; no_jump = (j, leads.no_jump); typed = (takes, gives, below, r, k, leads.typed) }, inside))

-- where the sequence in an instruction has such a place, so has the instruction
in_body : (i : Op) (C : Context) (own under : List ValType) (body : Code) (D : Context) (count : ℕ)
    → ((path : List ℕ) (n : ℕ) (rest : Code) (ts : List ValType) → LeadsTo (n ∷ path) body D [] (own ++ under) rest ts
    → Inside i n C own under (λ body D below. LeadsTo (n ∷ path) body D [] below rest ts) (λ body D below. LeadsTo path body D [] below rest ts))
    → IsTop body D [] (own ++ under) count → (count ≡ 0) ⊎ OverInside i C own under count
in_body i C own under body D count make top = ⊎_elim (λ (z : count ≡ 0). inl z) (λ (o : Over body D [] (own ++ under) count). inr (go o.path o.instruction o.others o.operands o.leads o.so_many)) top
  where
    go : (path : List ℕ) (j : Op) (js : Code) (ts : List ValType) → LeadsTo path body D [] (own ++ under) (cons j js) ts → length ts ≡ count → OverInside i C own under count
    go [] j js ts h e = absurd h
    go (n ∷ path) j js ts h e = record { position = n; path = path; instruction = j; others = js; operands = ts; inside = make path n (cons j js) ts h; so_many = e }

-- the greatest of three numbers, of which the first is that of the instruction itself
first_top : (i : Op) (is : Code) (C : Context) (a takes gives below under : List ValType) → Rule i C takes gives → a ≡ takes ++ below
    → (op_height i C.scope (length (a ++ under)) ≡ 0) ⊎ OverInside i C a under (op_height i C.scope (length (a ++ under)))
    → (is_jump i ≡ false → IsTop is C (gives ++ below) under (code_height is C.scope (length ((gives ++ below) ++ under))))
    → IsTop (cons i is) C a under (code_height (cons i is) C.scope (length (a ++ under)))
first_top i is C a takes gives below under r k inside others = ⊎_elim
    (λ (e : max n (max deep later) ≡ n). inr (record { path = 0 ∷ []; instruction = i; others = is; operands = a ++ under; leads = (a, start, refl); so_many = sym e }))
    (λ (e : max n (max deep later) ≡ max deep later). ⊎_elim
    (λ (d : max deep later ≡ deep). ⊎_elim
    (λ (z : deep ≡ 0). inl (e ∙ (d ∙ z)))
    (λ (o : OverInside i C a under deep). inr (record { path = 0 ∷ o.position ∷ o.path; instruction = o.instruction; others = o.others; operands = o.operands; leads = (a, i, is, start, o.inside); so_many = o.so_many ∙ sym (e ∙ d) }))
    inside)
    (λ (d : max deep later ≡ later). ⊎_elim
    (λ (j : is_jump i ≡ true). inl (e ∙ (d ∙ ap (λ (o : Option Change). behind o n (λ k. code_height is C.scope k)) (stops i C.scope j))))
    (λ (j : is_jump i ≡ false).
    let same : later ≡ code_height is C.scope (length ((gives ++ below) ++ under)) = others_reached i is C a takes gives below under j r k in
    ⊎_elim
    (λ (z : code_height is C.scope (length ((gives ++ below) ++ under)) ≡ 0). inl (e ∙ (d ∙ (same ∙ z))))
    (λ (o : Over is C (gives ++ below) under (code_height is C.scope (length ((gives ++ below) ++ under)))).
    let (further, leads) = further_on o.path i is C a takes gives below under (cons o.instruction o.others) o.operands j r k o.leads in
    inr (record { path = further; instruction = o.instruction; others = o.others; operands = o.operands; leads = leads; so_many = o.so_many ∙ sym (e ∙ (d ∙ same)) }))
    (others j))
    (cases_Bool (is_jump i)))
    (max_cases deep later))
    (max_cases n (max deep later))
  where
    n : ℕ
    n = length (a ++ under)

    deep : ℕ
    deep = op_height i C.scope (length (a ++ under))

    later : ℕ
    later = others_height i is C.scope (length (a ++ under))

    start : TypesFront 0 (cons i is) C a a (cons i is)
    start = record { follows = refl; no_jump = tt; typed = refl }

-- where an arm has such a place, so has the `if`
in_arm : (p : ℕ) (ty : Option ValType) (first second taken : Code) (C : Context) (own below under : List ValType) (count : ℕ) → own ≡ I32 ∷ below → arm p first second ≡ Some taken
    → IsTop taken (under_label (results_of ty) C) [] (below ++ under) count → (count ≡ 0) ⊎ OverInside (if_else ty first second) C own under count
in_arm p ty first second taken C own below under count whole chosen top = ⊎_elim (λ (z : count ≡ 0). inl z)
    (λ (o : Over taken (under_label (results_of ty) C) [] (below ++ under) count).
    inr (record { position = p; path = o.path; instruction = o.instruction; others = o.others; operands = o.operands; inside = (below, taken, whole, chosen, o.leads); so_many = o.so_many }))
    top

-- the higher arm is that of the `if`
higher_arm : (ty : Option ValType) (first second : Code) (C : Context) (own below under : List ValType) → own ≡ I32 ∷ below
    → IsTop first (under_label (results_of ty) C) [] (below ++ under) (code_height first C.scope (length (below ++ under)))
    → IsTop second (under_label (results_of ty) C) [] (below ++ under) (code_height second C.scope (length (below ++ under)))
    → (op_height (if_else ty first second) C.scope (length (own ++ under)) ≡ 0) ⊎ OverInside (if_else ty first second) C own under (op_height (if_else ty first second) C.scope (length (own ++ under)))
higher_arm ty first second C own below under whole top_first top_second =
    subst (λ (k : ℕ). (max (code_height first C.scope k) (code_height second C.scope k) ≡ 0) ⊎ OverInside (if_else ty first second) C own under (max (code_height first C.scope k) (code_height second C.scope k))) one_less
    (⊎_elim
    (λ (e : max x y ≡ x). subst (λ (k : ℕ). (k ≡ 0) ⊎ OverInside (if_else ty first second) C own under k) (sym e) (in_arm 0 ty first second first C own below under x whole refl top_first))
    (λ (e : max x y ≡ y). subst (λ (k : ℕ). (k ≡ 0) ⊎ OverInside (if_else ty first second) C own under k) (sym e) (in_arm 1 ty first second second C own below under y whole refl top_second))
    (max_cases x y))
  where
    x : ℕ
    x = code_height first C.scope (length (below ++ under))

    y : ℕ
    y = code_height second C.scope (length (below ++ under))

    one_less : length (below ++ under) ≡ length (own ++ under) - 1
    one_less = let more : length (own ++ under) ≡ length (below ++ under) + 1 = ap (λ (l : List ValType). length (l ++ under)) whole ∙ omega arith in omega arith

mutual
  -- the height that is computed of a typed sequence is found at a reached instruction, unless there is none
  pub code_top : (c : Code) (C : Context) (a b under : List ValType) → TypesCode c C a b → IsTop c C a under (code_height c C.scope (length (a ++ under)))
  code_top nil C a b under t = inl refl
  code_top (cons i is) C a b under (takes, gives, below, r, k, others) =
      first_top i is C a takes gives below under r k (op_top i C a takes gives below under r k)
      (λ (j : is_jump i ≡ false). code_top is C (gives ++ below) b under others)

  op_top : (i : Op) (C : Context) (own takes gives below under : List ValType) → Rule i C takes gives → own ≡ takes ++ below
      → (op_height i C.scope (length (own ++ under)) ≡ 0) ⊎ OverInside i C own under (op_height i C.scope (length (own ++ under)))
  op_top (block ty body) C own takes gives below under r k =
      in_body (block ty body) C own under body (under_label (results_of ty) C) (code_height body C.scope (length (own ++ under))) (λ path n rest ts h. h)
      (code_top body (under_label (results_of ty) C) [] (results_of ty) (own ++ under) r.1)
  op_top (loop ty body) C own takes gives below under r k =
      in_body (loop ty body) C own under body (under_label [] C) (code_height body C.scope (length (own ++ under))) (λ path n rest ts h. h)
      (code_top body (under_label [] C) [] (results_of ty) (own ++ under) r.1)
  op_top (if_else ty first second) C own takes gives below under r k =
      higher_arm ty first second C own below under (k ∙ ap (λ (l : List ValType). l ++ below) r.0.0)
      (code_top first (under_label (results_of ty) C) [] (results_of ty) (below ++ under) r.1)
      (code_top second (under_label (results_of ty) C) [] (results_of ty) (below ++ under) r.2)
  op_top _ C own takes gives below under r k = inl refl

regrouped : (g n o r : ℕ) → max g (max n (max o r)) ≡ max (max g (max n o)) r
regrouped g n o r = omega arith

-- the sequence from an instruction on
pub split : (code : List Instr) (i : ℕ) (x : Instr) → i < length code → x ≡ get_or code i x → drop i code ≡ x ∷ drop (i + 1) code
split code i x short is = drop-cons code i x short ∙ (ap (λ (y : Instr). y ∷ drop (suc i) code) (sym is) ∙ ap (λ (k : ℕ). x ∷ drop k code) (sym (add-one i)))

-- one more instruction of a sequence, where what was found so far is the greatest
pub one_more : (code : List Instr) (i : ℕ) (x : Instr) (S : Scope) (n later greatest whole : ℕ) (e : Change) → i < length code → x ≡ get_or code i x → change (op_of x) S ≡ Some e → later ≡ counted e n
    → max greatest (code_height (code_of (drop i code)) S n) ≡ whole → max (max greatest (max n (op_height (op_of x) S n))) (code_height (code_of (drop (i + 1) code)) S later) ≡ whole
one_more code i x S n later greatest whole e short is made counting before =
    let rest : ℕ = code_height (code_of (drop (i + 1) code)) S later in
    let opened : code_height (code_of (drop i code)) S n ≡ max n (max (op_height (op_of x) S n) rest) =
    ap (λ (l : List Instr). code_height (code_of l) S n) (split code i x short is)
    ∙ ap (λ (h : ℕ). max n (max (op_height (op_of x) S n) h)) (ap (λ (o : Option Change). behind o n (λ k. code_height (code_of (drop (i + 1) code)) S k)) made ∙ ap (λ (h : ℕ). code_height (code_of (drop (i + 1) code)) S h) (sym counting)) in
    sym (regrouped greatest n (op_height (op_of x) S n) rest) ∙ (ap (λ (h : ℕ). max greatest h) (sym opened) ∙ before)

-- where the rest of a sequence isn't reached, the greatest is found
pub at_jump : (code : List Instr) (i : ℕ) (x : Instr) (S : Scope) (n greatest whole : ℕ) → i < length code → x ≡ get_or code i x → change (op_of x) S ≡ None
    → max greatest (code_height (code_of (drop i code)) S n) ≡ whole → max greatest (max n (op_height (op_of x) S n)) ≡ whole
at_jump code i x S n greatest whole short is none before =
    let opened : code_height (code_of (drop i code)) S n ≡ max n (max (op_height (op_of x) S n) 0) =
    ap (λ (l : List Instr). code_height (code_of l) S n) (split code i x short is)
    ∙ ap (λ (h : ℕ). max n (max (op_height (op_of x) S n) h)) (ap (λ (o : Option Change). behind o n (λ k. code_height (code_of (drop (i + 1) code)) S k)) none) in
    let plain : max n (max (op_height (op_of x) S n) 0) ≡ max n (op_height (op_of x) S n) = omega arith in
    ap (λ (h : ℕ). max greatest h) (sym (opened ∙ plain)) ∙ before

-- how many instructions there are from an instruction on
pub one_fewer : (code : List Instr) (i : ℕ) (x : Instr) → i < length code → x ≡ get_or code i x
    → length (all_ops (code_of (drop i code))) ≡ length (op_and_inside (op_of x)) + length (all_ops (code_of (drop (i + 1) code)))
one_fewer code i x short is =
    ap (λ (l : List Instr). length (all_ops (code_of l))) (split code i x short is)
    ∙ length-append (op_and_inside (op_of x)) (all_ops (code_of (drop (i + 1) code)))

-- an instruction is at least one
pub at_least_one : (i : Op) → 1 ≤ length (op_and_inside i)
at_least_one (block ty body) = omega arith
at_least_one (loop ty body) = omega arith
at_least_one (if_else ty first second) = omega arith
at_least_one _ = omega arith
