-- Which visit follows another: inside a block or a first arm, or behind an instruction, stands the next place of the text.
use Rattle.std.proofs.Common.{◌≡◌, ℕ, suc, List, [], ◌∷◌, ◌++◌, drop, Option, Some, None, refl, sym, ap, ◌∙◌, subst, append_assoc}
use Rattle.wm_ast.specs.declared.module.ValType.{ValType}
use Rattle.wm_ast.specs.Code.{Op, block, loop, if_else, Code, nil, cons}
use Rattle.wm_valid.specs.Typing.{Scope}
use Rattle.wm_valid.specs.Arrows.{Change, changed, change}
use Rattle.wm_place.specs.Spot.{followed_by}
use Rattle.wm_place.specs.Visit.{Around, Visit, visit}
use Rattle.wm_place.specs.steps.Walk.{behind, deeper, inside_visits, code_visits}
use Rattle.cc_cut.specs.Way.{path_behind}

-- the first of these has this path
abbrev pub HeadAt : List Visit → List ℕ → Type 0
HeadAt [] q = ⊥
HeadAt (x ∷ xs) q = x.path ≡ q

-- and this stands before it
abbrev pub HeadBehind : List Visit → List ℕ → Code → Type 0
HeadBehind [] q before = ⊥
HeadBehind (x ∷ xs) q before = (x.path ≡ q) × (x.before ≡ before)

abbrev pub OpFollows : Scope → Op → Visit → List Visit → Type 0
OpFollows S (block ty c) v vs = HeadAt vs (v.path ++ 0 ∷ [])
OpFollows S (loop ty c) v vs = Unit {0}
OpFollows S (if_else ty a b) v vs = HeadAt vs (v.path ++ 0 ∷ 0 ∷ [])
OpFollows S i v vs = (e : Change) → change i S ≡ Some e → HeadBehind vs (path_behind v.path) (followed_by v.before i)

abbrev pub CodeFollows : Scope → Code → Visit → List Visit → Type 0
CodeFollows S nil v vs = Unit {0}
CodeFollows S (cons i is) v vs = OpFollows S i v vs

-- these follow the visit
abbrev pub Follows : Scope → Visit → List Visit → Type 0
Follows S v vs = CodeFollows S v.rest v vs

-- each is followed by those behind it
abbrev pub Chain : Scope → List Visit → Type 0
Chain S [] = Unit {0}
Chain S (v ∷ vs) = Follows S v vs × Chain S vs

-- the path of the next place of a sequence
pub path_next : (lead : List ℕ) (n : ℕ) → path_behind (lead ++ n ∷ []) ≡ lead ++ suc n ∷ []
path_next [] n = refl
path_next (x ∷ []) n = refl
path_next (x ∷ (y ∷ lead)) n = ap (λ (l : List ℕ). x ∷ l) (path_next (y ∷ lead) n)

module _ (S : Scope) where
  op_grow : (i : Op) (v : Visit) (vs ws : List Visit) → ((q : List ℕ) → HeadAt vs q → HeadAt ws q) → ((q : List ℕ) (b : Code) → HeadBehind vs q b → HeadBehind ws q b)
      → OpFollows S i v vs → OpFollows S i v ws
  op_grow (block ty c) v vs ws at beh h = at (v.path ++ 0 ∷ []) h
  op_grow (loop ty c) v vs ws at beh h = tt
  op_grow (if_else ty a b) v vs ws at beh h = at (v.path ++ 0 ∷ 0 ∷ []) h
  op_grow i v vs ws at beh h = λ e c. beh (path_behind v.path) (followed_by v.before i) (h e c)

  grow : (c : Code) (v : Visit) (vs ws : List Visit) → ((q : List ℕ) → HeadAt vs q → HeadAt ws q) → ((q : List ℕ) (b : Code) → HeadBehind vs q b → HeadBehind ws q b)
      → CodeFollows S c v vs → CodeFollows S c v ws
  grow nil v vs ws at beh h = tt
  grow (cons i is) v vs ws at beh h = op_grow i v vs ws at beh h

  chain_append : (xs ys : List Visit) → Chain S xs → Chain S ys → Chain S (xs ++ ys)
  chain_append [] ys h g = g
  chain_append (v ∷ []) ys h g = (grow v.rest v [] ys (λ q a. absurd a) (λ q b a. absurd a) h.0, g)
  chain_append (v ∷ (x ∷ xs)) ys h g = (grow v.rest v (x ∷ xs) (x ∷ (xs ++ ys)) (λ q a. a) (λ q b a. a) h.0, chain_append (x ∷ xs) ys h.1 g)

  -- the first visit of a sequence
  head_is : (lead : List ℕ) (up : List Around) (n : ℕ) (before c : Code) (own below : List ValType) (ys : List Visit) → HeadBehind (code_visits S lead up n before c own below ++ ys) (lead ++ n ∷ []) before
  head_is lead up n before nil own below ys = (refl, refl)
  head_is lead up n before (cons i is) own below ys = (refl, refl)

  head_at : (lead : List ℕ) (up : List Around) (n : ℕ) (before c : Code) (own below : List ValType) (ys : List Visit) → HeadAt (code_visits S lead up n before c own below ++ ys) (lead ++ n ∷ [])
  head_at lead up n before nil own below ys = refl
  head_at lead up n before (cons i is) own below ys = refl

  -- what follows an instruction
  abbrev rest_of : List ℕ → List Around → ℕ → Code → Op → Code → List ValType → List ValType → List Visit
  rest_of lead up n before i is own below = behind (change i S) (λ e. code_visits S lead up (suc n) (followed_by before i) is (changed e own) below)

  behind_follows : (lead : List ℕ) (up : List Around) (n : ℕ) (before : Code) (i : Op) (is : Code) (own below : List ValType) (e : Change) → change i S ≡ Some e
      → HeadBehind (rest_of lead up n before i is own below) (path_behind (lead ++ n ∷ [])) (followed_by before i)
  behind_follows lead up n before i is own below e c =
      subst (λ (o : Option Change). HeadBehind (behind o (λ e. code_visits S lead up (suc n) (followed_by before i) is (changed e own) below)) (path_behind (lead ++ n ∷ [])) (followed_by before i)) (sym c)
      (subst (λ (q : List ℕ). HeadBehind (code_visits S lead up (suc n) (followed_by before i) is (changed e own) below) q (followed_by before i)) (sym (path_next lead n)) (first is))
    where
      first : (c : Code) → HeadBehind (code_visits S lead up (suc n) (followed_by before i) c (changed e own) below) (lead ++ suc n ∷ []) (followed_by before i)
      first nil = (refl, refl)
      first (cons j js) = (refl, refl)

  op_follows : (lead : List ℕ) (up : List Around) (n : ℕ) (before : Code) (i : Op) (is : Code) (own below : List ValType) (v : Visit) → v.path ≡ lead ++ n ∷ [] → v.before ≡ before
      → OpFollows S i v (inside_visits S lead up n i is own below ++ rest_of lead up n before i is own below)
  op_follows lead up n before (block ty c) is own below v e b =
      subst (λ (q : List ℕ). HeadAt (inside_visits S lead up n (block ty c) is own below ++ rest_of lead up n before (block ty c) is own below) (q ++ 0 ∷ [])) (sym e)
      (head_at (lead ++ n ∷ []) (deeper lead up (block ty c) is (own ++ below)) 0 nil c [] (own ++ below) (rest_of lead up n before (block ty c) is own below))
  op_follows lead up n before (loop ty c) is own below v e b = tt
  op_follows lead up n before (if_else ty x y) is own below v e b =
      let z : List Visit = code_visits S (lead ++ n ∷ 1 ∷ []) (deeper lead up (if_else ty x y) is (drop 1 own ++ below)) 0 nil y [] (drop 1 own ++ below) in
      let r : List Visit = rest_of lead up n before (if_else ty x y) is own below in
      let a : List Visit = code_visits S (lead ++ n ∷ 0 ∷ []) (deeper lead up (if_else ty x y) is (drop 1 own ++ below)) 0 nil x [] (drop 1 own ++ below) in
      let same : (lead ++ n ∷ 0 ∷ []) ++ 0 ∷ [] ≡ (lead ++ n ∷ []) ++ 0 ∷ 0 ∷ [] = append_assoc lead (n ∷ 0 ∷ []) (0 ∷ []) ∙ sym (append_assoc lead (n ∷ []) (0 ∷ 0 ∷ [])) in
      subst (λ (q : List ℕ). HeadAt ((a ++ z) ++ r) (q ++ 0 ∷ 0 ∷ [])) (sym e)
      (subst (λ (q : List ℕ). HeadAt ((a ++ z) ++ r) q) same
      (subst (λ (l : List Visit). HeadAt l ((lead ++ n ∷ 0 ∷ []) ++ 0 ∷ [])) (sym (append_assoc a z r))
      (head_at (lead ++ n ∷ 0 ∷ []) (deeper lead up (if_else ty x y) is (drop 1 own ++ below)) 0 nil x [] (drop 1 own ++ below) (z ++ r))))
  op_follows lead up n before i is own below v e b = λ d c.
      subst (λ (q : List ℕ). HeadBehind (rest_of lead up n before i is own below) (path_behind q) (followed_by v.before i)) (sym e)
      (subst (λ (k : Code). HeadBehind (rest_of lead up n before i is own below) (path_behind (lead ++ n ∷ [])) (followed_by k i)) (sym b)
      (behind_follows lead up n before i is own below d c))

  mutual
    chain_inside : (i : Op) (lead : List ℕ) (up : List Around) (n : ℕ) (is : Code) (own below : List ValType) → Chain S (inside_visits S lead up n i is own below)
    chain_inside (block ty c) lead up n is own below = chain_from c (lead ++ n ∷ []) (deeper lead up (block ty c) is (own ++ below)) 0 nil [] (own ++ below)
    chain_inside (loop ty c) lead up n is own below = chain_from c (lead ++ n ∷ []) (deeper lead up (loop ty c) is (own ++ below)) 0 nil [] (own ++ below)
    chain_inside (if_else ty x y) lead up n is own below =
        chain_append (code_visits S (lead ++ n ∷ 0 ∷ []) (deeper lead up (if_else ty x y) is (drop 1 own ++ below)) 0 nil x [] (drop 1 own ++ below))
        (code_visits S (lead ++ n ∷ 1 ∷ []) (deeper lead up (if_else ty x y) is (drop 1 own ++ below)) 0 nil y [] (drop 1 own ++ below))
        (chain_from x (lead ++ n ∷ 0 ∷ []) (deeper lead up (if_else ty x y) is (drop 1 own ++ below)) 0 nil [] (drop 1 own ++ below))
        (chain_from y (lead ++ n ∷ 1 ∷ []) (deeper lead up (if_else ty x y) is (drop 1 own ++ below)) 0 nil [] (drop 1 own ++ below))
    chain_inside _ lead up n is own below = tt

    pub chain_from : (c : Code) (lead : List ℕ) (up : List Around) (n : ℕ) (before : Code) (own below : List ValType) → Chain S (code_visits S lead up n before c own below)
    chain_from nil lead up n before own below = (tt, tt)
    chain_from (cons i is) lead up n before own below = (
      op_follows lead up n before i is own below (visit (lead ++ n ∷ []) (Rattle.std.specs.Prelude.reverse (own ++ below)) up before (cons i is)) refl refl,
      chain_append (inside_visits S lead up n i is own below) (rest_of lead up n before i is own below) (chain_inside i lead up n is own below)
          (by_change (change i S) (λ e. chain_from is lead up (suc n) (followed_by before i) (changed e own) below)),
    )
      where
        by_change : (o : Option Change) → ((e : Change) → Chain S (code_visits S lead up (suc n) (followed_by before i) is (changed e own) below)) → Chain S (behind o (λ e. code_visits S lead up (suc n) (followed_by before i) is (changed e own) below))
        by_change None h = tt
        by_change (Some e) h = h e
