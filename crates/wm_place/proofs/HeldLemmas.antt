-- What typing says of a place of a typed body.
use Rattle.std.proofs.Common.{◌≡◌, ℕ, suc, ◌≤◌, ◌+◌, max, List, [], ◌∷◌, ◌++◌, length, drop, false, Option, Some, None, refl, sym, ap, ◌∙◌, subst, arith, append_assoc, append-nil}
use Rattle.std.proofs.Math.Nat.{le-max_left, le-max_right}
use Rattle.std.proofs.lemmas.List.{length-append}
use Rattle.wm_ast.specs.declared.module.ValType.{ValType}
use Rattle.wm_ast.specs.declared.module.ValType.TheVariants.{I32}
use Rattle.wm_ast.specs.Code.{Op, block, loop, if_else, Code, nil, cons}
use Rattle.wm_ast.specs.Types.{results_of}
use Rattle.wm_valid.specs.Typing.{Context, Rule, TypesCode, under_label}
use Rattle.wm_valid.specs.Place.{is_jump, HasNoJump, front, after_front, TypesFront, Inside, LeadsTo}
use Rattle.wm_valid.specs.PlaceReading.{run}
use Rattle.wm_valid.proofs.PlaceLaws.{Reached, splits, of_arm}
use Rattle.wm_place.specs.Place.{Step, in_block, in_arm, Place, place, lead, path_of}
use Rattle.wm_place.specs.Spot.{Level, level, Sequence, body_sequence, Spot, followed_by, label_of, gives_of, labels_at, ends_at, position_of, sequence_at, spot_at}
use Rattle.wm_place.specs.Kinds.{stays_under, level_kinds, over, under, own_kinds, spot_kinds}
use Rattle.wm_place.specs.SpotTyping.{with_labels}
use Rattle.wm_place.proofs.SpotLemmas.{after_next, front_next, found}
use Rattle.wm_place.proofs.LevelLemmas.{some_of, map_some, IsInner, last_step}
use Rattle.wm_place.proofs.PathLemmas.{added}

-- ---- operands over others

pub record Over (own below : Option (List ValType)) (ts : List ValType) : Type 0 where
  pub own_kinds : List ValType
  pub own_is : own ≡ Some own_kinds
  pub below_kinds : List ValType
  pub below_is : below ≡ Some below_kinds
  pub both : ts ≡ own_kinds ++ below_kinds

pub over_some : (own below : Option (List ValType)) (ts : List ValType) → over own below ≡ Some ts → Over own below ts
over_some None below ts e = absurd cc
over_some (Some us) below ts e =
    let w = map_some (λ vs. us ++ vs) below ts e in
    record { own_kinds = us; own_is = refl; below_kinds = w.0; below_is = w.1; both = sym w.2 }

pub over_is : (own below : Option (List ValType)) (us vs : List ValType) → own ≡ Some us → below ≡ Some vs → over own below ≡ Some (us ++ vs)
over_is own below us vs e f = ap (λ (o : Option (List ValType)). over o below) e ∙ ap (λ (o : Option (List ValType)). over (Some us) o) f

-- ---- a sequence and one instruction more

no_jump_behind : (p : Code) (i : Op) → HasNoJump p → is_jump i ≡ false → HasNoJump (followed_by p i)
no_jump_behind nil i h n = (n, tt)
no_jump_behind (cons j js) i h n = (h.0, no_jump_behind js i h.1 n)

typed_behind : (p : Code) (i : Op) (C : Context) (a own takes gives below : List ValType) → TypesCode p C a own → Rule i C takes gives → own ≡ takes ++ below → TypesCode (followed_by p i) C a (gives ++ below)
typed_behind nil i C a own takes gives below t r k = (takes, gives, below, r, t ∙ k, refl)
typed_behind (cons j js) i C a own takes gives below (x, y, z, q, l, others) r k = (x, y, z, q, l, typed_behind js i C (y ++ z) own takes gives below others r k)

-- behind an instruction that is no jump
behind : (n : ℕ) (c : Code) (C : Context) (own takes gives below : List ValType) (i : Op) (rest : Code) → TypesFront n c C [] own (cons i rest) → is_jump i ≡ false → Rule i C takes gives → own ≡ takes ++ below
    → TypesFront (suc n) c C [] (gives ++ below) rest
behind n c C own takes gives below i rest l j r k =
    let same : followed_by (front n c) i ≡ front (suc n) c = sym (front_next n c i rest l.follows) in
    record {
      follows = after_next n c i rest l.follows;
      no_jump = subst (λ (p : Code). HasNoJump p) same (no_jump_behind (front n c) i l.no_jump j);
      typed = subst (λ (p : Code). TypesCode p C [] (gives ++ below)) same (typed_behind (front n c) i C [] own takes gives below l.typed r k);
    }

-- the instruction has a sequence inside
abbrev IsBlock : Op → Type 0
IsBlock (block ty c) = Unit {0}
IsBlock (loop ty c) = Unit {0}
IsBlock (if_else ty a b) = Unit {0}
IsBlock _ = ⊥

holds : (s : Step) (i : Op) (d : Code) → IsInner s i d → IsBlock i
holds (in_block n) (block ty c) d h = tt
holds (in_block n) (loop ty c) d h = tt
holds (in_block n) _ d h = absurd h
holds (in_arm n k) (if_else ty a b) d h = tt
holds (in_arm n k) _ d h = absurd h

no_jump : (i : Op) → IsBlock i → is_jump i ≡ false
no_jump (block ty c) h = refl
no_jump (loop ty c) h = refl
no_jump (if_else ty a b) h = refl
no_jump _ h = absurd h

-- what a block gives, and what stays under it
gives_is : (i : Op) (C : Context) (takes gives : List ValType) → IsBlock i → Rule i C takes gives → gives ≡ gives_of i
gives_is (block ty c) C takes gives h r = r.0.1
gives_is (loop ty c) C takes gives h r = r.0.1
gives_is (if_else ty a b) C takes gives h r = r.0.1
gives_is _ C takes gives h r = absurd h

stays : (i : Op) (C : Context) (takes gives below own : List ValType) → IsBlock i → Rule i C takes gives → own ≡ takes ++ below → stays_under i own ≡ below
stays (block ty c) C takes gives below own h r k = k ∙ ap (λ (l : List ValType). l ++ below) r.0.0
stays (loop ty c) C takes gives below own h r k = k ∙ ap (λ (l : List ValType). l ++ below) r.0.0
stays (if_else ty a b) C takes gives below own h r k = ap (λ (l : List ValType). drop 1 l) (k ∙ ap (λ (l : List ValType). l ++ below) r.0.0)
stays _ C takes gives below own h r k = absurd h

-- what stands over the operands under a block
taken : (takes own b xs : List ValType) → takes ≡ xs → own ≡ takes ++ b → own ≡ xs ++ b
taken takes own b xs e k = k ∙ ap (λ (l : List ValType). l ++ b) e

-- a sequence inside an instruction is typed, and the paths into it lead on
record Inner (s : Step) (i : Op) (C : Context) (d : Code) (own stay below : List ValType) : Type 0 where
  pub context : Context
  pub is : context ≡ under_label (label_of i) C
  pub typed : TypesCode d context [] (gives_of i)
  pub onward : (seq rest : Code) → TypesFront (position_of s) seq C [] own (cons i rest) → (path : List ℕ) (follows : Code) (ts : List ValType)
      → LeadsTo path d context [] (stay ++ below) follows ts → LeadsTo (added s path) seq C [] below follows ts

-- into a block or a loop
into_body : (m : ℕ) (i : Op) (c d : Code) (C D : Context) (own b below : List ValType) → c ≡ d → own ≡ b
    → ((path : List ℕ) (follows : Code) (ts : List ValType) (j : ℕ) → LeadsTo (j ∷ path) c D [] (own ++ below) follows ts
    → Inside i j C own below (λ body E under. LeadsTo (j ∷ path) body E [] under follows ts) (λ body E under. LeadsTo path body E [] under follows ts))
    → (seq rest : Code) → TypesFront m seq C [] own (cons i rest) → (path : List ℕ) (follows : Code) (ts : List ValType)
    → LeadsTo path d D [] (b ++ below) follows ts → LeadsTo (m ∷ path) seq C [] below follows ts
into_body m i c d C D own b below e k enter seq rest leads [] follows ts h = absurd h
into_body m i c d C D own b below e k enter seq rest leads (j ∷ path) follows ts h =
    let inside : LeadsTo (j ∷ path) c D [] (own ++ below) follows ts =
    subst (λ (x : Code). LeadsTo (j ∷ path) x D [] (own ++ below) follows ts) (sym e)
    (subst (λ (l : List ValType). LeadsTo (j ∷ path) d D [] (l ++ below) follows ts) (sym k) h) in
    (own, i, rest, leads, enter path follows ts j inside)

inner : (s : Step) (i : Op) (C : Context) (takes gives own b below : List ValType) (d : Code) → IsInner s i d → Rule i C takes gives → own ≡ takes ++ b → Inner s i C d own b below
inner (in_block m) (block ty c) C takes gives own b below d e r k = record {
  context = under_label (results_of ty) C;
  is = refl;
  typed = subst (λ (x : Code). TypesCode x (under_label (results_of ty) C) [] (results_of ty)) e r.1;
  onward = into_body m (block ty c) c d C (under_label (results_of ty) C) own b below e (taken takes own b [] r.0.0 k) (λ path follows ts j h. h);
}
inner (in_block m) (loop ty c) C takes gives own b below d e r k = record {
  context = under_label [] C;
  is = refl;
  typed = subst (λ (x : Code). TypesCode x (under_label [] C) [] (results_of ty)) e r.1;
  onward = into_body m (loop ty c) c d C (under_label [] C) own b below e (taken takes own b [] r.0.0 k) (λ path follows ts j h. h);
}
inner (in_block m) _ C takes gives own b below d e r k = absurd e
inner (in_arm m j) (if_else ty x y) C takes gives own b below d e r k = record {
  context = under_label (results_of ty) C;
  is = refl;
  typed = of_arm j x y d (λ (z : Code). TypesCode z (under_label (results_of ty) C) [] (results_of ty)) e r.1 r.2;
  onward = λ seq rest leads path follows ts h. (own, if_else ty x y, rest, leads, (b, d, taken takes own b (I32 ∷ []) r.0.0 k, e, h));
}
inner (in_arm m j) _ C takes gives own b below d e r k = absurd e

lead_added : (s : Step) (steps : List Step) (path : List ℕ) → lead (s ∷ steps) path ≡ lead steps (added s path)
lead_added (in_block n) steps path = refl
lead_added (in_arm n k) steps path = refl

few_results : (o : Option ValType) → length (results_of o) ≤ 1
few_results None = omega arith
few_results (Some t) = omega arith

-- ---- a typed body

module _ (C : Context) (c : Code) (gives : Option ValType) (whole : TypesCode c C [] (results_of gives)) (labels_are : C.labels ≡ results_of gives ∷ []) where
  abbrev pub root : Sequence
  root = body_sequence gives c

  -- no instruction that is reached stands over more operands
  abbrev pub IsBound : ℕ → Type 0
  IsBound h = (path : List ℕ) (i : Op) (is : Code) (ts : List ValType) → LeadsTo path c C [] [] (cons i is) ts → length ts ≤ h

  -- a sequence of the body that is reached, over these operands
  pub record Held (steps : List Step) (q : Sequence) (below : List ValType) : Type 0 where
    pub context : Context
    pub ends : List ValType
    pub is : context ≡ with_labels (labels_at q.levels) C
    pub ends_are : ends ≡ ends_at q.levels
    pub typed : TypesCode q.code context [] ends
    pub onward : (path : List ℕ) (follows : Code) (ts : List ValType) → LeadsTo path q.code context [] below follows ts → LeadsTo (lead steps path) c C [] [] follows ts
    pub low : (h : ℕ) → IsBound h → length (ends ++ below) ≤ max h 1

  -- a place in such a sequence
  pub record Stood (steps : List Step) (n : ℕ) (q : Sequence) (below : List ValType) (held : Held steps q below) (code : Code) (own : List ValType) : Type 0 where
    pub leads : TypesFront n q.code held.context [] own code
    pub others : TypesCode code held.context own held.ends

  stood : (steps : List Step) (n : ℕ) (q : Sequence) (below : List ValType) (held : Held steps q below) (code : Code) (own : List ValType) → after_front n q.code ≡ Some code
      → run (front n q.code) C.scope [] ≡ Some own → Stood steps n q below held code own
  stood steps n q below held code own f e =
      let ran : run (front n q.code) held.context.scope [] ≡ Some own = ap (λ (D : Context). run (front n q.code) D.scope []) held.is ∙ e in
      let r : Reached n q.code held.context [] held.ends [] code own = splits n q.code held.context [] held.ends [] code own held.typed f ran in
      let same : r.own ≡ own = sym (r.is ∙ append-nil r.own) in
      record {
        leads = subst (λ (l : List ValType). TypesFront n q.code held.context [] l code) same r.leads;
        others = subst (λ (l : List ValType). TypesCode code held.context l held.ends) same r.others;
      }

  -- the operands at the end of a sequence stand behind its block too
  end_low : (steps : List Step) (n : ℕ) (q : Sequence) (below own takes gives b : List ValType) (held : Held steps q below) (i : Op) (rest : Code)
      → TypesFront n q.code held.context [] own (cons i rest) → is_jump i ≡ false → Rule i held.context takes gives → own ≡ takes ++ b → TypesCode rest held.context (gives ++ b) held.ends
      → (h : ℕ) → IsBound h → length ((gives ++ b) ++ below) ≤ max h 1
  end_low steps n q below own takes gives b held i nil l j r k t h bound =
      subst (λ (x : List ValType). length (x ++ below) ≤ max h 1) (sym t) (held.low h bound)
  end_low steps n q below own takes gives b held i (cons x xs) l j r k t h bound =
      let next : TypesFront (suc n) q.code held.context [] (gives ++ b) (cons x xs) = behind n q.code held.context own takes gives b i (cons x xs) l j r k in
      let here : length ((gives ++ b) ++ below) ≤ h = bound (lead steps (suc n ∷ [])) x xs ((gives ++ b) ++ below) (held.onward (suc n ∷ []) (cons x xs) ((gives ++ b) ++ below) (gives ++ b, next, refl)) in
      let more : h ≤ max h 1 = le-max_left h 1 in
      omega arith

  held_root : Held [] root []
  held_root = record {
    context = C;
    ends = results_of gives;
    is = ap (λ (l : List (List ValType)). with_labels l C) labels_are;
    ends_are = refl;
    typed = whole;
    onward = λ path follows ts h. h;
    low = λ h bound.
        let l : length (results_of gives ++ []) ≡ length (results_of gives) + length {A = ValType} [] = length-append (results_of gives) [] in
        let few : length (results_of gives) ≤ 1 = few_results gives in
        let more : 1 ≤ max h 1 = le-max_right h 1 in
        omega arith;
  }

  pub held : (steps : List Step) (q : Sequence) (below : List ValType) → sequence_at root steps ≡ Some q → under C.scope q.levels ≡ Some below → Held steps q below
  held [] q below e u =
      let same : root ≡ q = some_of root q e in
      let none : [] ≡ below = some_of [] below (ap (λ (y : Sequence). under C.scope y.levels) same ∙ u) in
      subst (λ (y : Sequence). Held [] y below) same (subst (λ (l : List ValType). Held [] root l) none held_root)
  held (s ∷ steps) q below e u =
      let w = last_step root s steps q e in
      let o : Sequence = w.sequence.sequence in
      let n : ℕ = position_of s in
      let i : Op = w.entered.op in
      let rest : Code = w.entered.rest in
      let v : Over (level_kinds C.scope (level (Some (place steps n)) w.outer.before i rest)) (under C.scope w.outer.levels) below =
      over_some (level_kinds C.scope (level (Some (place steps n)) w.outer.before i rest)) (under C.scope w.outer.levels) below
      (ap (λ (l : List Level). under C.scope l) (sym w.entered.levels) ∙ u) in
      let m = map_some (stays_under i) (run w.outer.before C.scope []) v.own_kinds v.own_is in
      let own : List ValType = m.0 in
      let out : Held steps o v.below_kinds = held steps o v.below_kinds w.sequence.there (ap (λ (l : List Level). under C.scope l) w.sequence.part.levels ∙ v.below_is) in
      let f : after_front n o.code ≡ Some (cons i rest) = w.sequence.part.after ∙ ap Some w.entered.is_code in
      let p : Stood steps n o v.below_kinds out (cons i rest) own = stood steps n o v.below_kinds out (cons i rest) own f (ap (λ (x : Code). run x C.scope []) w.sequence.part.front ∙ m.1) in
      let (takes, gives, b, r, k, others) = p.others in
      let is_block : IsBlock i = holds s i q.code w.entered.inner in
      let stay : v.own_kinds ≡ b = sym m.2 ∙ stays i out.context takes gives b own is_block r k in
      let x : Inner s i out.context q.code own b v.below_kinds = inner s i out.context takes gives own b v.below_kinds q.code w.entered.inner r k in
      let below_is : b ++ v.below_kinds ≡ below = ap (λ (l : List ValType). l ++ v.below_kinds) (sym stay) ∙ sym v.both in
      record {
        context = x.context;
        ends = gives_of i;
        is =
            x.is
            ∙ (ap (λ (D : Context). under_label (label_of i) D) out.is
            ∙ (ap (λ (l : List Level). with_labels (label_of i ∷ labels_at l) C) w.sequence.part.levels ∙ ap (λ (l : List Level). with_labels (labels_at l) C) (sym w.entered.levels)));
        ends_are = ap ends_at (sym w.entered.levels);
        typed = x.typed;
        onward = λ path follows ts h.
            subst (λ (y : List ℕ). LeadsTo y c C [] [] follows ts) (sym (lead_added s steps path))
            (out.onward (added s path) follows ts (x.onward o.code rest p.leads path follows ts (subst (λ (l : List ValType). LeadsTo path q.code x.context [] l follows ts) (sym below_is) h)));
        low = λ h bound.
            let all : (gives ++ b) ++ v.below_kinds ≡ gives_of i ++ below =
            append_assoc gives b v.below_kinds ∙ (ap (λ (l : List ValType). l ++ (b ++ v.below_kinds)) (gives_is i out.context takes gives is_block r) ∙ ap (λ (l : List ValType). gives_of i ++ l) below_is) in
            subst (λ (l : List ValType). length l ≤ max h 1) all (end_low steps n o v.below_kinds own takes gives b out i rest p.leads (no_jump i is_block) r k others h bound);
      }

  -- a place of the body that is reached
  pub record Kept (p : Place) (x : Spot) (ts : List ValType) : Type 0 where
    pub context : Context
    pub own : List ValType
    pub ends : List ValType
    pub below : List ValType
    pub is : context ≡ with_labels (labels_at x.levels) C
    pub ends_are : ends ≡ ends_at x.levels
    pub own_is : own_kinds C.scope x ≡ Some own
    pub below_is : under C.scope x.levels ≡ Some below
    pub both : ts ≡ own ++ below
    pub typed : TypesCode x.code context own ends
    pub leads : LeadsTo (path_of p) c C [] [] x.code ts
    pub low : (h : ℕ) → IsBound h → length (ends ++ below) ≤ max h 1

  pub kept : (p : Place) (x : Spot) (ts : List ValType) → spot_at root p ≡ Some x → spot_kinds C.scope x ≡ Some ts → Kept p x ts
  kept p x ts e u =
      let f = found root p x e in
      let v : Over (own_kinds C.scope x) (under C.scope x.levels) ts = over_some (own_kinds C.scope x) (under C.scope x.levels) ts u in
      let q : Sequence = f.sequence in
      let n : ℕ = p.position in
      let h : Held p.steps q v.below_kinds = held p.steps q v.below_kinds f.there (ap (λ (l : List Level). under C.scope l) f.part.levels ∙ v.below_is) in
      let o : Stood p.steps n q v.below_kinds h x.code v.own_kinds = stood p.steps n q v.below_kinds h x.code v.own_kinds f.part.after (ap (λ (y : Code). run y C.scope []) f.part.front ∙ v.own_is) in
      record {
        context = h.context;
        own = v.own_kinds;
        ends = h.ends;
        below = v.below_kinds;
        is = h.is ∙ ap (λ (l : List Level). with_labels (labels_at l) C) f.part.levels;
        ends_are = h.ends_are ∙ ap ends_at f.part.levels;
        own_is = v.own_is;
        below_is = v.below_is;
        both = v.both;
        typed = o.others;
        leads = h.onward (n ∷ []) x.code ts (v.own_kinds, o.leads, v.both);
        low = h.low;
      }

  -- at most one operand more than instructions stand over
  pub room : (p : Place) (x : Spot) (ts : List ValType) → Kept p x ts → (h : ℕ) → IsBound h → length ts ≤ max h 1
  room p x ts k h bound = by_code x.code k.leads k.typed
    where
      by_code : (d : Code) → LeadsTo (path_of p) c C [] [] d ts → TypesCode d k.context k.own k.ends → length ts ≤ max h 1
      by_code nil l t =
          subst (λ (us : List ValType). length us ≤ max h 1) (sym (k.both ∙ ap (λ (us : List ValType). us ++ k.below) t)) (k.low h bound)
      by_code (cons i is) l t =
          let here : length ts ≤ h = bound (path_of p) i is ts l in
          let more : h ≤ max h 1 = le-max_left h 1 in
          omega arith
