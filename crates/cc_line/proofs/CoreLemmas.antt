-- Cores of routines on any spots.
use Rattle.std.proofs.Common.{◌≡◌, ℕ, zero, suc, ◌+◌, ◌<◌, ◌≤◌, List, [], ◌∷◌, ◌++◌, length, Some, Bool, true, false, refl, sym, ap, ◌∙◌, subst, arith, ◌⊎◌, inl, inr}
use Rattle.std.specs.Prelude.{ℤ, pos, if◌then◌else◌, not, ◌&&◌, nat_lt, nat_eq, slice_set, slice_index_or, codes}
use Rattle.std.specs.Str.{bytes_eq}
use Rattle.std.proofs.Math.ListN.{length-set}
use Rattle.std.proofs.lemmas.Bool.{ltb-true, ltb-false}
use Rattle.std.proofs.lemmas.Slice.Eq.{bytes_eq-Decides}
use Rattle.mc_nbt.proofs.TreeLemmas.{bytes_refl}
use Rattle.mc_nbt.proofs.TestLemmas.{eq_same}
use Rattle.mc_cmd.specs.Form.{Text}
use Rattle.cc_line.specs.Place.{score_places, is_scratch, Spot, scratch, placed}
use Rattle.cc_line.specs.State.{State, read, with_spot, with_place, place_at}
use Rattle.cc_line.specs.Step.{copy_place, load_place, keep_place, Step, run_act, Flow, flow, more, after_step, run_steps, stops, step_weight, steps_weight, with_kept, SpotReady, StepReady, Ready}
use Rattle.cc_line.specs.Key.{is_work}
use Rattle.cc_line.specs.Core.{Differ, Straight, IsAt, Left, Makes, MakesOne, spot_of, fetch, work_spot, bring, bring_back, on_two, on_one, Replaced}

-- ---- straight steps

pub straight_none : (s : State) → Straight [] s s
straight_none s = record { ready = tt; ends = refl }

pub straight_one : (x : Step) (s : State) → StepReady x s → stops x s ≡ false → Straight (x ∷ []) s (after_step x s)
straight_one x s w e = record { ready = (w, λ f. tt); ends = ap (λ b. if b then flow true s (step_weight x) else more (step_weight x) (flow false (after_step x s) 0)) e }

-- what follows straight steps
pub straight_then : (xs ys : List Step) (s t : State) → Straight xs s t → Ready ys t → Ready (xs ++ ys) s × (run_steps (xs ++ ys) s ≡ more (steps_weight xs) (run_steps ys t))
straight_then [] ys s t f w = let e : s ≡ t = ap (λ (q : Flow). q.state) f.ends in (subst (Ready ys) (sym e) w, ap (run_steps ys) e ∙ none (run_steps ys t))
  where
    none : (q : Flow) → q ≡ more 0 q
    none q = let e : q.used ≡ 0 + q.used = omega arith in ap (λ n. flow q.stopped q.state n) e
straight_then (x ∷ xs) ys s t f w = go (stops x s) refl f.ends f.ready.1 (λ h. straight_then xs ys (after_step x s) t h w)
  where
    both : (j k : ℕ) (q : Flow) → more j (more k q) ≡ more (j + k) q
    both j k q = let e : j + (k + q.used) ≡ (j + k) + q.used = omega arith in ap (λ n. flow q.stopped q.state n) e

    less_one : (q : Flow) → more (step_weight x) q ≡ flow false t (step_weight x + steps_weight xs) → q ≡ flow false t (steps_weight xs)
    less_one q e =
        let u : step_weight x + q.used ≡ step_weight x + steps_weight xs = ap (λ (r : Flow). r.used) e in
        let v : q.used ≡ steps_weight xs = omega arith in
        ap (λ n. flow q.stopped q.state n) v ∙ ap (λ (r : Flow). flow r.stopped r.state (steps_weight xs)) e

    go : (b : Bool) → stops x s ≡ b → (if b then flow true s (step_weight x) else more (step_weight x) (run_steps xs (after_step x s))) ≡ flow false t (step_weight x + steps_weight xs) → (stops x s ≡ false → Ready xs (after_step x s)) → (Straight xs (after_step x s) t → Ready (xs ++ ys) (after_step x s) × (run_steps (xs ++ ys) (after_step x s) ≡ more (steps_weight xs) (run_steps ys t))) → Ready ((x ∷ xs) ++ ys) s × (run_steps ((x ∷ xs) ++ ys) s ≡ more (step_weight x + steps_weight xs) (run_steps ys t))
    go true e g h ih = absurd (let q : true ≡ false = ap (λ (r : Flow). r.stopped) g in cc)
    go false e g h ih =
        let n = ih (record { ready = h e; ends = less_one (run_steps xs (after_step x s)) g }) in
        ((f.ready.0, λ q. n.0), ap (λ b. if b then flow true s (step_weight x) else more (step_weight x) (run_steps (xs ++ ys) (after_step x s))) e ∙ ap (more (step_weight x)) n.1 ∙ both (step_weight x) (steps_weight xs) (run_steps ys t))

pub steps_weight-append : (xs ys : List Step) → steps_weight (xs ++ ys) ≡ steps_weight xs + steps_weight ys
steps_weight-append [] ys = let e : steps_weight ys ≡ 0 + steps_weight ys = omega arith in e
steps_weight-append (x ∷ xs) ys = let i = steps_weight-append xs ys in omega arith

pub straight_append : (xs ys : List Step) (s t u : State) → Straight xs s t → Straight ys t u → Straight (xs ++ ys) s u
straight_append xs ys s t u f g = let n = straight_then xs ys s t f g.ready in record { ready = n.0; ends = n.1 ∙ ap (more (steps_weight xs)) g.ends ∙ ap (flow false u) (sym (steps_weight-append xs ys)) }

-- ---- spots

pub get_same : (zs : List ℤ) (i : ℕ) (z : ℤ) → i < length zs → slice_index_or (slice_set zs i z) i (pos 0) ≡ z
get_same [] i z h = absurd (omega arith)
get_same (y ∷ zs) zero z h = refl
get_same (y ∷ zs) (suc i) z h = get_same zs i z (omega arith)

pub get_other : (zs : List ℤ) (i j : ℕ) (z : ℤ) → (i ≡ j → ⊥) → slice_index_or (slice_set zs i z) j (pos 0) ≡ slice_index_or zs j (pos 0)
get_other [] i j z n = refl
get_other (y ∷ zs) zero zero z n = absurd (n refl)
get_other (y ∷ zs) zero (suc j) z n = refl
get_other (y ∷ zs) (suc i) zero z n = refl
get_other (y ∷ zs) (suc i) (suc j) z n = get_other zs i j z (λ e. n (ap suc e))

set_again : (zs : List ℤ) (i : ℕ) (y z : ℤ) → slice_set (slice_set zs i y) i z ≡ slice_set zs i z
set_again [] i y z = refl
set_again (x ∷ zs) zero y z = refl
set_again (x ∷ zs) (suc i) y z = ap (λ l. x ∷ l) (set_again zs i y z)

pub read_same : (s : State) (x : Spot) (z : ℤ) → SpotReady x s → read (with_spot s x z) x ≡ Some z
read_same s (scratch h) z w = ap (λ b. if b then Some z else s.scores h) (bytes_refl h)
read_same s (placed i) z w = ap Some (get_same s.places i z w)

pub read_other : (s : State) (x y : Spot) (z : ℤ) → Differ x y → read (with_spot s x z) y ≡ read s y
read_other s (scratch h) (scratch g) z d = ap (λ b. if b then Some z else s.scores g) d
read_other s (scratch h) (placed j) z d = refl
read_other s (placed i) (scratch g) z d = refl
read_other s (placed i) (placed j) z d = ap Some (get_other s.places i j z d)

pub spot_keys : (s : State) (x : Spot) (z : ℤ) → (with_spot s x z).keys ≡ s.keys
spot_keys s (scratch h) z = refl
spot_keys s (placed i) z = refl

pub spot_long : (s : State) (x : Spot) (z : ℤ) → length (with_spot s x z).places ≡ length s.places
spot_long s (scratch h) z = refl
spot_long s (placed i) z = length-set s.places i z

pub spot_ready : (s : State) (x y : Spot) (z : ℤ) → SpotReady y s → SpotReady y (with_spot s x z)
spot_ready s x (scratch h) z w = tt
spot_ready s x (placed i) z w = subst (λ n. i < n) (sym (spot_long s x z)) w

pub left_by : (s : State) (x : Spot) (z : ℤ) (r : Text) → is_work r ≡ true → IsAt r x → SpotReady x s → Left s (with_spot s x z) x z
left_by s x z r q k w = record { result = read_same s x z w; places = refl; keys = spot_keys s x z; scores = λ h a b. other x k h b }
  where
    other : (x : Spot) → IsAt r x → (h : Text) → is_work h ≡ false → (with_spot s x z).scores h ≡ s.scores h
    other (placed i) k h b = refl
    other (scratch g) k h b = go (bytes_eq g h) refl
      where
        go : (p : Bool) → bytes_eq g h ≡ p → (if p then Some z else s.scores h) ≡ s.scores h
        go true e = absurd (let y : true ≡ false = sym q ∙ ap is_work (sym k) ∙ ap is_work ((bytes_eq-Decides g h).0 e) ∙ b in cc)
        go false e = refl

-- ---- two operands, wherever they are

abbrev load_at : Text → ℕ → Step
load_at h i = run_act (load_place h i)

abbrev SpotCase : ℕ → Text → Type 0
SpotCase i h = ((i < score_places) × (spot_of i h ≡ placed i) × (fetch i h ≡ [])) ⊎ ((score_places ≤ i) × (spot_of i h ≡ scratch h) × (fetch i h ≡ load_at h i ∷ []))

spot_case : (i : ℕ) (h : Text) → SpotCase i h
spot_case i h = go (nat_lt i score_places) refl
  where
    go : (b : Bool) → nat_lt i score_places ≡ b → SpotCase i h
    go true e = inl (ltb-true i score_places e, ap (λ b. if b then placed i else scratch h) e, ap (λ b. if b then [] else load_at h i ∷ []) e)
    go false e = inr (ltb-false i score_places e, ap (λ b. if b then placed i else scratch h) e, ap (λ b. if b then [] else load_at h i ∷ []) e)

-- an operand is where its spot says
pub record Fetched (i : ℕ) (h : Text) (s t : State) : Type 0 where
  pub straight : Straight (fetch i h) s t
  pub reads : read t (spot_of i h) ≡ Some (place_at s i)
  pub ready : SpotReady (spot_of i h) t
  pub places : t.places ≡ s.places
  pub keys : t.keys ≡ s.keys
  pub scores : (g : Text) → bytes_eq h g ≡ false → t.scores g ≡ s.scores g

pub fetched : (i : ℕ) (h : Text) (s : State) → is_scratch h ≡ true → i < length s.places → (t : State) × Fetched i h s t
fetched i h s c l = by (spot_case i h)
  where
    by : SpotCase i h → (t : State) × Fetched i h s t
    by (inl e) = (s, record { straight = subst (λ xs. Straight xs s s) (sym e.2) (straight_none s); reads = ap (read s) e.1; ready = subst (λ x. SpotReady x s) (sym e.1) l; places = refl; keys = refl; scores = λ g q. refl })
    by (inr e) = (
      after_step (load_at h i) s,
      record {
        straight = subst (λ xs. Straight xs s (after_step (load_at h i) s)) (sym e.2) (straight_one (load_at h i) s l refl);
        reads = ap (read (after_step (load_at h i) s)) e.1 ∙ ap (λ b. if b then Some (place_at s i) else s.scores h) (bytes_refl h);
        ready = subst (λ x. SpotReady x (after_step (load_at h i) s)) (sym e.1) tt;
        places = refl;
        keys = refl;
        scores = λ g q. ap (λ b. if b then Some (place_at s i) else s.scores g) q;
      },
    )

pub spot_at : (i : ℕ) (h : Text) → IsAt h (spot_of i h)
spot_at i h = by (spot_case i h)
  where
    by : SpotCase i h → IsAt h (spot_of i h)
    by (inl e) = subst (IsAt h) (sym e.1) tt
    by (inr e) = subst (IsAt h) (sym e.1) refl

pub work_apart : (h g : Text) → is_work h ≡ true → is_work g ≡ false → bytes_eq h g ≡ false
work_apart h g k l = go (bytes_eq h g) refl
  where
    go : (b : Bool) → bytes_eq h g ≡ b → b ≡ false
    go true e = absurd (let y : true ≡ false = sym k ∙ ap is_work ((bytes_eq-Decides h g).0 e) ∙ l in cc)
    go false e = refl

-- ---- the first operand in the spot that a core works on, and the result back in its place

-- the spot is the result's place, or `#a`
abbrev Working : ℕ → Spot → Type 0
Working r w = (w ≡ placed r) ⊎ (w ≡ scratch (codes "#a"))

record Brought (a : ℕ) (w : Spot) (s t : State) : Type 0 where
  straight : Straight (bring a w) s t
  reads : read t w ≡ Some (place_at s a)
  ready : SpotReady w t
  -- but for the spot, all is as it was
  set : (z : ℤ) → (with_spot t w z).places ≡ (with_spot s w z).places
  others : (k : ℕ) → Differ w (placed k) → place_at t k ≡ place_at s k
  long : length t.places ≡ length s.places
  keys : t.keys ≡ s.keys
  scores : (h : Text) → is_work h ≡ false → t.scores h ≡ s.scores h

brought_scratch : (a : ℕ) (s : State) → a < length s.places → (t : State) × Brought a (scratch (codes "#a")) s t
brought_scratch a s l = (
  after_step (load_at (codes "#a") a) s,
  record {
    straight = straight_one (load_at (codes "#a") a) s l refl;
    reads = refl;
    ready = tt;
    set = λ z. refl;
    others = λ k d. refl;
    long = refl;
    keys = refl;
    scores = λ h w. ap (λ b. if b then Some (place_at s a) else s.scores h) (work_apart (codes "#a") h refl w);
  },
)

abbrev copy_at : ℕ → ℕ → Step
copy_at r a = run_act (copy_place r a)

brought_place : (a r : ℕ) (s : State) → a < length s.places → r < length s.places → (t : State) × Brought a (placed r) s t
brought_place a r s l k = by (nat_eq a r) refl
  where
    by : (b : Bool) → nat_eq a r ≡ b → (t : State) × Brought a (placed r) s t
    by true e = (
      s,
      record {
        straight = subst (λ xs. Straight xs s s) (sym (ap (λ b. if b then [] else copy_at r a ∷ []) e)) (straight_none s);
        reads = ap (λ j. Some (place_at s j)) (sym (eq_same a r e));
        ready = k;
        set = λ z. refl;
        others = λ j d. refl;
        long = refl;
        keys = refl;
        scores = λ h w. refl;
      },
    )
    by false e = (
      with_place s r (place_at s a),
      record {
        straight = subst (λ xs. Straight xs s (with_place s r (place_at s a))) (sym (ap (λ b. if b then [] else copy_at r a ∷ []) e)) (straight_one (copy_at r a) s (k, l) refl);
        reads = read_same s (placed r) (place_at s a) k;
        ready = spot_ready s (placed r) (placed r) (place_at s a) k;
        set = λ z. set_again s.places r (place_at s a) z;
        others = λ j d. get_other s.places r j (place_at s a) d;
        long = length-set s.places r (place_at s a);
        keys = refl;
        scores = λ h w. refl;
      },
    )

brought : (a r : ℕ) (w : Spot) (s : State) → Working r w → a < length s.places → r < length s.places → (t : State) × Brought a w s t
brought a r w s (inl e) l k = subst (λ x. (t : State) × Brought a x s t) (sym e) (brought_place a r s l k)
brought a r w s (inr e) l k = subst (λ x. (t : State) × Brought a x s t) (sym e) (brought_scratch a s l)

-- from the spot, in which a core has left a number, to the result's place
back : (a r : ℕ) (w : Spot) (s s1 t : State) (z : ℤ) → Working r w → Brought a w s s1 → r < length s.places → Left s1 t w z
    → (u : State) × Straight (bring_back r w) t u × Replaced s u r (z ∷ [])
back a r w s s1 t z (inl o) b l f = (
  t,
  subst (λ x. Straight (bring_back r x) t t) (sym o) (straight_none t),
  record { places = f.places ∙ b.set z ∙ ap (λ x. (with_spot s x z).places) o; keys = λ i j d. ap (λ m. m i j) (f.keys ∙ b.keys); scores = λ h i j. f.scores h i j ∙ b.scores h j },
)
back a r w s s1 t z (inr o) b l f =
    let same : t.places ≡ s.places = f.places ∙ b.set z ∙ ap (λ x. (with_spot s x z).places) o in
    let k : after_step (run_act (keep_place r (codes "#a"))) t ≡ with_place t r z = ap (with_kept t r) (sym (ap (read t) o) ∙ f.result) in
    let g = straight_one (run_act (keep_place r (codes "#a"))) t (subst (λ zs. r < length zs) (sym same) l) refl in (
      with_place t r z,
      subst (λ x. Straight (bring_back r x) t (with_place t r z)) (sym o) (subst (λ u. Straight (run_act (keep_place r (codes "#a")) ∷ []) t u) k g),
      record { places = ap (λ zs. slice_set zs r z) same; keys = λ i j d. ap (λ m. m i j) (f.keys ∙ b.keys); scores = λ h i j. f.scores h i j ∙ b.scores h j },
    )

-- ---- ONE OPERAND

one_working : (r : ℕ) → Working r (spot_of r (codes "#a"))
one_working r = by (spot_case r (codes "#a"))
  where
    by : SpotCase r (codes "#a") → Working r (spot_of r (codes "#a"))
    by (inl e) = inl e.1
    by (inr e) = inr e.1

pub one_does : (core : Spot → List Step) (x z : ℤ) (a r : ℕ) (s : State) → MakesOne core x z → a < length s.places → r < length s.places → place_at s a ≡ x
    → (u : State) × Straight (on_one a r core) s u × Replaced s u r (z ∷ [])
one_does core x z a r s m la lr ex =
    let w : Spot = spot_of r (codes "#a") in
    let b = brought a r w s (one_working r) la lr in
    let c = m.on w b.0 (spot_at r (codes "#a")) b.1.ready (b.1.reads ∙ ap Some ex) in
    let v = back a r w s b.0 c.0 z (one_working r) b.1 lr c.2 in
    (v.0, straight_append (bring a w) _ s b.0 v.0 b.1.straight (straight_append (core w) _ b.0 c.0 v.0 c.1 v.1), v.2)

-- ---- TWO OPERANDS

data WorkCase (b r : ℕ) : Type 0 where
  in_place : (b ≡ r → ⊥) → work_spot b r ≡ placed r → WorkCase b r
  in_scratch : work_spot b r ≡ scratch (codes "#a") → WorkCase b r

work_case : (b r : ℕ) → WorkCase b r
work_case b r = go (nat_lt r score_places) refl (nat_eq b r) refl
  where
    refl_eq : (i : ℕ) → nat_eq i i ≡ true
    refl_eq i = grind arith

    go : (p : Bool) → nat_lt r score_places ≡ p → (q : Bool) → nat_eq b r ≡ q → WorkCase b r
    go false e q f = in_scratch (ap (λ c. if c && not (nat_eq b r) then placed r else scratch (codes "#a")) e)
    go true e true f = in_scratch (ap (λ c. if c && not (nat_eq b r) then placed r else scratch (codes "#a")) e ∙ ap (λ c. if true && not c then placed r else scratch (codes "#a")) f)
    go true e false f = in_place (λ o. let y : true ≡ false = sym (refl_eq b) ∙ ap (nat_eq b) o ∙ f in cc) (ap (λ c. if c && not (nat_eq b r) then placed r else scratch (codes "#a")) e ∙ ap (λ c. if true && not c then placed r else scratch (codes "#a")) f)

two_working : (b r : ℕ) → Working r (work_spot b r)
two_working b r = by (work_case b r)
  where
    by : WorkCase b r → Working r (work_spot b r)
    by (in_place n e) = inl e
    by (in_scratch e) = inr e

work_at : (b r : ℕ) → IsAt (codes "#a") (work_spot b r)
work_at b r = by (work_case b r)
  where
    by : WorkCase b r → IsAt (codes "#a") (work_spot b r)
    by (in_place n e) = subst (IsAt (codes "#a")) (sym e) tt
    by (in_scratch e) = subst (IsAt (codes "#a")) (sym e) refl

-- the second operand is where no core writes
work_differs : (b r : ℕ) → Differ (work_spot b r) (spot_of b (codes "#b"))
work_differs b r = by (work_case b r) (spot_case b (codes "#b"))
  where
    by : WorkCase b r → SpotCase b (codes "#b") → Differ (work_spot b r) (spot_of b (codes "#b"))
    by (in_place n e) (inl f) = subst (λ x. Differ x (spot_of b (codes "#b"))) (sym e) (subst (Differ (placed r)) (sym f.1) (λ o. n (sym o)))
    by (in_place n e) (inr f) = subst (λ x. Differ x (spot_of b (codes "#b"))) (sym e) (subst (Differ (placed r)) (sym f.1) tt)
    by (in_scratch e) (inl f) = subst (λ x. Differ x (spot_of b (codes "#b"))) (sym e) (subst (Differ (scratch (codes "#a"))) (sym f.1) tt)
    by (in_scratch e) (inr f) = subst (λ x. Differ x (spot_of b (codes "#b"))) (sym e) (subst (Differ (scratch (codes "#a"))) (sym f.1) refl)

beside_work : (b r : ℕ) → Differ (work_spot b r) (placed b)
beside_work b r = by (work_case b r)
  where
    by : WorkCase b r → Differ (work_spot b r) (placed b)
    by (in_place n e) = subst (λ x. Differ x (placed b)) (sym e) (λ o. n (sym o))
    by (in_scratch e) = subst (λ x. Differ x (placed b)) (sym e) tt

-- to fetch the second operand leaves the first
fetched_beside : (i : ℕ) (w : Spot) (s t : State) → IsAt (codes "#a") w → Fetched i (codes "#b") s t → (read t w ≡ read s w) × (SpotReady w s → SpotReady w t) × ((z : ℤ) → (with_spot t w z).places ≡ (with_spot s w z).places)
fetched_beside i (placed j) s t k f = (ap (λ zs. Some (slice_index_or zs j (pos 0))) f.places, λ l. subst (λ zs. j < length zs) (sym f.places) l, λ z. ap (λ zs. slice_set zs j z) f.places)
fetched_beside i (scratch g) s t k f = (f.scores g (ap (bytes_eq (codes "#b")) k), λ l. tt, λ z. f.places)

pub two_do : (core : Spot → Spot → List Step) (x y z : ℤ) (a b r : ℕ) (s : State) → Makes core x y z → a < length s.places → b < length s.places → r < length s.places → place_at s a ≡ x → place_at s b ≡ y
    → (u : State) × Straight (on_two a b r core) s u × Replaced s u r (z ∷ [])
two_do core x y z a b r s m la lb lr ex ey =
    let w : Spot = work_spot b r in
    let p = brought a r w s (two_working b r) la lr in
    let s1 : State = p.0 in
    let q = fetched b (codes "#b") s1 refl (subst (λ n. b < n) (sym p.1.long) lb) in
    let s2 : State = q.0 in
    let beside = fetched_beside b w s1 s2 (work_at b r) q.1 in
    let ry : read s2 (spot_of b (codes "#b")) ≡ Some y = q.1.reads ∙ ap Some (p.1.others b (beside_work b r) ∙ ey) in
    let c = m.on w (spot_of b (codes "#b")) s2 (work_differs b r) (work_at b r) (spot_at b (codes "#b")) (beside.1 p.1.ready) q.1.ready (beside.0 ∙ p.1.reads ∙ ap Some ex) ry in
    let f : Left s1 c.0 w z = record {
      result = c.2.result;
      places = c.2.places ∙ beside.2 z;
      keys = c.2.keys ∙ q.1.keys;
      scores = λ h i j. c.2.scores h i j ∙ q.1.scores h (work_apart (codes "#b") h refl j);
    } in
    let v = back a r w s s1 c.0 z (two_working b r) p.1 lr f in (
      v.0,
      straight_append (bring a w) _ s s1 v.0 p.1.straight (straight_append (fetch b (codes "#b")) _ s1 s2 v.0 q.1.straight (straight_append (core w (spot_of b (codes "#b"))) _ s2 c.0 v.0 c.1 v.1)),
      v.2,
    )
