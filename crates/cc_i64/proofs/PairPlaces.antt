-- Lines on two numbers from a place on: what they leave in the places.
use Rattle.std.proofs.Common.{◌≡◌, ℕ, zero, suc, ◌+◌, ◌-◌, ◌<◌, ◌≤◌, List, [], ◌∷◌, length, Some, Bool, true, false, refl, sym, ap, ◌∙◌, subst, arith, ◌⊎◌, inl, inr, ⊎_elim}
use Rattle.std.specs.Prelude.{ℤ, pos, if◌then◌else◌, nat_lt, slice_set, slice_index_or, codes}
use Rattle.std.specs.Str.{bytes_eq}
use Rattle.std.proofs.Math.ListN.{length-set}
use Rattle.std.proofs.lemmas.Bool.{cases_lt, ltb-false}
use Rattle.mc_nbt.proofs.TestLemmas.{some_same}
use Rattle.mc_cmd.specs.Form.{Text}
use Rattle.cc_line.specs.Place.{score_places, is_scratch, scratch, placed}
use Rattle.cc_line.specs.State.{State, read, with_place, place_at}
use Rattle.cc_line.specs.Step.{keep_place, Step, run_act, after_step, with_kept}
use Rattle.cc_line.specs.Key.{is_work}
use Rattle.cc_line.specs.Core.{Straight, spot_of, fetch, bring_back, renamed, Replaced}
use Rattle.cc_line.proofs.RenameLemmas.{lists_same}
use Rattle.cc_line.proofs.CoreLemmas.{straight_none, straight_one, straight_append, get_same, get_other, Fetched, fetched, work_apart}
use Rattle.cc_i64.specs.Pairs.{Core, operands, on_pairs, word_back, pair_back}
use Rattle.cc_i64.proofs.SeatLemmas.{seat, Turns, turned}

-- ---- lists of numbers

-- a place that is set to what it is
pub set_same : (zs : List ℤ) (i : ℕ) (z : ℤ) → slice_index_or zs i (pos 0) ≡ z → slice_set zs i z ≡ zs
set_same [] i z e = refl
set_same (y ∷ zs) zero z e = ap (λ x. x ∷ zs) (sym e)
set_same (y ∷ zs) (suc i) z e = ap (λ l. y ∷ l) (set_same zs i z e)

-- what holds of four places and of all before and behind them
by_places : (P : ℕ → Type 0) (a : ℕ) → P a → P (suc a) → P (suc (suc a)) → P (suc (suc (suc a))) → ((k : ℕ) → (k < a) ⊎ (a + 4 ≤ k) → P k) → (k : ℕ) → P k
by_places P a p0 p1 p2 p3 f k = ⊎_elim (λ l. f k (inl l)) (λ g. go (k - a) (omega arith)) (cases_lt k a)
  where
    go : (d : ℕ) → k ≡ a + d → P k
    go zero e = let q : a ≡ k = omega arith in subst P q p0
    go (suc zero) e = let q : suc a ≡ k = omega arith in subst P q p1
    go (suc (suc zero)) e = let q : suc (suc a) ≡ k = omega arith in subst P q p2
    go (suc (suc (suc zero))) e = let q : suc (suc (suc a)) ≡ k = omega arith in subst P q p3
    go (suc (suc (suc (suc d)))) e = f k (inr (omega arith))

-- ---- the operands to their spots

-- a spot whose score isn't fetched
fetch_beside : (i : ℕ) (h : Text) (s t : State) → Fetched i h s t → (j : ℕ) (g : Text) → bytes_eq h g ≡ false → read t (spot_of j g) ≡ read s (spot_of j g)
fetch_beside i h s t f j g n = go (nat_lt j score_places)
  where
    go : (b : Bool) → read t (if b then placed j else scratch g) ≡ read s (if b then placed j else scratch g)
    go true = ap (λ zs. Some (slice_index_or zs j (pos 0))) f.places
    go false = f.scores g n

record Loaded (a : ℕ) (s t : State) : Type 0 where
  straight : Straight (operands a) s t
  first : read t (spot_of a (codes "#a")) ≡ Some (place_at s a)
  second : read t (spot_of (suc a) (codes "#b")) ≡ Some (place_at s (suc a))
  third : read t (spot_of (suc (suc a)) (codes "#c")) ≡ Some (place_at s (suc (suc a)))
  fourth : read t (spot_of (suc (suc (suc a))) (codes "#d")) ≡ Some (place_at s (suc (suc (suc a))))
  places : t.places ≡ s.places
  keys : t.keys ≡ s.keys
  scores : (h : Text) → is_work h ≡ false → t.scores h ≡ s.scores h

-- one after the other
all_loaded : (a : ℕ) (s s1 s2 s3 s4 : State) → Fetched a (codes "#a") s s1 → Fetched (suc a) (codes "#b") s1 s2 → Fetched (suc (suc a)) (codes "#c") s2 s3 → Fetched (suc (suc (suc a))) (codes "#d") s3 s4 → Loaded a s s4
all_loaded a s s1 s2 s3 s4 f1 f2 f3 f4 = record {
  straight =
      straight_append (fetch a (codes "#a")) _ s s1 s4 f1.straight
      (straight_append (fetch (suc a) (codes "#b")) _ s1 s2 s4 f2.straight
      (straight_append (fetch (suc (suc a)) (codes "#c")) _ s2 s3 s4 f3.straight f4.straight));
  first =
      fetch_beside (suc (suc (suc a))) (codes "#d") s3 s4 f4 a (codes "#a") refl
      ∙ fetch_beside (suc (suc a)) (codes "#c") s2 s3 f3 a (codes "#a") refl
      ∙ fetch_beside (suc a) (codes "#b") s1 s2 f2 a (codes "#a") refl
      ∙ f1.reads;
  second =
      fetch_beside (suc (suc (suc a))) (codes "#d") s3 s4 f4 (suc a) (codes "#b") refl
      ∙ fetch_beside (suc (suc a)) (codes "#c") s2 s3 f3 (suc a) (codes "#b") refl
      ∙ f2.reads ∙ at s1.places f1.places (suc a);
  third = fetch_beside (suc (suc (suc a))) (codes "#d") s3 s4 f4 (suc (suc a)) (codes "#c") refl ∙ f3.reads ∙ at s2.places (f2.places ∙ f1.places) (suc (suc a));
  fourth = f4.reads ∙ at s3.places (f3.places ∙ f2.places ∙ f1.places) (suc (suc (suc a)));
  places = f4.places ∙ f3.places ∙ f2.places ∙ f1.places;
  keys = f4.keys ∙ f3.keys ∙ f2.keys ∙ f1.keys;
  scores = λ h w.
      f4.scores h (work_apart (codes "#d") h refl w) ∙ f3.scores h (work_apart (codes "#c") h refl w)
      ∙ f2.scores h (work_apart (codes "#b") h refl w) ∙ f1.scores h (work_apart (codes "#a") h refl w);
}
  where
    at : (zs : List ℤ) → zs ≡ s.places → (i : ℕ) → Some (slice_index_or zs i (pos 0)) ≡ Some (place_at s i)
    at zs p i = ap (λ ys. Some (slice_index_or ys i (pos 0))) p

loaded : (a : ℕ) (s : State) → a + 4 ≤ length s.places → (t : State) × Loaded a s t
loaded a s l =
    let f1 = fetched a (codes "#a") s refl (omega arith) in
    let p1 : f1.0.places ≡ s.places = f1.1.places in
    let f2 = fetched (suc a) (codes "#b") f1.0 refl (subst (λ zs. suc a < length zs) (sym p1) (omega arith)) in
    let p2 : f2.0.places ≡ s.places = f2.1.places ∙ p1 in
    let f3 = fetched (suc (suc a)) (codes "#c") f2.0 refl (subst (λ zs. suc (suc a) < length zs) (sym p2) (omega arith)) in
    let p3 : f3.0.places ≡ s.places = f3.1.places ∙ p2 in
    let f4 = fetched (suc (suc (suc a))) (codes "#d") f3.0 refl (subst (λ zs. suc (suc (suc a)) < length zs) (sym p3) (omega arith)) in
    (f4.0, all_loaded a s f1.0 f2.0 f3.0 f4.0 f1.1 f2.1 f3.1 f4.1)

-- ---- a number from its spot to its place

record Backed (i : ℕ) (h : Text) (t u : State) (z : ℤ) : Type 0 where
  straight : Straight (bring_back i (spot_of i h)) t u
  result : place_at u i ≡ z
  others : (k : ℕ) → (i ≡ k → ⊥) → place_at u k ≡ place_at t k
  long : length u.places ≡ length t.places
  keys : u.keys ≡ t.keys
  scores : u.scores ≡ t.scores

backed : (i : ℕ) (h : Text) (t : State) (z : ℤ) → i < length t.places → read t (spot_of i h) ≡ Some z → (u : State) × Backed i h t u z
backed i h t z l r = go (nat_lt i score_places) refl
  where
    go : (b : Bool) → nat_lt i score_places ≡ b → (u : State) × Backed i h t u z
    go true e =
        let o : spot_of i h ≡ placed i = ap (λ b. if b then placed i else scratch h) e in (
          t,
          record {
            straight = subst (λ x. Straight (bring_back i x) t t) (sym o) (straight_none t);
            result = some_same _ _ (sym (ap (read t) o) ∙ r);
            others = λ k n. refl;
            long = refl;
            keys = refl;
            scores = refl;
          },
        )
    go false e =
        let o : spot_of i h ≡ scratch h = ap (λ b. if b then placed i else scratch h) e in
        let k : after_step (run_act (keep_place i h)) t ≡ with_place t i z = ap (with_kept t i) (sym (ap (read t) o) ∙ r) in
        let g = straight_one (run_act (keep_place i h)) t l refl in (
          with_place t i z,
          record {
            straight = subst (λ x. Straight (bring_back i x) t (with_place t i z)) (sym o) (subst (λ u. Straight (run_act (keep_place i h) ∷ []) t u) k g);
            result = get_same t.places i z l;
            others = λ j n. get_other t.places i j z n;
            long = length-set t.places i z;
            keys = refl;
            scores = refl;
          },
        )

-- a spot of another place, from before to behind
back_beside : (i : ℕ) (h : Text) (t u : State) (z : ℤ) → Backed i h t u z → (j : ℕ) (g : Text) → (i ≡ j → ⊥) → read u (spot_of j g) ≡ read t (spot_of j g)
back_beside i h t u z f j g n = go (nat_lt j score_places)
  where
    go : (b : Bool) → read u (if b then placed j else scratch g) ≡ read t (if b then placed j else scratch g)
    go true = ap Some (f.others j n)
    go false = ap (λ m. m g) f.scores

-- ---- both

-- an operand's place, where its spot has the number again
unchanged : (a i : ℕ) (h : Text) (s t : State) (z : ℤ) → read t (spot_of i h) ≡ Some z → place_at s i ≡ z
    → ((k : ℕ) → ((i : ℕ) → a ≤ i → i < a + 4 → i < score_places → i ≡ k → ⊥) → place_at t k ≡ place_at s k) → place_at t i ≡ place_at s i
unchanged a i h s t z r e f = go (nat_lt i score_places) refl
  where
    go : (b : Bool) → nat_lt i score_places ≡ b → place_at t i ≡ place_at s i
    go true p = some_same _ _ (sym (ap (λ b. read t (if b then placed i else scratch h)) p) ∙ r) ∙ sym e
    go false p = let g : score_places ≤ i = ltb-false i score_places p in f i (λ j x y l q. omega arith)

-- the operands
pub record Operands (s : State) (a : ℕ) (al ah bl bh : ℤ) : Type 0 where
  pub long : a + 4 ≤ length s.places
  pub first : place_at s a ≡ al
  pub second : place_at s (suc a) ≡ ah
  pub third : place_at s (suc (suc a)) ≡ bl
  pub fourth : place_at s (suc (suc (suc a))) ≡ bh

-- lines that are renamed to any spots
abbrev pub Renames : Core → Type 0
Renames core = (a : ℕ) → renamed (seat a) (core (scratch (codes "#a")) (scratch (codes "#b")) (scratch (codes "#c")) (scratch (codes "#d")))
    ≡ core (spot_of a (codes "#a")) (spot_of (suc a) (codes "#b")) (spot_of (suc (suc a)) (codes "#c")) (spot_of (suc (suc (suc a))) (codes "#d"))

record Worked (core : Core) (a : ℕ) (s : State) (x y bl bh : ℤ) : Type 0 where
  state : State
  leads : (ys : List Step) (u : State) → Straight ys state u → Straight (on_pairs a core ys) s u
  first : read state (spot_of a (codes "#a")) ≡ Some x
  second : read state (spot_of (suc a) (codes "#b")) ≡ Some y
  third : place_at state (suc (suc a)) ≡ place_at s (suc (suc a))
  fourth : place_at state (suc (suc (suc a))) ≡ place_at s (suc (suc (suc a)))
  others : (k : ℕ) → ((i : ℕ) → a ≤ i → i < a + 4 → i < score_places → i ≡ k → ⊥) → place_at state k ≡ place_at s k
  long : length state.places ≡ length s.places
  keys : state.keys ≡ s.keys
  scores : (h : Text) → is_scratch h ≡ true → is_work h ≡ false → state.scores h ≡ s.scores h

worked : (core : Core) (al ah bl bh x y : ℤ) (a : ℕ) (s : State) → Renames core → Turns (core (scratch (codes "#a")) (scratch (codes "#b")) (scratch (codes "#c")) (scratch (codes "#d"))) al ah bl bh x y
    → Operands s a al ah bl bh → Worked core a s x y bl bh
worked core al ah bl bh x y a s names m o =
    let f = loaded a s o.long in
    let s4 : State = f.0 in
    let same : (i : ℕ) → place_at s4 i ≡ place_at s i = λ i. ap (λ zs. slice_index_or zs i (pos 0)) f.1.places in
    let n = turned (core (scratch (codes "#a")) (scratch (codes "#b")) (scratch (codes "#c")) (scratch (codes "#d"))) al ah bl bh x y a s4 m (subst (λ zs. a + 4 ≤ length zs) (sym f.1.places) o.long)
    (f.1.first ∙ ap Some o.first) (f.1.second ∙ ap Some o.second) (f.1.third ∙ ap Some o.third) (f.1.fourth ∙ ap Some o.fourth) in
    let t : State = n.0 in
    let others : (k : ℕ) → ((i : ℕ) → a ≤ i → i < a + 4 → i < score_places → i ≡ k → ⊥) → place_at t k ≡ place_at s k = λ k g. n.2.others k g ∙ same k in
    record {
      state = t;
      leads = λ ys u y. straight_append (operands a) _ s s4 u f.1.straight (straight_append _ ys s4 t u (subst (λ xs. Straight xs s4 t) (names a) n.1) y);
      first = n.2.first;
      second = n.2.second;
      third = unchanged a (suc (suc a)) (codes "#c") s t bl n.2.third o.third others;
      fourth = unchanged a (suc (suc (suc a))) (codes "#d") s t bh n.2.fourth o.fourth others;
      others = others;
      long = n.2.long ∙ ap length f.1.places;
      keys = n.2.keys ∙ f.1.keys;
      scores = λ h k w. n.2.scores h k w ∙ f.1.scores h w;
    }

outside : (a k : ℕ) → (k < a) ⊎ (a + 4 ≤ k) → (i : ℕ) → a ≤ i → i < a + 4 → i < score_places → i ≡ k → ⊥
outside a k (inl l) i p q r e = omega arith
outside a k (inr g) i p q r e = omega arith

apart : (i k : ℕ) → i < k → i ≡ k → ⊥
apart i k l e = omega arith

apart_back : (i k : ℕ) → k < i → i ≡ k → ⊥
apart_back i k l e = omega arith

-- A RESULT OF ONE PLACE
pub word_does : (core : Core) (al ah bl bh x : ℤ) (a : ℕ) (s : State) → Renames core → Turns (core (scratch (codes "#a")) (scratch (codes "#b")) (scratch (codes "#c")) (scratch (codes "#d"))) al ah bl bh x ah
    → Operands s a al ah bl bh → (u : State) × Straight (on_pairs a core (word_back a)) s u × Replaced s u a (x ∷ [])
word_does core al ah bl bh x a s names m o =
    let w = worked core al ah bl bh x ah a s names m o in
    let l : a + 4 ≤ length s.places = o.long in
    let k : a < length w.state.places = subst (λ n. a < n) (sym w.long) (omega arith) in
    let b = backed a (codes "#a") w.state x k w.first in
    let u : State = b.0 in
    let second : place_at w.state (suc a) ≡ place_at s (suc a) = unchanged a (suc a) (codes "#b") s w.state ah w.second o.second w.others in
    let behind : (i : ℕ) → a < i → place_at w.state i ≡ place_at s i → place_at u i ≡ slice_index_or (slice_set s.places a x) i (pos 0) =
    λ i h e. b.1.others i (apart a i h) ∙ e ∙ sym (get_other s.places a i x (apart a i h)) in (
      u,
      w.leads (word_back a) u b.1.straight,
      record {
        places = lists_same u.places (slice_set s.places a x) (b.1.long ∙ w.long ∙ sym (length-set s.places a x))
            (by_places (λ i. place_at u i ≡ slice_index_or (slice_set s.places a x) i (pos 0)) a
            (b.1.result ∙ sym (get_same s.places a x (omega arith)))
            (behind (suc a) (omega arith) second)
            (behind (suc (suc a)) (omega arith) w.third)
            (behind (suc (suc (suc a))) (omega arith) w.fourth)
            (λ i d. b.1.others i (at_place i d) ∙ w.others i (outside a i d) ∙ sym (get_other s.places a i x (at_place i d))));
        keys = λ i j d. ap (λ m. m i j) (b.1.keys ∙ w.keys);
        scores = λ h i j. ap (λ m. m h) b.1.scores ∙ w.scores h i j;
      },
    )
  where
    at_place : (i : ℕ) → (i < a) ⊎ (a + 4 ≤ i) → a ≡ i → ⊥
    at_place i (inl l) e = omega arith
    at_place i (inr g) e = omega arith

-- A RESULT OF TWO
pub pair_does : (core : Core) (al ah bl bh x y : ℤ) (a : ℕ) (s : State) → Renames core → Turns (core (scratch (codes "#a")) (scratch (codes "#b")) (scratch (codes "#c")) (scratch (codes "#d"))) al ah bl bh x y
    → Operands s a al ah bl bh → (u : State) × Straight (on_pairs a core (pair_back a)) s u × Replaced s u a (x ∷ (y ∷ []))
pair_does core al ah bl bh x y a s names m o =
    let w = worked core al ah bl bh x y a s names m o in
    let l : a + 4 ≤ length s.places = o.long in
    let long1 : length (slice_set s.places a x) ≡ length s.places = length-set s.places a x in
    let k : a < length w.state.places = subst (λ n. a < n) (sym w.long) (omega arith) in
    let b = backed a (codes "#a") w.state x k w.first in
    let v : State = b.0 in
    let k2 : suc a < length v.places = subst (λ n. suc a < n) (sym (b.1.long ∙ w.long)) (omega arith) in
    let c = backed (suc a) (codes "#b") v y k2 (back_beside a (codes "#a") w.state v x b.1 (suc a) (codes "#b") (apart a (suc a) (omega arith)) ∙ w.second) in
    let u : State = c.0 in
    let behind : (i : ℕ) → suc a < i → place_at w.state i ≡ place_at s i → place_at u i ≡ slice_index_or (slice_set (slice_set s.places a x) (suc a) y) i (pos 0) =
    λ i h e.
    c.1.others i (apart (suc a) i h) ∙ b.1.others i (apart a i (omega arith)) ∙ e
    ∙ sym (get_other s.places a i x (apart a i (omega arith))) ∙ sym (get_other (slice_set s.places a x) (suc a) i y (apart (suc a) i h)) in (
      u,
      w.leads (pair_back a) u (straight_append (word_back a) _ w.state v u b.1.straight c.1.straight),
      record {
        places = lists_same u.places (slice_set (slice_set s.places a x) (suc a) y) (c.1.long ∙ b.1.long ∙ w.long ∙ sym long1 ∙ sym (length-set (slice_set s.places a x) (suc a) y))
            (by_places (λ i. place_at u i ≡ slice_index_or (slice_set (slice_set s.places a x) (suc a) y) i (pos 0)) a
            (c.1.others a (apart_back (suc a) a (omega arith)) ∙ b.1.result ∙ sym (get_same s.places a x (omega arith)) ∙ sym (get_other (slice_set s.places a x) (suc a) a y (apart_back (suc a) a (omega arith))))
            (c.1.result ∙ sym (get_same (slice_set s.places a x) (suc a) y (subst (λ n. suc a < n) (sym long1) (omega arith))))
            (behind (suc (suc a)) (omega arith) w.third)
            (behind (suc (suc (suc a))) (omega arith) w.fourth)
            (λ i d.
            c.1.others i (next_place i d) ∙ b.1.others i (at_place i d) ∙ w.others i (outside a i d)
            ∙ sym (get_other s.places a i x (at_place i d)) ∙ sym (get_other (slice_set s.places a x) (suc a) i y (next_place i d))));
        keys = λ i j d. ap (λ m. m i j) (c.1.keys ∙ b.1.keys ∙ w.keys);
        scores = λ h i j. ap (λ m. m h) (c.1.scores ∙ b.1.scores) ∙ w.scores h i j;
      },
    )
  where
    at_place : (i : ℕ) → (i < a) ⊎ (a + 4 ≤ i) → a ≡ i → ⊥
    at_place i (inl l) e = omega arith
    at_place i (inr g) e = omega arith

    next_place : (i : ℕ) → (i < a) ⊎ (a + 4 ≤ i) → suc a ≡ i → ⊥
    next_place i (inl l) e = omega arith
    next_place i (inr g) e = omega arith
