-- Lines on four scores, run on the spots of four places that stand one behind the other.
use Rattle.std.proofs.Common.{◌≡◌, ℕ, suc, ◌+◌, ◌<◌, ◌≤◌, List, [], ◌∷◌, length, Option, Some, None, Bool, true, false, refl, sym, ap, ◌∙◌, subst, arith}
use Rattle.std.specs.Prelude.{ℤ, if◌then◌else◌, nat_lt, codes}
use Rattle.std.specs.List.{list_all}
use Rattle.std.specs.Str.{bytes_eq}
use Rattle.std.proofs.lemmas.Bool.{ltb-true}
use Rattle.std.proofs.lemmas.Slice.Eq.{bytes_eq-Decides}
use Rattle.mc_nbt.proofs.TreeLemmas.{bytes_refl}
use Rattle.mc_nbt.proofs.TestLemmas.{some_same, and_first, and_second}
use Rattle.mc_cmd.specs.Form.{Text}
use Rattle.cc_line.specs.Place.{score_places, is_scratch, Spot, scratch, placed}
use Rattle.cc_line.specs.State.{State, read, place_at}
use Rattle.cc_line.specs.Step.{Step, Flow, flow, run_steps, SpotReady}
use Rattle.cc_line.specs.Key.{is_work}
use Rattle.cc_line.specs.Fit.{scratch_fits, spot_fits}
use Rattle.cc_line.specs.Core.{Differ, Straight, Injective, spot_of, renamed, all_on_scratch}
use Rattle.cc_line.proofs.CoreLemmas.{work_apart}
use Rattle.cc_line.proofs.RenameLemmas.{Follows, rename, weights_same}
use Rattle.cc_line.proofs.SettleLemmas.{pinned, settled, works, score_kept, settled_straight, settled_beside}
use Rattle.cc_line.specs.Within.{steps_within}
use Rattle.cc_line.specs.State.{with_score}

-- the scores of the four
abbrev pub score_a : Text
score_a = codes "#a"

abbrev pub score_b : Text
score_b = codes "#b"

abbrev pub score_c : Text
score_c = codes "#c"

abbrev pub score_d : Text
score_d = codes "#d"

abbrev names : List Text
names = score_a ∷ (score_b ∷ (score_c ∷ (score_d ∷ [])))

-- ---- the spot of a score: that of its place, if it is one of the four

abbrev place_in : ℕ → List Text → Text → Option ℕ
place_in i [] g = None
place_in i (h ∷ hs) g = if bytes_eq h g then Some i else place_in (suc i) hs g

abbrev spot_in : Option ℕ → Text → Spot
spot_in None g = scratch g
spot_in (Some i) g = spot_of i g

abbrev pub seat : ℕ → Text → Spot
seat a g = spot_in (place_in a names g) g

from_on : (i : ℕ) (hs : List Text) (g : Text) (j : ℕ) → place_in i hs g ≡ Some j → (i ≤ j) × (j < i + length hs)
from_on i [] g j e = absurd cc
from_on i (h ∷ hs) g j e = go (bytes_eq h g) e (λ q. from_on (suc i) hs g j q)
  where
    go : (b : Bool) → (if b then Some i else place_in (suc i) hs g) ≡ Some j → (place_in (suc i) hs g ≡ Some j → (suc i ≤ j) × (j < suc i + length hs)) → (i ≤ j) × (j < i + suc (length hs))
    go true q f = let r : i ≡ j = some_same i j q in (omega arith, omega arith)
    go false q f =
        let n = f q in
        let r : suc i ≤ j = n.0 in
        let t : j < suc i + length hs = n.1 in
        (omega arith, omega arith)

one_name : (i : ℕ) (hs : List Text) (g h : Text) (j : ℕ) → place_in i hs g ≡ Some j → place_in i hs h ≡ Some j → g ≡ h
one_name i [] g h j e f = absurd cc
one_name i (k ∷ ks) g h j e f = go (bytes_eq k g) refl (bytes_eq k h) refl e f (λ p q. one_name (suc i) ks g h j p q)
  where
    later : (l : Text) → i ≡ j → place_in (suc i) ks l ≡ Some j → ⊥
    later l q r = let m : suc i ≤ j = (from_on (suc i) ks l j r).0 in omega arith

    go : (p : Bool) → bytes_eq k g ≡ p → (q : Bool) → bytes_eq k h ≡ q → (if p then Some i else place_in (suc i) ks g) ≡ Some j → (if q then Some i else place_in (suc i) ks h) ≡ Some j
        → (place_in (suc i) ks g ≡ Some j → place_in (suc i) ks h ≡ Some j → g ≡ h) → g ≡ h
    go true x true y e f r = sym ((bytes_eq-Decides k g).0 x) ∙ (bytes_eq-Decides k h).0 y
    go true x false y e f r = absurd (later h (some_same i j e) f)
    go false x true y e f r = absurd (later g (some_same i j f) e)
    go false x false y e f r = r e f

data SeatCase (a : ℕ) (g : Text) : Type 0 where
  on_place : (i : ℕ) → place_in a names g ≡ Some i → nat_lt i score_places ≡ true → seat a g ≡ placed i → SeatCase a g
  on_score : seat a g ≡ scratch g → SeatCase a g

seat_case : (a : ℕ) (g : Text) → SeatCase a g
seat_case a g = go (place_in a names g) refl
  where
    by : (i : ℕ) → place_in a names g ≡ Some i → (b : Bool) → nat_lt i score_places ≡ b → SeatCase a g
    by i e true f = on_place i e f (ap (λ o. spot_in o g) e ∙ ap (λ b. if b then placed i else scratch g) f)
    by i e false f = on_score (ap (λ o. spot_in o g) e ∙ ap (λ b. if b then placed i else scratch g) f)

    go : (o : Option ℕ) → place_in a names g ≡ o → SeatCase a g
    go None e = on_score (ap (λ o. spot_in o g) e)
    go (Some i) e = by i e (nat_lt i score_places) refl

seats_apart : (a : ℕ) → Injective (seat a)
seats_apart a = record { apart = λ g h k l n. by g h n (seat_case a g) (seat_case a h) }
  where
    alike : (g h : Text) (i j : ℕ) → bytes_eq g h ≡ false → place_in a names g ≡ Some i → place_in a names h ≡ Some j → i ≡ j → ⊥
    alike g h i j n e f s =
        let q : g ≡ h = one_name a names g h j (e ∙ ap Some s) f in
        let z : true ≡ false = sym (bytes_refl g) ∙ ap (bytes_eq g) q ∙ n in
        cc

    by : (g h : Text) → bytes_eq g h ≡ false → SeatCase a g → SeatCase a h → Differ (seat a g) (seat a h)
    by g h n (on_place i e f p) (on_place j e' f' q) = subst (λ u. Differ u (seat a h)) (sym p) (subst (Differ (placed i)) (sym q) (alike g h i j n e e'))
    by g h n (on_place i e f p) (on_score q) = subst (λ u. Differ u (seat a h)) (sym p) (subst (Differ (placed i)) (sym q) tt)
    by g h n (on_score p) (on_place j e' f' q) = subst (λ u. Differ u (seat a h)) (sym p) (subst (Differ (scratch g)) (sym q) tt)
    by g h n (on_score p) (on_score q) = subst (λ u. Differ u (seat a h)) (sym p) (subst (Differ (scratch g)) (sym q) n)

-- a score that no routine uses is none of the four
no_place : (i : ℕ) (hs : List Text) (h : Text) → list_all is_work hs ≡ true → is_work h ≡ false → place_in i hs h ≡ None
no_place i [] h k w = refl
no_place i (g ∷ gs) h k w = ap (λ b. if b then Some i else place_in (suc i) gs h) (work_apart g h (and_first _ _ k) w) ∙ no_place (suc i) gs h (and_second (is_work g) _ k) w

seat_kept : (a : ℕ) (h : Text) → is_work h ≡ false → seat a h ≡ scratch h
seat_kept a h w = ap (λ o. spot_in o h) (no_place a names h refl w)

-- a place that is none of the four
seat_beside : (a k : ℕ) → ((i : ℕ) → a ≤ i → i < a + 4 → i < score_places → i ≡ k → ⊥) → (g : Text) → Differ (seat a g) (placed k)
seat_beside a k n g = by (seat_case a g)
  where
    by : SeatCase a g → Differ (seat a g) (placed k)
    by (on_place i e f p) = let m = from_on a names g i e in subst (λ u. Differ u (placed k)) (sym p) (n i m.0 m.1 (ltb-true i score_places f))
    by (on_score p) = subst (λ u. Differ u (placed k)) (sym p) tt

-- spots that fit
pub seat_fits : (a : ℕ) (h : Text) → scratch_fits h ≡ true → spot_fits (seat a h) ≡ true
seat_fits a h f = by (seat_case a h)
  where
    by : SeatCase a h → spot_fits (seat a h) ≡ true
    by (on_place i e g p) = ap spot_fits p ∙ g
    by (on_score p) = ap spot_fits p ∙ f

-- ---- the state seen through the spots

seen_follows : (a : ℕ) (s : State) → a + 4 ≤ length s.places → Follows (seat a) (seats_apart a) (record s { scores = λ h. read s (seat a h) }) s
seen_follows a s l = record { reads = λ h k. refl; ready = λ h k. by h (seat_case a h) }
  where
    by : (h : Text) → SeatCase a h → SpotReady (seat a h) s
    by h (on_place i e f p) = let m : i < a + 4 = (from_on a names h i e).1 in subst (λ u. SpotReady u s) (sym p) (let y : i < length s.places = omega arith in y)
    by h (on_score p) = subst (λ u. SpotReady u s) (sym p) tt

-- The theorem of lines on the four scores: what they make of the first two. They leave the others, but may leave anything
-- in the other scratch scores of routines.
pub record Turns (xs : List Step) (al ah bl bh x y : ℤ) : Type 0 where
  pub plain : all_on_scratch xs ≡ true
  pub on : (s : State) → s.scores (codes "#a") ≡ Some al → s.scores (codes "#b") ≡ Some ah → s.scores (codes "#c") ≡ Some bl → s.scores (codes "#d") ≡ Some bh
      → (t : State) × Straight xs s t × (t.scores (codes "#a") ≡ Some x) × (t.scores (codes "#b") ≡ Some y) × (t.scores (codes "#c") ≡ Some bl) × (t.scores (codes "#d") ≡ Some bh)
      × ((h : Text) → is_scratch h ≡ true → is_work h ≡ false → t.scores h ≡ s.scores h)

-- by computation, whatever else stands
abbrev pub with_four : State → ℤ → ℤ → ℤ → ℤ → State
with_four s al ah bl bh = with_score (with_score (with_score (with_score s (codes "#a") al) (codes "#b") ah) (codes "#c") bl) (codes "#d") bh

pub turns_by : (xs : List Step) (al ah bl bh x y : ℤ) → all_on_scratch xs ≡ true → works xs ≡ true → steps_within 0 xs ≡ true
    → ((s : State) → pinned xs (with_four s al ah bl bh) ≡ true)
    → ((s : State) → (settled xs (with_four s al ah bl bh)).scores (codes "#a") ≡ Some x) → ((s : State) → (settled xs (with_four s al ah bl bh)).scores (codes "#b") ≡ Some y)
    → ((s : State) → (settled xs (with_four s al ah bl bh)).scores (codes "#c") ≡ Some bl) → ((s : State) → (settled xs (with_four s al ah bl bh)).scores (codes "#d") ≡ Some bh)
    → Turns xs al ah bl bh x y
turns_by xs al ah bl bh x y plain work within pin la lb lc ld = record {
  plain = plain;
  on = λ s ea eb ec ed.
      let e : with_four s al ah bl bh ≡ s =
      score_kept (with_score (with_score (with_score s (codes "#a") al) (codes "#b") ah) (codes "#c") bl) (codes "#d") bh ed
      ∙ score_kept (with_score (with_score s (codes "#a") al) (codes "#b") ah) (codes "#c") bl ec
      ∙ score_kept (with_score s (codes "#a") al) (codes "#b") ah eb ∙ score_kept s (codes "#a") al ea in
      subst (λ u. (t : State) × Straight xs u t × (t.scores (codes "#a") ≡ Some x) × (t.scores (codes "#b") ≡ Some y) × (t.scores (codes "#c") ≡ Some bl) × (t.scores (codes "#d") ≡ Some bh) × ((h : Text) → is_scratch h ≡ true → is_work h ≡ false → t.scores h ≡ u.scores h)) e
      (settled xs (with_four s al ah bl bh), settled_straight xs (with_four s al ah bl bh) within (pin s), la s, lb s, lc s, ld s, λ h l w. settled_beside xs (with_four s al ah bl bh) h work w);
}

-- what lines on the four spots leave
pub record Turned (a : ℕ) (s t : State) (x y bl bh : ℤ) : Type 0 where
  pub first : read t (spot_of a (codes "#a")) ≡ Some x
  pub second : read t (spot_of (suc a) (codes "#b")) ≡ Some y
  pub third : read t (spot_of (suc (suc a)) (codes "#c")) ≡ Some bl
  pub fourth : read t (spot_of (suc (suc (suc a))) (codes "#d")) ≡ Some bh
  pub others : (k : ℕ) → ((i : ℕ) → a ≤ i → i < a + 4 → i < score_places → i ≡ k → ⊥) → place_at t k ≡ place_at s k
  pub long : length t.places ≡ length s.places
  pub keys : t.keys ≡ s.keys
  pub scores : (h : Text) → is_scratch h ≡ true → is_work h ≡ false → t.scores h ≡ s.scores h

pub turned : (xs : List Step) (al ah bl bh x y : ℤ) (a : ℕ) (s : State) → Turns xs al ah bl bh x y → a + 4 ≤ length s.places
    → read s (spot_of a (codes "#a")) ≡ Some al → read s (spot_of (suc a) (codes "#b")) ≡ Some ah
    → read s (spot_of (suc (suc a)) (codes "#c")) ≡ Some bl → read s (spot_of (suc (suc (suc a))) (codes "#d")) ≡ Some bh
    → (t : State) × Straight (renamed (seat a) xs) s t × Turned a s t x y bl bh
turned xs al ah bl bh x y a s m l ea eb ec ed =
    let s0 : State = record s { scores = λ h. read s (seat a h) } in
    let c = m.on s0 ea eb ec ed in
    let t0 : State = c.0 in
    let g = rename (seat a) (seats_apart a) xs s0 s m.plain (seen_follows a s l) in
    let t : State = (run_steps (renamed (seat a) xs) s).state in
    let last : (run_steps xs s0).state ≡ t0 = ap (λ (q : Flow). q.state) c.1.ends in
    let reads : (h : Text) → is_scratch h ≡ true → read t (seat a h) ≡ t0.scores h = λ h k. g.follows.reads h k ∙ ap (λ (q : State). q.scores h) last in
    let halts : (run_steps (renamed (seat a) xs) s).stopped ≡ false = g.stopped ∙ ap (λ (q : Flow). q.stopped) c.1.ends in (
      t,
      record { ready = g.ready; ends = ap (λ b. flow b t (run_steps (renamed (seat a) xs) s).used) halts ∙ ap (flow false t) (g.used ∙ ap (λ (q : Flow). q.used) c.1.ends ∙ sym (weights_same (seat a) (seats_apart a) xs m.plain)) },
      record {
        first = reads (codes "#a") refl ∙ c.2;
        second = reads (codes "#b") refl ∙ c.3;
        third = reads (codes "#c") refl ∙ c.4;
        fourth = reads (codes "#d") refl ∙ c.5;
        others = λ k n. some_same _ _ (g.beside.spots (placed k) (λ h q. seat_beside a k n h));
        long = g.beside.long;
        keys = g.beside.keys;
        scores = λ h k w. ap (read t) (sym (seat_kept a h w)) ∙ reads h k ∙ c.6 h k w ∙ ap (read s) (seat_kept a h w);
      },
    )
