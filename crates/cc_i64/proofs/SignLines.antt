-- The high half behind a number of 32 bits.
use Rattle.std.proofs.Common.{◌≡◌, ℕ, zero, suc, ◌<◌, List, [], ◌∷◌, length, ℤ, pos, negsuc, Some, Bool, true, false, refl, sym, ap, ◌∙◌, subst, arith}
use Rattle.std.specs.Prelude.{◌&&◌, if◌then◌else◌, nat_lt, slice_set, codes}
use Rattle.std.proofs.Math.ListN.{length-set}
use Rattle.mc_cmd.specs.Command.{up_to}
use Rattle.mc_cmd.specs.World.{is_in, some_is_in}
use Rattle.mc_cmd.specs.Form.{Text}
use Rattle.cc_line.specs.Place.{score_places, scratch, placed}
use Rattle.cc_line.specs.State.{State, read, with_place, place_at}
use Rattle.cc_line.specs.Step.{set_place, Step, run_act, when, after_step}
use Rattle.cc_line.specs.Core.{Straight, Replaced, spot_of, fetch}
use Rattle.cc_line.proofs.CoreLemmas.{straight_one, straight_append, get_other, spot_ready, fetched, work_apart}
use Rattle.cc_i64.specs.Pairs.{negative, sign_behind, sign_lines, zero_behind}
use Rattle.cc_i64.proofs.Extensions.{sign_word}

set_again : (zs : List ℤ) (i : ℕ) (y z : ℤ) → slice_set (slice_set zs i y) i z ≡ slice_set zs i z
set_again [] i y z = refl
set_again (x ∷ zs) zero y z = refl
set_again (x ∷ zs) (suc i) y z = ap (λ l. x ∷ l) (set_again zs i y z)

-- a number's spot, after a write of the place behind
read_before : (s : State) (a : ℕ) (h : Text) (y : ℤ) → read (with_place s (suc a) y) (spot_of a h) ≡ read s (spot_of a h)
read_before s a h y = go (nat_lt a score_places)
  where
    go : (b : Bool) → read (with_place s (suc a) y) (if b then placed a else scratch h) ≡ read s (if b then placed a else scratch h)
    go true = ap Some (get_other s.places (suc a) a y (λ e. omega arith))
    go false = refl

abbrev zero_line : ℕ → Step
zero_line a = run_act (set_place (suc a) (pos 0))

abbrev minus_line : ℕ → Step
minus_line a = when (negative (spot_of a (codes "#a")) ∷ []) (set_place (suc a) (negsuc 0))

-- the second line, by the sign
minus_does : (s : State) (a : ℕ) (z : ℤ) → read s (spot_of a (codes "#a")) ≡ Some z → (b : Bool) → is_in (up_to (negsuc 0)) z ≡ b
    → after_step (minus_line a) s ≡ (if b then with_place s (suc a) (negsuc 0) else s)
minus_does s a z r b e =
    ap (λ o. if some_is_in (up_to (negsuc 0)) o && true then with_place s (suc a) (negsuc 0) else s) r
    ∙ ap (λ b. if b && true then with_place s (suc a) (negsuc 0) else s) e ∙ go b
  where
    go : (b : Bool) → (if b && true then with_place s (suc a) (negsuc 0) else s) ≡ (if b then with_place s (suc a) (negsuc 0) else s)
    go true = refl
    go false = refl

pub sign_does : (a : ℕ) (s : State) (z : ℤ) → place_at s a ≡ z → suc a < length s.places
    → (u : State) × Straight (sign_behind a) s u × Replaced s u (suc a) (sign_word z ∷ [])
sign_does a s z e l =
    let f = fetched a (codes "#a") s refl (omega arith) in
    let t : State = f.0 in
    let p : t.places ≡ s.places = f.1.places in
    let lt : suc a < length t.places = subst (λ zs. suc a < length zs) (sym p) l in
    let t1 : State = with_place t (suc a) (pos 0) in
    let lt1 : suc a < length (with_place t (suc a) (pos 0)).places = subst (λ n. suc a < n) (sym (length-set t.places (suc a) (pos 0))) lt in
    let r : read t1 (spot_of a (codes "#a")) ≡ Some z = read_before t a (codes "#a") (pos 0) ∙ f.1.reads ∙ ap Some e in
    let u : State = after_step (minus_line a) t1 in
    let is : u ≡ (if is_in (up_to (negsuc 0)) z then with_place t1 (suc a) (negsuc 0) else t1) = minus_does t1 a z r (is_in (up_to (negsuc 0)) z) refl in
    let second = straight_one (minus_line a) t1 ((spot_ready t (placed (suc a)) (spot_of a (codes "#a")) (pos 0) f.1.ready, tt), λ q. lt1) refl in (
      u,
      straight_append (fetch a (codes "#a")) (sign_lines a) s t u f.1.straight (straight_append (zero_line a ∷ []) (minus_line a ∷ []) t t1 u (straight_one (zero_line a) t lt refl) second),
      record {
        places = ap (λ (q : State). q.places) is ∙ places (is_in (up_to (negsuc 0)) z) t ∙ ap (λ zs. slice_set zs (suc a) (sign_word z)) p;
        keys = λ i j d. ap (λ (q : State). q.keys i j) is ∙ keys (is_in (up_to (negsuc 0)) z) t i j ∙ ap (λ m. m i j) f.1.keys;
        scores = λ h i j. ap (λ (q : State). q.scores h) is ∙ scores (is_in (up_to (negsuc 0)) z) t h ∙ f.1.scores h (work_apart (codes "#a") h refl j);
      },
    )
  where
    places : (b : Bool) (t : State) → (if b then with_place (with_place t (suc a) (pos 0)) (suc a) (negsuc 0) else with_place t (suc a) (pos 0)).places ≡ slice_set t.places (suc a) (if b then negsuc 0 else pos 0)
    places true t = set_again t.places (suc a) (pos 0) (negsuc 0)
    places false t = refl

    keys : (b : Bool) (t : State) (i : _) (j : Text) → (if b then with_place (with_place t (suc a) (pos 0)) (suc a) (negsuc 0) else with_place t (suc a) (pos 0)).keys i j ≡ t.keys i j
    keys true t i j = refl
    keys false t i j = refl

    scores : (b : Bool) (t : State) (h : Text) → (if b then with_place (with_place t (suc a) (pos 0)) (suc a) (negsuc 0) else with_place t (suc a) (pos 0)).scores h ≡ t.scores h
    scores true t h = refl
    scores false t h = refl

pub zero_does : (a : ℕ) (s : State) → suc a < length s.places → (u : State) × Straight (zero_behind a) s u × Replaced s u (suc a) (pos 0 ∷ [])
zero_does a s l = (with_place s (suc a) (pos 0), straight_one (zero_line a) s l refl, record { places = refl; keys = λ i j d. refl; scores = λ h i j. refl })
