-- The frame of a function that is called: its list, and zeros behind its arguments.
use Rattle.std.proofs.Common.{◌≡◌, ℕ, zero, suc, ◌+◌, ◌-◌, ◌≤◌, ◌<◌, min, List, ◌∷◌, ◌++◌, length, take, drop, replicate, refl, sym, ap, ◌∙◌, subst, arith, ℤ, pos, append_assoc, length-append, drop-drop}
use Rattle.std.proofs.Math.Nat.{min-eq_left, min-eq_right}
use Rattle.std.proofs.Math.Seq.{drop-append-add}
use Rattle.std.proofs.lemmas.Bool.{cases_lt}
use Rattle.std.proofs.lemmas.List.{length-replicate, length-take-le, length-drop, take-append-drop, take-append-le, take-take, take_at, drop-replicate, replicate-append-replicate}
use mathlib.Core.Logic.{⊎_elim}
use Rattle.cc_line.specs.Sight.{in_rest}
use Rattle.cc_line.specs.Key.{key_below, key_next, id_tree}
use Rattle.cc_line.specs.Place.{score_places}
use Rattle.cc_line.specs.State.{State}
use Rattle.cc_line.specs.Step.{make_list}
use Rattle.cc_line.proofs.KeyLemmas.{Written}
use Rattle.cc_call.specs.Frames.{zero_acts, next_acts}
use Rattle.cc_call.specs.Law.{ActsLead, Opened, FramesAreOpened}
use Rattle.cc_call.proofs.ActLemmas.{lead_first, lead_then, lead_as, with_places, Writes, written}
use Rattle.cc_call.proofs.KeyLemmas.{named, not_next}

-- ---- zeros

pub zeros_write : (n i : ℕ) (s : State) → Writes s.scores s.keys i (replicate n (pos 0)) (zero_acts i n)
zeros_write zero i s = tt
zeros_write (suc n) i s = ((λ t e f r. (r, refl)), zeros_write n (suc i) s)

-- places of which so many, from one on, may be anything, and the others are zeros up to the w-th of them
record Split (ps : List ℤ) (p z w : ℕ) : Type 0 where
  old : List ℤ
  rest : List ℤ
  junk : List ℤ
  whole : ps ≡ take p ps ++ (old ++ rest)
  front_length : length (take p ps) ≡ p
  old_length : length old ≡ z
  cleared : replicate z (pos 0) ++ rest ≡ replicate w (pos 0) ++ junk

-- the first places, and a list of zeros
module _ (firsts : List ℤ) (n : ℕ) (long : length firsts ≡ 128) where
  all_length : length (firsts ++ replicate n (pos 0)) ≡ 128 + n
  all_length =
      let a : length (firsts ++ replicate n (pos 0)) ≡ length firsts + length (replicate n (pos 0)) = length-append firsts (replicate n (pos 0)) in
      let b : length (replicate n (pos 0)) ≡ n = length-replicate n (pos 0) in
      omega arith

  -- behind the first ones
  zeros_behind : (k : ℕ) → 128 ≤ k → drop k (firsts ++ replicate n (pos 0)) ≡ replicate (n - (k - 128)) (pos 0)
  zeros_behind k h =
      let e : k ≡ length firsts + (k - 128) = omega arith in
      ap (λ j. drop j (firsts ++ replicate n (pos 0))) e ∙ drop-append-add firsts (replicate n (pos 0)) (k - 128) ∙ drop-replicate (k - 128) n (pos 0)

  split_at : (p z w : ℕ) (junk : List ℤ) → p + z ≤ 128 + n → replicate z (pos 0) ++ drop (p + z) (firsts ++ replicate n (pos 0)) ≡ replicate w (pos 0) ++ junk → Split (firsts ++ replicate n (pos 0)) p z w
  split_at p z w junk h c =
      let all : List ℤ = firsts ++ replicate n (pos 0) in
      let size : length all ≡ 128 + n = all_length in
      let d : length (drop p all) ≡ length all - p = length-drop p all in
      record {
        old = take z (drop p all);
        rest = drop (p + z) all;
        junk = junk;
        whole = sym (take-append-drop p all) ∙ ap (λ l. take p all ++ l) (sym (take-append-drop z (drop p all)) ∙ ap (λ l. take z (drop p all) ++ l) (drop-drop z p all));
        front_length = length-take-le p all (omega arith);
        old_length = length-take-le z (drop p all) (omega arith);
        cleared = c;
      }

  -- all of them are scores
  split_scores : (p w : ℕ) → p + w ≤ 128 → Split (firsts ++ replicate n (pos 0)) p w w
  split_scores p w h = split_at p w w (drop (p + w) (firsts ++ replicate n (pos 0))) (omega arith) refl

  -- not all of them are
  split_list : (p z w : ℕ) → 128 ≤ p + z → z ≤ w → p + w ≤ 128 + n → Split (firsts ++ replicate n (pos 0)) p z w
  split_list p z w h k l =
      let e : n - (p + z - 128) ≡ (w - z) + (128 + n - (p + w)) = omega arith in
      let d : z + (w - z) ≡ w = omega arith in
      split_at p z w (replicate (128 + n - (p + w)) (pos 0)) (omega arith)
      (ap (λ l. replicate z (pos 0) ++ l) (zeros_behind (p + z) h ∙ ap (λ i. replicate i (pos 0)) e ∙ sym (replicate-append-replicate (w - z) (128 + n - (p + w)) (pos 0)))
      ∙ sym (append_assoc (replicate z (pos 0)) (replicate (w - z) (pos 0)) (replicate (128 + n - (p + w)) (pos 0)))
      ∙ ap (λ l. l ++ replicate (128 + n - (p + w)) (pos 0)) (replicate-append-replicate z (w - z) (pos 0) ∙ ap (λ i. replicate i (pos 0)) d))

  split_zeros : (p w : ℕ) → p + w ≤ 128 + n → Split (firsts ++ replicate n (pos 0)) p (min (p + w) 128 - p) w
  split_zeros p w h =
      ⊎_elim
      (λ (l : p + w < 129).
      let e : min (p + w) 128 ≡ p + w = min-eq_left (omega arith) in
      let d : w ≡ min (p + w) 128 - p = omega arith in
      subst (λ z. Split (firsts ++ replicate n (pos 0)) p z w) d (split_scores p w (omega arith)))
      (λ (g : 129 ≤ p + w).
      let e : min (p + w) 128 ≡ 128 = min-eq_right (omega arith) in
      split_list p (min (p + w) 128 - p) w (omega arith) (omega arith) h)
      (cases_lt (p + w) 129)

-- ---- the frame's list, and zeros behind the first p places

-- the places that a frame's list is made behind
abbrev pub listed : ℕ → List ℤ → List ℤ
listed size zs = take score_places zs ++ replicate (size - score_places) (pos 0)

pub record Cleared (p zeros size : ℕ) (s t : State) : Type 0 where
  pub junk : List ℤ
  pub places : t.places ≡ take p (listed size s.places) ++ (replicate zeros (pos 0) ++ junk)
  pub front_length : length (take p (listed size s.places)) ≡ p
  pub sized : length t.places ≡ size
  pub rest : t ≡ with_places s t.places

pub clears : (p zeros size : ℕ) (s : State) → score_places ≤ length s.places → score_places ≤ size → p + zeros ≤ size
    → ActsLead (make_list (replicate (size - score_places) (pos 0)) ∷ zero_acts p (min (p + zeros) score_places - p)) s (Cleared p zeros size s)
clears p zeros size s h k l =
    let firsts : List ℤ = take 128 s.places in
    let n : ℕ = size - 128 in
    let long : length firsts ≡ 128 = length-take-le 128 s.places h in
    let all : List ℤ = firsts ++ replicate n (pos 0) in
    let t : State = with_places s all in
    let z : ℕ = min (p + zeros) 128 - p in
    let x : Split (firsts ++ replicate n (pos 0)) p z zeros = split_zeros firsts n long p zeros (omega arith) in
    let front : List ℤ = take p all in
    let zs : List ℤ = replicate z (pos 0) in
    let zl : length (replicate z (pos 0)) ≡ z = length-replicate z (pos 0) in
    let w = written (zero_acts p z) zs p t front x.old x.rest (zeros_write z p t) x.whole x.front_length (x.old_length ∙ sym zl) in
    let places : List ℤ = front ++ (zs ++ x.rest) in
    let l0 : length all ≡ length (front ++ (x.old ++ x.rest)) = ap length x.whole in
    let l1 : length (front ++ (x.old ++ x.rest)) ≡ length front + length (x.old ++ x.rest) = length-append front (x.old ++ x.rest) in
    let l2 : length (x.old ++ x.rest) ≡ length x.old + length x.rest = length-append x.old x.rest in
    let l3 : length (front ++ (zs ++ x.rest)) ≡ length front + length (zs ++ x.rest) = length-append front (zs ++ x.rest) in
    let l4 : length (zs ++ x.rest) ≡ length zs + length x.rest = length-append zs x.rest in
    let l5 : length all ≡ 128 + n = all_length firsts n long in
    let l6 : length x.old ≡ z = x.old_length in
    let sized : length (front ++ (zs ++ x.rest)) ≡ size = omega arith in
    lead_first (Cleared p zeros size s) (make_list (replicate (size - score_places) (pos 0))) (zero_acts p z) s h
    (lead_as (λ u. u ≡ with_places t places) (Cleared p zeros size s) (zero_acts p z) t w
    (λ u q.
    let e : u.places ≡ places = ap (λ (v : State). v.places) q in
    record {
      junk = x.junk;
      places = e ∙ ap (λ m. front ++ m) x.cleared;
      front_length = x.front_length;
      sized = ap length e ∙ sized;
      rest = q ∙ ap (with_places s) (sym e);
    }))

-- ---- the frame of a function whose arguments stand in the first places

-- they stay there
kept_front : (args junk ps : List ℤ) (size : ℕ) → ps ≡ args ++ junk → length args ≤ score_places → score_places ≤ length ps → take (length args) (listed size ps) ≡ args
kept_front args junk ps size e h k =
    let long : length (take 128 ps) ≡ 128 = length-take-le 128 ps k in
    take-append-le (length args) (take 128 ps) (replicate (size - 128) (pos 0)) (omega arith)
    ∙ take-take (length args) 128 ps h
    ∙ ap (take (length args)) e
    ∙ take_at args junk (length args) refl

pub frames_are_opened : FramesAreOpened
frames_are_opened args junk zeros size first s e h k l m =
    let p : ℕ = length args in
    let Q : State → Type 0 = Opened args zeros size first s in
    lead_then (Cleared p zeros size s) Q (make_list (replicate (size - score_places) (pos 0)) ∷ zero_acts p (min (p + zeros) score_places - p)) (next_acts first) s
    (clears p zeros size s k l m)
    (λ t c.
    let places : t.places ≡ (args ++ replicate zeros (pos 0)) ++ c.junk =
    c.places ∙ ap (λ f. f ++ (replicate zeros (pos 0) ++ c.junk)) (kept_front args junk s.places size e h k) ∙ sym (append_assoc args (replicate zeros (pos 0)) c.junk) in
    let scores : t.scores ≡ s.scores = ap (λ (u : State). u.scores) c.rest in
    let keys : t.keys ≡ s.keys = ap (λ (u : State). u.keys) c.rest in
    lead_as (Written in_rest key_next (id_tree first) t) Q (next_acts first) t (named first t)
    (λ u w. record {
      junk = c.junk;
      places = w.places ∙ places;
      sized = ap length w.places ∙ c.sized;
      scores = w.scores ∙ scores;
      named = w.there;
      below = w.others in_rest key_below refl ∙ ap (λ f. f in_rest key_below) keys;
      keys = λ r j n. w.others r j (not_next r j n) ∙ ap (λ f. f r j) keys;
    }))
