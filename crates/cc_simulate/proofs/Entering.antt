-- The first pieces of a call from outside make the frame of the function's activation.
use Rattle.std.proofs.Common.{◌≡◌, ℕ, zero, suc, ◌+◌, ◌-◌, ◌≤◌, ◌<◌, min, List, [], ◌∷◌, ◌++◌, length, take, drop, replicate, Option, Some, refl, sym, ap, ◌∙◌, arith, ℤ, pos, append_assoc, length-append, drop-drop, slice_index_or}
use Rattle.std.specs.Prelude.{option_and_then}
use Rattle.std.proofs.Math.Seq.{get_or-append_seam, drop-length}
use Rattle.std.proofs.lemmas.List.{length-take-le, length-drop, take-append-drop}
use Rattle.mc_nbt.specs.Tree.{Tree, int, place, select}
use Rattle.mc_cmd.specs.Form.{Text}
use Rattle.cc_line.specs.Sight.{Store, in_rest}
use Rattle.cc_line.specs.Key.{key_args}
use Rattle.cc_line.specs.Place.{score_places}
use Rattle.cc_line.specs.State.{State, ints, selected}
use Rattle.cc_line.specs.Step.{Act, make_list, with_taken}
use Rattle.cc_line.proofs.ActLemmas.{ints_child}
use Rattle.cc_call.specs.Frames.{zero_acts}
use Rattle.cc_call.proofs.ActLemmas.{with_places, Writes, written}
use Rattle.cc_call.proofs.Opening.{listed, Cleared, clears}
use Rattle.cc_pieces.specs.Entry.{arg_at, take_args}
use Rattle.cc_simulate.proofs.Acts.{after_acts, ActsReady}

-- ---- arguments

found_at : (pre rest zs : List ℤ) (x : ℤ) (k : ℕ) → zs ≡ pre ++ (x ∷ rest) → length pre ≡ k → slice_index_or zs k (pos 0) ≡ x
found_at pre rest zs x k e f = ap (λ l. slice_index_or l k (pos 0)) e ∙ ap (λ j. slice_index_or (pre ++ (x ∷ rest)) j (pos 0)) (sym f) ∙ get_or-append_seam pre x rest (pos 0)

argument : (s : State) (i : ℕ) (z : ℤ) (before more : List ℤ) → s.keys in_rest key_args ≡ Some (ints (before ++ (z ∷ more))) → length before ≡ i → selected s (arg_at i) ≡ Some (int z)
argument s i z before more e f =
    let whole : List ℤ = before ++ (z ∷ more) in
    let a : length whole ≡ length before + length (z ∷ more) = length-append before (z ∷ more) in
    let r : i < length whole = omega arith in
    ap (option_and_then (λ (u : Tree). select u (place (pos i) ∷ []))) e
    ∙ ap (option_and_then (λ (u : Tree). select u [])) (ints_child whole i r)
    ∙ ap (λ x. Some (int x)) (found_at before more whole z i refl f)

-- so many of them are written, from one on
taken : (scores : Text → Option ℤ) (keys : Store → Text → Option Tree) (n i : ℕ) (before new more : List ℤ) → keys in_rest key_args ≡ Some (ints (before ++ (new ++ more))) → length before ≡ i → length new ≡ n → Writes scores keys i new (take_args i n)
taken scores keys zero i before [] more e f g = tt
taken scores keys zero i before (z ∷ new) more e f g = absurd (omega arith)
taken scores keys (suc n) i before [] more e f g = absurd (omega arith)
taken scores keys (suc n) i before (z ∷ new) more e f g =
    let shifted : before ++ (z ∷ (new ++ more)) ≡ (before ++ (z ∷ [])) ++ (new ++ more) = sym (append_assoc before (z ∷ []) (new ++ more)) in
    let l : length (before ++ (z ∷ [])) ≡ length before + 1 = length-append before (z ∷ []) in (
      (λ t h k r. (r, ap (with_taken t i) (argument t i z before (new ++ more) (ap (λ m. m in_rest key_args) k ∙ e) f))),
      taken scores keys n (suc i) (before ++ (z ∷ [])) new more (e ∙ ap (λ m. Some (ints m)) shifted) (omega arith) (omega arith),
    )

-- ---- a frame in the making

-- The places have the numbers zs from the i-th on, and then so many zeros.
pub record Made (zs : List ℤ) (zeros size i : ℕ) (places : List ℤ) : Type 0 where
  pub front : List ℤ
  pub junk : List ℤ
  pub made : places ≡ front ++ (drop i zs ++ (replicate zeros (pos 0) ++ junk))
  pub front_length : length front ≡ i
  pub sized : length places ≡ size

-- a state in which it is
pub record Taken (zs : List ℤ) (zeros size i : ℕ) (acts : List Act) (s : State) : Type 0 where
  pub ready : ActsReady acts s
  pub places : List ℤ
  pub leads : after_acts acts s ≡ with_places s places
  pub made : Made zs zeros size i places

-- arguments more
pub take_more : (zs : List ℤ) (zeros size i n : ℕ) (s : State) → s.keys in_rest key_args ≡ Some (ints zs) → i + n ≤ length zs → Made zs zeros size (i + n) s.places → Taken zs zeros size i (take_args i n) s
take_more zs zeros size i n s keys low m =
    let front : List ℤ = take i m.front in
    let old : List ℤ = drop i m.front in
    let tail : List ℤ = drop (i + n) zs ++ (replicate zeros (pos 0) ++ m.junk) in
    let new : List ℤ = take n (drop i zs) in
    let more : List ℤ = drop (i + n) zs in
    let long : length m.front ≡ i + n = m.front_length in
    let e : s.places ≡ front ++ (old ++ tail) = m.made ∙ (ap (λ l. l ++ tail) (sym (take-append-drop i m.front)) ∙ append_assoc front old tail) in
    let f : length front ≡ i = length-take-le i m.front (omega arith) in
    let g0 : length old ≡ length m.front - i = length-drop i m.front in
    let rest : drop i zs ≡ new ++ more = sym (take-append-drop n (drop i zs)) ∙ ap (λ l. new ++ l) (drop-drop n i zs) in
    let whole : zs ≡ take i zs ++ (new ++ more) = sym (take-append-drop i zs) ∙ ap (λ l. take i zs ++ l) rest in
    let k : s.keys in_rest key_args ≡ Some (ints (take i zs ++ (new ++ more))) = keys ∙ ap (λ l. Some (ints l)) whole in
    let b : length (take i zs) ≡ i = length-take-le i zs (omega arith) in
    let d : length (drop i zs) ≡ length zs - i = length-drop i zs in
    let o : length new ≡ n = length-take-le n (drop i zs) (omega arith) in
    let g : length old ≡ length new = omega arith in
    let w = written (take_args i n) new i s front old tail (taken s.scores s.keys n i (take i zs) new more k b o) e f g in
    let places : List ℤ = front ++ (new ++ tail) in
    let made : places ≡ front ++ (drop i zs ++ (replicate zeros (pos 0) ++ m.junk)) =
    ap (λ l. front ++ l) (sym (append_assoc new more (replicate zeros (pos 0) ++ m.junk)) ∙ ap (λ l. l ++ (replicate zeros (pos 0) ++ m.junk)) (sym rest)) in
    let l0 : length s.places ≡ length (front ++ (old ++ tail)) = ap length e in
    let l1 : length (front ++ (old ++ tail)) ≡ length front + length (old ++ tail) = length-append front (old ++ tail) in
    let l2 : length (old ++ tail) ≡ length old + length tail = length-append old tail in
    let l3 : length (front ++ (new ++ tail)) ≡ length front + length (new ++ tail) = length-append front (new ++ tail) in
    let l4 : length (new ++ tail) ≡ length new + length tail = length-append new tail in
    let sized : length s.places ≡ size = m.sized in
    record {
      ready = w.ready;
      places = places;
      leads = w.there;
      made = record { front = front; junk = m.junk; made = made; front_length = f; sized = omega arith };
    }

-- the list of the frame, and zeros behind the places of arguments
pub begin_frame : (zs : List ℤ) (zeros size : ℕ) (s : State) → score_places ≤ length s.places → score_places ≤ size → length zs + zeros ≤ size
    → Taken zs zeros size (length zs) (make_list (replicate (size - score_places) (pos 0)) ∷ zero_acts (length zs) (min (length zs + zeros) score_places - length zs)) s
begin_frame zs zeros size s h k l =
    let w = clears (length zs) zeros size s h k l in
    let t : State = after_acts (make_list (replicate (size - score_places) (pos 0)) ∷ zero_acts (length zs) (min (length zs + zeros) score_places - length zs)) s in
    let c : Cleared (length zs) zeros size s t = w.there in
    let none : drop (length zs) zs ≡ [] = drop-length zs in
    record {
      ready = w.ready;
      places = t.places;
      leads = c.rest;
      made = record {
        front = take (length zs) (listed size s.places);
        junk = c.junk;
        made = c.places ∙ ap (λ m. take (length zs) (listed size s.places) ++ (m ++ (replicate zeros (pos 0) ++ c.junk))) (sym none);
        front_length = c.front_length;
        sized = c.sized;
      };
    }
