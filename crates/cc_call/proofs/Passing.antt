-- A call hands its arguments over.
use Rattle.std.proofs.Common.{◌≡◌, ℕ, zero, suc, ◌+◌, ◌-◌, ◌<◌, ◌≤◌, List, [], ◌∷◌, ◌++◌, length, take, drop, refl, sym, ap, ◌∙◌, arith, append_assoc, length-append}
use Rattle.std.specs.Prelude.{ℤ, pos, slice_set, slice_index_or}
use Rattle.std.proofs.Math.Seq.{drop-cons, take-suc}
use Rattle.std.proofs.lemmas.List.{length-take-le, length-drop, get_or-append-add, get_or-drop, set_at}
use Rattle.cc_line.specs.State.{State, place_at, with_place}
use Rattle.cc_line.specs.Step.{copy_place}
use Rattle.cc_call.specs.Frames.{pass_acts}
use Rattle.cc_call.specs.Law.{ActsLead, Passed, ArgumentsArePassed}
use Rattle.cc_call.proofs.ActLemmas.{lead_none, lead_first, lead_as, with_places}

-- the first j of the places are the numbers from place z on
abbrev laid : ℕ → List ℤ → ℕ → List ℤ
laid z zs j = take j (drop z zs) ++ drop j zs

module _ (z : ℕ) (zs : List ℤ) (j : ℕ) (l : z + j < length zs) where
  front_length : length (take j (drop z zs)) ≡ j
  front_length = let d : length (drop z zs) ≡ length zs - z = length-drop z zs in length-take-le j (drop z zs) (omega arith)

  laid_length : length (laid z zs j) ≡ length zs
  laid_length =
      let a : length (laid z zs j) ≡ length (take j (drop z zs)) + length (drop j zs) = length-append (take j (drop z zs)) (drop j zs) in
      let b : length (drop j zs) ≡ length zs - j = length-drop j zs in
      let c : length (take j (drop z zs)) ≡ j = front_length in
      omega arith

  -- the number to be copied stands where it stood
  laid_get : slice_index_or (laid z zs j) (z + j) (pos 0) ≡ slice_index_or zs (z + j) (pos 0)
  laid_get =
      let front : List ℤ = take j (drop z zs) in
      let c : length (take j (drop z zs)) ≡ j = front_length in
      let x : z + j ≡ length (take j (drop z zs)) + z = omega arith in
      let y : j + z ≡ z + j = omega arith in
      ap (λ k. slice_index_or (laid z zs j) k (pos 0)) x
      ∙ get_or-append-add front (drop j zs) z (pos 0)
      ∙ get_or-drop j zs z (pos 0)
      ∙ ap (λ k. slice_index_or zs k (pos 0)) y

  laid_more : slice_set (laid z zs j) j (slice_index_or zs (z + j) (pos 0)) ≡ laid z zs (suc j)
  laid_more =
      let front : List ℤ = take j (drop z zs) in
      let v : ℤ = slice_index_or zs (z + j) (pos 0) in
      let d : length (drop z zs) ≡ length zs - z = length-drop z zs in
      let one : take (suc j) (drop z zs) ≡ take j (drop z zs) ++ (slice_index_or (drop z zs) j (pos 0) ∷ []) = take-suc (drop z zs) j (pos 0) (omega arith) in
      ap (λ l. slice_set (front ++ l) j v) (drop-cons zs j (pos 0) (omega arith))
      ∙ set_at front (slice_index_or zs j (pos 0)) (drop (suc j) zs) v j front_length
      ∙ sym (append_assoc front (v ∷ []) (drop (suc j) zs))
      ∙ ap (λ l. l ++ drop (suc j) zs) (ap (λ y. front ++ (y ∷ [])) (sym (get_or-drop z zs j (pos 0))) ∙ sym one)

passes : (z n j : ℕ) (s : State) (zs : List ℤ) → s.places ≡ laid z zs j → z + (j + n) ≤ length zs
    → ActsLead (pass_acts z j n) s (λ t. t ≡ with_places s (laid z zs (j + n)))
passes z zero j s zs e l =
    lead_none (λ t. t ≡ with_places s (laid z zs (j + 0))) s (let x : j ≡ j + 0 = omega arith in ap (with_places s) (e ∙ ap (laid z zs) x))
passes z (suc n) j s zs e l =
    let P : State → Type 0 = λ t. t ≡ with_places s (laid z zs (j + suc n)) in
    let h : z + j < length zs = omega arith in
    let long : length s.places ≡ length zs = ap length e ∙ laid_length z zs j h in
    let v : place_at s (z + j) ≡ slice_index_or zs (z + j) (pos 0) = ap (λ l. slice_index_or l (z + j) (pos 0)) e ∙ laid_get z zs j h in
    let t : State = with_place s j (place_at s (z + j)) in
    let p : t.places ≡ laid z zs (suc j) = ap (λ l. slice_set l j (place_at s (z + j))) e ∙ ap (slice_set (laid z zs j) j) v ∙ laid_more z zs j h in
    let x : suc j + n ≡ j + suc n = omega arith in
    let r0 : j < length s.places = omega arith in
    let r1 : z + j < length s.places = omega arith in
    lead_first P (copy_place j (z + j)) (pass_acts z (suc j) n) s (r0, r1)
    (lead_as (λ u. u ≡ with_places t (laid z zs (suc j + n))) P (pass_acts z (suc j) n) t (passes z n (suc j) t zs p (omega arith))
    (λ u q. q ∙ ap (λ k. with_places s (laid z zs k)) x))

pub arguments_are_passed : ArgumentsArePassed
arguments_are_passed z n s l =
    let x : 0 + n ≡ n = omega arith in
    lead_as (λ t. t ≡ with_places s (laid z s.places (0 + n))) (Passed z n s) (pass_acts z 0 n) s (passes z n 0 s s.places refl (omega arith))
    (λ t q. record {
      places = ap (λ (u : State). u.places) q ∙ ap (laid z s.places) x;
      scores = ap (λ (u : State). u.scores) q;
      keys = ap (λ (u : State). u.keys) q;
    })
