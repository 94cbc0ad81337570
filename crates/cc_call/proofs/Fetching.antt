-- Arguments become places from the entry of the caller.
use Rattle.std.proofs.Common.{◌≡◌, ℕ, zero, suc, ◌+◌, ◌-◌, ◌≤◌, ◌<◌, List, [], ◌∷◌, ◌++◌, length, take, drop, Some, Bool, true, false, refl, sym, ap, ◌∙◌, subst, arith, drop-drop}
use Rattle.std.specs.Prelude.{ℤ, pos, negsuc, if◌then◌else◌, nat_lt, option_and_then, slice_index_or}
use Rattle.std.specs.Fmt.{decimal}
use Rattle.std.proofs.Math.Seq.{drop-cons}
use Rattle.std.proofs.lemmas.Bool.{ltb-true, ltb-false, lt-ltb}
use Rattle.std.proofs.lemmas.List.{length-take-le, length-drop, take-append-drop}
use Rattle.mc_nbt.specs.Tree.{int, key, place, select}
use Rattle.cc_line.specs.Sight.{in_rest}
use Rattle.cc_line.specs.Key.{key_below, key_list}
use Rattle.cc_line.specs.Place.{score_places}
use Rattle.cc_line.specs.Running.{Kept}
use Rattle.cc_line.specs.State.{State, ints, selected}
use Rattle.cc_line.specs.Step.{with_taken}
use Rattle.cc_line.proofs.ActLemmas.{ints_child}
use Rattle.cc_line.proofs.PlaceLemmas.{drop_get, drop_length}
use Rattle.cc_call.specs.Fetch.{last_place, fetch_acts}
use Rattle.cc_call.specs.Frames.{last_at}
use Rattle.cc_call.specs.Law.{IsBelow, Fetched, ArgumentsAreFetched}
use Rattle.cc_call.specs.steps.Paths.{in_last_list}
use Rattle.cc_call.proofs.ActLemmas.{lead_as, with_places, Writes, written}
use Rattle.cc_call.proofs.EntryLemmas.{entry_place, entry_list, below_last}
use Rattle.cc_call.proofs.KeyLemmas.{selects_last}

-- ---- a place of the last entry

-- an element of its list
selects_listed : (s : State) (bs : List Kept) (b : Kept) (zs : List ℤ) (k : ℕ) → IsBelow (bs ++ (b ∷ [])) s → drop score_places b.places ≡ zs → nat_lt score_places (length b.places) ≡ true → k < length zs
    → selected s (in_last_list (pos k)) ≡ Some (int (slice_index_or zs k (pos 0)))
selects_listed s bs b zs k below e long h =
    ap (option_and_then (λ v. select v (place (negsuc 0) ∷ (key key_list ∷ (place (pos k) ∷ []))))) below
    ∙ ap (option_and_then (λ v. select v (key key_list ∷ (place (pos k) ∷ [])))) (below_last bs b)
    ∙ ap (option_and_then (λ v. select v (place (pos k) ∷ []))) (entry_list b long ∙ ap (λ l. Some (ints l)) e)
    ∙ ap (option_and_then (λ v. select v [])) (ints_child zs k h)

pub selects_place : (s : State) (bs : List Kept) (b : Kept) (i : ℕ) → IsBelow (bs ++ (b ∷ [])) s → i < length b.places → selected s (last_place i) ≡ Some (int (slice_index_or b.places i (pos 0)))
selects_place s bs b i below h = go (nat_lt i score_places) refl
  where
    go : (c : Bool) → nat_lt i score_places ≡ c → selected s (if c then last_at (decimal i) else in_last_list (pos (i - score_places))) ≡ Some (int (slice_index_or b.places i (pos 0)))
    go true e = selects_last s bs b (decimal i) (int (slice_index_or b.places i (pos 0))) below (entry_place b i (ltb-true i score_places e) h)
    go false e =
        let far : score_places ≤ i = ltb-false i score_places e in
        selects_listed s bs b (drop score_places b.places) (i - score_places) below refl (lt-ltb score_places (length b.places) (omega arith)) (drop_length score_places b.places i far h)
        ∙ ap (λ z. Some (int z)) (drop_get score_places b.places i far)

-- ---- the acts

fetches_write : (n z j : ℕ) (bs : List Kept) (b : Kept) (s : State) → IsBelow (bs ++ (b ∷ [])) s → z + n ≤ length b.places → Writes s.scores s.keys j (take n (drop z b.places)) (fetch_acts z j n)
fetches_write zero z j bs b s below l = tt
fetches_write (suc n) z j bs b s below l =
    subst (λ (zs : List ℤ). Writes s.scores s.keys j (take (suc n) zs) (fetch_acts z j (suc n))) (sym (drop-cons b.places z (pos 0) (omega arith))) (
      (λ t e f r.
          let y : z < length b.places = omega arith in
          (r, ap (with_taken t j) (selects_place t bs b z (ap (λ g. g in_rest key_below) f ∙ below) y))),
      fetches_write n (suc z) (suc j) bs b s below (omega arith),
    )

pub arguments_are_fetched : ArgumentsAreFetched
arguments_are_fetched z j n bs b s below l h =
    let ps : List ℤ = s.places in
    let args : List ℤ = take n (drop z b.places) in
    let old : List ℤ = take n (drop j ps) in
    let rest : List ℤ = drop (j + n) ps in
    let parts : ps ≡ take j ps ++ (take n (drop j ps) ++ drop (j + n) ps) =
    sym (take-append-drop j ps) ∙ ap (λ l. take j ps ++ l) (sym (take-append-drop n (drop j ps)) ∙ ap (λ l. take n (drop j ps) ++ l) (drop-drop n j ps)) in
    let x : length (drop j ps) ≡ length ps - j = length-drop j ps in
    let y : length (drop z b.places) ≡ length b.places - z = length-drop z b.places in
    let f : length (take j ps) ≡ j = length-take-le j ps (omega arith) in
    let g : length (take n (drop j ps)) ≡ n = length-take-le n (drop j ps) (omega arith) in
    let a : length (take n (drop z b.places)) ≡ n = length-take-le n (drop z b.places) (omega arith) in
    lead_as (λ t. t ≡ with_places s (take j ps ++ (args ++ rest))) (Fetched z j n b s) (fetch_acts z j n) s
    (written (fetch_acts z j n) args j s (take j ps) old rest (fetches_write n z j bs b s below l) parts f (g ∙ sym a))
    (λ t q. record {
      places = ap (λ (u : State). u.places) q;
      scores = ap (λ (u : State). u.scores) q;
      keys = ap (λ (u : State). u.keys) q;
    })
