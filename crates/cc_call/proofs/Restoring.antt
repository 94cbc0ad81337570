-- Behind a call its caller's frame stands again, with the results.
use Rattle.std.proofs.Common.{◌≡◌, ℕ, zero, suc, ◌+◌, ◌-◌, ◌≤◌, ◌<◌, List, [], ◌∷◌, ◌++◌, length, take, drop, replicate, Some, Bool, true, false, refl, sym, ap, ◌∙◌, subst, arith, append_assoc, length-append}
use Rattle.std.specs.Prelude.{ℤ, pos, if◌then◌else◌, nat_lt, slice_index_or}
use Rattle.std.specs.Fmt.{decimal}
use Rattle.std.proofs.Math.Seq.{drop-cons}
use Rattle.std.proofs.Math.Nat.{min-eq_left, min-eq_right}
use Rattle.std.proofs.lemmas.Bool.{ltb-true, ltb-false, lt-ltb}
use Rattle.std.proofs.lemmas.List.{length-replicate, length-take-le, length-drop, take-append-drop, drop_all}
use Rattle.mc_nbt.specs.Tree.{int}
use Rattle.cc_line.specs.Sight.{in_rest}
use Rattle.cc_line.specs.Key.{key_below, key_next, key_list, PieceId, id_tree}
use Rattle.cc_line.specs.Place.{score_places}
use Rattle.cc_line.specs.Running.{Kept, below_tree}
use Rattle.cc_line.specs.State.{State, ints, remove_under, with_list, with_some_list, selected}
use Rattle.cc_line.specs.Step.{Act, erase_site, make_list, restore_list, with_taken, with_kept, some_ints, after_act}
use Rattle.cc_line.proofs.ActLemmas.{ints_are}
use Rattle.cc_line.proofs.KeyLemmas.{Written, erase_writes}
use Rattle.cc_call.specs.Frames.{last_site, last_at, saved, result_score, take_acts, load_acts, restore_list_acts, next_acts}
use Rattle.cc_call.specs.Law.{IsBelow, AreHanded, ActsLead, SameKeys, IsKept, Restored, FramesAreRestored}
use Rattle.cc_call.proofs.ActLemmas.{lead_first, lead_one, lead_then, lead_as, with_places, Writes, written}
use Rattle.cc_call.proofs.EntryLemmas.{entry_place, entry_list, below_dropped}
use Rattle.cc_call.proofs.Handing.{handed_same}
use Rattle.cc_call.proofs.KeyLemmas.{selects_last, named, not_below, not_next}

-- ---- the further places

-- what they are then
abbrev behind : ℕ → ℕ → List ℤ → List ℤ
behind z size zs = if nat_lt score_places z then drop score_places zs else replicate (size - score_places) (pos 0)

relists : (z size : ℕ) (bs : List Kept) (b : Kept) (s : State) → IsBelow (bs ++ (b ∷ [])) s → (nat_lt score_places z ≡ true → nat_lt score_places (length b.places) ≡ true) → score_places ≤ length s.places
    → ActsLead (restore_list_acts z size) s (λ t. t ≡ with_list s (behind z size b.places))
relists z size bs b s below long h = go (nat_lt score_places z) refl
  where
    go : (c : Bool) → nat_lt score_places z ≡ c
        → ActsLead (if c then restore_list (last_at key_list) ∷ [] else make_list (replicate (size - score_places) (pos 0)) ∷ []) s
        (λ t. t ≡ with_list s (if c then drop score_places b.places else replicate (size - score_places) (pos 0)))
    go true e =
        let there : selected s (last_at key_list) ≡ Some (ints (drop score_places b.places)) = selects_last s bs b key_list (ints (drop score_places b.places)) below (entry_list b (long e)) in
        lead_one (λ t. t ≡ with_list s (drop score_places b.places)) (restore_list (last_at key_list)) s (h, drop score_places b.places, there)
        (ap (λ o. with_some_list s (some_ints o)) there ∙ ap (with_some_list s) (ints_are (drop score_places b.places)))
    go false e = lead_one (λ t. t ≡ with_list s (replicate (size - score_places) (pos 0))) (make_list (replicate (size - score_places) (pos 0))) s h refl

-- ---- the places that are scores

loads_write : (n i : ℕ) (bs : List Kept) (b : Kept) (s : State) → IsBelow (bs ++ (b ∷ [])) s → i + n ≤ score_places → i + n ≤ length b.places → Writes s.scores s.keys i (take n (drop i b.places)) (load_acts i n)
loads_write zero i bs b s below h l = tt
loads_write (suc n) i bs b s below h l =
    subst (λ (zs : List ℤ). Writes s.scores s.keys i (take (suc n) zs) (load_acts i (suc n))) (sym (drop-cons b.places i (pos 0) (omega arith))) (
      (λ t e f r.
          let x : i < score_places = omega arith in
          let y : i < length b.places = omega arith in
          (r, ap (with_taken t i) (selects_last t bs b (decimal i) (int (slice_index_or b.places i (pos 0))) (ap (λ g. g in_rest key_below) f ∙ below) (entry_place b i x y)))),
      loads_write n (suc i) bs b s below (omega arith) (omega arith),
    )

-- ---- the results

takes_write : (zs : List ℤ) (i k : ℕ) (s : State) → AreHanded k zs s → Writes s.scores s.keys i zs (take_acts (length zs) i k)
takes_write [] i k s h = tt
takes_write (z ∷ zs) i k s h = ((λ t e f r. (r, ap (with_kept t i) (ap (λ g. g (result_score k)) e ∙ h.0))), takes_write zs (suc i) (suc k) s h.1)

-- ---- the places that stand then

-- what a call has kept of a frame of this size
module _ (z size : ℕ) (ps : List ℤ) (kept : IsKept z size ps) (low : score_places ≤ size) (room : z ≤ size) where
  enough : z ≤ length ps
  enough = go (nat_lt score_places z) refl
    where
      go : (c : Bool) → nat_lt score_places z ≡ c → z ≤ length ps
      go true e = let l : length ps ≡ size = kept.high e in omega arith
      go false e = kept.low e

  has_list : nat_lt score_places z ≡ true → nat_lt score_places (length ps) ≡ true
  has_list e = let h : score_places < z = ltb-true score_places z e in let l : length ps ≡ size = kept.high e in lt-ltb score_places (length ps) (omega arith)

  behind_length : length (behind z size ps) ≡ size - score_places
  behind_length = go (nat_lt score_places z) refl
    where
      go : (c : Bool) → nat_lt score_places z ≡ c → length (if c then drop score_places ps else replicate (size - score_places) (pos 0)) ≡ size - score_places
      go true e = length-drop score_places ps ∙ ap (λ k. k - score_places) (kept.high e)
      go false e = length-replicate (size - score_places) (pos 0)

  -- those that were in use, and anything
  fronted : (old : List ℤ) → length old ≡ score_places → (junk : List ℤ) × (take (saved z) ps ++ (drop (saved z) old ++ behind z size ps) ≡ take z ps ++ junk)
  fronted old full = go (nat_lt score_places z) refl
    where
      go : (c : Bool) → nat_lt score_places z ≡ c → (junk : List ℤ) × (take (saved z) ps ++ (drop (saved z) old ++ (if c then drop score_places ps else replicate (size - score_places) (pos 0))) ≡ take z ps ++ junk)
      go true e =
          let h : score_places < z = ltb-true score_places z e in
          let m : saved z ≡ 128 = min-eq_right (omega arith) in
          let none : drop 128 old ≡ [] = drop_all 128 old (omega arith) in
          (drop z ps, ap (λ n. take n ps ++ (drop n old ++ drop 128 ps)) m ∙ ap (λ l. take 128 ps ++ (l ++ drop 128 ps)) none ∙ take-append-drop 128 ps ∙ sym (take-append-drop z ps))
      go false e =
          let h : z ≤ score_places = ltb-false score_places z e in
          let m : saved z ≡ z = min-eq_left h in
          (drop z old ++ replicate (size - score_places) (pos 0), ap (λ n. take n ps ++ (drop n old ++ replicate (size - score_places) (pos 0))) m)

-- ---- the acts

loads : (n : ℕ) (bs : List Kept) (b : Kept) (s : State) (old back : List ℤ) → IsBelow (bs ++ (b ∷ [])) s → s.places ≡ old ++ back → n ≤ length old → n ≤ score_places → n ≤ length b.places
    → ActsLead (load_acts 0 n) s (λ t. t ≡ with_places s (take n b.places ++ (drop n old ++ back)))
loads n bs b s old back below e h k l =
    let parts : s.places ≡ take n old ++ (drop n old ++ back) = e ∙ ap (λ m. m ++ back) (sym (take-append-drop n old)) ∙ append_assoc (take n old) (drop n old) back in
    let x : length (take n old) ≡ n = length-take-le n old h in
    let y : length (take n b.places) ≡ n = length-take-le n b.places l in
    written (load_acts 0 n) (take n b.places) 0 s [] (take n old) (drop n old ++ back) (loads_write n 0 bs b s below (omega arith) (omega arith)) parts refl (x ∙ sym y)

takes : (z : ℕ) (zs : List ℤ) (s : State) (front junk : List ℤ) → AreHanded 0 zs s → s.places ≡ front ++ junk → length front ≡ z → length zs ≤ length junk
    → ActsLead (take_acts (length zs) z 0) s (λ t. t ≡ with_places s (front ++ (zs ++ drop (length zs) junk)))
takes z zs s front junk handed e f l =
    written (take_acts (length zs) z 0) zs z s front (take (length zs) junk) (drop (length zs) junk) (takes_write zs z 0 s handed) (e ∙ ap (λ m. front ++ m) (sym (take-append-drop (length zs) junk))) f (length-take-le (length zs) junk l)

-- the entry is gone, and a piece is next
record Dropped (bs : List Kept) (next : PieceId) (s t : State) : Type 0 where
  places : t.places ≡ s.places
  scores : t.scores ≡ s.scores
  below : IsBelow bs t
  named : t.keys in_rest key_next ≡ Some (id_tree next)
  keys : SameKeys s t

drops : (bs : List Kept) (b : Kept) (next : PieceId) (s : State) → IsBelow (bs ++ (b ∷ [])) s → ActsLead (erase_site last_site ∷ next_acts next) s (Dropped bs next s)
drops bs b next s below =
    let t : State = after_act (erase_site last_site) s in
    let w : Written in_rest key_below (below_tree bs) s t = erase_writes s last_site (below_tree bs) (ap (λ o. remove_under o last_site.parts) below ∙ below_dropped bs b) in
    lead_first (Dropped bs next s) (erase_site last_site) (next_acts next) s tt
    (lead_as (Written in_rest key_next (id_tree next) t) (Dropped bs next s) (next_acts next) t (named next t)
    (λ u x. record {
      places = x.places ∙ w.places;
      scores = x.scores ∙ w.scores;
      below = x.others in_rest key_below refl ∙ w.there;
      named = x.there;
      keys = λ r k e. x.others r k (not_next r k e) ∙ w.others r k (not_below r k e);
    }))

pub frames_are_restored : FramesAreRestored
frames_are_restored z size zs bs b next s below kept handed two room low high =
    let Q : State → Type 0 = Restored z size zs bs b next s in
    let ps : List ℤ = b.places in
    let old : List ℤ = take score_places s.places in
    let back : List ℤ = behind z size ps in
    let n : ℕ = saved z in
    let fits : z ≤ size = omega arith in
    let most : z ≤ length ps = enough z size ps kept low fits in
    let full : length old ≡ score_places = length-take-le score_places s.places high in
    let fewer : (saved z ≤ z) × (saved z ≤ score_places) = (omega arith, omega arith) in
    let listed : length back ≡ size - score_places = behind_length z size ps kept low fits in
    let g = fronted z size ps kept low fits old full in
    let junk : List ℤ = g.0 in
    let front_long : length (take z ps) ≡ z = length-take-le z ps most in
    let size2 : z + length junk ≡ size = sizes n z size (take n ps) (drop n old) back (take z ps) junk g.1 (length-take-le n ps (omega arith)) (length-drop n old ∙ ap (λ k. k - n) full) listed front_long fewer.1 low in
    let ends : List Act = erase_site last_site ∷ next_acts next in
    let list1 : List ℤ = old ++ back in
    let list2 : List ℤ = take n ps ++ (drop n old ++ back) in
    let list3 : List ℤ = take z ps ++ (zs ++ drop (length zs) junk) in
    let s1 : State = with_places s list1 in
    let s2 : State = with_places s list2 in
    let s3 : State = with_places s list3 in
    let shape3 : list3 ≡ (take z ps ++ zs) ++ drop (length zs) junk = sym (append_assoc (take z ps) zs (drop (length zs) junk)) in
    let long3 : length list3 ≡ size = replaced (take z ps) zs junk z size front_long size2 (omega arith) in
    lead_then (λ t. t ≡ s1) Q (restore_list_acts z size) (load_acts 0 n ++ (take_acts (length zs) z 0 ++ ends)) s
    (relists z size bs b s below (has_list z size ps kept low fits) high)
    (λ t q.
    subst (λ u. ActsLead (load_acts 0 n ++ (take_acts (length zs) z 0 ++ ends)) u Q) (sym q)
    (lead_then (λ t. t ≡ s2) Q (load_acts 0 n) (take_acts (length zs) z 0 ++ ends) s1
    (loads n bs b s1 old back below refl (omega arith) fewer.1 (omega arith))
    (λ t q.
    subst (λ u. ActsLead (take_acts (length zs) z 0 ++ ends) u Q) (sym q)
    (lead_then (λ t. t ≡ s3) Q (take_acts (length zs) z 0) ends s2
    (takes z zs s2 (take z ps) junk (handed_same 0 zs s s2 refl handed) g.1 front_long (omega arith))
    (λ t q.
    subst (λ u. ActsLead ends u Q) (sym q)
    (lead_as (Dropped bs next s3) Q ends s3 (drops bs b next s3 below)
    (λ t d. record {
      junk = drop (length zs) junk;
      places = d.places ∙ shape3;
      sized = ap length d.places ∙ long3;
      scores = d.scores;
      named = d.named;
      below = d.below;
      keys = d.keys;
    })))))))
  where
    -- as many places as before
    sizes : (n z size : ℕ) (xs ys back front junk : List ℤ) → xs ++ (ys ++ back) ≡ front ++ junk → length xs ≡ n → length ys ≡ score_places - n → length back ≡ size - score_places → length front ≡ z → n ≤ score_places → score_places ≤ size → z + length junk ≡ size
    sizes n z size xs ys back front junk e f g h k l m =
        let a : length (xs ++ (ys ++ back)) ≡ length (front ++ junk) = ap length e in
        let b : length (xs ++ (ys ++ back)) ≡ length xs + length (ys ++ back) = length-append xs (ys ++ back) in
        let c : length (ys ++ back) ≡ length ys + length back = length-append ys back in
        let d : length (front ++ junk) ≡ length front + length junk = length-append front junk in
        omega arith

    replaced : (front zs junk : List ℤ) (z size : ℕ) → length front ≡ z → z + length junk ≡ size → length zs ≤ length junk → length (front ++ (zs ++ drop (length zs) junk)) ≡ size
    replaced front zs junk z size e f l =
        let a : length (front ++ (zs ++ drop (length zs) junk)) ≡ length front + length (zs ++ drop (length zs) junk) = length-append front (zs ++ drop (length zs) junk) in
        let b : length (zs ++ drop (length zs) junk) ≡ length zs + length (drop (length zs) junk) = length-append zs (drop (length zs) junk) in
        let d : length (drop (length zs) junk) ≡ length junk - length zs = length-drop (length zs) junk in
        omega arith
