-- A call saves its caller's frame.
use Rattle.std.proofs.Common.{◌≡◌, ℕ, zero, suc, ◌+◌, ◌<◌, ◌≤◌, min, List, [], ◌∷◌, ◌++◌, length, take, drop, Some, Bool, true, false, refl, sym, ap, ◌∙◌, subst, arith}
use Rattle.std.specs.Prelude.{ℤ, pos, if◌then◌else◌, nat_lt, slice_index_or}
use Rattle.std.specs.Fmt.{decimal}
use Rattle.std.proofs.Math.Seq.{drop-cons}
use Rattle.std.proofs.Math.Nat.{min-eq_left, min-eq_right}
use Rattle.std.proofs.lemmas.Bool.{ltb-true, ltb-false, lt-ltb, le-ltb}
use Rattle.std.proofs.lemmas.List.{length-take-le}
use Rattle.mc_nbt.specs.Tree.{Tree, int, depth, key, set_at}
use Rattle.mc_cmd.specs.Form.{Text}
use Rattle.cc_line.specs.Sight.{in_rest}
use Rattle.cc_line.specs.Key.{key_below, key_entry, key_next, key_list, PieceId}
use Rattle.cc_line.specs.Place.{score_places}
use Rattle.cc_line.specs.Running.{with_field, with_places, with_rest, bare_entry, entry_tree, below_tree}
use Rattle.cc_line.specs.State.{State, ints, place_at, set_under, append_under, selected, with_set}
use Rattle.cc_line.specs.Step.{Act, place_to_site, set_site, append_site, save_list, after_act}
use Rattle.cc_line.proofs.PlaceLemmas.{take_all}
use Rattle.cc_line.proofs.KeyLemmas.{Written, written_none, written_both, set_writes, append_copy_writes}
use Rattle.cc_call.specs.Frames.{entry_site, entry_at, below_site, saved, kept, save_acts, save_list_acts}
use Rattle.cc_call.specs.Law.{ActsLead, Pushed, FramesArePushed}
use Rattle.cc_call.proofs.ActLemmas.{lead_none, lead_first, lead_one, lead_then, lead_as}
use Rattle.cc_call.proofs.EntryLemmas.{IsEntry, bare_is, field_is, ints_low, places_are, below_added, below_low}
use Rattle.cc_call.proofs.KeyLemmas.{selects_key, not_below, not_entry}

-- a field of the entry that is being made
field_written : (s : State) (k : Text) (t u : Tree) → IsEntry t → depth u ≤ 3 → s.keys in_rest key_entry ≡ Some t → Written in_rest key_entry (with_field t k u) s (with_set s (entry_at k) u)
field_written s k t u is low e =
    set_writes s (entry_at k) u (with_field t k u) (ap (λ o. set_under o (key k ∷ []) u) e ∙ under t is) (let h = (field_is t k u low is).low in omega arith)
  where
    under : (t : Tree) → IsEntry t → set_under (Some t) (key k ∷ []) u ≡ Some (with_field t k u)
    under t is = subst (λ x. set_at (key k) [] u x ≡ Some (with_field x k u)) (sym is.is) refl

-- places
saves : (n i : ℕ) (s : State) (t : Tree) (zs : List ℤ) → s.places ≡ zs → IsEntry t → s.keys in_rest key_entry ≡ Some t → i + n ≤ length zs
    → ActsLead (save_acts i n) s (Written in_rest key_entry (with_places i (take n (drop i zs)) t) s)
saves zero i s t zs p is e l = lead_none (Written in_rest key_entry t s) s (written_none in_rest key_entry t s e)
saves (suc n) i s t zs p is e l =
    let P : State → Type 0 = Written in_rest key_entry (with_places i (take (suc n) (drop i zs)) t) s in
    let a : Act = place_to_site (entry_at (decimal i)) i in
    let u : Tree = with_field t (decimal i) (int (place_at s i)) in
    let s1 : State = after_act (place_to_site (entry_at (decimal i)) i) s in
    let w : Written in_rest key_entry u s s1 = field_written s (decimal i) t (int (place_at s i)) is (omega arith) e in
    let is1 : IsEntry u = field_is t (decimal i) (int (place_at s i)) (omega arith) is in
    let up : 1 + i ≡ suc i = omega arith in
    let value : place_at s i ≡ slice_index_or zs i (pos 0) = ap (λ l. slice_index_or l i (pos 0)) p in
    let deeper = saves n (suc i) s1 u zs (w.places ∙ p) is1 w.there (omega arith) in
    let same : with_places (suc i) (take n (drop (suc i) zs)) u ≡ with_places i (take (suc n) (drop i zs)) t =
    ap (λ k. with_places k (take n (drop (suc i) zs)) u) (sym up)
    ∙ ap (λ z. with_places (1 + i) (take n (drop (suc i) zs)) (with_field t (decimal i) (int z))) value
    ∙ ap (λ l. with_places i (take (suc n) l) t) (sym (drop-cons zs i (pos 0) (omega arith))) in
    let r : i < length s.places = let q : length s.places ≡ length zs = ap length p in omega arith in
    lead_first P a (save_acts (suc i) n) s r
    (lead_as (Written in_rest key_entry (with_places (suc i) (take n (drop (suc i) zs)) u) s1) P (save_acts (suc i) n) s1 deeper
    (λ v x. subst (λ y. Written in_rest key_entry y s v) same (written_both in_rest key_entry u (with_places (suc i) (take n (drop (suc i) zs)) u) s s1 v w x)))

-- the further places
saves_list : (z : ℕ) (s : State) (t : Tree) (zs : List ℤ) → s.places ≡ zs → IsEntry t → s.keys in_rest key_entry ≡ Some t
    → ActsLead (save_list_acts z) s (Written in_rest key_entry (if nat_lt score_places z then with_field t key_list (ints (drop score_places zs)) else t) s)
saves_list z s t zs p is e = go (nat_lt score_places z)
  where
    go : (b : Bool) → ActsLead (if b then save_list (entry_at key_list) ∷ [] else []) s (Written in_rest key_entry (if b then with_field t key_list (ints (drop score_places zs)) else t) s)
    go true =
        lead_one (Written in_rest key_entry (with_field t key_list (ints (drop score_places zs))) s) (save_list (entry_at key_list)) s tt
        (subst (λ l. Written in_rest key_entry (with_field t key_list (ints (drop score_places l))) s (after_act (save_list (entry_at key_list)) s)) p
        (field_written s key_list t (ints (drop score_places s.places)) is (ints_low (drop score_places s.places)) e))
    go false = lead_none (Written in_rest key_entry t s) s (written_none in_rest key_entry t s e)

-- these make the entry of what is kept
whole_entry : (z : ℕ) (follows : PieceId) (zs : List ℤ) → z ≤ length zs
    → (if nat_lt score_places z then with_field (with_places 0 (take (saved z) zs) (bare_entry follows (saved z))) key_list (ints (drop score_places zs)) else with_places 0 (take (saved z) zs) (bare_entry follows (saved z)))
    ≡ entry_tree (kept z follows zs)
whole_entry z follows zs l = go (nat_lt score_places z) refl
  where
    go : (b : Bool) → nat_lt score_places z ≡ b
        → (if b then with_field (with_places 0 (take (saved z) zs) (bare_entry follows (saved z))) key_list (ints (drop score_places zs)) else with_places 0 (take (saved z) zs) (bare_entry follows (saved z)))
        ≡ with_rest (if b then zs else take z zs) (with_places 0 (take score_places (if b then zs else take z zs)) (bare_entry follows (min (length (if b then zs else take z zs)) score_places)))
    go true e =
        let h : score_places < z = ltb-true score_places z e in
        let m : saved z ≡ 128 = min-eq_right (omega arith) in
        let k : min (length zs) 128 ≡ 128 = min-eq_right (omega arith) in
        ap (λ n. with_field (with_places 0 (take n zs) (bare_entry follows n)) key_list (ints (drop score_places zs))) m
        ∙ ap (λ n. with_field (with_places 0 (take 128 zs) (bare_entry follows n)) key_list (ints (drop score_places zs))) (sym k)
        ∙ ap (λ b. if b then with_field (with_places 0 (take 128 zs) (bare_entry follows (min (length zs) 128))) key_list (ints (drop score_places zs)) else with_places 0 (take 128 zs) (bare_entry follows (min (length zs) 128)))
        (sym (lt-ltb score_places (length zs) (omega arith)))
    go false e =
        let h : z ≤ score_places = ltb-false score_places z e in
        let m : saved z ≡ z = min-eq_left h in
        let n : length (take z zs) ≡ z = length-take-le z zs l in
        let all : take 128 (take z zs) ≡ take z zs = take_all 128 (take z zs) (omega arith) in
        let k : min (length (take z zs)) 128 ≡ z = min-eq_left (omega arith) ∙ n in
        ap (λ n. with_places 0 (take n zs) (bare_entry follows n)) m
        ∙ ap (λ n. with_places 0 (take z zs) (bare_entry follows n)) (sym k)
        ∙ ap (λ ps. with_places 0 ps (bare_entry follows (min (length (take z zs)) 128))) (sym all)
        ∙ ap (λ b. if b then with_field (with_places 0 (take 128 (take z zs)) (bare_entry follows (min (length (take z zs)) 128))) key_list (ints (drop score_places (take z zs))) else with_places 0 (take 128 (take z zs)) (bare_entry follows (min (length (take z zs)) 128)))
        (sym (le-ltb score_places (length (take z zs)) (omega arith)))

pub frames_are_pushed : FramesArePushed
frames_are_pushed z follows bs s l h below =
    let Q : State → Type 0 = Pushed z follows bs s in
    let zs : List ℤ = s.places in
    let bare : Tree = bare_entry follows (saved z) in
    let few : saved z ≤ z = omega arith in
    let firsts : Tree = with_places 0 (take (saved z) zs) bare in
    let entry : Tree = entry_tree (kept z follows zs) in
    let s1 : State = after_act (set_site entry_site bare) s in
    let w1 : Written in_rest key_entry bare s s1 = set_writes s entry_site bare bare refl (let x = (bare_is follows (saved z)).low in omega arith) in
    let is1 : IsEntry bare = bare_is follows (saved z) in
    let is2 : IsEntry firsts = places_are (take (saved z) zs) 0 bare is1 in
    lead_first Q (set_site entry_site bare) (save_acts 0 (saved z) ++ (save_list_acts z ++ (append_site below_site entry_site ∷ []))) s tt
    (lead_then (Written in_rest key_entry firsts s1) Q (save_acts 0 (saved z)) (save_list_acts z ++ (append_site below_site entry_site ∷ [])) s1
    (saves (saved z) 0 s1 bare zs w1.places is1 w1.there (omega arith))
    (λ s2 w2.
    lead_then (Written in_rest key_entry (if nat_lt score_places z then with_field firsts key_list (ints (drop score_places zs)) else firsts) s2) Q (save_list_acts z) (append_site below_site entry_site ∷ []) s2
    (saves_list z s2 firsts zs (w2.places ∙ w1.places) is2 w2.there)
    (λ s3 w3.
    let there : s3.keys in_rest key_entry ≡ Some entry = w3.there ∙ ap Some (whole_entry z follows zs l) in
    let stays : s3.keys in_rest key_below ≡ Some (below_tree bs) = w3.others in_rest key_below refl ∙ w2.others in_rest key_below refl ∙ w1.others in_rest key_below refl ∙ below in
    let w4 : Written in_rest key_below (below_tree (bs ++ (kept z follows zs ∷ []))) s3 (after_act (append_site below_site entry_site) s3) =
    append_copy_writes s3 below_site (selected s3 entry_site) entry (below_tree (bs ++ (kept z follows zs ∷ []))) (selects_key s3 in_rest key_entry entry there)
    (ap (λ o. append_under o [] entry) stays ∙ below_added bs (kept z follows zs)) (below_low (bs ++ (kept z follows zs ∷ []))) in
    lead_one Q (append_site below_site entry_site) s3 tt
    (record {
      places = w4.places ∙ w3.places ∙ w2.places ∙ w1.places;
      scores = w4.scores ∙ w3.scores ∙ w2.scores ∙ w1.scores;
      below = w4.there;
      named = w4.others in_rest key_next refl ∙ w3.others in_rest key_next refl ∙ w2.others in_rest key_next refl ∙ w1.others in_rest key_next refl;
      keys = λ r k n. w4.others r k (not_below r k n) ∙ w3.others r k (not_entry r k n) ∙ w2.others r k (not_entry r k n) ∙ w1.others r k (not_entry r k n);
    }))))
