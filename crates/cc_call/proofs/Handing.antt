-- A return hands its results over, and makes the piece the next one that follows the call.
use Rattle.std.proofs.Common.{◌≡◌, ℕ, zero, suc, ◌+◌, ◌-◌, ◌≤◌, ◌<◌, List, [], ◌∷◌, ◌++◌, length, take, drop, Some, false, refl, sym, ap, ◌∙◌, subst, arith}
use Rattle.std.specs.Prelude.{ℤ, pos, if◌then◌else◌, codes, slice_index_or}
use Rattle.std.proofs.Math.Seq.{drop-cons}
use Rattle.mc_cmd.specs.Form.{Text}
use Rattle.cc_line.specs.Sight.{in_rest}
use Rattle.cc_line.specs.Key.{key_below, key_next, score_trap, is_work, id_tree}
use Rattle.cc_line.specs.State.{State, place_at, with_score, selected}
use Rattle.cc_line.specs.Step.{load_place, copy_site, after_act}
use Rattle.cc_line.proofs.CoreLemmas.{work_apart}
use Rattle.cc_line.proofs.KeyLemmas.{Written, copy_writes}
use Rattle.cc_call.specs.Frames.{last_at, next_site, result_score, hand_acts}
use Rattle.cc_call.specs.Law.{IsBelow, AreHanded, ActsLead, Handed, ResultsAreHanded}
use Rattle.cc_call.proofs.ActLemmas.{lead_none, lead_first, lead_one, lead_then}
use Rattle.cc_call.proofs.EntryLemmas.{entry_follows}
use Rattle.cc_call.proofs.KeyLemmas.{selects_last, id_low, not_next}

-- the results stand in their scores, and nothing else is changed but scratch scores
record Loaded (zs : List ℤ) (s t : State) : Type 0 where
  places : t.places ≡ s.places
  keys : t.keys ≡ s.keys
  results : AreHanded 0 zs t
  scores : (h : Text) → is_work h ≡ false → t.scores h ≡ s.scores h

loads : (n i : ℕ) (s : State) → n ≤ 2 → i + n ≤ length s.places → ActsLead (hand_acts n i 0) s (Loaded (take n (drop i s.places)) s)
loads zero i s h l = lead_none (Loaded [] s) s (record { places = refl; keys = refl; results = tt; scores = λ g e. refl })
loads (suc zero) i s h l =
    let z : ℤ = place_at s i in
    let front : drop i s.places ≡ slice_index_or s.places i (pos 0) ∷ drop (suc i) s.places = drop-cons s.places i (pos 0) (omega arith) in
    let P : State → Type 0 = Loaded (take 1 (drop i s.places)) s in
    let r : i < length s.places = omega arith in
    lead_one P (load_place (codes "#r") i) s r
    (subst (λ l. Loaded (take 1 l) s (with_score s (codes "#r") z)) (sym front)
    (record {
      places = refl;
      keys = refl;
      results = (refl, tt);
      scores = λ g e. ap (λ b. if b then Some z else s.scores g) (work_apart (codes "#r") g refl e);
    }))
loads (suc (suc zero)) i s h l =
    let z : ℤ = place_at s i in
    let y : ℤ = place_at s (suc i) in
    let front : drop i s.places ≡ slice_index_or s.places i (pos 0) ∷ drop (suc i) s.places = drop-cons s.places i (pos 0) (omega arith) in
    let next : drop (suc i) s.places ≡ slice_index_or s.places (suc i) (pos 0) ∷ drop (suc (suc i)) s.places = drop-cons s.places (suc i) (pos 0) (omega arith) in
    let P : State → Type 0 = Loaded (take 2 (drop i s.places)) s in
    let s1 : State = with_score s (codes "#r") z in
    let r0 : i < length s.places = omega arith in
    let r1 : suc i < length s.places = omega arith in
    lead_first P (load_place (codes "#r") i) (load_place (codes "#q") (suc i) ∷ []) s r0
    (lead_one P (load_place (codes "#q") (suc i)) s1 r1
    (subst (λ l. Loaded (take 2 l) s (with_score s1 (codes "#q") y)) (sym (front ∙ ap (λ l. z ∷ l) next))
    (record {
      places = refl;
      keys = refl;
      results = (refl, (refl, tt));
      scores = λ g e. ap (λ b. if b then Some y else s1.scores g) (work_apart (codes "#q") g refl e) ∙ ap (λ b. if b then Some z else s.scores g) (work_apart (codes "#r") g refl e);
    })))
loads (suc (suc (suc n))) i s h l = absurd (omega arith)

pub handed_same : (k : ℕ) (zs : List ℤ) (s t : State) → t.scores ≡ s.scores → AreHanded k zs s → AreHanded k zs t
handed_same k [] s t e h = tt
handed_same k (z ∷ zs) s t e h = (ap (λ f. f (result_score k)) e ∙ h.0, handed_same (suc k) zs s t e h.1)

pub results_are_handed : ResultsAreHanded
results_are_handed n h bs b s two low high below =
    let zs : List ℤ = take n (drop (h - n) s.places) in
    let Q : State → Type 0 = Handed zs b.follows s in
    lead_then (Loaded zs s) Q (hand_acts n (h - n) 0) (copy_site next_site (last_at (codes "p")) ∷ []) s (loads n (h - n) s two (omega arith))
    (λ t x.
    let stays : IsBelow (bs ++ (b ∷ [])) t = ap (λ f. f in_rest key_below) x.keys ∙ below in
    let w : Written in_rest key_next (id_tree b.follows) t (after_act (copy_site next_site (last_at (codes "p"))) t) =
    copy_writes t next_site (selected t (last_at (codes "p"))) (id_tree b.follows) (id_tree b.follows) (selects_last t bs b (codes "p") (id_tree b.follows) stays (entry_follows b)) refl (id_low b.follows) in
    lead_one Q (copy_site next_site (last_at (codes "p"))) t tt
    (record {
      places = w.places ∙ x.places;
      results = handed_same 0 zs t (after_act (copy_site next_site (last_at (codes "p"))) t) w.scores x.results;
      named = w.there;
      below = w.others in_rest key_below refl ∙ ap (λ f. f in_rest key_below) x.keys;
      keys = λ r k e. w.others r k (not_next r k e) ∙ ap (λ f. f r k) x.keys;
      trap = ap (λ f. f score_trap) w.scores ∙ x.scores score_trap refl;
      scores = λ g e. ap (λ f. f g) w.scores ∙ x.scores g e;
    }))
