-- The outermost frame, the end of a job, and the limit of frames.
use Rattle.std.proofs.Common.{◌≡◌, ℕ, suc, ◌+◌, ◌≤◌, ◌<◌, min, List, [], ◌∷◌, ◌++◌, length, replicate, map, Some, Bool, true, false, refl, sym, ap, ◌∙◌, subst, arith, append_assoc, length-append}
use Rattle.std.specs.Prelude.{ℤ, pos, ◌&&◌, if◌then◌else◌, codes, nat_le}
use Rattle.std.proofs.lemmas.Bool.{le-leb, lt-leb}
use Rattle.std.proofs.lemmas.List.{length-map, length-replicate, set_at}
use Rattle.mc_nbt.specs.Tree.{Tree, int, list, no_items, place, depth}
use Rattle.mc_nbt.proofs.TreeLemmas.{of_items-items}
use Rattle.mc_cmd.specs.World.{or_zero, count}
use Rattle.wm_ast.specs.declared.limit.TheConstants.{MAX_FRAMES}
use Rattle.cc_line.specs.Sight.{in_io, in_rest}
use Rattle.cc_line.specs.Key.{key_state, key_result, key_below, key_next, key_end, score_trap}
use Rattle.cc_line.specs.Place.{scratch}
use Rattle.cc_line.specs.Running.{Kept, bare_entry, entry_tree, below_tree}
use Rattle.cc_line.specs.State.{State, ints, at_key, number_at, with_score, set_under, append_under, selected}
use Rattle.cc_line.specs.Step.{Act, set_spot, load_site, keep_site, set_site, copy_site, append_value_to, Flow, flow, more, run_act, when, stop_when, after_act, run_steps, step_weight, conds_hold}
use Rattle.cc_line.proofs.ActLemmas.{ints_set}
use Rattle.cc_line.proofs.KeyLemmas.{Written, written_none, written_both, set_writes, append_writes, copy_writes}
use Rattle.cc_call.specs.Frames.{below_site, done_piece, base, is_deep, deep_trap, result_site, result_at, result_score, tell_acts}
use Rattle.cc_call.specs.Law.{IsBelow, AreHanded, ActsLead, DepthIsTested, Based, BasesAreMade, Done, JobsAreEnded}
use Rattle.cc_call.proofs.ActLemmas.{lead_none, lead_first, lead_one, lead_then, lead_as}
use Rattle.cc_call.proofs.EntryLemmas.{ints_low, below_added, below_low}
use Rattle.cc_call.proofs.KeyLemmas.{selects_key, not_below, not_state, not_result}
use Rattle.cc_call.proofs.Handing.{handed_same}

-- ---- the outermost frame

pub bases_are_made : BasesAreMade
bases_are_made w s =
    let empty : Tree = list no_items in
    let entry : Tree = bare_entry (done_piece w) 0 in
    let s1 : State = after_act (set_site below_site empty) s in
    let w1 : Written in_rest key_below empty s s1 = set_writes s below_site empty empty refl (omega arith) in
    let w2 : Written in_rest key_below (below_tree (base w ∷ [])) s1 (after_act (append_value_to below_site entry) s1) =
    append_writes s1 below_site entry (below_tree (base w ∷ [])) (ap (λ o. append_under o [] entry) w1.there ∙ below_added [] (base w)) (below_low (base w ∷ [])) in
    lead_first (Based w s) (set_site below_site empty) (append_value_to below_site entry ∷ []) s tt
    (lead_one (Based w s) (append_value_to below_site entry) s1 tt
    (record {
      places = w2.places ∙ w1.places;
      scores = w2.scores ∙ w1.scores;
      below = w2.there;
      named = w2.others in_rest key_next refl ∙ w1.others in_rest key_next refl;
      keys = λ r k n. w2.others r k (not_below r k n) ∙ w1.others r k (not_below r k n);
    }))

-- ---- the job's end

shallow : (zs : List ℤ) → depth (ints zs) ≤ 63
shallow zs = let x = ints_low zs in omega arith

tells : (zs : List ℤ) (k : ℕ) (s : State) (pre old : List ℤ) → AreHanded k zs s → s.keys in_io key_result ≡ Some (ints (pre ++ old)) → length pre ≡ k → length old ≡ length zs
    → ActsLead (tell_acts (length zs) k) s (Written in_io key_result (ints (pre ++ zs)) s)
tells [] k s pre [] h e f g = lead_none (Written in_io key_result (ints (pre ++ [])) s) s (written_none in_io key_result (ints (pre ++ [])) s e)
tells [] k s pre (o ∷ old) h e f g = absurd (omega arith)
tells (z ∷ zs) k s pre [] h e f g = absurd (omega arith)
tells (z ∷ zs) k s pre (o ∷ old) h e f g =
    let P : State → Type 0 = Written in_io key_result (ints (pre ++ (z ∷ zs))) s in
    let a : Act = keep_site (result_at k) (result_score k) in
    let t : State = after_act (keep_site (result_at k) (result_score k)) s in
    let l : length (pre ++ (o ∷ old)) ≡ length pre + suc (length old) = length-append pre (o ∷ old) in
    let r : k < length (pre ++ (o ∷ old)) = omega arith in
    let put : set_under (s.keys in_io key_result) (place (pos k) ∷ []) (int (or_zero (s.scores (result_score k)))) ≡ Some (ints ((pre ++ (z ∷ [])) ++ old)) =
    ap (λ q. set_under q (place (pos k) ∷ []) (int (or_zero (s.scores (result_score k))))) e
    ∙ ap (λ q. set_under (Some (ints (pre ++ (o ∷ old)))) (place (pos k) ∷ []) (int (or_zero q))) h.0
    ∙ ints_set (pre ++ (o ∷ old)) k z r
    ∙ ap (λ q. Some (ints q)) (set_at pre o old z k f ∙ sym (append_assoc pre (z ∷ []) old)) in
    let w : Written in_io key_result (ints ((pre ++ (z ∷ [])) ++ old)) s t = set_writes s (result_at k) (int (or_zero (s.scores (result_score k)))) (ints ((pre ++ (z ∷ [])) ++ old)) put (shallow ((pre ++ (z ∷ [])) ++ old)) in
    let n : length (pre ++ (z ∷ [])) ≡ length pre + 1 = length-append pre (z ∷ []) in
    let deeper = tells zs (suc k) t (pre ++ (z ∷ [])) old (handed_same (suc k) zs s t w.scores h.1) w.there (omega arith) (omega arith) in
    lead_first P a (tell_acts (length zs) (suc k)) s tt
    (lead_as (Written in_io key_result (ints ((pre ++ (z ∷ [])) ++ zs)) t) P (tell_acts (length zs) (suc k)) t deeper
    (λ u x. subst (λ l. Written in_io key_result (ints l) s u) (append_assoc pre (z ∷ []) zs) (written_both in_io key_result (ints ((pre ++ (z ∷ [])) ++ old)) (ints ((pre ++ (z ∷ [])) ++ zs)) s t u w x)))

pub jobs_are_ended : JobsAreEnded
jobs_are_ended zs end s h two e low =
    let Q : State → Type 0 = Done zs s in
    let empty : List ℤ = replicate (length zs) (pos 0) in
    let s1 : State = after_act (set_site result_site (ints empty)) s in
    let w1 : Written in_io key_result (ints empty) s s1 = set_writes s result_site (ints empty) (ints empty) refl (shallow empty) in
    let last : Act = copy_site (at_key in_io key_state) (at_key in_rest key_end) in
    lead_first Q (set_site result_site (ints empty)) (tell_acts (length zs) 0 ++ (last ∷ [])) s tt
    (lead_then (Written in_io key_result (ints zs) s1) Q (tell_acts (length zs) 0) (last ∷ []) s1
    (tells zs 0 s1 [] empty (handed_same 0 zs s s1 w1.scores h) w1.there refl (length-replicate (length zs) (pos 0)))
    (λ s2 w2.
    let stays : s2.keys in_rest key_end ≡ Some end = w2.others in_rest key_end refl ∙ w1.others in_rest key_end refl ∙ e in
    let w3 : Written in_io key_state end s2 (after_act last s2) = copy_writes s2 (at_key in_io key_state) (selected s2 (at_key in_rest key_end)) end end (selects_key s2 in_rest key_end end stays) refl low in
    lead_one Q last s2 tt
    (record {
      places = w3.places ∙ w2.places ∙ w1.places;
      scores = w3.scores ∙ w2.scores ∙ w1.scores;
      result = w3.others in_io key_result refl ∙ w2.there;
      state = w3.there ∙ sym e;
      keys = λ r k n. w3.others r k (not_state r k n) ∙ w2.others r k (not_result r k n) ∙ w1.others r k (not_result r k n);
    })))

-- ---- the limit of frames

-- the number that a test finds
counted : (bs : List Kept) (s : State) → IsBelow bs s → number_at (selected s below_site) ≡ count (length bs)
counted bs s e =
    ap number_at (selects_key s in_rest key_below (below_tree bs) e)
    ∙ ap (λ l. count (length l)) (of_items-items (map entry_tree bs))
    ∙ ap count (length-map bs entry_tree)

-- where the steps lead, by what the test of the number answers
module _ (s : State) (z : ℤ) where
  abbrev counting : State
  counting = with_score s (codes "#d") z

  abbrev trapping : State
  trapping = with_score counting score_trap (pos deep_trap)

  -- behind the first two of them
  abbrev behind : Flow → Flow
  behind f = more (step_weight (run_act (load_site (codes "#d") below_site))) (more (step_weight (when is_deep (set_spot (scratch score_trap) (pos deep_trap)))) f)

  abbrev ends : Bool → State → Flow
  ends b t = if b then flow true t (step_weight (stop_when is_deep)) else more (step_weight (stop_when is_deep)) (flow false t 0)

  tested : (b : Bool) → conds_hold is_deep counting ≡ b
      → (k : ℕ) × (behind (run_steps (stop_when is_deep ∷ []) (if conds_hold is_deep counting then trapping else counting)) ≡ flow b (if b then trapping else counting) k)
  tested true e = (_, ap (λ c. behind (run_steps (stop_when is_deep ∷ []) (if c then trapping else counting))) e ∙ ap (λ c. behind (ends c trapping)) e)
  tested false e = (_, ap (λ c. behind (run_steps (stop_when is_deep ∷ []) (if c then trapping else counting))) e ∙ ap (λ c. behind (ends c counting)) e)

  -- the number of the frames below
  is_tested : (n : ℕ) (b : Bool) → z ≡ count n → nat_le MAX_FRAMES (min n 2147483647) ≡ b → conds_hold is_deep counting ≡ b
  is_tested n b e f = ap (λ y. conds_hold is_deep (with_score s (codes "#d") y)) e ∙ ap (λ c. c && true) f ∙ same b
    where
      same : (b : Bool) → b && true ≡ b
      same true = refl
      same false = refl

pub depth_is_tested : DepthIsTested
depth_is_tested bs s e =
    let z : ℤ = number_at (selected s below_site) in
    let same : z ≡ count (length bs) = counted bs s e in (
      (tt, λ a. (((tt, tt), λ b. tt), λ c. ((tt, tt), λ d. tt))),
      (λ l.
          let few : min (length bs) 2147483647 < 1024 = omega arith in
          let r = tested s z false (is_tested s z (length bs) false same (lt-leb 1024 (min (length bs) 2147483647) few)) in
          (z, r.0, r.1)),
      (λ l.
          let many : 1024 ≤ min (length bs) 2147483647 = omega arith in
          let r = tested s z true (is_tested s z (length bs) true same (le-leb 1024 (min (length bs) 2147483647) many)) in
          (z, r.0, r.1)),
    )
