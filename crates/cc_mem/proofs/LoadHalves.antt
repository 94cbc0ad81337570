-- Loads of two bytes: within a word, or of its last byte and the first one of the next word.
use Rattle.std.proofs.Common.{◌≡◌, ℕ, ◌-◌, ◌^◌, ◌<◌, ◌≤◌, List, [], ◌∷◌, ◌++◌, length, Some, true, false, refl, sym, ap, ◌∙◌, arith, inl, inr, ⊎_elim}
use Rattle.std.specs.Prelude.{ℤ, pos, ◌&&◌, codes}
use Rattle.std.specs.Int.{w16, w32, cast_signed}
use Rattle.std.proofs.lemmas.Bool.{cases_eq, cases_lt}
use Rattle.mc_cmd.specs.Form.{Text}
use Rattle.mc_cmd.specs.Command.{Op, subtract, add, multiply, divide, remainder, exactly, from}
use Rattle.mc_cmd.specs.World.{some_is_in}
use Rattle.wm_ast.specs.Integer.{extend_s}
use Rattle.cc_line.specs.Key.{score_trap, scale_of}
use Rattle.cc_line.specs.State.{State, with_score}
use Rattle.cc_line.specs.Step.{Step, run_act, when, holds, in_range, combine, conds_hold}
use Rattle.cc_line.specs.Core.{Straight}
use Rattle.cc_line.specs.Item.{call_when, Items, no_more, first, join, steps_items}
use Rattle.cc_line.proofs.CoreLemmas.{straight_none, straight_append}
use Rattle.cc_line.proofs.RunLemmas.{Leads, leads_join, straight_leads, called_leads, uncalled_leads}
use Rattle.cc_page.specs.Pages.{signed_word, word_at, next_page, next_place, part_of, glued}
use Rattle.cc_page.proofs.Scores.{parts_by_scores}
use Rattle.cc_mem.specs.Standing.{stem_byte, stem_half}
use Rattle.cc_mem.specs.Address.{bounds_trap}
use Rattle.cc_mem.specs.Load.{at_u, at_d, scale, word_item, next_items, next_item, is_last, half_over_items, half_over_s_items, load16u_items, load16s_items}
use Rattle.cc_mem.proofs.Near.{Near, near_then, near_score, spares_then, At, at_near}
use Rattle.cc_mem.proofs.Fills.{straight_act, straight_taken, straight_left, combine_is}
use Rattle.cc_mem.proofs.Words.{number_in, word_leads, word_found}
use Rattle.cc_mem.proofs.Next.{next_scores, not_exactly, next_found}
use Rattle.cc_mem.proofs.LoadSums.{SignedHalf, signed_half, unsigned_half, OverHalf, over_half, glued_low, unsigned_over, low_stays, high_turns}
use Rattle.cc_mem.proofs.Accesses.{Goes, near_goes, goes_then, Reads, reads_so, Misses, misses_so, call_leads, only, any_near}
use Rattle.cc_mem.proofs.LoadWords.{Lacks, next_lacks, two_scores, word_scores}
use Rattle.cc_mem.proofs.LoadBytes.{part_items, Parts, part_any, part_is}

-- ---- over two words

abbrev five_steps : List Step
five_steps =
    run_act (combine at_u divide (scale 3))
    ∷ (run_act (combine at_u remainder (scale 1))
    ∷ (run_act (combine at_d remainder (scale 1)) ∷ (run_act (combine at_d multiply (scale 1)) ∷ (run_act (combine at_u add at_d) ∷ []))))

abbrev sign_steps : List Step
sign_steps = when (holds (in_range at_u (from (pos 32768))) ∷ []) (combine at_u subtract (scale 2)) ∷ []

-- a word and the next one, and steps on them
abbrev over_items : List Step → Items
over_items xs = first word_item (first next_item (steps_items xs))

module _ (ps : List (List ℕ)) (page i m n : ℕ) (x y : ℤ) (s : State) (a : At ps page x y s) (eu : s.scores (codes "#u") ≡ Some (signed_word m)) (ed : s.scores (codes "#d") ≡ Some (signed_word n)) (h : OverHalf m n) where
  abbrev cut : State
  cut = with_score s (codes "#u") h.quotient

  abbrev lowered : State
  lowered = with_score cut (codes "#u") h.low

  abbrev second : State
  second = with_score lowered (codes "#d") h.high

  abbrev raised : State
  raised = with_score second (codes "#d") h.raised

  abbrev halved : State
  halved = with_score raised (codes "#u") (pos (glued m n 3 2))

  halves : Straight five_steps s halved
  halves =
      let b1 = a.constants.bytes 1 (omega arith) in
      let b3 = a.constants.bytes 3 (omega arith) in
      straight_act (combine at_u divide (scale 3)) _ s cut halved (tt, tt) (combine_is s (codes "#u") (scale_of stem_byte 3) divide (signed_word m) (pos (256 ^ 3)) h.quotient eu b3 h.divides)
      (straight_act (combine at_u remainder (scale 1)) _ cut lowered halved (tt, tt) (combine_is cut (codes "#u") (scale_of stem_byte 1) remainder h.quotient (pos (256 ^ 1)) h.low refl b1 h.rests)
      (straight_act (combine at_d remainder (scale 1)) _ lowered second halved (tt, tt) (combine_is lowered (codes "#d") (scale_of stem_byte 1) remainder (signed_word n) (pos (256 ^ 1)) h.high ed b1 h.cuts)
      (straight_act (combine at_d multiply (scale 1)) _ second raised halved (tt, tt) (combine_is second (codes "#d") (scale_of stem_byte 1) multiply h.high (pos (256 ^ 1)) h.raised refl b1 h.raises)
      (straight_act (combine at_u add at_d) [] raised halved halved (tt, tt) (combine_is raised (codes "#u") (codes "#d") add h.low h.raised (pos (glued m n 3 2)) refl refl h.adds)
      (straight_none halved)))))

  halves_near : Near two_scores s halved
  halves_near =
      near_then two_scores s cut halved (near_score two_scores s (codes "#u") h.quotient refl)
      (near_then two_scores cut lowered halved (near_score two_scores cut (codes "#u") h.low refl)
      (near_then two_scores lowered second halved (near_score two_scores lowered (codes "#d") h.high refl)
      (near_then two_scores second raised halved (near_score two_scores second (codes "#d") h.raised refl)
      (near_score two_scores raised (codes "#u") (pos (glued m n 3 2)) refl))))

  -- with the sign
  abbrev Signs : Type 0
  Signs = (t : State) × Straight sign_steps halved t × (t.scores (codes "#u") ≡ Some (cast_signed w32 (extend_s w16 w32 (glued m n 3 2)))) × Near two_scores s t

  signs : Signs
  signs = ⊎_elim low high (cases_lt (glued m n 3 2) 32768)
    where
      low : glued m n 3 2 < 32768 → Signs
      low l =
          let e = low_stays (glued m n 3 2) l in
          let f : conds_hold (holds (in_range at_u (from (pos 32768))) ∷ []) halved ≡ false = ap (λ b. b && true) e.0 in (
            halved,
            straight_left (holds (in_range at_u (from (pos 32768))) ∷ []) (combine at_u subtract (scale 2)) [] halved halved (tt, tt) f (straight_none halved),
            ap Some (sym e.1),
            halves_near,
          )

      high : 32768 ≤ glued m n 3 2 → Signs
      high l =
          let e = high_turns (glued m n 3 2) l (glued_low m n) in
          let z : ℤ = cast_signed w32 (extend_s w16 w32 (glued m n 3 2)) in
          let t : State = with_score halved (codes "#u") z in
          let f : conds_hold (holds (in_range at_u (from (pos 32768))) ∷ []) halved ≡ true = ap (λ b. b && true) e.0 in (
            t,
            straight_taken (holds (in_range at_u (from (pos 32768))) ∷ []) (combine at_u subtract (scale 2)) [] halved t t (tt, tt) (tt, tt) f
                (combine_is halved (codes "#u") (scale_of stem_byte 2) subtract (pos (glued m n 3 2)) (pos (256 ^ 2)) z refl (a.constants.bytes 2 (omega arith)) e.1) (straight_none t),
            refl,
            near_then two_scores s halved t halves_near (near_score two_scores halved (codes "#u") z refl),
          )

module _ (ps : List (List ℕ)) (page i m n : ℕ) (y : ℤ) (s : State) (a : At ps page (pos i) y s) (ei : s.scores (codes "#i") ≡ Some (pos i)) (li : i < 16384) (w : word_at ps page i ≡ Some m) (hm : m < 4294967296)
    (wn : word_at ps (next_page page i) (next_place i) ≡ Some n) (hn : n < 4294967296) (there : next_page page i < length ps) where
  abbrev worded : State
  worded = with_score s (codes "#u") (signed_word m)

  word_near : Near word_scores s worded
  word_near = near_score word_scores s (codes "#u") (signed_word m) refl

  worded_at : At ps page (pos i) y worded
  worded_at = at_near word_scores ps page (pos i) y s worded refl a word_near

  -- both words loaded
  record Loads (t : State) : Type 0 where
    leads : Leads (first word_item (first next_item no_more)) s t
    goes : Goes ps page (pos i) y s t
    first_word : t.scores (codes "#u") ≡ Some (signed_word m)
    second_word : t.scores (codes "#d") ≡ Some (signed_word n)
    trap : t.scores score_trap ≡ s.scores score_trap

  loads : (t : State) × Loads t
  loads =
      let f = next_found ps page i (pos i) y worded worded_at ei li there in
      let same : f.0 ≡ n = let q : Some f.0 ≡ Some n = sym f.1 ∙ wn in cc in (
        f.3,
        record {
          leads = leads_join (first word_item no_more) (first next_item no_more) s worded f.3 (word_found ps page i m y s a w) (call_leads (codes "h_mem_next") next_items worded f.3 f.4.leads);
          goes = goes_then ps page (pos i) y (pos i) y s worded f.3 (near_goes word_scores ps page (pos i) y s worded refl a word_near) (near_goes next_scores ps page (pos i) y worded f.3 refl worded_at f.4.near);
          first_word = f.4.near.scores (codes "#u") refl;
          second_word = f.4.word ∙ ap (λ k. Some (signed_word k)) same;
          trap = f.4.near.scores score_trap refl;
        },
      )

  -- and steps behind them
  loads_then : (xs : List Step) (z : ℤ) (u : State) → Straight xs loads.0 u → u.scores (codes "#u") ≡ Some z → Near two_scores loads.0 u → Reads (over_items xs) ps z s u
  loads_then xs z u f e k =
      let l : Loads loads.0 = loads.1 in
      reads_so (over_items xs) ps z page (pos i) y s u
      (leads_join (first word_item (first next_item no_more)) (steps_items xs) s loads.0 u l.leads (straight_leads xs loads.0 u f))
      e (k.scores score_trap refl ∙ l.trap)
      (goes_then ps page (pos i) y (pos i) y s loads.0 u l.goes (near_goes two_scores ps page (pos i) y loads.0 u refl l.goes.at k))

  half_over_reads : (u : State) × Reads half_over_items ps (cast_signed w32 (glued m n 3 2)) s u
  half_over_reads =
      let l : Loads loads.0 = loads.1 in
      let h : OverHalf m n = over_half m n hm hn in
      let u : State = halved ps page i m n (pos i) y loads.0 l.goes.at l.first_word l.second_word h in (
        u,
        loads_then five_steps (cast_signed w32 (glued m n 3 2)) u (halves ps page i m n (pos i) y loads.0 l.goes.at l.first_word l.second_word h)
            (ap Some (sym (unsigned_over m n))) (halves_near ps page i m n (pos i) y loads.0 l.goes.at l.first_word l.second_word h),
      )

  half_over_s_reads : (u : State) × Reads half_over_s_items ps (cast_signed w32 (extend_s w16 w32 (glued m n 3 2))) s u
  half_over_s_reads =
      let l : Loads loads.0 = loads.1 in
      let h : OverHalf m n = over_half m n hm hn in
      let d = signs ps page i m n (pos i) y loads.0 l.goes.at l.first_word l.second_word h in
      let f = straight_append five_steps sign_steps loads.0 (halved ps page i m n (pos i) y loads.0 l.goes.at l.first_word l.second_word h) d.0
      (halves ps page i m n (pos i) y loads.0 l.goes.at l.first_word l.second_word h) d.1 in
      (d.0, loads_then (five_steps ++ sign_steps) (cast_signed w32 (extend_s w16 w32 (glued m n 3 2))) d.0 f d.2 d.3)

-- where the next word isn't there, or a trap is recorded
over_misses : (xs : List Step) → only two_scores xs ≡ true → (ps : List (List ℕ)) (page i : ℕ) (x y : ℤ) (s : State) → At ps page x y s → s.scores (codes "#i") ≡ Some (pos i) → i < 16384 → Lacks ps page i s
    → (u : State) × Misses (over_items xs) ps s u
over_misses xs o ps page i x y s a ei li k =
    let v : State = with_score s (codes "#u") (number_in s (pos page) x) in
    let n : Near word_scores s v = near_score word_scores s (codes "#u") (number_in s (pos page) x) refl in
    let b : At ps page x y v = at_near word_scores ps page x y s v refl a n in
    let f = next_lacks ps page i x y v b ei li k in
    let c : At ps page x y f.0 = at_near (score_trap ∷ next_scores) ps page x y v f.0 refl b f.1.near in
    let d = any_near two_scores xs f.0 o in (
      d.0,
      misses_so (over_items xs) ps page x y s d.0
          (leads_join (first word_item no_more) (first next_item (steps_items xs)) s v d.0 (word_leads ps page x y s a)
          (leads_join (first next_item no_more) (steps_items xs) v f.0 d.0 (call_leads (codes "h_mem_next") next_items v f.0 f.1.leads) (straight_leads xs f.0 d.0 d.1)))
          (d.2.scores score_trap refl ∙ f.1.trap)
          (goes_then ps page x y x y s v d.0 (near_goes word_scores ps page x y s v refl a n)
          (goes_then ps page x y x y v f.0 d.0 (near_goes (score_trap ∷ next_scores) ps page x y v f.0 refl b f.1.near) (near_goes two_scores ps page x y f.0 d.0 refl c d.2))),
    )

-- ---- the one or the other

last_is : (s : State) (r : ℕ) → s.scores (codes "#r") ≡ Some (pos r) → r ≡ 3 → conds_hold is_last s ≡ true
last_is s r e z = ap (λ o. some_is_in (exactly (pos 3)) o && true) (e ∙ ap (λ n. Some (pos n)) z)

last_not : (s : State) (r : ℕ) → s.scores (codes "#r") ≡ Some (pos r) → (r ≡ 3 → ⊥) → conds_hold is_last s ≡ false
last_not s r e z = ap (λ o. some_is_in (exactly (pos 3)) o && true) e ∙ ap (λ b. b && true) (not_exactly 3 r z)

abbrev last_call : Text → Items → Items
last_call g over = first (call_when is_last g over) no_more

module _ (f g : Text) (op : Op) (stem : Text) (op' : Op) (over : Items) (ps : List (List ℕ)) (page i r : ℕ) (s : State) (er : s.scores (codes "#r") ≡ Some (pos r)) (l : r < 4) where
  abbrev part : Items
  part = part_items f op stem op' 2

  abbrev both : Items
  both = join part (last_call g over)

  within_reads : (x z : ℤ) (t : State) → (r ≡ 3 → ⊥) → Parts part ps page x r s t → t.scores (codes "#u") ≡ Some z → Reads both ps z s t
  within_reads x z t n p e =
      reads_so both ps z page x (pos r) s t
      (leads_join part (last_call g over) s t t p.leads (uncalled_leads is_last g over t (tt, tt) (last_not t r (p.scores (codes "#r") refl ∙ er) n)))
      e (p.scores score_trap refl) p.goes

  last_reads : (x z : ℤ) (t u : State) → r ≡ 3 → Parts part ps page x r s t → Reads over ps z t u → Reads both ps z s u
  last_reads x z t u n p k = record {
    leads = leads_join part (last_call g over) s t u p.leads (called_leads is_last g over t u (tt, tt) (last_is t r (p.scores (codes "#r") refl ∙ er) n) k.leads);
    number = k.number;
    places = k.places ∙ p.goes.places;
    trap = k.trap ∙ p.scores score_trap refl;
    memory = k.memory;
    spares = spares_then s t u p.goes.spares k.spares;
  }

  -- where a trap is recorded, or the next word is wanted and isn't there
  both_miss : (x y : ℤ) → At ps page x y s → s.scores (codes "#i") ≡ Some (pos i) → Lacks ps page i s → ((r ≡ 3 → ⊥) → s.scores score_trap ≡ Some (pos bounds_trap))
      → ((t : State) → At ps page x (pos r) t → t.scores (codes "#i") ≡ Some (pos i) → Lacks ps page i t → (u : State) × Misses over ps t u) → (u : State) × Misses both ps s u
  both_miss x y a ei k c m = ⊎_elim last inner (cases_eq r 3)
    where
      d : (t : State) × Parts part ps page x r s t
      d = part_any f op stem op' 2 ps page r s l x y a er

      p : Parts part ps page x r s d.0
      p = d.1

      lack : Lacks ps page i s → Lacks ps page i d.0
      lack (inl h) = inl (p.scores score_trap refl ∙ h)
      lack (inr h) = inr h

      last : r ≡ 3 → (u : State) × Misses both ps s u
      last n =
          let v = m d.0 p.goes.at (p.scores (codes "#i") refl ∙ ei) (lack k) in (
            v.0,
            record {
              leads = leads_join part (last_call g over) s d.0 v.0 p.leads (called_leads is_last g over d.0 v.0 (tt, tt) (last_is d.0 r (p.scores (codes "#r") refl ∙ er) n) v.1.leads);
              places = v.1.places ∙ p.goes.places;
              trap = v.1.trap;
              memory = v.1.memory;
              spares = spares_then s d.0 v.0 p.goes.spares v.1.spares;
            },
          )

      inner : (r ≡ 3 → ⊥) → (u : State) × Misses both ps s u
      inner n = (
        d.0,
        misses_so both ps page x (pos r) s d.0
            (leads_join part (last_call g over) s d.0 d.0 p.leads (uncalled_leads is_last g over d.0 (tt, tt) (last_not d.0 r (p.scores (codes "#r") refl ∙ er) n)))
            (p.scores score_trap refl ∙ c n) p.goes,
      )

-- ---- all of it

module _ (ps : List (List ℕ)) (page i r m : ℕ) (y : ℤ) (s : State) (a : At ps page (pos i) y s) (ei : s.scores (codes "#i") ≡ Some (pos i)) (er : s.scores (codes "#r") ≡ Some (pos r)) (li : i < 16384) (l : r < 4)
    (w : word_at ps page i ≡ Some m) (hm : m < 4294967296) where
  pub load16u_within : r < 3 → (u : State) × Reads load16u_items ps (cast_signed w32 (part_of m r 2)) s u
  load16u_within k =
      let p = parts_by_scores m r 2 hm l (omega arith) (omega arith) (omega arith) in
      let e = part_is (codes "h_mem_half_u") divide stem_byte remainder 2 ps page r s l i m y (pos (256 ^ r)) (pos (256 ^ 2)) p.0 (pos (part_of m r 2)) a er w refl refl (a.constants.bytes r l) (a.constants.bytes 2 (omega arith)) p.1 p.2 in
      (_, within_reads (codes "h_mem_half_u") (codes "h_mem_load16u") divide stem_byte remainder half_over_items ps page i r s er l (pos i) (cast_signed w32 (part_of m r 2)) _ (λ z. omega arith) e (ap Some (sym (unsigned_half m r))))

  pub load16s_within : r < 3 → (u : State) × Reads load16s_items ps (cast_signed w32 (extend_s w16 w32 (part_of m r 2))) s u
  load16s_within k =
      let p : SignedHalf m r = signed_half m r hm k in
      let e = part_is (codes "h_mem_half_s") multiply stem_half divide 2 ps page r s l i m y (pos (256 ^ (2 - r))) (pos (256 ^ 2)) p.raised (cast_signed w32 (extend_s w16 w32 (part_of m r 2))) a er w refl refl (a.constants.halves r k) (a.constants.bytes 2 (omega arith)) p.multiplies p.divides in
      (_, within_reads (codes "h_mem_half_s") (codes "h_mem_load16s") multiply stem_half divide half_over_s_items ps page i r s er l (pos i) (cast_signed w32 (extend_s w16 w32 (part_of m r 2))) _ (λ z. omega arith) e refl)

  module _ (n : ℕ) (k : r ≡ 3) (hn : n < 4294967296) (wn : word_at ps (next_page page i) (next_place i) ≡ Some n) (there : next_page page i < length ps) where
    pub load16u_over : (u : State) × Reads load16u_items ps (cast_signed w32 (glued m n 3 2)) s u
    load16u_over =
        let d = part_any (codes "h_mem_half_u") divide stem_byte remainder 2 ps page r s l (pos i) y a er in
        let o = half_over_reads ps page i m n (pos r) d.0 d.1.goes.at (d.1.scores (codes "#i") refl ∙ ei) li w hm wn hn there in
        (o.0, last_reads (codes "h_mem_half_u") (codes "h_mem_load16u") divide stem_byte remainder half_over_items ps page i r s er l (pos i) (cast_signed w32 (glued m n 3 2)) d.0 o.0 k d.1 o.1)

    pub load16s_over : (u : State) × Reads load16s_items ps (cast_signed w32 (extend_s w16 w32 (glued m n 3 2))) s u
    load16s_over =
        let d = part_any (codes "h_mem_half_s") multiply stem_half divide 2 ps page r s l (pos i) y a er in
        let o = half_over_s_reads ps page i m n (pos r) d.0 d.1.goes.at (d.1.scores (codes "#i") refl ∙ ei) li w hm wn hn there in
        (o.0, last_reads (codes "h_mem_half_s") (codes "h_mem_load16s") multiply stem_half divide half_over_s_items ps page i r s er l (pos i) (cast_signed w32 (extend_s w16 w32 (glued m n 3 2))) d.0 o.0 k d.1 o.1)

module _ (ps : List (List ℕ)) (page i r : ℕ) (x y : ℤ) (s : State) (a : At ps page x y s) (ei : s.scores (codes "#i") ≡ Some (pos i)) (er : s.scores (codes "#r") ≡ Some (pos r)) (li : i < 16384) (l : r < 4)
    (k : Lacks ps page i s) (c : (r ≡ 3 → ⊥) → s.scores score_trap ≡ Some (pos bounds_trap)) where
  pub load16u_misses : (u : State) × Misses load16u_items ps s u
  load16u_misses =
      both_miss (codes "h_mem_half_u") (codes "h_mem_load16u") divide stem_byte remainder half_over_items ps page i r s er l x y a ei k c
      (λ t b e h. over_misses five_steps refl ps page i x (pos r) t b e li h)

  pub load16s_misses : (u : State) × Misses load16s_items ps s u
  load16s_misses =
      both_miss (codes "h_mem_half_s") (codes "h_mem_load16s") multiply stem_half divide half_over_s_items ps page i r s er l x y a ei k c
      (λ t b e h. over_misses (five_steps ++ sign_steps) refl ps page i x (pos r) t b e li h)
