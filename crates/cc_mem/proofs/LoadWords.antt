-- Loads of four bytes: of one word, or of two that follow one another.
use Rattle.std.proofs.Common.{◌≡◌, ℕ, ◌-◌, ◌^◌, ◌<◌, ◌≤◌, List, [], ◌∷◌, length, Some, true, false, refl, sym, ap, ◌∙◌, subst, arith, ◌⊎◌, inl, inr, ⊎_elim}
use Rattle.std.specs.Prelude.{ℤ, pos, ◌+ℤ◌, ◌&&◌, not, codes}
use Rattle.std.proofs.lemmas.Bool.{cases_eq}
use Rattle.std.proofs.lemmas.Int.{ints}
use Rattle.mc_cmd.specs.Form.{Text}
use Rattle.mc_cmd.specs.Command.{add, multiply, divide, remainder, exactly}
use Rattle.mc_cmd.specs.World.{wrapped, operate, some_is_in}
use Rattle.cc_line.specs.Place.{scratch}
use Rattle.cc_line.specs.Key.{score_trap, scale_of}
use Rattle.cc_line.specs.State.{State, with_score}
use Rattle.cc_line.specs.Step.{combine, conds_hold}
use Rattle.cc_line.specs.Core.{Straight}
use Rattle.cc_line.specs.OpenStep.{steps_with, ints_in}
use Rattle.cc_line.specs.Item.{step_item, call_when, fill_item, Items, no_more, first, join}
use Rattle.cc_line.proofs.CoreLemmas.{straight_none}
use Rattle.cc_line.proofs.RunLemmas.{leads_join, called_leads, uncalled_leads}
use Rattle.cc_page.specs.Pages.{signed_word, word_at, next_page, next_place, glued}
use Rattle.cc_page.proofs.Scores.{pairs_by_scores}
use Rattle.cc_mem.specs.Standing.{stem_byte, stem_rest, filling_tree}
use Rattle.cc_mem.specs.Address.{bounds_trap, filling_site}
use Rattle.cc_mem.specs.Load.{at_u, at_d, word_item, next_items, next_item, is_unaligned, byte_step, glue_steps, glued_items, load32_items}
use Rattle.cc_mem.proofs.Near.{Near, near_then, near_score, near_spares, spares_then, At, at_near}
use Rattle.cc_mem.proofs.Fills.{straight_act, combine_is, fill_leads}
use Rattle.cc_mem.proofs.Words.{number_in, filling_selected, word_leads, word_found}
use Rattle.cc_mem.proofs.Next.{next_scores, not_exactly, NextFound, NextMissing, next_found, next_missing, next_trapped}
use Rattle.cc_mem.proofs.Accesses.{near_goes, goes_then, Reads, reads_so, Misses, misses_so, call_leads, Notes, noted, notes, any_fill}

-- ---- what lacks the next word

-- a trap is recorded, or the page of the next word doesn't stand
abbrev pub Lacks : List (List ℕ) → ℕ → ℕ → State → Type 0
Lacks ps page i s = (s.scores score_trap ≡ Some (pos bounds_trap)) ⊎ (length ps ≤ next_page page i)

pub next_lacks : (ps : List (List ℕ)) (page i : ℕ) (x y : ℤ) (s : State) → At ps page x y s → s.scores (codes "#i") ≡ Some (pos i) → i < 16384 → Lacks ps page i s → (t : State) × NextMissing s t
next_lacks ps page i x y s a e l (inl h) = next_trapped ps page i x y s a e l h
next_lacks ps page i x y s a e l (inr h) = next_missing ps page i x y s a e l h

-- ---- two words glued

abbrev pub two_scores : List Text
two_scores = codes "#u" ∷ (codes "#d" ∷ [])

abbrev glue_items : Items
glue_items = first (fill_item (codes "h_mem_glue") filling_site glue_steps) no_more

abbrev pub byte_items : Items
byte_items = first (step_item byte_step) no_more

module _ (ps : List (List ℕ)) (page i r m n : ℕ) (s : State) (a : At ps page (pos i) (pos r) s) (eu : s.scores (codes "#u") ≡ Some (signed_word m)) (ed : s.scores (codes "#d") ≡ Some (signed_word n))
    (hm : m < 4294967296) (hn : n < 4294967296) (g : 0 < r) (l : r < 4) where
  module _ (q low high : ℤ) (pq : operate divide (signed_word m) (pos (256 ^ r)) ≡ Some q) (pl : operate remainder q (pos (256 ^ (4 - r))) ≡ Some low)
      (ph : operate multiply (signed_word n) (pos (256 ^ (4 - r))) ≡ Some high) (pa : operate add low high ≡ Some (signed_word (glued m n r 4))) where
    abbrev cut : State
    cut = with_score s (codes "#u") q

    abbrev lowered : State
    lowered = with_score cut (codes "#u") low

    abbrev raised : State
    raised = with_score lowered (codes "#d") high

    abbrev summed : State
    summed = with_score raised (codes "#u") (signed_word (glued m n r 4))

    glue_straight : Straight (steps_with (ints_in (Some (filling_tree page (pos i) (pos r)))) glue_steps) s summed
    glue_straight =
        let cb = a.constants.bytes r l in
        let cr = a.constants.rests r g l in
        straight_act (combine at_u divide (scratch (scale_of stem_byte r))) _ s cut summed (tt, tt) (combine_is s (codes "#u") (scale_of stem_byte r) divide (signed_word m) (pos (256 ^ r)) q eu cb pq)
        (straight_act (combine at_u remainder (scratch (scale_of stem_rest r))) _ cut lowered summed (tt, tt) (combine_is cut (codes "#u") (scale_of stem_rest r) remainder q (pos (256 ^ (4 - r))) low refl cr pl)
        (straight_act (combine at_d multiply (scratch (scale_of stem_rest r))) _ lowered raised summed (tt, tt) (combine_is lowered (codes "#d") (scale_of stem_rest r) multiply (signed_word n) (pos (256 ^ (4 - r))) high ed cr ph)
        (straight_act (combine at_u add at_d) [] raised summed summed (tt, tt) (combine_is raised (codes "#u") (codes "#d") add low high (signed_word (glued m n r 4)) refl refl pa)
        (straight_none summed))))

    glue_near : Near two_scores s summed
    glue_near =
        near_then two_scores s cut summed (near_score two_scores s (codes "#u") q refl)
        (near_then two_scores cut lowered summed (near_score two_scores cut (codes "#u") low refl)
        (near_then two_scores lowered raised summed (near_score two_scores lowered (codes "#d") high refl)
        (near_score two_scores raised (codes "#u") (signed_word (glued m n r 4)) refl)))

sum_turned : (a b : ℤ) → a +ℤ b ≡ b +ℤ a
sum_turned a b = omega (arith, ints)

-- ---- over two words

module _ (ps : List (List ℕ)) (page i r m : ℕ) (y : ℤ) (s : State) (a : At ps page (pos i) y s) (er : s.scores (codes "#r") ≡ Some (pos r)) (eu : s.scores (codes "#u") ≡ Some (signed_word m)) (hm : m < 4294967296) (g : 0 < r) (l : r < 4) where
  glued_by : (n : ℕ) (t : State) → n < 4294967296 → NextFound page i n s t → (u : State) × Reads glued_items ps (signed_word (glued m n r 4)) s u
  glued_by n t hn f =
      let b : At ps page (pos i) y t = at_near next_scores ps page (pos i) y s t refl a f.near in
      let e : t.scores (codes "#r") ≡ Some (pos r) = f.near.scores (codes "#r") refl ∙ er in
      let k : Notes ps page (pos i) r t (noted ps page (pos i) y r t b e l) = notes ps page (pos i) y r t b e l in
      let v : State = noted ps page (pos i) y r t b e l in
      let ku : v.scores (codes "#u") ≡ Some (signed_word m) = ap (λ f. f (codes "#u")) k.scores ∙ f.near.scores (codes "#u") refl ∙ eu in
      let kd : v.scores (codes "#d") ≡ Some (signed_word n) = ap (λ f. f (codes "#d")) k.scores ∙ f.word in
      let p = pairs_by_scores m n r hm hn g l in
      let pa : operate add p.1 p.2 ≡ Some (signed_word (glued m n r 4)) = ap (λ z. Some (wrapped z)) (sum_turned p.1 p.2) ∙ p.6 in
      let w : State = summed ps page i r m n v k.goes.at ku kd hm hn g l p.0 p.1 p.2 p.3 p.4 p.5 pa in
      let n1 : Near two_scores v w = glue_near ps page i r m n v k.goes.at ku kd hm hn g l p.0 p.1 p.2 p.3 p.4 p.5 pa in (
        w,
        reads_so glued_items ps (signed_word (glued m n r 4)) page (pos i) (pos r) s w
            (leads_join (first next_item no_more) (join byte_items glue_items) s t w (call_leads (codes "h_mem_next") next_items s t f.leads)
            (leads_join byte_items glue_items t v w k.leads
            (fill_leads (codes "h_mem_glue") filling_site glue_steps v w (Some (filling_tree page (pos i) (pos r))) (filling_selected v page (pos i) (pos r) k.goes.at.filling)
            (pos r, refl, k.goes.at.byte_int, (pos r, refl, k.goes.at.byte_int, (pos r, refl, k.goes.at.byte_int, tt)))
            (glue_straight ps page i r m n v k.goes.at ku kd hm hn g l p.0 p.1 p.2 p.3 p.4 p.5 pa))))
            refl
            (n1.scores score_trap refl ∙ ap (λ f. f score_trap) k.scores ∙ f.near.scores score_trap refl)
            (goes_then ps page (pos i) y (pos i) (pos r) s t w (near_goes next_scores ps page (pos i) y s t refl a f.near)
            (goes_then ps page (pos i) (pos r) (pos i) (pos r) t v w k.goes (near_goes two_scores ps page (pos i) (pos r) v w refl k.goes.at n1))),
      )

module _ (ps : List (List ℕ)) (page i r : ℕ) (x y : ℤ) (s : State) (a : At ps page x y s) (ei : s.scores (codes "#i") ≡ Some (pos i)) (er : s.scores (codes "#r") ≡ Some (pos r)) (li : i < 16384) (l : r < 4) where
  pub glued_misses : Lacks ps page i s → (u : State) × Misses glued_items ps s u
  glued_misses k =
      let f = next_lacks ps page i x y s a ei li k in
      let t : State = f.0 in
      let b : At ps page x y t = at_near (score_trap ∷ next_scores) ps page x y s t refl a f.1.near in
      let e : t.scores (codes "#r") ≡ Some (pos r) = f.1.near.scores (codes "#r") refl ∙ er in
      let k : Notes ps page x r t (noted ps page x y r t b e l) = notes ps page x y r t b e l in
      let v : State = noted ps page x y r t b e l in
      let d = any_fill two_scores (codes "h_mem_glue") glue_steps ps page x (pos r) v k.goes.at
      (pos r, refl, k.goes.at.byte_int, (pos r, refl, k.goes.at.byte_int, (pos r, refl, k.goes.at.byte_int, tt))) refl in
      let w : State = d.0 in (
        w,
        misses_so glued_items ps page x (pos r) s w
            (leads_join (first next_item no_more) (join byte_items glue_items) s t w (call_leads (codes "h_mem_next") next_items s t f.1.leads)
            (leads_join byte_items glue_items t v w k.leads d.1))
            (d.2.scores score_trap refl ∙ ap (λ f. f score_trap) k.scores ∙ f.1.trap)
            (goes_then ps page x y x (pos r) s t w (near_goes (score_trap ∷ next_scores) ps page x y s t refl a f.1.near)
            (goes_then ps page x (pos r) x (pos r) t v w k.goes (near_goes two_scores ps page x (pos r) v w refl k.goes.at d.2))),
      )

-- ---- all of it

abbrev pub word_scores : List Text
word_scores = codes "#u" ∷ []

abbrev glued_call : Items
glued_call = first (call_when is_unaligned (codes "h_mem_load32") glued_items) no_more

aligned_is : (s : State) (r : ℕ) → s.scores (codes "#r") ≡ Some (pos r) → r ≡ 0 → conds_hold is_unaligned s ≡ false
aligned_is s r e z = ap (λ o. not (some_is_in (exactly (pos 0)) o) && true) (e ∙ ap (λ n. Some (pos n)) z)

unaligned_is : (s : State) (r : ℕ) → s.scores (codes "#r") ≡ Some (pos r) → (r ≡ 0 → ⊥) → conds_hold is_unaligned s ≡ true
unaligned_is s r e z = ap (λ o. not (some_is_in (exactly (pos 0)) o) && true) e ∙ ap (λ b. not b && true) (not_exactly 0 r z)

module _ (ps : List (List ℕ)) (page i r m : ℕ) (y : ℤ) (s : State) (a : At ps page (pos i) y s) (ei : s.scores (codes "#i") ≡ Some (pos i)) (er : s.scores (codes "#r") ≡ Some (pos r)) (li : i < 16384) (l : r < 4)
    (w : word_at ps page i ≡ Some m) (hm : m < 4294967296) where
  abbrev pub worded : State
  worded = with_score s (codes "#u") (signed_word m)

  pub word_near : Near word_scores s worded
  word_near = near_score word_scores s (codes "#u") (signed_word m) refl

  pub load32_aligned : r ≡ 0 → Reads load32_items ps (signed_word m) s worded
  load32_aligned z =
      reads_so load32_items ps (signed_word m) page (pos i) y s worded
      (leads_join (first word_item no_more) glued_call s worded worded (word_found ps page i m y s a w)
      (uncalled_leads is_unaligned (codes "h_mem_load32") glued_items worded (tt, tt) (aligned_is worded r er z)))
      refl refl (near_goes word_scores ps page (pos i) y s worded refl a word_near)

  pub load32_unaligned : 0 < r → (n : ℕ) → n < 4294967296 → word_at ps (next_page page i) (next_place i) ≡ Some n → next_page page i < length ps
      → (u : State) × Reads load32_items ps (signed_word (glued m n r 4)) s u
  load32_unaligned g n hn wn there =
      let b : At ps page (pos i) y worded = at_near word_scores ps page (pos i) y s worded refl a word_near in
      let f = next_found ps page i (pos i) y worded b ei li there in
      let same : f.0 ≡ n = let q : Some f.0 ≡ Some n = sym f.1 ∙ wn in cc in
      let d = glued_by ps page i r m y worded b er refl hm g l f.0 f.3 f.2 f.4 in
      let k : Reads glued_items ps (signed_word (glued m n r 4)) worded d.0 = subst (λ n. Reads glued_items ps (signed_word (glued m n r 4)) worded d.0) same d.1 in (
        d.0,
        record {
          leads = leads_join (first word_item no_more) glued_call s worded d.0 (word_found ps page i m y s a w)
              (called_leads is_unaligned (codes "h_mem_load32") glued_items worded d.0 (tt, tt) (unaligned_is worded r er (λ z. omega arith)) k.leads);
          number = k.number;
          places = k.places;
          trap = k.trap;
          memory = k.memory;
          spares = spares_then s worded d.0 (near_spares word_scores s worded refl word_near) k.spares;
        },
      )

-- where a trap is recorded, or the next word is wanted and isn't there
pub load32_misses : (ps : List (List ℕ)) (page i r : ℕ) (x y : ℤ) (s : State) → At ps page x y s → s.scores (codes "#i") ≡ Some (pos i) → s.scores (codes "#r") ≡ Some (pos r) → i < 16384 → r < 4
    → Lacks ps page i s → (r ≡ 0 → s.scores score_trap ≡ Some (pos bounds_trap)) → (u : State) × Misses load32_items ps s u
load32_misses ps page i r x y s a ei er li l k c = ⊎_elim aligned unaligned (cases_eq r 0)
  where
    v : State
    v = with_score s (codes "#u") (number_in s (pos page) x)

    n : Near word_scores s v
    n = near_score word_scores s (codes "#u") (number_in s (pos page) x) refl

    b : At ps page x y v
    b = at_near word_scores ps page x y s v refl a n

    aligned : r ≡ 0 → (u : State) × Misses load32_items ps s u
    aligned z = (
      v,
      misses_so load32_items ps page x y s v
          (leads_join (first word_item no_more) glued_call s v v (word_leads ps page x y s a)
          (uncalled_leads is_unaligned (codes "h_mem_load32") glued_items v (tt, tt) (aligned_is v r er z)))
          (c z) (near_goes word_scores ps page x y s v refl a n),
    )

    unaligned : (r ≡ 0 → ⊥) → (u : State) × Misses load32_items ps s u
    unaligned z =
        let d = glued_misses ps page i r x y v b ei er li l k in (
          d.0,
          record {
            leads = leads_join (first word_item no_more) glued_call s v d.0 (word_leads ps page x y s a)
                (called_leads is_unaligned (codes "h_mem_load32") glued_items v d.0 (tt, tt) (unaligned_is v r er z) d.1.leads);
            places = d.1.places;
            trap = d.1.trap;
            memory = d.1.memory;
            spares = spares_then s v d.0 (near_spares word_scores s v refl n) d.1.spares;
          },
        )
