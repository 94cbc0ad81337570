-- Stores that write: within a word, and over two words that follow one another.
use Rattle.std.proofs.Common.{◌≡◌, ℕ, ◌+◌, ◌-◌, ◌/◌, ◌^◌, ◌<◌, ◌≤◌, List, [], ◌∷◌, length, Some, refl, sym, ap, ◌∙◌, subst, arith}
use Rattle.std.specs.Prelude.{ℤ, pos, option_and_then, codes}
use Rattle.mc_nbt.specs.Tree.{int, compound, place, select}
use Rattle.mc_cmd.specs.Form.{Text}
use Rattle.cc_line.specs.Sight.{in_rest}
use Rattle.cc_line.specs.Key.{key_choice, score_trap}
use Rattle.cc_line.specs.State.{State, selected, with_score}
use Rattle.cc_line.specs.OpenStep.{steps_with, ints_in}
use Rattle.cc_line.specs.Item.{step_item, fill_item, Items, no_more, first}
use Rattle.cc_line.proofs.RunLemmas.{Leads, leads_none, leads_join}
use Rattle.cc_page.specs.Pages.{signed_word, word_at, with_word, with_part, first_with, second_with, with_pair, next_page, next_place}
use Rattle.cc_page.proofs.ByteLemmas.{with_part-below, first_with-below}
use Rattle.cc_page.proofs.PageLemmas.{word_in_page}
use Rattle.cc_page.proofs.ReadLemmas.{words_stand}
use Rattle.cc_page.proofs.Stored.{words_are_selected}
use Rattle.cc_mem.specs.Address.{filling_site}
use Rattle.cc_mem.specs.Load.{word_item, next_item, next_items, byte_step}
use Rattle.cc_mem.specs.Store.{spread_steps, change_steps, write_first, write_second, across_items}
use Rattle.cc_mem.proofs.Near.{Near, near_score, spares_then, At, at_near, small_int, page_small}
use Rattle.cc_mem.proofs.Words.{word_site, word_found, filling_selected}
use Rattle.cc_mem.proofs.Next.{FindsNext, next_scores, next_found}
use Rattle.cc_mem.proofs.Accesses.{Goes, near_goes, goes_then, call_leads, Notes, notes, noted, note_writes}
use Rattle.cc_mem.proofs.Filled.{fill_leads_before, steady_goes}
use Rattle.cc_mem.proofs.Puts.{with_word-length, put, put_spares, put_at, filling_fields, Tells, first_written, second_written}
use Rattle.cc_mem.proofs.Changes.{Makes, change_makes, MakesTwo, spread_makes}

-- items after which these pages stand, and no trap is recorded
pub record Writes (xs : Items) (ps qs : List (List ℕ)) (page i : ℕ) (s : State) : Type 0 where
  pub state : State
  pub leads : Leads xs s state
  pub byte : ℤ
  pub goes : Goes qs page (pos i) byte s state
  pub trap : state.scores score_trap ≡ Some (pos 0)
  pub number : state.scores (codes "#r") ≡ s.scores (codes "#r")

pub put_goes : (ps : List (List ℕ)) (p j x page : ℕ) (u v : ℤ) (s : State) → x < 4294967296 → At ps page u v s → Goes (with_word ps p j x) page u v s (put ps p j x s)
put_goes ps p j x page u v s l a = record { at = put_at ps p j x page u v s l a; places = refl; spares = put_spares ps p j x s }

-- between pages that differ
pub goes_on : (ps qs : List (List ℕ)) (page : ℕ) (x y v w : ℤ) (s t u : State) → Goes ps page x y s t → Goes qs page v w t u → Goes qs page v w s u
goes_on ps qs page x y v w s t u f g = record { at = g.at; places = g.places ∙ f.places; spares = spares_then s t u f.spares g.spares }

word_there : (ps : List (List ℕ)) (page i m : ℕ) (y : ℤ) (s : State) → At ps page (pos i) y s → word_at ps page i ≡ Some m → selected s (word_site (pos page) (pos i)) ≡ Some (int (signed_word m))
word_there ps page i m y s a w = ap (option_and_then (λ u. select u (place (pos page) ∷ (place (pos i) ∷ [])))) a.pages ∙ (words_are_selected ps a.are_pages page i).0 m w

-- ---- within a word, from where the byte is noted

module _ (ps : List (List ℕ)) (page i r m x w : ℕ) (s : State) (a : At ps page (pos i) (pos r) s) (there : word_at ps page i ≡ Some m) (hx : x < 4294967296) (hr : r < 4) (lw : 0 < w) (hw : w < 4) (fit : r + w ≤ 4)
    (es : s.scores (codes "#s") ≡ Some (signed_word x)) (t : s.scores score_trap ≡ Some (pos 0)) where
  hm : m < 4294967296
  hm = (word_in_page ps page i m a.are_pages there).1

  abbrev new_word : ℕ
  new_word = with_part m r w x

  word_low : new_word < 4294967296
  word_low = let e : 4 ≡ r + (w + (4 - (r + w))) = omega arith in with_part-below 4 r w (4 - (r + w)) m x e hm

  makes : Makes (steps_with (ints_in (Some (compound (filling_fields page (pos i) (pos r))))) (change_steps w)) s new_word
  makes = change_makes s a.constants page i m x r w hm hx hr lw hw fit (word_there ps page i m (pos r) s a there) es

  abbrev changes : Text → Items
  changes f = first (fill_item f filling_site (change_steps w)) (first write_first no_more)

  pub change_writes : (f : Text) → Writes (changes f) ps (with_word ps page i new_word) page i s
  change_writes f =
      let b : Goes ps page (pos i) (pos r) s makes.state = steady_goes ps page (pos i) (pos r) s makes.state a makes.steady in
      let l = page_small ps page (pos i) (pos r) s a in
      let trap : makes.state.scores score_trap ≡ Some (pos 0) = makes.steady.scores score_trap refl ∙ t in
      record {
        state = put ps page i new_word makes.state;
        leads =
            fill_leads_before f filling_site (change_steps w) (first write_first no_more) s makes.state (put ps page i new_word makes.state) (filling_fields page (pos i) (pos r)) (filling_selected s page (pos i) (pos r) a.filling)
            (pos page, refl, small_int page (omega arith), (pos i, refl, a.place_int, (pos r, refl, a.byte_int, (pos r, refl, a.byte_int, tt)))) makes.straight
            (first_written ps page i (pos r) makes.state b.at m new_word no_more (put ps page i new_word makes.state) there makes.first trap (leads_none (put ps page i new_word makes.state)));
        byte = pos r;
        goes = goes_on ps (with_word ps page i new_word) page (pos i) (pos r) (pos i) (pos r) s makes.state (put ps page i new_word makes.state) b (put_goes ps page i new_word page (pos i) (pos r) makes.state word_low b.at);
        trap = trap;
        number = makes.number;
      }

-- ---- over two words

-- a word and the next one, loaded
pub record Pair (ps : List (List ℕ)) (page i : ℕ) (y : ℤ) (m n : ℕ) (s t : State) : Type 0 where
  pub leads : Leads (first word_item (first next_item no_more)) s t
  pub goes : Goes ps page (pos i) y s t
  pub first : t.scores (codes "#u") ≡ Some (signed_word m)
  pub second : t.scores (codes "#d") ≡ Some (signed_word n)
  pub told : Tells (next_page page i) (next_place i) t
  pub value : t.scores (codes "#s") ≡ s.scores (codes "#s")
  pub number : t.scores (codes "#r") ≡ s.scores (codes "#r")
  pub trap : t.scores score_trap ≡ s.scores score_trap

abbrev pub HasPair : List (List ℕ) → ℕ → ℕ → ℤ → ℕ → State → Type 0
HasPair ps page i y m s = (n : ℕ) × (word_at ps (next_page page i) (next_place i) ≡ Some n) × (n < 4294967296) × (t : State) × Pair ps page i y m n s t

pub pair_loaded : (ps : List (List ℕ)) (page i m : ℕ) (y : ℤ) (s : State) → At ps page (pos i) y s → word_at ps page i ≡ Some m → i < 16384 → s.scores (codes "#i") ≡ Some (pos i) → next_page page i < length ps → HasPair ps page i y m s
pair_loaded ps page i m y s a w li at there =
    let hs : List Text = codes "#u" ∷ [] in
    let t : State = with_score s (codes "#u") (signed_word m) in
    let n : Near hs s t = near_score hs s (codes "#u") (signed_word m) refl in
    let b : At ps page (pos i) y t = at_near hs ps page (pos i) y s t refl a n in
    let f : FindsNext ps page i t = next_found ps page i (pos i) y t b at li there in (
      f.0,
      f.1,
      f.2,
      f.3,
      record {
        leads = leads_join (first word_item no_more) (first next_item no_more) s t f.3 (word_found ps page i m y s a w) (call_leads (codes "h_mem_next") next_items t f.3 f.4.leads);
        goes = goes_then ps page (pos i) y (pos i) y s t f.3 (near_goes hs ps page (pos i) y s t refl a n) (near_goes next_scores ps page (pos i) y t f.3 refl b f.4.near);
        first = f.4.near.scores (codes "#u") refl;
        second = f.4.word;
        told = f.4.choice;
        value = f.4.near.scores (codes "#s") refl;
        number = f.4.near.scores (codes "#r") refl;
        trap = f.4.near.scores score_trap refl;
      },
    )

-- both written
pub pair_put : (ps : List (List ℕ)) (page i m n u v : ℕ) (y : ℤ) (s : State) → At ps page (pos i) y s → word_at ps page i ≡ Some m → word_at ps (next_page page i) (next_place i) ≡ Some n → page < length ps → i < 16384
    → u < 4294967296 → v < 4294967296 → s.scores (codes "#u") ≡ Some (signed_word u) → s.scores (codes "#d") ≡ Some (signed_word v) → Tells (next_page page i) (next_place i) s → s.scores score_trap ≡ Some (pos 0)
    → Writes (first write_second (first write_first no_more)) ps (with_word (with_word ps (next_page page i) (next_place i) v) page i u) page i s
pair_put ps page i m n u v y s a w wn lp li hu hv eu ed told t =
    let p : ℕ = next_page page i in
    let j : ℕ = next_place i in
    let qs : List (List ℕ) = with_word ps p j v in
    let s1 : State = put ps p j v s in
    let b : Goes qs page (pos i) y s s1 = put_goes ps p j v page (pos i) y s hv a in
    let l = page_small ps page (pos i) y s a in
    let stand = words_stand qs b.at.are_pages page i (subst (λ k. page < k) (sym (with_word-length ps p j v)) lp) li in
    let s2 : State = put qs page i u s1 in
    record {
      state = s2;
      leads =
          second_written ps page i y s a p j n v (first write_first no_more) s2 told (omega arith) (omega arith) wn ed t
          (first_written qs page i y s1 b.at stand.0 u no_more s2 stand.1 eu t (leads_none s2));
      byte = y;
      goes = goes_on qs (with_word qs page i u) page (pos i) y (pos i) y s s1 s2 b (put_goes qs page i u page (pos i) y s1 hu b.at);
      trap = t;
      number = refl;
    }

module _ (ps : List (List ℕ)) (page i m x r : ℕ) (y : ℤ) (s : State) (a : At ps page (pos i) y s) (w : word_at ps page i ≡ Some m) (lp : page < length ps) (li : i < 16384) (hx : x < 4294967296) (hr : r < 4)
    (es : s.scores (codes "#s") ≡ Some (signed_word x)) (at : s.scores (codes "#i") ≡ Some (pos i)) (er : s.scores (codes "#r") ≡ Some (pos r)) (t : s.scores score_trap ≡ Some (pos 0)) where
  low : m < 4294967296
  low = (word_in_page ps page i m a.are_pages w).1

  -- four bytes
  module _ (lr : 0 < r) (there : next_page page i < length ps) where
    pair : HasPair ps page i y m s
    pair = pair_loaded ps page i m y s a w li at there

    abbrev n : ℕ
    n = pair.0

    abbrev k : Pair ps page i y m n s pair.3
    k = pair.4

    abbrev first_low : ℕ
    first_low = first_with m r x

    abbrev second_high : ℕ
    second_high = second_with n r 4 x

    first_fits : first_low < 4294967296
    first_fits = first_with-below r m x (omega arith)

    second_fits : second_high < 4294967296
    second_fits = let e : 4 ≡ 0 + ((r + 4 - 4) + (4 - (r + 4 - 4))) = omega arith in with_part-below 4 0 (r + 4 - 4) (4 - (r + 4 - 4)) n (x / 256 ^ (4 - r)) e pair.2

    byte_there : pair.3.scores (codes "#r") ≡ Some (pos r)
    byte_there = k.number ∙ er

    abbrev s3 : State
    s3 = noted ps page (pos i) y r pair.3 k.goes.at byte_there hr

    notes3 : Notes ps page (pos i) r pair.3 s3
    notes3 = notes ps page (pos i) y r pair.3 k.goes.at byte_there hr

    -- a score of that state
    score3 : (h : Text) → s3.scores h ≡ pair.3.scores h
    score3 h = ap (λ f. f h) notes3.scores

    made : MakesTwo (steps_with (ints_in (Some (compound (filling_fields page (pos i) (pos r))))) spread_steps) s3 first_low second_high
    made =
        spread_makes s3 notes3.goes.at.constants m n x low pair.2 hx (score3 (codes "#u") ∙ k.first) (score3 (codes "#d") ∙ k.second) (score3 (codes "#s") ∙ (k.value ∙ es)) page i r lr hr

    abbrev s4 : State
    s4 = made.state

    goes4 : Goes ps page (pos i) (pos r) s3 s4
    goes4 = steady_goes ps page (pos i) (pos r) s3 s4 notes3.goes.at made.steady

    told4 : Tells (next_page page i) (next_place i) s4
    told4 = ap (λ f. f in_rest key_choice) made.steady.keys ∙ ((note_writes ps page (pos i) y r pair.3 k.goes.at byte_there hr).others in_rest key_choice refl ∙ k.told)

    trap4 : s4.scores score_trap ≡ Some (pos 0)
    trap4 = made.steady.scores score_trap refl ∙ (score3 score_trap ∙ (k.trap ∙ t))

    put4 : Writes (first write_second (first write_first no_more)) ps (with_pair ps page i r 4 m n x) page i s4
    put4 = pair_put ps page i m n first_low second_high (pos r) s4 goes4.at w pair.1 lp li first_fits second_fits made.first made.second told4 trap4

    across_writes : Writes across_items ps (with_pair ps page i r 4 m n x) page i s
    across_writes =
        let last : Items = first write_second (first write_first no_more) in
        let spread : Items = first (fill_item (codes "h_mem_spread") filling_site spread_steps) last in
        let b : ℤ = pos r in
        let g : At ps page (pos i) b s3 = notes3.goes.at in
        record {
          state = put4.state;
          leads =
              leads_join (first word_item (first next_item no_more)) (first (step_item byte_step) spread) s pair.3 put4.state k.leads
              (leads_join (first (step_item byte_step) no_more) spread pair.3 s3 put4.state notes3.leads
              (fill_leads_before (codes "h_mem_spread") filling_site spread_steps last s3 s4 put4.state (filling_fields page (pos i) b) (filling_selected s3 page (pos i) b g.filling)
              (b, refl, g.byte_int, (b, refl, g.byte_int, (b, refl, g.byte_int, (b, refl, g.byte_int, (b, refl, g.byte_int, tt))))) made.straight put4.leads));
          byte = put4.byte;
          goes =
              goes_on ps (with_pair ps page i r 4 m n x) page (pos i) b (pos i) put4.byte s s4 put4.state
              (goes_then ps page (pos i) b (pos i) b s s3 s4 (goes_then ps page (pos i) y (pos i) b s pair.3 s3 k.goes notes3.goes) goes4) put4.goes;
          trap = put4.trap;
          number = put4.number ∙ (made.number ∙ (score3 (codes "#r") ∙ k.number));
        }

    pub across_written : (n : ℕ) × (word_at ps (next_page page i) (next_place i) ≡ Some n) × Writes across_items ps (with_pair ps page i r 4 m n x) page i s
    across_written = (pair.0, pair.1, across_writes)
