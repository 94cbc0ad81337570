-- Stores that write, whole: which words, by the byte where they begin.
use Rattle.std.proofs.Common.{◌≡◌, ⊎_elim, ℕ, ◌+◌, ◌*◌, ◌/◌, ◌^◌, ◌<◌, ◌≤◌, List, length, Some, true, false, refl, sym, ap, ◌∙◌, arith}
use Rattle.std.specs.Prelude.{ℤ, pos, ◌&&◌, not, codes}
use Rattle.std.proofs.lemmas.Bool.{cases_eq}
use Rattle.mc_cmd.specs.Form.{Text}
use Rattle.mc_cmd.specs.Command.{exactly}
use Rattle.mc_cmd.specs.World.{some_is_in}
use Rattle.cc_line.specs.Sight.{in_rest}
use Rattle.cc_line.specs.Key.{key_choice, score_trap}
use Rattle.cc_line.specs.State.{State}
use Rattle.cc_line.specs.Step.{conds_hold}
use Rattle.cc_line.specs.Item.{step_item, call_when, fill_item, Items, no_more, first, join, steps_items}
use Rattle.cc_line.proofs.RunLemmas.{leads_join, straight_leads, called_leads, uncalled_leads}
use Rattle.wm_ast.specs.Storage.{bytes_of}
use Rattle.wm_ast.specs.Store.{overwritten}
use Rattle.cc_page.specs.Pages.{pages_bytes, byte_address, signed_word, word_at, with_word, with_part, first_with, second_with, with_pair, next_page, next_place}
use Rattle.cc_page.proofs.ByteLemmas.{with_part-below, first_with-below}
use Rattle.cc_page.proofs.PageLemmas.{word_in_page}
use Rattle.cc_page.proofs.WriteLemmas.{words_written, pairs_written}
use Rattle.cc_mem.specs.Address.{filling_site}
use Rattle.cc_mem.specs.Load.{word_item, next_item, is_unaligned, is_last, byte_step}
use Rattle.cc_mem.specs.Store.{change_steps, write_first, write_second, across_items, store32_items, store8_items, half_over_steps, half_across_items, half_items, not_last, store16_items}
use Rattle.cc_mem.proofs.Near.{At}
use Rattle.cc_mem.proofs.Next.{not_exactly}
use Rattle.cc_mem.proofs.Accesses.{Goes, goes_then, Notes, notes, noted}
use Rattle.cc_mem.proofs.Filled.{steady_goes}
use Rattle.cc_mem.proofs.Puts.{put, not_zero, whole_put, none_put}
use Rattle.cc_mem.proofs.Changes.{MakesTwo, half_makes}
use Rattle.cc_mem.proofs.Stores.{Writes, put_goes, goes_on, Pair, HasPair, pair_loaded, pair_put, change_writes, across_written}

-- ---- two bytes over two words

module _ (ps : List (List ℕ)) (page i m x : ℕ) (y : ℤ) (s : State) (a : At ps page (pos i) y s) (w : word_at ps page i ≡ Some m) (lp : page < length ps) (li : i < 16384) (hx : x < 4294967296)
    (es : s.scores (codes "#s") ≡ Some (signed_word x)) (at : s.scores (codes "#i") ≡ Some (pos i)) (t : s.scores score_trap ≡ Some (pos 0)) (there : next_page page i < length ps) where
  pair : HasPair ps page i y m s
  pair = pair_loaded ps page i m y s a w li at there

  abbrev n : ℕ
  n = pair.0

  abbrev s2 : State
  s2 = pair.3

  abbrev k : Pair ps page i y m n s s2
  k = pair.4

  made : MakesTwo half_over_steps s2 (first_with m 3 x) (second_with n 3 2 x)
  made = half_makes s2 k.goes.at.constants m n x (word_in_page ps page i m a.are_pages w).1 pair.2 hx k.first k.second (k.value ∙ es)

  goes3 : Goes ps page (pos i) y s2 made.state
  goes3 = steady_goes ps page (pos i) y s2 made.state k.goes.at made.steady

  put3 : Writes (first write_second (first write_first no_more)) ps (with_pair ps page i 3 2 m n x) page i made.state
  put3 =
      pair_put ps page i m n (first_with m 3 x) (second_with n 3 2 x) y made.state goes3.at w pair.1 lp li (first_with-below 3 m x (omega arith))
      (let e : 4 ≡ 0 + (1 + 3) = omega arith in with_part-below 4 0 1 3 n (x / 256 ^ 1) e pair.2) made.first made.second
      (ap (λ f. f in_rest key_choice) made.steady.keys ∙ k.told) (made.steady.scores score_trap refl ∙ (k.trap ∙ t))

  half_across_writes : Writes half_across_items ps (with_pair ps page i 3 2 m n x) page i s
  half_across_writes =
      let last : Items = first write_second (first write_first no_more) in
      record {
        state = put3.state;
        leads =
            leads_join (first word_item (first next_item no_more)) (join (steps_items half_over_steps) last) s s2 put3.state k.leads
            (leads_join (steps_items half_over_steps) last s2 made.state put3.state (straight_leads half_over_steps s2 made.state made.straight) put3.leads);
        byte = put3.byte;
        goes =
            goes_on ps (with_pair ps page i 3 2 m n x) page (pos i) y (pos i) put3.byte s made.state put3.state
            (goes_then ps page (pos i) y (pos i) y s s2 made.state k.goes goes3) put3.goes;
        trap = put3.trap;
        number = put3.number ∙ (made.number ∙ k.number);
      }

  pub half_across_written : (n : ℕ) × (word_at ps (next_page page i) (next_place i) ≡ Some n) × Writes half_across_items ps (with_pair ps page i 3 2 m n x) page i s
  half_across_written = (pair.0, pair.1, half_across_writes)

-- ---- all of them

-- what holds before each
pub record Begins (ps : List (List ℕ)) (page i r m x : ℕ) (y : ℤ) (s : State) : Type 0 where
  pub at : At ps page (pos i) y s
  pub word : word_at ps page i ≡ Some m
  pub page_within : page < length ps
  pub place_within : i < 16384
  pub byte_within : r < 4
  pub value_within : x < 4294967296
  pub value : s.scores (codes "#s") ≡ Some (signed_word x)
  pub place : s.scores (codes "#i") ≡ Some (pos i)
  pub byte : s.scores (codes "#r") ≡ Some (pos r)
  pub trap : s.scores score_trap ≡ Some (pos 0)

module _ (ps : List (List ℕ)) (page i r m x : ℕ) (y : ℤ) (s : State) (b : Begins ps page i r m x y s) where
  word_fits : m < 4294967296
  word_fits = (word_in_page ps page i m b.at.are_pages b.word).1

  abbrev whole : List (List ℕ)
  whole = with_word ps page i (with_part m 0 4 x)

  pub whole_writes : r ≡ 0 → Writes store32_items ps whole page i s
  whole_writes q =
      let v : ℕ = with_part m 0 4 x in
      let hm : m < 4294967296 = word_fits in
      let hx : x < 4294967296 = b.value_within in
      let e : x ≡ v = omega arith in
      let hv : v < 4294967296 = omega arith in
      let u : State = put ps page i v s in
      let z : s.scores (codes "#r") ≡ Some (pos 0) = b.byte ∙ ap (λ n. Some (pos n)) q in
      let c : Items = first (call_when is_unaligned (codes "h_mem_store32") across_items) no_more in
      record {
        state = u;
        leads =
            whole_put ps page i y s b.at m v c u b.word (b.value ∙ ap (λ n. Some (signed_word n)) e) b.trap z
            (uncalled_leads is_unaligned (codes "h_mem_store32") across_items u (tt, tt) (ap (λ o. not (some_is_in (exactly (pos 0)) o) && true) z));
        byte = y;
        goes = put_goes ps page i v page (pos i) y s hv b.at;
        trap = b.trap;
        number = refl;
      }

  -- the bytes that the pages have then
  abbrev pub Stores : Items → ℕ → Type 0
  Stores xs k = (qs : List (List ℕ)) × (pages_bytes qs ≡ overwritten (pages_bytes ps) (byte_address page i r) (bytes_of k x)) × Writes xs ps qs page i s

  whole_stores : r ≡ 0 → Stores store32_items 4
  whole_stores q = (
    whole,
    sym (ap (λ n. overwritten (pages_bytes ps) (byte_address page i n) (bytes_of 4 x)) q ∙ (words_written ps b.at.are_pages page i 0 4 m x b.word (omega arith)).1),
    whole_writes q,
  )

  across_call : 0 < r → (qs : List (List ℕ)) → Writes across_items ps qs page i s → Writes store32_items ps qs page i s
  across_call l qs f =
      let c : Items = first (call_when is_unaligned (codes "h_mem_store32") across_items) no_more in
      record {
        state = f.state;
        leads =
            none_put ps page i y s b.at r c f.state l b.byte_within b.trap b.byte
            (called_leads is_unaligned (codes "h_mem_store32") across_items s f.state (tt, tt)
            (ap (λ o. not (some_is_in (exactly (pos 0)) o) && true) b.byte ∙ ap (λ b. not b && true) (not_zero r l b.byte_within)) f.leads);
        byte = f.byte;
        goes = f.goes;
        trap = f.trap;
        number = f.number;
      }

  across_stores : 0 < r → next_page page i < length ps → Stores store32_items 4
  across_stores l there =
      let f = across_written ps page i m x r y s b.at b.word b.page_within b.place_within b.value_within b.byte_within b.value b.place b.byte b.trap l there in
      let qs : List (List ℕ) = with_pair ps page i r 4 m f.0 x in
      (qs, sym (pairs_written ps b.at.are_pages page i r 4 m f.0 x b.word f.1 b.byte_within (omega arith) (omega arith)).1, across_call l qs f.2)

  -- from where the byte is noted
  abbrev after_byte : State
  after_byte = noted ps page (pos i) y r s b.at b.byte b.byte_within

  noting : Notes ps page (pos i) r s after_byte
  noting = notes ps page (pos i) y r s b.at b.byte b.byte_within

  score : (h : Text) → after_byte.scores h ≡ s.scores h
  score h = ap (λ f. f h) noting.scores

  noted_then : (xs : Items) (qs : List (List ℕ)) → Writes xs ps qs page i after_byte → Writes (first (step_item byte_step) xs) ps qs page i s
  noted_then xs qs f = record {
    state = f.state;
    leads = leads_join (first (step_item byte_step) no_more) xs s after_byte f.state noting.leads f.leads;
    byte = f.byte;
    goes = goes_on ps qs page (pos i) (pos r) (pos i) f.byte s after_byte f.state noting.goes f.goes;
    trap = f.trap;
    number = f.number ∙ score (codes "#r");
  }

  within_writes : (k : ℕ) (f : Text) → 0 < k → k < 4 → r + k ≤ 4 → Writes (first (fill_item f filling_site (change_steps k)) (first write_first no_more)) ps (with_word ps page i (with_part m r k x)) page i after_byte
  within_writes k f l h fit = change_writes ps page i r m x k after_byte noting.goes.at b.word b.value_within b.byte_within l h fit (score (codes "#s") ∙ b.value) (score score_trap ∙ b.trap) f

  within_bytes : (k : ℕ) → r + k ≤ 4 → pages_bytes (with_word ps page i (with_part m r k x)) ≡ overwritten (pages_bytes ps) (byte_address page i r) (bytes_of k x)
  within_bytes k fit = sym (words_written ps b.at.are_pages page i r k m x b.word fit).1

  byte_stores : Stores store8_items 1
  byte_stores =
      let h : r < 4 = b.byte_within in
      let qs : List (List ℕ) = with_word ps page i (with_part m r 1 x) in
      (qs, within_bytes 1 (omega arith), noted_then _ qs (within_writes 1 (codes "h_mem_change8") (omega arith) (omega arith) (omega arith)))

  abbrev half_call : Items
  half_call = first (call_when not_last (codes "h_mem_store16") half_items) no_more

  abbrev last_call : Items
  last_call = first (call_when is_last (codes "h_mem_store16_over") half_across_items) no_more

  number1 : after_byte.scores (codes "#r") ≡ Some (pos r)
  number1 = score (codes "#r") ∙ b.byte

  half_stores : (r ≡ 3 → ⊥) → Stores store16_items 2
  half_stores q =
      let h : r < 4 = b.byte_within in
      let fit : r + 2 ≤ 4 = omega (arith, q) in
      let qs : List (List ℕ) = with_word ps page i (with_part m r 2 x) in
      let f : Writes half_items ps qs page i after_byte = within_writes 2 (codes "h_mem_change16") (omega arith) (omega arith) fit in
      let c : conds_hold not_last after_byte ≡ true = ap (λ o. not (some_is_in (exactly (pos 3)) o) && true) number1 ∙ ap (λ b. not b && true) (not_exactly 3 r q) in
      let d : conds_hold is_last f.state ≡ false = ap (λ o. some_is_in (exactly (pos 3)) o && true) (f.number ∙ number1) ∙ ap (λ b. b && true) (not_exactly 3 r q) in (
        qs,
        within_bytes 2 fit,
        noted_then (join half_call last_call) qs (record {
          state = f.state;
          leads =
              leads_join half_call last_call after_byte f.state f.state (called_leads not_last (codes "h_mem_store16") half_items after_byte f.state (tt, tt) c f.leads)
              (uncalled_leads is_last (codes "h_mem_store16_over") half_across_items f.state (tt, tt) d);
          byte = f.byte;
          goes = f.goes;
          trap = f.trap;
          number = f.number;
        }),
      )

  last_stores : r ≡ 3 → next_page page i < length ps → Stores store16_items 2
  last_stores q there =
      let f = half_across_written ps page i m x (pos r) after_byte noting.goes.at b.word b.page_within b.place_within b.value_within (score (codes "#s") ∙ b.value) (score (codes "#i") ∙ b.place) (score score_trap ∙ b.trap) there in
      let qs : List (List ℕ) = with_pair ps page i 3 2 m f.0 x in
      let three : after_byte.scores (codes "#r") ≡ Some (pos 3) = number1 ∙ ap (λ n. Some (pos n)) q in (
        qs,
        sym (ap (λ n. overwritten (pages_bytes ps) (byte_address page i n) (bytes_of 2 x)) q ∙ (pairs_written ps b.at.are_pages page i 3 2 m f.0 x b.word f.1 (omega arith) (omega arith) (omega arith)).1),
        noted_then (join half_call last_call) qs (record {
          state = f.2.state;
          leads =
              leads_join half_call last_call after_byte after_byte f.2.state
              (uncalled_leads not_last (codes "h_mem_store16") half_items after_byte (tt, tt) (ap (λ o. not (some_is_in (exactly (pos 3)) o) && true) three))
              (called_leads is_last (codes "h_mem_store16_over") half_across_items after_byte f.2.state (tt, tt) (ap (λ o. some_is_in (exactly (pos 3)) o && true) three) f.2.leads);
          byte = f.2.byte;
          goes = f.2.goes;
          trap = f.2.trap;
          number = f.2.number;
        }),
      )

  -- where the bytes end within the memory
  pub stores32 : byte_address page i r + 4 ≤ 65536 * length ps → Stores store32_items 4
  stores32 l = ⊎_elim whole_stores (λ q. let k = b.byte_within in let n = b.place_within in let p : 0 < r = omega (arith, q) in across_stores p (omega arith)) (cases_eq r 0)

  pub stores8 : Stores store8_items 1
  stores8 = byte_stores

  pub stores16 : byte_address page i r + 2 ≤ 65536 * length ps → Stores store16_items 2
  stores16 l = ⊎_elim (λ q. let n = b.place_within in last_stores q (omega arith)) half_stores (cases_eq r 3)
