-- Stores that trap: nothing is written, and the trap stays recorded.
use Rattle.std.proofs.Common.{◌≡◌, ⊎_elim, length, ℕ, ◌<◌, ◌≤◌, List, [], ◌∷◌, Some, true, false, refl, ap, ◌∙◌, arith}
use Rattle.std.specs.Prelude.{ℤ, pos, ◌&&◌, not, codes}
use Rattle.std.proofs.lemmas.Bool.{cases_eq}
use Rattle.mc_cmd.specs.Form.{Text}
use Rattle.mc_cmd.specs.Command.{exactly}
use Rattle.mc_cmd.specs.World.{some_is_in}
use Rattle.cc_line.specs.Key.{score_trap}
use Rattle.cc_line.specs.State.{State, with_score}
use Rattle.cc_line.specs.Step.{Cond, conds_hold, CondsReady}
use Rattle.cc_line.specs.OpenStep.{OpenStep, steps_with, steps_names, HasSomeInts, ints_in}
use Rattle.cc_line.specs.Item.{step_item, call_when, fill_item, Items, no_more, first, join, steps_items}
use Rattle.cc_line.proofs.RunLemmas.{Leads, leads_none, leads_join, straight_leads, called_leads, uncalled_leads}
use Rattle.mc_nbt.specs.Word.{is_int}
use Rattle.wm_ast.specs.declared.operation.StoreOp.{StoreOp}
use Rattle.wm_ast.specs.declared.operation.StoreOp.TheVariants.{I32Store, I32Store8, I32Store16}
use Rattle.cc_page.specs.Pages.{next_page}
use Rattle.cc_mem.specs.Standing.{filling_tree}
use Rattle.cc_mem.specs.Law.{is_store}
use Rattle.cc_mem.specs.Address.{bounds_trap, filling_site}
use Rattle.cc_mem.specs.Load.{word_item, next_item, next_items, is_unaligned, is_last, byte_step}
use Rattle.cc_mem.specs.Store.{spread_steps, change_steps, write_first, write_second, across_items, store32_items, store8_items, half_over_steps, half_across_items, half_items, not_last, store16_items, write_items}
use Rattle.cc_mem.proofs.Near.{Near, near_none, near_score, At, at_near, small_int, page_small}
use Rattle.cc_mem.proofs.Words.{number_in, word_leads}
use Rattle.cc_mem.proofs.Next.{NextMissing, next_scores, next_missing, next_trapped, not_exactly}
use Rattle.cc_mem.proofs.Accesses.{Goes, near_goes, goes_then, Misses, misses_so, call_leads, Notes, notes, noted, only, any_near, any_fill}
use Rattle.cc_mem.proofs.Puts.{not_zero, none_put, told_skipped, word_skipped, put_skipped}

-- the scores that stores write, but for those of the next word
abbrev store_scores : List Text
store_scores = codes "#u" ∷ (codes "#y" ∷ (codes "#z" ∷ (codes "#s" ∷ (codes "#d" ∷ []))))

-- items that leave the trap recorded, and the byte
record Refuses (xs : Items) (ps : List (List ℕ)) (page : ℕ) (x z : ℤ) (s : State) : Type 0 where
  state : State
  leads : Leads xs s state
  goes : Goes ps page x z s state
  trap : state.scores score_trap ≡ Some (pos bounds_trap)
  number : state.scores (codes "#r") ≡ s.scores (codes "#r")

refused : (xs : Items) (ps : List (List ℕ)) (page : ℕ) (x z : ℤ) (s : State) → Refuses xs ps page x z s → (t : State) × Misses xs ps s t
refused xs ps page x z s f = (f.state, misses_so xs ps page x z s f.state f.leads f.trap f.goes)

-- one after the other
refuses_then : (xs ys : Items) (ps : List (List ℕ)) (page : ℕ) (x v w : ℤ) (s : State) (f : Refuses xs ps page x v s) → Refuses ys ps page x w f.state → Refuses (join xs ys) ps page x w s
refuses_then xs ys ps page x v w s f g = record {
  state = g.state;
  leads = leads_join xs ys s f.state g.state f.leads g.leads;
  goes = goes_then ps page x v x w s f.state g.state f.goes g.goes;
  trap = g.trap;
  number = g.number ∙ f.number;
}

-- a call
refuses_called : (cs : List Cond) (f : Text) (xs : Items) (ps : List (List ℕ)) (page : ℕ) (x z : ℤ) (s : State) → CondsReady cs s → conds_hold cs s ≡ true → Refuses xs ps page x z s → Refuses (first (call_when cs f xs) no_more) ps page x z s
refuses_called cs f xs ps page x z s c h g = record { state = g.state; leads = called_leads cs f xs s g.state c h g.leads; goes = g.goes; trap = g.trap; number = g.number }

-- whether the byte is the first one, and whether it is the last
module _ (r : ℕ) (s : State) (e : s.scores (codes "#r") ≡ Some (pos r)) where
  first_byte : r ≡ 0 → conds_hold is_unaligned s ≡ false
  first_byte q = ap (λ o. not (some_is_in (exactly (pos 0)) o) && true) e ∙ ap (λ n. not (some_is_in (exactly (pos 0)) (Some (pos n))) && true) q

  later_byte : 0 < r → r < 4 → conds_hold is_unaligned s ≡ true
  later_byte l h = ap (λ o. not (some_is_in (exactly (pos 0)) o) && true) e ∙ ap (λ b. not b && true) (not_zero r l h)

  last_byte : r ≡ 3 → (conds_hold not_last s ≡ false) × (conds_hold is_last s ≡ true)
  last_byte q = (
    ap (λ o. not (some_is_in (exactly (pos 3)) o) && true) e ∙ ap (λ n. not (some_is_in (exactly (pos 3)) (Some (pos n))) && true) q,
    ap (λ o. some_is_in (exactly (pos 3)) o && true) e ∙ ap (λ n. some_is_in (exactly (pos 3)) (Some (pos n)) && true) q,
  )

  other_byte : (r ≡ 3 → ⊥) → (conds_hold not_last s ≡ true) × (conds_hold is_last s ≡ false)
  other_byte q = (
    ap (λ o. not (some_is_in (exactly (pos 3)) o) && true) e ∙ ap (λ b. not b && true) (not_exactly 3 r q),
    ap (λ o. some_is_in (exactly (pos 3)) o && true) e ∙ ap (λ b. b && true) (not_exactly 3 r q),
  )

-- ---- where the trap is recorded

module _ (ps : List (List ℕ)) (page : ℕ) (x y : ℤ) (s : State) (a : At ps page x y s) (t : s.scores score_trap ≡ Some (pos bounds_trap)) where
  refuses_near : (xs : Items) (u : State) → Leads xs s u → Near store_scores s u → Refuses xs ps page x y s
  refuses_near xs u f n = record {
    state = u;
    leads = f;
    goes = near_goes store_scores ps page x y s u refl a n;
    trap = n.scores score_trap refl ∙ t;
    number = n.scores (codes "#r") refl;
  }

  refuses_none : (xs : Items) → Leads xs s s → Refuses xs ps page x y s
  refuses_none xs f = refuses_near xs s f (near_none store_scores s)

  no_first : Refuses (first write_first no_more) ps page x y s
  no_first = refuses_none (first write_first no_more) (word_skipped s no_more s t (leads_none s))

  no_second : Refuses (first write_second (first write_first no_more)) ps page x y s
  no_second = refuses_none (first write_second (first write_first no_more)) (told_skipped s (first write_first no_more) s t (word_skipped s no_more s t (leads_none s)))

  uncalled : (cs : List Cond) (f : Text) (xs : Items) → CondsReady cs s → conds_hold cs s ≡ false → Refuses (first (call_when cs f xs) no_more) ps page x y s
  uncalled cs f xs c h = refuses_none (first (call_when cs f xs) no_more) (uncalled_leads cs f xs s c h)

  halves : Refuses (steps_items half_over_steps) ps page x y s
  halves = let d = any_near store_scores half_over_steps s refl in refuses_near (steps_items half_over_steps) d.0 (straight_leads half_over_steps s d.0 d.1) d.2

  byte_noted : (r : ℕ) → r < 4 → s.scores (codes "#r") ≡ Some (pos r) → Refuses (first (step_item byte_step) no_more) ps page x (pos r) s
  byte_noted r h e =
      let n : Notes ps page x r s (noted ps page x y r s a e h) = notes ps page x y r s a e h in
      record {
        state = noted ps page x y r s a e h;
        leads = n.leads;
        goes = n.goes;
        trap = ap (λ f. f score_trap) n.scores ∙ t;
        number = ap (λ f. f (codes "#r")) n.scores;
      }

-- helpers that the window's compound fills, where it tells the byte
module _ (ps : List (List ℕ)) (page : ℕ) (x : ℤ) (r : ℕ) (s : State) (a : At ps page x (pos r) s) (t : s.scores score_trap ≡ Some (pos bounds_trap)) where
  abbrev b : ℤ
  b = pos r

  fills : (f : Text) (xs : List OpenStep) → HasSomeInts (Some (filling_tree page x b)) (steps_names xs) → only store_scores (steps_with (ints_in (Some (filling_tree page x b))) xs) ≡ true
      → Refuses (first (fill_item f filling_site xs) no_more) ps page x b s
  fills f xs g k = let d = any_fill store_scores f xs ps page x b s a g k in refuses_near ps page x b s a t (first (fill_item f filling_site xs) no_more) d.0 d.1 d.2

  page_int : is_int (pos page) ≡ true
  page_int = let l = page_small ps page x b s a in small_int page (omega arith)

  spreads : Refuses (first (fill_item (codes "h_mem_spread") filling_site spread_steps) no_more) ps page x b s
  spreads = fills (codes "h_mem_spread") spread_steps (b, refl, a.byte_int, (b, refl, a.byte_int, (b, refl, a.byte_int, (b, refl, a.byte_int, (b, refl, a.byte_int, tt))))) refl

  changes8 : Refuses (first (fill_item (codes "h_mem_change8") filling_site (change_steps 1)) no_more) ps page x b s
  changes8 = fills (codes "h_mem_change8") (change_steps 1) (pos page, refl, page_int, (x, refl, a.place_int, (b, refl, a.byte_int, (b, refl, a.byte_int, tt)))) refl

  changes16 : Refuses (first (fill_item (codes "h_mem_change16") filling_site (change_steps 2)) no_more) ps page x b s
  changes16 = fills (codes "h_mem_change16") (change_steps 2) (pos page, refl, page_int, (x, refl, a.place_int, (b, refl, a.byte_int, (b, refl, a.byte_int, tt)))) refl

  -- with the write behind
  half_refuses : Refuses half_items ps page x b s
  half_refuses =
      let c : Items = first (fill_item (codes "h_mem_change16") filling_site (change_steps 2)) no_more in
      let f = changes16 in
      refuses_then c (first write_first no_more) ps page x b b s f (no_first ps page x b f.state f.goes.at f.trap)

-- ---- over two words

module _ (ps : List (List ℕ)) (page : ℕ) (x y : ℤ) (s : State) (a : At ps page x y s) where
  abbrev loaded : State
  loaded = with_score s (codes "#u") (number_in s (pos page) x)

  loads : Near store_scores s loaded
  loads = near_score store_scores s (codes "#u") (number_in s (pos page) x) refl

  loaded_at : At ps page x y loaded
  loaded_at = at_near store_scores ps page x y s loaded refl a loads

  abbrev Lacks : Type 0
  Lacks = (t : State) × NextMissing loaded t

  abbrev two_words : Items
  two_words = first word_item (first next_item no_more)

  words_lack : Lacks → Refuses two_words ps page x y s
  words_lack m = record {
    state = m.0;
    leads = leads_join (first word_item no_more) (first next_item no_more) s loaded m.0 (word_leads ps page x y s a) (call_leads (codes "h_mem_next") next_items loaded m.0 m.1.leads);
    goes = goes_then ps page x y x y s loaded m.0 (near_goes store_scores ps page x y s loaded refl a loads) (near_goes (score_trap ∷ next_scores) ps page x y loaded m.0 refl loaded_at m.1.near);
    trap = m.1.trap;
    number = m.1.near.scores (codes "#r") refl;
  }

  across_lacks : (r : ℕ) → r < 4 → s.scores (codes "#r") ≡ Some (pos r) → Lacks → Refuses across_items ps page x (pos r) s
  across_lacks r h e m =
      let c : Items = first (fill_item (codes "h_mem_spread") filling_site spread_steps) no_more in
      let last : Items = first write_second (first write_first no_more) in
      let f = words_lack m in
      let g = byte_noted ps page x y f.state f.goes.at f.trap r h (f.number ∙ e) in
      let d = spreads ps page x r g.state g.goes.at g.trap in
      refuses_then two_words (first (step_item byte_step) (join c last)) ps page x y (pos r) s f
      (refuses_then (first (step_item byte_step) no_more) (join c last) ps page x (pos r) (pos r) f.state g
      (refuses_then c last ps page x (pos r) (pos r) g.state d (no_second ps page x (pos r) d.state d.goes.at d.trap)))

  half_lacks : Lacks → Refuses half_across_items ps page x y s
  half_lacks m =
      let last : Items = first write_second (first write_first no_more) in
      let f = words_lack m in
      let d = halves ps page x y f.state f.goes.at f.trap in
      refuses_then two_words (join (steps_items half_over_steps) last) ps page x y y s f
      (refuses_then (steps_items half_over_steps) last ps page x y y f.state d (no_second ps page x y d.state d.goes.at d.trap))

-- ---- all of them

module _ (ps : List (List ℕ)) (page : ℕ) (x y : ℤ) (s : State) (a : At ps page x y s) (r : ℕ) (h : r < 4) (e : s.scores (codes "#r") ≡ Some (pos r)) where
  abbrev across_call : Items
  across_call = first (call_when is_unaligned (codes "h_mem_store32") across_items) no_more

  across_called : 0 < r → Lacks ps page x y s a → Refuses across_call ps page x (pos r) s
  across_called l m = refuses_called is_unaligned (codes "h_mem_store32") across_items ps page x (pos r) s (tt, tt) (later_byte r s e l h) (across_lacks ps page x y s a r h e m)

  -- what is put before
  put_then : (z : ℤ) → s.scores score_trap ≡ Some (pos bounds_trap) → Refuses across_call ps page x z s → (u : State) × Misses store32_items ps s u
  put_then z t g = refused store32_items ps page x z s (record { state = g.state; leads = put_skipped ps page x y s a t across_call g.state g.leads; goes = g.goes; trap = g.trap; number = g.number })

  missed32 : (i : ℕ) → i < 16384 → s.scores (codes "#i") ≡ Some (pos i) → s.scores score_trap ≡ Some (pos bounds_trap) → (u : State) × Misses store32_items ps s u
  missed32 i l at t =
      ⊎_elim
      (λ q. put_then y t (uncalled ps page x y s a t is_unaligned (codes "h_mem_store32") across_items (tt, tt) (first_byte r s e q)))
      (λ q. put_then (pos r) t (across_called (omega (arith, q)) (next_trapped ps page i x y (loaded ps page x y s a) (loaded_at ps page x y s a) at l t)))
      (cases_eq r 0)

  missed8 : s.scores score_trap ≡ Some (pos bounds_trap) → (u : State) × Misses store8_items ps s u
  missed8 t =
      let n : Items = first (step_item byte_step) no_more in
      let c : Items = first (fill_item (codes "h_mem_change8") filling_site (change_steps 1)) no_more in
      let f = byte_noted ps page x y s a t r h e in
      let g = changes8 ps page x r f.state f.goes.at f.trap in
      refused store8_items ps page x (pos r) s
      (refuses_then n (join c (first write_first no_more)) ps page x (pos r) (pos r) s f
      (refuses_then c (first write_first no_more) ps page x (pos r) (pos r) f.state g (no_first ps page x (pos r) g.state g.goes.at g.trap)))

  -- the byte is noted first
  abbrev after_byte : State
  after_byte = noted ps page x y r s a e h

  noting : Notes ps page x r s after_byte
  noting = notes ps page x y r s a e h

  after_at : At ps page x (pos r) after_byte
  after_at = noting.goes.at

  after_number : after_byte.scores (codes "#r") ≡ Some (pos r)
  after_number = ap (λ f. f (codes "#r")) noting.scores ∙ e

  abbrev half_call : Items
  half_call = first (call_when not_last (codes "h_mem_store16") half_items) no_more

  abbrev last_call : Items
  last_call = first (call_when is_last (codes "h_mem_store16_over") half_across_items) no_more

  noted_then : Refuses (join half_call last_call) ps page x (pos r) after_byte → (u : State) × Misses store16_items ps s u
  noted_then g =
      refused store16_items ps page x (pos r) s
      (record {
        state = g.state;
        leads = leads_join (first (step_item byte_step) no_more) (join half_call last_call) s after_byte g.state noting.leads g.leads;
        goes = goes_then ps page x (pos r) x (pos r) s after_byte g.state noting.goes g.goes;
        trap = g.trap;
        number = g.number ∙ ap (λ f. f (codes "#r")) noting.scores;
      })

  last_lacks : r ≡ 3 → Lacks ps page x (pos r) after_byte after_at → (u : State) × Misses store16_items ps s u
  last_lacks q m =
      let w = last_byte r after_byte after_number q in
      let g : Refuses last_call ps page x (pos r) after_byte =
      refuses_called is_last (codes "h_mem_store16_over") half_across_items ps page x (pos r) after_byte (tt, tt) w.1 (half_lacks ps page x (pos r) after_byte after_at m) in
      noted_then (record {
        state = g.state;
        leads = leads_join half_call last_call after_byte after_byte g.state (uncalled_leads not_last (codes "h_mem_store16") half_items after_byte (tt, tt) w.0) g.leads;
        goes = g.goes;
        trap = g.trap;
        number = g.number;
      })

  other_missed : (r ≡ 3 → ⊥) → after_byte.scores score_trap ≡ Some (pos bounds_trap) → (u : State) × Misses store16_items ps s u
  other_missed q t =
      let w = other_byte r after_byte after_number q in
      let f : Refuses half_call ps page x (pos r) after_byte =
      refuses_called not_last (codes "h_mem_store16") half_items ps page x (pos r) after_byte (tt, tt) w.0 (half_refuses ps page x r after_byte after_at t) in
      let v = other_byte r f.state (f.number ∙ after_number) q in
      noted_then
      (refuses_then half_call last_call ps page x (pos r) (pos r) after_byte f (uncalled ps page x (pos r) f.state f.goes.at f.trap is_last (codes "h_mem_store16_over") half_across_items (tt, tt) v.1))

  missed16 : (i : ℕ) → i < 16384 → s.scores (codes "#i") ≡ Some (pos i) → s.scores score_trap ≡ Some (pos bounds_trap) → (u : State) × Misses store16_items ps s u
  missed16 i l at t =
      let same : after_byte.scores ≡ s.scores = noting.scores in
      let t' : after_byte.scores score_trap ≡ Some (pos bounds_trap) = ap (λ f. f score_trap) same ∙ t in
      ⊎_elim
      (λ q. last_lacks q (next_trapped ps page i x (pos r) (loaded ps page x (pos r) after_byte after_at) (loaded_at ps page x (pos r) after_byte after_at) (ap (λ f. f (codes "#i")) same ∙ at) l t'))
      (λ q. other_missed q t') (cases_eq r 3)

-- whatever the place and the byte, where the trap is recorded before
pub store_missed : (op : StoreOp) (ps : List (List ℕ)) (page i r : ℕ) (x y : ℤ) (s : State) → is_store op ≡ true → At ps page x y s → i < 16384 → r < 4 → s.scores (codes "#i") ≡ Some (pos i) → s.scores (codes "#r") ≡ Some (pos r) → s.scores score_trap ≡ Some (pos bounds_trap)
    → (t : State) × Misses (write_items op) ps s t
store_missed I32Store ps page i r x y s k a li h at e t = missed32 ps page x y s a r h e i li at t
store_missed I32Store8 ps page i r x y s k a li h at e t = missed8 ps page x y s a r h e t
store_missed I32Store16 ps page i r x y s k a li h at e t = missed16 ps page x y s a r h e i li at t
store_missed _ ps page i r x y s k a li h at e t = absurd cc

-- where the next word doesn't stand
pub store_lacks32 : (ps : List (List ℕ)) (page i r : ℕ) (y : ℤ) (s : State) → At ps page (pos i) y s → i < 16384 → 0 < r → r < 4 → s.scores (codes "#i") ≡ Some (pos i) → s.scores (codes "#r") ≡ Some (pos r) → s.scores score_trap ≡ Some (pos 0)
    → length ps ≤ next_page page i → (t : State) × Misses store32_items ps s t
store_lacks32 ps page i r y s a li l h at e t out =
    let xs : Items = across_call ps page (pos i) y s a r h e in
    let g = across_called ps page (pos i) y s a r h e l (next_missing ps page i (pos i) y (loaded ps page (pos i) y s a) (loaded_at ps page (pos i) y s a) at li out) in
    refused store32_items ps page (pos i) (pos r) s (record { state = g.state; leads = none_put ps page i y s a r xs g.state l h t e g.leads; goes = g.goes; trap = g.trap; number = g.number })

pub store_lacks16 : (ps : List (List ℕ)) (page i r : ℕ) (y : ℤ) (s : State) → At ps page (pos i) y s → i < 16384 → r < 4 → r ≡ 3 → s.scores (codes "#i") ≡ Some (pos i) → s.scores (codes "#r") ≡ Some (pos r)
    → length ps ≤ next_page page i → (t : State) × Misses store16_items ps s t
store_lacks16 ps page i r y s a li h q at e out =
    let x : ℤ = pos i in
    let u : State = after_byte ps page x y s a r h e in
    let b : At ps page x (pos r) u = after_at ps page x y s a r h e in
    let same : u.scores ≡ s.scores = (noting ps page x y s a r h e).scores in
    last_lacks ps page x y s a r h e q (next_missing ps page i x (pos r) (loaded ps page x (pos r) u b) (loaded_at ps page x (pos r) u b) (ap (λ f. f (codes "#i")) same ∙ at) li out)
