-- A word that is written: the pages with it, and what else stands.
use Rattle.std.proofs.Common.{◌≡◌, ℕ, zero, suc, ◌<◌, ◌≤◌, max, List, [], ◌∷◌, length, map, Some, true, false, refl, sym, ap, ap₂, ◌∙◌, subst, arith, ◌⊎◌}
use Rattle.std.specs.Prelude.{ℤ, pos, ◌&&◌, if◌then◌else◌, codes, option_and_then}
use Rattle.std.specs.Str.{bytes_eq}
use Rattle.mc_nbt.specs.Tree.{Tree, int, compound, Fields, items, fields, items_depth, depth, place, select}
use Rattle.mc_cmd.specs.Form.{Text}
use Rattle.mc_cmd.specs.Command.{exactly}
use Rattle.mc_cmd.specs.World.{some_is_in}
use Rattle.cc_line.specs.Sight.{Store, in_io, in_memory, in_rest, same_store}
use Rattle.cc_line.specs.Key.{key_memory, key_choice, score_trap}
use Rattle.cc_line.specs.State.{State, selected, set_under, with_tree}
use Rattle.cc_line.specs.Step.{Act, keep_site, in_range, Cond, holds, when, after_act, conds_hold}
use Rattle.cc_line.specs.Core.{Straight}
use Rattle.cc_line.specs.OpenStep.{open_act, open_when, open_keep_site, steps_names, HasInts}
use Rattle.cc_line.specs.Item.{Items, first}
use Rattle.cc_line.proofs.CoreLemmas.{straight_none}
use Rattle.cc_line.proofs.RunLemmas.{Leads}
use Rattle.cc_page.specs.Pages.{ArePages, page_tree, pages_tree, signed_word, word_at, with_word}
use Rattle.cc_page.proofs.PageLemmas.{are_pages_with}
use Rattle.cc_page.proofs.Stored.{words_are_set}
use Rattle.cc_page.proofs.Scores.{by_three}
use Rattle.cc_mem.specs.Address.{filling_site, choice_site, window_word, told_word, at_r, bounds_trap}
use Rattle.cc_mem.specs.Law.{is_access_key, Spares}
use Rattle.cc_mem.specs.Store.{put_item, is_calm, write_first, write_second}
use Rattle.cc_mem.proofs.Near.{At, page_small, small_int, spares_constants}
use Rattle.cc_mem.proofs.Fills.{straight_act, straight_taken, straight_left}
use Rattle.cc_mem.proofs.Filled.{keeps, fill_leads_before, fill_when_leads, fill_when_skips}
use Rattle.cc_mem.proofs.Words.{word_site, filling_selected}

-- ---- pages are three deep

items_low : (f : ℕ → Tree) (k : ℕ) → ((x : ℕ) → depth (f x) ≤ k) → (xs : List ℕ) → items_depth (items (map f xs)) ≤ k
items_low f k h [] = omega arith
items_low f k h (x ∷ xs) = most (depth (f x)) (items_depth (items (map f xs))) k (h x) (items_low f k h xs)
  where
    most : (a b k : ℕ) → a ≤ k → b ≤ k → max a b ≤ k
    most a b k l m = omega arith

pub page_low : (ms : List ℕ) → depth (page_tree ms) ≤ 2
page_low ms = let l = items_low (λ m. int (signed_word m)) 1 (λ m. omega arith) ms in above (items_depth (items (map (λ m. int (signed_word m)) ms))) l
  where
    above : (k : ℕ) → k ≤ 1 → suc k ≤ 2
    above k h = omega arith

pub pages_low : (ps : List (List ℕ)) → depth (pages_tree ps) ≤ 63
pages_low ps = above (items_depth (items (map page_tree ps))) (all ps)
  where
    most : (a b : ℕ) → a ≤ 2 → b ≤ 2 → max a b ≤ 2
    most a b l m = omega arith

    above : (k : ℕ) → k ≤ 2 → suc k ≤ 63
    above k h = omega arith

    all : (ps : List (List ℕ)) → items_depth (items (map page_tree ps)) ≤ 2
    all [] = omega arith
    all (p ∷ ps) = most (depth (page_tree p)) (items_depth (items (map page_tree ps))) (page_low p) (all ps)

pub with_word-length : (ps : List (List ℕ)) (p i x : ℕ) → length (with_word ps p i x) ≡ length ps
with_word-length [] p i x = refl
with_word-length (g ∷ ps) zero i x = refl
with_word-length (g ∷ ps) (suc p) i x = ap suc (with_word-length ps p i x)

-- ---- the keys that accesses write

not_memory : (r : Store) (k : Text) → is_access_key r k ≡ false → same_store in_memory r && bytes_eq key_memory k ≡ false
not_memory in_io k e = refl
not_memory in_memory k e = e
not_memory in_rest k e = refl

-- ---- the state with a word put in its place

abbrev pub put : List (List ℕ) → ℕ → ℕ → ℕ → State → State
put ps p i x s = with_tree s (word_site (pos p) (pos i)) (Some (pages_tree (with_word ps p i x)))

pub word_kept : (ps : List (List ℕ)) (p i m x : ℕ) (h : Text) (s : State) → s.keys in_memory key_memory ≡ Some (pages_tree ps) → ArePages ps → word_at ps p i ≡ Some m → s.scores h ≡ Some (signed_word x)
    → after_act (keep_site (word_site (pos p) (pos i)) h) s ≡ put ps p i x s
word_kept ps p i m x h s k a w e =
    keeps s (word_site (pos p) (pos i)) h (signed_word x) (pages_tree (with_word ps p i x)) e
    (ap (λ o. set_under o (place (pos p) ∷ (place (pos i) ∷ [])) (int (signed_word x))) k ∙ words_are_set ps a p i m x w)
    (pages_low (with_word ps p i x))

pub put_spares : (ps : List (List ℕ)) (p i x : ℕ) (s : State) → Spares s (put ps p i x s)
put_spares ps p i x s = record {
  keys = λ r k e. ap (λ b. if b then Some (pages_tree (with_word ps p i x)) else s.keys r k) (not_memory r k e);
  scores = λ h a b c d. refl;
}

-- the memory then, and its window
pub put_at : (ps : List (List ℕ)) (p i x page : ℕ) (u v : ℤ) (s : State) → x < 4294967296 → At ps page u v s → At (with_word ps p i x) page u v (put ps p i x s)
put_at ps p i x page u v s l a = record {
  pages = refl;
  are_pages = are_pages_with ps p i x a.are_pages l;
  few = subst (λ n. n ≤ 256) (sym (with_word-length ps p i x)) a.few;
  constants = spares_constants s (put ps p i x s) (put_spares ps p i x s) a.constants;
  stands = subst (λ n. (page ≡ 0) ⊎ (page < n)) (sym (with_word-length ps p i x)) a.stands;
  base = a.base;
  place_int = a.place_int;
  byte_int = a.byte_int;
  filling = a.filling;
}

-- ---- the items that put

-- where no trap is recorded, and where one is
pub calm : (s : State) → s.scores score_trap ≡ Some (pos 0) → conds_hold (is_calm ∷ []) s ≡ true
calm s e = ap (λ o. some_is_in (exactly (pos 0)) o && true) e

pub wild : (s : State) → s.scores score_trap ≡ Some (pos bounds_trap) → conds_hold (is_calm ∷ []) s ≡ false
wild s e = ap (λ o. some_is_in (exactly (pos 0)) o && true) e

pub not_zero : (r : ℕ) → 0 < r → r < 4 → some_is_in (exactly (pos 0)) (Some (pos r)) ≡ false
not_zero = by_three (λ r. some_is_in (exactly (pos 0)) (Some (pos r)) ≡ false) refl refl refl

-- what the window's compound tells, and what the other one does
abbrev pub filling_fields : ℕ → ℤ → ℤ → Fields
filling_fields page x y = fields ((codes "i", int x) ∷ ((codes "p", int (pos page)) ∷ ((codes "r", int y) ∷ [])))

abbrev pub told_fields : ℕ → ℕ → Fields
told_fields p i = fields ((codes "a0", int (pos p)) ∷ ((codes "a1", int (pos i)) ∷ []))

abbrev pub Tells : ℕ → ℕ → State → Type 0
Tells p i s = s.keys in_rest key_choice ≡ Some (compound (told_fields p i))

pub told_selected : (p i : ℕ) (s : State) → Tells p i s → selected s choice_site ≡ Some (compound (told_fields p i))
told_selected p i s e = ap (option_and_then (λ u. select u [])) e

module _ (ps : List (List ℕ)) (page i : ℕ) (y : ℤ) (s : State) (a : At ps page (pos i) y s) where
  told_ints : HasInts (filling_fields page (pos i) y) (steps_names (open_act (open_keep_site window_word []) ∷ []))
  told_ints = let l = page_small ps page (pos i) y s a in (pos page, refl, small_int page (omega arith), (pos i, refl, a.place_int, tt))

  -- the word that is loaded, changed
  pub first_written : (m x : ℕ) (ys : Items) (u : State) → word_at ps page i ≡ Some m → s.scores (codes "#u") ≡ Some (signed_word x) → s.scores score_trap ≡ Some (pos 0)
      → Leads ys (put ps page i x s) u → Leads (first write_first ys) s u
  first_written m x ys u w e t g =
      fill_when_leads (is_calm ∷ []) (codes "h_mem_put_word") filling_site (open_act (open_keep_site window_word (codes "#u")) ∷ []) ys s (put ps page i x s) u (filling_fields page (pos i) y)
      (tt, tt) (calm s t) (filling_selected s page (pos i) y a.filling) told_ints
      (straight_act (keep_site (word_site (pos page) (pos i)) (codes "#u")) [] s (put ps page i x s) (put ps page i x s) tt (word_kept ps page i m x (codes "#u") s a.pages a.are_pages w e) (straight_none (put ps page i x s)))
      g

  -- the next word, in the place that is told
  pub second_written : (p j n x : ℕ) (ys : Items) (u : State) → Tells p j s → p < 2147483648 → j < 2147483648 → word_at ps p j ≡ Some n → s.scores (codes "#d") ≡ Some (signed_word x) → s.scores score_trap ≡ Some (pos 0)
      → Leads ys (put ps p j x s) u → Leads (first write_second ys) s u
  second_written p j n x ys u c lp lj w e t g =
      fill_when_leads (is_calm ∷ []) (codes "h_mem_put_told") choice_site (open_act (open_keep_site told_word (codes "#d")) ∷ []) ys s (put ps p j x s) u (told_fields p j)
      (tt, tt) (calm s t) (told_selected p j s c) (pos p, refl, small_int p lp, (pos j, refl, small_int j lj, tt))
      (straight_act (keep_site (word_site (pos p) (pos j)) (codes "#d")) [] s (put ps p j x s) (put ps p j x s) tt (word_kept ps p j n x (codes "#d") s a.pages a.are_pages w e) (straight_none (put ps p j x s)))
      g

  -- whether the byte is the word's first one
  abbrev whole : List Cond
  whole = is_calm ∷ (holds (in_range at_r (exactly (pos 0))) ∷ [])

  abbrev put_act : Act
  put_act = keep_site (word_site (pos page) (pos i)) (codes "#s")

  put_leads : (ys : Items) (t u : State) → Straight (when whole put_act ∷ []) s t → Leads ys t u → Leads (first put_item ys) s u
  put_leads ys t u d g =
      fill_leads_before (codes "h_mem_put") filling_site (open_when whole (open_keep_site window_word (codes "#s")) ∷ []) ys s t u (filling_fields page (pos i) y) (filling_selected s page (pos i) y a.filling) told_ints d g

  pub whole_put : (m x : ℕ) (ys : Items) (u : State) → word_at ps page i ≡ Some m → s.scores (codes "#s") ≡ Some (signed_word x) → s.scores score_trap ≡ Some (pos 0) → s.scores (codes "#r") ≡ Some (pos 0)
      → Leads ys (put ps page i x s) u → Leads (first put_item ys) s u
  whole_put m x ys u w e t r g =
      put_leads ys (put ps page i x s) u
      (straight_taken whole put_act [] s (put ps page i x s) (put ps page i x s) (tt, (tt, tt)) tt
      (ap₂ (λ o q. some_is_in (exactly (pos 0)) o && (some_is_in (exactly (pos 0)) q && true)) t r)
      (word_kept ps page i m x (codes "#s") s a.pages a.are_pages w e) (straight_none (put ps page i x s)))
      g

  -- a part of it
  pub none_put : (r : ℕ) (ys : Items) (u : State) → 0 < r → r < 4 → s.scores score_trap ≡ Some (pos 0) → s.scores (codes "#r") ≡ Some (pos r) → Leads ys s u → Leads (first put_item ys) s u
  none_put r ys u l h t e g =
      put_leads ys s u
      (straight_left whole put_act [] s s (tt, (tt, tt))
      (ap₂ (λ o q. some_is_in (exactly (pos 0)) o && (some_is_in (exactly (pos 0)) q && true)) t e ∙ ap (λ b. b && true) (not_zero r l h)) (straight_none s))
      g

pub told_skipped : (s : State) (ys : Items) (u : State) → s.scores score_trap ≡ Some (pos bounds_trap) → Leads ys s u → Leads (first write_second ys) s u
told_skipped s ys u t g = fill_when_skips (is_calm ∷ []) (codes "h_mem_put_told") choice_site (open_act (open_keep_site told_word (codes "#d")) ∷ []) ys s u (tt, tt) (wild s t) g

pub word_skipped : (s : State) (ys : Items) (u : State) → s.scores score_trap ≡ Some (pos bounds_trap) → Leads ys s u → Leads (first write_first ys) s u
word_skipped s ys u t g = fill_when_skips (is_calm ∷ []) (codes "h_mem_put_word") filling_site (open_act (open_keep_site window_word (codes "#u")) ∷ []) ys s u (tt, tt) (wild s t) g

-- with any place in the window's compound
pub put_skipped : (ps : List (List ℕ)) (page : ℕ) (x y : ℤ) (s : State) → At ps page x y s → s.scores score_trap ≡ Some (pos bounds_trap) → (ys : Items) (u : State) → Leads ys s u → Leads (first put_item ys) s u
put_skipped ps page x y s a t ys u g =
    let cs : List Cond = is_calm ∷ (holds (in_range at_r (exactly (pos 0))) ∷ []) in
    let l = page_small ps page x y s a in
    fill_leads_before (codes "h_mem_put") filling_site (open_when cs (open_keep_site window_word (codes "#s")) ∷ []) ys s s u (filling_fields page x y) (filling_selected s page x y a.filling)
    (pos page, refl, small_int page (omega arith), (x, refl, a.place_int, tt))
    (straight_left cs (keep_site (word_site (pos page) x) (codes "#s")) [] s s (tt, (tt, tt)) (ap (λ o. some_is_in (exactly (pos 0)) o && (some_is_in (exactly (pos 0)) (s.scores (codes "#r")) && true)) t) (straight_none s))
    g
