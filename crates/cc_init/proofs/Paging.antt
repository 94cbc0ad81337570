-- The acts that append a page: they fit, and the page stands behind the others then.
use Rattle.std.proofs.Common.{◌≡◌, ℕ, suc, ◌+◌, ◌-◌, ◌*◌, ◌≤◌, ◌<◌, inl, inr, ⊎_elim, List, [], ◌∷◌, ◌++◌, length, map, Some, Bool, true, false, refl, sym, ap, ◌∙◌, subst, arith, length-append}
use Rattle.std.specs.Prelude.{pos, negsuc, if◌then◌else◌, option_and_then, slice_get}
use Rattle.std.specs.List.{list_all}
use Rattle.std.proofs.lemmas.Bool.{cases_lt, lt-ltb, le-ltb}
use Rattle.std.proofs.lemmas.List.{length-map, map-append}
use Rattle.mc_nbt.specs.Path.{is_path}
use Rattle.mc_nbt.specs.Tree.{Tree, int, list_of, depth, add_to, select}
use Rattle.mc_nbt.specs.Word.{is_int, is_key}
use Rattle.mc_nbt.proofs.TreeLemmas.{of_items-items}
use Rattle.mc_cmd.proofs.FormLemmas.{and_both}
use Rattle.wm_ast.specs.declared.module.Limits.{Limits}
use Rattle.wm_flat.specs.FlatTyping.{least_pages}
use Rattle.cc_line.specs.Sight.{in_memory, in_rest, with_key}
use Rattle.cc_line.specs.Key.{key_memory, key_table}
use Rattle.cc_line.specs.State.{State, at_key, append_under, within_key, with_append_copy, with_tree}
use Rattle.cc_line.specs.Fit.{tree_fits, act_fits}
use Rattle.cc_line.proofs.ActLemmas.{within_is}
use Rattle.cc_line.proofs.TableLemmas.{Each, Plain, int_plain, list_plain, plain_fits}
use Rattle.cc_call.specs.Acts.{after_acts}
use Rattle.cc_page.specs.Pages.{AreWords, IsPage, ArePages, signed_word, page_tree, pages_tree}
use Rattle.cc_mem.specs.Standing.{HasMemory, Window}
use Rattle.cc_simulate.specs.Stored.{HasPages}
use Rattle.cc_init.specs.Init.{page_acts}

-- ---- pages as trees

word_is : (m : ℕ) → m < 4294967296 → is_int (signed_word m) ≡ true
word_is m h =
    ⊎_elim
    (λ l. ap (λ b. is_int (if b then pos m else negsuc (4294967296 - suc m))) (lt-ltb m 2147483648 l) ∙ lt-ltb m 2147483648 l)
    (λ g. ap (λ b. is_int (if b then pos m else negsuc (4294967296 - suc m))) (le-ltb m 2147483648 g)
    ∙ lt-ltb (4294967296 - suc m) 2147483648 (omega arith))
    (cases_lt m 2147483648)

words_plain : (ms : List ℕ) → AreWords ms → Each (Plain 0 1 11) (map (λ m. int (signed_word m)) ms)
words_plain [] h = tt
words_plain (m ∷ ms) h = (int_plain (signed_word m) (word_is m h.0), words_plain ms h.1)

-- the longest text of a page
abbrev page_text : ℕ
page_text = 196610

page_plain : (ms : List ℕ) → IsPage ms → Plain 2 2 page_text (page_tree ms)
page_plain ms h =
    let ts : List Tree = map (λ m. int (signed_word m)) ms in
    let long : length ts ≡ 16384 = length-map ms (λ m. int (signed_word m)) ∙ h.0 in
    let size : 2 + length ts * 12 ≡ page_text = omega arith in
    let P : ℕ → Type 0 = λ n. Plain 2 2 n (list_of ts) in
    subst P size (list_plain 0 1 11 ts (words_plain ms h.1))

page_fits : (ms : List ℕ) → IsPage ms → (tree_fits (page_tree ms) ≡ true) × (within_key (page_tree ms) ≡ Some (page_tree ms))
page_fits ms h = plain_fits 2 2 page_text (page_tree ms) (page_plain ms h) (omega arith) (omega arith)

pages_plain : (ps : List (List ℕ)) → ArePages ps → Each (Plain 2 2 page_text) (map page_tree ps)
pages_plain [] h = tt
pages_plain (p ∷ ps) h = (page_plain p h.0, pages_plain ps h.1)

pages_low : (ps : List (List ℕ)) → ArePages ps → depth (pages_tree ps) ≤ 63
pages_low ps h = let d = (list_plain 2 2 page_text (map page_tree ps) (pages_plain ps h)).deep in omega arith

-- the pages stand in the public storage, also where there are none
pub pages_there : (ls : List Limits) (ps : List (List ℕ)) (s : State) → HasPages ls ps s
    → (s.keys in_memory key_memory ≡ Some (pages_tree ps)) × ArePages ps
pages_there [] ps s h = (h.1 ∙ ap (λ qs. Some (pages_tree qs)) (sym h.0), subst ArePages (sym h.0) tt)
pages_there (l ∷ ls) ps s h = (h.pages, h.are_pages)

-- ---- that the acts fit

pub page_acts_fit : (b : Bool) (ms : List ℕ) → IsPage ms → list_all act_fits (page_acts b (Some ms)) ≡ true
unfolding is_path is_key
page_acts_fit true ms h = refl
page_acts_fit false ms h = and_both _ _ (page_fits ms h).0 refl

-- ---- what they do

-- one more page
pub pages_more : (ps : List (List ℕ)) (ms : List ℕ) → ArePages ps → IsPage ms → ArePages (ps ++ (ms ∷ []))
pages_more [] ms h i = (i, tt)
pages_more (p ∷ ps) ms h i = (h.0, pages_more ps ms h.1 i)

adds : (ps : List (List ℕ)) (ms : List ℕ) → add_to (page_tree ms) (pages_tree ps) ≡ Some (pages_tree (ps ++ (ms ∷ [])))
adds [] ms = refl
adds (p ∷ ps) ms =
    ap (λ (us : List Tree). Some (list_of (page_tree p ∷ (us ++ (page_tree ms ∷ []))))) (of_items-items (map page_tree ps))
    ∙ ap (λ (us : List Tree). Some (list_of (page_tree p ∷ us))) (sym (map-append page_tree ps (ms ∷ [])))

-- the state with this page behind those
abbrev pub with_page : State → List (List ℕ) → List ℕ → State
with_page s ps ms = record s {
  keys = with_key (with_key s.keys in_rest key_table (page_tree ms)) in_memory key_memory (pages_tree (ps ++ (ms ∷ [])));
}

pub page_appended : (ps : List (List ℕ)) (ms : List ℕ) (s : State) → ArePages ps → IsPage ms
    → s.keys in_memory key_memory ≡ Some (pages_tree ps) → after_acts (page_acts false (Some ms)) s ≡ with_page s ps ms
page_appended ps ms s h i e =
    let told : State = record s { keys = with_key s.keys in_rest key_table (page_tree ms) } in
    let all : List (List ℕ) = ps ++ (ms ∷ []) in
    ap (λ o. with_append_copy (with_tree s (at_key in_rest key_table) o) (at_key in_memory key_memory)
    (option_and_then (λ u. select u []) ((with_tree s (at_key in_rest key_table) o).keys in_rest key_table)))
    (page_fits ms i).1
    ∙ (ap (λ o. with_tree told (at_key in_memory key_memory) (option_and_then within_key (append_under o [] (page_tree ms)))) e
    ∙ (ap (λ o. with_tree told (at_key in_memory key_memory) (option_and_then within_key o)) (adds ps ms)
    ∙ ap (λ o. with_tree told (at_key in_memory key_memory) o) (within_is (pages_tree all) (pages_low all (pages_more ps ms h i)))))

-- the page that stands in the table still
abbrev pub with_again : State → List (List ℕ) → List ℕ → State
with_again s ps ms = record s { keys = with_key s.keys in_memory key_memory (pages_tree (ps ++ (ms ∷ []))) }

pub page_again : (ps : List (List ℕ)) (ms : List ℕ) (s : State) → ArePages ps → IsPage ms
    → s.keys in_memory key_memory ≡ Some (pages_tree ps) → s.keys in_rest key_table ≡ Some (page_tree ms)
    → after_acts (page_acts true (Some ms)) s ≡ with_again s ps ms
page_again ps ms s h i e t =
    let all : List (List ℕ) = ps ++ (ms ∷ []) in
    ap (λ o. with_append_copy s (at_key in_memory key_memory) (option_and_then (λ u. select u []) o)) t
    ∙ (ap (λ o. with_tree s (at_key in_memory key_memory) (option_and_then within_key (append_under o [] (page_tree ms)))) e
    ∙ (ap (λ o. with_tree s (at_key in_memory key_memory) (option_and_then within_key o)) (adds ps ms)
    ∙ ap (λ o. with_tree s (at_key in_memory key_memory) o) (within_is (pages_tree all) (pages_low all (pages_more ps ms h i)))))

window_more : (ps : List (List ℕ)) (ms : List ℕ) (s : State) → Window ps s → Window (ps ++ (ms ∷ [])) (with_page s ps ms)
window_more ps ms s w = record {
  page = w.page;
  stands = ⊎_elim (λ e. inl e) (λ l. inr (let x = length-append ps (ms ∷ []) in omega arith)) w.stands;
  base = w.base;
  place = w.place;
  byte = w.byte;
  ints = w.ints;
  filling = w.filling;
}

memory_more : (ps : List (List ℕ)) (ms : List ℕ) (s : State) → IsPage ms → length ps < 256 → HasMemory ps s
    → HasMemory (ps ++ (ms ∷ [])) (with_page s ps ms)
memory_more ps ms s i few h =
    let c = h.constants in
    record {
      pages = refl;
      are_pages = pages_more ps ms h.are_pages i;
      few = (let x = length-append ps (ms ∷ []) in omega arith);
      constants = record {
        four = c.four;
        page_words = c.page_words;
        bytes = c.bytes;
        tops = c.tops;
        halves = c.halves;
        rests = c.rests;
      };
      window = window_more ps ms s h.window;
    }

-- a module with a page has a memory
pub one_page_more : (ls : List Limits) (ps : List (List ℕ)) (ms : List ℕ) (s : State) → 0 < least_pages (slice_get ls 0)
    → IsPage ms → length ps < 256 → HasPages ls ps s → HasPages ls (ps ++ (ms ∷ [])) (with_page s ps ms)
one_page_more [] ps ms s l i few h = absurd (omega arith)
one_page_more (x ∷ ls) ps ms s l i few h = memory_more ps ms s i few h

window_again : (ps : List (List ℕ)) (ms : List ℕ) (s : State) → Window ps s → Window (ps ++ (ms ∷ [])) (with_again s ps ms)
window_again ps ms s w = record {
  page = w.page;
  stands = ⊎_elim (λ e. inl e) (λ l. inr (let x = length-append ps (ms ∷ []) in omega arith)) w.stands;
  base = w.base;
  place = w.place;
  byte = w.byte;
  ints = w.ints;
  filling = w.filling;
}

memory_again : (ps : List (List ℕ)) (ms : List ℕ) (s : State) → IsPage ms → length ps < 256 → HasMemory ps s
    → HasMemory (ps ++ (ms ∷ [])) (with_again s ps ms)
memory_again ps ms s i few h =
    let c = h.constants in
    record {
      pages = refl;
      are_pages = pages_more ps ms h.are_pages i;
      few = (let x = length-append ps (ms ∷ []) in omega arith);
      constants = record {
        four = c.four;
        page_words = c.page_words;
        bytes = c.bytes;
        tops = c.tops;
        halves = c.halves;
        rests = c.rests;
      };
      window = window_again ps ms s h.window;
    }

pub one_page_again : (ls : List Limits) (ps : List (List ℕ)) (ms : List ℕ) (s : State) → 0 < least_pages (slice_get ls 0)
    → IsPage ms → length ps < 256 → HasPages ls ps s → HasPages ls (ps ++ (ms ∷ [])) (with_again s ps ms)
one_page_again [] ps ms s l i few h = absurd (omega arith)
one_page_again (x ∷ ls) ps ms s l i few h = memory_again ps ms s i few h
