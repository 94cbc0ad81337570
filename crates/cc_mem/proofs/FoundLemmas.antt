-- A state from which an access goes on: what it keeps, and the word there.
use Rattle.std.proofs.Common.{◌≡◌, inr, ℕ, ◌*◌, ◌<◌, ◌≤◌, List, [], ◌∷◌, length, Option, Some, true, false, refl, sym, ap, ◌∙◌, subst, arith}
use Rattle.std.specs.Prelude.{ℤ, pos, if◌then◌else◌, option_and_then, codes}
use Rattle.std.specs.Str.{bytes_eq}
use Rattle.std.proofs.lemmas.Bool.{lt-ltb}
use Rattle.mc_nbt.specs.Tree.{Tree, int, compound, of_fields, find, key, select}
use Rattle.mc_nbt.specs.Word.{is_int}
use Rattle.mc_cmd.specs.Form.{Text}
use Rattle.mc_cmd.specs.Layout.{page_words}
use Rattle.mc_cmd.specs.World.{or_zero}
use Rattle.cc_line.specs.Sight.{in_memory, in_rest}
use Rattle.cc_line.specs.Key.{key_memory, key_filling, is_work}
use Rattle.cc_line.specs.State.{State, number_at, set_under, within_key, with_tree, with_score, with_set}
use Rattle.cc_line.specs.Step.{Flow, flow, keep_site, run_act, run_steps}
use Rattle.cc_line.specs.OpenStep.{OpenStep, HasSomeInts, steps_names, ints_in, steps_with, open_act, open_load_site}
use Rattle.cc_line.specs.Item.{step_item, no_more, first}
use Rattle.cc_line.proofs.RunLemmas.{Leads, leads_none}
use Rattle.cc_page.specs.Pages.{ArePages, signed_word, pages_tree, word_at, byte_address}
use Rattle.cc_page.specs.Law.{word_path}
use Rattle.cc_page.proofs.ReadLemmas.{words_stand}
use Rattle.cc_page.proofs.Stored.{words_are_selected}
use Rattle.cc_mem.specs.Standing.{filling_tree}
use Rattle.cc_mem.specs.Address.{filling_site, filling_at, window_word}
use Rattle.cc_mem.specs.Load.{word_item}
use Rattle.cc_mem.specs.Law.{Found}
use Rattle.cc_mem.proofs.Stepping.{act_leads, fill_leads}
use Rattle.cc_mem.proofs.Holding.{with_rest, Holding, holding_work, holding_filling, has_memory}

-- ---- the window's compound

-- the number under a key of a compound
abbrev number_under : Text → Option Tree → ℤ
number_under k (Some (compound fs)) = number_at (find k (of_fields fs))
number_under k _ = pos 0

abbrev natural : ℤ → ℕ
natural (pos n) = n
natural z = 0

-- a compound tells one page
same_page : (o : Option Tree) (p q : ℕ) (x y v w : ℤ) → o ≡ Some (filling_tree p x y) → o ≡ Some (filling_tree q v w) → p ≡ q
same_page o p q x y v w e f = ap (λ o. natural (number_under (codes "p") o)) (sym e ∙ f)

-- ---- what is held of it

module _ (ps : List (List ℕ)) (n : ℕ) (s t : State) (f : Found ps n s t) where
  pub found_holding : Holding ps (pos (65536 * f.page)) (filling_tree f.page (pos f.place) f.filling.0) (pos 0) s t
  found_holding =
      let m = f.memory in
      let e : m.window.page ≡ f.page = same_page (t.keys in_rest key_filling) m.window.page f.page m.window.place m.window.byte (pos f.place) f.filling.0 m.window.filling f.filling.2 in
      record {
        places = f.places;
        spares = f.spares;
        pages = m.pages;
        constants = m.constants;
        base = m.window.base ∙ ap (λ p. Some (pos (65536 * p))) e;
        filling = f.filling.2;
        trap = f.trap;
      }

-- and back
pub found_held : (ps : List (List ℕ)) (page i r n : ℕ) (y : ℤ) (s t : State) → ArePages ps → length ps ≤ 256 → page < length ps → i < page_words → r < 4 → byte_address page i r ≡ n → is_int y ≡ true
    → Holding ps (pos (65536 * page)) (filling_tree page (pos i) y) (pos 0) s t → t.scores (codes "#i") ≡ Some (pos i) → t.scores (codes "#r") ≡ Some (pos r) → Found ps n s t
found_held ps page i r n y s t are few lp li lr e iy h fi fr =
    let ix : is_int (pos i) ≡ true = lt-ltb i 2147483648 (omega arith) in
    record {
      page = page;
      place = i;
      byte = r;
      within = (lp, li, lr);
      is = e;
      at_place = fi;
      at_byte = fr;
      filling = (y, iy, h.filling);
      trap = h.trap;
      places = h.places;
      memory = has_memory ps page (pos i) y (pos 0) s t are few (inr lp) ix iy h;
      spares = h.spares;
    }

module _ (ps : List (List ℕ)) (n : ℕ) (s t : State) (f : Found ps n s t) where
  -- other scratch scores may be written
  pub found_work : (h : Text) (z : ℤ) → is_work h ≡ true → bytes_eq h (codes "#i") ≡ false → bytes_eq h (codes "#r") ≡ false → Found ps n s (with_score t h z)
  found_work h z k a b =
      found_held ps f.page f.place f.byte n f.filling.0 s (with_score t h z) f.memory.are_pages f.memory.few f.within.0 f.within.1 f.within.2 f.is f.filling.1
      (holding_work ps (pos (65536 * f.page)) (filling_tree f.page (pos f.place) f.filling.0) (pos 0) s t (found_holding ps n s t f) h z k)
      (ap (λ c. if c then Some z else t.scores (codes "#i")) a ∙ f.at_place)
      (ap (λ c. if c then Some z else t.scores (codes "#r")) b ∙ f.at_byte)

-- ---- the word

abbrev lines : List OpenStep
lines = open_act (open_load_site (codes "#u") window_word) ∷ []

-- the compound tells page and place of a word: `#u` gets it
pub word_leads : (ps : List (List ℕ)) (page i m : ℕ) (y : ℤ) (t : State) → ArePages ps → page < 2147483648 → i < 2147483648 → t.keys in_memory key_memory ≡ Some (pages_tree ps)
    → t.keys in_rest key_filling ≡ Some (filling_tree page (pos i) y) → word_at ps page i ≡ Some m → Leads (first word_item no_more) t (with_score t (codes "#u") (signed_word m))
word_leads ps page i m y t are lp li e f w =
    let u : State = with_score t (codes "#u") (signed_word m) in
    let ip : is_int (pos page) ≡ true = lt-ltb page 2147483648 lp in
    let ii : is_int (pos i) ≡ true = lt-ltb i 2147483648 li in
    let named : HasSomeInts (Some (filling_tree page (pos i) y)) (steps_names lines) = (pos page, refl, ip, (pos i, refl, ii, tt)) in
    let run : Option Tree → Flow = λ o. run_steps (steps_with (ints_in (option_and_then (λ v. select v []) o)) lines) t in
    let read : Option Tree → Flow = λ o. flow false (with_score t (codes "#u") (number_at o)) 2 in
    fill_leads (codes "h_mem_word") filling_site lines no_more t u u 2
    (subst (λ o. HasSomeInts (option_and_then (λ v. select v []) o) (steps_names lines)) (sym f) named)
    (tt, λ q. tt)
    (ap run f ∙ ap (λ o. read (option_and_then (λ v. select v (word_path page i)) o)) e ∙ ap read ((words_are_selected ps are page i).0 m w))
    (leads_none u)

-- the word of an address that is found
pub record WordThere (ps : List (List ℕ)) (n page i : ℕ) (s t : State) : Type 0 where
  pub word : ℕ
  pub there : word_at ps page i ≡ Some word
  pub low : word < 4294967296
  pub leads : Leads (first word_item no_more) t (with_score t (codes "#u") (signed_word word))
  pub found : Found ps n s (with_score t (codes "#u") (signed_word word))

pub found_word : (ps : List (List ℕ)) (n : ℕ) (s t : State) (f : Found ps n s t) → WordThere ps n f.page f.place s t
found_word ps n s t f =
    let m = f.memory in
    let few : length ps ≤ 256 = m.few in
    let lp : f.page < length ps = f.within.0 in
    let li : f.place < 16384 = f.within.1 in
    let w = words_stand ps m.are_pages f.page f.place f.within.0 f.within.1 in
    record {
      word = w.0;
      there = w.1;
      low = w.2;
      leads = word_leads ps f.page f.place w.0 f.filling.0 t m.are_pages (omega arith) (omega arith) m.pages f.filling.2 w.1;
      found = found_work ps n s t f (codes "#u") (signed_word w.0) refl refl refl;
    }

-- ---- the byte, told by the compound

byte_kept : (t : State) (page r : ℕ) (x y : ℤ) → t.keys in_rest key_filling ≡ Some (filling_tree page x y) → t.scores (codes "#r") ≡ Some (pos r)
    → with_set t (filling_at (codes "r")) (int (or_zero (t.scores (codes "#r")))) ≡ with_rest t key_filling (filling_tree page x (pos r))
byte_kept t page r x y e f =
    ap (λ o. with_set t (filling_at (codes "r")) (int (or_zero o))) f
    ∙ ap (λ o. with_tree t (filling_at (codes "r")) (option_and_then within_key (set_under o (key (codes "r") ∷ []) (int (pos r))))) e

-- a state in which the compound tells page, place and byte
pub record ByteTold (ps : List (List ℕ)) (n page i r : ℕ) (s t : State) : Type 0 where
  pub state : State
  pub leads : Leads (first (step_item (run_act (keep_site (filling_at (codes "r")) (codes "#r")))) no_more) t state
  pub found : Found ps n s state
  pub filling : state.keys in_rest key_filling ≡ Some (filling_tree page (pos i) (pos r))
  pub scores : state.scores ≡ t.scores
  pub memory : state.keys in_memory key_memory ≡ t.keys in_memory key_memory

pub found_byte : (ps : List (List ℕ)) (n : ℕ) (s t : State) (f : Found ps n s t) → ByteTold ps n f.page f.place f.byte s t
found_byte ps n s t f =
    let u : State = with_rest t key_filling (filling_tree f.page (pos f.place) (pos f.byte)) in
    let l : f.byte < 4 = f.within.2 in
    let i : is_int (pos f.byte) ≡ true = lt-ltb f.byte 2147483648 (omega arith) in
    record {
      state = u;
      leads =
          act_leads (keep_site (filling_at (codes "r")) (codes "#r")) no_more t u u tt
          (byte_kept t f.page f.byte (pos f.place) f.filling.0 f.filling.2 f.at_byte) (leads_none u);
      found =
          found_held ps f.page f.place f.byte n (pos f.byte) s u f.memory.are_pages f.memory.few f.within.0 f.within.1 f.within.2 f.is i
          (holding_filling ps (pos (65536 * f.page)) (filling_tree f.page (pos f.place) f.filling.0) (pos 0) s t (found_holding ps n s t f) (filling_tree f.page (pos f.place) (pos f.byte)))
          f.at_place f.at_byte;
      filling = refl;
      scores = refl;
      memory = refl;
    }
