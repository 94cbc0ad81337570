-- What accesses keep on their way: the memory, its constants, the window, and all that is not theirs to write.
use Rattle.std.proofs.Common.{◌≡◌, ℕ, zero, suc, ◌*◌, ◌<◌, ◌≤◌, ◌⊎◌, List, [], ◌∷◌, length, Some, true, false, refl, ap, ◌∙◌, arith}
use Rattle.std.specs.Prelude.{ℤ, pos, ◌&&◌, if◌then◌else◌}
use Rattle.std.specs.Fmt.{digits}
use Rattle.std.specs.Str.{bytes_eq}
use Rattle.std.proofs.lemmas.Bool.{or_parts}
use Rattle.mc_nbt.specs.Tree.{Tree}
use Rattle.mc_nbt.specs.Word.{is_int}
use Rattle.mc_cmd.specs.Form.{Text}
use Rattle.cc_line.specs.Sight.{Store, in_io, in_memory, in_rest, same_store, with_key}
use Rattle.cc_line.specs.Key.{key_memory, key_filling, key_table, key_choice, score_trap, is_work, is_work_key, score_window, score_four, score_page_words, scale_of}
use Rattle.cc_line.specs.State.{State, with_score}
use Rattle.cc_line.proofs.CoreLemmas.{work_apart}
use Rattle.cc_page.specs.Pages.{ArePages, pages_tree}
use Rattle.cc_mem.specs.Standing.{stem_byte, stem_top, stem_half, stem_rest, Constants, filling_tree, HasMemory}
use Rattle.cc_mem.specs.Law.{is_access_key, Spares}

-- a state with another tree under a key of `in_rest`
abbrev pub with_rest : State → Text → Tree → State
with_rest s k t = record s { keys = with_key s.keys in_rest k t }

-- ---- constants

-- a score that is no constant
pub record Apart (h : Text) : Type 0 where
  pub four : bytes_eq h score_four ≡ false
  pub page_words : bytes_eq h score_page_words ≡ false
  pub bytes : (r : ℕ) → r < 4 → bytes_eq h (scale_of stem_byte r) ≡ false
  pub tops : (r : ℕ) → r < 4 → bytes_eq h (scale_of stem_top r) ≡ false
  pub halves : (r : ℕ) → r < 4 → bytes_eq h (scale_of stem_half r) ≡ false
  pub rests : (r : ℕ) → r < 4 → bytes_eq h (scale_of stem_rest r) ≡ false

pub constants_with : (s : State) (h : Text) (z : ℤ) → Apart h → Constants s → Constants (with_score s h z)
constants_with s h z a c =
    let keep : (g : Text) → bytes_eq h g ≡ false → (with_score s h z).scores g ≡ s.scores g = λ g e. ap (λ b. if b then Some z else s.scores g) e in
    record {
      four = keep score_four a.four ∙ c.four;
      page_words = keep score_page_words a.page_words ∙ c.page_words;
      bytes = λ r l. keep (scale_of stem_byte r) (a.bytes r l) ∙ c.bytes r l;
      tops = λ r l. keep (scale_of stem_top r) (a.tops r l) ∙ c.tops r l;
      halves = λ r l. let k : r < 4 = omega arith in keep (scale_of stem_half r) (a.halves r k) ∙ c.halves r l;
      rests = λ r m l. keep (scale_of stem_rest r) (a.rests r l) ∙ c.rests r m l;
    }

pub trap_apart : Apart score_trap
trap_apart = record { four = refl; page_words = refl; bytes = λ r l. refl; tops = λ r l. refl; halves = λ r l. refl; rests = λ r l. refl }

pub window_apart : Apart score_window
window_apart = record { four = refl; page_words = refl; bytes = λ r l. refl; tops = λ r l. refl; halves = λ r l. refl; rests = λ r l. refl }

-- a scale's name is longer than that of a scratch score
not_work : (b r : ℕ) → r < 4 → is_work (scale_of (35 ∷ (b ∷ [])) r) ≡ false
unfolding digits
not_work b zero l = refl
not_work b (suc zero) l = refl
not_work b (suc (suc zero)) l = refl
not_work b (suc (suc (suc zero))) l = refl
not_work b (suc (suc (suc (suc r)))) l = absurd (omega arith)

pub works_apart : (h : Text) → is_work h ≡ true → Apart h
works_apart h k = record {
  four = work_apart h score_four k refl;
  page_words = work_apart h score_page_words k refl;
  bytes = λ r l. work_apart h (scale_of stem_byte r) k (not_work 98 r l);
  tops = λ r l. work_apart h (scale_of stem_top r) k (not_work 100 r l);
  halves = λ r l. work_apart h (scale_of stem_half r) k (not_work 99 r l);
  rests = λ r l. work_apart h (scale_of stem_rest r) k (not_work 102 r l);
}

-- ---- what is kept

-- a later state: its window begins at this address, its compound is this tree, and this trap is recorded
pub record Holding (ps : List (List ℕ)) (b : ℤ) (u : Tree) (z : ℤ) (s t : State) : Type 0 where
  pub places : t.places ≡ s.places
  pub spares : Spares s t
  pub pages : t.keys in_memory key_memory ≡ Some (pages_tree ps)
  pub constants : Constants t
  pub base : t.scores score_window ≡ Some b
  pub filling : t.keys in_rest key_filling ≡ Some u
  pub trap : t.scores score_trap ≡ Some z

pub spares_none : (s : State) → Spares s s
spares_none s = record { keys = λ r k e. refl; scores = λ h a b c d. refl }

module _ (ps : List (List ℕ)) (base : ℤ) (filling : Tree) (trap : ℤ) (s t : State) (h : Holding ps base filling trap s t) where
  -- a scratch score is written
  pub holding_work : (g : Text) (z : ℤ) → is_work g ≡ true → Holding ps base filling trap s (with_score t g z)
  holding_work g z k = record {
    places = h.places;
    spares = record { keys = h.spares.keys; scores = λ j a b c d. ap (λ b. if b then Some z else t.scores j) (work_apart g j k b) ∙ h.spares.scores j a b c d };
    pages = h.pages;
    constants = constants_with t g z (works_apart g k) h.constants;
    base = ap (λ b. if b then Some z else t.scores score_window) (work_apart g score_window k refl) ∙ h.base;
    filling = h.filling;
    trap = ap (λ b. if b then Some z else t.scores score_trap) (work_apart g score_trap k refl) ∙ h.trap;
  }

  -- a trap is recorded
  pub holding_trap : (z : ℤ) → Holding ps base filling z s (with_score t score_trap z)
  holding_trap z = record {
    places = h.places;
    spares = record { keys = h.spares.keys; scores = λ j a b c d. ap (λ b. if b then Some z else t.scores j) c ∙ h.spares.scores j a b c d };
    pages = h.pages;
    constants = constants_with t score_trap z trap_apart h.constants;
    base = h.base;
    filling = h.filling;
    trap = refl;
  }

  -- the window begins elsewhere
  pub holding_base : (z : ℤ) → Holding ps z filling trap s (with_score t score_window z)
  holding_base z = record {
    places = h.places;
    spares = record { keys = h.spares.keys; scores = λ j a b c d. ap (λ b. if b then Some z else t.scores j) d ∙ h.spares.scores j a b c d };
    pages = h.pages;
    constants = constants_with t score_window z window_apart h.constants;
    base = refl;
    filling = h.filling;
    trap = h.trap;
  }

  not_choice : (r : Store) (k : Text) → is_access_key r k ≡ false → same_store in_rest r && bytes_eq key_choice k ≡ false
  not_choice in_io k e = refl
  not_choice in_memory k e = refl
  not_choice in_rest k e = (or_parts (bytes_eq key_table k) (bytes_eq key_choice k) (or_parts (bytes_eq key_filling k) (is_work_key in_rest k) e).1).1

  not_filling : (r : Store) (k : Text) → is_access_key r k ≡ false → same_store in_rest r && bytes_eq key_filling k ≡ false
  not_filling in_io k e = refl
  not_filling in_memory k e = refl
  not_filling in_rest k e = (or_parts (bytes_eq key_filling k) (is_work_key in_rest k) e).0

  -- a scratch key is written
  pub holding_choice : (u : Tree) → Holding ps base filling trap s (with_rest t key_choice u)
  holding_choice u = record {
    places = h.places;
    spares = record { keys = λ r k e. ap (λ b. if b then Some u else t.keys r k) (not_choice r k e) ∙ h.spares.keys r k e; scores = h.spares.scores };
    pages = h.pages;
    constants = record { four = h.constants.four; page_words = h.constants.page_words; bytes = h.constants.bytes; tops = h.constants.tops; halves = h.constants.halves; rests = h.constants.rests };
    base = h.base;
    filling = h.filling;
    trap = h.trap;
  }

  -- another compound
  pub holding_filling : (u : Tree) → Holding ps base u trap s (with_rest t key_filling u)
  holding_filling u = record {
    places = h.places;
    spares = record { keys = λ r k e. ap (λ b. if b then Some u else t.keys r k) (not_filling r k e) ∙ h.spares.keys r k e; scores = h.spares.scores };
    pages = h.pages;
    constants = record { four = h.constants.four; page_words = h.constants.page_words; bytes = h.constants.bytes; tops = h.constants.tops; halves = h.constants.halves; rests = h.constants.rests };
    base = h.base;
    filling = refl;
    trap = h.trap;
  }

-- ---- the memory, and what is held of it

pub held : (ps : List (List ℕ)) (s : State) (m : HasMemory ps s) (trap : ℤ) → s.scores score_trap ≡ Some trap
    → Holding ps (pos (65536 * m.window.page)) (filling_tree m.window.page m.window.place m.window.byte) trap s s
held ps s m trap e = record {
  places = refl;
  spares = spares_none s;
  pages = m.pages;
  constants = m.constants;
  base = m.window.base;
  filling = m.window.filling;
  trap = e;
}

pub has_memory : (ps : List (List ℕ)) (page : ℕ) (place byte trap : ℤ) (s t : State) → ArePages ps → length ps ≤ 256 → (page ≡ 0) ⊎ (page < length ps) → is_int place ≡ true → is_int byte ≡ true
    → Holding ps (pos (65536 * page)) (filling_tree page place byte) trap s t → HasMemory ps t
has_memory ps page place byte trap s t a f w i j h = record {
  pages = h.pages;
  are_pages = a;
  few = f;
  constants = h.constants;
  window = record { page = page; stands = w; base = h.base; place = place; byte = byte; ints = (i, j); filling = h.filling };
}
