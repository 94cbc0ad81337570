-- What lines of accesses leave alone: all but some scores and the scratch keys of routines.
use Rattle.std.proofs.Common.{◌≡◌, ℕ, ◌+◌, ◌*◌, ◌<◌, ◌≤◌, List, [], ◌∷◌, ◌++◌, length, Some, Bool, true, false, refl, sym, ap, ◌∙◌, arith, inl, inr, ◌⊎◌}
use Rattle.std.specs.Prelude.{ℤ, pos, ◌&&◌, ◌||◌, if◌then◌else◌, codes}
use Rattle.std.specs.Str.{bytes_eq}
use Rattle.std.specs.Fmt.{decimal}
use Rattle.std.proofs.lemmas.Fmt.{decimal_digit}
use Rattle.std.proofs.lemmas.Bool.{or_parts, lt-ltb}
use Rattle.std.proofs.lemmas.Slice.Eq.{bytes_eq-Decides}
use Rattle.mc_nbt.specs.Word.{is_int}
use Rattle.mc_nbt.proofs.TestLemmas.{and_first, and_second}
use Rattle.mc_cmd.specs.Form.{Text}
use Rattle.cc_line.specs.Sight.{Store, in_io, in_memory, in_rest}
use Rattle.cc_line.specs.Place.{is_scratch}
use Rattle.cc_line.specs.Key.{key_memory, key_filling, score_trap, is_work, is_work_key, score_window, score_four, score_page_words, scale_of}
use Rattle.cc_line.specs.State.{State, with_score}
use Rattle.cc_line.specs.OpenStep.{ints_in}
use Rattle.cc_line.proofs.CoreLemmas.{work_apart}
use Rattle.cc_page.specs.Pages.{ArePages, pages_tree}
use Rattle.cc_mem.specs.Standing.{stem_byte, stem_top, stem_half, stem_rest, Constants, filling_tree, HasMemory}
use Rattle.cc_mem.specs.Law.{is_access_key, Spares, Found}

-- ---- scores of a list

abbrev pub is_one : List Text → Text → Bool
is_one [] h = false
is_one (g ∷ gs) h = bytes_eq g h || is_one gs h

abbrev pub all_ones : List Text → List Text → Bool
all_ones [] gs = true
all_ones (h ∷ hs) gs = is_one gs h && all_ones hs gs

either_false : (x y : Bool) → x ≡ false → y ≡ false → (x || y) ≡ false
either_false x y e f = ap (λ b. b || y) e ∙ f

not_same : (g h : Text) (b : Bool) → bytes_eq g h ≡ b → (g ≡ h → ⊥) → bytes_eq g h ≡ false
not_same g h true e n = absurd (n ((bytes_eq-Decides g h).0 e))
not_same g h false e n = e

fewer : (hs gs : List Text) (h : Text) → all_ones hs gs ≡ true → is_one gs h ≡ false → is_one hs h ≡ false
fewer [] gs h a n = refl
fewer (g ∷ hs) gs h a n =
    either_false (bytes_eq g h) (is_one hs h)
    (not_same g h (bytes_eq g h) refl (λ e. let y : true ≡ false = sym (and_first (is_one gs g) (all_ones hs gs) a) ∙ ap (is_one gs) e ∙ n in absurd cc))
    (fewer hs gs h (and_second (is_one gs g) (all_ones hs gs) a) n)

-- ---- states that differ in these scores alone

pub record Near (hs : List Text) (s t : State) : Type 0 where
  pub places : t.places ≡ s.places
  pub keys : (r : Store) (k : Text) → is_work_key r k ≡ false → t.keys r k ≡ s.keys r k
  pub scores : (h : Text) → is_one hs h ≡ false → t.scores h ≡ s.scores h

pub near_none : (hs : List Text) (s : State) → Near hs s s
near_none hs s = record { places = refl; keys = λ r k e. refl; scores = λ h e. refl }

pub near_then : (hs : List Text) (s t u : State) → Near hs s t → Near hs t u → Near hs s u
near_then hs s t u n m = record {
  places = m.places ∙ n.places;
  keys = λ r k e. m.keys r k e ∙ n.keys r k e;
  scores = λ h e. m.scores h e ∙ n.scores h e;
}

-- more scores
pub near_more : (hs gs : List Text) (s t : State) → all_ones hs gs ≡ true → Near hs s t → Near gs s t
near_more hs gs s t a n = record { places = n.places; keys = n.keys; scores = λ h e. n.scores h (fewer hs gs h a e) }

pub near_score : (hs : List Text) (s : State) (h : Text) (z : ℤ) → is_one hs h ≡ true → Near hs s (with_score s h z)
near_score hs s h z a = record {
  places = refl;
  keys = λ r k e. refl;
  scores = λ g e.
      ap (λ b. if b then Some z else s.scores g)
      (not_same h g (bytes_eq h g) refl (λ q. let y : true ≡ false = sym a ∙ ap (is_one hs) q ∙ e in absurd cc));
}

-- ---- standing scores

-- scratch scores of routines, and the trap's
abbrev pub are_loose : List Text → Bool
are_loose [] = true
are_loose (h ∷ hs) = (is_work h || bytes_eq score_trap h) && are_loose hs

loose_apart : (g h : Text) → (is_work g || bytes_eq score_trap g) ≡ true → is_work h ≡ false → bytes_eq score_trap h ≡ false → bytes_eq g h ≡ false
loose_apart g h a w e = go (is_work g) refl a
  where
    go : (b : Bool) → is_work g ≡ b → (b || bytes_eq score_trap g) ≡ true → bytes_eq g h ≡ false
    go true k a = work_apart g h k w
    go false k a = let q : score_trap ≡ g = (bytes_eq-Decides score_trap g).0 a in ap (λ k. bytes_eq k h) (sym q) ∙ e

pub not_loose : (hs : List Text) (h : Text) → are_loose hs ≡ true → is_work h ≡ false → bytes_eq score_trap h ≡ false → is_one hs h ≡ false
not_loose [] h a w e = refl
not_loose (g ∷ hs) h a w e =
    either_false (bytes_eq g h) (is_one hs h)
    (loose_apart g h (and_first (is_work g || bytes_eq score_trap g) (are_loose hs) a) w e)
    (not_loose hs h (and_second (is_work g || bytes_eq score_trap g) (are_loose hs) a) w e)

-- ---- what is spared

work_key : (r : Store) (k : Text) → is_access_key r k ≡ false → is_work_key r k ≡ false
work_key in_io k e = refl
work_key in_memory k e = refl
work_key in_rest k e = (or_parts (bytes_eq key_filling k) (is_work_key in_rest k) e).1

pub spares_none : (s : State) → Spares s s
spares_none s = record { keys = λ r k e. refl; scores = λ h a b c d. refl }

pub spares_then : (s t u : State) → Spares s t → Spares t u → Spares s u
spares_then s t u n m = record {
  keys = λ r k e. m.keys r k e ∙ n.keys r k e;
  scores = λ h a b c d. m.scores h a b c d ∙ n.scores h a b c d;
}

pub near_spares : (hs : List Text) (s t : State) → are_loose hs ≡ true → Near hs s t → Spares s t
near_spares hs s t l n = record {
  keys = λ r k e. n.keys r k (work_key r k e);
  scores = λ h a b c d. n.scores h (not_loose hs h l b c);
}

-- ---- a memory whose window is told

pub record At (ps : List (List ℕ)) (page : ℕ) (x y : ℤ) (s : State) : Type 0 where
  pub pages : s.keys in_memory key_memory ≡ Some (pages_tree ps)
  pub are_pages : ArePages ps
  pub few : length ps ≤ 256
  pub constants : Constants s
  pub stands : (page ≡ 0) ⊎ (page < length ps)
  pub base : s.scores score_window ≡ Some (pos (65536 * page))
  pub place_int : is_int x ≡ true
  pub byte_int : is_int y ≡ true
  pub filling : s.keys in_rest key_filling ≡ Some (filling_tree page x y)

pub at_memory : (ps : List (List ℕ)) (page : ℕ) (x y : ℤ) (s : State) → At ps page x y s → HasMemory ps s
at_memory ps page x y s a = record {
  pages = a.pages;
  are_pages = a.are_pages;
  few = a.few;
  constants = a.constants;
  window = record { page = page; stands = a.stands; base = a.base; place = x; byte = y; ints = (a.place_int, a.byte_int); filling = a.filling };
}

pub memory_at : (ps : List (List ℕ)) (s : State) (h : HasMemory ps s) → At ps h.window.page h.window.place h.window.byte s
memory_at ps s h = record {
  pages = h.pages;
  are_pages = h.are_pages;
  few = h.few;
  constants = h.constants;
  stands = h.window.stands;
  base = h.window.base;
  place_int = h.window.ints.0;
  byte_int = h.window.ints.1;
  filling = h.window.filling;
}

-- the page that it tells
pub page_small : (ps : List (List ℕ)) (page : ℕ) (x y : ℤ) (s : State) → At ps page x y s → page ≤ 256
page_small ps page x y s a = go a.stands
  where
    go : (page ≡ 0) ⊎ (page < length ps) → page ≤ 256
    go (inl e) = omega arith
    go (inr l) = let f = a.few in omega arith

pub small_int : (n : ℕ) → n < 2147483648 → is_int (pos n) ≡ true
small_int n l = lt-ltb n 2147483648 l

module _ (s t : State) (same : (h : Text) → is_scratch h ≡ true → is_work h ≡ false → bytes_eq score_trap h ≡ false → bytes_eq score_window h ≡ false → t.scores h ≡ s.scores h) where
  scale_same : (h : Text) (r : ℕ) → r < 4 → ((d : List ℕ) → is_scratch (h ++ d) ≡ true) → ((x : ℕ) → is_work (h ++ (x ∷ [])) ≡ false)
      → ((d : List ℕ) → bytes_eq score_trap (h ++ d) ≡ false) → ((d : List ℕ) → bytes_eq score_window (h ++ d) ≡ false)
      → t.scores (scale_of h r) ≡ s.scores (scale_of h r)
  scale_same h r l a b c d =
      same (scale_of h r) (a (decimal r)) (ap (λ e. is_work (h ++ e)) (decimal_digit r (omega arith)) ∙ b (48 + r)) (c (decimal r)) (d (decimal r))

  constants_same : Constants s → Constants t
  constants_same c = record {
    four = same score_four refl refl refl refl ∙ c.four;
    page_words = same score_page_words refl refl refl refl ∙ c.page_words;
    bytes = λ r l. scale_same stem_byte r l (λ d. refl) (λ x. refl) (λ d. refl) (λ d. refl) ∙ c.bytes r l;
    tops = λ r l. scale_same stem_top r l (λ d. refl) (λ x. refl) (λ d. refl) (λ d. refl) ∙ c.tops r l;
    halves = λ r l. scale_same stem_half r (omega arith) (λ d. refl) (λ x. refl) (λ d. refl) (λ d. refl) ∙ c.halves r l;
    rests = λ r k l. scale_same stem_rest r l (λ d. refl) (λ x. refl) (λ d. refl) (λ d. refl) ∙ c.rests r k l;
  }

pub spares_constants : (s t : State) → Spares s t → Constants s → Constants t
spares_constants s t p c = constants_same s t p.scores c

-- what is near has the same memory and the same window
pub at_near : (hs : List Text) (ps : List (List ℕ)) (page : ℕ) (x y : ℤ) (s t : State) → are_loose hs ≡ true → At ps page x y s → Near hs s t → At ps page x y t
at_near hs ps page x y s t l a n = record {
  pages = n.keys in_memory key_memory refl ∙ a.pages;
  are_pages = a.are_pages;
  few = a.few;
  constants = spares_constants s t (near_spares hs s t l n) a.constants;
  stands = a.stands;
  base = n.scores score_window (not_loose hs score_window l refl refl) ∙ a.base;
  place_int = a.place_int;
  byte_int = a.byte_int;
  filling = n.keys in_rest key_filling refl ∙ a.filling;
}

-- ---- what an address that is found tells

same_page : (p q : ℕ) → pos p ≡ pos q → p ≡ q
same_page p q e = cc

pub found_at : (ps : List (List ℕ)) (address : ℕ) (s t : State) (f : Found ps address s t) → At ps f.page (pos f.place) f.filling.0 t
found_at ps address s t f =
    let m = f.memory in
    let e : pos m.window.page ≡ pos f.page = ap (λ o. ints_in o (codes "p")) (sym m.window.filling ∙ f.filling.2) in
    let q : m.window.page ≡ f.page = same_page m.window.page f.page e in
    record {
      pages = m.pages;
      are_pages = m.are_pages;
      few = m.few;
      constants = m.constants;
      stands = inr f.within.0;
      base = m.window.base ∙ ap (λ n. Some (pos (65536 * n))) q;
      place_int = (let w = f.within.1 in small_int f.place (omega arith));
      byte_int = f.filling.1;
      filling = f.filling.2;
    }
