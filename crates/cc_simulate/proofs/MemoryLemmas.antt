-- The memory in a state: what keeps it, and what an access leaves of all that stands beside it.
use Rattle.std.proofs.Common.{◌≡◌, ℕ, ◌*◌, ◌^◌, ◌<◌, ◌≤◌, List, [], ◌∷◌, ◌++◌, length, replicate, Bool, true, false, ◌||◌, Some, refl, ap, ◌∙◌, arith, pos, bytes_eq}
use Rattle.std.proofs.lemmas.Bool.{leb-true}
use Rattle.mc_cmd.specs.Form.{Text}
use Rattle.wm_ast.specs.declared.module.Limits.{Limits}
use Rattle.wm_ast.specs.declared.module.Module.{Module}
use Rattle.wm_ast.specs.Store.{Store, page_size}
use Rattle.wm_valid.specs.Typing.{HasFirst}
use Rattle.wm_flat.specs.FlatTyping.{TypedMemory}
use Rattle.cc_line.specs.Sight.{in_io, in_memory, in_rest}
use Rattle.cc_line.specs.Sight as sights
use Rattle.cc_line.specs.Place.{is_scratch}
use Rattle.cc_line.specs.Key.{key_globals, key_memory, key_filling, key_state, key_end, key_below, score_trap, score_window, score_four, score_page_words, scale_of, is_work, is_work_key}
use Rattle.cc_line.specs.Running.{Kept}
use Rattle.cc_line.specs.State.{State}
use Rattle.cc_line.proofs.ScaleLemmas.{scale_no_work}
use Rattle.cc_sched.specs.Names.{is_sched_score}
use Rattle.cc_page.specs.Pages.{ArePages, zero_page, pages_bytes}
use Rattle.cc_page.proofs.ShownLemmas.{pages_many}
use Rattle.cc_mem.specs.Standing.{stem_byte, stem_top, stem_half, stem_rest, Constants, Window, HasMemory}
use Rattle.cc_mem.specs.Law.{is_access_key}
use Rattle.cc_mem.specs.Law as accesses
use Rattle.cc_body.specs.Storage.{least_memory, has_page}
use Rattle.cc_simulate.specs.Stands.{RunsOver, is_written, is_stored, ChangesStoreAlone}
use Rattle.cc_simulate.specs.Stored.{HasPages, Stored, StoredBut}
use Rattle.cc_simulate.proofs.Acts.{unwritten_is_no_work}
use Rattle.cc_simulate.proofs.Lasting.{lasts_access}

-- ---- what keeps it

-- standing scores are as they were, but for the trap and those of the scheduler
abbrev pub Stays : State → State → Type 0
Stays s t = (h : Text) → is_scratch h ≡ true → is_work h ≡ false → bytes_eq score_trap h ≡ false → is_sched_score h ≡ false → t.scores h ≡ s.scores h

constants_stay : (s t : State) → Stays s t → Constants s → Constants t
constants_stay s t f c = record {
  four = f score_four refl refl refl refl ∙ c.four;
  page_words = f score_page_words refl refl refl refl ∙ c.page_words;
  bytes = λ r l. let k : r < 2 ^ 64 = omega arith in f (scale_of stem_byte r) refl (scale_no_work stem_byte r refl k) refl refl ∙ c.bytes r l;
  tops = λ r l. let k : r < 2 ^ 64 = omega arith in f (scale_of stem_top r) refl (scale_no_work stem_top r refl k) refl refl ∙ c.tops r l;
  halves = λ r l. let k : r < 2 ^ 64 = omega arith in f (scale_of stem_half r) refl (scale_no_work stem_half r refl k) refl refl ∙ c.halves r l;
  rests = λ r m l. let k : r < 2 ^ 64 = omega arith in f (scale_of stem_rest r) refl (scale_no_work stem_rest r refl k) refl refl ∙ c.rests r m l;
}

module _ (ps : List (List ℕ)) (s t : State) (memory : t.keys in_memory key_memory ≡ s.keys in_memory key_memory) (filling : t.keys in_rest key_filling ≡ s.keys in_rest key_filling) (stays : Stays s t) where
  window_stays : Window ps s → Window ps t
  window_stays w = record { page = w.page; stands = w.stands; base = stays score_window refl refl refl refl ∙ w.base; place = w.place; byte = w.byte; ints = w.ints; filling = filling ∙ w.filling }

  memory_stays : HasMemory ps s → HasMemory ps t
  memory_stays h = record { pages = memory ∙ h.pages; are_pages = h.are_pages; few = h.few; constants = constants_stay s t stays h.constants; window = window_stays h.window }

  pub pages_stay : (ls : List Limits) → HasPages ls ps s → HasPages ls ps t
  pages_stay [] h = (h.0, memory ∙ h.1)
  pages_stay (l ∷ ls) h = memory_stays h

-- ---- a module with a memory

pub memory_of : (ls : List Limits) (ps : List (List ℕ)) (s : State) → HasFirst ls → HasPages ls ps s → HasMemory ps s
memory_of [] ps s f h = absurd f
memory_of (l ∷ ls) ps s f h = h

pub pages_of : (ls : List Limits) (ps : List (List ℕ)) (s : State) → HasFirst ls → HasMemory ps s → HasPages ls ps s
pages_of [] ps s f h = absurd f
pages_of (l ∷ ls) ps s f h = h

-- it has as many pages as the store's memory
pub pages_counted : (m : Module) (ps : List (List ℕ)) (memory : List ℕ) → ArePages ps → memory ≡ pages_bytes ps → (t : TypedMemory m memory) → length ps ≡ t.count
pages_counted m ps memory a e t =
    let many : length (pages_bytes ps) ≡ 65536 * length ps = pages_many ps a in
    let same : length memory ≡ length (pages_bytes ps) = ap length e in
    let size : length memory ≡ page_size * t.count = t.size in
    omega arith

-- as many of them stand as there are in any case
pub least_stand : (m : Module) (ps : List (List ℕ)) (memory : List ℕ) → ArePages ps → memory ≡ pages_bytes ps → TypedMemory m memory → least_memory m ≤ length ps
least_stand m ps memory a e t =
    let count = pages_counted m ps memory a e t in
    let least = t.at_least in
    omega arith

-- so the first one stands, where the module says so
pub first_page_stands : (m : Module) (ps : List (List ℕ)) (memory : List ℕ) → ArePages ps → memory ≡ pages_bytes ps → TypedMemory m memory → has_page m ≡ true → 1 ≤ length ps
first_page_stands m ps memory a e t sure =
    let some : 1 ≤ least_memory m = leb-true 1 (least_memory m) sure in
    let least : least_memory m ≤ length ps = least_stand m ps memory a e t in
    omega arith

-- ---- what an access leaves

pub either_false : (a b : Bool) → a ≡ false → b ≡ false → a || b ≡ false
either_false a b e f = ap (λ c. c || b) e ∙ f

no_access : (r : sights.Store) (k : Text) → is_written r k ≡ false → is_stored r k ≡ false → is_access_key r k ≡ false
no_access in_io k w p = refl
no_access in_memory k w p = absurd (let y : true ≡ false = p in cc)
no_access in_rest k w p = either_false (bytes_eq key_filling k) (is_work_key in_rest k) p (unwritten_is_no_work in_rest k w)

-- what accesses spare, a piece of a body spares
pub access_spares : (s t : State) → accesses.Spares s t → ChangesStoreAlone s t
access_spares s t f = record { keys = λ r k w p. f.keys r k (no_access r k w p); scores = f.scores }

pub access_calm : {bytes : Bool} (bs : List Kept) (s t : State) → accesses.Spares s t → t.scores score_trap ≡ Some (pos 0) → RunsOver bytes bs s → RunsOver bytes bs t
access_calm bs s t f trap c = record {
  trap = trap;
  state = f.keys in_io key_state refl ∙ c.state;
  ending = (c.ending.0, f.keys in_rest key_end refl ∙ c.ending.1, c.ending.2);
  standing = lasts_access s t f c.standing;
  below = f.keys in_rest key_below refl ∙ c.below;
}

-- another memory
pub access_stored : (m : Module) (st : Store) (s t : State) (qs : List (List ℕ)) (memory : List ℕ) → HasFirst m.mems → accesses.Spares s t → HasMemory qs t → memory ≡ pages_bytes qs → Stored m st s → Stored m (record st { memory = memory }) t
access_stored m st s t qs memory first f has e h = record {
  globals = f.keys in_memory key_globals refl ∙ h.globals;
  pages = qs;
  bytes = e;
  memory = pages_of m.mems qs t first has;
  table = h.table;
}

-- another memory, of which so many pages are still to be appended
pub grown_stored : (m : Module) (st : Store) (s t : State) (qs : List (List ℕ)) (missing : ℕ) (memory : List ℕ) → HasFirst m.mems → accesses.Spares s t → HasMemory qs t → memory ≡ pages_bytes (qs ++ replicate missing zero_page) → Stored m st s
    → StoredBut m missing (record st { memory = memory }) t
grown_stored m st s t qs missing memory first f has e h = record {
  globals = f.keys in_memory key_globals refl ∙ h.globals;
  pages = qs;
  bytes = e;
  memory = pages_of m.mems qs t first has;
  table = h.table;
}
