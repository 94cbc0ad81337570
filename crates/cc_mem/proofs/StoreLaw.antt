-- Stores do what the reduction's stores do.
use Rattle.std.proofs.Common.{◌≡◌, ⊎_elim, ℕ, ◌+◌, ◌*◌, ◌<◌, ◌≤◌, List, [], ◌∷◌, length, Some, Bool, true, false, refl, sym, ap, ◌∙◌, subst, arith}
use Rattle.std.specs.Prelude.{ℤ, pos, ◌&&◌, slice_index_or, codes}
use Rattle.std.specs.Int.{w32, cast_unsigned}
use Rattle.std.proofs.lemmas.Bool.{cases_lt}
use Rattle.mc_nbt.specs.Word.{is_int}
use Rattle.mc_cmd.specs.Command.{from}
use Rattle.mc_cmd.specs.World.{some_is_in}
use Rattle.wm_ast.specs.declared.operation.StoreOp.{StoreOp}
use Rattle.wm_ast.specs.declared.operation.StoreOp.TheVariants.{I32Store, I32Store8, I32Store16}
use Rattle.wm_ast.specs.Simple.{address}
use Rattle.wm_ast.specs.Storage.{bytes_of}
use Rattle.wm_ast.specs.Store.{overwritten}
use Rattle.wm_ast.proofs.StorageLaws.{bytes_of-length}
use Rattle.cc_line.specs.Key.{score_trap}
use Rattle.cc_line.specs.State.{State, place_at, with_score}
use Rattle.cc_line.specs.Step.{load_place, run_act, Flow, flow}
use Rattle.cc_line.specs.Item.{step_item, Items, no_more, first, join, run_items}
use Rattle.cc_line.proofs.RunLemmas.{Leads, Halts, leads_none, leads_first, leads_join, halts_first, halts_here, halts_join, halts_before}
use Rattle.cc_line.proofs.Words.{by_word}
use Rattle.cc_page.specs.Pages.{pages_bytes, byte_address, signed_word, word_at}
use Rattle.cc_page.proofs.ReadLemmas.{words_stand}
use Rattle.cc_page.proofs.ShownLemmas.{pages_many}
use Rattle.cc_mem.specs.Address.{bounds_trap, stop_step, address_items}
use Rattle.cc_mem.specs.Law.{Spares, Does, Faults, Before, Found, Missed, AddressesAreFound, is_store, StoresAreDone}
use Rattle.cc_mem.specs.Store.{write_items, store_items}
use Rattle.cc_mem.proofs.Near.{Near, near_score, near_spares, spares_then, At, at_memory, memory_at, at_near, found_at}
use Rattle.cc_mem.proofs.Accesses.{Misses}
use Rattle.cc_mem.proofs.Stores.{Writes}
use Rattle.cc_mem.proofs.Writings.{Begins, Stores, stores32, stores8, stores16}
use Rattle.cc_mem.proofs.Refusals.{store_missed, store_lacks32, store_lacks16}

-- ---- the end of the list

pub stop_passes : (s : State) → s.scores score_trap ≡ Some (pos 0) → Leads (first (step_item stop_step) no_more) s s
stop_passes s e = leads_first (step_item stop_step) s no_more s s _ (tt, tt) (ap (λ o. flow (some_is_in (from (pos 1)) o && true) s 2) e) (leads_none s)

pub stop_halts : (s : State) → s.scores score_trap ≡ Some (pos bounds_trap) → Halts (first (step_item stop_step) no_more) s s
stop_halts s e = halts_here (step_item stop_step) s no_more s _ (tt, tt) (ap (λ o. flow (some_is_in (from (pos 1)) o && true) s 2) e)

-- an int as a word
int_word : (z : ℤ) → is_int z ≡ true → (signed_word (cast_unsigned w32 z) ≡ z) × (cast_unsigned w32 z < 4294967296)
int_word = by_word (λ m z. (signed_word m ≡ z) × (m < 4294967296)) (λ m h. (refl, h))

module _ (found : AddressesAreFound) (sure : Bool) (op : StoreOp) (a offset v : ℕ) (ps : List (List ℕ)) (s : State) (b : Before sure a ps s) (is : is_store op ≡ true) (lv : v < length s.places) (iv : is_int (place_at s v) ≡ true) where
  abbrev x : ℕ
  x = cast_unsigned w32 (place_at s v)

  abbrev A : ℕ
  A = address (place_at s a) offset

  -- the value is loaded
  abbrev valued : State → State
  valued t = with_score t (codes "#s") (place_at t v)

  value_near : (t : State) → Near (codes "#s" ∷ []) t (valued t)
  value_near t = near_score (codes "#s" ∷ []) t (codes "#s") (place_at t v) refl

  value_is : (t : State) → t.places ≡ s.places → (valued t).scores (codes "#s") ≡ Some (signed_word x)
  value_is t e = ap (λ l. Some (slice_index_or l v (pos 0))) e ∙ ap Some (sym (int_word (place_at s v) iv).0)

  value_at : (page : ℕ) (y z : ℤ) (t : State) → At ps page y z t → At ps page y z (valued t)
  value_at page y z t g = at_near (codes "#s" ∷ []) ps page y z t (valued t) refl g (value_near t)

  -- what goes before the write, and behind it
  abbrev behind : Items
  behind = join (write_items op) (first (step_item stop_step) no_more)

  within : (t : State) → t.places ≡ s.places → v < length t.places
  within t e = subst (λ l. v < length l) (sym e) lv

  leads_all : (t u : State) → t.places ≡ s.places → Leads (address_items sure a offset) s t → Leads (write_items op) (valued t) u → u.scores score_trap ≡ Some (pos 0) → Leads (store_items sure op a offset v) s u
  leads_all t u e f g h =
      leads_join (address_items sure a offset) (first (step_item (run_act (load_place (codes "#s") v))) behind) s t u f
      (leads_first (step_item (run_act (load_place (codes "#s") v))) t behind (valued t) u _ (within t e) refl
      (leads_join (write_items op) (first (step_item stop_step) no_more) (valued t) u u g (stop_passes u h)))

  halts_all : (t u : State) → t.places ≡ s.places → Leads (address_items sure a offset) s t → Misses (write_items op) ps (valued t) u → Spares s t → Faults (store_items sure op a offset v) s ps
  halts_all t u e f g n =
      let h : Halts (store_items sure op a offset v) s u =
      halts_join (address_items sure a offset) (first (step_item (run_act (load_place (codes "#s") v))) behind) s t u f
      (halts_first (step_item (run_act (load_place (codes "#s") v))) t behind (valued t) u _ (within t e) refl
      (halts_join (write_items op) (first (step_item stop_step) no_more) (valued t) u u g.leads (stop_halts u g.trap))) in
      record {
        ready = h.ready;
        state = u;
        used = h.used;
        ends = h.ends;
        trap = g.trap;
        memory = g.memory;
        spares = spares_then s t u n (spares_then t (valued t) u (near_spares (codes "#s" ∷ []) t (valued t) refl (value_near t)) g.spares);
      }

  -- ---- an address that is found

  module _ (t : State) (k : ℕ) (ends : run_items (address_items sure a offset) s ≡ flow false t k) (f : Found ps A s t) where
    abbrev y : ℤ
    y = f.filling.0

    at : At ps f.page (pos f.place) y t
    at = found_at ps A s t f

    stand : (m : ℕ) × (word_at ps f.page f.place ≡ Some m) × (m < 4294967296)
    stand = words_stand ps at.are_pages f.page f.place f.within.0 f.within.1

    begins : Begins ps f.page f.place f.byte stand.0 x y (valued t)
    begins = record {
      at = value_at f.page (pos f.place) y t at;
      word = stand.1;
      page_within = f.within.0;
      place_within = f.within.1;
      byte_within = f.within.2;
      value_within = (int_word (place_at s v) iv).1;
      value = value_is t f.places;
      place = f.at_place;
      byte = f.at_byte;
      trap = f.trap;
    }

    to_address : Leads (address_items sure a offset) s t
    to_address = record { ready = (found sure a offset ps s b).0; used = k; ends = ends }

    does : (w : ℕ) (bytes : List ℕ) → bytes_of w x ≡ bytes → Stores ps f.page f.place f.byte stand.0 x y (valued t) begins (write_items op) w
        → (qs : List (List ℕ)) × (pages_bytes qs ≡ overwritten (pages_bytes ps) A bytes) × Does (store_items sure op a offset v) s 0 [] qs
    does w bytes e d =
        let g : Writes (write_items op) ps d.0 f.page f.place (valued t) = d.2 in
        let l : Leads (store_items sure op a offset v) s g.state = leads_all t g.state f.places to_address g.leads g.trap in (
          d.0,
          d.1 ∙ ap (λ n. overwritten (pages_bytes ps) n (bytes_of w x)) f.is ∙ ap (overwritten (pages_bytes ps) A) e,
          record {
            ready = l.ready;
            state = g.state;
            used = l.used;
            ends = l.ends;
            places = g.goes.places ∙ f.places;
            trap = g.trap;
            memory = at_memory d.0 f.page (pos f.place) g.byte g.state g.goes.at;
            spares = spares_then s t g.state f.spares (spares_then t (valued t) g.state (near_spares (codes "#s" ∷ []) t (valued t) refl (value_near t)) g.goes.spares);
          },
        )

  -- ---- one that isn't

  misses : 65536 * length ps ≤ A → Faults (store_items sure op a offset v) s ps
  misses out = go r.stopped refl
    where
      r : Flow
      r = run_items (address_items sure a offset) s

      m : Missed r.stopped ps s r.state
      m = (found sure a offset ps s b).2 out r.stopped r.state r.used refl

      go : (c : Bool) → r.stopped ≡ c → Faults (store_items sure op a offset v) s ps
      go true e =
          let h : Halts (store_items sure op a offset v) s r.state =
          halts_before (address_items sure a offset) (first (step_item (run_act (load_place (codes "#s") v))) behind) s r.state
          (record { ready = (found sure a offset ps s b).0; used = r.used; ends = ap (λ c. flow c r.state r.used) e }) in
          record { ready = h.ready; state = r.state; used = h.used; ends = h.ends; trap = m.trap; memory = m.memory; spares = m.spares }
      go false e =
          let l : Leads (address_items sure a offset) s r.state = record { ready = (found sure a offset ps s b).0; used = r.used; ends = ap (λ c. flow c r.state r.used) e } in
          let p = m.goes_on e in
          let w = m.memory.window in
          let g = store_missed op ps w.page p.0 p.1 w.place w.byte (valued r.state) is (value_at w.page w.place w.byte r.state (memory_at ps r.state m.memory)) p.2 p.3 p.4 p.5 m.trap in
          halts_all r.state g.0 m.places l g.1 m.spares

  -- ---- both

  abbrev Result : List ℕ → Type 0
  Result bytes = (A + length bytes ≤ length (pages_bytes ps) → (qs : List (List ℕ)) × (pages_bytes qs ≡ overwritten (pages_bytes ps) A bytes) × Does (store_items sure op a offset v) s 0 [] qs)
      × (length (pages_bytes ps) < A + length bytes → Faults (store_items sure op a offset v) s ps)

  many : length (pages_bytes ps) ≡ 65536 * length ps
  many = pages_many ps b.memory.are_pages

  result : (w : ℕ) (bytes : List ℕ) → 0 < w → bytes_of w x ≡ bytes
      → ((page i r m : ℕ) (y : ℤ) (t : State) (g : Begins ps page i r m x y t) → byte_address page i r + w ≤ 65536 * length ps → Stores ps page i r m x y t g (write_items op) w)
      → ((page i r m : ℕ) (y : ℤ) (t : State) (g : Begins ps page i r m x y t) → 65536 * length ps < byte_address page i r + w → (u : State) × Misses (write_items op) ps t u)
      → Result bytes
  result w bytes lw e writes lacks = (inside, beyond)
    where
      long : length bytes ≡ w
      long = ap length (sym e) ∙ bytes_of-length w x

      inside : A + length bytes ≤ length (pages_bytes ps) → (qs : List (List ℕ)) × (pages_bytes qs ≡ overwritten (pages_bytes ps) A bytes) × Does (store_items sure op a offset v) s 0 [] qs
      inside l =
          let k = many in
          let n = long in
          let d = (found sure a offset ps s b).1 (omega arith) in
          let f : Found ps A s d.0 = d.3 in
          let q : byte_address f.page f.place f.byte ≡ A = f.is in
          does d.0 d.1 d.2 f w bytes e (writes f.page f.place f.byte (stand d.0 d.1 d.2 f).0 (y d.0 d.1 d.2 f) (valued d.0) (begins d.0 d.1 d.2 f) (omega arith))

      beyond : length (pages_bytes ps) < A + length bytes → Faults (store_items sure op a offset v) s ps
      beyond l = ⊎_elim near misses (cases_lt A (65536 * length ps))
        where
          near : A < 65536 * length ps → Faults (store_items sure op a offset v) s ps
          near h =
              let k = many in
              let n = long in
              let d = (found sure a offset ps s b).1 h in
              let f : Found ps A s d.0 = d.3 in
              let q : byte_address f.page f.place f.byte ≡ A = f.is in
              let g = lacks f.page f.place f.byte (stand d.0 d.1 d.2 f).0 (y d.0 d.1 d.2 f) (valued d.0) (begins d.0 d.1 d.2 f) (omega arith) in
              halts_all d.0 g.0 f.places (to_address d.0 d.1 d.2 f) g.1 f.spares

-- ---- the law

lacks32 : (ps : List (List ℕ)) (x page i r m : ℕ) (y : ℤ) (t : State) (g : Begins ps page i r m x y t) → 65536 * length ps < byte_address page i r + 4 → (u : State) × Misses (write_items I32Store) ps t u
lacks32 ps x page i r m y t g l =
    let p = g.page_within in
    let q = g.place_within in
    let h = g.byte_within in
    store_lacks32 ps page i r y t g.at g.place_within (omega arith) g.byte_within g.place g.byte g.trap (omega arith)

lacks8 : (ps : List (List ℕ)) (x page i r m : ℕ) (y : ℤ) (t : State) (g : Begins ps page i r m x y t) → 65536 * length ps < byte_address page i r + 1 → (u : State) × Misses (write_items I32Store8) ps t u
lacks8 ps x page i r m y t g l =
    let p = g.page_within in
    let q = g.place_within in
    let h = g.byte_within in
    absurd (omega arith)

lacks16 : (ps : List (List ℕ)) (x page i r m : ℕ) (y : ℤ) (t : State) (g : Begins ps page i r m x y t) → 65536 * length ps < byte_address page i r + 2 → (u : State) × Misses (write_items I32Store16) ps t u
lacks16 ps x page i r m y t g l =
    let p = g.page_within in
    let q = g.place_within in
    let h = g.byte_within in
    store_lacks16 ps page i r y t g.at g.place_within g.byte_within (omega arith) g.place g.byte (omega arith)

module _ (found : AddressesAreFound) (sure : Bool) (a offset v : ℕ) (ps : List (List ℕ)) (s : State) (bytes : List ℕ) (b : Before sure a ps s) (lv : v < length s.places) (iv : is_int (place_at s v) ≡ true) where
  abbrev z : ℕ
  z = cast_unsigned w32 (place_at s v)

  words : bytes_of 4 z ≡ bytes → Result found sure I32Store a offset v ps s b refl lv iv bytes
  words e =
      result found sure I32Store a offset v ps s b refl lv iv 4 bytes (omega arith) e
      (λ page i r m y t g l. stores32 ps page i r m z y t g l) (λ page i r m y t g l. lacks32 ps z page i r m y t g l)

  halves : bytes_of 2 z ≡ bytes → Result found sure I32Store16 a offset v ps s b refl lv iv bytes
  halves e =
      result found sure I32Store16 a offset v ps s b refl lv iv 2 bytes (omega arith) e
      (λ page i r m y t g l. stores16 ps page i r m z y t g l) (λ page i r m y t g l. lacks16 ps z page i r m y t g l)

  singles : bytes_of 1 z ≡ bytes → Result found sure I32Store8 a offset v ps s b refl lv iv bytes
  singles e =
      result found sure I32Store8 a offset v ps s b refl lv iv 1 bytes (omega arith) e
      (λ page i r m y t g l. stores8 ps page i r m z y t g) (λ page i r m y t g l. lacks8 ps z page i r m y t g l)

pub stores_do : AddressesAreFound → StoresAreDone
stores_do found sure I32Store a offset v ps s bytes b is lv iv e = words found sure a offset v ps s bytes b lv iv cc
stores_do found sure I32Store8 a offset v ps s bytes b is lv iv e = singles found sure a offset v ps s bytes b lv iv cc
stores_do found sure I32Store16 a offset v ps s bytes b is lv iv e = halves found sure a offset v ps s bytes b lv iv cc
stores_do found sure _ a offset v ps s bytes b is lv iv e = absurd cc
