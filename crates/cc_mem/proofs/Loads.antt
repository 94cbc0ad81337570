-- Loads, whole: what the bytes at the address give, or the trap.
use Rattle.std.proofs.Common.{◌≡◌, ℕ, ◌+◌, ◌*◌, ◌<◌, ◌≤◌, List, [], ◌∷◌, length, Option, Some, None, Bool, true, false, refl, sym, ap, ◌∙◌, subst, arith, inl, inr, ⊎_elim}
use Rattle.std.specs.Prelude.{ℤ, pos, ◌&&◌, slice_set, codes}
use Rattle.std.specs.Int.{w32, cast_signed}
use Rattle.std.proofs.lemmas.Bool.{cases_lt}
use Rattle.mc_cmd.specs.Command.{from}
use Rattle.mc_cmd.specs.World.{some_is_in}
use Rattle.wm_ast.specs.declared.operation.LoadOp.{LoadOp}
use Rattle.wm_ast.specs.declared.operation.LoadOp.TheVariants.{I32Load, I32Load8S, I32Load8U, I32Load16S, I32Load16U}
use Rattle.wm_ast.specs.Operation.{load_width}
use Rattle.wm_ast.specs.Simple.{address}
use Rattle.wm_ast.specs.Storage.{bytes_of, number_of, extension}
use Rattle.wm_ast.specs.Store.{items_at}
use Rattle.cc_line.specs.Key.{score_trap}
use Rattle.cc_line.specs.State.{State, place_at, with_score, with_place}
use Rattle.cc_line.specs.Step.{keep_place, run_act, flow, step_weight, conds_hold, with_kept}
use Rattle.cc_line.specs.Item.{step_item, Items, no_more, first, join, run_items}
use Rattle.cc_line.proofs.RunLemmas.{Leads, leads_none, leads_first, leads_join, Halts, halts_here, halts_join, halts_before}
use Rattle.cc_page.specs.Pages.{ArePages, pages_bytes, signed_word, word_at, byte_address, next_page, next_place, part_of, glued}
use Rattle.cc_page.proofs.ReadLemmas.{words_stand, words_read, pairs_read, nothing_beyond}
use Rattle.cc_mem.specs.Standing.{HasMemory}
use Rattle.cc_mem.specs.Address.{bounds_trap, has_trapped, stop_step, address_items}
use Rattle.cc_mem.specs.Load.{access_items, load32_items, load_items}
use Rattle.cc_mem.specs.Law.{Spares, Does, Faults, Before, Found, Missed, AddressesAreFound, is_load, LoadsAreDone}
use Rattle.cc_mem.proofs.Near.{spares_then, At, memory_at, found_at}
use Rattle.cc_mem.proofs.LoadSums.{whole_word}
use Rattle.cc_mem.proofs.Accesses.{Reads, Misses}
use Rattle.cc_mem.proofs.LoadWords.{load32_aligned, load32_unaligned, load32_misses}
use Rattle.cc_mem.proofs.LoadBytes.{load8u_reads, load8s_reads, load8u_misses, load8s_misses}
use Rattle.cc_mem.proofs.LoadHalves.{load16u_within, load16s_within, load16u_over, load16s_over, load16u_misses, load16s_misses}

-- ---- where the byte is found

-- what is known there
record Here (ps : List (List ℕ)) (page i r : ℕ) (x y : ℤ) (s : State) : Type 0 where
  at : At ps page x y s
  place : s.scores (codes "#i") ≡ Some (pos i)
  byte : s.scores (codes "#r") ≡ Some (pos r)
  low_place : i < 16384
  low_byte : r < 4

abbrev bytes_here : List (List ℕ) → ℕ → ℕ → ℕ → ℕ → Option (List ℕ)
bytes_here ps page i r width = items_at (pages_bytes ps) (byte_address page i r) width

-- the page of the next word stands where the bytes reach into it and stand
next_stands : (ps : List (List ℕ)) (page i r width : ℕ) (bytes : List ℕ) → ArePages ps → i < 16384 → r < 4 → bytes_here ps page i r width ≡ Some bytes → 4 < r + width → next_page page i < length ps
next_stands ps page i r width bytes h li l e o = ⊎_elim beyond (λ k. omega arith) (cases_lt (65536 * length ps) (byte_address page i r + width))
  where
    beyond : 65536 * length ps < byte_address page i r + width → next_page page i < length ps
    beyond k = let f = nothing_beyond ps h (byte_address page i r) width k in absurd (let y : Some bytes ≡ None = sym e ∙ f in cc)

module _ (ps : List (List ℕ)) (page i r m : ℕ) (y : ℤ) (s : State) (h : Here ps page i r (pos i) y s) (w : word_at ps page i ≡ Some m) (hm : m < 4294967296) where
  -- the number that bytes within the word have
  number_within : (width : ℕ) (bytes : List ℕ) → bytes_here ps page i r width ≡ Some bytes → r + width ≤ 4 → part_of m r width ≡ number_of bytes
  number_within width bytes e l =
      let d = words_read ps h.at.are_pages page i r width m w l in
      let q : Some (bytes_of width (part_of m r width)) ≡ Some bytes = sym d.0 ∙ e in
      let p : bytes_of width (part_of m r width) ≡ bytes = cc in
      sym d.1 ∙ ap number_of p

  number_over : (width n : ℕ) (bytes : List ℕ) → bytes_here ps page i r width ≡ Some bytes → word_at ps (next_page page i) (next_place i) ≡ Some n → width ≤ 4 → 4 < r + width → glued m n r width ≡ number_of bytes
  number_over width n bytes e wn l o =
      let d = pairs_read ps h.at.are_pages page i r width m n w wn h.low_byte l o in
      let q : Some (bytes_of width (glued m n r width)) ≡ Some bytes = sym d.0 ∙ e in
      let p : bytes_of width (glued m n r width) ≡ bytes = cc in
      sym d.1 ∙ ap number_of p

  abbrev Gets : LoadOp → List ℕ → Type 0
  Gets op bytes = (u : State) × Reads (access_items op) ps (cast_signed w32 (extension op (number_of bytes))) s u

  gets_so : (op : LoadOp) (bytes : List ℕ) (n : ℕ) → n ≡ number_of bytes → (u : State) × Reads (access_items op) ps (cast_signed w32 (extension op n)) s u → Gets op bytes
  gets_so op bytes n e d = (d.0, subst (λ k. Reads (access_items op) ps (cast_signed w32 (extension op k)) s d.0) e d.1)

  gets_word : (bytes : List ℕ) → bytes_here ps page i r 4 ≡ Some bytes → Gets I32Load bytes
  gets_word bytes e = ⊎_elim over aligned (cases_lt 0 r)
    where
      over : 0 < r → Gets I32Load bytes
      over g =
          let there = next_stands ps page i r 4 bytes h.at.are_pages h.low_place h.low_byte e (omega arith) in
          let n = words_stand ps h.at.are_pages (next_page page i) (next_place i) there (omega arith) in
          gets_so I32Load bytes (glued m n.0 r 4) (number_over 4 n.0 bytes e n.1 (omega arith) (omega arith))
          (load32_unaligned ps page i r m y s h.at h.place h.byte h.low_place h.low_byte w hm g n.0 n.2 n.1 there)

      aligned : r ≤ 0 → Gets I32Load bytes
      aligned g =
          let z : r ≡ 0 = omega arith in
          let q : part_of m 0 4 ≡ number_of bytes = ap (λ k. part_of m k 4) (sym z) ∙ number_within 4 bytes e (omega arith) in
          gets_so I32Load bytes (part_of m 0 4) q (
            with_score s (codes "#u") (signed_word m),
            subst (λ k. Reads load32_items ps k s (with_score s (codes "#u") (signed_word m))) (sym (whole_word m hm)) (load32_aligned ps page i r m y s h.at h.place h.byte h.low_place h.low_byte w hm z),
          )

  gets : (op : LoadOp) (bytes : List ℕ) → is_load op ≡ true → bytes_here ps page i r (load_width op) ≡ Some bytes → Gets op bytes
  gets I32Load bytes k e = gets_word bytes e
  gets I32Load8U bytes k e = let l = h.low_byte in gets_so I32Load8U bytes (part_of m r 1) (number_within 1 bytes e (omega arith)) (load8u_reads ps page i r m y s h.at h.byte h.low_byte w hm)
  gets I32Load8S bytes k e = let l = h.low_byte in gets_so I32Load8S bytes (part_of m r 1) (number_within 1 bytes e (omega arith)) (load8s_reads ps page i r m y s h.at h.byte h.low_byte w hm)
  gets I32Load16U bytes k e = ⊎_elim within over (cases_lt r 3)
    where
      within : r < 3 → Gets I32Load16U bytes
      within l = gets_so I32Load16U bytes (part_of m r 2) (number_within 2 bytes e (omega arith)) (load16u_within ps page i r m y s h.at h.place h.byte h.low_place h.low_byte w hm l)

      over : 3 ≤ r → Gets I32Load16U bytes
      over g =
          let l = h.low_byte in
          let z : r ≡ 3 = omega arith in
          let there = next_stands ps page i r 2 bytes h.at.are_pages h.low_place h.low_byte e (omega arith) in
          let n = words_stand ps h.at.are_pages (next_page page i) (next_place i) there (omega arith) in
          gets_so I32Load16U bytes (glued m n.0 3 2) (ap (λ k. glued m n.0 k 2) (sym z) ∙ number_over 2 n.0 bytes e n.1 (omega arith) (omega arith))
          (load16u_over ps page i r m y s h.at h.place h.byte h.low_place h.low_byte w hm n.0 z n.2 n.1 there)
  gets I32Load16S bytes k e = ⊎_elim within over (cases_lt r 3)
    where
      within : r < 3 → Gets I32Load16S bytes
      within l = gets_so I32Load16S bytes (part_of m r 2) (number_within 2 bytes e (omega arith)) (load16s_within ps page i r m y s h.at h.place h.byte h.low_place h.low_byte w hm l)

      over : 3 ≤ r → Gets I32Load16S bytes
      over g =
          let l = h.low_byte in
          let z : r ≡ 3 = omega arith in
          let there = next_stands ps page i r 2 bytes h.at.are_pages h.low_place h.low_byte e (omega arith) in
          let n = words_stand ps h.at.are_pages (next_page page i) (next_place i) there (omega arith) in
          gets_so I32Load16S bytes (glued m n.0 3 2) (ap (λ k. glued m n.0 k 2) (sym z) ∙ number_over 2 n.0 bytes e n.1 (omega arith) (omega arith))
          (load16s_over ps page i r m y s h.at h.place h.byte h.low_place h.low_byte w hm n.0 z n.2 n.1 there)
  gets _ bytes k e = absurd cc

  -- and where the bytes reach beyond the last page
  reaches_next : (width : ℕ) → bytes_here ps page i r width ≡ None → width ≤ 4 → (4 < r + width) × (length ps ≤ next_page page i)
  reaches_next width e l = ⊎_elim over within (cases_lt 4 (r + width))
    where
      within : r + width ≤ 4 → (4 < r + width) × (length ps ≤ next_page page i)
      within k = absurd (let y : None ≡ Some (bytes_of width (part_of m r width)) = sym e ∙ (words_read ps h.at.are_pages page i r width m w k).0 in cc)

      over : 4 < r + width → (4 < r + width) × (length ps ≤ next_page page i)
      over o = (o, ⊎_elim stands (λ k. k) (cases_lt (next_page page i) (length ps)))
        where
          stands : next_page page i < length ps → length ps ≤ next_page page i
          stands k =
              let n = words_stand ps h.at.are_pages (next_page page i) (next_place i) k (omega arith) in
              absurd (let y : None ≡ Some (bytes_of width (glued m n.0 r width)) = sym e ∙ (pairs_read ps h.at.are_pages page i r width m n.0 w n.1 h.low_byte l o).0 in cc)

  reaches : (op : LoadOp) → is_load op ≡ true → bytes_here ps page i r (load_width op) ≡ None → (u : State) × Misses (access_items op) ps s u
  reaches I32Load k e =
      let o = reaches_next 4 e (omega arith) in
      load32_misses ps page i r (pos i) y s h.at h.place h.byte h.low_place h.low_byte (inr o.1) (λ z. absurd (let g = o.0 in omega arith))
  reaches I32Load8U k e = let l = h.low_byte in absurd (let o = (reaches_next 1 e (omega arith)).0 in omega arith)
  reaches I32Load8S k e = let l = h.low_byte in absurd (let o = (reaches_next 1 e (omega arith)).0 in omega arith)
  reaches I32Load16U k e =
      let l = h.low_byte in
      let o = reaches_next 2 e (omega arith) in
      load16u_misses ps page i r (pos i) y s h.at h.place h.byte h.low_place h.low_byte (inr o.1) (λ z. absurd (let g = o.0 in omega (arith, z)))
  reaches I32Load16S k e =
      let l = h.low_byte in
      let o = reaches_next 2 e (omega arith) in
      load16s_misses ps page i r (pos i) y s h.at h.place h.byte h.low_place h.low_byte (inr o.1) (λ z. absurd (let g = o.0 in omega (arith, z)))
  reaches _ k e = absurd cc

-- ---- where a trap is recorded

stays_trapped : (op : LoadOp) (ps : List (List ℕ)) (page i r : ℕ) (x y : ℤ) (s : State) → is_load op ≡ true → Here ps page i r x y s → s.scores score_trap ≡ Some (pos bounds_trap) → (u : State) × Misses (access_items op) ps s u
stays_trapped I32Load ps page i r x y s k h e = load32_misses ps page i r x y s h.at h.place h.byte h.low_place h.low_byte (inl e) (λ z. e)
stays_trapped I32Load8U ps page i r x y s k h e = load8u_misses ps page r x y s h.at h.byte h.low_byte e
stays_trapped I32Load8S ps page i r x y s k h e = load8s_misses ps page r x y s h.at h.byte h.low_byte e
stays_trapped I32Load16U ps page i r x y s k h e = load16u_misses ps page i r x y s h.at h.place h.byte h.low_place h.low_byte (inl e) (λ z. e)
stays_trapped I32Load16S ps page i r x y s k h e = load16s_misses ps page i r x y s h.at h.place h.byte h.low_place h.low_byte (inl e) (λ z. e)
stays_trapped _ ps page i r x y s k h e = absurd cc

-- ---- the end

abbrev pub keep_items : ℕ → Items
keep_items r = first (step_item (run_act (keep_place r (codes "#u")))) no_more

abbrev pub end_items : ℕ → Items
end_items r = first (step_item stop_step) (keep_items r)

pub calm : (u : State) → u.scores score_trap ≡ Some (pos 0) → conds_hold has_trapped u ≡ false
calm u e = ap (λ o. some_is_in (from (pos 1)) o && true) e

trapped : (u : State) → u.scores score_trap ≡ Some (pos bounds_trap) → conds_hold has_trapped u ≡ true
trapped u e = ap (λ o. some_is_in (from (pos 1)) o && true) e

-- the number comes to its place
end_leads : (u : State) (r : ℕ) (z : ℤ) → r < length u.places → u.scores score_trap ≡ Some (pos 0) → u.scores (codes "#u") ≡ Some z → Leads (end_items r) u (with_place u r z)
end_leads u r z l e n =
    leads_first (step_item stop_step) u (keep_items r) u (with_place u r z) (step_weight stop_step) (tt, tt) (ap (λ b. flow b u (step_weight stop_step)) (calm u e))
    (leads_first (step_item (run_act (keep_place r (codes "#u")))) u no_more (with_place u r z) (with_place u r z) _ l
    (ap (λ t. flow false t (step_weight (run_act (keep_place r (codes "#u"))))) (ap (with_kept u r) n)) (leads_none (with_place u r z)))

end_halts : (u : State) (r : ℕ) → u.scores score_trap ≡ Some (pos bounds_trap) → Halts (end_items r) u u
end_halts u r e = halts_here (step_item stop_step) u (keep_items r) u (step_weight stop_step) (tt, tt) (ap (λ b. flow b u (step_weight stop_step)) (trapped u e))

pub memory_placed : (ps : List (List ℕ)) (u : State) (r : ℕ) (z : ℤ) → HasMemory ps u → HasMemory ps (with_place u r z)
memory_placed ps u r z m = record {
  pages = m.pages;
  are_pages = m.are_pages;
  few = m.few;
  constants = record {
    four = m.constants.four;
    page_words = m.constants.page_words;
    bytes = m.constants.bytes;
    tops = m.constants.tops;
    halves = m.constants.halves;
    rests = m.constants.rests;
  };
  window = record {
    page = m.window.page;
    stands = m.window.stands;
    base = m.window.base;
    place = m.window.place;
    byte = m.window.byte;
    ints = m.window.ints;
    filling = m.window.filling;
  };
}

pub spares_placed : (u : State) (r : ℕ) (z : ℤ) → Spares u (with_place u r z)
spares_placed u r z = record { keys = λ q k e. refl; scores = λ h a b c d. refl }

-- ---- all of it

module _ (found : AddressesAreFound) (sure : Bool) (op : LoadOp) (a offset r : ℕ) (ps : List (List ℕ)) (s : State) (b : Before sure a ps s) (k : is_load op ≡ true) (l : r < length s.places) where
  abbrev at_address : ℕ
  at_address = address (place_at s a) offset

  abbrev finds : Items
  finds = address_items sure a offset

  abbrev behind : Items
  behind = join (access_items op) (end_items r)

  here : (t : State) (f : Found ps at_address s t) → Here ps f.page f.place f.byte (pos f.place) f.filling.0 t
  here t f = record { at = found_at ps at_address s t f; place = f.at_place; byte = f.at_byte; low_place = f.within.1; low_byte = f.within.2 }

  there : (t : State) (f : Found ps at_address s t) (o : Option (List ℕ)) → items_at (pages_bytes ps) at_address (load_width op) ≡ o → bytes_here ps f.page f.place f.byte (load_width op) ≡ o
  there t f o e = ap (λ n. items_at (pages_bytes ps) n (load_width op)) f.is ∙ e

  -- the bytes lie within the memory
  load_reads : (z : ℤ) (t u : State) → Leads finds s t → Found ps at_address s t → Reads (access_items op) ps z t u → Does (load_items sure op a offset r) s r (z ∷ []) ps
  load_reads z t u g f d =
      let same : u.places ≡ s.places = d.places ∙ f.places in
      let e : u.scores score_trap ≡ Some (pos 0) = d.trap ∙ f.trap in
      let v : State = with_place u r z in
      let m : Leads (load_items sure op a offset r) s v =
      leads_join finds behind s t v g (leads_join (access_items op) (end_items r) t u v d.leads (end_leads u r z (subst (λ p. r < length p) (sym same) l) e d.number)) in
      record {
        ready = m.ready;
        state = v;
        used = m.used;
        ends = m.ends;
        places = ap (λ p. slice_set p r z) same;
        trap = e;
        memory = memory_placed ps u r z d.memory;
        spares = spares_then s u v (spares_then s t u f.spares d.spares) (spares_placed u r z);
      }

  -- they don't
  load_faults : (t u : State) → Leads finds s t → Spares s t → Misses (access_items op) ps t u → Faults (load_items sure op a offset r) s ps
  load_faults t u g p d =
      let m : Halts (load_items sure op a offset r) s u = halts_join finds behind s t u g (halts_join (access_items op) (end_items r) t u u d.leads (end_halts u r d.trap)) in
      record { ready = m.ready; state = u; used = m.used; ends = m.ends; trap = d.trap; memory = d.memory; spares = spares_then s t u p d.spares }

  load_ends : (t : State) → Halts finds s t → t.scores score_trap ≡ Some (pos bounds_trap) → HasMemory ps t → Spares s t → Faults (load_items sure op a offset r) s ps
  load_ends t g e h p =
      let m : Halts (load_items sure op a offset r) s t = halts_before finds behind s t g in
      record { ready = m.ready; state = t; used = m.used; ends = m.ends; trap = e; memory = h; spares = p }

  -- an address within the memory
  module _ (t : State) (j : ℕ) (e : run_items finds s ≡ flow false t j) (f : Found ps at_address s t) where
    found_leads : Leads finds s t
    found_leads = record { ready = (found sure a offset ps s b).0; used = j; ends = e }

    found_reads : (bytes : List ℕ) → items_at (pages_bytes ps) at_address (load_width op) ≡ Some bytes
        → Does (load_items sure op a offset r) s r (cast_signed w32 (extension op (number_of bytes)) ∷ []) ps
    found_reads bytes q =
        let w = words_stand ps f.memory.are_pages f.page f.place f.within.0 f.within.1 in
        let d = gets ps f.page f.place f.byte w.0 f.filling.0 t (here t f) w.1 w.2 op bytes k (there t f (Some bytes) q) in
        load_reads (cast_signed w32 (extension op (number_of bytes))) t d.0 found_leads f d.1

    found_faults : items_at (pages_bytes ps) at_address (load_width op) ≡ None → Faults (load_items sure op a offset r) s ps
    found_faults q =
        let w = words_stand ps f.memory.are_pages f.page f.place f.within.0 f.within.1 in
        let d = reaches ps f.page f.place f.byte w.0 f.filling.0 t (here t f) w.1 w.2 op k (there t f None q) in
        load_faults t d.0 found_leads f.spares d.1

  -- an address beyond it
  beyond_faults : 65536 * length ps ≤ at_address → Faults (load_items sure op a offset r) s ps
  beyond_faults o = go (run_items finds s).stopped refl
    where
      go : (c : Bool) → (run_items (address_items sure a offset) s).stopped ≡ c → Faults (load_items sure op a offset r) s ps
      go true e =
          let f : run_items finds s ≡ flow true (run_items finds s).state (run_items finds s).used = ap (λ c. flow c (run_items finds s).state (run_items finds s).used) e in
          let m : Missed true ps s (run_items finds s).state = (found sure a offset ps s b).2 o true (run_items finds s).state (run_items finds s).used f in
          load_ends (run_items finds s).state (record { ready = (found sure a offset ps s b).0; used = (run_items finds s).used; ends = f }) m.trap m.memory m.spares
      go false e =
          let f : run_items finds s ≡ flow false (run_items finds s).state (run_items finds s).used = ap (λ c. flow c (run_items finds s).state (run_items finds s).used) e in
          let m : Missed false ps s (run_items finds s).state = (found sure a offset ps s b).2 o false (run_items finds s).state (run_items finds s).used f in
          let g = m.goes_on refl in
          let h : Here ps m.memory.window.page g.0 g.1 m.memory.window.place m.memory.window.byte (run_items finds s).state =
          record { at = memory_at ps (run_items finds s).state m.memory; place = g.4; byte = g.5; low_place = g.2; low_byte = g.3 } in
          let d = stays_trapped op ps m.memory.window.page g.0 g.1 m.memory.window.place m.memory.window.byte (run_items finds s).state k h m.trap in
          load_faults (run_items finds s).state d.0 (record { ready = (found sure a offset ps s b).0; used = (run_items finds s).used; ends = f }) m.spares d.1

  -- by where the address is
  all_faults : items_at (pages_bytes ps) at_address (load_width op) ≡ None → Faults (load_items sure op a offset r) s ps
  all_faults q = ⊎_elim inside beyond_faults (cases_lt at_address (65536 * length ps))
    where
      inside : address (place_at s a) offset < 65536 * length ps → Faults (load_items sure op a offset r) s ps
      inside i = let f = (found sure a offset ps s b).1 i in found_faults f.0 f.1 f.2 f.3 q

  within_memory : (bytes : List ℕ) → items_at (pages_bytes ps) at_address (load_width op) ≡ Some bytes → 0 < load_width op → at_address < 65536 * length ps
  within_memory bytes q w = ⊎_elim (λ i. i) beyond (cases_lt at_address (65536 * length ps))
    where
      beyond : 65536 * length ps ≤ address (place_at s a) offset → address (place_at s a) offset < 65536 * length ps
      beyond i =
          let f = nothing_beyond ps b.memory.are_pages (address (place_at s a) offset) (load_width op) (omega arith) in
          absurd (let y : Some bytes ≡ None = sym q ∙ f in cc)

  all_reads : (bytes : List ℕ) → items_at (pages_bytes ps) at_address (load_width op) ≡ Some bytes → 0 < load_width op
      → Does (load_items sure op a offset r) s r (cast_signed w32 (extension op (number_of bytes)) ∷ []) ps
  all_reads bytes q w =
      let f = (found sure a offset ps s b).1 (within_memory bytes q w) in
      found_reads f.0 f.1 f.2 f.3 bytes q

-- each of them makes an i32
pub loads_done : AddressesAreFound → LoadsAreDone
loads_done found sure I32Load a offset r ps s b k l = (λ bytes q. all_reads found sure I32Load a offset r ps s b k l bytes q (omega arith), all_faults found sure I32Load a offset r ps s b k l)
loads_done found sure I32Load8S a offset r ps s b k l = (λ bytes q. all_reads found sure I32Load8S a offset r ps s b k l bytes q (omega arith), all_faults found sure I32Load8S a offset r ps s b k l)
loads_done found sure I32Load8U a offset r ps s b k l = (λ bytes q. all_reads found sure I32Load8U a offset r ps s b k l bytes q (omega arith), all_faults found sure I32Load8U a offset r ps s b k l)
loads_done found sure I32Load16S a offset r ps s b k l = (λ bytes q. all_reads found sure I32Load16S a offset r ps s b k l bytes q (omega arith), all_faults found sure I32Load16S a offset r ps s b k l)
loads_done found sure I32Load16U a offset r ps s b k l = (λ bytes q. all_reads found sure I32Load16U a offset r ps s b k l bytes q (omega arith), all_faults found sure I32Load16U a offset r ps s b k l)
loads_done found sure _ a offset r ps s b k l = absurd cc
