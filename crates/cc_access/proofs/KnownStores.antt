-- Stores at a known address.
use Rattle.std.proofs.Common.{◌≡◌, ℕ, ◌+◌, ◌-◌, ◌<◌, ◌≤◌, List, [], ◌∷◌, length, Some, Bool, true, refl, sym, ap, ◌∙◌, arith}
use Rattle.std.specs.Prelude.{ℤ, pos, codes}
use Rattle.std.specs.Int.{w32, cast_unsigned}
use Rattle.mc_nbt.specs.Tree.{int, compound, place}
use Rattle.mc_nbt.specs.Word.{is_int}
use Rattle.wm_ast.specs.declared.operation.StoreOp.{StoreOp}
use Rattle.wm_ast.specs.declared.operation.StoreOp.TheVariants.{I32Store, I32Store8, I32Store16}
use Rattle.wm_ast.specs.Operation.{store_width}
use Rattle.wm_ast.specs.Storage.{bytes_of}
use Rattle.wm_ast.specs.Store.{overwritten}
use Rattle.wm_ast.proofs.StorageLaws.{bytes_of-length}
use Rattle.cc_line.specs.Key.{score_trap}
use Rattle.cc_line.specs.State.{State, place_at, with_score, set_under}
use Rattle.cc_line.specs.Step.{load_place, keep_site, place_to_site, run_act}
use Rattle.cc_line.specs.Core.{Straight}
use Rattle.cc_line.specs.Item.{Items, steps_items}
use Rattle.cc_line.specs.OpenStep.{steps_with, ints_in}
use Rattle.cc_line.proofs.CoreLemmas.{straight_none, straight_append}
use Rattle.cc_line.proofs.RunLemmas.{Leads, leads_none, straight_leads}
use Rattle.cc_line.proofs.Words.{by_word}
use Rattle.cc_page.specs.Pages.{pages_bytes, pages_tree, signed_word, with_word, with_part}
use Rattle.cc_page.proofs.ByteLemmas.{with_part-below}
use Rattle.cc_page.proofs.ShownLemmas.{pages_many}
use Rattle.cc_page.proofs.Stored.{words_are_set}
use Rattle.cc_page.proofs.WriteLemmas.{words_written}
use Rattle.cc_mem.specs.Standing.{HasMemory}
use Rattle.cc_mem.specs.Law.{Spares}
use Rattle.cc_mem.specs.Store.{change_steps as filled_steps}
use Rattle.cc_mem.proofs.Changes.{Makes, change_makes}
use Rattle.cc_mem.proofs.Filled.{set_leaves, steady_goes}
use Rattle.cc_mem.proofs.Fills.{straight_act}
use Rattle.cc_mem.proofs.Near.{At, near_score, near_spares, spares_then, at_near, at_memory, memory_at}
use Rattle.cc_mem.proofs.Puts.{filling_fields, pages_low, put, word_kept, put_spares, put_at}
use Rattle.cc_mem.proofs.Stepping.{act_leads}
use Rattle.cc_access.specs.Known.{byte_in, word_path, change_steps, put_steps}
use Rattle.cc_access.proofs.KnownWords.{page_in, place_in, address_is, Here, word_here, word_selected}
use Rattle.cc_access.proofs.LoadsByWords.{shifted}
use Rattle.cc_access.proofs.StoresByWords.{Written, Puts}

-- an int as a word
int_word : (z : ℤ) → is_int z ≡ true → (signed_word (cast_unsigned w32 z) ≡ z) × (cast_unsigned w32 z < 4294967296)
int_word = by_word (λ m z. (signed_word m ≡ z) × (m < 4294967296)) (λ m h. (refl, h))

same_bytes : (bs cs : List ℕ) → Some bs ≡ Some cs → bs ≡ cs
same_bytes bs cs e = cc

module _ (ps : List (List ℕ)) (at v : ℕ) (bytes : List ℕ) (s : State) (m : HasMemory ps s) (e : s.scores score_trap ≡ Some (pos 0)) (l : v < length s.places) (iv : is_int (place_at s v) ≡ true) (w : Here ps at) where
  abbrev x : ℕ
  x = cast_unsigned w32 (place_at s v)

  abbrev p : ℕ
  p = page_in at

  abbrev i : ℕ
  i = place_in at

  at_here : At ps m.window.page m.window.place m.window.byte s
  at_here = memory_at ps s m

  -- what the pages have with so many bytes of the value
  written : (width : ℕ) → byte_in at + width ≤ 4 → pages_bytes (with_word ps p i (with_part w.word (byte_in at) width x)) ≡ overwritten (pages_bytes ps) at (bytes_of width x)
  written width f = sym (words_written ps m.are_pages p i (byte_in at) width w.word x w.there f).1 ∙ ap (λ n. overwritten (pages_bytes ps) n (bytes_of width x)) (address_is at)

  -- ---- a whole word

  whole : byte_in at + 4 ≤ 4 → bytes_of 4 x ≡ bytes → Written (steps_items (put_steps I32Store at v)) ps s at bytes
  whole f b =
      let n = int_word (place_at s v) iv in
      let hm = w.small in
      let hx : x < 4294967296 = n.1 in
      let z : byte_in at ≡ 0 = omega arith in
      let same : with_part w.word (byte_in at) 4 x ≡ x = ap (λ k. with_part w.word k 4 x) z ∙ (let q : with_part w.word 0 4 x ≡ x = omega arith in q) in
      let t : State = put ps p i x s in
      let set : set_under (s.keys (word_path at).store (word_path at).name) (word_path at).parts (int (place_at s v)) ≡ Some (pages_tree (with_word ps p i x)) =
      ap (λ y. set_under (s.keys (word_path at).store (word_path at).name) (word_path at).parts (int y)) (sym n.0)
      ∙ ap (λ o. set_under o (place (pos p) ∷ (place (pos i) ∷ [])) (int (signed_word x))) m.pages ∙ words_are_set ps m.are_pages p i w.word x w.there in
      let d : Leads (steps_items (put_steps I32Store at v)) s t =
      act_leads (place_to_site (word_path at) v) _ s t t l (set_leaves s (word_path at) (int (place_at s v)) (pages_tree (with_word ps p i x)) set (pages_low (with_word ps p i x))) (leads_none t) in (
        with_word ps p i x,
        ap (λ k. pages_bytes (with_word ps p i k)) (sym same) ∙ written 4 f ∙ ap (overwritten (pages_bytes ps) at) b,
        record {
          ready = d.ready;
          state = t;
          used = d.used;
          ends = d.ends;
          places = refl;
          trap = e;
          memory = at_memory (with_word ps p i x) m.window.page m.window.place m.window.byte t (put_at ps p i x m.window.page m.window.place m.window.byte s hx at_here);
          spares = put_spares ps p i x s;
        },
      )

  -- ---- a part of one

  abbrev valued : State
  valued = with_score s (codes "#s") (place_at s v)

  at_valued : At ps m.window.page m.window.place m.window.byte valued
  at_valued = at_near (codes "#s" ∷ []) ps m.window.page m.window.place m.window.byte s valued refl at_here (near_score (codes "#s" ∷ []) s (codes "#s") (place_at s v) refl)

  spares_valued : Spares s valued
  spares_valued = near_spares (codes "#s" ∷ []) s valued refl (near_score (codes "#s" ∷ []) s (codes "#s") (place_at s v) refl)

  part : (width : ℕ) → 0 < width → width < 4 → byte_in at + width ≤ 4 → bytes_of width x ≡ bytes → Written (steps_items (change_steps width at v)) ps s at bytes
  part width lw hw f b =
      let n = int_word (place_at s v) iv in
      let low : byte_in at < 4 = omega arith in
      let new : ℕ = with_part w.word (byte_in at) width x in
      let g : Makes (steps_with (ints_in (Some (compound (filling_fields p (pos i) (pos (byte_in at)))))) (filled_steps width)) valued new =
      change_makes valued at_valued.constants p i w.word x (byte_in at) width w.small n.1 low lw hw f (word_selected ps at m.are_pages w valued m.pages) (ap Some (sym n.0)) in
      let k = steady_goes ps m.window.page m.window.place m.window.byte valued g.state at_valued g.steady in
      let t : State = put ps p i new g.state in
      let kept : Straight (run_act (keep_site (word_path at) (codes "#u")) ∷ []) g.state t =
      straight_act (keep_site (word_path at) (codes "#u")) [] g.state t t tt (word_kept ps p i w.word new (codes "#u") g.state k.at.pages m.are_pages w.there g.first) (straight_none t) in
      let d : Straight (change_steps width at v) s t =
      straight_act (load_place (codes "#s") v) _ s valued t l refl (straight_append (steps_with (ints_in (Some (compound (filling_fields p (pos i) (pos (byte_in at)))))) (filled_steps width)) _ valued g.state t g.straight kept) in
      let q = straight_leads (change_steps width at v) s t d in
      let below : new < 4294967296 = (let e : 4 ≡ byte_in at + (width + (4 - (byte_in at + width))) = omega arith in with_part-below 4 (byte_in at) width (4 - (byte_in at + width)) w.word x e w.small) in (
        with_word ps p i new,
        written width f ∙ ap (overwritten (pages_bytes ps) at) b,
        record {
          ready = q.ready;
          state = t;
          used = q.used;
          ends = q.ends;
          places = k.places;
          trap = g.steady.scores score_trap refl ∙ e;
          memory = at_memory (with_word ps p i new) m.window.page m.window.place m.window.byte t (put_at ps p i new m.window.page m.window.place m.window.byte g.state below k.at);
          spares = spares_then s valued t spares_valued (spares_then valued g.state t k.spares (put_spares ps p i new g.state));
        },
      )

-- the stores of i32 that those of all widths are made of
abbrev pub known_puts : ℕ → Bool → StoreOp → ℕ → Items
known_puts at high op v = steps_items (put_steps op (shifted high at) v)

abbrev pub Within : ℕ → Bool → StoreOp → Type 0
Within at high op = byte_in (shifted high at) + store_width op ≤ 4

there : (qs : List (List ℕ)) (at : ℕ) (bytes : List ℕ) (k : ℕ) (x : ℕ) (t : State) (m : HasMemory qs t) → 0 < k → bytes_of k x ≡ bytes → at + length bytes ≤ length (pages_bytes qs) → Here qs at
there qs at bytes k x t m lk e r =
    let n = pages_many qs m.are_pages in
    let o : length bytes ≡ k = ap length (sym e) ∙ bytes_of-length k x in
    word_here qs at m.are_pages (omega arith)

pub known_stores : (ps : List (List ℕ)) (at : ℕ) (s : State) → Puts ps at s (known_puts at) (Within at)
known_stores ps at s high I32Store v bytes qs t k f c l i e r =
    let b = same_bytes (bytes_of 4 (cast_unsigned w32 (place_at t v))) bytes e in
    whole qs (shifted high at) v bytes t c.memory c.trap l i (there qs (shifted high at) bytes 4 (cast_unsigned w32 (place_at t v)) t c.memory (omega arith) b r) f b
known_stores ps at s high I32Store8 v bytes qs t k f c l i e r =
    let b = same_bytes (bytes_of 1 (cast_unsigned w32 (place_at t v))) bytes e in
    part qs (shifted high at) v bytes t c.memory c.trap l i (there qs (shifted high at) bytes 1 (cast_unsigned w32 (place_at t v)) t c.memory (omega arith) b r) 1 (omega arith) (omega arith) f b
known_stores ps at s high I32Store16 v bytes qs t k f c l i e r =
    let b = same_bytes (bytes_of 2 (cast_unsigned w32 (place_at t v))) bytes e in
    part qs (shifted high at) v bytes t c.memory c.trap l i (there qs (shifted high at) bytes 2 (cast_unsigned w32 (place_at t v)) t c.memory (omega arith) b r) 2 (omega arith) (omega arith) f b
known_stores ps at s high _ v bytes qs t k f c l i e r = absurd cc
