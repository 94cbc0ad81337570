-- Loads at a known address.
use Rattle.std.proofs.Common.{◌≡◌, ℕ, ◌+◌, ◌-◌, ◌^◌, ◌<◌, ◌≤◌, List, [], ◌∷◌, length, Some, Bool, refl, sym, ap, ◌∙◌, subst, arith}
use Rattle.std.specs.Prelude.{ℤ, pos, codes}
use Rattle.std.specs.Int.{w8, w16, w32, cast_signed}
use Rattle.mc_cmd.specs.Form.{Text}
use Rattle.mc_cmd.specs.Command.{Op, multiply, divide, remainder}
use Rattle.mc_cmd.specs.World.{operate}
use Rattle.wm_ast.specs.declared.operation.LoadOp.{LoadOp}
use Rattle.wm_ast.specs.declared.operation.LoadOp.TheVariants.{I32Load, I32Load8S, I32Load8U, I32Load16S, I32Load16U}
use Rattle.wm_ast.specs.Integer.{extend_s}
use Rattle.wm_ast.specs.Operation.{load_width}
use Rattle.wm_ast.specs.Storage.{number_of, extension}
use Rattle.wm_ast.specs.Store.{items_at}
use Rattle.cc_line.specs.Key.{score_trap, scale_of}
use Rattle.cc_line.specs.State.{State, with_place}
use Rattle.cc_line.specs.Step.{keep_place, site_to_place, with_taken}
use Rattle.cc_line.specs.Core.{Straight}
use Rattle.cc_line.specs.Item.{Items, steps_items}
use Rattle.cc_line.proofs.CoreLemmas.{straight_none}
use Rattle.cc_line.proofs.RunLemmas.{Leads, leads_none, straight_leads}
use Rattle.cc_page.specs.Pages.{pages_bytes, signed_word, part_of}
use Rattle.cc_page.proofs.Scores.{parts_by_scores}
use Rattle.cc_page.proofs.ShownLemmas.{pages_many}
use Rattle.cc_mem.specs.Standing.{stem_byte, HasMemory}
use Rattle.cc_mem.specs.Law.{Does}
use Rattle.cc_mem.proofs.Changes.{byte_scale}
use Rattle.cc_mem.proofs.Filled.{straight_combine, straight_load, nest, steady_nest, steady_goes}
use Rattle.cc_mem.proofs.Fills.{straight_act}
use Rattle.cc_mem.proofs.Loads.{memory_placed, spares_placed}
use Rattle.cc_mem.proofs.LoadSums.{signed_byte, signed_half, unsigned_part, unsigned_half, whole_word}
use Rattle.cc_mem.proofs.Near.{at_memory, memory_at, spares_then}
use Rattle.cc_mem.proofs.Stepping.{act_leads}
use Rattle.cc_access.specs.Known.{byte_in, word_path, part_steps, word_steps}
use Rattle.cc_access.proofs.Bytes.{reads_within}
use Rattle.cc_access.proofs.KnownWords.{Here, word_here, word_selected, number_within}
use Rattle.cc_access.proofs.LoadsByWords.{shifted, Words}

-- ---- a word, and a part of one

module _ (ps : List (List ℕ)) (at r : ℕ) (s : State) (m : HasMemory ps s) (e : s.scores score_trap ≡ Some (pos 0)) (l : r < length s.places) (w : Here ps at) where
  placed : (xs : Items) (z : ℤ) → Leads xs s (with_place s r z) → Does xs s r (z ∷ []) ps
  placed xs z d = record {
    ready = d.ready;
    state = with_place s r z;
    used = d.used;
    ends = d.ends;
    places = refl;
    trap = e;
    memory = memory_placed ps s r z m;
    spares = spares_placed s r z;
  }

  pub word_placed : Does (steps_items (word_steps I32Load at r)) s r (signed_word w.word ∷ []) ps
  word_placed =
      let t : State = with_place s r (signed_word w.word) in
      placed (steps_items (word_steps I32Load at r)) (signed_word w.word)
      (act_leads (site_to_place r (word_path at)) _ s t t l (ap (with_taken s r) (word_selected ps at m.are_pages w s m.pages)) (leads_none t))

  -- by an operation with a scale, and then one with another
  pub part_placed : (op last : Op) (i j : ℕ) (y z : ℤ) → i < 4 → j < 4 → operate op (signed_word w.word) (pos (256 ^ i)) ≡ Some y → operate last y (pos (256 ^ j)) ≡ Some z
      → Does (steps_items (part_steps at op i last j r)) s r (z ∷ []) ps
  part_placed op last i j y z hi hj f g =
      let u0 : List (Text × ℤ) = (codes "#u", signed_word w.word) ∷ [] in
      let u1 : List (Text × ℤ) = (codes "#u", y) ∷ u0 in
      let u2 : List (Text × ℤ) = (codes "#u", z) ∷ u1 in
      let u : State = nest s u2 in
      let t : State = with_place u r z in
      let d : Straight (part_steps at op i last j r) s t =
      straight_load (codes "#u") (word_path at) (signed_word w.word) _ s t (word_selected ps at m.are_pages w s m.pages)
      (straight_combine (codes "#u") (scale_of stem_byte i) op (signed_word w.word) (pos (256 ^ i)) y _ (nest s u0) t refl (byte_scale s m.constants i hi u0 refl) f
      (straight_combine (codes "#u") (scale_of stem_byte j) last y (pos (256 ^ j)) z _ (nest s u1) t refl (byte_scale s m.constants j hj u1 refl) g
      (straight_act (keep_place r (codes "#u")) [] u t t l refl (straight_none t)))) in
      let q = straight_leads (part_steps at op i last j r) s t d in
      let k = steady_goes ps m.window.page m.window.place m.window.byte s u (memory_at ps s m) (steady_nest s u2 refl) in
      record {
        ready = q.ready;
        state = t;
        used = q.used;
        ends = q.ends;
        places = refl;
        trap = e;
        memory = memory_placed ps u r z (at_memory ps m.window.page m.window.place m.window.byte u k.at);
        spares = spares_then s u t k.spares (spares_placed u r z);
      }

-- ---- what is loaded

module _ (ps : List (List ℕ)) (at r : ℕ) (bytes : List ℕ) (s : State) (m : HasMemory ps s) (e : s.scores score_trap ≡ Some (pos 0)) (l : r < length s.places) where
  abbrev Loads : LoadOp → Type 0
  Loads op = byte_in at + load_width op ≤ 4 → items_at (pages_bytes ps) at (load_width op) ≡ Some bytes → Does (steps_items (word_steps op at r)) s r (cast_signed w32 (extension op (number_of bytes)) ∷ []) ps

  here : (width : ℕ) → 0 < width → items_at (pages_bytes ps) at width ≡ Some bytes → Here ps at
  here width h f = let n = pages_many ps m.are_pages in let i = reads_within (pages_bytes ps) at width bytes f in word_here ps at m.are_pages (omega arith)

  loads_word : Loads I32Load
  loads_word k f =
      let w = here 4 (omega arith) f in
      let z : byte_in at ≡ 0 = omega arith in
      let n : part_of w.word 0 4 ≡ number_of bytes = ap (λ b. part_of w.word b 4) (sym z) ∙ number_within ps at m.are_pages w 4 bytes f k in
      subst (λ y. Does (steps_items (word_steps I32Load at r)) s r (y ∷ []) ps) (sym (whole_word w.word w.small) ∙ ap (cast_signed w32) n) (word_placed ps at r s m e l w)

  loads_byte : Loads I32Load8U
  loads_byte k f =
      let w = here 1 (omega arith) f in
      let low : byte_in at < 4 = omega arith in
      let p = parts_by_scores w.word (byte_in at) 1 w.small low (omega arith) (omega arith) k in
      subst (λ y. Does (steps_items (word_steps I32Load8U at r)) s r (y ∷ []) ps)
      (sym (unsigned_part w.word (byte_in at)) ∙ ap (cast_signed w32) (number_within ps at m.are_pages w 1 bytes f k))
      (part_placed ps at r s m e l w divide remainder (byte_in at) 1 p.0 (pos (part_of w.word (byte_in at) 1)) low (omega arith) p.1 p.2)

  loads_half : Loads I32Load16U
  loads_half k f =
      let w = here 2 (omega arith) f in
      let low : byte_in at < 4 = omega arith in
      let p = parts_by_scores w.word (byte_in at) 2 w.small low (omega arith) (omega arith) k in
      subst (λ y. Does (steps_items (word_steps I32Load16U at r)) s r (y ∷ []) ps)
      (sym (unsigned_half w.word (byte_in at)) ∙ ap (cast_signed w32) (number_within ps at m.are_pages w 2 bytes f k))
      (part_placed ps at r s m e l w divide remainder (byte_in at) 2 p.0 (pos (part_of w.word (byte_in at) 2)) low (omega arith) p.1 p.2)

  loads_signed_byte : Loads I32Load8S
  loads_signed_byte k f =
      let w = here 1 (omega arith) f in
      let low : byte_in at < 4 = omega arith in
      let p = signed_byte w.word (byte_in at) w.small low in
      subst (λ n. Does (steps_items (word_steps I32Load8S at r)) s r (cast_signed w32 (extend_s w8 w32 n) ∷ []) ps) (number_within ps at m.are_pages w 1 bytes f k)
      (part_placed ps at r s m e l w multiply divide (3 - byte_in at) 3 p.raised (cast_signed w32 (extend_s w8 w32 (part_of w.word (byte_in at) 1))) (omega arith) (omega arith) p.multiplies p.divides)

  loads_signed_half : Loads I32Load16S
  loads_signed_half k f =
      let w = here 2 (omega arith) f in
      let low : byte_in at < 3 = omega arith in
      let p = signed_half w.word (byte_in at) w.small low in
      subst (λ n. Does (steps_items (word_steps I32Load16S at r)) s r (cast_signed w32 (extend_s w16 w32 n) ∷ []) ps) (number_within ps at m.are_pages w 2 bytes f k)
      (part_placed ps at r s m e l w multiply divide (2 - byte_in at) 2 p.raised (cast_signed w32 (extend_s w16 w32 (part_of w.word (byte_in at) 2))) (omega arith) (omega arith) p.multiplies p.divides)

-- the loads of i32 that those of all widths are made of
abbrev pub known_words : ℕ → Bool → LoadOp → ℕ → Items
known_words at high op r = steps_items (word_steps op (shifted high at) r)

abbrev pub Within : ℕ → Bool → LoadOp → Type 0
Within at high op = byte_in (shifted high at) + load_width op ≤ 4

pub known_loads : (ps : List (List ℕ)) (at a : ℕ) (x : ℤ) → Words ps at a x (known_words at) (Within at)
known_loads ps at a x high I32Load r bytes s k f c l e = loads_word ps (shifted high at) r bytes s c.memory c.trap l f e
known_loads ps at a x high I32Load8U r bytes s k f c l e = loads_byte ps (shifted high at) r bytes s c.memory c.trap l f e
known_loads ps at a x high I32Load16U r bytes s k f c l e = loads_half ps (shifted high at) r bytes s c.memory c.trap l f e
known_loads ps at a x high I32Load8S r bytes s k f c l e = loads_signed_byte ps (shifted high at) r bytes s c.memory c.trap l f e
known_loads ps at a x high I32Load16S r bytes s k f c l e = loads_signed_half ps (shifted high at) r bytes s c.memory c.trap l f e
known_loads ps at a x high _ r bytes s k f c l e = absurd cc
