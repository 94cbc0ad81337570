-- Loads of all widths do what the reduction's loads do.
use Rattle.std.proofs.Common.{◌≡◌, ℕ, suc, ◌+◌, ◌<◌, ◌≤◌, List, [], length, Some, None, Bool, true, false, refl, ap, ◌∙◌, ⊎_elim, arith}
use Rattle.std.specs.Prelude.{if◌then◌else◌}
use Rattle.std.proofs.lemmas.Bool.{cases_lt, lt-leb, le-leb}
use Rattle.mc_nbt.specs.Word.{is_int}
use Rattle.wm_ast.specs.declared.operation.LoadOp.{LoadOp}
use Rattle.wm_ast.specs.declared.operation.LoadOp.TheVariants.{I32Load, I64Load, I32Load8S, I32Load8U, I32Load16S, I32Load16U, I64Load8S, I64Load8U, I64Load16S, I64Load16U, I64Load32S, I64Load32U}
use Rattle.wm_ast.specs.Operation.{load_kind, load_width}
use Rattle.wm_ast.specs.Simple.{address}
use Rattle.wm_ast.specs.Storage.{loaded}
use Rattle.wm_ast.specs.Store.{items_at}
use Rattle.cc_line.specs.Routine.{value_ints}
use Rattle.cc_line.specs.State.{State, place_at}
use Rattle.cc_line.specs.Item.{Items, join, steps_items}
use Rattle.cc_page.specs.Pages.{pages_bytes}
use Rattle.cc_page.proofs.ListLemmas.{items_beyond}
use Rattle.cc_page.proofs.ShownLemmas.{pages_many}
use Rattle.cc_mem.specs.Address.{no_offset}
use Rattle.cc_mem.specs.Law.{Does, Faults, Before, is_load}
use Rattle.cc_mem.specs.Load.{load_items as load_word}
use Rattle.cc_mem.proofs.AddressLemmas.{addresses_found}
use Rattle.cc_mem.proofs.Loads.{loads_done as words_loaded}
use Rattle.cc_access.specs.Access.{next_offset, high_steps, load_items}
use Rattle.cc_access.specs.Law.{kind_places, LoadsAreDone}
use Rattle.cc_access.proofs.Bytes.{reads_none, reads_within}
use Rattle.cc_access.proofs.LoadsByWords.{Calm, shifted, Words, by_words, loads_by_words}
use Rattle.cc_access.proofs.Sequel.{faults_first}

-- ---- the word behind

pub next_is : (offset : ℕ) → offset < no_offset → next_offset offset ≡ offset + 4
next_is offset l = ap (λ c. if c then offset else offset + 4) (lt-leb no_offset offset l)

pub kept_is : (offset : ℕ) → no_offset ≤ offset → next_offset offset ≡ offset
kept_is offset l = ap (λ c. if c then offset else offset + 4) (le-leb no_offset offset l)

module _ (sure : Bool) (a offset : ℕ) (ps : List (List ℕ)) (s : State) (b : Before sure a ps s) where
  abbrev at_address : ℕ
  at_address = address (place_at s a) offset

  -- no offset that is kept leads into the memory
  lost : no_offset ≤ offset → length (pages_bytes ps) < at_address + 1
  lost l = let n = pages_many ps b.memory.are_pages in let f : length ps ≤ 256 = b.memory.few in omega arith

  -- ---- where the bytes stand

  abbrev word_items : Bool → LoadOp → ℕ → Items
  word_items high op r = load_word sure op a (if high then next_offset offset else offset) r

  calm : Calm ps a (place_at s a) s
  calm = record { memory = b.memory; trap = b.trap; there = b.there; operand = refl }

  words : offset < no_offset → Words ps at_address a (place_at s a) word_items (λ high op. Unit {0})
  words near high op r bytes t k f c l e = (words_loaded addresses_found sure op a (if high then next_offset offset else offset) r ps t before k l).0 bytes (there high e)
    where
      before : Before sure a ps t
      before = record { memory = c.memory; a_page = b.a_page; trap = c.trap; there = c.there; int = ap is_int c.operand ∙ b.int }

      there : (h : Bool) → items_at (pages_bytes ps) (shifted h at_address) (load_width op) ≡ Some bytes
          → items_at (pages_bytes ps) (address (place_at t a) (if h then next_offset offset else offset)) (load_width op) ≡ Some bytes
      there false e = ap (λ z. items_at (pages_bytes ps) (address z offset) (load_width op)) c.operand ∙ e
      there true e =
          let n = next_is offset near in
          let q : address (place_at s a) (next_offset offset) ≡ at_address + 4 = omega arith in
          ap (λ z. items_at (pages_bytes ps) (address z (next_offset offset)) (load_width op)) c.operand ∙ ap (λ n. items_at (pages_bytes ps) n (load_width op)) q ∙ e

  -- some byte stands only where the offset leads into the memory
  near_one : (op : LoadOp) (bytes : List ℕ) → 1 ≤ load_width op → items_at (pages_bytes ps) at_address (load_width op) ≡ Some bytes → offset < no_offset
  near_one op bytes h e = ⊎_elim (λ k. k) (λ k. absurd (let o = lost k in let i = reads_within (pages_bytes ps) at_address (load_width op) bytes e in omega arith)) (cases_lt offset no_offset)

  some : (op : LoadOp) → a + kind_places (load_kind op) ≤ length s.places → 1 ≤ load_width op → (bytes : List ℕ) → items_at (pages_bytes ps) at_address (load_width op) ≡ Some bytes
      → Does (by_words word_items op a) s a (value_ints (loaded op bytes)) ps
  some op l h bytes e = loads_by_words ps at_address a (place_at s a) word_items (λ high op. Unit {0}) (words (near_one op bytes h e)) s calm op l tt (λ q. tt) bytes e

  -- ---- where they don't

  low_faults : (op : LoadOp) → is_load op ≡ true → items_at (pages_bytes ps) at_address (load_width op) ≡ None → Faults (load_word sure op a offset a) s ps
  low_faults op k e = (words_loaded addresses_found sure op a offset a ps s b k b.there).1 e

  wide_faults : suc a < length s.places → items_at (pages_bytes ps) at_address 8 ≡ None → Faults (load_items sure I64Load a offset) s ps
  wide_faults l e =
      faults_first (load_word sure I32Load a (next_offset offset) (suc a)) (join (load_word sure I32Load a offset a) (steps_items [])) s ps
      ((words_loaded addresses_found sure I32Load a (next_offset offset) (suc a) ps s b refl l).1 (⊎_elim near far (cases_lt offset no_offset)))
    where
      near : offset < no_offset → items_at (pages_bytes ps) (address (place_at s a) (next_offset offset)) 4 ≡ None
      near k = let g = next_is offset k in reads_none (pages_bytes ps) at_address 8 (address (place_at s a) (next_offset offset)) 4 e (omega arith)

      far : no_offset ≤ offset → items_at (pages_bytes ps) (address (place_at s a) (next_offset offset)) 4 ≡ None
      far k = let g = kept_is offset k in let o = lost k in items_beyond (pages_bytes ps) (address (place_at s a) (next_offset offset)) 4 (omega arith)

  -- ---- each operation

  abbrev Done : LoadOp → Type 0
  Done op = ((bytes : List ℕ) → items_at (pages_bytes ps) at_address (load_width op) ≡ Some bytes → Does (load_items sure op a offset) s a (value_ints (loaded op bytes)) ps)
      × (items_at (pages_bytes ps) at_address (load_width op) ≡ None → Faults (load_items sure op a offset) s ps)

  narrow : (op low : LoadOp) → is_load low ≡ true → items_at (pages_bytes ps) at_address (load_width low) ≡ None → Faults (join (load_word sure low a offset a) (steps_items (high_steps op a))) s ps
  narrow op low k e = faults_first (load_word sure low a offset a) (steps_items (high_steps op a)) s ps (low_faults low k e)

  done : (op : LoadOp) → a + kind_places (load_kind op) ≤ length s.places → Done op
  done I32Load l = (some I32Load l (omega arith), narrow I32Load I32Load refl)
  done I32Load8S l = (some I32Load8S l (omega arith), narrow I32Load8S I32Load8S refl)
  done I32Load8U l = (some I32Load8U l (omega arith), narrow I32Load8U I32Load8U refl)
  done I32Load16S l = (some I32Load16S l (omega arith), narrow I32Load16S I32Load16S refl)
  done I32Load16U l = (some I32Load16U l (omega arith), narrow I32Load16U I32Load16U refl)
  done I64Load l = (some I64Load l (omega arith), wide_faults (omega arith))
  done I64Load8S l = (some I64Load8S l (omega arith), narrow I64Load8S I32Load8S refl)
  done I64Load16S l = (some I64Load16S l (omega arith), narrow I64Load16S I32Load16S refl)
  done I64Load32S l = (some I64Load32S l (omega arith), narrow I64Load32S I32Load refl)
  done I64Load8U l = (some I64Load8U l (omega arith), narrow I64Load8U I32Load8U refl)
  done I64Load16U l = (some I64Load16U l (omega arith), narrow I64Load16U I32Load16U refl)
  done I64Load32U l = (some I64Load32U l (omega arith), narrow I64Load32U I32Load refl)

pub loads_done : LoadsAreDone
loads_done sure op a offset ps s b l = done sure a offset ps s b op l
