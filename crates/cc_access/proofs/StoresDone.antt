-- Stores of all widths do what the reduction's stores do.
use Rattle.std.proofs.Common.{◌≡◌, ℕ, suc, ◌+◌, ◌/◌, ◌<◌, ◌≤◌, List, length, Option, Some, None, option_map, Bool, true, false, refl, sym, ap, ◌∙◌, subst, ⊎_elim, arith}
use Rattle.std.specs.Prelude.{ℤ, pos, if◌then◌else◌, slice_index_or}
use Rattle.std.specs.Int.{w32, w64, int_wrap, cast_unsigned}
use Rattle.std.proofs.lemmas.Bool.{cases_lt}
use Rattle.mc_nbt.specs.declared.value.Value.{Value}
use Rattle.mc_nbt.specs.declared.value.Value.TheVariants as values
use Rattle.mc_nbt.specs.Value.{is_value}
use Rattle.mc_nbt.specs.Word.{is_int, is_long}
use Rattle.mc_cmd.specs.Pack.{high_half}
use Rattle.wm_ast.specs.declared.operation.StoreOp.{StoreOp}
use Rattle.wm_ast.specs.declared.operation.StoreOp.TheVariants.{I32Store, I64Store, I32Store8, I32Store16, I64Store8, I64Store16, I64Store32}
use Rattle.wm_ast.specs.Operand.{operand}
use Rattle.wm_ast.specs.Operation.{store_kind, store_width}
use Rattle.wm_ast.specs.Simple.{address}
use Rattle.wm_ast.specs.Storage.{bytes_of, stored}
use Rattle.wm_ast.proofs.StorageLaws.{bytes_of-length}
use Rattle.cc_line.specs.Routine.{value_ints, AreAt}
use Rattle.cc_line.specs.State.{State, place_at}
use Rattle.cc_line.specs.Item.{Items}
use Rattle.cc_page.specs.Pages.{pages_bytes}
use Rattle.cc_page.proofs.ShownLemmas.{pages_many}
use Rattle.cc_mem.specs.Address.{no_offset}
use Rattle.cc_mem.specs.Law.{Faults, Before, is_store}
use Rattle.cc_mem.specs.Store.{store_items as store_word}
use Rattle.cc_mem.proofs.AddressLemmas.{addresses_found}
use Rattle.cc_mem.proofs.StoreLaw.{stores_do as words_stored}
use Rattle.cc_access.specs.Access.{next_offset, store_items}
use Rattle.cc_access.specs.Law.{StoresAreDone}
use Rattle.cc_access.proofs.Halves.{Long, long_halves}
use Rattle.cc_access.proofs.LoadsByWords.{shifted}
use Rattle.cc_access.proofs.LoadsDone.{next_is, kept_is}
use Rattle.cc_access.proofs.Sequel.{faults_first}
use Rattle.cc_access.proofs.StoresByWords.{Written, Puts, narrow_bytes, by_puts, stores_by_puts}

same_bytes : (bs cs : List ℕ) → Some bs ≡ Some cs → bs ≡ cs
same_bytes bs cs e = cc

-- a store writes as many bytes as it is wide
pub stored_length : (op : StoreOp) (v : Value) (bytes : List ℕ) → stored op v ≡ Some bytes → length bytes ≡ store_width op
stored_length op v bytes e = long (operand (store_kind op) v) e
  where
    long : (o : Option ℕ) → option_map (bytes_of (store_width op)) o ≡ Some bytes → length bytes ≡ store_width op
    long None e = absurd cc
    long (Some n) e = ap length (sym (same_bytes (bytes_of (store_width op) n) bytes e)) ∙ bytes_of-length (store_width op) n

one_byte : (op : StoreOp) → 1 ≤ store_width op
one_byte I32Store = omega arith
one_byte I32Store8 = omega arith
one_byte I32Store16 = omega arith
one_byte I64Store = omega arith
one_byte I64Store8 = omega arith
one_byte I64Store16 = omega arith
one_byte I64Store32 = omega arith

module _ (sure : Bool) (a offset : ℕ) (ps : List (List ℕ)) (s : State) (b : Before sure a ps s) where
  abbrev at_address : ℕ
  at_address = address (place_at s a) offset

  -- no offset that is kept leads into the memory
  lost : no_offset ≤ offset → length (pages_bytes ps) ≤ at_address
  lost l = let n = pages_many ps b.memory.are_pages in let f : length ps ≤ 256 = b.memory.few in omega arith

  -- ---- where the bytes are within the memory

  abbrev word_items : Bool → StoreOp → ℕ → Items
  word_items high op v = store_word sure op a (if high then next_offset offset else offset) v

  puts : offset < no_offset → Puts ps at_address s word_items (λ high op. Unit {0})
  puts near high op v bytes qs t k f c l i e r = by high r
    where
      before : Before sure a qs t
      before = record {
        memory = c.memory;
        a_page = λ y. (let z = b.a_page y in let m = c.many in omega arith);
        trap = c.trap;
        there = subst (λ us. a < length us) (sym c.places) b.there;
        int = ap (λ us. is_int (slice_index_or us a (pos 0))) c.places ∙ b.int;
      }

      same : place_at t a ≡ place_at s a
      same = ap (λ us. slice_index_or us a (pos 0)) c.places

      by : (h : Bool) → shifted h at_address + length bytes ≤ length (pages_bytes qs) → Written (store_word sure op a (if h then next_offset offset else offset) v) qs t (shifted h at_address) bytes
      by false r =
          let q : address (place_at t a) offset ≡ at_address = ap (λ z. address z offset) same in
          subst (λ n. Written (store_word sure op a offset v) qs t n bytes) q ((words_stored addresses_found sure op a offset v qs t bytes before k l i e).0 (omega arith))
      by true r =
          let n = next_is offset near in
          let q : address (place_at t a) (next_offset offset) ≡ at_address + 4 = ap (λ z. address z (next_offset offset)) same ∙ omega arith in
          subst (λ n. Written (store_word sure op a (next_offset offset) v) qs t n bytes) q ((words_stored addresses_found sure op a (next_offset offset) v qs t bytes before k l i e).0 (omega arith))

  some : (op : StoreOp) (v : Value) (bytes : List ℕ) → is_value v ≡ true → AreAt s (suc a) (value_ints v) → stored op v ≡ Some bytes
      → at_address + length bytes ≤ length (pages_bytes ps) → Written (by_puts word_items op a) ps s at_address bytes
  some op v bytes i p e r =
      let long = stored_length op v bytes e in
      let wide = one_byte op in
      let near : offset < no_offset = ⊎_elim (λ h. h) (λ h. absurd (let o = lost h in omega arith)) (cases_lt offset no_offset) in
      stores_by_puts ps at_address a s word_items (λ high op. Unit {0}) (puts near) b.memory b.trap op v bytes tt (λ q. tt) i p e r

  -- ---- where they aren't

  -- one whose int is in the next place
  short : (op : StoreOp) (z : ℤ) (bytes : List ℕ) → is_store op ≡ true → is_int z ≡ true → suc a < length s.places → place_at s (suc a) ≡ z
      → stored op (values.I32 z) ≡ Some bytes → length (pages_bytes ps) < at_address + length bytes → Faults (store_word sure op a offset (suc a)) s ps
  short op z bytes k i l p e = (words_stored addresses_found sure op a offset (suc a) ps s bytes b k l (ap is_int p ∙ i) (ap (λ y. stored op (values.I32 y)) p ∙ e)).1

  narrow : (op : StoreOp) (z : ℤ) (bytes : List ℕ) → is_store op ≡ true → is_long z ≡ true → suc a < length s.places → place_at s (suc a) ≡ int_wrap w32 z
      → stored op (values.I32 (int_wrap w32 z)) ≡ Some bytes → length (pages_bytes ps) < at_address + length bytes → Faults (store_word sure op a offset (suc a)) s ps
  narrow op z bytes k i l p e = short op (int_wrap w32 z) bytes k (long_halves z i).low_int l p e

  wide : (z : ℤ) (bytes : List ℕ) → is_long z ≡ true → suc (suc a) < length s.places → place_at s (suc (suc a)) ≡ high_half z → bytes_of 8 (cast_unsigned w64 z) ≡ bytes
      → length (pages_bytes ps) < at_address + length bytes → Faults (store_items sure I64Store a offset) s ps
  wide z bytes i l high e k =
      faults_first (store_word sure I32Store a (next_offset offset) (suc (suc a))) (store_word sure I32Store a offset (suc a)) s ps
      ((words_stored addresses_found sure I32Store a (next_offset offset) (suc (suc a)) ps s high_bytes b refl l (ap is_int high ∙ h.high_int)
      (ap (λ y. stored I32Store (values.I32 y)) high ∙ ap (λ m. Some (bytes_of 4 m)) h.high)).1 (⊎_elim near far (cases_lt offset no_offset)))
    where
      h : Long z (cast_unsigned w64 z)
      h = long_halves z i

      high_bytes : List ℕ
      high_bytes = bytes_of 4 (cast_unsigned w64 z / 4294967296)

      many : length high_bytes ≡ 4
      many = bytes_of-length 4 (cast_unsigned w64 z / 4294967296)

      eight : length bytes ≡ 8
      eight = ap length (sym e) ∙ bytes_of-length 8 (cast_unsigned w64 z)

      near : offset < no_offset → length (pages_bytes ps) < address (place_at s a) (next_offset offset) + length high_bytes
      near q = let g = next_is offset q in let m = many in let o = eight in omega arith

      far : no_offset ≤ offset → length (pages_bytes ps) < address (place_at s a) (next_offset offset) + length high_bytes
      far q = let g = kept_is offset q in let o = lost q in omega arith

  -- ---- each operation

  none : (op : StoreOp) (v : Value) (bytes : List ℕ) → is_value v ≡ true → AreAt s (suc a) (value_ints v) → stored op v ≡ Some bytes
      → length (pages_bytes ps) < at_address + length bytes → Faults (store_items sure op a offset) s ps
  none I32Store (values.I32 z) bytes i p e r = short I32Store z bytes refl i p.0 p.1 e r
  none I32Store8 (values.I32 z) bytes i p e r = short I32Store8 z bytes refl i p.0 p.1 e r
  none I32Store16 (values.I32 z) bytes i p e r = short I32Store16 z bytes refl i p.0 p.1 e r
  none I64Store (values.I64 z) bytes i p e r = wide z bytes i p.2.0 p.2.1 (same_bytes _ _ e) r
  none I64Store8 (values.I64 z) bytes i p e r = narrow I32Store8 z bytes refl i p.0 p.1 (narrow_bytes z 1 bytes i (λ m. omega arith) e) r
  none I64Store16 (values.I64 z) bytes i p e r = narrow I32Store16 z bytes refl i p.0 p.1 (narrow_bytes z 2 bytes i (λ m. omega arith) e) r
  none I64Store32 (values.I64 z) bytes i p e r = narrow I32Store z bytes refl i p.0 p.1 (narrow_bytes z 4 bytes i (λ m. omega arith) e) r
  none I32Store (values.I64 z) bytes i p e r = absurd cc
  none I32Store8 (values.I64 z) bytes i p e r = absurd cc
  none I32Store16 (values.I64 z) bytes i p e r = absurd cc
  none I64Store (values.I32 z) bytes i p e r = absurd cc
  none I64Store8 (values.I32 z) bytes i p e r = absurd cc
  none I64Store16 (values.I32 z) bytes i p e r = absurd cc
  none I64Store32 (values.I32 z) bytes i p e r = absurd cc

  -- the items of each are made of those of i32
  abbrev Whole : StoreOp → Type 0
  Whole op = (v : Value) (bytes : List ℕ) → is_value v ≡ true → AreAt s (suc a) (value_ints v) → stored op v ≡ Some bytes → at_address + length bytes ≤ length (pages_bytes ps)
      → Written (store_items sure op a offset) ps s at_address bytes

  whole : (op : StoreOp) → Whole op
  whole I32Store = some I32Store
  whole I32Store8 = some I32Store8
  whole I32Store16 = some I32Store16
  whole I64Store = some I64Store
  whole I64Store8 = some I64Store8
  whole I64Store16 = some I64Store16
  whole I64Store32 = some I64Store32

pub stores_done : StoresAreDone
stores_done sure op a offset ps s v bytes b i p e = (whole sure a offset ps s b op v bytes i p e, none sure a offset ps s b op v bytes i p e)
