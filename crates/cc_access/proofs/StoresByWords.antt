-- Stores of all widths by stores of i32, whatever items these are.
use Rattle.std.proofs.Common.{◌≡◌, ℕ, suc, ◌+◌, ◌/◌, ◌%◌, ◌^◌, ◌<◌, ◌≤◌, List, [], ◌++◌, length, Some, Bool, true, false, refl, sym, ap, ◌∙◌, subst, arith}
use Rattle.std.specs.Prelude.{ℤ, pos, slice_index_or}
use Rattle.std.specs.Int.{w32, w64, int_wrap, cast_unsigned}
use Rattle.mc_nbt.specs.declared.value.Value.{Value}
use Rattle.mc_nbt.specs.declared.value.Value.TheVariants as values
use Rattle.mc_nbt.specs.Value.{is_value}
use Rattle.mc_nbt.specs.Word.{is_int, is_long}
use Rattle.mc_cmd.specs.Pack.{high_half}
use Rattle.wm_ast.specs.declared.operation.StoreOp.{StoreOp}
use Rattle.wm_ast.specs.declared.operation.StoreOp.TheVariants.{I32Store, I64Store, I32Store8, I32Store16, I64Store8, I64Store16, I64Store32}
use Rattle.wm_ast.specs.Storage.{bytes_of, stored}
use Rattle.wm_ast.specs.Store.{overwritten}
use Rattle.wm_ast.proofs.StorageLaws.{bytes_of-length}
use Rattle.cc_line.specs.Key.{score_trap}
use Rattle.cc_line.specs.Routine.{value_ints, AreAt}
use Rattle.cc_line.specs.State.{State, place_at}
use Rattle.cc_line.specs.Item.{Items, no_more, join}
use Rattle.cc_page.specs.Pages.{pages_bytes}
use Rattle.cc_page.proofs.ByteLemmas.{bytes_of-same}
use Rattle.cc_page.proofs.ShownLemmas.{pages_many}
use Rattle.cc_mem.specs.Standing.{HasMemory}
use Rattle.cc_mem.specs.Law.{Does, is_store}
use Rattle.cc_access.specs.Access.{low_store}
use Rattle.cc_access.proofs.Bytes.{written_twice, written_length, eight_bytes}
use Rattle.cc_access.proofs.Halves.{long_halves}
use Rattle.cc_access.proofs.LoadsByWords.{shifted}
use Rattle.cc_access.proofs.Sequel.{does_both}

-- items that leave these bytes at an address
abbrev pub Written : Items → List (List ℕ) → State → ℕ → List ℕ → Type 0
Written xs ps s at bytes = (qs : List (List ℕ)) × (pages_bytes qs ≡ overwritten (pages_bytes ps) at bytes) × Does xs s 0 [] qs

-- a state from which a word is stored: as many pages stand, no trap is recorded, and the places are as they were
pub record Ahead (ps qs : List (List ℕ)) (s t : State) : Type 0 where
  pub memory : HasMemory qs t
  pub many : length qs ≡ length ps
  pub trap : t.scores score_trap ≡ Some (pos 0)
  pub places : t.places ≡ s.places

-- what stores of i32 do, where they fit
abbrev pub Puts : List (List ℕ) → ℕ → State → (Bool → StoreOp → ℕ → Items) → (Bool → StoreOp → Type 0) → Type 0
Puts ps at s w Fits =
    (high : Bool) (op : StoreOp) (v : ℕ) (bytes : List ℕ) (qs : List (List ℕ)) (t : State) → is_store op ≡ true → Fits high op → Ahead ps qs s t → v < length t.places
    → is_int (place_at t v) ≡ true → stored op (values.I32 (place_at t v)) ≡ Some bytes → shifted high at + length bytes ≤ length (pages_bytes qs)
    → Written (w high op v) qs t (shifted high at) bytes

-- the items that are made of them
abbrev pub high_first : (Bool → StoreOp → ℕ → Items) → StoreOp → ℕ → Items
high_first w I64Store a = w true I32Store (suc (suc a))
high_first w _ a = no_more

abbrev pub by_puts : (Bool → StoreOp → ℕ → Items) → StoreOp → ℕ → Items
by_puts w op a = join (high_first w op a) (w false (low_store op) (suc a))

same_bytes : (bs cs : List ℕ) → Some bs ≡ Some cs → bs ≡ cs
same_bytes bs cs e = cc

-- the low bytes are those of the low half
pub narrow_bytes : (z : ℤ) (count : ℕ) (bytes : List ℕ) → is_long z ≡ true → ((m : ℕ) → m % 4294967296 % 256 ^ count ≡ m % 256 ^ count) → Some (bytes_of count (cast_unsigned w64 z)) ≡ Some bytes
    → Some (bytes_of count (cast_unsigned w32 (int_wrap w32 z))) ≡ Some bytes
narrow_bytes z count bytes i h e =
    ap (λ m. Some (bytes_of count m)) (long_halves z i).low ∙ ap Some (bytes_of-same count (cast_unsigned w64 z % 4294967296) (cast_unsigned w64 z) (h (cast_unsigned w64 z))) ∙ e

module _ (ps : List (List ℕ)) (at a : ℕ) (s : State) (w : Bool → StoreOp → ℕ → Items) (Fits : Bool → StoreOp → Type 0) (puts : Puts ps at s w Fits) (m : HasMemory ps s) (trap : s.scores score_trap ≡ Some (pos 0)) where
  here : Ahead ps ps s s
  here = record { memory = m; many = refl; trap = trap; places = refl }

  -- one whose int is in the next place
  short : (op : StoreOp) (z : ℤ) (bytes : List ℕ) → is_store op ≡ true → Fits false op → is_int z ≡ true → suc a < length s.places → place_at s (suc a) ≡ z
      → stored op (values.I32 z) ≡ Some bytes → at + length bytes ≤ length (pages_bytes ps) → Written (w false op (suc a)) ps s at bytes
  short op z bytes k f i l p e r = puts false op (suc a) bytes ps s k f here l (ap is_int p ∙ i) (ap (λ y. stored op (values.I32 y)) p ∙ e) r

  -- ---- of eight bytes

  module _ (z : ℤ) (i : is_long z ≡ true) (l : suc (suc a) < length s.places) (low : place_at s (suc a) ≡ int_wrap w32 z) (high : place_at s (suc (suc a)) ≡ high_half z) (f : Fits false I32Store) (g : Fits true I32Store) where
    abbrev n : ℕ
    n = cast_unsigned w64 z

    abbrev low_bytes : List ℕ
    low_bytes = bytes_of 4 (n % 4294967296)

    abbrev high_bytes : List ℕ
    high_bytes = bytes_of 4 (n / 4294967296)

    long_low : length low_bytes ≡ 4
    long_low = bytes_of-length 4 (n % 4294967296)

    long_high : length high_bytes ≡ 4
    long_high = bytes_of-length 4 (n / 4294967296)

    high_put : at + 8 ≤ length (pages_bytes ps) → Written (w true I32Store (suc (suc a))) ps s (at + 4) high_bytes
    high_put k =
        let h = long_halves z i in
        let o = long_high in
        puts true I32Store (suc (suc a)) high_bytes ps s refl g here l (ap is_int high ∙ h.high_int)
        (ap (λ y. stored I32Store (values.I32 y)) high ∙ ap (λ m. Some (bytes_of 4 m)) h.high) (omega arith)

    low_put : (qs : List (List ℕ)) (t : State) → Ahead ps qs s t → at + 4 ≤ length (pages_bytes qs) → Written (w false I32Store (suc a)) qs t at low_bytes
    low_put qs t c k =
        let h = long_halves z i in
        let o = long_low in
        let p : place_at t (suc a) ≡ int_wrap w32 z = ap (λ us. slice_index_or us (suc a) (pos 0)) c.places ∙ low in
        let la : suc a < length s.places = omega arith in
        puts false I32Store (suc a) low_bytes qs t refl f c (subst (λ us. suc a < length us) (sym c.places) la) (ap is_int p ∙ h.low_int)
        (ap (λ y. stored I32Store (values.I32 y)) p ∙ ap (λ m. Some (bytes_of 4 m)) h.low) (omega arith)

    both : at + 8 ≤ length (pages_bytes ps) → Written (by_puts w I64Store a) ps s at (low_bytes ++ high_bytes)
    both k =
        let o = long_high in
        let d = high_put k in
        let qs : List (List ℕ) = d.0 in
        let long : length (pages_bytes qs) ≡ length (pages_bytes ps) = ap length d.1 ∙ written_length (pages_bytes ps) high_bytes (at + 4) (omega arith) in
        let p = pages_many ps m.are_pages in
        let q = pages_many qs d.2.memory.are_pages in
        let c : Ahead ps qs s d.2.state = record { memory = d.2.memory; many = omega arith; trap = d.2.trap; places = d.2.places } in
        let e = low_put qs d.2.state c (omega arith) in (
          e.0,
          e.1 ∙ ap (λ x. overwritten x at low_bytes) d.1 ∙ written_twice (pages_bytes ps) at low_bytes high_bytes (omega arith) long_low long_high,
          does_both (w true I32Store (suc (suc a))) (w false I32Store (suc a)) s 0 0 0 [] [] [] qs e.0 d.2 e.2 refl,
        )

    wide : (bytes : List ℕ) → bytes_of 8 n ≡ bytes → at + length bytes ≤ length (pages_bytes ps) → Written (by_puts w I64Store a) ps s at bytes
    wide bytes e k =
        let b : low_bytes ++ high_bytes ≡ bytes = sym (eight_bytes n) ∙ e in
        let o : length bytes ≡ 8 = ap length (sym e) ∙ bytes_of-length 8 n in
        subst (λ x. Written (by_puts w I64Store a) ps s at x) b (both (omega arith))

  -- ---- each operation

  narrow : (op : StoreOp) (z : ℤ) (bytes : List ℕ) → is_store op ≡ true → Fits false op → is_long z ≡ true → suc a < length s.places → place_at s (suc a) ≡ int_wrap w32 z
      → stored op (values.I32 (int_wrap w32 z)) ≡ Some bytes → at + length bytes ≤ length (pages_bytes ps) → Written (w false op (suc a)) ps s at bytes
  narrow op z bytes k f i l p e r = short op (int_wrap w32 z) bytes k f (long_halves z i).low_int l p e r

  pub stores_by_puts : (op : StoreOp) (v : Value) (bytes : List ℕ) → Fits false (low_store op) → (op ≡ I64Store → Fits true I32Store) → is_value v ≡ true → AreAt s (suc a) (value_ints v) → stored op v ≡ Some bytes
      → at + length bytes ≤ length (pages_bytes ps) → Written (by_puts w op a) ps s at bytes
  stores_by_puts I32Store (values.I32 z) bytes f g i p e r = short I32Store z bytes refl f i p.0 p.1 e r
  stores_by_puts I32Store8 (values.I32 z) bytes f g i p e r = short I32Store8 z bytes refl f i p.0 p.1 e r
  stores_by_puts I32Store16 (values.I32 z) bytes f g i p e r = short I32Store16 z bytes refl f i p.0 p.1 e r
  stores_by_puts I64Store (values.I64 z) bytes f g i p e r = wide z i p.2.0 p.1 p.2.1 f (g refl) bytes (same_bytes _ _ e) r
  stores_by_puts I64Store8 (values.I64 z) bytes f g i p e r = narrow I32Store8 z bytes refl f i p.0 p.1 (narrow_bytes z 1 bytes i (λ m. omega arith) e) r
  stores_by_puts I64Store16 (values.I64 z) bytes f g i p e r = narrow I32Store16 z bytes refl f i p.0 p.1 (narrow_bytes z 2 bytes i (λ m. omega arith) e) r
  stores_by_puts I64Store32 (values.I64 z) bytes f g i p e r = narrow I32Store z bytes refl f i p.0 p.1 (narrow_bytes z 4 bytes i (λ m. omega arith) e) r
  stores_by_puts I32Store (values.I64 z) bytes f g i p e r = absurd cc
  stores_by_puts I32Store8 (values.I64 z) bytes f g i p e r = absurd cc
  stores_by_puts I32Store16 (values.I64 z) bytes f g i p e r = absurd cc
  stores_by_puts I64Store (values.I32 z) bytes f g i p e r = absurd cc
  stores_by_puts I64Store8 (values.I32 z) bytes f g i p e r = absurd cc
  stores_by_puts I64Store16 (values.I32 z) bytes f g i p e r = absurd cc
  stores_by_puts I64Store32 (values.I32 z) bytes f g i p e r = absurd cc
