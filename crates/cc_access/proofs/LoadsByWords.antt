-- Loads of all widths by loads of i32, whatever items these are.
use Rattle.std.proofs.Common.{◌≡◌, ℕ, suc, ◌+◌, ◌/◌, ◌%◌, ◌<◌, ◌≤◌, List, [], ◌∷◌, length, Some, Bool, true, false, refl, sym, ap, ap₂, ◌∙◌, subst, arith}
use Rattle.std.specs.Prelude.{ℤ, pos, slice_index_or}
use Rattle.std.specs.Int.{w8, w16, w32, w64, int_wrap, cast_signed, cast_unsigned}
use Rattle.std.proofs.lemmas.List.{length-set}
use Rattle.mc_nbt.specs.Word.{is_int}
use Rattle.mc_cmd.specs.Pack.{high_half}
use Rattle.wm_ast.specs.declared.operation.LoadOp.{LoadOp}
use Rattle.wm_ast.specs.declared.operation.LoadOp.TheVariants.{I32Load, I64Load, I32Load8S, I32Load8U, I32Load16S, I32Load16U, I64Load8S, I64Load8U, I64Load16S, I64Load16U, I64Load32S, I64Load32U}
use Rattle.wm_ast.specs.Operation.{load_kind, load_width}
use Rattle.wm_ast.specs.Storage.{number_of, loaded}
use Rattle.wm_ast.specs.Store.{items_at}
use Rattle.cc_line.specs.Key.{score_trap}
use Rattle.cc_line.specs.Routine.{value_ints}
use Rattle.cc_line.specs.State.{State, place_at}
use Rattle.cc_line.specs.Item.{Items, no_more, join, steps_items}
use Rattle.cc_page.specs.Pages.{pages_bytes}
use Rattle.cc_mem.specs.Standing.{HasMemory}
use Rattle.cc_mem.specs.Law.{Does, is_load}
use Rattle.cc_access.specs.Access.{low_load, zero_steps, sign_steps, high_steps}
use Rattle.cc_access.specs.Law.{kind_places}
use Rattle.cc_access.proofs.Bytes.{number_small, two_words}
use Rattle.cc_line.proofs.Longs as longs
use Rattle.cc_access.proofs.Halves.{sign, extended_low, extended, byte_int, half_int, any_word_int, extended_zero}
use Rattle.cc_access.proofs.LoadSteps.{zeros, signs}
use Rattle.cc_access.proofs.Sequel.{does_both, does_alone, set_swapped, get_below, get_same}

-- a state from which a word is loaded: the memory stands, no trap is recorded, and the operand is in its place
pub record Calm (ps : List (List ℕ)) (a : ℕ) (x : ℤ) (s : State) : Type 0 where
  pub memory : HasMemory ps s
  pub trap : s.scores score_trap ≡ Some (pos 0)
  pub there : a < length s.places
  pub operand : place_at s a ≡ x

-- the address of the low half, or of the high one
abbrev pub shifted : Bool → ℕ → ℕ
shifted false at = at
shifted true at = at + 4

-- what loads of i32 do, where they fit
abbrev pub Words : List (List ℕ) → ℕ → ℕ → ℤ → (Bool → LoadOp → ℕ → Items) → (Bool → LoadOp → Type 0) → Type 0
Words ps at a x w Fits =
    (high : Bool) (op : LoadOp) (r : ℕ) (bytes : List ℕ) (s : State) → is_load op ≡ true → Fits high op → Calm ps a x s → r < length s.places
    → items_at (pages_bytes ps) (shifted high at) (load_width op) ≡ Some bytes → Does (w high op r) s r (value_ints (loaded op bytes)) ps

-- the items that are made of them
abbrev pub high_first : (Bool → LoadOp → ℕ → Items) → LoadOp → ℕ → Items
high_first w I64Load a = w true I32Load (suc a)
high_first w _ a = no_more

abbrev pub by_words : (Bool → LoadOp → ℕ → Items) → LoadOp → ℕ → Items
by_words w op a = join (high_first w op a) (join (w false (low_load op) a) (steps_items (high_steps op a)))

module _ (ps : List (List ℕ)) (at a : ℕ) (x : ℤ) (w : Bool → LoadOp → ℕ → Items) (Fits : Bool → LoadOp → Type 0) (words : Words ps at a x w Fits) (s : State) (c : Calm ps a x s) where
  -- the load of the low half
  abbrev low_items : LoadOp → Items
  low_items op = w false (low_load op) a

  abbrev Lows : LoadOp → ℤ → Type 0
  Lows op z = Does (low_items op) s a (z ∷ []) ps

  -- ---- with a high half that is made of it

  -- the low half is in its place
  low_at : (op : LoadOp) (z : ℤ) (d : Lows op z) → place_at d.state a ≡ z
  low_at op z d = ap (λ us. slice_index_or us a (pos 0)) d.places ∙ get_same s.places a z c.there

  room : (op : LoadOp) (z : ℤ) (d : Lows op z) (n : ℕ) → n < length s.places → n < length d.state.places
  room op z d n l = subst (λ m. n < m) (sym (ap length d.places ∙ length-set s.places a z)) l

  signed : (op : LoadOp) (z : ℤ) → suc a < length s.places → Lows op z → Does (join (low_items op) (steps_items (sign_steps a))) s a (z ∷ (sign z ∷ [])) ps
  signed op z l d =
      does_both (low_items op) (steps_items (sign_steps a)) s a (suc a) a (z ∷ []) (sign z ∷ []) (z ∷ (sign z ∷ [])) ps ps d
      (subst (λ y. Does (steps_items (sign_steps a)) d.state (suc a) (sign y ∷ []) ps) (low_at op z d)
      (signs a ps d.state d.memory d.trap (room op z d (suc a) l) (room op z d a c.there)))
      refl

  unsigned : (op : LoadOp) (z : ℤ) → suc a < length s.places → Lows op z → Does (join (low_items op) (steps_items (zero_steps a))) s a (z ∷ (pos 0 ∷ [])) ps
  unsigned op z l d =
      does_both (low_items op) (steps_items (zero_steps a)) s a (suc a) a (z ∷ []) (pos 0 ∷ []) (z ∷ (pos 0 ∷ [])) ps ps d
      (zeros a ps d.state d.memory d.trap (room op z d (suc a) l)) refl

  -- ---- narrow ones

  ints_signed : (z : ℤ) → is_int z ≡ true → int_wrap w32 (cast_signed w64 (cast_unsigned w64 z)) ∷ (high_half (cast_signed w64 (cast_unsigned w64 z)) ∷ []) ≡ z ∷ (sign z ∷ [])
  ints_signed z i = let e = extended z i in ap₂ (λ x y. x ∷ (y ∷ [])) e.0 e.1

  -- the result of a narrow load is the low one's, and its sign or zeros
  narrow_signed : (op : LoadOp) (z : ℤ) → is_int z ≡ true → suc a < length s.places → Lows op z
      → Does (join (low_items op) (steps_items (sign_steps a))) s a (int_wrap w32 (cast_signed w64 (cast_unsigned w64 z)) ∷ (high_half (cast_signed w64 (cast_unsigned w64 z)) ∷ [])) ps
  narrow_signed op z i l d = subst (λ zs. Does (join (low_items op) (steps_items (sign_steps a))) s a zs ps) (sym (ints_signed z i)) (signed op z l d)

  -- where it has been made an i32 first
  twice_signed : (op : LoadOp) (z : ℤ) → is_int z ≡ true → suc a < length s.places → Lows op (cast_signed w32 (cast_unsigned w32 z))
      → Does (join (low_items op) (steps_items (sign_steps a))) s a (int_wrap w32 (cast_signed w64 (cast_unsigned w64 z)) ∷ (high_half (cast_signed w64 (cast_unsigned w64 z)) ∷ [])) ps
  twice_signed op z i l d = narrow_signed op z i l (subst (λ y. Lows op y) (extended_low z i) d)

  narrow_unsigned : (op : LoadOp) (n : ℕ) → n < 4294967296 → suc a < length s.places → Lows op (cast_signed w32 n)
      → Does (join (low_items op) (steps_items (zero_steps a))) s a (int_wrap w32 (cast_signed w64 n) ∷ (high_half (cast_signed w64 n) ∷ [])) ps
  narrow_unsigned op n h l d =
      let e = extended_zero n h in
      subst (λ zs. Does (join (low_items op) (steps_items (zero_steps a))) s a zs ps) (sym (ap₂ (λ x y. x ∷ (y ∷ [])) e.0 e.1)) (unsigned op (cast_signed w32 n) l d)

  -- ---- of eight bytes

  abbrev high_items : Items
  high_items = w true I32Load (suc a)

  abbrev low_alone : Items
  low_alone = join (w false I32Load a) (steps_items [])

  -- the high half is in its place, and the operand still in its own
  both_halves : suc a < length s.places → (y : ℤ) (bytes : List ℕ) → Fits false I32Load → Does high_items s (suc a) (y ∷ []) ps → items_at (pages_bytes ps) at 4 ≡ Some bytes
      → Does (join high_items low_alone) s a (cast_signed w32 (number_of bytes) ∷ (y ∷ [])) ps
  both_halves l y bytes f d e =
      let z : ℤ = cast_signed w32 (number_of bytes) in
      let la : a < length d.state.places = subst (λ m. a < m) (sym (ap length d.places ∙ length-set s.places (suc a) y)) c.there in
      let still : Calm ps a x d.state = record {
        memory = d.memory;
        trap = d.trap;
        there = la;
        operand = ap (λ us. slice_index_or us a (pos 0)) d.places ∙ get_below s.places a y ∙ c.operand;
      } in
      does_both high_items low_alone s (suc a) a a (y ∷ []) (z ∷ []) (z ∷ (y ∷ [])) ps ps d
      (does_alone (w false I32Load a) d.state a (z ∷ []) ps (words false I32Load a bytes d.state refl f still la e)) (set_swapped s.places a z y)

  wide : suc a < length s.places → Fits false I32Load → Fits true I32Load → (bytes : List ℕ) → items_at (pages_bytes ps) at 8 ≡ Some bytes
      → Does (by_words w I64Load a) s a (value_ints (loaded I64Load bytes)) ps
  wide l f g bytes e =
      let t = two_words ps at bytes e in
      let n : ℕ = number_of bytes in
      let ls = t.low_small in
      let hs = t.high_small in
      let q = t.number in
      let d = words true I32Load (suc a) t.high s refl g c l t.high_there in
      let low_half : int_wrap w32 (cast_signed w64 n) ≡ cast_signed w32 (number_of t.low) =
      longs.low_word n (omega arith) ∙ (let r : n % 4294967296 ≡ number_of t.low = omega arith in ap (cast_signed w32) r) in
      let high_one : high_half (cast_signed w64 n) ≡ cast_signed w32 (number_of t.high) =
      longs.high_word n (omega arith) ∙ (let r : n / 4294967296 ≡ number_of t.high = omega arith in ap (cast_signed w32) r) in
      subst (λ zs. Does (by_words w I64Load a) s a zs ps) (sym (ap₂ (λ x y. x ∷ (y ∷ [])) low_half high_one)) (both_halves l (cast_signed w32 (number_of t.high)) t.low f d t.low_there)

  -- ---- each operation

  low_word : (op : LoadOp) (bytes : List ℕ) → is_load op ≡ true → Fits false op → items_at (pages_bytes ps) at (load_width op) ≡ Some bytes → Does (w false op a) s a (value_ints (loaded op bytes)) ps
  low_word op bytes k f e = words false op a bytes s k f c c.there e

  whole_word : (op : LoadOp) (bytes : List ℕ) → is_load op ≡ true → Fits false op → items_at (pages_bytes ps) at (load_width op) ≡ Some bytes → Does (join (w false op a) no_more) s a (value_ints (loaded op bytes)) ps
  whole_word op bytes k f e = does_alone (w false op a) s a (value_ints (loaded op bytes)) ps (low_word op bytes k f e)

  pub loads_by_words : (op : LoadOp) → a + kind_places (load_kind op) ≤ length s.places → Fits false (low_load op) → (op ≡ I64Load → Fits true I32Load) → (bytes : List ℕ)
      → items_at (pages_bytes ps) at (load_width op) ≡ Some bytes → Does (by_words w op a) s a (value_ints (loaded op bytes)) ps
  loads_by_words I32Load l f g bytes e = whole_word I32Load bytes refl f e
  loads_by_words I32Load8S l f g bytes e = whole_word I32Load8S bytes refl f e
  loads_by_words I32Load8U l f g bytes e = whole_word I32Load8U bytes refl f e
  loads_by_words I32Load16S l f g bytes e = whole_word I32Load16S bytes refl f e
  loads_by_words I32Load16U l f g bytes e = whole_word I32Load16U bytes refl f e
  loads_by_words I64Load l f g bytes e = wide (omega arith) f (g refl) bytes e
  loads_by_words I64Load8S l f g bytes e = twice_signed I64Load8S (cast_signed w8 (number_of bytes)) (byte_int (number_of bytes)) (omega arith) (low_word I32Load8S bytes refl f e)
  loads_by_words I64Load16S l f g bytes e = twice_signed I64Load16S (cast_signed w16 (number_of bytes)) (half_int (number_of bytes)) (omega arith) (low_word I32Load16S bytes refl f e)
  loads_by_words I64Load32S l f g bytes e = narrow_signed I64Load32S (cast_signed w32 (number_of bytes)) (any_word_int (number_of bytes)) (omega arith) (low_word I32Load bytes refl f e)
  loads_by_words I64Load8U l f g bytes e =
      let h = number_small ps at 1 bytes e in narrow_unsigned I64Load8U (number_of bytes) (omega arith) (omega arith) (low_word I32Load8U bytes refl f e)
  loads_by_words I64Load16U l f g bytes e =
      let h = number_small ps at 2 bytes e in narrow_unsigned I64Load16U (number_of bytes) (omega arith) (omega arith) (low_word I32Load16U bytes refl f e)
  loads_by_words I64Load32U l f g bytes e =
      let h = number_small ps at 4 bytes e in narrow_unsigned I64Load32U (number_of bytes) (omega arith) (omega arith) (low_word I32Load bytes refl f e)
