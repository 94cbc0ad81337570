-- Accesses whose address may be known do what the reduction's do.
use Rattle.std.proofs.Common.{◌≡◌, ℕ, suc, ◌+◌, ◌*◌, ◌%◌, ◌<◌, ◌≤◌, List, length, Option, Some, None, Bool, true, false, refl, sym, ap, ◌∙◌, subst, arith}
use Rattle.std.specs.Prelude.{◌&&◌, if◌then◌else◌, nat_lt, nat_le, nat_eq}
use Rattle.std.specs.Int.{w32, cast_unsigned}
use Rattle.std.proofs.lemmas.Bool.{ltb-true, leb-true, eqb-true}
use Rattle.mc_nbt.proofs.TestLemmas.{and_first, and_second}
use Rattle.mc_nbt.specs.declared.value.Value.{Value}
use Rattle.mc_nbt.specs.Value.{is_value}
use Rattle.wm_ast.specs.declared.operation.LoadOp.{LoadOp}
use Rattle.wm_ast.specs.declared.operation.LoadOp.TheVariants.{I32Load, I64Load, I32Load8S, I32Load8U, I32Load16S, I32Load16U, I64Load8S, I64Load8U, I64Load16S, I64Load16U, I64Load32S, I64Load32U}
use Rattle.wm_ast.specs.declared.operation.StoreOp.{StoreOp}
use Rattle.wm_ast.specs.declared.operation.StoreOp.TheVariants.{I32Store, I64Store, I32Store8, I32Store16, I64Store8, I64Store16, I64Store32}
use Rattle.wm_ast.specs.Operation.{load_kind, load_width, store_width}
use Rattle.wm_ast.specs.Simple.{address}
use Rattle.wm_ast.specs.Storage.{loaded, stored}
use Rattle.wm_ast.specs.Store.{items_at}
use Rattle.cc_line.specs.Routine.{value_ints, AreAt}
use Rattle.cc_line.specs.State.{State, place_at}
use Rattle.cc_line.specs.Item.{Items}
use Rattle.cc_page.specs.Pages.{pages_bytes}
use Rattle.cc_page.proofs.ShownLemmas.{pages_many}
use Rattle.cc_mem.specs.Address.{no_offset}
use Rattle.cc_mem.specs.Law.{Does, Faults, Before}
use Rattle.cc_access.specs.Access.{low_load, low_store}
use Rattle.cc_access.specs.Known.{byte_in, in_words, is_known, known_load, known_store, loads_at, loads_by, stores_at, stores_by}
use Rattle.cc_access.specs.KnownLaw.{IsOperand, LoadsByAreDone, StoresByAreDone}
use Rattle.cc_access.specs.Law.{kind_places}
use Rattle.cc_access.proofs.Bytes.{reads}
use Rattle.cc_access.proofs.KnownLoads.{known_words, known_loads}
use Rattle.cc_access.proofs.KnownLoads.{Within as LoadFits}
use Rattle.cc_access.proofs.KnownStores.{known_puts, known_stores}
use Rattle.cc_access.proofs.KnownStores.{Within as StoreFits}
use Rattle.cc_access.proofs.LoadsByWords.{by_words, loads_by_words}
use Rattle.cc_access.proofs.LoadsDone.{loads_done}
use Rattle.cc_access.proofs.StoresByWords.{Written, by_puts, stores_by_puts}
use Rattle.cc_access.proofs.StoresDone.{stores_done, stored_length}

-- ---- what is known

pub record Known (least width at : ℕ) : Type 0 where
  pub small : at < no_offset
  pub within : at + width ≤ 65536 * least
  pub words : in_words width (byte_in at) ≡ true

pub known_is : (least width at : ℕ) → is_known least width at ≡ true → Known least width at
known_is least width at e =
    let r = and_second (nat_lt at no_offset) (nat_le (at + width) (65536 * least) && in_words width (byte_in at)) e in
    record {
      small = ltb-true at no_offset (and_first (nat_lt at no_offset) (nat_le (at + width) (65536 * least) && in_words width (byte_in at)) e);
      within = leb-true (at + width) (65536 * least) (and_first (nat_le (at + width) (65536 * least)) (in_words width (byte_in at)) r);
      words = and_second (nat_le (at + width) (65536 * least)) (in_words width (byte_in at)) r;
    }

narrow_fits : (at width : ℕ) → nat_le (byte_in at + width) 4 ≡ true → byte_in at + width ≤ 4
narrow_fits at width e = leb-true (byte_in at + width) 4 e

wide_fits : (at : ℕ) → nat_eq (byte_in at) 0 ≡ true → (byte_in at + 4 ≤ 4) × (byte_in (at + 4) + 4 ≤ 4)
wide_fits at e = let z : at % 4 ≡ 0 = eqb-true (at % 4) 0 e in (omega arith, omega arith)

-- ---- loads

load_fits : (op : LoadOp) (at : ℕ) → in_words (load_width op) (byte_in at) ≡ true → LoadFits at false (low_load op) × (op ≡ I64Load → LoadFits at true I32Load)
load_fits I32Load at e = (narrow_fits at 4 e, λ q. let y : I32Load ≡ I64Load = q in absurd cc)
load_fits I32Load8S at e = (narrow_fits at 1 e, λ q. let y : I32Load8S ≡ I64Load = q in absurd cc)
load_fits I32Load8U at e = (narrow_fits at 1 e, λ q. let y : I32Load8U ≡ I64Load = q in absurd cc)
load_fits I32Load16S at e = (narrow_fits at 2 e, λ q. let y : I32Load16S ≡ I64Load = q in absurd cc)
load_fits I32Load16U at e = (narrow_fits at 2 e, λ q. let y : I32Load16U ≡ I64Load = q in absurd cc)
load_fits I64Load at e = let f = wide_fits at e in (f.0, λ q. f.1)
load_fits I64Load8S at e = (narrow_fits at 1 e, λ q. let y : I64Load8S ≡ I64Load = q in absurd cc)
load_fits I64Load8U at e = (narrow_fits at 1 e, λ q. let y : I64Load8U ≡ I64Load = q in absurd cc)
load_fits I64Load16S at e = (narrow_fits at 2 e, λ q. let y : I64Load16S ≡ I64Load = q in absurd cc)
load_fits I64Load16U at e = (narrow_fits at 2 e, λ q. let y : I64Load16U ≡ I64Load = q in absurd cc)
load_fits I64Load32S at e = (narrow_fits at 4 e, λ q. let y : I64Load32S ≡ I64Load = q in absurd cc)
load_fits I64Load32U at e = (narrow_fits at 4 e, λ q. let y : I64Load32U ≡ I64Load = q in absurd cc)

load_is : (op : LoadOp) (at a : ℕ) → known_load op at a ≡ by_words (known_words at) op a
load_is I32Load at a = refl
load_is I32Load8S at a = refl
load_is I32Load8U at a = refl
load_is I32Load16S at a = refl
load_is I32Load16U at a = refl
load_is I64Load at a = refl
load_is I64Load8S at a = refl
load_is I64Load8U at a = refl
load_is I64Load16S at a = refl
load_is I64Load16U at a = refl
load_is I64Load32S at a = refl
load_is I64Load32U at a = refl

module _ (least : ℕ) (sure : Bool) (op : LoadOp) (a offset : ℕ) (ps : List (List ℕ)) (s : State) (b : Before sure a ps s) (many : least ≤ length ps) (room : a + kind_places (load_kind op) ≤ length s.places) where
  abbrev load_at : ℕ
  load_at = address (place_at s a) offset

  abbrev Loads : Items → Type 0
  Loads xs = ((bytes : List ℕ) → items_at (pages_bytes ps) load_at (load_width op) ≡ Some bytes → Does xs s a (value_ints (loaded op bytes)) ps)
      × (items_at (pages_bytes ps) load_at (load_width op) ≡ None → Faults xs s ps)

  known_done : (at : ℕ) → at ≡ load_at → Known least (load_width op) at → Loads (known_load op at a)
  known_done at e k =
      let n = pages_many ps b.memory.are_pages in
      let w = k.within in
      let f = load_fits op at k.words in
      let stand = reads (pages_bytes ps) at (load_width op) (omega arith) in (
        λ bytes g.
            subst (λ xs. Does xs s a (value_ints (loaded op bytes)) ps) (sym (load_is op at a))
            (loads_by_words ps at a (place_at s a) (known_words at) (LoadFits at) (known_loads ps at a (place_at s a)) s
            (record { memory = b.memory; trap = b.trap; there = b.there; operand = refl }) op room f.0 f.1 bytes (ap (λ m. items_at (pages_bytes ps) m (load_width op)) e ∙ g)),
        λ g. absurd (let y : None ≡ Some _ = sym g ∙ ap (λ m. items_at (pages_bytes ps) m (load_width op)) (sym e) ∙ stand in cc),
      )

  loads_known : (known : Option ℕ) → IsOperand known (place_at s a) → Loads (loads_by least known sure op a offset)
  loads_known None i = loads_done sure op a offset ps s b room
  loads_known (Some u) i = by (is_known least (load_width op) (u + offset)) refl
    where
      by : (c : Bool) → is_known least (load_width op) (u + offset) ≡ c → Loads (loads_at (if c then Some (u + offset) else None) sure op a offset)
      by true e = let o : cast_unsigned w32 (place_at s a) ≡ u = i in known_done (u + offset) (omega arith) (known_is least (load_width op) (u + offset) e)
      by false e = loads_done sure op a offset ps s b room

pub loads_by_done : LoadsByAreDone
loads_by_done least known sure op a offset ps s b many i room = loads_known least sure op a offset ps s b many room known i

-- ---- stores

store_fits : (op : StoreOp) (at : ℕ) → in_words (store_width op) (byte_in at) ≡ true → StoreFits at false (low_store op) × (op ≡ I64Store → StoreFits at true I32Store)
store_fits I32Store at e = (narrow_fits at 4 e, λ q. let y : I32Store ≡ I64Store = q in absurd cc)
store_fits I32Store8 at e = (narrow_fits at 1 e, λ q. let y : I32Store8 ≡ I64Store = q in absurd cc)
store_fits I32Store16 at e = (narrow_fits at 2 e, λ q. let y : I32Store16 ≡ I64Store = q in absurd cc)
store_fits I64Store at e = let f = wide_fits at e in (f.0, λ q. f.1)
store_fits I64Store8 at e = (narrow_fits at 1 e, λ q. let y : I64Store8 ≡ I64Store = q in absurd cc)
store_fits I64Store16 at e = (narrow_fits at 2 e, λ q. let y : I64Store16 ≡ I64Store = q in absurd cc)
store_fits I64Store32 at e = (narrow_fits at 4 e, λ q. let y : I64Store32 ≡ I64Store = q in absurd cc)

store_is : (op : StoreOp) (at a : ℕ) → known_store op at a ≡ by_puts (known_puts at) op a
store_is I32Store at a = refl
store_is I32Store8 at a = refl
store_is I32Store16 at a = refl
store_is I64Store at a = refl
store_is I64Store8 at a = refl
store_is I64Store16 at a = refl
store_is I64Store32 at a = refl

module _ (least : ℕ) (sure : Bool) (op : StoreOp) (a offset : ℕ) (ps : List (List ℕ)) (s : State) (v : Value) (bytes : List ℕ) (b : Before sure a ps s) (many : least ≤ length ps) (iv : is_value v ≡ true) (p : AreAt s (suc a) (value_ints v)) (is : stored op v ≡ Some bytes) where
  abbrev store_at : ℕ
  store_at = address (place_at s a) offset

  abbrev Stores : Items → Type 0
  Stores xs = (store_at + length bytes ≤ length (pages_bytes ps) → Written xs ps s store_at bytes) × (length (pages_bytes ps) < store_at + length bytes → Faults xs s ps)

  known_written : (at : ℕ) → at ≡ store_at → Known least (store_width op) at → Stores (known_store op at a)
  known_written at e k =
      let n = pages_many ps b.memory.are_pages in
      let w = k.within in
      let f = store_fits op at k.words in
      let long : length bytes ≡ store_width op = stored_length op v bytes is in (
        λ l.
            subst (λ m. Written (known_store op at a) ps s m bytes) e
            (subst (λ xs. Written xs ps s at bytes) (sym (store_is op at a))
            (stores_by_puts ps at a s (known_puts at) (StoreFits at) (known_stores ps at s) b.memory b.trap op v bytes f.0 f.1 iv p is (omega arith))),
        λ l. absurd (omega arith),
      )

  stores_known : (known : Option ℕ) → IsOperand known (place_at s a) → Stores (stores_by least known sure op a offset)
  stores_known None i = stores_done sure op a offset ps s v bytes b iv p is
  stores_known (Some u) i = by (is_known least (store_width op) (u + offset)) refl
    where
      by : (c : Bool) → is_known least (store_width op) (u + offset) ≡ c → Stores (stores_at (if c then Some (u + offset) else None) sure op a offset)
      by true e = let o : cast_unsigned w32 (place_at s a) ≡ u = i in known_written (u + offset) (omega arith) (known_is least (store_width op) (u + offset) e)
      by false e = stores_done sure op a offset ps s v bytes b iv p is

pub stores_by_done : StoresByAreDone
stores_by_done least known sure op a offset ps s v bytes b many i iv p is = stores_known least sure op a offset ps s v bytes b many iv p is known i
