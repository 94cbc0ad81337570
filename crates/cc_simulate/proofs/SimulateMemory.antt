-- What loads, stores and `memory.size` make of a state that stands for an activation: the memory's routines lead on, or record
-- the trap of an access out of bounds.
use Rattle.std.proofs.Common.{◌≡◌, ℕ, suc, ◌+◌, ◌-◌, ◌^◌, ◌<◌, ◌≤◌, List, [], ◌∷◌, ◌++◌, length, drop, Bool, true, false, cond, ltb, Option, Some, None, option_map, refl, sym, ap, ◌∙◌, subst, arith, ℤ, pos, negsuc}
use Rattle.std.specs.Prelude.{slice_index_or, if◌then◌else◌}
use Rattle.std.specs.Int.{w32, cast_signed}
use Rattle.std.proofs.lemmas.Bool.{le-leb, lt-ltb, ltb-true, ltb-false}
use Rattle.mc_nbt.specs.Tree.{int}
use Rattle.mc_nbt.specs.Word.{is_int}
use Rattle.mc_nbt.specs.declared.value.Kind.{Kind}
use Rattle.mc_nbt.specs.declared.value.Kind.TheVariants as kinds
use Rattle.mc_nbt.specs.declared.value.Value.{Value}
use Rattle.mc_nbt.specs.declared.value.Value.TheVariants as values
use Rattle.wm_ast.specs.declared.answer.TrapKind.TheVariants.{OutOfBounds}
use Rattle.wm_ast.specs.declared.module.Limits.{Limits}
use Rattle.wm_ast.specs.declared.module.ValType.{ValType}
use Rattle.wm_ast.specs.declared.module.ValType.TheVariants.{I32}
use Rattle.wm_ast.specs.declared.operation.LoadOp.{LoadOp}
use Rattle.wm_ast.specs.declared.operation.StoreOp.{StoreOp}
use Rattle.wm_ast.specs.Code.{Op, load, store, memory_size, Code, cons}
use Rattle.wm_ast.specs.Operand.{integer_of, operand}
use Rattle.wm_ast.specs.Operation.{Arrow, kind_type, load_kind, load_type, load_width, store_kind, store_type, store_width}
use Rattle.wm_ast.specs.Simple.{fault, unsigned, with_memory, reads, writes, address}
use Rattle.wm_ast.specs.Storage.{bytes_of, number_of, extension, loaded, stored}
use Rattle.wm_ast.specs.Store.{Store, items_at, overwritten, page_count}
use Rattle.wm_ast.specs.Types.{const_type}
use Rattle.wm_valid.specs.Typing.{HasFirst}
use Rattle.wm_valid.specs.Arrows.{arrow, on_memory, access, Change, changes, changed, by_arrow, change}
use Rattle.wm_valid.proofs.ArrowLaws.{first_complete}
use Rattle.wm_flat.specs.Flat.{Activation, running, goes, fails, past, does, move}
use Rattle.wm_flat.specs.FlatTyping.{types_of}
use Rattle.wm_flat.specs.Operands.{under, operands}
use Rattle.wm_valid.specs.InRange.{IsInRange}
use Rattle.wm_flat.proofs.MemoryLaws.{count_is_pages}
use Rattle.wm_flat.proofs.ValueLaws.{First, first_of_all, FirstI32, first_i32, value_is}
use Rattle.wm_place.specs.Kinds.{Body}
use Rattle.wm_place.specs.Visit.{Visit}
use Rattle.cc_line.specs.Sight.{in_io}
use Rattle.cc_line.specs.Key.{key_state, score_trap}
use Rattle.cc_line.specs.State.{State, place_at, set_places}
use Rattle.cc_line.specs.Item.{Items}
use Rattle.cc_line.specs.Routine.{trap_number, value_ints, AreAt}
use Rattle.cc_page.specs.Pages.{pages_bytes}
use Rattle.cc_mem.specs.Standing.{HasMemory}
use Rattle.cc_mem.specs.Size.{size_items}
use Rattle.cc_bulk.specs.FillLaw.{ReachesAreTested, FillsGoOn, CopiesGoOn}
use Rattle.cc_bulk.specs.GrowLaw.{GrowsAreTold, PagesAreAppended}
use Rattle.cc_mem.specs.Law.{Does, Faults, Before, SizesAreTold}
use Rattle.cc_access.specs.Known.{loads_by, stores_by}
use Rattle.cc_access.specs.KnownLaw.{IsOperand, LoadsByAreDone, StoresByAreDone}
use Rattle.cc_access.specs.Law.{kind_places}
use Rattle.cc_cut.specs.Law.{width}
use Rattle.cc_body.specs.KnownConstants.{Knowns, known_last, known_next, fewer_known, more_known, knowns_behind}
use Rattle.cc_body.specs.Layout.{top_place}
use Rattle.cc_body.specs.Storage.{least_memory, has_page}
use Rattle.cc_simulate.specs.Frame.{Frame}
use Rattle.cc_simulate.specs.Stands.{RunsOver}
use Rattle.cc_simulate.specs.Stored.{Stored}
use Rattle.cc_simulate.specs.Uses.{uses_bytes}
use Rattle.cc_simulate.proofs.Divisions.{frame_are_at}
use Rattle.cc_simulate.proofs.Frames.{top_of, frame_same, frame_pop, frame_last, frame_push}
use Rattle.cc_simulate.proofs.Knowns.{AreKnown, one_more, left_known, last_known, next_known}
use Rattle.cc_simulate.proofs.MemoryLemmas.{memory_of, pages_counted, least_stand, first_page_stands, access_spares, access_calm, access_stored}
use Rattle.cc_simulate.proofs.Proceeding.{Crosses, Breaks}
use Rattle.cc_simulate.proofs.SimulateReach.{move_is, Setting, S, L, size, body_is, Seen, seen, Here}
use Rattle.cc_simulate.proofs.SimulateKnown.{Ruled, IsLast, first_long, ruled, are_taken, parted, top_parted, is_last}

-- the laws of memory
pub record MemoryWorks : Type 0 where
  pub loads : LoadsByAreDone
  pub stores : StoresByAreDone
  pub sizes : SizesAreTold
  pub grows : GrowsAreTold
  pub appends : PagesAreAppended
  pub reaches : ReachesAreTested
  pub fills : FillsGoOn
  pub copies : CopiesGoOn

-- ---- what an access comes to

-- items that lead to where the machine is behind the instruction, with these operands
pub record Accessed (c : Setting) (a : Activation) (s : State) (i : Op) (is : Code) (us : List Value) (xs : Items) : Type 0 where
  pub now : Store
  pub moves : move c.m c.st (running c.cs a) ≡ goes 1 now (running c.cs (past a i is a.locals us))
  pub state : State
  pub crosses : Crosses xs s state
  pub frame : Frame (size c) a.locals (us ++ under a.levels) state.places
  pub calm : RunsOver (uses_bytes c.m) c.bs state
  pub stored : Stored c.m now state

-- what its rule says of these
pub record Retyped (c : Setting) (a : Activation) (i : Op) (us : List Value) : Type 0 where
  pub made : Change
  pub changes_so : change i (S c) ≡ Some made
  pub few : made.takes ≤ length a.values
  pub types : types_of us ≡ changed made (types_of a.values)

-- items that record the machine's trap and end their list
pub record Trapped (c : Setting) (a : Activation) (s : State) (xs : Items) : Type 0 where
  pub moves : move c.m c.st (running c.cs a) ≡ fails 0 OutOfBounds
  pub state : State
  pub breaks : Breaks xs s state
  pub recorded : state.scores score_trap ≡ Some (pos (trap_number OutOfBounds))
  pub running_still : state.keys in_io key_state ≡ Some (int (pos 1))
  pub stored : Stored c.m c.st state

pub data Access (c : Setting) (ks : Knowns) (a : Activation) (s : State) (i : Op) (is : Code) (xs : Items) : Type 0 where
  goes_on : (us : List Value) → Retyped c a i us → AreKnown (knowns_behind i ks) a.locals (us ++ under a.levels) → Accessed c a s i is us xs → Access c ks a s i is xs
  traps : Trapped c a s xs → Access c ks a s i is xs

-- ---- small facts

access_is : (ms : List Limits) (align width : ℕ) (g : Arrow) → HasFirst ms → 2 ^ align ≤ width → access ms align width g ≡ Some g
access_is ms align width g f l = ap (λ b. if b then on_memory ms g else None) (le-leb (2 ^ align) width l) ∙ ap (λ b. if b then Some g else None) (first_complete ms f)

operand_of : (k : Kind) (u : Value) → const_type u ≡ kind_type k → operand k u ≡ Some (integer_of u)
operand_of kinds.I32 (values.I32 z) e = refl
operand_of kinds.I32 (values.I64 z) e = absurd cc
operand_of kinds.I64 (values.I32 z) e = absurd cc
operand_of kinds.I64 (values.I64 z) e = refl

store_bytes : (op : StoreOp) (u : Value) → const_type u ≡ store_type op → stored op u ≡ Some (bytes_of (store_width op) (integer_of u))
store_bytes op u e = ap (option_map (bytes_of (store_width op))) (operand_of (store_kind op) u e)

places_are : (k : Kind) → width (kind_type k) ≡ kind_places k
places_are kinds.I32 = refl
places_are kinds.I64 = refl

-- few pages are counted without sign
few_unsigned : (n : ℕ) → n ≤ 256 → cast_signed w32 n ≡ pos n
few_unsigned n l = ap (λ b. if b then pos n else negsuc (4294967296 - suc n)) (lt-ltb n 2147483648 (omega arith))

-- an activation stands before an instruction on the memory
module _ {c : Setting} {v : Visit} {a : Activation} {s : State} (h : Here c v a s) (works : MemoryWorks) (first : HasFirst c.m.mems) where
  abbrev ps : List (List ℕ)
  ps = h.stored.pages

  pub has : HasMemory ps s
  has = memory_of c.m.mems ps s first h.stored.memory

  -- the machine counts as many pages
  pub pages_are : page_count c.st.memory ≡ length ps
  pages_are =
      let typed = h.typed.store.memory in
      count_is_pages c.m c.st.memory typed ∙ sym (pages_counted c.m ps c.st.memory has.are_pages h.stored.bytes typed)

  pub counted : unsigned (page_count c.st.memory) ≡ values.I32 (pos (length ps))
  counted = ap (λ (n : ℕ). values.I32 (cast_signed w32 n)) pages_are ∙ ap (λ (x : ℤ). values.I32 x) (few_unsigned (length ps) has.few)

  -- before an access to the address in a place
  before : (j : ℕ) (z : ℤ) → j < length s.places → place_at s j ≡ z → IsInRange (values.I32 z) → Before (has_page c.m) j ps s
  before j z l e r = record {
    memory = has;
    a_page = first_page_stands c.m ps c.st.memory has.are_pages h.stored.bytes h.typed.store.memory;
    trap = h.calm.trap;
    there = l;
    int = ap is_int e ∙ r;
  }

  -- what the routines leave, over another memory
  led : (i : Op) (is : Code) (us : List Value) (xs : Items) (r : ℕ) (zs : List ℤ) (qs : List (List ℕ)) (memory : List ℕ) → memory ≡ pages_bytes qs
      → move c.m c.st (running c.cs a) ≡ goes 1 (record c.st { memory = memory }) (running c.cs (past a i is a.locals us))
      → (y : Does xs s r zs qs) → Frame (size c) a.locals (us ++ under a.levels) y.state.places → Accessed c a s i is us xs
  led i is us xs r zs qs memory e moves y frame = record {
    now = record c.st { memory = memory };
    moves = moves;
    state = y.state;
    crosses = record { ready = y.ready; used = y.used; ends = y.ends; spares = access_spares s y.state y.spares };
    frame = frame;
    calm = access_calm c.bs s y.state y.spares y.trap h.calm;
    stored = access_stored c.m c.st s y.state qs memory first y.spares y.memory e h.stored;
  }

  pub faulted : (xs : Items) → move c.m c.st (running c.cs a) ≡ fails 0 OutOfBounds → Faults xs s ps → Trapped c a s xs
  faulted xs moves y = record {
    moves = moves;
    state = y.state;
    breaks = record { ready = y.ready; used = y.used; ends = y.ends; spares = access_spares s y.state y.spares };
    recorded = y.trap;
    running_still = y.spares.keys in_io key_state refl ∙ h.calm.state;
    stored = access_stored c.m c.st s y.state ps c.st.memory first y.spares y.memory h.stored.bytes h.stored;
  }

  -- the frame has room for the operands behind the instruction
  room : (i : Op) (is : Code) (us : List Value) → a.code ≡ cons i is → Retyped c a i us → top_of a.locals (us ++ under a.levels) ≤ size c
  room i is us e r =
      let y =
      c.moves.onward c.m a v h.stands i is r.made a.locals us e (ap (λ (b : Body). change i b.scope) (body_is c a v h.stands h.func) ∙ r.changes_so) r.few r.types refl
      in
      (seen c y.visit (past a i is a.locals us) y.stands h.func).room

  -- ---- loads

  -- as many pages stand as there are in any case
  least : least_memory c.m ≤ length ps
  least = least_stand c.m ps c.st.memory has.are_pages h.stored.bytes h.typed.store.memory

  -- of the address that is the last operand
  module _ (ks : Knowns) (known : AreKnown ks a.locals (operands a)) (op : LoadOp) (align offset : ℕ) (is : Code) (e : a.code ≡ cons (load op align offset) is) (aligned : 2 ^ align ≤ load_width op)
      (z : ℤ) (others : List Value) (range : IsInRange (values.I32 z)) (parts : a.values ≡ values.I32 z ∷ others) where
    abbrev j : ℕ
    j = top_place (L c) v - 1

    abbrev os : List Value
    os = others ++ under a.levels

    abbrev items : Items
    items = loads_by (least_memory c.m) (known_last ks) (has_page c.m) op j offset

    last : IsLast c v a s z others
    last = is_last h z others parts

    framed : Frame (size c) a.locals (values.I32 z ∷ os) s.places
    framed = last.frame

    moves : (o : Option (List ℕ)) → items_at c.st.memory (address z offset) (load_width op) ≡ o → move c.m c.st (running c.cs a) ≡ does c.m c.st c.cs a (load op align offset) is (reads c.m c.st a.locals op others o)
    moves o q = move_is c.m c.st c.cs a (load op align offset) is (values.I32 z ∷ others) e parts ∙ ap (λ x. does c.m c.st c.cs a (load op align offset) is (reads c.m c.st a.locals op others x)) q

    -- the bytes, as the pages have them
    paged : items_at (pages_bytes ps) (address (place_at s j) offset) (load_width op) ≡ items_at c.st.memory (address z offset) (load_width op)
    paged = ap (λ (k : ℤ). items_at (pages_bytes ps) (address k offset) (load_width op)) last.reads ∙ ap (λ (l : List ℕ). items_at l (address z offset) (load_width op)) (sym h.stored.bytes)

    type_is : (bytes : List ℕ) → const_type (loaded op bytes) ≡ load_type op
    type_is bytes = (value_is (load_kind op) (extension op (number_of bytes))).type

    load_retyped : (bytes : List ℕ) → Retyped c a (load op align offset) (loaded op bytes ∷ others)
    load_retyped bytes = record {
      made = changes 1 (load_type op ∷ []);
      changes_so = ap (option_map by_arrow) (access_is c.m.mems align (load_width op) (arrow (I32 ∷ []) (load_type op ∷ [])) first aligned);
      few = first_long (values.I32 z) others a.values parts;
      types = ap (λ (t : ValType). t ∷ types_of others) (type_is bytes) ∙ ap (λ (l : List Value). load_type op ∷ drop 1 (types_of l)) (sym parts);
    }

    load_room : (bytes : List ℕ) → top_of a.locals (loaded op bytes ∷ os) ≤ size c
    load_room bytes = room (load op align offset) is (loaded op bytes ∷ others) e (load_retyped bytes)

    pushed : (bytes : List ℕ) (y : Does items s j (value_ints (loaded op bytes)) ps) → Frame (size c) a.locals (loaded op bytes ∷ os) y.state.places
    pushed bytes y =
        let u : Value = loaded op bytes in
        frame_same (size c) a.locals (u ∷ os) _ y.state.places (y.places ∙ ap (λ (k : ℕ). set_places s.places k (value_ints u)) last.place_is)
        (frame_push (size c) a.locals u os s.places (frame_pop (size c) a.locals (values.I32 z) os s.places framed) (load_room bytes))

    -- what is known of the address, and behind the load
    load_knowns : AreKnown ks a.locals (values.I32 z ∷ os)
    load_knowns = subst (λ (l : List Value). AreKnown ks a.locals (l ++ under a.levels)) parts known

    behind_load : (bytes : List ℕ) → AreKnown (more_known None (fewer_known 1 ks)) a.locals (loaded op bytes ∷ os)
    behind_load bytes = one_more (loaded op bytes) (fewer_known 1 ks) a.locals os (left_known ks 1 a.locals (values.I32 z ∷ []) others (under a.levels) a.values parts refl known)

    -- whatever the bytes are, the result has room
    within : j + kind_places (load_kind op) ≤ length s.places
    within =
        let top : top_of a.locals (loaded op [] ∷ os) ≤ size c = load_room [] in
        let wide : width (const_type (loaded op [])) ≡ kind_places (load_kind op) = ap width (type_is []) ∙ places_are (load_kind op) in
        let sized : length s.places ≡ size c = framed.sized in
        let at : j ≡ top_of a.locals os = last.place_is in
        omega arith

    law : ((bytes : List ℕ) → items_at (pages_bytes ps) (address (place_at s j) offset) (load_width op) ≡ Some bytes → Does items s j (value_ints (loaded op bytes)) ps)
        × (items_at (pages_bytes ps) (address (place_at s j) offset) (load_width op) ≡ None → Faults items s ps)
    law =
        works.loads (least_memory c.m) (known_last ks) (has_page c.m) op j offset ps s (before j z last.within last.reads range) least
        (subst (IsOperand (known_last ks)) (sym last.reads) (last_known z ks a.locals os load_knowns)) within

    load_on : Access c ks a s (load op align offset) is items
    load_on = by_bytes (items_at c.st.memory (address z offset) (load_width op)) refl
      where
        by_bytes : (o : Option (List ℕ)) → items_at c.st.memory (address z offset) (load_width op) ≡ o → Access c ks a s (load op align offset) is items
        by_bytes None q = traps (faulted items (moves None q) (law.1 (paged ∙ q)))
        by_bytes (Some bytes) q =
            let y = law.0 bytes (paged ∙ q) in
            goes_on (loaded op bytes ∷ others) (load_retyped bytes) (behind_load bytes) (led (load op align offset) is (loaded op bytes ∷ others) items j _ ps c.st.memory h.stored.bytes (moves (Some bytes) q) y (pushed bytes y))

  -- ---- stores

  -- of the last operand to the address that is the one below it
  module _ (ks : Knowns) (known : AreKnown ks a.locals (operands a)) (op : StoreOp) (align offset : ℕ) (is : Code) (e : a.code ≡ cons (store op align offset) is) (aligned : 2 ^ align ≤ store_width op)
      (u : Value) (z : ℤ) (others : List Value) (type : const_type u ≡ store_type op) (range_u : IsInRange u) (range_z : IsInRange (values.I32 z)) (parts : a.values ≡ u ∷ values.I32 z ∷ others) where
    abbrev i : ℕ
    i = top_place (L c) v - suc (width (store_type op))

    abbrev rest : List Value
    rest = others ++ under a.levels

    abbrev puts : Items
    puts = stores_by (least_memory c.m) (known_next ks) (has_page c.m) op i offset

    abbrev bytes : List ℕ
    bytes = bytes_of (store_width op) (integer_of u)

    both : Frame (size c) a.locals (u ∷ values.I32 z ∷ rest) s.places
    both = parted h (u ∷ values.I32 z ∷ others) (u ∷ values.I32 z ∷ rest) parts refl

    one : Frame (size c) a.locals (values.I32 z ∷ rest) s.places
    one = frame_pop (size c) a.locals u (values.I32 z ∷ rest) s.places both

    -- the place of the address, and those of the value behind it
    address_at : i ≡ top_of a.locals rest
    address_at =
        let top : top_place (L c) v ≡ top_of a.locals (u ∷ values.I32 z ∷ rest) = top_parted h (u ∷ values.I32 z ∷ others) (u ∷ values.I32 z ∷ rest) parts refl in
        let wide : width (const_type u) ≡ width (store_type op) = ap width type in
        omega arith

    value_at : suc i ≡ top_of a.locals (values.I32 z ∷ rest)
    value_at = let at : i ≡ top_of a.locals rest = address_at in omega arith

    address_last : (slice_index_or s.places (top_of a.locals rest) (pos 0) ≡ z) × (top_of a.locals rest < length s.places)
    address_last = frame_last (size c) a.locals z rest s.places one

    address_within : i < length s.places
    address_within = subst (λ (n : ℕ). n < length s.places) (sym address_at) address_last.1

    address_read : place_at s i ≡ z
    address_read = ap (λ (n : ℕ). place_at s n) address_at ∙ address_last.0

    value_stands : AreAt s (suc i) (value_ints u)
    value_stands = subst (λ (n : ℕ). AreAt s n (value_ints u)) (sym value_at) (frame_are_at (size c) a.locals (u ∷ []) (values.I32 z ∷ rest) s both)

    bytes_are : stored op u ≡ Some bytes
    bytes_are = store_bytes op u type

    abbrev beyond : Bool
    beyond = ltb (length c.st.memory) (address z offset + length bytes)

    puts_by : (b : Bool) → beyond ≡ b
        → move c.m c.st (running c.cs a) ≡ does c.m c.st c.cs a (store op align offset) is (cond b (fault OutOfBounds) (with_memory c.m c.st a.locals (overwritten c.st.memory (address z offset) bytes) others))
    puts_by b q =
        move_is c.m c.st c.cs a (store op align offset) is (u ∷ values.I32 z ∷ others) e parts
        ∙ ap (λ o. does c.m c.st c.cs a (store op align offset) is (writes c.m c.st a.locals (address z offset) others o)) bytes_are
        ∙ ap (λ x. does c.m c.st c.cs a (store op align offset) is (cond x (fault OutOfBounds) (with_memory c.m c.st a.locals (overwritten c.st.memory (address z offset) bytes) others))) q

    -- the memory's end, as the pages have it
    in_pages : (P : ℕ → ℕ → Type 0) → P (address z offset + length bytes) (length c.st.memory) → P (address (place_at s i) offset + length bytes) (length (pages_bytes ps))
    in_pages P p =
        subst (λ (x : ℤ). P (address x offset + length bytes) (length (pages_bytes ps))) (sym address_read)
        (subst (λ (l : List ℕ). P (address z offset + length bytes) (length l)) h.stored.bytes p)

    overwrites : (qs : List (List ℕ)) → pages_bytes qs ≡ overwritten (pages_bytes ps) (address (place_at s i) offset) bytes → overwritten c.st.memory (address z offset) bytes ≡ pages_bytes qs
    overwrites qs q =
        ap (λ (l : List ℕ). overwritten l (address z offset) bytes) h.stored.bytes
        ∙ ap (λ (x : ℤ). overwritten (pages_bytes ps) (address x offset) bytes) (sym address_read) ∙ sym q

    store_retyped : Retyped c a (store op align offset) others
    store_retyped =
        let long : length a.values ≡ suc (suc (length others)) = ap length parts in
        record {
          made = changes 2 [];
          changes_so = ap (option_map by_arrow) (access_is c.m.mems align (store_width op) (arrow (store_type op ∷ I32 ∷ []) []) first aligned);
          few = omega arith;
          types = ap (λ (l : List Value). drop 2 (types_of l)) (sym parts);
        }

    -- what is known of the address, and behind the store
    store_knowns : AreKnown ks a.locals (u ∷ values.I32 z ∷ rest)
    store_knowns = subst (λ (l : List Value). AreKnown ks a.locals (l ++ under a.levels)) parts known

    behind_store : AreKnown (fewer_known 2 ks) a.locals rest
    behind_store = left_known ks 2 a.locals (u ∷ values.I32 z ∷ []) others (under a.levels) a.values parts refl known

    put_law : (address (place_at s i) offset + length bytes ≤ length (pages_bytes ps) → (qs : List (List ℕ)) × (pages_bytes qs ≡ overwritten (pages_bytes ps) (address (place_at s i) offset) bytes) × Does puts s 0 [] qs)
        × (length (pages_bytes ps) < address (place_at s i) offset + length bytes → Faults puts s ps)
    put_law =
        works.stores (least_memory c.m) (known_next ks) (has_page c.m) op i offset ps s u bytes (before i z address_within address_read range_z) least
        (subst (IsOperand (known_next ks)) (sym address_read) (next_known u z ks a.locals rest store_knowns)) range_u value_stands bytes_are

    store_on : Access c ks a s (store op align offset) is puts
    store_on = by_end beyond refl
      where
        by_end : (b : Bool) → beyond ≡ b → Access c ks a s (store op align offset) is puts
        by_end true q = traps (faulted puts (puts_by true q) (put_law.1 (in_pages (λ n l. l < n) (ltb-true (length c.st.memory) (address z offset + length bytes) q))))
        by_end false q =
            let (qs, made, x) = put_law.0 (in_pages (λ n l. n ≤ l) (ltb-false (length c.st.memory) (address z offset + length bytes) q)) in
            goes_on others store_retyped behind_store
            (led (store op align offset) is others puts 0 [] qs (overwritten c.st.memory (address z offset) bytes) (overwrites qs made) (puts_by false q) x
            (frame_same (size c) a.locals rest s.places x.state.places x.places (frame_pop (size c) a.locals (values.I32 z) rest s.places one)))

  -- ---- the size

  module _ (is : Code) (e : a.code ≡ cons memory_size is) where
    sees_it : Seen c v a
    sees_it = seen c v a h.stands h.func

    abbrev count : Value
    count = unsigned (page_count c.st.memory)

    pub size_retyped : Retyped c a memory_size (count ∷ a.values)
    size_retyped = record {
      made = changes 0 (I32 ∷ []);
      changes_so = ap (λ b. option_map by_arrow (if b then Some (arrow [] (I32 ∷ [])) else None)) (first_complete c.m.mems first);
      few = omega arith;
      types = refl;
    }

    -- where the frame has room for one operand more
    pub size_on : top_of a.locals (count ∷ operands a) ≤ size c → Accessed c a s memory_size is (count ∷ a.values) (size_items (top_place (L c) v))
    size_on room =
        let sized = h.frame.sized in
        let top : top_place (L c) v ≡ top_of a.locals (operands a) = sees_it.top in
        let less : top_of a.locals (operands a) < length s.places = omega arith in
        let within : top_place (L c) v < length s.places = subst (λ (n : ℕ). n < length s.places) (sym top) less in
        let y : Does (size_items (top_place (L c) v)) s (top_place (L c) v) (pos (length ps) ∷ []) ps = works.sizes (top_place (L c) v) ps s has h.calm.trap within in
        led memory_size is (count ∷ a.values) (size_items (top_place (L c) v)) (top_place (L c) v) (pos (length ps) ∷ []) ps c.st.memory h.stored.bytes
        (move_is c.m c.st c.cs a memory_size is a.values e refl) y
        (frame_same (size c) a.locals (count ∷ operands a) _ y.state.places
        (y.places ∙ ap (λ (n : ℕ). set_places s.places n (pos (length ps) ∷ [])) top ∙ ap (λ (u : Value). set_places s.places (top_of a.locals (operands a)) (value_ints u)) (sym counted))
        (frame_push (size c) a.locals count (operands a) s.places h.frame room))

-- ---- by their rules

module _ {c : Setting} {v : Visit} {a : Activation} {s : State} (h : Here c v a s) (works : MemoryWorks) (is : Code) where
  pub loads_on : (ks : Knowns) → AreKnown ks a.locals (operands a) → (op : LoadOp) (align offset : ℕ) → a.code ≡ cons (load op align offset) is
      → Access c ks a s (load op align offset) is (loads_by (least_memory c.m) (known_last ks) (has_page c.m) op (top_place (L c) v - 1) offset)
  loads_on ks known op align offset e =
      let r : Ruled c.m a (load op align offset) = ruled h (load op align offset) is e in
      let x : FirstI32 r.below a.values = first_i32 r.below a.values (are_taken h (load op align offset) r (I32 ∷ []) r.rule.2.0) in
      load_on h works (subst (λ (ms : List Limits). HasFirst ms) r.memories r.rule.0) ks known op align offset is e r.rule.1 x.number x.others x.range x.parts

  pub stores_on : (ks : Knowns) → AreKnown ks a.locals (operands a) → (op : StoreOp) (align offset : ℕ) → a.code ≡ cons (store op align offset) is
      → Access c ks a s (store op align offset) is (stores_by (least_memory c.m) (known_next ks) (has_page c.m) op (top_place (L c) v - suc (width (store_type op))) offset)
  stores_on ks known op align offset e =
      let r : Ruled c.m a (store op align offset) = ruled h (store op align offset) is e in
      let y : First (store_type op) (I32 ∷ r.below) a.values = first_of_all (store_type op) (I32 ∷ r.below) a.values (are_taken h (store op align offset) r (store_type op ∷ I32 ∷ []) r.rule.2.0) in
      let x : FirstI32 r.below y.others = first_i32 r.below y.others y.rest in
      store_on h works (subst (λ (ms : List Limits). HasFirst ms) r.memories r.rule.0) ks known op align offset is e r.rule.1 y.value x.number x.others y.is.type y.is.range x.range
      (y.parts ∙ ap (λ (l : List Value). y.value ∷ l) x.parts)

  pub size_first : a.code ≡ cons memory_size is → HasFirst c.m.mems
  size_first e = let r : Ruled c.m a memory_size = ruled h memory_size is e in subst (λ (ms : List Limits). HasFirst ms) r.memories r.rule.0
