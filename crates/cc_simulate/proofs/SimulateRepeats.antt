-- What `memory.fill` and `memory.copy` make of a state that stands for an activation: the bytes are tested to lie within the
-- memory, and the turns of the piece are steps of the machine.
use Rattle.std.proofs.Common.{◌≡◌, ℕ, suc, ◌+◌, ◌*◌, ◌-◌, ◌%◌, ◌<◌, ◌≤◌, List, [], ◌∷◌, ◌++◌, length, drop, Bool, true, false, ltb, Some, None, option_map, refl, sym, ap, ◌∙◌, subst, arith, length-append, length-set, append_assoc, slice_set, slice_index, ℤ, pos, negsuc}
use Rattle.std.specs.Prelude.{if◌then◌else◌, nat_le}
use Rattle.std.specs.Int.{w32, cast_unsigned}
use Rattle.std.proofs.lemmas.Bool.{lt-ltb, le-ltb, ltb-true, ltb-false}
use Rattle.mc_nbt.specs.Tree.{int}
use Rattle.mc_nbt.specs.Word.{is_int}
use Rattle.mc_nbt.specs.declared.value.Value.{Value}
use Rattle.mc_nbt.specs.declared.value.Value.TheVariants as values
use Rattle.wm_ast.specs.declared.answer.TrapKind.TheVariants.{OutOfBounds}
use Rattle.wm_ast.specs.declared.module.Limits.{Limits}
use Rattle.wm_ast.specs.declared.module.ValType.TheVariants.{I32}
use Rattle.wm_ast.specs.Code.{Op, memory_copy, memory_fill, Code, cons}
use Rattle.wm_ast.specs.Simple.{fault, unsigned, fills, copies, copies_first, copies_last, inside}
use Rattle.wm_ast.specs.Store.{Store}
use Rattle.wm_valid.specs.Typing.{HasFirst}
use Rattle.wm_valid.specs.Arrows.{arrow, on_memory, changes, changed, by_arrow, change}
use Rattle.wm_valid.proofs.ArrowLaws.{first_complete}
use Rattle.wm_flat.specs.Flat.{Activation, running, goes, fails, past, does, move}
use Rattle.wm_flat.specs.FlatTyping.{types_of}
use Rattle.wm_flat.specs.Operands.{under, operands}
use Rattle.wm_flat.proofs.Consequences.{leads_nowhere}
use Rattle.wm_flat.proofs.MemoryLaws.{read_byte}
use Rattle.wm_flat.proofs.ValueLaws.{FirstI32, first_i32}
use Rattle.wm_place.specs.Kinds.{Body}
use Rattle.wm_place.specs.Visit.{Visit}
use Rattle.cc_line.specs.State.{State, place_at}
use Rattle.cc_line.specs.Item.{Items, join}
use Rattle.cc_page.specs.Pages.{pages_bytes}
use Rattle.cc_page.proofs.ShownLemmas.{pages_many}
use Rattle.cc_bulk.specs.Copy.{count_site, copy_byte_items}
use Rattle.cc_bulk.specs.Fill.{reach_items, fill_byte_items}
use Rattle.cc_bulk.specs.FillLaw.{Operands, Open, Turns, counting, turn_at, next_at}
use Rattle.cc_mem.specs.Law.{Does, Faults}
use Rattle.cc_mem.specs.Standing.{HasMemory}
use Rattle.cc_bulk.proofs.Turning.{first_within, second_within, third_within, first_reads, second_reads, third_reads}
use Rattle.cc_move.specs.Law.{at}
use Rattle.cc_move.specs.Standing.{StandsAt}
use Rattle.cc_body.specs.Emit.{copies_of_run, turn_items, filled_items, copied_items}
use Rattle.cc_body.specs.Layout.{top_place}
use Rattle.cc_body.specs.Storage.{has_page}
use Rattle.cc_simulate.specs.Frame.{local_ints, stack_ints, Frame}
use Rattle.cc_simulate.specs.Stands.{ChangesFrameAlone}
use Rattle.cc_simulate.proofs.Acts.{Tested, keeps_tree}
use Rattle.cc_simulate.proofs.Frames.{top_of, held_length, frame_same, frame_drop}
use Rattle.cc_simulate.proofs.Globals.{stored_kept}
use Rattle.cc_simulate.proofs.MemoryLemmas.{memory_of, first_page_stands, access_spares, access_calm, access_stored}
use Rattle.cc_simulate.proofs.Proceeding.{Crosses, Proceeds, crosses_proceed, breaks_proceed, keeps_spares, spares_both}
use Rattle.cc_simulate.proofs.SimulateKnown.{Ruled, ruled, are_taken, parted, top_parted}
use Rattle.cc_simulate.proofs.SimulateMemory.{MemoryWorks, Trapped, has, faulted}
use Rattle.cc_simulate.proofs.SimulateReach.{attains_trap, move_is, typed_after, Setting, S, L, R, size, all, Attain, body_is, Here}
use Rattle.cc_simulate.proofs.SimulateTurns.{Turned, Done, Repeats, turns_on}

-- ---- small facts

low_unsigned : (n : ℕ) → n < 2147483648 → unsigned n ≡ values.I32 (pos n)
low_unsigned n l = ap (λ b. values.I32 (if b then pos n else negsuc (4294967296 - suc n))) (lt-ltb n 2147483648 l)

-- a number without sign that is low is the number
low_number : (z : ℤ) → is_int z ≡ true → cast_unsigned w32 z < 2147483648 → (n : ℕ) × (z ≡ pos n)
low_number (pos n) i l = (n, refl)
low_number (negsuc n) i l = let k : n < 2147483648 = ltb-true n 2147483648 i in absurd (omega arith)

three_out : (p q u v w z : List ℤ) → (p ++ (((q ++ u) ++ v) ++ w)) ++ z ≡ (p ++ q) ++ (u ++ (v ++ (w ++ z)))
three_out p q u v w z = simp append_assoc

-- ---- three operands in a frame

-- three numbers, the last one first
abbrev three : ℤ → ℤ → ℤ → List Value → List Value
three n y x os = values.I32 n ∷ (values.I32 y ∷ (values.I32 x ∷ os))

-- what is under them
abbrev below : List Value → List Value → List ℤ
below ls os = local_ints ls ++ stack_ints os

module _ (size : ℕ) (ls os : List Value) (n y x : ℤ) (zs : List ℤ) where
  three_seam : (f : Frame size ls (three n y x os) zs) → zs ≡ below ls os ++ (x ∷ (y ∷ (n ∷ f.junk)))
  three_seam f = f.held ∙ three_out (local_ints ls) (stack_ints os) (x ∷ []) (y ∷ []) (n ∷ []) f.junk

  three_frame : (junk : List ℤ) → zs ≡ below ls os ++ (x ∷ (y ∷ (n ∷ junk))) → length zs ≡ size → Frame size ls (three n y x os) zs
  three_frame junk e l = record { junk = junk; held = e ∙ sym (three_out (local_ints ls) (stack_ints os) (x ∷ []) (y ∷ []) (n ∷ []) junk); sized = l }

-- as many places, whatever the three numbers are
three_long : (us junk : List ℤ) (x y z u v w : ℤ) → length (us ++ (x ∷ (y ∷ (z ∷ junk)))) ≡ length (us ++ (u ∷ (v ∷ (w ∷ junk))))
three_long us junk x y z u v w = length-append us (x ∷ (y ∷ (z ∷ junk))) ∙ sym (length-append us (u ∷ (v ∷ (w ∷ junk))))

-- ---- an activation before one of these instructions

module _ (c : Setting) (v : Visit) (i : Op) (is : Code) (others : List Value) where
  abbrev top : ℕ
  top = top_place (L c) v

  -- its operands stand above the others
  module _ (st : Store) (a : Activation) (s : State) (h : Here (record c { st = st }) v a s) (n y x : ℤ) (parts : a.values ≡ three n y x others) where
    abbrev rest : List Value
    rest = others ++ under a.levels

    framed : Frame (size c) a.locals (three n y x rest) s.places
    framed = parted h (three n y x others) (three n y x rest) parts refl

    stand : Operands (top - 3) (top - 2) (top - 1) (below a.locals rest) x y n framed.junk s
    stand =
        let t : top ≡ top_of a.locals (three n y x rest) = top_parted h (three n y x others) (three n y x rest) parts refl in
        let l : length (below a.locals rest) ≡ top_of a.locals rest = held_length a.locals rest in
        record { first = omega arith; second = omega arith; third = omega arith; stand = three_seam (size c) a.locals rest n y x s.places framed }

    -- so do others in their places
    reframed : (w z u : ℤ) (t : State) → t.places ≡ below a.locals rest ++ (u ∷ (z ∷ (w ∷ framed.junk))) → Frame (size c) a.locals (three w z u rest) t.places
    reframed w z u t e =
        three_frame (size c) a.locals rest w z u t.places framed.junk e
        (ap length e ∙ three_long (below a.locals rest) framed.junk u z w x y n ∙ sym (ap length (three_seam (size c) a.locals rest n y x s.places framed)) ∙ framed.sized)

    -- over which the instruction stands again
    restood : (w z u : ℤ) → a.code ≡ cons i is → StandsAt c.m (record a { values = three w z u others; code = cons i is }) v
    restood w z u code =
        let k : StandsAt c.m a v = h.stands in
        record {
          func = k.func;
          type = k.type;
          is_function = k.is_function;
          place = k.place;
          spot = k.spot;
          there = k.there;
          visited = k.visited;
          path = k.path;
          before = k.before;
          code = sym code ∙ k.code;
          levels = k.levels;
          kinds = k.kinds ∙ ap (λ (l : List Value). Some (types_of l)) parts;
          locals = k.locals;
          results = k.results;
        }

    -- no byte is left
    behind : (turn : Items) → a.code ≡ cons i is → change i (S c) ≡ Some (changes 3 []) → move c.m st (running c.cs a) ≡ goes 1 st (running c.cs (past a i is a.locals others)) → Done c v i is turn st a s
    behind turn code changes_so moves =
        let long : length a.values ≡ suc (suc (suc (length others))) = ap length parts in
        record {
          next = past a i is a.locals others;
          kinds = changed (changes 3 []) (types_of (operands a));
          moves = moves;
          same = h.func;
          comes = c.moves.onward c.m a v h.stands i is (changes 3 []) a.locals others code (ap (λ (o : Body). change i o.scope) (body_is (record c { st = st }) a v h.stands h.func) ∙ changes_so) (omega arith)
              (ap (λ (l : List Value). drop 3 (types_of l)) (sym parts)) refl;
          frame = frame_drop (size c) a.locals (values.I32 n ∷ (values.I32 y ∷ (values.I32 x ∷ []))) rest s.places framed;
        }

    -- where bytes may be written
    may_write : HasFirst c.m.mems → Open (has_page c.m) h.stored.pages s
    may_write first =
        let m : HasMemory h.stored.pages s = memory_of c.m.mems h.stored.pages s first h.stored.memory in
        record { memory = m; a_page = first_page_stands c.m h.stored.pages st.memory m.are_pages h.stored.bytes h.typed.store.memory; trap = h.calm.trap }

    -- the memory is small
    small : HasFirst c.m.mems → length st.memory ≤ 16777216
    small first =
        let m : HasMemory h.stored.pages s = memory_of c.m.mems h.stored.pages s first h.stored.memory in
        let many : length (pages_bytes h.stored.pages) ≡ 65536 * length h.stored.pages = pages_many h.stored.pages m.are_pages in
        let same : length st.memory ≡ length (pages_bytes h.stored.pages) = ap length h.stored.bytes in
        let few = m.few in
        omega arith

  -- a state in which nothing differs that matters here
  rehere : (st : Store) (a : Activation) (s t : State) → Here (record c { st = st }) v a s → Tested (top - 1) s t → Here (record c { st = st }) v a t
  rehere st a s t h g = record {
    func = h.func;
    stands = h.stands;
    frame = frame_same (size c) a.locals (operands a) s.places t.places g.places h.frame;
    calm = g.calm c.bs h.calm;
    typed = h.typed;
    stored = stored_kept c.m st s t g.passes.keeps h.stored;
  }

changes_are : (ms : List Limits) → HasFirst ms → option_map by_arrow (on_memory ms (arrow (I32 ∷ I32 ∷ I32 ∷ []) [])) ≡ Some (changes 3 [])
changes_are ms f = ap (λ (b : Bool). option_map by_arrow (if b then Some (arrow (I32 ∷ I32 ∷ I32 ∷ []) []) else None)) (first_complete ms f)

-- ---- a fill

module _ (c : Setting) (v : Visit) (is : Code) (works : MemoryWorks) (first : HasFirst c.m.mems) (others : List Value) (y : ℤ) (range : is_int y ≡ true) where
  abbrev up : ℕ
  up = top_place (L c) v

  abbrev filling : Items
  filling = fill_byte_items (has_page c.m) (up - 3) (up - 2) (up - 1)

  -- an activation stands before so many bytes, which lie within the memory
  pub record Filling (st : Store) (a : Activation) (s : State) (n : ℕ) : Type 0 where
    pub here : Here (record c { st = st }) v a s
    pub code : a.code ≡ cons memory_fill is
    pub to : ℕ
    pub parts : a.values ≡ three (pos n) y (pos to) others
    pub within : to + n ≤ length st.memory

  fill_moves : (st : Store) (a : Activation) (to n : ℕ) → a.code ≡ cons memory_fill is → a.values ≡ three (pos n) y (pos to) others → to + n ≤ length st.memory
      → move c.m st (running c.cs a) ≡ does c.m st c.cs a memory_fill is (fills c.m st a.locals (pos to) y n others)
  fill_moves st a to n code parts l =
      move_is c.m st c.cs a memory_fill is (three (pos n) y (pos to) others) code parts
      ∙ ap (λ (b : Bool). does c.m st c.cs a memory_fill is (if b then fault OutOfBounds else fills c.m st a.locals (pos to) y n others)) (le-ltb (length st.memory) (to + n) l)

  fill_turns : (st : Store) (a : Activation) (s : State) (n : ℕ) → Filling st a s (suc n) → Turned c v memory_fill is filling Filling st a s n
  fill_turns st a s n f = by_law law
    where
      to : ℕ
      to = f.to

      byte : ℕ
      byte = cast_unsigned w32 y % 256

      now : Store
      now = record st { memory = slice_set st.memory f.to (cast_unsigned w32 y % 256) }

      next : Activation
      next = record a { values = three (pos n) y (pos (suc f.to)) others; code = cons memory_fill is }

      low : length st.memory ≤ 16777216
      low = small c v memory_fill is others st a s f.here (pos (suc n)) y (pos f.to) f.parts first

      moves : move c.m st (running c.cs a) ≡ goes 1 (record st { memory = slice_set st.memory f.to (cast_unsigned w32 y % 256) }) (running c.cs (record a { values = three (pos n) y (pos (suc f.to)) others; code = cons memory_fill is }))
      moves =
          let l = low in
          let w : f.to + suc n ≤ length st.memory = f.within in
          let e : f.to + 1 ≡ suc f.to = omega arith in
          let last : unsigned (f.to + 1) ≡ values.I32 (pos (suc f.to)) = ap unsigned e ∙ low_unsigned (suc f.to) (omega arith) in
          fill_moves st a f.to (suc n) f.code f.parts f.within
          ∙ ap (λ (u : Value). goes 1 (record st { memory = slice_set st.memory f.to (cast_unsigned w32 y % 256) }) (running c.cs (record a { values = u ∷ (values.I32 y ∷ (unsigned (f.to + 1) ∷ others)); code = cons memory_fill is }))) (low_unsigned n (omega arith))
          ∙ ap (λ (u : Value). goes 1 (record st { memory = slice_set st.memory f.to (cast_unsigned w32 y % 256) }) (running c.cs (record a { values = values.I32 (pos n) ∷ (values.I32 y ∷ (u ∷ others)); code = cons memory_fill is }))) last

      stands : Operands (up - 3) (up - 2) (up - 1) (below a.locals (others ++ under a.levels)) (pos f.to) y (pos (suc n)) (framed c v memory_fill is others st a s f.here (pos (suc n)) y (pos f.to) f.parts).junk s
      stands = stand c v memory_fill is others st a s f.here (pos (suc n)) y (pos f.to) f.parts

      law : (qs : List (List ℕ)) × (pages_bytes qs ≡ slice_set (pages_bytes f.here.stored.pages) f.to (cast_unsigned w32 y % 256))
          × Turns (fill_byte_items (has_page c.m) (up - 3) (up - 2) (up - 1)) s s
          (below a.locals (others ++ under a.levels) ++ (pos (suc f.to) ∷ (y ∷ (pos n ∷ (framed c v memory_fill is others st a s f.here (pos (suc n)) y (pos f.to) f.parts).junk)))) qs
      law =
          works.fills (has_page c.m) (up - 3) (up - 2) (up - 1) f.here.stored.pages s _ _ f.to n y (may_write c v memory_fill is others st a s f.here (pos (suc n)) y (pos f.to) f.parts first) stands range
          (subst (λ (l : List ℕ). f.to + suc n ≤ length l) f.here.stored.bytes f.within)

      by_law : (qs : List (List ℕ)) × (pages_bytes qs ≡ slice_set (pages_bytes f.here.stored.pages) f.to (cast_unsigned w32 y % 256))
          × Turns (fill_byte_items (has_page c.m) (up - 3) (up - 2) (up - 1)) s s
          (below a.locals (others ++ under a.levels) ++ (pos (suc f.to) ∷ (y ∷ (pos n ∷ (framed c v memory_fill is others st a s f.here (pos (suc n)) y (pos f.to) f.parts).junk)))) qs
          → Turned c v memory_fill is filling Filling st a s n
      by_law (qs, made, x) = record {
        now = now;
        next = next;
        state = x.state;
        moves = moves;
        crosses = record { ready = x.ready; used = x.used; ends = x.ends; spares = access_spares s x.state x.spares };
        after = record {
          here = record {
            func = f.here.func;
            stands = restood c v memory_fill is others st a s f.here (pos (suc n)) y (pos f.to) f.parts (pos n) y (pos (suc f.to)) f.code;
            frame = reframed c v memory_fill is others st a s f.here (pos (suc n)) y (pos f.to) f.parts (pos n) y (pos (suc f.to)) x.state x.is;
            calm = access_calm c.bs s x.state x.spares x.trap f.here.calm;
            typed = typed_after c.m st c.cs c.program c.results now 1 a next f.here.typed moves;
            stored = access_stored c.m st s x.state qs (slice_set st.memory f.to (cast_unsigned w32 y % 256)) first x.spares x.memory (ap (λ (l : List ℕ). slice_set l f.to (cast_unsigned w32 y % 256)) f.here.stored.bytes ∙ sym made) f.here.stored;
          };
          code = refl;
          to = suc f.to;
          parts = refl;
          within = (let w : f.to + suc n ≤ length st.memory = f.within in let l : length (slice_set st.memory f.to (cast_unsigned w32 y % 256)) ≡ length st.memory = length-set st.memory f.to (cast_unsigned w32 y % 256) in omega arith);
        };
      }

  fill_done : (st : Store) (a : Activation) (s : State) → Filling st a s 0 → Done c v memory_fill is filling st a s
  fill_done st a s f =
      behind c v memory_fill is others st a s f.here (pos 0) y (pos f.to) f.parts filling f.code (changes_are c.m.mems first) (fill_moves st a f.to 0 f.code f.parts f.within)

  pub fill_repeats : Repeats c v memory_fill is (fill_byte_items (has_page c.m) (top_place (L c) v - 3) (top_place (L c) v - 2) (top_place (L c) v - 1)) Filling
  fill_repeats = record {
    again = refl;
    here = λ st a s n f. f.here;
    code = λ st a s n f. f.code;
    within = λ st a s n f. third_within (up - 3) (up - 2) (up - 1) _ _ (pos f.to) y (pos n) s (stand c v memory_fill is others st a s f.here (pos n) y (pos f.to) f.parts);
    count = λ st a s n f. third_reads (up - 3) (up - 2) (up - 1) _ _ (pos f.to) y (pos n) s (stand c v memory_fill is others st a s f.here (pos n) y (pos f.to) f.parts);
    tested = λ st a s t n f g. record { here = rehere c v memory_fill is others st a s t f.here g; code = f.code; to = f.to; parts = f.parts; within = f.within };
    turned = fill_turns;
    done = fill_done;
  }

-- ---- a copy

module _ (c : Setting) (v : Visit) (is : Code) (works : MemoryWorks) (first : HasFirst c.m.mems) (others : List Value) where
  abbrev high : ℕ
  high = top_place (L c) v

  abbrev copying : Items
  copying = copy_byte_items (has_page c.m) (high - 3) (high - 2) (high - 1)

  pub record Copying (st : Store) (a : Activation) (s : State) (n : ℕ) : Type 0 where
    pub here : Here (record c { st = st }) v a s
    pub code : a.code ≡ cons memory_copy is
    pub to : ℕ
    pub source : ℕ
    pub parts : a.values ≡ three (pos n) (pos source) (pos to) others
    pub within_to : to + n ≤ length st.memory
    pub within_source : source + n ≤ length st.memory

  copy_moves : (st : Store) (a : Activation) (to source n : ℕ) → a.code ≡ cons memory_copy is → a.values ≡ three (pos n) (pos source) (pos to) others → to + n ≤ length st.memory → source + n ≤ length st.memory
      → move c.m st (running c.cs a) ≡ does c.m st c.cs a memory_copy is (copies c.m st a.locals (pos to) (pos source) n others)
  copy_moves st a to source n code parts l k =
      move_is c.m st c.cs a memory_copy is (three (pos n) (pos source) (pos to) others) code parts
      ∙ ap (λ (b : Bool). does c.m st c.cs a memory_copy is (if b then fault OutOfBounds else inside c.m st a.locals (pos source) n (copies c.m st a.locals (pos to) (pos source) n others))) (le-ltb (length st.memory) (to + n) l)
      ∙ ap (λ (b : Bool). does c.m st c.cs a memory_copy is (if b then fault OutOfBounds else copies c.m st a.locals (pos to) (pos source) n others)) (le-ltb (length st.memory) (source + n) k)

  module _ (st : Store) (a : Activation) (s : State) (n : ℕ) (f : Copying st a s (suc n)) where
    abbrev junk : List ℤ
    junk = (framed c v memory_copy is others st a s f.here (pos (suc n)) (pos f.source) (pos f.to) f.parts).junk

    abbrev Result : Bool → Type 0
    Result down = (qs : List (List ℕ)) × (pages_bytes qs ≡ slice_set (pages_bytes f.here.stored.pages) (turn_at down f.to n) (slice_index (pages_bytes f.here.stored.pages) (turn_at down f.source n)))
        × Turns (copy_byte_items (has_page c.m) (high - 3) (high - 2) (high - 1)) s (counting s n)
        (below a.locals (others ++ under a.levels) ++ (pos (next_at down f.to) ∷ (pos (next_at down f.source) ∷ (pos n ∷ junk)))) qs

    copy_law : Result (nat_le f.to f.source)
    copy_law =
        works.copies (has_page c.m) (high - 3) (high - 2) (high - 1) f.here.stored.pages s _ _ f.to f.source n (may_write c v memory_copy is others st a s f.here (pos (suc n)) (pos f.source) (pos f.to) f.parts first)
        (stand c v memory_copy is others st a s f.here (pos (suc n)) (pos f.source) (pos f.to) f.parts)
        (subst (λ (l : List ℕ). f.to + suc n ≤ length l) f.here.stored.bytes f.within_to) (subst (λ (l : List ℕ). f.source + suc n ≤ length l) f.here.stored.bytes f.within_source)
        (λ i. subst (λ (l : List ℕ). slice_index l i < 256) f.here.stored.bytes (read_byte st.memory i f.here.typed.store.memory.bytes))

    low_enough : length st.memory ≤ 16777216
    low_enough = small c v memory_copy is others st a s f.here (pos (suc n)) (pos f.source) (pos f.to) f.parts first

    copied_moves : move c.m st (running c.cs a) ≡ does c.m st c.cs a memory_copy is (copies c.m st a.locals (pos f.to) (pos f.source) (suc n) others)
    copied_moves = copy_moves st a f.to f.source (suc n) f.code f.parts f.within_to f.within_source

    -- the key of the count
    keeps_count : ChangesFrameAlone s (counting s n)
    keeps_count = keeps_tree s count_site (Some (int (pos n))) refl

    turn_by : (down : Bool) (at from : ℕ) → turn_at down f.to n ≡ at → turn_at down f.source n ≡ from → next_at down f.to + n ≤ length st.memory → next_at down f.source + n ≤ length st.memory
        → move c.m st (running c.cs a)
        ≡ goes 1 (record st { memory = slice_set st.memory at (slice_index st.memory from) }) (running c.cs (record a { values = three (pos n) (pos (next_at down f.source)) (pos (next_at down f.to)) others; code = cons memory_copy is }))
        → Result down → Turned c v memory_copy is copying Copying st a s n
    turn_by down at from e g wt ws moves (qs, made, x) =
        let now : Store = record st { memory = slice_set st.memory at (slice_index st.memory from) } in
        let next : Activation = record a { values = three (pos n) (pos (next_at down f.source)) (pos (next_at down f.to)) others; code = cons memory_copy is } in
        let base : State = counting s n in
        let same : slice_set st.memory at (slice_index st.memory from) ≡ pages_bytes qs =
        ap (λ (l : List ℕ). slice_set l at (slice_index l from)) f.here.stored.bytes
        ∙ ap (λ (k : ℕ). slice_set (pages_bytes f.here.stored.pages) k (slice_index (pages_bytes f.here.stored.pages) from)) (sym e)
        ∙ ap (λ (k : ℕ). slice_set (pages_bytes f.here.stored.pages) (turn_at down f.to n) (slice_index (pages_bytes f.here.stored.pages) k)) (sym g) ∙ sym made in
        let long : length (slice_set st.memory at (slice_index st.memory from)) ≡ length st.memory = length-set st.memory at (slice_index st.memory from) in
        record {
          now = now;
          next = next;
          state = x.state;
          moves = moves;
          crosses = record { ready = x.ready; used = x.used; ends = x.ends; spares = spares_both s base x.state (keeps_spares s base keeps_count) (access_spares base x.state x.spares) };
          after = record {
            here = record {
              func = f.here.func;
              stands = restood c v memory_copy is others st a s f.here (pos (suc n)) (pos f.source) (pos f.to) f.parts (pos n) (pos (next_at down f.source)) (pos (next_at down f.to)) f.code;
              frame = reframed c v memory_copy is others st a s f.here (pos (suc n)) (pos f.source) (pos f.to) f.parts (pos n) (pos (next_at down f.source)) (pos (next_at down f.to)) x.state x.is;
              calm = access_calm c.bs base x.state x.spares x.trap (record { trap = f.here.calm.trap; state = f.here.calm.state; ending = f.here.calm.ending; standing = f.here.calm.standing; below = f.here.calm.below });
              typed = typed_after c.m st c.cs c.program c.results now 1 a next f.here.typed moves;
              stored = access_stored c.m st base x.state qs (slice_set st.memory at (slice_index st.memory from)) first x.spares x.memory same (stored_kept c.m st s base keeps_count f.here.stored);
            };
            code = refl;
            to = next_at down f.to;
            source = next_at down f.source;
            parts = refl;
            within_to = (let r : next_at down f.to + n ≤ length (slice_set st.memory at (slice_index st.memory from)) = subst (λ (k : ℕ). next_at down f.to + n ≤ k) (sym long) wt in r);
            within_source = (let r : next_at down f.source + n ≤ length (slice_set st.memory at (slice_index st.memory from)) = subst (λ (k : ℕ). next_at down f.source + n ≤ k) (sym long) ws in r);
          };
        }

    copy_turn : (down : Bool) → nat_le f.to f.source ≡ down → Turned c v memory_copy is copying Copying st a s n
    copy_turn true e =
        let l = low_enough in
        let wt : f.to + suc n ≤ length st.memory = f.within_to in
        let ws : f.source + suc n ≤ length st.memory = f.within_source in
        let to1 : f.to + 1 ≡ suc f.to = omega arith in
        let source1 : f.source + 1 ≡ suc f.source = omega arith in
        let to_is : unsigned (f.to + 1) ≡ values.I32 (pos (suc f.to)) = ap unsigned to1 ∙ low_unsigned (suc f.to) (omega arith) in
        let source_is : unsigned (f.source + 1) ≡ values.I32 (pos (suc f.source)) = ap unsigned source1 ∙ low_unsigned (suc f.source) (omega arith) in
        let now : Store = record st { memory = slice_set st.memory f.to (slice_index st.memory f.source) } in
        turn_by true f.to f.source refl refl (omega arith) (omega arith)
        (copied_moves
        ∙ ap (λ (b : Bool). does c.m st c.cs a memory_copy is (if b then copies_first c.m st a.locals (pos f.to) (pos f.source) n others else copies_last c.m st a.locals (pos f.to) (pos f.source) n others)) e
        ∙ ap (λ (u : Value). goes 1 now (running c.cs (record a { values = u ∷ (unsigned (f.source + 1) ∷ (unsigned (f.to + 1) ∷ others)); code = cons memory_copy is }))) (low_unsigned n (omega arith))
        ∙ ap (λ (u : Value). goes 1 now (running c.cs (record a { values = values.I32 (pos n) ∷ (u ∷ (unsigned (f.to + 1) ∷ others)); code = cons memory_copy is }))) source_is
        ∙ ap (λ (u : Value). goes 1 now (running c.cs (record a { values = values.I32 (pos n) ∷ (values.I32 (pos (suc f.source)) ∷ (u ∷ others)); code = cons memory_copy is }))) to_is)
        (subst Result e copy_law)
    copy_turn false e =
        let l = low_enough in
        let wt : f.to + suc n ≤ length st.memory = f.within_to in
        let ws : f.source + suc n ≤ length st.memory = f.within_source in
        let now : Store = record st { memory = slice_set st.memory (f.to + n) (slice_index st.memory (f.source + n)) } in
        turn_by false (f.to + n) (f.source + n) refl refl (omega arith) (omega arith)
        (copied_moves
        ∙ ap (λ (b : Bool). does c.m st c.cs a memory_copy is (if b then copies_first c.m st a.locals (pos f.to) (pos f.source) n others else copies_last c.m st a.locals (pos f.to) (pos f.source) n others)) e
        ∙ ap (λ (u : Value). goes 1 now (running c.cs (record a { values = u ∷ (values.I32 (pos f.source) ∷ (values.I32 (pos f.to) ∷ others)); code = cons memory_copy is }))) (low_unsigned n (omega arith)))
        (subst Result e copy_law)

  copy_done : (st : Store) (a : Activation) (s : State) → Copying st a s 0 → Done c v memory_copy is copying st a s
  copy_done st a s f =
      behind c v memory_copy is others st a s f.here (pos 0) (pos f.source) (pos f.to) f.parts copying f.code (changes_are c.m.mems first) (copy_moves st a f.to f.source 0 f.code f.parts f.within_to f.within_source)

  pub copy_repeats : Repeats c v memory_copy is (copy_byte_items (has_page c.m) (top_place (L c) v - 3) (top_place (L c) v - 2) (top_place (L c) v - 1)) Copying
  copy_repeats = record {
    again = refl;
    here = λ st a s n f. f.here;
    code = λ st a s n f. f.code;
    within = λ st a s n f. third_within (high - 3) (high - 2) (high - 1) _ _ (pos f.to) (pos f.source) (pos n) s (stand c v memory_copy is others st a s f.here (pos n) (pos f.source) (pos f.to) f.parts);
    count = λ st a s n f. third_reads (high - 3) (high - 2) (high - 1) _ _ (pos f.to) (pos f.source) (pos n) s (stand c v memory_copy is others st a s f.here (pos n) (pos f.source) (pos f.to) f.parts);
    tested = λ st a s t n f g. record { here = rehere c v memory_copy is others st a s t f.here g; code = f.code; to = f.to; source = f.source; parts = f.parts; within_to = f.within_to; within_source = f.within_source };
    turned = λ st a s n f. copy_turn st a s n f (nat_le f.to f.source) refl;
    done = copy_done;
  }

-- ---- where bytes reach to

-- the bytes lie within the memory, and the state is as before but for scratch scores; or the trap is recorded
data Reached (c : Setting) (v : Visit) (a : Activation) (s : State) (p r : ℕ) (x n : ℤ) : Type 0 where
  all_within : (t : State) → Crosses (reach_items p r) s t → Here c v a t → cast_unsigned w32 x + cast_unsigned w32 n ≤ length c.st.memory → Reached c v a s p r x n
  beyond : Trapped c a s (reach_items p r) → Reached c v a s p r x n

module _ {c : Setting} {v : Visit} {a : Activation} {s : State} (h : Here c v a s) (works : MemoryWorks) (first : HasFirst c.m.mems) where
  reached : (p r : ℕ) (x n : ℤ) → p < length s.places → place_at s p ≡ x → is_int x ≡ true → r < length s.places → place_at s r ≡ n → is_int n ≡ true
      → (length c.st.memory < cast_unsigned w32 x + cast_unsigned w32 n → move c.m c.st (running c.cs a) ≡ fails 0 OutOfBounds) → Reached c v a s p r x n
  reached p r x n lp ep ip lr er ir fails_so = by_end (ltb (length c.st.memory) (cast_unsigned w32 x + cast_unsigned w32 n)) refl
    where
      ps : List (List ℕ)
      ps = h.stored.pages

      law : (cast_unsigned w32 (place_at s p) + cast_unsigned w32 (place_at s r) ≤ length (pages_bytes h.stored.pages) → Does (reach_items p r) s 0 [] h.stored.pages)
          × (length (pages_bytes h.stored.pages) < cast_unsigned w32 (place_at s p) + cast_unsigned w32 (place_at s r) → Faults (reach_items p r) s h.stored.pages)
      law = works.reaches p r h.stored.pages s (record { memory = has h works first; a_page = λ f. absurd cc; trap = h.calm.trap; there = lp; int = ap is_int ep ∙ ip }) lr (ap is_int er ∙ ir)

      in_pages : (P : ℕ → ℕ → Type 0) → P (cast_unsigned w32 x + cast_unsigned w32 n) (length c.st.memory) → P (cast_unsigned w32 (place_at s p) + cast_unsigned w32 (place_at s r)) (length (pages_bytes h.stored.pages))
      in_pages P k =
          subst (λ (z : ℤ). P (cast_unsigned w32 z + cast_unsigned w32 (place_at s r)) (length (pages_bytes h.stored.pages))) (sym ep)
          (subst (λ (z : ℤ). P (cast_unsigned w32 x + cast_unsigned w32 z) (length (pages_bytes h.stored.pages))) (sym er)
          (subst (λ (l : List ℕ). P (cast_unsigned w32 x + cast_unsigned w32 n) (length l)) h.stored.bytes k))

      by_end : (b : Bool) → ltb (length c.st.memory) (cast_unsigned w32 x + cast_unsigned w32 n) ≡ b → Reached c v a s p r x n
      by_end true q =
          let l : length c.st.memory < cast_unsigned w32 x + cast_unsigned w32 n = ltb-true (length c.st.memory) (cast_unsigned w32 x + cast_unsigned w32 n) q in
          beyond (faulted h works first (reach_items p r) (fails_so l) (law.1 (in_pages (λ k m. m < k) l)))
      by_end false q =
          let l : cast_unsigned w32 x + cast_unsigned w32 n ≤ length c.st.memory = ltb-false (length c.st.memory) (cast_unsigned w32 x + cast_unsigned w32 n) q in
          let y : Does (reach_items p r) s 0 [] h.stored.pages = law.0 (in_pages (λ k m. k ≤ m) l) in
          all_within y.state (record { ready = y.ready; used = y.used; ends = y.ends; spares = access_spares s y.state y.spares })
          (record {
            func = h.func;
            stands = h.stands;
            frame = frame_same (size c) a.locals (operands a) s.places y.state.places y.places h.frame;
            calm = access_calm c.bs s y.state y.spares y.trap h.calm;
            typed = h.typed;
            stored = access_stored c.m c.st s y.state h.stored.pages c.st.memory first y.spares y.memory h.stored.bytes h.stored;
          }) l

-- ---- by their rules

-- the three operands
record Three (c : Setting) (a : Activation) (i : Op) : Type 0 where
  pub first : HasFirst c.m.mems
  pub n : ℤ
  pub y : ℤ
  pub x : ℤ
  pub others : List Value
  pub parts : a.values ≡ three n y x others
  pub n_range : is_int n ≡ true
  pub y_range : is_int y ≡ true
  pub x_range : is_int x ≡ true

module _ {c : Setting} {v : Visit} {a : Activation} {s : State} (h : Here c v a s) where
  three_of : (i : Op) (r : Ruled c.m a i) → HasFirst r.context.scope.memories → r.takes ≡ I32 ∷ I32 ∷ I32 ∷ [] → Three c a i
  three_of i r f takes =
      let n : FirstI32 (I32 ∷ I32 ∷ r.below) a.values = first_i32 (I32 ∷ I32 ∷ r.below) a.values (are_taken h i r (I32 ∷ I32 ∷ I32 ∷ []) takes) in
      let y : FirstI32 (I32 ∷ r.below) n.others = first_i32 (I32 ∷ r.below) n.others n.rest in
      let x : FirstI32 r.below y.others = first_i32 r.below y.others y.rest in
      record {
        first = subst (λ (ms : List Limits). HasFirst ms) r.memories f;
        n = n.number;
        y = y.number;
        x = x.number;
        others = x.others;
        parts = n.parts ∙ ap (λ (l : List Value). values.I32 n.number ∷ l) (y.parts ∙ ap (λ (l : List Value). values.I32 y.number ∷ l) x.parts);
        n_range = n.range;
        y_range = y.range;
        x_range = x.range;
      }

-- the first address and the count, as numbers without sign
record Low (x n : ℤ) : Type 0 where
  pub to : ℕ
  pub count : ℕ
  pub to_is : x ≡ pos to
  pub count_is : n ≡ pos count

low_both : (x n : ℤ) (size : ℕ) → is_int x ≡ true → is_int n ≡ true → size ≤ 16777216 → cast_unsigned w32 x + cast_unsigned w32 n ≤ size → Low x n
low_both x n size i j l h =
    let a = low_number x i (omega arith) in
    let b = low_number n j (omega arith) in
    record { to = a.0; count = b.0; to_is = a.1; count_is = b.1 }

module _ (c : Setting) (v : Visit) (d : ℕ) (low : d ≤ 16) (a : Activation) (s : State) (h : Here c v a s) (works : MemoryWorks) (is : Code) where
  abbrev peak : ℕ
  peak = top_place (L c) v

  abbrev P : State → Type 0
  P = Attain c d a

  small_memory : (o : Three c a memory_fill) → length c.st.memory ≤ 16777216
  small_memory o = small c v memory_fill is o.others c.st a s h o.n o.y o.x o.parts o.first

  trapped : (xs ys : Items) → Trapped c a s xs → Proceeds (join xs ys) s P
  trapped xs ys y = breaks_proceed P xs ys s y.state y.breaks (attains_trap 0 0 c.st c.cs a OutOfBounds (leads_nowhere c.m (at c.st c.cs a)) y.stored y.moves y.recorded y.running_still)

  -- ---- a fill

  pub fill_on : a.code ≡ cons memory_fill is → Proceeds (filled_items c.m c.n (R c) (L c) (all c) v) s P
  fill_on e = by_reach (reached h works o.first (peak - 3) (peak - 1) o.x o.n p_within p_reads o.x_range r_within r_reads o.n_range fails_so)
    where
      r : Ruled c.m a memory_fill
      r = ruled h memory_fill is e

      o : Three c a memory_fill
      o = three_of h memory_fill r r.rule.0 r.rule.1.0

      stands : Operands (peak - 3) (peak - 2) (peak - 1) (below a.locals (o.others ++ under a.levels)) o.x o.y o.n (framed c v memory_fill is o.others c.st a s h o.n o.y o.x o.parts).junk s
      stands = stand c v memory_fill is o.others c.st a s h o.n o.y o.x o.parts

      p_within : peak - 3 < length s.places
      p_within = first_within (peak - 3) (peak - 2) (peak - 1) _ _ o.x o.y o.n s stands

      p_reads : place_at s (peak - 3) ≡ o.x
      p_reads = first_reads (peak - 3) (peak - 2) (peak - 1) _ _ o.x o.y o.n s stands

      r_within : peak - 1 < length s.places
      r_within = third_within (peak - 3) (peak - 2) (peak - 1) _ _ o.x o.y o.n s stands

      r_reads : place_at s (peak - 1) ≡ o.n
      r_reads = third_reads (peak - 3) (peak - 2) (peak - 1) _ _ o.x o.y o.n s stands

      fails_so : length c.st.memory < cast_unsigned w32 o.x + cast_unsigned w32 o.n → move c.m c.st (running c.cs a) ≡ fails 0 OutOfBounds
      fails_so l =
          move_is c.m c.st c.cs a memory_fill is (three o.n o.y o.x o.others) e o.parts
          ∙ ap (λ (b : Bool). does c.m c.st c.cs a memory_fill is (if b then fault OutOfBounds else fills c.m c.st a.locals o.x o.y (cast_unsigned w32 o.n) o.others)) (lt-ltb (length c.st.memory) (cast_unsigned w32 o.x + cast_unsigned w32 o.n) l)

      by_reach : Reached c v a s (peak - 3) (peak - 1) o.x o.n → Proceeds (filled_items c.m c.n (R c) (L c) (all c) v) s P
      by_reach (beyond y) = trapped (reach_items (peak - 3) (peak - 1)) _ y
      by_reach (all_within t crosses there l) =
          let k : Low o.x o.n = low_both o.x o.n (length c.st.memory) o.x_range o.n_range (small_memory o) l in
          let f : Filling c v is works o.first o.others o.y o.y_range c.st a t k.count = record {
            here = there;
            code = e;
            to = k.to;
            parts = o.parts ∙ ap (λ (z : ℤ). three z o.y o.x o.others) k.count_is ∙ ap (λ (z : ℤ). three (pos k.count) o.y z o.others) k.to_is;
            within = subst (λ (z : ℤ). cast_unsigned w32 z + k.count ≤ length c.st.memory) k.to_is (subst (λ (z : ℤ). cast_unsigned w32 o.x + cast_unsigned w32 z ≤ length c.st.memory) k.count_is l);
          } in
          crosses_proceed P (reach_items (peak - 3) (peak - 1)) _ s t crosses
          (turns_on c v memory_fill is (fill_byte_items (has_page c.m) (peak - 3) (peak - 2) (peak - 1)) (Filling c v is works o.first o.others o.y o.y_range) (fill_repeats c v is works o.first o.others o.y o.y_range) 2 d low c.st a t k.count f)

  -- ---- a copy

  pub copy_on : a.code ≡ cons memory_copy is → Proceeds (copied_items c.m c.n (R c) (L c) (all c) v) s P
  copy_on e = by_first (reached h works o.first (peak - 3) (peak - 1) o.x o.n p_within p_reads o.x_range r_within r_reads o.n_range first_fails)
    where
      r : Ruled c.m a memory_copy
      r = ruled h memory_copy is e

      o : Three c a memory_copy
      o = three_of h memory_copy r r.rule.0 r.rule.1.0

      stands_in : (t : State) (there : Here c v a t)
          → Operands (peak - 3) (peak - 2) (peak - 1) (below a.locals (o.others ++ under a.levels)) o.x o.y o.n (framed c v memory_copy is o.others c.st a t there o.n o.y o.x o.parts).junk t
      stands_in t there = stand c v memory_copy is o.others c.st a t there o.n o.y o.x o.parts

      p_within : peak - 3 < length s.places
      p_within = first_within (peak - 3) (peak - 2) (peak - 1) _ _ o.x o.y o.n s (stands_in s h)

      p_reads : place_at s (peak - 3) ≡ o.x
      p_reads = first_reads (peak - 3) (peak - 2) (peak - 1) _ _ o.x o.y o.n s (stands_in s h)

      r_within : peak - 1 < length s.places
      r_within = third_within (peak - 3) (peak - 2) (peak - 1) _ _ o.x o.y o.n s (stands_in s h)

      r_reads : place_at s (peak - 1) ≡ o.n
      r_reads = third_reads (peak - 3) (peak - 2) (peak - 1) _ _ o.x o.y o.n s (stands_in s h)

      -- by the bytes that are written, and by those that are read
      moves : move c.m c.st (running c.cs a)
          ≡ does c.m c.st c.cs a memory_copy is
          (inside c.m c.st a.locals o.x (cast_unsigned w32 o.n) (inside c.m c.st a.locals o.y (cast_unsigned w32 o.n) (copies c.m c.st a.locals o.x o.y (cast_unsigned w32 o.n) o.others)))
      moves = move_is c.m c.st c.cs a memory_copy is (three o.n o.y o.x o.others) e o.parts

      first_fails : length c.st.memory < cast_unsigned w32 o.x + cast_unsigned w32 o.n → move c.m c.st (running c.cs a) ≡ fails 0 OutOfBounds
      first_fails l =
          moves
          ∙ ap (λ (b : Bool). does c.m c.st c.cs a memory_copy is (if b then fault OutOfBounds else inside c.m c.st a.locals o.y (cast_unsigned w32 o.n) (copies c.m c.st a.locals o.x o.y (cast_unsigned w32 o.n) o.others)))
          (lt-ltb (length c.st.memory) (cast_unsigned w32 o.x + cast_unsigned w32 o.n) l)

      second_fails : cast_unsigned w32 o.x + cast_unsigned w32 o.n ≤ length c.st.memory → length c.st.memory < cast_unsigned w32 o.y + cast_unsigned w32 o.n → move c.m c.st (running c.cs a) ≡ fails 0 OutOfBounds
      second_fails k l =
          moves
          ∙ ap (λ (b : Bool). does c.m c.st c.cs a memory_copy is (if b then fault OutOfBounds else inside c.m c.st a.locals o.y (cast_unsigned w32 o.n) (copies c.m c.st a.locals o.x o.y (cast_unsigned w32 o.n) o.others)))
          (le-ltb (length c.st.memory) (cast_unsigned w32 o.x + cast_unsigned w32 o.n) k)
          ∙ ap (λ (b : Bool). does c.m c.st c.cs a memory_copy is (if b then fault OutOfBounds else copies c.m c.st a.locals o.x o.y (cast_unsigned w32 o.n) o.others)) (lt-ltb (length c.st.memory) (cast_unsigned w32 o.y + cast_unsigned w32 o.n) l)

      by_second : (t : State) → Here c v a t → cast_unsigned w32 o.x + cast_unsigned w32 o.n ≤ length c.st.memory → Reached c v a t (peak - 2) (peak - 1) o.y o.n
          → Proceeds (join (reach_items (peak - 2) (peak - 1)) (turn_items c.m c.n (R c) (L c) (all c) v (copy_byte_items (has_page c.m) (peak - 3) (peak - 2) (peak - 1)) copies_of_run)) t P
      by_second t there l (beyond y) =
          breaks_proceed P (reach_items (peak - 2) (peak - 1)) _ t y.state y.breaks (attains_trap 0 0 c.st c.cs a OutOfBounds (leads_nowhere c.m (at c.st c.cs a)) y.stored y.moves y.recorded y.running_still)
      by_second t there l (all_within u crosses again m) =
          let most : length c.st.memory ≤ 16777216 = small c v memory_copy is o.others c.st a s h o.n o.y o.x o.parts o.first in
          let k : Low o.x o.n = low_both o.x o.n (length c.st.memory) o.x_range o.n_range most l in
          let j : Low o.y o.n = low_both o.y o.n (length c.st.memory) o.y_range o.n_range most m in
          let f : Copying c v is works o.first o.others c.st a u k.count = record {
            here = again;
            code = e;
            to = k.to;
            source = j.to;
            parts = o.parts ∙ ap (λ (z : ℤ). three z o.y o.x o.others) k.count_is ∙ ap (λ (z : ℤ). three (pos k.count) z o.x o.others) j.to_is ∙ ap (λ (z : ℤ). three (pos k.count) (pos j.to) z o.others) k.to_is;
            within_to = subst (λ (z : ℤ). cast_unsigned w32 z + k.count ≤ length c.st.memory) k.to_is (subst (λ (z : ℤ). cast_unsigned w32 o.x + cast_unsigned w32 z ≤ length c.st.memory) k.count_is l);
            within_source = subst (λ (z : ℤ). cast_unsigned w32 z + k.count ≤ length c.st.memory) j.to_is (subst (λ (z : ℤ). cast_unsigned w32 o.y + cast_unsigned w32 z ≤ length c.st.memory) k.count_is m);
          } in
          crosses_proceed P (reach_items (peak - 2) (peak - 1)) _ t u crosses
          (turns_on c v memory_copy is (copy_byte_items (has_page c.m) (peak - 3) (peak - 2) (peak - 1)) (Copying c v is works o.first o.others) (copy_repeats c v is works o.first o.others) 0 d low c.st a u k.count f)

      by_first : Reached c v a s (peak - 3) (peak - 1) o.x o.n → Proceeds (copied_items c.m c.n (R c) (L c) (all c) v) s P
      by_first (beyond y) = trapped (reach_items (peak - 3) (peak - 1)) _ y
      by_first (all_within t crosses there l) =
          let k : Operands (peak - 3) (peak - 2) (peak - 1) (below a.locals (o.others ++ under a.levels)) o.x o.y o.n (framed c v memory_copy is o.others c.st a t there o.n o.y o.x o.parts).junk t = stands_in t there in
          crosses_proceed P (reach_items (peak - 3) (peak - 1)) _ s t crosses
          (by_second t there l
          (reached there works o.first (peak - 2) (peak - 1) o.y o.n (second_within (peak - 3) (peak - 2) (peak - 1) _ _ o.x o.y o.n t k) (second_reads (peak - 3) (peak - 2) (peak - 1) _ _ o.x o.y o.n t k) o.y_range
          (third_within (peak - 3) (peak - 2) (peak - 1) _ _ o.x o.y o.n t k) (third_reads (peak - 3) (peak - 2) (peak - 1) _ _ o.x o.y o.n t k) o.n_range (second_fails l)))
