-- What instructions without bodies come to in the joined module is the image of what they come to in the linked modules.
use Rattle.std.proofs.Common.{◌≡◌, ℕ, zero, suc, ◌+◌, ◌*◌, ◌%◌, List, [], ◌∷◌, ◌++◌, length, map, drop, take, reverse, replicate, Bool, true, false, ltb, leb, cond, Option, Some, None, refl, sym, ap, ◌∙◌, ℤ, negsuc}
use Rattle.std.specs.Prelude.{slice_get, slice_set, slice_index, unwrap_or}
use Rattle.std.specs.Int.{w32, cast_unsigned}
use Rattle.std.proofs.lemmas.Bool.{ltb-true}
use Rattle.mc_nbt.specs.declared.value.Value.{Value}
use Rattle.mc_nbt.specs.declared.value.Value.TheVariants.{I32}
use Rattle.wm_ast.specs.declared.answer.Answer.{Answer}
use Rattle.wm_ast.specs.declared.answer.Answer.TheVariants as answers
use Rattle.wm_ast.specs.declared.answer.TrapKind.TheVariants.{OutOfBounds}
use Rattle.wm_ast.specs.declared.module.Space.TheVariants as spaces
use Rattle.wm_ast.specs.declared.operation.LoadOp.{LoadOp}
use Rattle.wm_ast.specs.Apply.{apply}
use Rattle.wm_ast.specs.Code.{Op, nop, drop_one, select, local_get, local_set, local_tee, global_get, global_set, load, store, memory_size, memory_grow, memory_copy, memory_fill, num}
use Rattle.wm_ast.specs.Operation.{num_type, load_width}
use Rattle.wm_ast.specs.Simple.{Executed, done, repeats, fault, unfit, if_nonzero, unsigned, address, answered, got, set_local, set_global, reads, writes, grows, fills, copies_first, copies_last, copies, inside, simple}
use Rattle.wm_ast.specs.Storage.{loaded, stored}
use Rattle.wm_ast.specs.Store.{Store, items_at, overwritten, page_size, page_count, most_pages}
use Rattle.wm_match.specs.Program.{Program}
use Rattle.wm_join.specs.Image.{HasGlobals, image_store}
use Rattle.wm_join.specs.Joined.{joined, renumbering, index_number}
use Rattle.wm_join.specs.LinkedStore.{with_memories, Store as LinkedStore, own_store, with_own}
use Rattle.wm_join.specs.Numbering.{joined_lists, number}
use Rattle.wm_join.specs.Renumbered.{renumbered_op}
use Rattle.wm_join.proofs.NumberingLaws.{number_within, own_get, own_set, set_same}

module _ (p : Program) (here : ℕ) (s : LinkedStore) where
  -- what it comes to, seen in the joined module
  abbrev pub image_executed : Executed → Executed
  image_executed (done own locals vs) = done (image_store p (with_own here s own)) locals vs
  image_executed (repeats own vs) = repeats (image_store p (with_own here s own)) vs
  image_executed (fault k) = fault k
  image_executed unfit = unfit

  unchanged : image_store p s ≡ image_store p (with_own here s (own_store here s))
  unchanged = sym (ap (λ (gs : List (List Value)). record (image_store p s) { globals = joined_lists gs }) (set_same s.globals here))

  changed : (memory : List ℕ) → record (image_store p s) { memory = memory } ≡ image_store p (with_own here s (record (own_store here s) { memory = memory }))
  changed memory =
      sym (ap (λ (gs : List (List Value)). record (image_store p s) { globals = joined_lists gs; memory = memory }) (set_same s.globals here))

  through : (b : Bool) (x y u v : Executed) → x ≡ image_executed u → y ≡ image_executed v → cond b x y ≡ image_executed (cond b u v)
  through true x y u v e f = e
  through false x y u v e f = f

  module _ (locals : List Value) where
    stays : (own vs : List Value) → done (image_store p s) own vs ≡ image_executed (done (own_store here s) own vs)
    stays own vs = ap (λ (t : Store). done t own vs) unchanged

    writes_memory : (memory : List ℕ) (vs : List Value)
        → done (record (image_store p s) { memory = memory }) locals vs ≡ image_executed (done (record (own_store here s) { memory = memory }) locals vs)
    writes_memory memory vs = ap (λ (t : Store). done t locals vs) (changed memory)

    again_memory : (memory : List ℕ) (vs : List Value)
        → repeats (record (image_store p s) { memory = memory }) vs ≡ image_executed (repeats (record (own_store here s) { memory = memory }) vs)
    again_memory memory vs = ap (λ (t : Store). repeats t vs) (changed memory)

    answered_is : (vs : List Value) (o : Option Answer) → answered (joined p) (image_store p s) locals vs o ≡ image_executed (answered (with_memories p) (own_store here s) locals vs o)
    answered_is vs None = refl
    answered_is vs (Some (answers.Value v)) = stays locals (v ∷ vs)
    answered_is vs (Some (answers.Trap k)) = refl

    got_is : (vs : List Value) (o : Option Value) → got (joined p) (image_store p s) locals vs o ≡ image_executed (got (with_memories p) (own_store here s) locals vs o)
    got_is vs None = refl
    got_is vs (Some v) = stays locals (v ∷ vs)

    local_is : (x : ℕ) (v : Value) (vs : List Value)
        → set_local (joined p) (image_store p s) locals x v vs ≡ image_executed (set_local (with_memories p) (own_store here s) locals x v vs)
    local_is x v vs = through (ltb x (length locals)) _ unfit (done (own_store here s) (slice_set locals x v) vs) unfit (stays (slice_set locals x v) vs) refl

    reads_is : (op : LoadOp) (vs : List Value) (o : Option (List ℕ))
        → reads (joined p) (image_store p s) locals op vs o ≡ image_executed (reads (with_memories p) (own_store here s) locals op vs o)
    reads_is op vs None = refl
    reads_is op vs (Some bytes) = stays locals (loaded op bytes ∷ vs)

    writes_is : (at : ℕ) (vs : List Value) (o : Option (List ℕ))
        → writes (joined p) (image_store p s) locals at vs o ≡ image_executed (writes (with_memories p) (own_store here s) locals at vs o)
    writes_is at vs None = refl
    writes_is at vs (Some bytes) =
        through (ltb (length s.memory) (at + length bytes)) (fault OutOfBounds) _ (fault OutOfBounds) _ refl (writes_memory (overwritten s.memory at bytes) vs)

    grows_is : (count : ℕ) (vs : List Value)
        → grows (joined p) (image_store p s) locals count vs ≡ image_executed (grows (with_memories p) (own_store here s) locals count vs)
    grows_is count vs =
        through (ltb (most_pages (joined p)) (page_count s.memory + count)) _ _ (done (own_store here s) locals (I32 (negsuc 0) ∷ vs)) _ (stays locals (I32 (negsuc 0) ∷ vs))
        (writes_memory (s.memory ++ replicate (page_size * count) 0) (unsigned (page_count s.memory) ∷ vs))

    fills_is : (to byte : ℤ) (count : ℕ) (vs : List Value)
        → fills (joined p) (image_store p s) locals to byte count vs ≡ image_executed (fills (with_memories p) (own_store here s) locals to byte count vs)
    fills_is to byte zero vs = stays locals vs
    fills_is to byte (suc count) vs = again_memory (slice_set s.memory (cast_unsigned w32 to) (cast_unsigned w32 byte % 256)) _

    copies_is : (to from : ℤ) (count : ℕ) (vs : List Value)
        → copies (joined p) (image_store p s) locals to from count vs ≡ image_executed (copies (with_memories p) (own_store here s) locals to from count vs)
    copies_is to from zero vs = stays locals vs
    copies_is to from (suc others) vs =
        through (leb (cast_unsigned w32 to) (cast_unsigned w32 from)) _ _
        (copies_first (with_memories p) (own_store here s) locals to from others vs) (copies_last (with_memories p) (own_store here s) locals to from others vs)
        (again_memory (slice_set s.memory (cast_unsigned w32 to) (slice_index s.memory (cast_unsigned w32 from))) _)
        (again_memory (slice_set s.memory (cast_unsigned w32 to + others) (slice_index s.memory (cast_unsigned w32 from + others))) _)

    inside_is : (at : ℤ) (count : ℕ) (e f : Executed) → e ≡ image_executed f
        → inside (joined p) (image_store p s) locals at count e ≡ image_executed (inside (with_memories p) (own_store here s) locals at count f)
    inside_is at count e f h = through (ltb (length s.memory) (cast_unsigned w32 at + count)) (fault OutOfBounds) e (fault OutOfBounds) f refl h

    module _ (has : HasGlobals p s) where
      place_is : (x : ℕ) → index_number p spaces.Global here x ≡ number (map (length {A = Value}) s.globals) here x
      place_is x = ap (λ (sizes : List ℕ). number sizes here x) (sym has)

      global_got : (x : ℕ) (vs : List Value)
          → got (joined p) (image_store p s) locals vs (slice_get (joined_lists s.globals) (index_number p spaces.Global here x))
          ≡ image_executed (got (with_memories p) (own_store here s) locals vs (slice_get (unwrap_or (slice_get s.globals here) []) x))
      global_got x vs =
          ap (λ (n : ℕ). got (joined p) (image_store p s) locals vs (slice_get (joined_lists s.globals) n)) (place_is x)
          ∙ ap (got (joined p) (image_store p s) locals vs) (own_get s.globals here x)
          ∙ got_is vs (slice_get (unwrap_or (slice_get s.globals here) []) x)

      global_set_is : (x : ℕ) (v : Value) (vs : List Value)
          → set_global (joined p) (image_store p s) locals (index_number p spaces.Global here x) v vs
          ≡ image_executed (set_global (with_memories p) (own_store here s) locals x v vs)
      global_set_is x v vs =
          ap (λ (n : ℕ). set_global (joined p) (image_store p s) locals n v vs) (place_is x)
          ∙ ap (λ (b : Bool). cond b (done (record (image_store p s) { globals = slice_set (joined_lists s.globals) (number (map (length {A = Value}) s.globals) here x) v }) locals vs) unfit)
          (number_within s.globals here x)
          ∙ by_place (ltb x (length (unwrap_or (slice_get s.globals here) []))) refl
        where
          by_place : (b : Bool) → ltb x (length (unwrap_or (slice_get s.globals here) [])) ≡ b
              → cond b (done (record (image_store p s) { globals = slice_set (joined_lists s.globals) (number (map (length {A = Value}) s.globals) here x) v }) locals vs) unfit
              ≡ image_executed (cond b (done (record (own_store here s) { globals = slice_set (unwrap_or (slice_get s.globals here) []) x v }) locals vs) unfit)
          by_place true e =
              sym (ap (λ (gs : List Value). done (record (image_store p s) { globals = gs }) locals vs)
              (own_set s.globals here x v (ltb-true x (length (unwrap_or (slice_get s.globals here) [])) e)))
          by_place false e = refl

      pub simple_is : (i : Op) (vs : List Value)
          → simple (joined p) (image_store p s) locals (renumbered_op (renumbering p here) i) vs ≡ image_executed (simple (with_memories p) (own_store here s) locals i vs)
      simple_is (num op) vs = answered_is (drop (length (num_type op).takes) vs) (apply op (reverse (take (length (num_type op).takes) vs)))
      simple_is drop_one (v ∷ vs) = stays locals vs
      simple_is select (I32 c ∷ b ∷ a ∷ vs) = stays locals (if_nonzero c a b ∷ vs)
      simple_is (local_get x) vs = got_is vs (slice_get locals x)
      simple_is (local_set x) (v ∷ vs) = local_is x v vs
      simple_is (local_tee x) (v ∷ vs) = local_is x v (v ∷ vs)
      simple_is (global_get x) vs = global_got x vs
      simple_is (global_set x) (v ∷ vs) = global_set_is x v vs
      simple_is (load op align offset) (I32 i ∷ vs) = reads_is op vs (items_at s.memory (address i offset) (load_width op))
      simple_is (store op align offset) (v ∷ I32 i ∷ vs) = writes_is (address i offset) vs (stored op v)
      simple_is memory_size vs = stays locals (unsigned (page_count s.memory) ∷ vs)
      simple_is memory_grow (I32 k ∷ vs) = grows_is (cast_unsigned w32 k) vs
      simple_is memory_fill (I32 n ∷ I32 byte ∷ I32 to ∷ vs) =
          inside_is to (cast_unsigned w32 n) _ (fills (with_memories p) (own_store here s) locals to byte (cast_unsigned w32 n) vs) (fills_is to byte (cast_unsigned w32 n) vs)
      simple_is memory_copy (I32 n ∷ I32 from ∷ I32 to ∷ vs) =
          inside_is to (cast_unsigned w32 n) _ (inside (with_memories p) (own_store here s) locals from (cast_unsigned w32 n) (copies (with_memories p) (own_store here s) locals to from (cast_unsigned w32 n) vs))
          (inside_is from (cast_unsigned w32 n) _ (copies (with_memories p) (own_store here s) locals to from (cast_unsigned w32 n) vs) (copies_is to from (cast_unsigned w32 n) vs))
      simple_is nop vs = stays locals vs
      simple_is _ _ = refl
