-- A step leaves as many globals of each module as there were.
use Rattle.std.proofs.Common.{◌≡◌, ℕ, zero, suc, ◌+◌, List, [], ◌∷◌, length, Bool, true, false, ltb, leb, cond, Option, Some, None, refl, ◌∙◌, ℤ}
use Rattle.std.specs.Prelude.{slice_get}
use Rattle.std.specs.Int.{w32, cast_unsigned}
use Rattle.std.proofs.lemmas.List.{length-set}
use Rattle.mc_nbt.specs.declared.value.Value.{Value}
use Rattle.mc_nbt.specs.declared.value.Value.TheVariants.{I32}
use Rattle.wm_ast.specs.declared.answer.Answer.{Answer}
use Rattle.wm_ast.specs.declared.answer.Answer.TheVariants as answers
use Rattle.wm_ast.specs.declared.limit.TheConstants.{MAX_FRAMES}
use Rattle.wm_ast.specs.declared.module.Module.{Module}
use Rattle.wm_ast.specs.declared.module.Space.TheVariants as spaces
use Rattle.wm_ast.specs.declared.operation.LoadOp.{LoadOp}
use Rattle.wm_ast.specs.Code.{Op, unreachable, nop, block, loop, if_else, br, br_if, br_table, return, call, call_indirect, drop_one, select, local_get, local_set, local_tee, global_get, global_set, load, store, memory_size, memory_grow, memory_copy, memory_fill, num}
use Rattle.wm_ast.specs.Operation.{load_width}
use Rattle.wm_ast.specs.Simple.{Executed, done, repeats, fault, unfit, answered, got, reads, writes, copies_first, copies_last, copies, fills, address, simple}
use Rattle.wm_ast.specs.Step.{top}
use Rattle.wm_ast.specs.Storage.{stored}
use Rattle.wm_ast.specs.Store.{Store, Callee, items_at, page_count, most_pages}
use Rattle.wm_match.specs.declared.library.Binding.{Binding}
use Rattle.wm_match.specs.Program.{Program}
use Rattle.wm_match.specs.Space.{stands_for}
use Rattle.wm_join.specs.Image.{HasGlobals}
use Rattle.wm_join.specs.LinkedConfiguration.{value, instruction, invoke, label, frame, Items, empty, more}
use Rattle.wm_join.specs.LinkedStep.{Effect, becomes, branches, returns, traps, no_rule, Reduct, values, rewritten, branching, returning, trapping, irreducible, effect_of, enter_over, enter, enter_named, enter_target, op_step, lands, at_label, at_frame, go_on, items_step, Target, function, refused, unknown, target}
use Rattle.wm_join.specs.LinkedStore.{with_memories, callee_of as linked_callee, Store as LinkedStore, own_store}
use Rattle.wm_join.proofs.NumberingLaws.{set_lengths}

-- One module.

module _ (m : Module) (s : Store) (locals : List Value) where
  -- as many globals as before
  abbrev IsKept : Executed → Type 0
  IsKept (done t own vs) = length t.globals ≡ length s.globals
  IsKept (repeats t vs) = length t.globals ≡ length s.globals
  IsKept (fault k) = Unit {0}
  IsKept unfit = Unit {0}

  by_test : (b : Bool) (e f : Executed) → IsKept e → IsKept f → IsKept (cond b e f)
  by_test true e f h g = h
  by_test false e f h g = g

  answered_keeps : (vs : List Value) (o : Option Answer) → IsKept (answered m s locals vs o)
  answered_keeps vs None = tt
  answered_keeps vs (Some (answers.Value v)) = refl
  answered_keeps vs (Some (answers.Trap k)) = tt

  got_keeps : (vs : List Value) (o : Option Value) → IsKept (got m s locals vs o)
  got_keeps vs None = tt
  got_keeps vs (Some v) = refl

  reads_keeps : (op : LoadOp) (vs : List Value) (o : Option (List ℕ)) → IsKept (reads m s locals op vs o)
  reads_keeps op vs None = tt
  reads_keeps op vs (Some bytes) = refl

  writes_keeps : (at : ℕ) (vs : List Value) (o : Option (List ℕ)) → IsKept (writes m s locals at vs o)
  writes_keeps at vs None = tt
  writes_keeps at vs (Some bytes) = by_test (ltb (length s.memory) (at + length bytes)) _ _ tt refl

  fills_keeps : (to byte : ℤ) (count : ℕ) (vs : List Value) → IsKept (fills m s locals to byte count vs)
  fills_keeps to byte zero vs = refl
  fills_keeps to byte (suc count) vs = refl

  copies_keeps : (to from : ℤ) (count : ℕ) (vs : List Value) → IsKept (copies m s locals to from count vs)
  copies_keeps to from zero vs = refl
  copies_keeps to from (suc others) vs = by_test (leb (cast_unsigned w32 to) (cast_unsigned w32 from)) (copies_first m s locals to from others vs) (copies_last m s locals to from others vs) refl refl

  simple_keeps : (i : Op) (vs : List Value) → IsKept (simple m s locals i vs)
  simple_keeps (num op) vs = answered_keeps _ _
  simple_keeps drop_one (v ∷ vs) = refl
  simple_keeps select (I32 c ∷ b ∷ a ∷ vs) = refl
  simple_keeps (local_get x) vs = got_keeps vs (slice_get locals x)
  simple_keeps (local_set x) (v ∷ vs) = by_test (ltb x (length locals)) _ _ refl tt
  simple_keeps (local_tee x) (v ∷ vs) = by_test (ltb x (length locals)) _ _ refl tt
  simple_keeps (global_get x) vs = got_keeps vs (slice_get s.globals x)
  simple_keeps (global_set x) (v ∷ vs) = by_test (ltb x (length s.globals)) _ _ (length-set s.globals x v) tt
  simple_keeps (load op align offset) (I32 i ∷ vs) = reads_keeps op vs (items_at s.memory (address i offset) (load_width op))
  simple_keeps (store op align offset) (v ∷ I32 i ∷ vs) = writes_keeps (address i offset) vs (stored op v)
  simple_keeps memory_size vs = refl
  simple_keeps memory_grow (I32 k ∷ vs) = by_test (ltb (most_pages m) (page_count s.memory + cast_unsigned w32 k)) _ _ refl refl
  simple_keeps memory_fill (I32 n ∷ I32 byte ∷ I32 to ∷ vs) =
      by_test (ltb (length s.memory) (cast_unsigned w32 to + cast_unsigned w32 n)) _ _ tt (fills_keeps to byte (cast_unsigned w32 n) vs)
  simple_keeps memory_copy (I32 n ∷ I32 from ∷ I32 to ∷ vs) =
      by_test (ltb (length s.memory) (cast_unsigned w32 to + cast_unsigned w32 n)) _ _ tt
      (by_test (ltb (length s.memory) (cast_unsigned w32 from + cast_unsigned w32 n)) _ _ tt (copies_keeps to from (cast_unsigned w32 n) vs))
  simple_keeps nop vs = refl
  simple_keeps unreachable vs = tt
  simple_keeps _ _ = tt

-- Linked modules.

module _ (p : Program) where
  abbrev KeptEffect : Effect → Type 0
  KeptEffect (becomes s locals vs is) = HasGlobals p s
  KeptEffect (branches l vs) = Unit {0}
  KeptEffect (returns vs) = Unit {0}
  KeptEffect (traps k) = Unit {0}
  KeptEffect no_rule = Unit {0}

  abbrev pub KeptReduct : Reduct → Type 0
  KeptReduct (values vs) = Unit {0}
  KeptReduct (rewritten s locals is) = HasGlobals p s
  KeptReduct (branching l vs) = Unit {0}
  KeptReduct (returning vs) = Unit {0}
  KeptReduct (trapping k) = Unit {0}
  KeptReduct irreducible = Unit {0}

  by_depth : (b : Bool) (x y : Effect) → KeptEffect x → KeptEffect y → KeptEffect (cond b x y)
  by_depth true x y h g = h
  by_depth false x y h g = g

  module _ (here depth : ℕ) (s : LinkedStore) (locals : List Value) (has : HasGlobals p s) where
    effect_keeps : (i : Op) (e : Executed) → IsKept (with_memories p) (own_store here s) locals e → KeptEffect (effect_of p here depth s locals i e)
    effect_keeps i (done own locals' vs) h = set_lengths s.globals here own.globals h ∙ has
    effect_keeps i (repeats own vs) h = set_lengths s.globals here own.globals h ∙ has
    effect_keeps i (fault k) h = tt
    effect_keeps i unfit h = tt

    over_keeps : (f : Binding) (c : Callee) (vs : List Value) (o : Option (List Value)) → KeptEffect (enter_over p here depth s locals f c vs o)
    over_keeps f c vs None = tt
    over_keeps f c vs (Some us) = has

    enter_keeps : (f : Binding) (vs : List Value) (o : Option Callee) → KeptEffect (enter p here depth s locals f vs o)
    enter_keeps f vs None = tt
    enter_keeps f vs (Some c) = by_depth (ltb depth MAX_FRAMES) _ _ (over_keeps f c vs (top (length c.takes) vs)) tt

    named_keeps : (vs : List Value) (o : Option Binding) → KeptEffect (enter_named p here depth s locals vs o)
    named_keeps vs None = tt
    named_keeps vs (Some f) = enter_keeps f vs (linked_callee p f)

    target_keeps : (vs : List Value) (t : Target) → KeptEffect (enter_target p here depth s locals vs t)
    target_keeps vs (function f) = has
    target_keeps vs (refused k) = tt
    target_keeps vs unknown = tt

    other : (i : Op) (vs : List Value) → KeptEffect (effect_of p here depth s locals i (simple (with_memories p) (own_store here s) locals i vs))
    other i vs = effect_keeps i _ (simple_keeps (with_memories p) (own_store here s) locals i vs)

    op_keeps : (i : Op) (vs : List Value) → KeptEffect (op_step p here depth s locals i vs)
    op_keeps (block ty body) vs = has
    op_keeps (loop ty body) vs = has
    op_keeps (if_else ty first second) (I32 c ∷ vs) = has
    op_keeps (br l) vs = tt
    op_keeps (br_if l) (I32 c ∷ vs) = has
    op_keeps (br_table ls l) (I32 i ∷ vs) = has
    op_keeps return vs = tt
    op_keeps (call f) vs = named_keeps vs (stands_for p spaces.Func here f)
    op_keeps (call_indirect n) (I32 i ∷ vs) = target_keeps vs (target p here s n i)
    op_keeps unreachable vs = tt
    op_keeps nop vs = other nop vs
    op_keeps drop_one vs = other drop_one vs
    op_keeps select vs = other select vs
    op_keeps (local_get x) vs = other (local_get x) vs
    op_keeps (local_set x) vs = other (local_set x) vs
    op_keeps (local_tee x) vs = other (local_tee x) vs
    op_keeps (global_get x) vs = other (global_get x) vs
    op_keeps (global_set x) vs = other (global_set x) vs
    op_keeps (load op align offset) vs = other (load op align offset) vs
    op_keeps (store op align offset) vs = other (store op align offset) vs
    op_keeps memory_size vs = other memory_size vs
    op_keeps memory_grow vs = other memory_grow vs
    op_keeps memory_copy vs = other memory_copy vs
    op_keeps memory_fill vs = other memory_fill vs
    op_keeps (num op) vs = other (num op) vs
    op_keeps _ vs = tt

  lands_keeps : (s : LinkedStore) (locals vs : List Value) (is : Items) (o : Option (List Value)) → HasGlobals p s → KeptEffect (lands s locals vs is o)
  lands_keeps s locals vs is None has = tt
  lands_keeps s locals vs is (Some us) has = has

  label_keeps : (s : LinkedStore) (locals : List Value) (n : ℕ) (again : _) (vs : List Value) (r : Reduct) → HasGlobals p s → KeptReduct r → KeptEffect (at_label s locals n again vs r)
  label_keeps s locals n again vs (values ws) has h = has
  label_keeps s locals n again vs (rewritten s' own is) has h = h
  label_keeps s locals n again vs (branching zero ws) has h = lands_keeps s locals vs _ (top n ws) has
  label_keeps s locals n again vs (branching (suc l) ws) has h = tt
  label_keeps s locals n again vs (returning ws) has h = tt
  label_keeps s locals n again vs (trapping k) has h = tt
  label_keeps s locals n again vs irreducible has h = tt

  frame_keeps : (s : LinkedStore) (locals : List Value) (n : ℕ) (f : Binding) (vs : List Value) (r : Reduct) → HasGlobals p s → KeptReduct r → KeptEffect (at_frame s locals n f vs r)
  frame_keeps s locals n f vs (values ws) has h = has
  frame_keeps s locals n f vs (rewritten s' own is) has h = h
  frame_keeps s locals n f vs (branching l ws) has h = tt
  frame_keeps s locals n f vs (returning ws) has h = lands_keeps s locals vs empty (top n ws) has
  frame_keeps s locals n f vs (trapping k) has h = tt
  frame_keeps s locals n f vs irreducible has h = tt

  go_keeps : (rest : Items) (e : Effect) → KeptEffect e → KeptReduct (go_on rest e)
  go_keeps rest (becomes s locals vs is) h = h
  go_keeps rest (branches l vs) h = tt
  go_keeps rest (returns vs) h = tt
  go_keeps rest (traps k) h = tt
  go_keeps rest no_rule h = tt

  pub items_keep : (is : Items) (here depth : ℕ) (s : LinkedStore) (locals vs : List Value) → HasGlobals p s → KeptReduct (items_step p is here depth s locals vs)
  items_keep empty here depth s locals vs has = tt
  items_keep (more (value v) is) here depth s locals vs has = items_keep is here depth s locals (v ∷ vs) has
  items_keep (more (instruction i) is) here depth s locals vs has = go_keeps is (op_step p here depth s locals i vs) (op_keeps here depth s locals has i vs)
  items_keep (more (invoke f) is) here depth s locals vs has =
      go_keeps is (enter p here depth s locals f vs (linked_callee p f)) (enter_keeps here depth s locals has f vs (linked_callee p f))
  items_keep (more (label n again body) is) here depth s locals vs has =
      go_keeps is (at_label s locals n again vs (items_step p body here depth s locals []))
      (label_keeps s locals n again vs (items_step p body here depth s locals []) has (items_keep body here depth s locals [] has))
  items_keep (more (frame n f own body) is) here depth s locals vs has =
      go_keeps is (at_frame s locals n f vs (items_step p body f.module (suc depth) s own []))
      (frame_keeps s locals n f vs (items_step p body f.module (suc depth) s own []) has (items_keep body f.module (suc depth) s own [] has))
