-- A step of linked modules is a step of the joined module.
use Rattle.std.proofs.Common.{◌≡◌, ℕ, zero, suc, List, [], ◌∷◌, ◌++◌, length, map, drop, reverse, Bool, true, false, ltb, cond, Option, Some, None, option_map, refl, sym, ap, ◌∙◌, ℤ, pos, negsuc, arith}
use Rattle.std.specs.Prelude.{slice_get, option_and_then, ◌&&◌}
use Rattle.std.specs.Int.{w32, cast_unsigned}
use Rattle.std.proofs.lemmas.List.{length-map}
use Rattle.std.proofs.lemmas.Option.{slice_get-map, slice_get_past}
use Rattle.mc_nbt.specs.declared.value.Value.{Value}
use Rattle.mc_nbt.specs.declared.value.Value.TheVariants.{I32}
use Rattle.wm_ast.specs.declared.answer.TrapKind.TheVariants.{TypeMismatch, StackExhausted}
use Rattle.wm_ast.specs.declared.limit.TheConstants.{MAX_FRAMES}
use Rattle.wm_ast.specs.declared.module.FuncType.{FuncType}
use Rattle.wm_ast.specs.declared.module.Func.{Func}
use Rattle.wm_ast.specs.declared.module.Module.{Module}
use Rattle.wm_ast.specs.declared.module.Space.TheVariants as spaces
use Rattle.wm_ast.specs.Code.{Op, unreachable, nop, block, loop, if_else, br, br_if, br_table, return, call, call_indirect, drop_one, select, local_get, local_set, local_tee, global_get, global_set, load, store, memory_size, memory_grow, memory_copy, memory_fill, const, num, float, mul64, Code, nil, cons}
use Rattle.wm_ast.specs.Configuration as one
use Rattle.wm_ast.specs.Simple.{Executed, done, repeats, fault, unfit, if_nonzero, simple}
use Rattle.wm_ast.specs.Step as one_step
use Rattle.wm_ast.specs.Step.{arity, top}
use Rattle.wm_ast.specs.Store.{Callee, callee_of}
use Rattle.wm_ast.specs.Types.{same_types, function_type}
use Rattle.wm_match.specs.declared.library.Binding.{Binding}
use Rattle.wm_match.specs.Program.{Program, modules, module_at}
use Rattle.wm_match.specs.Space.{own_count, stands_for}
use Rattle.wm_join.specs.Image.{HasGlobals, image_element, image_store, image_item, image_items, image_config, image_progress}
use Rattle.wm_join.specs.Joined.{joined, item_number, place_number, type_number, renumbering, joined_function, main_number}
use Rattle.wm_join.specs.LinkedConfiguration.{value, instruction, invoke, label, frame, Items, empty, more, Config as LinkedConfig, items_of, append}
use Rattle.wm_join.specs.LinkedStep.{progress, reduct, step, Effect, becomes, branches, returns, traps, no_rule, Reduct, values, rewritten, branching, returning, trapping, irreducible, checked_in, effect_of, called, enter_over, enter, enter_named, enter_target, op_step, lands, at_label, at_frame, go_on, items_step, Target, function, refused, unknown, of_type, checked, target_of, target}
use Rattle.wm_join.specs.LinkedStore.{with_memories, callee_of as linked_callee, type_at, Store as LinkedStore, own_store}
use Rattle.wm_join.specs.Renumbered.{renumbered_op, renumbered}
use Rattle.wm_join.proofs.CalleeLaws.{image_callee, type_found, function_found, function_type_found, callee_found}
use Rattle.wm_join.proofs.ImageLaws.{items_are, append_is, after_is}
use Rattle.wm_join.proofs.NumberingLaws.{made_length}
use Rattle.wm_join.proofs.SimpleLaws.{image_executed, simple_is}

module _ (p : Program) where
  abbrev pub image_effect : ℕ → Effect → one_step.Effect
  image_effect k (becomes s locals vs is) = one_step.becomes (image_store p s) locals vs (image_items p k is)
  image_effect k (branches l vs) = one_step.branches l vs
  image_effect k (returns vs) = one_step.returns vs
  image_effect k (traps t) = one_step.traps t
  image_effect k no_rule = one_step.no_rule

  abbrev pub image_reduct : ℕ → Reduct → one_step.Reduct
  image_reduct k (values vs) = one_step.values vs
  image_reduct k (rewritten s locals is) = one_step.rewritten (image_store p s) locals (image_items p k is)
  image_reduct k (branching l vs) = one_step.branching l vs
  image_reduct k (returning vs) = one_step.returning vs
  image_reduct k (trapping t) = one_step.trapping t
  image_reduct k irreducible = one_step.irreducible

  effect_through : (k : ℕ) (b : Bool) (x y : one_step.Effect) (u v : Effect) → x ≡ image_effect k u → y ≡ image_effect k v
      → cond b x y ≡ image_effect k (cond b u v)
  effect_through k true x y u v e f = e
  effect_through k false x y u v e f = f

  -- no function has the number of one that isn't there
  no_callee : callee_of (joined p) (place_number p spaces.Func None) ≡ None
  no_callee =
      let l = made_length (λ (j : ℕ) (m : Module). map (joined_function p j) m.funcs) (own_count spaces.Func) (λ j m. length-map m.funcs (joined_function p j)) 0 (modules p) in
      let n : slice_get (joined p).funcs (place_number p spaces.Func None) ≡ None = slice_get_past (joined p).funcs (place_number p spaces.Func None) (omega arith) in
      rw n refl

  -- What an element of the table leads to.

  abbrev image_target : Target → one_step.Target
  image_target (function f) = one_step.function (item_number p spaces.Func f)
  image_target (refused k) = one_step.refused k
  image_target unknown = one_step.unknown

  of_type_is : (t : FuncType) (f : Binding) (u : Option FuncType) → one_step.of_type t (item_number p spaces.Func f) u ≡ image_target (of_type t f u)
  of_type_is t f None = refl
  of_type_is t f (Some u) = by_types (same_types u.params t.params && same_types u.results t.results)
    where
      by_types : (b : Bool)
          → cond b (one_step.function (item_number p spaces.Func f)) (one_step.refused TypeMismatch) ≡ image_target (cond b (function f) (refused TypeMismatch))
      by_types true = refl
      by_types false = refl

  checked_is : (t : FuncType) (f : Binding) (m : Module) (g : Option Func) → module_at p f.module ≡ Some m
      → one_step.checked (joined p) t (item_number p spaces.Func f) (option_map (joined_function p f.module) g) ≡ image_target (checked m t f g)
  checked_is t f m None e = refl
  checked_is t f m (Some g) e =
      ap (one_step.of_type t (item_number p spaces.Func f)) (function_type_found p f.module m g e)
      ∙ of_type_is t f (function_type m g)

  in_module : (t : FuncType) (f : Binding) (o : Option Module) → module_at p f.module ≡ o
      → one_step.checked (joined p) t (item_number p spaces.Func f) (option_and_then (λ m. option_map (joined_function p f.module) (slice_get m.funcs f.index)) o)
      ≡ image_target (checked_in t f o)
  in_module t f None e = refl
  in_module t f (Some m) e = checked_is t f m (slice_get m.funcs f.index) e

  target_of_is : (t : Option FuncType) (found : Option (Option Binding))
      → one_step.target_of (joined p) t (option_map (image_element p) found) ≡ image_target (target_of p t found)
  target_of_is None found = refl
  target_of_is (Some t) None = refl
  target_of_is (Some t) (Some None) = refl
  target_of_is (Some t) (Some (Some f)) =
      ap (one_step.checked (joined p) t (item_number p spaces.Func f)) (function_found p f)
      ∙ in_module t f (module_at p f.module) refl

  target_is : (here : ℕ) (s : LinkedStore) (n : ℕ) (i : ℤ)
      → one_step.target (joined p) (image_store p s) (type_number p here n) i ≡ image_target (target p here s n i)
  target_is here s n i =
      ap (λ (t : Option FuncType). one_step.target_of (joined p) t (slice_get (map (image_element p) s.table) (cast_unsigned w32 i))) (type_found p here n)
      ∙ ap (one_step.target_of (joined p) (type_at p here n)) (slice_get-map (image_element p) s.table (cast_unsigned w32 i))
      ∙ target_of_is (type_at p here n) (slice_get s.table (cast_unsigned w32 i))

  module _ (here depth : ℕ) (s : LinkedStore) (locals : List Value) where
    effect_is : (i : Op) (e : Executed)
        → one_step.effect_of locals (renumbered_op (renumbering p here) i) (image_executed p here s e) ≡ image_effect here (effect_of p here depth s locals i e)
    effect_is i (done own locals' vs) = refl
    effect_is i (repeats own vs) = refl
    effect_is i (fault k) = refl
    effect_is i unfit = refl

    called_is : (f : Binding) (c : Callee) (us : List Value)
        → one_step.called (joined p) depth (image_store p s) locals (item_number p spaces.Func f) (image_callee p f.module c) us
        ≡ image_item p here (called p here depth s locals f c us)
    called_is f c us =
        ap (λ (is : one.Items). one.frame (arity c.gives) (item_number p spaces.Func f) (reverse us ++ c.zeros) (one.more (one.label (arity c.gives) nil is) one.empty))
        (sym (items_are p f.module c.body))

    enter_over_is : (f : Binding) (c : Callee) (vs : List Value) (o : Option (List Value))
        → one_step.enter_over (joined p) depth (image_store p s) locals (item_number p spaces.Func f) (image_callee p f.module c) vs o
        ≡ image_effect here (enter_over p here depth s locals f c vs o)
    enter_over_is f c vs None = refl
    enter_over_is f c vs (Some us) =
        ap (λ (i : one.Item). one_step.becomes (image_store p s) locals (drop (length c.takes) vs) (one.more i one.empty)) (called_is f c us)

    enter_is : (f : Binding) (vs : List Value) (o : Option Callee)
        → one_step.enter (joined p) depth (image_store p s) locals (item_number p spaces.Func f) vs (option_map (image_callee p f.module) o)
        ≡ image_effect here (enter p here depth s locals f vs o)
    enter_is f vs None = refl
    enter_is f vs (Some c) =
        effect_through here (ltb depth MAX_FRAMES) _ (one_step.traps StackExhausted)
        (enter_over p here depth s locals f c vs (top (length c.takes) vs)) (traps StackExhausted)
        (enter_over_is f c vs (top (length c.takes) vs)) refl

    invoke_is : (f : Binding) (vs : List Value)
        → one_step.enter (joined p) depth (image_store p s) locals (item_number p spaces.Func f) vs (callee_of (joined p) (item_number p spaces.Func f))
        ≡ image_effect here (enter p here depth s locals f vs (linked_callee p f))
    invoke_is f vs =
        ap (one_step.enter (joined p) depth (image_store p s) locals (item_number p spaces.Func f) vs) (callee_found p f)
        ∙ enter_is f vs (linked_callee p f)

    named_is : (vs : List Value) (o : Option Binding)
        → one_step.enter (joined p) depth (image_store p s) locals (place_number p spaces.Func o) vs (callee_of (joined p) (place_number p spaces.Func o))
        ≡ image_effect here (enter_named p here depth s locals vs o)
    named_is vs None = ap (one_step.enter (joined p) depth (image_store p s) locals (place_number p spaces.Func None) vs) no_callee
    named_is vs (Some f) = invoke_is f vs

    -- Calls through the table.

    enter_target_is : (vs : List Value) (t : Target)
        → one_step.enter_target (joined p) depth (image_store p s) locals vs (image_target t) ≡ image_effect here (enter_target p here depth s locals vs t)
    enter_target_is vs (function f) = refl
    enter_target_is vs (refused k) = refl
    enter_target_is vs unknown = refl

    indirect_is : (n : ℕ) (i : ℤ) (vs : List Value)
        → one_step.op_step (joined p) depth (image_store p s) locals (call_indirect (type_number p here n)) (I32 i ∷ vs)
        ≡ image_effect here (op_step p here depth s locals (call_indirect n) (I32 i ∷ vs))
    indirect_is n i vs =
        ap (one_step.enter_target (joined p) depth (image_store p s) locals vs) (target_is here s n i)
        ∙ enter_target_is vs (target p here s n i)

    -- Blocks.

    inside : (n : ℕ) (again body : Code) (vs : List Value)
        → one_step.becomes (image_store p s) locals vs (one.more (one.label n (renumbered (renumbering p here) again) (one.items_of (renumbered (renumbering p here) body))) one.empty)
        ≡ image_effect here (becomes s locals vs (more (label n again (items_of body)) empty))
    inside n again body vs =
        ap (λ (is : one.Items). one_step.becomes (image_store p s) locals vs (one.more (one.label n (renumbered (renumbering p here) again) is) one.empty))
        (sym (items_are p here body))

    arm_is : (c : ℤ) (ty : Option _) (first second : Code) (vs : List Value)
        → one_step.becomes (image_store p s) locals vs
        (one.more (one.label (arity ty) nil (one.items_of (if_nonzero c (renumbered (renumbering p here) first) (renumbered (renumbering p here) second)))) one.empty)
        ≡ image_effect here (becomes s locals vs (more (label (arity ty) nil (items_of (if_nonzero c first second))) empty))
    arm_is (pos zero) ty first second vs = inside (arity ty) nil second vs
    arm_is (pos (suc n)) ty first second vs = inside (arity ty) nil first vs
    arm_is (negsuc n) ty first second vs = inside (arity ty) nil first vs

    jump_is : (c : ℤ) (l : ℕ) (vs : List Value)
        → one_step.becomes (image_store p s) locals vs (if_nonzero c (one.more (one.instruction (br l)) one.empty) one.empty)
        ≡ image_effect here (becomes s locals vs (if_nonzero c (more (instruction (br l)) empty) empty))
    jump_is (pos zero) l vs = refl
    jump_is (pos (suc n)) l vs = refl
    jump_is (negsuc n) l vs = refl

    module _ (has : HasGlobals p s) where
      other : (i : Op) (vs : List Value)
          → one_step.effect_of locals (renumbered_op (renumbering p here) i) (simple (joined p) (image_store p s) locals (renumbered_op (renumbering p here) i) vs)
          ≡ image_effect here (effect_of p here depth s locals i (simple (with_memories p) (own_store here s) locals i vs))
      other i vs =
          ap (one_step.effect_of locals (renumbered_op (renumbering p here) i)) (simple_is p here s locals has i vs)
          ∙ effect_is i (simple (with_memories p) (own_store here s) locals i vs)

      pub op_step_is : (i : Op) (vs : List Value)
          → one_step.op_step (joined p) depth (image_store p s) locals (renumbered_op (renumbering p here) i) vs ≡ image_effect here (op_step p here depth s locals i vs)
      op_step_is (block ty body) vs = inside (arity ty) nil body vs
      op_step_is (loop ty body) vs = inside 0 (cons (loop ty body) nil) body vs
      op_step_is (if_else ty first second) (I32 c ∷ vs) = arm_is c ty first second vs
      op_step_is (br l) vs = refl
      op_step_is (br_if l) (I32 c ∷ vs) = jump_is c l vs
      op_step_is (br_table ls l) (I32 i ∷ vs) = refl
      op_step_is return vs = refl
      op_step_is (call f) vs = named_is vs (stands_for p spaces.Func here f)
      op_step_is (call_indirect n) (I32 i ∷ vs) = indirect_is n i vs
      op_step_is unreachable vs = other unreachable vs
      op_step_is nop vs = other nop vs
      op_step_is drop_one vs = other drop_one vs
      op_step_is select vs = other select vs
      op_step_is (local_get x) vs = other (local_get x) vs
      op_step_is (local_set x) vs = other (local_set x) vs
      op_step_is (local_tee x) vs = other (local_tee x) vs
      op_step_is (global_get x) vs = other (global_get x) vs
      op_step_is (global_set x) vs = other (global_set x) vs
      op_step_is (load op align offset) vs = other (load op align offset) vs
      op_step_is (store op align offset) vs = other (store op align offset) vs
      op_step_is memory_size vs = other memory_size vs
      op_step_is memory_grow vs = other memory_grow vs
      op_step_is memory_copy vs = other memory_copy vs
      op_step_is memory_fill vs = other memory_fill vs
      op_step_is (const v) vs = other (const v) vs
      op_step_is (num op) vs = other (num op) vs
      op_step_is (float opcode) vs = other (float opcode) vs
      op_step_is mul64 vs = other mul64 vs
      op_step_is (if_else ty first second) vs = refl
      op_step_is (br_if l) vs = refl
      op_step_is (br_table ls l) vs = refl
      op_step_is (call_indirect n) vs = refl

  -- Labels and frames.

  lands_is : (here : ℕ) (s : LinkedStore) (locals vs : List Value) (is : Items) (o : Option (List Value))
      → one_step.lands (image_store p s) locals vs (image_items p here is) o ≡ image_effect here (lands s locals vs is o)
  lands_is here s locals vs is None = refl
  lands_is here s locals vs is (Some us) = ap (one_step.becomes (image_store p s) locals vs) (sym (after_is p here us is))

  label_is : (here : ℕ) (s : LinkedStore) (locals : List Value) (n : ℕ) (again : Code) (vs : List Value) (r : Reduct)
      → one_step.at_label (image_store p s) locals n (renumbered (renumbering p here) again) vs (image_reduct here r) ≡ image_effect here (at_label s locals n again vs r)
  label_is here s locals n again vs (values ws) = ap (one_step.becomes (image_store p s) locals vs) (sym (after_is p here ws empty))
  label_is here s locals n again vs (rewritten s' own is) = refl
  label_is here s locals n again vs (branching zero ws) =
      ap (λ (is : one.Items). one_step.lands (image_store p s) locals vs is (top n ws)) (sym (items_are p here again))
      ∙ lands_is here s locals vs (items_of again) (top n ws)
  label_is here s locals n again vs (branching (suc l) ws) = refl
  label_is here s locals n again vs (returning ws) = refl
  label_is here s locals n again vs (trapping k) = refl
  label_is here s locals n again vs irreducible = refl

  frame_is : (here : ℕ) (s : LinkedStore) (locals : List Value) (n : ℕ) (f : Binding) (vs : List Value) (r : Reduct)
      → one_step.at_frame (image_store p s) locals n (item_number p spaces.Func f) vs (image_reduct f.module r) ≡ image_effect here (at_frame s locals n f vs r)
  frame_is here s locals n f vs (values ws) = ap (one_step.becomes (image_store p s) locals vs) (sym (after_is p here ws empty))
  frame_is here s locals n f vs (rewritten s' own is) = refl
  frame_is here s locals n f vs (branching l ws) = refl
  frame_is here s locals n f vs (returning ws) = lands_is here s locals vs empty (top n ws)
  frame_is here s locals n f vs (trapping k) = refl
  frame_is here s locals n f vs irreducible = refl

  go_on_is : (here : ℕ) (rest : Items) (e : Effect) → one_step.go_on (image_items p here rest) (image_effect here e) ≡ image_reduct here (go_on rest e)
  go_on_is here rest (becomes s locals vs is) =
      ap (λ (js : one.Items). one_step.rewritten (image_store p s) locals (one.after_values vs js)) (sym (append_is p here is rest))
      ∙ ap (one_step.rewritten (image_store p s) locals) (sym (after_is p here vs (append is rest)))
  go_on_is here rest (branches l vs) = refl
  go_on_is here rest (returns vs) = refl
  go_on_is here rest (traps k) = refl
  go_on_is here rest no_rule = refl

  pub items_step_is : (is : Items) (here depth : ℕ) (s : LinkedStore) (locals vs : List Value) → HasGlobals p s
      → one_step.items_step (joined p) (image_items p here is) depth (image_store p s) locals vs ≡ image_reduct here (items_step p is here depth s locals vs)
  items_step_is empty here depth s locals vs has = refl
  items_step_is (more (value v) is) here depth s locals vs has = items_step_is is here depth s locals (v ∷ vs) has
  items_step_is (more (instruction i) is) here depth s locals vs has =
      ap (one_step.go_on (image_items p here is)) (op_step_is here depth s locals has i vs)
      ∙ go_on_is here is (op_step p here depth s locals i vs)
  items_step_is (more (invoke f) is) here depth s locals vs has =
      ap (one_step.go_on (image_items p here is)) (invoke_is here depth s locals f vs)
      ∙ go_on_is here is (enter p here depth s locals f vs (linked_callee p f))
  items_step_is (more (label n again body) is) here depth s locals vs has =
      ap (λ (r : one_step.Reduct). one_step.go_on (image_items p here is) (one_step.at_label (image_store p s) locals n (renumbered (renumbering p here) again) vs r))
      (items_step_is body here depth s locals [] has)
      ∙ ap (one_step.go_on (image_items p here is)) (label_is here s locals n again vs (items_step p body here depth s locals []))
      ∙ go_on_is here is (at_label s locals n again vs (items_step p body here depth s locals []))
  items_step_is (more (frame n f own body) is) here depth s locals vs has =
      ap (λ (r : one_step.Reduct). one_step.go_on (image_items p here is) (one_step.at_frame (image_store p s) locals n (item_number p spaces.Func f) vs r))
      (items_step_is body f.module (suc depth) s own [] has)
      ∙ ap (one_step.go_on (image_items p here is)) (frame_is here s locals n f vs (items_step p body f.module (suc depth) s own []))
      ∙ go_on_is here is (at_frame s locals n f vs (items_step p body f.module (suc depth) s own []))

  -- The whole term.

  progress_is : (s : LinkedStore) (r : Reduct) → one_step.progress (image_store p s) (image_reduct (main_number p) r) ≡ image_progress p (progress s r)
  progress_is s (values vs) = refl
  progress_is s (rewritten s' locals is) = refl
  progress_is s (branching l vs) = refl
  progress_is s (returning vs) = refl
  progress_is s (trapping k) = refl
  progress_is s irreducible = refl

  pub reduct_is : (c : LinkedConfig) → HasGlobals p c.store → one_step.reduct (joined p) (image_config p c) ≡ image_reduct (main_number p) (reduct p c)
  reduct_is c has = items_step_is c.term (main_number p) 0 c.store [] [] has

  pub step_is : (c : LinkedConfig) → HasGlobals p c.store → one_step.step (joined p) (image_config p c) ≡ image_progress p (step p c)
  step_is c has = ap (one_step.progress (image_store p c.store)) (reduct_is c has) ∙ progress_is c.store (reduct p c)
