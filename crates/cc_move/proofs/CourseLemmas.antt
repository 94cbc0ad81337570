-- Where a move leads: on within the call, into another call, or out of it with its results.
use Rattle.std.proofs.Common.{◌≡◌, ◌≤◌, ℕ, zero, suc, ◌+◌, ◌==◌, List, [], ◌∷◌, ◌++◌, length, take, drop, reverse, Bool, true, false, cond, ltb, leb, Option, Some, None, refl, sym, ap, ◌∙◌, subst, arith, ℤ, pos, negsuc}
use Rattle.std.specs.Prelude.{slice_set, option_and_then}
use Rattle.std.specs.Int.{w32, cast_unsigned}
use Rattle.std.proofs.lemmas.List.{append_cancel_right, length-reverse}
use Rattle.mc_nbt.specs.declared.value.Value.{Value}
use Rattle.mc_nbt.specs.declared.value.Value.TheVariants.{I32}
use Rattle.wm_ast.specs.declared.answer.Answer.{Answer}
use Rattle.wm_ast.specs.declared.answer.Answer.TheVariants as answers
use Rattle.wm_ast.specs.declared.answer.TrapKind.TheVariants.{StackExhausted, OutOfBounds}
use Rattle.wm_ast.specs.declared.item.Item.TheVariants.{Types}
use Rattle.wm_ast.specs.declared.limit.TheConstants.{MAX_FRAMES}
use Rattle.wm_ast.specs.declared.module.ValType.{ValType}
use Rattle.wm_ast.specs.declared.module.Func.{Func}
use Rattle.wm_ast.specs.declared.module.FuncType.{FuncType}
use Rattle.wm_ast.specs.declared.module.Module.{Module}
use Rattle.wm_ast.specs.declared.operation.LoadOp.{LoadOp}
use Rattle.wm_ast.specs.Apply.{apply}
use Rattle.wm_ast.specs.Code.{Op, unreachable, nop, block, loop, if_else, br, br_if, br_table, return, call, call_indirect, drop_one, select, local_get, local_set, local_tee, global_get, global_set, load, store, memory_size, memory_grow, memory_copy, memory_fill, const, num, Code, nil, cons}
use Rattle.wm_ast.specs.Operation.{num_type, load_width}
use Rattle.wm_ast.specs.Simple.{Executed, done, repeats, fault, unfit, if_nonzero, address, with_memory, answered, got, set_local, set_global, reads, writes, grows, fills, copies_first, copies_last, copies, inside, simple}
use Rattle.wm_ast.specs.Step.{top, chosen, Target, function, refused, unknown, target}
use Rattle.wm_ast.specs.Storage.{stored}
use Rattle.wm_ast.specs.Store.{Store, Callee, callee_of, items_at, overwritten, page_count, most_pages}
use Rattle.wm_ast.specs.Types.{function_type}
use Rattle.wm_flat.specs.Flat.{Level, Activation, Flat, starting, running, finished, Moved, goes, fails, over, none, count_of, past, opened, handed, handed_some, opens, calls, starts, carried, jump, leave, does, calls_target, op_move, code_move, move}
use Rattle.wm_flat.specs.FlatTyping.{Are, IsFunction, TypedState, IsMoved}
use Rattle.wm_flat.specs.Program.{IsProgram}
use Rattle.wm_flat.specs.Runs.{State, Makes}
use Rattle.wm_flat.proofs.Keeps.{keeps}
use Rattle.wm_flat.proofs.ValueLaws.{are_as, length_are}
use Rattle.cc_move.specs.Standing.{at}
use Rattle.cc_move.specs.Calls.{gives_by, gives_of, Results, ResultsHaveTypes, FunctionsStay, TableStays}

-- ---- an instruction without a body keeps the table

abbrev KeepsTable : Store → Executed → Type 0
KeepsTable s (done s' locals vs) = s'.table ≡ s.table
KeepsTable s (repeats s' vs) = s'.table ≡ s.table
KeepsTable s (fault k) = Unit {0}
KeepsTable s unfit = Unit {0}

either_keeps : (s : Store) (b : Bool) (x y : Executed) → KeepsTable s x → KeepsTable s y → KeepsTable s (cond b x y)
either_keeps s true x y p q = p
either_keeps s false x y p q = q

module _ (m : Module) (s : Store) (locals : List Value) where
  answered_keeps : (vs : List Value) (o : Option Answer) → KeepsTable s (answered m s locals vs o)
  answered_keeps vs None = tt
  answered_keeps vs (Some (answers.Value v)) = refl
  answered_keeps vs (Some (answers.Trap k)) = tt

  got_keeps : (vs : List Value) (o : Option Value) → KeepsTable s (got m s locals vs o)
  got_keeps vs None = tt
  got_keeps vs (Some v) = refl

  local_keeps : (x : ℕ) (v : Value) (vs : List Value) → KeepsTable s (set_local m s locals x v vs)
  local_keeps x v vs = either_keeps s (ltb x (length locals)) (done s (slice_set locals x v) vs) unfit refl tt

  global_keeps : (x : ℕ) (v : Value) (vs : List Value) → KeepsTable s (set_global m s locals x v vs)
  global_keeps x v vs = either_keeps s (ltb x (length s.globals)) (done (record s { globals = slice_set s.globals x v }) locals vs) unfit refl tt

  reads_keep : (op : LoadOp) (vs : List Value) (o : Option (List ℕ)) → KeepsTable s (reads m s locals op vs o)
  reads_keep op vs None = tt
  reads_keep op vs (Some bytes) = refl

  writes_keep : (place : ℕ) (vs : List Value) (o : Option (List ℕ)) → KeepsTable s (writes m s locals place vs o)
  writes_keep place vs None = tt
  writes_keep place vs (Some bytes) = either_keeps s (ltb (length s.memory) (place + length bytes)) (fault OutOfBounds) (with_memory m s locals (overwritten s.memory place bytes) vs) tt refl

  grows_keep : (count : ℕ) (vs : List Value) → KeepsTable s (grows m s locals count vs)
  grows_keep count vs = either_keeps s (ltb (most_pages m) (page_count s.memory + count)) (done s locals (I32 (negsuc 0) ∷ vs)) _ refl refl

  fills_keep : (to byte : ℤ) (count : ℕ) (vs : List Value) → KeepsTable s (fills m s locals to byte count vs)
  fills_keep to byte zero vs = refl
  fills_keep to byte (suc count) vs = refl

  copies_keep : (to from : ℤ) (count : ℕ) (vs : List Value) → KeepsTable s (copies m s locals to from count vs)
  copies_keep to from zero vs = refl
  copies_keep to from (suc others) vs =
      either_keeps s (leb (cast_unsigned w32 to) (cast_unsigned w32 from)) (copies_first m s locals to from others vs) (copies_last m s locals to from others vs) refl refl

  inside_keeps : (place : ℤ) (count : ℕ) (e : Executed) → KeepsTable s e → KeepsTable s (inside m s locals place count e)
  inside_keeps place count e k = either_keeps s (ltb (length s.memory) (cast_unsigned w32 place + count)) (fault OutOfBounds) e tt k

  simple_keeps : (i : Op) (vs : List Value) → KeepsTable s (simple m s locals i vs)
  simple_keeps (num op) vs = answered_keeps (drop (length (num_type op).takes) vs) (apply op (reverse (take (length (num_type op).takes) vs)))
  simple_keeps drop_one (v ∷ vs) = refl
  simple_keeps select (I32 c ∷ b ∷ a ∷ vs) = refl
  simple_keeps (local_get x) vs = got_keeps vs _
  simple_keeps (local_set x) (v ∷ vs) = local_keeps x v vs
  simple_keeps (local_tee x) (v ∷ vs) = local_keeps x v (v ∷ vs)
  simple_keeps (global_get x) vs = got_keeps vs _
  simple_keeps (global_set x) (v ∷ vs) = global_keeps x v vs
  simple_keeps (load op align offset) (I32 i ∷ vs) = reads_keep op vs (items_at s.memory (address i offset) (load_width op))
  simple_keeps (store op align offset) (v ∷ I32 i ∷ vs) = writes_keep (address i offset) vs (stored op v)
  simple_keeps memory_size vs = refl
  simple_keeps memory_grow (I32 k ∷ vs) = grows_keep (cast_unsigned w32 k) vs
  simple_keeps memory_fill (I32 n ∷ I32 byte ∷ I32 to ∷ vs) =
      inside_keeps to (cast_unsigned w32 n) (fills m s locals to byte (cast_unsigned w32 n) vs) (fills_keep to byte (cast_unsigned w32 n) vs)
  simple_keeps memory_copy (I32 n ∷ I32 from ∷ I32 to ∷ vs) =
      inside_keeps to (cast_unsigned w32 n) (inside m s locals from (cast_unsigned w32 n) (copies m s locals to from (cast_unsigned w32 n) vs))
      (inside_keeps from (cast_unsigned w32 n) (copies m s locals to from (cast_unsigned w32 n) vs) (copies_keep to from (cast_unsigned w32 n) vs))
  simple_keeps nop vs = refl
  simple_keeps unreachable vs = tt
  simple_keeps _ _ = tt

-- ---- a move that goes on

-- these are the callers and an activation of the same call, or there is one caller more
data Within (cs : List Activation) (a : Activation) (ds : List Activation) (b : Activation) : Type 0 where
  same : ds ≡ cs → b.func ≡ a.func → b.results ≡ a.results → Within cs a ds b
  deeper : (c : Activation) → ds ≡ c ∷ cs → Within cs a ds b

-- the table is as it was, and no activation has gone
abbrev GoesOn : Store → List Activation → Activation → Moved → Type 0
GoesOn s cs a (goes n s' (starting f vs)) = ⊥
GoesOn s cs a (goes n s' (running ds b)) = (s'.table ≡ s.table) × Within cs a ds b
GoesOn s cs a (goes n s' (finished vs)) = ⊥
GoesOn s cs a (fails n k) = Unit {0}
GoesOn s cs a (over vs) = Unit {0}
GoesOn s cs a none = Unit {0}

module _ (m : Module) (s : Store) (cs : List Activation) (a : Activation) where
  abbrev On : Moved → Type 0
  On x = GoesOn s cs a x

  either_on : (b : Bool) (x y : Moved) → On x → On y → On (cond b x y)
  either_on true x y p q = p
  either_on false x y p q = q

  nonzero_on : (n : ℤ) (x y : Moved) → On x → On y → On (if_nonzero n x y)
  nonzero_on (pos zero) x y p q = q
  nonzero_on (pos (suc n)) x y p q = p
  nonzero_on (negsuc n) x y p q = p

  carried_on : (n : ℕ) (lv : Level) (lvs : List Level) (o : Option (List Value)) → On (carried m s cs a n lv lvs o)
  carried_on n lv lvs None = tt
  carried_on n lv lvs (Some us) = (refl, same refl refl refl)

  jump_on : (n l : ℕ) (vs : List Value) (lvs : List Level) → On (jump m s cs a n l vs lvs)
  jump_on n l vs [] = tt
  jump_on n zero vs (lv ∷ lvs) = carried_on n lv lvs (top (count_of lv.block.op) vs)
  jump_on n (suc l) vs (lv ∷ lvs) = jump_on n l vs lvs

  does_on : (i : Op) (is : Code) (e : Executed) → KeepsTable s e → On (does m s cs a i is e)
  does_on i is (done s' own vs) k = (k, same refl refl refl)
  does_on i is (repeats s' vs) k = (k, same refl refl refl)
  does_on i is (fault c) k = tt
  does_on i is unfit k = tt

  opens_on : (n : ℕ) (b : Activation) (f : ℕ) (c : Callee) (o : Option (List Value)) → On (opens n s (b ∷ cs) f c o)
  opens_on n b f c None = tt
  opens_on n b f c (Some us) = (refl, deeper b refl)

  calls_on : (n : ℕ) (b : Activation) (f : ℕ) (vs : List Value) (o : Option Callee) → On (calls n s cs b f vs o)
  calls_on n b f vs None = tt
  calls_on n b f vs (Some c) =
      let caller : Activation = record b { values = drop (length c.takes) vs } in
      either_on (ltb (suc (length cs)) MAX_FRAMES) (opens n s (caller ∷ cs) f c (top (length c.takes) vs)) (fails n StackExhausted) (opens_on n caller f c (top (length c.takes) vs)) tt

  target_on : (i : Op) (is : Code) (vs : List Value) (t : Target) → On (calls_target m s cs a i is vs t)
  target_on i is vs (function f) = calls_on 1 (past a i is a.locals vs) f vs (callee_of m f)
  target_on i is vs (refused k) = tt
  target_on i is vs unknown = tt

  -- a `return` alone doesn't
  abbrev OpOn : Op → Moved → Type 0
  OpOn return x = Unit {0}
  OpOn _ x = On x

  op_on : (i : Op) (vs : List Value) (is : Code) → OpOn i (op_move m s cs a i vs is)
  op_on (const v) vs is = (refl, same refl refl refl)
  op_on (block ty body) vs is = (refl, same refl refl refl)
  op_on (loop ty body) vs is = (refl, same refl refl refl)
  op_on (if_else ty x y) (I32 c ∷ vs) is = (refl, same refl refl refl)
  op_on (br l) vs is = jump_on 1 l vs a.levels
  op_on (br_if l) (I32 c ∷ vs) is =
      nonzero_on c (jump m s cs a 2 l vs a.levels) (goes 1 s (running cs (past a (br_if l) is a.locals vs))) (jump_on 2 l vs a.levels) (refl, same refl refl refl)
  op_on (br_table ls l) (I32 i ∷ vs) is = jump_on 2 (chosen ls l i) vs a.levels
  op_on return vs is = tt
  op_on (call f) vs is = calls_on 0 (past a (call f) is a.locals vs) f vs (callee_of m f)
  op_on (call_indirect n) (I32 i ∷ vs) is = target_on (call_indirect n) is vs (target m s n i)
  op_on i vs is = does_on i is (simple m s a.locals i vs) (simple_keeps m s a.locals i vs)

-- ---- each move

-- over whatever callers, it goes on, or the call ends with these results
data Course (s : Store) (a : Activation) (x : List Activation → Moved) : Type 0 where
  goes_on : ((cs : List Activation) → GoesOn s cs a (x cs)) → Course s a x
  hands : (us : List Value) → ((cs : List Activation) → x cs ≡ handed s cs us) → Course s a x

module _ (m : Module) (s : Store) (a : Activation) where
  leave_course : (lvs : List Level) → Course s a (λ cs. leave m s cs a lvs)
  leave_course [] = hands a.values (λ cs. refl)
  leave_course (lv ∷ lvs) = goes_on (λ cs. (refl, same refl refl refl))

  return_course : (o : Option (List Value)) → Course s a (λ cs. handed_some s cs o)
  return_course None = goes_on (λ cs. tt)
  return_course (Some us) = hands us (λ cs. refl)

  course : (is : Code) → Course s a (λ cs. code_move m s cs a is)
  course nil = leave_course a.levels
  course (cons return is) = return_course (top a.results a.values)
  course (cons i is) = goes_on (λ cs. op_on m s cs a i a.values is)

-- ---- the end of a call

not_longer : (cs : List Activation) (c : Activation) → cs ≡ c ∷ cs → ⊥
not_longer cs c e =
    let size : length cs ≡ suc (length cs) = ap (λ (l : List Activation). length l) e in
    absurd (omega arith)

not_much_longer : (cs : List Activation) (c d : Activation) → cs ≡ d ∷ c ∷ cs → ⊥
not_much_longer cs c d e =
    let size : length cs ≡ suc (suc (length cs)) = ap (λ (l : List Activation). length l) e in
    absurd (omega arith)

handed_is_no_way_on : (s : Store) (cs : List Activation) (a : Activation) (us : List Value) → GoesOn s cs a (handed s cs us) → ⊥
handed_is_no_way_on s [] a us h = h
handed_is_no_way_on s (c ∷ cs) a us h = by_way h.1
  where
    by_way : Within (c ∷ cs) a cs (record c { values = us ++ c.values }) → ⊥
    by_way (same e f g) = not_longer cs c e
    by_way (deeper d e) = not_much_longer cs c d e

-- the operands after a move
abbrev values_of : Moved → List Value
values_of (goes n s (running cs a)) = a.values
values_of (goes n s (finished vs)) = vs
values_of _ = []

same_results : (s : Store) (cs : List Activation) (us vs : List Value) → handed s cs us ≡ handed s cs vs → us ≡ vs
same_results s [] us vs e = ap values_of e
same_results s (c ∷ cs) us vs e = append_cancel_right us vs c.values (ap values_of e)

-- what a call of a function gives
pub gives_is : (m : Module) (n : ℕ) (f : Func) (t : FuncType) → IsFunction m n f t → gives_of m n ≡ reverse t.results
gives_is m n f t i = ap (λ (o : Option Func). gives_by (option_and_then (function_type m) o)) i.there ∙ ap gives_by i.has_type

module _ (m : Module) (p : IsProgram m) (results : List ValType) (st : Store) (cs : List Activation) (b : Activation) (us : List Value) (t : TypedState m results (at st cs b)) (e : move m st (running cs b) ≡ handed st cs us) where
  -- with no caller it ends with the same results, which have their types there
  alone : Course st b (λ ds. code_move m st ds b b.code) → move m st (running [] b) ≡ handed st [] us
  alone (goes_on g) = absurd (handed_is_no_way_on st cs b us (subst (GoesOn st cs b) e (g cs)))
  alone (hands ws k) = k [] ∙ ap (handed st []) (same_results st cs ws us (sym (k cs) ∙ e))

  results_are : Are (reverse t.flat.1.results) us
  results_are =
      let out : List ValType = reverse t.flat.1.results in
      let w : IsMoved m out (handed st [] us) = subst (IsMoved m out) (alone (course m st b b.code)) (keeps m out st (running [] b) p t.store (t.flat.0, t.flat.1, t.flat.2, refl)) in
      w.flat

  results_of_call : Results m b.func us
  results_of_call =
      let i : IsFunction m b.func t.flat.0 t.flat.1 = t.flat.2.is_function in
      let one : length t.flat.1.results ≤ 1 = p.valid.items Types t.flat.0.kind t.flat.1 i.has_type in
      record {
        are = are_as (reverse t.flat.1.results) (gives_of m b.func) us (sym (gives_is m b.func t.flat.0 t.flat.1 i)) results_are;
        few = omega (arith, length_are (reverse t.flat.1.results) us results_are, length-reverse t.flat.1.results, one);
      }

pub results_have_types : ResultsHaveTypes
results_have_types m p results st cs b us t e = results_of_call m p results st cs b us t e

-- ---- within a call

-- the callers after a move
abbrev callers_of : Moved → List Activation
callers_of (goes n s (running cs a)) = cs
callers_of _ = []

module _ (m : Module) (s : Store) (cs : List Activation) (a : Activation) (n : ℕ) (after : Store) (b : Activation) (e : move m s (running cs a) ≡ goes n after (running cs b)) where
  by_within : Within cs a cs b → (b.func ≡ a.func) × (b.results ≡ a.results)
  by_within (same k f g) = (f, g)
  by_within (deeper c k) = absurd (not_longer cs c k)

  not_handed : (ds : List Activation) (us : List Value) → handed s ds us ≡ goes n after (running ds b) → ⊥
  not_handed [] us k = absurd cc
  not_handed (c ∷ ds) us k = not_longer ds c (ap callers_of k)

  by_course : Course s a (λ ds. code_move m s ds a a.code) → (b.func ≡ a.func) × (b.results ≡ a.results)
  by_course (goes_on g) = let h : GoesOn s cs a (goes n after (running cs b)) = subst (GoesOn s cs a) e (g cs) in by_within h.1
  by_course (hands us k) = absurd (not_handed cs us (sym (k cs) ∙ e))

pub functions_stay : FunctionsStay
functions_stay m s cs a n after b e = by_course m s cs a n after b e (course m s a a.code)

-- ---- the table

abbrev KeptTable : Store → Moved → Type 0
KeptTable s (goes n s' d) = s'.table ≡ s.table
KeptTable s (fails n k) = Unit {0}
KeptTable s (over vs) = Unit {0}
KeptTable s none = Unit {0}

on_kept : (s : Store) (cs : List Activation) (a : Activation) (x : Moved) → GoesOn s cs a x → KeptTable s x
on_kept s cs a (goes n s' (starting f vs)) h = absurd h
on_kept s cs a (goes n s' (running ds b)) h = h.0
on_kept s cs a (goes n s' (finished vs)) h = absurd h
on_kept s cs a (fails n k) h = tt
on_kept s cs a (over vs) h = tt
on_kept s cs a none h = tt

handed_kept : (s : Store) (cs : List Activation) (us : List Value) → KeptTable s (handed s cs us)
handed_kept s [] us = refl
handed_kept s (c ∷ cs) us = refl

either_kept : (s : Store) (b : Bool) (x y : Moved) → KeptTable s x → KeptTable s y → KeptTable s (cond b x y)
either_kept s true x y p q = p
either_kept s false x y p q = q

move_kept : (m : Module) (s : Store) (c : Flat) → KeptTable s (move m s c)
move_kept m s (starting f vs) = by_callee (callee_of m f)
  where
    by_callee : (o : Option Callee) → KeptTable s (starts s f vs o)
    by_callee None = tt
    by_callee (Some c) = either_kept s (length vs == length c.takes) (goes 1 s (running [] (opened f c vs))) none refl tt
move_kept m s (running cs a) = along (course m s a a.code)
  where
    along : Course s a (λ ds. code_move m s ds a a.code) → KeptTable s (code_move m s cs a a.code)
    along (goes_on g) = on_kept s cs a (code_move m s cs a a.code) (g cs)
    along (hands us k) = subst (KeptTable s) (sym (k cs)) (handed_kept s cs us)
move_kept m s (finished vs) = tt

kept_by : (m : Module) (s : Store) (c : Flat) (n : ℕ) (after : Store) (d : Flat) → move m s c ≡ goes n after d → after.table ≡ s.table
kept_by m s c n after d e = let k : KeptTable s (goes n after d) = subst (KeptTable s) e (move_kept m s c) in k

makes_kept : (m : Module) (k n : ℕ) (c d : State) → Makes m k n c d → d.store.table ≡ c.store.table
makes_kept m zero n c d h = ap (λ (x : State). x.store.table) (sym h.1)
makes_kept m (suc k) n c d h = makes_kept m k h.1 h.2 d h.5 ∙ kept_by m c.store c.flat h.0 h.2.store h.2.flat h.3

pub table_stays : TableStays
table_stays = (kept_by, λ m n c d l. makes_kept m l.moves n c d l.made)
