-- One step, from those of instructions.
use Rattle.std.proofs.Common.{◌≡◌, ℕ, ◌-◌, ◌<◌, ◌≤◌, List, [], ◌∷◌, length, take, drop, get_or, true, false, Option, Some, None, refl, sym, ap, subst, ◌∙◌, arith, Ok, Err, eq-eqb}
use Rattle.std.specs.Prelude.{Result, IfOk, ◌==◌}
use Rattle.std.proofs.lemmas.List.{drop_more, take_rest, nil_from_length, take_all}
use Rattle.mc_nbt.specs.declared.value.Value.{Value}
use Rattle.wm_ast.specs.declared.answer.Answer.{Answer}
use Rattle.wm_ast.specs.declared.instruction.Instr.{Instr}
use Rattle.wm_ast.specs.declared.module.Module.{Module}
use Rattle.wm_ast.specs.declared.operation.NumOp.{NumOp}
use Rattle.wm_ast.specs.declared.operator.Operator.{Operator}
use Rattle.wm_ast.specs.declared.operator.Operator.TheVariants.{Test, Unary, Binary, Comparison, Wrap, ExtendS, ExtendU}
use Rattle.wm_ast.specs.Apply.{apply}
use Rattle.wm_ast.specs.Code.{Op, Code, nil}
use Rattle.wm_ast.specs.Configuration.{Config, items_of, after_values}
use Rattle.wm_ast.specs.Operation.{operator_type, num_type}
use Rattle.wm_ast.specs.Operator.{operator_of}
use Rattle.wm_ast.specs.Simple.{simple, operated, answered}
use Rattle.wm_ast.specs.Step.{Next, step}
use Rattle.wm_ast.specs.Store.{Store, Callee, callee_of}
use Rattle.wm_ast.specs.View.{op_of, code_of}
use Rattle.wm_flat.specs.Flat.{Activation, starting, running, config_of}
use Rattle.wm_flat.proofs.Agree.{no_move}
use Rattle.wm_reduce.specs.declared.calls.Activation.{Activation as Call}
use Rattle.wm_reduce.specs.declared.calls.Calls.{Calls}
use Rattle.wm_reduce.specs.declared.calls.Outcome.{Outcome}
use Rattle.wm_reduce.specs.declared.calls.Outcome.TheVariants as outcomes
use Rattle.wm_reduce.specs.declared.calls.Pending.{Pending}
use Rattle.wm_reduce.specs.declared.function.Function.{Function}
use Rattle.wm_reduce.specs.declared.simple.Executed.{Executed}
use Rattle.wm_reduce.specs.Soundness.{CanBegin}
use Rattle.wm_reduce.specs.steps.Executing.{Executes, is_double}
use Rattle.wm_reduce.specs.TermView.{seen, seen_calls, pending_code}
use Rattle.wm_reduce.specs.steps.Seen.{IsFunction, StepsTo, Comes, Shows, begun}
use Rattle.wm_reduce.proofs.Moves.{same_term, begins_step}

-- of a value that is there
pub ok : {T E : Type 0} (r : Result T E) (P Q : T → Type 0) → ((x : T) → P x → Q x) → IfOk r P → IfOk r Q
ok (Ok x) P Q f h = f x h
ok (Err e) P Q f h = tt

-- by the instruction's plain data
pub by_op : (m : Module) (S : Store) (L vs : List Value) (x : Executed) (S' : Store) (L' vs' : List Value) (i j : Instr) (o : Op) → i ≡ j → op_of j ≡ o
    → Executes S L x S' L' vs' (simple m S L o vs) → Executes S L x S' L' vs' (simple m S L (op_of i) vs)
by_op m S L vs x S' L' vs' i j o e k h = subst (λ (p : Op). Executes S L x S' L' vs' (simple m S L p vs)) (sym (ap op_of e ∙ k)) h

takes_one : (o : Operator) → is_double o ≡ false → length (operator_type o).takes ≡ 1
takes_one (Test k) e = refl
takes_one (Unary k op) e = refl
takes_one (Binary k op) e = absurd cc
takes_one (Comparison k op) e = absurd cc
takes_one Wrap e = refl
takes_one ExtendS e = refl
takes_one ExtendU e = refl

takes_two : (o : Operator) → is_double o ≡ true → length (operator_type o).takes ≡ 2
takes_two (Test k) e = absurd cc
takes_two (Unary k op) e = absurd cc
takes_two (Binary k op) e = refl
takes_two (Comparison k op) e = refl
takes_two Wrap e = absurd cc
takes_two ExtendS e = absurd cc
takes_two ExtendU e = absurd cc

module _ (m : Module) (s : Store) (own : List Value) (op : NumOp) where
  pub operated_one : (last : Value) (rest vs : List Value) (a : Answer) → is_double (operator_of op) ≡ false → vs ≡ last ∷ rest
      → apply op (last ∷ []) ≡ Some a → operated m s own op (length (num_type op).takes) vs ≡ answered m s own rest (Some a)
  operated_one last rest vs a d e k =
      ap (λ (n : ℕ). operated m s own op n vs) (takes_one (operator_of op) d) ∙ ap (operated m s own op 1) e ∙ ap (answered m s own rest) k

  pub operated_two : (first last : Value) (upper rest vs : List Value) (a : Answer) → is_double (operator_of op) ≡ true
      → vs ≡ last ∷ upper → upper ≡ first ∷ rest
      → apply op (first ∷ last ∷ []) ≡ Some a → operated m s own op (length (num_type op).takes) vs ≡ answered m s own rest (Some a)
  operated_two first last upper rest vs a d e u k =
      ap (λ (n : ℕ). operated m s own op n vs) (takes_two (operator_of op) d) ∙ ap (operated m s own op 2) e
      ∙ ap (λ (l : List Value). operated m s own op 2 (last ∷ l)) u ∙ ap (answered m s own rest) k

pub by_result : (s : Store) (own : List Value) (x : Executed) (vs : List Value) (e k : _) → k ≡ e → Executes s own x s own vs e → Executes s own x s own vs k
by_result s own x vs e k w h = subst (λ y. Executes s own x s own vs y) (sym w) h

pub comes : (m : Module) (s : Store) (cs : List Activation) (a : Activation) (o : Outcome) (s' : Store)
    → StepsTo m s (running cs a) o s' → Comes m (config_of s (running cs a)) o s'
comes m s cs a (outcomes.Next t) s' h = h
comes m s cs a (outcomes.Trapped k) s' h = h
comes m s cs a outcomes.Stuck s' h = no_move m s cs a h

module _ (m : Module) (s : Store) (c : Calls) (o : Outcome) (s' : Store) where
  -- with constants at the start that are operands
  pub next_comes : (vs : List Value) (is : Code) → c.current.pending ≡ None
      → after_values vs (items_of is) ≡ after_values c.current.values (items_of (code_of c.current.code.now))
      → StepsTo m s (running (seen_calls c.callers) (record (seen c.current) { values = vs; code = is })) o s'
      → Comes m (config_of s (running (seen_calls c.callers) (seen c.current))) o s'
  next_comes vs is n e h =
      subst (λ (x : Config). Comes m x o s')
      (same_term s (seen_calls c.callers) (seen c.current) vs c.current.values is (code_of c.current.code.now) e
      ∙ ap (λ (p : Option Pending). config_of s (running (seen_calls c.callers) (record (seen c.current) { code = pending_code p (code_of c.current.code.now) }))) (sym n))
      (comes m s (seen_calls c.callers) (record (seen c.current) { values = vs; code = is }) o s' h)

  -- with an instruction that is pending
  pub pending_comes : (p : Pending) → c.current.pending ≡ Some p
      → StepsTo m s (running (seen_calls c.callers) (record (seen c.current) { code = pending_code (Some p) (code_of c.current.code.now) })) o s'
      → Comes m (config_of s (running (seen_calls c.callers) (seen c.current))) o s'
  pending_comes p n h =
      subst (λ (x : Config). Comes m x o s')
      (ap (λ (q : Option Pending). config_of s (running (seen_calls c.callers) (record (seen c.current) { code = pending_code q (code_of c.current.code.now) }))) (sym n))
      (comes m s (seen_calls c.callers) (record (seen c.current) { code = pending_code (Some p) (code_of c.current.code.now) }) o s' h)

pub first_of : (xs : List Instr) (x : Instr) → 1 ≤ length xs → x ≡ get_or xs 0 x → xs ≡ x ∷ take (length xs - 1) (drop 1 xs)
first_of xs x h e =
    drop_more xs 0 x h ∙ ap (λ (y : Instr). y ∷ drop 1 xs) (sym e) ∙ ap (λ (l : List Instr). x ∷ l) (sym (take_rest xs 1))

pub none_left : (xs : List Instr) → length xs < 1 → code_of xs ≡ nil
none_left xs h = ap code_of (nil_from_length xs (omega arith))

-- a call from outside
pub begins : (m : Module) (s : Store) (f : ℕ) (vs : List Value) (fn : Function) (callee : Callee) (callers : List Call) (a : Call)
    → callee_of m f ≡ Some callee → Shows fn callee → length vs ≡ fn.takes → callers ≡ []
    → seen a ≡ begun f callee (take (length callee.takes) vs)
    → step m (config_of s (starting f vs)) ≡ Next (config_of s (running (seen_calls callers) (seen a)))
begins m s f vs fn callee callers a e w n k q =
    let same : length vs ≡ length callee.takes = n ∙ sym w.takes in
    let test : (length vs == length callee.takes) ≡ true = eq-eqb (length vs) (length callee.takes) same in
    begins_step m s f vs callee e test
    ∙ ap (λ (us : List Value). Next (config_of s (running [] (begun f callee us)))) (sym (take_all (length callee.takes) vs (omega arith)))
    ∙ ap (λ (x : Activation). Next (config_of s (running [] x))) (sym q)
    ∙ ap (λ (cs : List Call). Next (config_of s (running (seen_calls cs) (seen a)))) (sym k)

pub exact_count : (m : Module) (f : ℕ) (vs : List Value) (fn : Function) → CanBegin m f vs → IsFunction (Some fn) (callee_of m f) → length vs ≡ fn.takes
exact_count m f vs fn h (c, e, w) = h.count c e ∙ w.takes
