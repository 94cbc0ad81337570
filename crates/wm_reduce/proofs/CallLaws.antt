-- Calls from outside can begin, and are never stuck.
use Rattle.std.proofs.Common.{◌≡◌, ℕ, List, [], length, reverse, Some, None, Bool, true, false, refl, sym, ap, subst, ◌∙◌}
use Rattle.std.specs.Prelude.{All, is_none}
use Rattle.std.proofs.lemmas.List.{length-reverse}
use Rattle.std.proofs.lemmas.List.Elements.{All-nil}
use native.Mathlib.Nat.{ℕ_set}
use native.Mathlib.Bridge.{le_prop}
use mathlib.Core.Logic.{∥∥₁_elim}
use Rattle.mc_nbt.specs.declared.value.Value.{Value}
use Rattle.wm_ast.specs.declared.item.Item.TheVariants.{Types, Start}
use Rattle.wm_ast.specs.declared.module.Module.{Module}
use Rattle.wm_ast.specs.Instance.{first_store}
use Rattle.wm_ast.specs.Store.{Store, Callee, callee}
use Rattle.wm_flat.specs.Flat.{starting, config_of}
use Rattle.wm_flat.specs.FlatTyping.{Are, TypedStore}
use Rattle.wm_flat.specs.Program.{IsProgram}
use Rattle.wm_valid.specs.InRange.{IsInRange}
use Rattle.wm_flat.proofs.CalleeLaws.{entry}
use Rattle.wm_flat.proofs.FirstStore.{first_store_typed}
use Rattle.wm_flat.proofs.Soundness.{call_is_sound}
use Rattle.wm_flat.proofs.ValueLaws.{length_are}
use Rattle.wm_valid.specs.Checked.{IsTyped}
use Rattle.wm_reduce.specs.declared.task.Moved.{Moved}
use Rattle.wm_reduce.specs.declared.task.Task.{Task}
use Rattle.wm_reduce.specs.declared.task.Task.TheVariants.{Resting, Calling, Reducing, Failed}
use Rattle.wm_reduce.specs.declared.task.Phase.{Phase}
use Rattle.wm_reduce.specs.Call.{Takes, called}
use Rattle.wm_reduce.specs.TermView.{task_term, has_failed}
use Rattle.wm_reduce.specs.steps.Task.{CanCall, Keeps}
use Rattle.wm_reduce.proofs.KeptLaws.{kept_by}
use Rattle.wm_reduce.proofs.TaskLaws.{keeps_calling, keeps_resting, state}

pub is_program : (m : Module) → IsTyped m → IsProgram m
is_program m t = record { valid = t.valid; profile = t.profile; numbers = t.numbers }

module _ (m : Module) where
  can_call : (s : Store) (f : ℕ) (arguments : List Value) → IsProgram m → TypedStore m s → Takes m f arguments → All IsInRange arguments → CanCall m s f (reverse arguments)
  can_call s f us p t k r =
      let a : Are k.type.params us = record { types = k.types; range = r } in
      let e = entry m f k.func k.type p k.is_function in
      record {
        begins = record {
          there = λ n. absurd (let w : Some (callee k.func k.type e.result) ≡ None = sym e.found ∙ n in cc);
          count = λ c q.
              let w : Some (callee k.func k.type e.result) ≡ Some c = sym e.found ∙ q in
              let same : callee k.func k.type e.result ≡ c = cc in
              length-reverse us ∙ length_are k.type.params us a ∙ sym (length-reverse k.type.params) ∙ ap (λ (x : Callee). length x.takes) same;
        };
        kept = kept_by m k.type.results (config_of s (starting f (reverse us))) (p.valid.items Types k.func.kind k.type k.is_function.has_type)
            (λ n. call_is_sound m s f k.func k.type us n p t k.is_function a);
      }

  can_call_prop : (s : Store) (f : ℕ) (arguments : List Value) → IsProp (CanCall m s f arguments)
  can_call_prop s f arguments = hlevel (ℕ_set, le_prop)

  pub call_kept : (s : Store) (f : ℕ) (arguments : List Value) → ∥ IsProgram m ∥₁ → ∥ TypedStore m s ∥₁ → Takes m f arguments → All IsInRange arguments
      → CanCall m s f (reverse arguments)
  call_kept s f us p t k r =
      ∥∥₁_elim p (can_call_prop s f (reverse us)) (λ q. ∥∥₁_elim t (can_call_prop s f (reverse us)) (λ u. can_call s f us q u k r))

  -- the store at rest
  pub idle_store : (s : Store) (task : Task) (failed idle : Bool) → Keeps m s task → failed ≡ has_failed task → failed ≡ false → idle ≡ is_none (task_term task) → idle ≡ true
      → ∥ TypedStore m s ∥₁
  idle_store s (Resting last) failed idle k f g i j = k.resting last refl
  idle_store s (Calling n vs) failed idle k f g i j = absurd (let w : true ≡ false = sym j ∙ i in cc)
  idle_store s (Reducing t) failed idle k f g i j = absurd (let w : true ≡ false = sym j ∙ i in cc)
  idle_store s Failed failed idle k f g i j = absurd (let w : true ≡ false = sym f ∙ g in cc)

  -- the beginning
  start_takes : IsProgram m → (f : ℕ) → m.start ≡ Some f → Takes m f []
  start_takes p f e =
      let v = p.valid.items Start 0 f refl e in
      record {
        func = v.function;
        type = v.plain.type;
        is_function = record { there = v.there; has_type = v.plain.named };
        types = sym v.plain.params;
      }

  pub start_kept : (s : Store) (f : ℕ) → IsProgram m → s ≡ first_store m → m.start ≡ Some f → Keeps m s (Calling f [])
  start_kept s f p e k =
      keeps_calling m s f []
      (can_call s f [] p (subst (TypedStore m) (sym e) (first_store_typed m p)) (start_takes p f k) (All-nil IsInRange))

  pub rest_kept : (s : Store) (last : Moved) → IsProgram m → s ≡ first_store m → Keeps m s (Resting last)
  rest_kept s last p e = keeps_resting m s last ∣ subst (TypedStore m) (sym e) (first_store_typed m p) ∣₁

-- The state after a call.

pub called_state : (m : Module) (s : Store) (task : Task) (phase : Phase) (f : ℕ) (vs us : List Value) → vs ≡ reverse us → has_failed task ≡ false
    → state m s (Calling f vs) phase ≡ called (state m s task phase) f us
called_state m s task phase f vs us e h =
    ap (λ (l : List Value). state m s (Calling f l) phase) e
    ∙ ap (λ (b : Bool). record (state m s (Calling f (reverse us)) phase) { failed = b }) (sym h)
