-- Behind a call that has ended the caller's frame is restored, with the results, and the cut that follows is next.
use Rattle.std.proofs.Common.{◌≡◌, ℕ, suc, List, ◌++◌, length, Option, Some, sym, ap, ◌∙◌, subst, arith, ℤ, append_assoc}
use Rattle.std.specs.Prelude.{slice_get}
use Rattle.mc_nbt.specs.declared.value.Value.{Value}
use Rattle.wm_ast.specs.declared.module.Func.{Func}
use Rattle.wm_ast.specs.declared.module.Module.{Module}
use Rattle.wm_ast.specs.declared.module.ValType.{ValType}
use Rattle.wm_ast.specs.Store.{Store}
use Rattle.wm_flat.specs.Flat.{Activation}
use Rattle.wm_flat.specs.Operands.{operands}
use Rattle.wm_flat.specs.Program.{IsProgram}
use Rattle.wm_place.specs.Kinds.{Body, function_body}
use Rattle.wm_place.proofs.KindLemmas.{Typed}
use Rattle.cc_line.specs.Key.{body_piece, id_tree}
use Rattle.cc_line.specs.Item.{no_more}
use Rattle.cc_line.specs.State.{State}
use Rattle.cc_call.specs.Frames.{restore_acts}
use Rattle.cc_call.specs.Law.{Restored, CallsWork}
use Rattle.cc_cut.specs.Law.{widths}
use Rattle.cc_move.specs.Calls.{with_results}
use Rattle.cc_move.specs.Law.{MovesFollow}
use Rattle.cc_body.specs.Layout.{frame_size}
use Rattle.cc_body.specs.Pieces.{restore_in}
use Rattle.cc_simulate.specs.Callers.{Waits}
use Rattle.cc_simulate.specs.Frame.{local_ints, stack_ints}
use Rattle.cc_simulate.specs.Stands.{At, Restoring}
use Rattle.cc_simulate.specs.Law.{Enters}
use Rattle.cc_simulate.proofs.Acts.{acts_then, keeps_calls, calm_calls, after_acts, ActsEnter, acts_end}
use Rattle.cc_simulate.proofs.Behind.{kept_of, BehindCall, behind}
use Rattle.cc_simulate.proofs.Frames.{stack_length, stack_append}
use Rattle.cc_simulate.proofs.Leaving.{few_wide}

module _ (moves : MovesFollow) (works : CallsWork) (m : Module) (program : IsProgram m) (results : List ValType) (st : Store) (cs : List Activation) (c : Activation) (us : List Value) (s : State)
    (x : Restoring m cs c us s) (f : Func) (there : slice_get m.funcs c.func ≡ Some f) (t : Typed m c.func f) where
  abbrev n : ℕ
  n = c.func

  abbrev a : Activation
  a = with_results c us

  abbrev w : Waits m x.callee c x.entry
  w = x.waits

  abbrev kept : List ℤ
  kept = kept_of c

  back : BehindCall moves works m program results st cs x.below c x.waiting x.callee x.entry w f there t us
  back = behind moves works m program results st cs x.below c x.waiting x.callee x.entry w f there t us x.types

  restores : ActsEnter (restore_acts (length kept) (length (stack_ints us)) (frame_size m n) (body_piece n (suc w.is_piece.position))) s (At m cs a)
  restores =
      let zs : List ℤ = stack_ints us in
      let long = stack_length us in
      let few = few_wide us x.few in
      let r = works.restore (length kept) (frame_size m n) zs x.below x.entry (body_piece n (suc w.is_piece.position)) s x.calm.below w.held.kept x.results (omega arith) back.room back.scores x.has_scores in
      let u : State = after_acts (restore_acts (length kept) (length zs) (frame_size m n) (body_piece n (suc w.is_piece.position))) s in
      let done : Restored (length kept) (frame_size m n) zs x.below x.entry (body_piece n (suc w.is_piece.position)) s u = r.there in
      let held : u.places ≡ (local_ints c.locals ++ stack_ints (operands a)) ++ done.junk =
      done.places
      ∙ (ap (λ l. (l ++ zs) ++ done.junk) w.held.held
      ∙ ap (λ l. l ++ done.junk) (append_assoc (local_ints c.locals) (stack_ints (operands c)) zs ∙ ap (λ l. local_ints c.locals ++ l) (sym (stack_append us (operands c)) ∙ ap stack_ints (sym back.parts)))) in
      record {
        ready = r.ready;
        there = record {
          cut = w.cut;
          is_cut = w.is_cut;
          visit = back.visit;
          stands = back.stands;
          place = back.place;
          named = done.named ∙ ap (λ i. Some (id_tree (body_piece n i))) (sym w.is_piece.is_index);
          frame = record { junk = done.junk; held = held; sized = done.sized };
          below = x.below;
          waiting = x.waiting;
          calm = calm_calls _ x.below s u done.keys (λ h q. ap (λ g. g h) done.scores) done.below x.calm;
        };
        keeps = keeps_calls s u done.keys (λ h b. ap (λ g. g h) done.scores);
      }

  pub restored : Enters (restore_in m n (suc w.is_piece.position) w.piece.cut w.type (function_body m n)) s (At m cs a)
  restored =
      subst (λ (o : Option Body). Enters (restore_in m n (suc w.is_piece.position) w.piece.cut w.type o) s (At m cs a)) (sym t.body)
      (subst (λ k. Enters (acts_then (restore_acts k (widths w.type.results) (frame_size m n) (body_piece n (suc w.is_piece.position))) no_more) s (At m cs a)) (sym back.under)
      (subst (λ k. Enters (acts_then (restore_acts (length kept) k (frame_size m n) (body_piece n (suc w.is_piece.position))) no_more) s (At m cs a)) back.wide
      (acts_end (At m cs a) (restore_acts (length kept) (length (stack_ints us)) (frame_size m n) (body_piece n (suc w.is_piece.position))) s restores)))
