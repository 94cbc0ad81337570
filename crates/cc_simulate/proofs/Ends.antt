-- The piece that ends a job tells its results.
use Rattle.std.proofs.Common.{◌≡◌, ◌≤◌, List, [], ◌∷◌, length, Some, Bool, false, refl, sym, ap, ◌∙◌, arith, ℤ}
use Rattle.std.specs.Prelude.{negsuc, if◌then◌else◌}
use Rattle.mc_cmd.specs.Form.{Text}
use Rattle.cc_line.specs.Sight.{Store, in_io, in_memory, in_rest}
use Rattle.cc_line.specs.Key.{key_end}
use Rattle.cc_line.specs.State.{State}
use Rattle.cc_sched.specs.Sched.{end_rounds}
use Rattle.cc_pieces.specs.Entry.{ending_acts}
use Rattle.cc_call.specs.Frames.{done_acts}
use Rattle.cc_call.specs.Law.{is_told_key, Done, CallsWork}
use Rattle.cc_simulate.specs.Frame.{stack_ints}
use Rattle.cc_simulate.specs.Stands.{is_written, ChangesFrameAlone, Finished}
use Rattle.cc_simulate.specs.Law.{JobsEnd}
use Rattle.cc_simulate.proofs.Acts.{ActsEnter, after_acts, acts_end, append_enters}
use Rattle.cc_simulate.proofs.Frames.{stack_length}
use Rattle.cc_simulate.proofs.Leaving.{few_wide}

unwritten_is_not_told : (r : Store) (k : Text) → is_written r k ≡ false → is_told_key r k ≡ false
unwritten_is_not_told in_io k e = e
unwritten_is_not_told in_memory k e = refl
unwritten_is_not_told in_rest k e = refl

pub jobs_end : CallsWork → JobsEnd
jobs_end works m vs s e =
    let zs : List ℤ = stack_ints vs in
    let long = stack_length vs in
    let wide = few_wide vs e.few in
    let few : length zs ≤ 2 = omega arith in
    let w = works.done zs e.calm.ending.0 s e.results few e.calm.ending.1 e.calm.ending.2 in
    let t : State = after_acts (done_acts (length zs)) s in
    let done : Done zs s t = w.there in
    let over : ActsEnter (end_rounds ∷ []) t (Finished vs) = record {
      ready = (tt, tt);
      there = record {
        state = done.state ∙ sym (done.keys in_rest key_end refl);
        result = done.result;
        few = e.few;
        trap = refl;
      };
      keeps = record { keys = λ r k u. refl; scores = λ h a b c. ap (λ (d : Bool). if d then Some (negsuc 0) else t.scores h) c };
    } in
    let told : ChangesFrameAlone s t = record { keys = λ r k u. done.keys r k (unwritten_is_not_told r k u); scores = λ h a b c. ap (λ g. g h) done.scores } in
    acts_end (Finished vs) (ending_acts (length zs)) s
    (append_enters (Finished vs) (done_acts (length zs)) (end_rounds ∷ []) s w.ready told over)
