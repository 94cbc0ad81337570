use Rattle.std.proofs.Common.{◌≡◌, ap, refl, subst, sym, true, Err}
use Rattle.mc_cmd.specs.Form.{Text}
use Rattle.mc_cmd.specs.Packing.{Written, is_pack_namespace, is_written}
use Rattle.mc_cmd.specs.Word.{is_namespace}
use Rattle.wm_ast.specs.declared.module.Module.{Module}
use Rattle.app_workload.specs.Reduced.{HasMain}
use Rattle.app_top.specs.Jobs.{End}
use Rattle.app_top.specs.Outside.{outside}
use Rattle.app_top.specs.Refusal.{of_put}
use Rattle.app_top.specs.Workload.{IsWorkloadAnswered}
use Rattle.app_top.specs.steps.WorkloadRun.{IsPutAt}
use Rattle.app_top.proofs.ProgramLemmas.{err_is}
use Rattle.app_top.proofs.WorkloadEnds.{gen_told, gen_undelivered, gen_unput}
use Rattle.app_top.proofs.WorkloadLemmas.{has_main}
use Rattle.app_top.proofs.workload.make_workload.Goals as goal

pub link-requires : goal.link-requires
unfolding is_namespace
link-requires g c = ap is_pack_namespace c.in_ok-ns.ensures

pub returns-in_err-put_file : goal.returns-in_err-put_file
returns-in_err-put_file g c =
    let before = outside (g.F.Files.state c.args.files.now) (g.O.Sink.state c.args.out.now) in
    let after = outside (g.F.Files.state c.put_file.new.files) (g.O.Sink.state c.args.out.now) in
    let refusal = c.in_err-put_file.field-0.0 in
    let made = c.in_ok-made.ensures in
    subst (λ (r : End). IsWorkloadAnswered c.args.number c.args.size c.args.file.now c.args.dir.now before after r) (sym (err_is c.from_residual-in_err-put_file.result refusal c.from_residual-in_err-put_file.ensures))
    (gen_unput c.args.number c.args.size c.args.file.now c.args.dir.now before after c.in_ok-made.made.wasm c.in_ok-ns.ns c.in_ok-made.made.typed c.in_ok-pack.pack refusal c.in_ok-ns.ensures made.1 made.0 c.in_ok-pack.ensures
    (subst (λ (w : Written). is_written w ≡ true) c.pack.view_is c.pack.invariant)
    (subst (λ (bytes : Text). IsPutAt (g.F.Files.state c.args.files.now) (g.F.Files.state c.put_file.new.files) c.args.file.now bytes (Err refusal)) c.as_slice.ensures c.in_err-put_file.ensures) refl)

pub returns-in_err-write_pack : goal.returns-in_err-write_pack
returns-in_err-write_pack g c =
    let before = outside (g.F.Files.state c.args.files.now) (g.O.Sink.state c.args.out.now) in
    let between = outside (g.F.Files.state c.put_file.new.files) (g.O.Sink.state c.args.out.now) in
    let after = outside (g.F.Files.state c.write_pack.new.files) (g.O.Sink.state c.args.out.now) in
    let fault = c.in_err-write_pack.field-0.0 in
    let made = c.in_ok-made.ensures in
    subst (λ (r : End). IsWorkloadAnswered c.args.number c.args.size c.args.file.now c.args.dir.now before after r) (sym (err_is c.from_residual-in_err-write_pack.result (of_put fault) c.from_residual-in_err-write_pack.ensures))
    (gen_undelivered c.args.number c.args.size c.args.file.now c.args.dir.now before between after c.in_ok-made.made.wasm c.in_ok-ns.ns c.in_ok-made.made.typed c.in_ok-pack.pack fault c.in_ok-ns.ensures made.1 made.0 c.in_ok-pack.ensures
    (subst (λ (w : Written). is_written w ≡ true) c.pack.view_is c.pack.invariant) (rw c.as_slice.ensures at c.in_ok-put_file.ensures) refl c.in_err-write_pack.ensures refl)

pub tell_workload-requires : goal.tell_workload-requires
tell_workload-requires g c = subst (λ (m : Module). HasMain m) (sym c.in_ok-made.ensures.1) (has_main c.args.number c.args.size)

pub returns : goal.returns
returns g c =
    let before = outside (g.F.Files.state c.args.files.now) (g.O.Sink.state c.args.out.now) in
    let between = outside (g.F.Files.state c.put_file.new.files) (g.O.Sink.state c.args.out.now) in
    let two = outside (g.F.Files.state c.write_pack.new.files) (g.O.Sink.state c.args.out.now) in
    let after = outside (g.F.Files.state c.tell_workload.new.files) (g.O.Sink.state c.tell_workload.new.out) in
    let made = c.in_ok-made.ensures in
    gen_told c.args.number c.args.size c.args.file.now c.args.dir.now before between two after c.in_ok-made.made.wasm c.in_ok-ns.ns c.in_ok-made.made.typed c.in_ok-pack.pack c.tell_workload.result c.in_ok-ns.ensures made.1 made.0 c.in_ok-pack.ensures
    (subst (λ (w : Written). is_written w ≡ true) c.pack.view_is c.pack.invariant) (rw c.as_slice.ensures at c.in_ok-put_file.ensures) refl c.in_ok-write_pack.ensures refl c.tell_workload.ensures
