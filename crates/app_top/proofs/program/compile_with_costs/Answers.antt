use Rattle.std.proofs.Common.{◌≡◌, ◌≤◌, sym, refl, subst, [], length, Ok, Err, true, inl, inr}
use Rattle.io_dev.specs.Files.{FilesState}
use Rattle.io_dev.specs.Names.{IsListingOf}
use Rattle.mc_cmd.specs.Packing.{Written, is_written}
use Rattle.wm_ast.specs.declared.module.Module.{Module}
use Rattle.app_report.specs.Costs.{costs_text}
use Rattle.pk_files.specs.Folder.{IsPackWritten}
use Rattle.app_top.specs.Refusal.{of_put}
use Rattle.app_top.specs.Jobs.{IsSaid}
use Rattle.app_top.specs.steps.Run.{IsPackOfBytes}
use Rattle.app_top.proofs.CostsLemmas.{few_functions, pieces_are_light}
use Rattle.app_top.proofs.ProgramLemmas.{err_is, put_for, unlinked_memory}
use Rattle.app_top.proofs.program.compile_with_costs.Goals as goal

pub tell_costs-requires-clause-few : goal.tell_costs-requires-clause-few
tell_costs-requires-clause-few g c =
    subst (λ (m : Module). length m.funcs ≤ 8192) (sym c.module.ensures.same) (few_functions c.in_ok-typed.typed c.in_ok-typed.ensures.in_profile)

pub tell_costs-requires-clause-light : goal.tell_costs-requires-clause-light
tell_costs-requires-clause-light g c = pieces_are_light c.args.ns.now c.in_ok-typed.typed c.in_ok-pack.pack c.in_ok-pack.ensures

pub returns-in_err-see_empty : goal.returns-in_err-see_empty
returns-in_err-see_empty g c =
    inr (inl (record {
      source = c.in_ok-typed.typed;
      has_module = c.in_ok-typed.ensures;
      ends = (c.in_err-see_empty.field-0.0, c.in_err-see_empty.ensures, refl, err_is c.from_residual-in_err-see_empty.result (of_put c.in_err-see_empty.field-0.0) c.from_residual-in_err-see_empty.ensures);
    }))

pub returns-in_err-pack : goal.returns-in_err-pack
returns-in_err-pack g c =
    inl (unlinked_memory (g.F.Files.state c.args.files.now) (g.F.Files.state c.see_empty.new.files) (g.O.Sink.state c.args.out.now) c.args.wasm.now c.args.ns.now c.from_residual-in_err-pack.result c.from_residual-in_err-pack.ensures c.in_ok-see_empty.ensures.1)

pub put_pack-requires : goal.put_pack-requires
put_pack-requires g c =
    subst (λ (f : FilesState). IsListingOf f.content c.args.dir.now []) (sym c.in_ok-see_empty.ensures.1) c.in_ok-see_empty.ensures.0

pub returns-in_err-put_pack : goal.returns-in_err-put_pack
returns-in_err-put_pack g c =
    let fault = c.in_err-put_pack.field-0.0 in
    inr (inr (record {
      pack = c.in_ok-pack.pack;
      is_pack = record { source = c.in_ok-typed.typed; has_module = c.in_ok-typed.ensures; is_pack = c.in_ok-pack.ensures };
      written = subst (λ (w : Written). is_written w ≡ true) c.pack.view_is c.pack.invariant;
      ends = inl (
        fault,
        subst (λ (f : FilesState). IsPackWritten f (g.F.Files.state c.put_pack.new.files) c.args.dir.now c.in_ok-pack.pack (Err fault)) c.in_ok-see_empty.ensures.1 c.in_err-put_pack.ensures,
        refl,
        err_is c.from_residual-in_err-put_pack.result (of_put fault) c.from_residual-in_err-put_pack.ensures,
      );
    }))

pub returns : goal.returns
returns g c =
    let before = g.F.Files.state c.args.files.now in
    let after = g.F.Files.state c.put_pack.new.files in
    let p : IsPackOfBytes c.args.wasm.now c.args.ns.now c.in_ok-pack.pack = record { source = c.in_ok-typed.typed; has_module = c.in_ok-typed.ensures; is_pack = c.in_ok-pack.ensures } in
    let written : is_written c.in_ok-pack.pack ≡ true = subst (λ (w : Written). is_written w ≡ true) c.pack.view_is c.pack.invariant in
    let put : IsPackWritten before after c.args.dir.now c.in_ok-pack.pack (Ok tt) = subst (λ (f : FilesState). IsPackWritten f after c.args.dir.now c.in_ok-pack.pack (Ok tt)) c.in_ok-see_empty.ensures.1 c.in_ok-put_pack.ensures in
    inr (inr (record {
      pack = c.in_ok-pack.pack;
      is_pack = p;
      written = written;
      ends = inr (
        put_for before after c.args.wasm.now c.args.dir.now c.args.ns.now c.in_ok-pack.pack written p put,
        subst (λ (m : Module). IsSaid (costs_text c.in_ok-pack.pack (length m.funcs)) (g.O.Sink.state c.args.out.now) (g.O.Sink.state c.tell_costs.new.out) c.tell_costs.result) c.module.ensures.same c.tell_costs.ensures,
      );
    }))
