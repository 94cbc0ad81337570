use Rattle.std.proofs.Common.{◌≡◌, sym, refl, subst, [], true, inl, inr, map}
use Rattle.io_dev.specs.Files.{FilesState}
use Rattle.io_dev.specs.Names.{IsListingOf}
use Rattle.mc_cmd.specs.Packing.{Written, is_written}
use Rattle.wm_flat.specs.Program.{IsProgram}
use Rattle.app_words.specs.View.{line_view}
use Rattle.app_top.specs.Outside.{outside}
use Rattle.app_top.specs.Refusal.{of_put}
use Rattle.app_top.specs.steps.Run.{IsPackInspected}
use Rattle.app_top.proofs.ProgramLemmas.{err_is, unlinked_memory}
use Rattle.app_top.proofs.inspecting.inspect_module.Goals as goal

pub returns-in_err-see_empty : goal.returns-in_err-see_empty
returns-in_err-see_empty g c =
    inr (inl (record {
      source = c.in_ok-typed.typed;
      has_module = c.in_ok-typed.ensures;
      ends = (c.in_err-see_empty.field-0.0, c.in_err-see_empty.ensures, refl, err_is c.from_residual-in_err-see_empty.result (of_put c.in_err-see_empty.field-0.0) c.from_residual-in_err-see_empty.ensures);
    }))

pub returns-in_err-pack : goal.returns-in_err-pack
returns-in_err-pack g c =
    inl (unlinked_memory (g.F.Files.state c.args.files.now) (g.F.Files.state c.see_empty.new.files) (g.O.Sink.state c.args.out.now) c.args.wasm.now c.args.ns.now c.from_residual-in_err-pack.result c.from_residual-in_err-pack.ensures c.in_ok-see_empty.ensures.1)

pub inspect_pack-requires : goal.inspect_pack-requires
inspect_pack-requires g c =
    subst (λ (f : FilesState). IsListingOf f.content c.args.dir.now []) (sym c.in_ok-see_empty.ensures.1) c.in_ok-see_empty.ensures.0

pub returns : goal.returns
returns g c =
    let after = outside (g.F.Files.state c.inspect_pack.new.files) (g.O.Sink.state c.inspect_pack.new.out) in
    let written : is_written c.in_ok-pack.pack ≡ true = subst (λ (w : Written). is_written w ≡ true) c.pack.view_is c.pack.invariant in
    let played =
    subst (λ (f : FilesState). IsPackInspected (outside f (g.O.Sink.state c.args.out.now)) after c.args.dir.now c.in_ok-typed.typed c.in_ok-pack.pack (map line_view c.args.lines.now) c.inspect_pack.result)
    c.in_ok-see_empty.ensures.1 (rw c.new-inspector.ensures.of at c.inspect_pack.ensures)
    in
    let program : IsProgram c.in_ok-typed.typed = record { valid = c.new-inspector.ensures.typed.valid; profile = c.new-inspector.ensures.typed.profile; numbers = c.new-inspector.ensures.typed.numbers } in
    inr (inr (record {
      pack = c.in_ok-pack.pack;
      is_pack = record { source = c.in_ok-typed.typed; has_module = c.in_ok-typed.ensures; is_pack = c.in_ok-pack.ensures };
      written = written;
      ends = λ script e. played c.args.ns.now script program c.in_ok-typed.ensures.low written c.in_ok-pack.ensures e;
    }))
