use Rattle.std.proofs.Common.{refl, inl, inr, map}
use Rattle.app_words.specs.View.{line_view}
use Rattle.app_top.specs.Outside.{outside}
use Rattle.app_top.specs.Refusal.{of_put}
use Rattle.app_top.specs.Jobs.{IsDelivered}
use Rattle.app_top.proofs.DeliveredLemmas.{delivered}
use Rattle.app_top.proofs.ProgramLemmas.{err_is, inspected_back}
use Rattle.app_top.proofs.inspecting.inspect_pack.Goals as goal

pub returns-in_err-put_pack : goal.returns-in_err-put_pack
returns-in_err-put_pack g c =
    λ ns script program low written is_pack e. inl (c.in_err-put_pack.field-0.0, c.in_err-put_pack.ensures, refl, err_is c.from_residual.result (of_put c.in_err-put_pack.field-0.0) c.from_residual.ensures)

pub returns : goal.returns
returns g c =
    let before = outside (g.F.Files.state c.args.files.now) (g.O.Sink.state c.args.out.now) in
    let between = outside (g.F.Files.state c.put_pack.new.files) (g.O.Sink.state c.args.out.now) in
    let after = outside (g.F.Files.state c.inspect_folder.new.files) (g.O.Sink.state c.inspect_folder.new.out) in
    let m = c.args.inspector.now.typed.now in
    λ ns script program low written is_pack e.
    let put : IsDelivered before.files between.files c.args.dir.now m c.args.pack.now = record {
      written = c.in_ok-put_pack.ensures;
      holds = delivered before.files between.files c.args.dir.now ns m c.args.pack.now written is_pack c.in_ok-put_pack.ensures;
    } in
    inr (inspected_back before between after c.args.dir.now m c.args.pack.now script (map line_view c.args.lines.now) c.inspect_folder.result refl program low is_pack.agrees is_pack.resumable put e c.inspect_folder.ensures)
