use Rattle.std.proofs.Common.{◌+◌, ◌∙◌, sym, ap, subst, refl, drop}
use Rattle.mc_cmd.specs.Packing.{Written}
use Rattle.pk_files.specs.steps.Reading.{HasRoomFor}
use Rattle.pk_files.proofs.ReadLemmas.{Continues, each_done, each_more, each_refused, next_room}
use Rattle.pk_files.proofs.get.read_each.Goals as goal

pub returns-in_err-lines-clause-read : goal.returns-in_err-lines-clause-read
returns-in_err-lines-clause-read g c =
    each_refused (g.F.Files.state c.args.files.now) (g.F.Files.state c.loop-name.files) (g.F.Files.state c.read_lines.new.files) c.args.folder.now c.args.names.now c.loop-name.name-index c.name-item.result c.loop-name.pack.functions c.in_err-lines.field-0.0 _
    c.loop-name-test.true c.name-item.is c.loop-name.invariant.same c.loop-name.invariant.continues c.in_err-lines.ensures.read c.from_residual.ensures

pub loop-name-preserved : goal.loop-name-preserved
loop-name-preserved g c =
    let before = g.F.Files.state c.args.files.now in
    let all = c.args.names.now in
    let i = c.loop-name.name-index in
    let room = next_room c.loop-name.pack all i c.name-item.result c.loop-name-test.true c.name-item.is c.loop-name.invariant.room in
    record {
      same = c.in_ok-lines.ensures.read.1 ∙ c.loop-name.invariant.same;
      index = ap (λ (w : Written). w.index) c.in_ok-add.ensures ∙ c.loop-name.invariant.index;
      room = subst (λ (w : Written). HasRoomFor w (drop (i + 1) all)) (sym c.in_ok-add.ensures) (room.2 c.in_ok-lines.lines);
      continues = subst (λ (w : Written). Continues before.content c.args.folder.now w.functions (drop (i + 1) all) all) (sym c.in_ok-add.ensures)
          (each_more before (g.F.Files.state c.loop-name.files) (g.F.Files.state c.read_lines.new.files) c.args.folder.now all i c.name-item.result c.in_ok-lines.lines c.loop-name.pack.functions
          c.loop-name-test.true c.name-item.is c.loop-name.invariant.same c.loop-name.invariant.continues c.in_ok-lines.ensures.read);
    }

pub returns-clause-read : goal.returns-clause-read
returns-clause-read g c =
    each_done (g.F.Files.state c.args.files.now) (g.F.Files.state c.loop-name.files) c.args.folder.now c.args.names.now c.loop-name.name-index c.loop-name.pack.functions c.loop-name.pack
    c.loop-name-test.false c.loop-name.invariant.same refl c.loop-name.invariant.continues
