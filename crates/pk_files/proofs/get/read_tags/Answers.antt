use Rattle.std.proofs.Common.{Result, Err}
use Rattle.pk_files.specs.Folder.{IsDone}
use Rattle.pk_files.specs.Held.{ReadsTags}
use Rattle.pk_files.specs.declared.fault.GetFault.{GetFault}
use Rattle.pk_files.specs.steps.Reading.{itself}
use Rattle.pk_files.proofs.ReadLemmas.{tags_load, tags_tick}
use Rattle.pk_files.proofs.StepLemmas.{by_error}
use Rattle.pk_files.proofs.get.read_tags.Goals as goal

pub returns-in_err-read_tag : goal.returns-in_err-read_tag
returns-in_err-read_tag g c =
    let before = g.F.Files.state c.args.files.now in
    let one = g.F.Files.state c.names_in.new.files in
    let after = g.F.Files.state c.read_tag.new.files in
    by_error (λ (r : Result (Unit {0}) GetFault). IsDone itself before after (λ content. ReadsTags content c.args.dir.now c.args.ns.now) r) _ c.in_err-read_tag.field-0.0 c.from_residual-in_err-read_tag.ensures
    (tags_load before one after c.args.dir.now c.args.ns.now c.in_ok-folder.folder c.in_ok-names.names c.in_err-read_tag.field-0.0 c.in_ok-folder.ensures c.in_ok-names.ensures c.in_err-read_tag.ensures)

pub returns-in_err-read_tag-2 : goal.returns-in_err-read_tag-2
returns-in_err-read_tag-2 g c =
    let before = g.F.Files.state c.args.files.now in
    let one = g.F.Files.state c.names_in.new.files in
    let two = g.F.Files.state c.read_tag.new.files in
    let after = g.F.Files.state c.read_tag-2.new.files in
    by_error (λ (r : Result (Unit {0}) GetFault). IsDone itself before after (λ content. ReadsTags content c.args.dir.now c.args.ns.now) r) _ c.in_err-read_tag-2.field-0.0 c.from_residual-in_err-read_tag-2.ensures
    (tags_tick before one two after c.args.dir.now c.args.ns.now c.in_ok-folder.folder c.in_ok-names.names (Err c.in_err-read_tag-2.field-0.0) c.in_ok-folder.ensures c.in_ok-names.ensures c.in_ok-read_tag.ensures c.in_err-read_tag-2.ensures)
