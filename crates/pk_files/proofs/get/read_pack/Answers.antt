use Rattle.std.proofs.Common.{Result, Ok, Err}
use Rattle.mc_cmd.specs.Packing.{Written}
use Rattle.pk_files.specs.Folder.{IsPackRead}
use Rattle.pk_files.specs.declared.fault.GetFault.{GetFault}
use Rattle.pk_files.proofs.ReadLemmas.{pack_functions, pack_index, pack_tags}
use Rattle.pk_files.proofs.StepLemmas.{by_error}
use Rattle.pk_files.proofs.get.read_pack.Goals as goal

pub returns-in_err-index : goal.returns-in_err-index
returns-in_err-index g c =
    let before = g.F.Files.state c.args.files.now in
    let after = g.F.Files.state c.read_index.new.files in
    by_error (λ (r : Result Written GetFault). IsPackRead before after c.args.dir.now r) _ c.in_err-index.field-0.0 c.from_residual.ensures
    (pack_index before after c.args.dir.now c.in_err-index.field-0.0 c.in_err-index.ensures.read)

pub returns-in_err-read_tags : goal.returns-in_err-read_tags
returns-in_err-read_tags g c =
    let before = g.F.Files.state c.args.files.now in
    let one = g.F.Files.state c.read_index.new.files in
    let after = g.F.Files.state c.read_tags.new.files in
    by_error (λ (r : Result Written GetFault). IsPackRead before after c.args.dir.now r) _ c.in_err-read_tags.field-0.0 c.from_residual-in_err-read_tags.ensures
    (pack_tags before one after c.args.dir.now c.in_ok-index.index c.in_err-read_tags.field-0.0 c.in_ok-index.ensures.read c.in_err-read_tags.ensures)

pub returns-in_err-pack : goal.returns-in_err-pack
returns-in_err-pack g c =
    let before = g.F.Files.state c.args.files.now in
    let one = g.F.Files.state c.read_index.new.files in
    let two = g.F.Files.state c.read_tags.new.files in
    let after = g.F.Files.state c.read_functions.new.files in
    by_error (λ (r : Result Written GetFault). IsPackRead before after c.args.dir.now r) _ c.in_err-pack.field-0.0 c.from_residual-in_err-pack.ensures
    (pack_functions before one two after c.args.dir.now c.in_ok-index.index (Err c.in_err-pack.field-0.0) c.in_ok-index.ensures.read c.in_ok-read_tags.ensures c.in_err-pack.ensures.read tt)

pub returns : goal.returns
returns g c =
    let before = g.F.Files.state c.args.files.now in
    let one = g.F.Files.state c.read_index.new.files in
    let two = g.F.Files.state c.read_tags.new.files in
    let after = g.F.Files.state c.read_functions.new.files in
    pack_functions before one two after c.args.dir.now c.in_ok-index.index (Ok c.in_ok-pack.pack) c.in_ok-index.ensures.read c.in_ok-read_tags.ensures c.in_ok-pack.ensures.read c.in_ok-pack.ensures.index
