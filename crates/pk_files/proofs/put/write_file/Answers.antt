use Rattle.pk_files.specs.steps.Writing.{file_view}
use Rattle.pk_files.proofs.PutLemmas.{none_put}
use Rattle.pk_files.proofs.put.write_file.Goals as goal

pub returns-in_err-path : goal.returns-in_err-path
returns-in_err-path g c = none_put (g.F.Files.state c.args.files.now) (file_view c.args.file.now) _ c.from_residual.ensures
