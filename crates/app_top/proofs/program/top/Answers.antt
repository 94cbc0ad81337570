use Rattle.std.proofs.Common.{Err}
use Rattle.app_top.specs.Outside.{outside}
use Rattle.app_top.proofs.CompleteLemmas.{complete}
use Rattle.app_top.proofs.program.top.Goals as goal

pub returns-in-Err-clause-told : goal.returns-in-Err-clause-told
returns-in-Err-clause-told g c = record { r = Err c.in-Err.refusal; ends = c.in-Err.ensures; tells = c.tell.ensures }

pub returns-in-Err-clause-complete : goal.returns-in-Err-clause-complete
returns-in-Err-clause-complete g c =
    complete c.args.names.now
    (outside (g.F.Files.state c.args.files.now) (g.O.Sink.state c.args.out.now))
    (outside (g.F.Files.state c.run.new.files) (g.O.Sink.state c.run.new.out))
    (g.E.Sink.state c.args.err.now) (g.E.Sink.state c.tell.new.err) c.tell.result
    (record { r = Err c.in-Err.refusal; ends = c.in-Err.ensures; tells = c.tell.ensures })
