use Rattle.std.proofs.Common.{◌∙◌, ap, Some}
use Rattle.std.specs.Prelude.{if◌then◌else◌}
use Rattle.std.specs.Str.{bytes_eq}
use Rattle.mc_world.specs.TextMap.{text_get}
use Rattle.mc_world.proofs.WorldViewLemmas.{text_get_written}
use Rattle.app_report.proofs.weighing.note.Goals as goal

pub returns : goal.returns
returns c = λ f.
    text_get_written c.args.known.now c.insert.new.self c.in_ok-clone.field-0 (Some c.args.weight) c.in_ok-insert.ensures.updates f
    ∙ ap (λ k. if bytes_eq k f then Some c.args.weight else text_get c.args.known.now f) (c.in_ok-clone.ensures.cases)
