use Rattle.std.proofs.Common.{◌∙◌}
use Rattle.std.specs.Prelude.{string_bytes}
use Rattle.mc_world.specs.WorldView.{seen}
use Rattle.app_report.proofs.RowsLemmas.{dump_is}
use Rattle.app_report.proofs.printing.dump.Goals as goal

pub returns : goal.returns
returns c =
    dump_is c.args.ns.now (seen c.args.world.now) c.in_ok-names.names.ns (string_bytes c.in_ok-answer.answer) (string_bytes c.in_ok-globals.globals) (string_bytes c.in_ok-rows.rows) c.as_str.result.now c.as_str-2.result.now c.from.result c.in_ok-names.ensures c.in_ok-answer.ensures c.in_ok-globals.ensures c.in_ok-rows.ensures c.as_str.ensures.value c.as_str-2.ensures.value (c.from.ensures ∙ c.in_ok-text.ensures)
