use Rattle.std.proofs.Common.{◌∙◌, ◌++◌, ◌+◌, ◌*◌, refl, ap}
use Rattle.std.specs.Prelude.{string_bytes}
use Rattle.mc_nbt.specs.View.{view}
use Rattle.app_report.proofs.PagesLemmas.{page_length}
use Rattle.app_report.proofs.RowsLemmas.{rows_left, rows_first, row_step, page_end}
use Rattle.app_report.proofs.dumping.page_lines.Goals as goal

pub loop-i-init : goal.loop-i-init
loop-i-init c = λ bytes h. ap (λ t. t ++ rows_left c.args.address 0 bytes) c.new-text.ensures.bytes ∙ rows_first c.args.address bytes

pub loop-i-preserved : goal.loop-i-preserved
loop-i-preserved c = λ bytes h.
    row_step c.loop-i.i c.args.address (c.args.address + 16 * c.loop-i.i) bytes c.as_slice.result.now (string_bytes c.loop-i.text) (string_bytes c.in_ok-line.line) (string_bytes c.push_str.new.self) _ (page_length (view c.args.page.now) bytes h) c.loop-i-test.true (c.as_slice.ensures.value ∙ c.in_ok-row.ensures bytes h) refl c.in_ok-line.ensures (c.in_ok-push_str.ensures.bytes ∙ ap (λ l. string_bytes c.loop-i.text ++ l) c.as_str.ensures.value) (c.loop-i.invariant bytes h)

pub returns : goal.returns
returns c = page_end c.args.page.now c.args.address c.loop-i.i (string_bytes c.loop-i.text) c.requires.page c.loop-i-test.false c.loop-i.invariant
