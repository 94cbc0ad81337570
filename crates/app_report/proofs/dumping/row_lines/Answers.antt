use Rattle.std.proofs.Common.{◌∙◌, ◌++◌, ◌*◌, ap, arith}
use Rattle.std.specs.Prelude.{string_bytes}
use Rattle.app_report.proofs.RowsLemmas.{page_here, pages_left, page_step, pages_end}
use Rattle.app_report.proofs.dumping.row_lines.Goals as goal

pub page_lines-requires-clause-page : goal.page_lines-requires-clause-page
page_lines-requires-clause-page c = page_here c.args.pages.now c.loop-i.i c.index-pages-i.result c.loop-i-test.true c.index-pages-i.is c.loop-i.invariant.pages

pub loop-i-preserved : goal.loop-i-preserved
loop-i-preserved c = record {
  pages = pages_left c.args.pages.now c.loop-i.i c.index-pages-i.result c.loop-i-test.true c.index-pages-i.is c.loop-i.invariant.pages;
  so_far = page_step c.args.pages.now c.loop-i.i (c.loop-i.i * 65536) c.index-pages-i.result (string_bytes c.loop-i.text) (string_bytes c.in_ok-lines.lines) (string_bytes c.push_str.new.self) _ c.loop-i-test.true c.index-pages-i.is c.loop-i.invariant.pages (omega arith) c.in_ok-lines.ensures (c.in_ok-push_str.ensures.bytes ∙ ap (λ l. string_bytes c.loop-i.text ++ l) c.as_str.ensures.value) c.loop-i.invariant.so_far;
}

pub returns : goal.returns
returns c = pages_end c.args.pages.now c.loop-i.i (65536 * c.loop-i.i) (string_bytes c.loop-i.text) c.requires c.loop-i-test.false c.loop-i.invariant.so_far
