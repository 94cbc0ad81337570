use Rattle.std.proofs.Common.{◌∙◌, sym, ap, arith}
use Rattle.hex.specs.Hex.{encode_lower}
use Rattle.app_words.specs.Lines.{ended_line}
use Rattle.app_report.proofs.PagesLemmas.{shown_inside, shown_outside}
use Rattle.app_report.proofs.pages.shown_bytes.Goals as goal

pub returns-then-end-pages : goal.returns-then-end-pages
returns-then-end-pages c = c.in_ok-from_str.ensures.ok ∙ sym (shown_outside c.args.pages.now c.args.at c.args.len c.requires (omega arith))

pub returns : goal.returns
returns c =
    c.in_ok-line.ensures
    ∙ ap (λ l. ended_line (encode_lower l)) c.as_slice.ensures.value
    ∙ sym (shown_inside c.args.pages.now c.args.at c.args.len c.in_ok-bytes.bytes.items c.requires (omega arith) c.in_ok-bytes.ensures)
