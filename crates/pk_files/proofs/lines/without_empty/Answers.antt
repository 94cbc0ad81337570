use Rattle.std.proofs.Common.{◌∙◌, sym}
use Rattle.pk_files.proofs.LinesLemmas.{end_dropped, end_kept}
use Rattle.pk_files.proofs.lines.without_empty.Goals as goal

pub returns-in-len1-up : goal.returns-in-len1-up
returns-in-len1-up c = end_dropped (λ t. t.now) c.args.texts.now _ c.in-len1-up.len_at_least (sym c.is_empty.ensures ∙ c.if-is_empty.true)

pub returns-in_default-2 : goal.returns-in_default-2
returns-in_default-2 c = end_kept (λ t. t.now) c.args.texts.now _ c.in-len1-up.len_at_least (sym c.is_empty.ensures ∙ c.if-is_empty.false)
