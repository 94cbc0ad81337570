use Rattle.std.proofs.Common.{◌∙◌}
use Rattle.app_report.proofs.PagesLemmas.{page_of_trees_then, page_of_trees_else}
use Rattle.app_report.proofs.pages.is_page_of_trees.Goals as goal

pub returns-then-trees-eq-PAGE_WORDS : goal.returns-then-trees-eq-PAGE_WORDS
returns-then-trees-eq-PAGE_WORDS c = c.are_ints.ensures ∙ page_of_trees_then c.args.trees.now c.if-trees-eq-PAGE_WORDS.true

pub returns-else-trees-eq-PAGE_WORDS : goal.returns-else-trees-eq-PAGE_WORDS
returns-else-trees-eq-PAGE_WORDS c = page_of_trees_else c.args.trees.now c.if-trees-eq-PAGE_WORDS.false
