use Rattle.std.proofs.Common.{All}
use Rattle.test_links.specs.Libraries.{HasShortLists}
use Rattle.test_links.proofs.loading.load_libraries.Given as goal

abbrev pub invariant-loop-word : goal.invariant-loop-word
invariant-loop-word l = All HasShortLists l.libs.items
