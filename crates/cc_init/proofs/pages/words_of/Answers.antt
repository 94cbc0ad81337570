use Rattle.std.proofs.Common.{◌≡◌, ◌∙◌, List, ap, map, subst}
use Rattle.std.specs.Prelude.{IfOk, ℤ}
use Rattle.cc_init.specs.steps.Instantiating.{word}
use Rattle.cc_init.proofs.PageLemmas.{words_by_fours}
use Rattle.cc_init.proofs.pages.words_of.Goals as goal

pub returns : goal.returns
returns c =
    subst (λ (zs : List ℤ). IfOk c.words_in.result (λ words. words.items ≡ zs)) (ap (map word) c.as_chunks.ensures.front ∙ words_by_fours c.args.bytes.now) c.words_in.ensures
