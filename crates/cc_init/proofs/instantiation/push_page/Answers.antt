use Rattle.std.proofs.Common.{◌≡◌, ◌∙◌, ap, sym, subst, List}
use Rattle.std.specs.Prelude.{OnOk, option_map}
use Rattle.cc_line.specs.Item.{join}
use Rattle.cc_line.specs.Step.{Act}
use Rattle.cc_line.specs.View.{items_view}
use Rattle.cc_init.specs.Init.{is_repeated}
use Rattle.cc_init.specs.steps.Instantiating.{first_page, words_acts}
use Rattle.cc_init.proofs.GlobalLemmas.{alone}
use Rattle.cc_init.proofs.StartLemmas.{no_page_told, page_told}
use Rattle.cc_init.proofs.instantiation.push_page.Goals as goal

pub returns-in-Some : goal.returns-in-Some
returns-in-Some c =
    subst (λ (l : List Act). OnOk c.push_words.result (items_view c.push_words.new.items.items ≡ join (items_view c.args.items.now.items) (alone l)))
    (ap (λ b. words_acts b c.in-Some.words.items) c.is_repeated.ensures
    ∙ page_told (is_repeated c.args.start.now.bytes.items c.args.page) c.in-Some.words.items (first_page c.args.start.now c.args.page) (ap (option_map (λ words. words.items)) (sym c.in-Some.is) ∙ c.in_ok-words.ensures)) c.push_words.ensures

pub returns-in-None : goal.returns-in-None
returns-in-None c =
    no_page_told _ (is_repeated c.args.start.now.bytes.items c.args.page) (first_page c.args.start.now c.args.page) (ap (option_map (λ words. words.items)) (sym c.in-None.is) ∙ c.in_ok-words.ensures)
