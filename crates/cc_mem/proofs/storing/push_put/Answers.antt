use Rattle.std.proofs.Common.{◌≡◌, ◌∙◌, ◌∷◌, [], ap, subst}
use Rattle.std.specs.Prelude.{OnOk, codes, pos}
use Rattle.mc_cmd.specs.Command.{exactly}
use Rattle.cc_line.specs.Item.{Item, first, join, no_more}
use Rattle.cc_line.specs.OpenStep.{OpenSite, open_keep_site, open_when}
use Rattle.cc_line.specs.Step.{Cond, holds, in_range}
use Rattle.cc_line.specs.View.{items_view, open_site_view}
use Rattle.cc_mem.specs.Address.{at_r}
use Rattle.cc_mem.specs.Store.{is_calm}
use Rattle.cc_mem.proofs.FillLemmas.{one_filled}
use Rattle.cc_mem.proofs.storing.push_put.Goals as goal

pub returns : goal.returns
returns c =
    let aligned : Cond = holds (in_range at_r (exactly (pos 0))) in
    subst (λ (x : Item). OnOk c.push_fill.result (items_view c.push_fill.new.items.items ≡ join (items_view c.args.items.now.items) (first x no_more)))
    (one_filled (codes "h_mem_put") _ _ _ _ c.filling_site.ensures
    (ap (λ (k : Cond). open_when (k ∷ (aligned ∷ [])) (open_keep_site (open_site_view c.window_word.result) (codes "#s"))) c.is_calm.ensures
    ∙ ap (λ (p : OpenSite). open_when (is_calm ∷ (aligned ∷ [])) (open_keep_site p (codes "#s"))) c.window_word.ensures))
    c.push_fill.ensures
