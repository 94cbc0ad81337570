-- What an item shows that calls a helper of one line, by what its path and its line show.
use Rattle.std.proofs.Common.{◌≡◌, ◌∙◌, ◌∷◌, [], ap}
use Rattle.mc_cmd.specs.Form.{Text}
use Rattle.cc_line.specs.Item.{fill_item}
use Rattle.cc_line.specs.OpenStep.{OpenSite, OpenStep, open_act, open_load_site}
use Rattle.cc_line.specs.State.{Site}

pub one_filled : (f : Text) (p q : Site) (x y : OpenStep) → p ≡ q → x ≡ y → fill_item f p (x ∷ []) ≡ fill_item f q (y ∷ [])
one_filled f p q x y e h = ap (λ (t : Site). fill_item f t (x ∷ [])) e ∙ ap (λ (t : OpenStep). fill_item f q (t ∷ [])) h

-- the line loads what stands at a path
pub load_filled : (f h : Text) (p q : Site) (x : OpenStep) (u v : OpenSite) → p ≡ q → x ≡ open_act (open_load_site h u) → u ≡ v → fill_item f p (x ∷ []) ≡ fill_item f q (open_act (open_load_site h v) ∷ [])
load_filled f h p q x u v e l g = one_filled f p q x (open_act (open_load_site h v)) e (l ∙ ap (λ (t : OpenSite). open_act (open_load_site h t)) g)
