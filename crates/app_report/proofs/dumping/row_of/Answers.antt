use Rattle.std.proofs.Common.{◌∙◌, ◌∷◌, ◌++◌, ◌*◌, [], sym, ap, drop}
use Rattle.app_report.proofs.PagesLemmas.{get-drop, take_one}
use Rattle.app_report.proofs.dumping.row_of.Goals as goal

pub loop-i-preserved : goal.loop-i-preserved
loop-i-preserved c = λ bytes h.
    let row = 16 * c.args.row in
    c.in_ok-push.ensures.items
    ∙ ap (λ l. l ++ c.byte_at.result ∷ []) (c.loop-i.invariant bytes h)
    ∙ sym (take_one (drop row bytes) c.loop-i.i c.byte_at.result (get-drop bytes row c.loop-i.i ∙ c.byte_at.ensures bytes h))
