use Rattle.std.proofs.Common.{◌≡◌, ◌∙◌, ◌+◌, ◌*◌, ◌/◌, ◌%◌, ◌<◌, ◌∷◌, ◌++◌, [], sym, ap, drop, length, Some, arith}
use Rattle.std.specs.Prelude.{slice_get}
use Rattle.app_report.proofs.PagesLemmas.{get-drop, got_here, page_stands, pages_at, take_one}
use Rattle.app_report.proofs.pages.bytes_from.Goals as goal

pub byte_at-requires-clause-page : goal.byte_at-requires-clause-page
byte_at-requires-clause-page c =
    let k = (c.args.at + c.loop-i.i) / 65536 in
    let t = c.index-pages-address.result in
    let lt : k < length c.args.pages.now = omega (arith, c.requires.within) in
    page_stands c.args.pages.now k t c.requires.pages (got_here c.args.pages.now k t lt c.index-pages-address.is)

pub loop-i-preserved : goal.loop-i-preserved
loop-i-preserved c = λ bytes h.
    let k = (c.args.at + c.loop-i.i) / 65536 in
    let off = (c.args.at + c.loop-i.i) % 65536 in
    let t = c.index-pages-address.result in
    let lt : k < length c.args.pages.now = omega (arith, c.requires.within) in
    let p = pages_at c.args.pages.now bytes k off t h (got_here c.args.pages.now k t lt c.index-pages-address.is) (omega arith) in
    let place : c.args.at + c.loop-i.i ≡ 65536 * k + off = omega arith in
    let here : slice_get (drop c.args.at bytes) c.loop-i.i ≡ Some c.byte_at.result = get-drop bytes c.args.at c.loop-i.i ∙ ap (slice_get bytes) place ∙ p.2 ∙ c.byte_at.ensures p.0 p.1 in
    c.in_ok-push.ensures.items
    ∙ ap (λ l. l ++ c.byte_at.result ∷ []) (c.loop-i.invariant bytes h)
    ∙ sym (take_one (drop c.args.at bytes) c.loop-i.i c.byte_at.result here)
