use Rattle.std.proofs.Common.{◌≡◌, ℕ, true, false, sym, ap, subst, ◌∙◌, arith}
use Rattle.cc_cut.specs.Law.{widths}
use Rattle.pk_sight.proofs.ShownLemmas.{told_none, told_some}
use Rattle.mc_inspect.specs.steps.Openings.{IsBegun, IsBegunNot, IsMade}
use Rattle.mc_inspect.proofs.Fetching.{all_fetched, fetch_some, few_fetches, unbegun_fetches, unmade_fetches}
use Rattle.mc_inspect.proofs.beginnings.fetching_for.Goals as goal

pub returns-then-params-le-MOST_PASSED : goal.returns-then-params-le-MOST_PASSED
returns-then-params-le-MOST_PASSED c caller index count s type follows found are few y at divides =
    let wide : c.in_ok-params.params ≡ widths c.args.ty.now.params = c.in_ok-params.ensures ∙ ap widths c.as_slice.ensures in
    few_fetches c.args.m.now c.args.reading.now caller index count few y at divides c.args.func follows c.args.ty.now type (omega arith)

pub returns-then-params-fetched : goal.returns-then-params-fetched
returns-then-params-fetched c caller index count s type follows found are few y at divides =
    let wide : c.in_ok-params.params ≡ widths c.args.ty.now.params = c.in_ok-params.ensures ∙ ap widths c.as_slice.ensures in
    all_fetched c.args.m.now c.args.reading.now caller index count few y at divides c.args.func follows c.args.ty.now type (omega arith)

pub returns-then-not-branch : goal.returns-then-not-branch
returns-then-not-branch c caller index count s type follows found are few y at divides =
    let wide : c.in_ok-params.params ≡ widths c.args.ty.now.params = c.in_ok-params.ensures ∙ ap widths c.as_slice.ensures in
    unmade_fetches c.args.m.now c.args.reading.now caller index count few y at divides c.args.func follows c.args.ty.now type c.args.spot.now s
    c.args.call.frames.items c.args.call.given.now found c.args.fetched are
    (λ h.
    let yes : c.in_ok-is_made.field-0 ≡ true =
    c.in_ok-is_made.ensures.1 (subst (λ (n : ℕ). IsMade c.args.reading.now.places.items c.args.spot.now c.args.call.given.now c.args.fetched n) (sym wide) h) in
    let no : c.in_ok-is_made.field-0 ≡ false = c.if-not-branch.true in
    cc)

pub returns-in_ok-spot_seen-in-Some : goal.returns-in_ok-spot_seen-in-Some
returns-in_ok-spot_seen-in-Some c caller index count s type follows found are few y at divides =
    let wide : c.in_ok-params.params ≡ widths c.args.ty.now.params = c.in_ok-params.ensures ∙ ap widths c.as_slice.ensures in
    fetch_some c.args.m.now c.args.reading.now caller index count few y at divides c.args.func follows c.args.ty.now type c.args.spot.now s
    c.args.call.frames.items c.args.call.given.now found c.args.fetched are c.in-Some.frame
    (subst (λ (n : ℕ). IsBegun c.args.func c.args.spot.now n c.args.call.given.now c.in-Some.frame) c.len.ensures
    (told_some _ _ _ _ c.in-Some.is c.in_ok-frame.ensures))
    (omega arith) (omega arith)
    (subst (λ (n : ℕ). IsMade c.args.reading.now.places.items c.args.spot.now c.args.call.given.now c.args.fetched n) wide
    (c.in_ok-is_made.ensures.0 c.if-not-branch.false))
    c.in_ok-spot_seen-in-Some.field-0 c.in_ok-spot_seen-in-Some.ensures

pub returns-in-None : goal.returns-in-None
returns-in-None c caller index count s type follows found are few y at divides =
    unbegun_fetches c.args.m.now c.args.reading.now caller index count few y at divides c.args.func follows c.args.ty.now type c.args.spot.now s
    c.args.call.frames.items c.args.call.given.now found c.args.fetched are
    (subst (λ (n : ℕ). IsBegunNot c.args.spot.now n c.args.call.given.now) c.len.ensures (told_none _ _ _ c.in-None.is c.in_ok-frame.ensures))
