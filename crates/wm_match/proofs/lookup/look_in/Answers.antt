use Rattle.std.proofs.Common.{◌≡◌, [], false, true, refl}
use Rattle.wm_match.specs.Cause.{program}
use Rattle.wm_match.proofs.LookupLaws.{none_in, other_space, no_item, no_match, bound_in}
use Rattle.wm_match.proofs.lookup.look_in.Goals as goal

pub returns-in_default : goal.returns-in_default
returns-in_default c =
    none_in (program c.args.libs.now c.args.main.now []) c.args.k c.args.m.now c.args.import.now c.args.j c.args.library.now c.args.part.now
    c.as_slice-exports.result.now c.as_slice-exports.ensures c.in_default.ensures

pub returns-then-not-is_in : goal.returns-then-not-is_in
returns-then-not-is_in c =
    other_space (program c.args.libs.now c.args.main.now []) c.args.k c.args.m.now c.args.import.now c.args.j c.args.library.now c.args.part.now
    c.as_slice-exports.result.now c.as_slice-exports.ensures c.in-Some.e c.index-exports-e.result c.in-Some.ensures c.index-exports-e.is c.if-not-is_in.ensures

pub returns-then-matches : goal.returns-then-matches
returns-then-matches c =
    bound_in (program c.args.libs.now c.args.main.now []) c.args.k c.args.m.now c.args.import.now c.args.j c.args.library.now c.args.part.now
    c.as_slice-exports.result.now c.as_slice-exports.ensures c.in-Some.e c.index-exports-e.result c.in-Some.ensures c.index-exports-e.is
    c.in-Some-item_in.b c.in-Some-item_in.ensures c.if-not-is_in.ensures (c.if-matches.ensures.0 refl)

pub returns-else-matches : goal.returns-else-matches
returns-else-matches c =
    no_match (program c.args.libs.now c.args.main.now []) c.args.k c.args.m.now c.args.import.now c.args.j c.args.library.now c.args.part.now
    c.as_slice-exports.result.now c.as_slice-exports.ensures c.in-Some.e c.index-exports-e.result c.in-Some.ensures c.index-exports-e.is
    c.in-Some-item_in.b c.in-Some-item_in.ensures (λ h. absurd (let w : false ≡ true = c.if-matches.ensures.1 h in cc))

pub returns-in-None : goal.returns-in-None
returns-in-None c =
    no_item (program c.args.libs.now c.args.main.now []) c.args.k c.args.m.now c.args.import.now c.args.j c.args.library.now c.args.part.now
    c.as_slice-exports.result.now c.as_slice-exports.ensures c.in-Some.e c.index-exports-e.result c.in-Some.ensures c.index-exports-e.is c.in-None.ensures
