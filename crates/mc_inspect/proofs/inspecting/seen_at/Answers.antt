use Rattle.std.proofs.Common.{sym, subst, true, false, ◌≡◌, Bool}
use Rattle.mc_world.specs.WorldView.{seen}
use Rattle.cc_line.specs.View.{piece_view}
use Rattle.cc_simulate.specs.Stands.{Running}
use Rattle.pk_sight.proofs.ShownLemmas.{told_none, told_some}
use Rattle.mc_inspect.proofs.Answering.{found_answer}
use Rattle.mc_inspect.proofs.Somewhere.{nowhere_still, nowhere_unshown}
use Rattle.mc_inspect.proofs.inspecting.seen_at.Goals as goal

pub returns-in_default : goal.returns-in_default
returns-in_default c =
    nowhere_unshown c.args.m.now c.requires.fit.0 c.args.names.now.ns (seen c.args.w.now) (told_none _ _ _ c.in_default.is c.in_ok-reading.ensures)

pub returns-then-not-branch : goal.returns-then-not-branch
returns-then-not-branch c =
    nowhere_still c.args.m.now c.requires.fit.0 c.args.names.now.ns (seen c.args.w.now)
    (λ p s r.
    let yes : c.in_ok-runs.field-0 ≡ true = (c.in_ok-runs.ensures p s).1 (subst (λ (b : Bool). Running b p) (sym c.requires.bytes) r) in
    let no : c.in_ok-runs.field-0 ≡ false = c.if-not-branch.true in
    cc)

pub returns : goal.returns
returns c =
    found_answer c.args.m.now c.args.names.now.ns (seen c.args.w.now) c.in-Some.reading (piece_view c.args.piece) c.look.result c.requires.fit.0 c.requires.fit.1
    (told_some _ _ _ _ c.in-Some.is c.in_ok-reading.ensures) c.requires.told c.requires.next
    (λ p s.
    let yes : c.in_ok-runs.field-0 ≡ true = c.if-not-branch.false in
    subst (λ (b : Bool). Running b p) c.requires.bytes ((c.in_ok-runs.ensures p s).0 yes))
    c.look.ensures
