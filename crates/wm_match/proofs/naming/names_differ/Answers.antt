use Rattle.std.proofs.Common.{◌≡◌, length, false, true, Some, refl, sym, subst, arith}
use Rattle.std.specs.Prelude.{slice_get}
use Rattle.std.proofs.lemmas.Option.{slice_get_read}
use Rattle.wm_valid.specs.steps.Names.{Earlier}
use Rattle.wm_valid.proofs.NameLaws.{one_seen, stale, fresh}
use Rattle.wm_match.proofs.NamingLaws.{apart_more, apart_all, named_twice}
use Rattle.wm_match.proofs.naming.names_differ.Goals as goal

pub returns-then-not-branch : goal.returns-then-not-branch
returns-then-not-branch c =
    let read : slice_get c.args.exports.now c.loop-index.index ≡ Some c.index-exports-index.result = slice_get_read c.args.exports.now (length c.args.exports.now) c.loop-index.index c.index-exports-index.result refl (omega arith) c.index-exports-index.is in
    let earlier : Earlier c.args.exports.now c.loop-index.index c.as_str.result.now = stale c.args.exports.now c.loop-index.index c.loop-index.names c.as_str.result c.in_ok-insert.field-0 c.in_ok-insert.ensures.added c.if-not-branch.true c.loop-index.invariant.names in (
      λ h. absurd (let t : false ≡ true = h in cc),
      λ all. absurd (named_twice c.args.exports.now c.loop-index.index c.index-exports-index.result read (subst (λ (s : _). Earlier c.args.exports.now c.loop-index.index s) c.as_str.ensures earlier) all),
    )

pub loop-index-preserved : goal.loop-index-preserved
loop-index-preserved c =
    let read : slice_get c.args.exports.now c.loop-index.index ≡ Some c.index-exports-index.result = slice_get_read c.args.exports.now (length c.args.exports.now) c.loop-index.index c.index-exports-index.result refl (omega arith) c.index-exports-index.is in
    record {
      apart = apart_more c.args.exports.now c.loop-index.index c.index-exports-index.result read
          (λ h. fresh c.args.exports.now c.loop-index.index c.loop-index.names c.as_str.result c.in_ok-insert.field-0 c.in_ok-insert.ensures.added c.if-not-branch.false c.loop-index.invariant.names
          (subst (λ (s : _). Earlier c.args.exports.now c.loop-index.index s) (sym c.as_str.ensures) h))
          c.loop-index.invariant.apart;
      names = one_seen c.args.exports.now c.loop-index.index c.loop-index.names c.insert.new.self c.as_str.result c.index-exports-index.result read
          c.as_str.ensures c.in_ok-insert.ensures.updates c.loop-index.invariant.names;
    }

pub returns : goal.returns
returns c = (λ h. apart_all c.args.exports.now c.loop-index.index (omega arith) c.loop-index.invariant.apart, λ all. refl)
