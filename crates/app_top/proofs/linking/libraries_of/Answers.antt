use Rattle.std.proofs.Common.{◌<◌, ◌≤◌, ◌+◌, sym, subst, drop, length, List, Result, Err, arith}
use Rattle.mc_cmd.specs.Form.{Text}
use Rattle.wm_match.specs.declared.library.Library.{Library}
use Rattle.app_top.specs.declared.refusal.Refusal.{Refusal}
use Rattle.app_top.specs.steps.JoinRun.{AreLibrariesDecoded, IsLibraryDecoded}
use Rattle.app_top.proofs.JoinLemmas.{DecodesOn, all_decoded, decodes_more, libraries_undecoded}
use Rattle.app_top.proofs.ProgramLemmas.{err_is}
use Rattle.app_top.proofs.linking.libraries_of.Goals as goal

pub returns-in_err-library : goal.returns-in_err-library
returns-in_err-library c =
    let same = c.requires in
    let within : c.loop-k.k < length c.args.bytes.now = omega (arith, c.loop-k-test.true, same) in
    subst (λ (r : Result (List Library) Refusal). AreLibrariesDecoded c.args.named.now c.args.bytes.now r)
    (sym (err_is c.from_residual.result c.in_err-library.field-0.0 c.from_residual.ensures))
    (libraries_undecoded c.loop-k.libraries c.args.named.now c.args.bytes.now c.loop-k.k c.index-named-k.result c.index-bytes-k.result c.in_err-library.field-0.0
    c.loop-k-test.true c.index-named-k.is within c.index-bytes-k.is c.loop-k.invariant (subst (λ (bytes : Text). IsLibraryDecoded c.index-named-k.result bytes (Err c.in_err-library.field-0.0)) c.as_slice.ensures c.in_err-library.ensures))

pub loop-k-preserved : goal.loop-k-preserved
loop-k-preserved c =
    let same = c.requires in
    let within : c.loop-k.k < length c.args.bytes.now = omega (arith, c.loop-k-test.true, same) in
    subst (λ (found : List Library). DecodesOn found (drop (c.loop-k.k + 1) c.args.named.now) c.args.named.now (drop (c.loop-k.k + 1) c.args.bytes.now) c.args.bytes.now) (sym c.in_ok-push.ensures.ok)
    (decodes_more c.loop-k.libraries c.args.named.now c.args.bytes.now c.loop-k.k c.index-named-k.result c.index-bytes-k.result c.in_ok-library.library
    c.loop-k-test.true c.index-named-k.is within c.index-bytes-k.is c.loop-k.invariant (rw c.as_slice.ensures at c.in_ok-library.ensures))

pub returns : goal.returns
returns c =
    let same = c.requires in
    let all : length c.args.bytes.now ≤ c.loop-k.k = omega (arith, c.loop-k-test.false, same) in
    all_decoded c.loop-k.libraries c.args.named.now c.args.bytes.now c.loop-k.k c.loop-k-test.false all c.loop-k.invariant
