use Rattle.std.proofs.Common.{◌≡◌, ℕ, ◌+◌, ◌-◌, ◌<◌, length, sym, subst, arith}
use Rattle.wm_match.proofs.DirectoryLaws.{NamedFrom, one_named_more}
use Rattle.wm_match.proofs.directory.exports_by_name.Goals as goal

pub loop-k-preserved : goal.loop-k-preserved
loop-k-preserved c =
    let es = c.args.exports.now in
    let at : ℕ = length es - 1 - c.loop-k.k in
    let lt : length es - 1 - c.loop-k.k < length es = omega arith in
    let here : length es - (c.loop-k.k + 1) ≡ length es - 1 - c.loop-k.k = omega arith in
    let next : length es - c.loop-k.k ≡ length es - 1 - c.loop-k.k + 1 = omega arith in
    subst (λ (n : ℕ). NamedFrom es n c.insert.new.self) (sym here)
    (one_named_more es at c.index-exports-at.result c.in_ok-clone.field-0 c.loop-k.names c.insert.new.self lt c.index-exports-at.is c.in_ok-clone.ensures.cases
    c.in_ok-insert.ensures.updates (subst (λ (n : ℕ). NamedFrom es n c.loop-k.names) next c.loop-k.invariant))
