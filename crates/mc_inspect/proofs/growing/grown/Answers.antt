use Rattle.std.proofs.Common.{◌≡◌, subst, ℕ, Some, true, false}
use Rattle.std.specs.Prelude.{pos}
use Rattle.std.specs.Bool.{MatchBool}
use Rattle.mc_inspect.proofs.Grown.{grown_answer, no_count, no_memory}
use Rattle.mc_inspect.proofs.growing.grown.Goals as goal

pub returns-then-is_empty : goal.returns-then-is_empty
returns-then-is_empty c = no_memory c.args.m.now c.args.reading.now (c.is_empty.ensures.0 c.if-is_empty.true)

pub returns-then-not-is_count : goal.returns-then-not-is_count
returns-then-not-is_count c =
    let g = c.args.reading.now.scores.g in
    no_count c.args.m.now c.args.reading.now
    (subst (λ b. MatchBool b ((n : ℕ) × (g ≡ Some (pos n))) ((n : ℕ) → g ≡ Some (pos n) → ⊥)) c.if-not-is_count.true c.is_count.ensures)

pub returns : goal.returns
returns c =
    let g = c.args.reading.now.scores.g in
    grown_answer c.args.m.now c.args.reading.now
    (λ e. let one : c.is_empty.result ≡ true = c.is_empty.ensures.1 e in let other : c.is_empty.result ≡ false = c.if-is_empty.false in cc)
    (subst (λ b. MatchBool b ((n : ℕ) × (g ≡ Some (pos n))) ((n : ℕ) → g ≡ Some (pos n) → ⊥)) c.if-not-is_count.false c.is_count.ensures)
    c.cut_that_follows.result c.cut_that_follows.ensures
