use Rattle.std.proofs.Common.{ap, subst, ◌∙◌}
use Rattle.std.specs.Bool.{MatchBool}
use Rattle.mc_world.specs.WorldView.{seen}
use Rattle.cc_simulate.specs.Uses.{uses_bytes}
use Rattle.pk_sight.proofs.ShownLemmas.{told_some}
use Rattle.mc_inspect.specs.Inspect.{IsAnswer, IsRunning}
use Rattle.mc_inspect.proofs.Answering.{program_of, unnamed_answer}
use Rattle.mc_inspect.proofs.inspecting.inspect.Goals as goal

pub at_piece-requires : goal.at_piece-requires
at_piece-requires c =
    let named = told_some _ _ _ _ c.in-Some.is c.in_ok-piece.ensures in
    let w = seen c.args.w.now in
    let ms = c.in_ok-names.names.ns in
    record {
      fit = (program_of c.args.m.now c.module.ensures.typed, c.module.ensures.typed.low);
      bytes = c.uses_bytes-bytes.ensures ∙ ap uses_bytes c.module.ensures.same;
      told = named.0;
      next = named.1;
      running = subst (λ b. MatchBool b (IsRunning ms w) (IsRunning ms w → ⊥)) c.if-not-branch.false c.in_ok-is_running.ensures;
    }

pub returns-in-Some : goal.returns-in-Some
returns-in-Some c = subst (λ n. IsAnswer c.args.m.now n (seen c.args.w.now) c.at_piece.result) c.in_ok-names.ensures c.at_piece.ensures

pub returns : goal.returns
returns c =
    let w = seen c.args.w.now in
    let ms = c.in_ok-names.names.ns in
    unnamed_answer c.args.m.now c.args.ns.now ms w _ c.module.ensures.typed c.in_ok-names.ensures
    (subst (λ b. MatchBool b (IsRunning ms w) (IsRunning ms w → ⊥)) c.if-not-branch.false c.in_ok-is_running.ensures)
    c.in-None.is c.in_ok-piece.ensures
