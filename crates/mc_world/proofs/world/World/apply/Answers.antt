use Rattle.std.proofs.Common.{◌≡◌, subst}
use Rattle.std.specs.Prelude.{IfOk, OnErr}
use Rattle.mc_cmd.specs.View.{cmd_view}
use Rattle.mc_cmd.specs.World.{cmd_effect}
use Rattle.mc_world.specs.WorldView.{IsLeftInPart, seen, told}
use Rattle.mc_world.proofs.world.World.apply.Goals as goal

pub returns-clause-effect : goal.returns-clause-effect
returns-clause-effect c =
    let new = seen c.apply_kind.new.self in
    subst (λ k. IfOk c.apply_kind.result (λ o. told o new ≡ cmd_effect (cmd_view k) (seen c.args.self.now))) c.kind.ensures.kind c.apply_kind.ensures.effect

pub returns-clause-memory : goal.returns-clause-memory
returns-clause-memory c =
    subst (λ k. OnErr c.apply_kind.result (IsLeftInPart (cmd_view k) (seen c.args.self.now) (seen c.apply_kind.new.self))) c.kind.ensures.kind c.apply_kind.ensures.memory
