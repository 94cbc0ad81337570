use Rattle.mc_world.specs.WorldView.{seen}
use Rattle.app_inspect.proofs.WhereLemmas.{may_tell}
use Rattle.app_inspect.proofs.inspector.InspectorLocator.locate.Goals as goal

pub returns : goal.returns
returns c =
    may_tell c.args.self.now.typed.now c.args.ns.now (seen c.args.world.now) c.inspect-answer.result c.text_of.result c.inspect-answer.ensures c.text_of.ensures
