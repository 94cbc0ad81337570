use Rattle.std.proofs.Common.{◌++◌, ◌∙◌, ap, sym}
use Rattle.std.proofs.lemmas.List.{append-nil}
use Rattle.mc_inspect.specs.steps.Found.{one_or_none}
use Rattle.mc_inspect.proofs.frames.topped.Goals as goal

pub returns-in-None : goal.returns-in-None
returns-in-None c = λ i. record {
  func = c.args.frame.func;
  locals = c.args.frame.locals;
  operands = (sym (append-nil c.args.frame.operands) ∙ ap (λ o. c.args.frame.operands ++ one_or_none o) (sym c.in-None.is)) i;
}
