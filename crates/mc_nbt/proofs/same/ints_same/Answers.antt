use Rattle.std.proofs.Common.{sym, ◌∙◌, map}
use Rattle.std.proofs.lemmas.List.{length-map}
use Rattle.mc_nbt.specs.Tree.{int}
use Rattle.mc_nbt.proofs.SameLemmas.{items_differ}
use Rattle.mc_nbt.proofs.same.ints_same.Goals as goal

pub returns-then-left-right : goal.returns-then-left-right
returns-then-left-right c = items_differ (map int c.args.left.now) (map int c.args.right.now) (λ e. c.if-left-right.true (sym (length-map _ _) ∙ e ∙ length-map _ _))
