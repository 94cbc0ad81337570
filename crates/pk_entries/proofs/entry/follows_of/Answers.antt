use Rattle.mc_nbt.specs.View.{view}
use Rattle.pk_entries.proofs.Entries.{followed, not_followed}
use Rattle.pk_entries.proofs.entry.follows_of.Goals as goal

pub returns-in_ok-piece-in-Some : goal.returns-in_ok-piece-in-Some
returns-in_ok-piece-in-Some c =
    followed (view c.args.tree.now) (view c.in-Some.name.now) c.in_ok-piece-in-Some.piece c.in-Some.ensures
    c.in_ok-piece-in-Some.ensures

pub returns-in-None : goal.returns-in-None
returns-in-None c = not_followed (view c.args.tree.now) c.in-None.ensures
