use Rattle.std.proofs.Common.{◌∙◌, ap}
use Rattle.pk_link.specs.Functions.{pack_index}
use Rattle.pk_link.proofs.LinkLemmas.{functions_taken, pack_linked}
use Rattle.pk_link.proofs.linking.link.Goals as goal

pub pack_of-requires-clause-functions : goal.pack_of-requires-clause-functions
pack_of-requires-clause-functions c =
    functions_taken c.args.m.now c.args.ns.now _ c.module.ensures.typed c.requires c.in_ok-functions.ensures

pub returns : goal.returns
returns c =
    pack_linked c.args.m.now c.args.ns.now c.in_ok-index.index _ c.in_ok-pack.pack c.module.ensures.typed c.requires c.in_ok-functions.ensures
    (c.in_ok-index.ensures ∙ ap (λ m. pack_index m c.args.ns.now) c.module.ensures.same) c.in_ok-pack.ensures
