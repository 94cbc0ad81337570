use Rattle.std.proofs.Common.{◌≤◌, ◌∙◌, ap, sym, subst}
use Rattle.mc_cmd.specs.declared.TheConstants.{PIECE}
use Rattle.cc_pieces.specs.Parts.{parts_view}
use Rattle.pk_link.proofs.CodeLemmas.{functions_linked}
use Rattle.pk_link.proofs.HeaviestLemmas.{heaviest_is, parts_low}
use Rattle.pk_link.proofs.LinkLemmas.{program_of}
use Rattle.pk_link.proofs.functions.functions_of.Goals as goal

pub heaviest_of-heaviest-requires : goal.heaviest_of-heaviest-requires
heaviest_of-heaviest-requires c =
    parts_low c.args.m.now _ (program_of c.args.m.now c.module.ensures.typed) c.module.ensures.typed.low
    (ap parts_view c.as_slice.ensures.value ∙ c.in_ok-parts.ensures)

pub emit-requires : goal.emit-requires
emit-requires c =
    subst (λ w. w ≤ PIECE) (sym c.heaviest_of-heaviest.ensures)
    (parts_low c.args.m.now _ (program_of c.args.m.now c.module.ensures.typed) c.module.ensures.typed.low
    (ap parts_view c.as_slice.ensures.value ∙ c.in_ok-parts.ensures))

pub returns : goal.returns
returns c =
    functions_linked c.args.m.now c.module.result.now c.args.ns.now _ _ _ _ _ _ _ _ _ _ c.module.ensures.same
    c.in_ok-exports.ensures c.as_slice-2.ensures.value
    (c.heaviest_of-heaviest.ensures ∙ heaviest_is c.args.m.now _ (ap parts_view c.as_slice.ensures.value ∙ c.in_ok-parts.ensures))
    c.in_ok-functions.ensures
    c.in_ok-parts.ensures c.as_slice-3.ensures.value c.in_ok-push_pieces.ensures
    c.as_slice-4.ensures.value c.in_ok-helpers.ensures c.in_ok-push_functions.ensures
