use Rattle.pk_link.proofs.AddLemmas.{taken_name, taken_lines, taken_absent}
use Rattle.pk_link.proofs.linking.pack_of.Goals as goal

pub add-requires-clause-name : goal.add-requires-clause-name
add-requires-clause-name c = taken_name _ _ _ _ _ c.loop-function.invariant.1 c.in-Some.ensures.steps.0 c.requires.functions

pub add-requires-clause-lines : goal.add-requires-clause-lines
add-requires-clause-lines c = taken_lines _ _ _ _ _ c.loop-function.invariant.1 c.in-Some.ensures.steps.0 c.requires.functions

pub add-requires-clause-absent : goal.add-requires-clause-absent
add-requires-clause-absent c =
    taken_absent _ _ _ _ _ _ _ c.loop-function.invariant.0 c.loop-function.invariant.1 c.in-Some.ensures.steps.0 c.requires.functions
