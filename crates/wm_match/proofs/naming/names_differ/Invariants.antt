use Rattle.wm_valid.specs.steps.Names.{NamesBefore}
use Rattle.wm_match.proofs.NamingLaws.{NamesApart}
use Rattle.wm_match.proofs.naming.names_differ.Given as goal

abbrev pub invariant-loop-index : goal.invariant-loop-index
invariant-loop-index l = record { apart : NamesApart l.exports l.index; names : NamesBefore l.exports l.index l.names }
