use Rattle.std.proofs.Common.{◌≡◌, drop, max}
use Rattle.cc_pieces.specs.Parts.{parts_view}
use Rattle.pk_agree.specs.Heaviest.{parts_most}
use Rattle.pk_link.proofs.functions.heaviest_of.Given as goal

abbrev pub invariant-loop-part : goal.invariant-loop-part
invariant-loop-part l = max l.most (parts_most (parts_view (drop l.part-index l.parts))) ≡ parts_most (parts_view l.parts)
