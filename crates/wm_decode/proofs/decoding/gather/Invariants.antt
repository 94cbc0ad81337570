use Rattle.std.proofs.Common.{map, take}
use Rattle.wm_frame.specs.Framing.{section_of}
use Rattle.wm_decode.specs.steps.SectionsReading.{IsGathered}
use Rattle.wm_decode.proofs.decoding.gather.Given as goal

abbrev pub invariant-loop-index : goal.invariant-loop-index
invariant-loop-index l = IsGathered (take l.index (map (section_of l.bytes) l.items)) l.parts
