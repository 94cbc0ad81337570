use Rattle.std.proofs.Common.{ℕ, List, map}
use Rattle.wm_frame.specs.Framing.{section_of}
use Rattle.wm_frame.proofs.FrameLemmas.{Continues}
use Rattle.wm_frame.proofs.section.first_astray.Given as goal

abbrev pub invariant-loop-index : goal.invariant-loop-index
invariant-loop-index l = (bytes : List ℕ) → Continues (map (section_of bytes) l.items) l.index l.last
