use Rattle.wm_decode.proofs.decoding.DecodeFaultDisplay.fmt.Goals as goal

pub returns-in-CountMismatch-clause-writes : goal.returns-in-CountMismatch-clause-writes
returns-in-CountMismatch-clause-writes g c plain ok = rw c.in-CountMismatch.is (c.write-in-CountMismatch.ensures.writes plain ok)
