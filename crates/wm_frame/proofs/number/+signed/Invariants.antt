use Rattle.wm_frame.proofs.number.+signed.Given as goal

abbrev pub decreases-signed : goal.decreases-signed
decreases-signed l = l.bits
