use Rattle.std.proofs.Common.{refl, arith}
use Rattle.wm_frame.proofs.FrameLemmas.{is_frame, too_short}
use Rattle.wm_frame.proofs.section.frame_at.Goals as goal

pub returns-then-size-bytes-clause-none : goal.returns-then-size-bytes-clause-none
returns-then-size-bytes-clause-none c =
    too_short c.args.bytes.now c.args.at c.read_u32.new.c.at c.in_ok-size.field-0 c.requires (omega (arith, c.in_ok-size.ensures.moved)) c.in_ok-size.ensures.found (omega (arith, c.in_ok-size.ensures.moved))

pub returns-clause-found : goal.returns-clause-found
returns-clause-found c =
    is_frame c.args.bytes.now c.args.at _ c.read_u32.new.c.at c.in_ok-size.field-0 c.requires refl (omega arith) (omega (arith, c.in_ok-size.ensures.moved)) c.in_ok-size.ensures.found (omega (arith, c.in_ok-size.ensures.moved))
