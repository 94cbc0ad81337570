use Rattle.wm_decode.proofs.DecodeLaws.{one_decoding}
use Rattle.wm_decode.proofs.decoding.decode_has_one_answer.Goals as goal

pub returns : goal.returns
returns c = one_decoding
