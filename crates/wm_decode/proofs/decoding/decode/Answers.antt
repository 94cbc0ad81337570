use Rattle.wm_decode.proofs.DecodeLaws.{only_decoding}
use Rattle.wm_decode.proofs.decoding.decode.Goals as goal

pub returns-clause-only : goal.returns-clause-only
returns-clause-only c = only_decoding c.args.bytes.now c.decode_all.result c.decode_all.ensures
