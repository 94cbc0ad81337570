use Rattle.wm_decode.proofs.DecodeLaws.{same_module}
use Rattle.wm_decode.proofs.decoding.one_module.Goals as goal

pub returns : goal.returns
returns c = same_module
