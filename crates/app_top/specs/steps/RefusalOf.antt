-- The refusals that the faults of the parts become.
use Rattle.wm_decode.specs.declared.decoding.DecodeFault.{DecodeFault}
use Rattle.wm_decode.specs.declared.decoding.DecodeFault.TheVariants as decodes
use Rattle.wm_profile.specs.declared.fault.ProfileFault.{ProfileFault}
use Rattle.wm_valid.specs.declared.valid_fault.ValidFault.{ValidFault}
use Rattle.wm_valid.specs.declared.valid_fault.ValidFault.TheVariants as valids
use Rattle.wm_match.specs.declared.fault.MatchFault.{MatchFault}
use Rattle.wm_match.specs.declared.fault.MatchFault.TheVariants as matches
use Rattle.app_words.specs.declared.command_line.WordsFault.{WordsFault}
use Rattle.app_words.specs.declared.command_line.WordsFault.TheVariants as words
use Rattle.app_words.specs.declared.reading.ScriptFault.{ScriptFault}
use Rattle.app_words.specs.declared.reading.ScriptFault.TheVariants as scripts
use Rattle.app_top.specs.declared.refusal.Refusal.{Refusal}
use Rattle.app_top.specs.declared.refusal.Refusal.TheVariants as refusals

abbrev pub of_words : WordsFault → Refusal
of_words words.Usage = refusals.Usage
of_words words.Memory = refusals.Memory

abbrev pub of_decode : DecodeFault → Refusal
of_decode decodes.Memory = refusals.Memory
of_decode fault = refusals.NotDecoded fault

abbrev pub of_match : MatchFault → Refusal
of_match matches.Memory = refusals.Memory
of_match fault = refusals.NotLinked fault

abbrev pub of_profile : ProfileFault → Refusal
of_profile fault = refusals.NotInProfile fault

abbrev pub of_valid : ValidFault → Refusal
of_valid valids.Memory = refusals.Memory
of_valid fault = refusals.NotValid fault

abbrev pub of_script : ScriptFault → Refusal
of_script (scripts.Line line low) = refusals.Script line low
of_script scripts.Memory = refusals.Memory
