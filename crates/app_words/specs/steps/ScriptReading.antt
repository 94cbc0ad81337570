-- The lines of scripts, of those that may ask where the program is and of those that may not.
use Rattle.std.specs.Prelude.{Bool, true, false, Option}
use Rattle.mc_cmd.specs.declared.TheConstants.{BMIN}
use Rattle.mc_cmd.specs.Form.{Text}
use Rattle.app_words.specs.Act.{Act}
use Rattle.app_words.specs.Script.{act_read, is_low, ScriptRead, lines_read, texts_of}
use Rattle.app_words.specs.WhereScript.{where_read}

-- the act that a text spells, and what a script says, where it may ask and where it may not
abbrev pub act_by : Bool → Text → Option Act
act_by true = where_read BMIN
act_by false = act_read BMIN

abbrev pub said_by : Bool → Text → ScriptRead Act
said_by asks t = lines_read (act_by asks) (is_low BMIN) 1 (texts_of t)
