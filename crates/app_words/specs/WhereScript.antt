-- Scripts that may ask where the program is: as those over one pack, with the line `where` besides.
use Rattle.std.specs.Prelude.{ℕ, Bool, Option, None, option_map}
use Rattle.std.specs.Option.{option_or}
use Rattle.mc_cmd.specs.declared.TheConstants.{BMIN}
use Rattle.mc_cmd.specs.Form.{Text, Last}
use Rattle.app_words.specs.Act.{Act}
use Rattle.app_words.specs.Act as act
use Rattle.app_words.specs.Script.{act_text, act_fits, act_read, where_form, is_low, ScriptRead, lines_read, texts_of}

-- which acts stand in such a script, where this is the least budget, and the act that a text spells
abbrev pub where_fits : ℕ → Act → Bool
where_fits least act.inspect = where_form.fits tt
where_fits least a = act_fits least a

abbrev pub where_read : ℕ → Text → Option Act
where_read least t =
    option_or (act_read least t) (option_or (option_map (λ u. act.inspect) (where_form.read t)) None)

-- the form of acts of such scripts
abbrev pub where_acts : ℕ → Last Act
where_acts least = record { text = act_text; fits = where_fits least; read = where_read least }

-- what such a script says: its lines are numbered from 1
abbrev pub where_script_read : Text → ScriptRead Act
where_script_read t = lines_read (where_read BMIN) (is_low BMIN) 1 (texts_of t)
