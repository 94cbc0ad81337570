-- A reader of paths, one step after another.
use Rattle.std.specs.Prelude.{List, [], ◌∷◌, nat_eq, if◌then◌else◌, Option, Some, None, option_map}
use Rattle.mc_nbt.specs.Word.{is_name_byte, is_key}
use Rattle.mc_nbt.specs.Tree.{Part, key, place}
use Rattle.mc_cmd.specs.Form.{Text, cut_at, word}
use Rattle.mc_cmd.specs.Word.{number}
use Rattle.mc_parse.specs.steps.Many.{span, many_then, many}

-- a key, and what is behind it
abbrev pub key_read : Text → Option (Part × Text)
key_read t = option_map (λ k. (key k, (span is_name_byte t).1)) ((word is_key).read (span is_name_byte t).0)

-- a place and its `]`, and what is behind them
abbrev pub place_in : Option (Text × Text) → Option (Part × Text)
place_in None = None
place_in (Some p) = option_map (λ z. (place z, p.1)) (number.read p.0)

abbrev pub place_read : Text → Option (Part × Text)
place_read t = place_in (cut_at 93 t)

-- `.KEY` or `[NUM]`
abbrev pub step_read : Text → Option (Part × Text)
step_read [] = None
step_read (b ∷ t) = if nat_eq b 46 then key_read t else if nat_eq b 91 then place_read t else None

-- a key, and 15 steps at most
abbrev pub path_read : Text → Option (List Part)
path_read t = many_then (key_read t) (many step_read 15)
