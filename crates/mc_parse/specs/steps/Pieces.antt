-- A reader of macro lines, one part after another.
use Rattle.std.specs.Prelude.{List, [], ◌∷◌, length, if◌then◌else◌, Option, Some, None, option_map, option_and_then}
use Rattle.mc_nbt.specs.Word.{is_key}
use Rattle.mc_cmd.specs.Form.{Text, strip, cut_at, word}
use Rattle.mc_cmd.specs.Command.{PatternPart, literal, hole}
use Rattle.mc_cmd.specs.Pattern.{is_literal_byte, pattern_fits}
use Rattle.mc_parse.specs.steps.Many.{span, many}

-- a name and its `)`, and what is behind them
abbrev pub name_in : Option (Text × Text) → Option (PatternPart × Text)
name_in None = None
name_in (Some p) = option_map (λ n. (hole n, p.1)) ((word is_key).read p.0)

abbrev pub hole_read : Text → Option (PatternPart × Text)
hole_read t = option_and_then (λ r. name_in (cut_at 41 r)) (strip (36 ∷ 40 ∷ []) t)

-- a literal part as long as may be, or `$(NAME)`
abbrev pub piece_by : Text → Text → Text → Option (PatternPart × Text)
piece_by [] r t = hole_read t
piece_by (b ∷ l) r t = Some (literal (b ∷ l), r)

abbrev pub piece_read : Text → Option (PatternPart × Text)
piece_read t = piece_by (span is_literal_byte t).0 (span is_literal_byte t).1 t

abbrev pub fitting : List PatternPart → Option (List PatternPart)
fitting ps = if pattern_fits ps then Some ps else None

abbrev pub pieces_read : Text → Option (List PatternPart)
pieces_read t = many piece_read (length t) t

abbrev pub pattern_read : Text → Option (List PatternPart)
pattern_read t = option_and_then (λ r. option_and_then fitting (pieces_read r)) (strip (36 ∷ []) t)
