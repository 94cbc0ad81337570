-- Functions with macro lines: the lines of their bodies are open commands and commands.
use Rattle.std.specs.Prelude.{◌≡◌, ℕ, ◌+◌, List, [], ◌∷◌, length, Bool, true, false, ◌&&◌, nat_le}
use Rattle.std.specs.List.{list_all}
use Rattle.mc_nbt.specs.Word.{is_int}
use Rattle.mc_nbt.specs.Tree.{Tree}
use Rattle.mc_cmd.specs.Form.{Text}
use Rattle.mc_cmd.specs.Command.{Cmd}
use Rattle.mc_cmd.specs.Pattern.{is_literal_byte, has_word}
use Rattle.mc_cmd.specs.Grammar.{commands, cmd_text, cmd_fits, most}
use Rattle.mc_cmd.specs.Chain.{Texts}
use Rattle.mc_cmd.specs.steps.OpenText.{Chunk, still, named, Ints, macro_text, Gives, chunks_fit, has_name, Open}

-- whether an open text is that of a macro line
abbrev pub macro_fits : List Chunk → Bool
macro_fits [] = false
macro_fits (named n ∷ ps) = false
macro_fits (still l ∷ ps) = has_word l && (list_all is_literal_byte l && (chunks_fit ps && has_name ps))

-- more than the bytes of a macro line, and of what it is filled to
abbrev pub room : List Chunk → ℕ
room [] = 1
room (still l ∷ ps) = length l + room ps
room (named n ∷ ps) = 40 + room ps

abbrev pub in_range : Ints → List Chunk → Bool
in_range r [] = true
in_range r (still l ∷ ps) = in_range r ps
in_range r (named n ∷ ps) = is_int (r n) && in_range r ps

-- a line of a body: an open command, or a command
pub data BodyLine : Type 0 where
  opened : Open commands → BodyLine
  closed : Cmd → BodyLine

abbrev pub line_with : Ints → BodyLine → Cmd
line_with r (opened o) = o.value r
line_with r (closed c) = c

abbrev pub body_line : BodyLine → Text
body_line (opened o) = macro_text o.chunks
body_line (closed c) = cmd_text c

abbrev pub body_text : List BodyLine → Texts
body_text [] = []
body_text (l ∷ ls) = body_line l ∷ body_text ls

abbrev pub body_with : Ints → List BodyLine → List Cmd
body_with r [] = []
body_with r (l ∷ ls) = line_with r l ∷ body_with r ls

abbrev pub cmds_text : List Cmd → Texts
cmds_text [] = []
cmds_text (c ∷ cs) = cmd_text c ∷ cmds_text cs

-- a line that may be filled with these ints by this tree
pub record Fillable (v : Tree) (r : Ints) (o : Open commands) : Type 0 where
  pub fits : macro_fits o.chunks ≡ true
  pub short : nat_le (room o.chunks) most ≡ true
  pub gives : Gives v r o.chunks
  pub ints : in_range r o.chunks ≡ true
  pub command : cmd_fits (o.value r) ≡ true

abbrev pub LineReady : Tree → Ints → BodyLine → Type 0
LineReady v r (opened o) = Fillable v r o
LineReady v r (closed c) = (cmd_fits c ≡ true) × (nat_le (length (cmd_text c)) most ≡ true)

abbrev pub AllReady : Tree → Ints → List BodyLine → Type 0
AllReady v r [] = Unit {0}
AllReady v r (l ∷ ls) = LineReady v r l × AllReady v r ls
