-- The lines that tell where a program is.
use Rattle.std.specs.Prelude.{ℕ, ◌+◌, ◌-◌, List, [], ◌∷◌, ◌++◌, length, replicate, nat_lt, false, if◌then◌else◌}
use Rattle.std.specs.Prelude.{Option, Some, None, codes}
use Rattle.std.specs.Fmt.{decimal, digits}
use Rattle.mc_nbt.specs.declared.value.Value.{Value}
use Rattle.mc_cmd.specs.Form.{Text}
use Rattle.wm_view.specs.declared.view.FrameView.{FrameView}
use Rattle.wm_view.specs.declared.view.Inspection.{Inspection}
use Rattle.app_words.specs.Lines.{ended_line, value_text}

-- a line for each value of a frame, the first of which has this number
abbrev pub value_line : Text → ℕ → Value → Text
value_line what k v = what ++ (32 ∷ (decimal k ++ (32 ∷ ended_line (value_text v))))

abbrev pub value_lines : Text → ℕ → List Value → Text
value_lines what k [] = []
value_lines what k (v ∷ vs) = value_line what k v ++ value_lines what (k + 1) vs

-- a frame of this number: its function, its locals and its operands
abbrev pub frame_line : ℕ → ℕ → Text
frame_line j func = codes "frame " ++ (decimal j ++ (codes " function " ++ ended_line (decimal func)))

abbrev pub frame_text : ℕ → FrameView → Text
frame_text j f =
    frame_line j f.func ++ (value_lines (codes "local") 0 f.locals ++ value_lines (codes "operand") 0 f.operands)

-- the frames, the first of which has this number
abbrev pub frame_lines : ℕ → List FrameView → Text
frame_lines j [] = []
frame_lines j (f ∷ fs) = frame_text j f ++ frame_lines (j + 1) fs

-- a number in hex, with zeros before it up to so many digits
abbrev pub hex_text : ℕ → ℕ → Text
hex_text width n = replicate (width - length (digits 16 false n)) 48 ++ digits 16 false n

-- the next instruction, by its opcode of one byte or of two
abbrev pub opcode_text : Option ℕ → Text
opcode_text None = codes "end"
opcode_text (Some n) = if nat_lt n 256 then hex_text 2 n else hex_text 4 n

abbrev pub next_line : Option ℕ → Text
next_line o = codes "next " ++ ended_line (opcode_text o)

-- numbers, with a space before each
abbrev pub numbers_text : List ℕ → Text
numbers_text [] = []
numbers_text (n ∷ ns) = (32 ∷ decimal n) ++ numbers_text ns

abbrev pub left_line : List ℕ → Text
left_line ns = codes "left" ++ ended_line (numbers_text ns)

-- what a program shows that runs: its frames, the outermost first, the next instruction, and what is left
abbrev pub where_lines : Inspection → Text
where_lines v = frame_lines 0 v.frames ++ (next_line v.next ++ left_line v.left)

-- the line of a program that is being instantiated
abbrev pub start_line : Text
start_line = ended_line (codes "start")
