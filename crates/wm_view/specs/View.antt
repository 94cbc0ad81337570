-- What a configuration of the reduction shows (4.2.12, 4.2.13) to one who looks at the program: the frames of the calls
-- that haven't returned, the next instruction, and how much is left of the sequences round it. What is shown, and in
-- which order, is a rule of our own.
use Rattle.std.specs.Prelude.{ℕ, suc, ◌+◌, ◌*◌, List, [], ◌∷◌, drop, Option, Some, None}
use Rattle.mc_nbt.specs.declared.value.Value.{Value}
use Rattle.wm_ast.specs.Code.{Op, memory_copy, memory_fill}
use Rattle.wm_ast.specs.Opcode.{opcode, prefix, copy_number, fill_number}
use Rattle.wm_ast.specs.Configuration.{value, instruction, label, frame, Items, empty, more, Config}
use Rattle.wm_view.specs.declared.view.FrameView.{FrameView}
use Rattle.wm_view.specs.declared.view.Inspection.{Inspection}

-- A frame (4.2.12): the index of its function, its locals, and its operands, the lowest first.
abbrev pub frame_view : ℕ → List Value → List Value → FrameView
frame_view f locals operands = record { func = f; locals = locals; operands = operands }

-- The frames, the outermost first; the opcode of the next instruction, none at the end of a sequence; and for each
-- label of the innermost frame, the outermost first, how many items stand behind the values inside it.
abbrev pub inspection : List FrameView → Option ℕ → List ℕ → Inspection
inspection frames next left = record { frames = frames; next = next; left = left }

-- an opcode (5.4) as one number: its byte, or the prefix and the number behind it, as a byte each (edition 2.0, 5.4.6)
abbrev pub opcode_number : Op → ℕ
opcode_number memory_copy = 256 * prefix + copy_number
opcode_number memory_fill = 256 * prefix + fill_number
opcode_number i = opcode i

-- how many items these are
abbrev pub count : Items → ℕ
count empty = 0
count (more i is) = suc (count is)

-- What a sequence shows: the operands in it that are in no frame further inside, the frames in it, the opcode of the
-- next instruction, and what is left. This is told of the sequence and of the labels in it, the outermost first, or,
-- where there are frames in it, of the labels of the innermost one.
pub record Walk : Type 0 where
  pub operands : List Value
  pub frames : List FrameView
  pub next : Option ℕ
  pub left : List ℕ

-- the number of a sequence in front of those of the labels in it, unless these are a frame's
abbrev pub with_count : List FrameView → ℕ → List ℕ → List ℕ
with_count [] n ns = n ∷ ns
with_count (f ∷ fs) n ns = ns

-- the numbers of a frame: without that of its own sequence, which is no label's
abbrev pub of_labels : List FrameView → List ℕ → List ℕ
of_labels [] ns = drop 1 ns
of_labels (f ∷ fs) ns = ns

-- a sequence with a value before it: a lower operand
abbrev pub with_value : Value → Walk → Walk
with_value v w = record w { operands = v ∷ w.operands }

-- a sequence of so many items, whose first is a label round what shows this: the label counts as one
abbrev pub with_label : ℕ → Walk → Walk
with_label n w = record w { left = with_count w.frames n w.left }

-- a sequence whose first item is a frame round what shows this
abbrev pub with_frame : ℕ → List Value → Walk → Walk
with_frame f locals w = record {
  operands = [];
  frames = frame_view f locals w.operands ∷ w.frames;
  next = w.next;
  left = of_labels w.frames w.left;
}

-- A sequence is followed to its first item that is no value, and into a label or a frame, also where values alone are
-- in it: so what a block has left that is at its end is among the operands.
abbrev pub walk : Items → Walk
walk empty = record { operands = []; frames = []; next = None; left = 0 ∷ [] }
walk (more (value v) is) = with_value v (walk is)
walk (more (instruction i) is) =
    record { operands = []; frames = []; next = Some (opcode_number i); left = suc (count is) ∷ [] }
walk (more (label n again body) is) = with_label (suc (count is)) (walk body)
walk (more (frame n f locals body) is) = with_frame f locals (walk body)

-- where no frame stands, no label's number is told
abbrev pub in_frames : List FrameView → List ℕ → List ℕ
in_frames [] ns = []
in_frames (f ∷ fs) ns = ns

-- what the sequence of a whole term shows, of which the operands outside of all frames aren't told
abbrev pub shown : Walk → Inspection
shown w = inspection w.frames w.next (in_frames w.frames w.left)

-- what a configuration shows
abbrev pub view : Config → Inspection
view c = shown (walk c.term)
