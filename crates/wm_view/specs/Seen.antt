-- What a configuration of the machine shows: the same, told of its activations.
use Rattle.std.specs.Prelude.{ℕ, suc, List, [], ◌∷◌, ◌++◌, drop, reverse, Option, Some, None}
use Rattle.mc_nbt.specs.declared.value.Value.{Value}
use Rattle.wm_ast.specs.Code.{const, call, Code, nil, cons}
use Rattle.wm_flat.specs.Flat.{Level, Activation, Flat, starting, running, finished}
use Rattle.wm_flat.specs.Operands.{operands}
use Rattle.wm_view.specs.declared.view.FrameView.{FrameView}
use Rattle.wm_view.specs.declared.view.Inspection.{Inspection}
use Rattle.wm_view.specs.View.{frame_view, inspection, opcode_number}

-- the constants with which code begins: for the reduction these are operands already (4.2.13)
abbrev pub constants : Code → List Value
constants nil = []
constants (cons (const v) is) = v ∷ constants is
constants (cons i is) = []

-- the opcode of the first instruction behind these
abbrev pub first_opcode : Code → Option ℕ
first_opcode nil = None
first_opcode (cons (const v) is) = first_opcode is
first_opcode (cons i is) = Some (opcode_number i)

-- how many instructions there are
abbrev pub size : Code → ℕ
size nil = 0
size (cons i is) = suc (size is)

-- how many there are behind the constants with which code begins
abbrev pub behind_constants : Code → ℕ
behind_constants nil = 0
behind_constants (cons (const v) is) = behind_constants is
behind_constants (cons i is) = suc (size is)

-- what is left in the sequences round the innermost one, of the outermost first: what stands behind the block, and the
-- block itself
abbrev pub left_round : List Level → List ℕ
left_round [] = []
left_round (lv ∷ lvs) = left_round lvs ++ suc (size lv.block.rest) ∷ []

-- the frame of a caller: the constants behind its call aren't operands yet
abbrev pub waiting_frame : Activation → FrameView
waiting_frame c = frame_view c.func c.locals (reverse (operands c))

-- the frame of the activation that goes on
abbrev pub going_frame : Activation → FrameView
going_frame a = frame_view a.func a.locals (reverse (operands a) ++ constants a.code)

-- the frames of callers, of which the innermost stands first in their list, and these inside them
abbrev pub frames_round : List Activation → List FrameView → List FrameView
frames_round [] fs = fs
frames_round (c ∷ cs) fs = frames_round cs (waiting_frame c ∷ fs)

-- what is left of an activation: of the sequences in the body's label and in each block, and not of the frame's own
abbrev pub left_of : Activation → List ℕ
left_of a = drop 1 (left_round a.levels ++ behind_constants a.code ∷ [])

abbrev pub seen_running : List Activation → Activation → Inspection
seen_running cs a = inspection (frames_round cs (going_frame a ∷ [])) (first_opcode a.code) (left_of a)

-- what a configuration of the machine shows
abbrev pub seen : Flat → Inspection
seen (starting f vs) = inspection [] (Some (opcode_number (call f))) []
seen (running cs a) = seen_running cs a
seen (finished vs) = inspection [] None []
