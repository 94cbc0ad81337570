-- Worked cases of what a configuration shows.
use Rattle.std.proofs.Common.{◌≡◌, ℕ, List, [], ◌∷◌, Some, None, refl, pos}
use Rattle.mc_nbt.specs.declared.value.Value.{Value}
use Rattle.mc_nbt.specs.declared.value.Value.TheVariants.{I32}
use Rattle.wm_ast.specs.declared.operation.NumOp.TheVariants.{I32Add, I32Eqz}
use Rattle.wm_ast.specs.Code.{nop, loop, call, memory_fill, num, nil, cons}
use Rattle.wm_ast.specs.Configuration.{Item, value, instruction, label, frame, Items, empty, more}
use Rattle.wm_view.specs.View.{frame_view, inspection, walk, shown}

abbrev int : ℕ → Value
int n = I32 (pos n)

abbrev items : List Item → Items
items [] = empty
items (i ∷ is) = more i (items is)

-- a body of which 1 and 2 are to be added, and then two instructions are left
body : shown (walk (items (frame 1 7 (int 5 ∷ [])
    (items (label 1 nil
    (items (value (int 1) ∷ value (int 2) ∷ instruction (num I32Add) ∷ instruction (num I32Eqz) ∷ instruction nop ∷ []))
    ∷ [])) ∷ [])))
    ≡ inspection (frame_view 7 (int 5 ∷ []) (int 1 ∷ int 2 ∷ []) ∷ []) (Some 0x6A) (3 ∷ [])
body = refl

-- at the end of a loop whose operand 9 stands over 8 of the body, in which one instruction is left behind the loop
loop_end : shown (walk (items (frame 0 0 []
    (items (label 0 nil
    (items (value (int 8) ∷ label 0 (cons (loop None nil) nil) (items (value (int 9) ∷ [])) ∷ instruction nop ∷ []))
    ∷ [])) ∷ [])))
    ≡ inspection (frame_view 0 [] (int 8 ∷ int 9 ∷ []) ∷ []) None (2 ∷ 0 ∷ [])
loop_end = refl

-- a caller with the operand 4, that has a constant and an instruction behind its call; what it calls is to fill memory
two_frames : shown (walk (items (frame 1 2 []
    (items (label 1 nil
    (items (value (int 4)
    ∷ frame 0 3 (int 6 ∷ []) (items (label 0 nil (items (instruction memory_fill ∷ [])) ∷ []))
    ∷ value (int 5) ∷ instruction (num I32Add) ∷ []))
    ∷ [])) ∷ [])))
    ≡ inspection (frame_view 2 [] (int 4 ∷ []) ∷ frame_view 3 (int 6 ∷ []) [] ∷ []) (Some 0xFC0B) (1 ∷ [])
two_frames = refl

-- a call from outside, of the function 3 over one argument
first_call : shown (walk (items (value (int 1) ∷ instruction (call 3) ∷ []))) ≡ inspection [] (Some 0x10) []
first_call = refl

-- the end of a call from outside
end : shown (walk (items (value (int 1) ∷ []))) ≡ inspection [] None []
end = refl
