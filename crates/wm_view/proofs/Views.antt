-- What is seen of a term is what is seen of the machine's activations.
use Rattle.std.proofs.Common.{◌≡◌, ℕ, suc, List, [], ◌∷◌, ◌++◌, Option, Some, None, refl, sym, ap, ap₂, ◌∙◌}
use Rattle.std.proofs.Common.{append_assoc}
use Rattle.std.specs.Prelude.{reverse}
use Rattle.std.proofs.lemmas.List.{reverse-append, append-nil}
use Rattle.mc_nbt.specs.declared.value.Value.{Value}
use Rattle.wm_ast.specs.Code.{Op, unreachable, nop, block, loop, if_else, br, br_if, br_table, return, call}
use Rattle.wm_ast.specs.Code.{call_indirect, drop_one, select, local_get, local_set, local_tee, global_get, global_set}
use Rattle.wm_ast.specs.Code.{load, store, memory_size, memory_grow, memory_copy, memory_fill, const, num, float, mul64}
use Rattle.wm_ast.specs.Code.{Code, nil, cons}
use Rattle.wm_ast.specs.Configuration.{Item, value, instruction, label, Items, empty, more, item_of}
use Rattle.wm_ast.specs.Configuration.{items_of, after_values}
use Rattle.wm_ast.specs.Store.{Store}
use Rattle.wm_flat.specs.Flat.{Level, Activation, Flat, starting, running, finished, count_of, again_of, wrap, plug}
use Rattle.wm_flat.specs.Flat.{body_with, frame_with, around, config_of}
use Rattle.wm_flat.specs.Operands.{under, operands}
use Rattle.wm_view.specs.declared.view.FrameView.{FrameView}
use Rattle.wm_view.specs.View.{inspection, opcode_number, count, Walk, with_count, with_value, with_label}
use Rattle.wm_view.specs.View.{with_frame, walk, in_frames, shown, view}
use Rattle.wm_view.specs.Seen.{constants, first_opcode, size, behind_constants, left_round, waiting_frame, going_frame}
use Rattle.wm_view.specs.Seen.{frames_round, left_of, seen_running, seen}

abbrev make : List Value → List FrameView → Option ℕ → List ℕ → Walk
make os fs x ns = record { operands = os; frames = fs; next = x; left = ns }

-- values before a sequence are operands more
over_values : (vs : List Value) (is : Items) (os : List Value) (fs : List FrameView) (x : Option ℕ) (ns : List ℕ)
    → walk is ≡ make os fs x ns → walk (after_values vs is) ≡ make (reverse vs ++ os) fs x ns
over_values [] is os fs x ns e = e
over_values (v ∷ vs) is os fs x ns e =
    over_values vs (more (value v) is) (v ∷ os) fs x ns (ap (with_value v) e)
    ∙ ap (λ (l : List Value). make l fs x ns)
    (sym (append_assoc (reverse vs) (v ∷ []) os) ∙ ap (λ (l : List Value). l ++ os) (sym (reverse-append (v ∷ []) vs)))

counted : (c : Code) → count (items_of c) ≡ size c
counted nil = refl
counted (cons i is) = ap suc (counted is)

op_walk : (i : Op) (is : Code) → item_of i ≡ instruction i
    → walk (more (item_of i) (items_of is)) ≡ make [] [] (Some (opcode_number i)) (suc (size is) ∷ [])
op_walk i is e =
    ap (λ (y : Item). walk (more y (items_of is))) e
    ∙ ap (λ (n : ℕ). make [] [] (Some (opcode_number i)) (suc n ∷ [])) (counted is)

code_walk : (c : Code) → walk (items_of c) ≡ make (constants c) [] (first_opcode c) (behind_constants c ∷ [])
code_walk nil = refl
code_walk (cons (const v) is) = ap (with_value v) (code_walk is)
code_walk (cons unreachable is) = op_walk unreachable is refl
code_walk (cons nop is) = op_walk nop is refl
code_walk (cons (block ty body) is) = op_walk (block ty body) is refl
code_walk (cons (loop ty body) is) = op_walk (loop ty body) is refl
code_walk (cons (if_else ty one two) is) = op_walk (if_else ty one two) is refl
code_walk (cons (br l) is) = op_walk (br l) is refl
code_walk (cons (br_if l) is) = op_walk (br_if l) is refl
code_walk (cons (br_table ls l) is) = op_walk (br_table ls l) is refl
code_walk (cons return is) = op_walk return is refl
code_walk (cons (call f) is) = op_walk (call f) is refl
code_walk (cons (call_indirect f) is) = op_walk (call_indirect f) is refl
code_walk (cons drop_one is) = op_walk drop_one is refl
code_walk (cons select is) = op_walk select is refl
code_walk (cons (local_get x) is) = op_walk (local_get x) is refl
code_walk (cons (local_set x) is) = op_walk (local_set x) is refl
code_walk (cons (local_tee x) is) = op_walk (local_tee x) is refl
code_walk (cons (global_get x) is) = op_walk (global_get x) is refl
code_walk (cons (global_set x) is) = op_walk (global_set x) is refl
code_walk (cons (load o a b) is) = op_walk (load o a b) is refl
code_walk (cons (store o a b) is) = op_walk (store o a b) is refl
code_walk (cons memory_size is) = op_walk memory_size is refl
code_walk (cons memory_grow is) = op_walk memory_grow is refl
code_walk (cons memory_copy is) = op_walk memory_copy is refl
code_walk (cons memory_fill is) = op_walk memory_fill is refl
code_walk (cons (num o) is) = op_walk (num o) is refl
code_walk (cons (float n) is) = op_walk (float n) is refl
code_walk (cons mul64 is) = op_walk mul64 is refl

-- numbers for the sequences round one, where no frame is further inside
abbrev rounds : List FrameView → List Level → List ℕ → List ℕ
rounds [] lvs ns = left_round lvs ++ ns
rounds (f ∷ fs) lvs ns = ns

one_round : (fs : List FrameView) (lv : Level) (lvs : List Level) (ns : List ℕ)
    → rounds fs lvs (with_count fs (suc (count (items_of lv.block.rest))) ns) ≡ rounds fs (lv ∷ lvs) ns
one_round [] lv lvs ns =
    ap (λ (n : ℕ). left_round lvs ++ (suc n ∷ ns)) (counted lv.block.rest)
    ∙ sym (append_assoc (left_round lvs) (suc (size lv.block.rest) ∷ []) ns)
one_round (f ∷ fs) lv lvs ns = refl

no_round : (fs : List FrameView) (ns : List ℕ) → rounds fs [] ns ≡ ns
no_round [] ns = refl
no_round (f ∷ fs) ns = refl

-- inside blocks
inside_walk : (lvs : List Level) (is : Items) (os : List Value) (fs : List FrameView) (x : Option ℕ) (ns : List ℕ)
    → walk is ≡ make os fs x ns → walk (plug lvs is) ≡ make (reverse (under lvs) ++ os) fs x (rounds fs lvs ns)
inside_walk [] is os fs x ns e = e ∙ ap (make os fs x) (sym (no_round fs ns))
inside_walk (lv ∷ lvs) is os fs x ns e =
    inside_walk lvs (wrap lv is) (reverse lv.values ++ os) fs x
    (with_count fs (suc (count (items_of lv.block.rest))) ns)
    (over_values lv.values (more (label (count_of lv.block.op) (again_of lv.block.op) is) (items_of lv.block.rest)) os fs x
    (with_count fs (suc (count (items_of lv.block.rest))) ns)
    (ap (with_label (suc (count (items_of lv.block.rest)))) e))
    ∙ ap₂ (λ (l : List Value) (k : List ℕ). make l fs x k)
    (sym (append_assoc (reverse (under lvs)) (reverse lv.values) os)
    ∙ ap (λ (l : List Value). l ++ os) (sym (reverse-append lv.values (under lvs))))
    (one_round fs lv lvs ns)

-- the operands of an activation, the lowest first
lowest_first : (a : Activation) (os : List Value)
    → reverse (under a.levels) ++ (reverse a.values ++ os) ≡ reverse (operands a) ++ os
lowest_first a os =
    sym (append_assoc (reverse (under a.levels)) (reverse a.values) os)
    ∙ ap (λ (l : List Value). l ++ os) (sym (reverse-append a.values (under a.levels)))

-- the frame that goes on
going_walk : (a : Activation)
    → walk (body_with a empty)
    ≡ make (reverse (operands a) ++ constants a.code) [] (first_opcode a.code) (left_round a.levels ++ (behind_constants a.code ∷ []))
going_walk a =
    inside_walk a.levels (after_values a.values (items_of a.code)) (reverse a.values ++ constants a.code) []
    (first_opcode a.code) (behind_constants a.code ∷ [])
    (over_values a.values (items_of a.code) (constants a.code) [] (first_opcode a.code) (behind_constants a.code ∷ [])
    (code_walk a.code))
    ∙ ap (λ (l : List Value). make l [] (first_opcode a.code) (left_round a.levels ++ (behind_constants a.code ∷ [])))
    (lowest_first a (constants a.code))

-- a frame round one
waiting_walk : (c : Activation) (f : Item) (g : FrameView) (gs : List FrameView) (x : Option ℕ) (ns : List ℕ)
    → ((js : Items) → walk (more f js) ≡ make [] (g ∷ gs) x ns)
    → walk (body_with c (more f empty)) ≡ make (reverse (operands c)) (g ∷ gs) x ns
waiting_walk c f g gs x ns e =
    inside_walk c.levels (after_values c.values (more f (items_of c.code))) (reverse c.values ++ []) (g ∷ gs) x ns
    (over_values c.values (more f (items_of c.code)) [] (g ∷ gs) x ns (e (items_of c.code)))
    ∙ ap (λ (l : List Value). make l (g ∷ gs) x ns) (lowest_first c [] ∙ append-nil (reverse (operands c)))

round_walk : (cs : List Activation) (f : Item) (g : FrameView) (gs : List FrameView) (x : Option ℕ) (ns : List ℕ)
    → ((js : Items) → walk (more f js) ≡ make [] (g ∷ gs) x ns)
    → walk (around cs f) ≡ make [] (frames_round cs (g ∷ gs)) x ns
round_walk [] f g gs x ns e = e empty
round_walk (c ∷ cs) f g gs x ns e =
    round_walk cs (frame_with c (more f empty)) (waiting_frame c) (g ∷ gs) x ns
    (λ js. ap (with_frame c.func c.locals) (waiting_walk c f g gs x ns e))

-- frames stand
frames_stand : (cs : List Activation) (g : FrameView) (gs : List FrameView) (ns : List ℕ)
    → in_frames (frames_round cs (g ∷ gs)) ns ≡ ns
frames_stand [] g gs ns = refl
frames_stand (c ∷ cs) g gs ns = frames_stand cs (waiting_frame c) (g ∷ gs) ns

pub running_view : (s : Store) (cs : List Activation) (a : Activation)
    → view (config_of s (running cs a)) ≡ seen_running cs a
running_view s cs a =
    ap shown
    (round_walk cs (frame_with a empty) (going_frame a) [] (first_opcode a.code) (left_of a)
    (λ js. ap (with_frame a.func a.locals) (going_walk a)))
    ∙ ap (inspection (frames_round cs (going_frame a ∷ [])) (first_opcode a.code))
    (frames_stand cs (going_frame a) [] (left_of a))

pub views_agree : (s : Store) (c : Flat) → view (config_of s c) ≡ seen c
views_agree s (starting f vs) =
    ap shown (over_values vs (more (instruction (call f)) empty) [] [] (Some (opcode_number (call f))) (1 ∷ []) refl)
views_agree s (running cs a) = running_view s cs a
views_agree s (finished vs) = ap shown (over_values vs empty [] [] None (0 ∷ []) refl)
