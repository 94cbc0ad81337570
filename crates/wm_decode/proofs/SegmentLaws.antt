-- Globals, segments and functions: what is read is spelled, and what is spelled is read, whatever follows.
use Rattle.std.proofs.Common.{◌≡◌, ℕ, ◌^◌, ltb, List, [], ◌∷◌, ◌++◌, Some, refl, sym, ap, subst, ◌∙◌, ltb-true}
use Rattle.std.proofs.lemmas.Bool.{lt-ltb}
use Rattle.wm_ast.specs.declared.instruction.Instr.{Instr}
use Rattle.wm_ast.specs.declared.module.Run.{Run}
use Rattle.wm_ast.specs.declared.module.Global.{Global}
use Rattle.wm_ast.specs.declared.module.Elem.{Elem}
use Rattle.wm_ast.specs.declared.module.Data.{Data}
use Rattle.wm_ast.specs.Instruction.{type_byte, SpellsExpr}
use Rattle.wm_ast.specs.Part.{SpellsGlobal, SpellsElem, SpellsData, SpellsRun, locals_count, SpellsFunction, SpellsBody}
use Rattle.wm_ast.specs.Vector.{SpellsVector, SpellsIndex, SpellsBytes}
use Rattle.wm_ast.specs.View.{code_of, instrs_of}
use Rattle.wm_ast.proofs.ViewLaws.{views_back, views_forth}
use Rattle.wm_frame.specs.Front.{AtFront}
use Rattle.wm_frame.specs.Reading.{unsigned_at}
use Rattle.wm_frame.proofs.Readers.{IsBytes, IsBytes-after, IsBytes-front, Reads, some_is, if_some, bind_some}
use Rattle.wm_decode.specs.steps.ContentReading.{seen_body}
use Rattle.wm_decode.specs.steps.Instruction.{expr_at}
use Rattle.wm_decode.specs.steps.Listing.{list_at, bytes_at, whole}
use Rattle.wm_decode.specs.steps.PartReading.{global_type_at}
use Rattle.wm_decode.specs.steps.SegmentReading.{expression_at, global_at, elem_at, data_at, run_at, function_at, body_at}
use Rattle.wm_decode.specs.steps.ValueType.{val_type_at}
use Rattle.wm_decode.specs.declared.segment.Body.{Body}
use Rattle.wm_decode.proofs.InstructionLaws.{expr_reads}
use Rattle.wm_decode.proofs.Listings.{joined, regrouped, three_reads, index_reads, list_reads, bytes_reads, whole_takes, whole_again}
use Rattle.wm_decode.proofs.PartLaws.{val_type_reads, global_type_reads}

-- an expression, by its instructions
abbrev pub SpellsInstrs : List Instr → List ℕ → Type 0
SpellsInstrs is bytes = SpellsExpr (code_of is) bytes

expression_again : (front : List ℕ) (is : List Instr) (rest : List ℕ) → SpellsInstrs is front → expression_at (front ++ rest) ≡ Some (is, rest)
unfolding expression_at
expression_again front is rest h = rw (expr_reads.again front (code_of is) rest h) (ap (λ (js : List Instr). Some (js, rest)) (views_back is))

expression_takes : (bytes : List ℕ) (y : List Instr × List ℕ) → IsBytes bytes → expression_at bytes ≡ Some y → AtFront SpellsInstrs bytes y.0 y.1
unfolding expression_at
expression_takes bytes y fits e =
    let a = bind_some (expr_at bytes) _ y e in
    let t = expr_reads.takes bytes a.0 fits a.1 in
    subst (λ (z : List Instr × List ℕ). AtFront SpellsInstrs bytes z.0 z.1) (some_is (instrs_of a.0.0, a.0.1) y a.2)
    (record { front = t.front; parts = t.parts; spells = subst (λ c. SpellsExpr c t.front) (sym (views_forth a.0.0)) t.spells })

expression_reads : Reads SpellsInstrs expression_at
expression_reads = record { again = expression_again; takes = expression_takes }

global_again : (front : List ℕ) (g : Global) (rest : List ℕ) → SpellsGlobal g front → global_at (front ++ rest) ≡ Some (g, rest)
unfolding global_at
global_again front g rest h =
    ap global_at (regrouped front h.0 h.1 rest h.4) ∙ rw (global_type_reads.again h.0 (g.ty, g.mutable) (h.1 ++ rest) h.2, expression_reads.again h.1 g.init rest h.3) refl

global_takes : (bytes : List ℕ) (y : Global × List ℕ) → IsBytes bytes → global_at bytes ≡ Some y → AtFront SpellsGlobal bytes y.0 y.1
unfolding global_at
global_takes bytes y fits e =
    let a = bind_some (global_type_at bytes) _ y e in
    let b = bind_some (expression_at a.0.1) _ y a.2 in
    let t = global_type_reads.takes bytes a.0 fits a.1 in
    let u = expression_reads.takes a.0.1 b.0 (IsBytes-after bytes t.front a.0.1 t.parts fits) b.1 in
    subst (λ (z : Global × List ℕ). AtFront SpellsGlobal bytes z.0 z.1) (some_is (record { ty = a.0.0.0; mutable = a.0.0.1; init = b.0.0 }, b.0.1) y b.2)
    (record { front = t.front ++ u.front; parts = joined bytes t.front u.front a.0.1 b.0.1 t.parts u.parts; spells = (t.front, u.front, t.spells, u.spells, refl) })

pub global_reads : Reads SpellsGlobal global_at
global_reads = record { again = global_again; takes = global_takes }

indices_reads : Reads (SpellsVector SpellsIndex) (list_at (unsigned_at 32))
indices_reads = list_reads SpellsIndex (unsigned_at 32) index_reads

pub elem_reads : Reads SpellsElem elem_at
unfolding elem_at
elem_reads =
    three_reads (λ (e : Elem). e.table) (λ (e : Elem). e.offset) (λ (e : Elem). e.funcs)
    (λ table offset funcs. record { table = table; offset = offset; funcs = funcs }) (λ e. refl) (λ a b c. (refl, refl, refl)) index_reads expression_reads indices_reads

pub data_reads : Reads SpellsData data_at
unfolding data_at
data_reads =
    three_reads (λ (d : Data). d.memory) (λ (d : Data). d.offset) (λ (d : Data). d.bytes)
    (λ memory offset items. record { memory = memory; offset = offset; bytes = items }) (λ d. refl) (λ a b c. (refl, refl, refl)) index_reads expression_reads bytes_reads

run_again : (front : List ℕ) (r : Run) (rest : List ℕ) → SpellsRun r front → run_at (front ++ rest) ≡ Some (r, rest)
unfolding run_at
run_again front r rest h =
    ap run_at (regrouped front h.0 (type_byte r.ty ∷ []) rest h.2) ∙ rw (index_reads.again h.0 r.count (type_byte r.ty ∷ rest) h.1, val_type_reads.again (type_byte r.ty ∷ []) r.ty rest refl) refl

run_takes : (bytes : List ℕ) (y : Run × List ℕ) → IsBytes bytes → run_at bytes ≡ Some y → AtFront SpellsRun bytes y.0 y.1
unfolding run_at
run_takes bytes y fits e =
    let a = bind_some (unsigned_at 32 bytes) _ y e in
    let b = bind_some (val_type_at a.0.1) _ y a.2 in
    let t = index_reads.takes bytes a.0 fits a.1 in
    let u = val_type_reads.takes a.0.1 b.0 (IsBytes-after bytes t.front a.0.1 t.parts fits) b.1 in
    subst (λ (z : Run × List ℕ). AtFront SpellsRun bytes z.0 z.1) (some_is (record { count = a.0.0; ty = b.0.0 }, b.0.1) y b.2)
    (record {
      front = t.front ++ u.front;
      parts = joined bytes t.front u.front a.0.1 b.0.1 t.parts u.parts;
      spells = (t.front, t.spells, ap (λ (l : List ℕ). t.front ++ l) u.spells);
    })

runs_reads : Reads (SpellsVector SpellsRun) (list_at run_at)
runs_reads = list_reads SpellsRun run_at (record { again = run_again; takes = run_takes })

-- a function, as the grammar has it
abbrev SpellsUnsized : Body → List ℕ → Type 0
SpellsUnsized b bytes = SpellsFunction (seen_body b) bytes

function_again : (front : List ℕ) (b : Body) (rest : List ℕ) → SpellsUnsized b front → function_at (front ++ rest) ≡ Some (b, rest)
unfolding function_at
function_again front b rest h =
    ap function_at (regrouped front h.0 h.1 rest h.5)
    ∙ rw (runs_reads.again h.0 b.locals (h.1 ++ rest) h.2, expression_reads.again h.1 b.body rest h.4, lt-ltb (locals_count b.locals) (2 ^ 32) h.3) refl

function_takes : (bytes : List ℕ) (y : Body × List ℕ) → IsBytes bytes → function_at bytes ≡ Some y → AtFront SpellsUnsized bytes y.0 y.1
unfolding function_at
function_takes bytes y fits e =
    let a = bind_some (list_at run_at bytes) _ y e in
    let b = bind_some (expression_at a.0.1) _ y a.2 in
    let f : Body = record { locals = a.0.0; body = b.0.0 } in
    let g = if_some (ltb (locals_count a.0.0) (2 ^ 32)) (f, b.0.1) y b.2 in
    let t = runs_reads.takes bytes a.0 fits a.1 in
    let u = expression_reads.takes a.0.1 b.0 (IsBytes-after bytes t.front a.0.1 t.parts fits) b.1 in
    subst (λ (z : Body × List ℕ). AtFront SpellsUnsized bytes z.0 z.1) g.1
    (record {
      front = t.front ++ u.front;
      parts = joined bytes t.front u.front a.0.1 b.0.1 t.parts u.parts;
      spells = (t.front, u.front, t.spells, ltb-true (locals_count a.0.0) (2 ^ 32) g.0, u.spells, refl);
    })

function_reads : Reads SpellsUnsized function_at
function_reads = record { again = function_again; takes = function_takes }

-- a function with its size, as the grammar has it
abbrev pub SpellsSized : Body → List ℕ → Type 0
SpellsSized b bytes = SpellsBody (seen_body b) bytes

body_again : (front : List ℕ) (b : Body) (rest : List ℕ) → SpellsSized b front → body_at (front ++ rest) ≡ Some (b, rest)
unfolding body_at
body_again front b rest h =
    let sized : SpellsBytes h.1 front = (h.0, h.2, h.4) in
    rw (bytes_reads.again front h.1 rest sized, whole_again SpellsUnsized function_at function_reads h.1 b h.3) refl

-- the bytes that a count says are bytes
counted_fit : (bytes xs rest : List ℕ) → IsBytes bytes → AtFront SpellsBytes bytes xs rest → IsBytes xs
counted_fit bytes xs rest fits t =
    let whole' : bytes ≡ t.spells.0 ++ (xs ++ rest) = t.parts ∙ regrouped t.front t.spells.0 xs rest t.spells.2 in
    IsBytes-front xs rest (IsBytes-after bytes t.spells.0 (xs ++ rest) whole' fits)

body_takes : (bytes : List ℕ) (y : Body × List ℕ) → IsBytes bytes → body_at bytes ≡ Some y → AtFront SpellsSized bytes y.0 y.1
unfolding body_at
body_takes bytes y fits e =
    let a = bind_some (bytes_at bytes) _ y e in
    let b = bind_some (whole (function_at a.0.0)) _ y a.2 in
    let t = bytes_reads.takes bytes a.0 fits a.1 in
    let g = whole_takes SpellsUnsized function_at function_reads a.0.0 b.0 (counted_fit bytes a.0.0 a.0.1 fits t) b.1 in
    subst (λ (z : Body × List ℕ). AtFront SpellsSized bytes z.0 z.1) (some_is (b.0, a.0.1) y b.2)
    (record { front = t.front; parts = t.parts; spells = (t.spells.0, a.0.0, t.spells.1, g, t.spells.2) })

pub body_reads : Reads SpellsSized body_at
body_reads = record { again = body_again; takes = body_takes }
