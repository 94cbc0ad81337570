-- The bytes of sequences, and of the parts that the code writes.
use Rattle.std.proofs.Common.{◌≡◌, ℕ, zero, suc, ◌+◌, ◌*◌, ◌%◌, ◌<◌, List, [], ◌∷◌, ◌++◌, length, get_or, take, map, replicate, refl, sym, ◌∙◌, ap, append_assoc, append-nil, length-append, add-one, add-zero, arith}
use Rattle.std.specs.List.{flat_map}
use Rattle.std.proofs.lemmas.List.{take_more, replicate_more, length-map, map-append}
use Rattle.std.proofs.lemmas.List.Concat.{flat_map-append}
use Rattle.wm_ast.specs.declared.module.Func.{Func}
use Rattle.wm_ast.specs.Code.{Op, call, num}
use Rattle.wm_ast.specs.declared.operation.NumOp.TheVariants.{I64Add}
use Rattle.wm_ast.specs.Section.{header}
use Rattle.wm_ast.specs.Spelling.{kind_of, body_of}
use Rattle.wm_ast.specs.View.{code_from, instrs_of, code_of}
use Rattle.wm_ast.proofs.ViewLaws.{views_forth}
use Rattle.wm_gen.specs.Shortest.{sevens, unsigned, vector, op_bytes, code_bytes, func_type_bytes, memory_bytes, export_bytes, run_bytes, function_bytes, body_bytes, section_bytes, module_bytes}
use Rattle.wm_gen.specs.Workload.{i64, sums, body, form, next, drawn, after_draws, locals, function, functions, main, to_i64, one_page, export_main, workload}
use Rattle.wm_gen.specs.steps.Instruction.{op_of}
use Rattle.wm_gen.specs.declared.instruction.Simple.{Simple}

-- ---- numbers

unsigned_0 : unsigned 0 ≡ 0 ∷ []
unfolding unsigned sevens
unsigned_0 = refl

unsigned_1 : unsigned 1 ≡ 1 ∷ []
unfolding unsigned sevens
unsigned_1 = refl

unsigned_2 : unsigned 2 ≡ 2 ∷ []
unfolding unsigned sevens
unsigned_2 = refl

unsigned_4 : unsigned 4 ≡ 4 ∷ []
unfolding unsigned sevens
unsigned_4 = refl

-- ---- sequences

-- one sequence after the other
pub code_bytes-append : (os ps : List Op) → code_bytes (code_from (os ++ ps)) ≡ code_bytes (code_from os) ++ code_bytes (code_from ps)
code_bytes-append [] ps = refl
code_bytes-append (o ∷ os) ps =
    ap (λ l. op_bytes o ++ l) (code_bytes-append os ps) ∙ sym (append_assoc (op_bytes o) (code_bytes (code_from os)) (code_bytes (code_from ps)))

-- one instruction more of a list
pub adds : (before so_far after : List ℕ) (is : List Simple) (k : ℕ) (d : Simple) → k < length is
    → so_far ≡ before ++ code_bytes (code_from (map op_of (take k is))) → after ≡ so_far ++ op_bytes (op_of (get_or is k d))
    → after ≡ before ++ code_bytes (code_from (map op_of (take (k + 1) is)))
adds before so_far after is k d within e f =
    let one : map op_of (take (k + 1) is) ≡ map op_of (take k is) ++ op_of (get_or is k d) ∷ [] =
    ap (map op_of) (take_more is k d within) ∙ map-append op_of (take k is) (get_or is k d ∷ []) in
    let bytes : code_bytes (code_from (map op_of (take (k + 1) is))) ≡ code_bytes (code_from (map op_of (take k is))) ++ op_bytes (op_of (get_or is k d)) =
    ap (λ l. code_bytes (code_from l)) one ∙ code_bytes-append (map op_of (take k is)) (op_of (get_or is k d) ∷ [])
    ∙ ap (λ l. code_bytes (code_from (map op_of (take k is))) ++ l) (append-nil (op_bytes (op_of (get_or is k d)))) in
    f ∙ ap (λ l. l ++ op_bytes (op_of (get_or is k d))) e
    ∙ append_assoc before (code_bytes (code_from (map op_of (take k is)))) (op_bytes (op_of (get_or is k d)))
    ∙ ap (λ l. before ++ l) (sym bytes)

-- one function more is added
sums_more : (i n : ℕ) → sums i (suc n) ≡ sums i n ++ call (i + n) ∷ num I64Add ∷ []
sums_more i zero = ap (λ k. call k ∷ num I64Add ∷ []) (sym (add-zero i))
sums_more i (suc n) =
    let e : suc i + n ≡ i + suc n = omega arith in
    ap (λ l. call i ∷ num I64Add ∷ l) (sums_more (suc i) n ∙ ap (λ k. sums (suc i) n ++ call k ∷ num I64Add ∷ []) e)

pub main_more : (n : ℕ) (so_far after : List ℕ) → so_far ≡ 0 ∷ code_bytes (code_from (i64 0 ∷ sums 0 n))
    → after ≡ so_far ++ code_bytes (code_from (call n ∷ num I64Add ∷ [])) → after ≡ 0 ∷ code_bytes (code_from (i64 0 ∷ sums 0 (n + 1)))
main_more n so_far after e f =
    let none : 0 + n ≡ n = omega arith in
    let all : sums 0 (n + 1) ≡ sums 0 n ++ call n ∷ num I64Add ∷ [] =
    ap (sums 0) (add-one n) ∙ sums_more 0 n ∙ ap (λ k. sums 0 n ++ call k ∷ num I64Add ∷ []) none in
    f ∙ ap (λ l. l ++ code_bytes (code_from (call n ∷ num I64Add ∷ []))) e
    ∙ ap (λ l. 0 ∷ l) (sym (code_bytes-append (i64 0 ∷ sums 0 n) (call n ∷ num I64Add ∷ [])) ∙ ap (λ l. code_bytes (code_from (i64 0 ∷ l))) (sym all))

-- ---- functions

-- `main`: no locals, and its body
pub main_function : (n : ℕ) (bytes whole : List ℕ) → bytes ≡ 0 ∷ code_bytes (code_from (i64 0 ∷ sums 0 n)) → whole ≡ bytes ++ 0x0B ∷ []
    → whole ≡ function_bytes (body_of (main n))
main_function n bytes whole e f =
    f ∙ ap (λ l. l ++ 0x0B ∷ []) e
    ∙ ap (λ c. 0 ∷ (code_bytes c ++ 0x0B ∷ [])) (sym (views_forth (code_from (i64 0 ∷ sums 0 n))))
    ∙ ap (λ l. (l ++ []) ++ (code_bytes (code_of (instrs_of (code_from (i64 0 ∷ sums 0 n)))) ++ 0x0B ∷ [])) (sym unsigned_0)

pub runs : vector run_bytes locals ≡ 2 ∷ 1 ∷ 0x7F ∷ 1 ∷ 0x7E ∷ []
runs = rw (unsigned_2, unsigned_1) refl

-- another function: its locals, and its body
pub one_function : (x i kind a b : ℕ) (bytes whole : List ℕ) → kind ≡ drawn (next x) % 4 → a ≡ drawn (next (next x)) → b ≡ drawn (next (next (next x)))
    → bytes ≡ (2 ∷ 1 ∷ 0x7F ∷ 1 ∷ 0x7E ∷ []) ++ code_bytes (code_from (form kind i a b)) → whole ≡ bytes ++ 0x0B ∷ []
    → whole ≡ function_bytes (body_of (function x i))
one_function x i kind a b bytes whole ek ea eb e f =
    let same : form kind i a b ≡ body x i = rw (ek, ea, eb) refl in
    f ∙ ap (λ l. l ++ 0x0B ∷ []) (e ∙ ap (λ l. (2 ∷ 1 ∷ 0x7F ∷ 1 ∷ 0x7E ∷ []) ++ code_bytes (code_from l)) same)
    ∙ ap (λ c. (2 ∷ 1 ∷ 0x7F ∷ 1 ∷ 0x7E ∷ []) ++ (code_bytes c ++ 0x0B ∷ [])) (sym (views_forth (code_from (body x i))))
    ∙ ap (λ l. l ++ (code_bytes (code_of (instrs_of (code_from (body x i)))) ++ 0x0B ∷ [])) (sym runs)

-- the generator after the draws for one function more
pub three_more : (number i : ℕ) → next (next (next (after_draws number (3 * i)))) ≡ after_draws number (3 * (i + 1))
three_more number i =
    let e : suc (suc (suc (3 * i))) ≡ 3 * (i + 1) = omega arith in
    ap (after_draws number) e

pub one_more : (fs : List Func) (f : Func) → flat_map body_bytes (map body_of (fs ++ f ∷ [])) ≡ flat_map body_bytes (map body_of fs) ++ body_bytes (body_of f)
one_more fs f =
    ap (flat_map body_bytes) (map-append body_of fs (f ∷ []))
    ∙ flat_map-append body_bytes (map body_of fs) (body_of f ∷ [])
    ∙ ap (λ l. flat_map body_bytes (map body_of fs) ++ l) (append-nil (body_bytes (body_of f)))

pub functions_more : (number i : ℕ) → flat_map body_bytes (map body_of (functions number (i + 1)))
    ≡ flat_map body_bytes (map body_of (functions number i)) ++ body_bytes (body_of (function (after_draws number (3 * i)) i))
functions_more number i =
    ap (λ k. flat_map body_bytes (map body_of (functions number k))) (add-one i)
    ∙ one_more (functions number i) (function (after_draws number (3 * i)) i)

pub length_functions : (number n : ℕ) → length (functions number n) ≡ n
length_functions number zero = refl
length_functions number (suc n) =
    let h : length (functions number n) ≡ n = length_functions number n in
    length-append (functions number n) (function (after_draws number (3 * n)) n ∷ []) ∙ omega arith

pub length_funcs : (number size : ℕ) → length (workload number size).funcs ≡ size + 1
length_funcs number size = length-append (functions number size) (main size ∷ []) ∙ ap (λ k. k + 1) (length_functions number size)

-- the bytes of the functions, and then `main`
pub code_section : (number size : ℕ) (so_far whole : List ℕ) → so_far ≡ unsigned (size + 1) ++ flat_map body_bytes (map body_of (functions number size))
    → whole ≡ so_far ++ body_bytes (body_of (main size)) → whole ≡ vector body_bytes (map body_of (functions number size ++ main size ∷ []))
code_section number size so_far whole e f =
    let count : length (map body_of (functions number size ++ main size ∷ [])) ≡ size + 1 = length-map (functions number size ++ main size ∷ []) body_of ∙ length_funcs number size in
    f ∙ ap (λ l. l ++ body_bytes (body_of (main size))) e
    ∙ append_assoc (unsigned (size + 1)) (flat_map body_bytes (map body_of (functions number size))) (body_bytes (body_of (main size)))
    ∙ ap (λ l. unsigned (size + 1) ++ l) (sym (one_more (functions number size) (main size)))
    ∙ ap (λ k. unsigned k ++ flat_map body_bytes (map body_of (functions number size ++ main size ∷ []))) (sym count)

-- ---- the other sections

pub export_is : (n : ℕ) → vector export_bytes (export_main n ∷ []) ≡ (1 ∷ 4 ∷ 109 ∷ 97 ∷ 105 ∷ 110 ∷ 0 ∷ []) ++ unsigned n
export_is n = rw (unsigned_1, unsigned_4) (ap (λ l. 1 ∷ 4 ∷ 109 ∷ 97 ∷ 105 ∷ 110 ∷ 0 ∷ l) (append-nil (unsigned n)))

pub export_section : (n : ℕ) (whole : List ℕ) → whole ≡ (1 ∷ 4 ∷ 109 ∷ 97 ∷ 105 ∷ 110 ∷ 0 ∷ []) ++ unsigned n → whole ≡ vector export_bytes (export_main n ∷ [])
export_section n whole e = e ∙ sym (export_is n)

pub type_section : vector func_type_bytes (to_i64 ∷ []) ≡ 1 ∷ 0x60 ∷ 0 ∷ 1 ∷ 0x7E ∷ []
type_section = rw (unsigned_1, unsigned_0) refl

pub memory_section : vector memory_bytes (one_page ∷ []) ≡ 1 ∷ 0 ∷ 1 ∷ []
memory_section = rw unsigned_1 refl

kinds_of : (number n : ℕ) → flat_map unsigned (map kind_of (functions number n)) ≡ replicate n 0
kinds_of number zero = refl
kinds_of number (suc n) =
    ap (flat_map unsigned) (map-append kind_of (functions number n) (function (after_draws number (3 * n)) n ∷ []))
    ∙ flat_map-append unsigned (map kind_of (functions number n)) (0 ∷ [])
    ∙ ap (λ l. l ++ (unsigned 0 ++ [])) (kinds_of number n)
    ∙ ap (λ l. replicate n 0 ++ (l ++ [])) unsigned_0
    ∙ replicate_more n 0 ∙ ap (λ k. replicate k 0) (add-one n)

pub kind_section : (number size : ℕ) → vector unsigned (map kind_of (workload number size).funcs) ≡ unsigned (size + 1) ++ replicate (size + 1) 0
kind_section number size =
    ap (λ k. unsigned k ++ flat_map unsigned (map kind_of (workload number size).funcs)) (length-map (workload number size).funcs kind_of ∙ length_funcs number size)
    ∙ ap (λ l. unsigned (size + 1) ++ l)
    (ap (flat_map unsigned) (map-append kind_of (functions number size) (main size ∷ []))
    ∙ flat_map-append unsigned (map kind_of (functions number size)) (0 ∷ [])
    ∙ ap (λ l. l ++ (unsigned 0 ++ [])) (kinds_of number size)
    ∙ ap (λ l. replicate size 0 ++ (l ++ [])) unsigned_0
    ∙ replicate_more size 0)

-- ---- the module

regroup : (h a b c d e : List ℕ) → ((((h ++ a) ++ b) ++ c) ++ d) ++ e ≡ h ++ (a ++ (b ++ (c ++ (d ++ e))))
regroup h a b c d e = simp append_assoc

pub whole_module : (number size : ℕ) (kinds exports code whole : List ℕ) → kinds ≡ unsigned (size + 1) ++ replicate (size + 1) 0
    → exports ≡ vector export_bytes (export_main size ∷ []) → code ≡ vector body_bytes (map body_of (functions number size ++ main size ∷ []))
    → whole ≡ ((((header ++ section_bytes 1 (1 ∷ 0x60 ∷ 0 ∷ 1 ∷ 0x7E ∷ [])) ++ section_bytes 3 kinds) ++ section_bytes 5 (1 ∷ 0 ∷ 1 ∷ [])) ++ section_bytes 7 exports) ++ section_bytes 10 code
    → whole ≡ module_bytes (workload number size)
whole_module number size kinds exports code whole ek ee ec e =
    e ∙ regroup header (section_bytes 1 (1 ∷ 0x60 ∷ 0 ∷ 1 ∷ 0x7E ∷ [])) (section_bytes 3 kinds) (section_bytes 5 (1 ∷ 0 ∷ 1 ∷ [])) (section_bytes 7 exports) (section_bytes 10 code)
    ∙ ap (λ l. header ++ (section_bytes 1 l ++ (section_bytes 3 kinds ++ (section_bytes 5 (1 ∷ 0 ∷ 1 ∷ []) ++ (section_bytes 7 exports ++ section_bytes 10 code))))) (sym type_section)
    ∙ ap (λ l. header ++ (section_bytes 1 (vector func_type_bytes (to_i64 ∷ [])) ++ (section_bytes 3 l ++ (section_bytes 5 (1 ∷ 0 ∷ 1 ∷ []) ++ (section_bytes 7 exports ++ section_bytes 10 code))))) (ek ∙ sym (kind_section number size))
    ∙ ap (λ l. header ++ (section_bytes 1 (vector func_type_bytes (to_i64 ∷ [])) ++ (section_bytes 3 (vector unsigned (map kind_of (workload number size).funcs)) ++ (section_bytes 5 l ++ (section_bytes 7 exports ++ section_bytes 10 code))))) (sym memory_section)
    ∙ ap (λ l. header ++ (section_bytes 1 (vector func_type_bytes (to_i64 ∷ [])) ++ (section_bytes 3 (vector unsigned (map kind_of (workload number size).funcs)) ++ (section_bytes 5 (vector memory_bytes (one_page ∷ [])) ++ (section_bytes 7 l ++ section_bytes 10 code))))) ee
    ∙ ap (λ l. header ++ (section_bytes 1 (vector func_type_bytes (to_i64 ∷ [])) ++ (section_bytes 3 (vector unsigned (map kind_of (workload number size).funcs)) ++ (section_bytes 5 (vector memory_bytes (one_page ∷ [])) ++ (section_bytes 7 (vector export_bytes (export_main size ∷ [])) ++ section_bytes 10 l))))) ec

-- sections that were added one by one
pub in_turn : (h b a₁ a₂ a₃ a₄ a₅ x₁ x₂ x₃ x₄ x₅ whole : List ℕ) → b ≡ h → a₁ ≡ b ++ x₁ → a₂ ≡ a₁ ++ x₂ → a₃ ≡ a₂ ++ x₃ → a₄ ≡ a₃ ++ x₄ → a₅ ≡ a₄ ++ x₅ → whole ≡ a₅
    → whole ≡ ((((h ++ x₁) ++ x₂) ++ x₃) ++ x₄) ++ x₅
in_turn h b a₁ a₂ a₃ a₄ a₅ x₁ x₂ x₃ x₄ x₅ whole e₀ e₁ e₂ e₃ e₄ e₅ e = cc
