-- The workload is spelled by its bytes.
use Rattle.std.proofs.Common.{◌≡◌, ℕ, zero, suc, ◌+◌, ◌*◌, ◌^◌, ◌<◌, ◌≤◌, List, [], ◌∷◌, ◌++◌, length, map, replicate, refl, sym, ap, inr, lit<, lit≤, append-nil, length-append, arith, pos}
use Rattle.std.specs.Prelude.{All, codes}
use Rattle.std.specs.List.{flat_map}
use Rattle.std.proofs.lemmas.List.{length-map, length-replicate}
use Rattle.std.proofs.lemmas.List.Elements.{All-nil, All-cons, All-map, All-weaker}
use Rattle.std.specs.Str.{IsAscii}
use Rattle.std.proofs.lemmas.Str.{IsUtf8-from_ascii}
use Rattle.mc_nbt.specs.declared.value.Value.TheVariants.{I32, I64}
use Rattle.wm_ast.specs.declared.module.Func.{Func}
use Rattle.wm_ast.specs.declared.module.Module.{Module}
use Rattle.wm_ast.specs.declared.module.Run.{Run}
use Rattle.wm_ast.specs.declared.module.ValType.TheVariants as types
use Rattle.wm_ast.specs.Code.{Op, loop, br_if, call, local_get, local_set, local_tee, load, store, const, Code, nil, cons}
use Rattle.wm_ast.specs.Instruction.{code_depth}
use Rattle.wm_ast.specs.Part.{Body, locals_count, SpellsValType, SpellsFuncType, SpellsLimits, SpellsExport, SpellsRun, SpellsFunction, SpellsBody}
use Rattle.wm_ast.specs.Profile.{op_and_inside, all_ops, function_code}
use Rattle.wm_ast.specs.Section.{SpellsSection}
use Rattle.wm_ast.specs.Spelling.{Spells, kind_of, body_of, type_section, function_section, memory_section, export_section, code_section}
use Rattle.wm_ast.specs.Vector.{SpellsVector, SpellsIndex}
use Rattle.wm_gen.specs.Shortest.{unsigned, signed, vector, op_bytes, code_bytes, val_type_bytes, func_type_bytes, memory_bytes, export_bytes, run_bytes, function_bytes, body_bytes, section_bytes, module_bytes}
use Rattle.wm_gen.specs.Workload.{to_i64, locals, function, functions, main, one_page, export_main, after_draws, workload}
use Rattle.wm_gen.proofs.CodeLaws.{length_funcs, one_more, runs, export_is, kind_section}
use Rattle.wm_gen.proofs.CodeLaws as code
use Rattle.wm_gen.proofs.FunctionLaws.{all_funcs, few_ops, main_ops, shallow, shallow_main, fits, main_fits}
use Rattle.wm_gen.proofs.SpellingLaws.{unsigned_spelled, vector_spelled, code_spelled, CodeFits, length_unsigned, length_signed}
use Rattle.wm_gen.proofs.TypingLaws.{kinds}

-- ---- lengths

mutual
  op_length : (i : Op) → length (op_bytes i) ≤ 24 * length (op_and_inside i)
  op_length (loop ty body) = let h : length (code_bytes body) ≤ 24 * length (all_ops body) = code_length body in omega (arith, length-append (code_bytes body) (0x0B ∷ []))
  op_length (br_if l) = let u : length (unsigned l) ≤ 10 = length_unsigned l in omega arith
  op_length (call f) = let u : length (unsigned f) ≤ 10 = length_unsigned f in omega arith
  op_length (local_get x) = let u : length (unsigned x) ≤ 10 = length_unsigned x in omega arith
  op_length (local_set x) = let u : length (unsigned x) ≤ 10 = length_unsigned x in omega arith
  op_length (local_tee x) = let u : length (unsigned x) ≤ 10 = length_unsigned x in omega arith
  op_length (load op align offset) =
      let u : length (unsigned align) ≤ 10 = length_unsigned align in
      let v : length (unsigned offset) ≤ 10 = length_unsigned offset in
      omega (arith, length-append (unsigned align) (unsigned offset))
  op_length (store op align offset) =
      let u : length (unsigned align) ≤ 10 = length_unsigned align in
      let v : length (unsigned offset) ≤ 10 = length_unsigned offset in
      omega (arith, length-append (unsigned align) (unsigned offset))
  op_length (const (I32 (pos n))) = let u : length (signed n) ≤ 10 = length_signed n in omega arith
  op_length (const (I64 (pos n))) = let u : length (signed n) ≤ 10 = length_signed n in omega arith
  op_length _ = omega arith

  code_length : (c : Code) → length (code_bytes c) ≤ 24 * length (all_ops c)
  code_length nil = omega arith
  code_length (cons i is) =
      let h : length (op_bytes i) ≤ 24 * length (op_and_inside i) = op_length i in
      let k : length (code_bytes is) ≤ 24 * length (all_ops is) = code_length is in
      omega (arith, length-append (op_bytes i) (code_bytes is), length-append (op_and_inside i) (all_ops is))

-- the bytes of a function, where those of its locals are few
function_length : (f : Func) (most : ℕ) → length (vector run_bytes f.locals) ≤ 10 → length (all_ops (function_code f)) ≤ most → length (function_bytes (body_of f)) ≤ 24 * most + 11
function_length f most few ops =
    let code : length (code_bytes (function_code f)) ≤ 24 * length (all_ops (function_code f)) = code_length (function_code f) in
    omega (arith, length-append (vector run_bytes f.locals) (code_bytes (function_code f) ++ 0x0B ∷ []), length-append (code_bytes (function_code f)) (0x0B ∷ []))

own_length : (x i : ℕ) → length (function_bytes (body_of (function x i))) ≤ 587
own_length x i = let r : length (vector run_bytes locals) ≡ 5 = ap length runs in function_length (function x i) 24 (omega arith) (few_ops x i)

main_length : (size : ℕ) → length (function_bytes (body_of (main size))) ≤ 48 * size + 35
main_length size =
    let ops : length (all_ops (function_code (main size))) ≡ 2 * size + 1 = main_ops size in
    let none : length (vector run_bytes []) ≤ 10 = let u : length (unsigned 0) ≤ 10 = length_unsigned 0 in omega (arith, length-append (unsigned 0) []) in
    let h : length (function_bytes (body_of (main size))) ≤ 24 * (2 * size + 1) + 11 = function_length (main size) (2 * size + 1) none (omega arith) in
    omega arith

body_length : (b : Body) → length (body_bytes b) ≤ length (function_bytes b) + 10
body_length b = let u : length (unsigned (length (function_bytes b))) ≤ 10 = length_unsigned (length (function_bytes b)) in omega (arith, length-append (unsigned (length (function_bytes b))) (function_bytes b))

bodies_length : (number n : ℕ) → length (flat_map body_bytes (map body_of (functions number n))) ≤ 597 * n
bodies_length number zero = omega arith
bodies_length number (suc n) =
    let before : List ℕ = flat_map body_bytes (map body_of (functions number n)) in
    let f : Func = function (after_draws number (3 * n)) n in
    let h : length (flat_map body_bytes (map body_of (functions number n))) ≤ 597 * n = bodies_length number n in
    let o : length (function_bytes (body_of (function (after_draws number (3 * n)) n))) ≤ 587 = own_length (after_draws number (3 * n)) n in
    let b : length (body_bytes (body_of (function (after_draws number (3 * n)) n))) ≤ length (function_bytes (body_of (function (after_draws number (3 * n)) n))) + 10 = body_length (body_of (function (after_draws number (3 * n)) n)) in
    let e : length (flat_map body_bytes (map body_of (functions number (suc n)))) ≡ length (flat_map body_bytes (map body_of (functions number n)) ++ body_bytes (body_of (function (after_draws number (3 * n)) n))) = ap length (one_more (functions number n) (function (after_draws number (3 * n)) n)) in
    omega (arith, length-append (flat_map body_bytes (map body_of (functions number n))) (body_bytes (body_of (function (after_draws number (3 * n)) n))))

-- ---- parts

one : {A : Type 0} (P : A → Type 0) (x : A) → P x → All P (x ∷ [])
one P x p = All-cons P x [] p (All-nil P)

run_spelled : (r : Run) → r.count < 2 ^ 32 → SpellsRun r (run_bytes r)
run_spelled r h = (unsigned r.count, unsigned_spelled r.count h, refl)

function_spelled : (f : Func) → length f.locals < 2 ^ 32 → All (λ r. SpellsRun r (run_bytes r)) f.locals → locals_count f.locals < 2 ^ 32
    → CodeFits (function_code f) → code_depth (function_code f) ≤ 1024 → SpellsFunction (body_of f) (function_bytes (body_of f))
function_spelled f few runs counts fit deep = (
  vector run_bytes f.locals,
  code_bytes (function_code f) ++ 0x0B ∷ [],
  vector_spelled SpellsRun run_bytes f.locals few runs,
  counts,
  record { inside = code_bytes (function_code f); spells = code_spelled (function_code f) fit; whole = refl; depth = deep },
  refl,
)

body_spelled : (b : Body) → length (function_bytes b) < 2 ^ 32 → SpellsFunction b (function_bytes b) → SpellsBody b (body_bytes b)
body_spelled b few h = (unsigned (length (function_bytes b)), function_bytes b, unsigned_spelled (length (function_bytes b)) few, h, refl)

own_spelled : (x i : ℕ) → i < 1000 → SpellsBody (body_of (function x i)) (body_bytes (body_of (function x i)))
own_spelled x i h =
    let short : length (function_bytes (body_of (function x i))) ≤ 587 = own_length x i in
    let P : Run → Type 0 = λ r. SpellsRun r (run_bytes r) in
    body_spelled (body_of (function x i)) (omega arith)
    (function_spelled (function x i) (lit< tt) (All-cons P (record { count = 1; ty = types.I32 }) (record { count = 1; ty = types.I64 } ∷ []) (run_spelled (record { count = 1; ty = types.I32 }) (lit< tt)) (one P (record { count = 1; ty = types.I64 }) (run_spelled (record { count = 1; ty = types.I64 }) (lit< tt)))) (lit< tt) (fits x i (omega arith)) (shallow x i))

main_spelled : (size : ℕ) → size ≤ 1000 → SpellsBody (body_of (main size)) (body_bytes (body_of (main size)))
main_spelled size most =
    let short : length (function_bytes (body_of (main size))) ≤ 48 * size + 35 = main_length size in
    body_spelled (body_of (main size)) (omega arith)
    (function_spelled (main size) (lit< tt) (All-nil (λ r. SpellsRun r (run_bytes r))) (lit< tt) (main_fits size (omega arith)) (shallow_main size))

section_spelled : (id : ℕ) (content : List ℕ) → id ≤ 11 → length content < 2 ^ 32 → SpellsSection (record { id = id; content = content }) (section_bytes id content)
section_spelled id content low few = (unsigned (length content), low, unsigned_spelled (length content) few, refl)

main_is_ascii : IsAscii (codes "main")
main_is_ascii zero = lit< tt
main_is_ascii (suc zero) = lit< tt
main_is_ascii (suc (suc zero)) = lit< tt
main_is_ascii (suc (suc (suc zero))) = lit< tt
main_is_ascii (suc (suc (suc (suc n)))) = lit< tt

-- ---- the module

module _ (number size : ℕ) (most : size ≤ 1000) where
  abbrev m : Module
  m = workload number size

  abbrev types' : List ℕ
  types' = vector func_type_bytes (to_i64 ∷ [])

  abbrev kinds' : List ℕ
  kinds' = vector unsigned (map kind_of m.funcs)

  abbrev memories' : List ℕ
  memories' = vector memory_bytes (one_page ∷ [])

  abbrev exports' : List ℕ
  exports' = vector export_bytes (export_main size ∷ [])

  abbrev code' : List ℕ
  code' = vector body_bytes (map body_of m.funcs)

  count : length m.funcs ≡ size + 1
  count = length_funcs number size

  types_spelled : SpellsVector SpellsFuncType (to_i64 ∷ []) types'
  types_spelled = vector_spelled SpellsFuncType func_type_bytes (to_i64 ∷ []) (lit< tt) (one (λ t. SpellsFuncType t (func_type_bytes t)) to_i64 (
    vector val_type_bytes [],
    vector val_type_bytes (types.I64 ∷ []),
    vector_spelled SpellsValType val_type_bytes [] (lit< tt) (All-nil (λ t. SpellsValType t (val_type_bytes t))),
    vector_spelled SpellsValType val_type_bytes (types.I64 ∷ []) (lit< tt) (one (λ t. SpellsValType t (val_type_bytes t)) types.I64 refl),
    refl,
  ))

  kinds_spelled : SpellsVector SpellsIndex (map kind_of m.funcs) kinds'
  kinds_spelled = vector_spelled SpellsIndex unsigned (map kind_of m.funcs)
      (let e : length (map kind_of m.funcs) ≡ length m.funcs = length-map m.funcs kind_of in let c : length m.funcs ≡ size + 1 = count in omega arith)
      (All-map (λ (n : ℕ). SpellsIndex n (unsigned n)) kind_of m.funcs (All-weaker (λ (f : Func). f.kind ≡ 0) (λ (f : Func). SpellsIndex f.kind (unsigned f.kind)) (λ f z. unsigned_spelled f.kind (omega arith)) m.funcs (kinds number size)))

  memories_spelled : SpellsVector SpellsLimits (one_page ∷ []) memories'
  memories_spelled = vector_spelled SpellsLimits memory_bytes (one_page ∷ []) (lit< tt) (one (λ l. SpellsLimits l (memory_bytes l)) one_page (unsigned 1, unsigned_spelled 1 (lit< tt), refl))

  exports_spelled : SpellsVector SpellsExport (export_main size ∷ []) exports'
  exports_spelled = vector_spelled SpellsExport export_bytes (export_main size ∷ []) (lit< tt) (one (λ e. SpellsExport e (export_bytes e)) (export_main size)
      (unsigned 4 ++ codes "main", unsigned size, (IsUtf8-from_ascii (codes "main") main_is_ascii, (unsigned 4, unsigned_spelled 4 (lit< tt), refl)), unsigned_spelled size (omega arith), refl))

  code_is_spelled : SpellsVector SpellsBody (map body_of m.funcs) code'
  code_is_spelled = vector_spelled SpellsBody body_bytes (map body_of m.funcs)
      (let e : length (map body_of m.funcs) ≡ length m.funcs = length-map m.funcs body_of in let c : length m.funcs ≡ size + 1 = count in omega arith)
      (All-map (λ b. SpellsBody b (body_bytes b)) body_of m.funcs (all_funcs (λ f. SpellsBody (body_of f) (body_bytes (body_of f))) number size (λ x i h. own_spelled x i (omega arith)) (main_spelled size most)))

  short_types : length types' < 2 ^ 32
  short_types = let e : length types' ≡ 5 = ap length code.type_section in omega arith

  short_kinds : length kinds' < 2 ^ 32
  short_kinds =
      let e : length kinds' ≡ length (unsigned (size + 1) ++ replicate (size + 1) 0) = ap length (kind_section number size) in
      let u : length (unsigned (size + 1)) ≤ 10 = length_unsigned (size + 1) in
      let r : length {A = ℕ} (replicate (size + 1) 0) ≡ size + 1 = length-replicate (size + 1) 0 in
      omega (arith, length-append (unsigned (size + 1)) (replicate (size + 1) 0))

  short_memories : length memories' < 2 ^ 32
  short_memories = let e : length memories' ≡ 3 = ap length code.memory_section in omega arith

  short_exports : length exports' < 2 ^ 32
  short_exports =
      let e : length exports' ≡ length ((1 ∷ 4 ∷ 109 ∷ 97 ∷ 105 ∷ 110 ∷ 0 ∷ []) ++ unsigned size) = ap length (export_is size) in
      let u : length (unsigned size) ≤ 10 = length_unsigned size in
      omega arith

  short_code : length code' < 2 ^ 32
  short_code =
      let own : length (flat_map body_bytes (map body_of (functions number size))) ≤ 597 * size = bodies_length number size in
      let last : length (function_bytes (body_of (main size))) ≤ 48 * size + 35 = main_length size in
      let sized : length (body_bytes (body_of (main size))) ≤ length (function_bytes (body_of (main size))) + 10 = body_length (body_of (main size)) in
      let e : length (flat_map body_bytes (map body_of m.funcs)) ≡ length (flat_map body_bytes (map body_of (functions number size)) ++ body_bytes (body_of (main size))) = ap length (one_more (functions number size) (main size)) in
      let u : length (unsigned (length (map body_of m.funcs))) ≤ 10 = length_unsigned (length (map body_of m.funcs)) in
      omega (arith, length-append (unsigned (length (map body_of m.funcs))) (flat_map body_bytes (map body_of m.funcs)), length-append (flat_map body_bytes (map body_of (functions number size))) (body_bytes (body_of (main size))))

  pub workload_spelled : Spells (module_bytes m) m
  workload_spelled = record {
    sections = record { id = 1; content = types' } ∷ record { id = 3; content = kinds' } ∷ record { id = 5; content = memories' } ∷ record { id = 7; content = exports' } ∷ record { id = 10; content = code' } ∷ [];
    contents = type_section m.types ∷ function_section (map kind_of m.funcs) ∷ memory_section m.mems ∷ export_section m.exports ∷ code_section (map body_of m.funcs) ∷ [];
    framed = (
      section_bytes 1 types' ++ (section_bytes 3 kinds' ++ (section_bytes 5 memories' ++ (section_bytes 7 exports' ++ section_bytes 10 code'))),
      (
        section_bytes 1 types',
        section_bytes 3 kinds' ++ (section_bytes 5 memories' ++ (section_bytes 7 exports' ++ section_bytes 10 code')),
        section_spelled 1 types' (lit≤ tt) short_types,
        (
          section_bytes 3 kinds',
          section_bytes 5 memories' ++ (section_bytes 7 exports' ++ section_bytes 10 code'),
          section_spelled 3 kinds' (lit≤ tt) short_kinds,
          (
            section_bytes 5 memories',
            section_bytes 7 exports' ++ section_bytes 10 code',
            section_spelled 5 memories' (lit≤ tt) short_memories,
            (
              section_bytes 7 exports',
              section_bytes 10 code',
              section_spelled 7 exports' (lit≤ tt) short_exports,
              (section_bytes 10 code', [], section_spelled 10 code' (lit≤ tt) short_code, refl, sym (append-nil (section_bytes 10 code'))),
              refl,
            ),
            refl,
          ),
          refl,
        ),
        refl,
      ),
      refl,
    );
    rising = inr (lit< tt, inr (lit< tt, inr (lit< tt, inr (lit< tt, inr (lit< tt, tt)))));
    hold = ((refl, types_spelled), ((refl, kinds_spelled), ((refl, memories_spelled), ((refl, exports_spelled), ((refl, code_is_spelled), tt)))));
    made = record { types = refl; imports = refl; kinds = refl; bodies = refl; tables = refl; memories = refl; globals = refl; exports = refl; start = refl; elements = refl; datas = refl };
  }
