-- The bytes of the example spell it.
use Rattle.std.proofs.Common.{◌≡◌, ℕ, ◌≤◌, ◌<◌, List, [], ◌∷◌, ◌++◌, length, Some, None, refl, sym, subst, arith, lit≤, lit<, inl, inr, true}
use Rattle.std.specs.Prelude.{codes}
use Rattle.std.specs.Str.{IsUtf8, is_utf8, chars}
use Rattle.std.proofs.lemmas.Str.{IsUtf8-from_is_utf8}
use lib.Utf8.{encode}
use Rattle.wm_ast.specs.declared.instruction.Instr.{Instr}
use Rattle.wm_ast.specs.declared.module.ValType.TheVariants.{I64}
use Rattle.wm_ast.specs.declared.module.Space.TheVariants as spaces
use Rattle.wm_ast.specs.declared.operation.LoadOp.TheVariants.{I64Load}
use Rattle.wm_ast.specs.declared.operation.NumOp.{NumOp}
use Rattle.wm_ast.specs.declared.operation.NumOp.TheVariants.{I64Add, I64DivS, I64GtS}
use Rattle.wm_ast.specs.declared.operation.StoreOp.TheVariants.{I64Store}
use Rattle.wm_ast.specs.Code.{unreachable, loop, if_else, br, call, call_indirect, local_get, local_set, global_get, global_set, load, store, num, Code, nil}
use Rattle.wm_ast.specs.Instruction.{SpellsOp, SpellsCode, SpellsExpr, SpellsIndexed, SpellsMemoryArgument, code_depth}
use Rattle.wm_ast.specs.Number.{IsUnsigned}
use Rattle.wm_ast.specs.Opcode.{num_byte}
use Rattle.wm_ast.specs.Part.{SpellsValType, SpellsFuncType, SpellsLimits, SpellsTableType, SpellsGlobal, SpellsExport, SpellsElem, SpellsRun, SpellsBody, SpellsData}
use Rattle.wm_ast.specs.Section.{Section, SpellsSection, IsRising}
use Rattle.wm_ast.specs.Spelling.{Spells, Content, AreSectionsOf, type_section, function_section, table_section, memory_section, global_section, export_section, start_section, element_section, code_section, data_section}
use Rattle.wm_ast.specs.Vector.{SpellsEach, SpellsVector, SpellsIndex}
use Rattle.wm_ast.specs.View.{code_of}
use Rattle.witness.specs.Example.{Bodies, bodies, module_of, example, example_bytes, code, int, long, third, turn, of_one, of_none, one, initial}
use Rattle.witness.proofs.Seen.{AreSeen, are_seen}

-- something with bytes that spell it
record Spelt {A : Type 0} (Spells : A → List ℕ → Type 0) : Type 0 where
  item : A
  bytes : List ℕ
  spells : Spells item bytes

abbrev items : {A : Type 0} {Spells : A → List ℕ → Type 0} → List (Spelt Spells) → List A
items [] = []
items (x ∷ xs) = x.item ∷ items xs

abbrev bytes_of : {A : Type 0} {Spells : A → List ℕ → Type 0} → List (Spelt Spells) → List ℕ
bytes_of [] = []
bytes_of (x ∷ xs) = x.bytes ++ bytes_of xs

-- ---- numbers and lists

short : (n : ℕ) → n < 128 → IsUnsigned 32 (n ∷ []) n
short n h = (h, omega arith, refl)

spelt_each : {A : Type 0} {P : A → List ℕ → Type 0} (xs : List (Spelt P)) → SpellsEach P (items xs) (bytes_of xs)
spelt_each [] = refl
spelt_each (x ∷ xs) = (x.bytes, bytes_of xs, x.spells, spelt_each xs, refl)

vector : {A : Type 0} {P : A → List ℕ → Type 0} (xs : List (Spelt P)) → length (items xs) < 128 → SpellsVector P (items xs) (length (items xs) ∷ bytes_of xs)
vector xs h = (length (items xs) ∷ [], bytes_of xs, short (length (items xs)) h, spelt_each xs, refl)

-- ---- instructions

spelt_code : (xs : List (Spelt SpellsOp)) → SpellsCode (code (items xs)) (bytes_of xs)
spelt_code [] = refl
spelt_code (x ∷ xs) = (x.bytes, bytes_of xs, x.spells, spelt_code xs, refl)

expression : (xs : List (Spelt SpellsOp)) → code_depth (code (items xs)) ≤ 1024 → SpellsExpr (code (items xs)) (bytes_of xs ++ 0x0B ∷ [])
expression xs h = record { inside = bytes_of xs; spells = spelt_code xs; whole = refl; depth = h }

abbrev int_at : (n : ℕ) → n < 64 → Spelt SpellsOp
int_at n h = record { item = int n; bytes = 0x41 ∷ n ∷ []; spells = (n ∷ [], inl (h, omega arith, refl), refl) }

abbrev long_at : (n : ℕ) → n < 64 → Spelt SpellsOp
long_at n h = record { item = long n; bytes = 0x42 ∷ n ∷ []; spells = (n ∷ [], inl (h, omega arith, refl), refl) }

abbrev operation : NumOp → Spelt SpellsOp
operation op = record { item = num op; bytes = num_byte op ∷ []; spells = refl }

-- an instruction with the index 0
zero_index : (byte : ℕ) → SpellsIndexed byte 0 (byte ∷ 0 ∷ [])
zero_index byte = (0 ∷ [], short 0 (lit< tt), refl)

one_index : (byte : ℕ) → SpellsIndexed byte 1 (byte ∷ 1 ∷ [])
one_index byte = (1 ∷ [], short 1 (lit< tt), refl)

argument : SpellsMemoryArgument 3 0 (3 ∷ 0 ∷ [])
argument = (3 ∷ [], 0 ∷ [], short 3 (lit< tt), short 0 (lit< tt), refl)

abbrev get_local : Spelt SpellsOp
get_local = record { item = local_get 0; bytes = 0x20 ∷ 0 ∷ []; spells = zero_index 0x20 }

abbrev set_local : Spelt SpellsOp
set_local = record { item = local_set 0; bytes = 0x21 ∷ 0 ∷ []; spells = zero_index 0x21 }

abbrev get_global : Spelt SpellsOp
get_global = record { item = global_get 0; bytes = 0x23 ∷ 0 ∷ []; spells = zero_index 0x23 }

abbrev set_global : Spelt SpellsOp
set_global = record { item = global_set 0; bytes = 0x24 ∷ 0 ∷ []; spells = zero_index 0x24 }

abbrev call_one : Spelt SpellsOp
call_one = record { item = call 1; bytes = 0x10 ∷ 1 ∷ []; spells = one_index 0x10 }

abbrev call_table : Spelt SpellsOp
call_table = record { item = call_indirect 0; bytes = 0x11 ∷ 0 ∷ 0 ∷ []; spells = (0 ∷ [], 0 ∷ [], short 0 (lit< tt), short 0 (lit< tt), refl) }

abbrev branch : Spelt SpellsOp
branch = record { item = br 1; bytes = 0x0C ∷ 1 ∷ []; spells = one_index 0x0C }

abbrev loads : Spelt SpellsOp
loads = record { item = load I64Load 3 0; bytes = 0x29 ∷ 3 ∷ 0 ∷ []; spells = (3 ∷ 0 ∷ [], argument, refl) }

abbrev stores : Spelt SpellsOp
stores = record { item = store I64Store 3 0; bytes = 0x37 ∷ 3 ∷ 0 ∷ []; spells = (3 ∷ 0 ∷ [], argument, refl) }

abbrev run_spelt : List (Spelt SpellsOp)
run_spelt =
    int_at 8 (lit< tt) ∷ get_local ∷ stores
    ∷ int_at 0 (lit< tt) ∷ loads
    ∷ int_at 8 (lit< tt) ∷ loads ∷ call_one ∷ int_at 0 (lit< tt) ∷ call_table
    ∷ operation I64Add ∷ get_global ∷ operation I64Add ∷ []

abbrev third_spelt : List (Spelt SpellsOp)
third_spelt = get_local ∷ long_at 3 (lit< tt) ∷ operation I64DivS ∷ set_local ∷ branch ∷ []

abbrev turn_spelt : List (Spelt SpellsOp)
turn_spelt =
    get_local ∷ long_at 40 (lit< tt) ∷ operation I64GtS
    ∷ record { item = if_else None (code third) nil; bytes = 0x04 ∷ 0x40 ∷ (bytes_of third_spelt ++ 0x0B ∷ []); spells = inr (tt, (bytes_of third_spelt, spelt_code third_spelt, refl)) }
    ∷ get_local ∷ []

abbrev lower_spelt : List (Spelt SpellsOp)
lower_spelt = record { item = loop (Some I64) (code turn); bytes = 0x03 ∷ 0x7E ∷ (bytes_of turn_spelt ++ 0x0B ∷ []); spells = (bytes_of turn_spelt, spelt_code turn_spelt, refl) } ∷ []

abbrev start_spelt : List (Spelt SpellsOp)
start_spelt = long_at 2 (lit< tt) ∷ set_global ∷ []

abbrev leave : List (Spelt SpellsOp)
leave = record { item = br 0; bytes = 0x0C ∷ 0 ∷ []; spells = zero_index 0x0C } ∷ []

abbrev spin_spelt : List (Spelt SpellsOp)
spin_spelt = record { item = loop None (code (br 0 ∷ [])); bytes = 0x03 ∷ 0x40 ∷ (bytes_of leave ++ 0x0B ∷ []); spells = (bytes_of leave, spelt_code leave, refl) } ∷ []

abbrev fail_spelt : List (Spelt SpellsOp)
fail_spelt = record { item = unreachable; bytes = 0x00 ∷ []; spells = refl } ∷ []

abbrev first_spelt : List (Spelt SpellsOp)
first_spelt = long_at 1 (lit< tt) ∷ []

abbrev offset_spelt : List (Spelt SpellsOp)
offset_spelt = int_at 0 (lit< tt) ∷ []

-- ---- sections

abbrev section_of : ℕ → List ℕ → Section
section_of id content = record { id = id; content = content }

section : (id : ℕ) (content : List ℕ) → id ≤ 11 → length content < 128 → SpellsSection (section_of id content) (id ∷ (length content ∷ content))
section id content low h = (length content ∷ [], low, short (length content) h, refl)

abbrev framed : (id : ℕ) (content : List ℕ) → id ≤ 11 → length content < 128 → Spelt SpellsSection
framed id content low h = record { item = section_of id content; bytes = id ∷ (length content ∷ content); spells = section id content low h }

-- ---- items

abbrev index : (n : ℕ) → n < 128 → Spelt SpellsIndex
index n h = record { item = n; bytes = n ∷ []; spells = short n h }

abbrev i64 : Spelt SpellsValType
i64 = record { item = I64; bytes = 0x7E ∷ []; spells = refl }

abbrev types_spelt : List (Spelt SpellsFuncType)
types_spelt =
    record { item = of_one; bytes = 0x60 ∷ 0x01 ∷ 0x7E ∷ 0x01 ∷ 0x7E ∷ []; spells = (0x01 ∷ 0x7E ∷ [], 0x01 ∷ 0x7E ∷ [], vector (i64 ∷ []) (lit< tt), vector (i64 ∷ []) (lit< tt), refl) }
    ∷ record { item = of_none; bytes = 0x60 ∷ 0x00 ∷ 0x00 ∷ []; spells = (0x00 ∷ [], 0x00 ∷ [], vector {P = SpellsValType} [] (lit< tt), vector {P = SpellsValType} [] (lit< tt), refl) }
    ∷ []

abbrev kinds_spelt : List (Spelt SpellsIndex)
kinds_spelt = index 0 (lit< tt) ∷ index 0 (lit< tt) ∷ index 1 (lit< tt) ∷ index 1 (lit< tt) ∷ index 1 (lit< tt) ∷ []

spells_one : SpellsLimits one (0x00 ∷ 0x01 ∷ [])
spells_one = (0x01 ∷ [], short 1 (lit< tt), refl)

abbrev memories_spelt : List (Spelt SpellsLimits)
memories_spelt = record { item = one; bytes = 0x00 ∷ 0x01 ∷ []; spells = spells_one } ∷ []

abbrev tables_spelt : List (Spelt SpellsTableType)
tables_spelt = record { item = one; bytes = 0x70 ∷ 0x00 ∷ 0x01 ∷ []; spells = (0x00 ∷ 0x01 ∷ [], spells_one, refl) } ∷ []

is_text : (name : List ℕ) → is_utf8 name ≡ true → IsUtf8 name
is_text = IsUtf8-from_is_utf8

-- an export of a function, whose name isn't long
export_at : (name : List ℕ) (n : ℕ) → is_utf8 name ≡ true → length name < 128 → n < 128
    → SpellsExport (record { name = name; space = spaces.Func; index = n }) ((length name ∷ name) ++ 0x00 ∷ n ∷ [])
export_at name n text h k = (length name ∷ name, n ∷ [], (is_text name text, (length name ∷ [], short (length name) h, refl)), short n k, refl)

are_texts : (is_utf8 (codes "run") ≡ true) × ((is_utf8 (codes "spin") ≡ true) × (is_utf8 (codes "fail") ≡ true))
unfolding is_utf8 chars encode
are_texts = (refl, (refl, refl))

abbrev exports_spelt : List (Spelt SpellsExport)
exports_spelt =
    record { item = record { name = codes "run"; space = spaces.Func; index = 0 }; bytes = (3 ∷ codes "run") ++ 0x00 ∷ 0x00 ∷ []; spells = export_at (codes "run") 0 are_texts.0 (lit< tt) (lit< tt) }
    ∷ record { item = record { name = codes "spin"; space = spaces.Func; index = 3 }; bytes = (4 ∷ codes "spin") ++ 0x00 ∷ 0x03 ∷ []; spells = export_at (codes "spin") 3 are_texts.1.0 (lit< tt) (lit< tt) }
    ∷ record { item = record { name = codes "fail"; space = spaces.Func; index = 4 }; bytes = (4 ∷ codes "fail") ++ 0x00 ∷ 0x04 ∷ []; spells = export_at (codes "fail") 4 are_texts.1.1 (lit< tt) (lit< tt) }
    ∷ []

-- an expression of a module
expression_of : (is : List Instr) (xs : List (Spelt SpellsOp)) → code_of is ≡ code (items xs) → code_depth (code (items xs)) ≤ 1024 → SpellsExpr (code_of is) (bytes_of xs ++ 0x0B ∷ [])
expression_of is xs e h = subst (λ (c : Code). SpellsExpr c (bytes_of xs ++ 0x0B ∷ [])) (sym e) (expression xs h)

-- a function without locals of its own
abbrev function_bytes : List (Spelt SpellsOp) → List ℕ
function_bytes xs = 0x00 ∷ (bytes_of xs ++ 0x0B ∷ [])

body_of : (is : List Instr) (xs : List (Spelt SpellsOp)) → code_of is ≡ code (items xs) → code_depth (code (items xs)) ≤ 1024 → length (function_bytes xs) < 128
    → SpellsBody (record { locals = []; body = is }) (length (function_bytes xs) ∷ function_bytes xs)
body_of is xs e h k = (
  length (function_bytes xs) ∷ [],
  function_bytes xs,
  short (length (function_bytes xs)) k,
  (0x00 ∷ [], bytes_of xs ++ 0x0B ∷ [], vector {P = SpellsRun} [] (lit< tt), lit< tt, expression_of is xs e h, refl),
  refl,
)

abbrev framed_body : (is : List Instr) (xs : List (Spelt SpellsOp)) → code_of is ≡ code (items xs) → code_depth (code (items xs)) ≤ 1024 → length (function_bytes xs) < 128 → Spelt SpellsBody
framed_body is xs e h k = record { item = record { locals = []; body = is }; bytes = length (function_bytes xs) ∷ function_bytes xs; spells = body_of is xs e h k }

module _ (b : Bodies) (e : AreSeen b) where
  abbrev bodies_spelt : List (Spelt SpellsBody)
  bodies_spelt =
      framed_body b.run run_spelt e.run (lit≤ tt) (lit< tt)
      ∷ framed_body b.lower lower_spelt e.lower (lit≤ tt) (lit< tt)
      ∷ framed_body b.start start_spelt e.start (lit≤ tt) (lit< tt)
      ∷ framed_body b.spin spin_spelt e.spin (lit≤ tt) (lit< tt)
      ∷ framed_body b.fail fail_spelt e.fail (lit≤ tt) (lit< tt)
      ∷ []

  abbrev globals_spelt : List (Spelt SpellsGlobal)
  globals_spelt =
      record { item = record { ty = I64; mutable = true; init = b.first }; bytes = 0x7E ∷ 0x01 ∷ 0x42 ∷ 0x01 ∷ 0x0B ∷ []; spells = (0x7E ∷ 0x01 ∷ [], 0x42 ∷ 0x01 ∷ 0x0B ∷ [], refl, expression_of b.first first_spelt e.first (lit≤ tt), refl) } ∷ []

  abbrev elements_spelt : List (Spelt SpellsElem)
  elements_spelt =
      record {
        item = record { table = 0; offset = b.offset; funcs = 1 ∷ [] };
        bytes = 0x00 ∷ 0x41 ∷ 0x00 ∷ 0x0B ∷ 0x01 ∷ 0x01 ∷ [];
        spells = (0x00 ∷ [], 0x41 ∷ 0x00 ∷ 0x0B ∷ [], 0x01 ∷ 0x01 ∷ [], short 0 (lit< tt), expression_of b.offset offset_spelt e.offset (lit≤ tt), vector (index 1 (lit< tt) ∷ []) (lit< tt), refl);
      } ∷ []

  abbrev datas_spelt : List (Spelt SpellsData)
  datas_spelt =
      record {
        item = record { memory = 0; offset = b.offset; bytes = initial };
        bytes = 0x00 ∷ 0x41 ∷ 0x00 ∷ 0x0B ∷ 0x08 ∷ initial;
        spells = (0x00 ∷ [], 0x41 ∷ 0x00 ∷ 0x0B ∷ [], 0x08 ∷ initial, short 0 (lit< tt), expression_of b.offset offset_spelt e.offset (lit≤ tt), (0x08 ∷ [], short 8 (lit< tt), refl), refl);
      } ∷ []

  abbrev sections : List (Spelt SpellsSection)
  sections =
      framed 1 (2 ∷ bytes_of types_spelt) (lit≤ tt) (lit< tt)
      ∷ framed 3 (5 ∷ bytes_of kinds_spelt) (lit≤ tt) (lit< tt)
      ∷ framed 4 (1 ∷ bytes_of tables_spelt) (lit≤ tt) (lit< tt)
      ∷ framed 5 (1 ∷ bytes_of memories_spelt) (lit≤ tt) (lit< tt)
      ∷ framed 6 (1 ∷ bytes_of globals_spelt) (lit≤ tt) (lit< tt)
      ∷ framed 7 (3 ∷ bytes_of exports_spelt) (lit≤ tt) (lit< tt)
      ∷ framed 8 (2 ∷ []) (lit≤ tt) (lit< tt)
      ∷ framed 9 (1 ∷ bytes_of elements_spelt) (lit≤ tt) (lit< tt)
      ∷ framed 10 (5 ∷ bytes_of bodies_spelt) (lit≤ tt) (lit< tt)
      ∷ framed 11 (1 ∷ bytes_of datas_spelt) (lit≤ tt) (lit< tt)
      ∷ []

  abbrev contents : List Content
  contents =
      type_section (items types_spelt)
      ∷ function_section (items kinds_spelt)
      ∷ table_section (items tables_spelt)
      ∷ memory_section (items memories_spelt)
      ∷ global_section (items globals_spelt)
      ∷ export_section (items exports_spelt)
      ∷ start_section 2
      ∷ element_section (items elements_spelt)
      ∷ code_section (items bodies_spelt)
      ∷ data_section (items datas_spelt)
      ∷ []

  hold : AreSectionsOf (items sections) contents
  hold = (
    (refl, vector types_spelt (lit< tt)),
    (
      (refl, vector kinds_spelt (lit< tt)),
      (
        (refl, vector tables_spelt (lit< tt)),
        (
          (refl, vector memories_spelt (lit< tt)),
          (
            (refl, vector globals_spelt (lit< tt)),
            (
              (refl, vector exports_spelt (lit< tt)),
              (
                (refl, short 2 (lit< tt)),
                (
                  (refl, vector elements_spelt (lit< tt)),
                  (
                    (refl, vector bodies_spelt (lit< tt)),
                    (
                      (refl, vector datas_spelt (lit< tt)),
                      tt,
                    ),
                  ),
                ),
              ),
            ),
          ),
        ),
      ),
    ),
  )

  rising : IsRising 0 (items sections)
  rising =
      inr (
        lit< tt,
        inr (
          lit< tt,
          inr (
            lit< tt,
            inr (
              lit< tt,
              inr (
                lit< tt,
                inr (lit< tt, inr (lit< tt, inr (lit< tt, inr (lit< tt, inr (lit< tt, tt))))),
              ),
            ),
          ),
        ),
      )

  spelt : Spells example_bytes (module_of 2 b)
  spelt = record {
    sections = items sections;
    contents = contents;
    framed = (bytes_of sections, spelt_each sections, refl);
    rising = rising;
    hold = hold;
    made = record { types = refl; imports = refl; kinds = refl; bodies = refl; tables = refl; memories = refl; globals = refl; exports = refl; start = refl; elements = refl; datas = refl };
  }

pub is_spelt : Spells example_bytes example
is_spelt = spelt bodies are_seen
