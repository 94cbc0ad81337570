-- No vector of a module has more items than there are bytes that spell the module.
use Rattle.std.proofs.Common.{ℕ, ◌<◌, ◌≤◌, List, [], ◌∷◌, ◌++◌, length, map, refl, sym, subst, arith}
use Rattle.std.specs.Prelude.{All}
use Rattle.std.proofs.lemmas.List.Elements.{All-nil, All-cons, All-head, All-tail}
use Rattle.wm_ast.specs.declared.module.Data.{Data}
use Rattle.wm_ast.specs.declared.module.Elem.{Elem}
use Rattle.wm_ast.specs.declared.module.Export.{Export}
use Rattle.wm_ast.specs.declared.module.FuncType.{FuncType}
use Rattle.wm_ast.specs.declared.module.Global.{Global}
use Rattle.wm_ast.specs.declared.module.Import.{Import}
use Rattle.wm_ast.specs.declared.module.Module.{Module}
use Rattle.wm_ast.specs.declared.module.Run.{Run}
use Rattle.wm_ast.specs.declared.module.ValType.{ValType}
use Rattle.wm_ast.specs.Part.{Body, SpellsValType, SpellsFuncType, SpellsGlobal, SpellsImport, SpellsExport, SpellsElem, SpellsData, SpellsRun, SpellsBody}
use Rattle.wm_ast.specs.Section.{Section, SpellsSection, header}
use Rattle.wm_ast.specs.Spelling.{Content, custom_section, type_section, import_section, function_section, table_section, memory_section, global_section, export_section, start_section, element_section, code_section, data_section, SpellsContent, AreSectionsOf, Parts, no_parts, with_content, parts_of, body_of, Spells}
use Rattle.wm_ast.specs.Vector.{SpellsEach, SpellsVector, SpellsIndex, SpellsBytes}
use Rattle.wm_ast.specs.View.{code_of}
use Rattle.wm_match.proofs.ListLaws.{lists_short}
use Rattle.wm_vectors.specs.Vectors.{CodeWithin, TypeWithin, ImportWithin, GlobalWithin, ExportWithin, ElemWithin, DataWithin, HasVectorsWithin}
use Rattle.wm_vectors.proofs.CodeLaws.{front_within, behind_within, tail_within, cons_long, front_long, unsigned_long, index_long, vector_short, expr_within}

-- Items of vectors.

items_within : {A : Type 0} (Spells' : A → List ℕ → Type 0) (P : A → Type 0) (n : ℕ) (xs : List A) (bytes : List ℕ)
    → ((x : A) (own : List ℕ) → Spells' x own → length own ≤ n → P x) → SpellsEach Spells' xs bytes → length bytes ≤ n → All P xs
items_within Spells' P n [] bytes f h le = All-nil P
items_within Spells' P n (x ∷ xs) bytes f h le =
    All-cons P x xs (f x h.0 h.2 (front_within n h.0 h.1 bytes h.4 le)) (items_within Spells' P n xs h.1 f h.3 (behind_within n h.0 h.1 bytes h.4 le))

vector_within : {A : Type 0} (Spells' : A → List ℕ → Type 0) (P : A → Type 0) (n : ℕ) (xs : List A) (bytes : List ℕ)
    → ((x : A) (own : List ℕ) → Spells' x own → length own ≤ n → P x) → SpellsVector Spells' xs bytes → length bytes ≤ n → All P xs
vector_within Spells' P n xs bytes f h le = items_within Spells' P n xs h.1 f h.3 (behind_within n h.0 h.1 bytes h.4 le)

before_map : {A B : Type 0} (P : B → Type 0) (f : A → B) (xs : List A) → All P (map f xs) → All (λ x. P (f x)) xs
before_map P f [] a = All-nil (λ x. P (f x))
before_map P f (x ∷ xs) a = All-cons (λ x. P (f x)) x xs (All-head P (f x) (map f xs) a) (before_map P f xs (All-tail P (f x) (map f xs) a))

-- The items of a module.

bytes_within : (n : ℕ) (items bytes : List ℕ) → SpellsBytes items bytes → length bytes ≤ n → length items ≤ n
bytes_within n items bytes h le = behind_within n h.0 items bytes h.2 le

val_type_long : (t : ValType) (bytes : List ℕ) → SpellsValType t bytes → 0 < length bytes
val_type_long t bytes h = cons_long _ _ bytes h

run_long : (r : Run) (bytes : List ℕ) → SpellsRun r bytes → 0 < length bytes
run_long r bytes h = front_long h.0 _ bytes h.2 (unsigned_long 32 h.0 r.count h.1)

type_within : (n : ℕ) (t : FuncType) (own : List ℕ) → SpellsFuncType t own → length own ≤ n → TypeWithin n t
type_within n t own h le =
    let l = tail_within n _ (h.0 ++ h.1) own h.4 le in (
      vector_short SpellsValType val_type_long t.params h.0 n h.2 (front_within n h.0 h.1 (h.0 ++ h.1) refl l),
      vector_short SpellsValType val_type_long t.results h.1 n h.3 (behind_within n h.0 h.1 (h.0 ++ h.1) refl l),
    )

import_within : (n : ℕ) (i : Import) (own : List ℕ) → SpellsImport i own → length own ≤ n → ImportWithin n i
import_within n i own h le =
    let l = behind_within n h.0 (h.1 ++ h.2) own h.6 le in (
      bytes_within n i.module h.0 h.3.1 (front_within n h.0 (h.1 ++ h.2) own h.6 le),
      bytes_within n i.name h.1 h.4.1 (front_within n h.1 h.2 (h.1 ++ h.2) refl l),
    )

global_within : (n : ℕ) (g : Global) (own : List ℕ) → SpellsGlobal g own → length own ≤ n → GlobalWithin n g
global_within n g own h le = expr_within n (code_of g.init) h.1 h.3 (behind_within n h.0 h.1 own h.4 le)

export_within : (n : ℕ) (e : Export) (own : List ℕ) → SpellsExport e own → length own ≤ n → ExportWithin n e
export_within n e own h le = bytes_within n e.name h.0 h.2.1 (front_within n h.0 _ own h.4 le)

elem_within : (n : ℕ) (e : Elem) (own : List ℕ) → SpellsElem e own → length own ≤ n → ElemWithin n e
elem_within n e own h le =
    let l = behind_within n h.0 (h.1 ++ h.2) own h.6 le in (
      expr_within n (code_of e.offset) h.1 h.4 (front_within n h.1 h.2 (h.1 ++ h.2) refl l),
      vector_short SpellsIndex index_long e.funcs h.2 n h.5 (behind_within n h.1 h.2 (h.1 ++ h.2) refl l),
    )

data_within : (n : ℕ) (d : Data) (own : List ℕ) → SpellsData d own → length own ≤ n → DataWithin n d
data_within n d own h le =
    let l = behind_within n h.0 (h.1 ++ h.2) own h.6 le in (
      expr_within n (code_of d.offset) h.1 h.4 (front_within n h.1 h.2 (h.1 ++ h.2) refl l),
      bytes_within n d.bytes h.2 h.5 (behind_within n h.1 h.2 (h.1 ++ h.2) refl l),
    )

abbrev BodyWithin : ℕ → Body → Type 0
BodyWithin n b = (length b.locals ≤ n) × CodeWithin n (code_of b.body)

body_within : (n : ℕ) (b : Body) (own : List ℕ) → SpellsBody b own → length own ≤ n → BodyWithin n b
body_within n b own h le =
    let f = h.3 in
    let l = behind_within n h.0 h.1 own h.4 le in (
      vector_short SpellsRun run_long b.locals f.0 n f.2 (front_within n f.0 f.1 h.1 f.5 l),
      expr_within n (code_of b.body) f.1 f.4 (behind_within n f.0 f.1 h.1 f.5 l),
    )

-- Sections.

record PartsWithin (n : ℕ) (p : Parts) : Type 0 where
  types : All (TypeWithin n) p.types
  imports : All (ImportWithin n) p.imports
  globals : All (GlobalWithin n) p.globals
  exports : All (ExportWithin n) p.exports
  elements : All (ElemWithin n) p.elements
  datas : All (DataWithin n) p.datas
  bodies : All (BodyWithin n) p.bodies

content_within : (n : ℕ) (c : Content) (p : Parts) (bytes : List ℕ) → SpellsContent c bytes → length bytes ≤ n → PartsWithin n p → PartsWithin n (with_content c p)
content_within n custom_section p bytes h le r = r
content_within n (type_section ts) p bytes h le r = record {
  types = vector_within SpellsFuncType (TypeWithin n) n ts bytes (type_within n) h le;
  imports = r.imports;
  globals = r.globals;
  exports = r.exports;
  elements = r.elements;
  datas = r.datas;
  bodies = r.bodies;
}
content_within n (import_section is) p bytes h le r = record {
  types = r.types;
  imports = vector_within SpellsImport (ImportWithin n) n is bytes (import_within n) h le;
  globals = r.globals;
  exports = r.exports;
  elements = r.elements;
  datas = r.datas;
  bodies = r.bodies;
}
content_within n (function_section ks) p bytes h le r = record {
  types = r.types;
  imports = r.imports;
  globals = r.globals;
  exports = r.exports;
  elements = r.elements;
  datas = r.datas;
  bodies = r.bodies;
}
content_within n (table_section ts) p bytes h le r = record {
  types = r.types;
  imports = r.imports;
  globals = r.globals;
  exports = r.exports;
  elements = r.elements;
  datas = r.datas;
  bodies = r.bodies;
}
content_within n (memory_section ms) p bytes h le r = record {
  types = r.types;
  imports = r.imports;
  globals = r.globals;
  exports = r.exports;
  elements = r.elements;
  datas = r.datas;
  bodies = r.bodies;
}
content_within n (global_section gs) p bytes h le r = record {
  types = r.types;
  imports = r.imports;
  globals = vector_within SpellsGlobal (GlobalWithin n) n gs bytes (global_within n) h le;
  exports = r.exports;
  elements = r.elements;
  datas = r.datas;
  bodies = r.bodies;
}
content_within n (export_section es) p bytes h le r = record {
  types = r.types;
  imports = r.imports;
  globals = r.globals;
  exports = vector_within SpellsExport (ExportWithin n) n es bytes (export_within n) h le;
  elements = r.elements;
  datas = r.datas;
  bodies = r.bodies;
}
content_within n (start_section f) p bytes h le r = record {
  types = r.types;
  imports = r.imports;
  globals = r.globals;
  exports = r.exports;
  elements = r.elements;
  datas = r.datas;
  bodies = r.bodies;
}
content_within n (element_section es) p bytes h le r = record {
  types = r.types;
  imports = r.imports;
  globals = r.globals;
  exports = r.exports;
  elements = vector_within SpellsElem (ElemWithin n) n es bytes (elem_within n) h le;
  datas = r.datas;
  bodies = r.bodies;
}
content_within n (code_section bs) p bytes h le r = record {
  types = r.types;
  imports = r.imports;
  globals = r.globals;
  exports = r.exports;
  elements = r.elements;
  datas = r.datas;
  bodies = vector_within SpellsBody (BodyWithin n) n bs bytes (body_within n) h le;
}
content_within n (data_section ds) p bytes h le r = record {
  types = r.types;
  imports = r.imports;
  globals = r.globals;
  exports = r.exports;
  elements = r.elements;
  datas = vector_within SpellsData (DataWithin n) n ds bytes (data_within n) h le;
  bodies = r.bodies;
}

sections_within : (n : ℕ) (ss : List Section) (cs : List Content) (p : Parts) (bytes : List ℕ) → SpellsEach SpellsSection ss bytes → length bytes ≤ n → AreSectionsOf ss cs → PartsWithin n p → PartsWithin n (parts_of p cs)
sections_within n [] [] p bytes h le t r = r
sections_within n [] (c ∷ cs) p bytes h le t r = absurd t
sections_within n (s ∷ ss) [] p bytes h le t r = absurd t
sections_within n (s ∷ ss) (c ∷ cs) p bytes h le t r =
    let own = front_within n h.0 h.1 bytes h.4 le in
    let inner = tail_within n s.id (h.2.0 ++ s.content) h.0 h.2.3 own in
    sections_within n ss cs (with_content c p) h.1 h.3 (behind_within n h.0 h.1 bytes h.4 le) t.1
    (content_within n c p s.content t.0.1 (behind_within n h.2.0 s.content (h.2.0 ++ s.content) refl inner) r)

pub vectors_short : (bytes : List ℕ) (m : Module) → Spells bytes m → HasVectorsWithin (length bytes) m
vectors_short bytes m h =
    let n : ℕ = length bytes in
    let none : PartsWithin n no_parts = record {
      types = All-nil (TypeWithin n);
      imports = All-nil (ImportWithin n);
      globals = All-nil (GlobalWithin n);
      exports = All-nil (ExportWithin n);
      elements = All-nil (ElemWithin n);
      datas = All-nil (DataWithin n);
      bodies = All-nil (BodyWithin n);
    } in
    let r = sections_within n h.sections h.contents no_parts h.framed.0 h.framed.1 (behind_within n header h.framed.0 bytes h.framed.2 (omega arith)) h.hold none in
    record {
      lists = lists_short bytes m h;
      types = subst (All (TypeWithin n)) (sym h.made.types) r.types;
      imports = subst (All (ImportWithin n)) (sym h.made.imports) r.imports;
      globals = subst (All (GlobalWithin n)) (sym h.made.globals) r.globals;
      exports = subst (All (ExportWithin n)) (sym h.made.exports) r.exports;
      elems = subst (All (ElemWithin n)) (sym h.made.elements) r.elements;
      datas = subst (All (DataWithin n)) (sym h.made.datas) r.datas;
      funcs = before_map (BodyWithin n) body_of m.funcs (subst (All (BodyWithin n)) (sym h.made.bodies) r.bodies);
    }
