-- The content of a section: what is read is what it holds, and what it holds is read.
use Rattle.std.proofs.Common.{◌≡◌, ℕ, List, [], ◌∷◌, map, Option, Some, None, refl, sym, ap, subst, ◌∙◌}
use Rattle.std.proofs.lemmas.List.{length-map}
use Rattle.wm_ast.specs.declared.module.Limits.{Limits}
use Rattle.wm_ast.specs.Part.{SpellsFuncType, SpellsLimits, SpellsTableType, SpellsImport, SpellsExport, SpellsGlobal, SpellsElem, SpellsData, SpellsBody}
use Rattle.wm_ast.specs.Part as parts
use Rattle.wm_ast.specs.Section.{Section}
use Rattle.wm_ast.specs.Spelling.{Content, custom_section, type_section, import_section, function_section, table_section, memory_section, global_section, export_section, start_section, element_section, code_section, data_section, section_id, SpellsCustom, SpellsContent, IsSectionOf}
use Rattle.wm_ast.specs.Number.{IsUnsigned}
use Rattle.wm_ast.specs.Vector.{SpellsEach, SpellsVector, SpellsIndex}
use Rattle.wm_frame.specs.Reading.{Reader, ◌>>=◌, unsigned_at}
use Rattle.wm_frame.proofs.Readers.{IsBytes, Reads, some_is, bind_some}
use Rattle.wm_decode.specs.steps.ContentReading.{limits_of, seen_body, content_at}
use Rattle.wm_decode.specs.steps.Listing.{list_at, name_at, whole}
use Rattle.wm_decode.specs.steps.PartReading.{func_type_at, limits_at, table_at, import_at, export_at}
use Rattle.wm_decode.specs.steps.SegmentReading.{global_at, elem_at, data_at, body_at}
use Rattle.wm_decode.specs.declared.types.Table.{Table}
use Rattle.wm_decode.specs.declared.segment.Body.{Body}
use Rattle.wm_decode.proofs.InstructionTakes.{test}
use Rattle.wm_decode.proofs.Listings.{index_reads, list_reads, name_reads, whole_takes, whole_again}
use Rattle.wm_decode.proofs.PartLaws.{func_type_reads, limits_reads, SpellsTable, table_reads, import_reads, export_reads}
use Rattle.wm_decode.proofs.SegmentLaws.{global_reads, elem_reads, data_reads, SpellsSized, body_reads}

-- values that are read as others, which stand for them
each_seen : {A B : Type 0} (f : A → B) (G : B → List ℕ → Type 0) (xs : List A) (bytes : List ℕ) → SpellsEach (λ x. G (f x)) xs bytes → SpellsEach G (map f xs) bytes
each_seen f G [] bytes h = h
each_seen f G (x ∷ xs) bytes h = (h.0, h.1, h.2, each_seen f G xs h.1 h.3, h.4)

each_unseen : {A B : Type 0} (f : A → B) (G : B → List ℕ → Type 0) (xs : List A) (bytes : List ℕ) → SpellsEach G (map f xs) bytes → SpellsEach (λ x. G (f x)) xs bytes
each_unseen f G [] bytes h = h
each_unseen f G (x ∷ xs) bytes h = (h.0, h.1, h.2, each_unseen f G xs h.1 h.3, h.4)

vector_seen : {A B : Type 0} (f : A → B) (G : B → List ℕ → Type 0) (xs : List A) (bytes : List ℕ) → SpellsVector (λ x. G (f x)) xs bytes → SpellsVector G (map f xs) bytes
vector_seen f G xs bytes h = (h.0, h.1, subst (IsUnsigned 32 h.0) (sym (length-map xs f)) h.2, each_seen f G xs h.1 h.3, h.4)

vector_unseen : {A B : Type 0} (f : A → B) (G : B → List ℕ → Type 0) (xs : List A) (bytes : List ℕ) → SpellsVector G (map f xs) bytes → SpellsVector (λ x. G (f x)) xs bytes
vector_unseen f G xs bytes h = (h.0, h.1, subst (IsUnsigned 32 h.0) (length-map xs f) h.2, each_unseen f G xs h.1 h.3, h.4)

-- each list of limits stands for one of table types
table_of : Limits → Table
table_of l = record { limits = l }

tables_back : (ls : List Limits) → map limits_of (map table_of ls) ≡ ls
unfolding table_of
tables_back [] = refl
tables_back (l ∷ ls) = ap (λ (xs : List Limits). l ∷ xs) (tables_back ls)

body_from : parts.Body → Body
body_from b = record { locals = b.locals; body = b.body }

bodies_back : (bs : List parts.Body) → map seen_body (map body_from bs) ≡ bs
unfolding body_from
bodies_back [] = refl
bodies_back (b ∷ bs) = ap (λ (xs : List parts.Body). b ∷ xs) (bodies_back bs)

-- the whole content is a vector
all_takes : {A : Type 0} (G : A → List ℕ → Type 0) (r : Reader A) → Reads G r → (bytes : List ℕ) (xs : List A) → IsBytes bytes → whole (list_at r bytes) ≡ Some xs → SpellsVector G xs bytes
all_takes G r p = whole_takes (SpellsVector G) (list_at r) (list_reads G r p)

all_again : {A : Type 0} (G : A → List ℕ → Type 0) (r : Reader A) → Reads G r → (bytes : List ℕ) (xs : List A) → SpellsVector G xs bytes → whole (list_at r bytes) ≡ Some xs
all_again G r p = whole_again (SpellsVector G) (list_at r) (list_reads G r p)

-- what is read of the sections of each id
takes : (id : ℕ) (bytes : List ℕ) (c : Content) → IsBytes bytes → content_at id bytes ≡ Some c → (id ≡ section_id c) × SpellsContent c bytes
unfolding content_at
takes id bytes c fits e =
    test id 0 _ _ c e (λ k w. custom k w) λ e1.
    test id 1 _ _ c e1 (λ k w. of 1 (λ xs. type_section xs) (whole (list_at func_type_at bytes)) k w (λ xs h. (refl, all_takes SpellsFuncType func_type_at func_type_reads bytes xs fits h))) λ e2.
    test id 2 _ _ c e2 (λ k w. of 2 (λ xs. import_section xs) (whole (list_at import_at bytes)) k w (λ xs h. (refl, all_takes SpellsImport import_at import_reads bytes xs fits h))) λ e3.
    test id 3 _ _ c e3 (λ k w. of 3 (λ xs. function_section xs) (whole (list_at (unsigned_at 32) bytes)) k w (λ xs h. (refl, all_takes SpellsIndex (unsigned_at 32) index_reads bytes xs fits h))) λ e4.
    test id 4 _ _ c e4 (λ k w. of 4 (λ xs. table_section (map limits_of xs)) (whole (list_at table_at bytes)) k w (λ xs h. (refl, vector_seen limits_of SpellsTableType xs bytes (all_takes SpellsTable table_at table_reads bytes xs fits h)))) λ e5.
    test id 5 _ _ c e5 (λ k w. of 5 (λ xs. memory_section xs) (whole (list_at limits_at bytes)) k w (λ xs h. (refl, all_takes SpellsLimits limits_at limits_reads bytes xs fits h))) λ e6.
    test id 6 _ _ c e6 (λ k w. of 6 (λ xs. global_section xs) (whole (list_at global_at bytes)) k w (λ xs h. (refl, all_takes SpellsGlobal global_at global_reads bytes xs fits h))) λ e7.
    test id 7 _ _ c e7 (λ k w. of 7 (λ xs. export_section xs) (whole (list_at export_at bytes)) k w (λ xs h. (refl, all_takes SpellsExport export_at export_reads bytes xs fits h))) λ e8.
    test id 8 _ _ c e8 (λ k w. of 8 (λ x. start_section x) (whole (unsigned_at 32 bytes)) k w (λ x h. (refl, whole_takes SpellsIndex (unsigned_at 32) index_reads bytes x fits h))) λ e9.
    test id 9 _ _ c e9 (λ k w. of 9 (λ xs. element_section xs) (whole (list_at elem_at bytes)) k w (λ xs h. (refl, all_takes SpellsElem elem_at elem_reads bytes xs fits h))) λ e10.
    test id 10 _ _ c e10 (λ k w. of 10 (λ xs. code_section (map seen_body xs)) (whole (list_at body_at bytes)) k w (λ xs h. (refl, vector_seen seen_body SpellsBody xs bytes (all_takes SpellsSized body_at body_reads bytes xs fits h)))) λ e11.
    test id 11 _ _ c e11 (λ k w. of 11 (λ xs. data_section xs) (whole (list_at data_at bytes)) k w (λ xs h. (refl, all_takes SpellsData data_at data_reads bytes xs fits h))) λ e12. absurd cc
  where
    of : {X : Type 0} (n : ℕ) (make : X → Content) (r : Option X) → id ≡ n → (r >>= λ x. Some (make x)) ≡ Some c → ((x : X) → r ≡ Some x → (n ≡ section_id (make x)) × SpellsContent (make x) bytes) → (id ≡ section_id c) × SpellsContent c bytes
    of n make r k w get =
        let a = bind_some r (λ x. Some (make x)) c w in
        let g = get a.0 a.1 in
        subst (λ d. (id ≡ section_id d) × SpellsContent d bytes) (some_is (make a.0) c a.2) (k ∙ g.0, g.1)

    custom : id ≡ 0 → (name_at bytes >>= λ x. Some custom_section) ≡ Some c → (id ≡ section_id c) × SpellsContent c bytes
    custom k w =
        let a = bind_some (name_at bytes) (λ x. Some custom_section) c w in
        let t = name_reads.takes bytes a.0 fits a.1 in
        let s : SpellsCustom bytes = (a.0.0, t.front, a.0.1, t.spells, t.parts) in
        subst (λ d. (id ≡ section_id d) × SpellsContent d bytes) (some_is custom_section c a.2) (k, s)

pub content_takes : (s : Section) (c : Content) → IsBytes s.content → content_at s.id s.content ≡ Some c → IsSectionOf s c
content_takes s c fits e = takes s.id s.content c fits e

-- what the content is made of by one reader
made : {X : Type 0} (make : X → Content) (r : Option X) (x : X) → r ≡ Some x → (r >>= λ y. Some (make y)) ≡ Some (make x)
made make r x e = ap (λ o. o >>= λ y. Some (make y)) e

again : (c : Content) (bytes : List ℕ) → SpellsContent c bytes → content_at (section_id c) bytes ≡ Some c
unfolding content_at
again custom_section bytes h =
    let n : name_at bytes ≡ Some (h.0, h.2) = ap name_at h.4 ∙ name_reads.again h.1 h.0 h.2 h.3 in
    made (λ x. custom_section) (name_at bytes) (h.0, h.2) n
again (type_section xs) bytes h = made (λ ys. type_section ys) (whole (list_at func_type_at bytes)) xs (all_again SpellsFuncType func_type_at func_type_reads bytes xs h)
again (import_section xs) bytes h = made (λ ys. import_section ys) (whole (list_at import_at bytes)) xs (all_again SpellsImport import_at import_reads bytes xs h)
again (function_section xs) bytes h = made (λ ys. function_section ys) (whole (list_at (unsigned_at 32) bytes)) xs (all_again SpellsIndex (unsigned_at 32) index_reads bytes xs h)
again (table_section ls) bytes h =
    let g = vector_unseen limits_of SpellsTableType (map table_of ls) bytes (subst (λ (l : List Limits). SpellsVector SpellsTableType l bytes) (sym (tables_back ls)) h) in
    made (λ ys. table_section (map limits_of ys)) (whole (list_at table_at bytes)) (map table_of ls) (all_again SpellsTable table_at table_reads bytes (map table_of ls) g)
    ∙ ap (λ (l : List Limits). Some (table_section l)) (tables_back ls)
again (memory_section xs) bytes h = made (λ ys. memory_section ys) (whole (list_at limits_at bytes)) xs (all_again SpellsLimits limits_at limits_reads bytes xs h)
again (global_section xs) bytes h = made (λ ys. global_section ys) (whole (list_at global_at bytes)) xs (all_again SpellsGlobal global_at global_reads bytes xs h)
again (export_section xs) bytes h = made (λ ys. export_section ys) (whole (list_at export_at bytes)) xs (all_again SpellsExport export_at export_reads bytes xs h)
again (start_section x) bytes h = made (λ y. start_section y) (whole (unsigned_at 32 bytes)) x (whole_again SpellsIndex (unsigned_at 32) index_reads bytes x h)
again (element_section xs) bytes h = made (λ ys. element_section ys) (whole (list_at elem_at bytes)) xs (all_again SpellsElem elem_at elem_reads bytes xs h)
again (code_section bs) bytes h =
    let g = vector_unseen seen_body SpellsBody (map body_from bs) bytes (subst (λ (l : List parts.Body). SpellsVector SpellsBody l bytes) (sym (bodies_back bs)) h) in
    made (λ ys. code_section (map seen_body ys)) (whole (list_at body_at bytes)) (map body_from bs) (all_again SpellsSized body_at body_reads bytes (map body_from bs) g)
    ∙ ap (λ (l : List parts.Body). Some (code_section l)) (bodies_back bs)
again (data_section xs) bytes h = made (λ ys. data_section ys) (whole (list_at data_at bytes)) xs (all_again SpellsData data_at data_reads bytes xs h)

pub content_again : (s : Section) (c : Content) → IsSectionOf s c → content_at s.id s.content ≡ Some c
content_again s c h = ap (λ i. content_at i s.content) h.0 ∙ again c s.content h.1

-- a section holds one content at most
pub one_content : (s : Section) (c d : Content) → IsSectionOf s c → IsSectionOf s d → c ≡ d
one_content s c d g h = some_is c d (sym (content_again s c g) ∙ content_again s d h)

-- where nothing is read, it holds none
pub no_content : (s : Section) → content_at s.id s.content ≡ None → (c : Content) → IsSectionOf s c → ⊥
no_content s e c h = let g = content_again s c h in cc
