-- The first store of a valid module of the profile has its types.
use Rattle.std.proofs.Common.{◌≡◌, ℕ, suc, ◌+◌, ◌*◌, ◌<◌, ◌≤◌, List, [], ◌∷◌, length, map, false, Option, Some, None, option_map, refl, sym, ap, subst, ◌∙◌, arith}
use Rattle.std.specs.Prelude.{slice_get, filter_map, All}
use Rattle.std.proofs.lemmas.Bool.{ltb-false}
use Rattle.std.proofs.lemmas.List.{length-replicate}
use Rattle.std.proofs.lemmas.List.Elements.{All-nil, All-map, All-replicate, All-weaker}
use Rattle.std.proofs.lemmas.List.{length-map}
use Rattle.std.proofs.lemmas.Option.{slice_get-map}
use Rattle.mc_nbt.specs.declared.value.Value.{Value}
use Rattle.wm_ast.specs.declared.item.Item.TheVariants as items
use Rattle.wm_ast.specs.declared.limit.TheConstants.{PAGES}
use Rattle.wm_ast.specs.declared.module.ValType.{ValType}
use Rattle.wm_ast.specs.declared.module.Data.{Data}
use Rattle.wm_ast.specs.declared.module.Elem.{Elem}
use Rattle.wm_ast.specs.declared.module.Global.{Global}
use Rattle.wm_ast.specs.declared.module.Limits.{Limits}
use Rattle.wm_ast.specs.declared.module.Module.{Module}
use Rattle.wm_ast.specs.Code.{const, Code, nil, cons}
use Rattle.wm_ast.specs.Instance.{constant_value, first_value, placed, with_datas, with_elements, zeros, empty_elements, first_store}
use Rattle.wm_ast.specs.Profile.{constant_offset, data_code, element_code, global_code, pages, entries, bytes_of, is_beyond, is_data_beyond, is_element_beyond}
use Rattle.wm_ast.specs.Store.{page_size, within, most_pages_of}
use Rattle.wm_valid.specs.Valid.{IsConstantCode, IsValidGlobal, IsValidMost}
use Rattle.wm_flat.specs.FlatTyping.{Are, held_type, least_pages, least_entries, TypedMemory, IsElement, TypedTable, TypedStore, IsFunction}
use Rattle.wm_flat.specs.Program.{IsProgram}
use Rattle.wm_valid.specs.InRange.{IsByte, CodeInRange}
use Rattle.wm_flat.proofs.CalleeLaws.{entry}
use Rattle.wm_flat.proofs.ItemLaws.{at_place, found_below, no_such}
use Rattle.wm_flat.proofs.MemoryLaws.{overwritten_length, overwritten_all, same_size}
use Rattle.wm_flat.proofs.ValueLaws.{Is, are_none, are_more}

-- Globals.

record Constant (t : ValType) (c : Code) : Type 0 where
  value : Value
  found : constant_value c ≡ Some value
  is : Is t value

constant : (t : ValType) (c : Code) → IsConstantCode t c → CodeInRange c → Constant t c
constant t (cons (const v) nil) i r = record { value = v; found = refl; is = record { type = i; range = r.0 } }
constant t nil i r = absurd i
constant t (cons i' (cons j is)) i r = absurd i
constant t (cons i' nil) i r = absurd i

globals_typed : (gs : List Global) → ((n : ℕ) (g : Global) → slice_get gs n ≡ Some g → IsValidGlobal g × CodeInRange (global_code g)) → Are (map held_type gs) (filter_map first_value gs)
globals_typed [] h = are_none
globals_typed (g ∷ gs) h =
    let v = h 0 g refl in
    let c = constant g.ty (global_code g) v.0 v.1 in
    let rest = globals_typed gs (λ n. h (suc n)) in
    rw c.found (are_more g.ty (map held_type gs) c.value (filter_map first_value gs) c.is rest)

-- Segments.

placed_length : {A : Type 0} (offset : Option ℕ) (xs all : List A) (size : ℕ) → length all ≡ size → is_beyond offset (length xs) (Some size) ≡ false → length (placed offset xs all) ≡ size
placed_length None xs all size e h = e
placed_length (Some offset) xs all size e h = let l = ltb-false size (offset + length xs) h in overwritten_length all offset xs (omega arith) ∙ e

placed_all : {A : Type 0} (P : A → Type 0) (offset : Option ℕ) (xs all : List A) → All P xs → All P all → All P (placed offset xs all)
placed_all P None xs all a b = b
placed_all P (Some offset) xs all a b = overwritten_all P all offset xs b a

datas_length : (ds : List Data) (memory : List ℕ) (size : ℕ) → length memory ≡ size → ((n : ℕ) (d : Data) → slice_get ds n ≡ Some d → is_beyond (constant_offset (data_code d)) (length d.bytes) (Some size) ≡ false) → length (with_datas ds memory) ≡ size
datas_length [] memory size e h = e
datas_length (d ∷ ds) memory size e h = datas_length ds (placed (constant_offset (data_code d)) d.bytes memory) size (placed_length (constant_offset (data_code d)) d.bytes memory size e (h 0 d refl)) (λ n. h (suc n))

datas_bytes : (ds : List Data) (memory : List ℕ) → All IsByte memory → ((n : ℕ) (d : Data) → slice_get ds n ≡ Some d → All IsByte d.bytes) → All IsByte (with_datas ds memory)
datas_bytes [] memory a h = a
datas_bytes (d ∷ ds) memory a h = datas_bytes ds (placed (constant_offset (data_code d)) d.bytes memory) (placed_all IsByte (constant_offset (data_code d)) d.bytes memory (h 0 d refl) a) (λ n. h (suc n))

abbrev pub some_index : ℕ → Option ℕ
some_index f = Some f

elements_length : (es : List Elem) (table : List (Option ℕ)) (size : ℕ) → length table ≡ size → ((n : ℕ) (e : Elem) → slice_get es n ≡ Some e → is_beyond (constant_offset (element_code e)) (length (map some_index e.funcs)) (Some size) ≡ false) → length (with_elements es table) ≡ size
elements_length [] table size q h = q
elements_length (e ∷ es) table size q h =
    elements_length es (placed (constant_offset (element_code e)) (map some_index e.funcs) table) size (placed_length (constant_offset (element_code e)) (map some_index e.funcs) table size q (h 0 e refl)) (λ n. h (suc n))

elements_all : (P : Option ℕ → Type 0) (es : List Elem) (table : List (Option ℕ)) → All P table → ((n : ℕ) (e : Elem) → slice_get es n ≡ Some e → All P (map some_index e.funcs)) → All P (with_elements es table)
elements_all P [] table a h = a
elements_all P (e ∷ es) table a h =
    elements_all P es (placed (constant_offset (element_code e)) (map some_index e.funcs) table) (placed_all P (constant_offset (element_code e)) (map some_index e.funcs) table (h 0 e refl) a) (λ n. h (suc n))

zeros_length : (o : Option Limits) → length (zeros o) ≡ page_size * least_pages o
zeros_length None = refl
zeros_length (Some l) = length-replicate (page_size * pages l) 0

module _ (m : Module) (p : IsProgram m) where
  -- Memories.

  zeros_size : (o : Option Limits) (l : Limits) → o ≡ Some l → length (zeros o) ≡ bytes_of l
  zeros_size o l e = zeros_length o ∙ ap (λ q. page_size * least_pages q) e

  pub data_fits : (n : ℕ) (d : Data) → slice_get m.datas n ≡ Some d → is_beyond (constant_offset (data_code d)) (length d.bytes) (Some (length (zeros (slice_get m.mems 0)))) ≡ false
  data_fits n d e =
      let v = p.valid.items items.Datas n d e in
      let l = found_below m.mems d.memory v.memory in
      let first = p.valid.items items.Memories d.memory l.0 l.1 in
      let there : slice_get m.mems 0 ≡ Some l.0 = ap (slice_get m.mems) (sym first.0) ∙ l.1 in
      let fits = no_such (is_data_beyond m) m.datas n d p.profile.no_data_beyond e in
      subst (λ s. is_beyond (constant_offset (data_code d)) (length d.bytes) (Some s) ≡ false) (sym (zeros_size (slice_get m.mems 0) l.0 there))
      (subst (λ o. is_beyond (constant_offset (data_code d)) (length d.bytes) (option_map bytes_of o) ≡ false) l.1 fits)

  pub pages_kept : (l : Limits) → slice_get m.mems 0 ≡ Some l → pages l ≤ PAGES
  pages_kept l e = at_place (λ n. n ≤ PAGES) (map pages m.mems) 0 (pages l) p.profile.within_limits.memories (slice_get-map pages m.mems 0 ∙ ap (λ o. option_map pages o) e)

  least_allowed : (least : ℕ) (most : Option ℕ) → least ≤ PAGES → IsValidMost 65536 least most → least ≤ within most
  least_allowed least None k v = k
  least_allowed least (Some most) k v = let a = v.0 in omega arith

  first_memory : (o : Option Limits) → slice_get m.mems 0 ≡ o → TypedMemory m (zeros o)
  first_memory None e = record {
    count = 0;
    size = refl;
    at_most = omega arith;
    bytes = All-nil IsByte;
    at_least = subst (λ q. least_pages q ≤ 0) (sym e) (omega arith);
  }
  first_memory (Some l) e =
      let v = p.valid.items items.Memories 0 l e in
      record {
        count = pages l;
        size = length-replicate (page_size * pages l) 0;
        bytes = All-replicate IsByte (page_size * pages l) 0 (omega arith);
        at_least = subst (λ q. least_pages q ≤ pages l) (sym e) (omega arith);
        at_most = subst (λ q. pages l ≤ most_pages_of q) (sym e) (least_allowed (pages l) l.max (pages_kept l e) v.1.1);
      }

  same_length : length (first_store m).memory ≡ length (zeros (slice_get m.mems 0))
  same_length = datas_length m.datas (zeros (slice_get m.mems 0)) (length (zeros (slice_get m.mems 0))) refl data_fits

  -- it has just its least size
  pub first_memory_length : length (first_store m).memory ≡ page_size * least_pages (slice_get m.mems 0)
  first_memory_length = same_length ∙ zeros_length (slice_get m.mems 0)

  memory_typed : TypedMemory m (first_store m).memory
  memory_typed =
      let t = first_memory (slice_get m.mems 0) refl in
      same_size m (zeros (slice_get m.mems 0)) (first_store m).memory t same_length
      (datas_bytes m.datas (zeros (slice_get m.mems 0)) t.bytes p.numbers.datas)

  -- Tables.

  is_element : (f : ℕ) → f < length m.funcs → IsElement m (Some f)
  is_element f h =
      let g = found_below m.funcs f h in
      let t = p.valid.bodies f g.0 g.1 in
      let i : IsFunction m f g.0 t.0 = record { there = g.1; has_type = t.1 } in
      (_, (entry m f g.0 t.0 p i).found)

  pub elements_size : (o : Option Limits) → length (empty_elements o) ≡ least_entries o
  elements_size None = refl
  elements_size (Some l) = length-replicate (entries l) None

  pub element_fits : (n : ℕ) (e : Elem) → slice_get m.elems n ≡ Some e → is_beyond (constant_offset (element_code e)) (length (map some_index e.funcs)) (Some (least_entries (slice_get m.tables 0))) ≡ false
  element_fits n e q =
      let v = p.valid.items items.Elements n e q in
      let l = found_below m.tables e.table v.table in
      let first = p.valid.items items.Tables e.table l.0 l.1 in
      let there : slice_get m.tables 0 ≡ Some l.0 = ap (slice_get m.tables) (sym first.0) ∙ l.1 in
      let fits = no_such (is_element_beyond m) m.elems n e p.profile.no_element_beyond q in
      subst (λ s. is_beyond (constant_offset (element_code e)) (length (map some_index e.funcs)) (Some (least_entries s)) ≡ false) (sym there)
      (subst (λ s. is_beyond (constant_offset (element_code e)) s (Some (entries l.0)) ≡ false) (sym (length-map e.funcs some_index))
      (subst (λ o. is_beyond (constant_offset (element_code e)) (length e.funcs) (option_map entries o) ≡ false) l.1 fits))

  empty_all : (o : Option Limits) → All (IsElement m) (empty_elements o)
  empty_all None = All-nil (IsElement m)
  empty_all (Some l) = All-replicate (IsElement m) (entries l) None tt

  table_typed : TypedTable m (first_store m).table
  table_typed = record {
    size = elements_length m.elems (empty_elements (slice_get m.tables 0)) (least_entries (slice_get m.tables 0)) (elements_size (slice_get m.tables 0)) element_fits;
    elements = elements_all (IsElement m) m.elems (empty_elements (slice_get m.tables 0)) (empty_all (slice_get m.tables 0))
        (λ n e q. All-map (IsElement m) some_index e.funcs (All-weaker (λ (f : ℕ). f < length m.funcs) (λ f. IsElement m (Some f)) is_element e.funcs (p.valid.items items.Elements n e q).functions));
  }

  pub first_store_typed : TypedStore m (first_store m)
  first_store_typed = record {
    globals = globals_typed m.globals (λ n g e. (p.valid.items items.Globals n g e, p.numbers.globals n g e));
    memory = memory_typed;
    table = table_typed;
  }
