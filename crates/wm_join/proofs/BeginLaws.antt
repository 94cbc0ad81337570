-- The first store of the joined module is the image of that of the linked modules.
use Rattle.std.proofs.Common.{◌≡◌, ℕ, zero, suc, ◌+◌, ◌<◌, List, [], ◌∷◌, ◌++◌, length, map, take, drop, replicate, Option, Some, None, option_map, refl, sym, ap, ap₂, ◌∙◌, arith}
use Rattle.std.specs.Prelude.{slice_get, filter_map, All}
use Rattle.std.specs.List.{cons_option}
use Rattle.std.proofs.lemmas.List.{map-append, take-map, drop-map, length-map}
use Rattle.std.proofs.lemmas.List.Elements.{All-head, All-tail, filter_map-append}
use Rattle.mc_nbt.specs.declared.value.Value.{Value}
use Rattle.wm_ast.specs.declared.module.Data.{Data}
use Rattle.wm_ast.specs.declared.module.Elem.{Elem}
use Rattle.wm_ast.specs.declared.module.Global.{Global}
use Rattle.wm_ast.specs.declared.module.Limits.{Limits}
use Rattle.wm_ast.specs.declared.module.Module.{Module}
use Rattle.wm_ast.specs.declared.module.Space.TheVariants as spaces
use Rattle.wm_ast.specs.Configuration as one
use Rattle.wm_ast.specs.Instance as one_instance
use Rattle.wm_ast.specs.Instance.{constant_value, first_value, placed, with_datas, zeros}
use Rattle.wm_ast.specs.Profile.{constant_offset, data_code, element_code, entries}
use Rattle.wm_ast.specs.Store.{Store, overwritten}
use Rattle.wm_ast.specs.View.{code_of}
use Rattle.wm_match.specs.declared.library.Binding.{Binding}
use Rattle.wm_match.specs.Program.{Program, modules}
use Rattle.wm_match.specs.Space.{own_count, stands_for}
use Rattle.wm_join.specs.Agree.{HasConstant, NamesFunctions, CanBegin, BeginsAlike}
use Rattle.wm_join.specs.Image.{image_element, image_store, image_items}
use Rattle.wm_join.specs.Joined.{joined, index_number, place_number, renumbering, joined_function, joined_global, joined_element, joined_data, main_number}
use Rattle.wm_join.specs.LinkedInstance.{placed_function, with_elements, with_all_elements, with_all_datas, empty_elements, first_globals, first_store, start_term}
use Rattle.wm_join.specs.Numbering.{joined_lists, numbered}
use Rattle.wm_join.proofs.NumberingLaws.{get_right, made_length}
use Rattle.wm_join.proofs.RenumberedLaws.{code_is, value_is, offset_is}

-- each item of a list, by its place
abbrev Each : {A : Type 0} → (A → Type 0) → List A → Type 0
Each P xs = (n : ℕ) (x : _) → slice_get xs n ≡ Some x → P x

each_left : {A : Type 0} (P : A → Type 0) (xs ys : List A) → Each P (xs ++ ys) → Each P xs
each_left P [] ys h n x e = absurd cc
each_left P (y ∷ xs) ys h zero x e = h zero x e
each_left P (y ∷ xs) ys h (suc n) x e = each_left P xs ys (λ k z w. h (suc k) z w) n x e

each_right : {A : Type 0} (P : A → Type 0) (xs ys : List A) → Each P (xs ++ ys) → Each P ys
each_right P xs ys h n x e = h (length xs + n) x (get_right xs ys n ∙ e)

module _ (p : Program) where
  -- Globals.

  first_is : (k : ℕ) (g : Global) → first_value (joined_global p k g) ≡ first_value g
  first_is k g = ap constant_value (code_is p k g.init) ∙ value_is (renumbering p k) (code_of g.init)

  globals_are : (k : ℕ) (gs : List Global) → filter_map first_value (map (joined_global p k) gs) ≡ filter_map first_value gs
  globals_are k [] = refl
  globals_are k (g ∷ gs) = ap₂ (λ (o : Option Value) (l : List Value). cons_option o l) (first_is k g) (globals_are k gs)

  all_globals_are : (from : ℕ) (ms : List Module)
      → filter_map first_value (joined_lists (numbered (λ k m. map (joined_global p k) m.globals) from ms)) ≡ joined_lists (map (first_globals) ms)
  all_globals_are from [] = refl
  all_globals_are from (m ∷ ms) =
      filter_map-append first_value (map (joined_global p from) m.globals) (joined_lists (numbered (λ k m. map (joined_global p k) m.globals) (suc from) ms))
      ∙ ap₂ (λ (a b : List Value). a ++ b) (globals_are from m.globals) (all_globals_are (suc from) ms)

  -- as many values as globals

  counted : (k : ℕ) (gs : List Global) → Each HasConstant (map (joined_global p k) gs) → length (filter_map first_value gs) ≡ length gs
  counted k [] h = refl
  counted k (g ∷ gs) h =
      let v = h zero (joined_global p k g) refl in
      let e : first_value g ≡ Some v.0 = sym (first_is k g) ∙ v.1 in
      let i = counted k gs (λ n x w. h (suc n) x w) in
      rw e (ap suc i)

  all_counted : (from : ℕ) (ms : List Module) → Each HasConstant (joined_lists (numbered (λ k m. map (joined_global p k) m.globals) from ms))
      → map (length {A = Value}) (map (first_globals) ms) ≡ map (own_count spaces.Global) ms
  all_counted from [] h = refl
  all_counted from (m ∷ ms) h =
      let here = map (joined_global p from) m.globals in
      let rest = joined_lists (numbered (λ k m. map (joined_global p k) m.globals) (suc from) ms) in
      ap₂ (λ (n : ℕ) (l : List ℕ). n ∷ l) (counted from m.globals (each_left HasConstant here rest h)) (all_counted (suc from) ms (each_right HasConstant here rest h))

  -- Memory.

  datas_are : (k : ℕ) (ds : List Data) (memory : List ℕ) → with_datas (map (joined_data p k) ds) memory ≡ with_datas ds memory
  datas_are k [] memory = refl
  datas_are k (d ∷ ds) memory =
      ap (λ (o : Option ℕ). with_datas (map (joined_data p k) ds) (placed o d.bytes memory)) (ap constant_offset (code_is p k d.offset) ∙ offset_is (renumbering p k) (code_of d.offset))
      ∙ datas_are k ds (placed (constant_offset (data_code d)) d.bytes memory)

  datas_behind : (cs ds : List Data) (memory : List ℕ) → with_datas (cs ++ ds) memory ≡ with_datas ds (with_datas cs memory)
  datas_behind [] ds memory = refl
  datas_behind (c ∷ cs) ds memory = datas_behind cs ds (placed (constant_offset (data_code c)) c.bytes memory)

  all_datas_are : (from : ℕ) (ms : List Module) (memory : List ℕ)
      → with_datas (joined_lists (numbered (λ k m. map (joined_data p k) m.datas) from ms)) memory ≡ with_all_datas ms memory
  all_datas_are from [] memory = refl
  all_datas_are from (m ∷ ms) memory =
      datas_behind (map (joined_data p from) m.datas) (joined_lists (numbered (λ k m. map (joined_data p k) m.datas) (suc from) ms)) memory
      ∙ ap (with_datas (joined_lists (numbered (λ k m. map (joined_data p k) m.datas) (suc from) ms))) (datas_are from m.datas memory)
      ∙ all_datas_are (suc from) ms (with_datas m.datas memory)

  -- The table.

  -- a function that is there
  named_is : (o : Option Binding) → place_number p spaces.Func o < length (joined p).funcs → Some (place_number p spaces.Func o) ≡ image_element p o
  named_is None h =
      let l = made_length (λ (j : ℕ) (m : Module). map (joined_function p j) m.funcs) (own_count spaces.Func) (λ j m. length-map m.funcs (joined_function p j)) 0 (modules p) in
      absurd (omega arith)
  named_is (Some f) h = refl

  functions_are : (k : ℕ) (fs : List ℕ) → All (λ (f : ℕ). f < length (joined p).funcs) (map (index_number p spaces.Func k) fs)
      → map (λ (f : ℕ). Some f) (map (index_number p spaces.Func k) fs) ≡ map (image_element p) (map (placed_function p k) fs)
  functions_are k [] h = refl
  functions_are k (f ∷ fs) h =
      ap₂ (λ (o : Option ℕ) (l : List (Option ℕ)). o ∷ l)
      (named_is (stands_for p spaces.Func k f) (All-head (λ (f : ℕ). f < length (joined p).funcs) (index_number p spaces.Func k f) (map (index_number p spaces.Func k) fs) h))
      (functions_are k fs (All-tail (λ (f : ℕ). f < length (joined p).funcs) (index_number p spaces.Func k f) (map (index_number p spaces.Func k) fs) h))

  overwritten_is : (table others : List (Option Binding)) (position : ℕ)
      → overwritten (map (image_element p) table) position (map (image_element p) others) ≡ map (image_element p) (overwritten table position others)
  overwritten_is table others position =
      ap (λ (n : ℕ). take position (map (image_element p) table) ++ (map (image_element p) others ++ drop (position + n) (map (image_element p) table))) (length-map others (image_element p))
      ∙ ap (λ (l : List (Option ℕ)). take position (map (image_element p) table) ++ (map (image_element p) others ++ l)) (drop-map (image_element p) (position + length others) table)
      ∙ ap (λ (l : List (Option ℕ)). l ++ (map (image_element p) others ++ map (image_element p) (drop (position + length others) table))) (take-map (image_element p) position table)
      ∙ ap (λ (l : List (Option ℕ)). map (image_element p) (take position table) ++ l) (sym (map-append (image_element p) others (drop (position + length others) table)))
      ∙ sym (map-append (image_element p) (take position table) (others ++ drop (position + length others) table))

  placed_is : (o : Option ℕ) (others table : List (Option Binding))
      → placed o (map (image_element p) others) (map (image_element p) table) ≡ map (image_element p) (placed o others table)
  placed_is None others table = refl
  placed_is (Some position) others table = overwritten_is table others position

  elements_are : (k : ℕ) (es : List Elem) (table : List (Option Binding)) → Each (NamesFunctions (joined p)) (map (joined_element p k) es)
      → one_instance.with_elements (map (joined_element p k) es) (map (image_element p) table) ≡ map (image_element p) (with_elements p k es table)
  elements_are k [] table h = refl
  elements_are k (e ∷ es) table h =
      ap (λ (o : Option ℕ). one_instance.with_elements (map (joined_element p k) es) (placed o (map (λ (f : ℕ). Some f) (map (index_number p spaces.Func k) e.funcs)) (map (image_element p) table)))
      (ap constant_offset (code_is p k e.offset) ∙ offset_is (renumbering p k) (code_of e.offset))
      ∙ ap (λ (l : List (Option ℕ)). one_instance.with_elements (map (joined_element p k) es) (placed (constant_offset (element_code e)) l (map (image_element p) table)))
      (functions_are k e.funcs (h zero (joined_element p k e) refl))
      ∙ ap (one_instance.with_elements (map (joined_element p k) es)) (placed_is (constant_offset (element_code e)) (map (placed_function p k) e.funcs) table)
      ∙ elements_are k es (placed (constant_offset (element_code e)) (map (placed_function p k) e.funcs) table) (λ n x w. h (suc n) x w)

  elements_behind : (cs es : List Elem) (table : List (Option ℕ)) → one_instance.with_elements (cs ++ es) table ≡ one_instance.with_elements es (one_instance.with_elements cs table)
  elements_behind [] es table = refl
  elements_behind (c ∷ cs) es table = elements_behind cs es (placed (constant_offset (element_code c)) (map (λ (f : ℕ). Some f) c.funcs) table)

  all_elements_are : (from : ℕ) (ms : List Module) (table : List (Option Binding))
      → Each (NamesFunctions (joined p)) (joined_lists (numbered (λ k m. map (joined_element p k) m.elems) from ms))
      → one_instance.with_elements (joined_lists (numbered (λ k m. map (joined_element p k) m.elems) from ms)) (map (image_element p) table) ≡ map (image_element p) (with_all_elements p from ms table)
  all_elements_are from [] table h = refl
  all_elements_are from (m ∷ ms) table h =
      let here = map (joined_element p from) m.elems in
      let rest = joined_lists (numbered (λ k m. map (joined_element p k) m.elems) (suc from) ms) in
      elements_behind here rest (map (image_element p) table)
      ∙ ap (one_instance.with_elements rest) (elements_are from m.elems table (each_left (NamesFunctions (joined p)) here rest h))
      ∙ all_elements_are (suc from) ms (with_elements p from m.elems table) (each_right (NamesFunctions (joined p)) here rest h)

  replicated : (n : ℕ) → replicate {A = Option ℕ} n None ≡ map (image_element p) (replicate n None)
  replicated zero = refl
  replicated (suc n) = ap (λ (l : List (Option ℕ)). None ∷ l) (replicated n)

  empty_is : (l : Option Limits) → one_instance.empty_elements l ≡ map (image_element p) (empty_elements l)
  empty_is None = refl
  empty_is (Some l) = replicated (entries l)

  -- The whole.

  store_is : CanBegin (joined p) → one_instance.first_store (joined p) ≡ image_store p (first_store p)
  store_is can =
      ap (λ (gs : List Value). record { globals = gs; memory = with_datas (joined p).datas (zeros (slice_get (joined p).mems 0)); table = one_instance.with_elements (joined p).elems (one_instance.empty_elements (slice_get (joined p).tables 0)) }) (all_globals_are 0 (modules p))
      ∙ ap (λ (bytes : List ℕ). record { globals = joined_lists (map (first_globals) (modules p)); memory = bytes; table = one_instance.with_elements (joined p).elems (one_instance.empty_elements (slice_get (joined p).tables 0)) }) (all_datas_are 0 (modules p) (zeros (slice_get (joined p).mems 0)))
      ∙ ap (λ (table : List (Option ℕ)). record { globals = joined_lists (map (first_globals) (modules p)); memory = with_all_datas (modules p) (zeros (slice_get (joined p).mems 0)); table = table })
      (ap (one_instance.with_elements (joined p).elems) (empty_is (slice_get (joined p).tables 0)) ∙ all_elements_are 0 (modules p) (empty_elements (slice_get (joined p).tables 0)) can.elements)

  start_is : (f : Option ℕ) → one_instance.start_term (option_map (index_number p spaces.Func (main_number p)) f) ≡ image_items p (main_number p) (start_term p f)
  start_is None = refl
  start_is (Some f) = refl

  pub begins_alike : CanBegin (joined p) → BeginsAlike p
  begins_alike can = record {
    store = all_counted 0 (modules p) can.globals;
    config = ap₂ (λ (s : Store) (is : one.Items). record { store = s; term = is }) (store_is can) (start_is p.main.start);
  }
