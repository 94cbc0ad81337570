-- The example is a valid module of the profile.
use Rattle.std.proofs.Common.{◌≡◌, ℕ, zero, suc, ◌≤◌, ◌<◌, List, [], ◌∷◌, ◌++◌, take, Some, refl, sym, subst, ◌∙◌, arith, false, lit≤, lit<, All, rules, true≢false}
use Rattle.std.specs.Prelude.{slice_get, reverse}
use Rattle.std.specs.Str.{bytes_eq}
use Rattle.std.proofs.lemmas.Slice.Eq.{bytes_eq-Decides}
use Rattle.std.specs.List.{AllByRecursion}
use Rattle.std.proofs.lemmas.List.Elements.{All-cons}
use Rattle.wm_ast.specs.declared.instruction.Instr.{Instr}
use Rattle.wm_ast.specs.declared.item.Item.TheVariants.{Types, Imports, Functions, Tables, Memories, Globals, Elements, Datas, Start, Exports}
use Rattle.wm_ast.specs.declared.limit.TheConstants.{MAX_LOCALS, MAX_LABELS, MAX_TABLE, PAGES}
use Rattle.wm_ast.specs.declared.module.Export.{Export}
use Rattle.wm_ast.specs.declared.module.Func.{Func}
use Rattle.wm_ast.specs.declared.module.FuncType.{FuncType}
use Rattle.wm_ast.specs.declared.module.Module.{Module}
use Rattle.wm_ast.specs.declared.module.Limits.{Limits}
use Rattle.wm_ast.specs.Profile.{InProfile, HasNoFloat, HasNoMul64, WithinLimits, function_code, global_code}
use Rattle.wm_ast.specs.Types.{function_type, run_types}
use Rattle.wm_ast.specs.View.{code_of}
use Rattle.wm_valid.specs.Height.{Low, IsLow}
use Rattle.wm_valid.specs.Typing.{HasTyping, body_context, body_scope}
use Rattle.wm_valid.specs.Valid.{AllItemsValid, IsValidType, NamesType, IsValidGlobal, IsValidElement, IsValidData, IsValidTable, IsValidMemory, AreValidLimits, IsValidStart, IsValidExport, IsThere}
use Rattle.wm_valid.specs.steps.Checking.{check_body}
use Rattle.wm_valid.specs.PlaceReading.{code_height}
use Rattle.wm_valid.proofs.CheckLaws.{check_sound}
use Rattle.wm_valid.proofs.TypedLaws.{is_height}
use Rattle.wm_flat.specs.Program.{IsProgram}
use Rattle.wm_valid.specs.InRange.{HasNumbersInRange, CodeInRange, IsByte}
use Rattle.witness.specs.Example.{Bodies, bodies, module_of, example, dying, function, of_one, of_none, one, exported, initial}
use Rattle.witness.proofs.Seen.{AreSeen, are_seen}

-- what holds of each item holds of one at a place
at_place : {A : Type 0} (P : A → Type 0) (xs : List A) → AllByRecursion P xs → (n : ℕ) (x : A) → slice_get xs n ≡ Some x → P x
at_place P [] h n x e = absurd cc
at_place P (y ∷ xs) h zero x e = let same : y ≡ x = cc in subst P same h.0
at_place P (y ∷ xs) h (suc n) x e = at_place P xs h.1 n x e

each : {A : Type 0} (P : A → Type 0) (xs : List A) → AllByRecursion P xs → All P xs
each P [] h = λ k d below. absurd (omega arith)
each P (x ∷ xs) h = All-cons P x xs h.0 (each P xs h.1)

-- the one item of a list
only : {A : Type 0} (y : A) (n : ℕ) (x : A) → slice_get (y ∷ []) n ≡ Some x → (n ≡ 0) × (y ≡ x)
only y zero x e = (refl, cc)
only y (suc n) x e = absurd cc

some_same : {A : Type 0} (x y : A) → Some x ≡ Some y → x ≡ y
some_same x y e = cc

-- the export has another name
abbrev IsOther : List ℕ → Export → Type 0
IsOther name x = bytes_eq x.name name ≡ false

others_before : (name : List ℕ) (xs : List Export) (n : ℕ) → AllByRecursion (IsOther name) (take n xs) → (k : ℕ) (x : Export) → k < n → slice_get xs k ≡ Some x → IsOther name x
others_before name [] n h k x below at = absurd cc
others_before name (y ∷ xs) zero h k x below at = absurd (omega arith)
others_before name (y ∷ xs) (suc n) h zero x below at = subst (IsOther name) (some_same y x at) h.0
others_before name (y ∷ xs) (suc n) h (suc k) x below at = others_before name xs n h.1 k x (omega arith) at

module _ (begin : ℕ) (b : Bodies) (e : AreSeen b) where
  abbrev m : Module
  m = module_of begin b

  -- ---- the profile

  has_no_float : HasNoFloat m
  has_no_float = record { types = refl; imports = refl; globals = rw e.first refl; elements = rw e.offset refl; datas = rw e.offset refl; functions = rw (e.run, e.lower, e.start, e.spin, e.fail) refl }

  has_no_mul64 : HasNoMul64 m
  has_no_mul64 = record { globals = rw e.first refl; elements = rw e.offset refl; datas = rw e.offset refl; functions = rw (e.run, e.lower, e.start, e.spin, e.fail) refl }

  within : WithinLimits m
  within = record {
    types = lit≤ tt;
    functions = lit≤ tt;
    locals = each (λ count. count ≤ MAX_LOCALS) (1 ∷ 1 ∷ 0 ∷ 0 ∷ 0 ∷ []) (lit≤ tt, (lit≤ tt, (lit≤ tt, (lit≤ tt, (lit≤ tt, tt)))));
    all_locals = lit≤ tt;
    instructions = rw (e.run, e.lower, e.start, e.spin, e.fail) (lit≤ tt);
    labels = rw (e.first, e.offset, e.run, e.lower, e.start, e.spin, e.fail) (each (λ count. count ≤ MAX_LABELS) [] tt);
    globals = lit≤ tt;
    tables = each (λ count. count ≤ MAX_TABLE) (1 ∷ []) (lit≤ tt, tt);
    memories = each (λ count. count ≤ PAGES) (1 ∷ []) (lit≤ tt, tt);
    exports = lit≤ tt;
    export_sizes = lit≤ tt;
  }

  is_in_profile : InProfile m
  is_in_profile = record { no_imports = refl; no_floats = has_no_float; no_mul64 = has_no_mul64; within_limits = within; no_element_beyond = rw e.offset refl; no_data_beyond = rw e.offset refl }

  -- ---- bodies

  has_typing : (f : Func) (t : FuncType) → function_type m f ≡ Some t → check_body (code_of f.body) (body_context m f t) (reverse t.results) ≡ Some tt → HasTyping m f
  has_typing f t named checks = (t, named, check_sound (code_of f.body) (body_context m f t) (reverse t.results) tt checks)

  typed : AllByRecursion (HasTyping m) m.funcs
  typed = (
    has_typing (function 0 b.run) of_one refl (rw e.run refl),
    (
      has_typing (function 0 b.lower) of_one refl (rw e.lower refl),
      (
        has_typing (function 1 b.start) of_none refl (rw e.start refl),
        (
          has_typing (function 1 b.spin) of_none refl (rw e.spin refl),
          (
            has_typing (function 1 b.fail) of_none refl (rw e.fail refl),
            tt,
          ),
        ),
      ),
    ),
  )

  low_by : (f : Func) (t : FuncType) (h : ℕ) → function_type m f ≡ Some t → HasTyping m f
      → h ≡ code_height (code_of f.body) (body_scope m (t.params ++ run_types f.locals)) 0 → h ≤ 1024 → IsLow m f
  low_by f t h named ty is low count over =
      let under : count ≤ h = (is_height m f t h named ty is).none_higher count over in
      omega arith

  low : AllByRecursion (IsLow m) m.funcs
  low = (
    low_by (function 0 b.run) of_one 3 refl typed.0 (rw e.run refl) (lit≤ tt),
    (
      low_by (function 0 b.lower) of_one 2 refl typed.1.0 (rw e.lower refl) (lit≤ tt),
      (
        low_by (function 1 b.start) of_none 1 refl typed.1.1.0 (rw e.start refl) (lit≤ tt),
        (
          low_by (function 1 b.spin) of_none 0 refl typed.1.1.1.0 (rw e.spin refl) (lit≤ tt),
          (
            low_by (function 1 b.fail) of_none 0 refl typed.1.1.1.1.0 (rw e.fail refl) (lit≤ tt),
            tt,
          ),
        ),
      ),
    ),
  )

  -- ---- items

  valid_table : (n : ℕ) (l : Limits) → slice_get (one ∷ []) n ≡ Some l → IsValidTable n l
  valid_table n l at =
      let is = only one n l at in
      (is.0, subst (AreValidLimits 0xFFFF_FFFF) is.1 (lit≤ tt, tt))

  valid_memory : (n : ℕ) (l : Limits) → slice_get (one ∷ []) n ≡ Some l → IsValidMemory n l
  valid_memory n l at =
      let is = only one n l at in
      (is.0, subst (AreValidLimits 65536) is.1 (lit≤ tt, tt))

  -- two functions may be the start function
  starts : (c : List Instr) → slice_get m.funcs begin ≡ Some (function 1 c) → IsValidStart m begin
  starts c there = record { function = function 1 c; there = there; plain = record { type = of_none; named = refl; params = refl; results = refl } }

  -- an export has another name than those before it
  valid_at : (n : ℕ) (y : Export) → IsThere m y.space y.index → AllByRecursion (IsOther y.name) (take n exported) → IsValidExport m n y
  valid_at n y there apart = record {
    there = there;
    new = λ k earlier below at same. absurd (true≢false (sym ((bytes_eq-Decides earlier.name y.name).1 same) ∙ others_before y.name exported n apart k earlier below at));
  }

  valid_export : (n : ℕ) (x : Export) → slice_get exported n ≡ Some x → IsValidExport m n x
  valid_export zero x at = subst (IsValidExport m 0) (some_same _ x at) (valid_at 0 _ (lit< tt) tt)
  valid_export (suc zero) x at = subst (IsValidExport m 1) (some_same _ x at) (valid_at 1 _ (lit< tt) (refl, tt))
  valid_export (suc (suc zero)) x at = subst (IsValidExport m 2) (some_same _ x at) (valid_at 2 _ (lit< tt) (refl, (refl, tt)))
  valid_export (suc (suc (suc n))) x at = absurd cc

  -- ---- numbers

  numbers : HasNumbersInRange m
  numbers = record {
    functions = at_place (λ f. CodeInRange (function_code f)) m.funcs (rw e.run (search rules), (rw e.lower (search rules), (rw e.start (search rules), (rw e.spin (search rules), (rw e.fail (search rules), tt)))));
    globals = at_place (λ g. CodeInRange (global_code g)) m.globals (rw e.first (search rules), tt);
    datas = at_place (λ d. All IsByte d.bytes) m.datas (each IsByte initial (lit< tt, (lit< tt, (lit< tt, (lit< tt, (lit< tt, (lit< tt, (lit< tt, (lit< tt, tt)))))))), tt);
  }

  module _ (started : IsValidStart m begin) where
    valid_items : AllItemsValid m
    valid_items Types = at_place IsValidType m.types (lit≤ tt, (lit≤ tt, tt))
    valid_items Imports = λ n. tt
    valid_items Functions = at_place (NamesType m) m.funcs (lit< tt, (lit< tt, (lit< tt, (lit< tt, (lit< tt, tt)))))
    valid_items Tables = valid_table
    valid_items Memories = valid_memory
    valid_items Globals = at_place IsValidGlobal m.globals (rw e.first refl, tt)
    valid_items Elements = at_place (IsValidElement m) m.elems (record { table = lit< tt; offset = rw e.offset refl; functions = each (λ (f : ℕ). f < 5) (1 ∷ []) (lit< tt, tt) }, tt)
    valid_items Datas = at_place (IsValidData m) m.datas (record { memory = lit< tt; offset = rw e.offset refl }, tt)
    valid_items Start = λ n f z at. subst (IsValidStart m) (some_same begin f at) started
    valid_items Exports = valid_export

    program : IsProgram m
    program = record { valid = record { items = valid_items; bodies = at_place (HasTyping m) m.funcs typed }; profile = is_in_profile; numbers = numbers }

  all_low : Low m
  all_low = at_place (IsLow m) m.funcs low

pub is_program : IsProgram example
is_program = program 2 bodies are_seen (starts 2 bodies are_seen bodies.start refl)

pub is_low : Low example
is_low = all_low 2 bodies are_seen

pub dying_is_program : IsProgram dying
dying_is_program = program 4 bodies are_seen (starts 4 bodies are_seen bodies.fail refl)

pub dying_is_low : Low dying
dying_is_low = all_low 4 bodies are_seen
