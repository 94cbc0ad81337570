-- The numbers of the indices of one module.
use Rattle.std.proofs.Common.{◌≡◌, ℕ, zero, suc, ◌+◌, ◌-◌, ◌<◌, ◌≤◌, List, [], ◌∷◌, ◌++◌, length, map, drop, get_or, Bool, true, false, ltb, cond, Option, Some, None, option_map, refl, sym, ap, subst, ◌∙◌, arith}
use Rattle.std.specs.Prelude.{slice_get, unwrap_or, option_and_then}
use Rattle.std.proofs.lemmas.Bool.{ltb-true, ltb-false, le-ltb}
use Rattle.std.proofs.lemmas.List.{drop_all, append-nil, append_assoc}
use Rattle.std.proofs.lemmas.Option.{slice_get-map}
use Rattle.wm_ast.specs.declared.module.Import.{Import}
use Rattle.wm_ast.specs.declared.module.Module.{Module}
use Rattle.wm_ast.specs.declared.module.Space.{Space}
use Rattle.wm_ast.specs.declared.module.Space.TheVariants as spaces
use Rattle.wm_match.specs.declared.library.Binding.{Binding}
use Rattle.wm_match.specs.declared.library.Library.{Library}
use Rattle.wm_match.specs.Binds.{Binds}
use Rattle.wm_match.specs.Cause.{program}
use Rattle.wm_match.specs.Program.{Program, modules_of, modules, module_at, bindings_at}
use Rattle.wm_match.specs.Space.{is_in, own_count, own_items, imported_items, items_of, stands_for}
use Rattle.wm_match.proofs.LookupLaws.{part_read}
use Rattle.wm_match.proofs.ModuleLaws.{module_count}
use Rattle.wm_match.proofs.SpaceLaws.{own_there, own_past, at_import}
use Rattle.wm_join.specs.declared.counts.Counts.{Counts}
use Rattle.wm_join.specs.declared.numbers.Indices.{Indices}
use Rattle.wm_join.specs.declared.numbers.Numbers.{Numbers}
use Rattle.wm_join.specs.Joined.{place_number, index_number, type_number}
use Rattle.wm_join.specs.Numbering.{total}
use Rattle.wm_join.specs.steps.Numbers.{own_types, AreCounts, AreIndices, AreNumbers, number_of, space_number}
use Rattle.wm_join.specs.steps.Places.{IsPlace, number_in, binding_number}
use Rattle.wm_join.proofs.PlaceLaws.{in_place}

-- Imports, one by one.

module _ (f : Binding → ℕ) (space : Space) where
  abbrev pub Left : List Import → List Binding → List ℕ
  Left is bs = map f (imported_items space is bs)

  step : (found new : List ℕ) (b : Bool) (x : Binding) (xs ys : List Binding) → new ≡ cond b (found ++ f x ∷ []) found → ys ≡ cond b (x ∷ xs) xs → new ++ map f xs ≡ found ++ map f ys
  step found new true x xs ys n e =
      ap (λ (l : List ℕ). l ++ map f xs) n ∙ append_assoc found (f x ∷ []) (map f xs) ∙ ap (λ (l : List Binding). found ++ map f l) (sym e)
  step found new false x xs ys n e = ap (λ (l : List ℕ). l ++ map f xs) n ∙ ap (λ (l : List Binding). found ++ map f l) (sym e)

  pub import_more : (found new all : List ℕ) (is : List Import) (bs : List Binding) (n : ℕ) (i : Import) (x : Binding) (b : Bool) → n < length is → n < length bs → i ≡ get_or is n i → x ≡ get_or bs n x → b ≡ is_in space i
      → new ≡ cond b (found ++ f x ∷ []) found → found ++ Left (drop n is) (drop n bs) ≡ all → new ++ Left (drop (n + 1) is) (drop (n + 1) bs) ≡ all
  import_more found new all is bs n i x b l m g h e w inv =
      step found new b x (imported_items space (drop (n + 1) is) (drop (n + 1) bs)) (imported_items space (drop n is) (drop n bs)) w (at_import space [] is bs n i x b l m g h e) ∙ inv

  pub imports_done : (found all : List ℕ) (is : List Import) (bs : List Binding) (n : ℕ) → length is ≤ n → found ++ Left (drop n is) (drop n bs) ≡ all → found ≡ all
  imports_done found all is bs n le inv =
      sym (append-nil found) ∙ ap (λ (l : List Import). found ++ Left l (drop n bs)) (sym (drop_all n is le)) ∙ inv

-- The indices of a space.

-- imported items first
named : (f : Binding → ℕ) (all : ℕ) (g : ℕ → ℕ) (xs ys : List Binding) → ((j : ℕ) → g j ≡ unwrap_or (option_map f (slice_get ys j)) all) → (n : ℕ)
    → unwrap_or (slice_get (map f xs) n) (g (n - length (map f xs))) ≡ unwrap_or (option_map f (slice_get (xs ++ ys) n)) all
named f all g [] ys h n = let e : n - 0 ≡ n = omega arith in ap g e ∙ h n
named f all g (x ∷ xs) ys h zero = refl
named f all g (x ∷ xs) ys h (suc n) =
    let e : suc n - suc (length (map f xs)) ≡ n - length (map f xs) = omega arith in
    ap (λ (j : ℕ). unwrap_or (slice_get (map f xs) n) (g j)) e ∙ named f all g xs ys h n

module _ (p : Program) (space : Space) (k : ℕ) (m : Module) (at : module_at p k ≡ Some m) (x : Indices)
    (h : AreIndices (map (own_count space) (modules p)) space k m (bindings_at p k) x) where
  abbrev sizes : List ℕ
  sizes = map (own_count space) (modules p)

  abbrev imported : List Binding
  imported = imported_items space m.imports (bindings_at p k)

  same_count : x.own.count ≡ own_count space m
  same_count =
      let w : Some x.own.count ≡ Some (own_count space m) = sym h.own.count ∙ slice_get-map (own_count space) (modules p) k ∙ ap (option_map (own_count space)) at in
      cc

  own_number : (j : ℕ) → number_in x.own j ≡ unwrap_or (option_map (binding_number sizes) (slice_get (own_items k 0 (own_count space m)) j)) (total sizes)
  own_number j = by_place (ltb j (own_count space m)) refl
    where
      by_place : (b : Bool) → ltb j (own_count space m) ≡ b → number_in x.own j ≡ unwrap_or (option_map (binding_number sizes) (slice_get (own_items k 0 (own_count space m)) j)) (total sizes)
      by_place true e =
          in_place sizes k j x.own h.own
          ∙ ap (λ (o : Option Binding). unwrap_or (option_map (binding_number sizes) o) (total sizes)) (own_there k (own_count space m) j (ltb-true j (own_count space m) e))
      by_place false e =
          let l = ltb-false j (own_count space m) e in
          let s = same_count in
          let past : ltb j x.own.count ≡ false = le-ltb j x.own.count (omega arith) in
          ap (λ (b : Bool). cond b (x.own.first + j) x.own.all) past ∙ h.own.all
          ∙ ap (λ (o : Option Binding). unwrap_or (option_map (binding_number sizes) o) (total sizes)) (own_past k (own_count space m) j l)

  placed : (o : Option Binding) → unwrap_or (option_map (binding_number sizes) o) (total sizes) ≡ place_number p space o
  placed None = refl
  placed (Some b) = refl

  pub indices_are : (n : ℕ) → number_of x n ≡ place_number p space (stands_for p space k n)
  indices_are n =
      ap (λ (l : List ℕ). unwrap_or (slice_get l n) (number_in x.own (n - length l))) h.imported
      ∙ named (binding_number sizes) (total sizes) (number_in x.own) imported (own_items k 0 (own_count space m)) own_number n
      ∙ placed (slice_get (items_of space k m (bindings_at p k)) n)
      ∙ ap (λ (o : Option Module). place_number p space (option_and_then (λ (z : Module). slice_get (items_of space k z (bindings_at p k)) n) o)) (sym at)

-- All indices of a module.

module _ (p : Program) (k : ℕ) (m : Module) (at : module_at p k ≡ Some m) (part : List Binding) (is : bindings_at p k ≡ part) (c : Counts) (counts : AreCounts (modules p) c) (x : Numbers)
    (types : IsPlace c.types.items k x.types) (functions : AreIndices c.functions.items spaces.Func k m part x.functions)
    (tables : AreIndices c.tables.items spaces.Table k m part x.tables) (memories : AreIndices c.memories.items spaces.Memory k m part x.memories)
    (globals : IsPlace c.globals.items k x.globals) where
  type_is : (n : ℕ) → number_in x.types n ≡ type_number p k n
  type_is n = in_place (map own_types (modules p)) k n x.types (subst (λ (l : List ℕ). IsPlace l k x.types) counts.types.items types)

  global_is : (n : ℕ) → number_in x.globals n ≡ index_number p spaces.Global k n
  global_is n = in_place (map (own_count spaces.Global) (modules p)) k n x.globals (subst (λ (l : List ℕ). IsPlace l k x.globals) counts.globals.items globals)

  indices : (space : Space) (i : Indices) (l : List ℕ) → l ≡ map (own_count space) (modules p) → AreIndices l space k m part i → (n : ℕ) → number_of i n ≡ place_number p space (stands_for p space k n)
  indices space i l e h =
      indices_are p space k m at i (subst (λ (z : List Binding). AreIndices (map (own_count space) (modules p)) space k m z i) (sym is) (subst (λ (z : List ℕ). AreIndices z space k m part i) e h))

  abbrev function_is : (n : ℕ) → number_of x.functions n ≡ index_number p spaces.Func k n
  function_is = indices spaces.Func x.functions c.functions.items counts.functions.items functions

  abbrev table_is : (n : ℕ) → number_of x.tables n ≡ index_number p spaces.Table k n
  table_is = indices spaces.Table x.tables c.tables.items counts.tables.items tables

  abbrev memory_is : (n : ℕ) → number_of x.memories n ≡ index_number p spaces.Memory k n
  memory_is = indices spaces.Memory x.memories c.memories.items counts.memories.items memories

  space_is : (space : Space) → space_number x space ≡ index_number p space k
  space_is spaces.Func = λ i n. function_is n i
  space_is spaces.Table = λ i n. table_is n i
  space_is spaces.Memory = λ i n. memory_is n i
  space_is spaces.Global = λ i n. global_is n i

  pub numbers_are : AreNumbers p k x
  numbers_are = record {
    renumbering = λ i. record { type = λ n. type_is n i; function = λ n. function_is n i; global = λ n. global_is n i };
    indices = space_is;
  }

-- What the imports of a module are bound to.

module _ (libs : List Library) (main : Module) (bindings : List (List Binding)) (binds : Binds (program libs main bindings)) (k : ℕ) (within : k ≤ length libs)
    (read part : List Binding) (is : read ≡ get_or bindings k read) (same : part ≡ read) where
  pub part_is : bindings_at (program libs main bindings) k ≡ part
  part_is =
      let n = module_count libs main in
      let l = binds.parts in
      part_read bindings k read (omega arith) is ∙ sym same

  pub part_count : (m : Module) → slice_get (modules_of libs main) k ≡ Some m → length part ≡ length m.imports
  part_count m at =
      let n = module_count libs main in
      ap (length {A = Binding}) (sym part_is) ∙ binds.bound.counts k m (omega arith) at
