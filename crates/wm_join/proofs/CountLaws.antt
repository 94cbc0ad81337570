-- How many items each module has.
use Rattle.std.proofs.Common.{◌≡◌, ℕ, suc, ◌+◌, ◌*◌, ◌<◌, ◌≤◌, List, [], ◌∷◌, ◌++◌, length, map, take, get_or, All, refl, sym, ap, ◌∙◌, arith}
use Rattle.std.proofs.lemmas.List.{take_more, take_all, map_push}
use Rattle.wm_ast.specs.declared.module.Module.{Module}
use Rattle.wm_match.specs.declared.library.Library.{Library}
use Rattle.wm_match.specs.Lists.{HasListsWithin}
use Rattle.wm_match.specs.Program.{module_of, modules_of}
use Rattle.wm_match.proofs.ModuleLaws.{module_count, short_module, library_module, main_module}
use Rattle.wm_join.specs.Numbering.{total}
use Rattle.wm_join.specs.steps.Numbers.{IsCount}

-- so many items, and no more
total_few : (own : Module → ℕ) (ms : List Module) → ((k : ℕ) (d : Module) → k < length ms → own (get_or ms k d) ≤ 1048576) → total (map own ms) ≤ length ms * 1048576
total_few own [] h = omega arith
total_few own (m ∷ ms) h =
    let a = h 0 m (omega arith) in
    let i = total_few own ms (λ k d lt. h (suc k) d (omega arith)) in
    omega arith

module _ (own : Module → ℕ) (libs : List Library) (main : Module) where
  abbrev pub library_counts : List Library → List ℕ
  library_counts ls = map (λ (l : Library). own l.module) ls

  -- one library more
  pub one_more : (counts new : List ℕ) (i n : ℕ) (l : Library) → i < length libs → l ≡ get_or libs i l → n ≡ own l.module → new ≡ counts ++ n ∷ []
      → counts ≡ library_counts (take i libs) → new ≡ library_counts (take (i + 1) libs)
  one_more counts new i n l lt is e p h =
      p ∙ ap (λ (z : ℕ). counts ++ z ∷ []) (e ∙ ap (λ (z : Library). own z.module) is) ∙ ap (λ (xs : List ℕ). xs ++ own (get_or libs i l).module ∷ []) h
      ∙ sym (map_push (λ (z : Library). own z.module) (take i libs) (get_or libs i l)) ∙ ap library_counts (sym (take_more libs i l lt))

  of_libraries : (ls : List Library) → library_counts ls ≡ map own (map module_of ls)
  of_libraries [] = refl
  of_libraries (l ∷ ls) = ap (λ (xs : List ℕ). own l.module ∷ xs) (of_libraries ls)

  -- the main module behind them
  pub all_counted : length libs ≤ 16 → ((m : Module) → HasListsWithin 1048576 m → own m ≤ 1048576) → All (HasListsWithin 1048576) (modules_of libs main)
      → (counts new : List ℕ) (i n : ℕ) → length libs ≤ i → n ≡ own main → new ≡ counts ++ n ∷ [] → counts ≡ library_counts (take i libs) → IsCount own (modules_of libs main) new
  all_counted few short all counts new i n le e p h =
      let a : new ≡ map own (modules_of libs main) =
      p ∙ ap (λ (z : ℕ). counts ++ z ∷ []) e ∙ ap (λ (xs : List ℕ). xs ++ own main ∷ []) (h ∙ ap library_counts (take_all i libs le) ∙ of_libraries libs)
      ∙ sym (map_push own (map module_of libs) main) in
      let b = total_few own (modules_of libs main) (λ k d lt. short (get_or (modules_of libs main) k d) (all k d lt)) in
      let c = module_count libs main in
      let d = ap total a in
      record { items = a; few = omega arith }

-- The lists of one of the modules are short.

pub short_library : (libs : List Library) (main : Module) (i : ℕ) (l : Library) → i < length libs → l ≡ get_or libs i l → All (HasListsWithin 1048576) (modules_of libs main) → HasListsWithin 1048576 l.module
short_library libs main i l lt is short = short_module libs main i l.module short (library_module libs main i l lt is)

pub short_main : (libs : List Library) (main : Module) → All (HasListsWithin 1048576) (modules_of libs main) → HasListsWithin 1048576 main
short_main libs main short = short_module libs main (length libs) main short (main_module libs main (length libs) (omega arith) (omega arith))
