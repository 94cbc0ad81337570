-- The module's table as numbers: what the element at an index is, and that each is an int.
use Rattle.std.proofs.Common.{get_or, ◌≡◌, ℕ, ◌+◌, ◌<◌, ◌≤◌, [], ◌∷◌, ◌++◌, length, map, Option, Some, None, Bool, true, false, refl, ap, ◌∙◌, arith}
use Rattle.std.specs.Prelude.{All, ◌&&◌, if◌then◌else◌, slice_get, option_map, unwrap_or}
use Rattle.std.proofs.lemmas.Bool.{lt-ltb}
use Rattle.std.proofs.lemmas.List.{length-map}
use Rattle.std.proofs.lemmas.List.Elements.{All-nil, All-cons, All-append, All-map}
use Rattle.std.proofs.lemmas.Option.{slice_get_within, slice_get-map}
use Rattle.mc_nbt.specs.Word.{is_int}
use Rattle.wm_ast.specs.declared.answer.TrapKind.TheVariants.{TypeMismatch}
use Rattle.wm_ast.specs.declared.module.Func.{Func}
use Rattle.wm_ast.specs.declared.module.FuncType.{FuncType}
use Rattle.wm_ast.specs.declared.module.Limits.{Limits}
use Rattle.wm_ast.specs.declared.module.Module.{Module}
use Rattle.wm_ast.specs.Instance.{first_store}
use Rattle.wm_ast.specs.Profile.{entries}
use Rattle.wm_ast.specs.Step.{function, refused, of_type, checked, target_of}
use Rattle.wm_ast.specs.Types.{function_type, same_types}
use Rattle.wm_flat.specs.FlatTyping.{least_entries}
use Rattle.wm_flat.specs.Program.{IsProgram}
use Rattle.wm_flat.proofs.FirstStore.{first_store_typed}
use Rattle.wm_flat.proofs.ItemLaws.{at_place}
use Rattle.cc_call.specs.Frames.{first_opening}
use Rattle.cc_table.specs.Law.{IsInt}
use Rattle.cc_table.specs.Look.{element_or}
use Rattle.cc_table.specs.Target.{target_number, element_number, call_numbers}

pub number_is : (m : Module) (n i : ℕ) → element_or (call_numbers m n) (element_number m n None) i ≡ element_number m n (slice_get (first_store m).table i)
number_is m n i = ap (λ o. unwrap_or o (element_number m n None)) (slice_get-map (λ e. element_number m n (Some e)) (first_store m).table i) ∙ go (slice_get (first_store m).table i)
  where
    go : (o : Option (Option ℕ)) → unwrap_or (option_map (λ e. element_number m n (Some e)) o) (element_number m n None) ≡ element_number m n o
    go None = refl
    go (Some e) = refl

module _ (m : Module) (program : IsProgram m) where
  entries_few : (o : Option Limits) → slice_get m.tables 0 ≡ o → least_entries o ≤ 16384
  entries_few None e = omega arith
  entries_few (Some l) e = at_place (λ n. n ≤ 16384) (map entries m.tables) 0 (entries l) program.profile.within_limits.tables (slice_get-map entries m.tables 0 ∙ ap (λ o. option_map entries o) e)

  pub numbers_few : (n : ℕ) → length (call_numbers m n) ≤ 16384
  numbers_few n =
      let t = (first_store_typed m program).table.size in
      let l = length-map (first_store m).table (λ e. element_number m n (Some e)) in
      let f = entries_few (slice_get m.tables 0) refl in
      omega arith

  -- a number is an int: a function's is at most 18,207, and those of traps are few
  number_int : (n : ℕ) (e : Option (Option ℕ)) → is_int (element_number m n e) ≡ true
  number_int n e = by_type (slice_get m.types n) e
    where
      by_type : (t : Option FuncType) (e : Option (Option ℕ)) → is_int (target_number (target_of m t e)) ≡ true
      by_type None e = refl
      by_type (Some t) None = refl
      by_type (Some t) (Some None) = refl
      by_type (Some t) (Some (Some f)) = by_function (slice_get m.funcs f) refl
        where
          by_function : (o : Option Func) → slice_get m.funcs f ≡ o → is_int (target_number (checked m t f o)) ≡ true
          by_function None e = refl
          by_function (Some g) e =
              let l : f < length m.funcs = slice_get_within m.funcs f g e in
              let few : length m.funcs ≤ 8192 = program.profile.within_limits.functions in
              of_function f (function_type m g) (omega arith)
            where
              of_function : (f : ℕ) (o : Option FuncType) → first_opening + f < 2147483648 → is_int (target_number (of_type t f o)) ≡ true
              of_function f None l = refl
              of_function f (Some u) l = either (same_types u.params t.params && same_types u.results t.results)
                where
                  either : (b : Bool) → is_int (target_number (if b then function f else refused TypeMismatch)) ≡ true
                  either true = lt-ltb (first_opening + f) 2147483648 l
                  either false = refl

  pub numbers_ints : (n : ℕ) → All IsInt (call_numbers m n ++ (element_number m n None ∷ []))
  numbers_ints n =
      All-append IsInt (call_numbers m n) (element_number m n None ∷ []) (All-map IsInt (λ e. element_number m n (Some e)) (first_store m).table (λ i d h. number_int n (Some (get_or (first_store m).table i d))))
      (All-cons IsInt (element_number m n None) [] (number_int n None) (All-nil IsInt))
