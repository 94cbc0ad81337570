-- Which functions give values of some types.
use Rattle.std.proofs.Common.{refl, ◌≡◌, ◌≤◌, ◌<◌, ◌+◌, ℕ, List, [], ◌∷◌, length, reverse, Bool, true, false, Option, Some, None, sym, ap, subst, ⊎_elim, ◌∙◌, arith}
use Rattle.std.specs.Prelude.{slice_get, option_and_then}
use Rattle.std.specs.Bool.{MatchBool, ◌==◌}
use Rattle.std.proofs.lemmas.Bool.{cases_lt, eqb-true}
use Rattle.std.proofs.lemmas.List.{reverse-reverse}
use Rattle.std.proofs.lemmas.Option.{slice_get_past}
use Rattle.wm_ast.specs.declared.module.Func.{Func}
use Rattle.wm_ast.specs.declared.module.FuncType.{FuncType}
use Rattle.wm_ast.specs.declared.module.Module.{Module}
use Rattle.wm_ast.specs.declared.module.ValType.{ValType}
use Rattle.wm_ast.specs.Types.{function_type, same_types}
use Rattle.wm_ast.proofs.TypeLaws.{same_types_is, same_types_self}
use Rattle.cc_move.specs.Calls.{gives_by, gives_of}

gives_there : (m : Module) (n : ℕ) (o : Option Func) → slice_get m.funcs n ≡ o → gives_of m n ≡ gives_by (option_and_then (function_type m) o)
gives_there m n o e = ap (λ q. gives_by (option_and_then (function_type m) q)) e

turned_tell : (ts us : List ValType) → reverse ts ≡ reverse us → ts ≡ us
turned_tell ts us e = sym (reverse-reverse ts) ∙ ap reverse e ∙ reverse-reverse us

-- ---- one function

-- whether its type has these results
pub same_given : (m : Module) (n : ℕ) (f : Func) (t : FuncType) → slice_get m.funcs n ≡ Some f → slice_get m.types f.kind ≡ Some t → (ts rs : List ValType) → ts ≡ t.results → (b : Bool) → b ≡ same_types ts rs
    → (b ≡ true → gives_of m n ≡ reverse rs) × (gives_of m n ≡ reverse rs → b ≡ true)
same_given m n f t there type ts rs is b same =
    let gives : gives_of m n ≡ reverse t.results = gives_there m n (Some f) there ∙ ap gives_by type in (
      λ e. gives ∙ ap reverse (sym is ∙ same_types_is ts rs (sym same ∙ e)),
      λ e. same ∙ ap (λ us. same_types us rs) (is ∙ turned_tell t.results rs (sym gives ∙ e)) ∙ same_types_self rs,
    )

-- ---- some function

module _ (m : Module) (rs : List ValType) where
  -- none of the first ones gives these
  abbrev pub GivesNone : ℕ → Type 0
  GivesNone k = (n : ℕ) → n < k → gives_of m n ≡ reverse rs → ⊥

  pub gives_no_more : (k : ℕ) → GivesNone k → (gives_of m k ≡ reverse rs → ⊥) → GivesNone (k + 1)
  gives_no_more k none here n l g =
      ⊎_elim (λ (h : n < k). none n h g) (λ (h : k ≤ n). let same : n ≡ k = omega arith in here (subst (λ j. gives_of m j ≡ reverse rs) same g)) (cases_lt n k)

  -- one that isn't there gives nothing
  pub given_by_some : (k : ℕ) → length m.funcs ≤ k → GivesNone k → (b : Bool) → b ≡ (length rs == 0)
      → MatchBool b ((n : ℕ) × (gives_of m n ≡ reverse rs)) ((n : ℕ) → gives_of m n ≡ reverse rs → ⊥)
  given_by_some k all none b empty = go rs refl b empty
    where
      beyond : (n : ℕ) → length m.funcs ≤ n → gives_of m n ≡ []
      beyond n l = gives_there m n None (slice_get_past m.funcs n l)

      go : (us : List ValType) → us ≡ rs → (b : Bool) → b ≡ (length us == 0) → MatchBool b ((n : ℕ) × (gives_of m n ≡ reverse rs)) ((n : ℕ) → gives_of m n ≡ reverse rs → ⊥)
      go [] is true e = (k, beyond k all ∙ ap reverse is)
      go [] is false e = absurd (let never : false ≡ true = e in cc)
      go (u ∷ us) is true e = absurd (let never : length (u ∷ us) ≡ 0 = eqb-true (length (u ∷ us)) 0 (sym e) in omega arith)
      go (u ∷ us) is false e = λ n g.
          ⊎_elim (λ (l : n < k). none n l g)
          (λ (l : k ≤ n). let nothing : [] ≡ u ∷ us = turned_tell [] (u ∷ us) (sym (beyond n (omega arith)) ∙ g ∙ ap reverse (sym is)) in absurd cc)
          (cases_lt n k)

-- ---- what a test of this tells

module _ (m k : Module) (rs ts : List ValType) (same : k ≡ m) (are : ts ≡ rs) where
  pub some_given : (b : Bool) → b ≡ true → MatchBool b ((n : ℕ) × (gives_of k n ≡ reverse ts)) ((n : ℕ) → gives_of k n ≡ reverse ts → ⊥)
      → (n : ℕ) × (gives_of m n ≡ reverse rs)
  some_given true e h = (h.0, ap (λ j. gives_of j h.0) (sym same) ∙ h.1 ∙ ap reverse are)
  some_given false e h = absurd cc

  pub none_given : (b : Bool) → b ≡ false → MatchBool b ((n : ℕ) × (gives_of k n ≡ reverse ts)) ((n : ℕ) → gives_of k n ≡ reverse ts → ⊥)
      → (n : ℕ) → gives_of m n ≡ reverse rs → ⊥
  none_given true e h = absurd cc
  none_given false e h = λ n g. h n (ap (λ j. gives_of j n) same ∙ g ∙ ap reverse (sym are))
