-- The events are lawful.
use Rattle.std.proofs.Common.{◌≡◌, ℕ, List, [], ◌∷◌, ◌++◌, map, Bool, true, false, Option, Some, pos, refl, sym, ap, subst, lit≤}
use Rattle.std.specs.Prelude.{slice_get, codes, if◌then◌else◌}
use Rattle.std.specs.List.{list_all}
use Rattle.std.specs.Str.{bytes_eq}
use Rattle.std.proofs.Math.Bool.{and-false}
use Rattle.std.proofs.lemmas.Slice.Eq.{bytes_eq-Decides}
use Rattle.mc_nbt.specs.Value.{kind_of, is_value}
use Rattle.mc_nbt.specs.declared.value.Kind.{Kind}
use Rattle.mc_nbt.specs.declared.value.Kind.TheVariants as kinds
use Rattle.mc_cmd.specs.declared.TheConstants.{BMIN}
use Rattle.mc_cmd.specs.Command.{plain, score_set}
use Rattle.mc_cmd.specs.Form.{Text}
use Rattle.mc_cmd.specs.Foreign.{is_own}
use Rattle.mc_cmd.specs.Grammar.{cmd_fits}
use Rattle.mc_cmd.specs.Word.{is_objective, is_holder}
use Rattle.mc_cmd.specs.Pack.{ExportType, Index, IsCallOf, IsBudget, IsForeign, Lawful}
use Rattle.witness.specs.Events.{greatest, other_objective, foreign, arguments, up_to_call, schedule}

-- a text of one byte isn't one of three
apart : (b : ℕ) (ns : Text) (c d : ℕ) (t : Text) → bytes_eq (b ∷ []) (ns ++ (c ∷ d ∷ t)) ≡ false
apart b [] c d t = and-false _
apart b (n ∷ []) c d t = and-false _
apart b (n ∷ k ∷ ns) c d t = and-false _

of_other : (ns : Text) (b : ℕ) → bytes_eq (b ∷ []) ns ≡ false → is_own ns (b ∷ []) ≡ false
of_other ns b e = rw (e, apart b ns 58 105 (111 ∷ []), apart b ns 58 109 [], apart b ns 58 99 []) refl

not_own : (ns : Text) → is_own ns (other_objective ns) ≡ false
not_own ns = go (bytes_eq (codes "x") ns) refl
  where
    go : (e : Bool) → bytes_eq (codes "x") ns ≡ e → is_own ns (if e then codes "y" else codes "x") ≡ false
    go true e = of_other ns 121 (ap (bytes_eq (codes "y")) (sym ((bytes_eq-Decides (codes "x") ns).0 e)))
    go false e = of_other ns 120 e

fits : (e : Bool) → cmd_fits (plain (score_set (codes "somebody") (if e then codes "y" else codes "x") (pos 1))) ≡ true
unfolding is_objective is_holder
fits true = refl
fits false = refl

is_foreign : (ns : Text) → IsForeign ns (foreign ns)
is_foreign ns = record { fits = fits (bytes_eq (codes "x") ns); foreign = refl; apart = rw not_own refl }

pub is_call : (o : Option ExportType) (e : ExportType) → o ≡ Some e → IsCallOf o (arguments e.params)
is_call o e is = subst (λ p. IsCallOf p (arguments e.params)) (sym is) (same e.params, ranges e.params)
  where
    same : (ks : List Kind) → map kind_of (arguments ks) ≡ ks
    same [] = refl
    same (kinds.I32 ∷ ks) = ap (λ l. kinds.I32 ∷ l) (same ks)
    same (kinds.I64 ∷ ks) = ap (λ l. kinds.I64 ∷ l) (same ks)

    ranges : (ks : List Kind) → list_all is_value (arguments ks) ≡ true
    ranges [] = refl
    ranges (kinds.I32 ∷ ks) = ranges ks
    ranges (kinds.I64 ∷ ks) = ranges ks

pub least_budget : IsBudget BMIN
least_budget = (lit≤ tt, lit≤ tt)

pub greatest_budget : IsBudget greatest
greatest_budget = (lit≤ tt, lit≤ tt)

module _ (index : Index) (k : ℕ) (e : ExportType) (is : slice_get index.exports k ≡ Some e) where
  pub is_lawful_before : Lawful index (up_to_call k e.params)
  is_lawful_before = (least_budget, (greatest_budget, (is_call (slice_get index.exports k) e is, tt)))

  pub is_lawful : Lawful index (schedule index.ns k e.params)
  is_lawful = (least_budget, (greatest_budget, (is_call (slice_get index.exports k) e is, (greatest_budget, (greatest_budget, (is_foreign index.ns, tt))))))
