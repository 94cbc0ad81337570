-- Functions that are taken by a pack one after the other.
use Rattle.std.proofs.Common.{◌≡◌, ◌∙◌, ap, refl, sym, subst, ℕ, suc, ◌+◌, ◌≤◌, ◌<◌, List, [], ◌∷◌, ◌++◌, length, length-append, map, Bool, true, false, Some, None, arith}
use Rattle.std.specs.Prelude.{is_none, is_some, nat_le, if◌then◌else◌}
use Rattle.std.specs.List.{list_all}
use Rattle.std.specs.Map.{lookup}
use Rattle.std.specs.Str.{bytes_eq}
use Rattle.std.proofs.lemmas.List.{length-map, map-append}
use Rattle.std.proofs.lemmas.List.Folds.{list_all-append}
use Rattle.std.proofs.lemmas.Slice.Eq.{bytes_eq-Decides}
use Rattle.mc_nbt.proofs.TreeLemmas.{bytes_refl}
use Rattle.mc_cmd.specs.declared.pack.Index.{Index}
use Rattle.mc_cmd.specs.declared.pack.AddFault.TheVariants as faults
use Rattle.mc_cmd.specs.Form.{Text}
use Rattle.mc_cmd.specs.Chain.{Texts}
use Rattle.mc_cmd.specs.Packing.{are_lines, is_entry, most_functions, names_differ, refusal, Written}
use Rattle.mc_cmd.specs.Word.{is_function_name}
use Rattle.mc_cmd.proofs.FormLemmas.{and_first, and_second}
use Rattle.cc_line.specs.declared.block.Function.{Function}
use Rattle.cc_line.specs.BlockView.{function_view, functions_view}
use Rattle.pk_link.specs.Functions.{entry}
use Rattle.pk_link.specs.steps.Adding.{AreTaken}

abbrev entry_of : Function → Text × Texts
entry_of f = entry (function_view f)

entries_parted : (ys zs : List Function) → map entry (functions_view (ys ++ zs)) ≡ map entry (functions_view ys) ++ map entry (functions_view zs)
entries_parted ys zs = ap (map entry) (map-append function_view ys zs) ∙ map-append entry (functions_view ys) (functions_view zs)

-- the first of those that are left
entry_here : (ys zs : List Function) (x : Function) → list_all is_entry (map entry (functions_view (ys ++ x ∷ zs))) ≡ true → is_entry (entry_of x) ≡ true
entry_here ys zs x h =
    and_first (is_entry (entry_of x)) _
    (and_second (list_all is_entry (map entry (functions_view ys))) _ (sym (ap (list_all is_entry) (entries_parted ys (x ∷ zs)) ∙ list_all-append is_entry (map entry (functions_view ys)) (map entry (functions_view (x ∷ zs)))) ∙ h))

turned : (f g : Text) → bytes_eq g f ≡ false → bytes_eq f g ≡ false
turned f g e = go (bytes_eq f g) refl
  where
    go : (b : Bool) → bytes_eq f g ≡ b → b ≡ false
    go false k = refl
    go true k = sym (sym (ap (λ t. bytes_eq t f) ((bytes_eq-Decides f g).0 k) ∙ e) ∙ bytes_refl f)

-- where a name isn't looked up behind others, it isn't the first one's, nor among those behind
not_first : (n : Text) (e : Text × Texts) (es : List (Text × Texts)) → is_none (lookup (bytes_eq n) (e ∷ es)) ≡ true → (bytes_eq n e.0 ≡ false) × (is_none (lookup (bytes_eq n) es) ≡ true)
not_first n e es h = go (bytes_eq n e.0) refl h
  where
    go : (b : Bool) → bytes_eq n e.0 ≡ b → is_none (if b then Some e.1 else lookup (bytes_eq n) es) ≡ true → (bytes_eq n e.0 ≡ false) × (is_none (lookup (bytes_eq n) es) ≡ true)
    go true k h = absurd cc
    go false k h = (k, h)

not_behind : (n : Text) (es fs : List (Text × Texts)) (e : Text × Texts) → is_none (lookup (bytes_eq n) (es ++ e ∷ fs)) ≡ true → bytes_eq n e.0 ≡ false
not_behind n [] fs e h = (not_first n e fs h).0
not_behind n (g ∷ es) fs e h = not_behind n es fs e (not_first n g (es ++ e ∷ fs) h).1

-- a name that differs from all behind it is not among those before it
not_before : (es fs : List (Text × Texts)) (e : Text × Texts) → names_differ (es ++ e ∷ fs) ≡ true → lookup (bytes_eq e.0) es ≡ None
not_before [] fs e h = refl
not_before (g ∷ es) fs e h =
    let here : bytes_eq g.0 e.0 ≡ false = not_behind g.0 es fs e (and_first (is_none (lookup (bytes_eq g.0) (es ++ e ∷ fs))) _ h) in
    ap (λ b. if b then Some g.1 else lookup (bytes_eq e.0) es) (turned e.0 g.0 here) ∙ not_before es fs e (and_second (is_none (lookup (bytes_eq g.0) (es ++ e ∷ fs))) _ h)

module _ (all ys rest next : List Function) (x : Function) where
  whole : ys ++ rest ≡ all → rest ≡ x ∷ next → all ≡ ys ++ (x ∷ next)
  whole e f = sym e ∙ ap (λ l. ys ++ l) f

  taken_whole : ys ++ rest ≡ all → rest ≡ x ∷ next → AreTaken (functions_view all) → AreTaken (functions_view (ys ++ x ∷ next))
  taken_whole e f h = subst (λ l. AreTaken (functions_view l)) (whole e f) h

  pub taken_name : ys ++ rest ≡ all → rest ≡ x ∷ next → AreTaken (functions_view all) → is_function_name x.name ≡ true
  taken_name e f h = and_first (is_function_name x.name) _ (entry_here ys next x (taken_whole e f h).entries)

  pub taken_lines : ys ++ rest ≡ all → rest ≡ x ∷ next → AreTaken (functions_view all) → are_lines x.lines ≡ true
  taken_lines e f h = and_second (is_function_name x.name) _ (entry_here ys next x (taken_whole e f h).entries)

  pub taken_absent : (index : Index) (pack : Written) → pack ≡ record { index = index; functions = map entry (functions_view ys) } → ys ++ rest ≡ all → rest ≡ x ∷ next → AreTaken (functions_view all) → refusal pack x.name ≡ None
  taken_absent index pack p e f h =
      ap (λ q. refusal q x.name) p
      ∙ ap (λ o. if is_some o then Some faults.Twice else if nat_le most_functions (length (map entry (functions_view ys))) then Some faults.Full else None) absent
      ∙ ap (λ (b : Bool). if b then Some faults.Full else None) low
    where
      t : AreTaken (functions_view (ys ++ x ∷ next))
      t = taken_whole e f h

      absent : lookup (bytes_eq x.name) (map entry (functions_view ys)) ≡ None
      absent = not_before (map entry (functions_view ys)) (map entry (functions_view next)) (entry_of x) (sym (ap names_differ (entries_parted ys (x ∷ next))) ∙ t.differ)

      low : nat_le most_functions (length (map entry (functions_view ys))) ≡ false
      low =
          let a : length (map entry (functions_view ys)) ≡ length (functions_view ys) = length-map (functions_view ys) entry in
          let b : length (functions_view ys) ≡ length ys = length-map ys function_view in
          let c : length (functions_view (ys ++ x ∷ next)) ≡ length (ys ++ x ∷ next) = length-map (ys ++ x ∷ next) function_view in
          let d : length (ys ++ x ∷ next) ≡ length ys + suc (length next) = length-append ys (x ∷ next) in
          let g : length (functions_view (ys ++ x ∷ next)) ≤ 1000000 = t.few in
          not_le most_functions (length (map entry (functions_view ys))) (omega arith)
        where
          not_le : (n k : ℕ) → k < n → nat_le n k ≡ false
          not_le n k h = grind arith
