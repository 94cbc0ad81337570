-- The lines of a function, by its place in a pack.
use Rattle.std.proofs.Common.{◌≡◌, ◌∙◌, sym, ap, ap₂, subst, refl, ℕ, suc, zero, ◌+◌, ◌-◌, ◌<◌, List, [], ◌∷◌, Bool, true, false, cond, length, Option, Some, None, arith}
use Rattle.std.specs.Prelude.{is_none, nat_le, slice_get}
use Rattle.std.specs.List.{list_all}
use Rattle.std.specs.Map.{lookup, keys_of}
use Rattle.std.specs.Str.{bytes_eq}
use Rattle.std.proofs.lemmas.Option.{slice_get_within}
use Rattle.std.proofs.lemmas.Slice.Eq.{bytes_eq-Decides}
use Rattle.mc_cmd.specs.Form.{Text}
use Rattle.mc_cmd.specs.Chain.{Texts}
use Rattle.mc_cmd.specs.Packing.{Written, is_entry, is_pack_namespace, is_written, lines_at, most_functions, names, names_differ}
use Rattle.mc_cmd.proofs.FormLemmas.{and_first, and_second, bytes_refl, some_same}
use Rattle.mc_tidy.specs.First.{IsFirstUntidy, IsUntidy}
use Rattle.pk_multi.specs.Making.{IsUntidyEntry, IsUntidyOf}
use Rattle.pk_multi.specs.declared.making.Untidy.{Untidy}

-- a function of a pack, by its place and by its name
pub function_at : (w : Written) (at : ℕ) (name : Text) → is_written w ≡ true → slice_get (names w) at ≡ Some name → (lines : Texts) × (slice_get w.functions at ≡ Some (name, lines)) × (lines_at w name ≡ Some lines)
function_at w at name h e = go w.functions at (and_second (list_all is_entry w.functions) _ (and_second (nat_le (length w.functions) most_functions) _ (and_second (is_pack_namespace w.index.ns) _ h))) e
  where
    go : (es : List (Text × Texts)) (k : ℕ) → names_differ es ≡ true → slice_get (keys_of es) k ≡ Some name → (lines : Texts) × (slice_get es k ≡ Some (name, lines)) × (lookup (bytes_eq name) es ≡ Some lines)
    go [] k d e = absurd cc
    go (x ∷ es) zero d e =
        let same : x.0 ≡ name = cc in
        (x.1, ap (λ (n : Text). Some (n, x.1)) same, ap (λ b. cond b (Some x.1) (lookup (bytes_eq name) es)) (ap (λ n. bytes_eq name n) same ∙ bytes_refl name))
    go (x ∷ es) (suc k) d e =
        let rest = go es k (and_second (is_none (lookup (bytes_eq x.0) es)) _ d) e in
        (rest.0, rest.1, ap (λ b. cond b (Some x.1) (lookup (bytes_eq name) es)) (other (bytes_eq name x.0) refl rest.0 rest.2) ∙ rest.2)
      where
        other : (b : Bool) → bytes_eq name x.0 ≡ b → (lines : Texts) → lookup (bytes_eq name) es ≡ Some lines → bytes_eq name x.0 ≡ false
        other false q lines f = q
        other true q lines f =
            let none : is_none (lookup (bytes_eq name) es) ≡ true = ap (λ n. is_none (lookup (bytes_eq n) es)) ((bytes_eq-Decides name x.0).0 q) ∙ and_first (is_none (lookup (bytes_eq x.0) es)) _ d in
            let some : is_none (lookup (bytes_eq name) es) ≡ false = ap is_none f in
            absurd cc

pub no_lines : (w : Written) (k : ℕ) (n name : Text) → is_written w ≡ true → slice_get (names w) k ≡ Some n → name ≡ n → None ≡ lines_at w name → ⊥
no_lines w k n name h e same found =
    let f = function_at w k n h e in
    let clash : None ≡ Some f.0 = found ∙ ap (lines_at w) same ∙ f.2 in
    absurd cc

-- what is found among the lines that stand under the name is found in the function at the place
pub untidy_here : (ns : Text) (w : Written) (k : ℕ) (n name : Text) (lines : Texts) (u : Option Untidy) → is_written w ≡ true → slice_get (names w) k ≡ Some n → name ≡ n → Some lines ≡ lines_at w name
    → IsUntidyEntry ns (Some (name, lines)) u → IsUntidyOf ns w k u
untidy_here ns w k n name lines u h e same found it =
    let f = function_at w k n h e in
    let one : lines ≡ f.0 = some_same _ _ (found ∙ ap (lines_at w) same ∙ f.2) in
    let here : Some (name, lines) ≡ slice_get w.functions k = ap₂ (λ (m : Text) (ts : Texts). Some (m, ts)) same one ∙ sym f.1 in
    subst (λ o. IsUntidyEntry ns o u) here it

-- a line that isn't tidy is one of the lines
pub untidy_within : (ns : Text) (lines : Texts) (i : ℕ) → IsFirstUntidy ns lines (Some i) → i < length lines
untidy_within ns lines i h = go (slice_get lines i) refl h.1
  where
    go : (o : Option Text) → slice_get lines i ≡ o → IsUntidy ns o → i < length lines
    go None e u = absurd u
    go (Some t) e u = slice_get_within lines i t e

-- the number of a line is one more than its place
pub untidy_line : (ns name : Text) (lines : Texts) (i line : ℕ) → line ≡ i + 1 → IsFirstUntidy ns lines (Some i) → (let u : Untidy = record { name = name; line = line } in IsUntidyEntry ns (Some (name, lines)) (Some u))
untidy_line ns name lines i line e h =
    let some : 0 < line = omega (arith, e) in
    let back : i ≡ line - 1 = omega (arith, e) in
    (refl, some, subst (λ j. IsFirstUntidy ns lines (Some j)) back h)
