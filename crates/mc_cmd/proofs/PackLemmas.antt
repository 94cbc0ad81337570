-- The functions of a pack, as the map keeps them.
use Rattle.std.proofs.Common.{◌≡◌, ◌⊎◌, inl, inr, ℕ, zero, suc, List, [], ◌∷◌, ◌++◌, append_assoc, Bool, true, false, cond, Option, Some, None, Result, Ok, Err, refl, sym, ap, ◌∙◌, length, length-append, arith}
use Rattle.std.specs.Prelude.{slice_get, String, string_bytes, ◌&&◌, nat_le, if◌then◌else◌, is_some, is_none, OnOk, IfErr}
use Rattle.std.specs.List.{list_all}
use Rattle.std.specs.Map.{lookup, keys_of}
use Rattle.std.specs.Option.{option_or}
use Rattle.std.specs.Str.{bytes_eq}
use Rattle.std.proofs.lemmas.Bool.Decides.{nat_tests, Decides-eqb}
use Rattle.std.proofs.lemmas.List.Folds.{list_all-append}
use Rattle.std.proofs.lemmas.Slice.Eq.{bytes_eq-Decides}
use Rattle.mc_cmd.specs.declared.pack.AddFault.TheVariants as faults
use Rattle.mc_cmd.specs.Form.{Text, strip}
use Rattle.mc_cmd.specs.Word.{is_function_name}
use Rattle.mc_cmd.specs.Chain.{Texts}
use Rattle.mc_cmd.specs.Layout.{full_name}
use Rattle.mc_cmd.specs.Pack.{Index, Pack, functions_of}
use Rattle.mc_cmd.specs.Packing.{Written, named, names_differ, is_entry, is_written, is_pack_namespace, are_lines, most_functions, lines_at, refusal, with_function, index_view, pack_view}
use Rattle.mc_cmd.proofs.FormLemmas.{and_first, and_second, and_both, strip_text, strip_spells}

-- a look-up by bytes
pub lookup_named : {A : Type 0} (name : Text) (es : List (String A × Texts)) → lookup (bytes_eq name) (named es) ≡ lookup (λ k. bytes_eq name (string_bytes k)) es
lookup_named name [] = refl
lookup_named name (e ∷ es) = ap (λ o. cond (bytes_eq name (string_bytes e.0)) (Some e.1) o) (lookup_named name es)

pub name_at : {A : Type 0} (es : List (String A × Texts)) (i : ℕ) (k : String A) (ts : Texts) → slice_get es i ≡ Some (k, ts) → slice_get (keys_of (named es)) i ≡ Some (string_bytes k)
name_at [] i k ts h = absurd cc
name_at (e ∷ es) zero k ts h = ap (λ o. slice_get (keys_of (named o)) 0) (one e (k, ts) h)
  where
    one : {X : Type 0} (x y : X) → Some x ≡ Some y → x ∷ [] ≡ y ∷ []
    one x y h = cc
name_at (e ∷ es) (suc i) k ts h = name_at es i k ts h

entries_with : (es : List (Text × Texts)) (e : Text × Texts) → list_all is_entry es ≡ true → is_entry e ≡ true → list_all is_entry (es ++ (e ∷ [])) ≡ true
entries_with es e h one = list_all-append is_entry es (e ∷ []) ∙ and_both _ _ h (and_both _ _ one refl)

fewer : (es : List (Text × Texts)) (e : Text × Texts) → nat_le most_functions (length es) ≡ false → nat_le (length (es ++ (e ∷ []))) most_functions ≡ true
fewer es e h = rw length-append (grind (arith, nat_tests))

not_full : (there full : Bool) → (if there then Some faults.Twice else if full then Some faults.Full else None) ≡ None → full ≡ false
not_full true full h = absurd cc
not_full false true h = absurd cc
not_full false false h = refl

-- a name that stands nowhere is no other's
unlike : (a b : Text) → bytes_eq a b ≡ false → bytes_eq b a ≡ false
unlike a b e = go (bytes_eq b a) refl
  where
    go : (c : Bool) → bytes_eq b a ≡ c → c ≡ false
    go false f = refl
    go true f = sym ((bytes_eq-Decides a b).1 (sym ((bytes_eq-Decides b a).0 f))) ∙ e

still_new : (k : Text) (es : List (Text × Texts)) (name : Text) (lines : Texts) → bytes_eq name k ≡ false → is_none (lookup (bytes_eq k) es) ≡ true → is_none (lookup (bytes_eq k) (es ++ ((name, lines) ∷ []))) ≡ true
still_new k [] name lines n h = ap (λ b. is_none (cond b (Some lines) None)) (unlike name k n)
still_new k (e ∷ es) name lines n h = go (bytes_eq k e.0) h (still_new k es name lines n)
  where
    go : (b : Bool) → is_none (cond b (Some e.1) (lookup (bytes_eq k) es)) ≡ true → (is_none (lookup (bytes_eq k) es) ≡ true → is_none (lookup (bytes_eq k) (es ++ ((name, lines) ∷ []))) ≡ true)
        → is_none (cond b (Some e.1) (lookup (bytes_eq k) (es ++ ((name, lines) ∷ [])))) ≡ true
    go true h ih = h
    go false h ih = ih h

-- names that differ, with a name that stands nowhere behind them
differ_with : (es : List (Text × Texts)) (name : Text) (lines : Texts) → names_differ es ≡ true → lookup (bytes_eq name) es ≡ None → names_differ (es ++ ((name, lines) ∷ [])) ≡ true
differ_with [] name lines d n = refl
differ_with (e ∷ es) name lines d n = go (bytes_eq name e.0) refl n (differ_with es name lines (and_second (is_none (lookup (bytes_eq e.0) es)) _ d))
  where
    go : (b : Bool) → bytes_eq name e.0 ≡ b → cond b (Some e.1) (lookup (bytes_eq name) es) ≡ None → (lookup (bytes_eq name) es ≡ None → names_differ (es ++ ((name, lines) ∷ [])) ≡ true)
        → is_none (lookup (bytes_eq e.0) (es ++ ((name, lines) ∷ []))) && names_differ (es ++ ((name, lines) ∷ [])) ≡ true
    go true f n ih = absurd cc
    go false f n ih = and_both _ _ (still_new e.0 es name lines f (and_first _ _ d)) (ih n)

not_there : (there full : Bool) → (if there then Some faults.Twice else if full then Some faults.Full else None) ≡ None → there ≡ false
not_there true full h = absurd cc
not_there false full h = refl

none_there : {A : Type 0} (o : Option A) → is_some o ≡ false → o ≡ None
none_there None h = refl
none_there (Some a) h = absurd cc

-- a pack with one more function that may stand there
pub written_with : (w : Written) (name : Text) (lines : Texts) → is_written w ≡ true → refusal w name ≡ None → is_function_name name ≡ true → are_lines lines ≡ true → is_written (with_function w name lines) ≡ true
written_with w name lines h r n l =
    let rest = and_second (is_pack_namespace w.index.ns) _ h in
    let entries = and_second (nat_le (length w.functions) most_functions) _ rest in
    let room = not_full (is_some (lines_at w name)) (nat_le most_functions (length w.functions)) r in
    let new = none_there (lines_at w name) (not_there (is_some (lines_at w name)) (nat_le most_functions (length w.functions)) r) in
    and_both _ _ (and_first _ _ h)
    (and_both _ _ (fewer w.functions (name, lines) room)
    (and_both _ _ (entries_with w.functions (name, lines) (and_first _ _ entries) (and_both _ _ n l)) (differ_with w.functions name lines (and_second (list_all is_entry w.functions) _ entries) new)))

-- the same where there may have been no room for it
pub written_after : {E : Type 0} (w : Written) (name : Text) (lines : Texts) (es : List (Text × Texts)) (r : Result (Unit {0}) E) (Q : E → Type 0) → is_written w ≡ true → refusal w name ≡ None → is_function_name name ≡ true → are_lines lines ≡ true
    → OnOk r (es ≡ w.functions ++ ((name, lines) ∷ [])) → IfErr r (λ e. (es ≡ w.functions) × Q e) → is_written (record w { functions = es }) ≡ true
written_after w name lines es (Ok x) Q h f n l ok err = ap (λ (fs : List (Text × Texts)). is_written (record w { functions = fs })) ok ∙ written_with w name lines h f n l
written_after w name lines es (Err e) Q h f n l ok err = ap (λ (fs : List (Text × Texts)). is_written (record w { functions = fs })) err.0 ∙ h

-- two functions of a namespace have one full name exactly where their names are one
pub same_front : (ns f g : Text) → bytes_eq (full_name ns f) (full_name ns g) ≡ bytes_eq f g
same_front [] f g = refl
same_front (b ∷ ns) f g = ap (λ c. c && bytes_eq (full_name ns f) (full_name ns g)) ((Decides-eqb b b).1 refl) ∙ same_front ns f g

-- a look-up by full names
found_by_name : {A : Type 0} (ns name : Text) (es : List (Text × A)) → lookup (λ n. bytes_eq (full_name ns name) (full_name ns n)) es ≡ lookup (bytes_eq name) es
found_by_name ns name [] = refl
found_by_name ns name (e ∷ es) = ap (λ b. cond b (Some e.1) (lookup (λ n. bytes_eq (full_name ns name) (full_name ns n)) es)) (same_front ns name e.0) ∙ ap (λ o. cond (bytes_eq name e.0) (Some e.1) o) (found_by_name ns name es)

found_nowhere : {A : Type 0} (ns f : Text) (es : List (Text × A)) → ((n : Text) → bytes_eq f (full_name ns n) ≡ false) → lookup (λ n. bytes_eq f (full_name ns n)) es ≡ None
found_nowhere ns f [] apart = refl
found_nowhere ns f (e ∷ es) apart = ap (λ b. cond b (Some e.1) (lookup (λ n. bytes_eq f (full_name ns n)) es)) (apart e.0) ∙ found_nowhere ns f es apart

-- a pack's function by its full name
pub function_at : (w : Written) (name : Text) → (pack_view w).functions (full_name w.index.ns name) ≡ lines_at w name
function_at w name = found_by_name w.index.ns name w.functions

-- a text is a full name of the namespace, or no such name
full_is : (ns n : Text) → (ns ++ 58 ∷ []) ++ n ≡ full_name ns n
full_is ns n = append_assoc ns (58 ∷ []) n

no_full_name : (ns f n : Text) → strip (ns ++ 58 ∷ []) f ≡ None → bytes_eq f (full_name ns n) ≡ false
no_full_name ns f n none = go (bytes_eq f (full_name ns n)) refl
  where
    go : (b : Bool) → bytes_eq f (full_name ns n) ≡ b → b ≡ false
    go false e = refl
    go true e =
        let f-is : f ≡ (ns ++ 58 ∷ []) ++ n = (bytes_eq-Decides f (full_name ns n)).0 e ∙ sym (full_is ns n) in
        let some : strip (ns ++ 58 ∷ []) f ≡ Some n = ap (strip (ns ++ 58 ∷ [])) f-is ∙ strip_text (ns ++ 58 ∷ []) n in
        absurd cc

full_or_not : (ns f : Text) → ((n : Text) × (f ≡ full_name ns n)) ⊎ ((n : Text) → bytes_eq f (full_name ns n) ≡ false)
full_or_not ns f = go (strip (ns ++ 58 ∷ []) f) refl
  where
    go : (o : Option Text) → strip (ns ++ 58 ∷ []) f ≡ o → ((n : Text) × (f ≡ full_name ns n)) ⊎ ((n : Text) → bytes_eq f (full_name ns n) ≡ false)
    go (Some n) e = inl (n, strip_spells (ns ++ 58 ∷ []) f n e ∙ full_is ns n)
    go None e = inr (λ n. no_full_name ns f n e)

same_found : {A : Type 0} (ns f : Text) (es ds : List (Text × A)) → ((n : Text) → lookup (bytes_eq n) es ≡ lookup (bytes_eq n) ds) → lookup (λ n. bytes_eq f (full_name ns n)) es ≡ lookup (λ n. bytes_eq f (full_name ns n)) ds
same_found ns f es ds h = go (full_or_not ns f)
  where
    go : ((n : Text) × (f ≡ full_name ns n)) ⊎ ((n : Text) → bytes_eq f (full_name ns n) ≡ false) → lookup (λ n. bytes_eq f (full_name ns n)) es ≡ lookup (λ n. bytes_eq f (full_name ns n)) ds
    go (inl x) =
        ap (λ g. lookup (λ n. bytes_eq g (full_name ns n)) es) x.1 ∙ found_by_name ns x.0 es ∙ h x.0 ∙ sym (found_by_name ns x.0 ds) ∙ ap (λ g. lookup (λ n. bytes_eq g (full_name ns n)) ds) (sym x.1)
    go (inr apart) = found_nowhere ns f es apart ∙ sym (found_nowhere ns f ds apart)

-- two packs of one index with the same lines under each name are one, whatever the order of their functions
pub same_pack : (p q : Written) → index_view p.index ≡ index_view q.index → ((name : Text) → lines_at p name ≡ lines_at q name) → pack_view p ≡ pack_view q
same_pack p q e h =
    ap (λ (i : Index). let r : Pack = record { index = i; functions = λ f. lookup (λ n. bytes_eq f (full_name i.ns n)) p.functions } in r) e
    ∙ λ k. record { index = index_view q.index; functions = λ f. same_found q.index.ns f p.functions q.functions h k }

-- the functions of one pack alone, and of the first pack of several
pub functions_of-one : (p : Pack) → functions_of (p ∷ []) ≡ p.functions
functions_of-one p = λ k. λ f. alone (p.functions f) k
  where
    alone : (o : Option Texts) → option_or o None ≡ o
    alone None = refl
    alone (Some ts) = refl

pub functions_of-found : (p : Pack) (ps : List Pack) (f : Text) (ts : Texts) → p.functions f ≡ Some ts → functions_of (p ∷ ps) f ≡ Some ts
functions_of-found p ps f ts e = ap (λ o. option_or o (functions_of ps f)) e

pub functions_of-missing : (p : Pack) (ps : List Pack) (f : Text) → p.functions f ≡ None → functions_of (p ∷ ps) f ≡ functions_of ps f
functions_of-missing p ps f e = ap (λ o. option_or o (functions_of ps f)) e
