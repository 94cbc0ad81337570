-- Paths are read step by step as the grammar reads them.
use Rattle.std.proofs.Common.{◌≡◌, ◌≤◌, ◌<◌, ℕ, ℤ, zero, suc, List, [], ◌∷◌, ◌++◌, length, Bool, true, false, Option, Some, None, refl, sym, ap, ◌∙◌, subst, arith}
use Rattle.std.specs.Prelude.{nat_eq, nat_le, if◌then◌else◌, option_map, MatchOption}
use Rattle.std.specs.List.{list_all}
use Rattle.std.specs.Fmt.{signed_decimal}
use Rattle.std.proofs.lemmas.Bool.{ltb-true, leb-true, le-leb}
use Rattle.mc_nbt.specs.Word.{is_name_byte, is_key, is_int}
use Rattle.mc_nbt.specs.Tree.{Part, key, place}
use Rattle.mc_nbt.specs.Path.{is_part, is_path}
use Rattle.mc_nbt.specs.View.{parts}
use Rattle.mc_nbt.specs.declared.path.PathPart.{PathPart}
use Rattle.mc_nbt.proofs.TestLemmas.{and_first, and_second, and_both, eq_same}
use Rattle.mc_cmd.specs.Form.{Text, cut_at, word}
use Rattle.mc_cmd.specs.Word.{number}
use Rattle.mc_cmd.specs.Value.{parts_text, path_text, path}
use Rattle.mc_cmd.proofs.FormLemmas.{IsLast, word_is, cut_at_text, cut_at_spells, map_some}
use Rattle.mc_cmd.proofs.WordLemmas.{number_is, all_lack, is_number_byte, int_bytes, key_bytes}
use Rattle.mc_cmd.proofs.ValueLemmas.{path_is}
use Rattle.mc_parse.specs.steps.Many.{span, many_then, many}
use Rattle.mc_parse.specs.steps.Paths.{key_read, place_in, place_read, step_read, path_read}
use Rattle.mc_parse.proofs.ManyLemmas.{span_text, span_spells, all_text, no_more, one_more, many_spells}
use Rattle.mc_parse.proofs.FormLemmas.{same_reads}

-- a step before a text
abbrev step_text : Part → Text → Text
step_text (key k) t = 46 ∷ (k ++ t)
step_text (place i) t = 91 ∷ (signed_decimal i ++ (93 ∷ t))

parts_step : (p : Part) (ps : List Part) → parts_text (p ∷ ps) ≡ step_text p (parts_text ps)
parts_step (key k) ps = refl
parts_step (place i) ps = refl

span_parts : (ps : List Part) → span is_name_byte (parts_text ps) ≡ ([], parts_text ps)
span_parts [] = refl
span_parts (key k ∷ ps) = refl
span_parts (place i ∷ ps) = refl

key_reads : (k t : Text) → is_key k ≡ true → span is_name_byte t ≡ ([], t) → key_read (k ++ t) ≡ Some (key k, t)
key_reads k t h e =
    ap (λ p. option_map (λ k. (key k, p.1)) ((word is_key).read p.0)) (span_text is_name_byte k t (key_bytes k h) e)
    ∙ ap (λ b. option_map (λ k. (key k, t)) (if b then Some k else None)) h

place_reads : (i : ℤ) (t : Text) → is_int i ≡ true → place_read (signed_decimal i ++ (93 ∷ t)) ≡ Some (place i, t)
place_reads i t h =
    ap place_in (cut_at_text 93 (signed_decimal i) t (all_lack is_number_byte 93 refl (signed_decimal i) (int_bytes i (ltb-true _ _ h))))
    ∙ ap (option_map (λ z. (place z, t))) (number_is.reads i h)

step_reads : (p : Part) (t : Text) → is_part p ≡ true → span is_name_byte t ≡ ([], t) → step_read (step_text p t) ≡ Some (p, t)
step_reads (key k) t h e = key_reads k t h e
step_reads (place i) t h e = place_reads i t h

key_spells : (t : Text) (p : Part × Text) → key_read t ≡ Some p → (k : Text) × ((key k, (span is_name_byte t).1) ≡ p) × ((span is_name_byte t).0 ≡ k) × (is_key k ≡ true)
key_spells t p h =
    let m = map_some (λ k. (key k, (span is_name_byte t).1)) ((word is_key).read (span is_name_byte t).0) p h in
    let s = (word_is is_key).spells (span is_name_byte t).0 m.0 m.1 in
    (m.0, m.2, s.0, s.1)

key_stands : (t : Text) (p : Part × Text) → key_read t ≡ Some p → (k : Text) × (p.0 ≡ key k) × (t ≡ k ++ p.1) × (is_key k ≡ true)
key_stands t p h =
    let s = key_spells t p h in
    (s.0, ap (λ q. q.0) (sym s.1), (span_spells is_name_byte t).0 ∙ ap (λ k. k ++ (span is_name_byte t).1) s.2 ∙ ap (λ q. s.0 ++ q.1) s.1, s.3)

abbrev StepSpelled : Text → Part × Text → Type 0
StepSpelled t p = (t ≡ step_text p.0 p.1) × (is_part p.0 ≡ true)

key_step : (t : Text) (p : Part × Text) → key_read t ≡ Some p → StepSpelled (46 ∷ t) p
key_step t p h =
    let s = key_stands t p h in
    let P : Part → Type 0 = λ q. StepSpelled (46 ∷ t) (q, p.1) in
    subst P (sym s.1) (ap (λ w. 46 ∷ w) s.2, s.3)

place_step : (t : Text) (p : Part × Text) → place_read t ≡ Some p → StepSpelled (91 ∷ t) p
place_step t p h = go (cut_at 93 t) refl h
  where
    go : (o : Option (Text × Text)) → cut_at 93 t ≡ o → place_in o ≡ Some p → StepSpelled (91 ∷ t) p
    go None e h = absurd cc
    go (Some q) e h =
        let m = map_some (λ z. (place z, q.1)) (number.read q.0) p h in
        let s = number_is.spells q.0 m.0 m.1 in
        subst (StepSpelled (91 ∷ t)) m.2 (ap (λ w. 91 ∷ w) (cut_at_spells 93 t q.0 q.1 e ∙ ap (λ w. w ++ (93 ∷ q.1)) s.0), s.1)

step_spells : (t : Text) (p : Part × Text) → step_read t ≡ Some p → StepSpelled t p
step_spells [] p h = absurd cc
step_spells (b ∷ t) p h = go (nat_eq b 46) (nat_eq b 91) refl refl h
  where
    go : (c d : Bool) → nat_eq b 46 ≡ c → nat_eq b 91 ≡ d → (if c then key_read t else if d then place_read t else None) ≡ Some p → StepSpelled (b ∷ t) p
    go true d e f h =
        let P : ℕ → Type 0 = λ b. StepSpelled (b ∷ t) p in
        subst P (sym (eq_same b 46 e)) (key_step t p h)
    go false true e f h =
        let P : ℕ → Type 0 = λ b. StepSpelled (b ∷ t) p in
        subst P (sym (eq_same b 91 f)) (place_step t p h)
    go false false e f h = absurd cc

-- steps to the end
all_steps : (ps : List Part) → all_text step_text ps ≡ parts_text ps
all_steps [] = refl
all_steps (key k ∷ ps) = ap (λ t. 46 ∷ (k ++ t)) (all_steps ps)
all_steps (place i ∷ ps) = ap (λ t. 91 ∷ (signed_decimal i ++ (93 ∷ t))) (all_steps ps)

step_nonempty : (p : Part) (t : Text) → 0 < length (step_text p t)
step_nonempty (key k) t = omega arith
step_nonempty (place i) t = omega arith

steps_reads : (n : ℕ) (ps : List Part) → list_all is_part ps ≡ true → length ps ≤ n → many step_read n (parts_text ps) ≡ Some ps
steps_reads n [] h l = no_more step_read n
steps_reads zero (p ∷ ps) h l = absurd (omega arith)
steps_reads (suc n) (p ∷ ps) h l =
    ap (many step_read (suc n)) (parts_step p ps) ∙ one_more step_read n (step_text p (parts_text ps)) (step_nonempty p (parts_text ps))
    ∙ ap (λ o. many_then o (many step_read n)) (step_reads p (parts_text ps) (and_first _ _ h) (span_parts ps))
    ∙ ap (option_map (λ qs. p ∷ qs)) (steps_reads n ps (and_second (is_part p) _ h) (omega arith))

-- paths
by_steps_reads : (ps : List Part) → is_path ps ≡ true → path_read (path_text ps) ≡ Some ps
unfolding is_path
by_steps_reads [] h = absurd cc
by_steps_reads (place i ∷ ps) h = absurd cc
by_steps_reads (key k ∷ ps) h =
    let few = leb-true (length (key k ∷ ps)) 16 (and_first _ _ h) in
    let g = and_second (nat_le (length (key k ∷ ps)) 16) (list_all is_part (key k ∷ ps)) h in
    ap (λ o. many_then o (many step_read 15)) (key_reads k (parts_text ps) (and_first _ _ g) (span_parts ps))
    ∙ ap (option_map (λ qs. key k ∷ qs)) (steps_reads 15 ps (and_second (is_key k) _ g) (omega arith))

path_made : (k : Text) (ps : List Part) → is_key k ≡ true → list_all is_part ps ≡ true → length ps ≤ 15 → is_path (key k ∷ ps) ≡ true
unfolding is_path
path_made k ps h g few = and_both _ _ (le-leb (length (key k ∷ ps)) 16 (omega (arith, few))) (and_both _ _ h g)

by_steps_spells : (t : Text) (ps : List Part) → path_read t ≡ Some ps → (t ≡ path_text ps) × (is_path ps ≡ true)
by_steps_spells t ps h = go (key_read t) refl h
  where
    go : (o : Option (Part × Text)) → key_read t ≡ o → many_then o (many step_read 15) ≡ Some ps → (t ≡ path_text ps) × (is_path ps ≡ true)
    go None e h = absurd cc
    go (Some p) e h =
        let m = map_some (λ qs. p.0 ∷ qs) (many step_read 15 p.1) ps h in
        let s = key_stands t p e in
        let u = many_spells step_text is_part step_read step_spells 15 p.1 m.0 m.1 in
        let P : List Part → Type 0 = λ ps. (t ≡ path_text ps) × (is_path ps ≡ true) in
        subst P (ap (λ q. q ∷ m.0) (sym s.1) ∙ m.2) (s.2 ∙ ap (λ w. s.0 ++ w) (u.spelled ∙ all_steps m.0), path_made s.0 m.0 s.3 u.fit u.few)

by_steps_is : IsLast (record { text = path_text; fits = is_path; read = path_read })
by_steps_is = record { reads = by_steps_reads; spells = by_steps_spells }

pub path_by_steps : (t : Text) → path_read t ≡ path.read t
path_by_steps = same_reads (record { text = path_text; fits = is_path; read = path_read }) path by_steps_is path_is (λ ps. refl) (λ ps. refl)

-- what is read is a path
path_fits : (t : Text) (ps : List Part) → path_read t ≡ Some ps → is_path ps ≡ true
path_fits t ps h = (by_steps_spells t ps h).1

-- the path that is made of the steps
pub path_made_of : (t : Text) (steps : List PathPart) (o : Option (List PathPart)) → Some (parts steps) ≡ path_read t → MatchOption o (is_path (parts steps) ≡ false) (λ p. p ≡ steps) → option_map parts o ≡ path.read t
path_made_of t steps None e h = let f : is_path (parts steps) ≡ true = path_fits t (parts steps) (sym e) in absurd cc
path_made_of t steps (Some p) e h = ap (λ q. Some (parts q)) h ∙ e ∙ path_by_steps t
