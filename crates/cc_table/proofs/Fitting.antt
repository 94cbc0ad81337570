-- What looks numbers up are lines, and weighs at most so much.
use Rattle.std.proofs.Common.{◌≡◌, ℕ, zero, suc, ◌+◌, ◌*◌, ◌<◌, ◌≤◌, List, [], ◌∷◌, ◌++◌, length, map, true, refl, ◌∙◌, arith, zero-le}
use Rattle.std.specs.Prelude.{All, None, ℤ, pos, codes}
use Rattle.std.specs.Fmt.{decimal}
use Rattle.std.proofs.lemmas.Bool.{le-leb, lt-ltb}
use Rattle.std.proofs.lemmas.Fmt.{length-decimal-le}
use Rattle.std.proofs.lemmas.List.{length-map, length-append}
use Rattle.std.proofs.lemmas.List.Elements.{All-head, All-tail}
use Rattle.std.proofs.lemmas.List.Folds.{list_all-append}
use Rattle.mc_nbt.specs.Path.{is_path}
use Rattle.mc_nbt.specs.Tree.{int, compound, no_fields}
use Rattle.mc_nbt.specs.Word.{is_key}
use Rattle.mc_nbt.proofs.TestLemmas.{and_both}
use Rattle.mc_cmd.specs.Form.{Text}
use Rattle.mc_cmd.specs.Command.{between}
use Rattle.mc_cmd.specs.Word.{range_fits, is_small_byte, is_function_name, is_holder}
use Rattle.mc_cmd.specs.Chain.{cmd_weight}
use Rattle.cc_line.specs.Sight.{in_rest}
use Rattle.cc_line.specs.Key.{key_table}
use Rattle.cc_line.specs.Place.{Home, in_score, in_list, home}
use Rattle.cc_line.specs.State.{ints, at_key}
use Rattle.cc_line.specs.Step.{set_site, keep_site, load_place, run_act, load_home, said_command, step_weight}
use Rattle.cc_line.specs.Fit.{tree_fits, step_fits, steps_fit, site_fits}
use Rattle.cc_line.specs.OpenStep.{open_steps_fit}
use Rattle.cc_line.specs.Item.{Items, step_item, fill_item, no_more, first, join, steps_items, items_most}
use Rattle.cc_line.specs.View.{table_step, look_up_steps}
use Rattle.cc_line.proofs.Numerals.{decimal_small}
use Rattle.cc_line.proofs.RunLemmas.{steps_most, steps_all_fit, join_most, join_fits}
use Rattle.cc_line.proofs.TableLemmas.{Plain, Each, int_plain, list_plain, plain_fits}
use Rattle.cc_table.specs.Look.{choice_site, index_site, clamp_step, index_steps, element_steps, find_items, look_by}
use Rattle.cc_table.specs.Target.{element_number, call_numbers, call_helper, refuse_steps}
use Rattle.cc_table.specs.Law.{AreLines, IsInt, LooksAreLines, TargetsAreLines}
use Rattle.cc_table.proofs.Elements.{numbers_few, numbers_ints}

-- ---- the table

each_plain : (zs : List ℤ) → All IsInt zs → Each (Plain 0 1 11) (map int zs)
each_plain [] h = tt
each_plain (z ∷ zs) h = (int_plain z (All-head IsInt z zs h), each_plain zs (All-tail IsInt z zs h))

ints_fit : (zs : List ℤ) → All IsInt zs → length zs ≤ 32768 → tree_fits (ints zs) ≡ true
ints_fit zs h l =
    let n = length-map zs int in
    (plain_fits 2 2 (2 + length (map int zs) * 12) (ints zs) (list_plain 0 1 11 (map int zs) (each_plain zs h)) (omega arith) (omega arith)).0

table_path : site_fits (at_key in_rest key_table) ≡ true
unfolding is_path is_key
table_path = refl

table_fits : (zs : List ℤ) → All IsInt zs → length zs ≤ 32768 → step_fits (table_step zs) ≡ true
table_fits zs h l = and_both _ _ table_path (ints_fit zs h l)

-- ---- the index and the element

choice_path : site_fits choice_site ≡ true
unfolding is_path is_key
choice_path = refl

element_fits : open_steps_fit element_steps ≡ true
unfolding is_holder is_key
element_fits = refl

clamp_fits : (n : ℕ) → n < 2147483648 → step_fits (clamp_step n) ≡ true
unfolding is_holder
clamp_fits zero l = refl
clamp_fits (suc n) l =
    let range : range_fits (between (pos 0) (pos n)) ≡ true = and_both _ _ (lt-ltb n 2147483648 (omega arith)) (le-leb 0 n zero-le) in
    and_both _ _ (and_both _ _ (and_both _ _ range refl) refl) (lt-ltb (suc n) 2147483648 l)

telling_fits : steps_fit (run_act (set_site choice_site (compound no_fields)) ∷ (run_act (keep_site index_site (codes "#a")) ∷ [])) ≡ true
unfolding is_holder is_path is_key
telling_fits = refl

index_fit : (n : ℕ) → n < 2147483648 → steps_fit (index_steps n) ≡ true
index_fit n l = and_both _ _ (clamp_fits n l) telling_fits

clamp_light : (n : ℕ) → step_weight (clamp_step n) ≤ 2
clamp_light zero = omega arith
clamp_light (suc n) = omega arith

index_light : (n : ℕ) → items_most (steps_items (index_steps n)) ≤ 5
index_light n = let w = clamp_light n in let e = steps_most (index_steps n) in omega arith

-- ---- numbers looked up

module _ (zs : List ℤ) (h : All IsInt zs) (l : length zs ≤ 32768) where
  find_lines : AreLines (find_items zs) 4
  find_lines = record { fits = and_both _ _ (table_fits zs h l) (and_both _ _ (and_both _ _ choice_path element_fits) refl); weigh = omega arith }

  fill_lines : (f : Text) → is_function_name f ≡ true → AreLines (first (fill_item f choice_site (look_up_steps zs element_steps)) no_more) 4
  fill_lines f k = record { fits = and_both _ _ (and_both _ _ k (and_both _ _ choice_path (and_both _ _ (table_fits zs h l) element_fits))) refl; weigh = omega arith }

-- items one after the other
both_lines : (xs ys : Items) (m n : ℕ) → AreLines xs m → AreLines ys n → AreLines (join xs ys) (m + n)
both_lines xs ys m n a b = record {
  fits = join_fits xs ys a.fits b.fits;
  weigh = (let w = join_most xs ys in let v = a.weigh in let u = b.weigh in omega arith);
}

index_lines : (n : ℕ) → n < 2147483648 → AreLines (steps_items (index_steps n)) 5
index_lines n l = record { fits = steps_all_fit (index_steps n) (index_fit n l); weigh = index_light n }

one_longer : (zs : List ℤ) (z : ℤ) → length zs < 32768 → length (zs ++ (z ∷ [])) ≤ 32768
one_longer zs z l = let e = length-append zs (z ∷ []) in omega arith

pub looks_are_lines : LooksAreLines
looks_are_lines zs z h l =
    let find : AreLines (find_items (zs ++ (z ∷ []))) 4 = find_lines (zs ++ (z ∷ [])) h (one_longer zs z l) in
    (both_lines (steps_items (index_steps (length zs))) (find_items (zs ++ (z ∷ []))) 5 4 (index_lines (length zs) (omega arith)) find, find)

-- ---- calls

-- the name of the helper
helper_named : (n : ℕ) → n < 2147483648 → is_function_name (call_helper n) ≡ true
helper_named n l =
    let long : length (decimal n) ≤ 10 = length-decimal-le 10 n (omega arith) (omega arith) (omega arith) in
    and_both _ _ (list_all-append is_small_byte (codes "h_cc_call_") (decimal n) ∙ decimal_small n (omega arith))
    (and_both _ _ (le-leb 1 (length (call_helper n)) (omega arith)) (le-leb (length (call_helper n)) 64 (omega arith)))

refuse_fit : steps_fit refuse_steps ≡ true
unfolding is_holder
refuse_fit = refl

-- the index from its place
load_light : (i : ℕ) → step_weight (run_act (load_place (codes "#a") i)) ≤ 2
load_light i = by_home (home i)
  where
    by_home : (q : Home) → cmd_weight (said_command (load_home [] (codes "#a") q)) ≤ 2
    by_home (in_score j) = omega arith
    by_home (in_list j) = omega arith

load_fits : (i : ℕ) → i < 2147483648 → step_fits (run_act (load_place (codes "#a") i)) ≡ true
unfolding is_holder
load_fits i k = lt-ltb i 2147483648 k

load_lines : (i : ℕ) → i < 2147483648 → AreLines (first (step_item (run_act (load_place (codes "#a") i))) no_more) 2
load_lines i k = let w = load_light i in record { fits = and_both _ _ (load_fits i k) refl; weigh = omega arith }

pub targets_are_lines : TargetsAreLines
targets_are_lines m program n i l k =
    let few = numbers_few m program n in
    let numbers : List ℤ = call_numbers m n in
    let none : ℤ = element_number m n None in
    let looked : AreLines (look_by (call_helper n) numbers none) 9 =
    both_lines (steps_items (index_steps (length numbers))) (first (fill_item (call_helper n) choice_site (look_up_steps (numbers ++ (none ∷ [])) element_steps)) no_more) 5 4 (index_lines (length numbers) (omega arith))
    (fill_lines (numbers ++ (none ∷ [])) (numbers_ints m program n) (one_longer numbers none (omega arith)) (call_helper n) (helper_named n l)) in
    let ending : AreLines (steps_items refuse_steps) 4 = record { fits = steps_all_fit refuse_steps refuse_fit; weigh = omega arith } in
    let rest : AreLines (join (look_by (call_helper n) numbers none) (steps_items refuse_steps)) 13 = both_lines (look_by (call_helper n) numbers none) (steps_items refuse_steps) 9 4 looked ending in
    let load : AreLines (first (step_item (run_act (load_place (codes "#a") i))) no_more) 2 = load_lines i k in
    both_lines (first (step_item (run_act (load_place (codes "#a") i))) no_more) (join (look_by (call_helper n) numbers none) (steps_items refuse_steps)) 2 13 load rest
