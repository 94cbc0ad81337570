-- The steps of growing and the grower's are lines, and weigh at most so much.
use Rattle.std.proofs.Common.{◌≡◌, ℕ, zero, suc, ◌+◌, ◌*◌, ◌<◌, ◌≤◌, List, [], length, map, replicate, true, refl, ◌∙◌, arith}
use Rattle.std.specs.Prelude.{pos, codes}
use Rattle.std.proofs.lemmas.Bool.{lt-ltb}
use Rattle.std.proofs.lemmas.List.{length-map, length-replicate}
use Rattle.mc_nbt.specs.Path.{is_path}
use Rattle.mc_nbt.specs.Tree.{Tree, int, list_of}
use Rattle.mc_nbt.specs.Word.{is_key}
use Rattle.mc_nbt.proofs.TestLemmas.{and_both}
use Rattle.mc_cmd.specs.Chain.{cmd_weight}
use Rattle.mc_cmd.specs.Layout.{page_words}
use Rattle.mc_cmd.specs.Word.{is_holder}
use Rattle.cc_line.specs.Place.{Home, in_score, in_list, home}
use Rattle.cc_line.specs.Step.{load_place, keep_place, run_act, load_home, keep_home, said_command, step_weight}
use Rattle.cc_line.specs.Fit.{tree_fits, steps_fit}
use Rattle.cc_line.proofs.RunLemmas.{steps_all_fit}
use Rattle.cc_line.proofs.TableLemmas.{Plain, Each, int_plain, list_plain, plain_fits}
use Rattle.cc_page.specs.Pages.{page_tree, signed_word}
use Rattle.cc_bulk.specs.Grow.{score_missing, grow_steps, zero_tree, grower_steps}
use Rattle.cc_bulk.specs.GrowLaw.{GrowsAreLines, GrowerIsLines}

-- ---- the step

load_light : (a : ℕ) → step_weight (run_act (load_place score_missing a)) ≤ 2
load_light a = by (home a)
  where
    by : (h : Home) → cmd_weight (said_command (load_home [] score_missing h)) ≤ 2
    by (in_score i) = omega arith
    by (in_list i) = omega arith

keep_light : (a : ℕ) → step_weight (run_act (keep_place a (codes "#c"))) ≤ 2
keep_light a = by (home a)
  where
    by : (h : Home) → cmd_weight (said_command (keep_home [] h (codes "#c"))) ≤ 2
    by (in_score i) = omega arith
    by (in_list i) = omega arith

grow_fit : (most a : ℕ) → most < 2147483648 → a < 2147483648 → steps_fit (grow_steps most a) ≡ true
unfolding is_holder is_path is_key
grow_fit most a l k =
    let place = lt-ltb a 2147483648 k in
    and_both _ _ place (and_both _ _ (lt-ltb most 2147483648 l) (and_both _ _ (and_both _ _ place refl) refl))

pub grows_lines : GrowsAreLines
grows_lines most a l k = record {
  fits = steps_all_fit (grow_steps most a) (grow_fit most a l k);
  weigh = (let x = load_light a in let y = keep_light a in omega arith);
}

-- ---- a page of zeros

zeros_plain : (n : ℕ) → Each (Plain 0 1 11) (map (λ m. int (signed_word m)) (replicate n 0))
zeros_plain zero = tt
zeros_plain (suc n) = (int_plain (pos 0) refl, zeros_plain n)

zeros_fit : (n : ℕ) → n ≤ 16384 → tree_fits (page_tree (replicate n 0)) ≡ true
zeros_fit n l =
    let ts : List Tree = map (λ m. int (signed_word m)) (replicate n 0) in
    let long : length ts ≡ n = length-map (replicate n 0) (λ m. int (signed_word m)) ∙ length-replicate {A = ℕ} n 0 in
    (plain_fits 2 2 (2 + length ts * 12) (list_of ts) (list_plain 0 1 11 ts (zeros_plain n)) (omega arith) (omega arith)).0

zero_fits : tree_fits zero_tree ≡ true
unfolding zero_tree
zero_fits = zeros_fit page_words (omega arith)

-- ---- the grower

grower_fit : steps_fit grower_steps ≡ true
unfolding is_holder is_path is_key
grower_fit = and_both _ _ zero_fits refl

pub grower_lines : GrowerIsLines
grower_lines = record { fits = steps_all_fit grower_steps grower_fit; weigh = omega arith }
