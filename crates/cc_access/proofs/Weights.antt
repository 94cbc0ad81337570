-- Accesses are lines, and weigh at most so much.
use Rattle.std.proofs.Common.{◌≡◌, ℕ, suc, ◌+◌, ◌<◌, List, [], Bool, true, refl, arith}
use Rattle.std.specs.Prelude.{pos, negsuc, codes}
use Rattle.std.proofs.lemmas.Bool.{lt-ltb}
use Rattle.mc_nbt.proofs.TestLemmas.{and_both}
use Rattle.mc_cmd.specs.Word.{is_holder}
use Rattle.mc_cmd.specs.Chain.{cmd_weight}
use Rattle.wm_ast.specs.declared.operation.LoadOp.{LoadOp}
use Rattle.wm_ast.specs.declared.operation.LoadOp.TheVariants.{I32Load, I32Load8S, I32Load8U, I32Load16S, I32Load16U, I64Load, I64Load8S, I64Load8U, I64Load16S, I64Load16U, I64Load32S, I64Load32U}
use Rattle.wm_ast.specs.declared.operation.StoreOp.{StoreOp}
use Rattle.wm_ast.specs.declared.operation.StoreOp.TheVariants.{I32Store, I32Store8, I32Store16, I64Store, I64Store8, I64Store16, I64Store32}
use Rattle.cc_line.specs.Place.{Home, in_score, in_list, home}
use Rattle.cc_line.specs.Step.{set_place, Step, run_act, when, set_home, said_command, step_weight}
use Rattle.cc_line.specs.Fit.{conds_fit, step_fits}
use Rattle.cc_line.specs.Item.{join, steps_items}
use Rattle.cc_mem.specs.Law.{AreLines}
use Rattle.cc_mem.specs.Load.{load_items as load_word}
use Rattle.cc_mem.specs.Store.{store_items as store_word}
use Rattle.cc_mem.proofs.Lines.{both_lines, steps_lines, loads_fit, load_light, u_fits, loads_are_lines as words_loaded, stores_are_lines as words_stored}
use Rattle.cc_access.specs.Access.{is_signed, zero_steps, sign_steps, next_offset}
use Rattle.cc_access.specs.Law.{LoadsAreLines, StoresAreLines}

-- ---- the high half of a narrow load

set_weighs : (i : ℕ) → step_weight (run_act (set_place i (pos 0))) ≡ 1
set_weighs i = by_home (home i)
  where
    by_home : (q : Home) → cmd_weight (said_command (set_home [] q (pos 0))) ≡ 1
    by_home (in_score j) = refl
    by_home (in_list j) = refl

when_weighs : (i : ℕ) → step_weight (when is_signed (set_place i (negsuc 0))) ≡ 2
when_weighs i = refl

set_fits : (i : ℕ) → i < 2147483648 → step_fits (run_act (set_place i (pos 0))) ≡ true
set_fits i l = and_both _ _ (lt-ltb i 2147483648 l) refl

when_fits : (i : ℕ) → i < 2147483648 → step_fits (when is_signed (set_place i (negsuc 0))) ≡ true
unfolding is_holder
when_fits i l = and_both (conds_fit is_signed) _ refl (and_both _ _ (lt-ltb i 2147483648 l) refl)

pub zero_lines : (a : ℕ) → a + 1 < 2147483648 → AreLines (steps_items (zero_steps a)) 1
zero_lines a l = let w = set_weighs (suc a) in steps_lines (zero_steps a) 1 (and_both _ _ (set_fits (suc a) (omega arith)) refl) (omega arith)

pub sign_lines : (a : ℕ) → a + 1 < 2147483648 → AreLines (steps_items (sign_steps a)) 5
sign_lines a l =
    let x = load_light (codes "#u") a in
    let y = set_weighs (suc a) in
    let z = when_weighs (suc a) in
    steps_lines (sign_steps a) 5
    (and_both _ _ (loads_fit (codes "#u") a u_fits (omega arith)) (and_both _ _ (set_fits (suc a) (omega arith)) (and_both _ _ (when_fits (suc a) (omega arith)) refl))) (omega arith)

pub none_lines : AreLines (steps_items []) 0
none_lines = steps_lines [] 0 refl (omega arith)

-- ---- loads and stores

-- the load of the low half with what follows it
with_high : (sure : Bool) (op : LoadOp) (a offset n : ℕ) (xs : List Step) → a + 1 < 2147483648 → AreLines (steps_items xs) n → AreLines (join (load_word sure op a offset a) (steps_items xs)) (90 + n)
with_high sure op a offset n xs l h = both_lines (load_word sure op a offset a) (steps_items xs) 90 n (words_loaded sure op a offset a (omega arith) (omega arith)) h

alone : (sure : Bool) (op : LoadOp) (a offset : ℕ) → a + 1 < 2147483648 → AreLines (join (load_word sure op a offset a) (steps_items [])) 90
alone sure op a offset l = with_high sure op a offset 0 [] l none_lines

pub loads_are_lines : LoadsAreLines
loads_are_lines sure I64Load a offset l =
    both_lines (load_word sure I32Load a (next_offset offset) (suc a)) (join (load_word sure I32Load a offset a) (steps_items [])) 90 90
    (words_loaded sure I32Load a (next_offset offset) (suc a) (omega arith) (omega arith)) (alone sure I32Load a offset l)
loads_are_lines sure I64Load8S a offset l = with_high sure I32Load8S a offset 5 (sign_steps a) l (sign_lines a l)
loads_are_lines sure I64Load16S a offset l = with_high sure I32Load16S a offset 5 (sign_steps a) l (sign_lines a l)
loads_are_lines sure I64Load32S a offset l = with_high sure I32Load a offset 5 (sign_steps a) l (sign_lines a l)
loads_are_lines sure I64Load8U a offset l = with_high sure I32Load8U a offset 1 (zero_steps a) l (zero_lines a l)
loads_are_lines sure I64Load16U a offset l = with_high sure I32Load16U a offset 1 (zero_steps a) l (zero_lines a l)
loads_are_lines sure I64Load32U a offset l = with_high sure I32Load a offset 1 (zero_steps a) l (zero_lines a l)
loads_are_lines sure I32Load a offset l = alone sure I32Load a offset l
loads_are_lines sure I32Load8S a offset l = alone sure I32Load8S a offset l
loads_are_lines sure I32Load8U a offset l = alone sure I32Load8U a offset l
loads_are_lines sure I32Load16S a offset l = alone sure I32Load16S a offset l
loads_are_lines sure I32Load16U a offset l = alone sure I32Load16U a offset l

low_store_lines : (sure : Bool) (op : StoreOp) (a offset : ℕ) → a + 2 < 2147483648 → AreLines (store_word sure op a offset (suc a)) 117
low_store_lines sure op a offset l = words_stored sure op a offset (suc a) (omega arith) (omega arith)

pub stores_are_lines : StoresAreLines
stores_are_lines sure I64Store a offset l =
    both_lines (store_word sure I32Store a (next_offset offset) (suc (suc a))) (store_word sure I32Store a offset (suc a)) 117 117
    (words_stored sure I32Store a (next_offset offset) (suc (suc a)) (omega arith) (omega arith)) (low_store_lines sure I32Store a offset l)
stores_are_lines sure I64Store8 a offset l = low_store_lines sure I32Store8 a offset l
stores_are_lines sure I64Store16 a offset l = low_store_lines sure I32Store16 a offset l
stores_are_lines sure I64Store32 a offset l = low_store_lines sure I32Store a offset l
stores_are_lines sure I32Store a offset l = low_store_lines sure I32Store a offset l
stores_are_lines sure I32Store8 a offset l = low_store_lines sure I32Store8 a offset l
stores_are_lines sure I32Store16 a offset l = low_store_lines sure I32Store16 a offset l
