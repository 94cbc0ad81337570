-- The test of where bytes reach to, and what bytes of fills and copies are written by, are lines, and weigh at most so much.
use Rattle.std.proofs.Common.{◌≡◌, ℕ, ◌<◌, ◌≤◌, ◌++◌, Bool, true, refl, arith}
use Rattle.std.specs.Prelude.{codes}
use Rattle.std.specs.Fmt.{digits}
use Rattle.std.proofs.lemmas.Bool.{lt-ltb}
use Rattle.mc_nbt.specs.Path.{is_path}
use Rattle.mc_nbt.specs.Word.{is_key}
use Rattle.mc_nbt.proofs.TestLemmas.{and_both}
use Rattle.mc_cmd.specs.Word.{is_holder}
use Rattle.wm_ast.specs.declared.operation.LoadOp.TheVariants.{I32Load8U}
use Rattle.wm_ast.specs.declared.operation.StoreOp.TheVariants.{I32Store8}
use Rattle.cc_line.specs.Step.{load_place, keep_place, run_act, steps_weight}
use Rattle.cc_line.specs.Fit.{steps_fit}
use Rattle.cc_line.specs.Item.{step_item, no_more, first, steps_items}
use Rattle.cc_mem.specs.Address.{stop_step, address_items}
use Rattle.cc_bulk.specs.Copy.{toward_steps, onward_steps}
use Rattle.cc_bulk.specs.Fill.{reach_steps, more_steps, less_steps}
use Rattle.cc_bulk.specs.FillLaw.{ReachesAreLines, FillsAreLines, CopiesAreLines}
use Rattle.cc_mem.specs.Law.{AreLines}
use Rattle.cc_mem.specs.Load.{access_items, load_items}
use Rattle.cc_mem.specs.Store.{write_items, store_items}
use Rattle.cc_mem.proofs.Lines.{both_lines, steps_lines, both_fit, both_weigh, loads_fit, keeps_fit, load_light, keep_light, address_lines, s_fits, u_fits, stop_fits}

-- ---- where bytes reach to

reach_fit : (a n : ℕ) → a < 2147483648 → n < 2147483648 → steps_fit (reach_steps a n) ≡ true
unfolding is_holder is_path is_key digits
reach_fit a n l k = and_both _ _ (lt-ltb a 2147483648 l) (and_both _ _ (lt-ltb n 2147483648 k) refl)

pub reaches_lines : ReachesAreLines
reaches_lines a n l k =
    steps_lines (reach_steps a n) 16 (reach_fit a n l k)
    (let x = load_light (codes "#a") a in let y = load_light (codes "#d") n in omega arith)

-- ---- a byte is loaded, and stored

write_lines : AreLines (write_items I32Store8) 17
unfolding is_holder is_path is_key digits
write_lines = record { fits = refl; weigh = omega arith }

stored_lines : (sure : Bool) (p v : ℕ) → p < 2147483648 → v < 2147483648 → AreLines (store_items sure I32Store8 p 0 v) 65
stored_lines sure p v l k =
    let w = load_light (codes "#s") v in
    let begin : AreLines (first (step_item (run_act (load_place (codes "#s") v))) no_more) 2 =
    record { fits = and_both _ _ (loads_fit (codes "#s") v s_fits k) refl; weigh = omega arith } in
    let end : AreLines (first (step_item stop_step) no_more) 2 = record { fits = and_both _ _ stop_fits refl; weigh = omega arith } in
    both_lines (address_items sure p 0) _ 44 21 (address_lines sure p 0 l)
    (both_lines (first (step_item (run_act (load_place (codes "#s") v))) no_more) _ 2 19 begin
    (both_lines (write_items I32Store8) (first (step_item stop_step) no_more) 17 2 write_lines end))

read_lines : AreLines (access_items I32Load8U) 7
unfolding is_holder is_path is_key digits
read_lines = record { fits = refl; weigh = omega arith }

loaded_lines : (sure : Bool) (q r : ℕ) → q < 2147483648 → r < 2147483648 → AreLines (load_items sure I32Load8U q 0 r) 55
loaded_lines sure q r l k =
    let w = keep_light (codes "#u") r in
    let end : AreLines (first (step_item stop_step) (first (step_item (run_act (keep_place r (codes "#u")))) no_more)) 4 =
    record { fits = and_both _ _ stop_fits (and_both _ _ (keeps_fit (codes "#u") r u_fits k) refl); weigh = omega arith } in
    both_lines (address_items sure q 0) _ 44 11 (address_lines sure q 0 l) (both_lines (access_items I32Load8U) _ 7 4 read_lines end)

-- ---- a byte of a fill

more_fit : (i : ℕ) → i < 2147483648 → steps_fit (more_steps i) ≡ true
unfolding is_holder
more_fit i l = let place = lt-ltb i 2147483648 l in and_both _ _ place (and_both _ _ (and_both _ _ place refl) refl)

less_fit : (i : ℕ) → i < 2147483648 → steps_fit (less_steps i) ≡ true
unfolding is_holder
less_fit i l = let place = lt-ltb i 2147483648 l in and_both _ _ place (and_both _ _ (and_both _ _ place refl) refl)

more_light : (i : ℕ) → steps_weight (more_steps i) ≤ 5
more_light i = let x = load_light (codes "#a") i in let y = keep_light (codes "#a") i in omega arith

less_light : (i : ℕ) → steps_weight (less_steps i) ≤ 5
less_light i = let x = load_light (codes "#a") i in let y = keep_light (codes "#a") i in omega arith

pub fills_lines : FillsAreLines
fills_lines sure p q r lp lq lr =
    both_lines (store_items sure I32Store8 p 0 q) _ 65 10 (stored_lines sure p q lp lq)
    (steps_lines (more_steps p ++ less_steps r) 10 (both_fit (more_steps p) (less_steps r) (more_fit p lp) (less_fit r lr))
    (let x = more_light p in let y = less_light r in let z = both_weigh (more_steps p) (less_steps r) in omega arith))

-- ---- a byte of a copy

toward_fit : (p q r : ℕ) → p < 2147483648 → q < 2147483648 → r < 2147483648 → steps_fit (toward_steps p q r) ≡ true
unfolding is_holder is_path is_key
toward_fit p q r lp lq lr =
    let to = lt-ltb p 2147483648 lp in
    let source = lt-ltb q 2147483648 lq in
    let count = lt-ltb r 2147483648 lr in
    and_both _ _ count (and_both _ _ to (and_both _ _ source (and_both _ _ (and_both _ _ to refl) (and_both _ _ (and_both _ _ source refl) refl))))

onward_fit : (p q r : ℕ) → p < 2147483648 → q < 2147483648 → r < 2147483648 → steps_fit (onward_steps p q r) ≡ true
unfolding is_holder is_path is_key
onward_fit p q r lp lq lr =
    let to = lt-ltb p 2147483648 lp in
    let source = lt-ltb q 2147483648 lq in
    let count = lt-ltb r 2147483648 lr in
    and_both _ _ to (and_both _ _ source (and_both _ _ (and_both _ _ to refl) (and_both _ _ (and_both _ _ source refl) (and_both _ _ (and_both _ _ count refl) refl))))

toward_light : (p q r : ℕ) → steps_weight (toward_steps p q r) ≤ 17
toward_light p q r =
    let a = load_light (codes "#a") r in
    let c = load_light (codes "#c") p in
    let d = load_light (codes "#d") q in
    let e = keep_light (codes "#c") p in
    let f = keep_light (codes "#d") q in
    omega arith

onward_light : (p q r : ℕ) → steps_weight (onward_steps p q r) ≤ 20
onward_light p q r =
    let c = load_light (codes "#c") p in
    let d = load_light (codes "#d") q in
    let e = keep_light (codes "#c") p in
    let f = keep_light (codes "#d") q in
    let a = keep_light (codes "#a") r in
    omega arith

pub copies_lines : CopiesAreLines
copies_lines sure p q r lp lq lr =
    both_lines (steps_items (toward_steps p q r)) _ 17 140 (steps_lines (toward_steps p q r) 17 (toward_fit p q r lp lq lr) (toward_light p q r))
    (both_lines (load_items sure I32Load8U q 0 r) _ 55 85 (loaded_lines sure q r lq lr)
    (both_lines (store_items sure I32Store8 p 0 r) _ 65 20 (stored_lines sure p r lp lr) (steps_lines (onward_steps p q r) 20 (onward_fit p q r lp lq lr) (onward_light p q r))))
