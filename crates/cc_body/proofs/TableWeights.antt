-- Looking numbers up fits, leaves the scheduler's scores alone, and weighs little.
use Rattle.std.proofs.Common.{ℕ, ◌<◌, List, [], ◌∷◌, ◌++◌, length, refl, arith}
use Rattle.std.specs.Prelude.{ℤ, None, codes, All}
use Rattle.mc_cmd.specs.Form.{Text}
use Rattle.wm_ast.specs.declared.module.Module.{Module}
use Rattle.wm_flat.specs.Program.{IsProgram}
use Rattle.cc_line.specs.Step.{run_act, load_place}
use Rattle.cc_line.specs.Item.{step_item, Items, no_more, first, join, steps_items}
use Rattle.cc_table.specs.Law.{AreLines, IsInt}
use Rattle.cc_table.specs.Look.{find_items, look_items, look_by}
use Rattle.cc_table.specs.Target.{element_number, call_numbers, call_helper, refuse_steps, target_items}
use Rattle.cc_table.proofs.Laws.{looks_lines, targets_lines}
use Rattle.cc_pieces.proofs.Weights.{Meek, join_meek, Sound, meek_sound}

-- ---- ways out

find_meek : (zs : List ℤ) → Meek 0 (find_items zs)
find_meek zs = record { avoids = refl; few = omega arith }

look_meek : (zs : List ℤ) (z : ℤ) → Meek 0 (look_items zs z)
look_meek [] z = record { avoids = refl; few = omega arith }
look_meek (y ∷ ys) z = record { avoids = refl; few = omega arith }

helped_meek : (name : Text) (zs : List ℤ) (z : ℤ) → Meek 0 (look_by name zs z)
helped_meek name [] z = record { avoids = refl; few = omega arith }
helped_meek name (y ∷ ys) z = record { avoids = refl; few = omega arith }

target_meek : (m : Module) (n i : ℕ) → Meek 1 (target_items m n i)
target_meek m n i =
    let found : Items = look_by (call_helper n) (call_numbers m n) (element_number m n None) in
    join_meek 0 1 (first (step_item (run_act (load_place (codes "#a") i))) no_more) (join found (steps_items refuse_steps)) (record { avoids = refl; few = omega arith })
    (join_meek 0 1 found (steps_items refuse_steps) (helped_meek (call_helper n) (call_numbers m n) (element_number m n None)) (record { avoids = refl; few = omega arith }))

-- ---- weights

pub look_sound : (zs : List ℤ) (z : ℤ) → All IsInt (zs ++ z ∷ []) → length zs < 32768 → Sound 9 (look_items zs z)
look_sound zs z h l =
    let a : AreLines (look_items zs z) 9 = (looks_lines zs z h l).0 in
    meek_sound 0 9 9 (look_items zs z) a.fits (look_meek zs z) a.weigh (omega arith)

pub find_sound : (zs : List ℤ) (z : ℤ) → All IsInt (zs ++ z ∷ []) → length zs < 32768 → Sound 4 (find_items (zs ++ z ∷ []))
find_sound zs z h l =
    let a : AreLines (find_items (zs ++ z ∷ [])) 4 = (looks_lines zs z h l).1 in
    meek_sound 0 4 4 (find_items (zs ++ z ∷ [])) a.fits (find_meek (zs ++ z ∷ [])) a.weigh (omega arith)

-- with the charge of the way out to a trap
pub target_sound : (m : Module) → IsProgram m → (n i : ℕ) → n < 2147483648 → i < 2147483648 → Sound 16 (target_items m n i)
target_sound m program n i h l =
    let a : AreLines (target_items m n i) 15 = targets_lines m program n i h l in
    meek_sound 1 15 16 (target_items m n i) a.fits (target_meek m n i) a.weigh (omega arith)
