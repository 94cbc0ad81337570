-- The pieces in which a division of i64 goes on have few ways out, name no score of the scheduler, and are light.
use Rattle.std.proofs.Common.{◌≡◌, ℕ, ◌+◌, ◌-◌, ◌≤◌, ◌<◌, [], ◌∷◌, true, Option, refl, arith}
use Rattle.mc_nbt.proofs.TestLemmas.{and_both}
use Rattle.mc_cmd.specs.Word.{is_holder}
use Rattle.wm_ast.specs.declared.operator.BinaryOp.{BinaryOp}
use Rattle.wm_ast.specs.declared.operator.BinaryOp.TheVariants.{DivS, DivU, RemS, RemU}
use Rattle.cc_line.specs.Key.{PieceId, body_piece, id_tree}
use Rattle.cc_line.specs.Step.{set_site, run_act}
use Rattle.cc_line.specs.Fit.{conds_fit}
use Rattle.cc_line.specs.Item.{no_more, steps_items}
use Rattle.cc_call.specs.Acts.{acts_then}
use Rattle.cc_call.specs.Frames.{next_site, next_acts}
use Rattle.cc_div64.specs.Division.{begin_items, turns_items, end_items}
use Rattle.cc_div64.proofs.LawLemmas.{begin_fits, turns_fit, end_fits}
use Rattle.cc_pieces.specs.Restoring.{restore_by}
use Rattle.cc_pieces.specs.Dividing.{answering_piece, none_left, none_left_step, divided_items, turning_items, answering_items}
use Rattle.cc_pieces.specs.Fetching.{fetch_from}
use Rattle.cc_pieces.specs.Law.{IsLight}
use Rattle.cc_pieces.proofs.Weights.{Meek, Sound, sound_none, wider, sound_light, meek_sound, join_sound, acts_sound, steps_sound, none_meek}
use Rattle.cc_pieces.proofs.DivisionWeights.{begin_weighs, turns_weigh, end_weighs}
use Rattle.cc_pieces.proofs.Fits.{place_is, NamePlain, body_plain, name_fits, next_sound}
use Rattle.cc_pieces.proofs.CallWeights.{to_piece_sound}

-- ---- divisions

begin_meek : (d : BinaryOp) (a : ℕ) → Meek 2 (begin_items d a)
begin_meek DivS a = record { avoids = refl; few = omega arith }
begin_meek DivU a = record { avoids = refl; few = omega arith }
begin_meek RemS a = record { avoids = refl; few = omega arith }
begin_meek RemU a = record { avoids = refl; few = omega arith }
begin_meek d a = none_meek 2

end_meek : (d : BinaryOp) (a : ℕ) → Meek 0 (end_items d a)
end_meek DivS a = record { avoids = refl; few = omega arith }
end_meek DivU a = record { avoids = refl; few = omega arith }
end_meek RemS a = record { avoids = refl; few = omega arith }
end_meek RemU a = record { avoids = refl; few = omega arith }
end_meek d a = none_meek 0

turns_meek : Meek 0 turns_items
turns_meek = record { avoids = refl; few = omega arith }

none_left_fits : conds_fit none_left ≡ true
unfolding is_holder
none_left_fits = refl

-- the piece that is next where no run of turns is left
left_sound : (p : PieceId) → NamePlain p → Sound 2 (steps_items (none_left_step p ∷ []))
left_sound p n = steps_sound 1 (none_left_step p ∷ []) (and_both _ _ (and_both _ _ none_left_fits (next_sound (id_tree p) (name_fits p n)).fits) refl) refl (omega arith)

after_sound : (p q : PieceId) → NamePlain p → NamePlain q → Sound 4 (steps_items (run_act (set_site next_site (id_tree p)) ∷ (none_left_step q ∷ [])))
after_sound p q n k = join_sound 2 2 (acts_then (next_acts p) no_more) (steps_items (none_left_step q ∷ [])) (acts_sound 0 (next_acts p) no_more (to_piece_sound p n) (sound_none 0)) (left_sound q k)

begin_sound : (d : BinaryOp) (a : ℕ) → a + 3 < 2147483648 → Sound 89 (begin_items d a)
begin_sound d a l = meek_sound 2 87 89 (begin_items d a) (begin_fits d a (place_is (a + 3) l)) (begin_meek d a) (begin_weighs d a) (omega arith)

-- what begins a division
pub divided_weighs : (d : BinaryOp) (h func : ℕ) (o : Option ℕ) → h ≤ 8000 → NamePlain (fetch_from func o) → NamePlain (restore_by func o) → Sound 93 (divided_items d h func o)
divided_weighs d h func o l n k = join_sound 89 4 (begin_items d (h - 4)) _ (begin_sound d (h - 4) (omega arith)) (after_sound (fetch_from func o) (restore_by func o) n k)

-- the piece that makes turns
pub turning_light : (n index : ℕ) → n < 2147483648 → index ≤ 1000000 → IsLight (turning_items n index)
turning_light n index named small =
    let turns : Sound 233 turns_items = meek_sound 0 233 233 turns_items turns_fit turns_meek turns_weigh (omega arith) in
    let plain : NamePlain (answering_piece n index) = body_plain n (1048576 + index) named (omega arith) in
    sound_light (turning_items n index) (wider 235 442 (turning_items n index) (omega arith) (join_sound 233 2 turns_items _ turns (left_sound (answering_piece n index) plain)))

-- the piece that puts the answer to its places
pub answering_light : (d : BinaryOp) (h n index : ℕ) → h ≤ 8000 → n < 2147483648 → index ≤ 1000000 → IsLight (answering_items d h n index)
answering_light d h n index l named small =
    let ends : Sound 13 (end_items d (h - 2)) = meek_sound 0 13 13 (end_items d (h - 2)) (end_fits d (h - 2) (place_is (h - 2 + 1) (omega arith))) (end_meek d (h - 2)) (end_weighs d (h - 2)) (omega arith) in
    let next : Sound 2 (acts_then (next_acts (body_piece n index)) no_more) = acts_sound 0 (next_acts (body_piece n index)) no_more (to_piece_sound (body_piece n index) (body_plain n index named (omega arith))) (sound_none 0) in
    sound_light (answering_items d h n index) (wider 15 442 (answering_items d h n index) (omega arith) (join_sound 13 2 (end_items d (h - 2)) (acts_then (next_acts (body_piece n index)) no_more) ends next))
