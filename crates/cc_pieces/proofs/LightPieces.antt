-- The shared pieces are light, and so are those of calls from outside and from inside.
use Rattle.std.proofs.Common.{◌≡◌, refl, ℕ, zero, suc, ◌+◌, ◌*◌, ◌-◌, ◌≤◌, ◌<◌, min, List, [], ◌∷◌, ◌++◌, length, Bool, true, false, arith, length-append, ◌/◌, ◌%◌, replicate}
use Rattle.std.specs.Prelude.{pos, if◌then◌else◌, nat_lt}
use Rattle.cc_line.specs.Step.{Act, copy_site, make_list}
use Rattle.cc_line.specs.Key.{body_piece, id_tree, key_next, key_follows}
use Rattle.cc_line.specs.Item.{no_more}
use Rattle.mc_cmd.specs.Word.{is_holder}
use Rattle.cc_line.specs.Fit.{act_fits}
use Rattle.cc_sched.specs.Sched.{end_rounds}
use Rattle.cc_call.specs.Acts.{acts_then}
use Rattle.cc_call.specs.Frames.{next_acts, zero_acts, take_acts, base_acts, done_acts}
use Rattle.std.proofs.Math.Nat.{min-le_right}
use Rattle.cc_line.specs.Sight.{in_rest}
use Rattle.cc_line.specs.State.{at_key}
use Rattle.cc_line.specs.Place.{score_places}
use Rattle.cc_bulk.specs.Grow.{grower_items}
use Rattle.cc_pieces.specs.Placing.{first_placer, first_pair_placer, placers_from}
use Rattle.cc_pieces.specs.Entry.{args_of_piece, take_args, taker, go_acts, entry_acts, taker_acts, ending_acts}
use Rattle.cc_pieces.specs.Law.{IsLight, TakersAreLight, PlacersAreLight, GrowerIsLight, DonesAreLight}
use Rattle.cc_pieces.proofs.Weights.{sound_none, wider, SoundActs, append_sound, acts_sound, sound_light}
use Rattle.cc_pieces.proofs.Fits.{body_plain, shared_plain, follows_sound, body_fits, to_next_sound, list_sound, zero_sound, zero_length, take_sound, take_length}
use Rattle.cc_pieces.proofs.CallWeights.{to_piece_sound, take_results_sound, take_results_length, base_sound, done_sound, done_length}
use Rattle.cc_pieces.proofs.GrowWeights.{grower_sound}

-- ---- widths

pub placers_low : (ints : ℕ) → placers_from ints ≤ 25000
placers_low ints = go (nat_lt 1 ints)
  where
    go : (b : Bool) → (if b then first_pair_placer else first_placer) ≤ 25000
    go true = omega arith
    go false = omega arith

-- ---- the pieces of bodies

-- acts of which there are few
pub acts_light : (acts : List Act) → SoundActs acts → length acts ≤ 200 → IsLight (acts_then acts no_more)
acts_light acts s h = sound_light (acts_then acts no_more) (wider (2 * length acts + 0) 442 (acts_then acts no_more) (omega arith) (acts_sound 0 acts no_more s (sound_none 0)))

-- ---- the pieces of calls

go_sound : (func k : ℕ) → func < 2147483648 → k ≤ 3000 → SoundActs (go_acts func k)
go_sound func zero h l = to_piece_sound (body_piece func 1) (body_plain func 1 h (omega arith))
go_sound func (suc k) h l = (follows_sound (id_tree (body_piece func 1)) (body_fits func 1 h (omega arith)), to_piece_sound (taker k) (shared_plain (5000 + k) (omega arith)))

go_length : (func k : ℕ) → length (go_acts func k) ≤ 2
go_length func zero = omega arith
go_length func (suc k) = omega arith

module _ (func params locals results size : ℕ) (named : func < 2147483648) (within : params ≤ locals) (few : locals ≤ 2048) (narrow : results ≤ 2) (small : size ≤ 8000) where
  abbrev zeros : List Act
  zeros = zero_acts params (min locals score_places - params)

  abbrev args : List Act
  args = take_args (args_of_piece * (params / args_of_piece)) (params % args_of_piece)

  abbrev go : List Act
  go = go_acts func (params / args_of_piece)

  abbrev frame : List Act
  frame = make_list (replicate (size - score_places) (pos 0)) ∷ (zeros ++ (args ++ go))

  pub entry_sound : SoundActs (entry_acts func params locals results size)
  entry_sound =
      let least : min locals 128 ≤ 128 = min-le_right locals 128 in
      append_sound (base_acts results) frame (base_sound results (omega arith)) (
        list_sound (size - score_places) (omega arith),
        append_sound zeros (args ++ go) (zero_sound (min locals score_places - params) params (let r : params + (min locals 128 - params) ≤ 2147483648 = omega arith in r))
            (append_sound args go (take_sound (params % args_of_piece) (args_of_piece * (params / args_of_piece)) (let r : 192 * (params / 192) + params % 192 ≤ 2147483648 = omega arith in r)) (go_sound func (params / args_of_piece) named (let r : params / 192 ≤ 3000 = omega arith in r))),
      )

  pub entry_length : length (entry_acts func params locals results size) ≤ 200
  entry_length =
      let least : min locals 128 ≤ 128 = min-le_right locals 128 in
      let a : length (zero_acts params (min locals 128 - params)) ≡ min locals 128 - params = zero_length (min locals 128 - params) params in
      let b : length (take_args (192 * (params / 192)) (params % 192)) ≡ params % 192 = take_length (params % 192) (192 * (params / 192)) in
      let c : length (go_acts func (params / 192)) ≤ 2 = go_length func (params / 192) in
      let d : length (take_args (192 * (params / 192)) (params % 192) ++ go_acts func (params / 192)) ≡ length (take_args (192 * (params / 192)) (params % 192)) + length (go_acts func (params / 192)) = length-append (take_args (192 * (params / 192)) (params % 192)) (go_acts func (params / 192)) in
      let e : length (zero_acts params (min locals 128 - params) ++ (take_args (192 * (params / 192)) (params % 192) ++ go_acts func (params / 192))) ≡ length (zero_acts params (min locals 128 - params)) + length (take_args (192 * (params / 192)) (params % 192) ++ go_acts func (params / 192)) = length-append (zero_acts params (min locals 128 - params)) (take_args (192 * (params / 192)) (params % 192) ++ go_acts func (params / 192)) in
      let r : suc (suc (suc (length (zero_acts params (min locals 128 - params) ++ (take_args (192 * (params / 192)) (params % 192) ++ go_acts func (params / 192)))))) ≤ 200 = omega arith in
      r

pub takers_light : TakersAreLight
takers_light zero h =
    let last : List Act = copy_site (at_key in_rest key_next) (at_key in_rest key_follows) ∷ [] in
    let l : length (take_args 0 192) ≡ 192 = take_length 192 0 in
    let e : length (take_args 0 192 ++ last) ≡ length (take_args 0 192) + 1 = length-append (take_args 0 192) last in
    let r : length (take_args 0 192 ++ last) ≤ 200 = omega arith in
    acts_light (taker_acts zero) (append_sound (take_args 0 192) last (take_sound 192 0 (omega arith)) (to_next_sound, tt)) r
takers_light (suc k) h =
    let l : length (take_args (192 * suc k) 192) ≡ 192 = take_length 192 (192 * suc k) in
    let e : length (take_args (192 * suc k) 192 ++ next_acts (taker k)) ≡ length (take_args (192 * suc k) 192) + 1 = length-append (take_args (192 * suc k) 192) (next_acts (taker k)) in
    let r : length (take_args (192 * suc k) 192 ++ next_acts (taker k)) ≤ 200 = omega arith in
    acts_light (taker_acts (suc k)) (append_sound (take_args (192 * suc k) 192) (next_acts (taker k)) (take_sound 192 (192 * suc k) (omega arith)) (to_piece_sound (taker k) (shared_plain (5000 + k) (omega arith)))) r

pub placers_light : PlacersAreLight
placers_light ints i few h =
    let last : List Act = copy_site (at_key in_rest key_next) (at_key in_rest key_follows) ∷ [] in
    let l : length (take_acts ints i 0) ≡ ints = take_results_length ints i 0 in
    let e : length (take_acts ints i 0 ++ last) ≡ length (take_acts ints i 0) + 1 = length-append (take_acts ints i 0) last in
    let r : length (take_acts ints i 0 ++ last) ≤ 200 = omega arith in
    acts_light (take_acts ints i 0 ++ last) (append_sound (take_acts ints i 0) last (take_results_sound ints i 0 (omega arith)) (to_next_sound, tt)) r

pub grower_light : GrowerIsLight
grower_light = sound_light grower_items (wider 70 442 grower_items (omega arith) grower_sound)

end_rounds_fits : act_fits end_rounds ≡ true
unfolding is_holder
end_rounds_fits = refl

pub dones_light : DonesAreLight
dones_light w h =
    let e : length (ending_acts w) ≡ length (done_acts w) + 1 = length-append (done_acts w) (end_rounds ∷ []) in
    let l : length (done_acts w) ≤ 199 = done_length w h in
    acts_light (ending_acts w) (append_sound (done_acts w) (end_rounds ∷ []) (done_sound w h) (record { fits = end_rounds_fits; avoids = refl }, tt)) (let r : length (ending_acts w) ≤ 200 = omega arith in r)
