-- The acts that make a frame whose arguments are fetched then, and those that fetch them, fit, leave the scheduler's scores
-- alone, and weigh little.
use Rattle.std.proofs.Common.{◌≡◌, ℕ, zero, suc, ◌+◌, ◌*◌, ◌-◌, ◌≤◌, ◌<◌, min, List, [], ◌∷◌, ◌++◌, length, Bool, true, false, Option, Some, None, refl, arith, length-append}
use Rattle.std.specs.Prelude.{pos, negsuc, if◌then◌else◌, nat_lt}
use Rattle.std.specs.Fmt.{decimal}
use Rattle.std.proofs.Math.Nat.{min-le_left, min-le_right}
use Rattle.std.proofs.lemmas.Bool.{ltb-true}
use Rattle.mc_nbt.proofs.TestLemmas.{and_both}
use Rattle.mc_nbt.specs.Path.{is_path}
use Rattle.mc_nbt.specs.Tree.{key, place}
use Rattle.mc_nbt.specs.Word.{is_key}
use Rattle.mc_cmd.specs.Chain.{cmd_weight}
use Rattle.cc_line.specs.Sight.{in_rest}
use Rattle.cc_line.specs.Key.{key_below, key_list, PieceId, id_tree}
use Rattle.cc_line.specs.Place.{score_places, in_score, in_list}
use Rattle.cc_line.specs.State.{Site}
use Rattle.cc_line.specs.Step.{Act, site_to_place, site_to_home, said_command, set_site, copy_site, run_act, step_weight}
use Rattle.cc_line.specs.Fit.{site_fits}
use Rattle.cc_line.specs.Item.{no_more}
use Rattle.cc_call.specs.Acts.{acts_then}
use Rattle.cc_call.specs.Fetch.{last_place, fetch_acts, follows_site, making_acts}
use Rattle.cc_call.specs.Frames.{last_at, next_site, next_acts, zero_acts, opening_acts}
use Rattle.cc_pieces.specs.Fetching.{are_many, fetch_piece, fetch_from, fetched_acts, fetching_acts, fetching_items, opened_acts, fetch_next_acts}
use Rattle.cc_pieces.specs.Law.{IsLight}
use Rattle.cc_pieces.proofs.Weights.{sound_none, wider, sound_light, SoundAct, SoundActs, append_sound, acts_weight, append_weighs, weighed_sound}
use Rattle.cc_pieces.proofs.Fits.{place_is, int_is, NamePlain, body_plain, name_fits, follows_sound, to_next_sound, list_sound, zero_sound, zero_length}
use Rattle.cc_pieces.proofs.CallWeights.{number_key, place_in_last, to_piece_sound, opening_sound, opening_length}

-- ---- the names of pieces

fetch_plain : (n index k : ℕ) → n < 2147483648 → index ≤ 1000000 → k ≤ 8 → NamePlain (fetch_piece n index k)
fetch_plain n index k h l s = body_plain n (2097152 + (8 * index + k)) h (omega arith)

pub from_plain : (func : ℕ) (o : Option ℕ) → func < 2147483648 → ((j : ℕ) → o ≡ Some j → j ≤ 1000000) → NamePlain (fetch_from func o)
from_plain func None h l = fetch_plain func 0 0 h (omega arith) (omega arith)
from_plain func (Some j) h l = fetch_plain func j 0 h (l j refl) (omega arith)

pub fetch_next_sound : (func : ℕ) (o : Option ℕ) → func < 2147483648 → ((j : ℕ) → o ≡ Some j → j ≤ 1000000) → SoundActs (fetch_next_acts func o)
fetch_next_sound func o h l = (follows_sound (id_tree (fetch_from func o)) (name_fits (fetch_from func o) (from_plain func o h l)), tt)

-- ---- arguments are fetched

-- a place in the list of the last of the frames below
abbrev listed_place : ℕ → Site
listed_place k = record { store = in_rest; name = key_below; parts = place (negsuc 0) ∷ (key key_list ∷ (place (pos k) ∷ [])) }

listed_fits : (k : ℕ) → k < 2147483648 → site_fits (listed_place k) ≡ true
unfolding is_path is_key
listed_fits k h = and_both _ _ (and_both _ _ (int_is k h) refl) refl

last_place_fits : (i : ℕ) → i < 2147483648 → site_fits (last_place i) ≡ true
last_place_fits i h = go (nat_lt i score_places)
  where
    go : (b : Bool) → site_fits (if b then last_at (decimal i) else listed_place (i - score_places)) ≡ true
    go true = place_in_last i (number_key i h)
    go false = listed_fits (i - score_places) (omega arith)

one_sound : (i z : ℕ) → i < 2147483648 → z < 2147483648 → SoundAct (site_to_place i (last_place z))
one_sound i z h k = record { fits = and_both _ _ (place_is i h) (last_place_fits z k); avoids = refl }

all_sound : (n z j : ℕ) → z + n ≤ 2147483648 → j + n ≤ 2147483648 → SoundActs (fetch_acts z j n)
all_sound zero z j h k = tt
all_sound (suc n) z j h k = (one_sound j z (omega arith) (omega arith), all_sound n (suc z) (suc j) (omega arith) (omega arith))

-- one that becomes a score weighs one more
one_weighs : (j : ℕ) (p : Site) → step_weight (run_act (site_to_place j p)) + (128 - suc j) ≤ 1 + (128 - j)
one_weighs j p = go (nat_lt j score_places) refl
  where
    go : (b : Bool) → nat_lt j score_places ≡ b → cmd_weight (said_command (site_to_home [] (if b then in_score j else in_list (j - score_places)) p)) + (128 - suc j) ≤ 1 + (128 - j)
    go true e =
        let l : j < 128 = ltb-true j 128 e in
        let r : 2 + (128 - suc j) ≤ 1 + (128 - j) = omega arith in
        r
    go false e = let r : 1 + (128 - suc j) ≤ 1 + (128 - j) = omega arith in r

all_weigh : (n z j : ℕ) → acts_weight (fetch_acts z j n) ≤ n + (128 - j)
all_weigh zero z j = omega arith
all_weigh (suc n) z j =
    let a : step_weight (run_act (site_to_place j (last_place z))) + (128 - suc j) ≤ 1 + (128 - j) = one_weighs j (last_place z) in
    let b : acts_weight (fetch_acts (suc z) (suc j) n) ≤ n + (128 - suc j) = all_weigh n (suc z) (suc j) in
    let r : step_weight (run_act (site_to_place j (last_place z))) + acts_weight (fetch_acts (suc z) (suc j) n) ≤ suc n + (128 - j) = omega arith in
    r

-- what follows them
fetched_sound : (params n index k : ℕ) → n < 2147483648 → index ≤ 1000000 → k ≤ 7 → SoundActs (fetched_acts params n index k)
fetched_sound params n index k h l s = go (nat_lt (304 * suc k) params)
  where
    go : (b : Bool) → SoundActs (if b then next_acts (fetch_piece n index (suc k)) else copy_site next_site follows_site ∷ [])
    go true = to_piece_sound (fetch_piece n index (suc k)) (fetch_plain n index (suc k) h l (omega arith))
    go false = (to_next_sound, tt)

fetched_weigh : (params n index k : ℕ) → acts_weight (fetched_acts params n index k) ≤ 1
fetched_weigh params n index k = go (nat_lt (304 * suc k) params)
  where
    go : (b : Bool) → acts_weight (if b then next_acts (fetch_piece n index (suc k)) else copy_site next_site follows_site ∷ []) ≤ 1
    go true = omega arith
    go false = omega arith

module _ (z params n index k : ℕ) (named : n < 2147483648) (low : z ≤ 8000) (small : index ≤ 1000000) (few : k ≤ 7) where
  abbrev count : ℕ
  count = min 304 (params - 304 * k)

  abbrev args : List Act
  args = fetch_acts (z + 304 * k) (304 * k) count

  abbrev last : List Act
  last = fetched_acts params n index k

  fetching_sound : SoundActs (fetching_acts z params n index k)
  fetching_sound =
      let l : min 304 (params - 304 * k) ≤ 304 = min-le_left 304 (params - 304 * k) in
      append_sound args last (all_sound count (z + 304 * k) (304 * k) (omega arith) (omega arith)) (fetched_sound params n index k named small few)

  fetching_weighs : acts_weight (fetching_acts z params n index k) ≤ 433
  fetching_weighs =
      let l : min 304 (params - 304 * k) ≤ 304 = min-le_left 304 (params - 304 * k) in
      let a : acts_weight args ≤ count + (128 - 304 * k) = all_weigh count (z + 304 * k) (304 * k) in
      let b : acts_weight last ≤ 1 = fetched_weigh params n index k in
      let c : acts_weight (args ++ last) ≡ acts_weight args + acts_weight last = append_weighs args last in
      omega arith

  pub fetching_light : IsLight (fetching_items z params n index k)
  fetching_light =
      let acts : List Act = fetching_acts z params n index k in
      let w : acts_weight (fetching_acts z params n index k) ≤ 433 = fetching_weighs in
      sound_light (acts_then acts no_more) (wider (acts_weight acts + 0) 442 (acts_then acts no_more) (omega arith) (weighed_sound 0 acts no_more fetching_sound (sound_none 0)))

-- ---- the new frame

module _ (params locals size : ℕ) (first : PieceId) where
  abbrev zeros : List Act
  zeros = zero_acts params (min locals score_places - params)

  abbrev after : List Act
  after = copy_site next_site follows_site ∷ (set_site follows_site (id_tree first) ∷ [])

  making_sound : params ≤ 3000 → size ≤ 8000 → NamePlain first → SoundActs (making_acts params locals size first)
  making_sound h s p =
      let l : min locals 128 ≤ 128 = min-le_right locals 128 in (
        list_sound (size - score_places) (omega arith),
        append_sound zeros after (zero_sound (min locals score_places - params) params (let r : params + (min locals 128 - params) ≤ 2147483648 = omega arith in r)) (to_next_sound, (follows_sound (id_tree first) (name_fits first p), tt)),
      )

  making_length : length (making_acts params locals size first) ≤ 200
  making_length =
      let l : min locals 128 ≤ 128 = min-le_right locals 128 in
      let a : length (zero_acts params (min locals 128 - params)) ≡ min locals 128 - params = zero_length (min locals 128 - params) params in
      let b : length (zero_acts params (min locals 128 - params) ++ after) ≡ length (zero_acts params (min locals 128 - params)) + 2 = length-append (zero_acts params (min locals 128 - params)) after in
      let r : suc (length (zero_acts params (min locals 128 - params) ++ after)) ≤ 200 = omega arith in
      r

  pub opened_sound : params ≤ 3000 → size ≤ 8000 → NamePlain first → SoundActs (opened_acts params locals size first)
  opened_sound h s p = go (are_many params)
    where
      go : (b : Bool) → SoundActs (if b then making_acts params locals size first else opening_acts params locals size first)
      go true = making_sound h s p
      go false = opening_sound params locals size first h s p

  pub opened_length : length (opened_acts params locals size first) ≤ 200
  opened_length = go (are_many params)
    where
      go : (b : Bool) → length (if b then making_acts params locals size first else opening_acts params locals size first) ≤ 200
      go true = making_length
      go false = opening_length params locals size first
