-- The acts of calls and returns fit, leave the scheduler's scores alone, and weigh little.
use Rattle.std.proofs.Common.{◌≡◌, ℕ, zero, suc, ◌+◌, ◌*◌, ◌-◌, ◌%◌, ◌≤◌, ◌<◌, ◌^◌, max, min, List, [], ◌∷◌, ◌++◌, length, replicate, Bool, true, false, refl, arith, length-append}
use Rattle.std.specs.Prelude.{pos, codes, not, if◌then◌else◌, nat_lt}
use Rattle.std.specs.List.{list_all}
use Rattle.std.specs.Fmt.{decimal}
use Rattle.std.proofs.Math.Nat.{max-le, min-le_right}
use Rattle.std.proofs.lemmas.Bool.{le-leb}
use Rattle.std.proofs.lemmas.Fmt.{decimal_by_steps, decimal_nonempty, length-decimal-le}
use Rattle.std.proofs.lemmas.List.Folds.{list_all-append}
use Rattle.mc_nbt.proofs.TestLemmas.{and_both}
use Rattle.mc_nbt.specs.Path.{is_path}
use Rattle.mc_nbt.specs.Tree.{depth}
use Rattle.mc_nbt.specs.Word.{is_key, is_name_byte}
use Rattle.mc_cmd.specs.Word.{is_holder}
use Rattle.cc_line.specs.Sight.{in_io, in_rest}
use Rattle.cc_line.specs.Key.{key_state, key_list, key_end, PieceId, id_tree}
use Rattle.cc_line.specs.Place.{score_places}
use Rattle.cc_line.specs.Running.{bare_entry}
use Rattle.cc_line.specs.State.{at_key}
use Rattle.cc_line.specs.Step.{Act, set_place, make_list, save_list, restore_list, append_site, erase_site, copy_site, run_act, step_weight}
use Rattle.cc_line.specs.Fit.{scratch_fits, site_fits, tree_fits, steps_fit}
use Rattle.cc_line.specs.Item.{first, steps_items}
use Rattle.cc_line.proofs.FitLemmas.{word, joined, wide, number_clean}
use Rattle.cc_line.proofs.RunLemmas.{steps_all_fit}
use Rattle.cc_line.proofs.TableLemmas.{Plain, plain_fits}
use Rattle.cc_sched.specs.Names.{is_sched_score}
use Rattle.cc_call.specs.Frames.{entry_site, entry_at, below_site, last_site, last_at, next_site, done_piece, next_acts, depth_steps, saved, save_acts, save_list_acts, push_acts, pass_acts, zero_acts, opening_acts, result_score, hand_acts, return_acts, take_acts, load_acts, restore_list_acts, restore_acts, base_acts, result_site, result_at, tell_acts, done_acts}
use Rattle.cc_pieces.proofs.Weights.{Sound, SoundActs, append_sound, acts_weight, append_weighs, acts_weigh}
use Rattle.cc_pieces.proofs.Fits.{place_is, int_is, zeros_fit, NamePlain, end_plain, name_fits, next_fits, next_sound, copy_sound, list_sound, zero_sound, zero_length, set_weighs}

-- ---- paths

digit_named : (n : ℕ) → n < 10 → list_all is_name_byte ((48 + n) ∷ []) ≡ true
digit_named n l = rw (le-leb 48 (48 + n) (omega arith), le-leb (48 + n) 57 (omega arith)) refl

digits_named : (n : ℕ) → n < 2 ^ 64 → list_all is_name_byte (decimal n) ≡ true
digits_named n l =
    decimal_by_steps (λ k ds. list_all is_name_byte ds ≡ true) digit_named
    (λ k ds big h. rw (list_all-append is_name_byte ds ((48 + k % 10) ∷ [])) (and_both _ _ h (digit_named (k % 10) (omega arith)))) n l

-- a number is a key
pub number_key : (i : ℕ) → i < 2147483648 → is_key (decimal i) ≡ true
unfolding is_key
number_key i h =
    and_both _ _ (digits_named i (omega arith))
    (and_both _ _ (le-leb 1 (length (decimal i)) (let x = decimal_nonempty i (omega arith) in omega arith)) (le-leb (length (decimal i)) 32 (let x : length (decimal i) ≤ 10 = length-decimal-le 10 i (omega arith) (omega arith) (omega arith) in omega arith)))

entry_fits : site_fits entry_site ≡ true
unfolding is_path is_key
entry_fits = refl

key_y : is_key (codes "y") ≡ true
unfolding is_key
key_y = refl

key_b : is_key (codes "b") ≡ true
unfolding is_key
key_b = refl

-- a place in an entry, and its list
place_in_entry : (i : ℕ) → is_key (decimal i) ≡ true → site_fits (entry_at (decimal i)) ≡ true
unfolding is_path
place_in_entry i h = and_both _ _ (and_both _ _ key_y (and_both _ _ h refl)) refl

list_in_entry : site_fits (entry_at key_list) ≡ true
unfolding is_path is_key
list_in_entry = refl

below_fits : site_fits below_site ≡ true
unfolding is_path is_key
below_fits = refl

last_fits : site_fits last_site ≡ true
unfolding is_path is_key
last_fits = refl

pub place_in_last : (i : ℕ) → is_key (decimal i) ≡ true → site_fits (last_at (decimal i)) ≡ true
unfolding is_path
place_in_last i h = and_both _ _ (and_both _ _ key_b (and_both _ _ h refl)) refl

list_in_last : site_fits (last_at key_list) ≡ true
unfolding is_path is_key
list_in_last = refl

pub follows_in_last : site_fits (last_at (codes "p")) ≡ true
unfolding is_path is_key
follows_in_last = refl

state_fits : site_fits (at_key in_io key_state) ≡ true
unfolding is_path is_key
state_fits = refl

end_fits : site_fits (at_key in_rest key_end) ≡ true
unfolding is_path is_key
end_fits = refl

result_fits : site_fits result_site ≡ true
unfolding is_path is_key
result_fits = refl

element_fits : (k : ℕ) → k < 2147483648 → site_fits (result_at k) ≡ true
unfolding is_path is_key
element_fits k h = and_both _ _ (and_both _ _ (int_is k h) refl) refl

score_fits : (k : ℕ) → scratch_fits (result_score k) ≡ true
unfolding is_holder
score_fits zero = refl
score_fits (suc k) = refl

score_avoids : (k : ℕ) → not (is_sched_score (result_score k)) ≡ true
score_avoids zero = refl
score_avoids (suc k) = refl

-- an entry, before its places are put in
bare_plain : (i : PieceId) (z : ℕ) → NamePlain i → z < 2147483648 → Plain 3 3 100 (bare_entry i z)
unfolding is_key
bare_plain i z p h = record {
  shaped = and_both _ _ (and_both _ _ p.shaped (and_both _ _ (int_is z h) refl)) refl;
  kinds = refl;
  deep = (let d : depth (id_tree i) ≤ 2 = p.deep in let m : max (depth (id_tree i)) 1 ≤ 2 = max-le d (omega arith) in let r : suc (max (depth (id_tree i)) 1) ≤ 3 = omega arith in r);
  text = wide (joined (word (codes "{p:") refl) (joined p.text (joined (word (codes ",z:") refl) (joined (number_clean (pos z) (int_is z h)) (word (codes "}") refl))))) (omega arith);
}

bare_fits : (i : PieceId) (z : ℕ) → NamePlain i → z < 2147483648 → tree_fits (bare_entry i z) ≡ true
bare_fits i z p h = (plain_fits 3 3 100 (bare_entry i z) (bare_plain i z p h) (omega arith) (omega arith)).0

-- ---- the limit of frames

depth_fit : steps_fit depth_steps ≡ true
unfolding is_path is_key is_holder
depth_fit = refl

pub depth_sound : Sound 7 (steps_items depth_steps)
depth_sound = record { fits = steps_all_fit depth_steps depth_fit; avoids = refl; light = omega arith }

-- ---- a call

save_sound : (n i : ℕ) → i + n ≤ 2147483648 → SoundActs (save_acts i n)
save_sound zero i h = tt
save_sound (suc n) i h = (record { fits = and_both _ _ (place_in_entry i (number_key i (omega arith))) (place_is i (omega arith)); avoids = refl }, save_sound n (suc i) (omega arith))

save_length : (n i : ℕ) → length (save_acts i n) ≡ n
save_length zero i = refl
save_length (suc n) i = let e : length (save_acts (suc i) n) ≡ n = save_length n (suc i) in omega arith

save_list_sound : (z : ℕ) → SoundActs (save_list_acts z)
save_list_sound z = go (nat_lt score_places z)
  where
    go : (b : Bool) → SoundActs (if b then save_list (entry_at key_list) ∷ [] else [])
    go true = (record { fits = list_in_entry; avoids = refl }, tt)
    go false = tt

save_list_weighs : (z : ℕ) → acts_weight (save_list_acts z) ≤ 1
save_list_weighs z = go (nat_lt score_places z)
  where
    go : (b : Bool) → acts_weight (if b then save_list (entry_at key_list) ∷ [] else []) ≤ 1
    go true = omega arith
    go false = omega arith

-- the caller's frame is saved
pub push_sound : (z : ℕ) (i : PieceId) → NamePlain i → SoundActs (push_acts z i)
push_sound z i p =
    let l : min z 128 ≤ 128 = min-le_right z 128 in (
      record { fits = and_both _ _ entry_fits (bare_fits i (saved z) p (omega arith)); avoids = refl },
      append_sound (save_acts 0 (saved z)) (save_list_acts z ++ (append_site below_site entry_site ∷ [])) (save_sound (saved z) 0 (omega arith))
          (append_sound (save_list_acts z) (append_site below_site entry_site ∷ []) (save_list_sound z) (record { fits = and_both _ _ below_fits entry_fits; avoids = refl }, tt)),
    )

pub push_weighs : (z : ℕ) (i : PieceId) → acts_weight (push_acts z i) ≤ 259
push_weighs z i =
    let l : min z 128 ≤ 128 = min-le_right z 128 in
    let a : acts_weight (save_acts 0 (saved z)) ≤ 2 * length (save_acts 0 (saved z)) = acts_weigh (save_acts 0 (saved z)) in
    let b : length (save_acts 0 (min z 128)) ≡ min z 128 = save_length (min z 128) 0 in
    let c : acts_weight (save_list_acts z) ≤ 1 = save_list_weighs z in
    let d : acts_weight (save_list_acts z ++ (append_site below_site entry_site ∷ [])) ≡ acts_weight (save_list_acts z) + 1 = append_weighs (save_list_acts z) (append_site below_site entry_site ∷ []) in
    let e : acts_weight (save_acts 0 (min z 128) ++ (save_list_acts z ++ (append_site below_site entry_site ∷ []))) ≡ acts_weight (save_acts 0 (min z 128)) + acts_weight (save_list_acts z ++ (append_site below_site entry_site ∷ [])) = append_weighs (save_acts 0 (min z 128)) (save_list_acts z ++ (append_site below_site entry_site ∷ [])) in
    let r : 1 + acts_weight (save_acts 0 (min z 128) ++ (save_list_acts z ++ (append_site below_site entry_site ∷ []))) ≤ 259 = omega arith in
    r

-- the arguments are passed
pub pass_sound : (z n j : ℕ) → z + (j + n) ≤ 2147483648 → SoundActs (pass_acts z j n)
pass_sound z zero j h = tt
pass_sound z (suc n) j h = (copy_sound j (z + j) (omega arith) (omega arith), pass_sound z n (suc j) (omega arith))

pass_length : (z n j : ℕ) → length (pass_acts z j n) ≡ n
pass_length z zero j = refl
pass_length z (suc n) j = let e : length (pass_acts z (suc j) n) ≡ n = pass_length z n (suc j) in omega arith

pub pass_weighs : (z n : ℕ) → acts_weight (pass_acts z 0 n) ≤ 2 * n
pass_weighs z n =
    let a : acts_weight (pass_acts z 0 n) ≤ 2 * length (pass_acts z 0 n) = acts_weigh (pass_acts z 0 n) in
    let b : length (pass_acts z 0 n) ≡ n = pass_length z n 0 in
    omega arith

pub to_piece_sound : (i : PieceId) → NamePlain i → SoundActs (next_acts i)
to_piece_sound i p = (next_sound (id_tree i) (name_fits i p), tt)

-- the new frame is made
zero_weighs : (n i : ℕ) → acts_weight (zero_acts i n) ≡ n
zero_weighs zero i = refl
zero_weighs (suc n) i =
    let e : acts_weight (zero_acts (suc i) n) ≡ n = zero_weighs n (suc i) in
    let w : step_weight (run_act (set_place i (pos 0))) ≡ 1 = set_weighs i (pos 0) in
    omega arith

module _ (params locals size : ℕ) (first : PieceId) where
  pub opening_sound : params ≤ 3000 → size ≤ 8000 → NamePlain first → SoundActs (opening_acts params locals size first)
  opening_sound h s p =
      let l : min locals 128 ≤ 128 = min-le_right locals 128 in (
        list_sound (size - score_places) (omega arith),
        append_sound (zero_acts params (min locals score_places - params)) (next_acts first) (zero_sound (min locals score_places - params) params (let r : params + (min locals 128 - params) ≤ 2147483648 = omega arith in r)) (to_piece_sound first p),
      )

  pub opening_weighs : acts_weight (opening_acts params locals size first) ≡ (min locals score_places - params) + 2
  opening_weighs =
      let a : acts_weight (zero_acts params (min locals score_places - params)) ≡ min locals score_places - params = zero_weighs (min locals score_places - params) params in
      let b : acts_weight (zero_acts params (min locals score_places - params) ++ next_acts first) ≡ acts_weight (zero_acts params (min locals score_places - params)) + 1 = append_weighs (zero_acts params (min locals score_places - params)) (next_acts first) in
      let r : 1 + acts_weight (zero_acts params (min locals score_places - params) ++ next_acts first) ≡ (min locals score_places - params) + 2 = omega arith in
      r

  pub opening_length : length (opening_acts params locals size first) ≤ 200
  opening_length =
      let l : min locals 128 ≤ 128 = min-le_right locals 128 in
      let a : length (zero_acts params (min locals 128 - params)) ≡ min locals 128 - params = zero_length (min locals 128 - params) params in
      let b : length (zero_acts params (min locals 128 - params) ++ next_acts first) ≡ length (zero_acts params (min locals 128 - params)) + 1 = length-append (zero_acts params (min locals 128 - params)) (next_acts first) in
      let r : suc (length (zero_acts params (min locals 128 - params) ++ next_acts first)) ≤ 200 = omega arith in
      r

-- ---- a return

pub hand_sound : (n i k : ℕ) → i + n ≤ 2147483648 → SoundActs (hand_acts n i k)
hand_sound zero i k h = tt
hand_sound (suc n) i k h = (record { fits = and_both _ _ (score_fits k) (place_is i (omega arith)); avoids = score_avoids k }, hand_sound n (suc i) (suc k) (omega arith))

pub hand_length : (n i k : ℕ) → length (hand_acts n i k) ≡ n
hand_length zero i k = refl
hand_length (suc n) i k = let e : length (hand_acts n (suc i) (suc k)) ≡ n = hand_length n (suc i) (suc k) in omega arith

abbrev to_follows : List Act
to_follows = copy_site next_site (last_at (codes "p")) ∷ []

pub return_sound : (n h : ℕ) → n ≤ 30000 → h ≤ 30000 → SoundActs (return_acts n h)
return_sound n h l k = append_sound (hand_acts n (h - n) 0) to_follows (hand_sound n (h - n) 0 (omega arith)) (record { fits = and_both _ _ next_fits follows_in_last; avoids = refl }, tt)

pub return_length : (n h : ℕ) → length (return_acts n h) ≡ n + 1
return_length n h =
    let a : length (return_acts n h) ≡ length (hand_acts n (h - n) 0) + 1 = length-append (hand_acts n (h - n) 0) to_follows in
    let b : length (hand_acts n (h - n) 0) ≡ n = hand_length n (h - n) 0 in
    omega arith

-- ---- the caller's frame again

load_sound : (n i : ℕ) → i + n ≤ 2147483648 → SoundActs (load_acts i n)
load_sound zero i h = tt
load_sound (suc n) i h = (record { fits = and_both _ _ (place_is i (omega arith)) (place_in_last i (number_key i (omega arith))); avoids = refl }, load_sound n (suc i) (omega arith))

load_length : (n i : ℕ) → length (load_acts i n) ≡ n
load_length zero i = refl
load_length (suc n) i = let e : length (load_acts (suc i) n) ≡ n = load_length n (suc i) in omega arith

pub take_results_sound : (n i k : ℕ) → i + n ≤ 2147483648 → SoundActs (take_acts n i k)
take_results_sound zero i k h = tt
take_results_sound (suc n) i k h = (record { fits = and_both _ _ (place_is i (omega arith)) (score_fits k); avoids = score_avoids k }, take_results_sound n (suc i) (suc k) (omega arith))

pub take_results_length : (n i k : ℕ) → length (take_acts n i k) ≡ n
take_results_length zero i k = refl
take_results_length (suc n) i k = let e : length (take_acts n (suc i) (suc k)) ≡ n = take_results_length n (suc i) (suc k) in omega arith

restore_list_sound : (z size : ℕ) → size ≤ 8000 → SoundActs (restore_list_acts z size)
restore_list_sound z size h = go (nat_lt score_places z)
  where
    go : (b : Bool) → SoundActs (if b then restore_list (last_at key_list) ∷ [] else make_list (replicate (size - score_places) (pos 0)) ∷ [])
    go true = (record { fits = list_in_last; avoids = refl }, tt)
    go false = (list_sound (size - score_places) (omega arith), tt)

restore_list_length : (z size : ℕ) → length (restore_list_acts z size) ≡ 1
restore_list_length z size = go (nat_lt score_places z)
  where
    go : (b : Bool) → length (if b then restore_list (last_at key_list) ∷ [] else make_list (replicate (size - score_places) (pos 0)) ∷ []) ≡ 1
    go true = refl
    go false = refl

module _ (z results size : ℕ) (next : PieceId) where
  abbrev last : List Act
  last = erase_site last_site ∷ next_acts next

  pub restore_sound : z ≤ 8000 → results ≤ 3000 → size ≤ 8000 → NamePlain next → SoundActs (restore_acts z results size next)
  restore_sound h r s p =
      let l : min z 128 ≤ 128 = min-le_right z 128 in
      append_sound (restore_list_acts z size) (load_acts 0 (saved z) ++ (take_acts results z 0 ++ last)) (restore_list_sound z size s)
      (append_sound (load_acts 0 (saved z)) (take_acts results z 0 ++ last) (load_sound (saved z) 0 (omega arith))
      (append_sound (take_acts results z 0) last (take_results_sound results z 0 (omega arith)) (record { fits = and_both _ _ last_fits refl; avoids = refl }, to_piece_sound next p)))

  pub restore_length : results ≤ 2 → length (restore_acts z results size next) ≤ 200
  restore_length h =
      let l : min z 128 ≤ 128 = min-le_right z 128 in
      let a : length (restore_list_acts z size) ≡ 1 = restore_list_length z size in
      let b : length (load_acts 0 (min z 128)) ≡ min z 128 = load_length (min z 128) 0 in
      let c : length (take_acts results z 0) ≡ results = take_results_length results z 0 in
      let d : length (take_acts results z 0 ++ last) ≡ length (take_acts results z 0) + 2 = length-append (take_acts results z 0) last in
      let e : length (load_acts 0 (min z 128) ++ (take_acts results z 0 ++ last)) ≡ length (load_acts 0 (min z 128)) + length (take_acts results z 0 ++ last) = length-append (load_acts 0 (min z 128)) (take_acts results z 0 ++ last) in
      let f : length (restore_list_acts z size ++ (load_acts 0 (min z 128) ++ (take_acts results z 0 ++ last))) ≡ length (restore_list_acts z size) + length (load_acts 0 (min z 128) ++ (take_acts results z 0 ++ last)) = length-append (restore_list_acts z size) (load_acts 0 (min z 128) ++ (take_acts results z 0 ++ last)) in
      omega arith

-- ---- the outermost frame

pub base_sound : (w : ℕ) → w ≤ 3000 → SoundActs (base_acts w)
base_sound w h = (
  record { fits = and_both _ _ below_fits refl; avoids = refl },
  (record { fits = and_both _ _ below_fits (bare_fits (done_piece w) 0 (end_plain w (omega arith)) (omega arith)); avoids = refl }, tt),
)

told_sound : (n k : ℕ) → k + n ≤ 2147483648 → SoundActs (tell_acts n k)
told_sound zero k h = tt
told_sound (suc n) k h = (record { fits = and_both _ _ (element_fits k (omega arith)) (score_fits k); avoids = score_avoids k }, told_sound n (suc k) (omega arith))

told_length : (n k : ℕ) → length (tell_acts n k) ≡ n
told_length zero k = refl
told_length (suc n) k = let e : length (tell_acts n (suc k)) ≡ n = told_length n (suc k) in omega arith

abbrev to_end : List Act
to_end = copy_site (at_key in_io key_state) (at_key in_rest key_end) ∷ []

-- the job ends
pub done_sound : (w : ℕ) → w ≤ 2 → SoundActs (done_acts w)
done_sound w h = (
  record { fits = and_both _ _ result_fits (zeros_fit w (omega arith)); avoids = refl },
  append_sound (tell_acts w 0) to_end (told_sound w 0 (omega arith)) (record { fits = and_both _ _ state_fits end_fits; avoids = refl }, tt),
)

pub done_length : (w : ℕ) → w ≤ 2 → length (done_acts w) ≤ 199
done_length w h =
    let a : length (tell_acts w 0) ≡ w = told_length w 0 in
    let b : length (tell_acts w 0 ++ to_end) ≡ length (tell_acts w 0) + 1 = length-append (tell_acts w 0) to_end in
    let r : suc (length (tell_acts w 0 ++ to_end)) ≤ 199 = omega arith in
    r
