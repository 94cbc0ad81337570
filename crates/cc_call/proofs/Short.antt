-- The acts of calls and returns are short.
use Rattle.std.proofs.Common.{◌≡◌, ◌∙◌, ℕ, zero, suc, ◌+◌, ◌-◌, ◌≤◌, min, List, [], ◌∷◌, ◌++◌, replicate, Bool, true, false, refl, arith}
use Rattle.std.specs.Prelude.{pos, if◌then◌else◌, nat_lt}
use Rattle.std.proofs.Math.Nat.{min-le_right}
use Rattle.std.proofs.lemmas.List.Folds.{list_all-append}
use Rattle.mc_cmd.proofs.FormLemmas.{and_first, and_second, and_both}
use Rattle.cc_line.specs.Item.{Items}
use Rattle.cc_line.specs.Key.{key_list, PieceId, id_tree}
use Rattle.cc_line.specs.Place.{score_places}
use Rattle.cc_line.specs.Step.{Act, set_site, copy_site, append_site, erase_site, make_list, save_list, restore_list}
use Rattle.cc_text.specs.Short.{act_short, acts_short, id_short, items_short, steps_short}
use Rattle.cc_text.proofs.ShortTrees.{end_named, entry_short, name_short, no_items_short, zeros_short}
use Rattle.cc_call.specs.Acts.{acts_then}
use Rattle.cc_call.specs.Fetch.{fetch_acts, follows_site, making_acts}
use Rattle.cc_call.specs.Frames.{entry_site, entry_at, below_site, last_site, last_at, done_piece, next_site, next_acts, depth_steps, saved, save_acts, save_list_acts, push_acts, pass_acts, zero_acts, opening_acts}
use Rattle.cc_call.specs.Frames.{hand_acts, return_acts, take_acts, load_acts, restore_list_acts, restore_acts, base_acts, tell_acts, done_acts}

pub short_acts : (xs ys : List Act) → acts_short xs ≡ true → acts_short ys ≡ true → acts_short (xs ++ ys) ≡ true
short_acts xs ys h g = list_all-append act_short xs ys ∙ and_both _ _ h g

pub short_then : (acts : List Act) (rest : Items) → acts_short acts ≡ true → items_short rest ≡ true → items_short (acts_then acts rest) ≡ true
short_then [] rest h g = g
short_then (a ∷ acts) rest h g = and_both _ _ (and_first _ _ h) (short_then acts rest (and_second (act_short a) _ h) g)

pub save_short : (n i : ℕ) → acts_short (save_acts i n) ≡ true
save_short zero i = refl
save_short (suc n) i = save_short n (suc i)

pub save_list_short : (z : ℕ) → acts_short (save_list_acts z) ≡ true
save_list_short z = go (nat_lt score_places z)
  where
    go : (b : Bool) → acts_short (if b then save_list (entry_at key_list) ∷ [] else []) ≡ true
    go true = refl
    go false = refl

pub push_short : (z : ℕ) (i : PieceId) → id_short i ≡ true → acts_short (push_acts z i) ≡ true
push_short z i p =
    let l : min z 128 ≤ 128 = min-le_right z 128 in
    and_both _ _ (entry_short i (saved z) p (omega arith))
    (short_acts (save_acts 0 (saved z)) (save_list_acts z ++ (append_site below_site entry_site ∷ [])) (save_short (saved z) 0)
    (short_acts (save_list_acts z) (append_site below_site entry_site ∷ []) (save_list_short z) refl))

pub pass_short : (z n j : ℕ) → acts_short (pass_acts z j n) ≡ true
pass_short z zero j = refl
pass_short z (suc n) j = pass_short z n (suc j)

pub zero_short : (n i : ℕ) → acts_short (zero_acts i n) ≡ true
zero_short zero i = refl
zero_short (suc n) i = zero_short n (suc i)

pub next_short : (i : PieceId) → id_short i ≡ true → acts_short (next_acts i) ≡ true
next_short i p = and_both _ _ (name_short i p) refl

pub opening_short : (params locals size : ℕ) (next : PieceId) → size ≤ 8000 → id_short next ≡ true → acts_short (opening_acts params locals size next) ≡ true
opening_short params locals size next h p =
    and_both _ _ (zeros_short (size - score_places) (omega arith))
    (short_acts (zero_acts params (min locals score_places - params)) (next_acts next) (zero_short (min locals score_places - params) params) (next_short next p))

pub making_short : (params locals size : ℕ) (following : PieceId) → size ≤ 8000 → id_short following ≡ true → acts_short (making_acts params locals size following) ≡ true
making_short params locals size following h p =
    let zeros : List Act = zero_acts params (min locals score_places - params) in
    and_both _ _ (zeros_short (size - score_places) (omega arith))
    (short_acts zeros (copy_site next_site follows_site ∷ (set_site follows_site (id_tree following) ∷ [])) (zero_short (min locals score_places - params) params) (and_both _ _ (name_short following p) refl))

pub fetch_acts_short : (n z j : ℕ) → acts_short (fetch_acts z j n) ≡ true
fetch_acts_short zero z j = refl
fetch_acts_short (suc n) z j = fetch_acts_short n (suc z) (suc j)

pub hand_short : (n i k : ℕ) → acts_short (hand_acts n i k) ≡ true
hand_short zero i k = refl
hand_short (suc n) i k = hand_short n (suc i) (suc k)

pub return_short : (n h : ℕ) → acts_short (return_acts n h) ≡ true
return_short n h = short_acts (hand_acts n (h - n) 0) _ (hand_short n (h - n) 0) refl

pub take_results_short : (n i k : ℕ) → acts_short (take_acts n i k) ≡ true
take_results_short zero i k = refl
take_results_short (suc n) i k = take_results_short n (suc i) (suc k)

pub load_short : (n i : ℕ) → acts_short (load_acts i n) ≡ true
load_short zero i = refl
load_short (suc n) i = load_short n (suc i)

pub restore_list_short : (z size : ℕ) → size ≤ 8000 → acts_short (restore_list_acts z size) ≡ true
restore_list_short z size h = go (nat_lt score_places z)
  where
    go : (b : Bool) → acts_short (if b then restore_list (last_at key_list) ∷ [] else make_list (replicate (size - score_places) (pos 0)) ∷ []) ≡ true
    go true = refl
    go false = and_both _ _ (zeros_short (size - score_places) (omega arith)) refl

pub restore_short : (z results size : ℕ) (next : PieceId) → size ≤ 8000 → id_short next ≡ true → acts_short (restore_acts z results size next) ≡ true
restore_short z results size next h p =
    let last : List Act = erase_site last_site ∷ next_acts next in
    short_acts (restore_list_acts z size) (load_acts 0 (saved z) ++ (take_acts results z 0 ++ last)) (restore_list_short z size h)
    (short_acts (load_acts 0 (saved z)) (take_acts results z 0 ++ last) (load_short (saved z) 0)
    (short_acts (take_acts results z 0) last (take_results_short results z 0) (next_short next p)))

pub tell_short : (n k : ℕ) → acts_short (tell_acts n k) ≡ true
tell_short zero k = refl
tell_short (suc n) k = tell_short n (suc k)

pub done_acts_short : (w : ℕ) → w ≤ 1000 → acts_short (done_acts w) ≡ true
done_acts_short w h = and_both _ _ (zeros_short w (omega arith)) (short_acts (tell_acts w 0) _ (tell_short w 0) refl)

pub base_short : (results : ℕ) → results ≤ 1000 → acts_short (base_acts results) ≡ true
base_short results r =
    and_both _ _ no_items_short (and_both _ _ (entry_short (done_piece results) 0 (end_named results (omega arith)) (omega arith)) refl)

pub depth_short : steps_short depth_steps ≡ true
depth_short = refl
