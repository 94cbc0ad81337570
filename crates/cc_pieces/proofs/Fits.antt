-- The acts of pieces that know no body fit, leave the scheduler's scores alone, and weigh little.
use Rattle.std.proofs.Common.{◌≡◌, ℕ, zero, suc, ◌+◌, ◌*◌, ◌≤◌, ◌<◌, [], length, map, replicate, true, refl, arith}
use Rattle.std.specs.Prelude.{ℤ, pos, codes}
use Rattle.std.proofs.lemmas.Bool.{lt-ltb}
use Rattle.mc_nbt.proofs.TestLemmas.{and_both}
use Rattle.mc_nbt.specs.Path.{is_path}
use Rattle.mc_nbt.specs.Tree.{Tree, int}
use Rattle.mc_nbt.specs.Word.{is_int, is_key}
use Rattle.mc_cmd.specs.Chain.{cmd_weight}
use Rattle.cc_line.specs.Sight.{in_rest}
use Rattle.cc_line.specs.Place.{home, Home, in_score, in_list}
use Rattle.cc_line.specs.Key.{key_next, key_follows, PieceId, body_piece, shared_piece, end_piece, id_tree}
use Rattle.cc_line.specs.State.{at_key, ints}
use Rattle.cc_line.specs.Step.{set_place, copy_place, set_home, said_command, set_site, copy_site, make_list, run_act, step_weight}
use Rattle.cc_line.specs.Fit.{place_fits, site_fits, tree_fits}
use Rattle.cc_line.proofs.FitLemmas.{word, joined, wide, number_clean}
use Rattle.cc_line.proofs.TableLemmas.{Each, Plain, int_plain, list_plain, plain_fits}
use Rattle.cc_call.specs.Frames.{zero_acts}
use Rattle.cc_pieces.specs.Entry.{arg_at, take_args}
use Rattle.cc_pieces.proofs.Weights.{SoundAct, SoundActs}

-- ---- numbers and trees

pub place_is : (i : ℕ) → i < 2147483648 → place_fits i ≡ true
place_is i h = lt-ltb i 2147483648 h

pub int_is : (n : ℕ) → n < 2147483648 → is_int (pos n) ≡ true
int_is n h = lt-ltb n 2147483648 h

each_zero : (n : ℕ) → Each (Plain 0 1 11) (map int (replicate n (pos 0)))
each_zero zero = tt
each_zero (suc n) = (int_plain (pos 0) refl, each_zero n)

zeros_long : (n : ℕ) → length (map int (replicate n (pos 0))) ≡ n
zeros_long zero = refl
zeros_long (suc n) = let e : length (map int (replicate n (pos 0))) ≡ n = zeros_long n in let r : suc (length (map int (replicate n (pos 0)))) ≡ suc n = omega arith in r

-- a list of zeros
pub zeros_fit : (n : ℕ) → n ≤ 30000 → tree_fits (ints (replicate n (pos 0))) ≡ true
zeros_fit n h =
    let e : length (map int (replicate n (pos 0))) ≡ n = zeros_long n in
    (plain_fits 2 2 (2 + length (map int (replicate n (pos 0))) * 12) (ints (replicate n (pos 0))) (list_plain 0 1 11 (map int (replicate n (pos 0))) (each_zero n)) (omega arith) (omega arith)).0

-- the tree that names a piece
abbrev pub NamePlain : PieceId → Type 0
NamePlain i = Plain 3 2 60 (id_tree i)

pub body_plain : (f j : ℕ) → f < 2147483648 → j < 2147483648 → NamePlain (body_piece f j)
unfolding is_key
body_plain f j h k = record {
  shaped = and_both _ _ (and_both _ _ (int_is f h) (and_both _ _ (int_is j k) refl)) refl;
  kinds = refl;
  deep = omega arith;
  text = wide (joined (word (codes "{i:") refl) (joined (number_clean (pos f) (int_is f h)) (joined (word (codes ",j:") refl) (joined (number_clean (pos j) (int_is j k)) (word (codes "}") refl))))) (omega arith);
}

pub shared_plain : (j : ℕ) → j < 2147483648 → NamePlain (shared_piece j)
shared_plain j k = body_plain 100000 j (omega arith) k

-- one that ends a job
pub end_plain : (w : ℕ) → w < 2147483648 → NamePlain (end_piece w)
unfolding is_key
end_plain w k = record {
  shaped = and_both _ _ (and_both _ _ (int_is w k) refl) refl;
  kinds = refl;
  deep = omega arith;
  text = wide (joined (word (codes "{e:") refl) (joined (number_clean (pos 1) refl) (joined (word (codes ",i:") refl) (joined (number_clean (pos 100002) refl) (joined (word (codes ",j:") refl) (joined (number_clean (pos w) (int_is w k)) (word (codes "}") refl))))))) (omega arith);
}

pub name_fits : (i : PieceId) → NamePlain i → tree_fits (id_tree i) ≡ true
name_fits i p = (plain_fits 3 2 60 (id_tree i) p (omega arith) (omega arith)).0

pub body_fits : (f j : ℕ) → f < 2147483648 → j < 2147483648 → tree_fits (id_tree (body_piece f j)) ≡ true
body_fits f j h k = name_fits (body_piece f j) (body_plain f j h k)

pub shared_fits : (j : ℕ) → j < 2147483648 → tree_fits (id_tree (shared_piece j)) ≡ true
shared_fits j k = name_fits (shared_piece j) (shared_plain j k)

-- ---- paths

pub next_fits : site_fits (at_key in_rest key_next) ≡ true
unfolding is_path is_key
next_fits = refl

follows_site : site_fits (at_key in_rest key_follows) ≡ true
unfolding is_path is_key
follows_site = refl

arg_fits : (k : ℕ) → k < 2147483648 → site_fits (arg_at k) ≡ true
unfolding is_path is_key
arg_fits k h = and_both _ _ (and_both _ _ (int_is k h) refl) refl

-- ---- acts

pub copy_sound : (i j : ℕ) → i < 2147483648 → j < 2147483648 → SoundAct (copy_place i j)
copy_sound i j h k = record { fits = and_both _ _ (place_is i h) (place_is j k); avoids = refl }

pub set_sound : (i : ℕ) (z : ℤ) → i < 2147483648 → is_int z ≡ true → SoundAct (set_place i z)
set_sound i z h k = record { fits = and_both _ _ (place_is i h) k; avoids = refl }

pub next_sound : (t : Tree) → tree_fits t ≡ true → SoundAct (set_site (at_key in_rest key_next) t)
next_sound t h = record { fits = and_both _ _ next_fits h; avoids = refl }

pub follows_sound : (t : Tree) → tree_fits t ≡ true → SoundAct (set_site (at_key in_rest key_follows) t)
follows_sound t h = record { fits = and_both _ _ follows_site h; avoids = refl }

pub to_next_sound : SoundAct (copy_site (at_key in_rest key_next) (at_key in_rest key_follows))
to_next_sound = record { fits = and_both _ _ next_fits follows_site; avoids = refl }

pub list_sound : (n : ℕ) → n ≤ 30000 → SoundAct (make_list (replicate n (pos 0)))
list_sound n h = record { fits = zeros_fit n h; avoids = refl }

-- a number in a place
pub set_weighs : (i : ℕ) (z : ℤ) → step_weight (run_act (set_place i z)) ≡ 1
set_weighs i z = go (home i)
  where
    go : (q : Home) → cmd_weight (said_command (set_home [] q z)) ≡ 1
    go (in_score k) = refl
    go (in_list k) = refl

pub zero_sound : (n i : ℕ) → i + n ≤ 2147483648 → SoundActs (zero_acts i n)
zero_sound zero i h = tt
zero_sound (suc n) i h = (set_sound i (pos 0) (omega arith) refl, zero_sound n (suc i) (omega arith))

pub zero_length : (n i : ℕ) → length (zero_acts i n) ≡ n
zero_length zero i = refl
zero_length (suc n) i = let e : length (zero_acts (suc i) n) ≡ n = zero_length n (suc i) in let r : suc (length (zero_acts (suc i) n)) ≡ suc n = omega arith in r

pub take_sound : (n i : ℕ) → i + n ≤ 2147483648 → SoundActs (take_args i n)
take_sound zero i h = tt
take_sound (suc n) i h = (record { fits = and_both _ _ (place_is i (omega arith)) (arg_fits i (omega arith)); avoids = refl }, take_sound n (suc i) (omega arith))

pub take_length : (n i : ℕ) → length (take_args i n) ≡ n
take_length zero i = refl
take_length (suc n) i = let e : length (take_args (suc i) n) ≡ n = take_length n (suc i) in let r : suc (length (take_args (suc i) n)) ≡ suc n = omega arith in r
