-- The acts that the loops of calls and returns add.
use Rattle.std.proofs.Common.{◌≡◌, ℕ, ◌+◌, ◌-◌, ◌<◌, ◌≤◌, List, [], ◌∷◌, ◌++◌, refl, arith}
use Rattle.std.specs.Prelude.{pos}
use Rattle.std.specs.Fmt.{decimal}
use Rattle.cc_line.specs.Step.{Act, set_place, copy_place, load_place, keep_place, keep_site, place_to_site, site_to_place}
use Rattle.cc_call.specs.Fetch.{last_place, fetch_acts}
use Rattle.cc_call.specs.Frames.{entry_at, last_at, save_acts, pass_acts, zero_acts, result_score, hand_acts, take_acts, load_acts, result_at, tell_acts}
use Rattle.cc_call.proofs.PushLemmas.{run_more, run_none, run_starts, pair_more, pair_none, pair_starts}

-- zeros
pub zeros_more : (n i p q : ℕ) → i < n → q ≡ p + i → zero_acts (p + i) (n - i) ≡ set_place q (pos 0) ∷ zero_acts (p + (i + 1)) (n - (i + 1))
zeros_more n i p q h e = run_more (λ k p. zero_acts p k) (λ p. set_place p (pos 0)) (λ k p. refl) (λ p. refl) n i p q h e

pub zeros_none : (n i p : ℕ) → n ≤ i → zero_acts (p + i) (n - i) ≡ []
zeros_none n i p h = run_none (λ k p. zero_acts p k) (λ p. set_place p (pos 0)) (λ k p. refl) (λ p. refl) n i p h

pub zeros_start : (xs : List Act) (n p : ℕ) → xs ++ zero_acts (p + 0) (n - 0) ≡ xs ++ zero_acts p n
zeros_start xs n p = run_starts (λ k p. zero_acts p k) (λ p. set_place p (pos 0)) (λ k p. refl) (λ p. refl) xs n p

-- places that are saved
pub saves_more : (n i : ℕ) → i < n → save_acts (0 + i) (n - i) ≡ place_to_site (entry_at (decimal i)) i ∷ save_acts (0 + (i + 1)) (n - (i + 1))
saves_more n i h = run_more (λ k p. save_acts p k) (λ p. place_to_site (entry_at (decimal p)) p) (λ k p. refl) (λ p. refl) n i 0 i h (omega arith)

pub saves_none : (n i : ℕ) → n ≤ i → save_acts (0 + i) (n - i) ≡ []
saves_none n i h = run_none (λ k p. save_acts p k) (λ p. place_to_site (entry_at (decimal p)) p) (λ k p. refl) (λ p. refl) n i 0 h

pub saves_start : (xs : List Act) (n : ℕ) → xs ++ save_acts (0 + 0) (n - 0) ≡ xs ++ save_acts 0 n
saves_start xs n = run_starts (λ k p. save_acts p k) (λ p. place_to_site (entry_at (decimal p)) p) (λ k p. refl) (λ p. refl) xs n 0

-- places that are loaded
pub loads_more : (n i : ℕ) → i < n → load_acts (0 + i) (n - i) ≡ site_to_place i (last_at (decimal i)) ∷ load_acts (0 + (i + 1)) (n - (i + 1))
loads_more n i h = run_more (λ k p. load_acts p k) (λ p. site_to_place p (last_at (decimal p))) (λ k p. refl) (λ p. refl) n i 0 i h (omega arith)

pub loads_none : (n i : ℕ) → n ≤ i → load_acts (0 + i) (n - i) ≡ []
loads_none n i h = run_none (λ k p. load_acts p k) (λ p. site_to_place p (last_at (decimal p))) (λ k p. refl) (λ p. refl) n i 0 h

pub loads_start : (xs : List Act) (n : ℕ) → xs ++ load_acts (0 + 0) (n - 0) ≡ xs ++ load_acts 0 n
loads_start xs n = run_starts (λ k p. load_acts p k) (λ p. site_to_place p (last_at (decimal p))) (λ k p. refl) (λ p. refl) xs n 0

-- arguments
pub passes_more : (z n i : ℕ) → i < n → pass_acts z (0 + i) (n - i) ≡ copy_place i (z + i) ∷ pass_acts z (0 + (i + 1)) (n - (i + 1))
passes_more z n i h = run_more (λ k p. pass_acts z p k) (λ p. copy_place p (z + p)) (λ k p. refl) (λ p. refl) n i 0 i h (omega arith)

pub passes_none : (z n i : ℕ) → n ≤ i → pass_acts z (0 + i) (n - i) ≡ []
passes_none z n i h = run_none (λ k p. pass_acts z p k) (λ p. copy_place p (z + p)) (λ k p. refl) (λ p. refl) n i 0 h

pub passes_start : (xs : List Act) (z n : ℕ) → xs ++ pass_acts z (0 + 0) (n - 0) ≡ xs ++ pass_acts z 0 n
passes_start xs z n = run_starts (λ k p. pass_acts z p k) (λ p. copy_place p (z + p)) (λ k p. refl) (λ p. refl) xs n 0

-- arguments that are fetched
pub fetches_more : (n i z p y q : ℕ) → i < n → y ≡ z + i → q ≡ p + i
    → fetch_acts (z + i) (p + i) (n - i) ≡ site_to_place q (last_place y) ∷ fetch_acts (z + (i + 1)) (p + (i + 1)) (n - (i + 1))
fetches_more n i z p y q h e f = pair_more (λ k z p. fetch_acts z p k) (λ z p. site_to_place p (last_place z)) (λ k z p. refl) (λ z p. refl) n i z p y q h e f

pub fetches_none : (n i z p : ℕ) → n ≤ i → fetch_acts (z + i) (p + i) (n - i) ≡ []
fetches_none n i z p h = pair_none (λ k z p. fetch_acts z p k) (λ z p. site_to_place p (last_place z)) (λ k z p. refl) (λ z p. refl) n i (z + i) (p + i) h

pub fetches_start : (xs : List Act) (n z p : ℕ) → xs ++ fetch_acts (z + 0) (p + 0) (n - 0) ≡ xs ++ fetch_acts z p n
fetches_start xs n z p = pair_starts (λ k z p. fetch_acts z p k) (λ z p. site_to_place p (last_place z)) (λ k z p. refl) (λ z p. refl) xs n z p

-- results that are told
pub tells_more : (n i : ℕ) → i < n → tell_acts (n - i) (0 + i) ≡ keep_site (result_at i) (result_score i) ∷ tell_acts (n - (i + 1)) (0 + (i + 1))
tells_more n i h = run_more tell_acts (λ p. keep_site (result_at p) (result_score p)) (λ k p. refl) (λ p. refl) n i 0 i h (omega arith)

pub tells_none : (n i : ℕ) → n ≤ i → tell_acts (n - i) (0 + i) ≡ []
tells_none n i h = run_none tell_acts (λ p. keep_site (result_at p) (result_score p)) (λ k p. refl) (λ p. refl) n i 0 h

pub tells_start : (xs : List Act) (n : ℕ) → xs ++ tell_acts (n - 0) (0 + 0) ≡ xs ++ tell_acts n 0
tells_start xs n = run_starts tell_acts (λ p. keep_site (result_at p) (result_score p)) (λ k p. refl) (λ p. refl) xs n 0

-- results that are handed over
pub hands_more : (n i p q : ℕ) → i < n → q ≡ p + i → hand_acts (n - i) (p + i) (0 + i) ≡ load_place (result_score i) q ∷ hand_acts (n - (i + 1)) (p + (i + 1)) (0 + (i + 1))
hands_more n i p q h e = pair_more hand_acts (λ p k. load_place (result_score k) p) (λ k p q. refl) (λ p q. refl) n i p 0 q i h e (omega arith)

pub hands_none : (n i p : ℕ) → n ≤ i → hand_acts (n - i) (p + i) (0 + i) ≡ []
hands_none n i p h = pair_none hand_acts (λ p k. load_place (result_score k) p) (λ k p q. refl) (λ p q. refl) n i (p + i) (0 + i) h

pub hands_start : (xs : List Act) (n p : ℕ) → xs ++ hand_acts (n - 0) (p + 0) (0 + 0) ≡ xs ++ hand_acts n p 0
hands_start xs n p = pair_starts hand_acts (λ p k. load_place (result_score k) p) (λ k p q. refl) (λ p q. refl) xs n p 0

-- results that are taken
pub takes_more : (n i p q : ℕ) → i < n → q ≡ p + i → take_acts (n - i) (p + i) (0 + i) ≡ keep_place q (result_score i) ∷ take_acts (n - (i + 1)) (p + (i + 1)) (0 + (i + 1))
takes_more n i p q h e = pair_more take_acts (λ p k. keep_place p (result_score k)) (λ k p q. refl) (λ p q. refl) n i p 0 q i h e (omega arith)

pub takes_none : (n i p : ℕ) → n ≤ i → take_acts (n - i) (p + i) (0 + i) ≡ []
takes_none n i p h = pair_none take_acts (λ p k. keep_place p (result_score k)) (λ k p q. refl) (λ p q. refl) n i (p + i) (0 + i) h

pub takes_start : (xs : List Act) (n p : ℕ) → xs ++ take_acts (n - 0) (p + 0) (0 + 0) ≡ xs ++ take_acts n p 0
takes_start xs n p = pair_starts take_acts (λ p k. keep_place p (result_score k)) (λ k p q. refl) (λ p q. refl) xs n p 0
