-- What stands is kept by whatever leaves its scores and keys as they were; and its constants are read from it.
use Rattle.std.proofs.Common.{◌≡◌, ℕ, List, [], ◌∷◌, Bool, true, false, refl, ap, ◌∙◌}
use Rattle.std.specs.Prelude.{ℤ, pos, negsuc}
use Rattle.std.specs.List.{AllByRecursion}
use Rattle.std.specs.Str.{bytes_eq}
use Rattle.mc_cmd.specs.Form.{Text}
use Rattle.cc_line.specs.Sight.{Store, in_rest}
use Rattle.cc_line.specs.Place.{is_scratch}
use Rattle.cc_line.specs.Key.{is_work, is_work_key, score_trap, score_window, score_two, score_thirty_two, score_half_word, score_least}
use Rattle.cc_line.specs.Key.{key_low, key_high, key_and, key_raised, key_left, key_right_signed, key_right, key_turn_left, key_turn_right}
use Rattle.cc_line.specs.Core.{Replaced}
use Rattle.cc_line.specs.Standing.{Standing}
use Rattle.cc_line.specs.State.{State, with_score}
use Rattle.cc_line.proofs.SettleLemmas.{score_kept}

-- its scores, and its keys
abbrev pub standing_scores : List Text
standing_scores = score_two ∷ (score_thirty_two ∷ (score_half_word ∷ (score_least ∷ [])))

abbrev pub standing_keys : List Text
standing_keys =
    key_low
    ∷ (key_high
    ∷ (key_and ∷ (key_raised ∷ (key_left ∷ (key_right_signed ∷ (key_right ∷ (key_turn_left ∷ (key_turn_right ∷ []))))))))

abbrev pub SameScores : State → State → Type 0
SameScores s t = AllByRecursion (λ h. t.scores h ≡ s.scores h) standing_scores

abbrev pub SameKeys : State → State → Type 0
SameKeys s t = AllByRecursion (λ k. t.keys in_rest k ≡ s.keys in_rest k) standing_keys

-- fewer tables are needed
pub standing_less : {bytes : Bool} (fewer : Bool) (s : State) → (fewer ≡ true → bytes ≡ true) → Standing bytes s → Standing fewer s
standing_less fewer s f p = record {
  two = p.two;
  thirty_two = p.thirty_two;
  half_word = p.half_word;
  least = p.least;
  low = λ e. p.low (f e);
  high = λ e. p.high (f e);
  ands = λ e. p.ands (f e);
  raised = λ e. p.raised (f e);
  left = p.left;
  right_signed = p.right_signed;
  right = p.right;
  turn_left = p.turn_left;
  turn_right = p.turn_right;
}

pub standing_kept : {bytes : Bool} (s t : State) → SameScores s t → SameKeys s t → Standing bytes s → Standing bytes t
standing_kept s t h k p = record {
  two = h.0 ∙ p.two;
  thirty_two = h.1.0 ∙ p.thirty_two;
  half_word = h.1.1.0 ∙ p.half_word;
  least = h.1.1.1.0 ∙ p.least;
  low = λ e. k.0 ∙ p.low e;
  high = λ e. k.1.0 ∙ p.high e;
  ands = λ e. k.1.1.0 ∙ p.ands e;
  raised = λ e. k.1.1.1.0 ∙ p.raised e;
  left = k.1.1.1.1.0 ∙ p.left;
  right_signed = k.1.1.1.1.1.0 ∙ p.right_signed;
  right = k.1.1.1.1.1.1.0 ∙ p.right;
  turn_left = k.1.1.1.1.1.1.1.0 ∙ p.turn_left;
  turn_right = k.1.1.1.1.1.1.1.1.0 ∙ p.turn_right;
}

-- where the scores that are no places, no routine's, not the trap and not the window stay
pub scores_same : (s t : State) → ((h : Text) → is_scratch h ≡ true → is_work h ≡ false → bytes_eq score_trap h ≡ false → bytes_eq score_window h ≡ false → t.scores h ≡ s.scores h) → SameScores s t
scores_same s t f = (f score_two refl refl refl refl, (f score_thirty_two refl refl refl refl, (f score_half_word refl refl refl refl, (f score_least refl refl refl refl, tt))))

pub keys_stay : (s : State) → SameKeys s s
keys_stay s = (refl, (refl, (refl, (refl, (refl, (refl, (refl, (refl, (refl, tt)))))))))

pub keys_then : (s t u : State) → SameKeys s t → SameKeys t u → SameKeys s u
keys_then s t u f g =
    (g.0 ∙ f.0, (g.1.0 ∙ f.1.0, (g.1.1.0 ∙ f.1.1.0, (g.1.1.1.0 ∙ f.1.1.1.0, (g.1.1.1.1.0 ∙ f.1.1.1.1.0, (g.1.1.1.1.1.0 ∙ f.1.1.1.1.1.0, (g.1.1.1.1.1.1.0 ∙ f.1.1.1.1.1.1.0, (g.1.1.1.1.1.1.1.0 ∙ f.1.1.1.1.1.1.1.0, (g.1.1.1.1.1.1.1.1.0 ∙ f.1.1.1.1.1.1.1.1.0, tt)))))))))

-- none of its keys is among those that may be written
abbrev pub KeysFree : (Text → Bool) → Type 0
KeysFree written = AllByRecursion (λ k. written k ≡ false) standing_keys

-- where all other keys stay
pub keys_same : (s t : State) (written : Text → Bool) → KeysFree written → ((k : Text) → written k ≡ false → t.keys in_rest k ≡ s.keys in_rest k) → SameKeys s t
keys_same s t written f g =
    (g key_low f.0, (g key_high f.1.0, (g key_and f.1.1.0, (g key_raised f.1.1.1.0, (g key_left f.1.1.1.1.0, (g key_right_signed f.1.1.1.1.1.0, (g key_right f.1.1.1.1.1.1.0, (g key_turn_left f.1.1.1.1.1.1.1.0, (g key_turn_right f.1.1.1.1.1.1.1.1.0, tt)))))))))

-- where a routine leaves all but scratch as it was
pub standing_beside : {bytes : Bool} (s t : State) → ((h : Text) → is_work h ≡ false → t.scores h ≡ s.scores h) → ((r : Store) (k : Text) → is_work_key r k ≡ false → t.keys r k ≡ s.keys r k) → Standing bytes s → Standing bytes t
standing_beside s t f g p =
    standing_kept s t
    (f score_two refl, (f score_thirty_two refl, (f score_half_word refl, (f score_least refl, tt))))
    (g in_rest key_low refl, (g in_rest key_high refl, (g in_rest key_and refl, (g in_rest key_raised refl, (g in_rest key_left refl, (g in_rest key_right_signed refl, (g in_rest key_right refl, (g in_rest key_turn_left refl, (g in_rest key_turn_right refl, tt)))))))))
    p

-- and where numbers go to places
pub standing_replaced : {bytes : Bool} (s t : State) (i : ℕ) (zs : List ℤ) → Replaced s t i zs → Standing bytes s → Standing bytes t
standing_replaced s t i zs r p =
    standing_kept s t
    (r.scores score_two refl refl, (r.scores score_thirty_two refl refl, (r.scores score_half_word refl refl, (r.scores score_least refl refl, tt))))
    (r.keys in_rest key_low refl, (r.keys in_rest key_high refl, (r.keys in_rest key_and refl, (r.keys in_rest key_raised refl, (r.keys in_rest key_left refl, (r.keys in_rest key_right_signed refl, (r.keys in_rest key_right refl, (r.keys in_rest key_turn_left refl, (r.keys in_rest key_turn_right refl, tt)))))))))
    p

-- the state with the constants set to what they are
abbrev pub with_constants : State → State
with_constants s =
    with_score (with_score (with_score (with_score s score_two (pos 2)) score_thirty_two (pos 32)) score_half_word (pos 65536)) score_least (negsuc 2147483647)

pub constants_set : {bytes : Bool} (s : State) → Standing bytes s → with_constants s ≡ s
constants_set s p =
    ap (λ u. with_score (with_score (with_score u score_thirty_two (pos 32)) score_half_word (pos 65536)) score_least (negsuc 2147483647)) (score_kept s score_two (pos 2) p.two)
    ∙ ap (λ u. with_score (with_score u score_half_word (pos 65536)) score_least (negsuc 2147483647)) (score_kept s score_thirty_two (pos 32) p.thirty_two)
    ∙ ap (λ u. with_score u score_least (negsuc 2147483647)) (score_kept s score_half_word (pos 65536) p.half_word)
    ∙ score_kept s score_least (negsuc 2147483647) p.least
