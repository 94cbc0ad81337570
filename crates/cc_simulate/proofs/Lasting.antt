-- Constants and tables that stand go on standing: nothing that a piece of a body does writes them.
use Rattle.std.proofs.Common.{◌≡◌, Bool, false, refl, ap}
use Rattle.mc_cmd.specs.Form.{Text}
use Rattle.cc_line.specs.Sight.{Store, in_rest}
use Rattle.cc_line.specs.Key.{is_work}
use Rattle.cc_line.specs.Key.{key_low, key_high, key_and, key_raised, key_left, key_right_signed, key_right, key_turn_left, key_turn_right}
use Rattle.cc_line.specs.Standing.{Standing}
use Rattle.cc_line.specs.State.{State}
use Rattle.cc_line.proofs.StandingLemmas.{standing_kept, scores_same, keys_same}
use Rattle.cc_call.specs.Law.{SameKeys, is_call_key, is_making_key}
use Rattle.cc_mem.specs.Law.{Spares, is_access_key}
use Rattle.cc_bulk.specs.GrowLaw.{is_grower_key}
use Rattle.cc_simulate.specs.Stands.{is_written, ChangesFrameAlone, ChangesStoreAlone}

-- nothing is written
pub lasts_equal : {bytes : Bool} (s t : State) → t.keys ≡ s.keys → t.scores ≡ s.scores → Standing bytes s → Standing bytes t
lasts_equal s t k h p =
    standing_kept s t (scores_same s t (λ g a b c d. ap (λ m. m g) h))
    (keys_same s t (λ g. false) (refl, (refl, (refl, (refl, (refl, (refl, (refl, (refl, (refl, tt))))))))) (λ g e. ap (λ m. m in_rest g) k)) p

-- scratch, and the keys of calls
pub lasts_calls : {bytes : Bool} (s t : State) → SameKeys s t → ((h : Text) → is_work h ≡ false → t.scores h ≡ s.scores h) → Standing bytes s → Standing bytes t
lasts_calls s t k h p =
    standing_kept s t (scores_same s t (λ g a b c d. h g b))
    (keys_same s t (is_call_key in_rest) (refl, (refl, (refl, (refl, (refl, (refl, (refl, (refl, (refl, tt))))))))) (λ g e. k in_rest g e)) p

-- the keys of a frame that is made
pub lasts_made : {bytes : Bool} (s t : State) → ((r : Store) (k : Text) → is_making_key r k ≡ false → t.keys r k ≡ s.keys r k) → t.scores ≡ s.scores → Standing bytes s → Standing bytes t
lasts_made s t k h p =
    standing_kept s t (scores_same s t (λ g a b c d. ap (λ m. m g) h))
    (keys_same s t (is_making_key in_rest) (refl, (refl, (refl, (refl, (refl, (refl, (refl, (refl, (refl, tt))))))))) (λ g e. k in_rest g e)) p

-- the memory and its window
pub lasts_access : {bytes : Bool} (s t : State) → Spares s t → Standing bytes s → Standing bytes t
lasts_access s t f p =
    standing_kept s t (scores_same s t f.scores)
    (keys_same s t (is_access_key in_rest) (refl, (refl, (refl, (refl, (refl, (refl, (refl, (refl, (refl, tt))))))))) (λ g e. f.keys in_rest g e)) p

-- what appends pages
pub lasts_grown : {bytes : Bool} (s t : State) → ((r : Store) (k : Text) → is_grower_key r k ≡ false → t.keys r k ≡ s.keys r k) → ((h : Text) → is_work h ≡ false → t.scores h ≡ s.scores h) → Standing bytes s → Standing bytes t
lasts_grown s t k h p =
    standing_kept s t (scores_same s t (λ g a b c d. h g b))
    (keys_same s t (is_grower_key in_rest) (refl, (refl, (refl, (refl, (refl, (refl, (refl, (refl, (refl, tt))))))))) (λ g e. k in_rest g e)) p

-- what a piece of a body may write
pub lasts_frame : {bytes : Bool} (s t : State) → ChangesFrameAlone s t → Standing bytes s → Standing bytes t
lasts_frame s t f p =
    standing_kept s t (scores_same s t (λ g a b c d. f.scores g a b c))
    (keys_same s t (is_written in_rest) (refl, (refl, (refl, (refl, (refl, (refl, (refl, (refl, (refl, tt))))))))) (λ g e. f.keys in_rest g e)) p

-- the same of what may change the memory and the globals
pub lasts_store : {bytes : Bool} (s t : State) → ChangesStoreAlone s t → Standing bytes s → Standing bytes t
lasts_store s t f p =
    standing_kept s t (scores_same s t f.scores)
    (f.keys in_rest key_low refl refl, (f.keys in_rest key_high refl refl, (f.keys in_rest key_and refl refl, (f.keys in_rest key_raised refl refl, (f.keys in_rest key_left refl refl, (f.keys in_rest key_right_signed refl refl, (f.keys in_rest key_right refl refl, (f.keys in_rest key_turn_left refl refl, (f.keys in_rest key_turn_right refl refl, tt)))))))))
    p
