-- What looking numbers up leaves alone: all but the scratch scores and the scratch keys of routines.
use Rattle.std.proofs.Common.{◌≡◌, Some, false, true, refl, ap, ◌∙◌}
use Rattle.std.specs.Prelude.{ℤ, ◌&&◌, if◌then◌else◌}
use Rattle.std.specs.Str.{bytes_eq}
use Rattle.std.proofs.lemmas.Bool.{or_parts}
use Rattle.mc_nbt.specs.Tree.{Tree}
use Rattle.mc_cmd.specs.Form.{Text}
use Rattle.cc_line.specs.Sight.{Store, in_io, in_memory, in_rest, same_store}
use Rattle.cc_line.specs.Key.{key_table, key_choice, is_work, is_work_key}
use Rattle.cc_line.specs.State.{State, with_score}
use Rattle.cc_line.proofs.CoreLemmas.{work_apart}
use Rattle.cc_line.proofs.KeyLemmas.{Written}
use Rattle.cc_table.specs.Law.{Nearby}

pub near_none : (s : State) → Nearby s s
near_none s = record { places = refl; keys = λ r k e. refl; scores = λ h e. refl }

pub near_then : (s t u : State) → Nearby s t → Nearby t u → Nearby s u
near_then s t u n m = record {
  places = m.places ∙ n.places;
  keys = λ r k e. m.keys r k e ∙ n.keys r k e;
  scores = λ h e. m.scores h e ∙ n.scores h e;
}

-- a scratch score is written
pub near_score : (s : State) (h : Text) (z : ℤ) → is_work h ≡ true → Nearby s (with_score s h z)
near_score s h z k = record {
  places = refl;
  keys = λ r n e. refl;
  scores = λ g e. ap (λ b. if b then Some z else s.scores g) (work_apart h g k e);
}

-- a scratch key is written
not_table : (r : Store) (k : Text) → is_work_key r k ≡ false → same_store in_rest r && bytes_eq key_table k ≡ false
not_table in_io k e = refl
not_table in_memory k e = refl
not_table in_rest k e = (or_parts (bytes_eq key_table k) (bytes_eq key_choice k) e).0

not_choice : (r : Store) (k : Text) → is_work_key r k ≡ false → same_store in_rest r && bytes_eq key_choice k ≡ false
not_choice in_io k e = refl
not_choice in_memory k e = refl
not_choice in_rest k e = (or_parts (bytes_eq key_table k) (bytes_eq key_choice k) e).1

pub near_table : (u : Tree) (s t : State) → Written in_rest key_table u s t → Nearby s t
near_table u s t w = record {
  places = w.places;
  keys = λ r k e. w.others r k (not_table r k e);
  scores = λ h e. ap (λ f. f h) w.scores;
}

pub near_choice : (u : Tree) (s t : State) → Written in_rest key_choice u s t → Nearby s t
near_choice u s t w = record {
  places = w.places;
  keys = λ r k e. w.others r k (not_choice r k e);
  scores = λ h e. ap (λ f. f h) w.scores;
}
