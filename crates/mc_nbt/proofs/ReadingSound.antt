-- What the reader answers is right, whatever the text.
use Rattle.std.proofs.Common.{◌≡◌, ℕ, suc, ◌+◌, ◌<◌, ◌≤◌, max, List, [], ◌∷◌, ◌++◌, length, take, true, Option, Some, None, refl, sym, ap, ◌∙◌, append_assoc, append-nil, arith, subst}
use Rattle.std.specs.Prelude.{pos, negsuc, option_and_then}
use Rattle.mc_nbt.specs.Tree.{Tree, int, depth}
use Rattle.mc_nbt.specs.Shape.{is_shaped}
use Rattle.mc_nbt.specs.Spelling.{tree_text, Spells}
use Rattle.mc_nbt.specs.steps.Reading.{State, start, minus, digits, negative, quoted, behind, keyed, step, ended, level, answer_at, read_on, read_from, read_text, run}
use Rattle.mc_nbt.specs.Beginning.{Answer, spelled, broken, IsAnswered, Begins, Reaches}
use Rattle.mc_nbt.proofs.TestLemmas.{some_same}
use Rattle.mc_nbt.proofs.ReadingComplete.{reads_spelling}
use Rattle.mc_nbt.proofs.ReadingStates.{text_of, good, step_adds, state_begins}

run_good : (t : List ℕ) (s u : State) → good s ≡ true → run s t ≡ Some u → (text_of u ≡ text_of s ++ t) × (good u ≡ true)
run_good [] s u g e =
    let same : s ≡ u = some_same s u e in
    (ap text_of (sym same) ∙ sym (append-nil (text_of s)), ap good (sym same) ∙ g)
run_good (c ∷ t) s u g e = go (step s c) refl e (λ r. run_good t r u)
  where
    go : (o : Option State) → step s c ≡ o → option_and_then (λ r. run r t) o ≡ Some u → ((r : State) → good r ≡ true → run r t ≡ Some u → (text_of u ≡ text_of r ++ t) × (good u ≡ true)) → (text_of u ≡ text_of s ++ (c ∷ t)) × (good u ≡ true)
    go None f h ih = absurd cc
    go (Some r) f h ih =
        let one = step_adds s c r g f in
        let more = ih r one.1 h in
        (more.0 ∙ ap (λ w. w ++ t) one.0 ∙ append_assoc (text_of s) (c ∷ []) t, more.1)

-- a tree that is answered ends the last state
pub spelled_ran : (t : List ℕ) (s : State) (n d : ℕ) (u : Tree) (e : ℕ) → read_from s n d t ≡ spelled u e → (r : State) × (run s t ≡ Some r) × (ended r ≡ Some u)
spelled_ran [] s n d u e h = go (ended s) refl h
  where
    go : (o : Option Tree) → ended s ≡ o → answer_at o n d ≡ spelled u e → (r : State) × (run s [] ≡ Some r) × (ended r ≡ Some u)
    go None f g = absurd cc
    go (Some v) f g = let same : v ≡ u = cc in (s, refl, f ∙ ap Some same)
spelled_ran (c ∷ t) s n d u e h = go (step s c) refl h (λ r. spelled_ran t r (suc n) (max d (level r)) u e)
  where
    go : (o : Option State) → step s c ≡ o → read_on o n (λ r. read_from r (suc n) (max d (level r)) t) ≡ spelled u e
        → ((r : State) → read_from r (suc n) (max d (level r)) t ≡ spelled u e → (q : State) × (run r t ≡ Some q) × (ended q ≡ Some u))
        → (q : State) × (option_and_then (λ r. run r t) (step s c) ≡ Some q) × (ended q ≡ Some u)
    go None f g ih = absurd cc
    go (Some r) f g ih = let q = ih r g in (q.0, ap (option_and_then (λ v. run v t)) f ∙ q.1, q.2)

-- how far the reader comes from a state: so many bytes, and the next one is refused, if there is one
record Stops (s : State) (t : List ℕ) (n m : ℕ) : Type 0 where
  taken : ℕ
  at : m ≡ n + taken
  within : taken ≤ length t
  last : State
  ran : run s (take taken t) ≡ Some last
  refused : taken < length t → run s (take (suc taken) t) ≡ None

broken_stops : (t : List ℕ) (s : State) (n d m : ℕ) → read_from s n d t ≡ broken m → Stops s t n m
broken_stops [] s n d m h = go (ended s) h
  where
    go : (o : Option Tree) → answer_at o n d ≡ broken m → Stops s [] n m
    go None g = let same : n ≡ m = cc in record { taken = 0; at = omega (arith, same); within = omega arith; last = s; ran = refl; refused = λ l. absurd (omega (arith, l)) }
    go (Some v) g = absurd cc
broken_stops (c ∷ t) s n d m h = go (step s c) refl h (λ r. broken_stops t r (suc n) (max d (level r)) m)
  where
    go : (o : Option State) → step s c ≡ o → read_on o n (λ r. read_from r (suc n) (max d (level r)) t) ≡ broken m
        → ((r : State) → read_from r (suc n) (max d (level r)) t ≡ broken m → Stops r t (suc n) m) → Stops s (c ∷ t) n m
    go None f g ih =
        let same : n ≡ m = cc in
        record { taken = 0; at = omega (arith, same); within = omega arith; last = s; ran = refl; refused = λ l. ap (option_and_then (λ r. run r [])) f }
    go (Some r) f g ih =
        let q = ih r g in
        record {
          taken = suc q.taken;
          at = omega (arith, q.at);
          within = omega (arith, q.within);
          last = q.last;
          ran = ap (option_and_then (λ v. run v (take q.taken t))) f ∙ q.ran;
          refused = λ l. ap (option_and_then (λ v. run v (take (suc q.taken) t))) f ∙ q.refused (omega (arith, l));
        }

-- a text with a byte that is refused is broken, whatever follows
refused_broken : (p q : List ℕ) (s : State) (n d : ℕ) → run s p ≡ None → (m : ℕ) × (read_from s n d (p ++ q) ≡ broken m)
refused_broken [] q s n d h = absurd cc
refused_broken (c ∷ p) q s n d h = go (step s c) refl h (λ r. refused_broken p q r (suc n) (max d (level r)))
  where
    go : (o : Option State) → step s c ≡ o → option_and_then (λ r. run r p) o ≡ None
        → ((r : State) → run r p ≡ None → (m : ℕ) × (read_from r (suc n) (max d (level r)) (p ++ q) ≡ broken m))
        → (m : ℕ) × (read_on (step s c) n (λ r. read_from r (suc n) (max d (level r)) (p ++ q)) ≡ broken m)
    go None f g ih = (n, ap (λ o. read_on o n (λ r. read_from r (suc n) (max d (level r)) (p ++ q))) f)
    go (Some r) f g ih = let b = ih r g in (b.0, ap (λ o. read_on o n (λ v. read_from v (suc n) (max d (level v)) (p ++ q))) f ∙ b.1)

-- no byte of a beginning of a spelling is refused
begins_runs : (p : List ℕ) → Begins p → run (start []) p ≡ None → ⊥
begins_runs p b h =
    let q = refused_broken p b.rest (start []) 0 0 h in
    let e : read_text (p ++ b.rest) ≡ spelled b.tree (depth b.tree) = ap read_text b.spells.spelled ∙ reads_spelling b.tree b.spells.shaped in
    let f : read_text (p ++ b.rest) ≡ broken q.0 = q.1 in
    cc

ended_spells : (s : State) (u : Tree) → good s ≡ true → ended s ≡ Some u → Spells (text_of s) u
ended_spells (start fs) u g e = absurd cc
ended_spells (minus fs) u g e = absurd cc
ended_spells (quoted fs s) u g e = absurd cc
ended_spells (keyed fs es k) u g e = absurd cc
ended_spells (digits [] m) u g e = let same : int (pos m) ≡ u = some_same _ u e in record { shaped = ap is_shaped (sym same) ∙ g; spelled = ap tree_text same }
ended_spells (digits (f ∷ fs) m) u g e = absurd cc
ended_spells (negative [] k) u g e = let same : int (negsuc k) ≡ u = some_same _ u e in record { shaped = ap is_shaped (sym same) ∙ g; spelled = ap tree_text same }
ended_spells (negative (f ∷ fs) k) u g e = absurd cc
ended_spells (behind [] t) u g e = let same : t ≡ u = some_same t u e in record { shaped = ap is_shaped (sym same) ∙ g; spelled = ap tree_text same }
ended_spells (behind (f ∷ fs) t) u g e = absurd cc

-- a tree that is answered is spelled
answered_spells : (t : List ℕ) (u : Tree) (d : ℕ) → read_text t ≡ spelled u d → Spells t u
answered_spells t u d h =
    let r = spelled_ran t (start []) 0 0 u d h in
    let k = run_good t (start []) r.0 refl r.1 in
    subst (λ w. Spells w u) k.0 (ended_spells r.0 u k.1 r.2)

-- where the reader stops, the beginnings of spellings end
broken_reaches : (t : List ℕ) (n : ℕ) → read_text t ≡ broken n → Reaches t n
broken_reaches t n h =
    let b = broken_stops t (start []) 0 0 n h in
    let same : b.taken ≡ n = omega (arith, b.at) in
    let k = run_good (take b.taken t) (start []) b.last refl b.ran in
    subst (Reaches t) same record {
      within = b.within;
      begins = subst Begins k.0 (state_begins b.last k.1);
      no_longer = λ l c. begins_runs (take (suc b.taken) t) c (b.refused l);
    }

-- what the reader answers is right, whatever the text
pub answers : (t : List ℕ) → IsAnswered t (read_text t)
answers t = go (read_text t) refl
  where
    go : (a : Answer) → read_text t ≡ a → IsAnswered t a
    go (spelled u d) e =
        let s = answered_spells t u d e in
        let f : read_text t ≡ spelled u (depth u) = ap read_text s.spelled ∙ reads_spelling u s.shaped in
        let same : spelled u d ≡ spelled u (depth u) = sym e ∙ f in
        (s, cc)
    go (broken n) e = (
      broken_reaches t n e,
      λ u s. let f : read_text t ≡ spelled u (depth u) = ap read_text s.spelled ∙ reads_spelling u s.shaped in cc,
    )
