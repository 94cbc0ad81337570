-- Items of a piece of a body, which lead on and may change what a state has of the store.
use Rattle.std.proofs.Common.{◌≡◌, ◌<◌, ℕ, List, length, true, false, refl, sym, ap, ◌∙◌, subst, codes}
use Rattle.mc_nbt.specs.Tree.{Tree}
use Rattle.mc_cmd.specs.Form.{Text}
use Rattle.cc_line.specs.Sight.{Store, in_io, in_memory, in_rest, with_key}
use Rattle.cc_line.specs.State.{State}
use Rattle.cc_line.specs.Step.{Act, Cond, Flow, flow, conds_hold}
use Rattle.cc_line.specs.Core.{fetch}
use Rattle.cc_line.specs.Item.{Items, no_more, join, run_items, steps_items, ItemsReady}
use Rattle.cc_line.proofs.RunLemmas.{items_then, halts_before}
use Rattle.cc_call.proofs.ActLemmas.{acts_run}
use Rattle.cc_body.specs.Emit.{exit_then, steps_then}
use Rattle.cc_simulate.specs.Stands.{is_stored, ChangesFrameAlone, ChangesStoreAlone}
use Rattle.cc_simulate.specs.Law.{Enters}
use Rattle.cc_simulate.proofs.Acts.{acts_then, after_acts, ActsReady, Passes, Tested, Tests, exit_goes}

-- ---- what is spared

pub keeps_spares : (s t : State) → ChangesFrameAlone s t → ChangesStoreAlone s t
keeps_spares s t f = record { keys = λ r k w p. f.keys r k w; scores = λ h a b c d. f.scores h a b c }

pub spares_both : (s t u : State) → ChangesStoreAlone s t → ChangesStoreAlone t u → ChangesStoreAlone s u
spares_both s t u f g = record { keys = λ r k w p. g.keys r k w p ∙ f.keys r k w p; scores = λ h a b c d. g.scores h a b c d ∙ f.scores h a b c d }

other_keys : (s : State) (n : Text) (t : Tree) (r : Store) (k : Text) → is_stored r k ≡ false → with_key s.keys in_memory n t r k ≡ s.keys r k
other_keys s n t in_memory k p = absurd (let y : true ≡ false = p in cc)
other_keys s n t in_io k p = refl
other_keys s n t in_rest k p = refl

-- a key of the public storage
pub spares_public : (s : State) (n : Text) (t : Tree) → ChangesStoreAlone s (record s { keys = with_key s.keys in_memory n t })
spares_public s n t = record { keys = λ r k w p. other_keys s n t r k p; scores = λ h a b c d. refl }

-- ---- items

-- items that find what they need, and lead to a state of which this holds
pub record Proceeds (xs : Items) (s : State) (P : State → Type 0) : Type 0 where
  pub ready : ItemsReady xs s
  pub there : P (run_items xs s).state
  pub spares : ChangesStoreAlone s (run_items xs s).state

-- items that lead on, and those that end their list, where they may change what a state has of the store
pub record Crosses (xs : Items) (s t : State) : Type 0 where
  pub ready : ItemsReady xs s
  pub used : ℕ
  pub ends : run_items xs s ≡ flow false t used
  pub spares : ChangesStoreAlone s t

pub record Breaks (xs : Items) (s t : State) : Type 0 where
  pub ready : ItemsReady xs s
  pub used : ℕ
  pub ends : run_items xs s ≡ flow true t used
  pub spares : ChangesStoreAlone s t

pub enters_proceed : (P Q : State → Type 0) (xs : Items) (s : State) → ((t : State) → ChangesFrameAlone s t → P t → Q t) → Enters xs s P → Proceeds xs s Q
enters_proceed P Q xs s f e = record { ready = e.ready; there = f _ e.keeps e.there; spares = keeps_spares s _ e.keeps }

pub proceeds_as : (P Q : State → Type 0) (xs : Items) (s : State) → ((t : State) → P t → Q t) → Proceeds xs s P → Proceeds xs s Q
proceeds_as P Q xs s f e = record { ready = e.ready; there = f _ e.there; spares = e.spares }

module _ (P : State → Type 0) where
  pub proceeds_at : (xs : Items) (s t : State) → ItemsReady xs s → (run_items xs s).state ≡ t → P t → ChangesStoreAlone s t → Proceeds xs s P
  proceeds_at xs s t r e p k = record { ready = r; there = subst P (sym e) p; spares = subst (ChangesStoreAlone s) (sym e) k }

  -- where none are left
  pub end_proceeds : (s : State) → P s → Proceeds no_more s P
  end_proceeds s p = record { ready = tt; there = p; spares = record { keys = λ r k w q. refl; scores = λ h a b c d. refl } }

  -- behind items that lead on, behind those that end their list, and behind acts
  pub crosses_proceed : (xs ys : Items) (s t : State) → Crosses xs s t → Proceeds ys t P → Proceeds (join xs ys) s P
  crosses_proceed xs ys s t f g =
      let n = items_then xs ys s t f.used f.ends f.ready g.ready in
      proceeds_at (join xs ys) s (run_items ys t).state n.0 (ap (λ (q : Flow). q.state) n.1) g.there (spares_both s t (run_items ys t).state f.spares g.spares)

  pub breaks_proceed : (xs ys : Items) (s t : State) → Breaks xs s t → P t → Proceeds (join xs ys) s P
  breaks_proceed xs ys s t f p =
      let n = halts_before xs ys s t (record { ready = f.ready; used = f.used; ends = f.ends }) in
      proceeds_at (join xs ys) s t n.ready (ap (λ (q : Flow). q.state) n.ends) p f.spares

  pub passes_proceed : (xs ys : Items) (s t : State) → Passes xs s t → Proceeds ys t P → Proceeds (join xs ys) s P
  passes_proceed xs ys s t f g = crosses_proceed xs ys s t (record { ready = f.ready; used = f.used; ends = f.ends; spares = keeps_spares s t f.keeps }) g

  pub acts_proceed : (acts : List Act) (rest : Items) (s : State) → ActsReady acts s → ChangesStoreAlone s (after_acts acts s) → Proceeds rest (after_acts acts s) P → Proceeds (acts_then acts rest) s P
  acts_proceed acts rest s r k f =
      let n = acts_run acts rest s r f.ready in
      proceeds_at (acts_then acts rest) s (run_items rest (after_acts acts s)).state n.0 n.1 f.there (spares_both s (after_acts acts s) (run_items rest (after_acts acts s)).state k f.spares)

  -- behind a place that is fetched, and where a way out is passed
  pub fetch_proceeds : (i : ℕ) (rest : Items) (s t : State) → Tested i s t → Proceeds rest t P → Proceeds (steps_then (fetch i (codes "#a")) rest) s P
  fetch_proceeds i rest s t f g = passes_proceed (steps_items (fetch i (codes "#a"))) rest s t f.passes g

  pub passed_proceeds : (i : ℕ) (cs : List Cond) (acts : List Act) (rest : Items) (s : State) → Tests i cs → i < length s.places → conds_hold cs s ≡ false → Proceeds rest s P → Proceeds (exit_then cs acts rest) s P
  passed_proceeds i cs acts rest s t l e f =
      let n = exit_goes i cs acts rest s t l e f.ready in
      proceeds_at (exit_then cs acts rest) s (run_items rest s).state n.0 n.1 f.there f.spares
