-- Items that lead on, and others behind them.
use Rattle.std.proofs.Common.{◌≡◌, ℕ, zero, suc, ◌<◌, List, [], ◌∷◌, length, Some, refl, ap, ◌∙◌, arith}
use Rattle.std.specs.Prelude.{ℤ, pos, slice_set, slice_index_or}
use Rattle.cc_line.specs.Key.{score_trap}
use Rattle.cc_line.specs.State.{State, set_places}
use Rattle.cc_line.specs.Item.{Items, no_more, join}
use Rattle.cc_line.proofs.RunLemmas.{Leads, leads_join, Halts, halts_before}
use Rattle.cc_mem.specs.Standing.{HasMemory}
use Rattle.cc_mem.specs.Law.{Does, Faults}
use Rattle.cc_mem.proofs.Near.{spares_none, spares_then}

pub does_both : (xs ys : Items) (s : State) (r q o : ℕ) (zs ws vs : List ℤ) (ps qs : List (List ℕ)) (d : Does xs s r zs ps) → Does ys d.state q ws qs
    → set_places (set_places s.places r zs) q ws ≡ set_places s.places o vs → Does (join xs ys) s o vs qs
does_both xs ys s r q o zs ws vs ps qs d e h =
    let l : Leads xs s d.state = record { ready = d.ready; used = d.used; ends = d.ends } in
    let m : Leads ys d.state e.state = record { ready = e.ready; used = e.used; ends = e.ends } in
    let j = leads_join xs ys s d.state e.state l m in
    record {
      ready = j.ready;
      state = e.state;
      used = j.used;
      ends = j.ends;
      places = e.places ∙ ap (λ us. set_places us q ws) d.places ∙ h;
      trap = e.trap;
      memory = e.memory;
      spares = spares_then s d.state e.state d.spares e.spares;
    }

pub does_nothing : (s : State) (ps : List (List ℕ)) → HasMemory ps s → s.scores score_trap ≡ Some (pos 0) → Does no_more s 0 [] ps
does_nothing s ps m e = record { ready = tt; state = s; used = 0; ends = refl; places = refl; trap = e; memory = m; spares = spares_none s }

-- with nothing behind them
pub does_alone : (xs : Items) (s : State) (r : ℕ) (zs : List ℤ) (ps : List (List ℕ)) → Does xs s r zs ps → Does (join xs no_more) s r zs ps
does_alone xs s r zs ps d = does_both xs no_more s r 0 r zs [] zs ps ps d (does_nothing d.state ps d.memory d.trap) refl

-- a trap that ends the first ones ends all
pub faults_first : (xs ys : Items) (s : State) (ps : List (List ℕ)) → Faults xs s ps → Faults (join xs ys) s ps
faults_first xs ys s ps f =
    let h : Halts xs s f.state = record { ready = f.ready; used = f.used; ends = f.ends } in
    let j = halts_before xs ys s f.state h in
    record { ready = j.ready; state = f.state; used = j.used; ends = j.ends; trap = f.trap; memory = f.memory; spares = f.spares }

-- ---- places

pub set_swapped : (zs : List ℤ) (i : ℕ) (x y : ℤ) → slice_set (slice_set zs (suc i) y) i x ≡ slice_set (slice_set zs i x) (suc i) y
set_swapped [] i x y = refl
set_swapped (z ∷ zs) zero x y = refl
set_swapped (z ∷ zs) (suc i) x y = ap (λ l. z ∷ l) (set_swapped zs i x y)

pub set_again : (zs : List ℤ) (i : ℕ) (x y : ℤ) → slice_set (slice_set zs i x) i y ≡ slice_set zs i y
set_again [] i x y = refl
set_again (z ∷ zs) zero x y = refl
set_again (z ∷ zs) (suc i) x y = ap (λ l. z ∷ l) (set_again zs i x y)

pub get_below : (zs : List ℤ) (i : ℕ) (y : ℤ) → slice_index_or (slice_set zs (suc i) y) i (pos 0) ≡ slice_index_or zs i (pos 0)
get_below [] i y = refl
get_below (z ∷ zs) zero y = refl
get_below (z ∷ zs) (suc i) y = get_below zs i y

pub get_same : (zs : List ℤ) (i : ℕ) (z : ℤ) → i < length zs → slice_index_or (slice_set zs i z) i (pos 0) ≡ z
get_same [] i z h = absurd (omega arith)
get_same (y ∷ zs) zero z h = refl
get_same (y ∷ zs) (suc i) z h = get_same zs i z (omega arith)
