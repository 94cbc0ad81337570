-- A value on its way: its ints are handed over from their places, and come from there to other ones.
use Rattle.std.proofs.Common.{◌≡◌, ℕ, suc, ◌+◌, ◌≤◌, ◌<◌, List, [], ◌∷◌, length, Some, false, refl, sym, ap, ◌∙◌, subst, arith, ℤ, if◌then◌else◌, codes, slice_set, length-set}
use Rattle.mc_nbt.specs.declared.value.Value.{Value}
use Rattle.mc_nbt.specs.declared.value.Value.TheVariants as values
use Rattle.mc_cmd.specs.Form.{Text}
use Rattle.cc_line.specs.Key.{is_work}
use Rattle.cc_line.specs.Routine.{value_ints}
use Rattle.cc_line.specs.State.{State, place_at, set_places, with_place, with_score}
use Rattle.cc_line.specs.Step.{with_kept}
use Rattle.cc_line.proofs.CoreLemmas.{work_apart}
use Rattle.cc_call.specs.Acts.{after_acts, ActsReady}
use Rattle.cc_call.specs.Frames.{result_score, hand_acts, take_acts}
use Rattle.cc_call.specs.Law.{AreHanded}
use Rattle.cc_call.proofs.ActLemmas.{with_places}
use Rattle.cc_simulate.specs.Frame.{Frame}
use Rattle.cc_simulate.proofs.Frames.{top_of, frame_last, frame_last_long}

pub still_handed : (k : ℕ) (zs : List ℤ) (s t : State) → t.scores ≡ s.scores → AreHanded k zs s → AreHanded k zs t
still_handed k [] s t e h = tt
still_handed k (z ∷ zs) s t e h = (ap (λ m. m (result_score k)) e ∙ h.0, still_handed (suc k) zs s t e h.1)

-- ---- to places

-- the numbers that are handed over come to the places from one on
pub taken_are : (zs : List ℤ) (i k : ℕ) (s : State) → AreHanded k zs s → after_acts (take_acts (length zs) i k) s ≡ with_places s (set_places s.places i zs)
taken_are [] i k s h = refl
taken_are (z ∷ zs) i k s h =
    let t : State = with_place s i z in
    ap (λ o. after_acts (take_acts (length zs) (suc i) (suc k)) (with_kept s i o)) h.0 ∙ taken_are zs (suc i) (suc k) t (still_handed (suc k) zs s t refl h.1)

pub taken_ready : (zs : List ℤ) (i k : ℕ) (s : State) → AreHanded k zs s → i + length zs ≤ length s.places → ActsReady (take_acts (length zs) i k) s
taken_ready [] i k s h l = tt
taken_ready (z ∷ zs) i k s h l =
    let t : State = with_place s i z in
    let long : length (slice_set s.places i z) ≡ length s.places = length-set s.places i z in
    let room : suc i + length zs ≤ length (slice_set s.places i z) = omega arith in
    let first : i < length s.places = omega arith in
    (first, subst (λ u. ActsReady (take_acts (length zs) (suc i) (suc k)) u) (sym (ap (with_kept s i) h.0)) (taken_ready zs (suc i) (suc k) t (still_handed (suc k) zs s t refl h.1) room))

-- ---- from places

-- these numbers are handed over, and nothing else differs than scores of routines
pub record Handing (zs : List ℤ) (s t : State) : Type 0 where
  pub places : t.places ≡ s.places
  pub keys : t.keys ≡ s.keys
  pub results : AreHanded 0 zs t
  pub number : t.scores (codes "#c") ≡ s.scores (codes "#c")
  pub others : (h : Text) → is_work h ≡ false → t.scores h ≡ s.scores h

-- the last operand
pub value_handed : (size : ℕ) (ls : List Value) (v : Value) (os : List Value) (s : State) → Frame size ls (v ∷ os) s.places
    → ActsReady (hand_acts (length (value_ints v)) (top_of ls os) 0) s × Handing (value_ints v) s (after_acts (hand_acts (length (value_ints v)) (top_of ls os) 0) s)
value_handed size ls (values.I32 z) os s f =
    let last = frame_last size ls z os s.places f in
    let i : ℕ = top_of ls os in (
      (last.1, tt),
      record {
        places = refl;
        keys = refl;
        results = (ap Some last.0, tt);
        number = refl;
        others = λ h w. ap (λ b. if b then Some (place_at s i) else s.scores h) (work_apart (codes "#r") h refl w);
      },
    )
value_handed size ls (values.I64 z) os s f =
    let last = frame_last_long size ls z os s.places f in
    let i : ℕ = top_of ls os in
    let t : State = with_score s (codes "#r") (place_at s i) in
    let within : top_of ls os < length s.places = let l = last.2 in omega arith in (
      (within, (last.2, tt)),
      record {
        places = refl;
        keys = refl;
        results = (ap Some last.0, (ap Some last.1, tt));
        number = refl;
        others = λ h w. ap (λ b. if b then Some (place_at s (suc i)) else t.scores h) (work_apart (codes "#q") h refl w) ∙ ap (λ b. if b then Some (place_at s i) else s.scores h) (work_apart (codes "#r") h refl w);
      },
    )
