-- Reading values one after the other, as a loop does.
use Rattle.std.proofs.Common.{◌≡◌, ℕ, suc, ◌-◌, ◌+◌, ◌≤◌, ◌<◌, List, [], ◌∷◌, ◌++◌, Option, Some, None, refl, sym, ap, ◌∙◌, append_assoc, arith}
use Rattle.std.proofs.lemmas.List.{append-nil}
use Rattle.wm_frame.specs.Reading.{◌>>=◌, Reader}
use Rattle.wm_decode.specs.declared.fault.Fault.{Fault}
use Rattle.wm_decode.specs.declared.fault.Fault.TheVariants.{Memory, Malformed}
use Rattle.wm_decode.specs.steps.Gives.{Fails}
use Rattle.wm_decode.specs.steps.Listing.{times_at}

-- what was read before, and what is still read
abbrev pub before : {X : Type 0} → List X → Option (List X × List ℕ) → Option (List X × List ℕ)
before front r = r >>= λ x. Some (front ++ x.0, x.1)

regroup : {X : Type 0} (front : List X) (n : X) (r : Option (List X × List ℕ)) → before front (r >>= λ x. Some (n ∷ x.0, x.1)) ≡ before (front ++ n ∷ []) r
regroup front n None = refl
regroup {X} front n (Some x) = ap (λ (ns : List X). Some (ns, x.1)) (simp append_assoc)

pub begins : {X : Type 0} (r : Option (List X × List ℕ)) → before [] r ≡ r
begins None = refl
begins (Some x) = refl

pub goes_on : {X : Type 0} (at : Reader X) (front : List X) (count i : ℕ) (bytes : List ℕ) (n : X) (after : List ℕ) (total : Option (List X × List ℕ)) → i < count → at bytes ≡ Some (n, after)
    → before front (times_at at (count - i) bytes) ≡ total → before (front ++ n ∷ []) (times_at at (count - (i + 1)) after) ≡ total
unfolding times_at
goes_on at front count i bytes n after total lt h so_far =
    let k : count - i ≡ suc (count - (i + 1)) = omega arith in
    let one : before front (times_at at (count - i) bytes) ≡ before (front ++ n ∷ []) (times_at at (count - (i + 1)) after) = rw (k, h) (regroup front n (times_at at (count - (i + 1)) after)) in
    sym one ∙ so_far

pub ends : {X : Type 0} (at : Reader X) (e : Fault) (front : List X) (count i : ℕ) (bytes : List ℕ) (total : Option (List X × List ℕ)) → i < count → Fails e (at bytes)
    → before front (times_at at (count - i) bytes) ≡ total → Fails e total
unfolding times_at
ends at Memory front count i bytes total lt h so_far = tt
ends at Malformed front count i bytes total lt h so_far =
    let k : count - i ≡ suc (count - (i + 1)) = omega arith in
    let one : before front (times_at at (count - i) bytes) ≡ None = rw (k, h) refl in
    sym so_far ∙ one

pub is_done : {X : Type 0} (at : Reader X) (front : List X) (count i : ℕ) (bytes : List ℕ) (total : Option (List X × List ℕ)) → count ≤ i → before front (times_at at (count - i) bytes) ≡ total → total ≡ Some (front, bytes)
unfolding times_at
is_done {X} at front count i bytes total le so_far =
    let k : count - i ≡ 0 = omega arith in
    let one : before front (times_at at (count - i) bytes) ≡ Some (front, bytes) = rw k (ap (λ (ns : List X). Some (ns, bytes)) (append-nil front)) in
    sym so_far ∙ one
