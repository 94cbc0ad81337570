-- The lists of crates joined, where names of each crate begin as those of no other.
use Rattle.std.proofs.Common.{◌≡◌, ◌∙◌, refl, sym, subst, ◌⊎◌, inl, inr, ℕ, zero, suc, ◌+◌, ◌≤◌, List, [], ◌∷◌, ◌++◌, length, length-append, Bool, true, false, Option, Some, None, arith}
use Rattle.std.specs.Prelude.{◌&&◌, if◌then◌else◌, slice_get}
use Rattle.std.specs.Str.{bytes_eq}
use Rattle.mc_cmd.specs.Form.{Text}
use Rattle.mc_cmd.specs.Chain.{Texts}
use Rattle.mc_cmd.proofs.FormLemmas.{and_first, and_second}
use Rattle.cc_text.specs.Tables.{begins, IsOwn, IsWithin, lines_named, NamedHelper, unlike}
use Rattle.cc_text.proofs.NamedLemmas.{found_begins, within_behind, within_front}

-- a crate's list
pub record Room : Type 0 where
  pub beginning : Text
  pub helpers : List NamedHelper
  pub most : ℕ
  pub own : IsOwn beginning helpers most

abbrev pub joined : List Room → List NamedHelper
joined [] = []
joined (r ∷ rs) = r.helpers ++ joined rs

-- as many as all of them may have
abbrev pub most_joined : List Room → ℕ
most_joined [] = 0
most_joined (r ∷ rs) = r.most + most_joined rs

pub joined_few : (rs : List Room) → length (joined rs) ≤ most_joined rs
joined_few [] = omega arith
joined_few (r ∷ rs) =
    let a : length r.helpers ≤ r.most = r.own.few in
    let b : length (joined rs) ≤ most_joined rs = joined_few rs in
    let c : length (r.helpers ++ joined rs) ≡ length r.helpers + length (joined rs) = length-append r.helpers (joined rs) in
    omega arith

-- those of the first so many begin otherwise
abbrev pub unlike_before : List Room → ℕ → Text → Bool
unlike_before [] n q = true
unlike_before (r ∷ rs) zero q = true
unlike_before (r ∷ rs) (suc n) q = unlike r.beginning q && unlike_before rs n q

same_room : (s r : Room) → Some s ≡ Some r → s ≡ r
same_room s r e = cc

pub room_within : (rs : List Room) (n : ℕ) (r : Room) → slice_get rs n ≡ Some r → unlike_before rs n r.beginning ≡ true → IsWithin r.helpers (joined rs)
room_within [] n r e u = absurd cc
room_within (s ∷ rs) zero r e u = subst (λ (q : Room). IsWithin q.helpers (s.helpers ++ joined rs)) (same_room s r e) (within_front s.helpers (joined rs))
room_within (s ∷ rs) (suc n) r e u =
    within_behind s.beginning r.beginning s.helpers r.helpers (joined rs) (and_first (unlike s.beginning r.beginning) _ u) s.own.names r.own.names
    (room_within rs n r e (and_second (unlike s.beginning r.beginning) _ u))

-- ---- each name begins as those of a room

abbrev pub BeginsSo : List Room → Text → Type 0
BeginsSo [] f = ⊥
BeginsSo (r ∷ rs) f = (begins r.beginning f ≡ true) ⊎ BeginsSo rs f

found_either : (hs gs : List NamedHelper) (ns f : Text) (ts : Texts) → lines_named (hs ++ gs) ns f ≡ Some ts → (lines_named hs ns f ≡ Some ts) ⊎ (lines_named gs ns f ≡ Some ts)
found_either [] gs ns f ts e = inr e
found_either (h ∷ hs) gs ns f ts e = go (bytes_eq h.name f) e (found_either hs gs ns f ts)
  where
    go : (d : Bool) → (if d then Some (h.lines ns) else lines_named (hs ++ gs) ns f) ≡ Some ts → (lines_named (hs ++ gs) ns f ≡ Some ts → (lines_named hs ns f ≡ Some ts) ⊎ (lines_named gs ns f ≡ Some ts)) → ((if d then Some (h.lines ns) else lines_named hs ns f) ≡ Some ts) ⊎ (lines_named gs ns f ≡ Some ts)
    go true e more = inl e
    go false e more = more e

pub begins_so : (rs : List Room) (ns f : Text) (ts : Texts) → lines_named (joined rs) ns f ≡ Some ts → BeginsSo rs f
begins_so [] ns f ts e = absurd cc
begins_so (r ∷ rs) ns f ts e = go (found_either r.helpers (joined rs) ns f ts e) (begins_so rs ns f ts)
  where
    go : (lines_named r.helpers ns f ≡ Some ts) ⊎ (lines_named (joined rs) ns f ≡ Some ts) → (lines_named (joined rs) ns f ≡ Some ts → BeginsSo rs f) → (begins r.beginning f ≡ true) ⊎ BeginsSo rs f
    go (inl i) more = inl (found_begins r.beginning r.helpers ns f ts r.own.names i)
    go (inr i) more = inr (more i)
