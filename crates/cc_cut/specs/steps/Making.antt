-- Cuts as they are made on the way through a body.
use Rattle.std.specs.Prelude.{◌≡◌, ℕ, suc, ◌+◌, List, [], ◌∷◌, ◌++◌, Option, Some, ◌&&◌, nat_eq, if◌then◌else◌}
use Rattle.std.specs.Cmp.Lexicographic.{pointwise}
use Rattle.std.specs.HashMap.{HashMap}
use Rattle.std.specs.declared.vec.Vec.{Vec}
use Rattle.wm_place.specs.Visit.{Visit}
use Rattle.cc_cut.specs.declared.table.Cut.{Cut}
use Rattle.cc_cut.specs.Piece.{place_cost, is_cut}
use Rattle.cc_cut.specs.steps.Exits.{visit_paths, index_in, indices_in}

-- what the piece has come to behind a place
abbrev pub spent_behind : ℕ → Visit → ℕ
spent_behind spent v = if is_cut spent v then place_cost v else spent + place_cost v

-- how many cuts there are behind a place
abbrev pub count_behind : ℕ → ℕ → Visit → ℕ
count_behind spent count v = if is_cut spent v then suc count else count

-- the index at a path behind a place, where this was there before
abbrev pub index_behind : ℕ → ℕ → Visit → List ℕ → Option ℕ → Option ℕ
index_behind spent count v path before =
    if is_cut spent v && pointwise nat_eq v.path path then Some (suc count) else before

-- a cut without exits
abbrev pub new_cut : ℕ → ℕ → Visit → Cut
new_cut func index v = record { func = func; index = index; place = v.path; layout = v.kinds; exits = [] }

-- a cut with further exits
abbrev pub with_exits : List ℕ → Cut → Cut
with_exits exits c = record {
  func = c.func;
  index = c.index;
  place = c.place;
  layout = c.layout;
  exits = c.exits ++ exits;
}

-- the last of these cuts with further exits
abbrev pub add_exits : List Cut → List ℕ → List Cut
add_exits [] exits = []
add_exits (c ∷ []) exits = with_exits exits c ∷ []
add_exits (c ∷ (d ∷ cs)) exits = c ∷ add_exits (d ∷ cs) exits

-- the cuts with that of a place, where it is one
abbrev pub cuts_begun : ℕ → ℕ → ℕ → List Cut → Visit → List Cut
cuts_begun func spent count cuts v = if is_cut spent v then cuts ++ new_cut func (suc count) v ∷ [] else cuts

-- a place is passed, and its index kept where it is a cut
pub record IsNumbered {A S : Type 0} (spent count : ℕ) (old : HashMap (Vec ℕ A) ℕ S) (v : Visit)
    (spent_then count_then : ℕ) (new : HashMap (Vec ℕ A) ℕ S) : Type 0 where
  pub spent_is : spent_then ≡ spent_behind spent v
  pub count_is : count_then ≡ count_behind spent count v
  pub indices_are : (path : List ℕ) → index_in new path ≡ index_behind spent count v path (index_in old path)

-- a place is passed, a cut made where it is one, and the exits to which it leads are added to the last cut
pub record IsMade {A S : Type 0} (indices : HashMap (Vec ℕ A) ℕ S) (func spent count : ℕ) (old : List Cut) (v : Visit)
    (spent_then count_then : ℕ) (new : List Cut) : Type 0 where
  pub spent_is : spent_then ≡ spent_behind spent v
  pub count_is : count_then ≡ count_behind spent count v
  pub cuts_are : new ≡ add_exits (cuts_begun func spent count old v) (indices_in indices (visit_paths v))
