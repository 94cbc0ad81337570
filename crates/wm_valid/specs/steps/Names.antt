-- The names of exports that were seen.
use Rattle.std.specs.Prelude.{◌≡◌, ℕ, ◌<◌, List, Some, true, slice_get}
use Rattle.std.specs.BTreeSet.{BTreeSet, contains}
use Rattle.std.specs.Cmp.Lexicographic.{slice_cmp}
use Rattle.std.specs.Ordering.{nat_cmp}
use Rattle.wm_ast.specs.declared.module.Export.{Export}
use denote.Ref.{Bor}

-- the set has this text
abbrev pub HasName : BTreeSet (Bor (List ℕ)) → Bor (List ℕ) → Type 0
HasName names q = contains (λ (x y : Bor (List ℕ)). slice_cmp nat_cmp x.now y.now) names q ≡ true

-- an export before this index has this name
pub record Earlier (es : List Export) (index : ℕ) (name : List ℕ) : Type 0 where
  pub place : ℕ
  pub export : Export
  pub before : place < index
  pub there : slice_get es place ≡ Some export
  pub same : export.name ≡ name

-- the set has the names of the exports before this index
pub record NamesBefore (es : List Export) (index : ℕ) (names : BTreeSet (Bor (List ℕ))) : Type 0 where
  pub seen : (q : Bor (List ℕ)) → HasName names q → Earlier es index q.now
  pub all : (q : Bor (List ℕ)) → Earlier es index q.now → HasName names q
