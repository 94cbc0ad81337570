-- What stands at the front of bytes, by a grammar that says which bytes spell a value.
use Rattle.std.specs.Prelude.{◌≡◌, ℕ, List, ◌++◌, ℤ}
use Rattle.wm_ast.specs.Number.{IsUnsigned, IsSigned}

-- the bytes are a spelling of the value and then the rest
pub record AtFront {A : Type 0} (G : A → List ℕ → Type 0) (bytes : List ℕ) (x : A) (rest : List ℕ) : Type 0 where
  pub front : List ℕ
  pub parts : bytes ≡ front ++ rest
  pub spells : G x front

-- the bytes begin with no spelling
abbrev pub NoneAtFront : {A : Type 0} → (A → List ℕ → Type 0) → List ℕ → Type 0
NoneAtFront {A} G bytes = (x : A) (front rest : List ℕ) → G x front → bytes ≡ front ++ rest → ⊥

-- the grammars of numbers of so many bits (5.2.2)
abbrev pub Unsigned : ℕ → ℕ → List ℕ → Type 0
Unsigned bits n bytes = IsUnsigned bits bytes n

abbrev pub Signed : ℕ → ℤ → List ℕ → Type 0
Signed bits n bytes = IsSigned bits bytes n
