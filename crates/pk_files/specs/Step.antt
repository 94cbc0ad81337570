-- Steps of reading, told by the answers that they may give.
use Rattle.std.specs.Prelude.{◌≡◌, ◌⊎◌, Result, Ok, Err}
use Rattle.pk_files.specs.declared.fault.GetFault.{GetFault}

-- which answers a step may give
abbrev pub Step : Type 0 → Type 1
Step A = Result A GetFault → Type 0

-- the step gives this answer and no other
abbrev pub Gives : {A : Type 0} → Result A GetFault → Step A
Gives answer result = result ≡ answer

infixl 10 ◌>>=◌
-- one step, and then the one that goes on with what it gave; the first that is refused ends them
abbrev pub ◌>>=◌ : {A B : Type 0} → Step A → (A → Step B) → Step B
◌>>=◌ {A = A} step next (Ok b) = (a : A) × step (Ok a) × next a (Ok b)
◌>>=◌ {A = A} step next (Err fault) = step (Err fault) ⊎ ((a : A) × step (Ok a) × next a (Err fault))
