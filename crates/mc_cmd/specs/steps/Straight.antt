-- Straight runs: what lines do in a chain, whatever stands behind them and round them.
use Rattle.std.specs.Prelude.{◌≡◌, ℕ, ◌+◌, List, ◌∷◌, ◌++◌}
use Rattle.mc_cmd.specs.World.{World}
use Rattle.mc_cmd.specs.Chain.{Texts, Functions, chain}

-- these lines are run to their end from this world to that one, with this weight
pub record Falls (functions : Functions) (ts : Texts) (w : World) (k : ℕ) (w' : World) : Type 0 where
  pub by : (rest : Texts) (ps : List Texts) (n q : ℕ) → n ≡ k + q
      → chain functions n w ((ts ++ rest) ∷ ps) ≡ chain functions q w' (rest ∷ ps)

-- these lines end the list in which they stand, and drop what follows in it
pub record Returns (functions : Functions) (ts : Texts) (w : World) (k : ℕ) (w' : World) : Type 0 where
  pub by : (rest : Texts) (ps : List Texts) (n q : ℕ) → n ≡ k + q
      → chain functions n w ((ts ++ rest) ∷ ps) ≡ chain functions q w' ps

-- a whole list of lines is run to its end, or returns
pub record Runs (functions : Functions) (ts : Texts) (w : World) (k : ℕ) (w' : World) : Type 0 where
  pub by : (ps : List Texts) (n q : ℕ) → n ≡ k + q → chain functions n w (ts ∷ ps) ≡ chain functions q w' ps
