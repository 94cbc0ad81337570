-- Readers of what is spelled by bytes of one kind, and of items one behind another.
use Rattle.std.specs.Prelude.{ℕ, zero, suc, List, [], ◌∷◌, Bool, true, false, Option, Some, None, option_map}
use Rattle.mc_cmd.specs.Form.{Text}

-- the bytes that pass a test and that a text begins with, and what is behind them
abbrev pub span_here : Bool → ℕ → Text → Text × Text → Text × Text
span_here true b t p = (b ∷ p.0, p.1)
span_here false b t p = ([], b ∷ t)

abbrev pub span : (ℕ → Bool) → Text → Text × Text
span p [] = ([], [])
span p (b ∷ t) = span_here (p b) b t (span p t)

abbrev pub many_then : {A : Type 0} → Option (A × Text) → (Text → Option (List A)) → Option (List A)
many_then None more = None
many_then (Some p) more = option_map (λ l. p.0 ∷ l) (more p.1)

-- items to the end of the text, of which there are at most n
unfoldable pub many : {A : Type 0} → (Text → Option (A × Text)) → ℕ → Text → Option (List A)
many one n [] = Some []
many one zero (b ∷ t) = None
many one (suc n) (b ∷ t) = many_then (one (b ∷ t)) (many one n)
