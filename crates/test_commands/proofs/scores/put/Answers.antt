use Rattle.std.proofs.Common.{◌≡◌, ◌∙◌, sym, true, rules, Option, Some, None}
use Rattle.std.specs.Prelude.{Bool, IfSome}
use Rattle.test_commands.proofs.scores.put.Goals as goal

if_stands : {X : Type 0} (f : X → Bool) (b : Bool) (x : Option X) → IfSome x (λ n. b ≡ f n) → b ≡ true → IfSome x (λ n. f n ≡ true)
if_stands f b None h e = tt
if_stands f b (Some n) h e = sym h ∙ e

pub set_at-requires-clause-stands : goal.set_at-requires-clause-stands
set_at-requires-clause-stands c =
    let yes : c.stands_at.result ≡ true = search rules in
    if_stands _ _ _ c.stands_at.ensures yes
