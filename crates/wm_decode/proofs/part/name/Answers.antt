use Rattle.std.proofs.Common.{◌≡◌, ℕ, Bool, true, false, List, Some, refl, sym, ap}
use Rattle.std.specs.Str.{IsUtf8, is_utf8}
use Rattle.std.proofs.lemmas.Str.{IsUtf8-from_is_utf8, is_utf8-from_IsUtf8}
use Rattle.wm_decode.specs.steps.Listing.{name_at}
use Rattle.wm_decode.proofs.part.name.Goals as goal

-- bytes that aren't UTF-8 fail the test
fails : (bytes : List ℕ) → ¬ (IsUtf8 bytes) → is_utf8 bytes ≡ false
fails bytes none = go (is_utf8 bytes) refl
  where
    go : (b : Bool) → is_utf8 bytes ≡ b → is_utf8 bytes ≡ false
    go true e = absurd (none (IsUtf8-from_is_utf8 bytes e))
    go false e = e

pub returns-in-Ok : goal.returns-in-Ok
unfolding name_at
returns-in-Ok c =
    let u = is_utf8-from_IsUtf8 c.in_ok-text.text.now c.in-Ok.ensures.cases.1 in
    rw (c.in_ok-text.ensures, u) (ap (λ (l : List ℕ). Some (l, c.in_ok-text.rest.now)) (sym c.in-Ok.ensures.cases.0))

pub returns-in-Err : goal.returns-in-Err
unfolding name_at
returns-in-Err c =
    let u = fails c.in_ok-text.text.now c.in-Err.ensures.cases.0 in
    rw (c.in_ok-text.ensures, u) refl
