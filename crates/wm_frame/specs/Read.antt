-- What the readers of numbers answer.
use Rattle.std.specs.Prelude.{◌≡◌, ℕ, ◌<◌, ◌≤◌, List, length, Option, IfSome, IfNone, OnSome}
use Rattle.wm_frame.specs.declared.number.Cursor.{Cursor}
use Rattle.wm_frame.specs.Cursor.{left, passed}
use Rattle.wm_frame.specs.Front.{AtFront, NoneAtFront}
use Rattle.wm_frame.specs.Reading.{Reader}

-- What is found at the front of bytes by a grammar: a value with the bytes after it where they begin with a spelling of
-- one, and none where they don't. The reader from the left finds the same.
pub record IsFirst {A : Type 0} (G : A → List ℕ → Type 0) (reader : Reader A) (bytes : List ℕ)
    (result : Option (A × List ℕ)) : Type 0 where
  pub found : IfSome result (λ x. AtFront G bytes x.0 x.1)
  pub none : IfNone result (NoneAtFront G bytes)
  pub exact : result ≡ reader bytes
  pub shorter : IfSome result (λ x. length x.1 < length bytes)

-- What a cursor reads by a grammar, and the cursor after it: a value that the bytes it passed spell, or none where what
-- is left begins with no spelling, and it is where it was. Its end stays.
pub record IsRead {A : Type 0} (G : A → List ℕ → Type 0) (bytes : List ℕ) (old new : Cursor)
    (result : Option A) : Type 0 where
  pub found : IfSome result (λ x. G x (passed bytes old new))
  pub moved : OnSome result ((old.at < new.at) × (new.at ≤ old.end))
  pub none : IfNone result (NoneAtFront G (left bytes old))
  pub unchanged : IfNone result (new ≡ old)
  pub end : new.end ≡ old.end
