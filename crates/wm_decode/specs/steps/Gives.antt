-- What a function returned, against what reading from the left gives.
use Rattle.std.specs.Prelude.{◌≡◌, Option, Some, None, Result, Ok, Err}
use Rattle.wm_decode.specs.declared.fault.Fault.{Fault}
use Rattle.wm_decode.specs.declared.fault.Fault.TheVariants.{Memory, Malformed}

-- reading gives nothing, unless memory ran out
abbrev pub Fails : {Y : Type 0} → Fault → Option Y → Type 0
Fails Memory read = Unit {0}
Fails Malformed read = read ≡ None

-- the value, seen by the view, is what reading gives, unless memory ran out
abbrev pub Gives : {X Y : Type 0} → (X → Y) → Result X Fault → Option Y → Type 0
Gives view (Ok x) read = read ≡ Some (view x)
Gives view (Err e) read = Fails e read
