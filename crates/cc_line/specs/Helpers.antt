-- Helpers, each once: what a pack has to hold of those that items call.
use Rattle.std.specs.Prelude.{◌≡◌, List, [], ◌∷◌, ◌++◌, Bool, true, false, ◌||◌, if◌then◌else◌}
use Rattle.std.specs.Str.{bytes_eq}
use Rattle.mc_cmd.specs.Form.{Text}
use Rattle.cc_line.specs.Item.{Helper}

-- whether a helper of this name is among these
abbrev pub has_helper : Text → List Helper → Bool
has_helper f [] = false
has_helper f (h ∷ hs) = bytes_eq h.name f || has_helper f hs

-- these helpers with one more, if none of its name is among them
abbrev pub with_helper : List Helper → Helper → List Helper
with_helper hs h = if has_helper h.name hs then hs else hs ++ (h ∷ [])

-- these helpers with all of those, each name once
abbrev pub with_helpers : List Helper → List Helper → List Helper
with_helpers hs [] = hs
with_helpers hs (x ∷ xs) = with_helpers (with_helper hs x) xs

-- each name once: the first helper that has it
abbrev pub each_once : List Helper → List Helper
each_once hs = with_helpers [] hs

-- each helper of this name has these lines
abbrev pub HasLines : Helper → List Helper → Type 0
HasLines x [] = Unit {0}
HasLines x (h ∷ hs) = (bytes_eq h.name x.name ≡ true → h.lines ≡ x.lines) × HasLines x hs

-- no two helpers of one name have different lines
abbrev pub AreOne : List Helper → Type 0
AreOne [] = Unit {0}
AreOne (h ∷ hs) = HasLines h hs × AreOne hs
