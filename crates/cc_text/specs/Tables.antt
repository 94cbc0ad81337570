-- Helpers by their names: the lines that a name has under each namespace, and which items call helpers of such names
-- alone. A crate whose items call helpers has a list of them, and the names in it begin as those of no other crate.
use Rattle.std.specs.Prelude.{◌≡◌, ◌≤◌, ℕ, zero, suc, List, [], ◌∷◌, length, Option, Some, None, Bool, true, false}
use Rattle.std.specs.Prelude.{◌&&◌, if◌then◌else◌, nat_eq}
use Rattle.std.specs.List.{list_all}
use Rattle.std.specs.Str.{bytes_eq}
use Rattle.mc_cmd.specs.Form.{Text}
use Rattle.mc_cmd.specs.Chain.{Texts}
use Rattle.cc_line.specs.OpenStep.{OpenStep, open_texts}
use Rattle.cc_line.specs.Item.{Item, Items, no_more, first, Helper, item_helpers, items_texts}

-- the name of a helper, and its lines under each namespace
pub record NamedHelper : Type 0 where
  pub name : Text
  pub lines : Text → Texts

-- a helper of items, and one of steps that a compound fills
abbrev pub of_items : Text → Items → NamedHelper
of_items f xs = record { name = f; lines = λ ns. items_texts ns xs }

abbrev pub of_steps : Text → List OpenStep → NamedHelper
of_steps f xs = record { name = f; lines = λ ns. open_texts ns xs }

-- those of all numbers below one
abbrev pub numbered : (ℕ → NamedHelper) → ℕ → List NamedHelper
numbered f zero = []
numbered f (suc n) = f n ∷ numbered f n

-- the lines of a name under a namespace, if one of these has it
abbrev pub lines_named : List NamedHelper → Text → Text → Option Texts
lines_named [] ns f = None
lines_named (h ∷ hs) ns f = if bytes_eq h.name f then Some (h.lines ns) else lines_named hs ns f

-- each helper has one of the names, and the lines of this name
abbrev pub AreNamed : List NamedHelper → Text → List Helper → Type 0
AreNamed all ns [] = Unit {0}
AreNamed all ns (h ∷ hs) = (lines_named all ns h.name ≡ Some h.lines) × AreNamed all ns hs

-- the same of each helper that items call, and of each that those call, under every namespace
abbrev pub ItemNamed : List NamedHelper → Item → Type 0
ItemNamed all x = (ns : Text) → AreNamed all ns (item_helpers ns x)

abbrev pub ItemsNamed : List NamedHelper → Items → Type 0
ItemsNamed all no_more = Unit {0}
ItemsNamed all (first x xs) = ItemNamed all x × ItemsNamed all xs

-- what each name of the one has, it has in the other too
abbrev pub IsWithin : List NamedHelper → List NamedHelper → Type 0
IsWithin own all = (ns f : Text) (ts : Texts) → lines_named own ns f ≡ Some ts → lines_named all ns f ≡ Some ts

-- ---- how names begin

abbrev pub begins : Text → Text → Bool
begins [] f = true
begins (b ∷ p) [] = false
begins (b ∷ p) (c ∷ f) = nat_eq b c && begins p f

abbrev pub all_begin : Text → List NamedHelper → Bool
all_begin p hs = list_all (λ h. begins p h.name) hs

-- no text begins as both of these do
abbrev pub unlike : Text → Text → Bool
unlike (b ∷ p) (c ∷ q) = if nat_eq b c then unlike p q else true
unlike _ _ = false

-- a list of a crate's own: all its names begin as this text, and there are at most so many
pub record IsOwn (p : Text) (hs : List NamedHelper) (most : ℕ) : Type 0 where
  pub names : all_begin p hs ≡ true
  pub few : length hs ≤ most
