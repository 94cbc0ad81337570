-- Vectors and names (5.1.3, 5.2.1, 5.2.4). A grammar says of a value and of bytes that the bytes spell the value.
use Rattle.std.specs.Prelude.{◌≡◌, ℕ, List, [], ◌∷◌, ◌++◌, length}
use Rattle.std.specs.Str.{IsUtf8}
use Rattle.wm_ast.specs.Number.{IsUnsigned}

-- one value after the other
abbrev pub SpellsEach : {A : Type 0} → (A → List ℕ → Type 0) → List A → List ℕ → Type 0
SpellsEach Spells [] bytes = bytes ≡ []
SpellsEach Spells (x ∷ xs) bytes =
    (first : List ℕ) × (others : List ℕ) × Spells x first × SpellsEach Spells xs others × (bytes ≡ first ++ others)

-- a vector: how many there are, and each of them (5.1.3)
abbrev pub SpellsVector : {A : Type 0} → (A → List ℕ → Type 0) → List A → List ℕ → Type 0
SpellsVector Spells xs bytes =
    (count : List ℕ) × (items : List ℕ) × IsUnsigned 32 count (length xs) × SpellsEach Spells xs items
    × (bytes ≡ count ++ items)

-- an index, or any other u32 (5.2.2, 5.5.1)
abbrev pub SpellsIndex : ℕ → List ℕ → Type 0
SpellsIndex n bytes = IsUnsigned 32 bytes n

-- a vector of bytes, which stand as they are (5.2.1)
abbrev pub SpellsBytes : List ℕ → List ℕ → Type 0
SpellsBytes items bytes = (count : List ℕ) × IsUnsigned 32 count (length items) × (bytes ≡ count ++ items)

-- a name: a vector of bytes that are UTF-8 (5.2.4)
abbrev pub SpellsName : List ℕ → List ℕ → Type 0
SpellsName name bytes = IsUtf8 name × SpellsBytes name bytes
