-- The beginnings of spellings, and what a reader of trees answers.
use Rattle.std.specs.Prelude.{◌≡◌, ◌<◌, ◌≤◌, ℕ, suc, List, ◌++◌, length, take}
use Rattle.mc_nbt.specs.Tree.{Tree, depth}
use Rattle.mc_nbt.specs.Spelling.{Spells}

-- some tree's spelling begins with this text
pub record Begins (text : List ℕ) : Type 0 where
  pub tree : Tree
  pub rest : List ℕ
  pub spells : Spells (text ++ rest) tree

-- the longest beginning of a text that begins a spelling has so many bytes
pub record Reaches (text : List ℕ) (at : ℕ) : Type 0 where
  pub within : at ≤ length text
  pub begins : Begins (take at text)
  pub no_longer : at < length text → Begins (take (suc at) text) → ⊥

-- no tree of any depth is spelled
abbrev pub SpellsNone : List ℕ → Type 0
SpellsNone text = (t : Tree) → Spells text t → ⊥

-- a tree deeper than 64 is spelled
pub record SpellsDeep (text : List ℕ) : Type 0 where
  pub tree : Tree
  pub spells : Spells text tree
  pub deep : 64 < depth tree

-- what a reader of trees answers: a tree and how deep it is; or how many bytes begin a spelling
pub data Answer : Type 0 where
  spelled : Tree → ℕ → Answer
  broken : ℕ → Answer

-- what an answer says of the text: it spells this tree, which is so deep; or it spells none, and its longest
-- beginning that begins a spelling has so many bytes
abbrev pub IsAnswered : List ℕ → Answer → Type 0
IsAnswered text (spelled t d) = Spells text t × (d ≡ depth t)
IsAnswered text (broken n) = Reaches text n × SpellsNone text
