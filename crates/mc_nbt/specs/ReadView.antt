-- What a reading of a text says.
use Rattle.std.specs.Prelude.{ℕ, List, ◌++◌, Result, Ok, Err, codes}
use Rattle.std.specs.Fmt.{decimal}
use Rattle.mc_nbt.specs.Shape.{IsTree}
use Rattle.mc_nbt.specs.Spelling.{Spells}
use Rattle.mc_nbt.specs.Beginning.{Reaches, SpellsNone, SpellsDeep}
use Rattle.mc_nbt.specs.View.{view}
use Rattle.mc_nbt.specs.declared.tree.Nbt.{Nbt}
use Rattle.mc_nbt.specs.declared.fault.SnbtFault.{SnbtFault}
use Rattle.mc_nbt.specs.declared.fault.SnbtFault.TheVariants as faults

-- the tree is the one that the text spells, and may stand in a storage; or the text spells no tree, and so many
-- of its bytes begin a spelling and no more do; or the tree that it spells is too deep
abbrev pub ReadsTree : List ℕ → Result Nbt SnbtFault → Type 0
ReadsTree text (Ok t) = Spells text (view t) × IsTree (view t)
ReadsTree text (Err (faults.Syntax n)) = Reaches text n × SpellsNone text
ReadsTree text (Err faults.Depth) = SpellsDeep text
ReadsTree text (Err faults.Memory) = Unit {0}

-- the line that tells of a fault
abbrev pub fault_text : SnbtFault → List ℕ
fault_text (faults.Syntax n) = codes "no tree: stops at byte " ++ decimal n
fault_text faults.Depth = codes "deeper than 64"
fault_text faults.Memory = codes "out of memory"
