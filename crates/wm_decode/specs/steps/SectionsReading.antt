-- What the sections of a module hold together, as they were read.
use Rattle.std.specs.Prelude.{◌≡◌, List, Result, Ok, Err}
use Rattle.wm_ast.specs.Section.{Section}
use Rattle.wm_ast.specs.Spelling.{Content, AreSectionsOf, no_parts, parts_of}
use Rattle.wm_decode.specs.Decoding.{IsFirstBad}
use Rattle.wm_decode.specs.steps.Gathering.{seen}
use Rattle.wm_decode.specs.declared.decoding.DecodeFault.{DecodeFault}
use Rattle.wm_decode.specs.declared.decoding.DecodeFault.TheVariants as faults
use Rattle.wm_decode.specs.declared.section.Parts.{Parts}

-- the parts are those of contents that the sections hold
pub record IsGathered (sections : List Section) (p : Parts) : Type 0 where
  pub contents : List Content
  pub hold : AreSectionsOf sections contents
  pub made : seen p ≡ parts_of no_parts contents

-- what reading all sections answers
abbrev pub AreGathered : List Section → Result Parts DecodeFault → Type 0
AreGathered sections (Ok p) = IsGathered sections p
AreGathered sections (Err (faults.BadSection index)) = IsFirstBad sections index
AreGathered sections (Err faults.Memory) = Unit {0}
AreGathered sections (Err (faults.Frame f)) = ⊥
AreGathered sections (Err (faults.CountMismatch functions bodies)) = ⊥
