-- What decoding says of the bytes.
use Rattle.std.specs.Prelude.{◌≡◌, ◌≢◌, ℕ, List, length, take, slice_get, Some, Result, Ok, Err}
use Rattle.wm_ast.specs.declared.module.Module.{Module}
use Rattle.wm_ast.specs.Section.{Section, IsRising, IsFramed}
use Rattle.wm_ast.specs.Spelling.{Content, IsSectionOf, AreSectionsOf, no_parts, parts_of, Spells}
use Rattle.wm_frame.specs.Framing.{AreFramesOf}
use Rattle.wm_frame.specs.declared.fault.FrameFault.{FrameFault}
use Rattle.wm_frame.specs.declared.fault.FrameFault.TheVariants as frames
use Rattle.wm_decode.specs.declared.decoding.DecodeFault.{DecodeFault}
use Rattle.wm_decode.specs.declared.decoding.DecodeFault.TheVariants as faults

-- The sections up to the index hold contents of the grammar, and that of the index holds none.
pub record IsFirstBad (sections : List Section) (index : ℕ) : Type 0 where
  pub before : List Content
  pub hold : AreSectionsOf (take index sections) before
  pub section : Section
  pub stands : slice_get sections index ≡ Some section
  pub none : (c : Content) → IsSectionOf section c → ⊥

-- The bytes are sections in order, and one of them is the first whose content isn't in its grammar.
pub record IsBadAt (bytes : List ℕ) (index : ℕ) : Type 0 where
  pub sections : List Section
  pub framed : IsFramed sections bytes
  pub rising : IsRising 0 sections
  pub bad : IsFirstBad sections index

-- The bytes are sections in order that hold so many types of functions and so many bodies, and not as many of both.
pub record IsMismatched (bytes : List ℕ) (functions bodies : ℕ) : Type 0 where
  pub sections : List Section
  pub contents : List Content
  pub framed : IsFramed sections bytes
  pub rising : IsRising 0 sections
  pub hold : AreSectionsOf sections contents
  pub functions_are : functions ≡ length (parts_of no_parts contents).kinds
  pub bodies_are : bodies ≡ length (parts_of no_parts contents).bodies
  pub differ : functions ≢ bodies

-- the bytes aren't sections in order, for this reason
abbrev pub IsNotFramed : List ℕ → FrameFault → Type 0
IsNotFramed bytes frames.Memory = ⊥
IsNotFramed bytes (frames.NotWasm) = AreFramesOf bytes (Err frames.NotWasm)
IsNotFramed bytes (frames.BadFrame at) = AreFramesOf bytes (Err (frames.BadFrame at))
IsNotFramed bytes (frames.BadOrder index) = AreFramesOf bytes (Err (frames.BadOrder index))

-- what decoding the bytes answers
abbrev pub IsDecoded : List ℕ → Result Module DecodeFault → Type 0
IsDecoded bytes (Ok m) = Spells bytes m
IsDecoded bytes (Err (faults.Frame f)) = IsNotFramed bytes f
IsDecoded bytes (Err (faults.BadSection index)) = IsBadAt bytes index
IsDecoded bytes (Err (faults.CountMismatch functions bodies)) = IsMismatched bytes functions bodies
IsDecoded bytes (Err faults.Memory) = Unit {0}
