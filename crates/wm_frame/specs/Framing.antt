-- The sections of a module at their places in its bytes.
use Rattle.std.specs.Prelude.{◌≡◌, ℕ, ◌+◌, ◌<◌, ◌≤◌, List, [], ◌∷◌, length, map, take, drop, slice_range, Result, Ok}
use Rattle.std.specs.Prelude.{Err}
use Rattle.wm_ast.specs.Section.{Section, SpellsSection, IsRising, header}
use Rattle.wm_frame.specs.Front.{NoneAtFront}
use Rattle.wm_frame.specs.declared.fault.FrameFault.{FrameFault}
use Rattle.wm_frame.specs.declared.fault.FrameFault.TheVariants as faults
use Rattle.wm_frame.specs.declared.section.Frame.{Frame}

-- the section that a frame bounds
abbrev pub section_of : List ℕ → Frame → Section
section_of bytes f = record { id = f.id; content = slice_range bytes f.start f.end }

-- a section stands at a place of the bytes, with its content in the frame (5.5.2)
pub record IsFrameAt (bytes : List ℕ) (at : ℕ) (f : Frame) : Type 0 where
  pub ordered : f.start ≤ f.end
  pub within : f.end ≤ length bytes
  pub past : at ≤ f.end
  pub spells : SpellsSection (section_of bytes f) (slice_range bytes at f.end)

-- sections stand one after the other from one place up to another
abbrev pub AreFrames : List ℕ → ℕ → List Frame → ℕ → Type 0
AreFrames bytes at [] end = at ≡ end
AreFrames bytes at (f ∷ fs) end = IsFrameAt bytes at f × AreFrames bytes f.end fs end

-- the first 8 bytes are the magic number and the version (5.5.15)
abbrev pub HasHeader : List ℕ → Type 0
HasHeader bytes = take 8 bytes ≡ header

-- the bytes are the header and whole sections
abbrev pub AreWhole : List ℕ → List Frame → Type 0
AreWhole bytes fs = HasHeader bytes × AreFrames bytes 8 fs (length bytes)

-- whole sections follow the header up to a place where bytes stand that begin with no section
pub record IsBroken (bytes : List ℕ) (at : ℕ) : Type 0 where
  pub before : List Frame
  pub begins : HasHeader bytes
  pub whole : AreFrames bytes 8 before at
  pub more : at < length bytes
  pub none : NoneAtFront SpellsSection (drop at bytes)

-- the sections before that of the index are in order, and with it they aren't (5.5.15)
pub record IsFirstAstray (sections : List Section) (index : ℕ) : Type 0 where
  pub stands : index < length sections
  pub before : IsRising 0 (take index sections)
  pub astray : ¬ (IsRising 0 (take (index + 1) sections))

-- what dividing the bytes into sections answers
abbrev pub AreFramesOf : List ℕ → Result (List Frame) FrameFault → Type 0
AreFramesOf bytes (Ok fs) = AreWhole bytes fs × IsRising 0 (map (section_of bytes) fs)
AreFramesOf bytes (Err faults.NotWasm) = ¬ (HasHeader bytes)
AreFramesOf bytes (Err (faults.BadFrame at)) = IsBroken bytes at
AreFramesOf bytes (Err (faults.BadOrder index)) =
    (fs : List Frame) × AreWhole bytes fs × IsFirstAstray (map (section_of bytes) fs) index
AreFramesOf bytes (Err faults.Memory) = Unit {0}
