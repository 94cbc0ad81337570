-- The states of the reader that the code's values stand for.
use Rattle.std.specs.Prelude.{ℤ, pos, negsuc, List, map, reverse, string_bytes}
use Rattle.mc_nbt.specs.steps.Reading as reading
use Rattle.mc_nbt.specs.steps.Reading.{Open, State}
use Rattle.mc_nbt.specs.View.{view, entry}
use Rattle.mc_nbt.specs.declared.build.Frame.{Frame}
use Rattle.mc_nbt.specs.declared.build.Frame.TheVariants as frames
use Rattle.mc_nbt.specs.declared.build.BuildState.{BuildState}
use Rattle.mc_nbt.specs.declared.build.BuildState.TheVariants as states

abbrev pub frame : Frame → reading.Frame
frame (frames.List v) = reading.in_list (map view v.items)
frame (frames.Compound v k) = reading.in_compound (map entry v.items) k

-- the innermost stands last in the code
abbrev pub open_frames : List Frame → Open
open_frames fs = reverse (map frame fs)

-- behind the digits of an int, which tells by its sign whether a `-` stands before them
abbrev pub int_at : Open → ℤ → State
int_at fs (pos m) = reading.digits fs m
int_at fs (negsuc k) = reading.negative fs k

abbrev pub build_state : Open → BuildState → State
build_state fs states.Start = reading.start fs
build_state fs states.Minus = reading.minus fs
build_state fs (states.Int z) = int_at fs z
build_state fs (states.Quoted s) = reading.quoted fs (string_bytes s)
build_state fs (states.Behind t) = reading.behind fs (view t)
build_state fs (states.Keyed v k) = reading.keyed fs (map entry v.items) (string_bytes k)
