-- The lines that a script prints.
use Rattle.std.specs.Prelude.{ℕ, zero, suc, ◌+◌, ◌-◌, ◌/◌, List, [], ◌∷◌, ◌++◌, length, take, drop, replicate, codes}
use Rattle.std.specs.Prelude.{slice_get, nat_eq, nat_le, false, if◌then◌else◌, Option, Some, None, unwrap_or}
use Rattle.std.specs.List.{list_all}
use Rattle.std.specs.Fmt.{decimal, signed_decimal, digits}
use Rattle.hex.specs.Hex.{encode_lower}
use Rattle.mc_nbt.specs.declared.value.Value.{Value}
use Rattle.mc_nbt.specs.declared.value.Value.TheVariants as value
use Rattle.mc_cmd.specs.Form.{Text}
use Rattle.mc_cmd.specs.World.{World}
use Rattle.mc_cmd.specs.Layout.{Answer, new, running, done, trap, dead, answer, globals, memory}

-- the names of the traps 1 to 8
abbrev pub trap_names : List Text
trap_names =
    codes "unreachable"
    ∷ codes "integer divide by zero"
    ∷ codes "integer overflow"
    ∷ codes "out of bounds memory access"
    ∷ codes "undefined element"
    ∷ codes "uninitialized element"
    ∷ codes "indirect call type mismatch"
    ∷ codes "call stack exhausted"
    ∷ []

abbrev pub trap_name : ℕ → Text
trap_name k = unwrap_or (slice_get trap_names (k - 1)) []

-- a value in signed decimal
abbrev pub value_text : Value → Text
value_text (value.I32 z) = signed_decimal z
value_text (value.I64 z) = signed_decimal z

-- a line with the line feed that ends it
abbrev pub ended_line : Text → Text
ended_line w = w ++ (10 ∷ [])

-- what isn't of the layout
abbrev pub no_part : Text
no_part = ended_line (codes "none")

-- the line of an answer
abbrev pub shown : Option Answer → Text
shown None = no_part
shown (Some new) = ended_line (codes "new")
shown (Some running) = ended_line (codes "running")
shown (Some (done None)) = ended_line (codes "done")
shown (Some (done (Some v))) = codes "done " ++ ended_line (value_text v)
shown (Some (trap k)) = codes "trap " ++ ended_line (trap_name k)
shown (Some (dead k)) = ended_line (codes "dead")

-- a line for each global, the first of which has this number
abbrev pub global_line : ℕ → Value → Text
global_line i v = codes "global " ++ (decimal i ++ (32 ∷ ended_line (value_text v)))

abbrev pub global_lines : ℕ → List Value → Text
global_lines i [] = []
global_lines i (v ∷ vs) = global_line i v ++ global_lines (i + 1) vs

abbrev pub shown_globals : Option (List Value) → Text
shown_globals None = no_part
shown_globals (Some vs) = global_lines 0 vs

-- the line of so many bytes from an address on, which are in the memory
abbrev pub shown_bytes : ℕ → ℕ → Option (List ℕ) → Text
shown_bytes at len None = no_part
shown_bytes at len (Some bytes) =
    ended_line (if nat_le (at + len) (length bytes) then encode_lower (take len (drop at bytes)) else codes "outside")

-- the digits of an address in hex, with zeros before them up to eight
abbrev pub address_text : ℕ → Text
address_text n = replicate (8 - length (digits 16 false n)) 48 ++ digits 16 false n

-- the line of a row of bytes at an address; a row of zeros has none
abbrev pub row_line : ℕ → List ℕ → Text
row_line at row =
    if list_all (λ b. nat_eq b 0) row then [] else address_text at ++ (32 ∷ ended_line (encode_lower row))

-- the lines of so many rows of 16 bytes
abbrev pub row_lines : ℕ → ℕ → List ℕ → Text
row_lines zero at bytes = []
row_lines (suc n) at bytes = row_line at (take 16 bytes) ++ row_lines n (at + 16) (drop 16 bytes)

abbrev pub shown_rows : Option (List ℕ) → Text
shown_rows None = no_part
shown_rows (Some bytes) = row_lines (length bytes / 16) 0 bytes

-- what the pack of a namespace shows of a world: its answer, its globals, so many bytes of its memory from an address
-- on, and all of them
abbrev pub show_text : Text → World → Text
show_text ns w = shown (answer ns w)

abbrev pub globals_text : Text → World → Text
globals_text ns w = shown_globals (globals ns w)

abbrev pub memory_text : Text → ℕ → ℕ → World → Text
memory_text ns at len w = shown_bytes at len (memory ns w)

abbrev pub dump_text : Text → World → Text
dump_text ns w = show_text ns w ++ (globals_text ns w ++ (shown_rows (memory ns w) ++ ended_line (codes "end")))

-- the line that tells that a call was left out, since the pack still runs
abbrev pub busy_line : Text
busy_line = ended_line (codes "busy")

-- the line after the last one of a script: the ticks that happened, and the weight that was used
abbrev pub last_line : ℕ → ℕ → Text
last_line ticks used = codes "ticks " ++ (decimal ticks ++ (codes " commands " ++ ended_line (decimal used)))
