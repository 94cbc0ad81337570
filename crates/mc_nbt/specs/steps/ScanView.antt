-- The states of the scanner that the code's values stand for.
use Rattle.std.specs.Prelude.{ℕ, ◌+◌, ◌-◌, ◌*◌, ◌^◌, ℤ, pos, negsuc, List, map, reverse}
use Rattle.std.specs.Prelude.{◌&&◌, nat_lt, nat_le, Option, option_map}
use Rattle.mc_nbt.specs.steps.Reading.{given}
use Rattle.mc_nbt.specs.steps.Scanning as scanning
use Rattle.mc_nbt.specs.steps.Scanning.{Marks, Scan, Verdict}
use Rattle.mc_nbt.specs.declared.kind.TreeKind.{TreeKind}
use Rattle.mc_nbt.specs.declared.kind.TreeKind.TheVariants as kinds
use Rattle.mc_nbt.specs.declared.scan.Mark.{Mark}
use Rattle.mc_nbt.specs.declared.scan.Mark.TheVariants as marks
use Rattle.mc_nbt.specs.declared.scan.ScanState.{ScanState}
use Rattle.mc_nbt.specs.declared.scan.ScanState.TheVariants as states
use Rattle.mc_nbt.specs.declared.scan.Scanned.{Scanned}
use Rattle.mc_nbt.specs.declared.scan.Scanned.TheVariants as scanned

abbrev pub number : TreeKind → ℕ
number kinds.Int = 0
number kinds.Str = 1
number kinds.List = 2
number kinds.Compound = 3

abbrev pub mark : Mark → scanning.Mark
mark (marks.List o) = scanning.of_list (option_map number o)
mark (marks.Compound k) = scanning.of_compound k.items

-- the innermost stands last in the code
abbrev pub open_marks : List Mark → Marks
open_marks ms = reverse (map mark ms)

-- behind the digits of an int, which tells by its sign whether a `-` stands before them
abbrev pub int_at : Marks → ℤ → Scan
int_at ms (pos m) = scanning.digits ms m
int_at ms (negsuc k) = scanning.negative ms k

abbrev pub scan_state : Marks → ScanState → Scan
scan_state ms states.Start = scanning.start ms
scan_state ms states.Minus = scanning.minus ms
scan_state ms (states.Int z) = int_at ms z
scan_state ms states.Quoted = scanning.quoted ms
scan_state ms (states.Behind k) = scanning.behind ms (number k)
scan_state ms (states.Keyed l k) = scanning.keyed ms (option_map (λ v. v.items) l) k.items

-- an int with one more digit, of any size
abbrev pub with_digit : ℤ → ℕ → ℤ
with_digit (pos m) d = pos (10 * m + d)
with_digit (negsuc k) d = negsuc (10 * k + 9 + d)

-- an int with one more digit, where it keeps its range and has no needless 0 before it
abbrev pub more_digits : ℤ → ℕ → Option ℤ
more_digits (pos m) c = given (nat_lt 0 m && nat_lt (10 * m + (c - 48)) (2 ^ 31)) (pos (10 * m + (c - 48)))
more_digits (negsuc k) c = given (nat_lt (10 * k + 9 + (c - 48)) (2 ^ 31)) (negsuc (10 * k + 9 + (c - 48)))

-- the int of a `-` and a first digit
abbrev pub first_negative : ℕ → Option ℤ
first_negative c = given (nat_le 49 c && nat_le c 57) (negsuc (c - 49))

abbrev pub verdict : Scanned → Verdict
verdict (scanned.Whole d) = scanning.whole d
verdict (scanned.Broken n) = scanning.broken n
