-- The same reader with no more of each value than its kind, and of each compound its last key.
use Rattle.std.specs.Prelude.{◌≡◌, ℕ, suc, ◌+◌, ◌-◌, ◌*◌, ◌^◌, max, List, [], ◌∷◌, ◌++◌, length, map}
use Rattle.std.specs.Prelude.{Bool, true, false, ◌&&◌, nat_eq, nat_lt, nat_le, if◌then◌else◌, Option, Some, None}
use Rattle.mc_nbt.specs.Word.{is_key, is_string_byte}
use Rattle.mc_nbt.specs.Beginning as beginning
use Rattle.mc_nbt.specs.Beginning.{Answer, spelled, Reaches, SpellsNone}
use Rattle.mc_nbt.specs.Spelling.{Spells}
use Rattle.mc_nbt.specs.Tree.{Tree, depth, kind}
use Rattle.mc_nbt.specs.steps.Reading as reading
use Rattle.mc_nbt.specs.steps.Reading.{State, Open, Frame, given, allows, comes_after, begins_key, is_digit, last_key}

-- a list that is open, with the kind of its elements if it has one; a compound that is open, with the key
-- whose value is being read
pub data Mark : Type 0 where
  of_list : Option ℕ → Mark
  of_compound : List ℕ → Mark

abbrev pub Marks : Type 0
Marks = List Mark

-- the states, with marks; `key` has the last key of the compound, if there is one, and the bytes of the next
pub data Scan : Type 0 where
  start : Marks → Scan
  minus : Marks → Scan
  digits : Marks → ℕ → Scan
  negative : Marks → ℕ → Scan
  quoted : Marks → Scan
  behind : Marks → ℕ → Scan
  keyed : Marks → Option (List ℕ) → List ℕ → Scan

abbrev pub wanted : Marks → Option ℕ
wanted [] = None
wanted (of_list o ∷ ms) = o
wanted (of_compound k ∷ ms) = None

abbrev pub close_empty : Marks → Option Scan
close_empty [] = None
close_empty (of_list None ∷ ms) = Some (behind ms 2)
close_empty (of_list (Some k) ∷ ms) = None
close_empty (of_compound k ∷ ms) = None

abbrev pub begin : Marks → Option ℕ → ℕ → Option Scan
begin ms w c =
    if nat_eq c 45 then given (allows w 0) (minus ms)
    else if nat_eq c 34 then given (allows w 1) (quoted ms)
    else if nat_eq c 91 then given (allows w 2) (start (of_list None ∷ ms))
    else if nat_eq c 123 then given (allows w 3) (keyed ms None [])
    else if nat_eq c 93 then close_empty ms
    else given (is_digit c && allows w 0) (digits ms (c - 48))

-- the kind of a list's elements once one more is there
abbrev pub first_kind : Option ℕ → ℕ → ℕ
first_kind None k = k
first_kind (Some j) k = j

abbrev pub after : Marks → ℕ → ℕ → Option Scan
after [] k c = None
after (of_list o ∷ ms) k c =
    if nat_eq c 44 then Some (start (of_list (Some (first_kind o k)) ∷ ms))
    else given (nat_eq c 93) (behind ms 2)
after (of_compound l ∷ ms) k c =
    if nat_eq c 44 then given (begins_key (Some l) []) (keyed ms (Some l) [])
    else given (nat_eq c 125) (behind ms 3)

abbrev pub is_bare : Option (List ℕ) → List ℕ → Bool
is_bare None [] = true
is_bare None (c ∷ k) = false
is_bare (Some l) k = false

abbrev pub in_key : Marks → Option (List ℕ) → List ℕ → ℕ → Option Scan
in_key ms l k c =
    if nat_eq c 58 then given (is_key k && comes_after l k) (start (of_compound k ∷ ms))
    else if nat_eq c 125 then given (is_bare l k) (behind ms 3)
    else given (begins_key l (k ++ c ∷ [])) (keyed ms l (k ++ c ∷ []))

abbrev pub step : Scan → ℕ → Option Scan
step (start ms) c = begin ms (wanted ms) c
step (minus ms) c = given (nat_le 49 c && nat_le c 57) (negative ms (c - 49))
step (digits ms m) c =
    if is_digit c then given (nat_lt 0 m && nat_lt (10 * m + (c - 48)) (2 ^ 31)) (digits ms (10 * m + (c - 48)))
    else after ms 0 c
step (negative ms k) c =
    if is_digit c then given (nat_lt (10 * k + 9 + (c - 48)) (2 ^ 31)) (negative ms (10 * k + 9 + (c - 48)))
    else after ms 0 c
step (quoted ms) c = if nat_eq c 34 then Some (behind ms 1) else given (is_string_byte c) (quoted ms)
step (behind ms k) c = after ms k c
step (keyed ms l k) c = in_key ms l k c

abbrev pub has_ended : Scan → Bool
has_ended (digits [] m) = true
has_ended (negative [] k) = true
has_ended (behind [] k) = true
has_ended s = false

abbrev pub level : Scan → ℕ
level (start ms) = length ms
level (minus ms) = suc (length ms)
level (digits ms m) = suc (length ms)
level (negative ms k) = suc (length ms)
level (quoted ms) = suc (length ms)
level (behind ms k) = suc (length ms)
level (keyed ms l k) = suc (length ms)

-- how deep a spelled tree is; or how many bytes begin a spelling
pub data Verdict : Type 0 where
  whole : ℕ → Verdict
  broken : ℕ → Verdict

abbrev pub verdict_at : Bool → ℕ → ℕ → Verdict
verdict_at false n d = broken n
verdict_at true n d = whole d

abbrev pub scan_on : Option Scan → ℕ → (Scan → Verdict) → Verdict
scan_on None n more = broken n
scan_on (Some s) n more = more s

abbrev pub scan_from : Scan → ℕ → ℕ → List ℕ → Verdict
scan_from s n d [] = verdict_at (has_ended s) n d
scan_from s n d (c ∷ t) = scan_on (step s c) n (λ u. scan_from u (suc n) (max d (level u)) t)

abbrev pub scan_text : List ℕ → Verdict
scan_text t = scan_from (start []) 0 0 t

-- what a state of the reader has left here
abbrev pub item_kind : List Tree → Option ℕ
item_kind [] = None
item_kind (t ∷ ts) = Some (kind t)

abbrev pub mark : Frame → Mark
mark (reading.in_list ts) = of_list (item_kind ts)
mark (reading.in_compound es k) = of_compound k

abbrev pub marks : Open → Marks
marks = map mark

abbrev pub scan_of : State → Scan
scan_of (reading.start fs) = start (marks fs)
scan_of (reading.minus fs) = minus (marks fs)
scan_of (reading.digits fs m) = digits (marks fs) m
scan_of (reading.negative fs k) = negative (marks fs) k
scan_of (reading.quoted fs s) = quoted (marks fs)
scan_of (reading.behind fs t) = behind (marks fs) (kind t)
scan_of (reading.keyed fs es k) = keyed (marks fs) (last_key es) k

abbrev pub verdict_of : Answer → Verdict
verdict_of (spelled t d) = whole d
verdict_of (beginning.broken n) = broken n

-- what a verdict says of the text: it spells a tree that is so deep; or none, and reaches so far
abbrev pub IsVerdict : List ℕ → Verdict → Type 0
IsVerdict text (whole d) = (t : Tree) × Spells text t × (d ≡ depth t)
IsVerdict text (broken n) = Reaches text n × SpellsNone text
