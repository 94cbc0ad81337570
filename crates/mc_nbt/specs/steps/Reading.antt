-- A reader of spellings by states: what has been read, byte by byte.
use Rattle.std.specs.Prelude.{ℕ, zero, suc, ◌+◌, ◌-◌, ◌*◌, ◌^◌, pos, negsuc, max, List, [], ◌∷◌, ◌++◌, length}
use Rattle.std.specs.Prelude.{Bool, true, false, ◌&&◌, nat_eq, nat_lt, nat_le, if◌then◌else◌}
use Rattle.std.specs.Prelude.{Option, Some, None, option_and_then}
use Rattle.std.specs.List.{list_all}
use Rattle.mc_nbt.specs.Word.{is_name_byte, is_key, is_string_byte, comes_before}
use Rattle.mc_nbt.specs.Beginning.{Answer, spelled, broken}
use Rattle.mc_nbt.specs.Tree.{Tree, int, string, no_items, list, compound, no_fields, kind, list_of, compound_of}

-- a list that is open, with its elements so far; or a compound that is open, with its fields so far and
-- the key whose value is being read
pub data Frame : Type 0 where
  in_list : List Tree → Frame
  in_compound : List (List ℕ × Tree) → List ℕ → Frame

-- what is open, the innermost first
abbrev pub Open : Type 0
Open = List Frame

pub data State : Type 0 where
  -- a value is wanted
  start : Open → State
  -- behind a `-`
  minus : Open → State
  -- behind the digits of an int from 0 up
  digits : Open → ℕ → State
  -- behind the digits of the int -(k + 1)
  negative : Open → ℕ → State
  -- in a string, behind these bytes of it
  quoted : Open → List ℕ → State
  -- behind a whole value other than an int
  behind : Open → Tree → State
  -- in a compound with these fields, behind these bytes of the next key
  keyed : Open → List (List ℕ × Tree) → List ℕ → State

abbrev pub given : {A : Type 0} → Bool → A → Option A
given true a = Some a
given false a = None

-- the kind that the next value has to have: that of the first element of the list
abbrev pub wanted : Open → Option ℕ
wanted [] = None
wanted (in_list [] ∷ fs) = None
wanted (in_list (t ∷ ts) ∷ fs) = Some (kind t)
wanted (in_compound es k ∷ fs) = None

abbrev pub allows : Option ℕ → ℕ → Bool
allows None k = true
allows (Some j) k = nat_eq j k

-- the last key so far
abbrev pub last_key : List (List ℕ × Tree) → Option (List ℕ)
last_key [] = None
last_key (e ∷ []) = Some e.0
last_key (e ∷ f ∷ es) = last_key (f ∷ es)

abbrev pub comes_after : Option (List ℕ) → List ℕ → Bool
comes_after None k = true
comes_after (Some l) k = comes_before l k

-- the greatest text of this length that a key may end with
abbrev pub greatest : ℕ → List ℕ
greatest zero = []
greatest (suc n) = 122 ∷ greatest n

-- whether some key that comes after the last one begins with these bytes
abbrev pub begins_key : Option (List ℕ) → List ℕ → Bool
begins_key l k = list_all is_name_byte k && (nat_le (length k) 32 && comes_after l (k ++ greatest (32 - length k)))

abbrev pub is_digit : ℕ → Bool
is_digit c = nat_le 48 c && nat_le c 57

-- `]` where a value is wanted: the list has no element
abbrev pub close_empty : Open → Option State
close_empty [] = None
close_empty (in_list [] ∷ fs) = Some (behind fs (list no_items))
close_empty (in_list (t ∷ ts) ∷ fs) = None
close_empty (in_compound es k ∷ fs) = None

-- the first byte of a value
abbrev pub begin : Open → Option ℕ → ℕ → Option State
begin fs w c =
    if nat_eq c 45 then given (allows w 0) (minus fs)
    else if nat_eq c 34 then given (allows w 1) (quoted fs [])
    else if nat_eq c 91 then given (allows w 2) (start (in_list [] ∷ fs))
    else if nat_eq c 123 then given (allows w 3) (keyed fs [] [])
    else if nat_eq c 93 then close_empty fs
    else given (is_digit c && allows w 0) (digits fs (c - 48))

-- the byte behind a value
abbrev pub after : Open → Tree → ℕ → Option State
after [] t c = None
after (in_list ts ∷ fs) t c =
    if nat_eq c 44 then Some (start (in_list (ts ++ t ∷ []) ∷ fs))
    else given (nat_eq c 93) (behind fs (list_of (ts ++ t ∷ [])))
after (in_compound es k ∷ fs) t c =
    if nat_eq c 44 then given (begins_key (Some k) []) (keyed fs (es ++ (k, t) ∷ []) [])
    else given (nat_eq c 125) (behind fs (compound_of (es ++ (k, t) ∷ [])))

abbrev pub is_bare : {A : Type 0} → List A → List ℕ → Bool
is_bare [] [] = true
is_bare [] (c ∷ k) = false
is_bare (e ∷ es) k = false

-- a byte of a key, or behind it
abbrev pub in_key : Open → List (List ℕ × Tree) → List ℕ → ℕ → Option State
in_key fs es k c =
    if nat_eq c 58 then given (is_key k && comes_after (last_key es) k) (start (in_compound es k ∷ fs))
    else if nat_eq c 125 then given (is_bare es k) (behind fs (compound no_fields))
    else given (begins_key (last_key es) (k ++ c ∷ [])) (keyed fs es (k ++ c ∷ []))

-- the digits end where the int would leave its range
abbrev pub step : State → ℕ → Option State
step (start fs) c = begin fs (wanted fs) c
step (minus fs) c = given (nat_le 49 c && nat_le c 57) (negative fs (c - 49))
step (digits fs m) c =
    if is_digit c then given (nat_lt 0 m && nat_lt (10 * m + (c - 48)) (2 ^ 31)) (digits fs (10 * m + (c - 48)))
    else after fs (int (pos m)) c
step (negative fs k) c =
    if is_digit c then given (nat_lt (10 * k + 9 + (c - 48)) (2 ^ 31)) (negative fs (10 * k + 9 + (c - 48)))
    else after fs (int (negsuc k)) c
step (quoted fs s) c =
    if nat_eq c 34 then Some (behind fs (string s))
    else given (is_string_byte c) (quoted fs (s ++ c ∷ []))
step (behind fs t) c = after fs t c
step (keyed fs es k) c = in_key fs es k c

-- the tree that has been read, where nothing is open
abbrev pub ended : State → Option Tree
ended (digits [] m) = Some (int (pos m))
ended (negative [] k) = Some (int (negsuc k))
ended (behind [] t) = Some t
ended s = None

-- how many levels deep the value at hand is
abbrev pub level : State → ℕ
level (start fs) = length fs
level (minus fs) = suc (length fs)
level (digits fs m) = suc (length fs)
level (negative fs k) = suc (length fs)
level (quoted fs s) = suc (length fs)
level (behind fs t) = suc (length fs)
level (keyed fs es k) = suc (length fs)

abbrev pub answer_at : Option Tree → ℕ → ℕ → Answer
answer_at None n d = broken n
answer_at (Some t) n d = spelled t d

abbrev pub read_on : Option State → ℕ → (State → Answer) → Answer
read_on None n more = broken n
read_on (Some s) n more = more s

-- the answer from a state on, behind n bytes, the deepest of which was d levels deep
abbrev pub read_from : State → ℕ → ℕ → List ℕ → Answer
read_from s n d [] = answer_at (ended s) n d
read_from s n d (c ∷ t) = read_on (step s c) n (λ u. read_from u (suc n) (max d (level u)) t)

abbrev pub read_text : List ℕ → Answer
read_text t = read_from (start []) 0 0 t

-- the state behind a text that is read from a state on, if none of its bytes is refused
abbrev pub run : State → List ℕ → Option State
run s [] = Some s
run s (c ∷ t) = option_and_then (λ u. run u t) (step s c)

-- the tree that a text spells, of any depth
abbrev pub built : List ℕ → Option Tree
built t = option_and_then ended (run (start []) t)
