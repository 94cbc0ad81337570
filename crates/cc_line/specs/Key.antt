-- What lies where in a running pack: the keys of its storages, its standing scores, and how a piece is named.
use Rattle.std.specs.Prelude.{ℕ, pos, List, [], ◌∷◌, ◌++◌, length, Bool, false, not, ◌&&◌, ◌||◌, nat_eq, nat_le, codes}
use Rattle.std.specs.List.{list_all}
use Rattle.std.specs.Fmt.{decimal}
use Rattle.std.specs.Str.{bytes_eq}
use Rattle.mc_nbt.specs.Tree.{Tree, int, compound_of}
use Rattle.mc_cmd.specs.Form.{Text}
use Rattle.cc_line.specs.Sight.{Store, in_io, in_memory, in_rest}

-- in `ns:io`, the public layout: the state, the result and the trap
abbrev pub key_state : Text
key_state = codes "state"

abbrev pub key_result : Text
key_result = codes "result"

abbrev pub key_trap : Text
key_trap = codes "trap"

-- in `ns:m`, the public layout: the pages of memory and the globals
abbrev pub key_memory : Text
key_memory = codes "mem"

abbrev pub key_globals : Text
key_globals = codes "g"

-- in `ns:c`: the innermost frame, a compound whose `f` lists its places from the 128th on
abbrev pub key_frame : Text
key_frame = codes "t"

abbrev pub key_list : Text
key_list = codes "f"

-- the frames below, the outermost first; and the next of them while a call saves its caller's places
abbrev pub key_below : Text
key_below = codes "b"

abbrev pub key_entry : Text
key_entry = codes "y"

-- the piece that is run next; and the one that a routine in pieces makes the next one when it is done
abbrev pub key_next : Text
key_next = codes "n"

abbrev pub key_follows : Text
key_follows = codes "p"

-- the arguments of a call from outside, as a list of ints
abbrev pub key_args : Text
key_args = codes "a"

-- the state in which the job ends without a trap, and that with one: 2 and 3 for a call, 0 and 4 for instantiation
abbrev pub key_end : Text
key_end = codes "d"

abbrev pub key_fail : Text
key_fail = codes "e"

-- the list parts of new frames, by function
abbrev pub key_templates : Text
key_templates = codes "z"

-- the compound with which a routine fills its macro lines
abbrev pub key_filling : Text
key_filling = codes "q"

-- within one block: the table in which a routine looks numbers up, and the compound that tells it where
abbrev pub key_table : Text
key_table = codes "k"

abbrev pub key_choice : Text
key_choice = codes "v"

-- whether anyone may write a key between two instructions
abbrev pub is_work_key : Store → Text → Bool
is_work_key in_rest k = bytes_eq key_table k || bytes_eq key_choice k
is_work_key in_io k = false
is_work_key in_memory k = false

-- standing tables: of the low and the high byte of 16 bits; of the bits that two bytes have both, and of these times
-- 256; and of the factors and divisors of shifts and rotations
abbrev pub key_low : Text
key_low = codes "low"

abbrev pub key_high : Text
key_high = codes "high"

abbrev pub key_and : Text
key_and = codes "and"

abbrev pub key_raised : Text
key_raised = codes "raised"

abbrev pub key_left : Text
key_left = codes "shl"

abbrev pub key_right_signed : Text
key_right_signed = codes "shrs"

abbrev pub key_right : Text
key_right = codes "shru"

abbrev pub key_turn_left : Text
key_turn_left = codes "rotl"

abbrev pub key_turn_right : Text
key_turn_right = codes "rotr"

-- what the scheduler keeps for itself
abbrev pub key_sched : Text
key_sched = codes "h"

-- standing scores: the trap that a piece has recorded, or 0; and the charge of a piece
abbrev pub score_trap : Text
score_trap = codes "#t"

abbrev pub score_charge : Text
score_charge = codes "#w"

-- the first address of the page of memory that is the window; 4, and 16384, the words of a page
abbrev pub score_window : Text
score_window = codes "#mb"

abbrev pub score_four : Text
score_four = codes "#e2"

abbrev pub score_page_words : Text
score_page_words = codes "#e14"

-- 2, 32, 65536 and -2147483648
abbrev pub score_two : Text
score_two = codes "#e1"

abbrev pub score_thirty_two : Text
score_thirty_two = codes "#e5"

abbrev pub score_half_word : Text
score_half_word = codes "#e16"

abbrev pub score_least : Text
score_least = codes "#e31"

-- a standing score of a family, by its number: the family's stem, and the number behind it
abbrev pub scale_of : Text → ℕ → Text
scale_of h n = h ++ decimal n

abbrev pub is_letter : ℕ → Bool
is_letter b = nat_le 97 b && nat_le b 122

-- a stem: `#` and one to 16 small letters, so that with a number from 0 up behind it it is a holder and no place's name
abbrev pub is_stem : Text → Bool
is_stem (a ∷ (b ∷ t)) = nat_eq a 35 && (list_all is_letter (b ∷ t) && nat_le (length t) 15)
is_stem _ = false

-- the scratch scores of routines, which anyone may write between two instructions: `#` and a small letter other than
-- those of the trap and of the charge
abbrev pub is_work : Text → Bool
is_work (a ∷ (b ∷ [])) = nat_eq a 35 && (nat_le 97 b && (nat_le b 122 && (not (nat_eq b 116) && not (nat_eq b 119))))
is_work _ = false

-- a piece: of a function's body, of instantiation, one of a routine that is done in pieces, or the one that ends a job
-- with so many ints of results
pub data PieceId : Type 0 where
  body_piece : ℕ → ℕ → PieceId
  init_piece : ℕ → PieceId
  shared_piece : ℕ → PieceId
  end_piece : ℕ → PieceId

-- what tells in a piece's name that it ends a job
abbrev pub key_ends : Text
key_ends = codes "e"

-- the first numbers in the names of pieces that are no function's: of routines, of instantiation, of the ends of jobs
abbrev pub group_shared : ℕ
group_shared = 100000

abbrev pub group_init : ℕ
group_init = 100001

abbrev pub group_end : ℕ
group_end = 100002

abbrev pub number_fields : ℕ → ℕ → List (Text × Tree)
number_fields i j = (codes "i", int (pos i)) ∷ ((codes "j", int (pos j)) ∷ [])

-- A piece as a compound of ints, the two numbers in the name of its function: under `i` the function of the module, or
-- one of the three numbers above, and under `j` its number there.
abbrev pub id_tree : PieceId → Tree
id_tree (body_piece f j) = compound_of (number_fields f j)
id_tree (init_piece j) = compound_of (number_fields group_init j)
id_tree (shared_piece j) = compound_of (number_fields group_shared j)
id_tree (end_piece j) = compound_of ((key_ends, int (pos 1)) ∷ number_fields group_end j)
