-- What `costs` prints of a pack: of each function of a module, of instantiation and of what is shared, how many pieces
-- the pack has and the greatest static weight of one.
use Rattle.std.specs.Prelude.{◌≡◌, ◌≤◌, ℕ, zero, suc, ◌+◌, max, List, [], ◌∷◌, ◌++◌, filter_map, codes, nat_eq}
use Rattle.std.specs.Prelude.{nat_lt, Bool, true, false, if◌then◌else◌, Option, Some, None, option_map}
use Rattle.std.specs.Prelude.{option_and_then, is_some, unwrap_or}
use Rattle.std.specs.Fmt.{decimal}
use Rattle.mc_cmd.specs.declared.TheConstants.{PIECE}
use Rattle.mc_cmd.specs.Form.{Text, cut_at}
use Rattle.mc_cmd.specs.Command.{Line, nothing, command, pattern}
use Rattle.mc_cmd.specs.Chain.{Texts, Functions, line_of, line_weight}
use Rattle.mc_cmd.specs.Layout.{full_name}
use Rattle.mc_cmd.specs.Packing.{Written, names, lines_at, pack_view}
use Rattle.mc_cmd.specs.Weight.{simple_runs}
use Rattle.mc_world.specs.WorldView.{run_of}
use Rattle.app_words.specs.Lines.{ended_line}
use Rattle.app_words.specs.Script.{address}
use Rattle.app_report.specs.declared.pieces.Group.{Group}
use Rattle.app_report.specs.declared.pieces.Group.TheVariants as groups
use Rattle.app_report.specs.declared.pieces.Piece.{Piece}
use Rattle.app_report.specs.declared.tally.Tally.{Tally}

-- ---- static weights

-- the function that a line runs, if there is one; a macro line counts as running none
abbrev pub line_runs : Line → Option Text
line_runs nothing = None
line_runs (command c) = simple_runs (run_of c)
line_runs (pattern ps) = None

-- the sum of two weights, where there are both
abbrev pub plus : Option ℕ → Option ℕ → Option ℕ
plus None o = None
plus (Some a) o = option_map (λ b. a + b) o

-- The static weight of lines over weights of functions: that of each line, and for each that runs a function that of
-- the function.
abbrev pub run_weight : (Text → Option ℕ) → Option Text → Option ℕ
run_weight weights None = Some 0
run_weight weights (Some f) = weights f

abbrev pub lines_weight : (Text → Option ℕ) → Texts → Option ℕ
lines_weight weights [] = Some 0
lines_weight weights (t ∷ ts) =
    plus (Some (line_weight (line_of t))) (plus (run_weight weights (line_runs (line_of t))) (lines_weight weights ts))

-- The static weight of a function by its full name: that of its lines. There is none where a function that is run isn't
-- there, or where more functions than so many run one another, as those of a circle do.
unfoldable pub weight_to : ℕ → Functions → Text → Option ℕ
weight_to zero functions f = None
weight_to (suc n) functions f = option_and_then (lines_weight (weight_to n functions)) (functions f)

-- A line that runs a function weighs 1 at least, so what weighs at most PIECE in all is found at this depth.
unfoldable pub static_weight : Functions → Text → Option ℕ
static_weight functions f = weight_to (suc PIECE) functions f

-- the function weighs at most so much
pub record IsLight (most : ℕ) (functions : Functions) (f : Text) : Type 0 where
  pub weight : ℕ
  pub weighs : weight_to (suc most) functions f ≡ Some weight
  pub light : weight ≤ most

-- ---- pieces

-- what a function of this name is a piece of: `fI_J` of function I, `iJ` of instantiation, `sJ` of what is shared. I
-- and J are numbers of 32 bits.
abbrev pub numbered : Group → Option ℕ → Option Group
numbered g None = None
numbered g (Some j) = Some g

abbrev pub function_group : Option (Text × Text) → Option Group
function_group None = None
function_group (Some p) = option_and_then (λ i. numbered (groups.Function i) (address.read p.1)) (address.read p.0)

abbrev pub group_of : Text → Option Group
group_of [] = None
group_of (b ∷ w) =
    if nat_eq b 102 then function_group (cut_at 95 w)
    else if nat_eq b 105 then numbered groups.Instantiation (address.read w)
    else if nat_eq b 115 then numbered groups.Shared (address.read w)
    else None

-- pieces of functions from so many on aren't told
abbrev pub is_told : ℕ → Group → Bool
is_told funcs (groups.Function i) = nat_lt i funcs
is_told funcs g = true

abbrev pub told_group : ℕ → Option Group → Option Group
told_group funcs None = None
told_group funcs (Some g) = if is_told funcs g then Some g else None

-- the pieces that are told, each with its weight
abbrev pub weight_in : Written → Text → ℕ
weight_in p name = unwrap_or (static_weight (pack_view p).functions (full_name p.index.ns name)) 0

abbrev pub piece_in : Written → ℕ → Text → Option Piece
piece_in p funcs name =
    option_map (λ g. record { group = g; weight = weight_in p name }) (told_group funcs (group_of name))

abbrev pub told_pieces : Written → ℕ → List Piece
told_pieces p funcs = filter_map (piece_in p funcs) (names p)

-- each piece of the pack weighs at most PIECE
abbrev pub ArePiecesLight : Written → Type 0
ArePiecesLight p = (name : Text) (ts : Texts) → is_some (group_of name) ≡ true → lines_at p name ≡ Some ts
    → IsLight PIECE (pack_view p).functions (full_name p.index.ns name)

-- ---- the lines

-- how many pieces there are, and the greatest weight of one, 0 where there is none
abbrev pub no_piece : Tally
no_piece = record { pieces = 0; heaviest = 0 }

abbrev pub with_piece : Tally → ℕ → Tally
with_piece t weight = record { pieces = t.pieces + 1; heaviest = max t.heaviest weight }

-- those of the pieces whose group passes a test
abbrev pub tally : (Group → Bool) → List Piece → Tally
tally test [] = no_piece
tally test (q ∷ qs) = if test q.group then with_piece (tally test qs) q.weight else tally test qs

abbrev pub same_group : Group → Group → Bool
same_group (groups.Function i) (groups.Function j) = nat_eq i j
same_group groups.Instantiation groups.Instantiation = true
same_group groups.Shared groups.Shared = true
same_group g h = false

abbrev pub cost_line : Text → Tally → Text
cost_line what t =
    what ++ (codes " pieces " ++ (decimal t.pieces ++ (codes " heaviest " ++ ended_line (decimal t.heaviest))))

-- the lines of the first so many functions
abbrev pub function_lines : ℕ → List Piece → Text
function_lines zero qs = []
function_lines (suc n) qs =
    function_lines n qs ++ cost_line (102 ∷ decimal n) (tally (same_group (groups.Function n)) qs)

abbrev pub costs_lines : ℕ → List Piece → Text
costs_lines funcs qs =
    function_lines funcs qs
    ++ (cost_line (codes "init") (tally (same_group groups.Instantiation) qs)
    ++ (cost_line (codes "shared") (tally (same_group groups.Shared) qs)
    ++ cost_line (codes "total") (tally (λ g. true) qs)))

-- what is printed of a pack and the functions below so many
abbrev pub costs_text : Written → ℕ → Text
costs_text p funcs = costs_lines funcs (told_pieces p funcs)
