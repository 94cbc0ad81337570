-- What was read of a world, and which states have it.
use Rattle.std.specs.Prelude.{◌≡◌, ◌≤◌, ◌∷◌, [], ℤ, List, length, map, option_map, Option, Some, MatchOption, codes}
use Rattle.mc_nbt.specs.Tree.{key}
use Rattle.mc_cmd.specs.Form.{Text}
use Rattle.mc_cmd.specs.World.{World}
use Rattle.cc_line.specs.declared.leaf.PieceId as programs
use Rattle.cc_line.specs.Key.{key_args, key_follows, PieceId, id_tree}
use Rattle.cc_line.specs.Place.{score_places}
use Rattle.cc_line.specs.Running.{Kept, kept_at}
use Rattle.cc_line.specs.Sight.{in_rest}
use Rattle.cc_line.specs.State.{State, ints}
use Rattle.cc_line.specs.View.{piece_view}
use Rattle.cc_call.specs.Law.{IsBelow}
use Rattle.cc_entries.specs.Law.{AllTell, NameTells}
use Rattle.pk_entries.specs.declared.entry.Entry.{Entry}
use Rattle.pk_entries.specs.View.{entry_view}
use Rattle.pk_sight.specs.Shown.{IsStateOf}
use Rattle.mc_inspect.specs.declared.reading.Reading.{Reading}
use Rattle.mc_inspect.specs.declared.reading.Scores.{Scores}

-- ---- pieces

-- the tree under a key is the name of this piece, or, where there is none, of no piece
abbrev pub NamesAt : World → Text → Text → Option programs.PieceId → Type 0
NamesAt w ns k o = MatchOption o ((i : PieceId) → NameTells i → kept_at w ns (key k ∷ []) ≡ Some (id_tree i) → ⊥)
    (λ i. NameTells (piece_view i) × (kept_at w ns (key k ∷ []) ≡ Some (id_tree (piece_view i))))

-- this piece follows
abbrev pub FollowsIs : PieceId → State → Type 0
FollowsIs i p = p.keys in_rest key_follows ≡ Some (id_tree i)

abbrev pub Follows : Option programs.PieceId → State → Type 0
Follows o p = MatchOption o ((i : PieceId) → NameTells i → FollowsIs i p → ⊥)
    (λ i. NameTells (piece_view i) × FollowsIs (piece_view i) p)

-- ---- frames below, and arguments

abbrev pub HasEntries : Option (List Entry) → State → Type 0
HasEntries o p = MatchOption o ((bs : List Kept) → AllTell bs → IsBelow bs p → ⊥)
    (λ es. AllTell (map entry_view es) × IsBelow (map entry_view es) p)

-- these arguments are handed in
abbrev pub IsGiven : List ℤ → State → Type 0
IsGiven zs p = p.keys in_rest key_args ≡ Some (ints zs)

abbrev pub HasArgs : Option (List ℤ) → State → Type 0
HasArgs o p = MatchOption o ((zs : List ℤ) → IsGiven zs p → ⊥) (λ zs. IsGiven zs p)

-- ---- scores

-- the scratch scores of routines that tell something between two pieces
pub record HasScores (x : Scores) (state : State) : Type 0 where
  pub d : state.scores (codes "#d") ≡ x.d
  pub e : state.scores (codes "#e") ≡ x.e
  pub g : state.scores (codes "#g") ≡ x.g
  pub k : state.scores (codes "#k") ≡ x.k
  pub m : state.scores (codes "#m") ≡ x.m
  pub n : state.scores (codes "#n") ≡ x.n
  pub p : state.scores (codes "#p") ≡ x.p
  pub q : state.scores (codes "#q") ≡ x.q
  pub r : state.scores (codes "#r") ≡ x.r
  pub s : state.scores (codes "#s") ≡ x.s
  pub u : state.scores (codes "#u") ≡ x.u
  pub v : state.scores (codes "#v") ≡ x.v

-- ---- all of it

-- the state has what was read
pub record IsReading (x : Reading) (p : State) : Type 0 where
  pub places : p.places ≡ x.places.items
  pub has_scores : score_places ≤ length x.places.items
  pub follows : Follows x.follows p
  pub entries : HasEntries (option_map (λ v. v.items) x.entries) p
  pub args : HasArgs (option_map (λ v. v.items) x.args) p
  pub scores : HasScores x.scores p

-- a world shows some state, and each that it shows has what was read
pub record IsRead (ns : Text) (w : World) (x : Reading) : Type 0 where
  pub state : State
  pub is_shown : IsStateOf ns w state
  pub each : (p : State) → IsStateOf ns w p → IsReading x p
