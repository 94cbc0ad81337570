-- Steps of straight code: the command that each stands for under a namespace, and what it does to a state. What a step
-- does is total: where its command fails, nothing changes.
use Rattle.std.specs.Prelude.{◌≡◌, ◌≤◌, ◌<◌, ℕ, ◌+◌, List, [], ◌∷◌, ◌++◌, length, map, ℤ, pos, ◌+ℤ◌, ◌-ℤ◌, Option, Some}
use Rattle.std.specs.Prelude.{None, Bool, true, false, not, ◌&&◌, if◌then◌else◌, is_some, nat_lt, drop}
use Rattle.mc_nbt.specs.Tree.{Tree, int, string, list, compound}
use Rattle.mc_cmd.specs.Form.{Text}
use Rattle.mc_cmd.specs.Command.{Op, assign, Cmp, Range, Simple, score_set, score_add, score_remove, score_op}
use Rattle.mc_cmd.specs.Command.{score_get}
use Rattle.mc_cmd.specs.Command.{data_get, set_value, set_from, append_value, append_from, data_remove, return_value}
use Rattle.mc_cmd.specs.Command.{Test, scores_compare, score_matches, path_selects, Sub, if_test, unless_test}
use Rattle.mc_cmd.specs.Command.{store_score, store_data, Cmd, plain, execute}
use Rattle.mc_cmd.specs.Grammar.{cmd_text}
use Rattle.mc_cmd.specs.World.{wrapped, or_zero, operate, some_is_in, both_compare}
use Rattle.mc_cmd.specs.Chain.{Texts, cmd_weight}
use Rattle.cc_line.specs.Sight.{in_rest, store_id}
use Rattle.cc_line.specs.Place.{score_places, place_name, Home, in_score, in_list, home, Spot, scratch, placed}
use Rattle.cc_line.specs.Place.{spot_name}
use Rattle.cc_line.specs.State.{State, ints, slot, frame_path, place_at, with_place, with_score, read, with_spot}
use Rattle.cc_line.specs.State.{Site, site_path, selected, number_at, with_set, with_append, with_copy}
use Rattle.cc_line.specs.State.{with_append_copy}
use Rattle.cc_line.specs.State.{with_erased, tree_ints, with_list, with_some_list}

-- ---- what there is

pub data Act : Type 0 where
  -- scores and places that are scores: a number; a number more; a number less; an operation of two
  set_spot : Spot → ℤ → Act
  increase : Spot → ℕ → Act
  decrease : Spot → ℕ → Act
  combine : Spot → Op → Spot → Act
  -- a place, wherever it is: a number; the first as the second; to a scratch score; from one
  set_place : ℕ → ℤ → Act
  copy_place : ℕ → ℕ → Act
  load_place : Text → ℕ → Act
  keep_place : ℕ → Text → Act
  -- a path: to a scratch score; from one; from a place; to a place
  load_site : Text → Site → Act
  keep_site : Site → Text → Act
  place_to_site : Site → ℕ → Act
  site_to_place : ℕ → Site → Act
  -- a path: a value; as another path; one more element; one as another path; nothing any more
  set_site : Site → Tree → Act
  copy_site : Site → Site → Act
  append_value_to : Site → Tree → Act
  append_site : Site → Site → Act
  erase_site : Site → Act
  -- the frame: one more place that is a score; the places of its list; these to a path; from one
  open_place : ℕ → Act
  make_list : List ℤ → Act
  save_list : Site → Act
  restore_list : Site → Act

-- a score is in a range; two compare so; something stands at a path
pub data Check : Type 0 where
  in_range : Spot → Range → Check
  compare : Spot → Cmp → Spot → Check
  stands : Site → Check

pub data Cond : Type 0 where
  holds : Check → Cond
  fails : Check → Cond

-- an act; one where conditions hold; the end of the list of lines where conditions hold
pub data Step : Type 0 where
  run_act : Act → Step
  when : List Cond → Act → Step
  stop_when : List Cond → Step

-- ---- the commands

-- a command, and the stores that stand before it
pub record Said : Type 0 where
  pub stores : List Sub
  pub simple : Simple

abbrev pub says : Simple → Said
says s = record { stores = []; simple = s }

abbrev pub storing : Sub → Simple → Said
storing u s = record { stores = u ∷ []; simple = s }

module _ (ns : Text) where
  -- the storage of the innermost frame, and that of a path
  abbrev pub rest_id : Text
  rest_id = store_id ns in_rest

  abbrev pub site_id : Site → Text
  site_id p = store_id ns p.store

  -- a number to where a place is
  abbrev pub set_home : Home → ℤ → Said
  set_home (in_score i) z = says (score_set (place_name i) ns z)
  set_home (in_list k) z = says (set_value rest_id (slot k) (int z))

  -- a score from where a place is, and to there
  abbrev pub load_home : Text → Home → Said
  load_home h (in_score i) = says (score_op h ns assign (place_name i) ns)
  load_home h (in_list k) = storing (store_score h ns) (data_get rest_id (slot k))

  abbrev pub keep_home : Home → Text → Said
  keep_home (in_score i) h = says (score_op (place_name i) ns assign h ns)
  keep_home (in_list k) h = storing (store_data rest_id (slot k)) (score_get h ns)

  -- where the first place is from where the second is
  abbrev pub copy_home : Home → Home → Said
  copy_home p (in_score j) = keep_home p (place_name j)
  copy_home (in_score i) (in_list k) = load_home (place_name i) (in_list k)
  copy_home (in_list i) (in_list k) = says (set_from rest_id (slot i) rest_id (slot k))

  abbrev pub home_to_site : Site → Home → Said
  home_to_site p (in_score i) = storing (store_data (site_id p) (site_path p)) (score_get (place_name i) ns)
  home_to_site p (in_list k) = says (set_from (site_id p) (site_path p) rest_id (slot k))

  abbrev pub site_to_home : Home → Site → Said
  site_to_home (in_score i) p = storing (store_score (place_name i) ns) (data_get (site_id p) (site_path p))
  site_to_home (in_list k) p = says (set_from rest_id (slot k) (site_id p) (site_path p))

  -- the command of an act
  abbrev pub act_said : Act → Said
  act_said (set_spot x z) = says (score_set (spot_name x) ns z)
  act_said (increase x n) = says (score_add (spot_name x) ns (pos n))
  act_said (decrease x n) = says (score_remove (spot_name x) ns (pos n))
  act_said (combine x op y) = says (score_op (spot_name x) ns op (spot_name y) ns)
  act_said (set_place i z) = set_home (home i) z
  act_said (copy_place i j) = copy_home (home i) (home j)
  act_said (load_place h i) = load_home h (home i)
  act_said (keep_place i h) = keep_home (home i) h
  act_said (load_site h p) = storing (store_score h ns) (data_get (site_id p) (site_path p))
  act_said (keep_site p h) = storing (store_data (site_id p) (site_path p)) (score_get h ns)
  act_said (place_to_site p i) = home_to_site p (home i)
  act_said (site_to_place i p) = site_to_home (home i) p
  act_said (set_site p t) = says (set_value (site_id p) (site_path p) t)
  act_said (copy_site p q) = says (set_from (site_id p) (site_path p) (site_id q) (site_path q))
  act_said (append_value_to p t) = says (append_value (site_id p) (site_path p) t)
  act_said (append_site p q) = says (append_from (site_id p) (site_path p) (site_id q) (site_path q))
  act_said (erase_site p) = says (data_remove (site_id p) (site_path p))
  act_said (open_place i) = says (score_set (place_name i) ns (pos 0))
  act_said (make_list zs) = says (set_value rest_id frame_path (ints zs))
  act_said (save_list p) = says (set_from (site_id p) (site_path p) rest_id frame_path)
  act_said (restore_list p) = says (set_from rest_id frame_path (site_id p) (site_path p))

  abbrev pub check_test : Check → Test
  check_test (in_range x r) = score_matches (spot_name x) ns r
  check_test (compare x c y) = scores_compare (spot_name x) ns c (spot_name y) ns
  check_test (stands p) = path_selects (site_id p) (site_path p)

  abbrev pub cond_sub : Cond → Sub
  cond_sub (holds c) = if_test (check_test c)
  cond_sub (fails c) = unless_test (check_test c)

  abbrev pub cond_subs : List Cond → List Sub
  cond_subs cs = map cond_sub cs

-- a command behind sub-commands, if there are any
abbrev pub under_subs : List Sub → Simple → Cmd
under_subs [] s = plain s
under_subs (u ∷ us) s = execute (u ∷ us) s

abbrev pub said_command : Said → Cmd
said_command d = under_subs d.stores d.simple

-- the command of a step under a namespace
abbrev pub step_command : Text → Step → Cmd
step_command ns (run_act a) = said_command (act_said ns a)
step_command ns (when cs a) = execute (cond_subs ns cs ++ (act_said ns a).stores) (act_said ns a).simple
step_command ns (stop_when cs) = execute (cond_subs ns cs) (return_value (pos 0))

abbrev pub step_text : Text → Step → Text
step_text ns x = cmd_text (step_command ns x)

abbrev pub steps_texts : Text → List Step → Texts
steps_texts ns xs = map (step_text ns) xs

-- the weight of its line
abbrev pub step_weight : Step → ℕ
step_weight x = cmd_weight (step_command [] x)

abbrev pub steps_weight : List Step → ℕ
steps_weight [] = 0
steps_weight (x ∷ xs) = step_weight x + steps_weight xs

-- ---- what they do

-- a spot that may get a number, and an operation whose source may be unset
abbrev pub with_some_spot : State → Spot → Option ℤ → State
with_some_spot s x None = s
with_some_spot s x (Some z) = with_spot s x z

abbrev pub combined : State → Spot → Op → Option ℤ → State
combined s x op None = s
combined s x op (Some b) = with_some_spot s x (operate op (or_zero (read s x)) b)

-- a place from a score that may be unset: a score stays, an element of the list becomes 0
abbrev pub with_kept : State → ℕ → Option ℤ → State
with_kept s i None = if nat_lt i score_places then s else with_place s i (pos 0)
with_kept s i (Some z) = with_place s i z

-- a place from what a path selects: any but an int leaves an element of the list, and makes a score what `get` gives
abbrev pub with_taken : State → ℕ → Option Tree → State
with_taken s i None = if nat_lt i score_places then with_place s i (pos 0) else s
with_taken s i (Some (int z)) = with_place s i z
with_taken s i (Some (string b)) = if nat_lt i score_places then with_place s i (number_at (Some (string b))) else s
with_taken s i (Some (list ts)) = if nat_lt i score_places then with_place s i (number_at (Some (list ts))) else s
with_taken s i (Some (compound fs)) =
    if nat_lt i score_places then with_place s i (number_at (Some (compound fs))) else s

abbrev pub some_ints : Option Tree → Option (List ℤ)
some_ints None = None
some_ints (Some t) = tree_ints t

-- the state after an act
abbrev pub after_act : Act → State → State
after_act (set_spot x z) s = with_spot s x z
after_act (increase x n) s = with_spot s x (wrapped (or_zero (read s x) +ℤ pos n))
after_act (decrease x n) s = with_spot s x (wrapped (or_zero (read s x) -ℤ pos n))
after_act (combine x op y) s = combined s x op (read s y)
after_act (set_place i z) s = with_place s i z
after_act (copy_place i j) s = with_place s i (place_at s j)
after_act (load_place h i) s = with_score s h (place_at s i)
after_act (keep_place i h) s = with_kept s i (s.scores h)
after_act (load_site h p) s = with_score s h (number_at (selected s p))
after_act (keep_site p h) s = with_set s p (int (or_zero (s.scores h)))
after_act (place_to_site p i) s = with_set s p (int (place_at s i))
after_act (site_to_place i p) s = with_taken s i (selected s p)
after_act (set_site p t) s = with_set s p t
after_act (copy_site p q) s = with_copy s p (selected s q)
after_act (append_value_to p t) s = with_append s p t
after_act (append_site p q) s = with_append_copy s p (selected s q)
after_act (erase_site p) s = with_erased s p
after_act (open_place i) s = record s { places = s.places ++ (pos 0 ∷ []) }
after_act (make_list zs) s = with_list s zs
after_act (save_list p) s = with_set s p (ints (drop score_places s.places))
after_act (restore_list p) s = with_some_list s (some_ints (selected s p))

abbrev pub check_holds : Check → State → Bool
check_holds (in_range x r) s = some_is_in r (read s x)
check_holds (compare x c y) s = both_compare c (read s x) (read s y)
check_holds (stands p) s = is_some (selected s p)

abbrev pub cond_holds : Cond → State → Bool
cond_holds (holds c) s = check_holds c s
cond_holds (fails c) s = not (check_holds c s)

abbrev pub conds_hold : List Cond → State → Bool
conds_hold [] s = true
conds_hold (c ∷ cs) s = cond_holds c s && conds_hold cs s

-- the state after a step, and whether it ends its list
abbrev pub after_step : Step → State → State
after_step (run_act a) s = after_act a s
after_step (when cs a) s = if conds_hold cs s then after_act a s else s
after_step (stop_when cs) s = s

abbrev pub stops : Step → State → Bool
stops (run_act a) s = false
stops (when cs a) s = false
stops (stop_when cs) s = conds_hold cs s

-- where lines lead: whether they ended their list, the state, and the weight that they used
pub record Flow : Type 0 where
  pub stopped : Bool
  pub state : State
  pub used : ℕ

abbrev pub flow : Bool → State → ℕ → Flow
flow b s k = record { stopped = b; state = s; used = k }

-- the same behind lines of this weight
abbrev pub more : ℕ → Flow → Flow
more k f = flow f.stopped f.state (k + f.used)

abbrev pub run_steps : List Step → State → Flow
run_steps [] s = flow false s 0
run_steps (x ∷ xs) s =
    if stops x s then flow true s (step_weight x) else more (step_weight x) (run_steps xs (after_step x s))

-- ---- the places that a step needs

-- the place of a spot stands
abbrev pub SpotReady : Spot → State → Type 0
SpotReady (scratch h) s = Unit {0}
SpotReady (placed i) s = i < length s.places

abbrev pub ActReady : Act → State → Type 0
ActReady (set_spot x z) s = SpotReady x s
ActReady (increase x n) s = SpotReady x s
ActReady (decrease x n) s = SpotReady x s
ActReady (combine x op y) s = SpotReady x s × SpotReady y s
ActReady (set_place i z) s = i < length s.places
ActReady (copy_place i j) s = (i < length s.places) × (j < length s.places)
ActReady (load_place h i) s = i < length s.places
ActReady (keep_place i h) s = i < length s.places
ActReady (load_site h p) s = Unit {0}
ActReady (keep_site p h) s = Unit {0}
ActReady (place_to_site p i) s = i < length s.places
ActReady (site_to_place i p) s = i < length s.places
ActReady (set_site p t) s = Unit {0}
ActReady (copy_site p q) s = Unit {0}
ActReady (append_value_to p t) s = Unit {0}
ActReady (append_site p q) s = Unit {0}
ActReady (erase_site p) s = Unit {0}
ActReady (open_place i) s = length s.places ≡ i
ActReady (make_list zs) s = score_places ≤ length s.places
ActReady (save_list p) s = Unit {0}
-- and a list of ints stands where the frame's is taken from
ActReady (restore_list p) s = (score_places ≤ length s.places) × (zs : List ℤ) × (selected s p ≡ Some (ints zs))

abbrev pub CheckReady : Check → State → Type 0
CheckReady (in_range x r) s = SpotReady x s
CheckReady (compare x c y) s = SpotReady x s × SpotReady y s
CheckReady (stands p) s = Unit {0}

abbrev pub CondReady : Cond → State → Type 0
CondReady (holds c) s = CheckReady c s
CondReady (fails c) s = CheckReady c s

abbrev pub CondsReady : List Cond → State → Type 0
CondsReady [] s = Unit {0}
CondsReady (c ∷ cs) s = CondReady c s × CondsReady cs s

abbrev pub StepReady : Step → State → Type 0
StepReady (run_act a) s = ActReady a s
StepReady (when cs a) s = CondsReady cs s × (conds_hold cs s ≡ true → ActReady a s)
StepReady (stop_when cs) s = CondsReady cs s

-- each step that is come to finds its places
abbrev pub Ready : List Step → State → Type 0
Ready [] s = Unit {0}
Ready (x ∷ xs) s = StepReady x s × (stops x s ≡ false → Ready xs (after_step x s))
