-- Lines of helpers that a compound fills: steps in which places of paths, and numbers, are told by the compound's
-- names.
use Rattle.std.specs.Prelude.{◌≡◌, ℕ, List, [], ◌∷◌, ◌++◌, length, map, ℤ, pos, Option, Some, None, Bool, true, false}
use Rattle.std.specs.Prelude.{not, ◌&&◌, ◌||◌, nat_le, codes}
use Rattle.std.specs.List.{list_all}
use Rattle.std.specs.Fmt.{signed_decimal}
use Rattle.mc_nbt.specs.Tree.{Tree, Fields, int, string, list, compound, of_fields, find, key, place}
use Rattle.mc_nbt.specs.Path.{is_part}
use Rattle.mc_nbt.specs.Word.{is_key, is_int}
use Rattle.mc_nbt.specs.Spelling.{tree_text}
use Rattle.mc_cmd.specs.Form.{Text}
use Rattle.mc_cmd.specs.Word.{is_natural, op_text}
use Rattle.mc_cmd.specs.Value.{parts_text}
use Rattle.mc_cmd.specs.Command.{Op, score_get, Sub, store_score}
use Rattle.mc_cmd.specs.Grammar.{simple_text, sub_text}
use Rattle.mc_cmd.specs.Pattern.{is_literal_byte}
use Rattle.mc_cmd.specs.Chain.{Texts}
use Rattle.mc_cmd.specs.steps.OpenText.{Chunk, still, named, Ints, macro_text, OpenPart, step, place_of, path_with}
use Rattle.cc_line.specs.Sight.{Store, in_rest, store_id}
use Rattle.cc_line.specs.Place.{place_name, Home, in_score, in_list, home, Spot, scratch, spot_name}
use Rattle.cc_line.specs.Key.{key_frame, key_list, is_stem}
use Rattle.cc_line.specs.State.{Site, is_frame}
use Rattle.cc_line.specs.Step.{Act, set_spot, combine, load_site, keep_site, place_to_site, site_to_place, set_site}
use Rattle.cc_line.specs.Step.{copy_site}
use Rattle.cc_line.specs.Step.{Cond, Step, run_act, when, cond_sub, step_text}
use Rattle.cc_line.specs.Fit.{place_fits, scratch_fits, spot_fits, tree_fits, is_swap, conds_fit, step_fits}

-- a path under a key, some of whose places are told by names
pub record OpenSite : Type 0 where
  pub store : Store
  pub name : Text
  pub parts : List OpenPart

pub data OpenAct : Type 0 where
  -- a spot: the number of a name
  open_set_spot : Spot → Text → OpenAct
  -- a spot by an operation with a standing score, whose holder is a stem and the number of a name
  open_combine : Spot → Op → Text → Text → OpenAct
  -- as the acts of like names
  open_load_site : Text → OpenSite → OpenAct
  open_keep_site : OpenSite → Text → OpenAct
  open_place_to_site : OpenSite → ℕ → OpenAct
  open_site_to_place : ℕ → OpenSite → OpenAct
  open_set_site : OpenSite → Tree → OpenAct
  open_copy_site : OpenSite → OpenSite → OpenAct

-- a line of such a helper: a step as it stands, an open act, or one where conditions hold
pub data OpenStep : Type 0 where
  closed_step : Step → OpenStep
  open_act : OpenAct → OpenStep
  open_when : List Cond → OpenAct → OpenStep

-- ---- with ints for the names

abbrev pub site_with : Ints → OpenSite → Site
site_with r p = record { store = p.store; name = p.name; parts = path_with r p.parts }

abbrev pub act_with : Ints → OpenAct → Act
act_with r (open_set_spot x n) = set_spot x (r n)
act_with r (open_combine x op h n) = combine x op (scratch (h ++ signed_decimal (r n)))
act_with r (open_load_site h p) = load_site h (site_with r p)
act_with r (open_keep_site p h) = keep_site (site_with r p) h
act_with r (open_place_to_site p i) = place_to_site (site_with r p) i
act_with r (open_site_to_place i p) = site_to_place i (site_with r p)
act_with r (open_set_site p t) = set_site (site_with r p) t
act_with r (open_copy_site p q) = copy_site (site_with r p) (site_with r q)

abbrev pub step_with : Ints → OpenStep → Step
step_with r (closed_step x) = x
step_with r (open_act a) = run_act (act_with r a)
step_with r (open_when cs a) = when cs (act_with r a)

abbrev pub steps_with : Ints → List OpenStep → List Step
steps_with r xs = map (step_with r) xs

-- ---- the names

-- what the compound has under a name: an int, or one from 0 up, since no holder has a minus
pub data NamedInt : Type 0 where
  an_int : Text → NamedInt
  a_natural : Text → NamedInt

abbrev pub told_name : NamedInt → Text
told_name (an_int n) = n
told_name (a_natural n) = n

abbrev pub told_fits : NamedInt → ℤ → Bool
told_fits (an_int n) z = is_int z
told_fits (a_natural n) z = is_natural z

abbrev pub part_names : List OpenPart → List NamedInt
part_names [] = []
part_names (step p ∷ ps) = part_names ps
part_names (place_of n ∷ ps) = an_int n ∷ part_names ps

abbrev pub act_names : OpenAct → List NamedInt
act_names (open_set_spot x n) = an_int n ∷ []
act_names (open_combine x op h n) = a_natural n ∷ []
act_names (open_load_site h p) = part_names p.parts
act_names (open_keep_site p h) = part_names p.parts
act_names (open_place_to_site p i) = part_names p.parts
act_names (open_site_to_place i p) = part_names p.parts
act_names (open_set_site p t) = part_names p.parts
act_names (open_copy_site p q) = part_names p.parts ++ part_names q.parts

abbrev pub step_names : OpenStep → List NamedInt
step_names (closed_step x) = []
step_names (open_act a) = act_names a
step_names (open_when cs a) = act_names a

abbrev pub steps_names : List OpenStep → List NamedInt
steps_names [] = []
steps_names (x ∷ xs) = step_names x ++ steps_names xs

-- a compound has an int, in its range, under each name
abbrev pub HasInts : Fields → List NamedInt → Type 0
HasInts fs [] = Unit {0}
HasInts fs (n ∷ ns) =
    (z : ℤ) × (find (told_name n) (of_fields fs) ≡ Some (int z)) × (told_fits n z ≡ true) × HasInts fs ns

abbrev pub HasSomeInts : Option Tree → List NamedInt → Type 0
HasSomeInts None ns = ⊥
HasSomeInts (Some (int z)) ns = ⊥
HasSomeInts (Some (string b)) ns = ⊥
HasSomeInts (Some (list ts)) ns = ⊥
HasSomeInts (Some (compound fs)) ns = HasInts fs ns

-- the ints of a compound by their names; 0 where there is none
abbrev pub int_in : Option Tree → ℤ
int_in None = pos 0
int_in (Some (int z)) = z
int_in (Some (string b)) = pos 0
int_in (Some (list ts)) = pos 0
int_in (Some (compound fs)) = pos 0

abbrev pub ints_in : Option Tree → Ints
ints_in None n = pos 0
ints_in (Some (int z)) n = pos 0
ints_in (Some (string b)) n = pos 0
ints_in (Some (list ts)) n = pos 0
ints_in (Some (compound fs)) n = int_in (find n (of_fields fs))

-- ---- the lines

-- the parts of a path behind its key, as chunks of an open text
abbrev pub parts_chunks : List OpenPart → List Chunk
parts_chunks [] = []
parts_chunks (step p ∷ ps) = still (parts_text (p ∷ [])) ∷ parts_chunks ps
parts_chunks (place_of n ∷ ps) = still (91 ∷ []) ∷ (named n ∷ (still (93 ∷ []) ∷ parts_chunks ps))

abbrev pub path_chunks : OpenSite → List Chunk
path_chunks p = still p.name ∷ parts_chunks p.parts

abbrev pub space_chunk : Chunk
space_chunk = still (32 ∷ [])

-- what stands before a command, and the command, as chunks
pub record OpenSaid : Type 0 where
  pub stores : List (List Chunk)
  pub simple : List Chunk

-- an element of the frame's list, as an open path
abbrev pub slot_site : ℕ → OpenSite
slot_site k = record { store = in_rest; name = key_frame; parts = step (key key_list) ∷ (step (place (pos k)) ∷ []) }

module _ (ns : Text) where
  -- a storage and a path
  abbrev pub place_chunks : OpenSite → List Chunk
  place_chunks p = still (store_id ns p.store) ∷ (space_chunk ∷ path_chunks p)

  -- the same between words
  abbrev pub within_chunks : Text → Text → OpenSite → List Chunk
  within_chunks v u p =
      still v
      ∷ ((still (store_id ns p.store) ∷ (space_chunk ∷ (path_chunks p ++ (space_chunk ∷ [])))) ++ (still u ∷ []))

  abbrev pub from_chunks : OpenSite → OpenSite → List Chunk
  from_chunks p q = within_chunks (codes "data modify storage ") (codes "set from storage ") p ++ place_chunks q

  abbrev pub get_chunks : OpenSite → List Chunk
  get_chunks p = still (codes "data get storage ") ∷ place_chunks p

  abbrev pub sub_chunks : Sub → List Chunk
  sub_chunks u = still (sub_text u []) ∷ []

  abbrev pub keep_chunks : OpenSite → List Chunk
  keep_chunks p = within_chunks (codes "store result storage ") (codes "int 1 ") p

  abbrev pub open_home_to_site : OpenSite → Home → OpenSaid
  open_home_to_site p (in_score i) =
      record { stores = keep_chunks p ∷ []; simple = still (simple_text (score_get (place_name i) ns)) ∷ [] }
  open_home_to_site p (in_list k) = record { stores = []; simple = from_chunks p (slot_site k) }

  abbrev pub open_site_to_home : Home → OpenSite → OpenSaid
  open_site_to_home (in_score i) p =
      record { stores = sub_chunks (store_score (place_name i) ns) ∷ []; simple = get_chunks p }
  open_site_to_home (in_list k) p = record { stores = []; simple = from_chunks (slot_site k) p }

  abbrev pub open_said : OpenAct → OpenSaid
  open_said (open_set_spot x n) = record {
    stores = [];
    simple = still (codes "scoreboard players set ")
        ∷ (still (spot_name x) ∷ (space_chunk ∷ (still ns ∷ (space_chunk ∷ (named n ∷ [])))));
  }
  open_said (open_combine x op h n) = record {
    stores = [];
    simple = still (codes "scoreboard players operation ")
        ∷ (still (spot_name x) ∷ (space_chunk ∷ (still ns ∷ (space_chunk ∷ (still (op_text op) ∷ (space_chunk
        ∷ (still h ∷ (named n ∷ (space_chunk ∷ (still ns ∷ []))))))))));
  }
  open_said (open_load_site h p) =
      record { stores = sub_chunks (store_score h ns) ∷ []; simple = get_chunks p }
  open_said (open_keep_site p h) =
      record { stores = keep_chunks p ∷ []; simple = still (simple_text (score_get h ns)) ∷ [] }
  open_said (open_place_to_site p i) = open_home_to_site p (home i)
  open_said (open_site_to_place i p) = open_site_to_home (home i) p
  open_said (open_set_site p t) = record {
    stores = [];
    simple = within_chunks (codes "data modify storage ") (codes "set value ") p ++ (still (tree_text t) ∷ []);
  }
  open_said (open_copy_site p q) = record { stores = []; simple = from_chunks p q }

-- what stands before a command, then `run `, then the command
abbrev pub front_chunks : List (List Chunk) → List Chunk → List Chunk
front_chunks [] qs = still (codes "run ") ∷ qs
front_chunks (c ∷ cs) qs = c ++ front_chunks cs qs

abbrev pub under_chunks : List (List Chunk) → List Chunk → List Chunk
under_chunks [] qs = qs
under_chunks (c ∷ cs) qs = still (codes "execute ") ∷ front_chunks (c ∷ cs) qs

abbrev pub said_chunks : OpenSaid → List Chunk
said_chunks d = under_chunks d.stores d.simple

abbrev pub cond_chunks : Text → List Cond → List (List Chunk)
cond_chunks ns cs = map (λ c. sub_chunks ns (cond_sub ns c)) cs

abbrev pub when_chunks : Text → List Cond → OpenSaid → List Chunk
when_chunks ns cs d = still (codes "execute ") ∷ front_chunks (cond_chunks ns cs ++ d.stores) d.simple

-- the line of an open step
abbrev pub open_text : Text → OpenStep → Text
open_text ns (closed_step x) = step_text ns x
open_text ns (open_act a) = macro_text (said_chunks (open_said ns a))
open_text ns (open_when cs a) = macro_text (when_chunks ns cs (open_said ns a))

abbrev pub open_texts : Text → List OpenStep → Texts
open_texts ns xs = map (open_text ns) xs

-- ---- which open steps are macro lines under every namespace

abbrev pub open_parts_fit : List OpenPart → Bool
open_parts_fit [] = true
open_parts_fit (step p ∷ ps) = is_part p && open_parts_fit ps
open_parts_fit (place_of n ∷ ps) = is_key n && open_parts_fit ps

abbrev pub open_site_fits : OpenSite → Bool
open_site_fits p =
    is_key p.name && (open_parts_fit p.parts && (nat_le (length p.parts) 15 && not (is_frame p.store p.name)))

abbrev pub has_place : List OpenPart → Bool
has_place [] = false
has_place (step p ∷ ps) = has_place ps
has_place (place_of n ∷ ps) = true

-- a path in which a name stands
abbrev pub is_open : OpenSite → Bool
is_open p = open_site_fits p && has_place p.parts

abbrev pub open_act_fits : OpenAct → Bool
open_act_fits (open_set_spot x n) = spot_fits x && is_key n
open_act_fits (open_combine x op h n) = spot_fits x && (not (is_swap op) && (is_stem h && is_key n))
open_act_fits (open_load_site h p) = scratch_fits h && is_open p
open_act_fits (open_keep_site p h) = is_open p && scratch_fits h
open_act_fits (open_place_to_site p i) = is_open p && place_fits i
open_act_fits (open_site_to_place i p) = place_fits i && is_open p
open_act_fits (open_set_site p t) = is_open p && (tree_fits t && list_all is_literal_byte (tree_text t))
open_act_fits (open_copy_site p q) =
    open_site_fits p && (open_site_fits q && (has_place p.parts || has_place q.parts))

abbrev pub open_step_fits : OpenStep → Bool
open_step_fits (closed_step x) = step_fits x
open_step_fits (open_act a) = open_act_fits a
open_step_fits (open_when cs a) = conds_fit cs && open_act_fits a

abbrev pub open_steps_fit : List OpenStep → Bool
open_steps_fit xs = list_all open_step_fits xs
