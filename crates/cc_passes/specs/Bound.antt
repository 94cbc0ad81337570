-- How many places whoever comes behind items may read. Where they name a cut of their own function's body as the next
-- piece, it reads as many as locals and operands take there.
use Rattle.std.specs.Prelude.{ℕ, zero, suc, max, List, [], ◌∷◌, ℤ, pos, negsuc, Option, Some, None, option_map}
use Rattle.std.specs.Prelude.{slice_get, unwrap_or, Bool, false, if◌then◌else◌, codes}
use Rattle.mc_nbt.specs.Tree.{Tree, Part, tree_same}
use Rattle.mc_cmd.specs.Form.{Text}
use Rattle.cc_line.specs.Sight.{Store}
use Rattle.cc_line.specs.Place.{score_places}
use Rattle.cc_line.specs.Key.{body_piece, id_tree}
use Rattle.cc_line.specs.State.{Site}
use Rattle.cc_line.specs.Step.{Act, keep_site, place_to_site, set_site, copy_site, append_value_to, append_site}
use Rattle.cc_line.specs.Step.{erase_site, save_list, Step, run_act, when, stop_when}
use Rattle.cc_line.specs.OpenStep.{OpenAct, open_keep_site, open_place_to_site, open_set_site, open_copy_site}
use Rattle.cc_line.specs.OpenStep.{OpenStep, closed_step, open_act, open_when, ints_in}
use Rattle.cc_line.specs.Item.{Item, step_item, call_item, call_when, fill_item, fill_when, Items, no_more, first}
use Rattle.cc_names.specs.Names.{is_next}

-- ---- heights

-- The height of a cut, by its index, of a function whose cuts have these heights: the places that locals and operands
-- take at it. Cuts count from 1.
abbrev pub height_at : List ℕ → ℕ → Option ℕ
height_at heights zero = None
height_at heights (suc i) = slice_get heights i

abbrev pub natural_of : ℤ → ℕ
natural_of (pos n) = n
natural_of (negsuc n) = 0

-- the number that the name of a piece has, 0 where a tree tells none
abbrev pub told_number : Tree → ℕ
told_number t = natural_of (ints_in (Some t) (codes "j"))

-- the height of the cut of the function of this index that a tree names, if it names one
unfoldable pub height_named : ℕ → List ℕ → Tree → Option ℕ
height_named func heights t =
    if tree_same t (id_tree (body_piece func (told_number t))) then height_at heights (told_number t) else None

-- ---- bounds

-- the greater of two bounds; none where one is missing
abbrev pub greater : Option ℕ → Option ℕ → Option ℕ
greater None b = None
greater (Some n) b = option_map (max n) b

-- Under a key something is written. That says nothing of who comes behind, unless the key is that of the next piece.
abbrev pub written_bound : Store → Text → Option ℕ
written_bound r k = if is_next r k then None else Some 0

-- of a macro line, whatever fills it
abbrev pub open_act_bound : OpenAct → Option ℕ
open_act_bound (open_keep_site p h) = written_bound p.store p.name
open_act_bound (open_place_to_site p i) = written_bound p.store p.name
open_act_bound (open_set_site p t) = written_bound p.store p.name
open_act_bound (open_copy_site p q) = written_bound p.store p.name
open_act_bound _ = Some 0

-- whether an item surely writes what the next piece is
abbrev pub names_next : Item → Bool
names_next (step_item (run_act (set_site p t))) = is_next p.store p.name
names_next _ = false

-- how many places the next piece may read at a way out, by how many it may read before
abbrev pub exit_bound : Option ℕ → Item → Option ℕ
exit_bound now (step_item (stop_when cs)) = now
exit_bound now _ = Some 0

module _ (func : ℕ) (heights : List ℕ) where
  -- the next piece is told by a tree, as a whole
  abbrev pub next_bound : List Part → Tree → Option ℕ
  next_bound [] t = height_named func heights t
  next_bound (q ∷ qs) t = None

  abbrev pub set_bound : Site → Tree → Option ℕ
  set_bound p t = if is_next p.store p.name then next_bound p.parts t else Some 0

  abbrev pub act_bound : Act → Option ℕ
  act_bound (keep_site p h) = written_bound p.store p.name
  act_bound (place_to_site p i) = written_bound p.store p.name
  act_bound (set_site p t) = set_bound p t
  act_bound (copy_site p q) = written_bound p.store p.name
  act_bound (append_value_to p t) = written_bound p.store p.name
  act_bound (append_site p q) = written_bound p.store p.name
  act_bound (erase_site p) = written_bound p.store p.name
  act_bound (save_list p) = written_bound p.store p.name
  act_bound _ = Some 0

  abbrev pub step_bound : Step → Option ℕ
  step_bound (run_act a) = act_bound a
  step_bound (when cs a) = act_bound a
  step_bound (stop_when cs) = Some 0

  abbrev pub open_step_bound : OpenStep → Option ℕ
  open_step_bound (closed_step x) = step_bound x
  open_step_bound (open_act a) = open_act_bound a
  open_step_bound (open_when cs a) = open_act_bound a

  abbrev pub open_steps_bound : List OpenStep → Option ℕ
  open_steps_bound [] = Some 0
  open_steps_bound (x ∷ xs) = greater (open_step_bound x) (open_steps_bound xs)

  -- the greatest height of the cuts that items name, and their helpers; none where the next piece may be another one
  abbrev mutual
    pub item_bound : Item → Option ℕ
    item_bound (step_item x) = step_bound x
    item_bound (call_item f xs) = items_bound xs
    item_bound (call_when cs f xs) = items_bound xs
    item_bound (fill_item f p xs) = open_steps_bound xs
    item_bound (fill_when cs f p xs) = open_steps_bound xs

    pub items_bound : Items → Option ℕ
    items_bound no_more = Some 0
    items_bound (first x xs) = greater (item_bound x) (items_bound xs)

  -- ---- who comes behind

  -- how many places the next piece may read behind an item, by how many it may read before; none where it may be any
  abbrev pub next_behind : Option ℕ → Item → Option ℕ
  next_behind now x = if names_next x then item_bound x else greater now (item_bound x)

  -- at the end of items
  abbrev pub ends_bound : Option ℕ → Items → Option ℕ
  ends_bound now no_more = now
  ends_bound now (first x xs) = ends_bound (next_behind now x) xs

  -- at each way out in the middle of items
  abbrev pub stops_bound : Option ℕ → Items → Option ℕ
  stops_bound now no_more = Some 0
  stops_bound now (first x xs) = greater (exit_bound now x) (stops_bound (next_behind now x) xs)

-- where the next piece may be any, it may read all places that are scores
abbrev pub or_all : Option ℕ → ℕ
or_all o = unwrap_or o score_places
