-- When items are short: what their lines lay down has a short text, and few lines are filled. The lines of such items,
-- where they weigh no more than a piece may, can be kept in files under every namespace, and so can their helpers'.
use Rattle.std.specs.Prelude.{List, length, Bool, true, false, ◌&&◌, nat_le}
use Rattle.std.specs.List.{AllByRecursion, list_all}
use Rattle.mc_nbt.specs.Spelling.{tree_text}
use Rattle.mc_nbt.specs.Tree.{Tree}
use Rattle.mc_cmd.specs.Form.{lacks}
use Rattle.mc_cmd.specs.Lines.{IsShort}
use Rattle.cc_line.specs.Item.{Helper, Item, step_item, call_item, call_when, fill_item, fill_when}
use Rattle.cc_line.specs.Item.{Items, no_more, first}
use Rattle.cc_line.specs.Key.{PieceId, id_tree}
use Rattle.cc_line.specs.OpenStep.{OpenAct, OpenStep, open_combine, open_copy_site, open_keep_site, open_load_site}
use Rattle.cc_line.specs.OpenStep.{closed_step, open_act, open_when}
use Rattle.cc_line.specs.State.{ints}
use Rattle.cc_line.specs.Step.{Act, set_site, append_value_to, make_list, Step, run_act, when, stop_when}

-- ---- files

-- each of these functions can be kept in a file
abbrev pub AllShort : List Helper → Type 0
AllShort hs = AllByRecursion (λ h. IsShort h.lines) hs

-- ---- trees and names

-- the text of a tree has no line feed
unfoldable pub tree_bare : Tree → Bool
tree_bare t = lacks 10 (tree_text t)

-- nor has it more than 34,000 bytes
unfoldable pub tree_short : Tree → Bool
tree_short t = nat_le (length (tree_text t)) 34000 && lacks 10 (tree_text t)

-- the name of a piece has at most 60 bytes, and no line feed, as it has where its numbers are ints
unfoldable pub id_short : PieceId → Bool
id_short i = nat_le (length (tree_text (id_tree i))) 60 && lacks 10 (tree_text (id_tree i))

-- ---- steps

-- the tree that an act lays down is short
abbrev pub act_short : Act → Bool
act_short (set_site p t) = tree_short t
act_short (append_value_to p t) = tree_short t
act_short (make_list zs) = tree_short (ints zs)
act_short _ = true

abbrev pub acts_short : List Act → Bool
acts_short acts = list_all act_short acts

abbrev pub step_short : Step → Bool
step_short (run_act a) = act_short a
step_short (when cs a) = act_short a
step_short (stop_when cs) = true

abbrev pub steps_short : List Step → Bool
steps_short xs = list_all step_short xs

-- ---- lines that are filled

-- the tree that an act lays down has no line feed, however long it is
abbrev pub act_bare : Act → Bool
act_bare (set_site p t) = tree_bare t
act_bare (append_value_to p t) = tree_bare t
act_bare (make_list zs) = tree_bare (ints zs)
act_bare _ = true

abbrev pub step_bare : Step → Bool
step_bare (run_act a) = act_bare a
step_bare (when cs a) = act_bare a
step_bare (stop_when cs) = true

-- of the acts that are filled, only loads, keeps, copies, and operations with standing scores
abbrev pub open_act_bare : OpenAct → Bool
open_act_bare (open_load_site h p) = true
open_act_bare (open_keep_site p h) = true
open_act_bare (open_combine x op h m) = true
open_act_bare (open_copy_site p q) = true
open_act_bare _ = false

abbrev pub open_step_bare : OpenStep → Bool
open_step_bare (closed_step x) = step_bare x
open_step_bare (open_act a) = open_act_bare a
open_step_bare (open_when cs a) = open_act_bare a

-- at most 40 such lines
abbrev pub opens_short : List OpenStep → Bool
opens_short xs = nat_le (length xs) 40 && list_all open_step_bare xs

-- ---- items

-- the steps of items are short, and those of their helpers; where a helper is filled it has few lines
abbrev mutual
  pub item_short : Item → Bool
  item_short (step_item x) = step_short x
  item_short (call_item f xs) = items_short xs
  item_short (call_when cs f xs) = items_short xs
  item_short (fill_item f p xs) = opens_short xs
  item_short (fill_when cs f p xs) = opens_short xs

  pub items_short : Items → Bool
  items_short no_more = true
  items_short (first x xs) = item_short x && items_short xs
