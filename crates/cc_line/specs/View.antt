-- The steps and items that the code's values stand for.
use Rattle.std.specs.Prelude.{ℕ, ℤ, pos, List, [], ◌∷◌, ◌++◌, Option, Some, None, codes, map, replicate}
use Rattle.std.specs.Fmt.{decimal}
use Rattle.mc_nbt.specs.Tree.{Tree, int, list, no_items, compound, no_fields}
use Rattle.mc_nbt.specs.Tree as tree
use Rattle.mc_cmd.specs.Form.{Text}
use Rattle.mc_cmd.specs.steps.OpenText as open_text
use Rattle.mc_cmd.specs.View.{op_view, cmp_view, range_view}
use Rattle.cc_line.specs.declared.spot.Scratch.{Scratch}
use Rattle.cc_line.specs.declared.spot.Scratch.TheVariants as scratches
use Rattle.cc_line.specs.declared.spot.Stem.{Stem}
use Rattle.cc_line.specs.declared.spot.Stem.TheVariants as stems
use Rattle.cc_line.specs.declared.spot.Spot.{Spot}
use Rattle.cc_line.specs.declared.spot.Spot.TheVariants as spots
use Rattle.cc_line.specs.declared.site.Store.{Store}
use Rattle.cc_line.specs.declared.site.Store.TheVariants as stores
use Rattle.cc_line.specs.declared.site.Key.{Key}
use Rattle.cc_line.specs.declared.site.Key.TheVariants as keys
use Rattle.cc_line.specs.declared.site.Part.{Part}
use Rattle.cc_line.specs.declared.site.Part.TheVariants as parts
use Rattle.cc_line.specs.declared.site.Below.{Below}
use Rattle.cc_line.specs.declared.site.Below.TheVariants as belows
use Rattle.cc_line.specs.declared.site.Site.{Site}
use Rattle.cc_line.specs.declared.site.OpenPart.{OpenPart}
use Rattle.cc_line.specs.declared.site.OpenPart.TheVariants as open_parts
use Rattle.cc_line.specs.declared.site.OpenBelow.{OpenBelow}
use Rattle.cc_line.specs.declared.site.OpenBelow.TheVariants as open_belows
use Rattle.cc_line.specs.declared.site.OpenSite.{OpenSite}
use Rattle.cc_line.specs.declared.leaf.PieceId.{PieceId}
use Rattle.cc_line.specs.declared.leaf.PieceId.TheVariants as ids
use Rattle.cc_line.specs.declared.leaf.Leaf.{Leaf}
use Rattle.cc_line.specs.declared.leaf.Leaf.TheVariants as leaves
use Rattle.cc_line.specs.declared.step.Act.{Act}
use Rattle.cc_line.specs.declared.step.Act.TheVariants as acts
use Rattle.cc_line.specs.declared.step.Check.{Check}
use Rattle.cc_line.specs.declared.step.Check.TheVariants as checks
use Rattle.cc_line.specs.declared.step.Cond.{Cond}
use Rattle.cc_line.specs.declared.step.Cond.TheVariants as conds
use Rattle.cc_line.specs.declared.step.Conds.{Conds}
use Rattle.cc_line.specs.declared.step.Conds.TheVariants as lists
use Rattle.cc_line.specs.declared.step.Step.{Step}
use Rattle.cc_line.specs.declared.step.Step.TheVariants as steps
use Rattle.cc_line.specs.declared.open_step.OpenAct.{OpenAct}
use Rattle.cc_line.specs.declared.open_step.OpenAct.TheVariants as open_acts
use Rattle.cc_line.specs.declared.open_step.OpenStep.{OpenStep}
use Rattle.cc_line.specs.declared.open_step.OpenStep.TheVariants as open_steps
use Rattle.cc_line.specs.declared.name.Name.{Name}
use Rattle.cc_line.specs.declared.name.Name.TheVariants as names
use Rattle.cc_line.specs.declared.item.Item.{Item, fold-Item}
use Rattle.cc_line.specs.declared.item.Item.TheOpen.{Item-F}
use Rattle.cc_line.specs.Sight as sight
use Rattle.cc_line.specs.Place as place
use Rattle.cc_line.specs.Key as key
use Rattle.cc_line.specs.State as state
use Rattle.cc_line.specs.Step as spec
use Rattle.cc_line.specs.OpenStep as opened
use Rattle.cc_line.specs.Item as item
use Rattle.cc_line.specs.Running.{bare_entry}
use Rattle.cc_line.specs.Table.{table_tree}

-- ---- scores

-- the holder of a scratch score, and that of a spot
abbrev pub scratch_text : Scratch → Text
scratch_text scratches.A = codes "#a"
scratch_text scratches.B = codes "#b"
scratch_text scratches.C = codes "#c"
scratch_text scratches.D = codes "#d"
scratch_text scratches.E = codes "#e"
scratch_text scratches.F = codes "#f"
scratch_text scratches.G = codes "#g"
scratch_text scratches.H = codes "#h"
scratch_text scratches.I = codes "#i"
scratch_text scratches.K = codes "#k"
scratch_text scratches.M = codes "#m"
scratch_text scratches.N = codes "#n"
scratch_text scratches.P = codes "#p"
scratch_text scratches.Q = codes "#q"
scratch_text scratches.R = codes "#r"
scratch_text scratches.S = codes "#s"
scratch_text scratches.U = codes "#u"
scratch_text scratches.V = codes "#v"
scratch_text scratches.X = codes "#x"
scratch_text scratches.Y = codes "#y"
scratch_text scratches.Z = codes "#z"
scratch_text scratches.Trap = codes "#t"
scratch_text scratches.Charge = codes "#w"
scratch_text scratches.Two = codes "#e1"
scratch_text scratches.ThirtyTwo = codes "#e5"
scratch_text scratches.HalfWord = codes "#e16"
scratch_text scratches.Least = codes "#e31"
scratch_text scratches.Window = codes "#mb"
scratch_text scratches.Four = codes "#e2"
scratch_text scratches.PageWords = codes "#e14"
scratch_text scratches.Byte0 = codes "#b0"
scratch_text scratches.Byte1 = codes "#b1"
scratch_text scratches.Byte2 = codes "#b2"
scratch_text scratches.Byte3 = codes "#b3"
scratch_text scratches.Half0 = codes "#c0"
scratch_text scratches.Half1 = codes "#c1"
scratch_text scratches.Half2 = codes "#c2"
scratch_text scratches.Top0 = codes "#d0"
scratch_text scratches.Top1 = codes "#d1"
scratch_text scratches.Top2 = codes "#d2"
scratch_text scratches.Top3 = codes "#d3"
scratch_text scratches.Rest1 = codes "#f1"
scratch_text scratches.Rest2 = codes "#f2"
scratch_text scratches.Rest3 = codes "#f3"

-- the stem of a family of standing scores
abbrev pub stem_text : Stem → Text
stem_text stems.Byte = codes "#b"
stem_text stems.Top = codes "#d"
stem_text stems.Half = codes "#c"
stem_text stems.Rest = codes "#f"

abbrev pub spot_text : Spot → Text
spot_text (spots.Scratch h) = scratch_text h
spot_text (spots.Place i) = 35 ∷ decimal i

abbrev pub spot_view : Spot → place.Spot
spot_view (spots.Scratch h) = place.scratch (scratch_text h)
spot_view (spots.Place i) = place.placed i

-- ---- paths

abbrev pub store_view : Store → sight.Store
store_view stores.Io = sight.in_io
store_view stores.Memory = sight.in_memory
store_view stores.Rest = sight.in_rest

-- the text of a key
abbrev pub key_text : Key → Text
key_text keys.State = codes "state"
key_text keys.Result = codes "result"
key_text keys.Trap = codes "trap"
key_text keys.Memory = codes "mem"
key_text keys.Globals = codes "g"
key_text keys.Frame = codes "t"
key_text keys.List = codes "f"
key_text keys.Below = codes "b"
key_text keys.Entry = codes "y"
key_text keys.Next = codes "n"
key_text keys.Follows = codes "p"
key_text keys.Args = codes "a"
key_text keys.End = codes "d"
key_text keys.Fail = codes "e"
key_text keys.Templates = codes "z"
key_text keys.Filling = codes "q"
key_text keys.Sched = codes "h"
key_text keys.Table = codes "k"
key_text keys.Choice = codes "v"
key_text keys.LowByte = codes "low"
key_text keys.HighByte = codes "high"
key_text keys.ByteAnd = codes "and"
key_text keys.RaisedAnd = codes "raised"
key_text keys.ShiftLeft = codes "shl"
key_text keys.ShiftRightSigned = codes "shrs"
key_text keys.ShiftRight = codes "shru"
key_text keys.RotateLeft = codes "rotl"
key_text keys.RotateRight = codes "rotr"
key_text keys.Index = codes "k"
key_text keys.Number = codes "j"
key_text keys.Page = codes "p"
key_text keys.Place = codes "i"
key_text keys.Byte = codes "r"
key_text keys.A0 = codes "a0"
key_text keys.A1 = codes "a1"
key_text keys.A2 = codes "a2"
key_text keys.A3 = codes "a3"
key_text keys.A4 = codes "a4"
key_text keys.A5 = codes "a5"
key_text keys.B0 = codes "b0"
key_text keys.B1 = codes "b1"
key_text keys.B2 = codes "b2"
key_text keys.B3 = codes "b3"
key_text keys.B4 = codes "b4"
key_text keys.B5 = codes "b5"

abbrev pub part_view : Part → tree.Part
part_view (parts.Key k) = tree.key (key_text k)
part_view (parts.Number n) = tree.key (decimal n)
part_view (parts.Place i) = tree.place i

abbrev pub below_view : Below → List tree.Part
below_view belows.Nothing = []
below_view (belows.One p) = part_view p ∷ []
below_view (belows.Two p q) = part_view p ∷ (part_view q ∷ [])
below_view (belows.Three p q r) = part_view p ∷ (part_view q ∷ (part_view r ∷ []))

abbrev pub site_view : Site → state.Site
site_view p = record { store = store_view p.store; name = key_text p.key; parts = below_view p.below }

abbrev pub open_part_view : OpenPart → open_text.OpenPart
open_part_view (open_parts.Part p) = open_text.step (part_view p)
open_part_view (open_parts.Told k) = open_text.place_of (key_text k)

abbrev pub open_below_view : OpenBelow → List open_text.OpenPart
open_below_view open_belows.Nothing = []
open_below_view (open_belows.One p) = open_part_view p ∷ []
open_below_view (open_belows.Two p q) = open_part_view p ∷ (open_part_view q ∷ [])

abbrev pub open_site_view : OpenSite → opened.OpenSite
open_site_view p = record { store = store_view p.store; name = key_text p.key; parts = open_below_view p.below }

-- ---- trees

abbrev pub piece_view : PieceId → key.PieceId
piece_view (ids.Body f j) = key.body_piece f j
piece_view (ids.Init j) = key.init_piece j
piece_view (ids.Shared j) = key.shared_piece j
piece_view (ids.End w) = key.end_piece w

abbrev pub zeros : ℕ → Tree
zeros n = state.ints (replicate n (pos 0))

-- the tree of a leaf
abbrev pub leaf_tree : Leaf → Tree
leaf_tree (leaves.Int z) = int z
leaf_tree leaves.EmptyList = list no_items
leaf_tree leaves.EmptyCompound = compound no_fields
leaf_tree (leaves.Zeros n) = zeros n
leaf_tree (leaves.Piece i) = key.id_tree (piece_view i)
leaf_tree (leaves.Waiting i n) = bare_entry (piece_view i) n
leaf_tree (leaves.Table t) = table_tree t

-- ---- steps

abbrev pub act_view : Act → spec.Act
act_view (acts.SetSpot x z) = spec.set_spot (spot_view x) z
act_view (acts.Increase x n) = spec.increase (spot_view x) n
act_view (acts.Decrease x n) = spec.decrease (spot_view x) n
act_view (acts.Combine x op y) = spec.combine (spot_view x) (op_view op) (spot_view y)
act_view (acts.SetPlace i z) = spec.set_place i z
act_view (acts.CopyPlace i j) = spec.copy_place i j
act_view (acts.LoadPlace h i) = spec.load_place (scratch_text h) i
act_view (acts.KeepPlace i h) = spec.keep_place i (scratch_text h)
act_view (acts.LoadSite h p) = spec.load_site (scratch_text h) (site_view p)
act_view (acts.KeepSite p h) = spec.keep_site (site_view p) (scratch_text h)
act_view (acts.PlaceToSite p i) = spec.place_to_site (site_view p) i
act_view (acts.SiteToPlace i p) = spec.site_to_place i (site_view p)
act_view (acts.SetSite p t) = spec.set_site (site_view p) (leaf_tree t)
act_view (acts.CopySite p q) = spec.copy_site (site_view p) (site_view q)
act_view (acts.AppendLeaf p t) = spec.append_value_to (site_view p) (leaf_tree t)
act_view (acts.AppendSite p q) = spec.append_site (site_view p) (site_view q)
act_view (acts.EraseSite p) = spec.erase_site (site_view p)
act_view (acts.OpenPlace i) = spec.open_place i
act_view (acts.MakeZeros n) = spec.make_list (replicate n (pos 0))
act_view (acts.SaveList p) = spec.save_list (site_view p)
act_view (acts.RestoreList p) = spec.restore_list (site_view p)

abbrev pub check_view : Check → spec.Check
check_view (checks.InRange x r) = spec.in_range (spot_view x) (range_view r)
check_view (checks.Compare x c y) = spec.compare (spot_view x) (cmp_view c) (spot_view y)
check_view (checks.Stands p) = spec.stands (site_view p)

abbrev pub cond_view : Cond → spec.Cond
cond_view (conds.Holds c) = spec.holds (check_view c)
cond_view (conds.Fails c) = spec.fails (check_view c)

abbrev pub conds_view : Conds → List spec.Cond
conds_view (lists.One x) = cond_view x ∷ []
conds_view (lists.Two x y) = cond_view x ∷ (cond_view y ∷ [])

abbrev pub step_view : Step → spec.Step
step_view (steps.Run a) = spec.run_act (act_view a)
step_view (steps.When cs a) = spec.when (conds_view cs) (act_view a)
step_view (steps.StopWhen cs) = spec.stop_when (conds_view cs)

abbrev pub steps_view : List Step → List spec.Step
steps_view xs = map step_view xs

-- ---- macro lines

abbrev pub open_act_view : OpenAct → opened.OpenAct
open_act_view (open_acts.SetSpot x n) = opened.open_set_spot (spot_view x) (key_text n)
open_act_view (open_acts.Combine x op h n) =
    opened.open_combine (spot_view x) (op_view op) (stem_text h) (key_text n)
open_act_view (open_acts.LoadSite h p) = opened.open_load_site (scratch_text h) (open_site_view p)
open_act_view (open_acts.KeepSite p h) = opened.open_keep_site (open_site_view p) (scratch_text h)
open_act_view (open_acts.PlaceToSite p i) = opened.open_place_to_site (open_site_view p) i
open_act_view (open_acts.SiteToPlace i p) = opened.open_site_to_place i (open_site_view p)
open_act_view (open_acts.SetSite p t) = opened.open_set_site (open_site_view p) (leaf_tree t)
open_act_view (open_acts.CopySite p q) = opened.open_copy_site (open_site_view p) (open_site_view q)

abbrev pub open_step_view : OpenStep → opened.OpenStep
open_step_view (open_steps.Closed x) = opened.closed_step (step_view x)
open_step_view (open_steps.Run a) = opened.open_act (open_act_view a)
open_step_view (open_steps.When cs a) = opened.open_when (conds_view cs) (open_act_view a)

abbrev pub open_steps_view : List OpenStep → List opened.OpenStep
open_steps_view xs = map open_step_view xs

-- ---- items

abbrev pub items_from : List item.Item → item.Items
items_from [] = item.no_more
items_from (x ∷ xs) = item.first x (items_from xs)

-- a call, always or where conditions hold
abbrev pub call_from : Option Conds → Text → item.Items → item.Item
call_from None f xs = item.call_item f xs
call_from (Some cs) f xs = item.call_when (conds_view cs) f xs

abbrev pub fill_from : Option Conds → Text → state.Site → List opened.OpenStep → item.Item
fill_from None f p xs = item.fill_item f p xs
fill_from (Some cs) f p xs = item.fill_when (conds_view cs) f p xs

-- the text of a helper's name
abbrev pub name_text : Name → Text
name_text (names.Plain f) = f.now
name_text (names.Numbered f n) = f.now ++ decimal n

-- the step that sets these ints as the table in which numbers are looked up
abbrev pub table_step : List ℤ → spec.Step
table_step zs = spec.run_act (spec.set_site (state.at_key sight.in_rest key.key_table) (state.ints zs))

-- the lines of a helper that looks them up in a table of its own
abbrev pub look_up_steps : List ℤ → List opened.OpenStep → List opened.OpenStep
look_up_steps zs xs = opened.closed_step (table_step zs) ∷ xs

-- one level, with each item inside already seen
abbrev pub item_from : Item-F item.Item → item.Item
item_from (Item-F.Step x) = item.step_item (step_view x)
item_from (Item-F.Call cs f xs) = call_from cs (name_text f) (items_from xs.items)
item_from (Item-F.Fill cs f p xs) = fill_from cs (name_text f) (site_view p) (open_steps_view xs.items)
item_from (Item-F.LookUp f p zs xs) =
    item.fill_item (name_text f) (site_view p) (look_up_steps zs.items (open_steps_view xs.items))
item_from (Item-F.Table zs) = item.step_item (table_step zs.items)

abbrev pub item_view : Item → item.Item
item_view = fold-Item item.Item item_from

abbrev pub items_view : List Item → item.Items
items_view xs = items_from (map item_view xs)
