-- What the walk over items keeps.
use Rattle.std.proofs.Common.{◌≡◌, List, [], ◌∷◌, ◌++◌, reverse, Option, Some, None, Bool, true, false, refl, sym, ap, ◌∙◌}
use Rattle.std.specs.Prelude.{◌||◌, if◌then◌else◌}
use Rattle.std.proofs.lemmas.List.{reverse-append, reverse-reverse}
use Rattle.mc_cmd.specs.Form.{Text}
use Rattle.cc_line.specs.declared.item.Item.{Item}
use Rattle.cc_line.specs.declared.step.Conds.{Conds}
use Rattle.cc_line.specs.Item as seen
use Rattle.cc_line.specs.Item.{Items, first}
use Rattle.cc_line.specs.OpenStep.{OpenStep}
use Rattle.cc_line.specs.State.{Site}
use Rattle.cc_line.specs.View.{call_from, fill_from, item_view, items_view}
use Rattle.cc_names.specs.Names.{is_next, item_speaks, items_speak, open_steps_speak, needed_before, is_needed, exit_before, exit_of, freed, is_needless, and_if_needed, with_needed_names}
use Rattle.cc_names.specs.steps.Walk.{and_kept, exit_view, need_before, way_before, when_speaks}

pub call_speaks : (cs : Option Conds) (f : Text) (xs : Items) → item_speaks (call_from cs f xs) ≡ (when_speaks cs || items_speak xs)
call_speaks None f xs = refl
call_speaks (Some cs) f xs = refl

pub fill_speaks : (cs : Option Conds) (f : Text) (p : Site) (xs : List OpenStep) → item_speaks (fill_from cs f p xs) ≡ (when_speaks cs || (is_next p.store p.name || open_steps_speak xs))
fill_speaks None f p xs = refl
fill_speaks (Some cs) f p xs = refl

-- the items so far, from the end on: those that stay, whether the name is needed before them, and the way out with
-- which they begin
pub record Walked (done : List Item) (needed : Bool) (exit : Option Conds) (kept : List Item) : Type 0 where
  pub needs : needed ≡ is_needed (items_view (reverse kept))
  pub exits : exit_view exit ≡ exit_of (items_view (reverse kept))
  pub stayed : items_view (reverse kept) ≡ with_needed_names (items_view (reverse done))

pub none_walked : (needed : Bool) (exit : Option Conds) (kept : List Item) → needed ≡ true → exit ≡ None → kept ≡ [] → Walked [] needed exit kept
none_walked needed exit kept e f g = record {
  needs = e ∙ ap (λ t. is_needed (items_view (reverse t))) (sym g);
  exits = ap exit_view f ∙ ap (λ t. exit_of (items_view (reverse t))) (sym g);
  stayed = ap (λ t. items_view (reverse t)) g;
}

last_first : (xs : List Item) (x : Item) → items_view (reverse (xs ++ (x ∷ []))) ≡ first (item_view x) (items_view (reverse xs))
last_first xs x = ap items_view (reverse-append xs (x ∷ []))

pub walked_on : (done : List Item) (x y : Item) (needed now : Bool) (exit way : Option Conds) (kept more : List Item) → Walked done needed exit kept → item_view y ≡ freed (exit_view exit) (item_view x) → exit_view way ≡ way_before (item_view y) needed (exit_view exit)
    → now ≡ need_before (item_view y) needed → more ≡ and_kept needed y kept → Walked (done ++ (x ∷ [])) now way more
walked_on done x y needed now exit way kept more w e o n m = record {
  needs = n ∙ need (is_needless v needed) ∙ ap is_needed (sym shown);
  exits = o ∙ out (is_needless v needed) ∙ ap exit_of (sym shown);
  stayed = shown ∙ ap (λ b. if is_needless v b then ys else first v ys) w.needs ∙ ap (λ u. and_if_needed u ys) (e ∙ ap (λ c. freed c (item_view x)) w.exits)
      ∙ ap (λ zs. and_if_needed (freed (exit_of zs) (item_view x)) zs) w.stayed ∙ ap with_needed_names (sym (last_first done x));
}
  where
    v : seen.Item
    v = item_view y

    ys : Items
    ys = items_view (reverse kept)

    view : (b : Bool) → items_view (reverse (if b then kept else kept ++ (y ∷ []))) ≡ (if b then ys else first v ys)
    view true = refl
    view false = last_first kept y

    shown : items_view (reverse more) ≡ (if is_needless v needed then ys else first v ys)
    shown = ap (λ t. items_view (reverse t)) m ∙ view (is_needless v needed)

    need : (b : Bool) → (if b then needed else needed_before v needed) ≡ is_needed (if b then ys else first v ys)
    need true = w.needs
    need false = ap (needed_before v) w.needs

    out : (b : Bool) → (if b then exit_view exit else exit_before v needed) ≡ exit_of (if b then ys else first v ys)
    out true = w.exits
    out false = ap (exit_before v) w.needs

pub all_walked : (done turned all : List Item) (needed : Bool) (exit : Option Conds) (kept now : List Item) → Walked done needed exit kept → done ≡ turned → turned ≡ reverse all → now ≡ reverse kept → items_view now ≡ with_needed_names (items_view all)
all_walked done turned all needed exit kept now w d e f =
    ap items_view f ∙ w.stayed ∙ ap (λ t. with_needed_names (items_view (reverse t))) (d ∙ e)
    ∙ ap (λ t. with_needed_names (items_view t)) (reverse-reverse all)
