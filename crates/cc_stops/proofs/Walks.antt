-- What the walk over items keeps.
use Rattle.std.proofs.Common.{◌≡◌, List, [], ◌∷◌, ◌++◌, reverse, Bool, true, false, sym, ap, ◌∙◌}
use Rattle.std.specs.Prelude.{◌&&◌, if◌then◌else◌}
use Rattle.std.proofs.lemmas.List.{reverse-append, reverse-reverse}
use Rattle.cc_line.specs.declared.item.Item.{Item}
use Rattle.cc_line.specs.Item.{first}
use Rattle.cc_line.specs.View.{item_view, items_view}
use Rattle.cc_stops.specs.Stops.{is_trap_stop, are_harmless, without_stops}
use Rattle.cc_stops.specs.steps.Walk.{and_if_needed, before}

-- the items so far, from the end on: whether all is harmless up to the first stop at a trap, and those that stay
pub record Walked (done : List Item) (calm : Bool) (kept : List Item) : Type 0 where
  pub harmless : calm ≡ are_harmless (items_view (reverse done))
  pub stayed : items_view (reverse kept) ≡ without_stops (items_view (reverse done))

pub none_walked : (calm : Bool) (kept : List Item) → calm ≡ true → kept ≡ [] → Walked [] calm kept
none_walked calm kept e f = record { harmless = e; stayed = ap (λ t. items_view (reverse t)) f }

last_first : (xs : List Item) (x : Item) → items_view (reverse (xs ++ (x ∷ []))) ≡ first (item_view x) (items_view (reverse xs))
last_first xs x = ap items_view (reverse-append xs (x ∷ []))

pub walked_on : (done : List Item) (x : Item) (calm now : Bool) (kept more : List Item) → Walked done calm kept → now ≡ before (item_view x) calm → more ≡ and_if_needed calm x kept → Walked (done ++ (x ∷ [])) now more
walked_on done x calm now kept more w e f = record {
  harmless = e ∙ ap (before (item_view x)) w.harmless ∙ ap are_harmless (sym (last_first done x));
  stayed = ap (λ t. items_view (reverse t)) f ∙ ap (λ v. items_view (reverse (and_if_needed v x kept))) w.harmless ∙ go (is_trap_stop (item_view x) && are_harmless (items_view (reverse done))) w.stayed ∙ ap without_stops (sym (last_first done x));
}
  where
    go : (b : Bool) → items_view (reverse kept) ≡ without_stops (items_view (reverse done)) → items_view (reverse (if b then kept else kept ++ (x ∷ []))) ≡ (if b then without_stops (items_view (reverse done)) else first (item_view x) (without_stops (items_view (reverse done))))
    go true k = k
    go false k = last_first kept x ∙ ap (first (item_view x)) k

pub all_walked : (done turned all : List Item) (calm : Bool) (kept now : List Item) → Walked done calm kept → done ≡ turned → turned ≡ reverse all → now ≡ reverse kept → items_view now ≡ without_stops (items_view all)
all_walked done turned all calm kept now w d e f =
    ap items_view f ∙ w.stayed ∙ ap (λ t. without_stops (items_view (reverse t))) (d ∙ e)
    ∙ ap (λ t. without_stops (items_view t)) (reverse-reverse all)
