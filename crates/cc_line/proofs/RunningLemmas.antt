-- The places of a running pack, where its world shows a state.
use Rattle.std.proofs.Common.{◌≡◌, ℕ, zero, suc, ◌<◌, ◌≤◌, ◌-◌, List, [], ◌∷◌, length, drop, Option, Some, None, false, refl, ap, ◌∙◌, ◌⊎◌, inl, inr, arith}
use Rattle.std.specs.Prelude.{ℤ, pos, not, ◌&&◌, if◌then◌else◌, map, option_and_then, option_map, slice_get}
use Rattle.std.proofs.lemmas.Bool.{lt-ltb}
use Rattle.std.proofs.lemmas.Grind.{common_steps}
use Rattle.mc_nbt.specs.Tree.{Tree, key, place, list_of, item_at, select}
use Rattle.mc_nbt.proofs.TreeLemmas.{of_items-items}
use Rattle.mc_cmd.specs.Form.{Text}
use Rattle.mc_cmd.specs.World.{World, tree_in, or_zero}
use Rattle.cc_line.specs.Sight.{Store, in_io, in_rest, store_id, Shows}
use Rattle.cc_line.specs.Place.{score_places, in_score, in_list, home}
use Rattle.cc_line.specs.Key.{key_state, key_below, key_next, key_follows, key_args, key_fail, key_templates, score_trap, PieceId, body_piece, id_tree}
use Rattle.cc_line.specs.State.{State, ints, seen, place_at, is_frame}
use Rattle.cc_line.specs.Running.{slot_at, slot_of, kept_at, an_int, Kept, below_tree, Below, NextPiece, FollowingPiece, is_int_of, is_starting, trapped, template, HasTemplates, NoFrame, Begins}
use Rattle.cc_line.proofs.PlaceLemmas.{home_case}
use Rattle.cc_line.proofs.SightLemmas.{key_selects}
use Rattle.cc_line.proofs.ActLemmas.{place_shown, slot_selected, list_selected, scratch_shown, key_seen}

pub slot_is : (ns : Text) (w : World) (s : State) (i : ℕ) → Shows ns w (seen s) → i < length s.places → slot_of w ns i ≡ Some (place_at s i)
slot_is ns w s i h l = by (home_case i)
  where
    by : ((i < score_places) × (home i ≡ in_score i)) ⊎ ((score_places ≤ i) × (home i ≡ in_list (i - score_places))) → slot_at w ns (home i) ≡ Some (place_at s i)
    by (inl e) = ap (slot_at w ns) e.1 ∙ place_shown ns w s h i e.0 l
    by (inr e) = ap (slot_at w ns) e.1 ∙ ap (option_and_then an_int) (slot_selected ns w s h i e.0 l)

-- what stands under a key other than the frame's
stands_is : (ns : Text) (w : World) (s : State) (r : Store) (k : Text) → Shows ns w (seen s) → is_frame r k ≡ false → select (tree_in w (store_id ns r)) (key k ∷ []) ≡ s.keys r k
stands_is ns w s r k h n = key_selects ns w (seen s) r k [] h ∙ ap (option_and_then (λ u. select u [])) (key_seen ns w s h r k n) ∙ some (s.keys r k)
  where
    some : (o : Option Tree) → option_and_then (λ u. select u []) o ≡ o
    some None = refl
    some (Some t) = refl

pub key_is : (ns : Text) (w : World) (s : State) (k : Text) → Shows ns w (seen s) → is_frame in_rest k ≡ false → kept_at w ns (key k ∷ []) ≡ s.keys in_rest k
key_is ns w s k h n = stands_is ns w s in_rest k h n

pub trapped_is : (ns : Text) (w : World) (s : State) → Shows ns w (seen s) → trapped w ns ≡ or_zero (s.scores score_trap)
trapped_is ns w s h = ap or_zero (scratch_shown ns w s h score_trap refl)

-- ---- frames below, pieces, the job

pub below_is : (ns : Text) (w : World) (s : State) (bs : List Kept) → Shows ns w (seen s) → s.keys in_rest key_below ≡ Some (below_tree bs) → Below w ns bs
below_is ns w s bs h e = key_is ns w s key_below h refl ∙ e

pub next_is : (ns : Text) (w : World) (s : State) (i : PieceId) → Shows ns w (seen s) → s.keys in_rest key_next ≡ Some (id_tree i) → NextPiece w ns i
next_is ns w s i h e = key_is ns w s key_next h refl ∙ e

pub following_is : (ns : Text) (w : World) (s : State) (i : PieceId) → Shows ns w (seen s) → s.keys in_rest key_follows ≡ Some (id_tree i) → FollowingPiece w ns i
following_is ns w s i h e = key_is ns w s key_follows h refl ∙ e

pub starting_is : (ns : Text) (w : World) (s : State) → Shows ns w (seen s) → is_starting w ns ≡ is_int_of 4 (s.keys in_rest key_fail) && not (is_int_of 0 (s.keys in_io key_state))
starting_is ns w s h =
    ap (λ o. is_int_of 4 o && not (is_int_of 0 (select (tree_in w (store_id ns in_io)) (key key_state ∷ [])))) (key_is ns w s key_fail h refl)
    ∙ ap (λ o. is_int_of 4 (s.keys in_rest key_fail) && not (is_int_of 0 o)) (stands_is ns w s in_io key_state h refl)

-- ---- new frames

mapped : (g : ℕ → Tree) (ns : List ℕ) (f n : ℕ) → slice_get ns f ≡ Some n → (f < length (map g ns)) × (slice_get (map g ns) f ≡ Some (g n))
mapped g [] f n e = absurd cc
mapped g (x ∷ ns) zero n e = (omega arith, ap (option_map g) e)
mapped g (x ∷ ns) (suc f) n e = let i = mapped g ns f n e in (omega (arith, i.0), i.1)

element : (g : ℕ → Tree) (ns : List ℕ) (f n : ℕ) → slice_get ns f ≡ Some n → select (list_of (map g ns)) (place (pos f) ∷ []) ≡ Some (g n)
element g ns f n e =
    let i = mapped g ns f n e in
    ap (λ l. option_and_then (λ u. select u []) (item_at l (pos f))) (of_items-items (map g ns))
    ∙ ap (λ b. option_and_then (λ u. select u []) (option_and_then (slice_get (map g ns)) (if b then Some f else None))) (lt-ltb f (length (map g ns)) i.0)
    ∙ ap (option_and_then (λ u. select u [])) i.1

pub templates_are : (ns : Text) (w : World) (s : State) (sizes : List ℕ) → Shows ns w (seen s) → s.keys in_rest key_templates ≡ Some (list_of (map template sizes)) → HasTemplates w ns sizes
templates_are ns w s sizes h e f n k =
    key_selects ns w (seen s) in_rest key_templates (place (pos f) ∷ []) h
    ∙ ap (option_and_then (λ u. select u (place (pos f) ∷ []))) (key_seen ns w s h in_rest key_templates refl ∙ e)
    ∙ element template sizes f n k

-- ---- no frame, and a call's beginning

dropped_all : (n : ℕ) (zs : List ℤ) → length zs ≤ n → drop n zs ≡ []
dropped_all n [] l = grind (arith, common_steps)
dropped_all zero (z ∷ zs) l = absurd (omega arith)
dropped_all (suc n) (z ∷ zs) l = dropped_all n zs (omega arith)

pub frameless : (ns : Text) (w : World) (s : State) → Shows ns w (seen s) → s.keys in_rest key_below ≡ Some (below_tree []) → length s.places ≤ score_places → NoFrame w ns
frameless ns w s h e l = record { below = below_is ns w s [] h e; places = list_selected ns w s h ∙ ap (λ zs. Some (ints zs)) (dropped_all score_places s.places l) }

pub begun : (ns : Text) (w : World) (s : State) (f : ℕ) (args : List ℤ) → Shows ns w (seen s) → s.keys in_rest key_below ≡ Some (below_tree []) → length s.places ≤ score_places → or_zero (s.scores score_trap) ≡ pos 0
    → s.keys in_rest key_next ≡ Some (id_tree (body_piece f 0)) → s.keys in_rest key_args ≡ Some (ints args) → Begins w ns f args
begun ns w s f args h e l t i g = record { frames = frameless ns w s h e l; untrapped = trapped_is ns w s h ∙ t; next = next_is ns w s (body_piece f 0) h i; given = key_is ns w s key_args h refl ∙ g }
