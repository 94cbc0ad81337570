-- What is left where the number of a piece is looked up: the piece is named by it, and below 0 it ends the call.
use Rattle.std.proofs.Common.{◌≡◌, ℕ, List, map, Option, Some, None, true, false, refl, ap, ◌∙◌, ℤ, pos, negsuc, ◌&&◌, if◌then◌else◌, codes, bytes_eq}
use Rattle.std.specs.Prelude.{slice_get, option_map, unwrap_or, Bool}
use Rattle.std.specs.Int.{w32, cast_unsigned}
use Rattle.std.proofs.lemmas.Option.{slice_get-map}
use Rattle.mc_nbt.specs.Tree.{Tree, int}
use Rattle.mc_cmd.specs.Command.{up_to}
use Rattle.mc_cmd.specs.Form.{Text}
use Rattle.mc_cmd.specs.World.{or_zero, some_is_in}
use Rattle.wm_ast.specs.Step.{or_last, chosen}
use Rattle.cc_line.specs.Sight.{Store, in_io, in_rest, same_store}
use Rattle.cc_line.specs.Key.{key_state, key_end, key_next, key_follows, key_below, score_trap, PieceId, body_piece, shared_piece, id_tree}
use Rattle.cc_line.specs.Running.{Kept}
use Rattle.cc_line.specs.State.{State, Site, at_key, with_tree, with_set}
use Rattle.cc_line.specs.Step.{after_act, conds_hold, keep_site, set_site, copy_site}
use Rattle.cc_line.specs.Item.{step_item, Items, no_more, first}
use Rattle.cc_call.specs.Frames.{next_site, last_at}
use Rattle.cc_table.specs.Look.{element_or}
use Rattle.cc_table.specs.Target.{is_refused}
use Rattle.cc_table.specs.Law.{Nearby, Finds}
use Rattle.cc_body.specs.Emit.{number_in, name_acts, end_step}
use Rattle.cc_simulate.specs.Stands.{RunsOver, is_written, ChangesFrameAlone}
use Rattle.cc_simulate.specs.Law.{Enters}
use Rattle.cc_line.proofs.StandingLemmas.{standing_beside}
use Rattle.cc_simulate.proofs.Lasting.{lasts_frame}
use Rattle.cc_simulate.proofs.Acts.{keeps_none, keeps_both, keeps_tree, unwritten_is_no_work, Passes, enters_at, after_acts, tree_leaves}

-- ---- what is found

near_keeps : (s t : State) → Nearby s t → ChangesFrameAlone s t
near_keeps s t n = record { keys = λ r k e. n.keys r k (unwritten_is_no_work r k e); scores = λ h a b c. n.scores h b }

pub near_calm : {bytes : Bool} (bs : List Kept) (s t : State) → Nearby s t → RunsOver bytes bs s → RunsOver bytes bs t
near_calm bs s t n c = record {
  trap = n.scores score_trap refl ∙ c.trap;
  state = n.keys in_io key_state refl ∙ c.state;
  ending = (c.ending.0, n.keys in_rest key_end refl ∙ c.ending.1, c.ending.2);
  standing = standing_beside s t n.scores n.keys c.standing;
  below = n.keys in_rest key_below refl ∙ c.below;
}

pub finds_pass : (xs : Items) (s : State) (z : ℤ) (f : Finds xs s z) → Passes xs s f.state
finds_pass xs s z f = record { ready = f.ready; used = f.used; ends = f.ends; keeps = near_keeps s f.state f.near }

-- what the chosen label has is found
pub chosen_element : (g : ℕ → ℤ) (ls : List ℕ) (last : ℕ) (z : ℤ) → element_or (map g ls) (g last) (cast_unsigned w32 z) ≡ g (chosen ls last z)
chosen_element g ls last z = ap (λ o. unwrap_or o (g last)) (slice_get-map g ls (cast_unsigned w32 z)) ∙ by_found (slice_get ls (cast_unsigned w32 z))
  where
    by_found : (o : Option ℕ) → unwrap_or (option_map g o) (g last) ≡ g (or_last last o)
    by_found None = refl
    by_found (Some l) = refl

-- ---- the piece is named

keys_other : (s : State) (p : Site) (o : Option Tree) (r : Store) (j : Text) → (same_store p.store r && bytes_eq p.name j) ≡ false → (with_tree s p o).keys r j ≡ s.keys r j
keys_other s p None r j e = refl
keys_other s p (Some t) r j e = ap (λ b. if b then Some t else s.keys r j) e

-- only what stands under this key differs
pub record Renamed (bs : List Kept) (k : Text) (s t : State) : Type 0 where
  pub places : t.places ≡ s.places
  pub scores : t.scores ≡ s.scores
  pub others : (j : Text) → bytes_eq k j ≡ false → t.keys in_rest j ≡ s.keys in_rest j
  pub keeps : ChangesFrameAlone s t
  pub calm : {bytes : Bool} → RunsOver bytes bs s → RunsOver bytes bs t

tree_renamed : (bs : List Kept) (k : Text) (s : State) (p : Site) (o : Option Tree) → p.store ≡ in_rest → p.name ≡ k → is_written in_rest k ≡ true → bytes_eq k key_end ≡ false → bytes_eq k key_below ≡ false
    → Renamed bs k s (with_tree s p o)
tree_renamed bs k s p o e f w end below =
    let n = tree_leaves s p o in
    let rest : (j : Text) → bytes_eq k j ≡ false → (with_tree s p o).keys in_rest j ≡ s.keys in_rest j =
    λ j g. keys_other s p o in_rest j (ap (λ r. same_store r in_rest && bytes_eq p.name j) e ∙ (ap (λ l. bytes_eq l j) f ∙ g)) in
    let keeps : ChangesFrameAlone s (with_tree s p o) = keeps_tree s p o (ap (λ r. is_written r p.name) e ∙ (ap (is_written in_rest) f ∙ w)) in
    let io : (with_tree s p o).keys in_io key_state ≡ s.keys in_io key_state = keys_other s p o in_io key_state (ap (λ r. same_store r in_io && bytes_eq p.name key_state) e) in
    record {
      places = n.0;
      scores = n.1;
      others = rest;
      keeps = keeps;
      calm = λ c. record {
        trap = ap (λ m. m score_trap) n.1 ∙ c.trap;
        state = io ∙ c.state;
        ending = (c.ending.0, rest key_end end ∙ c.ending.1, c.ending.2);
        standing = lasts_frame s (with_tree s p o) keeps c.standing;
        below = rest key_below below ∙ c.below;
      };
    }

renamed_then : (bs : List Kept) (k : Text) (s t u : State) → Renamed bs k s t → Renamed bs k t u → Renamed bs k s u
renamed_then bs k s t u f g = record {
  places = g.places ∙ f.places;
  scores = g.scores ∙ f.scores;
  others = λ j e. g.others j e ∙ f.others j e;
  keeps = keeps_both s t u f.keeps g.keeps;
  calm = λ c. g.calm (f.calm c);
}

pub name_leaves : (bs : List Kept) (k : Text) (p : PieceId) (s : State) → is_written in_rest k ≡ true → bytes_eq k key_end ≡ false → bytes_eq k key_below ≡ false → Renamed bs k s (after_acts (name_acts k p) s)
name_leaves bs k p s w end below =
    let t : State = after_act (set_site (at_key in_rest k) (id_tree p)) s in
    renamed_then bs k s t (after_act (keep_site (number_in k) (codes "#c")) t) (tree_renamed bs k s (at_key in_rest k) _ refl refl w end below) (tree_renamed bs k t (number_in k) _ refl refl w end below)

-- by the number
module _ (j : ℕ) (s : State) (e : s.scores (codes "#c") ≡ Some (pos j)) where
  pub next_body : (func : ℕ) → (after_acts (name_acts key_next (body_piece func 0)) s).keys in_rest key_next ≡ Some (id_tree (body_piece func j))
  next_body func = ap (λ o. (with_set (after_act (set_site (at_key in_rest key_next) (id_tree (body_piece func 0))) s) (number_in key_next) (int (or_zero o))).keys in_rest key_next) e

  pub follows_body : (func : ℕ) → (after_acts (name_acts key_follows (body_piece func 0)) s).keys in_rest key_follows ≡ Some (id_tree (body_piece func j))
  follows_body func = ap (λ o. (with_set (after_act (set_site (at_key in_rest key_follows) (id_tree (body_piece func 0))) s) (number_in key_follows) (int (or_zero o))).keys in_rest key_follows) e

  pub next_shared : (after_acts (name_acts key_next (shared_piece 0)) s).keys in_rest key_next ≡ Some (id_tree (shared_piece j))
  next_shared = ap (λ o. (with_set (after_act (set_site (at_key in_rest key_next) (id_tree (shared_piece 0))) s) (number_in key_next) (int (or_zero o))).keys in_rest key_next) e

-- ---- the end of a call

module _ (P : State → Type 0) (s : State) where
  -- the number is that of a piece
  pub end_passed : (j : ℕ) → s.scores (codes "#c") ≡ Some (pos j) → P s → Enters (first (step_item end_step) no_more) s P
  end_passed j e p =
      let none : conds_hold is_refused s ≡ false = ap (λ o. some_is_in (up_to (negsuc 0)) o && true) e in
      enters_at P (first (step_item end_step) no_more) s s (((tt, tt), λ f. tt), λ f. tt) (ap (λ b. if b then after_act (copy_site next_site (last_at (codes "p"))) s else s) none) p (keeps_none s)

  -- there is none
  pub end_taken : s.scores (codes "#c") ≡ Some (negsuc 0) → P (after_act (copy_site next_site (last_at (codes "p"))) s) → ChangesFrameAlone s (after_act (copy_site next_site (last_at (codes "p"))) s)
      → Enters (first (step_item end_step) no_more) s P
  end_taken e p k =
      let t : State = after_act (copy_site next_site (last_at (codes "p"))) s in
      let all : conds_hold is_refused s ≡ true = ap (λ o. some_is_in (up_to (negsuc 0)) o && true) e in
      enters_at P (first (step_item end_step) no_more) s t (((tt, tt), λ f. tt), λ f. tt) (ap (λ b. if b then t else s) all) p k
