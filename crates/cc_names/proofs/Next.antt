-- States that differ in what stands under the key of the next piece alone.
use Rattle.std.proofs.Common.{◌≡◌, List, [], ◌∷◌, Option, Some, None, Bool, true, false, refl, sym, ap, ◌∙◌}
use Rattle.std.specs.Prelude.{◌&&◌, if◌then◌else◌, is_some, option_and_then}
use Rattle.std.specs.Str.{bytes_eq}
use Rattle.std.proofs.Math.Path.{fun_ext}
use Rattle.std.proofs.lemmas.Slice.Eq.{bytes_eq-Decides}
use Rattle.mc_nbt.specs.Tree.{Tree, Part}
use Rattle.mc_cmd.specs.Form.{Text}
use Rattle.mc_cmd.proofs.FormLemmas.{and_first, and_second}
use Rattle.cc_line.specs.Sight.{Store, in_io, in_memory, in_rest, same_store}
use Rattle.cc_line.specs.Key.{key_next}
use Rattle.cc_line.specs.State.{State, Site, set_under, within_key, with_tree}
use Rattle.cc_line.specs.Step.{Act, set_spot, increase, decrease, combine, set_place, copy_place, load_place, keep_place, load_site, keep_site, place_to_site, site_to_place, set_site, copy_site, append_value_to, append_site, erase_site, open_place, make_list, save_list, restore_list, after_act, ActReady}
use Rattle.cc_line.proofs.SightLemmas.{store_same}
use Rattle.cc_stops.specs.Harmless.{is_unseen}
use Rattle.cc_stops.specs.Law.{DifferUnseen}
use Rattle.cc_names.specs.Names.{is_next, may_stand, is_whole, act_names_next}

-- the state with this under the key of the next piece
abbrev pub with_next : State → Option Tree → State
with_next s o = record s { keys = λ r k. if is_next r k then o else s.keys r k }

abbrev pub keyed : State → (Store → Text → Option Tree) → State
keyed s keys = record { places = s.places; scores = s.scores; keys = keys }

-- what stands under the other keys
pub key_kept : (s : State) (o : Option Tree) (r : Store) (k : Text) → is_next r k ≡ false → (with_next s o).keys r k ≡ s.keys r k
key_kept s o r k e = ap (λ b. if b then o else s.keys r k) e

-- the last one counts
pub next_again : (s : State) (o u : Option Tree) → with_next (with_next s o) u ≡ with_next s u
next_again s o u = ap (keyed s) (fun_ext (λ r. fun_ext (λ k. go (is_next r k) (s.keys r k))))
  where
    go : (b : Bool) (v : Option Tree) → (if b then u else (if b then o else v)) ≡ (if b then u else v)
    go true v = refl
    go false v = refl

next_is : (r : Store) (k : Text) → is_next r k ≡ true → (in_rest ≡ r) × (key_next ≡ k)
next_is r k e = (sym (store_same r in_rest (and_first (same_store r in_rest) _ e)), sym ((bytes_eq-Decides k key_next).0 (and_second (same_store r in_rest) _ e)))

-- what stands there already
pub next_there : (s : State) → with_next s (s.keys in_rest key_next) ≡ s
next_there s = ap (keyed s) (fun_ext (λ r. fun_ext (λ k. go r k (is_next r k) refl)))
  where
    go : (r : Store) (k : Text) (b : Bool) → is_next r k ≡ b → (if b then s.keys in_rest key_next else s.keys r k) ≡ s.keys r k
    go r k true e = let n = next_is r k e in ap (λ q. s.keys q key_next) n.0 ∙ ap (s.keys r) n.1
    go r k false e = refl

-- nobody sees of a trapped job what stands there
pub next_unseen : (s : State) (o : Option Tree) → DifferUnseen s (with_next s o)
next_unseen s o = record { keys = λ r k e. go r k (is_next r k) refl e; scores = λ h e. refl }
  where
    go : (r : Store) (k : Text) (b : Bool) → is_next r k ≡ b → is_unseen r k ≡ false → (if b then o else s.keys r k) ≡ s.keys r k
    go r k true e u =
        let n = next_is r k e in
        absurd (let v : true ≡ false = ap (λ q. is_unseen q key_next) n.0 ∙ ap (is_unseen r) n.1 ∙ u in cc)
    go r k false e u = refl

-- ---- a tree that is written under the key, and under another one

same_turned : (r q : Store) → same_store r q ≡ same_store q r
same_turned in_io in_io = refl
same_turned in_io in_memory = refl
same_turned in_io in_rest = refl
same_turned in_memory in_io = refl
same_turned in_memory in_memory = refl
same_turned in_memory in_rest = refl
same_turned in_rest in_io = refl
same_turned in_rest in_memory = refl
same_turned in_rest in_rest = refl

equal_turned : (f g : Text) → bytes_eq f g ≡ bytes_eq g f
equal_turned f g = go (bytes_eq f g) (bytes_eq g f) refl refl
  where
    go : (a b : Bool) → bytes_eq f g ≡ a → bytes_eq g f ≡ b → a ≡ b
    go true true d e = refl
    go false false d e = refl
    go true false d e = sym ((bytes_eq-Decides g f).1 (sym ((bytes_eq-Decides f g).0 d))) ∙ e
    go false true d e = sym d ∙ (bytes_eq-Decides f g).1 (sym ((bytes_eq-Decides g f).0 e))

tree_named : (s : State) (p : Site) (t : Tree) → is_next p.store p.name ≡ true → with_tree s p (Some t) ≡ with_next s (Some t)
tree_named s p t e = ap (keyed s) (fun_ext (λ r. fun_ext (λ k. ap (λ b. if b then Some t else s.keys r k) (same r k))))
  where
    same : (r : Store) (k : Text) → (same_store p.store r && bytes_eq p.name k) ≡ is_next r k
    same r k =
        let n = next_is p.store p.name e in
        ap (λ q. same_store q r && bytes_eq p.name k) (sym n.0) ∙ ap (λ j. same_store in_rest r && bytes_eq j k) (sym n.1)
        ∙ ap (λ b. b && bytes_eq key_next k) (same_turned in_rest r) ∙ ap (λ b. same_store r in_rest && b) (equal_turned key_next k)

pub tree_elsewhere : (s : State) (o : Option Tree) (p : Site) (u : Option Tree) → is_next p.store p.name ≡ false → with_tree (with_next s o) p u ≡ with_next (with_tree s p u) o
tree_elsewhere s o p None e = refl
tree_elsewhere s o p (Some t) e = ap (keyed s) (fun_ext (λ r. fun_ext (λ k. go r k (same_store p.store r && bytes_eq p.name k) (is_next r k) refl refl)))
  where
    go : (r : Store) (k : Text) (b c : Bool) → (same_store p.store r && bytes_eq p.name k) ≡ b → is_next r k ≡ c → (if b then Some t else (if c then o else s.keys r k)) ≡ (if c then o else (if b then Some t else s.keys r k))
    go r k true false f g = refl
    go r k false true f g = refl
    go r k false false f g = refl
    go r k true true f g =
        let x : p.store ≡ r = store_same p.store r (and_first (same_store p.store r) _ f) in
        let y : p.name ≡ k = (bytes_eq-Decides p.name k).0 (and_second (same_store p.store r) _ f) in
        absurd (let v : false ≡ true = sym e ∙ ap (λ q. is_next q p.name) x ∙ ap (is_next r) y ∙ g in cc)

-- ---- an act that names the next piece

stands_as : (t : Tree) → may_stand t ≡ true → within_key t ≡ Some t
unfolding may_stand
stands_as t e = go t _ e
  where
    go : (t : Tree) (b : Bool) → is_some (if b then Some t else None) ≡ true → (if b then Some t else None) ≡ Some t
    go t true e = refl
    go t false e = absurd cc

-- the tree under the key then
pub record Named (a : Act) : Type 0 where
  pub tree : Tree
  pub makes : (s : State) → after_act a s ≡ with_next s (Some tree)
  pub needs : (s : State) → ActReady a s

set_named : (p : Site) (t : Tree) (qs : List Part) → p.parts ≡ qs → is_next p.store p.name ≡ true → is_whole qs t ≡ true → Named (set_site p t)
set_named p t [] e n w = record {
  tree = t;
  makes = λ s. ap (λ rs. with_tree s p (option_and_then within_key (set_under (s.keys p.store p.name) rs t))) e ∙ ap (with_tree s p) (stands_as t w) ∙ tree_named s p t n;
  needs = λ s. tt;
}
set_named p t (q ∷ qs) e n w = absurd cc

pub act_named : (a : Act) → act_names_next a ≡ true → Named a
act_named (set_site p t) e = set_named p t p.parts refl (and_first (is_next p.store p.name) _ e) (and_second (is_next p.store p.name) _ e)
act_named (set_spot x z) e = absurd cc
act_named (increase x n) e = absurd cc
act_named (decrease x n) e = absurd cc
act_named (combine x op y) e = absurd cc
act_named (set_place i z) e = absurd cc
act_named (copy_place i j) e = absurd cc
act_named (load_place h i) e = absurd cc
act_named (keep_place i h) e = absurd cc
act_named (load_site h p) e = absurd cc
act_named (keep_site p h) e = absurd cc
act_named (place_to_site p i) e = absurd cc
act_named (site_to_place i p) e = absurd cc
act_named (copy_site p q) e = absurd cc
act_named (append_value_to p t) e = absurd cc
act_named (append_site p q) e = absurd cc
act_named (erase_site p) e = absurd cc
act_named (open_place i) e = absurd cc
act_named (make_list zs) e = absurd cc
act_named (save_list p) e = absurd cc
act_named (restore_list p) e = absurd cc
