-- What a write at a path leaves: another tree under its key, and all else as it was.
use Rattle.std.proofs.Common.{◌≡◌, ◌≤◌, Option, Some, true, false, refl, sym, ap, ◌∙◌, subst}
use Rattle.std.specs.Prelude.{◌&&◌, if◌then◌else◌, option_and_then}
use Rattle.std.specs.Str.{bytes_eq}
use Rattle.mc_nbt.specs.Tree.{Tree, depth}
use Rattle.mc_nbt.proofs.TreeLemmas.{bytes_refl}
use Rattle.mc_cmd.specs.Form.{Text}
use Rattle.cc_line.specs.Sight.{Store, same_store}
use Rattle.cc_line.specs.State.{State, Site, set_under, append_under, remove_under, within_key, with_tree, with_set, with_append, with_copy, with_append_copy, with_erased}
use Rattle.cc_line.proofs.ActLemmas.{within_is}
use Rattle.cc_line.proofs.SightLemmas.{store_self}

-- a tree is written under this key
pub record Written (r : Store) (k : Text) (u : Tree) (s t : State) : Type 0 where
  pub places : t.places ≡ s.places
  pub scores : t.scores ≡ s.scores
  pub there : t.keys r k ≡ Some u
  pub others : (q : Store) (j : Text) → same_store r q && bytes_eq k j ≡ false → t.keys q j ≡ s.keys q j

-- it stood there already
pub written_none : (r : Store) (k : Text) (u : Tree) (s : State) → s.keys r k ≡ Some u → Written r k u s s
written_none r k u s e = record { places = refl; scores = refl; there = e; others = λ q j n. refl }

-- one after the other
pub written_both : (r : Store) (k : Text) (u v : Tree) (s t w : State) → Written r k u s t → Written r k v t w → Written r k v s w
written_both r k u v s t w f g = record { places = g.places ∙ f.places; scores = g.scores ∙ f.scores; there = g.there; others = λ q j n. g.others q j n ∙ f.others q j n }

same_key : (r : Store) (k : Text) → same_store r r && bytes_eq k k ≡ true
same_key r k = ap (λ b. b && bytes_eq k k) (store_self r) ∙ bytes_refl k

tree_written : (s : State) (p : Site) (u : Tree) → Written p.store p.name u s (with_tree s p (Some u))
tree_written s p u = record {
  places = refl;
  scores = refl;
  there = ap (λ b. if b then Some u else s.keys p.store p.name) (same_key p.store p.name);
  others = λ q j n. ap (λ b. if b then Some u else s.keys q j) n;
}

some_written : (s : State) (p : Site) (o : Option Tree) (u : Tree) → o ≡ Some u → Written p.store p.name u s (with_tree s p o)
some_written s p o u e = subst (λ x. Written p.store p.name u s (with_tree s p x)) (sym e) (tree_written s p u)

shallow_written : (s : State) (p : Site) (o : Option Tree) (u : Tree) → o ≡ Some u → depth u ≤ 63 → Written p.store p.name u s (with_tree s p (option_and_then within_key o))
shallow_written s p o u e l = some_written s p (option_and_then within_key o) u (ap (option_and_then within_key) e ∙ within_is u l)

pub set_writes : (s : State) (p : Site) (t u : Tree) → set_under (s.keys p.store p.name) p.parts t ≡ Some u → depth u ≤ 63 → Written p.store p.name u s (with_set s p t)
set_writes s p t u e l = shallow_written s p (set_under (s.keys p.store p.name) p.parts t) u e l

pub append_writes : (s : State) (p : Site) (t u : Tree) → append_under (s.keys p.store p.name) p.parts t ≡ Some u → depth u ≤ 63 → Written p.store p.name u s (with_append s p t)
append_writes s p t u e l = shallow_written s p (append_under (s.keys p.store p.name) p.parts t) u e l

pub copy_writes : (s : State) (p : Site) (o : Option Tree) (t u : Tree) → o ≡ Some t → set_under (s.keys p.store p.name) p.parts t ≡ Some u → depth u ≤ 63 → Written p.store p.name u s (with_copy s p o)
copy_writes s p o t u f e l = subst (λ x. Written p.store p.name u s (with_copy s p x)) (sym f) (set_writes s p t u e l)

pub append_copy_writes : (s : State) (p : Site) (o : Option Tree) (t u : Tree) → o ≡ Some t → append_under (s.keys p.store p.name) p.parts t ≡ Some u → depth u ≤ 63 → Written p.store p.name u s (with_append_copy s p o)
append_copy_writes s p o t u f e l = subst (λ x. Written p.store p.name u s (with_append_copy s p x)) (sym f) (append_writes s p t u e l)

pub erase_writes : (s : State) (p : Site) (u : Tree) → remove_under (s.keys p.store p.name) p.parts ≡ Some u → Written p.store p.name u s (with_erased s p)
erase_writes s p u e = some_written s p (remove_under (s.keys p.store p.name) p.parts) u e
