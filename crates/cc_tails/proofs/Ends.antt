-- Where items reach their end, the cut that their last one names is the next piece.
use Rattle.std.proofs.Common.{◌≡◌, ℕ, List, [], ◌∷◌, Some, None, Bool, true, false, refl, sym, ap, ◌∙◌}
use Rattle.std.specs.Prelude.{if◌then◌else◌}
use Rattle.std.proofs.lemmas.Slice.Eq.{bytes_eq-Decides}
use Rattle.mc_nbt.specs.Tree.{Tree, Part}
use Rattle.mc_nbt.proofs.TestLemmas.{and_first, and_second}
use Rattle.mc_cmd.specs.Form.{Text}
use Rattle.cc_line.specs.Sight.{Store, in_rest, same_store}
use Rattle.cc_line.specs.Key.{body_piece, id_tree, key_next}
use Rattle.cc_line.specs.State.{State, Site, with_set}
use Rattle.cc_line.specs.Step.{Flow, more, run_act, set_site}
use Rattle.cc_line.specs.Item.{Item, step_item, no_more, first, run_item, run_items}
use Rattle.cc_line.proofs.SightLemmas.{store_same}
use Rattle.cc_names.specs.Names.{is_next}
use Rattle.cc_tails.specs.Law.{EndsAreNamed}
use Rattle.cc_tails.specs.Tails.{cut_named, cut_set}
use Rattle.cc_tails.proofs.LeafLemmas.{told_is}

abbrev Next : ℕ → ℕ → State → Type 0
Next func j s = s.keys in_rest key_next ≡ Some (id_tree (body_piece func j))

-- the name is written as a whole
name_set : (func j : ℕ) (r : Store) (n : Text) (ps : List Part) (t : Tree) (s : State) → is_next r n ≡ true → cut_set func ps t ≡ Some j → Next func j (with_set s (record { store = r; name = n; parts = ps }) t)
name_set func j r n (q ∷ ps) t s e f = absurd cc
name_set func j r n [] t s e f =
    let a : r ≡ in_rest = store_same r in_rest (and_first (same_store r in_rest) _ e) in
    let b : n ≡ key_next = (bytes_eq-Decides n key_next).0 (and_second (same_store r in_rest) _ e) in
    ap (λ q. (with_set s (record { store = q; name = n; parts = [] }) t).keys in_rest key_next) a
    ∙ ap (λ m. (with_set s (record { store = in_rest; name = m; parts = [] }) t).keys in_rest key_next) b
    ∙ ap (λ u. (with_set s (record { store = in_rest; name = key_next; parts = [] }) u).keys in_rest key_next) (told_is func j t f)

site_set : (func j : ℕ) (p : Site) (t : Tree) (s : State) (b : Bool) → is_next p.store p.name ≡ b → (if b then cut_set func p.parts t else None) ≡ Some j → Next func j (with_set s p t)
site_set func j p t s true e f = name_set func j p.store p.name p.parts t s e f
site_set func j p t s false e f = absurd cc

item_names : (func j : ℕ) (x : Item) (s : State) → cut_named func x ≡ Some j → Next func j (run_item x s).state
item_names func j (step_item (run_act (set_site p t))) s e = site_set func j p t s (is_next p.store p.name) refl e
item_names func j _ s e = absurd cc

pub names_next : EndsAreNamed
names_next func j no_more s e f = absurd cc
names_next func j (first x no_more) s e f = go (run_item x s).stopped refl f
  where
    p : Flow
    p = run_item x s

    go : (b : Bool) → p.stopped ≡ b → (if b then p else more p.used (run_items no_more p.state)).stopped ≡ false → Next func j (if b then p else more p.used (run_items no_more p.state)).state
    go b d k = named b (item_names func j x s e)
      where
        named : (b : Bool) → Next func j p.state → Next func j (if b then p else more p.used (run_items no_more p.state)).state
        named true n = n
        named false n = n
names_next func j (first x (first y ys)) s e f = go (run_item x s).stopped refl f (names_next func j (first y ys) (run_item x s).state e)
  where
    p : Flow
    p = run_item x s

    go : (b : Bool) → p.stopped ≡ b → (if b then p else more p.used (run_items (first y ys) p.state)).stopped ≡ false
        → ((run_items (first y ys) p.state).stopped ≡ false → Next func j (run_items (first y ys) p.state).state)
        → Next func j (if b then p else more p.used (run_items (first y ys) p.state)).state
    go true d k ih = absurd (let y : true ≡ false = sym d ∙ k in cc)
    go false d k ih = ih k
