-- The helpers that look numbers up have names of the crate's lists.
use Rattle.std.proofs.Common.{◌≡◌, ap, refl, ℕ, ◌<◌, ◌≤◌, List, [], ◌∷◌, ◌++◌, length, None, Some, arith}
use Rattle.std.specs.Prelude.{ℤ, codes, drop}
use Rattle.std.proofs.lemmas.Fmt.{decimal_injective}
use Rattle.mc_cmd.specs.Form.{Text}
use Rattle.wm_ast.specs.declared.module.Module.{Module}
use Rattle.cc_line.specs.Item.{fill_item, first, no_more, steps_items}
use Rattle.cc_line.specs.View.{look_up_steps}
use Rattle.cc_text.specs.Tables.{IsOwn, IsWithin, ItemsNamed, lines_named, NamedHelper}
use Rattle.cc_text.proofs.NamedItems.{named_both, named_fill, named_steps, no_helper}
use Rattle.cc_text.proofs.NamedLemmas.{numbered_begin, numbered_found, numbered_long}
use Rattle.cc_table.specs.Helpers.{call_beginning, call_helpers, look_beginning, look_helpers, type_helper}
use Rattle.cc_table.specs.Look.{choice_site, element_steps, find_items, index_steps, look_by, look_items}
use Rattle.cc_table.specs.Target.{call_helper, call_numbers, element_number, refuse_steps, target_items}

pub helpers_own : IsOwn look_beginning look_helpers 100
helpers_own = record { names = refl; few = omega arith }

module _ (all : List NamedHelper) (w : IsWithin look_helpers all) where
  pub find_named : (zs : List ℤ) → ItemsNamed all (find_items zs)
  find_named zs = (no_helper, (named_fill all look_helpers w (codes "h_cc_look") choice_site element_steps (λ ns. refl), tt))

  pub look_named : (zs : List ℤ) (z : ℤ) → ItemsNamed all (look_items zs z)
  look_named zs z = named_both all (steps_items (index_steps (length zs))) (find_items (zs ++ z ∷ [])) (named_steps all (index_steps (length zs))) (find_named (zs ++ z ∷ []))

-- ---- those of types

pub types_own : (m : Module) → IsOwn call_beginning (call_helpers m) (length m.types)
types_own m = record {
  names = numbered_begin call_beginning (type_helper m) (length m.types) (λ n. refl);
  few = let e : length (call_helpers m) ≡ length m.types = numbered_long (type_helper m) (length m.types) in omega arith;
}

module _ (m : Module) (few : length m.types ≤ 2147483648) where
  type_found : (ns : Text) (n : ℕ) → n < length m.types → lines_named (call_helpers m) ns (call_helper n) ≡ Some ((type_helper m n).lines ns)
  type_found ns n h = numbered_found (type_helper m) (length m.types) n ns (λ j l e. same j n l h e) h
    where
      same : (j n : ℕ) → j < length m.types → n < length m.types → call_helper j ≡ call_helper n → j ≡ n
      same j n l h e = decimal_injective j n (omega arith) (omega arith) (ap (drop 10) e)

  pub target_named : (all : List NamedHelper) → IsWithin (call_helpers m) all → (n i : ℕ) → n < length m.types → ItemsNamed all (target_items m n i)
  target_named all w n i h = (
    no_helper,
    named_both all (look_by (call_helper n) (call_numbers m n) (element_number m n None)) (steps_items refuse_steps)
        (named_both all (steps_items (index_steps (length (call_numbers m n)))) (first (fill_item (call_helper n) choice_site (look_up_steps (call_numbers m n ++ element_number m n None ∷ []) element_steps)) no_more) (named_steps all (index_steps (length (call_numbers m n))))
        (named_fill all (call_helpers m) w (call_helper n) choice_site (look_up_steps (call_numbers m n ++ element_number m n None ∷ []) element_steps) (λ ns. type_found ns n h), tt))
        (named_steps all refuse_steps),
  )
