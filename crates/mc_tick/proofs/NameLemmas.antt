-- The names in a command, and the first that is a pack's own.
use Rattle.std.proofs.Common.{◌≡◌, ◌∙◌, ap, sym, refl, Bool, Option, Some, None}
use Rattle.std.specs.Prelude.{find, option_map}
use Rattle.std.specs.Option.{option_or}
use Rattle.std.proofs.lemmas.List.Folds.{find-append}
use Rattle.mc_cmd.specs.Form.{Text}
use Rattle.mc_cmd.specs.Command.{Cmd, plain, execute}
use Rattle.mc_cmd.specs.Foreign.{simple_names, is_own, first_own}
use Rattle.mc_world.specs.WorldView.{run_of}
use Rattle.mc_tick.specs.Naming.{listed, names_listed}

pub first_own-run : (ns : Text) (c : Cmd) → first_own ns c ≡ find (is_own ns) (simple_names (run_of c))
first_own-run ns (plain s) = refl
first_own-run ns (execute ss s) = refl

option_map-or : {A B : Type 0} (f : A → B) (x y : Option A) → option_map f (option_or x y) ≡ option_or (option_map f x) (option_map f y)
option_map-or f None y = refl
option_map-or f (Some a) y = refl

-- the first of two names that passes a test
pub first_of_two : {A : Type 0} (f : A → Text) (p : Text → Bool) (r x y : Option A) (a b : Option Text) → r ≡ option_or x y → option_map f x ≡ find p (listed a) → option_map f y ≡ find p (listed b) → option_map f r ≡ find p (names_listed a b)
first_of_two f p r x y a b e g h =
    ap (option_map f) e ∙ option_map-or f x y ∙ ap (λ o. option_or o (option_map f y)) g ∙ ap (option_or (find p (listed a))) h
    ∙ sym (find-append p (listed a) (listed b))
