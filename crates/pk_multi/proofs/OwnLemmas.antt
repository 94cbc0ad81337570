-- A name that is none of several namespaces' is none of any.
use Rattle.std.proofs.Common.{◌≡◌, ℕ, zero, suc, List, [], ◌∷◌, map, Some, None, Bool, true, false, refl, sym, ap, ◌∙◌}
use Rattle.std.specs.Prelude.{◌||◌, find, if◌then◌else◌, slice_get}
use Rattle.std.specs.List.{list_any}
use Rattle.mc_cmd.specs.Form.{Text}
use Rattle.mc_cmd.specs.Command.{Cmd}
use Rattle.mc_cmd.specs.Foreign.{is_foreign, is_own, simple_names}
use Rattle.mc_cmd.specs.Grammar.{cmd_fits}
use Rattle.mc_cmd.specs.Pack.{Pack}
use Rattle.mc_cmd.specs.Packing.{Written, pack_view}
use Rattle.mc_world.specs.WorldView.{run_of}
use Rattle.mc_tick.proofs.NameLemmas.{first_own-run}
use Rattle.pk_multi.specs.Answers.{IsForeignToAll, IsOtherLeft}
use Rattle.pk_multi.specs.Own.{is_own_under, spaces_of, first_own_of}
use Rattle.pk_multi.specs.State.{State}
use Rattle.pk_multi.specs.steps.Calling.{IsToldOwn}
use Rattle.pk_multi.specs.declared.fault.SharedOther.{SharedOther}
use Rattle.pk_multi.specs.declared.fault.SharedOther.TheVariants as others
use Rattle.pk_multi.proofs.MakingLemmas.{or_false}

pub any_map : {A B : Type 0} (p : B → Bool) (f : A → B) (xs : List A) → list_any p (map f xs) ≡ list_any (λ x. p (f x)) xs
any_map p f [] = refl
any_map p f (x ∷ xs) = ap (λ b. p (f x) || b) (any_map p f xs)

not_under : (spaces : List Text) (i : ℕ) (ns name : Text) → slice_get spaces i ≡ Some ns → is_own_under spaces name ≡ false → is_own ns name ≡ false
not_under [] i ns name e h = absurd cc
not_under (s ∷ spaces) zero ns name e h = let g : s ≡ ns = cc in ap (λ t. is_own t name) (sym g) ∙ (or_false (is_own s name) (is_own_under spaces name) h).0
not_under (s ∷ spaces) (suc i) ns name e h = not_under spaces i ns name e (or_false (is_own s name) (is_own_under spaces name) h).1

none_under : (spaces : List Text) (i : ℕ) (ns : Text) (names : List Text) → slice_get spaces i ≡ Some ns → find (is_own_under spaces) names ≡ None → find (is_own ns) names ≡ None
none_under spaces i ns [] e h = refl
none_under spaces i ns (n ∷ names) e h = go (none_under spaces i ns names e) (is_own_under spaces n) refl h
  where
    go : (find (is_own_under spaces) names ≡ None → find (is_own ns) names ≡ None) → (b : Bool) → is_own_under spaces n ≡ b → (if b then Some n else find (is_own_under spaces) names) ≡ None
        → find (is_own ns) (n ∷ names) ≡ None
    go rest true q g = absurd cc
    go rest false q g = ap (λ b. if b then Some n else find (is_own ns) names) (not_under spaces i ns n e q) ∙ rest g

space_at : (ps : List Pack) (i : ℕ) (p : Pack) → slice_get ps i ≡ Some p → slice_get (spaces_of ps) i ≡ Some p.index.ns
space_at [] i p e = absurd cc
space_at (q ∷ ps) zero p e = let s : q ≡ p = cc in ap (λ (q : Pack). Some q.index.ns) s
space_at (q ∷ ps) (suc i) p e = space_at ps i p e

-- a command that names what is a program's
pub own_left : (s r : State) (c : Cmd) (name : Text) (f : SharedOther) → s.failed ≡ false → is_foreign c ≡ true → first_own_of s.packs c ≡ Some name → IsToldOwn name s r f → IsOtherLeft s c r f
own_left s r c name others.NotForeign g k e h = absurd h
own_left s r c name (others.Own n) g k e h = (g, k, e ∙ ap Some (sym h.0), h.1)
own_left s r c name others.Memory g k e h = (h, λ x. k)

-- the namespaces of packs as the code keeps them
pub spaces_written : (ws : List Written) → spaces_of (map pack_view ws) ≡ map (λ (w : Written). w.index.ns) ws
spaces_written [] = refl
spaces_written (w ∷ ws) = ap (λ ns. w.index.ns ∷ ns) (spaces_written ws)

-- a command that names nothing of any pack is one of somebody else for each
pub foreign_to_all : (ps : List Pack) (c : Cmd) → cmd_fits c ≡ true → is_foreign c ≡ true → first_own_of ps c ≡ None → IsForeignToAll ps c
foreign_to_all ps c f k n = λ i p e. record {
  fits = f;
  foreign = k;
  apart = first_own-run p.index.ns c ∙ none_under (spaces_of ps) i p.index.ns (simple_names (run_of c)) (space_at ps i p e) n;
}
