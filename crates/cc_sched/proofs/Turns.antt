-- One turn: the guard, the piece, and what ends a turn.
use Rattle.std.proofs.Common.{◌≡◌, ℕ, ◌+◌, ◌-◌, ◌≤◌, [], ◌∷◌, ◌++◌, Some, Bool, true, false, refl, ap, ◌∙◌, subst, arith}
use Rattle.std.specs.Prelude.{ℤ, pos, ◌&&◌, not, if◌then◌else◌, option_and_then}
use Rattle.mc_nbt.specs.Tree.{int, select}
use Rattle.mc_nbt.specs.Path.{is_path}
use Rattle.mc_nbt.specs.Word.{is_key}
use Rattle.mc_cmd.specs.Form.{Text}
use Rattle.mc_cmd.specs.Command.{exactly}
use Rattle.mc_cmd.specs.Grammar.{cmd_text}
use Rattle.mc_cmd.specs.Word.{is_namespace, is_holder}
use Rattle.mc_cmd.specs.World.{World, some_is_in}
use Rattle.mc_cmd.specs.Chain.{Texts, Functions, has_pattern}
use Rattle.mc_cmd.specs.Layout.{full_name}
use Rattle.mc_cmd.specs.steps.Straight.{Runs}
use Rattle.mc_cmd.proofs.Runs.{whole_from}
use Rattle.cc_line.specs.Sight.{in_io, Sight, Shows, SameOutside, Does}
use Rattle.cc_line.specs.Key.{PieceId, key_state}
use Rattle.cc_line.specs.State.{State, number_at, seen}
use Rattle.cc_line.specs.Step.{Flow, flow, more, step_text, steps_texts, fails, in_range, stop_when}
use Rattle.cc_line.specs.Place.{scratch}
use Rattle.cc_line.specs.Fit.{steps_fit}
use Rattle.cc_line.specs.Item.{Items, item_text, items_texts, no_more, run_items}
use Rattle.cc_line.proofs.DoesLemmas.{does_append, does_before}
use Rattle.cc_line.proofs.FitLemmas.{all_speak, unfilled_before}
use Rattle.cc_line.proofs.StepLemmas.{AllSpeak, steps_do}
use Rattle.cc_line.proofs.ItemLemmas.{items_do, items_unfilled, items_within}
use Rattle.cc_sched.specs.Names.{next_name, score_state}
use Rattle.cc_sched.specs.Sched.{end_texts, guard_steps, run_command, trap_item, next_texts, HasSched}
use Rattle.cc_sched.specs.Pieces.{Idle, is_one, guarded, told, Named, Stands}
use Rattle.cc_sched.specs.Turn.{Turned, Whole}
use Rattle.cc_sched.proofs.Dispatch.{Body, body_of, dispatch, run_speaks}
use Rattle.cc_sched.proofs.Finishing.{Closing, finish, finish_unfilled, same}

pub guard_fits : steps_fit guard_steps ≡ true
unfolding is_holder is_path is_key
guard_fits = refl

-- a whole list of lines as a chain
pub whole_of : (functions : Functions) (ns name : Text) (ts : Texts) (v u : Sight) (k n : ℕ) (w : World) → functions (full_name ns name) ≡ Some ts → has_pattern ts ≡ false → Body functions ns ts v k u → k ≤ n → Shows ns w v → Whole functions ns name n w u
whole_of functions ns name ts v u k n w h p b le sh = go (b.by w sh)
  where
    go : (w' : World) × (j : ℕ) × (j ≤ k) × Runs functions ts w j w' × Shows ns w' u × SameOutside ns w w' → Whole functions ns name n w u
    go r = let low = r.2 in record {
      world = r.0;
      left = n - r.1;
      shows = r.4;
      outside = r.5;
      is = whole_from functions (full_name ns name) ts w r.0 r.1 n (omega arith) h p r.3;
    }

-- the guard's condition, by the number of the pack's state
abbrev pub is_other : State → Bool
is_other g = not (some_is_in (exactly (pos 1)) (g.scores score_state)) && true

pub other_is : (s : State) (z : ℤ) → s.keys in_io key_state ≡ Some (int z) → is_other (guarded s) ≡ not (is_one z) && true
other_is s z e = ap (λ o. not (some_is_in (exactly (pos 1)) (Some (number_at (option_and_then (λ u. select u []) o)))) && true) e

module _ (functions : Functions) (ns : Text) (piece : ℕ) (n : is_namespace ns ≡ true) (d : HasSched functions ns piece) where
  pub guard_by : (s : State) (b : Bool) → is_other (guarded s) ≡ b → Does functions ns (steps_texts ns guard_steps) (seen s) 4 b (seen (guarded s))
  guard_by s b e = go b (is_other (guarded s)) e (steps_do functions ns guard_steps s (all_speak ns n guard_steps guard_fits) guard_fits (tt, λ x. ((tt, tt), λ y. tt)))
    where
      go : (b c : Bool) → c ≡ b → (let r : Flow = more 2 (if c then flow true (guarded s) 2 else more 2 (flow false (guarded s) 0)) in Does functions ns (steps_texts ns guard_steps) (seen s) r.used r.stopped (seen r.state)) → Does functions ns (steps_texts ns guard_steps) (seen s) 4 b (seen (guarded s))
      go true true e f = f
      go false false e f = f
      go true false e f = absurd cc
      go false true e f = absurd cc

  rest_unfilled : has_pattern (cmd_text (run_command ns) ∷ end_texts ns) ≡ false
  rest_unfilled = unfilled_before (run_command ns) (end_texts ns) (run_speaks ns n) (finish_unfilled functions ns (λ i. no_more) piece n d)

  pub guard_unfilled : (ts : Texts) → has_pattern ts ≡ false → has_pattern (steps_texts ns guard_steps ++ ts) ≡ false
  guard_unfilled ts h =
      let a = all_speak ns n guard_steps guard_fits in
      go a
    where
      go : AllSpeak ns guard_steps → has_pattern (steps_texts ns guard_steps ++ ts) ≡ false
      go a = unfilled_before _ (step_text ns (stop_when (fails (in_range (scratch score_state) (exactly (pos 1))) ∷ [])) ∷ ts) a.0 (unfilled_before _ ts a.1.0 h)

  next_unfilled : has_pattern (next_texts ns) ≡ false
  next_unfilled = guard_unfilled (cmd_text (run_command ns) ∷ end_texts ns) rest_unfilled

  -- a turn: the piece is run, and what ends a turn
  pub turn : (program : PieceId → Items) (s : State) → s.keys in_io key_state ≡ Some (int (pos 1)) → (p : Named functions ns program piece (guarded s)) → Stands functions ns program piece (run_items (program p.id) (guarded s)).state → (quota : ℕ) → piece ≤ quota → (w : World) → Shows ns w (seen s) → Turned functions ns program piece quota w (run_items (program p.id) (guarded s)).state
  turn program s e p stands quota enough w sh =
      let g : State = guarded s in
      let u : State = (run_items (program p.id) g).state in
      let k : ℕ = (run_items (program p.id) g).used in
      let low = items_within (program p.id) g in
      let light = p.light in
      let f : Closing functions ns program piece n d u = finish functions ns program piece n d u stands in
      let few = f.light in
      let v : State = told f.state in
      let ts : Texts = end_texts ns in
      let run_it : Does functions ns (cmd_text (run_command ns) ∷ []) (seen g) (2 + k) false (seen u) =
      dispatch functions ns piece p.id (items_texts ns (program p.id)) (seen g) (seen u) k n d p.id_fits p.named p.holds (items_unfilled ns n (program p.id) p.fits) (body_of functions ns (run_items (program p.id) g).stopped (items_texts ns (program p.id)) (seen g) (seen u) k (items_do functions ns n (program p.id) g p.fits p.helpers p.ready)) in
      let rest : Does functions ns (cmd_text (run_command ns) ∷ ts) (seen g) (2 + k + f.weight) false (seen v) =
      does_append functions ns false (cmd_text (run_command ns) ∷ []) ts (seen g) (seen u) (seen v) (2 + k) f.weight _ run_it f.does (same (2 + k + f.weight)) in
      let all : Does functions ns (next_texts ns) (seen s) (4 + (2 + k + f.weight)) false (seen v) =
      does_append functions ns false (steps_texts ns guard_steps) (cmd_text (run_command ns) ∷ ts) (seen s) (seen g) (seen v) 4 (2 + k + f.weight) _ (guard_by s false (other_is s (pos 1) e)) rest (same (4 + (2 + k + f.weight))) in
      let within : 4 + (2 + k + f.weight) ≤ quota = omega arith in
      record {
        state = f.state;
        whole = whole_of functions ns next_name (next_texts ns) (seen s) (seen v) (4 + (2 + k + f.weight)) quota w d.next next_unfilled (body_of functions ns false (next_texts ns) (seen s) (seen v) (4 + (2 + k + f.weight)) all) within sh;
        finishes = f.finishes;
        settled = f.settled;
      }

  -- in another state than 1 lines behind a guard aren't run
  pub guarded_out : (name : Text) (ts : Texts) → functions (full_name ns name) ≡ Some (steps_texts ns guard_steps ++ ts) → has_pattern ts ≡ false → (s : State) → Idle s → (quota : ℕ) → 4 ≤ quota → (w : World) → Shows ns w (seen s) → Whole functions ns name quota w (seen (guarded s))
  guarded_out name ts h q s i quota four w sh =
      let stops : is_other (guarded s) ≡ true = other_is s i.number i.state ∙ ap (λ b. not b && true) i.other in
      let all : Does functions ns (steps_texts ns guard_steps ++ ts) (seen s) 4 true (seen (guarded s)) = does_before functions ns (steps_texts ns guard_steps) ts (seen s) (seen (guarded s)) 4 (guard_by s true stops) in
      whole_of functions ns name (steps_texts ns guard_steps ++ ts) (seen s) (seen (guarded s)) 4 quota w h (guard_unfilled ts q) (body_of functions ns true (steps_texts ns guard_steps ++ ts) (seen s) (seen (guarded s)) 4 all) four sh

  pub idle : (s : State) → Idle s → (quota : ℕ) → 4 ≤ quota → (w : World) → Shows ns w (seen s) → Whole functions ns next_name quota w (seen (guarded s))
  idle = guarded_out next_name (cmd_text (run_command ns) ∷ end_texts ns) d.next rest_unfilled
