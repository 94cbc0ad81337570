-- The end of a turn and of a tick: the piece that ends the job, where it is next, and the trap.
use Rattle.std.proofs.Common.{◌≡◌, ℕ, ◌+◌, ◌≤◌, [], ◌∷◌, Some, Bool, true, false, refl, sym, ap, ◌∙◌, subst, arith}
use Rattle.std.specs.Prelude.{ℤ, pos, negsuc, ◌&&◌, if◌then◌else◌, is_some, option_and_then}
use Rattle.mc_nbt.specs.Tree.{key, select}
use Rattle.mc_nbt.specs.Path.{is_path}
use Rattle.mc_nbt.specs.Word.{is_key}
use Rattle.mc_cmd.specs.Form.{Text}
use Rattle.mc_cmd.specs.Command.{exactly, from}
use Rattle.mc_cmd.specs.Grammar.{cmd_text}
use Rattle.mc_cmd.specs.Word.{is_namespace, is_holder}
use Rattle.mc_cmd.specs.World.{some_is_in}
use Rattle.mc_cmd.specs.Chain.{Functions, has_pattern}
use Rattle.cc_line.specs.Sight.{in_rest, Does}
use Rattle.cc_line.specs.Key.{PieceId, body_piece, init_piece, shared_piece, end_piece, id_tree, key_ends, key_next, score_trap}
use Rattle.cc_line.specs.State.{State, seen, selected}
use Rattle.cc_line.specs.Step.{flow, conds_hold}
use Rattle.cc_line.specs.Item.{Items, called, item_command, item_fits, item_text, items_most, items_texts, run_item, run_items, steps_items}
use Rattle.cc_line.proofs.DoesLemmas.{does_append}
use Rattle.cc_line.proofs.FitLemmas.{unfilled_before}
use Rattle.cc_line.proofs.ItemLemmas.{item_does, item_speaks, items_do, items_unfilled, items_within}
use Rattle.cc_sched.specs.Names.{is_end}
use Rattle.cc_sched.specs.Sched.{end_texts, ends_site, finish_command, finish_conds, trap_conds, trap_item, trap_steps, HasSched}
use Rattle.cc_sched.specs.Pieces.{Ends, Finishes, finished, finishing, goes_on, Idle, is_over, is_zero, Piece, Settled, settled_on, settled_over, Stands, told}
use Rattle.cc_sched.proofs.Dispatch.{body_of, dispatch_end, finish_skips, finish_speaks}

pub trap_fits : item_fits trap_item ≡ true
unfolding is_holder is_path is_key
trap_fits = refl

pub same : (a : ℕ) → a ≤ a
same a = omega arith

-- ---- the test for a trap

pub trap_used : (u : State) (b : Bool) → conds_hold trap_conds u ≡ b → (run_item trap_item u).used ≡ (if b then 5 else 2)
trap_used u b e = ap (λ c. (if c then called 2 (run_items (steps_items trap_steps) u) else flow false u 2).used) e ∙ go b
  where
    go : (b : Bool) → (if b then called 2 (run_items (steps_items trap_steps) u) else flow false u 2).used ≡ (if b then 5 else 2)
    go true = refl
    go false = refl

pub trap_low : (u : State) → (run_item trap_item u).used ≤ 5
trap_low u = go (conds_hold trap_conds u) (trap_used u (conds_hold trap_conds u) refl)
  where
    go : (b : Bool) → (run_item trap_item u).used ≡ (if b then 5 else 2) → (run_item trap_item u).used ≤ 5
    go true e = omega arith
    go false e = omega arith

trap_goes_on : (u : State) → (run_item trap_item u).stopped ≡ false
trap_goes_on u = go (conds_hold trap_conds u)
  where
    go : (b : Bool) → (if b then called 2 (run_items (steps_items trap_steps) u) else flow false u 2).stopped ≡ false
    go true = refl
    go false = refl

-- where none is recorded nothing is told
told_none : (u : State) → conds_hold trap_conds u ≡ false → told u ≡ u
told_none u e = ap (λ c. (if c then called 2 (run_items (steps_items trap_steps) u) else flow false u 2).state) e

-- ---- the test for a piece that ends the job

ends_told : (i : PieceId) → is_some (select (id_tree i) (key key_ends ∷ [])) ≡ is_end i
ends_told (body_piece f j) = refl
ends_told (init_piece j) = refl
ends_told (shared_piece j) = refl
ends_told (end_piece w) = refl

-- behind a trap or the end of the job it fails
finish_loud : (s : State) (z : ℤ) → s.scores score_trap ≡ Some z → is_zero z ≡ false → conds_hold finish_conds s ≡ false
finish_loud s z e l = ap (λ o. some_is_in (exactly (pos 0)) o && (is_some (selected s ends_site) && true)) e ∙ ap (λ b. b && (is_some (selected s ends_site) && true)) l

-- else it is by the piece that is next
finish_quiet : (s : State) (i : PieceId) (b : Bool) → s.scores score_trap ≡ Some (pos 0) → s.keys in_rest key_next ≡ Some (id_tree i) → is_end i ≡ b → conds_hold finish_conds s ≡ b
finish_quiet s i b e f g =
    ap (λ o. some_is_in (exactly (pos 0)) o && (is_some (selected s ends_site) && true)) e
    ∙ ap (λ o. is_some (option_and_then (λ u. select u (key key_ends ∷ [])) o) && true) f
    ∙ ap (λ c. c && true) (ends_told i ∙ g) ∙ unit b
  where
    unit : (b : Bool) → b && true ≡ b
    unit true = refl
    unit false = refl

-- ---- the two lines

module _ (functions : Functions) (ns : Text) (program : PieceId → Items) (piece : ℕ) (n : is_namespace ns ≡ true) (d : HasSched functions ns piece) where
  pub trap_does : (u : State) → Does functions ns (item_text ns trap_item ∷ []) (seen u) (run_item trap_item u).used false (seen (told u))
  trap_does u = subst (λ b. Does functions ns (item_text ns trap_item ∷ []) (seen u) (run_item trap_item u).used b (seen (told u))) (trap_goes_on u)
      (item_does functions ns n trap_item u trap_fits (d.traps, tt) ((tt, tt), λ e. (tt, λ f. (tt, λ g. tt))))

  pub finish_unfilled : has_pattern (end_texts ns) ≡ false
  finish_unfilled = unfilled_before (finish_command ns) (item_text ns trap_item ∷ []) (finish_speaks ns n) (unfilled_before (item_command ns trap_item) [] (item_speaks ns n trap_item trap_fits) refl)

  -- where they lead from a state
  pub record Closing (s : State) : Type 0 where
    pub state : State
    pub weight : ℕ
    pub does : Does functions ns (end_texts ns) (seen s) weight false (seen (told state))
    pub light : weight ≤ 14
    pub finishes : Finishes functions ns program piece s state
    pub settled : Settled functions ns program piece state

  -- a line that leads to a state, and the trap
  both : (s u : State) (k : ℕ) → Does functions ns (cmd_text (finish_command ns) ∷ []) (seen s) k false (seen u) → Does functions ns (end_texts ns) (seen s) (k + (run_item trap_item u).used) false (seen (told u))
  both s u k f = does_append functions ns false (cmd_text (finish_command ns) ∷ []) (item_text ns trap_item ∷ []) (seen s) (seen u) (seen (told u)) k (run_item trap_item u).used (k + (run_item trap_item u).used) f (trap_does u) (same (k + (run_item trap_item u).used))

  settles : (s : State) → conds_hold finish_conds s ≡ false → Settled functions ns program piece s → Closing s
  settles s e q =
      let five : (run_item trap_item s).used ≤ 5 = trap_low s in
      record {
        state = s;
        weight = 2 + (run_item trap_item s).used;
        does = both s s 2 (finish_skips functions ns s n e);
        light = (let y : 2 + (run_item trap_item s).used ≤ 14 = omega arith in y);
        finishes = finished q refl;
        settled = q;
      }

  ends_it : (s : State) (p : Piece functions ns program piece s) → is_end p.named.id ≡ true → Closing s
  ends_it s p e =
      let xs : Items = program p.named.id in
      let u : State = (run_items xs s).state in
      let k : ℕ = (run_items xs s).used in
      let end : Ends xs s = p.named.ends e in
      let low : k ≤ items_most xs = items_within xs s in
      let light = end.light in
      let none : conds_hold trap_conds u ≡ false = ap (λ o. some_is_in (from (pos 1)) o && true) end.trap in
      let two : (run_item trap_item u).used ≡ 2 = trap_used u false none in
      let run_it : Does functions ns (cmd_text (finish_command ns) ∷ []) (seen s) (3 + k) false (seen u) =
      dispatch_end functions ns piece p.named.id (items_texts ns xs) s (seen u) k n d p.named.id_fits p.named.named p.named.holds (items_unfilled ns n xs p.named.fits)
      (body_of functions ns (run_items xs s).stopped (items_texts ns xs) (seen s) (seen u) k (items_do functions ns n xs s p.named.fits p.named.helpers p.named.ready))
      (finish_quiet s p.named.id true p.quiet p.named.named e) in
      record {
        state = u;
        weight = 3 + k + (run_item trap_item u).used;
        does = both s u (3 + k) run_it;
        light = (let y : 3 + k + (run_item trap_item u).used ≤ 14 = omega arith in y);
        finishes = finishing p e refl;
        settled = settled_over (record { number = negsuc 0; trap = end.trap; loud = refl; idle = subst Idle (sym (told_none u none)) end.idle });
      }

  pub finish : (s : State) → Stands functions ns program piece s → Closing s
  finish s (is_over o) = settles s (finish_loud s o.number o.trap o.loud) (settled_over o)
  finish s (goes_on p) = by (is_end p.named.id) refl
    where
      by : (b : Bool) → is_end p.named.id ≡ b → Closing s
      by true e = ends_it s p e
      by false e = settles s (finish_quiet s p.named.id false p.quiet p.named.named e) (settled_on p e)
