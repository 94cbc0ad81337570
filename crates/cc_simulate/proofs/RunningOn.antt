-- Where items of a function do what the machine does, they do so running on over its cuts: where they name a cut, the
-- state stands at it, and the items of the cut do from there what the machine does. And made lean once more they do so.
use Rattle.std.proofs.Common.{◌≡◌, ◌≤◌, ◌<◌, ℕ, zero, suc, ◌+◌, ◌*◌, List, length, map, Option, Some, None, true, false, refl, sym, ap, ◌∙◌, subst, arith}
use Rattle.std.specs.Prelude.{pos, ◌&&◌, option_map, slice_get}
use Rattle.std.proofs.lemmas.Option.{slice_get-map, slice_get_within}
use Rattle.mc_cmd.specs.Command.{from}
use Rattle.mc_cmd.specs.World.{some_is_in}
use Rattle.wm_ast.specs.declared.answer.TrapKind.{TrapKind}
use Rattle.wm_ast.specs.declared.answer.TrapKind.TheVariants as traps
use Rattle.wm_ast.specs.declared.module.Func.{Func}
use Rattle.wm_ast.specs.declared.module.Module.{Module}
use Rattle.wm_ast.specs.declared.module.ValType.{ValType}
use Rattle.wm_ast.specs.Store.{Store}
use Rattle.wm_flat.specs.Flat.{Activation}
use Rattle.wm_flat.specs.FlatTyping.{TypedState}
use Rattle.wm_flat.specs.Program.{IsProgram}
use Rattle.wm_flat.specs.Runs.{Leads}
use Rattle.wm_flat.proofs.Consequences.{leads_on}
use Rattle.wm_flat.proofs.Keeps.{leads_typed}
use Rattle.wm_place.proofs.KindLemmas.{typed_function}
use Rattle.cc_line.specs.Sight.{in_rest}
use Rattle.cc_line.specs.Key.{key_next, score_trap, body_piece, shared_piece, id_tree}
use Rattle.cc_line.specs.Item.{Items, join, run_items, ItemsReady}
use Rattle.cc_line.specs.Place.{score_places}
use Rattle.cc_line.specs.Routine.{trap_number}
use Rattle.cc_line.specs.State.{State}
use Rattle.cc_cut.specs.Law.{rank}
use Rattle.cc_cut.specs.Piece.{Piece, function_pieces}
use Rattle.cc_cut.proofs.ListLemmas.{some_of}
use Rattle.cc_move.specs.Law.{MovesFollow, at}
use Rattle.cc_stops.specs.Law.{is_trapped}
use Rattle.cc_tails.specs.Law.{Continues, ends_there, goes_on, EndsAreNamed, GuardedItemsRunOn, HoldsBehindCuts, RunsOn}
use Rattle.cc_tails.specs.Tails.{guarded, items_at, last_named}
use Rattle.cc_pieces.specs.Dividing.{dividing_piece}
use Rattle.cc_pieces.specs.Fetching.{first_fetch, most_fetches}
use Rattle.cc_pieces.specs.Restoring.{first_restore}
use Rattle.cc_body.specs.Pieces.{lean_cut, run_on, tail_on}
use Rattle.cc_body.proofs.Bounds.{functions_are_few, pieces_few}
use Rattle.cc_simulate.specs.Callers.{IsPieceOf}
use Rattle.cc_simulate.specs.Law.{Simulates}
use Rattle.cc_simulate.specs.Stands.{Arrives, At, ChangesStoreAlone, HasStore, rank_of, Standing}
use Rattle.cc_simulate.specs.Stands as stands
use Rattle.cc_simulate.specs.Stored.{Stored}
use Rattle.cc_simulate.proofs.LeanSimulates.{further_lean, not_end, not_shared, same_body}

-- from a state that stands at a cut the lean items of its piece do what the machine does
abbrev pub CutsSimulate : Module → Type 0
CutsSimulate m =
    (results : List ValType) (st : Store) (cs : List Activation) (a : Activation) (s : State) → TypedState m results (at st cs a) → Stored m st s
    → (p : At m cs a s) (q : Piece) → IsPieceOf m a.func p.cut q → Simulates m (most_fetches + suc (rank p.visit)) st cs a (lean_cut m a.func q) s

-- items of a function that do what the machine does, where no trap is recorded and all places stand that are scores, do
-- so running on
abbrev pub FurtherSimulates : Module → Type 0
FurtherSimulates m =
    (n : ℕ) (f : Func) → slice_get m.funcs n ≡ Some f → (results : List ValType) (r : ℕ) (st : Store) (cs : List Activation) (a : Activation) (s : State) → TypedState m results (at st cs a)
    → s.scores score_trap ≡ Some (pos 0) → score_places ≤ length s.places → (xs : Items) → Simulates m r st cs a xs s → Simulates m r st cs a (run_on m n xs) s

-- ---- traps

calm : (s : State) → s.scores score_trap ≡ Some (pos 0) → is_trapped s ≡ false
calm s e = ap (λ o. some_is_in (from (pos 1)) o && true) e

trapped : (s : State) (k : TrapKind) → s.scores score_trap ≡ Some (pos (trap_number k)) → is_trapped s ≡ true
trapped s k e = ap (λ o. some_is_in (from (pos 1)) o && true) e ∙ counts k
  where
    counts : (k : TrapKind) → some_is_in (from (pos 1)) (Some (pos (trap_number k))) && true ≡ true
    counts traps.Unreachable = refl
    counts traps.DivideByZero = refl
    counts traps.Overflow = refl
    counts traps.OutOfBounds = refl
    counts traps.UndefinedElement = refl
    counts traps.UninitializedElement = refl
    counts traps.TypeMismatch = refl
    counts traps.StackExhausted = refl

-- ---- one after the other

spares_on : (s u v : State) → ChangesStoreAlone s u → ChangesStoreAlone u v → ChangesStoreAlone s v
spares_on s u v c d = record { keys = λ r k e f. d.keys r k e f ∙ c.keys r k e f; scores = λ h e f g i. d.scores h e f g i ∙ c.scores h e f g i }

-- where a state that was led to leads
arrives_on : (m : Module) (r higher k : ℕ) (st now : Store) (cs ds : List Activation) (a b : Activation) (v : State) → Leads m k (at st cs a) (at now ds b) → r < 16 * k + higher
    → Arrives m higher now ds b v → Arrives m r st cs a v
arrives_on m r higher k st now cs ds a b v leads l (stands.to_standing i later es c on x has less) =
    let paid : r < 16 * (k + i) + rank_of m x = omega arith in
    stands.to_standing (k + i) later es c (leads_on m k i (at st cs a) (at now ds b) (at later es c) leads on) x has paid
arrives_on m r higher k st now cs ds a b v leads l (stands.to_end i later c vs on stored ends e) =
    stands.to_end (k + i) later c vs (leads_on m k i (at st cs a) (at now ds b) _ leads on) stored ends e
arrives_on m r higher k st now cs ds a b v leads l (stands.to_trap i j later es c kind on stored fails recorded state) =
    stands.to_trap (k + i) j later es c kind (leads_on m k i (at st cs a) (at now ds b) (at later es c) leads on) stored fails recorded state

-- ---- running on

module _ (holds : HoldsBehindCuts) (ends : EndsAreNamed) (guards : GuardedItemsRunOn) (m : Module) (program : IsProgram m) (cuts : CutsSimulate m) (n : ℕ) (f : Func) (there : slice_get m.funcs n ≡ Some f)
    (results : List ValType) (r : ℕ) (st : Store) (cs : List Activation) (a : Activation) (typed : TypedState m results (at st cs a)) where
  -- no function has the number of the routines
  func_few : n < 100000
  func_few =
      let few : length m.funcs ≤ 8192 = functions_are_few m program in
      let within : n < length m.funcs = slice_get_within m.funcs n f there in
      omega arith

  -- from where a cut is named its piece leads on
  module _ (u : State) (i : ℕ) (q : Piece) (is : slice_get (function_pieces m n) i ≡ Some q) (named : u.keys in_rest key_next ≡ Some (id_tree (body_piece n (suc i)))) (free : is_trapped u ≡ false) where
    abbrev Goal : Type 0
    Goal = Simulates m r st cs a (lean_cut m n q) u

    -- no other standing names a cut
    no_name : {A : Type 0} (g j : ℕ) → first_restore ≤ j → u.keys in_rest key_next ≡ Some (id_tree (body_piece g j)) → A
    no_name g j high e =
        absurd
        (let same : (g ≡ n) × (j ≡ suc i) = same_body g j n (suc i) (some_of _ _ (sym e ∙ named)) in
        let index : j ≡ suc i = same.1 in
        let few : length (function_pieces m n) ≤ 900000 = pieces_few m program n in
        let within : i < length (function_pieces m n) = slice_get_within (function_pieces m n) i q is in
        omega arith)

    no_share : {A : Type 0} (j : ℕ) → u.keys in_rest key_next ≡ Some (id_tree (shared_piece j)) → A
    no_share j e = not_shared j n (suc i) func_few (some_of _ _ (sym e ∙ named))

    by_left : {A : Type 0} (g j left : ℕ) → u.keys in_rest key_next ≡ Some (id_tree (dividing_piece g j left)) → A
    by_left g j zero e = no_name g (first_restore + j) (omega arith) e
    by_left g j (suc l) e = no_name g (first_fetch + (most_fetches * j + 0)) (omega arith) e

    module _ (k : ℕ) (now : Store) (ds : List Activation) (b : Activation) (leads : Leads m k (at st cs a) (at now ds b)) where
      at_the_cut : (p : At m ds b u) → Stored m now u → r < 16 * k + (most_fetches + suc (rank p.visit)) → Goal
      at_the_cut p stored higher =
          let same : (b.func ≡ n) × (p.cut.index ≡ suc i) = same_body b.func p.cut.index n (suc i) (some_of _ _ (sym p.named ∙ named)) in
          let piece : IsPieceOf m b.func p.cut q = record { position = i; is_index = same.1; is_piece = ap (λ x. slice_get (function_pieces m x) i) same.0 ∙ is } in
          let own = cuts results now ds b u (leads_typed m results k (at st cs a) (at now ds b) program typed leads) stored p q piece in
          let done : Simulates m (most_fetches + suc (rank p.visit)) now ds b (lean_cut m n q) u =
          subst (λ (x : ℕ). Simulates m (most_fetches + suc (rank p.visit)) now ds b (lean_cut m x q) u) same.0 own in
          record {
            ready = done.ready;
            arrives = arrives_on m r (most_fetches + suc (rank p.visit)) k st now cs ds a b _ leads higher done.arrives;
            spares = done.spares;
          }

      by_standing : (x : Standing m ds b u) → HasStore m now u x → r < 16 * k + rank_of m x → Goal
      by_standing (stands.at_cut p) has higher = at_the_cut p has higher
      by_standing (stands.opening p) has higher = no_share _ p.named
      by_standing (stands.making c es p e) has higher = no_share _ p.named
      by_standing (stands.fetching c es j p e) has higher = no_name c.func (first_fetch + (most_fetches * p.passing.waits.cut.index + j)) (omega arith) p.named
      by_standing (stands.restoring c us p e) has higher = no_name c.func (first_restore + p.waits.cut.index) (omega arith) p.named
      by_standing (stands.placing p) has higher = no_share _ p.named
      by_standing (stands.growing p) has higher = no_share _ p.named
      by_standing (stands.dividing p) has higher = by_left b.func p.cut.index p.left p.named

    from_cut : Arrives m r st cs a u → Goal
    from_cut (stands.to_standing k now ds b leads x has higher) = by_standing k now ds b leads x has higher
    from_cut (stands.to_end k now b vs leads stored ends e) = not_end _ n (suc i) (some_of _ _ (sym e.named ∙ named))
    from_cut (stands.to_trap k j now ds b kind leads stored fails recorded state) =
        absurd (let both : true ≡ false = sym (trapped u kind recorded) ∙ free in cc)

  module _ (s : State) (trap : s.scores score_trap ≡ Some (pos 0)) where
    abbrev P : Items → Type 0
    P xs = Simulates m r st cs a xs s

    -- items, and those of the cut that they name
    module _ (xs ys : Items) (d : P xs) where
      abbrev u : State
      u = (run_items xs s).state

      continued : ((run_items xs s).stopped ≡ false → is_trapped u ≡ false → Simulates m r st cs a ys u) → P (join (guarded xs) ys)
      continued next =
          let runs : RunsOn xs ys s = guards xs ys s (calm s trap) d.ready (λ e f. (next e f).ready) in
          by_way runs.ready runs.continues
        where
          by_way : ItemsReady (join (guarded xs) ys) s → Continues xs ys s → P (join (guarded xs) ys)
          by_way ready (ends_there same recorded) =
              record { ready = ready; arrives = subst (Arrives m r st cs a) (sym same) d.arrives; spares = subst (ChangesStoreAlone s) (sym same) d.spares }
          by_way ready (goes_on e f same) =
              let g : Simulates m r st cs a ys u = next e f in
              record {
                ready = ready;
                arrives = subst (Arrives m r st cs a) (sym same) g.arrives;
                spares = subst (ChangesStoreAlone s) (sym same) (spares_on s u (run_items ys u).state d.spares g.spares);
              }

      -- cuts count from 1
      by_index : (j : ℕ) → last_named n xs ≡ Some j → items_at (map (lean_cut m n) (function_pieces m n)) j ≡ Some ys → P (join (guarded xs) ys)
      by_index zero last e = absurd cc
      by_index (suc i) last e = by_piece (slice_get (function_pieces m n) i) refl (sym (slice_get-map (lean_cut m n) (function_pieces m n) i) ∙ e)
        where
          by_piece : (o : Option Piece) → slice_get (function_pieces m n) i ≡ o → option_map (lean_cut m n) o ≡ Some ys → P (join (guarded xs) ys)
          by_piece None is e = absurd cc
          by_piece (Some q) is e =
              continued (λ goes free. subst (λ (zs : Items). Simulates m r st cs a zs u) (some_of _ _ e) (from_cut u i q is (ends n (suc i) xs s last goes) free d.arrives))

    pub runs_on : (xs : Items) → P xs → P (tail_on m n xs)
    runs_on xs d = holds n (map (lean_cut m n) (function_pieces m n)) P (λ xs ys j d last e. by_index xs ys d j last e) xs d

pub further_simulates : HoldsBehindCuts → EndsAreNamed → GuardedItemsRunOn → MovesFollow → (m : Module) → IsProgram m → CutsSimulate m → FurtherSimulates m
further_simulates holds ends guards moves m program cuts n f there results r st cs a s typed trap wide xs d =
    further_lean moves m program n f there (typed_function m n f program.valid there) r st cs a s wide (tail_on m n xs)
    (runs_on holds ends guards m program cuts n f there results r st cs a typed s trap xs d)
