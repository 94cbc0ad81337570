-- Where the piece that is next leads a job; and that a pack that holds it does a round and a turn of it.
use Rattle.std.proofs.Common.{◌≡◌, ℕ, suc, ◌+◌, ◌-◌, ◌<◌, ◌≤◌, ◌⊎◌, inl, inr, Option, Some, None, true, false, refl, sym, ap, ◌∙◌, subst, arith}
use Rattle.std.specs.Prelude.{ℤ, pos, negsuc}
use Rattle.mc_nbt.specs.Tree.{int}
use Rattle.mc_cmd.specs.declared.TheConstants.{PIECE}
use Rattle.mc_cmd.specs.Command.{exactly}
use Rattle.mc_cmd.specs.Form.{Text}
use Rattle.mc_cmd.specs.Pack.{Pack}
use Rattle.mc_cmd.specs.World.{some_is_in}
use Rattle.wm_ast.specs.declared.module.Module.{Module}
use Rattle.cc_line.specs.Sight.{in_io, in_rest}
use Rattle.cc_line.specs.Key.{key_state, key_next, key_fail, score_trap, PieceId, id_tree}
use Rattle.cc_line.specs.State.{State}
use Rattle.cc_line.specs.Item.{Items, run_items, items_most, ItemsReady}
use Rattle.cc_sched.specs.Charge.{round_weight, charge, exits, with_scores, IsLike, Paid}
use Rattle.cc_sched.specs.Names.{is_end, PieceFits}
use Rattle.cc_sched.specs.Pieces.{end_weight, turn_weight, is_one, is_zero, piece_of, told, Ends, Named, Piece, Settled, settled_on, settled_over}
use Rattle.cc_sched.proofs.ChargeLemmas.{charge_fits, charge_most, pays}
use Rattle.cc_sched.proofs.PieceItems.{piece_avoids, piece_items_fit, piece_leads, piece_most, piece_ready}
use Rattle.cc_pieces.specs.Law.{IsLight}
use Rattle.pk_agree.specs.Job.{Job}
use Rattle.pk_agree.specs.Heaviest.{heaviest}
use Rattle.pk_agree.specs.Linked.{HasPiece, charged_piece}
use Rattle.pk_agree.proofs.Alike.{Alike, Trapped, quiet_turn, scores_alike, trap_turn}
use Rattle.pk_agree.proofs.Programs.{piece_items, program, same_name}
use Rattle.pk_agree.proofs.Stages.{Stage, Rests, stage_kept, rests_kept}

pub some_same : {A : Type 0} (x y : A) → Some x ≡ Some y → x ≡ y
some_same x y e = ap (from x) e
  where
    from : {A : Type 0} → A → Option A → A
    from d None = d
    from d (Some z) = z

module _ (m : Module) (pack : Pack) where
  abbrev ns : Text
  ns = pack.index.ns

  -- Where a piece leads a job that had come so far: further, to its end, or to a trap, which once told is its end.
  pub data Lead (j : Job) (k : ℕ) (u : State) : Type 0 where
    further : (i : ℕ) → u.scores score_trap ≡ Some (pos 0) → Stage m u j i → k + 1 ≤ i → Lead j k u
    stops : u.scores score_trap ≡ Some (negsuc 0) → Rests m pack.index.ns u j → Lead j k u
    traps : (n end : ℕ) → u.scores score_trap ≡ Some (pos (suc n)) → u.keys in_rest key_fail ≡ Some (int (pos end))
        → is_one (pos end) ≡ false → ((v : State) → Trapped u (suc n) end v → Rests m pack.index.ns v j) → Lead j k u

  -- what is asked besides of those of a piece that ends the job
  pub record Closes (j : Job) (s : State) (i : PieceId) (xs : Items) : Type 0 where
    pub light : items_most (charged_piece i xs) ≤ end_weight
    pub trap : (run_items xs s).state.scores score_trap ≡ Some (negsuc 0)
    pub rests : Rests m pack.index.ns (run_items xs s).state j

  -- what is asked of the items of a piece
  pub record Does (j : Job) (k : ℕ) (s : State) (i : PieceId) (xs : Items) : Type 0 where
    pub has : HasPiece m pack i xs
    pub light : IsLight xs
    pub ready : ItemsReady xs s
    pub leads : Lead j k (run_items xs s).state
    pub closes : is_end i ≡ true → Closes j s i xs

  -- the piece that a state names, and where it leads
  pub record Runs (j : Job) (k : ℕ) (s : State) : Type 0 where
    pub id : PieceId
    pub fits : PieceFits id
    pub named : s.keys in_rest key_next ≡ Some (id_tree id)
    pub running : s.keys in_io key_state ≡ Some (int (pos 1))
    pub does : Does j k s id (piece_items m id)

  pub runs_by : (j : Job) (k : ℕ) (s : State) (i : PieceId) (xs : Items) → piece_items m i ≡ xs → PieceFits i
      → s.keys in_rest key_next ≡ Some (id_tree i) → s.keys in_io key_state ≡ Some (int (pos 1)) → Does j k s i xs
      → Runs j k s
  runs_by j k s i xs e f n r d =
      record { id = i; fits = f; named = n; running = r; does = subst (Does j k s i) (sym e) d }

  -- ---- as it is run

  -- what is run for it, without its charges, and the state after that
  abbrev pub run_for : (j : Job) (k : ℕ) (s : State) → Runs j k s → Items
  run_for j k s r = piece_of r.id (piece_items m r.id)

  abbrev pub ran : (j : Job) (k : ℕ) (s : State) → Runs j k s → State
  ran j k s r = (run_items (run_for j k s r) s).state

  same_end : (j : Job) (k : ℕ) (s : State) → (r : Runs j k s) → ran j k s r ≡ (run_items (piece_items m r.id) s).state
  same_end j k s r = piece_leads r.id (piece_items m r.id) s

  abbrev pub paid_items : (j : Job) (k : ℕ) (s : State) → (r : Runs j k s) → Paid (run_for j k s r) s
  paid_items j k s r =
      pays (run_for j k s r) s (piece_avoids r.id (piece_items m r.id) r.does.light.avoids)
      (piece_ready r.id (piece_items m r.id) s r.does.ready)

  -- it ends the job where its name tells so
  ended_by : (j : Job) (k : ℕ) (s : State) → (r : Runs j k s) → is_end r.id ≡ true → Ends (program m r.id) s
  ended_by j k s r e =
      let p : Paid (run_for j k s r) s = paid_items j k s r in
      let c : Closes j s r.id (piece_items m r.id) = r.does.closes e in
      let same : ran j k s r ≡ (run_items (piece_items m r.id) s).state = same_end j k s r in
      let keys : (run_items (program m r.id) s).state.keys in_io key_state ≡ Some (int c.rests.number) =
      ap (λ (u : State). u.keys in_io key_state) (p.state ∙ ap (λ u. with_scores u p.scores) same) ∙ c.rests.state in
      record {
        light = c.light;
        trap = ap (λ (u : State). u.scores score_trap) p.state ∙ (p.like score_trap refl ∙ (ap (λ (u : State). u.scores score_trap) same ∙ c.trap));
        idle = record { number = c.rests.number; state = keys; other = c.rests.idle };
      }

  -- the scheduler's piece: in a turn, and in a round of a tick
  abbrev pub IsNamed : State → Type 0
  IsNamed s = Named pack.functions pack.index.ns (program m) (heaviest m) s

  pub named_of : (j : Job) (k : ℕ) (s : State) → Runs j k s → IsNamed s
  named_of j k s r =
      let xs : Items = piece_items m r.id in
      let p : Paid (run_for j k s r) s = paid_items j k s r in
      let light : items_most (charge round_weight xs) + turn_weight < PIECE = r.does.light.light in
      let same : items_most (charge round_weight xs) ≡ items_most xs + exits xs = charge_most round_weight xs in
      let one : items_most (run_for j k s r) ≤ items_most xs + 1 = piece_most r.id xs in
      record {
        id = r.id;
        id_fits = r.fits;
        named = r.named;
        holds = r.does.has.lines;
        helpers = r.does.has.helpers;
        fits = charge_fits round_weight (run_for j k s r) (piece_items_fit r.id xs r.fits r.does.light.fits) (omega arith);
        ready = p.ready;
        light = r.does.has.weighs;
        ends = ended_by j k s r;
      }

  pub piece_of_stage : (j : Job) (k : ℕ) (s : State) → (r : Runs j k s) → s.scores score_trap ≡ Some (pos 0) → Piece pack.functions pack.index.ns (program m) (heaviest m) s
  unfolding named_of
  piece_of_stage j k s r quiet =
      let p : Paid (run_for j k s r) s = paid_items j k s r in
      let weighs : items_most (program m r.id) + turn_weight ≤ heaviest m = r.does.has.weighs in
      let b : p.charged.charge ≤ items_most (program m r.id) + round_weight = p.charged.bounded in
      record {
        named = named_of j k s r;
        running = r.running;
        quiet = quiet;
        charged = record {
          charge = p.charged.charge;
          left = p.charged.left;
          covers = p.charged.covers;
          bounded = (let x : p.charged.charge ≤ heaviest m - 2 = omega arith in x);
        };
      }

  -- ---- a round of it

  -- the job is over, and once a trap is told the pack rests, whatever the scheduler keeps
  pub record Closed (j : Job) (u : State) : Type 0 where
    pub number : ℤ
    pub trap : u.scores score_trap ≡ Some number
    pub loud : is_zero number ≡ false
    pub rests : (f : Text → Option ℤ) → IsLike f u.scores → Rests m pack.index.ns (told (with_scores u f)) j

  -- the job has come further by a piece at least, or is over
  abbrev pub Led : Job → ℕ → State → Type 0
  Led j k u = ((i : ℕ) × Stage m u j i × (k ≤ i) × (u.scores score_trap ≡ Some (pos 0))) ⊎ Closed j u

  like_then : (f g h : Text → Option ℤ) → IsLike f g → IsLike g h → IsLike f h
  like_then f g h a b j e = a j e ∙ b j e

  not_zero : (n : ℕ) → is_zero (pos (suc n)) ≡ false
  not_zero n = grind arith

  round_by : (j : Job) (k : ℕ) (v : State) (f : Text → Option ℤ) → IsLike f v.scores → Lead j k v
      → Led j (k + 1) (with_scores v f)
  round_by j k v f g (further i q a h) = inl (i, stage_kept m v (with_scores v f) j i (scores_alike v f g) a, h, g score_trap refl ∙ q)
  round_by j k v f g (stops q a) = inr (record {
    number = negsuc 0;
    trap = g score_trap refl ∙ q;
    loud = refl;
    rests = λ x l. rests_kept m pack.index.ns v (told (with_scores v x)) j (quiet_turn v x (negsuc 0) q refl (like_then x f v.scores l g)) a;
  })
  round_by j k v f g (traps n end q h o a) = inr (record {
    number = pos (suc n);
    trap = g score_trap refl ∙ q;
    loud = not_zero n;
    rests = λ x l. a (told (with_scores v x)) (trap_turn v x n end q (like_then x f v.scores l g) h);
  })

  own_round : (j : Job) (k : ℕ) (s : State) → (r : Runs j k s) → Led j (k + 1) (run_items (program m r.id) s).state
  own_round j k s r =
      let p : Paid (run_for j k s r) s = paid_items j k s r in
      subst (λ u. Led j (k + 1) u) (sym p.state)
      (round_by j k (ran j k s r) p.scores p.like (subst (λ u. Lead j k u) (sym (same_end j k s r)) r.does.leads))

  -- whichever piece it is that the state names
  pub round_of : (j : Job) (k : ℕ) (s : State) → Runs j k s → (p : IsNamed s) → Led j (k + 1) (run_items (program m p.id) s).state
  round_of j k s r p =
      subst (λ i. Led j (k + 1) (run_items (program m i) s).state)
      (same_name r.id p.id r.fits p.id_fits (some_same (id_tree r.id) (id_tree p.id) (sym r.named ∙ p.named)))
      (own_round j k s r)

  -- ---- behind a turn and a tick

  -- the piece that a state names is none that ends the job
  pub record IsOpen (s : State) : Type 0 where
    pub id : PieceId
    pub named : s.keys in_rest key_next ≡ Some (id_tree id)
    pub goes : is_end id ≡ false

  pub open_kept : (s u : State) → Alike s u → IsOpen s → IsOpen u
  open_kept s u h o = record { id = o.id; named = h.keys in_rest key_next refl ∙ o.named; goes = o.goes }

  -- the job has come further by a piece at least, and goes on, or is over
  abbrev pub Next : Job → ℕ → State → Type 0
  Next j k u = ((i : ℕ) × Stage m u j i × (k ≤ i) × IsOpen u) ⊎ Rests m pack.index.ns u j

  abbrev pub IsSettled : State → Type 0
  IsSettled u = Settled pack.functions pack.index.ns (program m) (heaviest m) u

  open_of : (u : State) → IsSettled u → u.scores score_trap ≡ Some (pos 0) → IsOpen u
  open_of u (settled_on p e) q = record { id = p.named.id; named = p.named.named; goes = e }
  open_of u (settled_over o) q =
      let x : true ≡ false = ap (λ z. some_is_in (exactly (pos 0)) z) (sym q ∙ o.trap) ∙ o.loud in
      absurd cc

  -- once a trap is told
  pub told_next : (j : Job) (k : ℕ) (u : State) → Led j k u → IsSettled u → Next j k (told u)
  told_next j k u (inl a) d =
      let h : Alike u (told u) = quiet_turn u u.scores (pos 0) a.3 refl (λ h e. refl) in
      inl (a.0, stage_kept m u (told u) j a.0 h a.1, a.2, open_kept u (told u) h (open_of u d a.3))
  told_next j k u (inr c) d = inr (c.rests u.scores (λ h e. refl))
