-- From what one turn or call does to what every list of these shows.
use Rattle.std.proofs.Common.{ℕ, ◌+◌, ◌≤◌, ◌⊎◌, inl, inr, List, [], ◌∷◌, refl, arith}
use Rattle.mc_cmd.specs.Layout.{answer}
use Rattle.mc_cmd.specs.Pack.{Pack, Standing, loaded}
use Rattle.mc_cmd.specs.World.{World}
use Rattle.wm_ast.specs.declared.module.Module.{Module}
use Rattle.pk_agree.specs.Job.{Job, first_job}
use Rattle.pk_agree.specs.Stepwise.{Move, call, turn, IsLawfulMove, LawfulMoves, turned, after_move, after_moves, turned_job, JobAfterMove, JobAfterMoves}
use Rattle.pk_agree.proofs.Schedules.{IsSame, Layers, Stage, Inv, kept_call, first}

module _ (m : Module) (pack : Pack) (At : World → Job → ℕ → Type 0) (Rest : World → Job → Type 0) (l : Layers m pack At Rest) where
  abbrev Held : Standing → Job → Type 0
  Held s j = Inv m pack At Rest l s j

  abbrev Kept : Standing → Job → Move → Type 0
  Kept s j x = (i : Job) × JobAfterMove m (answer pack.index.ns s.world) j x i × Held (after_move pack s x) i

  kept_turn : (s : Standing) (j : Job) → Held s j → Kept s j turn
  kept_turn s j h = (later, refl, go h.stage)
    where
      later : Job
      later = turned_job j

      same : IsSame j later
      same = (refl, refl, refl)

      on : (k : ℕ) → j.credit ≤ k → ((i : ℕ) × At (turned pack s).world j i × (k + 1 ≤ i)) ⊎ Rest (turned pack s).world j
          → Stage m pack At Rest l (turned pack s).world later
      on k c (inl a) = inl (a.0, l.at_same (turned pack s).world j later a.0 same a.1, (let z : k + 1 ≤ a.0 = a.2 in omega arith))
      on k c (inr a) = inr (l.rest_same (turned pack s).world j later same a, refl)

      go : Stage m pack At Rest l s.world j → Held (turned pack s) later
      go (inl a) = let r = l.turn_runs s j a.0 a.1 h.uncut in record { uncut = r.0; stage = on a.0 a.2 r.1 }
      go (inr a) =
          let r = l.turn_rests s j a.0 h.uncut in
          record { uncut = r.0; stage = inr (l.rest_same (turned pack s).world j later same r.1, refl) }

  kept : (s : Standing) (j : Job) (x : Move) → Held s j → IsLawfulMove pack.index x → Kept s j x
  kept s j (call n args) i h = kept_call m pack At Rest l s j n args i h
  kept s j turn i h = kept_turn s j i

  walk : (xs : List Move) (s : Standing) (j : Job) → Held s j → LawfulMoves pack.index xs
      → (i : Job) × JobAfterMoves m pack s j xs i × Held (after_moves pack xs s) i
  walk [] s j i h = (j, refl, i)
  walk (x ∷ xs) s j i h =
      let k = kept s j x i h.0 in
      let r = walk xs (after_move pack s x) k.0 k.2 h.1 in
      (r.0, (k.0, k.1, r.1), r.2)

  -- after every lawful list of moves there is a job of which it all holds
  pub stands_after_moves : (xs : List Move) → LawfulMoves pack.index xs
      → (j : Job) × JobAfterMoves m pack (loaded pack) (first_job m) xs j × Held (after_moves pack xs (loaded pack)) j
  stands_after_moves xs h = walk xs (loaded pack) (first_job m) (first m pack At Rest l) h
