-- What becomes of each pack of the example piece after piece.
use Rattle.std.proofs.Common.{◌≡◌, ℕ, zero, suc, ◌≤◌, ◌+◌, ◌*◌, ◌-◌, List, [], ◌∷◌, ◌++◌, Some, pos, refl, sym, ap, subst, ◌∙◌, arith, lit≤}
use Rattle.std.specs.Prelude.{slice_get}
use Rattle.std.specs.Option.{option_map}
use Rattle.mc_nbt.specs.declared.value.Value.{Value}
use Rattle.mc_nbt.specs.declared.value.Value.TheVariants as values
use Rattle.mc_cmd.specs.Layout.{Answer, new, done, answer}
use Rattle.mc_cmd.specs.Pack.{ExportType, IsCallOf, Pack, Standing, loaded}
use Rattle.wm_ast.specs.After.{after, IsNext, Outcome, Ends, HasOutcome}
use Rattle.wm_ast.specs.Instance.{call_config, exported_functions}
use Rattle.wm_ast.specs.Step.{Progress, Ended}
use Rattle.pk_agree.specs.Agree.{IsTrueOf}
use Rattle.pk_agree.specs.Job.{IsAtRest, IsOverWithin, Job, first_job}
use Rattle.pk_agree.specs.Stepwise.{Move, call, LawfulMoves, Stepwise, turned, after_move, after_moves, turned_job, JobAfterMove, JobAfterMoves}
use Rattle.pk_agree.proofs.Schedules.{IsSame}
use Rattle.witness.specs.Example.{example}
use Rattle.witness.specs.Played.{IsPlayedByTurns, job_of, moves, run_type, turns}
use Rattle.witness.proofs.Lawful.{is_call}
use Rattle.witness.proofs.Packs.{answer_is, call_begins, exports_are, told}
use Rattle.witness.proofs.Runs.{run_is, start_is, left, left_after}

-- a job after so many turns
turned_times : ℕ → Job → Job
turned_times zero j = j
turned_times (suc n) j = turned_times n (turned_job j)

turned_credit : (n : ℕ) (j : Job) → (turned_times n j).credit ≡ j.credit + n
unfolding turned_times
turned_credit zero j = let e : j.credit ≡ j.credit + 0 = omega arith in e
turned_credit (suc n) j = turned_credit n (turned_job j) ∙ (let e : j.credit + 1 + n ≡ j.credit + suc n = omega arith in e)

turned_same : (n : ℕ) (j : Job) → IsSame j (turned_times n j)
unfolding turned_times
turned_same zero j = (refl, refl, refl)
turned_same (suc n) j = turned_same n (turned_job j)

abbrev arguments : List Value
arguments = values.I64 (pos 301) ∷ []

module _ (pack : Pack) (agrees : Stepwise example pack) where
  -- ---- moves, one after the other

  at_turns : (n : ℕ) (s : Standing) (j i : Job) → JobAfterMoves example pack s j (turns n) i → i ≡ turned_times n j
  unfolding turned_times
  at_turns zero s j i h = h
  at_turns (suc n) s j i (h, is, more) = at_turns n (turned pack s) h i more ∙ ap (turned_times n) is

  both : (xs ys : List Move) (s : Standing) (j i : Job) → JobAfterMoves example pack s j (xs ++ ys) i
      → (h : Job) × JobAfterMoves example pack s j xs h × JobAfterMoves example pack (after_moves pack xs s) h ys i
  both [] ys s j i p = (j, refl, p)
  both (x ∷ xs) ys s j i (g, is, more) =
      let (h, front, back) = both xs ys (after_move pack s x) g i more in
      (h, (g, is, front), back)

  turns_lawful : (n : ℕ) → LawfulMoves pack.index (turns n)
  turns_lawful zero = tt
  turns_lawful (suc n) = (tt, turns_lawful n)

  lawful_both : (xs ys : List Move) → LawfulMoves pack.index xs → LawfulMoves pack.index ys → LawfulMoves pack.index (xs ++ ys)
  lawful_both [] ys h g = g
  lawful_both (x ∷ xs) ys h g = (h.0, lawful_both xs ys h.1 g)

  -- a job that is over after some steps, at moves that have given it enough credit
  answers_at : (xs : List Move) → LawfulMoves pack.index xs → (i : Job)
      → ((j : Job) → JobAfterMoves example pack (loaded pack) (first_job example) xs j → j ≡ i) → (n : ℕ) (p : Progress)
      → after example i.config n ≡ p → (IsNext p → ⊥) → (x : Outcome) → HasOutcome example i.config x → (a : Answer)
      → told i.instantiates x ≡ Some a → 16 * (i.offset + n + 1) ≤ i.credit
      → answer pack.index.ns (after_moves pack xs (loaded pack)).world ≡ Some a
  answers_at xs lawful i leads n p is not x ended a tells enough =
      let (j, present, true_of) = agrees.always xs lawful in
      let s : Standing = after_moves pack xs (loaded pack) in
      let holds : IsTrueOf example pack s i = subst (IsTrueOf example pack s) (leads j present) true_of in
      let over : IsOverWithin example i (i.offset + n) = (omega arith, λ next. not (subst IsNext (ap (after example i.config) (left_over i.offset n) ∙ is) next)) in
      answer_is example pack.index.ns s.world i (answer pack.index.ns s.world) x holds.tells ended
      (λ runs. absurd (holds.in_time (i.offset + n) over enough runs))
      ∙ tells
    where
      left_over : (a b : ℕ) → a + b - a ≡ b
      left_over a b = omega arith

  -- ---- instantiation

  abbrev ready : Job
  ready = turned_times 1000 (first_job example)

  ready_same : IsSame (first_job example) ready
  ready_same = turned_same 1000 (first_job example)

  ended : HasOutcome example ready.config (Ends [] left)
  ended = subst (λ c. HasOutcome example c (Ends [] left)) (sym ready_same.1) (4, start_is)

  is_new : answer pack.index.ns (after_moves pack (turns 1000) (loaded pack)).world ≡ Some new
  is_new =
      let offset : ready.offset ≡ (first_job example).offset = ready_same.0 in
      let small : (first_job example).offset ≤ 20 = lit≤ tt in
      let credit : ready.credit ≡ 0 + 1000 = turned_credit 1000 (first_job example) in
      answers_at (turns 1000) (turns_lawful 1000) ready (λ j p. at_turns 1000 (loaded pack) (first_job example) j p) 4 (Ended [] left)
      (ap (λ c. after example c 4) ready_same.1 ∙ start_is) (λ h. h) (Ends [] left) ended new (ap (λ b. told b (Ends [] left)) ready_same.2) (omega arith)

  -- ---- the call

  abbrev last : Job
  last = turned_times 1000 (job_of left 0 arguments)

  last_same : IsSame (job_of left 0 arguments) last
  last_same = turned_same 1000 (job_of left 0 arguments)

  at_call : (h i : Job) → h ≡ ready
      → JobAfterMove example (answer pack.index.ns (after_moves pack (turns 1000) (loaded pack)).world) h (call 0 arguments) i
      → i ≡ job_of left 0 arguments
  at_call h i same called =
      let named : slice_get (exported_functions example) 0 ≡ Some 0 = refl in
      call_begins example (answer pack.index.ns (after_moves pack (turns 1000) (loaded pack)).world) h i 0 arguments left [] (call_config left 0 arguments) called
      (subst IsAtRest (sym is_new) tt) (subst (λ (j : Job). HasOutcome example j.config (Ends [] left)) (sym same) ended)
      (ap (option_map (λ (g : ℕ). call_config left g arguments)) named)

  from_call : (h j : Job) → h ≡ ready
      → JobAfterMoves example pack (after_moves pack (turns 1000) (loaded pack)) h (call 0 arguments ∷ turns 1000) j → j ≡ last
  from_call h j same (i, called, more) =
      at_turns 1000 (after_move pack (after_moves pack (turns 1000) (loaded pack)) (call 0 arguments)) i j more
      ∙ ap (turned_times 1000) (at_call h i same called)

  at_end : (j : Job) → JobAfterMoves example pack (loaded pack) (first_job example) moves j → j ≡ last
  at_end j p =
      let (h, front, back) = both (turns 1000) (call 0 arguments ∷ turns 1000) (loaded pack) (first_job example) j p in
      from_call h j (at_turns 1000 (loaded pack) (first_job example) h front) back

  lawful_call : IsCallOf (slice_get pack.index.exports 0) arguments
  lawful_call =
      is_call (slice_get pack.index.exports 0) run_type (ap (λ (xs : List ExportType). slice_get xs 0) (exports_are pack.index.exports agrees.exports))

  lawful : LawfulMoves pack.index moves
  lawful = lawful_both (turns 1000) (call 0 arguments ∷ turns 1000) (turns_lawful 1000) (lawful_call, turns_lawful 1000)

  abbrev sum : Outcome
  sum = Ends (values.I64 (pos 70) ∷ []) left_after

  pub played_by_turns : IsPlayedByTurns pack
  played_by_turns =
      let offset : last.offset ≡ 0 = last_same.0 in
      let credit : last.credit ≡ 0 + 1000 = turned_credit 1000 (job_of left 0 arguments) in (
        lawful,
        answers_at moves lawful last at_end 47 (Ended (values.I64 (pos 70) ∷ []) left_after) (ap (λ c. after example c 47) last_same.1 ∙ run_is) (λ h. h) sum
            (subst (λ c. HasOutcome example c sum) (sym last_same.1) (47, run_is)) (done (Some (values.I64 (pos 70)))) (ap (λ b. told b sum) last_same.2) (omega arith),
      )
