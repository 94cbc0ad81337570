-- The report of a script that may ask where the program is, from one of its lines on.
use Rattle.std.proofs.Common.{◌≡◌, ◌∙◌, ◌⊎◌, inl, inr, refl, sym, ap, subst, ℕ, List, [], ◌∷◌, ◌++◌, append_assoc, append-nil, true, false, Option, Some, None, Result, Ok, Err}
use Rattle.io_dev.specs.Sink.{SinkState, append, AppendFailed, IsPartlyAppended}
use Rattle.mc_cmd.specs.Form.{Text}
use Rattle.mc_cmd.specs.Pack.{Pack, Standing}
use Rattle.mc_cmd.specs.World.{World}
use Rattle.mc_cmd.proofs.FormLemmas.{some_same}
use Rattle.mc_tick.specs.State.{State}
use Rattle.mc_tick.specs.StateView.{IsTold, state_of}
use Rattle.mc_tick.specs.declared.resumed.Resumed.{Resumed}
use Rattle.app_words.specs.Act as act
use Rattle.app_words.specs.Act.{Act, ScriptLine}
use Rattle.app_words.specs.Lines.{last_line}
use Rattle.app_words.specs.Report.{Acted, Cause, End, Reported, acted, finished, goes, refused, report, stops}
use Rattle.app_words.specs.WhereReport.{Begun, IsActed, IsReport}
use Rattle.app_words.proofs.WhereReportLemmas.{BeginsAs, begins_as}
use Rattle.app_play.specs.Play.{IsPlayed, IsPlayedAs, IsPlayedTo, cause_view}
use Rattle.app_play.specs.steps.Playing.{IsLocated, IsSaid, IsStep, IsStepped, is_where}
use Rattle.app_play.specs.declared.fault.PlayFault.{PlayFault}
use Rattle.app_play.specs.declared.fault.PlayFault.TheVariants as faults
use Rattle.app_play.proofs.PlayLemmas.{Goes, append-append, append-nothing, failed_so_far, goes_first, nothing_appended, partly_so_far, said_step}

-- a text before what is reported then, and a report that is left
abbrev pub behind : Text → Begun → Begun
behind t r = record { text = t ++ r.text; end = r.end }

abbrev pub left : Begun
left = record { text = []; end = None }

-- What was written at first and one of these reports from here on is written in the end as one of all.
pub record GoesAs (All Rest : Begun → Type 0) (first now : SinkState) : Type 0 where
  pub done : Text
  pub said : now ≡ append first done
  pub joins : (rest : Begun) → Rest rest → All (behind done rest)

pub goes_as_first : (All : Begun → Type 0) (first : SinkState) → GoesAs All All first first
goes_as_first All first = record { done = []; said = sym (append-nothing first); joins = λ rest h. h }

-- an error is that of a fault
same_fault : {T : Type 0} (a b : PlayFault) → (let r : Result T PlayFault = Err a in let q : Result T PlayFault = Err b in r ≡ q) → a ≡ b
same_fault a b h = cc

-- a prefix of what is next, behind what was written
module _ (All Rest : Begun → Type 0) (first before : SinkState) (g : GoesAs All Rest first before) where
  goes_so : (x : Text) → Goes (record { text = g.done ++ x; end = finished }) (record { text = x; end = finished }) first before
  goes_so x = record { done = g.done; said = g.said; text = refl; end = refl }

  failed_as : (after : SinkState) (t : Text) (e : Option End) → Rest (record { text = t; end = e }) → AppendFailed before after t
      → IsPlayedAs All (Err faults.Output) first after
  failed_as after t e rest h = record {
    report = behind g.done (record { text = t; end = e });
    is_report = g.joins (record { text = t; end = e }) rest;
    played = failed_so_far (record { text = g.done ++ t; end = finished }) (record { text = t; end = finished }) first before after t [] (goes_so t) (sym (append-nil t)) h;
  }

  partly_as : (after : SinkState) (t : Text) (e : Option End) → Rest (record { text = t; end = e }) → IsPartlyAppended before after t
      → IsPlayedAs All (Err faults.Memory) first after
  partly_as after t e rest h = record {
    report = behind g.done (record { text = t; end = e });
    is_report = g.joins (record { text = t; end = e }) rest;
    played = partly_so_far (record { text = g.done ++ t; end = finished }) (record { text = t; end = finished }) first before after t [] (goes_so t) (sym (append-nil t)) h;
  }

  said_as : (after : SinkState) (t : Text) → after ≡ append before t → after ≡ append first (g.done ++ t)
  said_as after t e = e ∙ ap (λ (o : SinkState). append o t) g.said ∙ append-append first g.done t

module _ (May : Text → World → Text → Type 0) (pack : Pack) where
  -- a report may be left anywhere
  left_is : (ls : List ScriptLine) (s : Standing) → IsReport May pack ls s left
  left_is [] s = inl refl
  left_is (l ∷ ls) s = inl refl

  -- what an act does that doesn't ask
  acts_alone : (a : Act) (s : Standing) → is_where a ≡ false → IsActed May pack a s (acted pack a s)
  acts_alone (act.call name args) s h = refl
  acts_alone (act.tick b) s h = refl
  acts_alone (act.ticks n b) s h = refl
  acts_alone (act.reload b) s h = refl
  acts_alone (act.other c) s h = refl
  acts_alone act.show s h = refl
  acts_alone act.globals s h = refl
  acts_alone (act.memory at len) s h = refl
  acts_alone act.dump s h = refl
  acts_alone act.inspect s h = absurd cc

  acts_where : (a : Act) (s : Standing) (t : Text) → is_where a ≡ true → May pack.index.ns s.world t → IsActed May pack a s (goes t s)
  acts_where act.inspect s t h m = (t, m, refl)
  acts_where (act.call name args) s t h m = absurd cc
  acts_where (act.tick b) s t h m = absurd cc
  acts_where (act.ticks n b) s t h m = absurd cc
  acts_where (act.reload b) s t h m = absurd cc
  acts_where (act.other c) s t h m = absurd cc
  acts_where act.show s t h m = absurd cc
  acts_where act.globals s t h m = absurd cc
  acts_where (act.memory at len) s t h m = absurd cc
  acts_where act.dump s t h m = absurd cc

  module _ (l : ScriptLine) (ls : List ScriptLine) (All : Begun → Type 0) (first before after : SinkState) where
    -- one line further
    goes_as_on : (s z : Standing) (t : Text) → GoesAs All (IsReport May pack (l ∷ ls) s) first before → IsActed May pack l.act s (goes t z)
        → after ≡ append before t → GoesAs All (IsReport May pack ls z) first after
    goes_as_on s z t g a e = record {
      done = g.done ++ t;
      said = said_as All (IsReport May pack (l ∷ ls) s) first before g after t e;
      joins = λ rest h. subst (λ (w : Text). All (record { text = w; end = rest.end })) (sym (append_assoc g.done t rest.text))
          (g.joins (behind t rest) (inr (goes t z, a, (rest, h, refl))));
    }

    stops_as : (st : State) (x : Acted) (fault : PlayFault) → IsActed May pack l.act st.standing x → IsStep st x l.line (Err fault) before after
        → GoesAs All (IsReport May pack (l ∷ ls) st.standing) first before → IsPlayedAs All (Err fault) first after
    stops_as st (goes t z) faults.Output a h g =
        failed_as All (IsReport May pack (l ∷ ls) st.standing) first before g after (t ++ []) None (inr (goes t z, a, (left, left_is ls z, refl)))
        (subst (λ (w : Text). AppendFailed before after w) (sym (append-nil t)) h)
    stops_as st (goes t z) faults.Memory a h g =
        partly_as All (IsReport May pack (l ∷ ls) st.standing) first before g after (t ++ []) None (inr (goes t z, a, (left, left_is ls z, refl)))
        (subst (λ (w : Text). IsPartlyAppended before after w) (sym (append-nil t)) h)
    stops_as st (goes t z) (faults.Refused line told) a h g = absurd h
    stops_as st (stops c) faults.Output a h g =
        failed_as All (IsReport May pack (l ∷ ls) st.standing) first before g after [] None (inl refl) h
    stops_as st (stops c) faults.Memory a h g =
        partly_as All (IsReport May pack (l ∷ ls) st.standing) first before g after [] None (inl refl) h
    stops_as st (stops c) (faults.Refused line told) a h g = record {
      report = behind g.done (record { text = []; end = Some (refused l.line c) });
      is_report = g.joins (record { text = []; end = Some (refused l.line c) }) (inr (stops c, a, refl));
      played = (
        ap (λ (k : ℕ). Some (refused k c)) (sym h.0) ∙ ap (λ (d : Cause). Some (refused line d)) (sym h.1),
        said_as All (IsReport May pack (l ∷ ls) st.standing) first before g after [] (h.2 ∙ sym (append-nothing before)),
      );
    }

    -- a line that was refused or left
    pub stopped_as : (st : State) (fault : PlayFault) → st.pack ≡ pack → IsStepped May st l.act l.line (Err fault) before after
        → GoesAs All (IsReport May pack (l ∷ ls) st.standing) first before → IsPlayedAs All (Err fault) first after
    stopped_as st fault same (inl h) g =
        subst (λ (f : PlayFault). IsPlayedAs All (Err f) first after) (sym (same_fault fault faults.Memory h.0))
        (partly_as All (IsReport May pack (l ∷ ls) st.standing) first before g after [] None (inl refl)
        (subst (λ (o : SinkState). IsPartlyAppended before o []) (sym h.1) (nothing_appended before [])))
    stopped_as st fault same (inr h) g =
        stops_as st h.0 fault (subst (λ (p : Pack). IsActed May p l.act st.standing h.0) same h.1) h.2 g

    -- a line that was done
    pub done_as : (st : State) (r : Resumed) → st.pack ≡ pack → IsStepped May st l.act l.line (Ok r) before after
        → GoesAs All (IsReport May pack (l ∷ ls) st.standing) first before
        → ((state_of r).pack ≡ st.pack) × IsTold r × GoesAs All (IsReport May pack ls (state_of r).standing) first after
    done_as st r same (inl h) g = let e : Ok r ≡ Err faults.Memory = h.0 in absurd cc
    done_as st r same (inr h) g = go h.0 (subst (λ (p : Pack). IsActed May p l.act st.standing h.0) same h.1) h.2
      where
        go : (x : Acted) → IsActed May pack l.act st.standing x → IsStep st x l.line (Ok r) before after
            → ((state_of r).pack ≡ st.pack) × IsTold r × GoesAs All (IsReport May pack ls (state_of r).standing) first after
        go (goes t z) a k = (
          ap (λ (q : State). q.pack) k.0.state,
          k.0.told,
          subst (λ (q : State). GoesAs All (IsReport May pack ls q.standing) first after) (sym k.0.state)
              (goes_as_on st.standing z t g a k.1),
        )
        go (stops c) a k = absurd k

  -- behind the last line
  pub ended_as : (All : Begun → Type 0) (s : Standing) (first before after : SinkState) (r : Result (Unit {0}) PlayFault)
      → GoesAs All (IsReport May pack [] s) first before → IsSaid (last_line s.ticks s.used) before after r → IsPlayedAs All r first after
  ended_as All s first before after (Ok u) g h = record {
    report = behind g.done (record { text = last_line s.ticks s.used; end = Some finished });
    is_report = g.joins (record { text = last_line s.ticks s.used; end = Some finished }) (inr refl);
    played = (refl, said_as All (IsReport May pack [] s) first before g after (last_line s.ticks s.used) h);
  }
  ended_as All s first before after (Err faults.Output) g h =
      failed_as All (IsReport May pack [] s) first before g after (last_line s.ticks s.used) (Some finished) (inr refl) h
  ended_as All s first before after (Err faults.Memory) g h =
      partly_as All (IsReport May pack [] s) first before g after (last_line s.ticks s.used) (Some finished) (inr refl) h
  ended_as All s first before after (Err (faults.Refused line told)) g h = absurd h

  -- there was no memory before the first line
  pub unbegun_as : (ls : List ScriptLine) (s : Standing) (first : SinkState) → IsPlayedAs (IsReport May pack ls s) (Err faults.Memory) first first
  unbegun_as ls s first =
      partly_as (IsReport May pack ls s) (IsReport May pack ls s) first first (goes_as_first (IsReport May pack ls s) first) first [] None (left_is ls s)
      (nothing_appended first [])

-- ---- one line

pub stepped_alone : (May : Text → World → Text → Type 0) (st : State) (a : Act) (n : ℕ) (r : Result Resumed PlayFault) (before after : SinkState) → is_where a ≡ false
    → IsStep st (acted st.pack a st.standing) n r before after → IsStepped May st a n r before after
stepped_alone May st a n r before after h k = inr (acted st.pack a st.standing, acts_alone May st.pack a st.standing h, k)

pub stepped_where : (May : Text → World → Text → Type 0) (r : Resumed) (a : Act) (n : ℕ) (before after : SinkState) → is_where a ≡ true → IsTold r
    → IsLocated May (state_of r) before after (Ok tt) → IsStepped May (state_of r) a n (Ok r) before after
stepped_where May r a n before after h told (inl e) = let f : Ok tt ≡ Err faults.Memory = e.0 in absurd cc
stepped_where May r a n before after h told (inr k) =
    let st = state_of r in
    inr (goes k.0 st.standing, acts_where May st.pack a st.standing k.0 h k.1, (record { state = refl; told = told }, k.2))

pub stopped_where : (May : Text → World → Text → Type 0) (st : State) (a : Act) (n : ℕ) (fault : PlayFault) (before after : SinkState) → is_where a ≡ true
    → IsLocated May st before after (Err fault) → IsStepped May st a n (Err fault) before after
stopped_where May st a n fault before after h (inl e) = inl (ap (λ (f : PlayFault). Err f) (same_fault fault faults.Memory e.0), e.1)
stopped_where May st a n fault before after h (inr k) =
    inr (goes k.0 st.standing, acts_where May st.pack a st.standing k.0 h k.1, said_step st k.0 st.standing n fault before after k.2)

-- where nothing is told of where the program is, the report is that of a script that may not ask
pub played_silent : (May : Text → World → Text → Type 0) → ((ns : Text) (w : World) (t : Text) → May ns w t → t ≡ []) → (pack : Pack) (ls : List ScriptLine) (s : Standing)
    (r : Result (Unit {0}) PlayFault) (first after : SinkState) → IsPlayedAs (IsReport May pack ls s) r first after → IsPlayed (report pack ls s) r first after
played_silent May silent pack ls s r first after h = go r (begins_as May pack silent ls s h.report h.is_report) h.played
  where
    not_whole : (e : End) → h.report.end ≡ None → h.report.end ≡ Some e → ⊥
    not_whole e a b = let n : None ≡ Some e = sym a ∙ b in cc

    go : (r : Result (Unit {0}) PlayFault) → BeginsAs (report pack ls s) h.report → IsPlayedTo h.report r first after → IsPlayed (report pack ls s) r first after
    go (Ok u) (inl b) p = absurd (not_whole finished b.0 p.0)
    go (Ok u) (inr b) p =
        (some_same _ finished (sym (ap (λ (x : Begun). x.end) b) ∙ p.0), p.1 ∙ ap (λ (x : Begun). append first x.text) b)
    go (Err (faults.Refused line told)) (inl b) p = absurd (not_whole (refused line (cause_view told)) b.0 p.0)
    go (Err (faults.Refused line told)) (inr b) p =
        (some_same _ (refused line (cause_view told)) (sym (ap (λ (x : Begun). x.end) b) ∙ p.0), p.1 ∙ ap (λ (x : Begun). append first x.text) b)
    go (Err faults.Output) (inl b) p = failed_so_far (report pack ls s) (report pack ls s) first first after h.report.text b.1 (goes_first (report pack ls s) first) (sym b.2) p
    go (Err faults.Output) (inr b) p = subst (λ (x : Begun). AppendFailed first after x.text) b p
    go (Err faults.Memory) (inl b) p = partly_so_far (report pack ls s) (report pack ls s) first first after h.report.text b.1 (goes_first (report pack ls s) first) (sym b.2) p
    go (Err faults.Memory) (inr b) p = subst (λ (x : Begun). IsPartlyAppended first after x.text) b p
