-- The report of a script over several programs, line by line.
use Rattle.std.proofs.Common.{◌≡◌, ◌≢◌, ◌∙◌, refl, sym, ap, subst, ℕ, zero, suc, ◌+◌, ◌<◌, ◌≤◌, List, [], ◌∷◌, length, drop, drop-cons, get_or, add-one, map, Bool, true, false, Option, Some, None, Result, Ok, Err, ℤ, cond, append-nil, arith}
use Rattle.std.specs.Prelude.{pos, negsuc, nat_le, codes, option_and_then, option_map, slice_get}
use Rattle.std.specs.List.{list_all, position_from}
use Rattle.std.specs.Str.{bytes_eq}
use Rattle.std.specs.declared.vec.Vec.{Vec}
use Rattle.std.specs.declared.alloc.Global.{Global}
use Rattle.std.proofs.Math.ListN.{drop_of_length-le}
use Rattle.std.proofs.lemmas.Bool.{eqb-true, leb-true}
use Rattle.std.proofs.lemmas.Iterator.Adapters.{position_from-zero}
use Rattle.io_dev.specs.Sink.{SinkState, append}
use Rattle.mc_nbt.specs.Tree.{Tree, int, string, list, compound}
use Rattle.mc_nbt.specs.declared.value.Value.{Value}
use Rattle.mc_cmd.specs.Command.{Cmd, plain, execute}
use Rattle.mc_cmd.specs.Form.{Text}
use Rattle.mc_cmd.specs.Layout.{Answer, new, running, done, trap, dead, answer, answer_in, io_value}
use Rattle.mc_cmd.specs.Pack.{ExportType, Index, Pack, counted}
use Rattle.mc_cmd.specs.World.{World}
use Rattle.mc_cmd.proofs.FormLemmas.{and_first, and_second, map_some}
use Rattle.mc_layout.specs.State.{int_in}
use Rattle.mc_tick.specs.Answers.{AreOfKinds, AreOfOtherKinds}
use Rattle.mc_together.specs.Share.{IsSharedBudget}
use Rattle.mc_together.specs.Together.{Standing}
use Rattle.app_words.specs.Act as act
use Rattle.app_words.specs.Act.{Act}
use Rattle.app_words.specs.Arguments.{export_named}
use Rattle.app_words.specs.Lines.{busy_line}
use Rattle.app_words.specs.Report.{ActedOf, goes, stops, is_four, Reported, and_then, refused}
use Rattle.app_words.specs.Script.{budget, has_few_digits}
use Rattle.app_words.specs.SharedReport.{place_of, called, called_found, called_with, own_acted, acted_within, dead_in, first_own_of}
use Rattle.app_words.specs.SharedScript.{least_of}
use Rattle.app_words.specs.View.{shared_line_view}
use Rattle.app_words.specs.declared.act.SharedLine.{SharedLine}
use Rattle.app_words.specs.Workload.{is_running}
use Rattle.app_words.proofs.CallingLemmas.{kinds-values}
use Rattle.app_play.specs.Play.{IsPlayed}
use Rattle.app_play.specs.steps.Playing.{IsPrepared, IsSaid, is_print, printed}
use Rattle.app_play.specs.declared.fault.Cause.TheVariants as causes
use Rattle.app_play.specs.declared.fault.PlayFault.{PlayFault}
use Rattle.app_play.specs.declared.fault.PlayFault.TheVariants as faults
use Rattle.app_play.proofs.PlayLemmas.{Goes, append-nothing, nothing_appended, goes_on, partly_so_far, failed_so_far}
use Rattle.pk_multi.specs.Answers.{export_at, state_at}
use Rattle.pk_multi.specs.Own as own
use Rattle.pk_multi.specs.State.{State, after}
use Rattle.app_together.specs.steps.Steps.{IsBegun, IsMade, IsPrinted, IsStep, answer_at}

-- ---- whether a program runs, or is dead

one_runs : (ns : Text) (w : World) (o : Option Tree) → int_in o ≡ Some (pos 1) → is_running (answer_in ns w o) ≡ true
one_runs ns w None h = absurd cc
one_runs ns w (Some (int z)) h = let e : z ≡ pos 1 = cc in rw e refl
one_runs ns w (Some (string t)) h = absurd cc
one_runs ns w (Some (list ts)) h = absurd cc
one_runs ns w (Some (compound fs)) h = absurd cc

-- a program that doesn't answer that it runs hasn't the state 1
pub not_one : (s : State) (who : ℕ) → is_running (answer_at s who) ≡ false → state_at s who ≢ Some (pos 1)
not_one s who h e = go (slice_get s.packs who) h e
  where
    go : (o : Option Pack) → is_running (option_and_then (λ (p : Pack). answer p.index.ns s.standing.world) o) ≡ false
        → option_and_then (λ (p : Pack). int_in (io_value p.index.ns s.standing.world (codes "state"))) o ≡ Some (pos 1) → ⊥
    go None h e = absurd cc
    go (Some p) h e = let yes = one_runs p.index.ns s.standing.world (io_value p.index.ns s.standing.world (codes "state")) e in absurd cc

-- what the program at a place answers, by the names of its layout
pub told_running : (s : State) (who : ℕ) (ns : Text) (w : World) (o : Option Answer) → option_map (λ (p : Pack). p.index.ns) (slice_get s.packs who) ≡ Some ns → w ≡ s.standing.world → o ≡ answer ns w → is_running o ≡ is_running (answer_at s who)
told_running s who ns w o named same told =
    let q = map_some (λ (p : Pack). p.index.ns) (slice_get s.packs who) ns named in
    ap is_running (told ∙ ap (λ (n : Text). answer n w) (sym q.2) ∙ ap (answer q.0.index.ns) same)
    ∙ sym (ap (λ (p : Option Pack). is_running (option_and_then (λ (p : Pack). answer p.index.ns s.standing.world) p)) q.1)

-- a call of a program that runs, and of one that doesn't
busy : (ps : List Pack) (s : Standing) (i : ℕ) (p : Pack) (name : Text) (args : List ℤ) (o : Option Answer) → is_running o ≡ true → called ps s i p name args o ≡ goes busy_line s
busy ps s i p name args None h = absurd cc
busy ps s i p name args (Some new) h = absurd cc
busy ps s i p name args (Some running) h = refl
busy ps s i p name args (Some (done v)) h = absurd cc
busy ps s i p name args (Some (trap k)) h = absurd cc
busy ps s i p name args (Some (dead k)) h = absurd cc

free : (ps : List Pack) (s : Standing) (i : ℕ) (p : Pack) (name : Text) (args : List ℤ) (o : Option Answer) → is_running o ≡ false
    → called ps s i p name args o ≡ called_found ps s i p.index.ns args (export_named name p.index.exports)
free ps s i p name args None h = refl
free ps s i p name args (Some new) h = refl
free ps s i p name args (Some running) h = absurd cc
free ps s i p name args (Some (done v)) h = refl
free ps s i p name args (Some (trap k)) h = refl
free ps s i p name args (Some (dead k)) h = refl

pub called_busy : (s : State) (who : ℕ) (name : Text) (args : List ℤ) → is_running (answer_at s who) ≡ true
    → own_acted s.packs (act.call name args) s.standing who (slice_get s.packs who) ≡ goes busy_line s.standing
called_busy s who name args h = go (slice_get s.packs who) h
  where
    go : (o : Option Pack) → is_running (option_and_then (λ (p : Pack). answer p.index.ns s.standing.world) o) ≡ true
        → own_acted s.packs (act.call name args) s.standing who o ≡ goes busy_line s.standing
    go None h = absurd cc
    go (Some p) h = busy s.packs s.standing who p name args (answer p.index.ns s.standing.world) h

called_free : (s : State) (who : ℕ) (name : Text) (args : List ℤ) (p : Pack) → slice_get s.packs who ≡ Some p → is_running (answer_at s who) ≡ false
    → own_acted s.packs (act.call name args) s.standing who (slice_get s.packs who) ≡ called_found s.packs s.standing who p.index.ns args (export_named name p.index.exports)
called_free s who name args p at h =
    ap (own_acted s.packs (act.call name args) s.standing who) at
    ∙ free s.packs s.standing who p name args (answer p.index.ns s.standing.world) (sym (ap (λ o. is_running (option_and_then (λ (p : Pack). answer p.index.ns s.standing.world) o)) at) ∙ h)

-- ---- steps

-- an event that prints nothing leaves the sink as it is
pub made_step : (s : State) (a : ActedOf Standing) (n : ℕ) (x : Result (Unit {0}) PlayFault) (r : State) (out : SinkState) → IsMade s a n x r → IsStep s a n x r out out
made_step s (goes t z) n (Ok u) r out h = (h.1, sym (ap (append out) h.0 ∙ append-nothing out))
made_step s (stops c) n (Ok u) r out h = absurd h
made_step s (goes t z) n (Err (faults.Refused line told)) r out h = absurd h
made_step s (stops c) n (Err (faults.Refused line told)) r out h = (h.0, h.1, refl)
made_step s (goes t z) n (Err faults.Output) r out h = absurd h
made_step s (stops c) n (Err faults.Output) r out h = absurd h
made_step s (goes t z) n (Err faults.Memory) r out h = nothing_appended out t
made_step s (stops c) n (Err faults.Memory) r out h = nothing_appended out []

-- there was no memory for an event
pub memory_made : (s : State) (a : ActedOf Standing) (n : ℕ) (r : State) → IsMade s a n (Err faults.Memory) r
memory_made s (goes t z) n r = tt
memory_made s (stops c) n r = tt

-- a line that prints a text and leaves the programs as they stand
pub said_step : (s : State) (t : Text) (n : ℕ) (x : Result (Unit {0}) PlayFault) (before after : SinkState) → IsSaid t before after x → IsStep s (goes t s.standing) n x s before after
said_step s t n (Ok u) before after h = (refl, h)
said_step s t n (Err faults.Output) before after h = h
said_step s t n (Err faults.Memory) before after h = h
said_step s t n (Err (faults.Refused line told)) before after h = absurd h

-- what a program at a place shows
print_acts : (s : State) (who : ℕ) (p : Pack) (a : Act) → is_print a ≡ true → own_acted s.packs a s.standing who (Some p) ≡ goes (printed p.index.ns s.standing.world a) s.standing
print_acts s who p act.show h = refl
print_acts s who p act.globals h = refl
print_acts s who p (act.memory at len) h = refl
print_acts s who p act.dump h = refl
print_acts s who p act.inspect h = absurd cc
print_acts s who p (act.call name args) h = absurd cc
print_acts s who p (act.tick b) h = absurd cc
print_acts s who p (act.ticks n b) h = absurd cc
print_acts s who p (act.reload b) h = absurd cc
print_acts s who p (act.other c) h = absurd cc

pub printed_step : (s : State) (who : ℕ) (a : Act) (n : ℕ) (x : Result (Unit {0}) PlayFault) (before after : SinkState) → who < length s.packs → is_print a ≡ true → IsPrinted s who a before after x
    → IsStep s (own_acted s.packs a s.standing who (slice_get s.packs who)) n x s before after
printed_step s who a n x before after lt h said = go (slice_get s.packs who) refl
  where
    go : (o : Option Pack) → slice_get s.packs who ≡ o → IsStep s (own_acted s.packs a s.standing who o) n x s before after
    go None e = absurd (there s.packs who lt e)
      where
        there : (ps : List Pack) (i : ℕ) → i < length ps → slice_get ps i ≡ None → ⊥
        there [] i lt e = omega arith
        there (p ∷ ps) zero lt e = absurd cc
        there (p ∷ ps) (suc i) lt e = there ps i (omega arith) e
    go (Some p) e = subst (λ (r : ActedOf Standing). IsStep s r n x s before after) (sym (print_acts s who p a h)) (said_step s (printed p.index.ns s.standing.world a) n x before after (said p e))

-- ---- calls

-- the state 4, as the report and as programs tell it
four : (o : Option Tree) → is_four o ≡ true → int_in o ≡ Some (pos 4)
four None h = absurd cc
four (Some (int (pos n))) h = ap (λ m. Some (pos m)) (eqb-true n 4 h)
four (Some (int (negsuc n))) h = absurd cc
four (Some (string t)) h = absurd cc
four (Some (list ts)) h = absurd cc
four (Some (compound fs)) h = absurd cc

is_four-from : (o : Option Tree) → int_in o ≡ Some (pos 4) → is_four o ≡ true
is_four-from None h = absurd cc
is_four-from (Some (int z)) h = let e : z ≡ pos 4 = cc in rw e refl
is_four-from (Some (string t)) h = absurd cc
is_four-from (Some (list ts)) h = absurd cc
is_four-from (Some (compound fs)) h = absurd cc

-- a call that was begun
begun_with : (s : State) (who : ℕ) (p : Pack) (k : ℕ) (vs : List Value) (n : ℕ) (x : Result (Unit {0}) PlayFault) (r : State) → state_at s who ≡ int_in (io_value p.index.ns s.standing.world (codes "state")) → IsBegun s who k vs n x r
    → IsMade s (called_with s.packs s.standing who k (Some vs) (dead_in p.index.ns s.standing.world)) n x r
begun_with s who p k vs n (Ok u) r state h = go (dead_in p.index.ns s.standing.world) refl
  where
    go : (b : Bool) → dead_in p.index.ns s.standing.world ≡ b → IsMade s (called_with s.packs s.standing who k (Some vs) b) n (Ok u) r
    go true e = absurd (h.0 (state ∙ four (io_value p.index.ns s.standing.world (codes "state")) e))
    go false e = (refl, h.1)
begun_with s who p k vs n (Err (faults.Refused line causes.InstanceIsDead)) r state h =
    subst (λ (b : Bool). IsMade s (called_with s.packs s.standing who k (Some vs) b) n (Err (faults.Refused line causes.InstanceIsDead)) r)
    (sym (is_four-from (io_value p.index.ns s.standing.world (codes "state")) (sym state ∙ h.1))) (h.0, refl)
begun_with s who p k vs n (Err faults.Memory) r state h = memory_made s (called_with s.packs s.standing who k (Some vs) (dead_in p.index.ns s.standing.world)) n r
begun_with s who p k vs n (Err faults.Output) r state h = absurd h
begun_with s who p k vs n (Err (faults.Refused line causes.NoSuchExport)) r state h = absurd h
begun_with s who p k vs n (Err (faults.Refused line causes.WrongArguments)) r state h = absurd h
begun_with s who p k vs n (Err (faults.Refused line (causes.Names t))) r state h = absurd h
begun_with s who p k vs n (Err (faults.Refused line causes.NoSuchProgram)) r state h = absurd h

module _ (s : State) (who : ℕ) (i : Index) (here : option_map (λ (p : Pack). p.index) (slice_get s.packs who) ≡ Some i) where
  -- the pack of the program at the place
  at_place : (p : Pack) × (slice_get s.packs who ≡ Some p) × (p.index ≡ i)
  at_place = map_some (λ (p : Pack). p.index) (slice_get s.packs who) i here

  abbrev found_at : Text → List ℤ → ActedOf Standing
  found_at name args = called_found s.packs s.standing who at_place.0.index.ns args (export_named name at_place.0.index.exports)

  state_is : state_at s who ≡ int_in (io_value at_place.0.index.ns s.standing.world (codes "state"))
  state_is = ap (option_and_then (λ (p : Pack). int_in (io_value p.index.ns s.standing.world (codes "state")))) at_place.1

  -- the export that was found, and its values
  pub fits_at : (n : ℕ) (name : Text) (args : List ℤ) (v : ℕ × Vec Value Global) → IsPrepared i n name args (Ok v) → AreOfKinds (export_at s who v.0) v.1.items
  fits_at n name args v (x, found, values, at) =
      let export : export_at s who v.0 ≡ Some x =
      ap (option_and_then (λ (p : Pack). slice_get p.index.exports v.0)) at_place.1 ∙ ap (λ (j : Index). slice_get j.exports v.0) at_place.2 ∙ at in
      subst (λ (o : Option ExportType). AreOfKinds o v.1.items) (sym export) (kinds-values x.params args v.1.items values)

  made_found : (n : ℕ) (name : Text) (args : List ℤ) (v : ℕ × Vec Value Global) (x : Result (Unit {0}) PlayFault) (r : State) → IsPrepared at_place.0.index n name args (Ok v) → IsBegun s who v.0 v.1.items n x r
      → IsMade s (found_at name args) n x r
  made_found n name args v x r (e, found, values, at) h =
      subst (λ (o : Option (ℕ × ExportType)). IsMade s (called_found s.packs s.standing who at_place.0.index.ns args o) n x r) (sym found)
      (subst (λ (o : Option (List Value)). IsMade s (called_with s.packs s.standing who v.0 o (dead_in at_place.0.index.ns s.standing.world)) n x r) (sym values)
      (begun_with s who at_place.0 v.0 v.1.items n x r state_is h))

  made_unfound : (n : ℕ) (name : Text) (args : List ℤ) (fault : PlayFault) → IsPrepared at_place.0.index n name args (Err fault) → IsMade s (found_at name args) n (Err fault) s
  made_unfound n name args faults.Output h = absurd h
  made_unfound n name args faults.Memory h = memory_made s (found_at name args) n s
  made_unfound n name args (faults.Refused line causes.NoSuchExport) h =
      subst (λ (o : Option (ℕ × ExportType)). IsMade s (called_found s.packs s.standing who at_place.0.index.ns args o) n (Err (faults.Refused line causes.NoSuchExport)) s) (sym h.1) (h.0, refl)
  made_unfound n name args (faults.Refused line causes.WrongArguments) h =
      let x = h.1 in
      subst (λ (o : Option (ℕ × ExportType)). IsMade s (called_found s.packs s.standing who at_place.0.index.ns args o) n (Err (faults.Refused line causes.WrongArguments)) s) (sym x.2)
      (subst (λ (o : Option (List Value)). IsMade s (called_with s.packs s.standing who x.0 o (dead_in at_place.0.index.ns s.standing.world)) n (Err (faults.Refused line causes.WrongArguments)) s) (sym x.3) (h.0, refl))
  made_unfound n name args (faults.Refused line causes.InstanceIsDead) h = absurd h
  made_unfound n name args (faults.Refused line (causes.Names t)) h = absurd h
  made_unfound n name args (faults.Refused line causes.NoSuchProgram) h = absurd h

  -- a call of a program that doesn't run
  stepped : (n : ℕ) (name : Text) (args : List ℤ) (x : Result (Unit {0}) PlayFault) (r : State) (out : SinkState) → is_running (answer_at s who) ≡ false → IsMade s (found_at name args) n x r
      → IsStep s (own_acted s.packs (act.call name args) s.standing who (slice_get s.packs who)) n x r out out
  stepped n name args x r out rests h =
      subst (λ (a : ActedOf Standing). IsStep s a n x r out out) (sym (called_free s who name args at_place.0 at_place.1 rests)) (made_step s (found_at name args) n x r out h)

  pub call_begun : (n : ℕ) (name : Text) (args : List ℤ) (v : ℕ × Vec Value Global) (x : Result (Unit {0}) PlayFault) (r : State) (out : SinkState) → is_running (answer_at s who) ≡ false
      → IsPrepared i n name args (Ok v) → IsBegun s who v.0 v.1.items n x r → IsStep s (own_acted s.packs (act.call name args) s.standing who (slice_get s.packs who)) n x r out out
  call_begun n name args v x r out rests prepared h =
      stepped n name args x r out rests (made_found n name args v x r (subst (λ (j : Index). IsPrepared j n name args (Ok v)) (sym at_place.2) prepared) h)

  pub call_unfound : (n : ℕ) (name : Text) (args : List ℤ) (fault : PlayFault) (out : SinkState) → is_running (answer_at s who) ≡ false
      → IsPrepared i n name args (Err fault) → IsStep s (own_acted s.packs (act.call name args) s.standing who (slice_get s.packs who)) n (Err fault) s out out
  call_unfound n name args fault out rests prepared =
      stepped n name args (Err fault) s out rests (made_unfound n name args fault (subst (λ (j : Index). IsPrepared j n name args (Err fault)) (sym at_place.2) prepared))

-- ---- the program of a namespace

drop_here : (ps : List Pack) (i : ℕ) (p : Pack) → slice_get ps i ≡ Some p → drop i ps ≡ p ∷ drop (suc i) ps
drop_here [] i p h = absurd cc
drop_here (q ∷ ps) zero p h = let e : q ≡ p = cc in ap (λ x. x ∷ ps) e
drop_here (q ∷ ps) (suc i) p h = drop_here ps i p h

abbrev pub place_from : Text → ℕ → List Pack → Option ℕ
place_from ns i ps = position_from (λ (p : Pack). bytes_eq p.index.ns ns) i ps

pub place_first : (ns : Text) (ps : List Pack) → place_from ns 0 ps ≡ place_of ns ps
place_first ns ps = sym (position_from-zero (λ (p : Pack). bytes_eq p.index.ns ns) ps)

module _ (ns : Text) (ps : List Pack) (who : ℕ) (i : Index) (here : option_map (λ (p : Pack). p.index) (slice_get ps who) ≡ Some i)
    (so_far : place_from ns who (drop who ps) ≡ place_of ns ps) where
  pub place_next : bytes_eq i.ns ns ≡ false → place_from ns (who + 1) (drop (who + 1) ps) ≡ place_of ns ps
  place_next differs =
      let q = map_some (λ (p : Pack). p.index) (slice_get ps who) i here in
      let next : who + 1 ≡ suc who = omega arith in
      ap (λ n. place_from ns (who + 1) (drop n ps)) next
      ∙ ap (λ b. cond b (Some who) (place_from ns (who + 1) (drop (suc who) ps))) (sym (ap (λ (j : Index). bytes_eq j.ns ns) q.2 ∙ differs))
      ∙ ap (place_from ns who) (sym (drop_here ps who q.0 q.1)) ∙ so_far

  pub place_here : bytes_eq i.ns ns ≡ true → Some who ≡ place_of ns ps
  place_here same =
      let q = map_some (λ (p : Pack). p.index) (slice_get ps who) i here in
      ap (λ b. cond b (Some who) (place_from ns (who + 1) (drop (suc who) ps))) (sym (ap (λ (j : Index). bytes_eq j.ns ns) q.2 ∙ same))
      ∙ ap (place_from ns who) (sym (drop_here ps who q.0 q.1)) ∙ so_far

-- ---- budgets, names and weights

pub shared_budget : (n b : ℕ) → (budget (least_of n)).fits b ≡ true → IsSharedBudget n b
shared_budget n b h =
    let both = and_second (has_few_digits b) _ h in
    (leb-true (least_of n) b (and_first _ _ both), leb-true b 2147483647 (and_second (nat_le (least_of n) b) _ both))

-- the first name that is any pack's, as the report and as the programs tell it
pub same_own : (ps : List Pack) (c : Cmd) → own.first_own_of ps c ≡ first_own_of ps c
same_own ps (plain s) = refl
same_own ps (execute ss s) = refl

-- a sum that stays at the last number of 128 bits
pub counted_sum : (a b : ℕ) → counted (counted a + b) ≡ counted (a + b)
counted_sum a b = omega arith

-- ---- lines

-- one line further, or stopped there
pub line_done : (n : ℕ) (s : State) (a : ActedOf Standing) (rest : Standing → Reported) (whole : Reported) (r : State) (first before after : SinkState)
    → Goes whole (and_then n a rest) first before → IsStep s a n (Ok tt) r before after → Goes whole (rest r.standing) first after
line_done n s (goes t z) rest whole r first before after g h = subst (λ (y : State). Goes whole (rest y.standing) first after) (sym h.0) (goes_on n t z rest whole first before after g h.1)
line_done n s (stops c) rest whole r first before after g h = absurd h

-- the programs of a line that was done
pub line_keeps : (n : ℕ) (s : State) (a : ActedOf Standing) (r : State) (before after : SinkState) → IsStep s a n (Ok tt) r before after → (r.packs ≡ s.packs) × (r.booted ≡ s.booted) × (r.failed ≡ s.failed)
line_keeps n s (goes t z) r before after h = (ap (λ (y : State). y.packs) h.0, ap (λ (y : State). y.booted) h.0, ap (λ (y : State). y.failed) h.0)
line_keeps n s (stops c) r before after h = absurd h

pub line_stopped : (n : ℕ) (s : State) (a : ActedOf Standing) (rest : Standing → Reported) (whole : Reported) (r : State) (first before after : SinkState) (fault : PlayFault)
    → Goes whole (and_then n a rest) first before → IsStep s a n (Err fault) r before after → IsPlayed whole (Err fault) first after
line_stopped n s (goes t z) rest whole r first before after faults.Output g h = failed_so_far whole (and_then n (goes t z) rest) first before after t (rest z).text g refl h
line_stopped n s (stops c) rest whole r first before after faults.Output g h = failed_so_far whole (and_then n (stops c) rest) first before after [] [] g refl h
line_stopped n s (goes t z) rest whole r first before after faults.Memory g h = partly_so_far whole (and_then n (goes t z) rest) first before after t (rest z).text g refl h
line_stopped n s (stops c) rest whole r first before after faults.Memory g h = partly_so_far whole (and_then n (stops c) rest) first before after [] [] g refl h
line_stopped n s (goes t z) rest whole r first before after (faults.Refused line told) g h = absurd h
line_stopped n s (stops c) rest whole r first before after (faults.Refused line told) g h =
    (sym g.end ∙ ap (λ k. refused k c) (sym h.0) ∙ ap (refused line) (sym h.1), h.2 ∙ g.said ∙ ap (append first) (sym (append-nil g.done) ∙ g.text))

-- the next line of some, and that it fits where all do
pub drop_at : (xs : List SharedLine) (i : ℕ) (x : SharedLine) → i < length xs → x ≡ get_or xs i x → map shared_line_view (drop i xs) ≡ shared_line_view x ∷ map shared_line_view (drop (i + 1) xs)
drop_at xs i x lt e =
    let next : drop i xs ≡ x ∷ drop (i + 1) xs = rw add-one (drop-cons xs i x lt ∙ ap (λ (y : SharedLine). y ∷ drop (suc i) xs) (sym e)) in
    ap (map shared_line_view) next

pub all_at : {A B : Type 0} (f : A → B) (test : B → Bool) (xs : List A) (i : ℕ) (x : A) → i < length xs → x ≡ get_or xs i x → list_all test (map f xs) ≡ true → test (f x) ≡ true
all_at f test [] i x lt e h = absurd (omega arith)
all_at f test (y ∷ ys) zero x lt e h = ap (λ z. test (f z)) e ∙ and_first _ _ h
all_at f test (y ∷ ys) (suc i) x lt e h = all_at f test ys i x (omega arith) e (and_second (test (f y)) _ h)

-- ---- refusals of calls that can't come

no_pack : (ps : List Pack) (who : ℕ) → length ps ≤ who → slice_get ps who ≡ None
no_pack [] who h = refl
no_pack (p ∷ ps) zero h = absurd (omega arith)
no_pack (p ∷ ps) (suc who) h = no_pack ps who (omega arith)

pub no_program : (s : State) (who k : ℕ) (vs : List Value) → length s.packs ≤ who → AreOfKinds (export_at s who k) vs → ⊥
no_program s who k vs le fits =
    let none : export_at s who k ≡ None = ap (option_and_then (λ (p : Pack). slice_get p.index.exports k)) (no_pack s.packs who le) in
    subst (λ (o : Option ExportType). AreOfKinds o vs) none fits

pub no_export : (o : Option ExportType) (vs : List Value) → o ≡ None → AreOfKinds o vs → ⊥
no_export o vs none fits = subst (λ (o : Option ExportType). AreOfKinds o vs) none fits

pub no_wrong : (o : Option ExportType) (vs : List Value) → AreOfOtherKinds o vs → AreOfKinds o vs → ⊥
no_wrong None vs wrong fits = fits
no_wrong (Some e) vs wrong fits = wrong fits

-- ---- ends of loops

pub place_begins : (ns : Text) (ps : List Pack) → place_from ns 0 (drop 0 ps) ≡ place_of ns ps
place_begins ns [] = place_first ns []
place_begins ns (p ∷ ps) = place_first ns (p ∷ ps)

pub place_none : (ns : Text) (ps : List Pack) (who : ℕ) → length ps ≤ who → place_from ns who (drop who ps) ≡ place_of ns ps → None ≡ place_of ns ps
place_none ns ps who le h = ap (place_from ns who) (sym (drop_of_length-le ps le)) ∙ h

-- what is asked of the program of a namespace is asked of the one at its place
pub within_said : (s : State) (ns : Text) (a : Act) (who : ℕ) (n : ℕ) (x : Result (Unit {0}) PlayFault) (before after : SinkState) → place_of ns s.packs ≡ Some who → IsStep s (own_acted s.packs a s.standing who (slice_get s.packs who)) n x s before after
    → IsStep s (acted_within s.packs a s.standing (place_of ns s.packs)) n x s before after
within_said s ns a who n x before after at h = subst (λ (o : Option ℕ). IsStep s (acted_within s.packs a s.standing o) n x s before after) (sym at) h
