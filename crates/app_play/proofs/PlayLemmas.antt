-- The report of a script, from one of its lines on.
use Rattle.std.proofs.Common.{◌≡◌, ℕ, zero, suc, ◌+◌, ◌<◌, List, [], ◌∷◌, ◌++◌, length, get_or, take, drop, drop-cons, add-one, Bool, true, false, map, Option, Some, None, Ok, Err, refl, sym, ap, subst, ◌∙◌, append_assoc, append-nil, Result, ℤ, pos, negsuc, codes, position, slice_get}
use Rattle.std.proofs.lemmas.Bool.{eqb-true}
use Rattle.std.specs.Str.{bytes_eq}
use Rattle.std.specs.declared.vec.Vec.{Vec}
use Rattle.std.specs.declared.alloc.Global.{Global}
use Rattle.std.specs.Option.{option_map}
use Rattle.std.specs.Result.{IsErr, IsErrAnd}
use Rattle.io_dev.specs.Faults.{Rose}
use Rattle.io_dev.specs.Sink.{SinkState, append, AppendFailed, IsPartlyAppended}
use Rattle.mc_nbt.specs.Tree.{Tree, int, string, list, compound}
use Rattle.mc_nbt.specs.declared.value.Value.{Value}
use Rattle.mc_cmd.specs.Form.{Text}
use Rattle.mc_cmd.specs.Layout as layout
use Rattle.mc_cmd.specs.Layout.{io_value}
use Rattle.mc_cmd.specs.Pack.{Pack, Standing, ExportType, call}
use Rattle.mc_layout.specs.State.{int_in}
use Rattle.mc_tick.specs.Answers.{IsStarted}
use Rattle.mc_tick.specs.State.{State, IsDead, IsRunning, after}
use Rattle.mc_tick.specs.StateView.{IsResumed, IsTold, state_of}
use Rattle.mc_tick.specs.declared.refusal.StartRefusal.{StartRefusal}
use Rattle.mc_tick.specs.declared.refusal.StartRefusal.TheVariants as starts
use Rattle.mc_tick.specs.declared.resting.Resting.{Resting}
use Rattle.mc_tick.specs.declared.resumed.Resumed.{Resumed}
use Rattle.app_words.specs.Act as act
use Rattle.app_words.specs.Act.{Act, ScriptLine}
use Rattle.app_words.specs.View.{line_view}
use Rattle.app_words.specs.declared.act.ScriptLine as read
use Rattle.app_words.specs.Arguments.{export_at, export_named}
use Rattle.app_words.specs.Report.{finished, refused, Acted, goes, stops, acted, called, called_found, called_with, is_dead, is_four}
use Rattle.app_words.specs.Report.{Reported, and_then, answer_of}
use Rattle.app_words.specs.Lines.{busy_line}
use Rattle.app_play.specs.Play.{IsPlayed}
use Rattle.app_play.specs.steps.Playing.{IsMade, IsPrepared, IsSaid, IsStep, is_print, printed}
use Rattle.app_play.specs.declared.fault.Cause.TheVariants as causes
use Rattle.app_play.specs.declared.fault.PlayFault.{PlayFault}
use Rattle.app_play.specs.declared.fault.PlayFault.TheVariants as faults

-- what stands under `Some`
some_is : {A : Type 0} (a b : A) → Some a ≡ Some b → a ≡ b
some_is a b h = cc

-- an error that is known is the whole of the result
pub err_is : {T E : Type 0} (r : Result T E) (e : E) → IsErr r × IsErrAnd r (λ x. x ≡ e) → r ≡ Err e
err_is (Ok x) e h = let f : false ≡ true = h.0 in cc
err_is (Err x) e h = ap Err h.1

-- what was written at first and the report up to here is written now, and the rest of the report is left
pub record Goes (whole rest : Reported) (first now : SinkState) : Type 0 where
  pub done : Text
  pub said : now ≡ append first done
  pub text : done ++ rest.text ≡ whole.text
  pub end : rest.end ≡ whole.end

-- nothing more, and one text behind another
told-nil : (o : Option Text) → option_map (λ w. w ++ []) o ≡ o
told-nil None = refl
told-nil (Some w) = ap Some (append-nil w)

pub append-nothing : (s : SinkState) → append s [] ≡ s
append-nothing s = ap (λ (o : Option Text). let r : SinkState = record { written = o; faults = s.faults } in r) (told-nil s.written)

told-append : (o : Option Text) (a b : Text) → option_map (λ w. w ++ b) (option_map (λ w. w ++ a) o) ≡ option_map (λ w. w ++ (a ++ b)) o
told-append None a b = refl
told-append (Some w) a b = ap Some (append_assoc w a b)

pub append-append : (s : SinkState) (a b : Text) → append (append s a) b ≡ append s (a ++ b)
append-append s a b = ap (λ (o : Option Text). let r : SinkState = record { written = o; faults = s.faults } in r) (told-append s.written a b)

-- a sink that is as it was took a prefix of any text
pub nothing_appended : (s : SinkState) (t : Text) → IsPartlyAppended s s t
nothing_appended s t = (0, sym (append-nothing s))

-- a prefix of a text is one of the text with more behind it, and behind a text it is one of both
prefix_of_longer : (n : ℕ) (t more : Text) → (k : ℕ) × (take k (t ++ more) ≡ take n t)
prefix_of_longer zero t more = (0, refl)
prefix_of_longer (suc n) [] more = (0, refl)
prefix_of_longer (suc n) (b ∷ t) more =
    let p = prefix_of_longer n t more in
    (suc p.0, ap (λ r. b ∷ r) p.1)

prefix_behind : (a b : Text) (n : ℕ) → (k : ℕ) × (take k (a ++ b) ≡ a ++ take n b)
prefix_behind [] b n = (n, refl)
prefix_behind (x ∷ a) b n =
    let p = prefix_behind a b n in
    (suc p.0, ap (λ r. x ∷ r) p.1)

-- a prefix of what is next makes a prefix of the whole report
so_far : (whole rest : Reported) (first before : SinkState) (t more : Text) (n : ℕ) → Goes whole rest first before → rest.text ≡ t ++ more → (k : ℕ) × (append before (take n t) ≡ append first (take k whole.text))
so_far whole rest first before t more n g e =
    let p = prefix_of_longer n t more in
    let q = prefix_behind g.done (t ++ more) p.0 in
    let whole_is : g.done ++ (t ++ more) ≡ whole.text = ap (λ r. g.done ++ r) (sym e) ∙ g.text in
    let prefix : g.done ++ take n t ≡ take q.0 whole.text = ap (λ r. g.done ++ r) (sym p.1) ∙ sym q.1 ∙ ap (take q.0) whole_is in
    (q.0, ap (λ (s : SinkState). append s (take n t)) g.said ∙ append-append first g.done (take n t) ∙ ap (append first) prefix)

pub partly_so_far : (whole rest : Reported) (first before after : SinkState) (t more : Text) → Goes whole rest first before → rest.text ≡ t ++ more → IsPartlyAppended before after t → IsPartlyAppended first after whole.text
partly_so_far whole rest first before after t more g e h =
    let k = so_far whole rest first before t more h.0 g e in
    (k.0, h.1 ∙ k.1)

pub failed_so_far : (whole rest : Reported) (first before after : SinkState) (t more : Text) → Goes whole rest first before → rest.text ≡ t ++ more → AppendFailed before after t → AppendFailed first after whole.text
failed_so_far whole rest first before after t more g e h =
    let k = so_far whole rest first before t more h.left.0 g e in
    record {
      counted = subst (λ (s : SinkState). Rose s.faults after.faults) g.said h.counted;
      left = (k.0, h.left.1 ∙ ap (λ (s : SinkState). s.written) k.1);
    }

-- at the beginning
pub goes_first : (whole : Reported) (first : SinkState) → Goes whole whole first first
goes_first whole first = record { done = []; said = sym (append-nothing first); text = refl; end = refl }

-- one line further
pub goes_on : {S : Type 0} (n : ℕ) (t : Text) (s : S) (rest : S → Reported) (whole : Reported) (first now then' : SinkState) → Goes whole (and_then n (goes t s) rest) first now → then' ≡ append now t → Goes whole (rest s) first then'
goes_on n t s rest whole first now then' g e = record {
  done = g.done ++ t;
  said = e ∙ ap (λ (o : SinkState). append o t) g.said ∙ append-append first g.done t;
  text = append_assoc g.done t (rest s).text ∙ g.text;
  end = g.end;
}

-- an event that prints nothing leaves the sink as it is
pub made_step : (st : State) (a : Acted) (n : ℕ) (r : Result Resumed PlayFault) (out : SinkState) → IsMade st a n r → IsStep st a n r out out
made_step st (goes t s) n (Ok r) out h = (h.1, sym (ap (append out) h.0 ∙ append-nothing out))
made_step st (stops c) n (Ok r) out h = absurd h
made_step st (goes t s) n (Err (faults.Refused line told)) out h = absurd h
made_step st (stops c) n (Err (faults.Refused line told)) out h = (h.0, h.1, refl)
made_step st (goes t s) n (Err faults.Output) out h = absurd h
made_step st (stops c) n (Err faults.Output) out h = absurd h
made_step st (goes t s) n (Err faults.Memory) out h = nothing_appended out t
made_step st (stops c) n (Err faults.Memory) out h = nothing_appended out []

-- an act that prints what the pack shows leaves it as it stands
pub print_acts : (p : Pack) (a : Act) (s : Standing) → is_print a ≡ true → acted p a s ≡ goes (printed p.index.ns s.world a) s
print_acts p act.show s h = refl
print_acts p act.globals s h = refl
print_acts p (act.memory at len) s h = refl
print_acts p act.dump s h = refl
print_acts p act.inspect s h = cc
print_acts p (act.call name args) s h = cc
print_acts p (act.tick b) s h = cc
print_acts p (act.ticks n b) s h = cc
print_acts p (act.reload b) s h = cc
print_acts p (act.other c) s h = cc

-- there was no memory for an event
pub memory_made : (st : State) (a : Acted) (n : ℕ) → IsMade st a n (Err faults.Memory)
memory_made st (goes t s) n = tt
memory_made st (stops c) n = tt

-- the place of an export that was found
pub export_slice : (name : Text) (es : List ExportType) (k : ℕ) (e : ExportType) → export_named name es ≡ Some (k, e) → slice_get es k ≡ Some e
export_slice name es k e h = by_place (position (λ x. bytes_eq x.name name) es) h
  where
    by_export : (j : ℕ) (o : Option ExportType) → slice_get es j ≡ o → option_map {U = ℕ × ExportType} (λ x. (j, x)) o ≡ Some (k, e) → slice_get es k ≡ Some e
    by_export j None f g = absurd cc
    by_export j (Some x) f g =
        let both : (j, x) ≡ (k, e) = some_is (j, x) (k, e) g in
        ap (slice_get es) (sym (ap (λ (p : ℕ × ExportType). p.0) both)) ∙ f ∙ ap Some (ap (λ (p : ℕ × ExportType). p.1) both)

    by_place : (o : Option ℕ) → export_at es o ≡ Some (k, e) → slice_get es k ≡ Some e
    by_place None g = absurd cc
    by_place (Some j) g = by_export j (slice_get es j) refl g

-- the state 4, as the report and as a state tell it
four : (o : Option Tree) → is_four o ≡ true → int_in o ≡ Some (pos 4)
four None h = absurd cc
four (Some (int (pos n))) h = ap (λ m. Some (pos m)) (eqb-true n 4 h)
four (Some (int (negsuc n))) h = absurd cc
four (Some (string t)) h = absurd cc
four (Some (list ts)) h = absurd cc
four (Some (compound fs)) h = absurd cc

is_four-from : (o : Option Tree) → int_in o ≡ Some (pos 4) → is_four o ≡ true
is_four-from None h = absurd cc
is_four-from (Some (int z)) h = let e : z ≡ pos 4 = cc in rw e refl
is_four-from (Some (string t)) h = absurd cc
is_four-from (Some (list ts)) h = absurd cc
is_four-from (Some (compound fs)) h = absurd cc

-- a call of a pack that isn't dead, and of one that is
pub made_call : (s : State) (k : ℕ) (vs : List Value) (r : Resumed) (n : ℕ) → ¬ IsDead s → IsResumed (after s (call k vs)) r → IsMade s (called_with s.pack s.standing k (Some vs) (is_dead s.pack s.standing)) n (Ok r)
made_call s k vs r n alive h = go (is_dead s.pack s.standing) refl
  where
    go : (b : Bool) → is_dead s.pack s.standing ≡ b → IsMade s (called_with s.pack s.standing k (Some vs) b) n (Ok r)
    go true e = absurd (alive (four _ e))
    go false e = (refl, h)

pub made_dead : (s : State) (k : ℕ) (vs : List Value) (n : ℕ) → IsDead s → IsMade s (called_with s.pack s.standing k (Some vs) (is_dead s.pack s.standing)) n (Err (faults.Refused n causes.InstanceIsDead))
made_dead s k vs n dead = rw (is_four-from (io_value s.pack.index.ns s.standing.world (codes "state")) dead) (refl, refl)

pub made_refused : (s : State) (k : ℕ) (vs : List Value) (refusal : StartRefusal) (r : Resting) (n : ℕ) → refusal ≡ starts.Dead r → IsStarted s k vs (Err refusal)
    → IsMade s (called_with s.pack s.standing k (Some vs) (is_dead s.pack s.standing)) n (Err (faults.Refused n causes.InstanceIsDead))
made_refused s k vs refusal r n e h =
    let dead : IsStarted s k vs (Err (starts.Dead r)) = subst (λ (f : StartRefusal). IsStarted s k vs (Err f)) e h in
    made_dead s k vs n dead.1

-- a call whose export and values were found, and one whose weren't
pub made_found : (s : State) (n : ℕ) (name : Text) (args : List ℤ) (v : ℕ × Vec Value Global) (r : Result Resumed PlayFault) → IsPrepared s.pack.index n name args (Ok v)
    → IsMade s (called_with s.pack s.standing v.0 (Some v.1.items) (is_dead s.pack s.standing)) n r → IsMade s (called_found s.pack s.standing args (export_named name s.pack.index.exports)) n r
made_found s n name args v r (e, found, values, at) h =
    subst (λ (o : Option (ℕ × ExportType)). IsMade s (called_found s.pack s.standing args o) n r) (sym found)
    (subst (λ (o : Option (List Value)). IsMade s (called_with s.pack s.standing v.0 o (is_dead s.pack s.standing)) n r) (sym values) h)

pub made_unfound : (s : State) (n : ℕ) (name : Text) (args : List ℤ) (fault : PlayFault) → IsPrepared s.pack.index n name args (Err fault) → IsMade s (called_found s.pack s.standing args (export_named name s.pack.index.exports)) n (Err fault)
made_unfound s n name args faults.Output h = absurd h
made_unfound s n name args faults.Memory h = memory_made s (called_found s.pack s.standing args (export_named name s.pack.index.exports)) n
made_unfound s n name args (faults.Refused line causes.NoSuchExport) h = subst (λ (o : Option (ℕ × ExportType)). IsMade s (called_found s.pack s.standing args o) n (Err (faults.Refused line causes.NoSuchExport))) (sym h.1) (h.0, refl)
made_unfound s n name args (faults.Refused line causes.WrongArguments) h =
    let x = h.1 in
    subst (λ (o : Option (ℕ × ExportType)). IsMade s (called_found s.pack s.standing args o) n (Err (faults.Refused line causes.WrongArguments))) (sym x.2)
    (subst (λ (o : Option (List Value)). IsMade s (called_with s.pack s.standing x.0 o (is_dead s.pack s.standing)) n (Err (faults.Refused line causes.WrongArguments))) (sym x.3) (h.0, refl))
made_unfound s n name args (faults.Refused line causes.InstanceIsDead) h = absurd h
made_unfound s n name args (faults.Refused line (causes.Names t)) h = absurd h
made_unfound s n name args (faults.Refused line causes.NoSuchProgram) h = absurd h

-- a call of a pack that isn't running
pub not_running : (p : Pack) (s : Standing) (name : Text) (args : List ℤ) (o : Option layout.Answer) → ¬ (o ≡ Some layout.running) → called p s name args o ≡ called_found p s args (export_named name p.index.exports)
not_running p s name args None h = refl
not_running p s name args (Some layout.new) h = refl
not_running p s name args (Some layout.running) h = absurd (h refl)
not_running p s name args (Some (layout.done v)) h = refl
not_running p s name args (Some (layout.trap k)) h = refl
not_running p s name args (Some (layout.dead k)) h = refl

-- a line of which not all was said, or for which there was no memory
pub said_step : (st : State) (t : Text) (s : Standing) (n : ℕ) (fault : PlayFault) (before after : SinkState) → IsSaid t before after (Err fault) → IsStep st (goes t s) n (Err fault) before after
said_step st t s n faults.Output before after h = h
said_step st t s n faults.Memory before after h = h
said_step st t s n (faults.Refused line told) before after h = absurd h

-- the next line of some
pub drop_at : (xs : List read.ScriptLine) (i : ℕ) (x : read.ScriptLine) → i < length xs → x ≡ get_or xs i x → map line_view (drop i xs) ≡ line_view x ∷ map line_view (drop (i + 1) xs)
drop_at xs i x lt e =
    let next : drop i xs ≡ x ∷ drop (i + 1) xs = rw add-one (drop-cons xs i x lt ∙ ap (λ (y : read.ScriptLine). y ∷ drop (suc i) xs) (sym e)) in
    ap (map line_view) next

-- a call of a pack that is running, of which not all was said, and a call of a pack that isn't
pub busy_stopped : (s : State) (name : Text) (args : List ℤ) (n : ℕ) (fault : PlayFault) (before after : SinkState) → IsRunning s → IsSaid busy_line before after (Err fault)
    → IsStep s (called s.pack s.standing name args (answer_of s.pack s.standing)) n (Err fault) before after
busy_stopped s name args n fault before after running h =
    subst (λ (o : Option layout.Answer). IsStep s (called s.pack s.standing name args o) n (Err fault) before after) (sym running) (said_step s busy_line s.standing n fault before after h)

pub resting_step : (s : State) (name : Text) (args : List ℤ) (n : ℕ) (r : Result Resumed PlayFault) (out : SinkState) → ¬ IsRunning s → IsMade s (called_found s.pack s.standing args (export_named name s.pack.index.exports)) n r
    → IsStep s (called s.pack s.standing name args (answer_of s.pack s.standing)) n r out out
resting_step s name args n r out rests h =
    let o : Option layout.Answer = answer_of s.pack s.standing in
    made_step s (called s.pack s.standing name args o) n r out (subst (λ (a : Acted). IsMade s a n r) (sym (not_running s.pack s.standing name args o rests)) h)

-- the last line
pub ended : (whole rest : Reported) (t : Text) (first before after : SinkState) → Goes whole rest first before → rest ≡ record { text = t; end = finished } → after ≡ append before t
    → (whole.end ≡ finished) × (after ≡ append first whole.text)
ended whole rest t first before after g e said =
    (sym g.end ∙ ap (λ (r : Reported). r.end) e, said ∙ ap (λ (s : SinkState). append s t) g.said ∙ append-append first g.done t ∙ ap (append first) (ap (λ r. g.done ++ r) (sym (ap (λ (r : Reported). r.text) e)) ∙ g.text))

-- the last line, of which not all was written
pub end_stopped : (whole rest : Reported) (t : Text) (first before after : SinkState) (fault : PlayFault) → Goes whole rest first before → rest ≡ record { text = t; end = finished } → IsSaid t before after (Err fault)
    → IsPlayed whole (Err fault) first after
end_stopped whole rest t first before after faults.Output g e h = failed_so_far whole rest first before after t [] g (ap (λ (r : Reported). r.text) e ∙ sym (append-nil t)) h
end_stopped whole rest t first before after faults.Memory g e h = partly_so_far whole rest first before after t [] g (ap (λ (r : Reported). r.text) e ∙ sym (append-nil t)) h
end_stopped whole rest t first before after (faults.Refused line told) g e h = absurd h

-- the last line, whole or not
pub told_at_end : (whole rest : Reported) (t : Text) (first before after : SinkState) (r : Result (Unit {0}) PlayFault) → Goes whole rest first before → rest ≡ record { text = t; end = finished } → IsSaid t before after r → IsPlayed whole r first after
told_at_end whole rest t first before after (Ok u) g e h = ended whole rest t first before after g e h
told_at_end whole rest t first before after (Err fault) g e h = end_stopped whole rest t first before after fault g e h
