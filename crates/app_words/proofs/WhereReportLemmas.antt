-- The report of a script that may ask where the program is, beside that of a script that may not.
use Rattle.std.proofs.Common.{◌≡◌, ◌∙◌, ◌⊎◌, inl, inr, refl, sym, ap, subst, List, [], ◌∷◌, ◌++◌, append_assoc, Option, Some, None}
use Rattle.mc_cmd.specs.Form.{Text}
use Rattle.mc_cmd.specs.Pack.{Pack, Standing}
use Rattle.mc_cmd.specs.World.{World}
use Rattle.mc_cmd.proofs.FormLemmas.{some_same}
use Rattle.app_words.specs.Act.{Act, ScriptLine}
use Rattle.app_words.specs.Act as act
use Rattle.app_words.specs.Report.{Acted, Cause, End, Reported, acted, and_then, goes, report, stops}
use Rattle.app_words.specs.WhereReport.{Begun, IsActed, IsBefore, GoesOn, IsReport}

-- a whole report
abbrev pub whole : Reported → Begun
whole q = record { text = q.text; end = Some q.end }

-- a report is this one, or it was left within it
abbrev pub BeginsAs : Reported → Begun → Type 0
BeginsAs q r = ((r.end ≡ None) × (more : Text) × (r.text ++ more ≡ q.text)) ⊎ (r ≡ whole q)

left_within : (q : Reported) (r : Begun) → r ≡ record { text = []; end = None } → BeginsAs q r
left_within q r e = inl (ap (λ (b : Begun). b.end) e, q.text, ap (λ (b : Begun). b.text ++ q.text) e)

begins_behind : (t : Text) (q : Reported) (rest r : Begun) → BeginsAs q rest → IsBefore t rest r
    → BeginsAs (record { text = t ++ q.text; end = q.end }) r
begins_behind t q rest r (inl h) b =
    inl (
      ap (λ (x : Begun). x.end) b ∙ h.0,
      h.1,
      ap (λ (x : Begun). x.text ++ h.1) b ∙ append_assoc t rest.text h.1 ∙ ap (λ (w : Text). t ++ w) h.2,
    )
begins_behind t q rest r (inr h) b =
    inr (b ∙ ap (λ (x : Begun). let y : Begun = record { text = t ++ x.text; end = x.end } in y) h)

not_left : (e : End) → None ≡ Some e → ⊥
not_left e h = cc

module _ (May : Text → World → Text → Type 0) (pack : Pack) where
  -- what an act does that prints nothing of where the program is
  silent_act : ((ns : Text) (w : World) (t : Text) → May ns w t → t ≡ []) → (a : Act) (s : Standing) (x : Acted)
      → IsActed May pack a s x → x ≡ acted pack a s
  silent_act silent (act.call name args) s x h = h
  silent_act silent (act.tick b) s x h = h
  silent_act silent (act.ticks n b) s x h = h
  silent_act silent (act.reload b) s x h = h
  silent_act silent (act.other c) s x h = h
  silent_act silent act.show s x h = h
  silent_act silent act.globals s x h = h
  silent_act silent (act.memory at len) s x h = h
  silent_act silent act.dump s x h = h
  silent_act silent act.inspect s x h = h.2 ∙ ap (λ t. goes t s) (silent pack.index.ns s.world h.0 h.1)

  -- where nothing may be printed of it, a report is that of a script that may not ask
  pub begins_as : ((ns : Text) (w : World) (t : Text) → May ns w t → t ≡ []) → (ls : List ScriptLine) (s : Standing) (r : Begun)
      → IsReport May pack ls s r → BeginsAs (report pack ls s) r
  begins_as silent [] s r (inl e) = left_within (report pack [] s) r e
  begins_as silent [] s r (inr e) = inr e
  begins_as silent (l ∷ ls) s r (inl e) = left_within (report pack (l ∷ ls) s) r e
  begins_as silent (l ∷ ls) s r (inr h) = go (λ z q k. begins_as silent ls z q k) h.0 (silent_act silent l.act s h.0 h.1) h.2
    where
      go : ((z : Standing) (q : Begun) → IsReport May pack ls z q → BeginsAs (report pack ls z) q) → (x : Acted) → x ≡ acted pack l.act s → GoesOn l.line x (IsReport May pack ls) r
          → BeginsAs (report pack (l ∷ ls) s) r
      go more (goes t z) e g =
          subst (λ (x : Acted). BeginsAs (and_then l.line x (report pack ls)) r) e
          (begins_behind t (report pack ls z) g.0 r (more z g.0 g.1) g.2)
      go more (stops c) e g = subst (λ (x : Acted). BeginsAs (and_then l.line x (report pack ls)) r) e (inr g)

  -- what an act does, but for what is printed of where the program is
  goes_too : (a : Act) (s z : Standing) (t : Text) → IsActed May pack a s (goes t z) → (u : Text) × (acted pack a s ≡ goes u z)
  goes_too (act.call name args) s z t h = (t, sym h)
  goes_too (act.tick b) s z t h = (t, sym h)
  goes_too (act.ticks n b) s z t h = (t, sym h)
  goes_too (act.reload b) s z t h = (t, sym h)
  goes_too (act.other c) s z t h = (t, sym h)
  goes_too act.show s z t h = (t, sym h)
  goes_too act.globals s z t h = (t, sym h)
  goes_too (act.memory at len) s z t h = (t, sym h)
  goes_too act.dump s z t h = (t, sym h)
  goes_too act.inspect s z t h = ([], let e : goes t z ≡ goes h.0 s = h.2 in cc)

  stops_too : (a : Act) (s : Standing) (c : Cause) → IsActed May pack a s (stops c) → acted pack a s ≡ stops c
  stops_too (act.call name args) s c h = sym h
  stops_too (act.tick b) s c h = sym h
  stops_too (act.ticks n b) s c h = sym h
  stops_too (act.reload b) s c h = sym h
  stops_too (act.other d) s c h = sym h
  stops_too act.show s c h = sym h
  stops_too act.globals s c h = sym h
  stops_too (act.memory at len) s c h = sym h
  stops_too act.dump s c h = sym h
  stops_too act.inspect s c h = let e : stops c ≡ goes h.0 s = h.2 in absurd cc

  -- a report that came to an end ends as that of a script that may not ask
  pub ends_as : (ls : List ScriptLine) (s : Standing) (r : Begun) → IsReport May pack ls s r → (e : End) → r.end ≡ Some e
      → (report pack ls s).end ≡ e
  ends_as [] s r (inl p) e h = absurd (not_left e (sym (ap (λ (b : Begun). b.end) p) ∙ h))
  ends_as [] s r (inr p) e h = some_same _ e (sym (ap (λ (b : Begun). b.end) p) ∙ h)
  ends_as (l ∷ ls) s r (inl p) e h = absurd (not_left e (sym (ap (λ (b : Begun). b.end) p) ∙ h))
  ends_as (l ∷ ls) s r (inr p) e h = go (λ z q k f. ends_as ls z q k e f) p.0 p.1 p.2
    where
      go : ((z : Standing) (q : Begun) → IsReport May pack ls z q → q.end ≡ Some e → (report pack ls z).end ≡ e) → (x : Acted) → IsActed May pack l.act s x → GoesOn l.line x (IsReport May pack ls) r
          → (report pack (l ∷ ls) s).end ≡ e
      go more (goes t z) a g =
          let u = goes_too l.act s z t a in
          ap (λ (x : Acted). (and_then l.line x (report pack ls)).end) u.1
          ∙ more z g.0 g.1 (sym (ap (λ (b : Begun). b.end) g.2) ∙ h)
      go more (stops c) a g =
          ap (λ (x : Acted). (and_then l.line x (report pack ls)).end) (stops_too l.act s c a)
          ∙ some_same _ e (sym (ap (λ (b : Begun). b.end) g) ∙ h)
