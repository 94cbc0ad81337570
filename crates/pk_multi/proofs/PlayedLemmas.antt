-- One more event; and each program stands as alone.
use Rattle.std.proofs.Common.{◌≡◌, List, [], ◌∷◌, ◌++◌, length, refl, sym, ap, ◌∙◌, subst, ℕ}
use Rattle.mc_cmd.specs.Pack as alone
use Rattle.mc_cmd.specs.Pack.{Pack}
use Rattle.mc_together.specs.Together.{Event, Standing, IsAsAlone, IsLawful, Lawful, after_events, happen, loaded, own, together}
use Rattle.pk_multi.specs.Played.{HasPlayed, StandsAsAlone}
use Rattle.pk_multi.specs.State.{State, after}

after_more : (ps : List Pack) (es : List Event) (e : Event) (s : Standing) → after_events ps (es ++ (e ∷ [])) s ≡ happen ps (after_events ps es s) e
after_more ps [] e s = refl
after_more ps (f ∷ es) e s = after_more ps es e (happen ps s f)

lawful_more : (ps : List Pack) (es : List Event) (e : Event) → Lawful ps es → IsLawful ps e → Lawful ps (es ++ (e ∷ []))
lawful_more ps [] e h l = (l, tt)
lawful_more ps (f ∷ es) e h l = (h.0, lawful_more ps es e h.1 l)

pub played_more : (s : State) (es : List Event) (e : Event) → HasPlayed s es → IsLawful s.packs e → HasPlayed (after s e) (es ++ (e ∷ []))
played_more s es e h l = record {
  booted = h.booted;
  sound = h.sound;
  lawful = lawful_more s.packs es e h.lawful l;
  standing = ap (λ t. happen s.packs t e) h.standing ∙ sym (after_more s.packs es e (loaded s.packs));
}

-- the same at a standing that is the one together
pub stands : (s : State) (es : List Event) (k : ℕ) (p : Pack) → s.standing ≡ together s.packs es → IsAsAlone s.packs es k p → alone.Lawful p.index (own (length s.packs) k es) → StandsAsAlone s es k p
stands s es k p h a l = subst At (sym h) (record { answer = a.answer; memory = a.memory; globals = a.globals; part = a.part; used = a.used; cut = a.cut; lawful = l })
  where
    At : Standing → Type 0
    At t = let r : State = record s { standing = t } in StandsAsAlone r es k p
