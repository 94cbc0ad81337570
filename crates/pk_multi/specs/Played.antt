-- The events that led to where programs stand, and that each pack stands as it does alone.
use Rattle.std.specs.Prelude.{◌≡◌, ℕ, List, length, Some, true, false, slice_get}
use Rattle.mc_cmd.specs.Layout.{answer, memory, globals}
use Rattle.mc_cmd.specs.Pack as alone
use Rattle.mc_cmd.specs.Pack.{Pack}
use Rattle.mc_together.specs.Part.{SamePart}
use Rattle.mc_together.specs.Together.{Event, Lawful, own, together}
use Rattle.pk_multi.specs.State.{State}

-- programs that were loaded, to which these lawful events happened, and of which no call failed
pub record HasPlayed (s : State) (es : List Event) : Type 0 where
  pub booted : s.booted ≡ true
  pub sound : s.failed ≡ false
  pub lawful : Lawful s.packs es
  pub standing : s.standing ≡ together s.packs es

-- What is told of the program p at place k is as alone, where what falls to it of these events happens: its answer, its
-- memory and its globals, with all else of its part of the world, the weight that its chains used, and whether one of
-- them was cut. What falls to it is lawful.
pub record StandsAsAlone (s : State) (es : List Event) (k : ℕ) (p : Pack) : Type 0 where
  pub answer :
      answer p.index.ns s.standing.world ≡ answer p.index.ns (alone.play p (own (length s.packs) k es)).world
  pub memory :
      memory p.index.ns s.standing.world ≡ memory p.index.ns (alone.play p (own (length s.packs) k es)).world
  pub globals :
      globals p.index.ns s.standing.world ≡ globals p.index.ns (alone.play p (own (length s.packs) k es)).world
  pub part : SamePart p.index.ns s.standing.world (alone.play p (own (length s.packs) k es)).world
  pub used : (s.standing.counts k).used ≡ (alone.play p (own (length s.packs) k es)).used
  pub cut : (s.standing.counts k).cut ≡ (alone.play p (own (length s.packs) k es)).cut
  pub lawful : alone.Lawful p.index (own (length s.packs) k es)

-- each of the programs stands as alone
abbrev pub AllStandAsAlone : State → List Event → Type 0
AllStandAsAlone s es = (k : ℕ) (p : Pack) → slice_get s.packs k ≡ Some p → StandsAsAlone s es k p
