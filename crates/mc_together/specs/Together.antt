-- Several packs in one world, on one budget.
use Rattle.std.specs.Prelude.{◌≡◌, ◌≢◌, ℕ, suc, ◌+◌, ◌-◌, length, pos, List, [], ◌∷◌, Option, Some, None, Bool, true}
use Rattle.std.specs.Prelude.{false, ◌||◌, nat_eq, if◌then◌else◌, codes, slice_get}
use Rattle.std.specs.Fmt.{decimal}
use Rattle.std.specs.List.{AllByRecursion}
use Rattle.mc_nbt.specs.declared.value.Value.{Value}
use Rattle.mc_cmd.specs.declared.TheConstants.{BMIN, LOAD_QUOTA}
use Rattle.mc_cmd.specs.Form.{Text}
use Rattle.mc_cmd.specs.Command.{Cmd}
use Rattle.mc_cmd.specs.World.{World, empty_world, with_rule, cmd_effect}
use Rattle.mc_cmd.specs.Chain.{Functions, Ended, chain_from}
use Rattle.mc_cmd.specs.Layout.{full_name}
use Rattle.mc_cmd.specs.Layout as layout
use Rattle.mc_cmd.specs.Word.{is_namespace}
use Rattle.mc_cmd.specs.Pack as alone
use Rattle.mc_cmd.specs.Pack.{Pack, functions_of, counted, with_args, IsForeign, IsCallOf}
use Rattle.mc_together.specs.Share.{share_of, IsSharedBudget}
use Rattle.mc_together.specs.Part.{IsTidyPack, SamePart}

-- a call of an export of the program at a place, a tick and a reload with a budget for all, or a command of somebody
-- else
pub data Event : Type 0 where
  call : ℕ → ℕ → List Value → Event
  tick : ℕ → Event
  reload : ℕ → Event
  other : Cmd → Event

-- what is counted of a program: the weight that its chains used, whether one of them was cut, and its last share
pub record Count : Type 0 where
  pub used : ℕ
  pub cut : Bool
  pub share : ℕ

-- where several programs stand: the world, the number of ticks, and the counts by the places of the programs
pub record Standing : Type 0 where
  pub world : World
  pub ticks : ℕ
  pub counts : ℕ → Count

-- a count after a chain of the program, run with this quota
abbrev pub count_chain : Count → ℕ → ℕ → Ended → Count
count_chain c share quota e =
    record { used = counted (c.used + (quota - e.left)); cut = c.cut || e.cut; share = share }

-- the counts with this one at a place
abbrev pub with_count : (ℕ → Count) → ℕ → Count → ℕ → Count
with_count cs i c j = if nat_eq i j then c else cs j

-- the standing after a chain of the program at a place
abbrev pub after_chain : Standing → ℕ → ℕ → ℕ → Ended → Standing
after_chain s i share quota e =
    record s { world = e.world; counts = with_count s.counts i (count_chain (s.counts i) share quota e) }

-- a chain of a pack's function among the functions of all, over a world
abbrev pub chain_among : Functions → Pack → Text → ℕ → World → Ended
chain_among fs p name quota w = chain_from fs (full_name p.index.ns name) quota w

-- a function of the program at a place with its share, which is the rule then
abbrev pub run_share : Functions → Text → ℕ → ℕ → Pack → Standing → Standing
run_share fs name b i p s = after_chain s i b b (chain_among fs p name b (with_rule s.world (pos b)))

-- the same function of each program from a place on, in order, with the share of each
abbrev pub run_shares : Functions → Text → (ℕ → ℕ) → ℕ → List Pack → Standing → Standing
run_shares fs name shares i [] s = s
run_shares fs name shares i (p ∷ ps) s = run_shares fs name shares (suc i) ps (run_share fs name (shares i) i p s)

-- the same function of all programs
abbrev pub run_all : List Pack → Text → (ℕ → ℕ) → Standing → Standing
run_all ps name shares s = run_shares (functions_of ps) name shares 0 ps s

-- a call of a program's export: the rule is the program's last share; no program at the place, nothing happens
abbrev pub run_call : Functions → ℕ → List Value → ℕ → Option Pack → Standing → Standing
run_call fs k args i None s = s
run_call fs k args i (Some p) s =
    let b = (s.counts i).share in
    let w = with_args p.index.ns args (with_rule s.world (pos b)) in
    after_chain s i b BMIN (chain_among fs p (99 ∷ decimal k) BMIN w)

-- What an event does. The shares of a tick and of a reload are those after the ticks so far; a tick raises their
-- number. A command of somebody else is no chain and has no weight.
abbrev pub happen : List Pack → Standing → Event → Standing
happen ps s (call i k args) = run_call (functions_of ps) k args i (slice_get ps i) s
happen ps s (tick b) =
    let r = run_all ps (codes "tick") (share_of b (length ps) s.ticks) s in
    record r { ticks = counted (s.ticks + 1) }
happen ps s (reload b) = run_all ps (codes "load") (share_of b (length ps) s.ticks) s
happen ps s (other c) = record s { world = (cmd_effect c s.world).world }

-- before any pack is loaded: the last share of each is the rule of this world
abbrev pub unloaded : Standing
unloaded = record { world = empty_world; ticks = 0; counts = λ i. record { used = 0; cut = false; share = LOAD_QUOTA } }

-- the packs after they are loaded, one after another
abbrev pub loaded : List Pack → Standing
loaded ps = run_all ps (codes "load") (λ i. LOAD_QUOTA) unloaded

-- the packs after these events, from a standing on
abbrev pub after_events : List Pack → List Event → Standing → Standing
after_events ps [] s = s
after_events ps (e ∷ es) s = after_events ps es (happen ps s e)

-- the play of several packs
abbrev pub together : List Pack → List Event → Standing
together ps events = after_events ps events (loaded ps)

-- a call is the program's own where it is the one at the place that is called
abbrev pub own_call : Bool → ℕ → List Value → List alone.Event → List alone.Event
own_call true k args more = alone.call k args ∷ more
own_call false k args more = more

-- what falls to the program at place i of n, from so many ticks on: its own calls, its shares as budgets, and the
-- commands of somebody else
abbrev pub own_from : ℕ → ℕ → ℕ → List Event → List alone.Event
own_from n i t [] = []
own_from n i t (call j k args ∷ es) = own_call (nat_eq j i) k args (own_from n i t es)
own_from n i t (tick b ∷ es) = alone.tick (share_of b n t i) ∷ own_from n i (counted (t + 1)) es
own_from n i t (reload b ∷ es) = alone.reload (share_of b n t i) ∷ own_from n i t es
own_from n i t (other c ∷ es) = alone.other c ∷ own_from n i t es

-- the same from the first event on
abbrev pub own : ℕ → ℕ → List Event → List alone.Event
own n i events = own_from n i 0 events

-- packs that may live together: each is tidy under a namespace, and no two have the same
pub record ArePrograms (ps : List Pack) : Type 0 where
  pub namespace : (i : ℕ) (p : Pack) → slice_get ps i ≡ Some p → is_namespace p.index.ns ≡ true
  pub tidy : (i : ℕ) (p : Pack) → slice_get ps i ≡ Some p → IsTidyPack p
  pub differ :
      (i j : ℕ) (p q : Pack) → slice_get ps i ≡ Some p → slice_get ps j ≡ Some q → i ≢ j → p.index.ns ≢ q.index.ns

-- a call of a program that is there names an export, with arguments of its kinds; a budget is one for all; a command
-- of somebody else keeps off all
abbrev pub IsLawful : List Pack → Event → Type 0
IsLawful ps (call i k args) = (p : Pack) → slice_get ps i ≡ Some p → IsCallOf (slice_get p.index.exports k) args
IsLawful ps (tick b) = IsSharedBudget (length ps) b
IsLawful ps (reload b) = IsSharedBudget (length ps) b
IsLawful ps (other c) = (i : ℕ) (p : Pack) → slice_get ps i ≡ Some p → IsForeign p.index.ns c

-- all of these events are lawful
abbrev pub Lawful : List Pack → List Event → Type 0
Lawful ps es = AllByRecursion (IsLawful ps) es

-- What is told of the program p at place k is as alone, where what falls to it happens: its answer, its memory and its
-- globals, with all else of its part of the world, the weight that its chains used, and whether one of them was cut.
pub record IsAsAlone (ps : List Pack) (es : List Event) (k : ℕ) (p : Pack) : Type 0 where
  pub answer :
      let a = alone.play p (own (length ps) k es) in
      layout.answer p.index.ns (together ps es).world ≡ layout.answer p.index.ns a.world
  pub memory :
      let a = alone.play p (own (length ps) k es) in
      layout.memory p.index.ns (together ps es).world ≡ layout.memory p.index.ns a.world
  pub globals :
      let a = alone.play p (own (length ps) k es) in
      layout.globals p.index.ns (together ps es).world ≡ layout.globals p.index.ns a.world
  pub part : SamePart p.index.ns (together ps es).world (alone.play p (own (length ps) k es)).world
  pub used : ((together ps es).counts k).used ≡ (alone.play p (own (length ps) k es)).used
  pub cut : ((together ps es).counts k).cut ≡ (alone.play p (own (length ps) k es)).cut
