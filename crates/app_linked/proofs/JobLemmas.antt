-- Each job of the joined module is the image of the job of the linked modules.
use Rattle.std.proofs.Common.{◌≡◌, ℕ, List, [], ◌∷◌, Option, Some, refl, ap, subst, false, true}
use Rattle.mc_nbt.specs.declared.value.Value.{Value}
use Rattle.mc_cmd.specs.Layout.{Answer, answer}
use Rattle.mc_cmd.specs.Pack.{Pack, Event, call, tick, reload, other, Standing, happen, loaded}
use Rattle.wm_ast.specs.After as one_after
use Rattle.wm_ast.specs.Configuration as one_config
use Rattle.wm_ast.specs.Store as one_store
use Rattle.wm_valid.specs.Valid.{Valid}
use Rattle.wm_match.specs.Program.{Program}
use Rattle.wm_join.specs.Agree.{one_left_by}
use Rattle.wm_join.specs.Image.{HasGlobals}
use Rattle.wm_join.specs.Joined.{joined}
use Rattle.wm_join.proofs.OutcomeLaws.{calls_follow}
use Rattle.wm_join.proofs.ValidLaws.{valid_begins}
use Rattle.pk_agree.specs.Job as one
use Rattle.app_linked.specs.Job.{Job, first_job, call_job, ticked_job, AfterCall, begins, stays, AfterEvent, AfterEvents, image_job}
use Rattle.app_linked.specs.Law.{IsLinkedJob}
use Rattle.app_linked.proofs.OutcomeLemmas.{runs_linked}

-- the store in which an outcome leaves one module, as both crates below say it
one_left : (x : one_after.Outcome) (s : one_store.Store) → one.left_by x ≡ Some s → one_left_by x ≡ Some s
one_left (one_after.Ends vs t) s e = e
one_left (one_after.Traps k t) s e = e
one_left one_after.Runs s e = absurd cc

module _ (p : Program) where
  -- a job of the joined module that an event leads to, as the image of one of the linked modules
  record Follows (a : Option Answer) (j : Job) (e : Event) (i : one.Job) : Type 0 where
    job : Job
    after : AfterEvent p a j e job
    image : i ≡ image_job p job
    globals : HasGlobals p job.config.store

  called : (a : Option Answer) (j : Job) (k : ℕ) (args : List Value) (i : one.Job) → HasGlobals p j.config.store
      → one.AfterCall (joined p) a (image_job p j) k args i → Follows a j (call k args) i
  called a j k args i fits (one.begins x s d rest has left e) =
      let f = calls_follow p j.config x s k args d fits has (one_left x s left) e in
      record {
        job = call_job f.config;
        after = begins f.outcome f.store f.config rest f.has f.left f.begins;
        image = ap one.call_job f.image;
        globals = f.globals;
      }
  called a j k args i fits (one.stays h) =
      record { job = j; after = stays (λ rest. runs_linked p j.config fits (h rest)); image = refl; globals = fits }

  follows : (a : Option Answer) (j : Job) (e : Event) (i : one.Job) → HasGlobals p j.config.store → one.AfterEvent (joined p) a (image_job p j) e i → Follows a j e i
  follows a j (call k args) i fits h = called a j k args i fits h
  follows a j (tick b) i fits h = record { job = ticked_job j b; after = refl; image = h; globals = fits }
  follows a j (reload b) i fits h = record { job = j; after = refl; image = h; globals = fits }
  follows a j (other c) i fits h = record { job = j; after = refl; image = h; globals = fits }

  -- the same of a list of events
  record Leads (pack : Pack) (s : Standing) (j : Job) (es : List Event) (i : one.Job) : Type 0 where
    job : Job
    after : AfterEvents p pack s j es job
    image : i ≡ image_job p job
    globals : HasGlobals p job.config.store

  leads : (pack : Pack) (es : List Event) (s : Standing) (j : Job) (i : one.Job) → HasGlobals p j.config.store → one.AfterEvents (joined p) pack s (image_job p j) es i → Leads pack s j es i
  leads pack [] s j i fits h = record { job = j; after = refl; image = h; globals = fits }
  leads pack (e ∷ es) s j i fits h =
      let f = follows (answer pack.index.ns s.world) j e h.0 fits h.1 in
      let l = leads pack es (happen pack s e) f.job i f.globals (subst (λ g. one.AfterEvents (joined p) pack (happen pack s e) g es i) f.image h.2) in
      record { job = l.job; after = (f.job, f.after, l.after); image = l.image; globals = l.globals }

  -- the first job
  first_is : Valid (joined p) → one.first_job (joined p) ≡ image_job p (first_job p)
  first_is v = ap (λ (c : one_config.Config). record { offset = one.first_offset (joined p); config = c; instantiates = true; credit = 0; ticked = false }) (valid_begins p v).config

pub jobs_linked : (p : Program) (pack : Pack) (events : List Event) (j : one.Job) → Valid (joined p) → one.IsPresent (joined p) pack events j → IsLinkedJob p pack events j
jobs_linked p pack events j v h =
    let l = leads p pack events (loaded pack) (first_job p) j (valid_begins p v).store (subst (λ g. one.AfterEvents (joined p) pack (loaded pack) g events j) (first_is p v) h) in
    record { job = l.job; is_present = l.after; image = l.image; globals = l.globals }
