-- While a linked pack runs, its state stands for what its job has come to.
use Rattle.std.proofs.Common.{◌≡◌, ℕ, ◌+◌, ◌≤◌, ◌⊎◌, inl, inr, List, [], length, reverse, Some, true, false, refl, sym, ap, ◌∙◌, arith}
use Rattle.mc_cmd.specs.Form.{Text}
use Rattle.mc_cmd.specs.Layout.{running, answer}
use Rattle.mc_cmd.specs.Pack.{Pack, play}
use Rattle.mc_cmd.specs.Word.{is_namespace}
use Rattle.mc_cmd.specs.World.{World}
use Rattle.wm_ast.specs.declared.module.Module.{Module}
use Rattle.wm_ast.specs.After.{after}
use Rattle.wm_ast.specs.Instance.{call_config}
use Rattle.wm_ast.specs.Step.{Next}
use Rattle.wm_ast.specs.Store.{Store}
use Rattle.wm_ast.specs.Types.{run_types}
use Rattle.wm_valid.specs.Height.{Low}
use Rattle.wm_flat.specs.Flat.{Activation, config_of}
use Rattle.wm_flat.specs.Flat as machine
use Rattle.wm_flat.specs.Program.{IsProgram}
use Rattle.wm_flat.specs.Runs.{Leads}
use Rattle.wm_flat.proofs.Consequences.{starting_open, stands_at}
use Rattle.cc_line.specs.Key.{PieceId, key_next, init_piece, id_tree}
use Rattle.cc_line.specs.Sight.{in_rest, Shows}
use Rattle.cc_line.proofs.SightLemmas.{key_selects}
use Rattle.cc_line.specs.Running.{NextPiece}
use Rattle.cc_line.specs.State.{State, seen}
use Rattle.cc_call.specs.Frames.{done_piece}
use Rattle.cc_cut.specs.Law.{widths}
use Rattle.cc_move.specs.Law.{at}
use Rattle.cc_sched.specs.Names.{is_end}
use Rattle.cc_simulate.specs.Frame.{stack_ints}
use Rattle.cc_simulate.specs.Stands.{rank_of}
use Rattle.pk_agree.specs.Job.{Job}
use Rattle.pk_agree.specs.Law.{LinkedPacksAreResumable}
use Rattle.pk_agree.specs.Linked.{Linked}
use Rattle.pk_agree.specs.Resume.{at_standing, at_entry, at_taker, Resumes, in_instantiation, in_configuration, Resumable}
use Rattle.pk_agree.proofs.Agreeing.{Running, Resting, layers, tells}
use Rattle.pk_agree.proofs.Answers.{some_back}
use Rattle.pk_agree.proofs.Boot.{booting_steps}
use Rattle.pk_agree.proofs.Leads.{IsOpen, some_same}
use Rattle.pk_agree.proofs.Pieces.{PiecesAreRight}
use Rattle.pk_agree.proofs.Programs.{end_told}
use Rattle.pk_agree.proofs.Schedules.{stands_after}
use Rattle.pk_agree.proofs.Stages.{Stage, boots, enters, takes, goes, ends, Called, start, wholes}
use Rattle.pk_agree.proofs.Standings.{standing_low}

next_is : (ns : Text) (w : World) (s : State) (i : PieceId) → Shows ns w (seen s)
    → s.keys in_rest key_next ≡ Some (id_tree i) → NextPiece w ns i
next_is ns w s i h e = key_selects ns w (seen s) in_rest key_next [] h ∙ some_back (s.keys in_rest key_next) ∙ e

module _ (m : Module) (p : IsProgram m) (low : Low m) (pack : Pack) (l : Linked m pack) (n : is_namespace pack.index.ns ≡ true) (d : PiecesAreRight) where
  -- a call that hasn't been entered
  unentered : (s : State) (j : Job) (c : Called m s j) → after m j.config 0 ≡ Next (call_config c.store c.func c.args)
  unentered s j c = ap (λ x. after m x 0) c.is_call ∙ starting_open m c.store c.func (reverse c.args)

  -- one that has come to an activation
  has_come : (s : State) (j : Job) (c : Called m s j) (n : ℕ) (now : Store) (cs : List Activation) (a : Activation)
      → Leads m n (start m c) (at now cs a) → after m j.config n ≡ Next (config_of now (machine.running cs a))
  has_come s j c n now cs a leads = ap (λ x. after m x n) c.is_call ∙ stands_at m n (start m c) now cs a leads

  resumes : (w : World) (s : State) (j : Job) (k : ℕ) → Shows pack.index.ns w (seen s) → j.credit ≤ k → IsOpen m pack s
      → Stage m s j k → Resumes m pack.index.ns w j
  resumes w s j k h e o (boots b) =
      let steps : (k ≤ j.offset + 26) × (4 ≤ j.offset) = booting_steps m p s j k b in
      in_instantiation k (next_is pack.index.ns w s (init_piece k) h b.next.named) (omega arith)
  resumes w s j k h e o (enters c st q z) =
      in_configuration 0 (call_config c.store c.func c.args) (unentered s j c) (at_entry c.store c.func c.function c.type c.args s h c.is_function q refl) (omega arith)
  resumes w s j k h e o (takes c st i q low_i z) =
      let f : wholes c.type ≤ 11 = d.takers_few m p c.func c.function c.type c.is_function in
      in_configuration 0 (call_config c.store c.func c.args) (unentered s j c)
      (at_taker c.store c.func c.function c.type c.args (widths (run_types c.function.locals)) i s h c.is_function (omega arith) q refl) (omega arith)
  resumes w s j k h e o (goes c i now cs a leads x st z) =
      let r : rank_of m x ≤ 14 = standing_low m cs a d.fetches_few p low s x in
      in_configuration i (config_of now (machine.running cs a)) (has_come s j c i now cs a leads)
      (at_standing now cs a s h x refl) (omega arith)
  resumes w s j k h e o (ends c i now a vs leads st f q z) =
      let id : PieceId = done_piece (length (stack_ints vs)) in
      let x : is_end o.id ≡ true = end_told o.id id (some_same (id_tree o.id) (id_tree id) (sym o.named ∙ q.named)) in
      let y : true ≡ false = sym x ∙ o.goes in
      absurd cc

  resumes_by : (w : World) (j : Job)
      → ((k : ℕ) × Running m p low pack l n d w j k × (j.credit ≤ k)) ⊎ (Resting m p low pack l n d w j × (j.ticked ≡ true))
      → answer pack.index.ns w ≡ Some running → Resumes m pack.index.ns w j
  resumes_by w j (inl a) e = resumes w a.1.state j a.0 a.1.shows a.2 a.1.opened a.1.stage
  resumes_by w j (inr a) e = absurd ((tells m p low pack l n d w j a.0).1 e)

  pub resumable : Resumable m pack
  resumable = record {
    always = λ events h.
        let r = stands_after m pack (Running m p low pack l n d) (Resting m p low pack l n d) (layers m p low pack l n d) events h in
        (r.0, r.1, resumes_by (play pack events).world r.0 r.2.stage);
  }

pub linked_resumable : PiecesAreRight → LinkedPacksAreResumable
linked_resumable d m pack p low l n = resumable m p low pack l n d
