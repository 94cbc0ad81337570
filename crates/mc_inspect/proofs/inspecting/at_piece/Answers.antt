use Rattle.std.proofs.Common.{subst, sym, ℕ, ◌≡◌}
use Rattle.std.specs.Bool.{MatchBool}
use Rattle.mc_world.specs.WorldView.{seen}
use Rattle.cc_line.specs.Key.{init_piece}
use Rattle.cc_line.specs.Running.{NextPiece}
use Rattle.cc_line.specs.View.{piece_view}
use Rattle.pk_sight.proofs.ShownLemmas.{told_none, told_some}
use Rattle.mc_inspect.proofs.Answering.{not_starting}
use Rattle.mc_inspect.proofs.inspecting.at_piece.Goals as goal

pub returns-then-is_init : goal.returns-then-is_init
returns-then-is_init c =
    let i = piece_view c.args.piece in
    let found = subst (λ b. MatchBool b ((j : ℕ) × (i ≡ init_piece j)) ((j : ℕ) → i ≡ init_piece j → ⊥)) c.if-is_init.true c.is_init.ensures in
    (c.requires.running, (found.0, subst (NextPiece (seen c.args.w.now) c.args.names.now.ns) found.1 c.requires.next))

pub returns-in-Some : goal.returns-in-Some
returns-in-Some c =
    let i = piece_view c.args.piece in
    let never = subst (λ b. MatchBool b ((j : ℕ) × (i ≡ init_piece j)) ((j : ℕ) → i ≡ init_piece j → ⊥)) c.if-is_init.false c.is_init.ensures in
    (c.requires.running, not_starting c.args.names.now.ns (seen c.args.w.now) i c.requires.told c.requires.next never, told_some _ _ _ _ c.in-Some.is c.in_ok-shown.ensures)

pub returns-in-None : goal.returns-in-None
returns-in-None c =
    let i = piece_view c.args.piece in
    let never = subst (λ b. MatchBool b ((j : ℕ) × (i ≡ init_piece j)) ((j : ℕ) → i ≡ init_piece j → ⊥)) c.if-is_init.false c.is_init.ensures in
    (c.requires.running, not_starting c.args.names.now.ns (seen c.args.w.now) i c.requires.told c.requires.next never, told_none _ _ _ c.in-None.is c.in_ok-shown.ensures, (i, c.requires.told, c.requires.next, sym c.number_of.ensures))
