-- What is run for a piece does what the piece's items do.
use Rattle.std.proofs.Common.{◌≡◌, ◌<◌, ◌≤◌, ◌+◌, true, refl, arith}
use Rattle.std.specs.Prelude.{codes}
use Rattle.mc_cmd.specs.Word.{is_function_name}
use Rattle.mc_cmd.proofs.FormLemmas.{and_both}
use Rattle.cc_line.specs.Key.{PieceId, body_piece, init_piece, shared_piece, end_piece}
use Rattle.cc_line.specs.State.{State}
use Rattle.cc_line.specs.Item.{Items, items_fit, items_most, ItemsReady, run_items}
use Rattle.cc_text.specs.Short.{items_short}
use Rattle.cc_sched.specs.Charge.{items_avoid_sched}
use Rattle.cc_sched.specs.Names.{first_end, PieceFits, routine_name}
use Rattle.cc_sched.specs.Pieces.{piece_of}
use Rattle.cc_sched.proofs.Dispatch.{both_names, digits_name, long_digits_name, name_fits, name_of, piece_fits}

pub piece_leads : (i : PieceId) (xs : Items) (s : State) → (run_items (piece_of i xs) s).state ≡ (run_items xs s).state
piece_leads (body_piece f j) xs s = refl
piece_leads (init_piece j) xs s = refl
piece_leads (shared_piece j) xs s = refl
piece_leads (end_piece w) xs s = refl

pub piece_ready : (i : PieceId) (xs : Items) (s : State) → ItemsReady xs s → ItemsReady (piece_of i xs) s
piece_ready (body_piece f j) xs s r = r
piece_ready (init_piece j) xs s r = (r, λ e. tt)
piece_ready (shared_piece j) xs s r = (r, λ e. tt)
piece_ready (end_piece w) xs s r = (r, λ e. tt)

pub piece_most : (i : PieceId) (xs : Items) → items_most (piece_of i xs) ≤ items_most xs + 1
piece_most (body_piece f j) xs = omega arith
piece_most (init_piece j) xs = omega arith
piece_most (shared_piece j) xs = omega arith
piece_most (end_piece w) xs = omega arith

pub piece_avoids : (i : PieceId) (xs : Items) → items_avoid_sched xs ≡ true → items_avoid_sched (piece_of i xs) ≡ true
piece_avoids (body_piece f j) xs a = a
piece_avoids (init_piece j) xs a = and_both _ _ a refl
piece_avoids (shared_piece j) xs a = and_both _ _ a refl
piece_avoids (end_piece w) xs a = and_both _ _ a refl

pub piece_short : (i : PieceId) (xs : Items) → items_short xs ≡ true → items_short (piece_of i xs) ≡ true
piece_short (body_piece f j) xs a = a
piece_short (init_piece j) xs a = and_both _ _ a refl
piece_short (shared_piece j) xs a = and_both _ _ a refl
piece_short (end_piece w) xs a = and_both _ _ a refl

pub routine_fits : (i : PieceId) → PieceFits i → is_function_name (routine_name i) ≡ true
routine_fits (body_piece f j) h = piece_fits (body_piece f j) h
routine_fits (init_piece j) h = name_fits _ _ 12 (both_names (name_of (codes "i") refl) (digits_name j h)) (omega arith)
routine_fits (shared_piece j) h = name_fits _ _ 12 (both_names (name_of (codes "s") refl) (digits_name j h)) (omega arith)
routine_fits (end_piece w) h = name_fits _ _ 12 (both_names (name_of (codes "s") refl) (long_digits_name (first_end + w) (let x : w < 2147483648 = h in omega arith))) (omega arith)

pub piece_items_fit : (i : PieceId) (xs : Items) → PieceFits i → items_fit xs ≡ true → items_fit (piece_of i xs) ≡ true
piece_items_fit (body_piece f j) xs h a = a
piece_items_fit (init_piece j) xs h a = and_both _ _ (and_both _ _ (routine_fits (init_piece j) h) a) refl
piece_items_fit (shared_piece j) xs h a = and_both _ _ (and_both _ _ (routine_fits (shared_piece j) h) a) refl
piece_items_fit (end_piece w) xs h a = and_both _ _ (and_both _ _ (routine_fits (end_piece w) h) a) refl
