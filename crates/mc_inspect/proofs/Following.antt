-- The piece that follows, as it was read.
use Rattle.std.proofs.Common.{◌≡◌, ℕ, Option, Some, None, sym, ap, subst, ◌∙◌}
use Rattle.wm_place.proofs.LevelLemmas.{some_of}
use Rattle.cc_line.specs.declared.leaf.PieceId as programs
use Rattle.cc_line.specs.declared.leaf.PieceId.TheVariants as ids
use Rattle.cc_line.specs.Key.{body_piece, id_tree}
use Rattle.cc_line.specs.State.{State}
use Rattle.cc_line.specs.View.{piece_view}
use Rattle.cc_entries.specs.Law.{NameTells}
use Rattle.cc_entries.proofs.Telling.{names_tell}
use Rattle.mc_inspect.specs.steps.Read.{Follows, FollowsIs}

body_is : (i : programs.PieceId) (f j : ℕ) → piece_view i ≡ body_piece f j → i ≡ ids.Body f j
body_is (ids.Body g k) f j e = cc
body_is (ids.Init k) f j e = absurd cc
body_is (ids.Shared k) f j e = absurd cc
body_is (ids.End w) f j e = absurd cc

-- a piece of a function that follows was read
pub follows_body : (o : Option programs.PieceId) (p : State) → Follows o p → (f j : ℕ) → NameTells (body_piece f j) → FollowsIs (body_piece f j) p
    → o ≡ Some (ids.Body f j)
follows_body None p h f j told is = absurd (h (body_piece f j) told is)
follows_body (Some i) p h f j told is =
    ap Some (body_is i f j (names_tell (piece_view i) (body_piece f j) h.0 told (some_of (id_tree (piece_view i)) (id_tree (body_piece f j)) (sym h.1 ∙ is))))

-- what was read follows
pub body_follows : (o : Option programs.PieceId) (p : State) → Follows o p → (f j : ℕ) → o ≡ Some (ids.Body f j)
    → NameTells (body_piece f j) × FollowsIs (body_piece f j) p
body_follows None p h f j e = absurd cc
body_follows (Some i) p h f j e = let same : i ≡ ids.Body f j = cc in subst (λ k. NameTells (piece_view k) × FollowsIs (piece_view k) p) same h

same_func : (f j g k : ℕ) → body_piece f j ≡ body_piece g k → (f ≡ g) × (j ≡ k)
same_func f j g k e = let a : f ≡ g = cc in let b : j ≡ k = cc in (a, b)

-- two names of pieces of functions under one key
pub same_body : (o : Option programs.PieceId) (p : State) → Follows o p → (f j g k : ℕ) → o ≡ Some (ids.Body f j) → NameTells (body_piece g k)
    → FollowsIs (body_piece g k) p → (g ≡ f) × (k ≡ j)
same_body o p h f j g k e told is =
    let (own, named) = body_follows o p h f j e in
    same_func g k f j (names_tell (body_piece g k) (body_piece f j) told own (some_of (id_tree (body_piece g k)) (id_tree (body_piece f j)) (sym is ∙ named)))
