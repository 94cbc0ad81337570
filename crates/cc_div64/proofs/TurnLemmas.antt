-- The lines of a turn do a turn, and eight of them eight.
use Rattle.std.proofs.Common.{◌≡◌, ℕ, zero, suc, ◌+◌, ◌-◌, ◌*◌, ◌/◌, ◌%◌, ◌<◌, Option, Some, Bool, true, false, ◌&&◌, refl, sym, ap, ap₂, ◌∙◌, subst, arith, ℤ, pos, negsuc, ◌+ℤ◌, int_lt, int_le, ⊎_elim, if◌then◌else◌, codes}
use Rattle.std.proofs.lemmas.Bool.{cases_lt, lt-leb, le-leb}
use Rattle.mc_cmd.specs.Command.{up_to, exactly, equal}
use Rattle.mc_cmd.specs.World.{wrapped, is_in, compares}
use Rattle.cc_line.specs.State.{State, with_score}
use Rattle.cc_line.specs.Item.{Items, no_more, first, call_when, steps_items}
use Rattle.cc_line.proofs.SettleLemmas.{settled, score_kept}
use Rattle.cc_line.proofs.Words.{flipped}
use Rattle.cc_div64.specs.Turn.{Turn}
use Rattle.cc_div64.specs.Division.{least, double, take_steps, chosen, turn, turn_calls}
use Rattle.cc_div64.specs.Law.{low_word, high_word, for_order}
use Rattle.cc_div64.proofs.Pairs.{pair}
use Rattle.cc_div64.proofs.Turning.{turned, turns}
use Rattle.cc_div64.proofs.TurnLines.{Scores, turn_lines, turn_lines_is, turn_scores, out, twice, one_at}
use Rattle.cc_div64.proofs.Passing.{Goes, goes_join, goes_steps, goes_when, goes_call}

-- a turn keeps the remainder below the divisor, and the dividend below 2^64
pub turned_below : (v : ℕ) (t : Turn) → t.dividend < 18446744073709551616 → t.remainder < v → ((turned v t).dividend < 18446744073709551616) × ((turned v t).remainder < v)
turned_below v t d r =
    ⊎_elim
    (λ l. subst {A = Turn} (λ x. (x.dividend < 18446744073709551616) × (x.remainder < v)) (ap (λ b. if b then record { dividend = 2 * (t.dividend % 9223372036854775808) + 1; remainder = 2 * t.remainder + t.dividend / 9223372036854775808 - v } else record { dividend = 2 * (t.dividend % 9223372036854775808); remainder = 2 * t.remainder + t.dividend / 9223372036854775808 }) (sym (lt-leb v (2 * t.remainder + t.dividend / 9223372036854775808) l))) (omega arith, l))
    (λ g. subst {A = Turn} (λ x. (x.dividend < 18446744073709551616) × (x.remainder < v)) (ap (λ b. if b then record { dividend = 2 * (t.dividend % 9223372036854775808) + 1; remainder = 2 * t.remainder + t.dividend / 9223372036854775808 - v } else record { dividend = 2 * (t.dividend % 9223372036854775808); remainder = 2 * t.remainder + t.dividend / 9223372036854775808 }) (sym (le-leb v (2 * t.remainder + t.dividend / 9223372036854775808) g))) (omega arith, omega arith))
    (cases_lt (2 * t.remainder + t.dividend / 9223372036854775808) v)

one_turn : (v : ℕ) (t : Turn) → v < 18446744073709551616 → t.dividend < 18446744073709551616 → t.remainder < v
    → turn_lines (low_word v) (high_word v) (turn_scores t) ≡ turn_scores (turned v t)
one_turn v t p d r =
    let vv : pair (v / 4294967296) (v % 4294967296) ≡ v = omega arith in
    let dd : pair (t.dividend / 4294967296) (t.dividend % 4294967296) ≡ t.dividend = omega arith in
    let rr : pair (t.remainder / 4294967296) (t.remainder % 4294967296) ≡ t.remainder = omega arith in
    let same : record { dividend = pair (t.dividend / 4294967296) (t.dividend % 4294967296); remainder = pair (t.remainder / 4294967296) (t.remainder % 4294967296) } ≡ t = λ i. record { dividend = dd i; remainder = rr i } in
    turn_lines_is (t.dividend % 4294967296) (t.dividend / 4294967296) (t.remainder % 4294967296) (t.remainder / 4294967296) (v % 4294967296) (v / 4294967296) (omega arith) (omega arith) (omega arith) (omega arith) (omega arith) (omega arith) (omega arith)
    ∙ ap₂ (λ w x. turn_scores (turned w x)) vv same

-- the scores of a turn, by the numbers that stand in them, and beside them how often and with which sign
pub record Held (bl bh : ℤ) (t : Scores) (g o : Option ℤ) (r : State) : Type 0 where
  pub dl : r.scores (codes "#d") ≡ Some t.dl
  pub dh : r.scores (codes "#e") ≡ Some t.dh
  pub rl : r.scores (codes "#p") ≡ Some t.rl
  pub rh : r.scores (codes "#r") ≡ Some t.rh
  pub bl' : r.scores (codes "#m") ≡ Some bl
  pub bh' : r.scores (codes "#n") ≡ Some bh
  pub bf : r.scores (codes "#u") ≡ Some (for_order bl)
  pub bg : r.scores (codes "#v") ≡ Some (for_order bh)
  pub mn : r.scores (codes "#k") ≡ Some least
  pub left : r.scores (codes "#g") ≡ g
  pub sign : r.scores (codes "#s") ≡ o

-- a state with these scores
abbrev pub with_held : State → ℤ → ℤ → Scores → State
with_held r bl bh t =
    with_score (with_score (with_score (with_score (with_score (with_score (with_score (with_score (with_score r (codes "#k") least) (codes "#v") (for_order bh)) (codes "#u") (for_order bl)) (codes "#n") bh) (codes "#m") bl) (codes "#r") t.rh) (codes "#p") t.rl) (codes "#e") t.dh) (codes "#d") t.dl

pub held_here : (bl bh : ℤ) (t : Scores) (g o : Option ℤ) (r : State) → Held bl bh t g o r → with_held r bl bh t ≡ r
held_here bl bh t g o r h =
    let r1 : State = with_score r (codes "#k") least in
    let r2 : State = with_score r1 (codes "#v") (for_order bh) in
    let r3 : State = with_score r2 (codes "#u") (for_order bl) in
    let r4 : State = with_score r3 (codes "#n") bh in
    let r5 : State = with_score r4 (codes "#m") bl in
    let r6 : State = with_score r5 (codes "#r") t.rh in
    let r7 : State = with_score r6 (codes "#p") t.rl in
    let r8 : State = with_score r7 (codes "#e") t.dh in
    score_kept r8 (codes "#d") t.dl h.dl ∙ score_kept r7 (codes "#e") t.dh h.dh ∙ score_kept r6 (codes "#p") t.rl h.rl ∙ score_kept r5 (codes "#r") t.rh h.rh ∙ score_kept r4 (codes "#m") bl h.bl' ∙ score_kept r3 (codes "#n") bh h.bh'
    ∙ score_kept r2 (codes "#u") (for_order bl) h.bf ∙ score_kept r1 (codes "#v") (for_order bh) h.bg ∙ score_kept r (codes "#k") least h.mn

-- whether the lines take the divisor
abbrev takes : ℤ → ℤ → Scores → Bool
takes bl bh t =
    let g1 : ℤ = one_at (int_lt (flipped bh) (flipped (twice t.rh t.rl))) (one_at (is_in (up_to (negsuc 0)) t.rh) (pos 0)) in
    is_in (exactly (pos 1)) (one_at (compares equal (flipped (twice t.rh t.rl)) (flipped bh) && int_le (flipped bl) (flipped (twice t.rl t.dh))) g1)

abbrev outs : ℤ → ℤ → Scores → Bool → Scores
outs bl bh t c = out bl bh (twice t.rh t.rl) (twice t.rl t.dh) (twice t.dh t.dl) (wrapped (t.dl +ℤ t.dl)) c (int_lt (flipped (twice t.rl t.dh)) (flipped bl))

taken_held : (r : State) (bl bh : ℤ) (t : Scores) → Held bl bh (outs bl bh t true) (r.scores (codes "#g")) (r.scores (codes "#s")) (settled take_steps (settled double (with_held r bl bh t)))
taken_held r bl bh t = record { dl = refl; dh = refl; rl = refl; rh = refl; bl' = refl; bh' = refl; bf = refl; bg = refl; mn = refl; left = refl; sign = refl }

kept_held : (r : State) (bl bh : ℤ) (t : Scores) → Held bl bh (outs bl bh t false) (r.scores (codes "#g")) (r.scores (codes "#s")) (settled double (with_held r bl bh t))
kept_held r bl bh t = record { dl = refl; dh = refl; rl = refl; rh = refl; bl' = refl; bh' = refl; bf = refl; bg = refl; mn = refl; left = refl; sign = refl }

-- what a turn's lines leave
turn_from : (r : State) (bl bh : ℤ) (t : Scores) → Goes turn (with_held r bl bh t) (Held bl bh (turn_lines bl bh t) (r.scores (codes "#g")) (r.scores (codes "#s")))
turn_from r bl bh t =
    let s : State = with_held r bl bh t in
    let u : State = settled double s in
    let P : (State → Type 0) = Held bl bh (turn_lines bl bh t) (r.scores (codes "#g")) (r.scores (codes "#s")) in
    goes_join (steps_items double) (first (call_when chosen (codes "h_cc_div_take") (steps_items take_steps)) no_more) s (λ x. x ≡ u) P (goes_steps double s (λ x. x ≡ u) refl refl refl refl)
    (λ x e. subst (λ x. Goes (first (call_when chosen (codes "h_cc_div_take") (steps_items take_steps)) no_more) x P) (sym e)
    (goes_when chosen (codes "h_cc_div_take") (steps_items take_steps) u P (takes bl bh t) (tt, tt) refl
    (λ c. goes_steps take_steps u P refl refl refl (subst (λ b. Held bl bh (outs bl bh t b) (r.scores (codes "#g")) (r.scores (codes "#s")) (settled take_steps u)) (sym c) (taken_held r bl bh t)))
    (λ c. subst (λ b. Held bl bh (outs bl bh t b) (r.scores (codes "#g")) (r.scores (codes "#s")) u) (sym c) (kept_held r bl bh t))))

pub turn_goes : (s : State) (bl bh : ℤ) (t : Scores) (g o : Option ℤ) → Held bl bh t g o s → Goes turn s (Held bl bh (turn_lines bl bh t) g o)
turn_goes s bl bh t g o h =
    subst (λ x. Goes turn x (Held bl bh (turn_lines bl bh t) g o)) (held_here bl bh t g o s h)
    (subst (λ p. Goes turn (with_held s bl bh t) (Held bl bh (turn_lines bl bh t) p o)) h.left
    (subst (λ q. Goes turn (with_held s bl bh t) (Held bl bh (turn_lines bl bh t) (s.scores (codes "#g")) q)) h.sign
    (turn_from s bl bh t)))

-- so many turns, and what follows
pub calls_go : (k v : ℕ) (t : Turn) (g o : Option ℤ) (s : State) (ys : Items) (Q : State → Type 0) → v < 18446744073709551616 → t.dividend < 18446744073709551616 → t.remainder < v → Held (low_word v) (high_word v) (turn_scores t) g o s
    → ((u : State) → Held (low_word v) (high_word v) (turn_scores (turns k v t)) g o u → Goes ys u Q) → Goes (turn_calls k ys) s Q
calls_go zero v t g o s ys Q p d r h f = f s h
calls_go (suc k) v t g o s ys Q p d r h f =
    let b : ((turned v t).dividend < 18446744073709551616) × ((turned v t).remainder < v) = turned_below v t d r in
    goes_call (codes "h_cc_div_turn") turn (turn_calls k ys) s (Held (low_word v) (high_word v) (turn_scores (turned v t)) g o) Q
    (subst (λ x. Goes turn s (Held (low_word v) (high_word v) x g o)) (one_turn v t p d r) (turn_goes s (low_word v) (high_word v) (turn_scores t) g o h))
    (λ u e. calls_go k v (turned v t) g o u ys Q p b.0 b.1 e f)
