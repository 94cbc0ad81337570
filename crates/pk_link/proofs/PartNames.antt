-- The pieces of a module come in an order that their names tell, so that no two have one name.
use Rattle.std.proofs.Common.{◌≡◌, ◌∙◌, ap, refl, ◌⊎◌, inl, inr, ℕ, zero, suc, ◌+◌, ◌-◌, ◌*◌, ◌<◌, ◌≤◌, List, [], ◌∷◌, ◌++◌, length, map, Option, Some, None, arith}
use Rattle.std.specs.Prelude.{if◌then◌else◌, nat_lt, slice_get}
use Rattle.std.proofs.lemmas.Bool.{le-ltb, lt-ltb}
use Rattle.mc_cmd.specs.Form.{Text}
use Rattle.wm_ast.specs.declared.module.Func.{Func}
use Rattle.wm_ast.specs.declared.module.FuncType.{FuncType}
use Rattle.wm_ast.specs.declared.module.Limits.{Limits}
use Rattle.wm_ast.specs.declared.module.Module.{Module}
use Rattle.wm_ast.specs.declared.operator.BinaryOp.{BinaryOp}
use Rattle.wm_ast.specs.Types.{function_type}
use Rattle.wm_ast.specs.declared.limit.TheConstants.{PAGES}
use Rattle.wm_valid.specs.Height.{Low}
use Rattle.wm_flat.specs.Program.{IsProgram}
use Rattle.cc_line.specs.Key.{body_piece, end_piece, init_piece, PieceId, shared_piece}
use Rattle.cc_cut.specs.Law.{widths}
use Rattle.cc_cut.specs.Piece.{function_pieces, Piece}
use Rattle.cc_sched.specs.Names.{piece_name, PieceFits}
use Rattle.cc_call.specs.Frames.{done_piece, first_opening, opening_piece}
use Rattle.cc_body.specs.Behind.{call_before}
use Rattle.cc_pieces.specs.Restoring.{first_restore, restore_piece}
use Rattle.cc_body.specs.Behind.{division_before}
use Rattle.cc_pieces.specs.Dividing.{turning_piece, answering_piece}
use Rattle.cc_pieces.specs.Entry.{taker, taker_items}
use Rattle.cc_pieces.specs.Fetching.{fetch_piece, fetches, first_fetch}
use Rattle.cc_body.specs.Pieces.{cut_items, fetch_items}
use Rattle.cc_body.specs.Parts.{cut_parts, division_parts, fetch_parts, function_parts, most_takers_of, module_parts, parts_by, parts_of_type, restore_parts, shared_parts}
use Rattle.cc_pieces.specs.Parts.{done_parts, Part, part, placer_parts, taker_parts, grower_parts}
use Rattle.cc_pieces.specs.Growing.{grower_piece}
use Rattle.cc_pieces.specs.Placing.{first_placer, first_pair_placer, placer, placer_items}
use Rattle.cc_body.specs.Placers.{most_placers_of}
use Rattle.cc_body.proofs.Arguments.{fetches_few}
use Rattle.cc_init.specs.Init.{later_pieces, init_items, init_parts}
use Rattle.pk_link.specs.Functions.{piece_function}
use Rattle.pk_agree.specs.Heaviest.{pack_parts}
use Rattle.pk_link.proofs.Counts.{by_test, FollowIn, first_in, others_in, all_in, functions_are_few, later_pieces_few, pieces_few, placers_are_few, takers_are_few}
use Rattle.cc_text.proofs.OnceLemmas.{Distinct, NoneNamed}
use Rattle.pk_link.proofs.Distinct.{differ}
use Rattle.pk_link.proofs.PieceNames.{piece_name_same}
use Rattle.pk_link.proofs.SchedNames.{AllSorted, sort}

-- ---- the order

-- A piece belongs to the function of the number before this one. Those of instantiation come before all, and the shared
-- ones that are no function's come behind them: first those that take arguments, and behind these the ends of jobs.
abbrev owner : PieceId → ℕ
owner (init_piece j) = 0
owner (body_piece f a) = suc f
owner (shared_piece j) = if nat_lt j first_opening then 9000 else suc (j - first_opening)
owner (end_piece w) = 9000

-- where it comes among those of its owner: a piece that restores a frame before the eight that fetch arguments, at most,
-- and all of these before that of their cut
abbrev turn : PieceId → ℕ
turn (init_piece j) = j
turn (body_piece f a) = if nat_lt a first_restore then 32 * a + 30 else (if nat_lt a first_fetch then 32 * (a - first_restore) else 4 * (a - first_fetch) + 1)
turn (shared_piece j) = if nat_lt j first_opening then j else 31
turn (end_piece w) = first_opening + w

turn_cut : (n a : ℕ) → a < first_restore → turn (body_piece n a) ≡ 32 * a + 30
turn_cut n a h = ap (λ b. if b then 32 * a + 30 else (if nat_lt a first_fetch then 32 * (a - first_restore) else 4 * (a - first_fetch) + 1)) (lt-ltb a first_restore h)

turn_restore : (n a : ℕ) → a < first_restore → turn (restore_piece n a) ≡ 32 * a
turn_restore n a h =
    let x : ℕ = first_restore + a in
    ap (λ b. if b then 32 * x + 30 else (if nat_lt x first_fetch then 32 * (x - first_restore) else 4 * (x - first_fetch) + 1)) (le-ltb x first_restore (omega arith))
    ∙ ap (λ b. if b then 32 * (x - first_restore) else 4 * (x - first_fetch) + 1) (lt-ltb x first_fetch (omega arith))
    ∙ (let e : 32 * (first_restore + a - first_restore) ≡ 32 * a = omega arith in e)

turn_fetch : (n index k : ℕ) → turn (fetch_piece n index k) ≡ 32 * index + (4 * k + 1)
turn_fetch n index k =
    let x : ℕ = first_fetch + (8 * index + k) in
    ap (λ b. if b then 32 * x + 30 else (if nat_lt x first_fetch then 32 * (x - first_restore) else 4 * (x - first_fetch) + 1)) (le-ltb x first_restore (omega arith))
    ∙ ap (λ b. if b then 32 * (x - first_restore) else 4 * (x - first_fetch) + 1) (le-ltb x first_fetch (omega arith))
    ∙ (let e : 4 * (first_fetch + (8 * index + k) - first_fetch) + 1 ≡ 32 * index + (4 * k + 1) = omega arith in e)

owner_opening : (n : ℕ) → owner (opening_piece n) ≡ suc n
owner_opening n =
    ap (λ b. if b then 9000 else suc (first_opening + n - first_opening)) (le-ltb (first_opening + n) first_opening (omega arith))
    ∙ (let e : suc (first_opening + n - first_opening) ≡ suc n = omega arith in e)

turn_opening : (n : ℕ) → turn (opening_piece n) ≡ 31
turn_opening n = ap (λ b. if b then first_opening + n else 31) (le-ltb (first_opening + n) first_opening (omega arith))

owner_shared : (j : ℕ) → j < first_opening → owner (shared_piece j) ≡ 9000
owner_shared j h = ap (λ b. if b then 9000 else suc (j - first_opening)) (lt-ltb j first_opening h)

turn_shared : (j : ℕ) → j < first_opening → turn (shared_piece j) ≡ j
turn_shared j h = ap (λ b. if b then j else 31) (lt-ltb j first_opening h)

-- those that put a value of one int to its place, and of two
owner_one : (i : ℕ) → owner (placer 1 i) ≡ 9985 + i
owner_one i =
    ap (λ b. if b then 9000 else suc (first_placer + i - first_opening)) (le-ltb (first_placer + i) first_opening (omega arith))
    ∙ (let e : suc (first_placer + i - first_opening) ≡ 9985 + i = omega arith in e)

owner_pair : (i : ℕ) → owner (placer 2 i) ≡ 14985 + i
owner_pair i =
    ap (λ b. if b then 9000 else suc (first_pair_placer + i - first_opening)) (le-ltb (first_pair_placer + i) first_opening (omega arith))
    ∙ (let e : suc (first_pair_placer + i - first_opening) ≡ 14985 + i = omega arith in e)

abbrev IsAbove : PieceId → PieceId → Type 0
IsAbove i j = (owner i < owner j) ⊎ ((owner i ≡ owner j) × (turn i < turn j))

above_other : (i j : PieceId) → IsAbove i j → i ≡ j → ⊥
above_other i j (inl l) e = let x : owner i ≡ owner j = ap owner e in omega arith
above_other i j (inr p) e = let x : turn i ≡ turn j = ap turn e in let l : turn i < turn j = p.1 in omega arith

abbrev AllAbove : PieceId → List Part → Type 0
AllAbove i [] = Unit {0}
AllAbove i (p ∷ ps) = IsAbove i p.id × AllAbove i ps

abbrev Rising : List Part → Type 0
Rising [] = Unit {0}
Rising (p ∷ ps) = AllAbove p.id ps × Rising ps

abbrev Lower : List Part → List Part → Type 0
Lower [] qs = Unit {0}
Lower (p ∷ ps) qs = AllAbove p.id qs × Lower ps qs

all_both : (i : PieceId) (ps qs : List Part) → AllAbove i ps → AllAbove i qs → AllAbove i (ps ++ qs)
all_both i [] qs a b = b
all_both i (p ∷ ps) qs a b = (a.0, all_both i ps qs a.1 b)

rising_both : (ps qs : List Part) → Rising ps → Rising qs → Lower ps qs → Rising (ps ++ qs)
rising_both [] qs a b c = b
rising_both (p ∷ ps) qs a b c = (all_both p.id ps qs a.0 c.0, rising_both ps qs a.1 b c.1)

lower_both : (ps qs rs : List Part) → Lower ps rs → Lower qs rs → Lower (ps ++ qs) rs
lower_both [] qs rs a b = b
lower_both (p ∷ ps) qs rs a b = (a.0, lower_both ps qs rs a.1 b)

-- ---- of functions

-- the piece comes before all of the function n whose turn isn't before this one
abbrev Precedes : PieceId → ℕ → ℕ → Type 0
Precedes i n least = (j : PieceId) → owner j ≡ suc n → least ≤ turn j → IsAbove i j

-- as one of the function does whose turn is before
earlier : (i : PieceId) (n least : ℕ) → owner i ≡ suc n → turn i < least → Precedes i n least
earlier i n least o l j e h = inr ((let x : owner i ≡ owner j = omega arith in x), (let y : turn i < turn j = omega arith in y))

-- and one of a function before it
of_earlier : (i : PieceId) (n : ℕ) → owner i < suc n → Precedes i n 0
of_earlier i n l j e h = inl (let x : owner i < owner j = omega arith in x)

-- how many pieces fetch the arguments of a call of this type, if there is one
abbrev fetches_of : Option FuncType → ℕ
fetches_of None = 0
fetches_of (Some t) = fetches (widths t.params)

-- and one that makes turns of a division, where there is no call
abbrev pieces_of : Option FuncType → ℕ
pieces_of None = 1
pieces_of (Some t) = fetches (widths t.params)

few_of : (o : Option FuncType) → fetches_of o ≤ 8 → pieces_of o ≤ 8
few_of None h = omega arith
few_of (Some t) h = h

module _ (m : Module) where
  fetches_after : (i : PieceId) (n index least : ℕ) (p : Piece) (t : FuncType) (k : ℕ) → least ≤ 32 * index → Precedes i n least → AllAbove i (fetch_parts m n index p t k)
  fetches_after i n index least p t zero h f = tt
  fetches_after i n index least p t (suc k) h f =
      let e : turn (fetch_piece n index k) ≡ 32 * index + (4 * k + 1) = turn_fetch n index k in
      all_both i (fetch_parts m n index p t k) (part (fetch_piece n index k) (fetch_items m n index k p t) ∷ []) (fetches_after i n index least p t k h f) (f (fetch_piece n index k) refl (omega arith), tt)

  fetches_lower : (n index : ℕ) (p : Piece) (t : FuncType) (k : ℕ) (qs : List Part) → ((j : ℕ) → j < k → AllAbove (fetch_piece n index j) qs) → Lower (fetch_parts m n index p t k) qs
  fetches_lower n index p t zero qs g = tt
  fetches_lower n index p t (suc k) qs g =
      lower_both (fetch_parts m n index p t k) (part (fetch_piece n index k) (fetch_items m n index k p t) ∷ []) qs (fetches_lower n index p t k qs (λ j l. g j (omega arith))) (g k (omega arith), tt)

  fetches_rising : (n index : ℕ) (p : Piece) (t : FuncType) (k : ℕ) → Rising (fetch_parts m n index p t k)
  fetches_rising n index p t zero = tt
  fetches_rising n index p t (suc k) =
      let e : turn (fetch_piece n index k) ≡ 32 * index + (4 * k + 1) = turn_fetch n index k in
      rising_both (fetch_parts m n index p t k) (part (fetch_piece n index k) (fetch_items m n index k p t) ∷ []) (fetches_rising n index p t k) (tt, tt)
      (fetches_lower n index p t k (part (fetch_piece n index k) (fetch_items m n index k p t) ∷ [])
      (λ j h.
      let d : turn (fetch_piece n index j) ≡ 32 * index + (4 * j + 1) = turn_fetch n index j in
      (inr (refl, (let x : turn (fetch_piece n index j) < turn (fetch_piece n index k) = omega arith in x)), tt)))

  division_after : (i : PieceId) (n index least : ℕ) (p : Piece) (d : Option BinaryOp) → index < first_restore → least ≤ 32 * index → Precedes i n least → AllAbove i (division_parts m n index p d)
  division_after i n index least p None b h f = tt
  division_after i n index least p (Some op) b h f =
      let e : turn (restore_piece n index) ≡ 32 * index = turn_restore n index b in
      let g : turn (fetch_piece n index 0) ≡ 32 * index + (4 * 0 + 1) = turn_fetch n index 0 in
      (f (answering_piece n index) refl (omega arith), (f (turning_piece n index) refl (omega arith), tt))

  restore_after : (i : PieceId) (n index least : ℕ) (p : Piece) (o : Option FuncType) → index < first_restore → least ≤ 32 * index → Precedes i n least → AllAbove i (restore_parts m n index p o)
  restore_after i n index least p None b h f = division_after i n index least p (division_before p.cut) b h f
  restore_after i n index least p (Some t) b h f =
      let e : turn (restore_piece n index) ≡ 32 * index = turn_restore n index b in
      (f (restore_piece n index) refl (omega arith), fetches_after i n index least p t (fetches (widths t.params)) h f)

  cuts_after : (i : PieceId) (n index least : ℕ) (ps : List Piece) → index + length ps ≤ first_restore → least ≤ 32 * index → Precedes i n least → AllAbove i (cut_parts m n index ps)
  cuts_after i n index least [] l h f = tt
  cuts_after i n index least (p ∷ ps) l h f =
      all_both i (restore_parts m n index p (call_before m p.cut)) (part (body_piece n index) (cut_items m n p) ∷ cut_parts m n (suc index) ps)
      (restore_after i n index least p (call_before m p.cut) (omega arith) h f) (
        f (body_piece n index) refl (let e : turn (body_piece n index) ≡ 32 * index + 30 = turn_cut n index (omega arith) in omega arith),
        cuts_after i n (suc index) least ps (omega arith) (omega arith) f,
      )

  restore_rising : (n index : ℕ) (p : Piece) (o : Option FuncType) → index < first_restore → Rising (restore_parts m n index p o)
  restore_rising n index p None b = by (division_before p.cut)
    where
      by : (d : Option BinaryOp) → Rising (division_parts m n index p d)
      by None = tt
      by (Some op) =
          let e : turn (restore_piece n index) ≡ 32 * index = turn_restore n index b in
          let g : turn (fetch_piece n index 0) ≡ 32 * index + (4 * 0 + 1) = turn_fetch n index 0 in
          ((inr (refl, (let x : turn (answering_piece n index) < turn (turning_piece n index) = omega arith in x)), tt), (tt, tt))
  restore_rising n index p (Some t) b =
      (each (fetches (widths t.params)), fetches_rising n index p t (fetches (widths t.params)))
    where
      each : (k : ℕ) → AllAbove (restore_piece n index) (fetch_parts m n index p t k)
      each zero = tt
      each (suc k) =
          let e : turn (restore_piece n index) ≡ 32 * index = turn_restore n index b in
          let d : turn (fetch_piece n index k) ≡ 32 * index + (4 * k + 1) = turn_fetch n index k in
          all_both (restore_piece n index) (fetch_parts m n index p t k) (part (fetch_piece n index k) (fetch_items m n index k p t) ∷ []) (each k)
          (inr (refl, (let x : turn (restore_piece n index) < turn (fetch_piece n index k) = omega arith in x)), tt)

  restore_lower : (n index : ℕ) (p : Piece) (o : Option FuncType) (qs : List Part) → AllAbove (restore_piece n index) qs → ((j : ℕ) → j < pieces_of o → AllAbove (fetch_piece n index j) qs) → Lower (restore_parts m n index p o) qs
  restore_lower n index p None qs a g = by (division_before p.cut)
    where
      by : (d : Option BinaryOp) → Lower (division_parts m n index p d) qs
      by None = tt
      by (Some op) = (a, (g 0 (omega arith), tt))
  restore_lower n index p (Some t) qs a g = (a, fetches_lower n index p t (fetches (widths t.params)) qs g)

  -- no call before one of these pieces has more of them than are counted for it
  abbrev Fetched : List Piece → Type 0
  Fetched [] = Unit {0}
  Fetched (p ∷ ps) = (fetches_of (call_before m p.cut) ≤ 8) × Fetched ps

  cuts_rising : (n index : ℕ) (ps : List Piece) → Fetched ps → index + length ps ≤ first_restore → Rising (cut_parts m n index ps)
  cuts_rising n index [] fetched l = tt
  cuts_rising n index (p ∷ ps) fetched l =
      let c : turn (body_piece n index) ≡ 32 * index + 30 = turn_cut n index (omega arith) in
      let r : turn (restore_piece n index) ≡ 32 * index = turn_restore n index (omega arith) in
      let most : pieces_of (call_before m p.cut) ≤ 8 = few_of (call_before m p.cut) fetched.0 in
      let rest : List Part = cut_parts m n (suc index) ps in
      let others : List Part = part (body_piece n index) (cut_items m n p) ∷ rest in
      let after : AllAbove (body_piece n index) rest = cuts_after (body_piece n index) n (suc index) (32 * index + 32) ps (omega arith) (omega arith) (earlier (body_piece n index) n (32 * index + 32) refl (omega arith)) in
      let before : (i : PieceId) → owner i ≡ suc n → turn i < 32 * index + 30 → AllAbove i others = λ i o h.
      let g : Precedes i n (32 * index + 30) = earlier i n (32 * index + 30) o h in
      (g (body_piece n index) refl (omega arith), cuts_after i n (suc index) (32 * index + 30) ps (omega arith) (omega arith) g) in
      rising_both (restore_parts m n index p (call_before m p.cut)) others (restore_rising n index p (call_before m p.cut) (omega arith)) (after, cuts_rising n (suc index) ps fetched.1 (omega arith))
      (restore_lower n index p (call_before m p.cut) others (before (restore_piece n index) refl (omega arith))
      (λ j h. let d : turn (fetch_piece n index j) ≡ 32 * index + (4 * j + 1) = turn_fetch n index j in before (fetch_piece n index j) refl (omega arith)))

  cuts_lower : (n index : ℕ) (ps : List Piece) (qs : List Part) → ((i : PieceId) → owner i ≡ suc n → AllAbove i qs) → Lower (cut_parts m n index ps) qs
  cuts_lower n index [] qs f = tt
  cuts_lower n index (p ∷ ps) qs f =
      lower_both (restore_parts m n index p (call_before m p.cut)) (part (body_piece n index) (cut_items m n p) ∷ cut_parts m n (suc index) ps) qs
      (restore_lower n index p (call_before m p.cut) qs (f (restore_piece n index) refl) (λ j h. f (fetch_piece n index j) refl)) (f (body_piece n index) refl, cuts_lower n (suc index) ps qs f)

  -- there are fewer pieces of a function than the indices of those that restore frames count from
  abbrev Few : ℕ → Type 0
  Few n = 1 + length (function_pieces m n) ≤ first_restore

  type_after : (i : PieceId) (n : ℕ) (f : Func) (o : Option FuncType) → Few n → Precedes i n 0 → AllAbove i (parts_of_type m n f o)
  type_after i n f None l g = tt
  type_after i n f (Some t) l g = (g (body_piece n 0) refl (omega arith), (g (opening_piece n) (owner_opening n) (omega arith), cuts_after i n 1 0 (function_pieces m n) l (omega arith) g))

  type_rising : (n : ℕ) (f : Func) (o : Option FuncType) → Fetched (function_pieces m n) → Few n → Rising (parts_of_type m n f o)
  type_rising n f None fetched l = tt
  type_rising n f (Some t) fetched l =
      let e : turn (opening_piece n) ≡ 31 = turn_opening n in
      let one : Precedes (body_piece n 0) n 31 = earlier (body_piece n 0) n 31 refl (omega arith) in
      let two : Precedes (opening_piece n) n 32 = earlier (opening_piece n) n 32 (owner_opening n) (omega arith) in (
        (one (opening_piece n) (owner_opening n) (omega arith), cuts_after (body_piece n 0) n 1 31 (function_pieces m n) l (omega arith) one),
        (cuts_after (opening_piece n) n 1 32 (function_pieces m n) l (omega arith) two, cuts_rising n 1 (function_pieces m n) fetched l),
      )

  type_lower : (n : ℕ) (f : Func) (o : Option FuncType) (qs : List Part) → ((i : PieceId) → owner i ≡ suc n → AllAbove i qs) → Lower (parts_of_type m n f o) qs
  type_lower n f None qs g = tt
  type_lower n f (Some t) qs g = (g (body_piece n 0) refl, (g (opening_piece n) (owner_opening n), cuts_lower n 1 (function_pieces m n) qs g))

  module _ (fetched : (n : ℕ) → Fetched (function_pieces m n)) (few : (n : ℕ) → Few n) where
    parts_after : (i : PieceId) (n : ℕ) (fs : List Func) → owner i < suc n → AllAbove i (parts_by m n fs)
    parts_after i n [] l = tt
    parts_after i n (f ∷ fs) l =
        all_both i (function_parts m n f) (parts_by m (suc n) fs) (type_after i n f (function_type m f) (few n) (of_earlier i n l)) (parts_after i (suc n) fs (omega arith))

    parts_rising : (n : ℕ) (fs : List Func) → Rising (parts_by m n fs)
    parts_rising n [] = tt
    parts_rising n (f ∷ fs) =
        rising_both (function_parts m n f) (parts_by m (suc n) fs) (type_rising n f (function_type m f) (fetched n) (few n)) (parts_rising (suc n) fs)
        (type_lower n f (function_type m f) (parts_by m (suc n) fs) (λ i o. parts_after i (suc n) fs (omega arith)))

    parts_lower : (n : ℕ) (fs : List Func) (qs : List Part) → n + length fs < 9000 → ((i : PieceId) → owner i < 9000 → AllAbove i qs) → Lower (parts_by m n fs) qs
    parts_lower n [] qs l g = tt
    parts_lower n (f ∷ fs) qs l g = lower_both (function_parts m n f) (parts_by m (suc n) fs) qs (type_lower n f (function_type m f) qs (λ i o. g i (omega arith))) (parts_lower (suc n) fs qs (omega arith) g)

-- ---- of arguments and of the job's end

-- the piece comes before the shared ones from this one on that are no function's
abbrev Starts : PieceId → ℕ → Type 0
Starts i least = (j : ℕ) → least ≤ j → j < first_opening → IsAbove i (shared_piece j)

-- as one of a function does, and one of them that stands before
of_function : (i : PieceId) (least : ℕ) → owner i < 9000 → Starts i least
of_function i least l j h k = inl (let e : owner (shared_piece j) ≡ 9000 = owner_shared j k in let x : owner i < owner (shared_piece j) = omega arith in x)

of_shared : (k least : ℕ) → k < least → k < first_opening → Starts (shared_piece k) least
of_shared k least l b j h c =
    let o : owner (shared_piece j) ≡ 9000 = owner_shared j c in
    let p : owner (shared_piece k) ≡ 9000 = owner_shared k b in
    let t : turn (shared_piece j) ≡ j = turn_shared j c in
    let u : turn (shared_piece k) ≡ k = turn_shared k b in
    inr ((let x : owner (shared_piece k) ≡ owner (shared_piece j) = omega arith in x), (let y : turn (shared_piece k) < turn (shared_piece j) = omega arith in y))

takers_after : (i : PieceId) (k : ℕ) → k ≤ 1000 → Starts i 0 → AllAbove i (taker_parts k)
takers_after i zero l g = tt
takers_after i (suc k) l g = all_both i (taker_parts k) (part (taker k) (taker_items k) ∷ []) (takers_after i k (omega arith) g) (g (5000 + k) (omega arith) (omega arith), tt)

takers_lower : (k : ℕ) (qs : List Part) → ((j : ℕ) → j < k → AllAbove (taker j) qs) → Lower (taker_parts k) qs
takers_lower zero qs g = tt
takers_lower (suc k) qs g = lower_both (taker_parts k) (part (taker k) (taker_items k) ∷ []) qs (takers_lower k qs (λ j l. g j (omega arith))) (g k (omega arith), tt)

takers_rising : (k : ℕ) → k ≤ 1000 → Rising (taker_parts k)
takers_rising zero l = tt
takers_rising (suc k) l =
    rising_both (taker_parts k) (part (taker k) (taker_items k) ∷ []) (takers_rising k (omega arith)) (tt, tt)
    (takers_lower k (part (taker k) (taker_items k) ∷ []) (λ j h. (of_shared (5000 + j) (5000 + k) (omega arith) (omega arith) (5000 + k) (omega arith) (omega arith), tt)))

-- the piece comes before those that end jobs
abbrev BeforeEnds : PieceId → Type 0
BeforeEnds i = (w : ℕ) → IsAbove i (end_piece w)

-- as one of a function does, and one of the others
function_ends : (i : PieceId) → owner i < 9000 → BeforeEnds i
function_ends i l w = inl l

shared_ends : (k : ℕ) → k < first_opening → BeforeEnds (shared_piece k)
shared_ends k b w =
    let p : owner (shared_piece k) ≡ 9000 = owner_shared k b in
    let u : turn (shared_piece k) ≡ k = turn_shared k b in
    inr (p, (let y : turn (shared_piece k) < first_opening + w = omega arith in y))

dones_after : (i : PieceId) → BeforeEnds i → AllAbove i done_parts
dones_after i g = (g 0, (g 1, (g 2, tt)))

-- ---- of values on their way

-- the piece comes before them
placers_after : (i : PieceId) (ints k : ℕ) → ((j : ℕ) → j < k → owner i < owner (placer ints j)) → AllAbove i (placer_parts ints k)
placers_after i ints zero h = tt
placers_after i ints (suc k) h = all_both i (placer_parts ints k) (part (placer ints k) (placer_items ints k) ∷ []) (placers_after i ints k (λ j l. h j (omega arith))) (inl (h k (omega arith)), tt)

ones_after : (i : PieceId) (k : ℕ) → owner i ≤ 9000 → AllAbove i (placer_parts 1 k)
ones_after i k h = placers_after i 1 k (λ j l. let e : owner (placer 1 j) ≡ 9985 + j = owner_one j in let x : owner i < owner (placer 1 j) = omega arith in x)

pairs_after : (i : PieceId) (k : ℕ) → owner i < 14985 → AllAbove i (placer_parts 2 k)
pairs_after i k h = placers_after i 2 k (λ j l. let e : owner (placer 2 j) ≡ 14985 + j = owner_pair j in let x : owner i < owner (placer 2 j) = omega arith in x)

placers_lower : (ints k : ℕ) (qs : List Part) → ((j : ℕ) → j < k → AllAbove (placer ints j) qs) → Lower (placer_parts ints k) qs
placers_lower ints zero qs g = tt
placers_lower ints (suc k) qs g =
    lower_both (placer_parts ints k) (part (placer ints k) (placer_items ints k) ∷ []) qs (placers_lower ints k qs (λ j l. g j (omega arith))) (g k (omega arith), tt)

placers_rising : (ints k : ℕ) → ((i j : ℕ) → i < j → owner (placer ints i) < owner (placer ints j)) → Rising (placer_parts ints k)
placers_rising ints zero h = tt
placers_rising ints (suc k) h =
    rising_both (placer_parts ints k) (part (placer ints k) (placer_items ints k) ∷ []) (placers_rising ints k h) (tt, tt)
    (placers_lower ints k (part (placer ints k) (placer_items ints k) ∷ []) (λ j l. (inl (h j k l), tt)))

ones_rising : (k : ℕ) → Rising (placer_parts 1 k)
ones_rising k = placers_rising 1 k (λ i j l. let a : owner (placer 1 i) ≡ 9985 + i = owner_one i in let b : owner (placer 1 j) ≡ 9985 + j = owner_one j in let x : owner (placer 1 i) < owner (placer 1 j) = omega arith in x)

pairs_rising : (k : ℕ) → Rising (placer_parts 2 k)
pairs_rising k = placers_rising 2 k (λ i j l. let a : owner (placer 2 i) ≡ 14985 + i = owner_pair i in let b : owner (placer 2 j) ≡ 14985 + j = owner_pair j in let x : owner (placer 2 i) < owner (placer 2 j) = omega arith in x)

-- ---- of growing memory, behind those

growers_after : (i : PieceId) (o : Option Limits) → owner i < 19985 → AllAbove i (grower_parts o)
growers_after i None h = tt
growers_after i (Some x) h = (inl (let l : owner i < owner grower_piece = h in l), tt)

growers_rising : (o : Option Limits) → Rising (grower_parts o)
growers_rising None = tt
growers_rising (Some x) = (tt, tt)

-- all of these
abbrev late_parts : ℕ → Option Limits → List Part
late_parts l o = placer_parts 1 l ++ (placer_parts 2 l ++ grower_parts o)

late_after : (i : PieceId) (l : ℕ) (o : Option Limits) → owner i ≤ 9000 → AllAbove i (late_parts l o)
late_after i l o h =
    all_both i (placer_parts 1 l) (placer_parts 2 l ++ grower_parts o) (ones_after i l h)
    (all_both i (placer_parts 2 l) (grower_parts o) (pairs_after i l (omega arith)) (growers_after i o (omega arith)))

late_rising : (l : ℕ) (o : Option Limits) → l ≤ 4500 → Rising (late_parts l o)
late_rising l o h =
    rising_both (placer_parts 1 l) (placer_parts 2 l ++ grower_parts o) (ones_rising l)
    (rising_both (placer_parts 2 l) (grower_parts o) (pairs_rising l) (growers_rising o)
    (placers_lower 2 l (grower_parts o) (λ j g. let e : owner (placer 2 j) ≡ 14985 + j = owner_pair j in growers_after (placer 2 j) o (omega arith))))
    (placers_lower 1 l (placer_parts 2 l ++ grower_parts o)
    (λ j g.
    let e : owner (placer 1 j) ≡ 9985 + j = owner_one j in
    all_both (placer 1 j) (placer_parts 2 l) (grower_parts o) (pairs_after (placer 1 j) l (omega arith)) (growers_after (placer 1 j) o (omega arith))))

-- ---- all shared ones

shared_after : (i : PieceId) (k l : ℕ) (o : Option Limits) → k ≤ 1000 → owner i < 9000 → AllAbove i (taker_parts k ++ (done_parts ++ late_parts l o))
shared_after i k l o h own =
    all_both i (taker_parts k) (done_parts ++ late_parts l o) (takers_after i k h (of_function i 0 own))
    (all_both i done_parts (late_parts l o) (dones_after i (function_ends i own)) (late_after i l o (omega arith)))

taker_after : (j l : ℕ) (o : Option Limits) → j < 1000 → AllAbove (taker j) (done_parts ++ late_parts l o)
taker_after j l o h =
    let own : owner (taker j) ≡ 9000 = owner_shared (5000 + j) (omega arith) in
    all_both (taker j) done_parts (late_parts l o) (dones_after (taker j) (shared_ends (5000 + j) (omega arith))) (late_after (taker j) l o (omega arith))

dones_rising : Rising done_parts
dones_rising = ((later 0 1 (omega arith), (later 0 2 (omega arith), tt)), ((later 1 2 (omega arith), tt), (tt, tt)))
  where
    later : (v w : ℕ) → v < w → IsAbove (end_piece v) (end_piece w)
    later v w l = inr (refl, (let y : first_opening + v < first_opening + w = omega arith in y))

shared_rising : (k l : ℕ) (o : Option Limits) → k ≤ 1000 → l ≤ 4500 → Rising (taker_parts k ++ (done_parts ++ late_parts l o))
shared_rising k l o h g =
    let at_most : 9000 ≤ 9000 = omega arith in
    rising_both (taker_parts k) (done_parts ++ late_parts l o) (takers_rising k h)
    (rising_both done_parts (late_parts l o) dones_rising (late_rising l o g)
    (late_after (done_piece 0) l o at_most, (late_after (done_piece 1) l o at_most, (late_after (done_piece 2) l o at_most, tt))))
    (takers_lower k (done_parts ++ late_parts l o) (λ j q. taker_after j l o (omega arith)))

-- no function has as many pieces as those that restore frames count from
below : (m : Module) → IsProgram m → (n : ℕ) → 1 + length (function_pieces m n) ≤ first_restore
below m p n = let h : length (function_pieces m n) ≤ 900000 = pieces_few m p n in omega arith

-- no call of a function has more pieces that fetch its arguments than are counted for it
module _ (m : Module) (p : IsProgram m) (low : Low m) (n : ℕ) where
  fetched_from : (position : ℕ) (ps : List Piece) → FollowIn (function_pieces m n) position ps → Fetched m ps
  fetched_from position [] within = tt
  fetched_from position (q ∷ ps) within = (by_call (call_before m q.cut) refl, fetched_from (suc position) ps (others_in (function_pieces m n) position q ps within))
    where
      by_call : (o : Option FuncType) → call_before m q.cut ≡ o → fetches_of o ≤ 8
      by_call None e = omega arith
      by_call (Some t) e = fetches_few m p low n position q t (first_in (function_pieces m n) position q ps within) e

  fetched_few : Fetched m (function_pieces m n)
  fetched_few = fetched_from 0 (function_pieces m n) (all_in (function_pieces m n))

inits_lower : (m : Module) (k : ℕ) (qs : List Part) → ((j : ℕ) → j < k → AllAbove (init_piece j) qs) → Lower (init_parts m k) qs
inits_lower m zero qs g = tt
inits_lower m (suc k) qs g = lower_both (init_parts m k) (part (init_piece k) (init_items m k) ∷ []) qs (inits_lower m k qs (λ j l. g j (omega arith))) (g k (omega arith), tt)

inits_rising : (m : Module) (k : ℕ) → Rising (init_parts m k)
inits_rising m zero = tt
inits_rising m (suc k) =
    rising_both (init_parts m k) (part (init_piece k) (init_items m k) ∷ []) (inits_rising m k) (tt, tt)
    (inits_lower m k (part (init_piece k) (init_items m k) ∷ []) (λ j h. (inr (refl, h), tt)))

pack_rising : (m : Module) → IsProgram m → Low m → Rising (pack_parts m)
pack_rising m p low =
    let f : length m.funcs ≤ 8192 = functions_are_few m p in
    let k : most_takers_of m m.funcs ≤ 11 = takers_are_few m p in
    let few : (n : ℕ) → 1 + length (function_pieces m n) ≤ first_restore = below m p in
    let fetched : (n : ℕ) → Fetched m (function_pieces m n) = fetched_few m p low in
    let l : ℕ = most_placers_of m 0 m.funcs in
    let o : Option Limits = slice_get m.mems 0 in
    let placed : most_placers_of m 0 m.funcs ≤ 4096 = placers_are_few m p low in
    rising_both (init_parts m (suc (later_pieces m))) (module_parts m) (inits_rising m (suc (later_pieces m)))
    (rising_both (parts_by m 0 m.funcs) (shared_parts m) (parts_rising m fetched few 0 m.funcs) (shared_rising (most_takers_of m m.funcs) l o (omega arith) (omega arith))
    (parts_lower m fetched few 0 m.funcs (shared_parts m) (omega arith) (λ i own. shared_after i (most_takers_of m m.funcs) l o (omega arith) own)))
    (inits_lower m (suc (later_pieces m)) (module_parts m)
    (λ j h.
    all_both (init_piece j) (parts_by m 0 m.funcs) (shared_parts m) (parts_after m fetched few (init_piece j) 0 m.funcs (omega arith)) (shared_after (init_piece j) (most_takers_of m m.funcs) l o (omega arith) (omega arith))))

-- ---- their numbers are ints

abbrev pub AllFit : List Part → Type 0
AllFit [] = Unit {0}
AllFit (p ∷ ps) = PieceFits p.id × AllFit ps

fit_both : (ps qs : List Part) → AllFit ps → AllFit qs → AllFit (ps ++ qs)
fit_both [] qs a b = b
fit_both (p ∷ ps) qs a b = (a.0, fit_both ps qs a.1 b)

fetches_fit : (m : Module) (n index : ℕ) (p : Piece) (t : FuncType) (k : ℕ) → n < 100000 → index ≤ first_restore → k ≤ 8 → AllFit (fetch_parts m n index p t k)
fetches_fit m n index p t zero h l few = tt
fetches_fit m n index p t (suc k) h l few =
    fit_both (fetch_parts m n index p t k) (part (fetch_piece n index k) (fetch_items m n index k p t) ∷ []) (fetches_fit m n index p t k h l (omega arith))
    ((h, (let i : 2097152 + (8 * index + k) < 2147483648 = omega arith in i)), tt)

restore_fit : (m : Module) (n index : ℕ) (p : Piece) (o : Option FuncType) → n < 100000 → index ≤ first_restore → fetches_of o ≤ 8 → AllFit (restore_parts m n index p o)
restore_fit m n index p None h l few = by (division_before p.cut)
  where
    by : (d : Option BinaryOp) → AllFit (division_parts m n index p d)
    by None = tt
    by (Some op) = ((h, (let i : 1048576 + index < 2147483648 = omega arith in i)), ((h, (let i : 2097152 + (8 * index + 0) < 2147483648 = omega arith in i)), tt))
restore_fit m n index p (Some t) h l few =
    ((h, (let i : 1048576 + index < 2147483648 = omega arith in i)), fetches_fit m n index p t (fetches (widths t.params)) h l few)

module _ (m : Module) (fetched : (n : ℕ) → Fetched m (function_pieces m n)) where
  cuts_fit : (n index : ℕ) (ps : List Piece) → Fetched m ps → n < 100000 → index + length ps ≤ first_restore → AllFit (cut_parts m n index ps)
  cuts_fit n index [] some h l = tt
  cuts_fit n index (p ∷ ps) some h l =
      fit_both (restore_parts m n index p (call_before m p.cut)) (part (body_piece n index) (cut_items m n p) ∷ cut_parts m n (suc index) ps) (restore_fit m n index p (call_before m p.cut) h (omega arith) some.0)
      ((h, (let i : index < 2147483648 = omega arith in i)), cuts_fit n (suc index) ps some.1 h (omega arith))

  type_fit : (n : ℕ) (f : Func) (o : Option FuncType) → n ≤ 90000 → 1 + length (function_pieces m n) ≤ first_restore → AllFit (parts_of_type m n f o)
  type_fit n f None h l = tt
  type_fit n f (Some t) h l =
      let named : n < 100000 = omega arith in
      ((named, (let i : 0 < 2147483648 = omega arith in i)), ((let i : 10016 + n < 2147483648 = omega arith in i), cuts_fit n 1 (function_pieces m n) (fetched n) named l))

  parts_fit : (n : ℕ) (fs : List Func) → n + length fs ≤ 90000 → ((k : ℕ) → 1 + length (function_pieces m k) ≤ first_restore) → AllFit (parts_by m n fs)
  parts_fit n [] h l = tt
  parts_fit n (f ∷ fs) h l = fit_both (function_parts m n f) (parts_by m (suc n) fs) (type_fit n f (function_type m f) (omega arith) (l n)) (parts_fit (suc n) fs (omega arith) l)

takers_fit : (k : ℕ) → k ≤ 1000000 → AllFit (taker_parts k)
takers_fit zero h = tt
takers_fit (suc k) h = fit_both (taker_parts k) (part (taker k) (taker_items k) ∷ []) (takers_fit k (omega arith)) ((let i : 5000 + k < 2147483648 = omega arith in i), tt)

dones_fit : AllFit done_parts
dones_fit = ((let i : 0 < 2147483648 = omega arith in i), ((let i : 1 < 2147483648 = omega arith in i), ((let i : 2 < 2147483648 = omega arith in i), tt)))

placers_fit : (ints k : ℕ) → k ≤ 1000000 → AllFit (placer_parts ints k)
placers_fit ints zero h = tt
placers_fit ints (suc k) h =
    fit_both (placer_parts ints k) (part (placer ints k) (placer_items ints k) ∷ []) (placers_fit ints k (omega arith))
    (by_test (nat_lt 1 ints) first_pair_placer first_placer (λ n. n + k < 2147483648) (let i : first_pair_placer + k < 2147483648 = omega arith in i) (let i : first_placer + k < 2147483648 = omega arith in i), tt)

growers_fit : (o : Option Limits) → AllFit (grower_parts o)
growers_fit None = tt
growers_fit (Some x) = ((let i : 30000 < 2147483648 = omega arith in i), tt)

shared_fit : (k l : ℕ) (o : Option Limits) → k ≤ 1000000 → l ≤ 1000000 → AllFit (taker_parts k ++ (done_parts ++ late_parts l o))
shared_fit k l o h g =
    fit_both (taker_parts k) (done_parts ++ late_parts l o) (takers_fit k h)
    (fit_both done_parts (late_parts l o) dones_fit
    (fit_both (placer_parts 1 l) (placer_parts 2 l ++ grower_parts o) (placers_fit 1 l g) (fit_both (placer_parts 2 l) (grower_parts o) (placers_fit 2 l g) (growers_fit o))))

inits_fit : (m : Module) (k : ℕ) → k ≤ 1000000 → AllFit (init_parts m k)
inits_fit m zero h = tt
inits_fit m (suc k) h = fit_both (init_parts m k) (part (init_piece k) (init_items m k) ∷ []) (inits_fit m k (omega arith)) ((let i : k < 2147483648 = omega arith in i), tt)

pub pack_fit : (m : Module) → IsProgram m → Low m → AllFit (pack_parts m)
pack_fit m p low =
    let f : length m.funcs ≤ 8192 = functions_are_few m p in
    let k : most_takers_of m m.funcs ≤ 11 = takers_are_few m p in
    let l : most_placers_of m 0 m.funcs ≤ 4096 = placers_are_few m p low in
    let g : later_pieces m ≤ 30 + PAGES = later_pieces_few m p in
    fit_both (init_parts m (suc (later_pieces m))) (module_parts m) (inits_fit m (suc (later_pieces m)) (omega arith))
    (fit_both (parts_by m 0 m.funcs) (shared_parts m) (parts_fit m (fetched_few m p low) 0 m.funcs (omega arith) (below m p)) (shared_fit (most_takers_of m m.funcs) (most_placers_of m 0 m.funcs) (slice_get m.mems 0) (omega arith) (omega arith)))

-- ---- so are their names

none_named : (ns : Text) (i : PieceId) (ps : List Part) → PieceFits i → AllFit ps → AllAbove i ps → NoneNamed (piece_name i) (map (piece_function ns) ps)
none_named ns i [] f g a = tt
none_named ns i (p ∷ ps) f g a = (differ (piece_name i) (piece_name p.id) (λ e. above_other i p.id a.0 (piece_name_same i p.id f g.0 e)), none_named ns i ps f g.1 a.1)

distinct_rising : (ns : Text) (ps : List Part) → AllFit ps → Rising ps → Distinct (map (piece_function ns) ps)
distinct_rising ns [] f r = tt
distinct_rising ns (p ∷ ps) f r = (none_named ns p.id ps f.0 f.1 r.0, distinct_rising ns ps f.1 r.1)

pub pieces_distinct : (m : Module) (ns : Text) → IsProgram m → Low m → Distinct (map (piece_function ns) (pack_parts m))
pieces_distinct m ns p low = distinct_rising ns (pack_parts m) (pack_fit m p low) (pack_rising m p low)

piece_sort : (i : PieceId) → sort (piece_name i) ≡ 2
piece_sort (body_piece f j) = refl
piece_sort (init_piece j) = refl
piece_sort (shared_piece j) = refl
piece_sort (end_piece w) = refl

pub pieces_sorted : (ns : Text) (ps : List Part) → AllSorted 2 (map (piece_function ns) ps)
pieces_sorted ns [] = tt
pieces_sorted ns (p ∷ ps) = (piece_sort p.id, pieces_sorted ns ps)
