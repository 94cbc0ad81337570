-- Of the answers to what bytes spell at most one is true.
use Rattle.std.proofs.Common.{◌≡◌, ◌≢◌, ℕ, zero, suc, ◌<◌, List, [], ◌∷◌, length, map, take, Option, Some, Result, Ok, Err, refl, sym, ap, subst, ◌∙◌, arith, inl, inr}
use Rattle.std.specs.Prelude.{slice_get, MatchResult}
use Rattle.std.proofs.lemmas.Bool.{cases_lt}
use Rattle.std.proofs.lemmas.List.{length-map}
use Rattle.wm_ast.specs.declared.instruction.Instr.{Instr}
use Rattle.wm_ast.specs.declared.module.Data.{Data}
use Rattle.wm_ast.specs.declared.module.Elem.{Elem}
use Rattle.wm_ast.specs.declared.module.Export.{Export}
use Rattle.wm_ast.specs.declared.module.Func.{Func}
use Rattle.wm_ast.specs.declared.module.FuncType.{FuncType}
use Rattle.wm_ast.specs.declared.module.Global.{Global}
use Rattle.wm_ast.specs.declared.module.Import.{Import}
use Rattle.wm_ast.specs.declared.module.Limits.{Limits}
use Rattle.wm_ast.specs.declared.module.Run.{Run}
use Rattle.wm_ast.specs.declared.module.Module.{Module}
use Rattle.wm_ast.specs.Part.{Body}
use Rattle.wm_ast.specs.Section.{Section, IsRising, IsFramed}
use Rattle.wm_ast.specs.Spelling.{Content, IsSectionOf, AreSectionsOf, Parts, no_parts, parts_of, kind_of, body_of, IsMadeOf, Spells}
use Rattle.wm_frame.specs.Framing.{section_of, AreFramesOf}
use Rattle.wm_frame.specs.declared.section.Frame.{Frame}
use Rattle.wm_frame.specs.declared.fault.FrameFault.{FrameFault}
use Rattle.wm_frame.specs.declared.fault.FrameFault.TheVariants as frames
use Rattle.wm_frame.proofs.AnswerLaws.{one_answer}
use Rattle.wm_frame.proofs.FramingLaws.{stops_at_end, one_division, framed_whole}
use Rattle.wm_decode.specs.Decoding.{IsFirstBad, IsBadAt, IsMismatched, IsNotFramed, IsDecoded}
use Rattle.wm_decode.specs.declared.decoding.DecodeFault.{DecodeFault}
use Rattle.wm_decode.specs.declared.decoding.DecodeFault.TheVariants as faults
use Rattle.wm_decode.proofs.ContentLaws.{one_content}

-- bytes are sections in one way
one_framing : (bytes : List ℕ) (ss ts : List Section) → IsFramed ss bytes → IsFramed ts bytes → ss ≡ ts
one_framing bytes ss ts p q =
    let f = (framed_whole bytes ss p).1 in
    let g = (framed_whole bytes ts q).1 in
    let e = (one_division bytes 8 (length bytes) (length bytes) f.frames g.frames f.stand g.stand (stops_at_end bytes) (stops_at_end bytes)).0 in
    sym f.same ∙ ap (λ (fs : List Frame). map (section_of bytes) fs) e ∙ g.same

-- bytes that are sections in order have no fault of that kind
not_faulty : (bytes : List ℕ) (ss : List Section) (f : FrameFault) → IsFramed ss bytes → IsRising 0 ss → IsNotFramed bytes f → ⊥
not_faulty bytes ss f p r n = by f n
  where
    w : (fs : List Frame) × AreFramesOf bytes (Ok fs)
    w =
        let g = framed_whole bytes ss p in
        (g.1.frames, ((g.0, g.1.stand), subst (IsRising 0) (sym g.1.same) r))

    clash : (g : FrameFault) → AreFramesOf bytes (Err g) → g ≢ frames.Memory → ⊥
    clash g a other =
        let e = one_answer bytes (Ok w.0) (Err g) w.1 a (λ (i : Ok w.0 ≡ Err frames.Memory). cc) (λ (i : Err g ≡ Err frames.Memory). other cc) in
        cc

    by : (g : FrameFault) → IsNotFramed bytes g → ⊥
    by frames.Memory a = absurd a
    by frames.NotWasm a = clash frames.NotWasm a (λ i. cc)
    by (frames.BadFrame at) a = clash (frames.BadFrame at) a (λ i. cc)
    by (frames.BadOrder index) a = clash (frames.BadOrder index) a (λ i. cc)

cons_contents : (c d : Content) (cs ds : List Content) → c ≡ d → cs ≡ ds → c ∷ cs ≡ d ∷ ds
cons_contents c d cs ds p q = cc

-- sections hold contents in one way
one_holding : (ss : List Section) (cs ds : List Content) → AreSectionsOf ss cs → AreSectionsOf ss ds → cs ≡ ds
one_holding [] [] [] p q = refl
one_holding [] [] (d ∷ ds) p q = absurd q
one_holding [] (c ∷ cs) ds p q = absurd p
one_holding (s ∷ ss) [] ds p q = absurd p
one_holding (s ∷ ss) (c ∷ cs) [] p q = absurd q
one_holding (s ∷ ss) (c ∷ cs) (d ∷ ds) p q = cons_contents c d cs ds (one_content s c d p.0 q.0) (one_holding ss cs ds p.1 q.1)

-- each section of some that hold contents holds one
holds_at : (ss : List Section) (cs : List Content) (i : ℕ) (s : Section) → AreSectionsOf ss cs → slice_get ss i ≡ Some s → (c : Content) × IsSectionOf s c
holds_at [] cs i s p e = absurd cc
holds_at (t ∷ ss) [] i s p e = absurd p
holds_at (t ∷ ss) (c ∷ cs) zero s p e = (c, subst (λ u. IsSectionOf u c) (let k : t ≡ s = cc in k) p.0)
holds_at (t ∷ ss) (c ∷ cs) (suc i) s p e = holds_at ss cs i s p.1 e

-- a section of a front is one of the whole
in_front : (ss : List Section) (n i : ℕ) (s : Section) → i < n → slice_get ss i ≡ Some s → slice_get (take n ss) i ≡ Some s
in_front [] zero i s lt e = absurd (omega arith)
in_front [] (suc n) i s lt e = e
in_front (t ∷ ss) zero i s lt e = absurd (omega arith)
in_front (t ∷ ss) (suc n) zero s lt e = e
in_front (t ∷ ss) (suc n) (suc i) s lt e = in_front ss n i s (omega arith) e

earlier_bad : (ss : List Section) (i j : ℕ) → IsFirstBad ss i → IsFirstBad ss j → i < j → ⊥
earlier_bad ss i j a b lt =
    let h = holds_at (take j ss) b.before i a.section b.hold (in_front ss j i a.section lt a.stands) in
    a.none h.0 h.1

one_bad : (ss : List Section) (i j : ℕ) → IsFirstBad ss i → IsFirstBad ss j → i ≡ j
one_bad ss i j a b =
    elim (cases_lt i j) [
      | inl lt ↦ absurd (earlier_bad ss i j a b lt)
      | inr ge ↦ elim (cases_lt j i) [
        | inl lt ↦ absurd (earlier_bad ss j i b a lt)
        | inr le ↦ omega arith
      ]
    ]

not_bad : (ss : List Section) (cs : List Content) (i : ℕ) → AreSectionsOf ss cs → IsFirstBad ss i → ⊥
not_bad ss cs i p b = let h = holds_at ss cs i b.section p b.stands in b.none h.0 h.1

-- functions are their types' indices and what the code section has of them
same_func : (f g : Func) → kind_of f ≡ kind_of g → body_of f ≡ body_of g → f ≡ g
same_func f g k b =
    of f.kind g.kind f.locals g.locals f.body g.body k (ap (λ (c : Body). c.locals) b) (ap (λ (c : Body). c.body) b)
  where
    of : (i j : ℕ) (r s : List Run) (b c : List Instr) → i ≡ j → r ≡ s → b ≡ c → (let x : Func = record { kind = i; locals = r; body = b } in x) ≡ record { kind = j; locals = s; body = c }
    of i j r s b c p q t = cc

cons_funcs : (f g : Func) (fs gs : List Func) → f ≡ g → fs ≡ gs → f ∷ fs ≡ g ∷ gs
cons_funcs f g fs gs p q = cc

same_funcs : (fs gs : List Func) → map kind_of fs ≡ map kind_of gs → map body_of fs ≡ map body_of gs → fs ≡ gs
same_funcs [] [] k b = refl
same_funcs [] (g ∷ gs) k b = absurd cc
same_funcs (f ∷ fs) [] k b = absurd cc
same_funcs (f ∷ fs) (g ∷ gs) k b = cons_funcs f g fs gs (same_func f g (let p : kind_of f ≡ kind_of g = cc in p) (let p : body_of f ≡ body_of g = cc in p)) (same_funcs fs gs (let p : map kind_of fs ≡ map kind_of gs = cc in p) (let p : map body_of fs ≡ map body_of gs = cc in p))

-- a module is its fields
same_fields : (a a' : List FuncType) (b b' : List Func) (c c' : List Limits) (d d' : List Limits) (e e' : List Global) (f f' : List Export) (g g' : Option ℕ) (h h' : List Elem) (i i' : List Data) (j j' : List Import) → a ≡ a' → b ≡ b' → c ≡ c' → d ≡ d' → e ≡ e' → f ≡ f' → g ≡ g' → h ≡ h' → i ≡ i' → j ≡ j'
    → (let m : Module = record { types = a; funcs = b; tables = c; mems = d; globals = e; exports = f; start = g; elems = h; datas = i; imports = j } in m) ≡ record { types = a'; funcs = b'; tables = c'; mems = d'; globals = e'; exports = f'; start = g'; elems = h'; datas = i'; imports = j' }
same_fields a a' b b' c c' d d' e e' f f' g g' h h' i i' j j' e0 e1 e2 e3 e4 e5 e6 e7 e8 e9 = cc

-- parts make one module
one_made : (m n : Module) (p : Parts) → IsMadeOf m p → IsMadeOf n p → m ≡ n
one_made m n p a b =
    same_fields m.types n.types m.funcs n.funcs m.tables n.tables m.mems n.mems m.globals n.globals m.exports n.exports m.start n.start m.elems n.elems m.datas n.datas m.imports n.imports
    (a.types ∙ sym b.types) (same_funcs m.funcs n.funcs (a.kinds ∙ sym b.kinds) (a.bodies ∙ sym b.bodies)) (a.tables ∙ sym b.tables) (a.memories ∙ sym b.memories) (a.globals ∙ sym b.globals)
    (a.exports ∙ sym b.exports) (a.start ∙ sym b.start) (a.elements ∙ sym b.elements) (a.datas ∙ sym b.datas) (a.imports ∙ sym b.imports)

pub same_module : (bytes : List ℕ) (m n : Module) → Spells bytes m → Spells bytes n → m ≡ n
same_module bytes m n p q =
    let s = one_framing bytes q.sections p.sections q.framed p.framed in
    let c = one_holding p.sections p.contents q.contents p.hold (subst (λ (ss : List Section). AreSectionsOf ss q.contents) s q.hold) in
    one_made m n (parts_of no_parts p.contents) p.made (subst (λ (cs : List Content). IsMadeOf n (parts_of no_parts cs)) (sym c) q.made)

spelled_not_bad : (bytes : List ℕ) (m : Module) (i : ℕ) → Spells bytes m → IsBadAt bytes i → ⊥
spelled_not_bad bytes m i p b = not_bad p.sections p.contents i p.hold (subst (λ (ss : List Section). IsFirstBad ss i) (one_framing bytes b.sections p.sections b.framed p.framed) b.bad)

mismatched_not_bad : (bytes : List ℕ) (f b i : ℕ) → IsMismatched bytes f b → IsBadAt bytes i → ⊥
mismatched_not_bad bytes f b i p a = not_bad p.sections p.contents i p.hold (subst (λ (ss : List Section). IsFirstBad ss i) (one_framing bytes a.sections p.sections a.framed p.framed) a.bad)

spelled_not_mismatched : (bytes : List ℕ) (m : Module) (f b : ℕ) → Spells bytes m → IsMismatched bytes f b → ⊥
spelled_not_mismatched bytes m f b p q =
    let s = one_framing bytes q.sections p.sections q.framed p.framed in
    let c = one_holding p.sections p.contents q.contents p.hold (subst (λ (ss : List Section). AreSectionsOf ss q.contents) s q.hold) in
    let k : length (parts_of no_parts p.contents).kinds ≡ length (parts_of no_parts p.contents).bodies =
    sym (ap length p.made.kinds) ∙ length-map m.funcs kind_of ∙ sym (length-map m.funcs body_of) ∙ ap length p.made.bodies in
    q.differ (q.functions_are ∙ subst (λ (cs : List Content). length (parts_of no_parts cs).kinds ≡ length (parts_of no_parts cs).bodies) c k ∙ sym q.bodies_are)

one_mismatch : (bytes : List ℕ) (f b g d : ℕ) → IsMismatched bytes f b → IsMismatched bytes g d → (f ≡ g) × (b ≡ d)
one_mismatch bytes f b g d p q =
    let s = one_framing bytes q.sections p.sections q.framed p.framed in
    let c = one_holding p.sections p.contents q.contents p.hold (subst (λ (ss : List Section). AreSectionsOf ss q.contents) s q.hold) in (
      p.functions_are ∙ ap (λ (cs : List Content). length (parts_of no_parts cs).kinds) c ∙ sym q.functions_are,
      p.bodies_are ∙ ap (λ (cs : List Content). length (parts_of no_parts cs).bodies) c ∙ sym q.bodies_are,
    )

one_fault : (bytes : List ℕ) (f g : FrameFault) → IsNotFramed bytes f → IsNotFramed bytes g → f ≡ g
one_fault bytes f g p q =
    let a = of f p in
    let b = of g q in
    let e = one_answer bytes (Err f) (Err g) a.0 b.0 a.1 b.1 in
    cc
  where
    of : (h : FrameFault) → IsNotFramed bytes h → AreFramesOf bytes (Err h) × ((let r : Result (List Frame) FrameFault = Err h in r) ≡ Err frames.Memory → ⊥)
    of frames.Memory r = absurd r
    of frames.NotWasm r = (r, λ i. cc)
    of (frames.BadFrame at) r = (r, λ i. cc)
    of (frames.BadOrder index) r = (r, λ i. cc)

abbrev Answer : Type 0
Answer = Result Module DecodeFault

pub one_decoding : (bytes : List ℕ) (r s : Answer) → IsDecoded bytes r → IsDecoded bytes s → (r ≡ Err faults.Memory → ⊥) → (s ≡ Err faults.Memory → ⊥) → r ≡ s
one_decoding bytes (Ok m) (Ok n) p q u v = ap Ok (same_module bytes m n p q)
one_decoding bytes (Ok m) (Err (faults.Frame g)) p q u v = absurd (not_faulty bytes p.sections g p.framed p.rising q)
one_decoding bytes (Ok m) (Err (faults.BadSection j)) p q u v = absurd (spelled_not_bad bytes m j p q)
one_decoding bytes (Ok m) (Err (faults.CountMismatch g d)) p q u v = absurd (spelled_not_mismatched bytes m g d p q)
one_decoding bytes (Err (faults.Frame f)) (Ok n) p q u v = absurd (not_faulty bytes q.sections f q.framed q.rising p)
one_decoding bytes (Err (faults.Frame f)) (Err (faults.Frame g)) p q u v = ap (λ h. Err (faults.Frame h)) (one_fault bytes f g p q)
one_decoding bytes (Err (faults.Frame f)) (Err (faults.BadSection j)) p q u v = absurd (not_faulty bytes q.sections f q.framed q.rising p)
one_decoding bytes (Err (faults.Frame f)) (Err (faults.CountMismatch g d)) p q u v = absurd (not_faulty bytes q.sections f q.framed q.rising p)
one_decoding bytes (Err (faults.BadSection i)) (Ok n) p q u v = absurd (spelled_not_bad bytes n i q p)
one_decoding bytes (Err (faults.BadSection i)) (Err (faults.Frame g)) p q u v = absurd (not_faulty bytes p.sections g p.framed p.rising q)
one_decoding bytes (Err (faults.BadSection i)) (Err (faults.BadSection j)) p q u v =
    ap (λ k. Err (faults.BadSection k)) (one_bad p.sections i j p.bad (subst (λ (ss : List Section). IsFirstBad ss j) (one_framing bytes q.sections p.sections q.framed p.framed) q.bad))
one_decoding bytes (Err (faults.BadSection i)) (Err (faults.CountMismatch g d)) p q u v = absurd (mismatched_not_bad bytes g d i q p)
one_decoding bytes (Err (faults.CountMismatch f b)) (Ok n) p q u v = absurd (spelled_not_mismatched bytes n f b q p)
one_decoding bytes (Err (faults.CountMismatch f b)) (Err (faults.Frame g)) p q u v = absurd (not_faulty bytes p.sections g p.framed p.rising q)
one_decoding bytes (Err (faults.CountMismatch f b)) (Err (faults.BadSection j)) p q u v = absurd (mismatched_not_bad bytes f b j p q)
one_decoding bytes (Err (faults.CountMismatch f b)) (Err (faults.CountMismatch g d)) p q u v =
    let e = one_mismatch bytes f b g d p q in
    ap (λ k. Err (faults.CountMismatch k b)) e.0 ∙ ap (λ k. Err (faults.CountMismatch g k)) e.1
one_decoding bytes (Err faults.Memory) s p q u v = absurd (u refl)
one_decoding bytes r (Err faults.Memory) p q u v = absurd (v refl)

-- a true answer on bytes that spell a module
pub only_decoding : (bytes : List ℕ) (r : Answer) → IsDecoded bytes r → (m : Module) → Spells bytes m → MatchResult r (λ n. n ≡ m) (λ e. e ≡ faults.Memory)
only_decoding bytes (Ok n) p m q = same_module bytes n m p q
only_decoding bytes (Err (faults.Frame f)) p m q = absurd (not_faulty bytes q.sections f q.framed q.rising p)
only_decoding bytes (Err (faults.BadSection i)) p m q = absurd (spelled_not_bad bytes m i q p)
only_decoding bytes (Err (faults.CountMismatch f b)) p m q = absurd (spelled_not_mismatched bytes m f b q p)
only_decoding bytes (Err faults.Memory) p m q = refl
