use Rattle.std.proofs.Common.{◌≡◌, ◌≤◌, ◌<◌, ℕ, List, length, map, get_or, sym, subst, arith}
use Rattle.std.proofs.lemmas.List.{get_or_default}
use Rattle.wm_frame.specs.Framing.{section_of, AreWhole}
use Rattle.wm_frame.specs.declared.section.Frame.{Frame}
use Rattle.wm_decode.specs.Decoding.{IsFirstBad}
use Rattle.wm_decode.proofs.GatherLaws.{bounds, gathered_more, gathered_bad}
use Rattle.wm_decode.proofs.decoding.gather.Goals as goal

-- the frame at a place, as the loop reads it
abbrev at : List Frame → ℕ → Frame
at fs i = get_or fs i (record { id = 0; start = 0; end = 0 })

same : (fs : List Frame) (i : ℕ) → i < length fs → at fs i ≡ get_or fs i (at fs i)
same fs i lt = get_or_default fs i (record { id = 0; start = 0; end = 0 }) (at fs i) lt

within : (bytes : List ℕ) (fs gs : List Frame) (i : ℕ) → fs ≡ gs → AreWhole bytes gs → i < length fs → ((at fs i).start ≤ (at fs i).end) × ((at fs i).end ≤ length bytes)
within bytes fs gs i e w lt = bounds bytes 8 (length bytes) fs i (at fs i) (subst (λ hs. AreWhole bytes hs) (sym e) w).1 lt (same fs i lt)

pub content-requires-clause-ordered : goal.content-requires-clause-ordered
content-requires-clause-ordered c = (within c.args.bytes.now c.as_slice-items.result.now c.args.frames.now c.loop-index.index c.as_slice-items.ensures c.requires c.loop-index-test.true).0

pub content-requires-clause-within : goal.content-requires-clause-within
content-requires-clause-within c = (within c.args.bytes.now c.as_slice-items.result.now c.args.frames.now c.loop-index.index c.as_slice-items.ensures c.requires c.loop-index-test.true).1

pub returns-in-Err-Malformed : goal.returns-in-Err-Malformed
returns-in-Err-Malformed c =
    let fs = c.as_slice-items.result.now in
    let i = c.loop-index.index in
    let e = rw c.in-Err-Malformed.field-0-is at c.in-Err-Malformed.ensures in
    let n = rw c.content.ensures at e in
    subst (λ (gs : List Frame). IsFirstBad (map (section_of c.args.bytes.now) gs) i) c.as_slice-items.ensures
    (gathered_bad c.args.bytes.now fs i (at fs i) c.loop-index.parts c.loop-index-test.true (same fs i c.loop-index-test.true) n c.loop-index.invariant)

pub loop-index-preserved : goal.loop-index-preserved
loop-index-preserved c =
    let fs = c.as_slice-items.result.now in
    let i = c.loop-index.index in
    let b = within c.args.bytes.now fs c.args.frames.now i c.as_slice-items.ensures c.requires c.loop-index-test.true in
    let e = rw c.content.ensures at c.in-Ok.ensures in
    gathered_more c.args.bytes.now fs i (at fs i) c.loop-index.parts c.add.new.parts (λ k. omega (arith, c.type_inv.bytes k)) b.0 c.loop-index-test.true (same fs i c.loop-index-test.true) e c.loop-index.invariant
