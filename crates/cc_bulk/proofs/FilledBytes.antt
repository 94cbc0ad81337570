-- A byte of a fill is written.
use Rattle.std.proofs.Common.{◌≡◌, ℕ, suc, ◌+◌, ◌*◌, ◌%◌, ◌<◌, ◌≤◌, List, [], ◌∷◌, ◌++◌, length, Some, Bool, true, refl, ap, ◌∙◌, arith, slice_set}
use Rattle.std.specs.Prelude.{ℤ, pos}
use Rattle.std.specs.Int.{w32, cast_unsigned}
use Rattle.mc_nbt.specs.Word.{is_int}
use Rattle.mc_nbt.specs.declared.value.Value.TheVariants as values
use Rattle.wm_ast.specs.declared.operation.StoreOp.TheVariants.{I32Store8}
use Rattle.wm_ast.specs.Simple.{address}
use Rattle.wm_ast.specs.Storage.{stored}
use Rattle.wm_ast.specs.Store.{overwritten}
use Rattle.cc_line.specs.State.{State, place_at}
use Rattle.cc_line.specs.Item.{steps_items}
use Rattle.cc_line.proofs.RunLemmas.{Leads, leads_join}
use Rattle.cc_page.specs.Pages.{pages_bytes}
use Rattle.cc_page.proofs.ShownLemmas.{pages_many}
use Rattle.cc_bulk.specs.Fill.{more_steps, less_steps, fill_byte_items}
use Rattle.cc_bulk.specs.FillLaw.{Operands, Open, Turns, FillsGoOn}
use Rattle.cc_mem.specs.Law.{Does, StoresAreDone}
use Rattle.cc_mem.specs.Store.{store_items}
use Rattle.cc_mem.proofs.Near.{small_int}
use Rattle.cc_mem.proofs.Stepping.{steps_lead}
use Rattle.cc_bulk.proofs.Turning.{first_within, second_within, third_within, first_reads, second_reads, third_reads, operands_same, first_set, third_set, Still, still_here, before, counted, counted_still, more_leads, less_leads, one_written}

-- ---- a byte is stored

-- what a store of a byte leaves, whose address and number stand in places
pub record Puts (sure : Bool) (p v : ℕ) (ps : List (List ℕ)) (s : State) (at byte : ℕ) : Type 0 where
  pub pages : List (List ℕ)
  pub bytes : pages_bytes pages ≡ slice_set (pages_bytes ps) at byte
  pub does : Does (store_items sure I32Store8 p 0 v) s 0 [] pages

pub byte_put : StoresAreDone → (sure : Bool) (p v : ℕ) (ps : List (List ℕ)) (s : State) (at : ℕ) (y : ℤ) → (sure ≡ true → 1 ≤ length ps) → Still ps s s → p < length s.places → place_at s p ≡ pos at
    → v < length s.places → place_at s v ≡ y → is_int y ≡ true → at < length (pages_bytes ps) → Puts sure p v ps s at (cast_unsigned w32 y % 256)
byte_put stores sure p v ps s at y a f lp ep lv ev int l =
    let few = f.memory.few in
    let many : length (pages_bytes ps) ≡ 65536 * length ps = pages_many ps f.memory.are_pages in
    let b : List ℕ = (cast_unsigned w32 y % 256) ∷ [] in
    let where_is : address (place_at s p) 0 ≡ at = ap (λ (z : ℤ). address z 0) ep ∙ omega arith in
    let told : stored I32Store8 (values.I32 (place_at s v)) ≡ Some b = ap (λ (z : ℤ). stored I32Store8 (values.I32 z)) ev in
    let one : length b ≡ 1 = refl in
    let law = stores sure I32Store8 p 0 v ps s b (before sure ps s s p (pos at) a f lp ep (small_int at (omega arith))) refl lv (ap is_int ev ∙ int) told in
    let (qs, made, x) = law.0 (omega arith) in
    record { pages = qs; bytes = made ∙ ap (λ (i : ℕ). overwritten (pages_bytes ps) i b) where_is ∙ one_written (pages_bytes ps) at (cast_unsigned w32 y % 256) l; does = x }

-- ---- the operands behind it

module _ (stores : StoresAreDone) (sure : Bool) (p q r : ℕ) (ps : List (List ℕ)) (s : State) (us zs : List ℤ) (to others : ℕ) (y : ℤ) (o : Open sure ps s) (k : Operands p q r us (pos to) y (pos (suc others)) zs s)
    (int : is_int y ≡ true) (l : to + suc others ≤ length (pages_bytes ps)) where
  many : length (pages_bytes ps) ≡ 65536 * length ps
  many = pages_many ps o.memory.are_pages

  few : to + suc others ≤ 16777216
  few = let e = many in let f = o.memory.few in omega arith

  puts : Puts sure p q ps s to (cast_unsigned w32 y % 256)
  puts =
      byte_put stores sure p q ps s to y o.a_page (still_here sure ps s o) (first_within p q r us zs (pos to) y (pos (suc others)) s k) (first_reads p q r us zs (pos to) y (pos (suc others)) s k)
      (second_within p q r us zs (pos to) y (pos (suc others)) s k) (second_reads p q r us zs (pos to) y (pos (suc others)) s k) int (omega arith)

  abbrev t : State
  t = puts.does.state

  stands : Operands p q r us (pos to) y (pos (suc others)) zs t
  stands = operands_same p q r us zs (pos to) y (pos (suc others)) s k t puts.does.places

  abbrev u : State
  u = counted t p (pos to) (pos (suc to))

  moved : Operands p q r us (pos (suc to)) y (pos (suc others)) zs u
  moved = first_set p q r us zs (pos to) y (pos (suc others)) _ (operands_same p q r us zs (pos to) y (pos (suc others)) t stands _ refl) (pos (suc to))

  abbrev v : State
  v = counted u r (pos (suc others)) (pos others)

  ends : Operands p q r us (pos (suc to)) y (pos others) zs v
  ends = third_set p q r us zs (pos (suc to)) y (pos (suc others)) _ (operands_same p q r us zs (pos (suc to)) y (pos (suc others)) u moved _ refl) (pos others)

  leads : Leads (fill_byte_items sure p q r) s v
  leads =
      let n = few in
      leads_join (store_items sure I32Store8 p 0 q) (steps_items (more_steps p ++ less_steps r)) s t v (record { ready = puts.does.ready; used = puts.does.used; ends = puts.does.ends })
      (steps_lead (more_steps p) (less_steps r) t u v
      (more_leads t p to (first_within p q r us zs (pos to) y (pos (suc others)) t stands) (first_reads p q r us zs (pos to) y (pos (suc others)) t stands) (omega arith))
      (less_leads u r others (third_within p q r us zs (pos (suc to)) y (pos (suc others)) u moved) (third_reads p q r us zs (pos (suc to)) y (pos (suc others)) u moved) (omega arith)))

  still : Still puts.pages s v
  still =
      counted_still puts.pages s u r (pos (suc others)) (pos others)
      (counted_still puts.pages s t p (pos to) (pos (suc to)) (record { memory = puts.does.memory; trap = puts.does.trap; spares = puts.does.spares }))

  pub goes_on : (qs : List (List ℕ)) × (pages_bytes qs ≡ slice_set (pages_bytes ps) to (cast_unsigned w32 y % 256)) × Turns (fill_byte_items sure p q r) s s (us ++ (pos (suc to) ∷ (y ∷ (pos others ∷ zs)))) qs
  goes_on = (
    puts.pages,
    puts.bytes,
    record { ready = leads.ready; state = v; used = leads.used; ends = leads.ends; is = ends.stand; trap = still.trap; memory = still.memory; spares = still.spares },
  )

pub fills_go_on : StoresAreDone → FillsGoOn
fills_go_on stores sure p q r ps s us zs to others y o k int l = goes_on stores sure p q r ps s us zs to others y o k int l
