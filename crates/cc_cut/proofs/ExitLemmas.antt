-- The exits that the code adds are those to which the ways on lead.
use Rattle.std.proofs.Common.{◌≡◌, get_or, drop-cons, add-one, ℕ, zero, suc, ◌+◌, ◌<◌, ◌≤◌, List, [], ◌∷◌, ◌++◌, length, map, take, drop, Option, Some, None, option_map, refl, sym, ap, ◌∙◌, arith, append_assoc, append-nil, rules, OnOk}
use Rattle.std.specs.Prelude.{option_to_list}
use Rattle.std.specs.List.{filter_map}
use Rattle.std.specs.HashMap.{HashMap}
use Rattle.std.specs.declared.vec.Vec.{Vec}
use Rattle.std.proofs.lemmas.List.{map-append}
use Rattle.std.proofs.lemmas.List.Elements.{filter_map-append}
use Rattle.std.specs.declared.result.Result.{Result}
use Rattle.std.specs.declared.result.Result.TheVariants.{Ok, Err}
use Rattle.wm_ast.specs.declared.instruction.Instr.{the_lemmas}
use Rattle.wm_ast.specs.declared.instruction.Instr.TheVariants.{BrIf, BrTable}
use Rattle.wm_ast.specs.View.{op_of}
use Rattle.wm_ast.specs.declared.module.ValType.{ValType}
use Rattle.wm_ast.specs.Code.{Op, unreachable, block, loop, if_else, br, br_if, br_table, return, Code, nil, cons}
use Rattle.wm_valid.specs.Typing.{Scope}
use Rattle.wm_place.specs.Visit.{Around, Visit}
use Rattle.cc_cut.specs.Way.{Way, path_behind, block_path, labelled, landing, branch, branches, leaving, onward, op_ways, code_ways, ways}
use Rattle.cc_cut.specs.Index.{landing_path}
use Rattle.cc_cut.specs.steps.Exits.{branch_paths, branches_paths, leaving_paths, op_paths, code_paths, visit_paths, index_in, indices_in}
use Rattle.cc_cut.proofs.ChainLemmas.{path_next}

take_past : {A : Type 0} (xs : List A) (n : ℕ) → length xs ≤ n → take n xs ≡ xs
take_past [] zero h = refl
take_past [] (suc n) h = refl
take_past (x ∷ xs) zero h = absurd (omega arith)
take_past (x ∷ xs) (suc n) h = ap (λ (l : List _). x ∷ l) (take_past xs n (omega arith))

-- the whole path, where the block's is not shorter
pub whole_path : (path : List ℕ) (lead : ℕ) → length path ≤ lead → path ≡ take (suc lead) path
whole_path path lead h = sym (take_past path (suc lead) (omega arith))

pub front_path : (path front : List ℕ) (lead : ℕ) → front ≡ take (lead + 1) path → front ≡ take (suc lead) path
front_path path front lead e = let sum : lead + 1 ≡ suc lead = omega arith in e ∙ ap (λ (k : ℕ). take k path) sum

-- the last position and the next
pub last_raised : (path front to : List ℕ) (n next : ℕ) → path ≡ front ++ n ∷ [] → next ≡ n + 1 → to ≡ front ++ next ∷ [] → to ≡ path_behind path
last_raised path front to n next e is k =
    let sum : next ≡ suc n = omega arith in
    k ∙ (ap (λ (j : ℕ). front ++ j ∷ []) sum ∙ (sym (path_next front n) ∙ ap path_behind (sym e)))

-- no position
pub none_raised : (path front to : List ℕ) → path ≡ front ++ [] → length path ≡ 0 → to ≡ front → to ≡ path_behind path
none_raised path front to e short k = k ∙ (sym (append-nil front) ∙ (sym e ∙ by_path path short))
  where
    by_path : (path : List ℕ) → length path ≡ 0 → path ≡ path_behind path
    by_path [] h = refl
    by_path (n ∷ path) h = absurd (omega arith)

-- ---- without the operands

pub landing_is : (op : Op) (path : List ℕ) (under : ℕ) (ts : List ValType) → (landing op path under ts).to ≡ landing_path op path
landing_is (loop ty body) path under ts = refl
landing_is _ path under ts = refl

branch_is : (path : List ℕ) (blocks : List Around) (ts : List ValType) (l : ℕ) → map (λ (w : Way). w.to) (branch path blocks ts l) ≡ branch_paths path blocks l
branch_is path blocks ts l = by_block (labelled blocks l)
  where
    by_block : (o : Option Around) → map (λ (w : Way). w.to) (option_to_list (option_map (λ b. landing b.op (block_path path b) b.under ts) o)) ≡ option_to_list (option_map (λ b. landing_path b.op (block_path path b)) o)
    by_block None = refl
    by_block (Some b) = ap (λ (q : List ℕ). q ∷ []) (landing_is b.op (block_path path b) b.under ts)

branches_are : (path : List ℕ) (blocks : List Around) (ts : List ValType) (ls : List ℕ) → map (λ (w : Way). w.to) (branches path blocks ts ls) ≡ branches_paths path blocks ls
branches_are path blocks ts [] = refl
branches_are path blocks ts (l ∷ ls) =
    map-append (λ (w : Way). w.to) (branch path blocks ts l) (branches path blocks ts ls)
    ∙ (ap (λ (x : List (List ℕ)). x ++ map (λ (w : Way). w.to) (branches path blocks ts ls)) (branch_is path blocks ts l) ∙ ap (λ (x : List (List ℕ)). branch_paths path blocks l ++ x) (branches_are path blocks ts ls))

leaving_is : (path : List ℕ) (blocks : List Around) (ts : List ValType) → map (λ (w : Way). w.to) (leaving path blocks ts) ≡ leaving_paths path blocks
leaving_is path blocks ts = by_block (labelled blocks 0)
  where
    by_block : (o : Option Around) → map (λ (w : Way). w.to) (option_to_list (option_map (λ b. Rattle.cc_cut.specs.Way.way (path_behind (block_path path b)) ts) o)) ≡ option_to_list (option_map (λ b. path_behind (block_path path b)) o)
    by_block None = refl
    by_block (Some b) = refl

op_are : (S : Scope) (i : Op) (path : List ℕ) (blocks : List Around) (ts : List ValType) → map (λ (w : Way). w.to) (op_ways S i path blocks ts) ≡ op_paths i path blocks
op_are S (block ty body) path blocks ts = refl
op_are S (loop ty body) path blocks ts = refl
op_are S (if_else ty a b) path blocks ts = refl
op_are S (br l) path blocks ts = branch_is path blocks ts l
op_are S (br_if l) path blocks ts =
    map-append (λ (w : Way). w.to) (branch path blocks (drop 1 ts) l) (onward S (br_if l) path ts) ∙ ap (λ (x : List (List ℕ)). x ++ path_behind path ∷ []) (branch_is path blocks (drop 1 ts) l)
op_are S (br_table ls l) path blocks ts = branches_are path blocks (drop 1 ts) (ls ++ l ∷ [])
op_are S return path blocks ts = refl
op_are S unreachable path blocks ts = refl
op_are S _ path blocks ts = refl

code_are : (S : Scope) (c : Code) (path : List ℕ) (blocks : List Around) (ts : List ValType) → map (λ (w : Way). w.to) (code_ways S c path blocks ts) ≡ code_paths c path blocks
code_are S nil path blocks ts = leaving_is path blocks ts
code_are S (cons i is) path blocks ts = op_are S i path blocks ts

-- where a place leads
pub paths_are : (S : Scope) (v : Visit) → map (λ (w : Way). w.to) (ways S v) ≡ visit_paths v
paths_are S v = code_are S v.rest v.path v.blocks (Rattle.std.specs.Prelude.reverse v.kinds)

-- ---- one after the other

split : (xs : List ℕ) (i x : ℕ) → i < length xs → x ≡ get_or xs i x → drop i xs ≡ x ∷ drop (i + 1) xs
split xs i x h e = drop-cons xs i x h ∙ (ap (λ (y : ℕ). y ∷ drop (suc i) xs) (sym e) ∙ ap (λ (k : ℕ). x ∷ drop k xs) (sym (add-one i)))

-- the default label comes last
branches_more : (path : List ℕ) (blocks : List Around) (ls : List ℕ) (l : ℕ) → branches_paths path blocks (ls ++ l ∷ []) ≡ branches_paths path blocks ls ++ branch_paths path blocks l
branches_more path blocks [] l = append-nil (branch_paths path blocks l)
branches_more path blocks (k ∷ ls) l =
    ap (λ (x : List (List ℕ)). branch_paths path blocks k ++ x) (branches_more path blocks ls l) ∙ sym (append_assoc (branch_paths path blocks k) (branches_paths path blocks ls) (branch_paths path blocks l))

module _ {A S : Type 0} (m : HashMap (Vec ℕ A) ℕ S) where
  pub both_added : (xs ys : List (List ℕ)) → indices_in m (xs ++ ys) ≡ indices_in m xs ++ indices_in m ys
  both_added xs ys = filter_map-append (index_in m) xs ys

  pub added_then : (xs ys : List (List ℕ)) (before then after : List ℕ) → then ≡ before ++ indices_in m xs → after ≡ then ++ indices_in m ys → after ≡ before ++ indices_in m (xs ++ ys)
  added_then xs ys before then after e k =
      k ∙ (ap (λ (l : List ℕ). l ++ indices_in m ys) e ∙ (append_assoc before (indices_in m xs) (indices_in m ys) ∙ ap (λ (l : List ℕ). before ++ l) (sym (both_added xs ys))))

  -- the next label
  pub next_branch : (path : List ℕ) (blocks : List Around) (labels : List ℕ) (i l : ℕ) (before after whole : List ℕ) → i < length labels → l ≡ get_or labels i l
      → before ++ indices_in m (branches_paths path blocks (drop i labels)) ≡ whole → after ≡ before ++ indices_in m (branch_paths path blocks l)
      → after ++ indices_in m (branches_paths path blocks (drop (i + 1) labels)) ≡ whole
  next_branch path blocks labels i l before after whole h e so_far k =
      let rest : List (List ℕ) = branches_paths path blocks (drop (i + 1) labels) in
      let here : List (List ℕ) = branch_paths path blocks l in
      added_then here rest before after (after ++ indices_in m rest) k refl ∙ (ap (λ (ls : List ℕ). before ++ indices_in m (branches_paths path blocks ls)) (sym (split labels i l h e)) ∙ so_far)

  -- an instruction that leads to these and to those
  pub both_ok : {U E : Type 0} (r : Result U E) (paths xs ys : List (List ℕ)) (before then after : List ℕ) → paths ≡ xs ++ ys → then ≡ before ++ indices_in m xs → OnOk r (after ≡ then ++ indices_in m ys)
      → OnOk r (after ≡ before ++ indices_in m paths)
  both_ok (Ok u) paths xs ys before then after is e k = added_then xs ys before then after e k ∙ ap (λ (ps : List (List ℕ)). before ++ indices_in m ps) (sym is)
  both_ok (Err x) paths xs ys before then after is e k = k

-- where instructions of the code lead
pub table_leads : (ls : List ℕ) (l : ℕ) (path : List ℕ) (blocks : List Around) → op_paths (op_of (BrTable ls l)) path blocks ≡ branches_paths path blocks ls ++ branch_paths path blocks l
table_leads ls l path blocks = ap (λ (i : Op). op_paths i path blocks) (seen ls l) ∙ branches_more path blocks ls l
  where
    seen : (ls : List ℕ) (l : ℕ) → op_of (BrTable ls l) ≡ br_table ls l
    seen ls l = search (rules, the_lemmas)

pub branch_leads : (l : ℕ) (path : List ℕ) (blocks : List Around) → op_paths (op_of (BrIf l)) path blocks ≡ branch_paths path blocks l ++ path_behind path ∷ []
branch_leads l path blocks = ap (λ (i : Op). op_paths i path blocks) (seen l)
  where
    seen : (l : ℕ) → op_of (BrIf l) ≡ br_if l
    seen l = search (rules, the_lemmas)
