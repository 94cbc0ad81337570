-- The text of a macro line, from its chunks.
use Rattle.std.proofs.Common.{◌≡◌, List, [], ◌∷◌, ◌++◌, refl, sym, ap, ◌∙◌, append_assoc, append-nil}
use Rattle.std.specs.Prelude.{Option, Some, None, codes}
use Rattle.mc_nbt.specs.Tree.{Part, key, place}
use Rattle.mc_cmd.specs.Form.{Text}
use Rattle.mc_cmd.specs.Word.{op_text}
use Rattle.mc_cmd.specs.Value.{parts_text}
use Rattle.mc_cmd.specs.Command.{PatternPart}
use Rattle.mc_cmd.specs.Pattern as pattern
use Rattle.mc_cmd.specs.steps.OpenText.{Chunk, still, named, ends, pattern_from, macro_text, OpenPart, step, place_of}
use Rattle.cc_line.specs.Sight.{store_id}
use Rattle.cc_line.specs.Place.{place_name, Home, in_score, in_list, home, spot_name}
use Rattle.mc_nbt.specs.Tree.{Tree}
use Rattle.mc_nbt.specs.Spelling.{tree_text}
use Rattle.mc_cmd.specs.Command.{store_score, score_get}
use Rattle.mc_cmd.specs.Grammar.{simple_text}
use Rattle.cc_line.specs.Step.{Cond}
use Rattle.cc_line.specs.OpenStep.{OpenSite, slot_site, path_chunks, parts_chunks, space_chunk, place_chunks, within_chunks, OpenSaid, open_said, sub_chunks, get_chunks, keep_chunks, from_chunks, under_chunks, open_home_to_site, open_site_to_home, OpenAct, open_set_spot, open_combine, open_load_site, open_keep_site, open_place_to_site, open_site_to_place, open_set_site, open_copy_site, front_chunks, cond_chunks, OpenStep, closed_step, open_act, open_when, open_text}
use Rattle.cc_line.specs.steps.Written.{written}
use Rattle.cc_line.specs.steps.OpenWords.{Words, place_text, get_words, put_words, from_words, set_words, open_words, to_site_words, of_site_words, cond_text, conds_text, run_line, when_line, open_line}

ends_text : (l : Text) (ps : List PatternPart) → pattern.parts_text (ends l ps) ≡ l ++ pattern.parts_text ps
ends_text [] ps = refl
ends_text (b ∷ l) ps = refl

from_text : (l : Text) (ps : List Chunk) → pattern.parts_text (pattern_from l ps) ≡ l ++ written ps
from_text l [] = ends_text l []
from_text l (still m ∷ ps) = from_text (l ++ m) ps ∙ append_assoc l m (written ps)
from_text l (named n ∷ ps) = ends_text l _ ∙ ap (λ t. l ++ (36 ∷ (40 ∷ (n ++ (41 ∷ t))))) (from_text [] ps)

macro_written : (ps : List Chunk) → macro_text ps ≡ 36 ∷ written ps
macro_written ps = ap (λ t. 36 ∷ t) (from_text [] ps)

written-append : (ps qs : List Chunk) → written (ps ++ qs) ≡ written ps ++ written qs
written-append [] qs = refl
written-append (still l ∷ ps) qs = ap (λ t. l ++ t) (written-append ps qs) ∙ sym (append_assoc l (written ps) (written qs))
written-append (named n ∷ ps) qs = ap (λ t. 36 ∷ (40 ∷ (n ++ (41 ∷ t)))) (written-append ps qs) ∙ ap (λ t. 36 ∷ (40 ∷ t)) (sym (append_assoc n (41 ∷ written ps) (written qs)))

-- ---- paths

pub part_written : (p : Part) → parts_text (p ∷ []) ≡ written (parts_chunks (step p ∷ []))
part_written p = sym (append-nil (parts_text (p ∷ [])))

pub parts-append : (p q : Part) → parts_text (p ∷ (q ∷ [])) ≡ parts_text (p ∷ []) ++ parts_text (q ∷ [])
parts-append (key k) q = ap (λ t. 46 ∷ (t ++ parts_text (q ∷ []))) (sym (append-nil k))
parts-append (place i) q = ap (λ t. 91 ∷ t) (sym (append_assoc _ (93 ∷ []) (parts_text (q ∷ []))))

pub open_parts-append : (p q : OpenPart) → written (parts_chunks (p ∷ (q ∷ []))) ≡ written (parts_chunks (p ∷ [])) ++ written (parts_chunks (q ∷ []))
open_parts-append (step p) q = ap (λ t. t ++ written (parts_chunks (q ∷ []))) (sym (append-nil (parts_text (p ∷ []))))
open_parts-append (place_of n) q = ap (λ t. 91 ∷ (36 ∷ (40 ∷ t))) (sym (append_assoc n (41 ∷ (93 ∷ [])) (written (parts_chunks (q ∷ [])))))

module _ (ns : Text) where
  place_written : (p : OpenSite) → written (place_chunks ns p) ≡ place_text ns p
  place_written p = append_assoc ns _ _

  within_written : (v u : Text) (p : OpenSite) → written (within_chunks ns v u p) ≡ v ++ (place_text ns p ++ (32 ∷ u))
  within_written v u p = ap (λ t. v ++ t) (written-append (still (store_id ns p.store) ∷ (space_chunk ∷ (path_chunks p ++ (space_chunk ∷ [])))) (still u ∷ []) ∙ go)
    where
      go : (store_id ns p.store ++ (32 ∷ written (path_chunks p ++ (space_chunk ∷ [])))) ++ (u ++ []) ≡ place_text ns p ++ (32 ∷ u)
      go = rw (written-append (path_chunks p) (space_chunk ∷ []), append-nil u) (simp append_assoc)

-- ---- acts

abbrev store_of : List (List Chunk) → Option Text
store_of [] = None
store_of (c ∷ cs) = Some (written c)

abbrev words_of : OpenSaid → Words
words_of d = record { store = store_of d.stores; simple = written d.simple }

abbrev words : Option Text → Text → Words
words t s = record { store = t; simple = s }

words_are : {a b : Option Text} {c d : Text} → a ≡ b → c ≡ d → words a c ≡ words b d
words_are {a} {b} {c} {d} e f = ap (λ t. words t c) e ∙ ap (words b) f

module _ (ns : Text) where
  get : (h : Text) (p : OpenSite) → words_of (record { stores = sub_chunks ns (store_score h ns) ∷ []; simple = get_chunks ns p }) ≡ get_words ns h p
  get h p = words_are (ap Some (append-nil _)) (ap (λ t. codes "data get storage " ++ t) (place_written ns p))

  put : (p : OpenSite) (h : Text) → words_of (record { stores = keep_chunks ns p ∷ []; simple = still (simple_text (score_get h ns)) ∷ [] }) ≡ put_words ns p h
  put p h = words_are (ap Some (within_written ns (codes "store result storage ") (codes "int 1 ") p)) (append-nil _)

  from : (p q : OpenSite) → words_of (record { stores = []; simple = from_chunks ns p q }) ≡ from_words ns p q
  from p q = words_are refl (written-append (within_chunks ns (codes "data modify storage ") (codes "set from storage ") p) (place_chunks ns q) ∙ ap (λ t. t ++ written (place_chunks ns q)) (within_written ns (codes "data modify storage ") (codes "set from storage ") p) ∙ ap (λ t. (codes "data modify storage " ++ (place_text ns p ++ codes " set from storage ")) ++ t) (place_written ns q) ∙ simp append_assoc)

  set : (p : OpenSite) (t : Tree) → words_of (record { stores = []; simple = within_chunks ns (codes "data modify storage ") (codes "set value ") p ++ (still (tree_text t) ∷ []) }) ≡ set_words ns p t
  set p t = words_are refl (written-append (within_chunks ns (codes "data modify storage ") (codes "set value ") p) (still (tree_text t) ∷ []) ∙ ap (λ v. v ++ (tree_text t ++ [])) (within_written ns (codes "data modify storage ") (codes "set value ") p) ∙ ap (λ v. (codes "data modify storage " ++ (place_text ns p ++ codes " set value ")) ++ v) (append-nil (tree_text t)) ∙ simp append_assoc)

  to_site : (p : OpenSite) (h : Home) → words_of (open_home_to_site ns p h) ≡ to_site_words ns p h
  to_site p (in_score i) = put p (place_name i)
  to_site p (in_list k) = from p (slot_site k)

  of_site : (h : Home) (p : OpenSite) → words_of (open_site_to_home ns h p) ≡ of_site_words ns h p
  of_site (in_score i) p = get (place_name i) p
  of_site (in_list k) p = from (slot_site k) p

  said_words : (a : OpenAct) → words_of (open_said ns a) ≡ open_words ns a
  said_words (open_set_spot x n) = refl
  said_words (open_combine x op h n) =
      words_are refl (ap (λ t. codes "scoreboard players operation " ++ (spot_name x ++ (32 ∷ (ns ++ (32 ∷ (op_text op ++ (32 ∷ (h ++ (36 ∷ (40 ∷ (n ++ (41 ∷ (32 ∷ t))))))))))))) (append-nil ns))
  said_words (open_load_site h p) = get h p
  said_words (open_keep_site p h) = put p h
  said_words (open_place_to_site p i) = to_site p (home i)
  said_words (open_site_to_place i p) = of_site (home i) p
  said_words (open_set_site p t) = set p t
  said_words (open_copy_site p q) = from p q

-- ---- lines

abbrev front : List (List Chunk) → Text
front [] = []
front (c ∷ cs) = written c ++ front cs

front_written : (cs : List (List Chunk)) (qs : List Chunk) → written (front_chunks cs qs) ≡ front cs ++ (codes "run " ++ written qs)
front_written [] qs = refl
front_written (c ∷ cs) qs = written-append c (front_chunks cs qs) ∙ ap (λ t. written c ++ t) (front_written cs qs) ∙ sym (append_assoc (written c) (front cs) _)

front-append : (cs ds : List (List Chunk)) → front (cs ++ ds) ≡ front cs ++ front ds
front-append [] ds = refl
front-append (c ∷ cs) ds = ap (λ t. written c ++ t) (front-append cs ds) ∙ sym (append_assoc (written c) (front cs) (front ds))

conds_front : (ns : Text) (cs : List Cond) → front (cond_chunks ns cs) ≡ conds_text ns cs
conds_front ns [] = refl
conds_front ns (c ∷ []) = append-nil _ ∙ append-nil _
conds_front ns (c ∷ (d ∷ ds)) = ap (λ t. t ++ front (cond_chunks ns (d ∷ ds))) (append-nil (cond_text ns c)) ∙ ap (λ t. cond_text ns c ++ t) (conds_front ns (d ∷ ds))

-- at most one store stands before a command
abbrev OneOf : List (List Chunk) → Type 0
OneOf [] = Unit {0}
OneOf (c ∷ []) = Unit {0}
OneOf (c ∷ (d ∷ ds)) = ⊥

abbrev OneStore : OpenSaid → Type 0
OneStore d = OneOf d.stores

one_store : (ns : Text) (a : OpenAct) → OneStore (open_said ns a)
one_store ns (open_set_spot x n) = tt
one_store ns (open_combine x op h n) = tt
one_store ns (open_load_site h p) = tt
one_store ns (open_keep_site p h) = tt
one_store ns (open_place_to_site p i) = go (home i)
  where
    go : (h : Home) → OneStore (open_home_to_site ns p h)
    go (in_score i) = tt
    go (in_list k) = tt
one_store ns (open_site_to_place i p) = go (home i)
  where
    go : (h : Home) → OneStore (open_site_to_home ns h p)
    go (in_score i) = tt
    go (in_list k) = tt
one_store ns (open_set_site p t) = tt
one_store ns (open_copy_site p q) = tt

run_said : (ss : List (List Chunk)) (qs : List Chunk) → OneOf ss → macro_text (under_chunks ss qs) ≡ run_line (store_of ss) (written qs)
run_said [] qs o = macro_written qs
run_said (c ∷ []) qs o = macro_written (under_chunks (c ∷ []) qs) ∙ ap (λ t. codes "$execute " ++ t) (front_written (c ∷ []) qs ∙ ap (λ t. t ++ (codes "run " ++ written qs)) (append-nil (written c)))
run_said (c ∷ (d ∷ ds)) qs o = absurd o

when_said : (ns : Text) (cs : List Cond) (ss : List (List Chunk)) (qs : List Chunk) → OneOf ss → macro_text (still (codes "execute ") ∷ front_chunks (cond_chunks ns cs ++ ss) qs) ≡ when_line (conds_text ns cs) (store_of ss) (written qs)
when_said ns cs [] qs o = macro_written (still (codes "execute ") ∷ front_chunks (cond_chunks ns cs ++ []) qs) ∙ ap (λ t. codes "$execute " ++ t) (front_written (cond_chunks ns cs ++ []) qs ∙ ap (λ t. t ++ (codes "run " ++ written qs)) (front-append (cond_chunks ns cs) [] ∙ append-nil (front (cond_chunks ns cs)) ∙ conds_front ns cs))
when_said ns cs (c ∷ []) qs o = macro_written (still (codes "execute ") ∷ front_chunks (cond_chunks ns cs ++ (c ∷ [])) qs) ∙ ap (λ t. codes "$execute " ++ t) (front_written (cond_chunks ns cs ++ (c ∷ [])) qs ∙ ap (λ t. t ++ (codes "run " ++ written qs)) (front-append (cond_chunks ns cs) (c ∷ []) ∙ ap (λ t. t ++ (written c ++ [])) (conds_front ns cs) ∙ ap (λ t. conds_text ns cs ++ t) (append-nil (written c))) ∙ append_assoc (conds_text ns cs) (written c) (codes "run " ++ written qs))
when_said ns cs (c ∷ (d ∷ ds)) qs o = absurd o

-- the text of an open step is the one that its words make
pub open_written : (ns : Text) (x : OpenStep) → open_text ns x ≡ open_line ns x
open_written ns (closed_step x) = refl
open_written ns (open_act a) = run_said (open_said ns a).stores (open_said ns a).simple (one_store ns a) ∙ ap (λ w. run_line w.store w.simple) (said_words ns a)
open_written ns (open_when cs a) = when_said ns cs (open_said ns a).stores (open_said ns a).simple (one_store ns a) ∙ ap (λ w. when_line (conds_text ns cs) w.store w.simple) (said_words ns a)
