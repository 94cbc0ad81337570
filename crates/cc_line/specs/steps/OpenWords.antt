-- Macro lines as texts: what stands before the command of each, and the command.
use Rattle.std.specs.Prelude.{List, [], ◌∷◌, ◌++◌, Option, Some, None, codes}
use Rattle.mc_nbt.specs.Tree.{Tree}
use Rattle.mc_nbt.specs.Spelling.{tree_text}
use Rattle.mc_cmd.specs.Form.{Text}
use Rattle.mc_cmd.specs.Word.{op_text}
use Rattle.mc_cmd.specs.Command.{Op}
use Rattle.mc_cmd.specs.Grammar.{sub_text}
use Rattle.cc_line.specs.Sight.{store_name}
use Rattle.cc_line.specs.Place.{place_name, Home, in_score, in_list, home, spot_name}
use Rattle.cc_line.specs.Step.{Cond, cond_sub, step_text}
use Rattle.cc_line.specs.OpenStep.{OpenSite, path_chunks, slot_site, OpenAct, open_set_spot, open_combine}
use Rattle.cc_line.specs.OpenStep.{open_load_site, open_keep_site}
use Rattle.cc_line.specs.OpenStep.{open_place_to_site, open_site_to_place, open_set_site, open_copy_site}
use Rattle.cc_line.specs.OpenStep.{OpenStep, closed_step, open_act, open_when}
use Rattle.cc_line.specs.steps.Written.{written}

-- the store before a command, if there is one, and the command
pub record Words : Type 0 where
  pub store : Option Text
  pub simple : Text

module _ (ns : Text) where
  -- a storage and a path
  abbrev pub place_text : OpenSite → Text
  place_text p = ns ++ (58 ∷ (store_name p.store ++ (32 ∷ written (path_chunks p))))

  abbrev pub told_words : Text → Text → Words
  told_words h n = record {
    store = None;
    simple = codes "scoreboard players set " ++ (h ++ (32 ∷ (ns ++ (32 ∷ (36 ∷ (40 ∷ (n ++ (41 ∷ []))))))));
  }

  abbrev pub combine_words : Text → Op → Text → Text → Words
  combine_words h op g n = record {
    store = None;
    simple = codes "scoreboard players operation "
        ++ (h ++ (32 ∷ (ns ++ (32 ∷ (op_text op ++ (32 ∷ (g ++ (36 ∷ (40 ∷ (n ++ (41 ∷ (32 ∷ ns))))))))))));
  }

  abbrev pub get_words : Text → OpenSite → Words
  get_words h p = record {
    store = Some (codes "store result score " ++ (h ++ (32 ∷ (ns ++ (32 ∷ [])))));
    simple = codes "data get storage " ++ place_text p;
  }

  abbrev pub put_words : OpenSite → Text → Words
  put_words p h = record {
    store = Some (codes "store result storage " ++ (place_text p ++ codes " int 1 "));
    simple = codes "scoreboard players get " ++ (h ++ (32 ∷ ns));
  }

  abbrev pub from_words : OpenSite → OpenSite → Words
  from_words p q = record {
    store = None;
    simple = codes "data modify storage " ++ (place_text p ++ (codes " set from storage " ++ place_text q));
  }

  abbrev pub set_words : OpenSite → Tree → Words
  set_words p t = record {
    store = None;
    simple = codes "data modify storage " ++ (place_text p ++ (codes " set value " ++ tree_text t));
  }

  abbrev pub to_site_words : OpenSite → Home → Words
  to_site_words p (in_score i) = put_words p (place_name i)
  to_site_words p (in_list k) = from_words p (slot_site k)

  abbrev pub of_site_words : Home → OpenSite → Words
  of_site_words (in_score i) p = get_words (place_name i) p
  of_site_words (in_list k) p = from_words (slot_site k) p

  abbrev pub open_words : OpenAct → Words
  open_words (open_set_spot x n) = told_words (spot_name x) n
  open_words (open_combine x op h n) = combine_words (spot_name x) op h n
  open_words (open_load_site h p) = get_words h p
  open_words (open_keep_site p h) = put_words p h
  open_words (open_place_to_site p i) = to_site_words p (home i)
  open_words (open_site_to_place i p) = of_site_words (home i) p
  open_words (open_set_site p t) = set_words p t
  open_words (open_copy_site p q) = from_words p q

  abbrev pub cond_text : Cond → Text
  cond_text c = sub_text (cond_sub ns c) []

  abbrev pub conds_text : List Cond → Text
  conds_text [] = []
  conds_text (c ∷ []) = cond_text c
  conds_text (c ∷ (d ∷ ds)) = cond_text c ++ conds_text (d ∷ ds)

abbrev pub run_line : Option Text → Text → Text
run_line None s = 36 ∷ s
run_line (Some t) s = codes "$execute " ++ (t ++ (codes "run " ++ s))

abbrev pub when_line : Text → Option Text → Text → Text
when_line c None s = codes "$execute " ++ (c ++ (codes "run " ++ s))
when_line c (Some t) s = codes "$execute " ++ (c ++ (t ++ (codes "run " ++ s)))

-- the line
abbrev pub open_line : Text → OpenStep → Text
open_line ns (closed_step x) = step_text ns x
open_line ns (open_act a) = run_line (open_words ns a).store (open_words ns a).simple
open_line ns (open_when cs a) = when_line (conds_text ns cs) (open_words ns a).store (open_words ns a).simple
