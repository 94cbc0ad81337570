-- The lines of scripts that may ask where the program is are read as they are spelled, and what is read is spelled so.
use Rattle.std.proofs.Common.{◌≡◌, refl, ap, ℕ, List, true, Option, Some, None}
use Rattle.std.specs.Option.{option_or}
use Rattle.std.specs.Prelude.{codes, option_map}
use Rattle.std.specs.List.{list_all}
use Rattle.mc_cmd.specs.declared.TheConstants.{BMIN}
use Rattle.mc_cmd.specs.Form.{Text}
use Rattle.mc_cmd.proofs.FormLemmas.{Told, told_some, told_or}
use Rattle.app_words.specs.Act.{Act, LineOf}
use Rattle.app_words.specs.Act as act
use Rattle.app_words.specs.Script.{IsReadAsSpelled, act_text, act_fits, act_read, where_form, is_low, lines, texts_of}
use Rattle.app_words.specs.WhereScript.{where_fits, where_read, where_acts, where_script_read}
use Rattle.app_words.proofs.NumberLemmas.{fixed_is}
use Rattle.app_words.proofs.ScriptLemmas.{act_reads, act_told, lines_fit}

-- what stands in a script that may not ask stands in one that may
fits_where : (least : ℕ) (a : Act) → act_fits least a ≡ true → where_fits least a ≡ true
fits_where least (act.call name args) f = f
fits_where least (act.tick b) f = f
fits_where least (act.ticks n b) f = f
fits_where least (act.reload b) f = f
fits_where least (act.other c) f = f
fits_where least act.show f = f
fits_where least act.globals f = f
fits_where least (act.memory at len) f = f
fits_where least act.dump f = f
fits_where least act.inspect f = refl

where_told : (least : ℕ) (t : Text) → Told act_text (where_fits least) t (where_read least t)
where_told least t = go (act_read least t) (act_told least t)
  where
    rest : Told act_text (where_fits least) t (option_or (option_map (λ u. act.inspect) (where_form.read t)) None)
    rest = told_or act_text (where_fits least) where_form (fixed_is (codes "where")) (λ u. act.inspect) t None (λ x. refl) (λ x. refl) tt

    go : (o : Option Act) → Told act_text (act_fits least) t o
        → Told act_text (where_fits least) t (option_or o (option_or (option_map (λ u. act.inspect) (where_form.read t)) None))
    go None h = rest
    go (Some a) h = (h.0, fits_where least a h.1)

read_so : (least : ℕ) (a : Act) → act_fits least a ≡ true → where_read least (act_text a) ≡ Some a
read_so least a f = ap (λ o. option_or o (option_or (option_map (λ u. act.inspect) (where_form.read (act_text a))) None)) (act_reads least a f)

where_reads : (least : ℕ) (a : Act) → where_fits least a ≡ true → where_read least (act_text a) ≡ Some a
where_reads least act.inspect f = refl
where_reads least (act.call name args) f = read_so least (act.call name args) f
where_reads least (act.tick b) f = read_so least (act.tick b) f
where_reads least (act.ticks n b) f = read_so least (act.ticks n b) f
where_reads least (act.reload b) f = read_so least (act.reload b) f
where_reads least (act.other c) f = read_so least (act.other c) f
where_reads least act.show f = refl
where_reads least act.globals f = refl
where_reads least (act.memory at len) f = read_so least (act.memory at len) f
where_reads least act.dump f = refl

pub where_are_spelled : (least : ℕ) → IsReadAsSpelled (where_acts least)
where_are_spelled least = record {
  reads = where_reads least;
  spells = λ t a h. told_some act_text (where_fits least) t a _ h (where_told least t);
}

-- the acts of a script that may ask fit
pub where_script_fits : (t : Text) (ls : List (LineOf Act)) → where_script_read t ≡ lines ls → list_all (λ l. where_fits BMIN l.act) ls ≡ true
where_script_fits t ls h =
    lines_fit (where_read BMIN) (is_low BMIN) (where_fits BMIN) (λ t a e. ((where_are_spelled BMIN).spells t a e).1) 1 (texts_of t) ls h
