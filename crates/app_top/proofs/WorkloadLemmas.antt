-- The workload: its module, its file and the call of its `main`.
use Rattle.std.proofs.Common.{◌≡◌, ◌∙◌, sym, ap, refl, subst, ℕ, zero, suc, ◌+◌, ◌≤◌, List, [], ◌∷◌, ◌++◌, length, map, replicate, Bool, true, false, Option, Some, None, inl, inr, ◌⊎◌, codes, arith, lit≤, pos, negsuc}
use Rattle.std.specs.Prelude.{is_some, slice_get, if◌then◌else◌}
use Rattle.std.specs.FinMap.{get, get-insert}
use Rattle.std.specs.List.{AllByRecursion}
use Rattle.std.specs.Option.{option_or}
use Rattle.std.specs.Str.{bytes_eq}
use Rattle.std.specs.Cmp.Lexicographic.{nat_list_cmp_total}
use Rattle.std.proofs.lemmas.Bool.{eqb-true}
use Rattle.std.proofs.lemmas.Map.Text.{is_eq-slice_cmp}
use Rattle.std.proofs.lemmas.Slice.Eq.{bytes_eq-Decides}
use Rattle.io_dev.specs.Folder.{Folder, IsFile, with_file}
use Rattle.io_dev.specs.Names.{IsListing, IsListingOf, first_part}
use Rattle.mc_nbt.specs.Tree.{Tree, int, string, list, compound}
use Rattle.mc_nbt.specs.declared.value.Kind.{Kind}
use Rattle.mc_cmd.specs.Chain.{Texts}
use Rattle.mc_cmd.specs.Form.{Text}
use Rattle.mc_cmd.specs.Layout.{Answer, answer, answer_in, dead, io_value, trap_in}
use Rattle.mc_cmd.specs.Pack.{ExportType, Index, IsCallOf, Lawful, Pack, Standing, after_events, happen, loaded, play, tick}
use Rattle.mc_cmd.proofs.FormLemmas.{bytes_refl}
use Rattle.pk_files.specs.Paths.{at, function_file, tag_file}
use Rattle.pk_files.specs.Put.{File, function_files, last_files, pack_files, put_all}
use Rattle.pk_files.specs.Told.{Told}
use Rattle.pk_files.proofs.HeldLemmas.{contains_none}
use Rattle.pk_files.proofs.WrittenLemmas.{at_at, get-inserts, inserts, put_all-told, put_at, put_at-append, this_one}
use Rattle.pk_agree.specs.Agree.{Agrees, AreExports, IsExport, TellsOfJob, function_exports}
use Rattle.pk_agree.specs.Job.{AfterEvents, Job, first_job}
use Rattle.wm_ast.specs.declared.answer.TrapKind.{TrapKind}
use Rattle.wm_ast.specs.declared.module.FuncType.{FuncType}
use Rattle.wm_ast.specs.declared.module.Module.{Module}
use Rattle.wm_ast.specs.After.{after}
use Rattle.wm_ast.specs.Configuration.{Config}
use Rattle.wm_ast.specs.Instance.{first_config, first_store}
use Rattle.wm_ast.specs.Operation.{kind_type}
use Rattle.wm_ast.specs.Spelling.{Spells}
use Rattle.wm_ast.specs.Step.{Ended, Trapped}
use Rattle.wm_ast.specs.Store.{Store}
use Rattle.wm_ast.specs.Types.{function_type}
use Rattle.wm_flat.specs.FlatTyping.{IsFunction}
use Rattle.wm_flat.proofs.Consequences.{over_stays}
use Rattle.wm_gen.specs.Workload.{export_main, functions, main, to_i64, workload}
use Rattle.wm_gen.proofs.CodeLaws.{length_functions}
use Rattle.wm_gen.proofs.ModuleLaws.{is_typed}
use Rattle.app_words.specs.Report.{answer_of, is_dead, is_four}
use Rattle.app_words.specs.Workload.{CanCallMain, is_running, most_ticks, started, tick_budget, waited}
use Rattle.app_workload.specs.Reduced.{HasMain}
use Rattle.app_top.specs.Source.{HasModule}

-- ---- the module

pub has_workload : (bytes : Text) (number size : ℕ) → size ≤ 1000 → Spells bytes (workload number size) → HasModule bytes (workload number size)
has_workload bytes number size most h =
    let typed = is_typed number size most in
    record { spells = h; in_profile = typed.profile; valid = typed.valid; low = typed.low }

-- the item behind a list
last_at : {A : Type 0} (xs : List A) (x : A) (n : ℕ) → length xs ≡ n → slice_get (xs ++ x ∷ []) n ≡ Some x
last_at [] x zero e = refl
last_at [] x (suc n) e = absurd cc
last_at (y ∷ xs) x zero e = absurd cc
last_at (y ∷ xs) x (suc n) e = let f : length xs ≡ n = cc in last_at xs x n f

main_there : (number size : ℕ) → slice_get (workload number size).funcs size ≡ Some (main size)
main_there number size = last_at (functions number size) (main size) size (length_functions number size)

pub has_main : (number size : ℕ) → HasMain (workload number size)
has_main number size =
    let function : IsFunction (workload number size) size (main size) to_i64 = record { there = main_there number size; has_type = refl } in
    record {
      func = size;
      calls = record { exported = refl; takes = record { func = main size; type = to_i64; is_function = function; types = refl } };
      no_start = refl;
    }

-- ---- the file

-- a path that stands below a folder
record IsBelow (dir path : Text) : Type 0 where
  rest : Text
  is_below : path ≡ at dir rest
  has_rest : rest ≡ [] → ⊥

functions_below : (dir ns : Text) (fs : List (Text × Texts)) → AllByRecursion (λ f. IsBelow dir f.0) (function_files dir ns fs)
functions_below dir ns [] = tt
functions_below dir ns (f ∷ fs) = (
  record {
    rest = (codes "data/" ++ (ns ++ codes "/functions")) ++ (47 ∷ function_file f.0);
    is_below = at_at dir (codes "data/" ++ (ns ++ codes "/functions")) (function_file f.0);
    has_rest = λ e. cc;
  },
  functions_below dir ns fs,
)

last_below : (dir : Text) (i : Index) → AllByRecursion (λ f. IsBelow dir f.0) (last_files dir i)
last_below dir i = (tag (codes "load"), (tag (codes "tick"), (record { rest = codes "dpwasm.json"; is_below = refl; has_rest = λ e. cc }, (record { rest = codes "pack.mcmeta"; is_below = refl; has_rest = λ e. cc }, tt))))
  where
    tag : (name : Text) → IsBelow dir (at (at dir (codes "data/minecraft/tags/functions")) (tag_file name))
    tag name = record {
      rest = codes "data/minecraft/tags/functions" ++ (47 ∷ tag_file name);
      is_below = at_at dir (codes "data/minecraft/tags/functions") (tag_file name);
      has_rest = λ e. cc;
    }

-- a path that isn't below the folder is none of such files
put_elsewhere : (dir q : Text) (fs : List File) → AllByRecursion (λ f. IsBelow dir f.0) fs → ((rest : Text) → (rest ≡ [] → ⊥) → q ≡ at dir rest → ⊥) → put_at fs q ≡ None
put_elsewhere dir q [] h apart = refl
put_elsewhere dir q (f ∷ fs) h apart =
    ap (λ o. option_or o (this_one (bytes_eq q f.0) f.1)) (put_elsewhere dir q fs h.1 apart)
    ∙ ap (λ b. this_one b f.1) (go (bytes_eq q f.0) refl)
  where
    go : (b : Bool) → bytes_eq q f.0 ≡ b → b ≡ false
    go true e = absurd (apart h.0.rest h.0.has_rest ((bytes_eq-Decides q f.0).0 e ∙ h.0.is_below))
    go false e = refl

-- where a folder shows no name, a file that stands isn't below it
stands_still : (m : Folder) (dir q bytes : Text) (t : Told) → get m q ≡ Some bytes → IsListing m dir [] → get (inserts m (pack_files dir t)) q ≡ Some bytes
stands_still m dir q bytes t e bare =
    get-inserts m (pack_files dir t) q
    ∙ ap (λ o. option_or o (get m q)) (put_at-append own rest q ∙ ap (λ o. option_or o (put_at own q)) (put_elsewhere dir q rest (last_below dir t.index) apart) ∙ put_elsewhere dir q own (functions_below dir t.index.ns t.functions) apart)
    ∙ e
  where
    own : List File
    own = function_files dir t.index.ns t.functions

    rest : List File
    rest = last_files dir t.index

    apart : (below : Text) → (below ≡ [] → ⊥) → q ≡ at dir below → ⊥
    apart below some is =
        contains_none (first_part below) ((bare (first_part below)).1 (q, ap is_some e, record { rest = below; is_below = is; has_rest = some; is_first = refl }))

put_none : (fs : List File) → put_all None fs ≡ None
put_none [] = refl
put_none (f ∷ fs) = put_none fs

-- a file that was put stands, and still does after a pack was put into an empty folder
pub file_put : (content : Option Folder) (path bytes : Text) → IsFile (with_file content path bytes) path bytes
file_put None path bytes = tt
file_put (Some folder) path bytes =
    get-insert nat_list_cmp_total folder path bytes path
    ∙ ap (λ b. if b then Some bytes else get folder path) (is_eq-slice_cmp path path ∙ bytes_refl path)

pub file_stays : (content : Option Folder) (dir path bytes : Text) (t : Told) → IsFile content path bytes → IsListingOf content dir [] → IsFile (put_all content (pack_files dir t)) path bytes
file_stays None dir path bytes t h bare = subst (λ (o : Option Folder). IsFile o path bytes) (sym (put_none (pack_files dir t))) tt
file_stays (Some folder) dir path bytes t h bare =
    subst (λ (o : Option Folder). IsFile o path bytes) (sym (put_all-told folder (pack_files dir t))) (stands_still folder dir path bytes t h bare)

-- ---- the call

-- ticks that are waited for are so many events
waited_events : (pack : Pack) (n : ℕ) (s : Standing) → (k : ℕ) × (waited pack n s ≡ after_events pack (replicate k (tick tick_budget)) s)
unfolding waited
waited_events pack zero s = (0, refl)
waited_events pack (suc n) s = go (is_running (answer_of pack s)) (waited_events pack n (happen pack s (tick tick_budget)))
  where
    go : (b : Bool) → ((k : ℕ) × (waited pack n (happen pack s (tick tick_budget)) ≡ after_events pack (replicate k (tick tick_budget)) (happen pack s (tick tick_budget))))
        → (k : ℕ) × ((if b then waited pack n (happen pack s (tick tick_budget)) else s) ≡ after_events pack (replicate k (tick tick_budget)) s)
    go true later = (suc later.0, later.1)
    go false later = (0, refl)

ticks_lawful : (index : Index) (k : ℕ) → Lawful index (replicate k (tick tick_budget))
ticks_lawful index zero = tt
ticks_lawful index (suc k) = ((lit≤ tt, lit≤ tt), ticks_lawful index k)

-- ticks leave the configuration of a job, and whether it is instantiation
after_ticks : (m : Module) (pack : Pack) (s : Standing) (j i : Job) (k : ℕ) → AfterEvents m pack s j (replicate k (tick tick_budget)) i → (i.config ≡ j.config) × (i.instantiates ≡ j.instantiates)
after_ticks m pack s j i zero h = (ap (λ (x : Job). x.config) h, ap (λ (x : Job). x.instantiates) h)
after_ticks m pack s j i (suc k) (x, e, h) =
    let later = after_ticks m pack (happen pack s (tick tick_budget)) x i k h in
    (later.0 ∙ ap (λ (y : Job). y.config) e, later.1 ∙ ap (λ (y : Job). y.instantiates) e)

-- the instantiation of a workload doesn't trap
no_trap : (number size n : ℕ) (k : TrapKind) (s : Store) → after (workload number size) (first_config (workload number size)) n ≡ Trapped k s → ⊥
no_trap number size n k s e =
    let z : 0 + n ≡ n = omega arith in
    let ended : after (workload number size) (first_config (workload number size)) n ≡ Ended [] (first_store (workload number size)) =
    ap (after (workload number size) (first_config (workload number size))) (sym z) ∙ over_stays (workload number size) (first_config (workload number size)) (Ended [] (first_store (workload number size))) 0 n refl refl in
    let bad : Ended [] (first_store (workload number size)) ≡ Trapped k s = sym ended ∙ e in
    absurd cc

-- a pack in state 4 answers that it is dead, or nothing of the layout
dead_answer : (o : Option Tree) → (a : Option Answer) → a ≡ trap_in dead o → (a ≡ None) ⊎ ((n : ℕ) × (a ≡ Some (dead n)))
dead_answer o None e = inl refl
dead_answer None (Some x) e = absurd cc
dead_answer (Some (int (pos k))) (Some x) e = go _ e
  where
    go : (b : Bool) → Some x ≡ (if b then Some (dead k) else None) → (Some x ≡ None) ⊎ ((n : ℕ) × (Some x ≡ Some (dead n)))
    go true h = inr (k, h)
    go false h = absurd cc
dead_answer (Some (int (negsuc k))) (Some x) e = absurd cc
dead_answer (Some (string t)) (Some x) e = absurd cc
dead_answer (Some (list ts)) (Some x) e = absurd cc
dead_answer (Some (compound fs)) (Some x) e = absurd cc

four_int : (o : Option Tree) → is_four o ≡ true → o ≡ Some (int (pos 4))
four_int None h = absurd cc
four_int (Some (int (pos n))) h = ap (λ k. Some (int (pos k))) (eqb-true n 4 h)
four_int (Some (int (negsuc n))) h = absurd cc
four_int (Some (string t)) h = absurd cc
four_int (Some (list ts)) h = absurd cc
four_int (Some (compound fs)) h = absurd cc

not_dead : (number size : ℕ) (pack : Pack) → Agrees (workload number size) pack → (k : ℕ) → is_dead pack (play pack (replicate k (tick tick_budget))) ≡ false
not_dead number size pack agrees k = go (is_dead pack (play pack (replicate k (tick tick_budget)))) refl
  where
    told : (j : Job) → (j.config ≡ first_config (workload number size)) → (a : Option Answer) → (a ≡ None) ⊎ ((n : ℕ) × (a ≡ Some (dead n))) → TellsOfJob (workload number size) pack.index.ns (play pack (replicate k (tick tick_budget))).world j a → ⊥
    told j c a (inl e) h =
        let none : TellsOfJob (workload number size) pack.index.ns (play pack (replicate k (tick tick_budget))).world j None = subst (λ (x : Option Answer). TellsOfJob (workload number size) pack.index.ns (play pack (replicate k (tick tick_budget))).world j x) e h in
        none
    told j c a (inr (n, e)) h =
        let tells : TellsOfJob (workload number size) pack.index.ns (play pack (replicate k (tick tick_budget))).world j (Some (dead n)) = subst (λ (x : Option Answer). TellsOfJob (workload number size) pack.index.ns (play pack (replicate k (tick tick_budget))).world j x) e h in
        let came = tells.4.outcome in
        no_trap number size came.0 tells.1 tells.2 (ap (λ (x : Config). after (workload number size) x came.0) (sym c) ∙ came.1)

    go : (b : Bool) → is_dead pack (play pack (replicate k (tick tick_budget))) ≡ b → b ≡ false
    go false e = refl
    go true e =
        let job = agrees.always (replicate k (tick tick_budget)) (ticks_lawful pack.index k) in
        let same = after_ticks (workload number size) pack (loaded pack) (first_job (workload number size)) job.0 k job.1 in
        let state = four_int (io_value pack.index.ns (play pack (replicate k (tick tick_budget))).world (codes "state")) e in
        absurd (told job.0 same.0 (answer pack.index.ns (play pack (replicate k (tick tick_budget))).world) (dead_answer (io_value pack.index.ns (play pack (replicate k (tick tick_budget))).world (codes "trap")) (answer pack.index.ns (play pack (replicate k (tick tick_budget))).world) (ap (answer_in pack.index.ns (play pack (replicate k (tick tick_budget))).world) state)) job.2.tells)

some_is : {A : Type 0} (a b : A) → Some a ≡ Some b → a ≡ b
some_is a b e = cc

no_kinds : (ks : List Kind) → map kind_type ks ≡ [] → ks ≡ []
no_kinds [] e = refl
no_kinds (k ∷ ks) e = absurd cc

takes_nothing : (number size : ℕ) (x : ExportType) → IsExport (workload number size) (export_main size) x → IsCallOf (Some x) []
takes_nothing number size x h =
    let func : h.func ≡ main size = some_is h.func (main size) (sym h.is_function.there ∙ main_there number size) in
    let type : h.type ≡ to_i64 = some_is h.type to_i64 (sym h.is_function.has_type ∙ ap (function_type (workload number size)) func) in
    (sym (no_kinds x.params (h.params ∙ ap (λ (t : FuncType). t.params) type)), refl)

first_is_main : (number size : ℕ) (xs : List ExportType) → AreExports (workload number size) (function_exports (workload number size)) xs → IsCallOf (slice_get xs 0) []
first_is_main number size [] h = absurd h
first_is_main number size (x ∷ []) h = takes_nothing number size x h.0
first_is_main number size (x ∷ y ∷ xs) h = absurd h.1

-- `main` of a pack that agrees with a workload can be called
pub can_call_main : (number size : ℕ) (pack : Pack) → Agrees (workload number size) pack → CanCallMain pack (started pack)
can_call_main number size pack agrees =
    let ticks = waited_events pack most_ticks (loaded pack) in
    (first_is_main number size pack.index.exports agrees.exports, ap (is_dead pack) ticks.1 ∙ not_dead number size pack agrees ticks.0)
