-- The words of the command line name a job exactly where they are its words.
use Rattle.std.proofs.Common.{◌≡◌, ◌≢◌, ◌∙◌, ℕ, ◌^◌, ◌≤◌, ap, sym, refl, List, [], ◌∷◌, Bool, true, false, Option, Some, None, arith}
use Rattle.std.specs.Prelude.{codes, ◌&&◌, length, nat_le, option_map, if◌then◌else◌}
use Rattle.std.specs.Fmt.{decimal}
use Rattle.std.specs.Str.{bytes_eq}
use Rattle.std.proofs.lemmas.Slice.Eq.{bytes_eq-Decides}
use Rattle.mc_cmd.specs.Form.{Text}
use Rattle.mc_cmd.specs.Packing.{is_pack_namespace}
use Rattle.std.proofs.lemmas.Bool.{lt-ltb, leb-true}
use Rattle.mc_cmd.proofs.FormLemmas.{IsLast, and_first, and_second, and_both, map_some}
use Rattle.app_words.specs.Script.{digits, has_few_digits}
use Rattle.app_words.proofs.NumberLemmas.{limited_is, digits_is}
use Rattle.app_words.specs.Words.{is_workload_number, is_workload_size, is_library_count, is_program_count, pair_words, job_words, job_fits}
use Rattle.app_words.specs.steps.WordsReading.{workload_number, workload_size, gen_of, pairs_read, join_of, multi_of, single_of, job_of}
use Rattle.app_words.specs.declared.command_line.Job.{Job}
use Rattle.app_words.specs.declared.command_line.Job.TheVariants as jobs
use Rattle.app_words.specs.declared.named_files.NamedFile.{NamedFile}

-- what is told where a test passes
told : {A : Type 0} (b : Bool) (x y : A) → (if b then Some x else None) ≡ Some y → (b ≡ true) × (x ≡ y)
told true x y h = (refl, cc)
told false x y h = absurd cc

-- the forms of numbers and sizes
number_is : IsLast workload_number
number_is = limited_is digits is_workload_number digits_is

size_is : IsLast workload_size
size_is = limited_is digits is_workload_size digits_is

few_64 : (n : ℕ) → is_workload_number n ≡ true → has_few_digits n ≡ true
few_64 n h = let le : n ≤ 18446744073709551615 = leb-true _ _ h in lt-ltb n (10 ^ 20) (omega arith)

few_1000 : (n : ℕ) → is_workload_size n ≡ true → has_few_digits n ≡ true
few_1000 n h = let le : n ≤ 1000 = leb-true _ _ (and_second (nat_le 1 n) _ h) in lt-ltb n (10 ^ 20) (omega arith)

-- the words of a job of a number and a size
gen_named : (number size file dir : Text) (a b : Option ℕ) (job : Job) → workload_number.read number ≡ a → workload_size.read size ≡ b → gen_of file dir a b ≡ Some job
    → ((codes "gen" ∷ number ∷ size ∷ file ∷ dir ∷ []) ≡ job_words job) × (job_fits job ≡ true)
gen_named number size file dir None b job e f h = absurd cc
gen_named number size file dir (Some n) None job e f h = absurd cc
gen_named number size file dir (Some n) (Some s) job e f h =
    let same : jobs.Gen n s file dir ≡ job = cc in
    let first = number_is.spells number n e in
    let second = size_is.spells size s f in (
      ap (λ w. codes "gen" ∷ w ∷ size ∷ file ∷ dir ∷ []) first.0 ∙ ap (λ w. codes "gen" ∷ decimal n ∷ w ∷ file ∷ dir ∷ []) second.0 ∙ ap job_words same,
      ap job_fits (sym same) ∙ and_both _ _ (and_second (has_few_digits n) _ first.1) (and_second (has_few_digits s) _ second.1),
    )

-- the words of names and files
pairs_read_back : (ls : List NamedFile) → pairs_read (pair_words ls) ≡ Some ls
pairs_read_back [] = refl
pairs_read_back (l ∷ ls) = ap (option_map (λ ks. l ∷ ks)) (pairs_read_back ls)

pairs_spelled : (words : List Text) (ls : List NamedFile) → pairs_read words ≡ Some ls → words ≡ pair_words ls
pairs_spelled [] ls h = let same : [] ≡ ls = cc in ap pair_words same
pairs_spelled (w ∷ []) ls h = absurd cc
pairs_spelled (name ∷ file ∷ words) ls h =
    let q = map_some (λ ks. record { name = name; file = file } ∷ ks) (pairs_read words) ls h in
    ap (λ ws. name ∷ file ∷ ws) (pairs_spelled words q.0 q.1) ∙ ap pair_words q.2

-- the words of a job of a module and libraries
join_named : (file dir ns script : Text) (words : List Text) (o : Option (List NamedFile)) (job : Job) → is_pack_namespace ns ≡ true → pairs_read words ≡ o
    → join_of file dir ns script o ≡ Some job → ((codes "join" ∷ file ∷ dir ∷ ns ∷ script ∷ words) ≡ job_words job) × (job_fits job ≡ true)
join_named file dir ns script words None job n e h = absurd cc
join_named file dir ns script words (Some ls) job n e h =
    let t = told (is_library_count (length ls)) (jobs.Join file dir ns script ls) job h in
    (ap (λ ws. codes "join" ∷ file ∷ dir ∷ ns ∷ script ∷ ws) (pairs_spelled words ls e) ∙ ap job_words t.1, ap job_fits (sym t.1) ∙ and_both _ _ n t.0)

-- the words of a job that fits are read as it
job_read : (job : Job) → job_fits job ≡ true → job_of (job_words job) ≡ Some job
job_read (jobs.Multi script dirs) h = ap (λ b. if b then Some (jobs.Multi script dirs) else None) h
job_read (jobs.Compile file dir ns) h =
    ap (λ b. if b then Some (jobs.Compile file dir ns) else if bytes_eq (codes "compile") (codes "costs") && is_pack_namespace ns then Some (jobs.Costs file dir ns) else None) h
job_read (jobs.Costs file dir ns) h = ap (λ b. if b then Some (jobs.Costs file dir ns) else None) h
job_read (jobs.Run dir script) h = refl
job_read (jobs.Exec file dir ns script) h = ap (λ b. if b then Some (jobs.Exec file dir ns script) else None) h
job_read (jobs.Inspect file dir ns script) h = ap (λ b. if b then Some (jobs.Inspect file dir ns script) else None) h
job_read (jobs.Gen number size file dir) h =
    let first : workload_number.read (decimal number) ≡ Some number = number_is.reads number (and_both _ _ (few_64 number (and_first _ _ h)) (and_first _ _ h)) in
    let second : workload_size.read (decimal size) ≡ Some size = size_is.reads size (and_both _ _ (few_1000 size (and_second (is_workload_number number) _ h)) (and_second (is_workload_number number) _ h)) in
    ap (λ o. gen_of file dir o (workload_size.read (decimal size))) first ∙ ap (gen_of file dir (Some number)) second
job_read (jobs.Join file dir ns script []) h = let count : is_library_count 0 ≡ true = and_second (is_pack_namespace ns) _ h in absurd cc
job_read (jobs.Join file dir ns script (l ∷ ls)) h =
    let count : is_library_count (length (l ∷ ls)) ≡ true = and_second (is_pack_namespace ns) _ h in
    ap (λ b. if b then join_of file dir ns script (pairs_read (pair_words (l ∷ ls))) else None) (and_first _ _ h)
    ∙ ap (join_of file dir ns script) (pairs_read_back (l ∷ ls))
    ∙ ap (λ b. if b then Some (jobs.Join file dir ns script (l ∷ ls)) else None) count

pub no_job_named : (words : List Text) → job_of words ≡ None → (job : Job) → job_fits job ≡ true → words ≢ job_words job
no_job_named words h job fits e =
    let read : job_of words ≡ Some job = ap job_of e ∙ job_read job fits in
    cc

single_named : (words : List Text) (job : Job) → single_of words ≡ Some job → (words ≡ job_words job) × (job_fits job ≡ true)
single_named [] job h = absurd cc
single_named (a ∷ []) job h = absurd cc
single_named (a ∷ b ∷ []) job h = absurd cc
single_named (form ∷ dir ∷ script ∷ []) job h =
    let t = told (bytes_eq form (codes "run")) (jobs.Run dir script) job h in
    (ap (λ f. f ∷ dir ∷ script ∷ []) ((bytes_eq-Decides form (codes "run")).0 t.0) ∙ ap job_words t.1, ap job_fits (sym t.1))
single_named (form ∷ file ∷ dir ∷ ns ∷ []) job h = go (bytes_eq form (codes "compile") && is_pack_namespace ns) refl h
  where
    go : (b : Bool) → (bytes_eq form (codes "compile") && is_pack_namespace ns) ≡ b
        → (if b then Some (jobs.Compile file dir ns) else if bytes_eq form (codes "costs") && is_pack_namespace ns then Some (jobs.Costs file dir ns) else None) ≡ Some job
        → ((form ∷ file ∷ dir ∷ ns ∷ []) ≡ job_words job) × (job_fits job ≡ true)
    go true e k =
        let same : jobs.Compile file dir ns ≡ job = cc in
        (ap (λ f. f ∷ file ∷ dir ∷ ns ∷ []) ((bytes_eq-Decides form (codes "compile")).0 (and_first _ _ e)) ∙ ap job_words same, ap job_fits (sym same) ∙ and_second (bytes_eq form (codes "compile")) _ e)
    go false e k =
        let t = told (bytes_eq form (codes "costs") && is_pack_namespace ns) (jobs.Costs file dir ns) job k in
        (ap (λ f. f ∷ file ∷ dir ∷ ns ∷ []) ((bytes_eq-Decides form (codes "costs")).0 (and_first _ _ t.0)) ∙ ap job_words t.1, ap job_fits (sym t.1) ∙ and_second (bytes_eq form (codes "costs")) _ t.0)
single_named (form ∷ file ∷ dir ∷ ns ∷ script ∷ []) job h = go (bytes_eq form (codes "exec") && is_pack_namespace ns) refl h
  where
    of_gen : (b : Bool) → bytes_eq form (codes "gen") ≡ b → (if b then gen_of ns script (workload_number.read file) (workload_size.read dir) else None) ≡ Some job
        → ((form ∷ file ∷ dir ∷ ns ∷ script ∷ []) ≡ job_words job) × (job_fits job ≡ true)
    of_gen true e k =
        let named = gen_named file dir ns script (workload_number.read file) (workload_size.read dir) job refl refl k in
        (ap (λ f. f ∷ file ∷ dir ∷ ns ∷ script ∷ []) ((bytes_eq-Decides form (codes "gen")).0 e) ∙ named.0, named.1)
    of_gen false e k = absurd cc

    of_inspect : (b : Bool) → (bytes_eq form (codes "inspect") && is_pack_namespace ns) ≡ b
        → (if b then Some (jobs.Inspect file dir ns script) else if bytes_eq form (codes "gen") then gen_of ns script (workload_number.read file) (workload_size.read dir) else None) ≡ Some job
        → ((form ∷ file ∷ dir ∷ ns ∷ script ∷ []) ≡ job_words job) × (job_fits job ≡ true)
    of_inspect true e k =
        let same : jobs.Inspect file dir ns script ≡ job = cc in
        (ap (λ f. f ∷ file ∷ dir ∷ ns ∷ script ∷ []) ((bytes_eq-Decides form (codes "inspect")).0 (and_first _ _ e)) ∙ ap job_words same, ap job_fits (sym same) ∙ and_second (bytes_eq form (codes "inspect")) _ e)
    of_inspect false e k = of_gen (bytes_eq form (codes "gen")) refl k

    go : (b : Bool) → (bytes_eq form (codes "exec") && is_pack_namespace ns) ≡ b
        → (if b then Some (jobs.Exec file dir ns script) else if bytes_eq form (codes "inspect") && is_pack_namespace ns then Some (jobs.Inspect file dir ns script) else if bytes_eq form (codes "gen") then gen_of ns script (workload_number.read file) (workload_size.read dir) else None) ≡ Some job
        → ((form ∷ file ∷ dir ∷ ns ∷ script ∷ []) ≡ job_words job) × (job_fits job ≡ true)
    go true e k =
        let same : jobs.Exec file dir ns script ≡ job = cc in
        (ap (λ f. f ∷ file ∷ dir ∷ ns ∷ script ∷ []) ((bytes_eq-Decides form (codes "exec")).0 (and_first _ _ e)) ∙ ap job_words same, ap job_fits (sym same) ∙ and_second (bytes_eq form (codes "exec")) _ e)
    go false e k = of_inspect (bytes_eq form (codes "inspect") && is_pack_namespace ns) refl k
single_named (form ∷ file ∷ dir ∷ ns ∷ script ∷ word ∷ words) job h = go (bytes_eq form (codes "join") && is_pack_namespace ns) refl h
  where
    go : (b : Bool) → (bytes_eq form (codes "join") && is_pack_namespace ns) ≡ b
        → (if b then join_of file dir ns script (pairs_read (word ∷ words)) else None) ≡ Some job
        → ((form ∷ file ∷ dir ∷ ns ∷ script ∷ word ∷ words) ≡ job_words job) × (job_fits job ≡ true)
    go true e k =
        let named = join_named file dir ns script (word ∷ words) (pairs_read (word ∷ words)) job (and_second (bytes_eq form (codes "join")) _ e) refl k in
        (ap (λ f. f ∷ file ∷ dir ∷ ns ∷ script ∷ word ∷ words) ((bytes_eq-Decides form (codes "join")).0 (and_first _ _ e)) ∙ named.0, named.1)
    go false e k = absurd cc

-- the words of several programs
multi_named : (script : Text) (dirs : List Text) (job : Job) → multi_of script dirs ≡ Some job → ((codes "multi" ∷ script ∷ dirs) ≡ job_words job) × (job_fits job ≡ true)
multi_named script dirs job h =
    let t = told (is_program_count (length dirs)) (jobs.Multi script dirs) job h in
    (ap job_words t.1, ap job_fits (sym t.1) ∙ t.0)

pub job_named : (words : List Text) (job : Job) → job_of words ≡ Some job → (words ≡ job_words job) × (job_fits job ≡ true)
job_named [] job h = absurd cc
job_named (a ∷ []) job h = absurd cc
job_named (form ∷ script ∷ dirs) job h = go (bytes_eq form (codes "multi")) refl h
  where
    go : (b : Bool) → bytes_eq form (codes "multi") ≡ b → (if b then multi_of script dirs else single_of (form ∷ script ∷ dirs)) ≡ Some job
        → ((form ∷ script ∷ dirs) ≡ job_words job) × (job_fits job ≡ true)
    go true e k =
        let named = multi_named script dirs job k in
        (ap (λ f. f ∷ script ∷ dirs) ((bytes_eq-Decides form (codes "multi")).0 e) ∙ named.0, named.1)
    go false e k = single_named (form ∷ script ∷ dirs) job k
