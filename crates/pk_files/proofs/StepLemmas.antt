-- Steps of reading, one after the other, and what each answers.
use Rattle.std.proofs.Common.{◌≡◌, sym, ap, subst, refl, inl, inr, true, false, Option, Some, None, Result, Ok, Err}
use Rattle.std.specs.Prelude.{if◌then◌else◌, IsErr, IsErrAnd}
use Rattle.std.specs.List.{list_any}
use Rattle.std.specs.Str.{bytes_eq}
use Rattle.io_dev.specs.Files.{FilesState}
use Rattle.io_dev.specs.Folder.{Folder}
use Rattle.mc_cmd.specs.Chain.{Texts}
use Rattle.mc_cmd.specs.Form.{Text}
use Rattle.pk_files.specs.Folder.{IsDone, Leaves}
use Rattle.pk_files.specs.Held.{ReadsFile, ReadsForm, listed, said_or}
use Rattle.pk_files.specs.Paths.{at}
use Rattle.pk_files.specs.Step.{Step, ◌>>=◌}
use Rattle.pk_files.specs.declared.fault.GetFault.{GetFault}
use Rattle.pk_files.specs.declared.fault.GetFault.TheVariants as faults
use Rattle.pk_files.specs.steps.Reading.{itself}

-- an error that is known is the whole of the result
pub err_is : {T E : Type 0} (r : Result T E) (e : E) → IsErr r × IsErrAnd r (λ x. x ≡ e) → r ≡ Err e
err_is (Ok x) e h = let f : false ≡ true = h.0 in cc
err_is (Err x) e h = ap Err h.1

-- what holds of the error holds of the result
pub by_error : {T E : Type 0} (P : Result T E → Type 0) (r : Result T E) (e : E) → IsErr r × IsErrAnd r (λ x. x ≡ e) → P (Err e) → P r
by_error P r e h p = subst P (sym (err_is r e h)) p

-- want of memory refuses any step
pub wanting : {X A : Type 0} (v : X → A) (before after : FilesState) (step : Option Folder → Step A) → after ≡ before → IsDone v before after step (Err faults.Memory)
wanting v before after step e = (inl refl, e)

-- a step that is refused ends those after it
pub refused_first : {X Y A B : Type 0} (v : X → A) (w : Y → B) (before after : FilesState) (step : Option Folder → Step A) (next : Option Folder → A → Step B) (fault : GetFault)
    → IsDone v before after step (Err fault) → IsDone w before after (λ content. step content >>= next content) (Err fault)
refused_first v w before after step next fault h = (elim h.0 [ inl m ↦ inl m | inr e ↦ inr (inl e) ], h.1)

-- what the next steps answer is the answer of all
pub goes_on : {X Y A B : Type 0} (v : X → A) (w : Y → B) (before middle after : FilesState) (step : Option Folder → Step A) (next : Option Folder → A → Step B) (x : X) (r : Result Y GetFault)
    → IsDone v before middle step (Ok x) → IsDone w middle after (λ content. next content (v x)) r → IsDone w before after (λ content. step content >>= next content) r
goes_on {Y = Y} v w before middle after step next x r first second =
    go r (subst (λ (f : FilesState). IsDone w f after (λ content. next content (v x)) r) first.1 second)
  where
    go : (r : Result Y GetFault) → IsDone w before after (λ content. next content (v x)) r → IsDone w before after (λ content. step content >>= next content) r
    go (Ok y) h = ((v x, first.0, h.0), h.1)
    go (Err fault) h = (elim h.0 [ inl m ↦ inl m | inr e ↦ inr (inr (v x, first.0, e)) ], h.1)

-- the listing of a form's file
pub unlisted : (names : Texts) (name : Text) (fault : GetFault) → list_any (bytes_eq name) names ≡ false → Err fault ≡ listed names name fault
unlisted names name fault e = ap (λ b. if b then Ok tt else Err fault) (sym e)

pub is_there : (names : Texts) (name : Text) (fault : GetFault) → list_any (bytes_eq name) names ≡ true → Ok tt ≡ listed names name fault
is_there names name fault e = ap (λ b. if b then Ok tt else Err fault) (sym e)

-- a form's file that isn't listed
pub form_unlisted : {X A : Type 0} (v : X → A) (state : FilesState) (dir : Text) (names : Texts) (name : Text) (fault : GetFault) (said : Text → Option A)
    → list_any (bytes_eq name) names ≡ false → Leaves state state fault → IsDone v state state (λ content. ReadsForm content dir names name fault said) (Err fault)
form_unlisted v state dir names name fault said e left = (inr (inl (unlisted names name fault e)), left)

-- one that isn't read
pub form_refused : {X A : Type 0} (v : X → A) (before after : FilesState) (dir : Text) (names : Texts) (name : Text) (fault : GetFault) (said : Text → Option A) (path : Text) (f : GetFault)
    → list_any (bytes_eq name) names ≡ true → path ≡ at dir name → IsDone itself before after (λ content. ReadsFile content path) (Err f)
    → IsDone v before after (λ content. ReadsForm content dir names name fault said) (Err f)
form_refused v before after dir names name fault said path f e at_path h =
    let h' = subst (λ (p : Text). IsDone itself before after (λ content. ReadsFile content p) (Err f)) at_path h in
    (elim h'.0 [ inl m ↦ inl m | inr r ↦ inr (inr (tt, is_there names name fault e, inl r)) ], h'.1)

-- and one that is, whatever it says
pub form_said : {X A : Type 0} (v : X → A) (before after : FilesState) (dir : Text) (names : Texts) (name : Text) (fault : GetFault) (said : Text → Option A) (path bytes : Text) (x : X)
    → list_any (bytes_eq name) names ≡ true → path ≡ at dir name → IsDone itself before after (λ content. ReadsFile content path) (Ok bytes) → said bytes ≡ Some (v x)
    → IsDone v before after (λ content. ReadsForm content dir names name fault said) (Ok x)
form_said v before after dir names name fault said path bytes x e at_path h is =
    let h' = subst (λ (p : Text). IsDone itself before after (λ content. ReadsFile content p) (Ok bytes)) at_path h in
    ((tt, is_there names name fault e, (bytes, h'.0, sym (ap (said_or fault) is))), h'.1)

pub form_unsaid : {X A : Type 0} (v : X → A) (before after : FilesState) (dir : Text) (names : Texts) (name : Text) (fault : GetFault) (said : Text → Option A) (path bytes : Text)
    → list_any (bytes_eq name) names ≡ true → path ≡ at dir name → IsDone itself before after (λ content. ReadsFile content path) (Ok bytes) → said bytes ≡ None → Leaves before after fault
    → IsDone v before after (λ content. ReadsForm content dir names name fault said) (Err fault)
form_unsaid v before after dir names name fault said path bytes e at_path h is left =
    let h' = subst (λ (p : Text). IsDone itself before after (λ content. ReadsFile content p) (Ok bytes)) at_path h in
    (inr (inr (tt, is_there names name fault e, inr (bytes, h'.0, sym (ap (said_or fault) is)))), left)
