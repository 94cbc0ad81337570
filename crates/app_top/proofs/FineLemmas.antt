-- Parts of a run that did all, or ended for want of memory.
use Rattle.std.proofs.Common.{◌≡◌, ◌⊎◌, ◌∙◌, sym, ap, subst, refl, ◌∷◌, Ok, Err, Option, Some, None, inl, inr, true, false}
use Rattle.io_dev.specs.Faults.{Rose}
use Rattle.io_dev.specs.Folder.{Folder}
use Rattle.io_dev.specs.Names.{IsListing, IsListingOf}
use Rattle.io_dev.specs.Sink.{SinkState}
use Rattle.mc_cmd.specs.Chain.{Texts}
use Rattle.mc_cmd.specs.Form.{Text}
use Rattle.mc_cmd.specs.Packing.{Written}
use Rattle.wm_ast.specs.declared.module.Module.{Module}
use Rattle.wm_ast.specs.Profile.{InProfile}
use Rattle.wm_ast.specs.Spelling.{Spells}
use Rattle.wm_decode.specs.declared.decoding.DecodeFault.{DecodeFault}
use Rattle.wm_decode.specs.declared.decoding.DecodeFault.TheVariants as decodes
use Rattle.wm_decode.proofs.DecodeLaws.{only_decoding, same_module}
use Rattle.wm_profile.specs.declared.fault.ProfileFault.{ProfileFault}
use Rattle.wm_profile.specs.Cause.{first_fault}
use Rattle.wm_profile.proofs.Deciding.{no_fault}
use Rattle.wm_valid.specs.declared.valid_fault.ValidFault.{ValidFault}
use Rattle.wm_valid.specs.declared.valid_fault.ValidFault.TheVariants as valids
use Rattle.wm_valid.specs.Height.{Low}
use Rattle.wm_valid.specs.Valid.{Valid}
use Rattle.wm_valid.proofs.AnswerLaws.{no_cause}
use Rattle.pk_files.specs.Folder.{IsPackWritten, IsSeen}
use Rattle.pk_files.specs.Held.{is_told}
use Rattle.pk_files.specs.declared.fault.GetFault.{GetFault}
use Rattle.pk_files.specs.declared.fault.GetFault.TheVariants as gets
use Rattle.pk_files.specs.declared.fault.PutFault.{PutFault}
use Rattle.pk_files.specs.declared.fault.PutFault.TheVariants as puts
use Rattle.pk_files.proofs.HeldLemmas.{contains_first, contains_none}
use Rattle.app_top.specs.Complete.{IsEmpty, IsFaultless}
use Rattle.app_top.specs.Outside.{Outside}
use Rattle.app_top.specs.Refusal.{of_put}
use Rattle.app_top.specs.Source.{IsInvalid, IsNotDecoded, IsNotInProfile, IsNotValid}
use Rattle.app_top.specs.Jobs.{End, IsSaid, IsUndelivered, IsUnread, IsUnseen}
use Rattle.app_top.specs.declared.refusal.Refusal.TheVariants as refusals

-- a run that did all, or ended for want of memory
abbrev pub IsFine : End → Type 0
IsFine r = (r ≡ Ok tt) ⊎ (r ≡ Err refusals.Memory)

pub none_some : {A : Type 0} (x : A) → ◌≡◌ {A = Option A} None (Some x) → ⊥
none_some x e = cc

pub true_false : true ≡ false → ⊥
true_false e = cc

-- ---- a module that is built isn't refused

pub not_undecoded : (bytes : Text) (m : Module) (fault : DecodeFault) → Spells bytes m → IsNotDecoded bytes fault → ⊥
not_undecoded bytes m (decodes.Frame f) s h = let e : decodes.Frame f ≡ decodes.Memory = only_decoding bytes (Err (decodes.Frame f)) h m s in cc
not_undecoded bytes m (decodes.BadSection n) s h = let e : decodes.BadSection n ≡ decodes.Memory = only_decoding bytes (Err (decodes.BadSection n)) h m s in cc
not_undecoded bytes m (decodes.CountMismatch f b) s h = let e : decodes.CountMismatch f b ≡ decodes.Memory = only_decoding bytes (Err (decodes.CountMismatch f b)) h m s in cc
not_undecoded bytes m decodes.Memory s h = h

pub not_outside : (bytes : Text) (m : Module) (fault : ProfileFault) → Spells bytes m → InProfile m → IsNotInProfile bytes fault → ⊥
not_outside bytes m fault s p h =
    none_some fault (sym (no_fault m p) ∙ ap first_fault (same_module bytes m h.module' s h.spells) ∙ h.refused)

pub not_invalid : (bytes : Text) (m : Module) (fault : ValidFault) → Spells bytes m → Valid m → Low m → IsNotValid bytes fault → ⊥
not_invalid bytes m fault s v l h = go fault (subst (λ (n : Module). IsInvalid fault n) (same_module bytes h.module' m h.spells s) h.refused)
  where
    go : (f : ValidFault) → IsInvalid f m → ⊥
    go valids.Memory r = r
    go (valids.Item kind index) r = let e : valids.Item kind index ≡ valids.Memory = no_cause m (valids.Item kind index) v l r in cc
    go (valids.Body n) r = let e : valids.Body n ≡ valids.Memory = no_cause m (valids.Body n) v l r in cc
    go (valids.Height n found) r = let e : valids.Height n found ≡ valids.Memory = no_cause m (valids.Height n found) v l r in cc

-- ---- a pack that is written

pub not_empty : (folder : Folder) (content : Option Folder) (dir name : Text) (names : Texts) → content ≡ Some folder → IsEmpty folder dir → IsListingOf content dir (name ∷ names) → ⊥
not_empty folder content dir name names e bare h =
    let l : IsListing folder dir (name ∷ names) = subst (λ (o : Option Folder). IsListingOf o dir (name ∷ names)) e h in
    contains_none name ((bare name).1 ((l name).0 (contains_first name names)))

pub unseen_fine : (before after : Outside) (folder : Folder) (dir : Text) (r : End) → before.files.content ≡ Some folder → IsEmpty folder dir → IsFaultless before after → IsUnseen before after dir r → IsFine r
unseen_fine before after folder dir r e bare f h = go h.0 h.1 h.3
  where
    go : (fault : PutFault) → IsSeen before.files after.files dir (Err fault) → r ≡ Err (of_put fault) → IsFine r
    go (puts.NotEmpty name) w d = absurd (not_empty folder before.files.content dir name w.0.0 e bare w.0.1)
    go (puts.ListFailed path) w d = absurd (f.reads w.1.counted)
    go (puts.Failed path) w d = absurd w
    go puts.Memory w d = inr d

pub undelivered_fine : (before after : Outside) (folder : Folder) (dir : Text) (pack : Written) (r : End) → before.files.content ≡ Some folder → IsEmpty folder dir → IsFaultless before after → IsUndelivered before after dir pack r → IsFine r
undelivered_fine before after folder dir pack r e bare f h = go h.0 h.1 h.3
  where
    go : (fault : PutFault) → IsPackWritten before.files after.files dir pack (Err fault) → r ≡ Err (of_put fault) → IsFine r
    go (puts.NotEmpty name) w d = absurd (not_empty folder before.files.content dir name w.0.0 e bare w.0.1)
    go (puts.ListFailed path) w d = absurd (f.reads w.1.counted)
    go (puts.Failed path) w d = absurd (f.writes w.1.counted)
    go puts.Memory w d = inr d

pub said_fine : (text : Text) (before after : SinkState) (r : End) → ¬ Rose before.faults after.faults → IsSaid text before after r → IsFine r
said_fine text before after (Ok u) f h = inl refl
said_fine text before after (Err refusals.Output) f h = absurd (f h.counted)
said_fine text before after (Err refusals.Memory) f h = inr refl
said_fine text before after (Err refusal) f h = absurd h

-- ---- a pack that is read

pub unread_fine : (before after : Outside) (dir : Text) (fault : GetFault) (r : End) → ¬ Rose before.files.read_faults after.files.read_faults → is_told fault ≡ false → IsUnread before after dir fault r → IsFine r
unread_fine before after dir gets.Memory r f t h = inr h.2
unread_fine before after dir (gets.ListFailed path) r f t h = absurd (f h.0.1.counted)
unread_fine before after dir (gets.Failed path) r f t h = absurd (f h.0.1.counted)
unread_fine before after dir fault r f t h = absurd (true_false t)
