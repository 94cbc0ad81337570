-- What the bytes of a module's file are to this compiler.
use Rattle.std.specs.Prelude.{◌≡◌, Some, Err}
use Rattle.mc_cmd.specs.Form.{Text}
use Rattle.wm_ast.specs.declared.module.Module.{Module}
use Rattle.wm_ast.specs.Profile.{InProfile}
use Rattle.wm_ast.specs.Spelling.{Spells}
use Rattle.wm_decode.specs.declared.decoding.DecodeFault.{DecodeFault}
use Rattle.wm_decode.specs.declared.decoding.DecodeFault.TheVariants as decodes
use Rattle.wm_decode.specs.Decoding.{IsDecoded}
use Rattle.wm_profile.specs.declared.fault.ProfileFault.{ProfileFault}
use Rattle.wm_profile.specs.Cause.{first_fault}
use Rattle.wm_valid.specs.declared.valid_fault.ValidFault.{ValidFault}
use Rattle.wm_valid.specs.declared.valid_fault.ValidFault.TheVariants as valids
use Rattle.wm_valid.specs.Height.{Low}
use Rattle.wm_valid.specs.Valid.{Valid}
use Rattle.wm_valid.specs.ValidFault.{IsCause}

-- The bytes spell this module, which is valid and in the profile, and whose functions are low. They spell no other.
pub record HasModule (bytes : Text) (m : Module) : Type 0 where
  pub spells : Spells bytes m
  pub in_profile : InProfile m
  pub valid : Valid m
  pub low : Low m

-- the bytes spell no module, for this reason
abbrev pub IsNotDecoded : Text → DecodeFault → Type 0
IsNotDecoded bytes decodes.Memory = ⊥
IsNotDecoded bytes fault = IsDecoded bytes (Err fault)

-- the bytes spell a module that isn't in the profile, for this reason
pub record IsNotInProfile (bytes : Text) (fault : ProfileFault) : Type 0 where
  pub module' : Module
  pub spells : Spells bytes module'
  pub refused : first_fault module' ≡ Some fault

-- the cause for which a module is refused, want of memory aside
abbrev pub IsInvalid : ValidFault → Module → Type 0
IsInvalid valids.Memory m = ⊥
IsInvalid fault m = IsCause fault m

-- the bytes spell a module of the profile that isn't valid, or has a function that isn't low, for this reason
pub record IsNotValid (bytes : Text) (fault : ValidFault) : Type 0 where
  pub module' : Module
  pub spells : Spells bytes module'
  pub in_profile : InProfile module'
  pub refused : IsInvalid fault module'
