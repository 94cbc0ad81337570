-- The public contracts cite the definitions of `app_words` and those of `Costs` and `Where`; `steps` holds what private functions
-- and proofs speak of.
pub mod Costs
pub mod Where
pub mod steps
