mod ArithmeticLemmas
mod ChangeLemmas
mod EffectLemmas
mod FormLemmas
mod KeepLemmas
mod KeyLemmas
mod NamedMapLemmas
mod PlaceLemmas
mod PlacedLemmas
pub mod SelectLemmas
mod StoreLemmas
mod WaitLemmas
pub mod WorldViewLemmas
