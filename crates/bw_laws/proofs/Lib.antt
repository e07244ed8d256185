-- The files of lemmas.
mod BurstLemmas
mod CertLemmas
mod ConditionTests
mod CounterLemmas
mod GroupLists
mod HungerLemmas
mod IdLemmas
mod LeafLemmas
mod NeededLemmas
mod OneAnswer
mod OneTranscript
mod PartLemmas
mod Quotients
mod SliceLemmas
mod TreesKept
mod WeightLemmas
mod WholeLines
