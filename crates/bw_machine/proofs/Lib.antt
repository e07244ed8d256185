-- The files of lemmas.
pub mod CallerLemmas
mod EmptyStruct
mod Histories
mod ListsByPlace
mod Numbers
mod OneThread
mod CountSent
