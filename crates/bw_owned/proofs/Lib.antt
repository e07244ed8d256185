-- The files of lemmas.
mod Closeness
mod Growth
mod Gone
mod Judges
mod Losses
mod PodGrowth
mod PodSums
mod RequestLaws
mod Rests
mod Squares
mod Times
mod WeightLaws
mod Written
