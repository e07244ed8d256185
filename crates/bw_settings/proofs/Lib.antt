-- The files of lemmas.
mod Answered
mod Formulas
mod Loads
mod Open
mod Rows
mod Sums
mod Ways
