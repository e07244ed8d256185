-- The files of lemmas.
mod RunWalk
mod RunFaults
mod NumberReads
mod Named
mod Plain
mod Sound
mod RunSound
mod Refused
mod JobEnds
mod JobSound
