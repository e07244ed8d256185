-- The goals of `gets` that are answered by hand.
use Rattle.bw_questions.proofs.enough.gets.Goals as goal

pub returns-in-Planned : goal.returns-in-Planned
returns-in-Planned c = rw c.in-Planned.is c.reaches.ensures.reached

pub returns-in-Guaranteed : goal.returns-in-Guaranteed
returns-in-Guaranteed c = rw c.in-Guaranteed.is c.is_guaranteed.ensures
