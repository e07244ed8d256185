-- The goal of `more_room_takes_nothing`, answered by its lemma.
use Rattle.bw_questions.proofs.changes.RoomLaw.{more_room_takes}
use Rattle.bw_questions.proofs.laws.room.more_room_takes_nothing.Goals as goal

pub returns : goal.returns
returns c = more_room_takes
