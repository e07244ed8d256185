-- The goals of `reading_follows_the_transcript` that are answered by hand.
use Rattle.bw_laws.proofs.OneTranscript.{reading_follows}
use Rattle.bw_laws.proofs.transcripts.reading_follows_the_transcript.Goals as goal

pub returns : goal.returns
returns c = reading_follows
