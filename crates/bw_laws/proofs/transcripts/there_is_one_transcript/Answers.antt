-- The goals of `there_is_one_transcript` that are answered by hand.
use Rattle.bw_laws.proofs.OneTranscript.{one_transcript}
use Rattle.bw_laws.proofs.transcripts.there_is_one_transcript.Goals as goal

pub returns : goal.returns
returns c = one_transcript
