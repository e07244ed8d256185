-- The goals of `cert_is_accepted` that are answered by hand.
use Rattle.bw_laws.proofs.CertLemmas.{cert_IsAcceptedText}
use Rattle.bw_laws.proofs.cert.cert_is_accepted.Goals as goal

pub returns : goal.returns
returns c = cert_IsAcceptedText
