-- No processor idles while a leaf waits.
use Rattle.dispatch.proofs.Least.{no_processor_idles}
use Rattle.dispatch.proofs.laws.no_processor_idles.Goals as goal

pub returns : goal.returns
returns c = no_processor_idles
