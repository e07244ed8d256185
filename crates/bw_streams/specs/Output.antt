-- The parts of a buffered output that contracts see.
use Rattle.std.specs.Prelude.{ℕ, List, Option}
use Rattle.std.specs.Io.Buffered.{writer_inner, writer_buffer, writer_contents}
use Rattle.bw_streams.specs.declared.output.Output.{Output}

-- the writer behind the buffer
abbrev pub writer_behind : {W : Type 0} → Output W → W
writer_behind o = writer_inner o.buffered

-- the bytes that wait in the buffer
abbrev pub waiting : {W : Type 0} → Output W → List ℕ
waiting o = writer_buffer o.buffered

-- the bytes of the writer and then those that wait, where the first are known
abbrev pub output_contents : {W : Type 0} → (W → Option (List ℕ)) → Output W → Option (List ℕ)
output_contents contents o = writer_contents contents o.buffered
