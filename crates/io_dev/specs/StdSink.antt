-- A sink over the real system.
use Rattle.std.specs.Prelude.{ℕ, None}
use Rattle.io_dev.specs.Sink.{SinkState}
use Rattle.io_dev.specs.declared.std_sink.StdSink.{StdSink}

-- the stream that the sink writes to
abbrev pub stream_of : {W : Type 0} → StdSink W → W
stream_of s = s.stream

-- a sink that doesn't tell what it took, with so many faults
abbrev pub untold : ℕ → SinkState
untold faults = record { written = None; faults = faults }
