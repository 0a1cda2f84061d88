-- Why a frame did not get its bytes, as it is told of the frame. This project's own.
use Rattle.std.specs.Prelude.{ℕ}
use Rattle.frame_stream.specs.declared.filling.Stop.{Stop}
use Rattle.frame_stream.specs.declared.filling.Stop.TheVariants as stop
use Rattle.frame_stream.specs.declared.kinds.FrameFault.{FrameFault}
use Rattle.frame_stream.specs.declared.kinds.FrameFault.TheVariants.{ReadFault, TooLong, BadFrame}

-- The fault of the frame that begins at this byte.
abbrev pub fault_as : (at : ℕ) → Stop → FrameFault
fault_as at stop.End = BadFrame at
fault_as at stop.TooLong = TooLong
fault_as at stop.ReadFault = ReadFault
