-- The answers of the assembler's calls, as those of gathering.
use Rattle.std.specs.Prelude.{ℕ, List, []}
use Rattle.mctp_framing.specs.Packet.{PacketFields}
use Rattle.mctp_framing.specs.Cutting.{route_of}
use Rattle.mctp_framing.specs.Gathering.{Gathered, route_of_packet}
use Rattle.mctp_framing.specs.Gathering.Gathered.{Whole, More, Dropped}
use Rattle.mctp_framing.specs.declared.assembler.Fed.{Fed}
use Rattle.mctp_framing.specs.declared.assembler.Fed.TheVariants as fed
use Rattle.mctp_framing.specs.declared.assembler.Step.{Step}
use Rattle.mctp_framing.specs.declared.assembler.Step.TheVariants as step

-- What a caller is told.
abbrev pub fed_answer : Fed → Gathered
fed_answer (fed.Whole route body) = Whole (route_of route) body.now
fed_answer fed.More = More
fed_answer (fed.Dropped cause) = Dropped cause

-- The body that was completed; none is empty.
abbrev pub whole_of : Fed → List ℕ
whole_of (fed.Whole route body) = body.now
whole_of fed.More = []
whole_of (fed.Dropped cause) = []

-- A step, with the packet that it took and the body that the assembler has after it.
abbrev pub step_answer : Step → PacketFields → (body : List ℕ) → Gathered
step_answer step.Whole p body = Whole (route_of_packet p) body
step_answer step.More p body = More
step_answer (step.Dropped cause) p body = Dropped cause
