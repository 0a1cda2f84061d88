-- What is kept of the packets of a capture. This project's own.
use Rattle.std.specs.Prelude.{◌≡◌, ◌≢◌, ◌==◌, ℕ, List, ◌<◌, map, length, slice_index_or, Bool, Some}
use Rattle.std.specs.List.{position_from}
use Rattle.capture_bodies.specs.Collecting.{chunks_between}
use Rattle.capture_bodies.specs.declared.direction.Direction.{Direction}
use Rattle.capture_bodies.specs.declared.gathering.Gathering.{Gathering}
use Rattle.capture_bodies.specs.declared.gathering.Pair.{Pair}
use Rattle.chunking.specs.Collecting.{accepted_of}
use Rattle.chunking.specs.Keeping as chunks
use Rattle.mctp_framing.specs.Assembling as packets
use Rattle.spdm_basis.specs.declared.values.eid.Eid.{Eid}
use Rattle.spdm_grammar.specs.declared.names.TheConstants.{MAX_BODY_SIZE, MAX_MESSAGE_SIZE}
use Rattle.spdm_machine.specs.Packets.{fields_in}

-- From one end to another: the body that is gathered, and the large message that is collected.
pub record StandsFor (seen : Direction) (to from : ℕ) (older : List (List ℕ)) : Type 0 where
  pub receiver : seen.assembler.receiver ≡ record { own = to; peer = from; limit = MAX_BODY_SIZE }
  pub gathers : packets.StandsFor seen.assembler (fields_in older)
  pub most : seen.collector.max ≡ MAX_MESSAGE_SIZE
  pub collects : chunks.StandsFor seen.collector (accepted_of MAX_MESSAGE_SIZE (chunks_between to from older))

-- Both directions between the responder and a requester.
pub record Stand (seen : Pair) (own eid : ℕ) (older : List (List ℕ)) : Type 0 where
  pub requests : StandsFor seen.requests own eid older
  pub answers : StandsFor seen.answers eid own older

abbrev pub number_of : Eid → ℕ
number_of eid = eid.number

abbrev pub eid_of : Pair → ℕ
eid_of pair = pair.eid.number

abbrev pub has_eid : ℕ → Pair → Bool
has_eid eid pair = pair.eid.number == eid

-- All requesters with these endpoints. Of several with one endpoint the first is given its packets.
pub record Keeps (seen : Gathering) (own : ℕ) (eids : List ℕ) (older : List (List ℕ)) : Type 0 where
  pub at : seen.own.number ≡ own
  pub all : map eid_of seen.pairs.items ≡ eids
  pub stand : (place : ℕ) (d : Pair) → place < length seen.pairs.items
      → (let pair = slice_index_or seen.pairs.items place d in position_from (has_eid (eid_of pair)) 0 seen.pairs.items ≡ Some place → eid_of pair ≢ own
      → Stand pair own (eid_of pair) older)
