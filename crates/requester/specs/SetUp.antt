-- The requester of the definitions that a configuration sets up, and what the program keeps of it.
use Rattle.std.specs.Prelude.{◌≡◌, ℕ, List}
use Rattle.requester.specs.declared.config.ReqConfig.{ReqConfig}
use Rattle.requester.specs.declared.part.Part.{Part}
use Rattle.requester_machine.specs.May as may
use Rattle.requester_machine.specs.Setup.{ReqEnd, ReqSetup}
use Rattle.requester_machine.specs.UnderWay.{HasSizes}

abbrev pub setup_of : ReqConfig → ReqSetup
setup_of c = record {
  eid = c.eid.number;
  responder = c.responder.number;
  transfer = c.transfer;
  max = c.max;
  unit = c.unit;
  pad = c.pad;
  flags = c.flags;
  hint = c.hint.now;
  psk = c.psk;
  opaque = c.opaque.now;
  suites = c.suites;
}

-- The whole end, with this seed and the number of its first draw.
abbrev pub end_of : ReqConfig → (seed : List ℕ) → (first : ℕ) → ReqEnd
end_of c seed first = record { setup = setup_of c; seed = seed; first = first }

-- The program keeps this set-up, which is within its limits.
pub record IsPart (seen : Part) (q : ReqSetup) : Type 0 where
  pub eid : q.eid ≡ seen.eid.number
  pub responder : q.responder ≡ seen.responder.number
  pub transfer : q.transfer ≡ seen.transfer
  pub max : q.max ≡ seen.max
  pub unit : q.unit ≡ seen.unit
  pub pad : q.pad ≡ seen.pad
  pub flags : q.flags ≡ seen.flags
  pub hint : q.hint ≡ seen.hint
  pub psk : q.psk ≡ seen.psk
  pub opaque : q.opaque ≡ seen.opaque
  pub suites : q.suites ≡ seen.suites
  pub sizes : HasSizes q
  pub limits : may.IsSetUp q
