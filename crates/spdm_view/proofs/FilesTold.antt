-- What each answer of `from_pcap` tells of its input.
use Rattle.std.proofs.Common.{◌≡◌, ℕ, List, Option, Some, Result, Ok, Err, OnOk, IfErr, inl, inr}
use Rattle.capture_pcap.specs.Captures as captures
use Rattle.capture_pcap.specs.declared.out_of_file.FromPcapFault.{FromPcapFault}
use Rattle.capture_pcap.specs.declared.out_of_file.FromPcapFault.TheVariants as fault
use Rattle.frame_stream.specs.Text.{text_of}
use Rattle.spdm_view.specs.Answer.{IsToldOfFile, from_pcap_outcome}

pub told_of_file : (input : List ℕ) (left : Option (List ℕ)) (r : Result (Unit {0}) FromPcapFault) → left ≡ Some input →
    OnOk r ((i : List ℕ) → left ≡ Some i → (packets : List (List ℕ)) × captures.AreParts i (text_of i) packets) →
    IfErr r (λ f. (i : List ℕ) → left ≡ Some i → captures.IsCause i f) →
    IsToldOfFile input (from_pcap_outcome r)
told_of_file input left (Ok done) e parts cause = parts input e
told_of_file input left (Err (fault.Line line f)) e parts cause = cause input e
told_of_file input left (Err (fault.File f)) e parts cause = cause input e
told_of_file input left (Err fault.LongText) e parts cause = inl (cause input e)
told_of_file input left (Err fault.LongFile) e parts cause = inr (cause input e)
told_of_file input left (Err fault.ReadFault) e parts cause = tt
told_of_file input left (Err fault.WriteFault) e parts cause = tt
told_of_file input left (Err fault.OutOfMemory) e parts cause = tt
