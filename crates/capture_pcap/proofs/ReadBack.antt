-- A capture that went through a file is read as it was.
use Rattle.std.proofs.Common.{◌≡◌, ◌∙◌, ℕ, ◌++◌, ◌≤◌, List, [], ◌∷◌, length, ap, true, arith, Result, Ok}
use Rattle.std.specs.Prelude.{nat_le}
use Rattle.std.specs.List.{list_all}
use Rattle.std.proofs.lemmas.Bool.{and_parts}
use Rattle.std.proofs.lemmas.Bool.Decides.{nat_tests}
use Rattle.capture_pcap.specs.Captures.{capture_of, text_by}
use Rattle.capture_pcap.specs.Files.{file_by, pcap_of}
use Rattle.capture_pcap.specs.Laws.{FileIsReadBack}
use Rattle.capture_text.proofs.CaptureBack.{capture_back}
use Rattle.capture_text.proofs.PacketsFit.{packets_fit}
use Rattle.capture_text.specs.Written.{packet_lines}
use Rattle.frame_stream.specs.Text.{stream_of, text_of}
use Rattle.pcap_file.proofs.Back.{file_back}
use Rattle.pcap_file.specs.Laws.{AreShort}
use Rattle.pcap_file.specs.Reading.{packets_in}
use Rattle.pcap_file.specs.Writing.{file_of}
use Rattle.pcap_file.specs.declared.fault.PcapFault.{PcapFault}
use Rattle.script_text.specs.ScriptText.{capture_in}
use Rattle.script_text.specs.Sound.{are_bytes, fits_word}
use Rattle.script_text.specs.declared.texts.faults.ScriptFault.{ScriptFault}
use Rattle.script_text.specs.declared.texts.script.Capture.{Capture}

are_short : (packets : List (List ℕ)) → list_all fits_word packets ≡ true → AreShort packets
are_short [] h = tt
are_short (packet ∷ others) h =
    let parts = and_parts (fits_word packet) (list_all fits_word others) h in
    let own = and_parts (are_bytes packet) (nat_le (length packet) 8000) parts.0 in
    let short : length packet ≤ 8000 = grind (arith, nat_tests, own.1) in
    (short, are_short others parts.1)

file_is : (text : List ℕ) (capture : Capture) → capture_in text ≡ Ok capture → pcap_of text ≡ file_of capture.packets
unfolding pcap_of
file_is text capture h = ap file_by h

capture_is : (input : List ℕ) (alone : Capture) (packets : List (List ℕ)) → capture_in (text_of input) ≡ Ok alone → packets_in (stream_of input) ≡ Ok packets → capture_of input ≡ text_of input ++ packet_lines 1 packets
unfolding capture_of
capture_is input alone packets good file =
    ap (λ (c : Result Capture ScriptFault). text_by c (packets_in (stream_of input)) (text_of input)) good
    ∙ ap (λ (f : Result (List (List ℕ)) PcapFault). text_by (Ok alone) f (text_of input)) file

pub read_back : FileIsReadBack
read_back text input front capture good ends alone file =
    let fit = packets_fit text capture good in
    let packets : packets_in (stream_of input) ≡ Ok capture.packets =
    ap packets_in file ∙ ap packets_in (file_is text capture good) ∙ file_back capture.packets (are_short capture.packets fit.0) fit.1 in
    ap capture_in (capture_is input (record { config = capture.config; packets = [] }) capture.packets alone packets)
    ∙ capture_back (text_of input) front capture.config capture.packets ends alone fit.0 fit.1
