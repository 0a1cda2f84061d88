-- What a requester does with the packet of a short clear message, where a clear request is outstanding.
use Rattle.std.proofs.Common.{◌≡◌, ◌∙◌, ℕ, ◌<◌, ◌≤◌, List, length, Bool, false, Option, Some, None, Result, Ok, refl, ap, eq-eqb}
use Rattle.spdm_basis.proofs.Bools.{lt_false}
use Rattle.std.specs.Prelude.{if◌then◌else◌}
use Rattle.mctp_framing.specs.Gathering.{Gathered}
use Rattle.mctp_framing.specs.Packet.{PacketFields, parsed}
use Rattle.spdm_basis.specs.declared.PacketFault.{PacketFault}
use Rattle.spdm_grammar.specs.Message.{RequestMessage, ResponseMessage}
use Rattle.spdm_grammar.specs.declared.messages.malformed.Malformed.{Malformed}
use Rattle.spdm_grammar.specs.declared.told.event.ReqIgnored.{ReqIgnored}
use Rattle.spdm_machine.specs.Bodies.{clear_body}
use Rattle.spdm_machine.specs.Keys.{Draw}
use Rattle.requester_machine.specs.Answers.{answer_led}
use Rattle.requester_machine.specs.Bodies.{body_fault}
use Rattle.requester_machine.specs.ClearAnswers.{clear_led, carried_by, read_led, reading_of}
use Rattle.requester_machine.specs.Commands.{Free}
use Rattle.requester_machine.specs.Does.{requester_hears}
use Rattle.requester_machine.specs.Hearing.{hears, hears_by, clear_outcome}
use Rattle.requester_machine.specs.History.{History, outstanding}
use Rattle.requester_machine.specs.Message.{Sent, Content}
use Rattle.requester_machine.specs.Message.Aim.{Plain}
use Rattle.requester_machine.specs.Requesting.{Requesting, requester_given, hears_packet, hears_gathered, heard_by, is_worn, worn_step, next_draw}
use Rattle.requester_machine.specs.Setup.{ReqSetup}
use Rattle.spdm_progress.proofs.OnePacket.{packet_to, packet_read, packet_gathered}

-- The packet of a short clear message is heard whole.
pub given_whole : (a : Requesting) (tag : ℕ) (m : List ℕ) → is_worn a ≡ false → tag < 8 → length m < 4161
    → requester_given a (packet_to a.setup.eid a.setup.responder false tag m)
    ≡ heard_by a (packet_to a.setup.eid a.setup.responder false tag m) (clear_body m) (requester_hears a.setup a.history false tag (clear_body m) (next_draw a))
unfolding requester_given
given_whole a tag m fresh small short =
    let packet = packet_to a.setup.eid a.setup.responder false tag m in
    ap (λ (b : Bool). if b then worn_step a else hears_packet a packet (parsed packet)) fresh
    ∙ ap (λ (r : Result PacketFields PacketFault). hears_packet a packet r) (packet_read a.setup.eid a.setup.responder false tag m small)
    ∙ ap (λ (g : Gathered). hears_gathered a packet g) (packet_gathered a.setup.eid a.setup.responder false tag a.given m short)

abbrev pub asking : ℕ → Content → RequestMessage → Sent
asking tag content asked = record { tag = tag; content = content; aim = Plain asked }

no_fault : (q : ReqSetup) (tag : ℕ) (content : Content) (asked : RequestMessage) (m : List ℕ) → length m ≤ q.transfer → body_fault q (Some (asking tag content asked)) false tag (clear_body m) ≡ None
unfolding body_fault
no_fault q tag content asked m fits = rw (eq-eqb tag tag refl, lt_false q.transfer (length m) fits) refl

-- A clear message with the tag of the outstanding request is read.
pub heard_plain : (q : ReqSetup) (h : History) (f : Free) (tag : ℕ) (content : Content) (asked : RequestMessage) (m : List ℕ) (d : Draw) → outstanding h ≡ Some (asking tag content asked) → length m ≤ q.transfer
    → hears q h false tag (clear_body m) f d ≡ clear_outcome tag m d (clear_led q h f (Plain asked) asked m)
unfolding hears
heard_plain q h f tag content asked m d is fits =
    ap (λ (o : Option Sent). hears_by q h f tag (clear_body m) d o (body_fault q o false tag (clear_body m))) is
    ∙ ap (λ (o : Option ReqIgnored). hears_by q h f tag (clear_body m) d (Some (asking tag content asked)) o) (no_fault q tag content asked m fits)

-- A whole answer is read.
pub led_whole : (q : ReqSetup) (h : History) (f : Free) (asked : RequestMessage) (m : List ℕ) → clear_led q h f (Plain asked) asked m ≡ read_led q h f 0 asked m (reading_of h asked m)
unfolding clear_led carried_by
led_whole q h f asked m = refl

-- A whole answer that reads leads to what it says.
pub led_plain : (q : ReqSetup) (h : History) (f : Free) (asked : RequestMessage) (m : List ℕ) (value : ResponseMessage) → reading_of h asked m ≡ Ok value
    → clear_led q h f (Plain asked) asked m ≡ answer_led q h f 0 asked m value
unfolding clear_led carried_by
led_plain q h f asked m value reads = ap (λ (r : Result ResponseMessage Malformed). read_led q h f 0 asked m r) reads
