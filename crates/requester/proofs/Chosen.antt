-- The values that are handed to the parts below are those that the requester chooses.
use Rattle.std.proofs.Common.{refl, ◌≡◌, ◌<◌, ◌∙◌, ℕ, List, [], Option, Some, None, ap, sym, subst, arith, length}
use Rattle.std.specs.Prelude.{take, true}
use Rattle.requester_core.specs.Free.{IsFree}
use Rattle.requester_core.specs.Joined.{IsSentAs}
use Rattle.requester_core.specs.declared.free_values.FreeValues.{FreeValues}
use Rattle.requester_machine.specs.Does.{chosen, command_chosen, free_id}
use Rattle.requester_machine.proofs.Choosing.{allowed, padding-short}
use Rattle.requester_machine.specs.May.{IsAllowed, IsSetUp}
use Rattle.requester_machine.specs.History.{History, connection_terms}
use Rattle.requester_machine.specs.Message.{Content, Sent, body_of}
use Rattle.requester_machine.specs.Message.Content.{Clear, Sealed}
use Rattle.requester_machine.specs.Requesting.{packets_of_sent}
use Rattle.requester_machine.specs.Setup.{ReqSetup}
use Rattle.spdm_machine.specs.Keys.{Draw, context_of}
use Rattle.spdm_machine.specs.Packets.{packets_to}

pub free_is : (q : ReqSetup) (h : History) (d : Draw) (seen : FreeValues) → seen.id ≡ free_id h → seen.context.now ≡ context_of (connection_terms h).choice.hash d → q.opaque ≡ seen.opaque.now → IsFree seen (command_chosen q h d)
unfolding chosen
free_is q h d seen id context own = record { id = sym id; context = sym context; opaque = own }

-- They are allowed.
pub command_allowed : (q : ReqSetup) (h : History) (d : Draw) → IsSetUp q → length d.bytes ≡ 32 → IsAllowed q h (command_chosen q h d)
unfolding chosen
command_allowed q h d set_up bytes = allowed q h d (take q.pad d.bytes) set_up bytes (padding-short q.pad d.bytes set_up.pad)

pub command_pad : (q : ReqSetup) (h : History) (d : Draw) → (command_chosen q h d).pad ≡ take q.pad d.bytes
unfolding chosen
command_pad q h d = refl

-- ---- What is sent.

filled : (content : Content) → 0 < length (body_of content)
filled (Clear message) = omega arith
filled (Sealed sealed inner pad) = omega arith

pub packets_are : (q : ReqSetup) (sent : Sent) (tag : ℕ) (body : List ℕ) (packets : List (List ℕ)) → sent.tag ≡ tag → body ≡ body_of sent.content → sent.tag < 8 → (tag < 8 → 0 < length body → packets ≡ packets_to q.responder q.eid true tag q.unit body)
    → packets ≡ packets_of_sent q (Some sent)
packets_are q sent tag body packets tags is few sends =
    sends (subst (λ (n : ℕ). n < 8) tags few) (subst (λ (b : List ℕ). 0 < length b) (sym is) (filled sent.content))
    ∙ ap (λ (n : ℕ). packets_to q.responder q.eid true n q.unit body) (sym tags) ∙ ap (λ (b : List ℕ). packets_to q.responder q.eid true sent.tag q.unit b) is

-- On a body.
pub sent_upon : (q : ReqSetup) (o : Option Sent) (tag : ℕ) (body : List ℕ) (packets : List (List ℕ)) → IsSentAs o (Some tag) body → ((s : Sent) → o ≡ Some s → s.tag < 8) → (tag < 8 → 0 < length body → packets ≡ packets_to q.responder q.eid true tag q.unit body)
    → packets ≡ packets_of_sent q o
sent_upon q None tag body packets is few sends = absurd is
sent_upon q (Some sent) tag body packets is few sends = packets_are q sent tag body packets is.0 is.1 (few sent refl) sends

pub none_upon : (q : ReqSetup) (o : Option Sent) (body : List ℕ) (packets : List (List ℕ)) → IsSentAs o None body → packets ≡ [] → packets ≡ packets_of_sent q o
none_upon q None body packets is empty = empty
none_upon q (Some sent) body packets is empty = absurd is
