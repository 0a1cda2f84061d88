-- The common capabilities, read off the messages that told them.
use Rattle.std.proofs.Common.{refl, ◌≡◌, ◌∙◌, ◌≤◌, ◌<◌, ◌+◌, ◌^◌, ℕ, List, true, false, Bool, Option, Some, None, ap, sym, subst, length, arith, eqb-true, nat_lt}
use Rattle.std.specs.Prelude.{min, ◌==◌, ◌||◌, ◌&&◌, not, if◌then◌else◌, Result, Ok, Err, unwrap_or}
use Rattle.std.specs.Result.{result_ok}
use Rattle.std.proofs.lemmas.Bool.Decides.{nat_tests}
use Rattle.std.proofs.lemmas.Grind.{common_steps}
use Rattle.byteorder.specs.Endian.{little_number}
use Rattle.negotiate.specs.Capabilities.{common_of, shared, psk_is, protects}
use Rattle.negotiate.specs.declared.shared.Common.{Common}
use Rattle.spdm_grammar.specs.declared.messages.capabilities.Caps.{Caps}
use Rattle.spdm_grammar.specs.declared.messages.part_faults.CapsFault.{CapsFault}
use Rattle.spdm_grammar.specs.declared.messages.part_faults.CapsFault.TheVariants.{SizeTooSmall, SizesCrossed, NoPsk, NoProtection}
use Rattle.spdm_grammar.specs.declared.names.TheConstants.{MIN_DATA_TRANSFER_SIZE, MAX_MESSAGE_SIZE}
use Rattle.spdm_grammar.specs.declared.names.capability.TheConstants.{PSK_CAP, PSK_CAP_WITH_CONTEXT, HBEAT_CAP, KEY_UPD_CAP, CHUNK_CAP}
use Rattle.spdm_grammar.specs.declared.names.response_code.TheConstants.{MEASUREMENTS, CAPABILITIES, ALGORITHMS, PSK_EXCHANGE_RSP, PSK_FINISH_RSP, HEARTBEAT_ACK, KEY_UPDATE_ACK, END_SESSION_ACK, ERROR, VERSION, CHUNK_SEND_ACK}
use Rattle.spdm_grammar.specs.Fields.{FitsCaps}
use Rattle.spdm_grammar.specs.Layout.{Layout, IsSpelling}
use Rattle.spdm_grammar.specs.Layout.Layout.{Whole, Sized, Number, Optional, Bytes, Tables, UpTo, Remaining}
use Rattle.spdm_grammar.specs.Message.{RequestMessage, ResponseMessage}
use Rattle.spdm_grammar.specs.Message.RequestMessage.{GetCapabilities}
use Rattle.spdm_grammar.specs.Message.ResponseMessage.{Capabilities, PskExchangeRsp}
use Rattle.spdm_grammar.specs.Reading.{front}
use Rattle.spdm_grammar.specs.Requests.{request_layout, canonical_request}
use Rattle.spdm_grammar.specs.Responses.{IsResponseSpelling, response_reading, response_layout, response_body, psk_exchange_rsp_layout, version_layout, error_layout, capabilities_layout, algorithms_layout, measurements_layout, psk_finish_rsp_layout, heartbeat_ack_layout, key_update_ack_layout, end_session_ack_layout, chunk_send_ack_layout, chunk_response_layout}
use Rattle.spdm_grammar.proofs.CanonicalRequests.{request_spelled}
use Rattle.spdm_grammar.proofs.Spellings.{read_spelling, spelling_read}
use Rattle.spdm_machine.specs.Setup.{protection_flags}
use Rattle.spdm_machine.specs.Terms.{terms_of, request_value, response_value, asked_caps, told_caps, common_from, no_common}
use Rattle.transcript.specs.Transcripts.{Negotiation}
use Rattle.requester_machine.specs.Setup.{ReqSetup, requester_caps}
use Rattle.requester_machine.specs.UnderWay.{HasSizes, IsCommon}
use Rattle.std.proofs.lemmas.Bool.{or_parts}

-- ---- CAPABILITIES is spelled alike for every hash.

-- What holds of each value of a layout holds of a value that bytes encode.
abbrev Gives : {A : Type 0} → (A → Type 0) → Layout A → Type 0
Gives P (Whole value) = P value
Gives P (Sized told told_at value) = P value
Gives P (Number width is_allowed next) = (n : ℕ) → Gives P (next n)
Gives P (Optional is_there width next) = (n : Option ℕ) → Gives P (next n)
Gives P (Bytes width next) = (field : List ℕ) → Gives P (next field)
Gives P (Tables count next) = (field : List ℕ) → Gives P (next field)
Gives P (UpTo most value) = (field : List ℕ) → P (value field)
Gives P (Remaining value) = (field : List ℕ) → P (value field)

given : {A : Type 0} (P : A → Type 0) (l : Layout A) (at : ℕ) (v : A) (bytes : List ℕ) → Gives P l → IsSpelling l at v bytes → P v
given P (Whole value) at v bytes all s = subst P (sym s.0) all
given P (Sized told told_at value) at v bytes all s = subst P (sym s.0) all
given P (Number width is_allowed next) at v bytes all s = given P (next (little_number width s.0)) (at + width) v s.1 (all (little_number width s.0)) s.5
given P (Optional false width next) at v bytes all s = given P (next None) at v bytes (all None) s
given P (Optional true width next) at v bytes all s = given P (next (Some (little_number width s.0))) (at + width) v s.1 (all (Some (little_number width s.0))) s.4
given P (Bytes width next) at v bytes all s = given P (next s.0) (at + width) v s.1 (all s.0) s.4
given P (Tables count next) at v bytes all s = given P (next s.0) (at + length s.0) v s.1 (all s.0) s.4
given P (UpTo most value) at v bytes all s = subst P (sym s.0) (all bytes)
given P (Remaining value) at v bytes all s = subst P (sym s) (all bytes)

record HasGiven {A : Type 0} (P : A → Type 0) (l : Layout A) : Type 0 where
  are : Gives P l

abbrev IsExchangeRsp : ResponseMessage → Type 0
IsExchangeRsp (PskExchangeRsp rsp) = Unit {0}
IsExchangeRsp _ = ⊥

exchange_gives : (len : ℕ) (summary : Bool) → HasGiven IsExchangeRsp (psk_exchange_rsp_layout len summary)
unfolding psk_exchange_rsp_layout
exchange_gives len summary = record { are = λ _ _ _ _ _ _ _ _ _ _. tt }

pub exchange_body : (len : ℕ) (summary : Bool) (said : ℕ) → response_body len summary said PSK_EXCHANGE_RSP ≡ psk_exchange_rsp_layout len summary
unfolding response_body
exchange_body len summary said = refl

-- All other bodies depend on no hash.
pub alike : (len : ℕ) (summary : Bool) (said code : ℕ) → (code == PSK_EXCHANGE_RSP) ≡ false → response_body len summary said code ≡ response_body 32 false said code
unfolding response_body
alike len summary said code e = at (psk_exchange_rsp_layout len summary) ∙ sym (at (psk_exchange_rsp_layout 32 false))
  where
    body : Layout ResponseMessage → Bool → Layout ResponseMessage
    body exchange b =
        if code == VERSION then version_layout
        else (if code == ERROR then error_layout said
        else (if code == CAPABILITIES then capabilities_layout
        else (if code == ALGORITHMS then algorithms_layout
        else (if code == MEASUREMENTS then measurements_layout
        else (if b then exchange
        else (if code == PSK_FINISH_RSP then psk_finish_rsp_layout
        else (if code == HEARTBEAT_ACK then heartbeat_ack_layout
        else (if code == KEY_UPDATE_ACK then key_update_ack_layout
        else (if code == END_SESSION_ACK then end_session_ack_layout
        else (if code == CHUNK_SEND_ACK then chunk_send_ack_layout
        else chunk_response_layout))))))))))

    at : (exchange : Layout ResponseMessage) → body exchange (code == PSK_EXCHANGE_RSP) ≡ body exchange false
    at exchange = ap (body exchange) e

body_alike : (len : ℕ) (summary : Bool) (said code : ℕ) (theirs : Caps) (bytes : List ℕ) (b : Bool) → (code == PSK_EXCHANGE_RSP) ≡ b → IsSpelling (response_body len summary said code) 2 (Capabilities theirs) bytes
    → IsSpelling (response_body 32 false said code) 2 (Capabilities theirs) bytes
body_alike len summary said code theirs bytes true e s =
    absurd (given IsExchangeRsp (psk_exchange_rsp_layout len summary) 2 (Capabilities theirs) bytes (exchange_gives len summary).are
    (subst (λ (l : Layout ResponseMessage). IsSpelling l 2 (Capabilities theirs) bytes) (ap (response_body len summary said) (eqb-true code PSK_EXCHANGE_RSP e) ∙ exchange_body len summary said) s))
body_alike len summary said code theirs bytes false e s = subst (λ (l : Layout ResponseMessage). IsSpelling l 2 (Capabilities theirs) bytes) (alike len summary said code e) s

any_hash : (len : ℕ) (m : List ℕ) (theirs : Caps) → response_reading len false m ≡ Ok (Capabilities theirs) → response_value m ≡ Some (Capabilities theirs)
any_hash len m theirs e =
    let s : IsResponseSpelling len false (Capabilities theirs) m = read_spelling (response_layout len false) (front m) (Capabilities theirs) e in
    let t = s.5 in
    let again : IsResponseSpelling 32 false (Capabilities theirs) m = (s.0, s.1, s.2, s.3, s.4, (t.0, t.1, t.2, t.3, t.4, body_alike len false (little_number 1 s.0) (little_number 1 t.0) theirs t.1 (little_number 1 t.0 == PSK_EXCHANGE_RSP) refl t.5)) in
    ap result_ok (spelling_read (response_layout 32 false) 0 (Capabilities theirs) m again)

-- ---- The own capabilities.

flags_fit : (a b c : Bool) → protection_flags + PSK_CAP + ((if a then HBEAT_CAP else 0) + (if b then KEY_UPD_CAP else 0) + (if c then CHUNK_CAP else 0)) < 2 ^ 32
flags_fit true true true = omega arith
flags_fit true true false = omega arith
flags_fit true false true = omega arith
flags_fit true false false = omega arith
flags_fit false true true = omega arith
flags_fit false true false = omega arith
flags_fit false false true = omega arith
flags_fit false false false = omega arith

fits : (q : ReqSetup) → HasSizes q → FitsCaps (requester_caps q)
fits q s = record {
  ct = omega arith;
  flags = flags_fit q.flags.heartbeat q.flags.key_update q.flags.chunk;
  transfer = (let a = s.transfer in omega (arith, a));
  max = (let a = s.max in omega (arith, a));
}

own_read : (q : ReqSetup) → HasSizes q → request_value (canonical_request (GetCapabilities (requester_caps q))) ≡ Some (GetCapabilities (requester_caps q))
own_read q s =
    ap result_ok (spelling_read (request_layout 32) 0 (GetCapabilities (requester_caps q)) (canonical_request (GetCapabilities (requester_caps q))) (request_spelled 32 (GetCapabilities (requester_caps q)) (fits q s) tt).is)

-- ---- What is common.

-- Read off the two messages.
pub common_read : (q : ReqSetup) (n : Negotiation) (len : ℕ) (theirs : Caps) (common : Common) → HasSizes q
    → n.get_capabilities ≡ canonical_request (GetCapabilities (requester_caps q)) → response_reading len false n.capabilities ≡ Ok (Capabilities theirs) → common_of (requester_caps q) theirs ≡ Ok common
    → (terms_of n).common ≡ common
unfolding terms_of
common_read q n len theirs common s own told is =
    ap (λ (x : Option RequestMessage). common_from (asked_caps x) (told_caps (response_value n.capabilities))) (ap request_value own ∙ own_read q s)
    ∙ ap (λ (x : Option ResponseMessage). common_from (Some (requester_caps q)) (told_caps x)) (any_hash len n.capabilities theirs told)
    ∙ ap (λ (x : Result Common CapsFault). unwrap_or (result_ok x) no_common) is

passed : (a b c e : Bool) (x common : Common) → (if a then Err SizeTooSmall else (if b then Err SizesCrossed else (if c then Err NoPsk else (if e then Err NoProtection else Ok x)))) ≡ Ok common
    → (a ≡ false) × (b ≡ false) × (x ≡ common)
passed true b c e x common is = absurd (cc)
passed false true c e x common is = absurd (cc)
passed false false true e x common is = absurd (cc)
passed false false false true x common is = absurd (cc)
passed false false false false x common is = (refl, refl, (cc))

at_least : (n m : ℕ) → nat_lt n m ≡ false → m ≤ n
at_least n m is = grind (arith, nat_tests)

-- A size is the told one or 4,096, whichever is less.
within : (n : ℕ) → n ≤ MAX_MESSAGE_SIZE → min n MAX_MESSAGE_SIZE ≡ n
within n small = grind (arith, common_steps)

least_told : (n : ℕ) → MIN_DATA_TRANSFER_SIZE ≤ n → MIN_DATA_TRANSFER_SIZE ≤ min n MAX_MESSAGE_SIZE
least_told n least = grind (arith, common_steps)

both_told : (n m : ℕ) → n ≤ m → min n MAX_MESSAGE_SIZE ≤ min m MAX_MESSAGE_SIZE
both_told n m ordered = grind (arith, common_steps)

most_told : (n : ℕ) → min n MAX_MESSAGE_SIZE ≤ MAX_MESSAGE_SIZE
most_told n = grind (arith, common_steps)

-- What follows of the sizes.
pub common_is : (q : ReqSetup) (theirs : Caps) (common : Common) → HasSizes q → common_of (requester_caps q) theirs ≡ Ok common → IsCommon q common
common_is q theirs common s is =
    let p = passed (nat_lt q.transfer MIN_DATA_TRANSFER_SIZE || nat_lt theirs.transfer MIN_DATA_TRANSFER_SIZE) (nat_lt q.max q.transfer || nat_lt theirs.max theirs.transfer)
    (not (psk_is PSK_CAP (requester_caps q).flags && psk_is PSK_CAP_WITH_CONTEXT theirs.flags)) (not (protects (requester_caps q).flags && protects theirs.flags)) (shared (requester_caps q) theirs) common is in
    let small = or_parts (nat_lt q.transfer MIN_DATA_TRANSFER_SIZE) (nat_lt theirs.transfer MIN_DATA_TRANSFER_SIZE) p.0 in
    let crossed = or_parts (nat_lt q.max q.transfer) (nat_lt theirs.max theirs.transfer) p.1 in
    record {
      theirs = theirs;
      shared = is;
      transfer = sym (ap (λ (c : Common). c.to_requester.transfer) p.2) ∙ within q.transfer s.transfer;
      max = sym (ap (λ (c : Common). c.to_requester.max) p.2) ∙ within q.max s.max;
      least = at_least q.transfer MIN_DATA_TRANSFER_SIZE small.0;
      ordered = at_least q.max q.transfer crossed.0;
      their_least = subst (λ (c : Common). MIN_DATA_TRANSFER_SIZE ≤ c.to_responder.transfer) p.2 (least_told theirs.transfer (at_least theirs.transfer MIN_DATA_TRANSFER_SIZE small.1));
      their_ordered = subst (λ (c : Common). c.to_responder.transfer ≤ c.to_responder.max) p.2 (both_told theirs.transfer theirs.max (at_least theirs.max theirs.transfer crossed.1));
      their_most = subst (λ (c : Common). c.to_responder.max ≤ MAX_MESSAGE_SIZE) p.2 (most_told theirs.max);
    }
