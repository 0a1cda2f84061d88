-- Once a negotiation is complete, its messages are what they should be.
use Rattle.std.proofs.Common.{◌≡◌, ℕ, List, Bool, true, false, Some, ◌==◌, refl, ap, ◌∙◌, subst, eqb-true}
use Rattle.std.specs.Prelude.{Ok}
use Rattle.std.specs.Result.{result_ok}
use Rattle.byteorder.specs.Endian.{little_number}
use Rattle.spdm_grammar.specs.Layout.{Layout, IsSpelling}
use Rattle.spdm_grammar.specs.Message.{ResponseMessage}
use Rattle.spdm_grammar.specs.Message.ResponseMessage.{PskExchangeRsp}
use Rattle.spdm_grammar.specs.Reading.{front}
use Rattle.spdm_grammar.specs.Responses.{IsResponseSpelling, response_reading, response_layout, response_body, response_in, psk_exchange_rsp_layout}
use Rattle.spdm_grammar.proofs.Spellings.{read_spelling, spelling_read}
use Rattle.spdm_agreement.proofs.Messages.RequestCodes.{given, HasGiven}
use Rattle.spdm_agreement.proofs.Messages.Beginnings.{is_response, ends_by_itself}
use Rattle.spdm_grammar.specs.declared.names.response_code.TheConstants.{PSK_EXCHANGE_RSP}
use Rattle.requester_machine.proofs.CapsRead.{alike, exchange_body}

-- ---- A response other than PSK_EXCHANGE_RSP is spelled alike for every hash.

abbrev IsExchangeRsp : ResponseMessage → Type 0
IsExchangeRsp (PskExchangeRsp rsp) = Unit {0}
IsExchangeRsp _ = ⊥

exchange_gives : (len : ℕ) (summary : Bool) → HasGiven IsExchangeRsp (psk_exchange_rsp_layout len summary)
unfolding psk_exchange_rsp_layout
exchange_gives len summary = record { are = λ _ _ _ _ _ _ _ _ _ _. tt }

body_alike : (len : ℕ) (summary : Bool) (said code : ℕ) (v : ResponseMessage) (bytes : List ℕ) (c : Bool) → (code == PSK_EXCHANGE_RSP) ≡ c → (IsExchangeRsp v → ⊥) → IsSpelling (response_body len summary said code) 2 v bytes → IsSpelling (response_body 32 false said code) 2 v bytes
body_alike len summary said code v bytes true e other s =
    absurd (other (given IsExchangeRsp (psk_exchange_rsp_layout len summary) 2 v bytes (exchange_gives len summary).are
    (subst (λ (l : Layout ResponseMessage). IsSpelling l 2 v bytes) (ap (response_body len summary said) (eqb-true code PSK_EXCHANGE_RSP e) ∙ exchange_body len summary said) s)))
body_alike len summary said code v bytes false e other s = subst (λ (l : Layout ResponseMessage). IsSpelling l 2 v bytes) (alike len summary said code e) s

pub any_hash : (len : ℕ) (summary : Bool) (m : List ℕ) (v : ResponseMessage) → (IsExchangeRsp v → ⊥) → response_reading len summary m ≡ Ok v → response_in 32 false m ≡ Some v
any_hash len summary m v other e =
    let s : IsResponseSpelling len summary v m = read_spelling (response_layout len summary) (front m) v e in
    let t = s.5 in
    let again : IsResponseSpelling 32 false v m = (s.0, s.1, s.2, s.3, s.4, (t.0, t.1, t.2, t.3, t.4, body_alike len summary (little_number 1 s.0) (little_number 1 t.0) v t.1 (little_number 1 t.0 == PSK_EXCHANGE_RSP) refl other t.5)) in
    ap result_ok (spelling_read (response_layout 32 false) 0 v m again)

pub is_answer : (len : ℕ) (summary : Bool) (m : List ℕ) (v : ResponseMessage) → (IsExchangeRsp v → ⊥) → ends_by_itself (Some v) ≡ true → response_reading len summary m ≡ Ok v → is_response m ≡ true
is_answer len summary m v other itself e = ap ends_by_itself (any_hash len summary m v other e) ∙ itself
