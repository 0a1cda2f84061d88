-- How long the messages of a negotiation are.
use Rattle.std.proofs.Common.{◌∙◌, ◌≡◌, ◌≤◌, ◌+◌, ℕ, List, [], ◌∷◌, ◌++◌, true, Some, length, ap, sym, subst, arith}
use Rattle.std.proofs.lemmas.List.{length-append}
use Rattle.std.specs.Prelude.{slice_index}
use Rattle.byteorder.specs.Endian.{little_number}
use Rattle.negotiate.proofs.Answered.{four_each}
use Rattle.negotiate.proofs.FewKinds.{few_kinds}
use Rattle.negotiate.specs.Reply.{answered_kinds, reply_of}
use Rattle.responder_machine.proofs.Codes.{one_byte, sized-code}
use Rattle.responder_machine.specs.Answer.{request_at}
use Rattle.responder_machine.specs.Place.{Place, place_terms}
use Rattle.responder_machine.specs.Refusal.{code_of}
use Rattle.spdm_grammar.proofs.Spellings.{read_iff}
use Rattle.spdm_grammar.specs.Codes.{code_for}
use Rattle.spdm_grammar.specs.Fields.{is_summary}
use Rattle.spdm_grammar.specs.Layout.{IsSpelling}
use Rattle.spdm_grammar.specs.Message.{ExchangeMessage, OfferMessage, RequestMessage}
use Rattle.spdm_grammar.specs.Message.RequestMessage.{GetCapabilities, GetVersion, PskExchange}
use Rattle.spdm_grammar.specs.Message.ResponseMessage.{Algorithms}
use Rattle.spdm_grammar.specs.Requests.{IsRequestSpelling, request_in, get_capabilities_layout, get_version_layout, psk_exchange_layout, request_body, request_layout}
use Rattle.spdm_grammar.specs.Responses.{canonical_response}
use Rattle.spdm_grammar.specs.declared.messages.capabilities.Caps.{Caps}
use Rattle.spdm_grammar.specs.declared.messages.choice.Choice.{Choice}
use Rattle.spdm_grammar.specs.declared.names.request_code.TheConstants.{GET_CAPABILITIES, GET_VERSION, PSK_EXCHANGE}
use Rattle.spdm_machine.specs.Terms.{hash_len}

-- What follows the code of a request that these bytes encode.
record BehindCode (size : ℕ) (m : List ℕ) (asked : RequestMessage) : Type 0 where
  code : ℕ
  others : List ℕ
  is_code : code_of m ≡ code
  long : length m ≡ 2 + length others
  body : IsSpelling (request_body size code) 2 asked others

-- The code is the second byte.
code_at : (version code others : List ℕ) → length version ≡ 1 → length code ≡ 1 → slice_index (version ++ (code ++ others)) 1 ≡ little_number 1 code
code_at [] code others v c = absurd (omega arith)
code_at (x ∷ y ∷ rest) code others v c = absurd (omega arith)
code_at (x ∷ []) [] others v c = absurd (omega arith)
code_at (x ∷ []) (y ∷ []) others v c = sym (one_byte y [])
code_at (x ∷ []) (y ∷ z ∷ rest) others v c = absurd (omega arith)

behind_code : (size : ℕ) (m : List ℕ) (asked : RequestMessage) → IsRequestSpelling size asked m → BehindCode size m asked
behind_code size m asked s = record {
  code = little_number 1 s.5.0;
  others = s.5.1;
  is_code = ap (λ (bytes : List ℕ). slice_index bytes 1) s.2 ∙ ap (λ (bytes : List ℕ). slice_index (s.0 ++ bytes) 1) s.5.2 ∙ code_at s.0 s.5.0 s.5.1 s.3 s.5.3;
  long = omega (arith, ap length s.2, ap length s.5.2, length-append s.0 s.1, length-append s.5.0 s.5.1);
  body = s.5.5;
}

-- A field, and what follows it.
field_first : (bytes field others : List ℕ) (width : ℕ) → bytes ≡ field ++ others → length field ≡ width → length bytes ≡ width + length others
field_first bytes field others width is long = omega (arith, ap length is, length-append field others)

version_spelled : (size : ℕ) (others : List ℕ) (asked : RequestMessage) → IsSpelling (request_body size GET_VERSION) 2 asked others → length others ≡ 2
unfolding request_body get_version_layout
version_spelled size others asked s = omega (arith, ap length s.2, length-append s.0 s.1, ap length s.4.1)

capabilities_spelled : (size : ℕ) (others : List ℕ) (asked : RequestMessage) → IsSpelling (request_body size GET_CAPABILITIES) 2 asked others → length others ≡ 18
unfolding request_body get_capabilities_layout
capabilities_spelled size others asked s =
    let ct = s.4 in
    let reserved = ct.5 in
    let flags = reserved.4 in
    let transfer = flags.5 in
    let max = transfer.5 in
    omega (
      arith,
      field_first others s.0 s.1 3 s.2 s.3,
      field_first s.1 ct.0 ct.1 1 ct.2 ct.3,
      field_first ct.1 reserved.0 reserved.1 2 reserved.2 reserved.3,
      field_first reserved.1 flags.0 flags.1 4 flags.2 flags.3,
      field_first flags.1 transfer.0 transfer.1 4 transfer.2 transfer.3,
      field_first transfer.1 max.0 max.1 4 max.2 max.3,
      ap length max.5.1,
    )

spelled : (size : ℕ) (m : List ℕ) (asked : RequestMessage) → request_in size m ≡ Some asked → BehindCode size m asked
spelled size m asked is = behind_code size m asked ((read_iff (request_layout size) asked m).0 is)

-- The body that goes with the code of a request.
body_of : (size : ℕ) (m : List ℕ) (asked : RequestMessage) → request_in size m ≡ Some asked → (b : BehindCode size m asked) → IsSpelling (request_body size (code_for asked)) 2 asked b.others
body_of size m asked is b = subst (λ code. IsSpelling (request_body size code) 2 asked b.others) (sym (sized-code size m asked is ∙ b.is_code)) b.body

-- GET_VERSION has 4 bytes, and GET_CAPABILITIES 20.
pub version_long : (p : Place) (m : List ℕ) → request_at p m ≡ Some GetVersion → length m ≡ 4
version_long p m is =
    let size = hash_len (place_terms p) in
    let b = spelled size m GetVersion is in
    omega (arith, b.long, version_spelled size b.others GetVersion (body_of size m GetVersion is b))

pub capabilities_long : (p : Place) (m : List ℕ) (caps : Caps) → request_at p m ≡ Some (GetCapabilities caps) → length m ≡ 20
capabilities_long p m caps is =
    let size = hash_len (place_terms p) in
    let b = spelled size m (GetCapabilities caps) is in
    omega (arith, b.long, capabilities_spelled size b.others (GetCapabilities caps) (body_of size m (GetCapabilities caps) is b))

-- ALGORITHMS have 52 bytes at most.
pub algorithms_long : (offer : OfferMessage) (choice : Choice) → length (canonical_response (Algorithms (reply_of offer choice))) ≤ 52
algorithms_long offer choice =
    let tables = four_each choice (answered_kinds offer) in
    let few = few_kinds offer in
    simp length-append (omega arith)

-- ---- The kind of summary that PSK_EXCHANGE asks for.

-- It is the third byte.
third : (version code field others : List ℕ) → length version ≡ 1 → length code ≡ 1 → length field ≡ 1 → slice_index (version ++ (code ++ (field ++ others))) 2 ≡ little_number 1 field
third [] code field others v c f = absurd (omega arith)
third (x ∷ y ∷ rest) code field others v c f = absurd (omega arith)
third (x ∷ []) [] field others v c f = absurd (omega arith)
third (x ∷ []) (y ∷ z ∷ rest) field others v c f = absurd (omega arith)
third (x ∷ []) (y ∷ []) [] others v c f = absurd (omega arith)
third (x ∷ []) (y ∷ []) (z ∷ w ∷ rest) others v c f = absurd (omega arith)
third (x ∷ []) (y ∷ []) (z ∷ []) others v c f = sym (one_byte z [])

-- The kind of summary; 0 for any other request.
abbrev summary_in : RequestMessage → ℕ
summary_in (PskExchange exchange) = exchange.summary
summary_in _ = 0

-- What the first field after the code shows.
record IsKind (asked : RequestMessage) (others : List ℕ) : Type 0 where
  field : List ℕ
  behind : List ℕ
  is : others ≡ field ++ behind
  long : length field ≡ 1
  sound : is_summary (little_number 1 field) ≡ true
  told : summary_in asked ≡ little_number 1 field

kind_spelled : (size : ℕ) (others : List ℕ) (asked : RequestMessage) → IsSpelling (request_body size PSK_EXCHANGE) 2 asked others → IsKind asked others
unfolding request_body psk_exchange_layout
kind_spelled size others asked s =
    let reserved = s.5 in
    let req_id = reserved.4 in
    let hint_len = req_id.5 in
    let context_len = hint_len.5 in
    let opaque_len = context_len.5 in
    let hint = opaque_len.5 in
    let context = hint.4 in
    let opaque = context.4 in
    let whole = opaque.4 in
    record { field = s.0; behind = s.1; is = s.2; long = s.3; sound = s.4; told = ap summary_in whole.0 }

-- PSK_EXCHANGE asks for a kind that there is.
pub exchange_kind : (p : Place) (m : List ℕ) (asked : ExchangeMessage) → request_at p m ≡ Some (PskExchange asked) → (slice_index m 2 ≡ asked.summary) × (is_summary (slice_index m 2) ≡ true)
unfolding behind_code
exchange_kind p m asked is = by_spelling ((read_iff (request_layout size) (PskExchange asked) m).0 is)
  where
    size : ℕ
    size = hash_len (place_terms p)

    by_spelling : IsRequestSpelling size (PskExchange asked) m → (slice_index m 2 ≡ asked.summary) × (is_summary (slice_index m 2) ≡ true)
    by_spelling s =
        let b = behind_code size m (PskExchange asked) s in
        let kind = kind_spelled size b.others (PskExchange asked) (body_of size m (PskExchange asked) is b) in
        let byte : slice_index m 2 ≡ little_number 1 kind.field =
        ap (λ (bytes : List ℕ). slice_index bytes 2) s.2 ∙ ap (λ (bytes : List ℕ). slice_index (s.0 ++ bytes) 2) s.5.2 ∙ ap (λ (bytes : List ℕ). slice_index (s.0 ++ (s.5.0 ++ bytes)) 2) kind.is
        ∙ third s.0 s.5.0 kind.field kind.behind s.3 s.5.3 kind.long in
        (byte ∙ sym kind.told, ap is_summary byte ∙ kind.sound)
