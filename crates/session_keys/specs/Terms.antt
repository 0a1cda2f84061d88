-- The terms of a session.
use Rattle.std.specs.Prelude.{◌≡◌, ◌==◌, not, slice_index, Bool, ℕ, List}
use Rattle.spdm_machine.specs.Sessions.{id_in_exchange}
use Rattle.spdm_machine.specs.Terms.{terms_of}
use Rattle.transcript.specs.Transcripts.{Negotiation}
use Rattle.session_keys.specs.declared.terms.SessionTerms.{SessionTerms}

-- PSK_EXCHANGE asks for a measurement summary: Param1 is not 0.
abbrev pub asks_summary : List ℕ → Bool
asks_summary exchange = not (slice_index exchange 2 == 0)

-- The terms of a session are those of its negotiation, and its ReqSessionID and whether it asks for a summary are those of its PSK_EXCHANGE.
pub record AreTermsOf (terms : SessionTerms) (n : Negotiation) (exchange : List ℕ) : Type 0 where
  pub choice : terms.choice ≡ (terms_of n).choice
  pub common : terms.common ≡ (terms_of n).common
  pub summary : terms.summary ≡ asks_summary exchange
  pub req_id : terms.req_id ≡ id_in_exchange exchange
