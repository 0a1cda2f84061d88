-- What a session of a connection stands under, as it is shown.
use Rattle.std.specs.Prelude.{◌≡◌, [], true, Option, Some, None}
use Rattle.responder_machine.specs.Session.{Events, exchange_of, is_live, session_negotiation}
use Rattle.session_keys.specs.Terms.{AreTermsOf}
use Rattle.session_keys.specs.declared.terms.SessionTerms.{SessionTerms}

-- A live session stands under these terms, those of its negotiation and of its PSK_EXCHANGE; where there is none, nothing
-- is shown.
abbrev pub AreTermsIn : Option SessionTerms → Events → Type 0
AreTermsIn None s = s ≡ []
AreTermsIn (Some terms) s =
    (is_live s ≡ true) × AreTermsOf terms (session_negotiation s) (exchange_of s)
