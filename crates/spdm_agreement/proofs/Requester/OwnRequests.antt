-- The own requests of a negotiation are read as they were written.
use Rattle.std.proofs.Common.{◌≡◌, ◌≤◌, ◌<◌, ◌^◌, ◌+◌, ℕ, [], ◌∷◌, Bool, true, false, cond, Some, None, is_some, ◌==◌, refl, ap, subst, arith}
use Rattle.negotiate.specs.Choosing.{has_small, has_large, has_room_for_sha_384}
use Rattle.negotiate.specs.Offer.{hash_offer, offer_tables}
use Rattle.std.specs.Prelude.{◌&&◌}
use Rattle.spdm_grammar.specs.Fields.{FitsCaps}
use Rattle.spdm_grammar.specs.Layout.{AreTables, IsTable}
use Rattle.spdm_grammar.specs.Message.{OfferMessage}
use Rattle.spdm_grammar.specs.Message.RequestMessage.{GetCapabilities, NegotiateAlgorithms}
use Rattle.spdm_grammar.specs.Requests.{canonical_request}
use Rattle.spdm_grammar.specs.declared.messages.choice.FlagSet.{FlagSet}
use Rattle.requester_machine.specs.Setup.{ReqSetup, requester_caps}
use Rattle.spdm_machine.specs.Setup.{optional_flags}
use Rattle.spdm_grammar.specs.declared.names.capability.TheConstants.{HBEAT_CAP, KEY_UPD_CAP, CHUNK_CAP}
use Rattle.spdm_agreement.specs.Configured.{IsRequester}
use Rattle.spdm_agreement.proofs.Requester.ExchangeMoves.{exchange_read}
use Rattle.spdm_agreement.proofs.Requester.HistoryInvariant.{AskedKept}
use Rattle.spdm_agreement.proofs.Requester.NegotiationInvariant.{OwnReads}
use Rattle.spdm_agreement.proofs.Requester.AnyCommand.{asks_well_by}
use Rattle.spdm_agreement.proofs.Worlds.EndSteps.{AsksWell}
use Rattle.spdm_agreement.proofs.Messages.Beginnings.{is_request}
use Rattle.spdm_agreement.specs.Story.{Past}

pub at_most : (b : Bool) (x : ℕ) → cond b x 0 ≤ x
at_most true x = omega arith
at_most false x = omega arith

few_flags : (f : FlagSet) → optional_flags f ≤ HBEAT_CAP + KEY_UPD_CAP + CHUNK_CAP
few_flags f = (let a = at_most f.heartbeat HBEAT_CAP in let b = at_most f.key_update KEY_UPD_CAP in let c = at_most f.chunk CHUNK_CAP in omega arith)

pub caps_fit : (q : ReqSetup) → IsRequester q → FitsCaps (requester_caps q)
caps_fit q setup = record {
  ct = omega arith;
  flags = (let k = few_flags q.flags in omega arith);
  transfer = (let a = setup.sizes.ordered in let b = setup.sizes.most in omega arith);
  max = (let b = setup.sizes.most in omega arith);
}

pub are_four : (aead : ℕ) → AreTables 4 (offer_tables aead)
are_four aead = (
  2 ∷ 0x20 ∷ 0 ∷ 0 ∷ [],
  3 ∷ 0x20 ∷ aead ∷ 0 ∷ 4 ∷ 0x20 ∷ 0 ∷ 0 ∷ 5 ∷ 0x20 ∷ 1 ∷ 0 ∷ [],
  refl,
  one 2 0,
  (
    3 ∷ 0x20 ∷ aead ∷ 0 ∷ [],
    4 ∷ 0x20 ∷ 0 ∷ 0 ∷ 5 ∷ 0x20 ∷ 1 ∷ 0 ∷ [],
    refl,
    one 3 aead,
    (
      4 ∷ 0x20 ∷ 0 ∷ 0 ∷ [],
      5 ∷ 0x20 ∷ 1 ∷ 0 ∷ [],
      refl,
      one 4 0,
      (5 ∷ 0x20 ∷ 1 ∷ 0 ∷ [], [], refl, one 5 1, refl),
    ),
  ),
)
  where
    one : (kind value : ℕ) → IsTable (kind ∷ 0x20 ∷ value ∷ 0 ∷ [])
    one kind value = record { fixed_part = omega arith; fixed_count = refl; entries = refl }

abbrev pub offer_with : (hash aead : ℕ) → OfferMessage
offer_with hash aead = record { measurement = 1; other = 2; asym = 0; hash = hash; ext_asym = []; ext_hash = []; count = 4; tables = offer_tables aead }

offer_read : (hash aead : ℕ) → hash < 2 ^ 32 → is_request 32 (canonical_request (NegotiateAlgorithms (offer_with hash aead))) ≡ true
offer_read hash aead few = ap is_some (exchange_read 32 (NegotiateAlgorithms (offer_with hash aead))
    (record { measurement = omega arith; other = omega arith; asym = omega arith; hash = few; count = omega arith })
    (record { ext_asym = refl; ext_asym_few = omega arith; ext_hash = refl; ext_hash_few = omega arith; tables = are_four aead; told = omega arith }))

offered : (c : Bool) (hash aead : ℕ) (offer : OfferMessage) → hash < 2 ^ 32 → cond c None (Some (offer_with hash aead)) ≡ Some offer → is_request 32 (canonical_request (NegotiateAlgorithms offer)) ≡ true
offered true hash aead offer few e = absurd (cc)
offered false hash aead offer few e = (let same : offer_with hash aead ≡ offer = cc in subst (λ (o : OfferMessage). is_request 32 (canonical_request (NegotiateAlgorithms o)) ≡ true) same (offer_read hash aead few))

pub own_reads : (q : ReqSetup) → IsRequester q → OwnReads q
own_reads q setup = record {
  caps = ap is_some (exchange_read 32 (GetCapabilities (requester_caps q)) (caps_fit q setup) tt);
  offer = λ transfer offer e. offered (hash_offer q.suites.hash transfer == 0) (hash_offer q.suites.hash transfer) _ offer
      (let a = at_most (has_small q.suites.hash) 1 in let b = at_most (has_large q.suites.hash && has_room_for_sha_384 transfer) 2 in omega arith) e;
}

-- Whatever command comes.
pub asks_well_always : (prior : Past) → AsksWell prior (AskedKept prior)
asks_well_always prior = asks_well_by prior own_reads
