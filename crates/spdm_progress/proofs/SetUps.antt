-- What follows of two configured ends: their capabilities go together, and their messages have these lengths.
use Rattle.std.proofs.Common.{◌≡◌, ◌⊎◌, ◌∙◌, ℕ, ◌<◌, ◌≤◌, ◌+◌, ◌^◌, ◌==◌, ◌&&◌, ◌||◌, not, List, [], length, Bool, true, false, cond, nat_le, nat_lt, Some, None, Result, Ok, Err, refl, sym, ap, subst, inl, inr, arith}
use Rattle.spdm_basis.proofs.Bools.{lt_false}
use Rattle.std.specs.Prelude.{if◌then◌else◌, min, unwrap_or}
use Rattle.std.specs.Result.{result_ok}
use Rattle.std.proofs.Math.Nat.{le-min, min-eq_left}
use Rattle.negotiate.proofs.Answered.{four_each}
use Rattle.negotiate.proofs.FewKinds.{few_kinds}
use Rattle.negotiate.specs.Capabilities.{common_of, shared, psk_is, protects}
use Rattle.negotiate.specs.Choosing.{selected, has_small, has_large, has_room_for_sha_384}
use Rattle.negotiate.specs.Offer.{offer_of, hash_offer, pick_bits}
use Rattle.negotiate.specs.Reply.{reply_of, answered_kinds}
use Rattle.negotiate.specs.declared.shared.Common.{Common}
use Rattle.spdm_grammar.specs.Message.{OfferMessage}
use Rattle.spdm_grammar.specs.Message.RequestMessage.{GetCapabilities, NegotiateAlgorithms}
use Rattle.spdm_grammar.specs.Message.ResponseMessage.{Capabilities, Algorithms}
use Rattle.spdm_grammar.specs.Requests.{FitsRequest, IsSoundRequest}
use Rattle.spdm_grammar.specs.Responses.{canonical_response, FitsResponse}
use Rattle.spdm_grammar.specs.declared.messages.choice.Choice.{Choice}
use Rattle.spdm_grammar.specs.declared.messages.part_faults.CapsFault.{CapsFault}
use Rattle.spdm_grammar.specs.declared.messages.part_faults.CapsFault.TheVariants.{SizeTooSmall, SizesCrossed, NoPsk, NoProtection}
use Rattle.spdm_grammar.specs.declared.names.TheConstants.{MIN_DATA_TRANSFER_SIZE, MAX_MESSAGE_SIZE}
use Rattle.spdm_grammar.specs.declared.names.capability.TheConstants.{PSK_CAP, PSK_CAP_WITH_CONTEXT, MEAS_CAP, HBEAT_CAP, KEY_UPD_CAP, CHUNK_CAP}
use Rattle.spdm_machine.specs.Setup.{protection_flags}
use Rattle.spdm_machine.specs.Terms.{terms_of, no_choice}
use Rattle.requester_machine.specs.Sending.{is_too_long}
use Rattle.requester_machine.specs.Setup.{ReqSetup, requester_caps}
use Rattle.responder_machine.proofs.Settled.{common_settled, choice_settled}
use Rattle.responder_machine.specs.History.{History}
use Rattle.responder_machine.specs.Place.{Place, clear_place}
use Rattle.responder_machine.specs.Setup.{RspSetup, responder_caps, policy_of}
use Rattle.transcript.specs.Transcripts.{Negotiation}
use Rattle.capture_machine.specs.Opening.{any_free}
use Rattle.spdm_agreement.specs.Configured.{IsRequester, IsResponder}
use Rattle.spdm_agreement.proofs.Requester.OwnRequests as own
use Rattle.spdm_agreement.proofs.Requester.OwnRequests.{offer_with, are_four, at_most}
use Rattle.spdm_agreement.proofs.Responder.Negotiation as served
use Rattle.spdm_agreement.proofs.Responder.Negotiation.{answered}
use Rattle.std.proofs.lemmas.Bool.{leb-false, leb-true, lt-ltb}
use Rattle.spdm_progress.specs.Fitting.{CanGo}
use Rattle.spdm_progress.proofs.ClearFetch.{CanFetchIn}
use Rattle.spdm_progress.proofs.ClearSend.{CanSend}
use Rattle.spdm_progress.proofs.RequesterStages.{Offers, OffersWhole}
use Rattle.spdm_progress.proofs.ResponderStages.{Takes, HasCapabilities, first_pair, two_pairs, three_pairs, get_capabilities, negotiate_algorithms, algorithms}
use Rattle.spdm_progress.proofs.ResponderTurns.{read_at}

-- ---- Capabilities go together.

abbrev asking_flags : Bool → Bool → Bool → ℕ
asking_flags a b c = protection_flags + PSK_CAP + ((if a then HBEAT_CAP else 0) + (if b then KEY_UPD_CAP else 0) + (if c then CHUNK_CAP else 0))

abbrev serving_flags : Bool → Bool → Bool → Bool → ℕ
serving_flags m a b c = protection_flags + PSK_CAP_WITH_CONTEXT + (if m then MEAS_CAP else 0) + ((if a then HBEAT_CAP else 0) + (if b then KEY_UPD_CAP else 0) + (if c then CHUNK_CAP else 0))

asks_by_key : (a b c : Bool) → (psk_is PSK_CAP (asking_flags a b c) ≡ true) × (protects (asking_flags a b c) ≡ true)
asks_by_key true true true = (refl, refl)
asks_by_key true true false = (refl, refl)
asks_by_key true false true = (refl, refl)
asks_by_key true false false = (refl, refl)
asks_by_key false true true = (refl, refl)
asks_by_key false true false = (refl, refl)
asks_by_key false false true = (refl, refl)
asks_by_key false false false = (refl, refl)

serves_by_key : (m a b c : Bool) → (psk_is PSK_CAP_WITH_CONTEXT (serving_flags m a b c) ≡ true) × (protects (serving_flags m a b c) ≡ true)
serves_by_key true true true true = (refl, refl)
serves_by_key true true true false = (refl, refl)
serves_by_key true true false true = (refl, refl)
serves_by_key true true false false = (refl, refl)
serves_by_key true false true true = (refl, refl)
serves_by_key true false true false = (refl, refl)
serves_by_key true false false true = (refl, refl)
serves_by_key true false false false = (refl, refl)
serves_by_key false true true true = (refl, refl)
serves_by_key false true true false = (refl, refl)
serves_by_key false true false true = (refl, refl)
serves_by_key false true false false = (refl, refl)
serves_by_key false false true true = (refl, refl)
serves_by_key false false true false = (refl, refl)
serves_by_key false false false true = (refl, refl)
serves_by_key false false false false = (refl, refl)

all_pass : (a b c d e f g h : Bool) (common : Common) → a ≡ false → b ≡ false → c ≡ false → d ≡ false → e ≡ true → f ≡ true → g ≡ true → h ≡ true
    → (if a || b then Err SizeTooSmall else (if c || d then Err SizesCrossed else (if not (e && f) then Err NoPsk else (if not (g && h) then Err NoProtection else Ok common)))) ≡ (let x : Result Common CapsFault = Ok common in x)
all_pass a b c d e f g h common p q r s t u v w = rw (p, q, r, s, t, u, v, w) refl

abbrev pub common_for : ReqSetup → RspSetup → Common
common_for q r = shared (requester_caps q) (responder_caps r)

go_together : (q : ReqSetup) (r : RspSetup) → IsRequester q → IsResponder r → common_of (requester_caps q) (responder_caps r) ≡ Ok (common_for q r)
go_together q r a b =
    let asks = asks_by_key q.flags.heartbeat q.flags.key_update q.flags.chunk in
    let serves = serves_by_key r.flags.measure r.flags.heartbeat r.flags.key_update r.flags.chunk in
    all_pass (nat_lt q.transfer MIN_DATA_TRANSFER_SIZE) (nat_lt r.transfer MIN_DATA_TRANSFER_SIZE) (nat_lt q.max q.transfer) (nat_lt r.max r.transfer)
    (psk_is PSK_CAP (requester_caps q).flags) (psk_is PSK_CAP_WITH_CONTEXT (responder_caps r).flags) (protects (requester_caps q).flags) (protects (responder_caps r).flags) (common_for q r)
    (lt_false q.transfer MIN_DATA_TRANSFER_SIZE a.sizes.least) (lt_false r.transfer MIN_DATA_TRANSFER_SIZE b.sizes.least) (lt_false q.max q.transfer a.sizes.ordered) (lt_false r.max r.transfer b.sizes.ordered)
    asks.0 serves.0 asks.1 serves.1

-- ---- The offer.

pub record IsOwnOffer (offer : OfferMessage) : Type 0 where
  pub fits : FitsRequest (NegotiateAlgorithms offer)
  pub sound : IsSoundRequest 32 (NegotiateAlgorithms offer)
  pub size : length (negotiate_algorithms offer) ≡ 48

own_with : (hash aead : ℕ) → hash < 2 ^ 32 → IsOwnOffer (offer_with hash aead)
own_with hash aead few = record {
  fits = record { measurement = omega arith; other = omega arith; asym = omega arith; hash = few; count = omega arith };
  sound = record { ext_asym = refl; ext_asym_few = omega arith; ext_hash = refl; ext_hash_few = omega arith; tables = are_four aead; told = omega arith };
  size = refl;
}

own_by : (b : Bool) (hash aead : ℕ) (offer : OfferMessage) → hash < 2 ^ 32 → cond b None (Some (offer_with hash aead)) ≡ Some offer → IsOwnOffer offer
own_by true hash aead offer few is = absurd (cc)
own_by false hash aead offer few is = (let same : offer_with hash aead ≡ offer = cc in subst IsOwnOffer same (own_with hash aead few))

pub own_offer : (q : ReqSetup) (transfer : ℕ) (offer : OfferMessage) → offer_of q.suites transfer ≡ Some offer → IsOwnOffer offer
own_offer q transfer offer is =
    own_by (hash_offer q.suites.hash transfer == 0) (hash_offer q.suites.hash transfer) (pick_bits q.suites.aead) offer
    (let a = at_most (has_small q.suites.hash) 1 in let b = at_most (has_large q.suites.hash && has_room_for_sha_384 transfer) 2 in omega arith) is

-- ---- The reply.

reply_size : (offer : OfferMessage) (choice : Choice) → length (canonical_response (Algorithms (reply_of offer choice))) ≤ 52
reply_size offer choice = (let a = four_each choice (answered_kinds offer) in let b = few_kinds offer in omega arith)

pub algorithms_size : (r : RspSetup) (offer : OfferMessage) → length (algorithms r offer) ≤ 52
algorithms_size r offer = reply_size offer (unwrap_or (selected offer (policy_of r)) no_choice)

-- ---- All together.

pub record CanTalk (q : ReqSetup) (r : RspSetup) (offer : OfferMessage) (choice : Choice) : Type 0 where
  pub requester_room : MIN_DATA_TRANSFER_SIZE ≤ q.transfer
  pub responder_room : MIN_DATA_TRANSFER_SIZE ≤ r.transfer
  pub own_caps : FitsRequest (GetCapabilities (requester_caps q))
  pub their_caps : FitsResponse (Capabilities (responder_caps r))
  pub together : common_of (requester_caps q) (responder_caps r) ≡ Ok (common_for q r)
  pub offers : OffersWhole q r offer (common_for q r)
  pub own : IsOwnOffer offer
  pub chosen : selected offer (policy_of r) ≡ Some choice
  pub request_fits : length (negotiate_algorithms offer) ≤ r.transfer
  pub answer_fits : length (algorithms r offer) ≤ q.transfer
  pub answer_takes : (length (algorithms r offer) ≤ (common_for q r).to_requester.max) × (length (algorithms r offer) ≤ (common_for q r).to_requester.transfer)
  pub common_is : (terms_of (two_pairs q r)).common ≡ common_for q r
  pub choice_is : (terms_of (three_pairs q r offer)).choice ≡ choice

-- ALGORITHMS, with so many bytes round it, fits the transfer size of the requester, as it is set up and as it is
-- negotiated.
pub record GoesWhole (round : ℕ) (q : ReqSetup) (r : RspSetup) (offer : OfferMessage) : Type 0 where
  pub answer_fits : round + length (algorithms r offer) ≤ q.transfer
  pub answer_takes : (length (algorithms r offer) ≤ (common_for q r).to_requester.max) × (round + length (algorithms r offer) ≤ (common_for q r).to_requester.transfer)

-- It goes whole, or in chunks.
abbrev pub AnswerGoes : (round : ℕ) → ReqSetup → RspSetup → OfferMessage → Type 0
AnswerGoes round q r offer = GoesWhole round q r offer ⊎ CanFetchIn round q r (length (algorithms r offer)) (two_pairs q r)

-- NEGOTIATE_ALGORITHMS goes whole, or in chunks; its answer goes with nothing or with 6 bytes round it.
pub record AsksWhole (q : ReqSetup) (r : RspSetup) (offer : OfferMessage) : Type 0 where
  pub request_fits : length (negotiate_algorithms offer) ≤ r.transfer
  pub whole : nat_lt (common_for q r).to_responder.transfer (length (negotiate_algorithms offer)) ≡ false
  pub answer : AnswerGoes 0 q r offer

pub record AsksByChunks (q : ReqSetup) (r : RspSetup) (offer : OfferMessage) : Type 0 where
  pub send : CanSend q r (negotiate_algorithms offer) (two_pairs q r)
  pub split : nat_lt (common_for q r).to_responder.transfer (length (negotiate_algorithms offer)) ≡ true
  pub answer_max : length (algorithms r offer) ≤ (common_for q r).to_requester.max
  pub answer : AnswerGoes 6 q r offer

-- What a connect comes to, in chunks too.
pub record CanMeet (q : ReqSetup) (r : RspSetup) (offer : OfferMessage) (choice : Choice) : Type 0 where
  pub requester_room : MIN_DATA_TRANSFER_SIZE ≤ q.transfer
  pub responder_room : MIN_DATA_TRANSFER_SIZE ≤ r.transfer
  pub own_caps : FitsRequest (GetCapabilities (requester_caps q))
  pub their_caps : FitsResponse (Capabilities (responder_caps r))
  pub together : common_of (requester_caps q) (responder_caps r) ≡ Ok (common_for q r)
  pub offers : Offers q r offer (common_for q r)
  pub own : IsOwnOffer offer
  pub chosen : selected offer (policy_of r) ≡ Some choice
  pub common_is : (terms_of (two_pairs q r)).common ≡ common_for q r
  pub choice_is : (terms_of (three_pairs q r offer)).choice ≡ choice
  pub way : AsksWhole q r offer ⊎ AsksByChunks q r offer

no_overflow : (a b c : Bool) → a ≡ false → c ≡ false → (a || (not b && c)) ≡ false
no_overflow a true c e f = rw e refl
no_overflow a false c e f = rw (e, f) refl

whole_offer : (q : ReqSetup) (r : RspSetup) (offer : OfferMessage) → IsRequester q → IsResponder r → offer_of q.suites r.transfer ≡ Some offer → length (negotiate_algorithms offer) ≤ r.transfer → OffersWhole q r offer (common_for q r)
whole_offer q r offer a b offered fits =
    let most = b.sizes.most in let ordered = b.sizes.ordered in
    let same : min r.transfer MAX_MESSAGE_SIZE ≡ r.transfer = min-eq_left (omega arith) in
    let largest : min r.max MAX_MESSAGE_SIZE ≡ r.max = min-eq_left most in
    let size = (own_offer q r.transfer offer offered).size in record {
      shared = go_together q r a b;
      offered = ap (offer_of q.suites) same ∙ offered;
      short = no_overflow (nat_lt (min r.max MAX_MESSAGE_SIZE) (length (negotiate_algorithms offer))) (common_for q r).chunk (nat_lt (min r.transfer MAX_MESSAGE_SIZE) (length (negotiate_algorithms offer)))
          (lt_false (min r.max MAX_MESSAGE_SIZE) (length (negotiate_algorithms offer)) (subst (λ (n : ℕ). length (negotiate_algorithms offer) ≤ n) (sym largest) (omega arith)))
          (lt_false (min r.transfer MAX_MESSAGE_SIZE) (length (negotiate_algorithms offer)) (subst (λ (n : ℕ). length (negotiate_algorithms offer) ≤ n) (sym same) fits));
      whole = lt_false (min r.transfer MAX_MESSAGE_SIZE) (length (negotiate_algorithms offer)) (subst (λ (n : ℕ). length (negotiate_algorithms offer) ≤ n) (sym same) fits);
    }

-- The place at which nothing was said yet.
abbrev fresh_place : Place
fresh_place = clear_place []

common_told : (q : ReqSetup) (r : RspSetup) → IsRequester q → IsResponder r → (terms_of (two_pairs q r)).common ≡ common_for q r
common_told q r a b =
    let read = read_at fresh_place (GetCapabilities (requester_caps q)) (own.caps_fit q a) tt in
    sym (ap (λ (x : List ℕ). (terms_of (record first_pair { get_capabilities = get_capabilities q; capabilities = x })).common) (answered r fresh_place (get_capabilities q) any_free (GetCapabilities (requester_caps q)) read))
    ∙ common_settled r fresh_place (get_capabilities q) any_free (requester_caps q) (common_for q r) first_pair (served.caps_fit r b) read (ap result_ok (go_together q r a b))

choice_told : (q : ReqSetup) (r : RspSetup) (offer : OfferMessage) (choice : Choice) → IsOwnOffer offer → selected offer (policy_of r) ≡ Some choice → (terms_of (three_pairs q r offer)).choice ≡ choice
choice_told q r offer choice k chosen =
    let read = read_at fresh_place (NegotiateAlgorithms offer) k.fits k.sound in
    sym (ap (λ (x : List ℕ). (terms_of (record (two_pairs q r) { negotiate_algorithms = negotiate_algorithms offer; algorithms = x })).choice) (answered r fresh_place (negotiate_algorithms offer) any_free (NegotiateAlgorithms offer) read))
    ∙ choice_settled r fresh_place (negotiate_algorithms offer) any_free offer choice (two_pairs q r) read chosen

pub can_talk : (q : ReqSetup) (r : RspSetup) (offer : OfferMessage) (choice : Choice) → IsRequester q → IsResponder r → offer_of q.suites r.transfer ≡ Some offer → selected offer (policy_of r) ≡ Some choice
    → length (negotiate_algorithms offer) ≤ r.transfer → length (algorithms r offer) ≤ q.transfer → CanTalk q r offer choice
can_talk q r offer choice a b offered chosen request_fits answer_fits =
    let size = algorithms_size r offer in
    let ordered = a.sizes.ordered in record {
      requester_room = a.sizes.least;
      responder_room = b.sizes.least;
      own_caps = own.caps_fit q a;
      their_caps = served.caps_fit r b;
      together = go_together q r a b;
      offers = whole_offer q r offer a b offered request_fits;
      own = own_offer q r.transfer offer offered;
      chosen = chosen;
      request_fits = request_fits;
      answer_fits = answer_fits;
      answer_takes = (le-min (omega arith) (omega arith), le-min answer_fits (omega arith));
      common_is = common_told q r a b;
      choice_is = choice_told q r offer choice (own_offer q r.transfer offer offered) chosen;
    }

-- Which way each of the two goes.
module _ (q : ReqSetup) (r : RspSetup) (offer : OfferMessage) (a : IsRequester q) (b : IsResponder r) (own_size : length (negotiate_algorithms offer) ≡ 48)
    (asks : CanGo (common_for q r) (common_for q r).to_responder (length (negotiate_algorithms offer))) (answers : CanGo (common_for q r) (common_for q r).to_requester (length (algorithms r offer))) where
  abbrev size : ℕ
  size = length (algorithms r offer)

  own_transfer : (common_for q r).to_requester.transfer ≡ q.transfer
  own_transfer = (let most = a.sizes.most in let ordered = a.sizes.ordered in min-eq_left (omega arith))

  own_max : (common_for q r).to_requester.max ≡ q.max
  own_max = (let most = a.sizes.most in min-eq_left most)

  their_transfer : (common_for q r).to_responder.transfer ≡ r.transfer
  their_transfer = (let most = b.sizes.most in let ordered = b.sizes.ordered in min-eq_left (omega arith))

  their_max : (common_for q r).to_responder.max ≡ r.max
  their_max = (let most = b.sizes.most in min-eq_left most)

  in_common : (z : Bool) → (common_for q r).chunk ≡ z → (z ≡ false → ⊥) → z ≡ true
  in_common true is other = refl
  in_common false is other = absurd (other refl)

  answer_way : (round : ℕ) → round ≤ 6 → (q.transfer < round + size → (common_for q r).chunk ≡ true) → AnswerGoes round q r offer
  answer_way round few chunks = by_size (nat_le (round + size) q.transfer) refl
    where
      by_size : (z : Bool) → nat_le (round + size) q.transfer ≡ z → AnswerGoes round q r offer
      by_size true is = inl (record { answer_fits = leb-true _ _ is; answer_takes = (answers.0, subst (λ (k : ℕ). round + size ≤ k) (sym own_transfer) (leb-true _ _ is)) })
      by_size false is =
          let common = common_told q r a b in
          inr (record {
            room = b.sizes.least;
            chunk = ap (λ (c : Common). c.chunk) common ∙ chunks (leb-false _ _ is);
            large = subst (λ (c : Common). c.to_requester.transfer < round + size) (sym common) (subst (λ (k : ℕ). k < round + size) (sym own_transfer) (leb-false _ _ is));
            few = few;
            fits_max = subst (λ (c : Common). size ≤ c.to_requester.max) (sym common) answers.0;
            transfer = ap (λ (c : Common). c.to_requester.transfer) common ∙ own_transfer;
            max = ap (λ (c : Common). c.to_requester.max) common ∙ own_max;
            least = a.sizes.least;
            ordered = a.sizes.ordered;
            most = a.sizes.most;
          })

  crossed : q.transfer < 0 + size → (common_for q r).chunk ≡ false → ⊥
  crossed large none = (let fits = answers.1 none in omega (arith, fits, large, own_transfer))

  crossed_there : r.transfer < length (negotiate_algorithms offer) → (common_for q r).chunk ≡ false → ⊥
  crossed_there more none = (let fits = asks.1 none in omega (arith, fits, more, their_transfer))

  room_most : MIN_DATA_TRANSFER_SIZE ≤ q.max
  room_most = (let ordered = a.sizes.ordered in let least = a.sizes.least in omega (arith, least, ordered))

  asks_way : AsksWhole q r offer ⊎ AsksByChunks q r offer
  asks_way = by_size (nat_le (length (negotiate_algorithms offer)) r.transfer) refl
    where
      by_size : (z : Bool) → nat_le (length (negotiate_algorithms offer)) r.transfer ≡ z → AsksWhole q r offer ⊎ AsksByChunks q r offer
      by_size true is = inl (record {
        request_fits = leb-true _ _ is;
        whole = lt_false _ _ (subst (λ (k : ℕ). length (negotiate_algorithms offer) ≤ k) (sym their_transfer) (leb-true _ _ is));
        answer = answer_way 0 (omega arith) (λ large. in_common (common_for q r).chunk refl (crossed large));
      })
      by_size false is =
          let common = common_told q r a b in
          let more = leb-false _ _ is in
          let chunks : (common_for q r).chunk ≡ true = in_common (common_for q r).chunk refl (crossed_there more) in
          let least = a.sizes.least in
          let fits = asks.0 in
          inr (record {
            send = record {
              chunk = ap (λ (c : Common). c.chunk) common ∙ chunks;
              large = subst (λ (c : Common). c.to_responder.transfer < length (negotiate_algorithms offer)) (sym common) (subst (λ (k : ℕ). k < length (negotiate_algorithms offer)) (sym their_transfer) more);
              transfer = ap (λ (c : Common). c.to_responder.transfer) common ∙ their_transfer;
              fits = subst (λ (k : ℕ). length (negotiate_algorithms offer) ≤ k) their_max fits;
              least = b.sizes.least;
              most = b.sizes.most;
              room = least;
              room_there = subst (λ (c : Common). MIN_DATA_TRANSFER_SIZE ≤ c.to_requester.transfer) (sym common) (subst (λ (k : ℕ). MIN_DATA_TRANSFER_SIZE ≤ k) (sym own_transfer) least);
              room_max = subst (λ (c : Common). MIN_DATA_TRANSFER_SIZE ≤ c.to_requester.max) (sym common) (subst (λ (k : ℕ). MIN_DATA_TRANSFER_SIZE ≤ k) (sym own_max) room_most);
            };
            split = lt-ltb _ _ (subst (λ (k : ℕ). k < length (negotiate_algorithms offer)) (sym their_transfer) more);
            answer_max = answers.0;
            answer = answer_way 6 (omega arith) (λ large. chunks);
          })

  -- It is not too long to be sent.
  not_long : is_too_long (common_for q r) (negotiate_algorithms offer) ≡ false
  not_long = by_chunk (common_for q r).chunk refl
    where
      by_chunk : (z : Bool) → (common_for q r).chunk ≡ z → is_too_long (common_for q r) (negotiate_algorithms offer) ≡ false
      by_chunk true is =
          ap (λ (c : Bool). nat_lt (common_for q r).to_responder.max (length (negotiate_algorithms offer)) || (not c && nat_lt (common_for q r).to_responder.transfer (length (negotiate_algorithms offer)))) is
          ∙ ap (λ (x : Bool). x || false) (lt_false _ _ asks.0)
      by_chunk false is = no_overflow (nat_lt (common_for q r).to_responder.max (length (negotiate_algorithms offer))) (common_for q r).chunk (nat_lt (common_for q r).to_responder.transfer (length (negotiate_algorithms offer))) (lt_false _ _ asks.0) (lt_false _ _ (asks.1 is))

pub can_meet : (q : ReqSetup) (r : RspSetup) (offer : OfferMessage) (choice : Choice) → IsRequester q → IsResponder r → offer_of q.suites r.transfer ≡ Some offer → selected offer (policy_of r) ≡ Some choice
    → CanGo (common_for q r) (common_for q r).to_responder (length (negotiate_algorithms offer)) → CanGo (common_for q r) (common_for q r).to_requester (length (algorithms r offer)) → CanMeet q r offer choice
can_meet q r offer choice a b offered chosen asks answers =
    let mine = own_offer q r.transfer offer offered in
    record {
      requester_room = a.sizes.least;
      responder_room = b.sizes.least;
      own_caps = own.caps_fit q a;
      their_caps = served.caps_fit r b;
      together = go_together q r a b;
      offers = record {
        shared = go_together q r a b;
        offered = ap (offer_of q.suites) (their_transfer q r offer a b mine.size asks answers) ∙ offered;
        short = not_long q r offer a b mine.size asks answers;
      };
      own = mine;
      chosen = chosen;
      common_is = common_told q r a b;
      choice_is = choice_told q r offer choice mine chosen;
      way = asks_way q r offer a b mine.size asks answers;
    }

pub takes_whole : (q : ReqSetup) (r : RspSetup) (offer : OfferMessage) (choice : Choice) (h : History) → CanMeet q r offer choice → GoesWhole 0 q r offer → HasCapabilities q r h → Takes (clear_place h) (length (algorithms r offer))
takes_whole q r offer choice h can whole has =
    let takes = whole.answer_takes in
    record {
      both = λ known. subst (λ (common : Common). (length (algorithms r offer) ≤ common.to_requester.max) × (length (algorithms r offer) ≤ common.to_requester.transfer))
          (sym (ap (λ (n : Negotiation). (terms_of n).common) has.negotiation ∙ can.common_is)) (takes.0, (let fits = takes.1 in omega (arith, fits)));
    }

pub takes_answer : (q : ReqSetup) (r : RspSetup) (offer : OfferMessage) (choice : Choice) (h : History) → CanTalk q r offer choice → HasCapabilities q r h → Takes (clear_place h) (length (algorithms r offer))
takes_answer q r offer choice h can has = record {
  both = λ known. subst (λ (common : Common). (length (algorithms r offer) ≤ common.to_requester.max) × (length (algorithms r offer) ≤ common.to_requester.transfer))
      (sym (ap (λ (n : Negotiation). (terms_of n).common) has.negotiation ∙ can.common_is)) can.answer_takes;
}
