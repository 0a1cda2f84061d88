-- What a negotiation has reached after each of its requests.
use Rattle.std.proofs.Common.{refl, ◌∙◌, ◌≡◌, ◌≤◌, ◌+◌, ℕ, List, [], ◌∷◌, ◌++◌, true, false, Bool, Option, Some, Ok, Err, length, ap, sym, subst, arith}
use Rattle.std.proofs.lemmas.List.{append-nil, length-append}
use Rattle.std.specs.Prelude.{if◌then◌else◌, ◌&&◌, ◌||◌, nat_lt, not, unwrap_or}
use Rattle.std.specs.Result.{result_ok}
use Rattle.negotiate.specs.Capabilities.{common_of, protects, psk_is, shared}
use Rattle.negotiate.specs.Choosing.{selected}
use Rattle.negotiate.specs.declared.shared.Common.{Common}
use Rattle.responder_machine.proofs.Settled.{choice_settled, common_settled}
use Rattle.responder_machine.proofs.Sizes.{common_sized}
use Rattle.responder_machine.specs.Answer.{Free, answer_bytes, request_at}
use Rattle.responder_machine.specs.History.{negotiation_of, phase_of}
use Rattle.responder_machine.specs.Place.{Place}
use Rattle.responder_machine.specs.Setup.{RspSetup, policy_of, responder_caps}
use Rattle.responder_machine.specs.Turn.{Effect, Turn, takes}
use Rattle.responder_machine.specs.Turn.Effect.{Took}
use Rattle.spdm_grammar.specs.Fields.{FitsCaps}
use Rattle.spdm_grammar.specs.Message.{OfferMessage}
use Rattle.spdm_grammar.specs.Message.RequestMessage.{GetCapabilities, GetVersion, NegotiateAlgorithms}
use Rattle.spdm_grammar.specs.Reading.{field_at, number_at}
use Rattle.spdm_grammar.specs.declared.messages.capabilities.Caps.{Caps}
use Rattle.spdm_grammar.specs.declared.messages.choice.Choice.{Choice}
use Rattle.spdm_grammar.specs.declared.names.TheConstants.{MAX_MESSAGE_SIZE, MIN_DATA_TRANSFER_SIZE}
use Rattle.spdm_grammar.specs.declared.names.capability.TheConstants.{PSK_CAP, PSK_CAP_WITH_CONTEXT}
use Rattle.spdm_grammar.specs.declared.messages.part_faults.CapsFault.TheVariants.{NoProtection, NoPsk, SizeTooSmall, SizesCrossed}
use Rattle.std.proofs.lemmas.Option.{none-some, same_Some}
use Rattle.std.proofs.Math.Nat.{min-le_right}
use Rattle.spdm_grammar.specs.declared.names.request_code.TheConstants.{GET_CAPABILITIES, GET_VERSION, NEGOTIATE_ALGORITHMS}
use Rattle.spdm_grammar.specs.declared.told.phase.Phase.{Phase}
use Rattle.spdm_grammar.specs.declared.told.phase.Phase.TheVariants.{Capable, Fresh, Negotiated, Versioned}
use Rattle.spdm_machine.specs.Terms.{Terms, no_choice, no_common, no_negotiation, no_terms, terms_of}
use Rattle.transcript.specs.Transcripts.{Negotiation, vca_of}
use Rattle.responder_core.proofs.Lengths.{algorithms_long, capabilities_long, version_long}
use Rattle.responder_machine.proofs.Settled.{answer_is}
use Rattle.responder_core.specs.Negotiating.{IsSettled, IsUpTo, Seen, StandsFor, most_in}
use Rattle.spdm_machine.proofs.Settling.{algorithms_keep, capabilities_keep, capabilities_up, with_algorithms, with_capabilities}

-- Versions settle no terms.
version_settles : (get_version version : List ℕ) → terms_of (record no_negotiation { get_version = get_version; version = version }) ≡ no_terms
unfolding terms_of number_at field_at
version_settles get_version version = refl

pub nothing_reached : StandsFor (record { phase = Fresh; messages = []; common = no_common; choice = no_choice }) []
nothing_reached = record {
  phase = refl;
  messages = refl;
  up_to = refl;
  few = omega arith;
  common = ap (λ (t : Terms). t.common) (version_settles [] []);
  choice = ap (λ (t : Terms). t.choice) (version_settles [] []);
  settled = refl;
}

-- What is kept after a turn depends on its effect alone.
of_effect : (seen : Seen) (turns : List Turn) (t : Turn) (e : Effect) → t.effect ≡ e → StandsFor seen (record t { effect = e } ∷ turns) → StandsFor seen (t ∷ turns)
of_effect seen turns t e is stands = subst (λ (x : Effect). StandsFor seen (record t { effect = x } ∷ turns)) (sym is) stands

-- Messages are kept after others where they fit.
abbrev IsKept : (before request answer after : List ℕ) → Type 0
IsKept before request answer after = length before + length request + length answer ≤ 8768 → after ≡ before ++ request ++ answer

pub versioned : (r : RspSetup) (p : Place) (f : Free) (request answer messages : List ℕ) (large : Option ℕ) (turns : List Turn) (t : Turn)
    → IsKept [] request answer messages → request_at p request ≡ Some GetVersion → answer ≡ answer_bytes r p request f → t.effect ≡ Took GetVersion request answer large
    → StandsFor (record { phase = Versioned; messages = messages; common = no_common; choice = no_choice }) (t ∷ turns)
versioned r p f request answer messages large turns t kept is answered effect =
    let asked = version_long p request is in
    let told : length answer ≡ 8 = ap length (answered ∙ answer_is r p request f GetVersion is) in
    let said : messages ≡ request ++ answer = kept (omega arith) in
    of_effect _ turns t (Took GetVersion request answer large) effect (record {
      phase = refl;
      messages = said ∙ simp append-nil;
      up_to = refl;
      few = omega (arith, ap length said, length-append request answer);
      common = ap (λ (t : Terms). t.common) (version_settles request answer);
      choice = ap (λ (t : Terms). t.choice) (version_settles request answer);
      settled = refl;
    })

few_more : (messages request answer : List ℕ) (a b c most : ℕ) → length messages ≤ a → length request ≤ b → length answer ≤ c → a + b + c ≤ most → length (messages ++ request ++ answer) ≤ most
few_more messages request answer a b c most x y z within = omega (arith, length-append (messages ++ request) answer, length-append messages request)

-- No message to a requester passes 4,096 bytes.
max_most : (caps told : Caps) (common : Common) → result_ok (common_of caps told) ≡ Some common → common.to_requester.max ≤ MAX_MESSAGE_SIZE
max_most caps told common is =
    of_chain (nat_lt caps.transfer MIN_DATA_TRANSFER_SIZE || nat_lt told.transfer MIN_DATA_TRANSFER_SIZE) (nat_lt caps.max caps.transfer || nat_lt told.max told.transfer)
    (not (psk_is PSK_CAP caps.flags && psk_is PSK_CAP_WITH_CONTEXT told.flags)) (not (protects caps.flags && protects told.flags)) is
  where
    of_chain : (a b c d : Bool)
        → result_ok (if a then Err SizeTooSmall else (if b then Err SizesCrossed else (if c then Err NoPsk else (if d then Err NoProtection else Ok (shared caps told))))) ≡ Some common
        → common.to_requester.max ≤ MAX_MESSAGE_SIZE
    of_chain true b c d h = absurd (none-some common h)
    of_chain false true c d h = absurd (none-some common h)
    of_chain false false true d h = absurd (none-some common h)
    of_chain false false false true h = absurd (none-some common h)
    of_chain false false false false h = subst (λ (x : Common). x.to_requester.max ≤ MAX_MESSAGE_SIZE) (same_Some (shared caps told) common h) (min-le_right caps.max MAX_MESSAGE_SIZE)

pub capable : (r : RspSetup) (p : Place) (f : Free) (caps : Caps) (common : Common) (request answer messages : List ℕ) (large : Option ℕ) (seen : Seen) (turns : List Turn) (t : Turn)
    → IsKept seen.messages request answer messages → StandsFor seen turns → seen.phase ≡ Versioned → FitsCaps (responder_caps r)
    → request_at p request ≡ Some (GetCapabilities caps) → result_ok (common_of caps (responder_caps r)) ≡ Some common
    → answer ≡ answer_bytes r p request f → t.effect ≡ Took (GetCapabilities caps) request answer large
    → StandsFor (record { phase = Capable; messages = messages; common = common; choice = seen.choice }) (t ∷ turns)
capable r p f caps common request answer messages large seen turns t kept stands phase fits is agreed answered effect =
    let n = negotiation_of turns in
    let up_to : n ≡ record no_negotiation { get_version = n.get_version; version = n.version } = subst (λ (x : Phase). IsUpTo x n) phase stands.up_to in
    let few : length seen.messages ≤ 12 = subst (λ (x : Phase). length seen.messages ≤ most_in x) phase stands.few in
    let sized = common_sized caps (responder_caps r) common agreed in
    let asked : length request ≤ 20 = omega (arith, capabilities_long p request caps is) in
    let told : length answer ≤ 20 = omega (arith, ap length (answered ∙ answer_is r p request f (GetCapabilities caps) is)) in
    let said : messages ≡ seen.messages ++ request ++ answer = kept (omega arith) in
    of_effect _ turns t (Took (GetCapabilities caps) request answer large) effect (record {
      phase = refl;
      messages = said ∙ with_capabilities n seen.messages request answer up_to stands.messages;
      up_to = capabilities_up n request answer up_to;
      few = subst (λ (m : List ℕ). length m ≤ 52) (sym said) (few_more seen.messages request answer 12 20 20 52 few asked told (omega arith));
      common = ap (λ (a : List ℕ). (terms_of (record n { get_capabilities = request; capabilities = a })).common) answered ∙ common_settled r p request f caps common n fits is agreed;
      choice = capabilities_keep n request answer ∙ stands.choice;
      settled = record { least = sized.0; crossed = sized.1; most = max_most caps (responder_caps r) common agreed };
    })

pub negotiated : (r : RspSetup) (p : Place) (f : Free) (offer : OfferMessage) (choice : Choice) (request answer messages : List ℕ) (large : Option ℕ) (seen : Seen) (turns : List Turn) (t : Turn)
    → IsKept seen.messages request answer messages → StandsFor seen turns → seen.phase ≡ Capable → length request ≤ MAX_MESSAGE_SIZE
    → request_at p request ≡ Some (NegotiateAlgorithms offer) → selected offer (policy_of r) ≡ Some choice
    → answer ≡ answer_bytes r p request f → t.effect ≡ Took (NegotiateAlgorithms offer) request answer large
    → StandsFor (record { phase = Negotiated; messages = messages; common = seen.common; choice = choice }) (t ∷ turns)
negotiated r p f offer choice request answer messages large seen turns t kept stands phase long is chosen answered effect =
    let n = negotiation_of turns in
    let up_to : n ≡ record n { negotiate_algorithms = []; algorithms = [] } = subst (λ (x : Phase). IsUpTo x n) phase stands.up_to in
    let few : length seen.messages ≤ 52 = subst (λ (x : Phase). length seen.messages ≤ most_in x) phase stands.few in
    let told : length answer ≤ 52 = subst (λ (a : List ℕ). length a ≤ 52) (sym (answered ∙ answer_is r p request f (NegotiateAlgorithms offer) is)) (algorithms_long offer (unwrap_or (selected offer (policy_of r)) no_choice)) in
    let said : messages ≡ seen.messages ++ request ++ answer = kept (omega arith) in
    of_effect _ turns t (Took (NegotiateAlgorithms offer) request answer large) effect (record {
      phase = refl;
      messages = said ∙ with_algorithms n seen.messages request answer up_to stands.messages;
      up_to = tt;
      few = subst (λ (m : List ℕ). length m ≤ 4200) (sym said) (few_more seen.messages request answer 52 4096 52 4200 few long told (omega arith));
      common = algorithms_keep n request answer ∙ stands.common;
      choice = ap (λ (a : List ℕ). (terms_of (record n { negotiate_algorithms = request; algorithms = a })).choice) answered ∙ choice_settled r p request f offer choice n is chosen;
      settled = subst (λ (x : Phase). IsSettled x seen.common) phase stands.settled;
    })

-- Any other turn leaves all as it was.
pub unmoved : (seen : Seen) (turns : List Turn) (t : Turn) → StandsFor seen turns
    → takes GET_VERSION t ≡ false → takes GET_CAPABILITIES t ≡ false → takes NEGOTIATE_ALGORITHMS t ≡ false → StandsFor seen (t ∷ turns)
unmoved seen turns t stands version capabilities algorithms = record {
  phase = same_phase ∙ stands.phase;
  messages = stands.messages ∙ ap vca_of (sym same_negotiation);
  up_to = subst (IsUpTo seen.phase) (sym same_negotiation) stands.up_to;
  few = stands.few;
  common = ap (λ (n : Negotiation). (terms_of n).common) same_negotiation ∙ stands.common;
  choice = ap (λ (n : Negotiation). (terms_of n).choice) same_negotiation ∙ stands.choice;
  settled = stands.settled;
}
  where
    none_of : {A : Type 0} (a b c : Bool) (x y z older : A) → a ≡ false → b ≡ false → c ≡ false → (if a then x else (if b then y else (if c then z else older))) ≡ older
    none_of a b c x y z older e f g = rw (e, f, g) refl

    same_phase : phase_of (t ∷ turns) ≡ phase_of turns
    same_phase = none_of (takes GET_VERSION t) (takes GET_CAPABILITIES t) (takes NEGOTIATE_ALGORITHMS t) Versioned Capable Negotiated (phase_of turns) version capabilities algorithms

    same_negotiation : negotiation_of (t ∷ turns) ≡ negotiation_of turns
    same_negotiation = none_of (takes GET_VERSION t) (takes GET_CAPABILITIES t) (takes NEGOTIATE_ALGORITHMS t) _ _ _ (negotiation_of turns) version capabilities algorithms
