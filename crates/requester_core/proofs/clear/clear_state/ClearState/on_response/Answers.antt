use Rattle.std.proofs.Common.{refl, ◌≡◌, ◌∙◌, ap, subst, sym, ℕ}
use Rattle.std.specs.Prelude.{Ok}
use Rattle.requester_core.proofs.Answered.{algorithms_asked, answered_as, capabilities_asked, measurements_asked, version_asked}
use Rattle.requester_core.specs.ReplyOutcome.{IsAnswered}
use Rattle.requester_core.specs.Negotiating.{IsUpTo}
use Rattle.negotiate.specs.Capabilities.{common_of}
use Rattle.negotiate.specs.Choosing.{agreed}
use Rattle.negotiate.specs.Versions.{first_of_1_2, version_entries}
use Rattle.requester_machine.specs.Answers.{algorithms_led, caps_led, measured_led, version_led}
use Rattle.requester_machine.specs.ClearAnswers.{reading_of}
use Rattle.requester_machine.specs.History.{negotiation_of}
use Rattle.requester_machine.specs.History.Effect.{Answers}
use Rattle.requester_machine.specs.UnderWay.{IsAwaited}
use Rattle.spdm_grammar.specs.Message.{RequestMessage, measured_message, reply_message, response_message}
use Rattle.spdm_grammar.specs.Message.RequestMessage.{GetCapabilities, GetMeasurements, GetVersion, NegotiateAlgorithms}
use Rattle.spdm_grammar.specs.Message.ResponseMessage.{Algorithms, Capabilities, Measurements, Version}
use Rattle.spdm_grammar.specs.Requests.{canonical_request}
use Rattle.spdm_grammar.specs.declared.messages.response.Response.{Response}
use Rattle.requester_core.proofs.clear.clear_state.ClearState.on_response.Goals as goal

pub returns-in-Version-Version : goal.returns-in-Version-Version
returns-in-Version-Version c = λ q h request setup shows awaits kind keeps up short reads.
    let answer = c.args.answer.now in
    let entries = c.in-Version-Version.entries.now in
    let same : request ≡ GetVersion = version_asked q h request awaits (kind ∙ c.in-Version-Version.is-0) in
    let reads_as = subst (λ (r : RequestMessage). reading_of h r answer ≡ Ok (Version entries)) same (reads ∙ ap (λ (x : Response). Ok (response_message x)) c.in-Version-Version.is-1) in
    let keeps_it = subst (λ (r : RequestMessage). c.args.self.now.outgoing.request ≡ canonical_request r) same keeps in
    let up_to = subst (λ (r : RequestMessage). IsUpTo r (negotiation_of h)) same up in
    subst (λ (r : RequestMessage). IsAnswered q h c.args.place r answer c.on_version.result c.args.self.now c.on_version.new.self c.on_version.new.out) (sym same)
    (answered_as q h c.args.place GetVersion answer (Version entries) (Ok (version_led q h answer (first_of_1_2 (version_entries entries)))) c.on_version.result c.args.self.now c.on_version.new.self c.on_version.new.out
    reads_as (λ f. refl) (c.on_version.ensures q h setup shows keeps_it up_to short))

pub returns-in-Capabilities-Capabilities : goal.returns-in-Capabilities-Capabilities
returns-in-Capabilities-Capabilities c = λ q h request setup shows awaits kind keeps up short reads.
    let answer = c.args.answer.now in
    let theirs = c.in-Capabilities-Capabilities.theirs in
    let asked = capabilities_asked q h request awaits (kind ∙ c.in-Capabilities-Capabilities.is-0) in
    let caps = asked.0 in
    let same = asked.1 in
    let reads_as = subst (λ (r : RequestMessage). reading_of h r answer ≡ Ok (Capabilities theirs)) same (reads ∙ ap (λ (x : Response). Ok (response_message x)) c.in-Capabilities-Capabilities.is-1) in
    let keeps_it = subst (λ (r : RequestMessage). c.args.self.now.outgoing.request ≡ canonical_request r) same keeps in
    let up_to = subst (λ (r : RequestMessage). IsUpTo r (negotiation_of h)) same up in
    let waits = subst (λ (r : RequestMessage). IsAwaited q h r) same awaits in
    subst (λ (r : RequestMessage). IsAnswered q h c.args.place r answer c.on_capabilities.result c.args.self.now c.on_capabilities.new.self c.on_capabilities.new.out) (sym same)
    (answered_as q h c.args.place (GetCapabilities caps) answer (Capabilities theirs) (Ok (caps_led q h (Answers (GetCapabilities caps) answer) (common_of caps theirs))) c.on_capabilities.result c.args.self.now c.on_capabilities.new.self c.on_capabilities.new.out
    reads_as (λ f. refl) (c.on_capabilities.ensures q h caps setup shows waits.1 keeps_it up_to reads_as))

pub returns-in-Algorithms-Algorithms : goal.returns-in-Algorithms-Algorithms
returns-in-Algorithms-Algorithms c = λ q h request setup shows awaits kind keeps up short reads.
    let answer = c.args.answer.now in
    let reply = reply_message c.in-Algorithms-Algorithms.reply in
    let asked = algorithms_asked q h request awaits (kind ∙ c.in-Algorithms-Algorithms.is-0) in
    let offer = asked.0 in
    let same = asked.1 in
    let reads_as = subst (λ (r : RequestMessage). reading_of h r answer ≡ Ok (Algorithms reply)) same (reads ∙ ap (λ (x : Response). Ok (response_message x)) c.in-Algorithms-Algorithms.is-1) in
    let keeps_it = subst (λ (r : RequestMessage). c.args.self.now.outgoing.request ≡ canonical_request r) same keeps in
    let up_to = subst (λ (r : RequestMessage). IsUpTo r (negotiation_of h)) same up in
    let waits = subst (λ (r : RequestMessage). IsAwaited q h r) same awaits in
    subst (λ (r : RequestMessage). IsAnswered q h c.args.place r answer c.on_algorithms.result c.args.self.now c.on_algorithms.new.self c.args.out.now) (sym same)
    (answered_as q h c.args.place (NegotiateAlgorithms offer) answer (Algorithms reply) (Ok (algorithms_led (Answers (NegotiateAlgorithms offer) answer) (agreed offer reply))) c.on_algorithms.result c.args.self.now c.on_algorithms.new.self c.args.out.now
    reads_as (λ f. refl) (c.on_algorithms.ensures q h offer c.args.out.now setup shows keeps_it up_to (waits.1 setup.sizes) short reads_as))

pub returns-in-Measurements-Measurements : goal.returns-in-Measurements-Measurements
returns-in-Measurements-Measurements c = λ q h request setup shows awaits kind keeps up short reads.
    let answer = c.args.answer.now in
    let op : ℕ = c.in-Measurements-Measurements.op in
    let measured = measured_message c.in-Measurements-Measurements.measured in
    let same : request ≡ GetMeasurements op = measurements_asked q h request op awaits (kind ∙ c.in-Measurements-Measurements.is-0) in
    let reads_as = subst (λ (r : RequestMessage). reading_of h r answer ≡ Ok (Measurements measured)) same (reads ∙ ap (λ (x : Response). Ok (response_message x)) c.in-Measurements-Measurements.is-1) in
    subst (λ (r : RequestMessage). IsAnswered q h c.args.place r answer c.on_measurements.result c.args.self.now c.on_measurements.new.self c.args.out.now) (sym same)
    (answered_as q h c.args.place (GetMeasurements op) answer (Measurements measured) (Ok (measured_led op measured (Answers (GetMeasurements op) answer))) c.on_measurements.result c.args.self.now c.on_measurements.new.self c.args.out.now
    reads_as (λ f. refl) (c.on_measurements.ensures h answer c.args.out.now shows short reads_as))
