-- The application message that a packet brings is the one that is taken, and application data answers it.
use Rattle.std.proofs.Common.{refl, ◌∙◌, ◌≡◌, ℕ, List, [], ◌∷◌, length, true, false, Bool, Option, Some, None, ap, sym, subst, arith, cond, not, eqb-true, filter, drop}
use Rattle.std.proofs.lemmas.Bool.{false≢true, true≢false}
use Rattle.std.proofs.lemmas.Bool.Decides.{nat_tests}
use Rattle.std.specs.Option.{option_map}
use Rattle.std.specs.Prelude.{if◌then◌else◌, ◌==◌, ◌&&◌, ◌||◌, nat_lt, is_none, slice_index}
use Rattle.mctp_framing.specs.Cutting.{RouteFields}
use Rattle.mctp_framing.specs.Gathering.{Gathered, Receiver, answer_from, answer_of, belongs_to, broken_rule, group_of, is_ours, joined}
use Rattle.mctp_framing.specs.Gathering.Gathered.{Dropped, More, Whole}
use Rattle.mctp_framing.specs.Packet.{PacketFields, fault_or, fields_of, packet_fault}
use Rattle.spdm_basis.specs.declared.DropCause.{DropCause}
use Rattle.spdm_basis.specs.declared.PacketFault.{PacketFault}
use Rattle.spdm_basis.specs.declared.causes.record_fault.RecordFault.{RecordFault}
use Rattle.spdm_grammar.specs.Message.{ChunkMessage, RequestMessage}
use Rattle.spdm_grammar.specs.declared.messages.error_code.ErrorCode.{ErrorCode}
use Rattle.spdm_grammar.specs.declared.messages.error_code.ErrorCode.TheVariants.{InvalidRequest, RequestTooLarge, UnexpectedRequest}
use Rattle.spdm_grammar.specs.declared.told.heard.Heard.TheVariants as heard
use Rattle.spdm_grammar.specs.declared.told.phase.Phase.{Phase}
use Rattle.spdm_grammar.specs.declared.told.phase.Stage.{Stage}
use Rattle.spdm_machine.specs.Bodies.{record_body}
use Rattle.spdm_machine.specs.Keys.{Draw}
use Rattle.spdm_machine.specs.Packets.{body_type, fields_in, gathered_from, packets_to}
use Rattle.responder_machine.specs.Answer.{Free, answer_bytes, request_at}
use Rattle.responder_machine.specs.Does.{chosen, clear_chosen, clear_does, first_queued, record_chosen, record_does}
use Rattle.responder_machine.specs.Handling.{carried_turn, chunk_in, effect_of, handle_for, last_chunk_turn, refused_turn, taken_chunk, turn_by, turn_of}
use Rattle.responder_machine.specs.Heard.{heard_of, record_id}
use Rattle.responder_machine.specs.History.{History, clear_turns, ended_of, kept_of, phase_of, queue_of}
use Rattle.responder_machine.specs.Laws.{completed_at}
use Rattle.responder_machine.specs.NewData.{Message, body_brings, brings, brings_from, brings_packet, gathered_brings, is_app_data, new_data, new_data_in}
use Rattle.responder_machine.specs.NewDataLaws.{BroughtIsAnswered, BroughtIsTaken, IsAnsweredWith, data_record}
use Rattle.responder_machine.specs.Place.{Place, inside, session_place}
use Rattle.responder_machine.specs.Records.{opened, opening_fault, reply_record}
use Rattle.responder_machine.specs.Refusal.{refusal}
use Rattle.responder_machine.specs.Responder.{Outcome, body_of, data_turn, in_session, in_session_by, inner_refusal, is_open, is_repeat, kept_record, on_clear, on_record, repeats, sealed_entry, session_turn, session_turn_by, to_session}
use Rattle.responder_machine.specs.Responder.Outcome.{Adds, Same}
use Rattle.responder_machine.specs.Responding.{Connection, Responding, RspStep, answers, connection_of, data_in, data_of, hears_from, hears_gathered, hears_packet, hears_whole, is_worn, next_draw, responder_hears}
use Rattle.responder_machine.specs.EndLaws.{source_of}
use Rattle.responder_machine.specs.Session.{Events, id_in_record, last_of, session_of, stage_of}
use Rattle.responder_machine.specs.Setup.{RspSetup}
use Rattle.responder_machine.specs.Turn.{Effect, Turn, is_data}
use Rattle.responder_machine.specs.Turn.Effect.{NoEffect, Took, TookData}

-- ---- A request is no application data.

effect_no_data : (q : Option RequestMessage) (request answer : List ℕ) (large : Option ℕ) → is_data (effect_of q request answer large) ≡ false
effect_no_data None request answer large = refl
effect_no_data (Some asked) request answer large = refl

carried_no_data : (r : RspSetup) (p : Place) (m : List ℕ) (f : Free) (c : ChunkMessage) (whole : List ℕ) (x : Option ErrorCode) → is_data (carried_turn r p m f c whole x).effect ≡ false
carried_no_data r p m f c whole (Some e) = refl
carried_no_data r p m f c whole None = effect_no_data (request_at p whole) whole (answer_bytes r p whole f) (handle_for p f (answer_bytes r p whole f))

either_no_data : (b : Bool) (t u : Turn) → is_data t.effect ≡ false → is_data u.effect ≡ false → is_data (if b then t else u).effect ≡ false
either_no_data true t u x y = x
either_no_data false t u x y = y

by_no_data : (r : RspSetup) (p : Place) (m : List ℕ) (f : Free) (x : Option ErrorCode) (c : Option ChunkMessage) → is_data (turn_by r p m f x c).effect ≡ false
by_no_data r p m f (Some e) c = refl
by_no_data r p m f None None = effect_no_data (request_at p m) m (answer_bytes r p m f) (handle_for p f (answer_bytes r p m f))
by_no_data r p m f None (Some c) =
    either_no_data c.last (last_chunk_turn r (inside p) m f c (completed_at p c)) (taken_chunk m c NoEffect []) (carried_no_data r (inside p) m f c (completed_at p c) (refusal r (inside p) (completed_at p c) f)) refl

no_data : (r : RspSetup) (p : Place) (m : List ℕ) (f : Free) → is_data (turn_of r p m f).effect ≡ false
unfolding turn_of
no_data r p m f = by_no_data r p m f (refusal r p m f) (chunk_in (request_at p m))

-- ---- The turn of an inner message.

-- By whether it is application data that is taken.
abbrev IsTurnBy : Free → (inner : List ℕ) → Turn → Bool → Type 0
IsTurnBy f inner t true = t ≡ data_turn f (drop 1 inner)
IsTurnBy f inner t false = is_data t.effect ≡ false

-- What the tests of a refusal say of the tests of application data, whose type is not that of SPDM messages.
abbrev Agrees : Option ErrorCode → (spdm app : Bool) → Type 0
Agrees (Some e) spdm app = app ≡ false
Agrees None true app = app ≡ false
Agrees None false app = app ≡ true

agrees : (empty spdm app open_now long : Bool) → (empty ≡ true → app ≡ false) → (spdm ≡ true → app ≡ false)
    → Agrees (cond empty (Some InvalidRequest) (cond (not (spdm || app)) (Some InvalidRequest) (cond (app && not open_now) (Some UnexpectedRequest) (cond (app && long) (Some RequestTooLarge) None)))) spdm (app && open_now && not long)
agrees true spdm app open_now long e s = ap (λ (b : Bool). b && open_now && not long) (e refl)
agrees false true true open_now long e s = absurd (true≢false (s refl))
agrees false true false open_now long e s = refl
agrees false false false open_now long e s = refl
agrees false false true false long e s = refl
agrees false false true true true e s = refl
agrees false false true true false e s = refl

empty_apart : (inner : List ℕ) → (length inner == 0) ≡ true → (slice_index inner 0 == 1) ≡ false
empty_apart [] e = refl
empty_apart (x ∷ xs) e = grind (arith, nat_tests, e)

type_apart : (n : ℕ) → (n == 5) ≡ true → (n == 1) ≡ false
type_apart n e = ap (λ (k : ℕ). k == 1) (eqb-true n 5 e)

refusal_agrees : (stage : Stage) (inner : List ℕ) → Agrees (inner_refusal stage inner) (slice_index inner 0 == 5) (is_app_data stage inner)
refusal_agrees stage inner =
    agrees (length inner == 0) (slice_index inner 0 == 5) (slice_index inner 0 == 1) (is_open stage) (nat_lt 1025 (length inner)) (empty_apart inner) (type_apart (slice_index inner 0))

by_bool : (f : Free) (inner : List ℕ) (t : Turn) (b : Bool) → b ≡ false → is_data t.effect ≡ false → IsTurnBy f inner t b
by_bool f inner t true e none = absurd (true≢false e)
by_bool f inner t false e none = none

by_data : (f : Free) (inner : List ℕ) (b : Bool) → b ≡ true → IsTurnBy f inner (data_turn f (drop 1 inner)) b
by_data f inner true e = refl
by_data f inner false e = absurd (false≢true e)

by_code : (r : RspSetup) (s : Events) (inner : List ℕ) (f : Free) (x : Option ErrorCode) (b : Bool) → Agrees x (slice_index inner 0 == 5) b → IsTurnBy f inner (session_turn_by r s inner f x) b
by_code r s inner f (Some e) b agree = by_bool f inner (refused_turn r (session_place s) (drop 1 inner) f e) b agree refl
by_code r s inner f None b agree = go (slice_index inner 0 == 5) agree
  where
    go : (spdm : Bool) → Agrees None spdm b → IsTurnBy f inner (if spdm then turn_of r (session_place s) (drop 1 inner) f else data_turn f (drop 1 inner)) b
    go true agree = by_bool f inner (turn_of r (session_place s) (drop 1 inner) f) b agree (no_data r (session_place s) (drop 1 inner) f)
    go false agree = by_data f inner b agree

turn_is : (r : RspSetup) (s : Events) (inner : List ℕ) (f : Free) → IsTurnBy f inner (session_turn r s inner f) (is_app_data (stage_of s) inner)
unfolding session_turn
turn_is r s inner f = by_code r s inner f (inner_refusal (stage_of s) inner) (is_app_data (stage_of s) inner) (refusal_agrees (stage_of s) inner)

none_in : (sealed : List ℕ) (g : Effect) → is_data g ≡ false → data_in sealed g ≡ None
none_in sealed NoEffect e = refl
none_in sealed (Took asked request answer large) e = refl
none_in sealed (TookData bytes answer) e = absurd (true≢false e)

-- ---- The outcome of a record.

module _ (r : RspSetup) (f : Free) (plain : f.pad ≡ []) (tag : ℕ) (sealed : List ℕ) (d : Draw) where
  -- By the application data that it brings to a session.
  abbrev pub IsOutcomeBy : Events → Outcome → Option (List ℕ) → Type 0
  IsOutcomeBy s o None = data_of o ≡ None
  IsOutcomeBy s o (Some bytes) = (heard_of o ≡ heard.Taken (record_id sealed)) × (data_of o ≡ Some (record_id sealed, bytes)) × (body_of o ≡ record_body (data_record r.psk s f.reply))

  by_turn : (s : Events) (inner : List ℕ) (t : Turn) (b : Bool) → IsTurnBy f inner t b → IsOutcomeBy s (Adds (sealed_entry r s f tag sealed d t)) (if b then Some (drop 1 inner) else None)
  unfolding reply_record
  by_turn s inner t true is =
      subst (λ (u : Turn). IsOutcomeBy s (Adds (sealed_entry r s f tag sealed d u)) (Some (drop 1 inner))) (sym is)
      (refl, refl, ap (λ (pad : List ℕ). record_body (reply_record r.psk s (data_turn f (drop 1 inner)) (1 ∷ f.reply) pad)) plain)
  by_turn s inner t false is = none_in sealed t.effect is

  by_fault : (phase : Phase) (s : Events) (x : Option RecordFault)
      → IsOutcomeBy s (in_session_by r phase s f tag sealed d x) (if is_none x && is_app_data (stage_of s) (opened r.psk s sealed) then Some (drop 1 (opened r.psk s sealed)) else None)
  by_fault phase s (Some fault) = refl
  by_fault phase s None =
      by_turn s (opened r.psk s sealed) (session_turn r s (opened r.psk s sealed) f) (is_app_data (stage_of s) (opened r.psk s sealed)) (turn_is r s (opened r.psk s sealed) f)

  by_session : (phase : Phase) (s : Events) → IsOutcomeBy s (to_session r phase s f tag sealed d) (new_data r.psk s sealed)
  unfolding in_session
  by_session phase [] = refl
  by_session phase (e ∷ s) = go (repeats (last_of (e ∷ s)) sealed)
    where
      go : (b : Bool) → IsOutcomeBy (e ∷ s) (if b then Same (record_body (kept_record (last_of (e ∷ s)))) else in_session_by r phase (e ∷ s) f tag sealed d (opening_fault r.psk (e ∷ s) sealed))
          (if not b && is_none (opening_fault r.psk (e ∷ s) sealed) && is_app_data (stage_of (e ∷ s)) (opened r.psk (e ∷ s) sealed) then Some (drop 1 (opened r.psk (e ∷ s) sealed)) else None)
      go true = refl
      go false = by_fault phase (e ∷ s) (opening_fault r.psk (e ∷ s) sealed)

  pub record_is : (h : History) → IsOutcomeBy (session_of (id_in_record sealed) h) (on_record r h tag sealed f d) (new_data_in r.psk h sealed)
  unfolding on_record
  record_is h = go (repeats (ended_of h) sealed)
    where
      go : (b : Bool) → IsOutcomeBy (session_of (id_in_record sealed) h) (if b then Same (record_body (kept_record (ended_of h))) else to_session r (phase_of (clear_turns h)) (session_of (id_in_record sealed) h) f tag sealed d)
          (if b then None else new_data r.psk (session_of (id_in_record sealed) h) sealed)
      go true = refl
      go false = by_session (phase_of (clear_turns h)) (session_of (id_in_record sealed) h)

clear_none : (r : RspSetup) (h : History) (tag : ℕ) (m : List ℕ) (f : Free) (d : Draw) → data_of (on_clear r h tag m f d) ≡ None
unfolding on_clear
clear_none r h tag m f d = go (is_repeat (kept_of h) tag m) _ _ refl refl
  where
    go : (b : Bool) (x y : Outcome) → data_of x ≡ None → data_of y ≡ None → data_of (if b then x else y) ≡ None
    go true x y p q = p
    go false x y p q = q

-- ---- The tag of a whole body is that of its last packet.

abbrev HasTag : PacketFields → Gathered → Type 0
HasTag p (Whole route body) = route.tag ≡ p.tag
HasTag p More = Unit {0}
HasTag p (Dropped cause) = Unit {0}

either_tag : (p : PacketFields) (b : Bool) (x y : Gathered) → HasTag p x → HasTag p y → HasTag p (if b then x else y)
either_tag p true x y a b = a
either_tag p false x y a b = b

rule_tag : (p : PacketFields) (o : Option DropCause) (body : List ℕ) → HasTag p (answer_from o p body)
rule_tag p (Some cause) body = tt
rule_tag p None body = either_tag p p.end _ More refl tt

tag_is : (own peer : ℕ) (given : List (List ℕ)) (p : PacketFields) → HasTag p (gathered_from own peer given p)
unfolding gathered_from
tag_is own peer given p =
    let r : Receiver = record { own = own; peer = peer; limit = 4161 } in
    let group : List PacketFields = group_of (filter (is_ours r) (fields_in given)) in
    either_tag p (not (is_ours r p)) _ _ tt
    (either_tag p p.start (answer_of r.limit p []) _ (rule_tag p (broken_rule r.limit (p ∷ [])) (joined (p ∷ [])))
    (either_tag p (belongs_to r.limit p group) (answer_of r.limit p group) _ (rule_tag p (broken_rule r.limit (p ∷ group)) (joined (p ∷ group))) tt))

-- ---- The step of a packet.

module _ (r : Responding) (d : Draw) (packet : List ℕ) where
  -- By the message that it brings.
  abbrev IsStepBy : RspStep → Option Message → Type 0
  IsStepBy x None = x.taken ≡ None
  IsStepBy x (Some m) = (c : Connection) × (connection_of (source_of packet) r.connections ≡ Some c) × IsAnsweredWith x packet m c (first_queued (queue_of c.history))

  module _ (c : Connection) (at : connection_of (source_of packet) r.connections ≡ Some c) where
    by_outcome : (route : RouteFields) (body : List ℕ) (f : Free) (o : Outcome) (x : Option (List ℕ)) → route.tag ≡ (fields_of packet).tag → f.reply ≡ first_queued (queue_of c.history) → (plain : f.pad ≡ [])
        → IsOutcomeBy c.setup f plain route.tag (drop 1 body) d (session_of (id_in_record (drop 1 body)) c.history) o x
        → IsStepBy (answers r c packet route body o) (option_map (λ (bytes : List ℕ). (record_id (drop 1 body), bytes)) x)
    by_outcome route body f o None tag reply plain is = is
    by_outcome route body f o (Some bytes) tag reply plain is = (
      c,
      at,
      record {
        told = is.0;
        taken = is.1;
        sent =
            ap (λ (xs : List ℕ). packets_to c.setup.peer c.setup.eid false route.tag c.setup.unit xs) is.2
            ∙ ap (λ (xs : List ℕ). packets_to c.setup.peer c.setup.eid false route.tag c.setup.unit (record_body (data_record c.setup.psk (session_of (id_in_record (drop 1 body)) c.history) xs))) reply
            ∙ ap (λ (n : ℕ). packets_to c.setup.peer c.setup.eid false n c.setup.unit (record_body (data_record c.setup.psk (session_of (id_in_record (drop 1 body)) c.history) (first_queued (queue_of c.history))))) tag;
      },
    )

    record_step : (route : RouteFields) (body : List ℕ) → route.tag ≡ (fields_of packet).tag
        → IsStepBy (answers r c packet route body (record_does c.setup c.history route.tag (drop 1 body) d)) (option_map (λ (bytes : List ℕ). (record_id (drop 1 body), bytes)) (new_data_in c.setup.psk c.history (drop 1 body)))
    unfolding chosen
    record_step route body tag =
        let f : Free = record_chosen c.setup c.history (drop 1 body) d in
        by_outcome route body f (record_does c.setup c.history route.tag (drop 1 body) d) (new_data_in c.setup.psk c.history (drop 1 body)) tag refl refl
        (record_is c.setup f refl route.tag (drop 1 body) d c.history)

    by_type : (route : RouteFields) (body : List ℕ) (spdm secured : Bool) → route.tag ≡ (fields_of packet).tag → (spdm ≡ true → secured ≡ false)
        → (ignored : RspStep) → ignored.taken ≡ None
        → IsStepBy (if not (spdm || secured) then ignored else answers r c packet route body (if spdm then clear_does c.setup c.history route.tag (drop 1 body) d else record_does c.setup c.history route.tag (drop 1 body) d))
        (if secured then option_map (λ (bytes : List ℕ). (record_id (drop 1 body), bytes)) (new_data_in c.setup.psk c.history (drop 1 body)) else None)
    by_type route body true true tag apart ignored none = absurd (true≢false (apart refl))
    by_type route body true false tag apart ignored none = clear_none c.setup c.history route.tag (drop 1 body) (clear_chosen c.setup c.history d) d
    by_type route body false true tag apart ignored none = record_step route body tag
    by_type route body false false tag apart ignored none = none

    type_apart_from : (n : ℕ) → (n == 5) ≡ true → (n == 6) ≡ false
    type_apart_from n e = ap (λ (k : ℕ). k == 6) (eqb-true n 5 e)

    by_whole : (route : RouteFields) (body : List ℕ) → route.tag ≡ (fields_of packet).tag → IsStepBy (hears_whole r d c packet route body) (body_brings c route body)
    by_whole route body tag = go route.owner _ _ refl (by_type route body (body_type body == 5) (body_type body == 6) tag (type_apart_from (body_type body)) _ refl)
      where
        go : (b : Bool) (ignored other : RspStep) → ignored.taken ≡ None
            → IsStepBy other (if body_type body == 6 then option_map (λ (bytes : List ℕ). (record_id (drop 1 body), bytes)) (new_data_in c.setup.psk c.history (drop 1 body)) else None)
            → IsStepBy (if not b then ignored else other) (if b && body_type body == 6 then option_map (λ (bytes : List ℕ). (record_id (drop 1 body), bytes)) (new_data_in c.setup.psk c.history (drop 1 body)) else None)
        go true ignored other none is = is
        go false ignored other none is = none

    by_gathered : (g : Gathered) → HasTag (fields_of packet) g → IsStepBy (hears_gathered r d c packet g) (gathered_brings c g)
    by_gathered (Whole route body) tag = by_whole route body tag
    by_gathered More tag = refl
    by_gathered (Dropped cause) tag = refl

  by_connection : (o : Option Connection) → connection_of (source_of packet) r.connections ≡ o → IsStepBy (hears_from r d packet (fields_of packet) o) (brings_from r (fields_of packet) o)
  by_connection None at = refl
  by_connection (Some c) at = by_gathered c at (gathered_from c.setup.eid c.setup.peer r.given (fields_of packet)) (tag_is c.setup.eid c.setup.peer r.given (fields_of packet))

  by_packet : (o : Option PacketFault) → IsStepBy (hears_packet r d packet (fault_or o (fields_of packet))) (brings_packet r (fault_or o (fields_of packet)))
  by_packet (Some fault) = refl
  by_packet None = go ((fields_of packet).to == r.part.eid) _ refl
    where
      go : (b : Bool) (ignored : RspStep) → ignored.taken ≡ None
          → IsStepBy (if not b then ignored else hears_from r d packet (fields_of packet) (connection_of (source_of packet) r.connections)) (if b then brings_from r (fields_of packet) (connection_of (source_of packet) r.connections) else None)
      go true ignored none = by_connection (connection_of (source_of packet) r.connections) refl
      go false ignored none = none

pub step_is : (r : Responding) (packet : List ℕ) → IsStepBy r (next_draw r) packet (responder_hears r packet) (brings r packet)
unfolding responder_hears brings
step_is r packet = go (is_worn r) _ refl
  where
    go : (b : Bool) (worn : RspStep) → worn.taken ≡ None
        → IsStepBy r (next_draw r) packet (if b then worn else hears_packet r (next_draw r) packet (fault_or (packet_fault packet) (fields_of packet))) (if b then None else brings_packet r (fault_or (packet_fault packet) (fields_of packet)))
    go true worn none = none
    go false worn none = by_packet r (next_draw r) packet (packet_fault packet)

pub brought_taken : BroughtIsTaken
brought_taken r packet = go (responder_hears r packet) (brings r packet) (step_is r packet)
  where
    go : (x : RspStep) (o : Option Message) → IsStepBy r (next_draw r) packet x o → x.taken ≡ o
    go x None is = is
    go x (Some m) is = is.2.taken

pub brought_answered : BroughtIsAnswered
brought_answered r packet m is = subst (IsStepBy r (next_draw r) packet (responder_hears r packet)) is (step_is r packet)
