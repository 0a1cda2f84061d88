-- What is had of a body before it is handed in, of a record and of any body.
use Rattle.std.proofs.Common.{◌≡◌, ◌==◌, ◌&&◌, ◌||◌, ◌∙◌, ℕ, List, sym, ap, subst, drop, take, Bool, true, false, Option, Some, None}
use Rattle.std.specs.Prelude.{IfSome, bytes_eq, if◌then◌else◌, not, slice_index}
use Rattle.responder_core.specs.OwnAnswers.{IsReplyKey, opens_in}
use Rattle.responder_machine.specs.Answer.{Free}
use Rattle.responder_machine.specs.History.{History, ended_of}
use Rattle.responder_machine.specs.Records.{opened}
use Rattle.responder_machine.specs.Responder.{repeats}
use Rattle.responder_machine.specs.Session.{Events, id_in_record, last_of, session_of}
use Rattle.responder_machine.specs.Setup.{RspSetup}
use Rattle.responder_session.specs.declared.answer_key.AnswerKey.{AnswerKey}
use Rattle.spdm_machine.specs.Bodies.{record_body}
use Rattle.check_responder.specs.AnswerKeys.{IsComing, IsComingKey, asks_for, is_taken_in, session_named, will_take}
use Rattle.check_responder.specs.declared.prepared_request.PreparedRequest.{PreparedRequest}
use Rattle.capture_machine.specs.Opening.{opens_answering, opens_in_session, opens_next}

-- ---- A record, and a body.

-- The inner message that is had with a key.
pub inside_by : (r : RspSetup) (s : Events) (f : Free) (request inner : List ℕ) (o : Option AnswerKey) → IsReplyKey r s f request inner o → IfSome o (λ own. inner ≡ opened r.psk s request)
inside_by r s f request inner None known = tt
inside_by r s f request inner (Some key) known = known.1

-- A body that is not in the clear is taken as its record.
taken_alike : (r : RspSetup) (h : History) (body : List ℕ) → (slice_index body 0 == 5) ≡ false → will_take r h body ≡ will_take r h (record_body (drop 1 body))
taken_alike r h body type = ap (λ (b : Bool). not b && is_taken_in r (session_named h body) (repeats (ended_of h) (drop 1 body)) (drop 1 body)) type

pub of_record : (r : RspSetup) (h : History) (body : List ℕ) (o : Option AnswerKey) → (slice_index body 0 == 5) ≡ false → IsComingKey r h (record_body (drop 1 body)) o → IsComingKey r h body o
of_record r h body None type none = taken_alike r h body type ∙ none
of_record r h body (Some key) type its = (taken_alike r h body type ∙ its.0, its.1)

as_record : (r : RspSetup) (h : History) (body : List ℕ) (o : Option AnswerKey) → (slice_index body 0 == 5) ≡ false → IsComingKey r h body o → IsComingKey r h (record_body (drop 1 body)) o
as_record r h body None type none = sym (taken_alike r h body type) ∙ none
as_record r h body (Some key) type its = (sym (taken_alike r h body type) ∙ its.0, its.1)

pub body_coming : (seen : PreparedRequest) (r : RspSetup) (h : History) (body : List ℕ) → (slice_index body 0 == 5) ≡ false → IsComing seen r h (record_body (drop 1 body)) → IsComing seen r h body
body_coming seen r h body type coming = record { key = of_record r h body seen.key type coming.key; inner = coming.inner }

pub record_coming : (seen : PreparedRequest) (r : RspSetup) (h : History) (body : List ℕ) → (slice_index body 0 == 5) ≡ false → IsComing seen r h body → IsComing seen r h (record_body (drop 1 body))
record_coming seen r h body type coming = record { key = as_record r h body seen.key type coming.key; inner = coming.inner }

-- ---- A record that is no repeat.

-- It is taken where it opens.
takes_so : (r : RspSetup) (h : History) (request : List ℕ) → repeats (ended_of h) request ≡ false → repeats (last_of (session_of (id_in_record request) h)) request ≡ false
    → will_take r h (record_body request) ≡ opens_in r (session_of (id_in_record request) h) request
takes_so r h request other anew =
    let s : Events = session_of (id_in_record request) h in
    ap (λ (b : Bool). not b && (not (repeats (last_of s) request) && opens_in r s request)) other ∙ ap (λ (b : Bool). not b && opens_in r s request) anew

-- So what is had of it is the key of its answer, or it does not open.
pub reply_had : (seen : PreparedRequest) (r : RspSetup) (h : History) (request : List ℕ) (key : AnswerKey) → seen.key ≡ Some key → repeats (ended_of h) request ≡ false → repeats (last_of (session_of (id_in_record request) h)) request ≡ false
    → IsComing seen r h (record_body request) → (f : Free) → IsReplyKey r (session_of (id_in_record request) h) f request seen.inner (Some key)
reply_had seen r h request key is other anew coming f =
    let s : Events = session_of (id_in_record request) h in
    let own = subst (IsComingKey r h (record_body request)) is coming.key in
    let inner = subst (λ (o : Option AnswerKey). IfSome o (λ x. seen.inner ≡ opened r.psk s request)) is coming.inner in
    (sym (takes_so r h request other anew) ∙ own.0, inner, own.1 f)

pub none_had : (seen : PreparedRequest) (r : RspSetup) (h : History) (request : List ℕ) → seen.key ≡ None → repeats (ended_of h) request ≡ false → repeats (last_of (session_of (id_in_record request) h)) request ≡ false
    → IsComing seen r h (record_body request) → opens_in r (session_of (id_in_record request) h) request ≡ false
none_had seen r h request is other anew coming = sym (takes_so r h request other anew) ∙ subst (IsComingKey r h (record_body request)) is coming.key

-- ---- What it asks for.

pub asks_had : (seen : PreparedRequest) (r : RspSetup) (h : History) (body : List ℕ) (code : ℕ) (key : AnswerKey) → seen.key ≡ Some key → IsComing seen r h body → (slice_index seen.inner 2 == code) ≡ asks_for r h body code
asks_had seen r h body code key is coming =
    let inner : List ℕ = opened r.psk (session_named h body) (drop 1 body) in
    let own = subst (IsComingKey r h body) is coming.key in
    let same = subst (λ (o : Option AnswerKey). IfSome o (λ x. seen.inner ≡ opened r.psk (session_named h body) (drop 1 body))) is coming.inner in
    ap (λ (l : List ℕ). slice_index l 2 == code) same ∙ sym (ap (λ (b : Bool). b && (slice_index inner 2 == code)) own.0)

pub none_asks : (seen : PreparedRequest) (r : RspSetup) (h : History) (body : List ℕ) (code : ℕ) → seen.key ≡ None → IsComing seen r h body → false ≡ asks_for r h body code
none_asks seen r h body code is coming =
    let inner : List ℕ = opened r.psk (session_named h body) (drop 1 body) in
    sym (ap (λ (b : Bool). b && (slice_index inner 2 == code)) (subst (IsComingKey r h body) is coming.key))

-- ---- Whether an answer opens at all.

module _ (r : RspSetup) (h : History) (request sealed : List ℕ) (clear b : Bool) where
  abbrev by_tests : Bool → Bool → Bool
  by_tests x y = if x || not y then opens_next r (session_of (id_in_record sealed) h) sealed else opens_in_session r h (session_of (id_in_record request) h) request sealed

  pub clear_opens : clear ≡ true → b ≡ opens_next r (session_of (id_in_record sealed) h) sealed → b ≡ opens_answering r h clear request sealed
  clear_opens is told = told ∙ sym (ap (λ (x : Bool). by_tests x (bytes_eq (take 4 request) (take 4 sealed))) is)

  pub apart_opens : (same : Bool) → clear ≡ false → same ≡ false → same ≡ bytes_eq (take 4 request) (take 4 sealed) → b ≡ opens_next r (session_of (id_in_record sealed) h) sealed → b ≡ opens_answering r h clear request sealed
  apart_opens same none is test told = told ∙ sym (ap (λ (x : Bool). by_tests x (bytes_eq (take 4 request) (take 4 sealed))) none ∙ ap (by_tests false) (sym test ∙ is))

  pub named_opens : (same : Bool) → clear ≡ false → same ≡ true → same ≡ bytes_eq (take 4 request) (take 4 sealed) → b ≡ opens_in_session r h (session_of (id_in_record request) h) request sealed → b ≡ opens_answering r h clear request sealed
  named_opens same none is test told = told ∙ sym (ap (λ (x : Bool). by_tests x (bytes_eq (take 4 request) (take 4 sealed))) none ∙ ap (by_tests false) (sym test ∙ is))
