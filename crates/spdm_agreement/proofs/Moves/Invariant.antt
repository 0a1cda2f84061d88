-- What every move keeps.
use Rattle.std.proofs.Common.{◌≡◌, ◌⊎◌, ℕ, ◌<◌, ◌≤◌, List, [], ◌∷◌, Option, Some, None, true}
use Rattle.key_schedule.specs.Purpose.{Purpose, Kind}
use Rattle.key_schedule.specs.Purpose.Kind.{Verify, HandshakeRecord, ApplicationRecord}
use Rattle.key_schedule.specs.declared.direction.Direction.{Direction}
use Rattle.key_schedule.specs.declared.direction.Direction.TheVariants.{Request, Response}
use Rattle.spdm_agreement.proofs.Moves.Earlier.{IsEarlier}
use Rattle.spdm_agreement.specs.Marks.{Asked, Served, Text, Exchange, IsAccepted, AcceptedOnce, IsOpened, OpenedApart, HasBegun, HasFinished, HasOpened, HasReplied, next_asked, waiting, finishing, asked_open, requests, outstanding, heard, next_served, handshake, served_open, taken, firsts, epoch_of, request_input, reply_input}
use Rattle.spdm_agreement.specs.Moves.{request_shake, response_shake}
use Rattle.spdm_agreement.specs.Reading.{First, Reading, covered}
use Rattle.spdm_machine.specs.TagLog.{Log}
use Rattle.world_machine.specs.Agreement.{IsMade}

-- All requests have their replies, but for the one that waits.
abbrev pub Talks : Option Text → List Text → List Exchange → Type 0
Talks None asks replies = asks ≡ firsts replies
Talks (Some b) asks replies = asks ≡ b ∷ firsts replies

-- The responder took what has its reply, and perhaps the request that waits.
abbrev pub IsAhead : Option Text → List Exchange → List Exchange → Type 0
IsAhead waits hs ts = (ts ≡ hs) ⊎ ((b : Text) × (reply : Text) × (waits ≡ Some b) × (ts ≡ (b, reply) ∷ hs))

-- This request was sealed after these exchanges.
abbrev pub WasSaid : Option Text → List Exchange → Text → List Exchange → Type 0
WasSaid waits hs b older = ((waits ≡ Some b) × (hs ≡ older)) ⊎ ((reply : Text) × IsEarlier ((b, reply) ∷ older) hs)

-- Nothing was said or heard under a T2.
abbrev pub IsQuiet : List ℕ → List Asked → Type 0
IsQuiet u h = (requests u h ≡ []) × (heard u h ≡ []) × (outstanding u h ≡ None)

-- Of the requester alone.
pub record AskedWell (r : Reading) (h : List Asked) : Type 0 where
  pub below : (t : First) → IsAccepted h t → r.requester_draw t < next_asked h
  pub waits : (x : ℕ × ℕ) → waiting h ≡ Some x → (x.1 < next_asked h) × ((t : First) → IsAccepted h t → r.requester_draw t < x.1)
  pub once : (s t : First) → IsAccepted h s → IsAccepted h t → r.requester_draw s ≡ r.requester_draw t → s ≡ t
  pub apart : AcceptedOnce h
  pub seconds : OpenedApart h
  pub well : (t : First) → IsAccepted h t → r.is_sound t ≡ true
  pub finishes : (t : First) → finishing h ≡ Some t → IsAccepted h t × ((s : First) → IsAccepted h s → r.requester_draw s ≤ r.requester_draw t) × ((u : List ℕ) → IsOpened h t u → ⊥)
  pub opens : (id : ℕ) (x : First × List ℕ) → asked_open r id h ≡ Some x → IsOpened h x.0 x.1 × (r.requester_id x.0 ≡ id) × ((s : First) → IsAccepted h s → r.requester_id s ≡ id → r.requester_draw s ≤ r.requester_draw x.0)
  pub opened : (t : First) (u : List ℕ) → IsOpened h t u → IsAccepted h t × (u ≡ r.second t)
  pub quiet : (u : List ℕ) → ((t : First) → IsOpened h t u → ⊥) → IsQuiet u h
  pub talks : (u : List ℕ) → Talks (outstanding u h) (requests u h) (heard u h)

-- Of the responder alone.
pub record ServedWell (r : Reading) (h : List Served) : Type 0 where
  pub below : (t : First) → HasBegun h t → r.responder_draw t < next_served r h
  pub once : (s t : First) → HasBegun h s → HasBegun h t → r.responder_draw s ≡ r.responder_draw t → s ≡ t
  pub well : (t : First) → HasBegun h t → r.is_sound t ≡ true
  pub shakes : (t : First) → handshake h ≡ Some t → HasBegun h t × ((s : First) → HasBegun h s → r.responder_draw s ≤ r.responder_draw t) × ((b : Text) → HasReplied r h t b → ⊥)
  pub opens : (id : ℕ) (x : First × List ℕ) → served_open r id h ≡ Some x → HasOpened h x.0 x.1 × (r.responder_id x.0 ≡ id) × ((s : First) → HasBegun h s → r.responder_id s ≡ id → r.responder_draw s ≤ r.responder_draw x.0)
  pub opened : (t : First) (u : List ℕ) → HasOpened h t u → HasFinished h t × (u ≡ r.second t)
  pub seconds : (t : First) → HasFinished h t → HasOpened h t (r.second t) × HasReplied r h t (r.finish_answer t)
  pub replied : (t : First) (b : Text) → HasReplied r h t b → HasBegun h t
  pub answers : (t : First) (b : Text) → HasReplied r h t b → r.opens b ≡ true → HasFinished h t × (b ≡ r.finish_answer t)
  pub only : (t : First) (b c : Text) → HasReplied r h t b → HasReplied r h t c → b ≡ c
  pub quiet : (u : List ℕ) → ((t : First) → HasOpened h t u → ⊥) → taken u h ≡ []

-- Between the two.
pub record Linked (r : Reading) (asked : List Asked) (served : List Served) : Type 0 where
  pub accepted : (t : First) → IsAccepted asked t → HasBegun served t
  pub finished : (t : First) → HasFinished served t → IsAccepted asked t
  pub replied : (t : First) (b : Text) → HasReplied r served t b → IsAccepted asked t
  pub opened : (id : ℕ) (x : First × List ℕ) → asked_open r id asked ≡ Some x → HasFinished served x.0
  pub ever : (t : First) (u : List ℕ) → IsOpened asked t u → HasFinished served t
  pub order : (s t : First) → IsAccepted asked s → HasFinished served t → r.requester_draw s < r.requester_draw t → r.responder_draw s < r.responder_draw t
  pub ahead : (u : List ℕ) → IsAhead (outstanding u asked) (heard u asked) (taken u served)

-- The request that was sealed under this T2 in this epoch, with a tag over this input, and its session.
pub record IsRequest (r : Reading) (asked : List Asked) (u : List ℕ) (epoch : ℕ) (input : List ℕ) : Type 0 where
  pub first : First
  pub is : IsOpened asked first u
  pub text : Text
  pub older : List Exchange
  pub covers : input ≡ request_input r first u older text
  pub when : epoch ≡ epoch_of r.is_update older
  pub was : WasSaid (outstanding u asked) (heard u asked) text older

-- The reply.
pub record IsReply (r : Reading) (served : List Served) (u : List ℕ) (epoch : ℕ) (input : List ℕ) : Type 0 where
  pub first : First
  pub is : HasOpened served first u
  pub text : Text
  pub reply : Text
  pub older : List Exchange
  pub covers : input ≡ reply_input r first u ((text, reply) ∷ older) reply
  pub when : epoch ≡ epoch_of r.is_update_all ((text, reply) ∷ older)
  pub was : IsEarlier ((text, reply) ∷ older) (taken u served)

-- The requester sealed PSK_FINISH.
pub record IsShake (r : Reading) (asked : List Asked) (transcript : List ℕ) (input : List ℕ) : Type 0 where
  pub first : First
  pub is : r.transcript first ≡ transcript
  pub story : IsAccepted asked first
  pub covers : input ≡ covered r first (request_shake r first) 0 (r.finish first)

-- The responder answered a record of the handshake.
pub record IsShaken (r : Reading) (served : List Served) (transcript : List ℕ) (input : List ℕ) : Type 0 where
  pub first : First
  pub is : r.transcript first ≡ transcript
  pub reply : Text
  pub story : HasReplied r served first reply
  pub covers : input ≡ covered r first (response_shake r first) 0 reply

-- The story after a tag that was made.
abbrev pub IsBackedAs : Reading → List Asked → List Served → Kind → Direction → (transcript : List ℕ) → (epoch : ℕ) → (input : List ℕ) → Type 0
IsBackedAs r asked served Verify Request t1 e i = (t : First) × (r.transcript t ≡ t1) × IsAccepted asked t
IsBackedAs r asked served Verify Response t1 e i = (t : First) × (r.transcript t ≡ t1) × HasBegun served t
IsBackedAs r asked served HandshakeRecord Request t1 e i = IsShake r asked t1 i
IsBackedAs r asked served HandshakeRecord Response t1 e i = IsShaken r served t1 i
IsBackedAs r asked served ApplicationRecord Request u e i = IsRequest r asked u e i
IsBackedAs r asked served ApplicationRecord Response u e i = IsReply r served u e i

abbrev pub IsBacked : Reading → List Asked → List Served → Purpose → (input : List ℕ) → Type 0
IsBacked r asked served p i = IsBackedAs r asked served p.kind p.direction p.transcript p.epoch i

pub record Invariant (r : Reading) (asked : List Asked) (served : List Served) (log : Log) : Type 0 where
  pub asks : AskedWell r asked
  pub serves : ServedWell r served
  pub links : Linked r asked served
  pub backed : (p : Purpose) (i : List ℕ) → IsMade p i log → p.psk ≡ r.psk → IsBacked r asked served p i
