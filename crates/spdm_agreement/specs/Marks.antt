-- What the two ends of one pre-shared key did, as marks, and what is counted out of them. A session is named by what it
-- begins with, and the records after its handshake by its T2. In every list of marks the newest stands first.
use Rattle.std.specs.Prelude.{◌≡◌, ◌+◌, ◌-◌, ◌==◌, ◌⊎◌, ℕ, List, [], ◌∷◌, if◌then◌else◌, Bool, Option, Some, None, bytes_eq}
use Rattle.key_schedule.specs.Purpose.{Purpose, application_record}
use Rattle.key_schedule.specs.declared.direction.Direction.TheVariants.{Request, Response}
use Rattle.spdm_agreement.specs.Reading.{First, Reading, covered}

-- A request or a reply is the text of its record.
abbrev pub Text : Type 0
Text = List ℕ

-- A request with its reply.
abbrev pub Exchange : Type 0
Exchange = List ℕ × List ℕ

-- ---- The requester.

-- What a requester did: it asked for a session under an id, with a context that holds the number of a draw; took
-- PSK_EXCHANGE_RSP, with which the beginning is whole; took PSK_FINISH_RSP, with which T2 is whole; sealed a request; took
-- the reply to a request.
pub data Asked : Type 0 where
  Started : (id : ℕ) → (draw : ℕ) → Asked
  Accepted : (first : First) → Asked
  Opened : (first : First) → (second : List ℕ) → Asked
  Sealed : (second : List ℕ) → (request : Text) → Asked
  Heard : (second : List ℕ) → (request : Text) → (reply : Text) → Asked

-- One more than the number of the last draw that went into a context. Draws between may have served for other things.
abbrev pub next_asked : List Asked → ℕ
next_asked [] = 0
next_asked (Started id draw ∷ older) = draw + 1
next_asked (_ ∷ older) = next_asked older

-- The exchange that waits for its answer: its id and the number of its draw.
abbrev pub waiting : List Asked → Option (ℕ × ℕ)
waiting [] = None
waiting (Started id draw ∷ older) = Some (id, draw)
waiting (Accepted t ∷ older) = None
waiting (_ ∷ older) = waiting older

-- The session that was accepted last, while it is not open yet.
abbrev pub finishing : List Asked → Option First
finishing [] = None
finishing (Started id draw ∷ older) = None
finishing (Accepted t ∷ older) = Some t
finishing (Opened t u ∷ older) = None
finishing (_ ∷ older) = finishing older

-- The session of a ReqSessionID that opened last, unless another one was accepted under it since: its beginning and T2. A
-- session that is gone has no mark of that: what holds of the last session of an id holds of one that is held.
abbrev pub asked_open : Reading → ℕ → List Asked → Option (First × List ℕ)
asked_open r id [] = None
asked_open r id (Accepted t ∷ older) = if r.requester_id t == id then None else asked_open r id older
asked_open r id (Opened t u ∷ older) = if r.requester_id t == id then Some (t, u) else asked_open r id older
asked_open r id (_ ∷ older) = asked_open r id older

-- PSK_EXCHANGE_RSP was taken for this session.
abbrev pub IsAccepted : List Asked → First → Type 0
IsAccepted [] t = ⊥
IsAccepted (Accepted s ∷ older) t = (t ≡ s) ⊎ IsAccepted older t
IsAccepted (_ ∷ older) t = IsAccepted older t

-- No session was accepted twice.
abbrev pub AcceptedOnce : List Asked → Type 0
AcceptedOnce [] = Unit {0}
AcceptedOnce (Accepted t ∷ older) = (IsAccepted older t → ⊥) × AcceptedOnce older
AcceptedOnce (_ ∷ older) = AcceptedOnce older

-- PSK_FINISH_RSP was taken for this session, and led to this T2.
abbrev pub IsOpened : List Asked → First → (second : List ℕ) → Type 0
IsOpened [] t u = ⊥
IsOpened (Opened s v ∷ older) t u = ((t ≡ s) × (u ≡ v)) ⊎ IsOpened older t u
IsOpened (_ ∷ older) t u = IsOpened older t u

-- No two sessions that opened led to one T2.
abbrev pub OpenedApart : List Asked → Type 0
OpenedApart [] = Unit {0}
OpenedApart (Opened t u ∷ older) = ((s : First) → IsOpened older s u → ⊥) × OpenedApart older
OpenedApart (_ ∷ older) = OpenedApart older

-- The requests that were sealed under a T2.
abbrev pub requests : List ℕ → List Asked → List Text
requests u [] = []
requests u (Sealed v b ∷ older) = if bytes_eq v u then b ∷ requests u older else requests u older
requests u (_ ∷ older) = requests u older

-- The request under a T2 that waits for its reply.
abbrev pub outstanding : List ℕ → List Asked → Option Text
outstanding u [] = None
outstanding u (Sealed v b ∷ older) = if bytes_eq v u then Some b else outstanding u older
outstanding u (Heard v b reply ∷ older) = if bytes_eq v u then None else outstanding u older
outstanding u (_ ∷ older) = outstanding u older

-- The requests under a T2 that have their replies.
abbrev pub heard : List ℕ → List Asked → List Exchange
heard u [] = []
heard u (Heard v b reply ∷ older) = if bytes_eq v u then (b, reply) ∷ heard u older else heard u older
heard u (_ ∷ older) = heard u older

-- ---- The responder.

-- What a responder did: it answered PSK_EXCHANGE, with which the beginning is whole; took PSK_FINISH, with which T2 is whole;
-- refused what came in its place, with this reply; took a request and sealed its reply.
pub data Served : Type 0 where
  Began : (first : First) → Served
  Finished : (first : First) → (second : List ℕ) → Served
  Refused : (first : First) → (reply : Text) → Served
  Took : (second : List ℕ) → (request : Text) → (reply : Text) → Served

-- One more than the number of the last draw that went into a context.
abbrev pub next_served : Reading → List Served → ℕ
next_served r [] = 0
next_served r (Began t ∷ older) = r.responder_draw t + 1
next_served r (_ ∷ older) = next_served r older

-- The session whose PSK_FINISH is awaited: the one that began last, until a record of its handshake was answered.
abbrev pub handshake : List Served → Option First
handshake [] = None
handshake (Began t ∷ older) = Some t
handshake (Finished t u ∷ older) = None
handshake (Refused t reply ∷ older) = None
handshake (_ ∷ older) = handshake older

-- The session of a RspSessionID that finished last, unless another one began under it since: its beginning and T2.
abbrev pub served_open : Reading → ℕ → List Served → Option (First × List ℕ)
served_open r id [] = None
served_open r id (Began t ∷ older) = if r.responder_id t == id then None else served_open r id older
served_open r id (Finished t u ∷ older) = if r.responder_id t == id then Some (t, u) else served_open r id older
served_open r id (_ ∷ older) = served_open r id older

-- PSK_EXCHANGE was answered for this session.
abbrev pub HasBegun : List Served → First → Type 0
HasBegun [] t = ⊥
HasBegun (Began s ∷ older) t = (t ≡ s) ⊎ HasBegun older t
HasBegun (_ ∷ older) t = HasBegun older t

-- PSK_FINISH was taken for this session.
abbrev pub HasFinished : List Served → First → Type 0
HasFinished [] t = ⊥
HasFinished (Finished s u ∷ older) t = (t ≡ s) ⊎ HasFinished older t
HasFinished (_ ∷ older) t = HasFinished older t

-- It was taken, and led to this T2.
abbrev pub HasOpened : List Served → First → (second : List ℕ) → Type 0
HasOpened [] t u = ⊥
HasOpened (Finished s v ∷ older) t u = ((t ≡ s) × (u ≡ v)) ⊎ HasOpened older t u
HasOpened (_ ∷ older) t u = HasOpened older t u

-- A record of the handshake of this session was answered with this text.
abbrev pub HasReplied : Reading → List Served → First → Text → Type 0
HasReplied r [] t b = ⊥
HasReplied r (Finished s u ∷ older) t b = ((t ≡ s) × (b ≡ r.finish_answer s)) ⊎ HasReplied r older t b
HasReplied r (Refused s reply ∷ older) t b = ((t ≡ s) × (b ≡ reply)) ⊎ HasReplied r older t b
HasReplied r (_ ∷ older) t b = HasReplied r older t b

-- The requests that were taken under a T2, with their replies.
abbrev pub taken : List ℕ → List Served → List Exchange
taken u [] = []
taken u (Took v b reply ∷ older) = if bytes_eq v u then (b, reply) ∷ taken u older else taken u older
taken u (_ ∷ older) = taken u older

-- ---- Epochs and numbers, counted out of the exchanges of a session. Both ends count the same.

abbrev pub firsts : List Exchange → List Text
firsts [] = []
firsts (x ∷ older) = x.0 ∷ firsts older

-- How many exchanges end an epoch.
abbrev pub epoch_of : (Exchange → Bool) → List Exchange → ℕ
epoch_of ends [] = 0
epoch_of ends (x ∷ older) = if ends x then epoch_of ends older + 1 else epoch_of ends older

-- How many exchanges there were since the last that ends an epoch, after which the count starts over with this number.
abbrev pub count_of : (Exchange → Bool) → ℕ → List Exchange → ℕ
count_of ends first [] = 0
count_of ends first (x ∷ older) = if ends x then first else count_of ends first older + 1

-- The purpose and the number of the request that follows these exchanges: an update is the last request under the key
-- before.
abbrev pub request_purpose : Reading → List ℕ → List Exchange → Purpose
request_purpose r u older = application_record r.psk u Request (epoch_of r.is_update older)

abbrev pub request_number : Reading → List Exchange → ℕ
request_number r older = count_of r.is_update 0 older

-- The purpose and the number of the newest reply of these exchanges: an update of all keys is granted by record 0 under
-- the new key, and refused under the key before.
abbrev pub reply_purpose : Reading → List ℕ → List Exchange → Purpose
reply_purpose r u all = application_record r.psk u Response (epoch_of r.is_update_all all)

abbrev pub reply_number : Reading → List Exchange → ℕ
reply_number r all = count_of r.is_update_all 1 all - 1

-- What the tags of that request and of that reply are computed over.
abbrev pub request_input : Reading → First → (second : List ℕ) → List Exchange → Text → List ℕ
request_input r t u older b = covered r t (request_purpose r u older) (request_number r older) b

abbrev pub reply_input : Reading → First → (second : List ℕ) → List Exchange → Text → List ℕ
reply_input r t u all reply = covered r t (reply_purpose r u all) (reply_number r all) reply
