-- What the argument for agreement has to know of the sessions of one pre-shared key. All else of them it leaves open:
-- it holds for any functions that keep the laws below.
use Rattle.std.specs.Prelude.{◌≡◌, ℕ, List, ◌∷◌, Bool, true}
use Rattle.key_schedule.specs.Purpose.{Purpose}
use Rattle.transcript.specs.Transcripts.{Negotiation}

-- What a session begins with: the negotiation, PSK_EXCHANGE, and PSK_EXCHANGE_RSP with its verify data. It fixes all
-- that both ends have to agree on, and it is the name of the session.
pub record First : Type 0 where
  pub negotiation : Negotiation
  pub exchange : List ℕ
  pub answer : List ℕ

pub record Reading : Type 0 where
  pub psk : List ℕ
  -- The beginning is well formed: its messages are sound, and the verify data of PSK_EXCHANGE_RSP right.
  pub is_sound : First → Bool
  -- T1, and the T2 that belongs to it. Each tells the beginning of a session.
  pub transcript : First → List ℕ
  pub transcript_tells : (s t : First) → is_sound s ≡ true → is_sound t ≡ true → transcript s ≡ transcript t → s ≡ t
  pub second : First → List ℕ
  pub second_tells : (s t : First) → is_sound s ≡ true → is_sound t ≡ true → second s ≡ second t → s ≡ t
  -- ReqSessionID and RspSessionID.
  pub requester_id : First → ℕ
  pub responder_id : First → ℕ
  -- The numbers of the draws that the context of PSK_EXCHANGE and that of PSK_EXCHANGE_RSP hold.
  pub requester_draw : First → ℕ
  pub responder_draw : First → ℕ
  -- The text of a record is what is encrypted: the length of the inner message, that message, and padding. Here the
  -- text of PSK_FINISH with the right verify data, and that of PSK_FINISH_RSP.
  pub finish : First → List ℕ
  pub finish_answer : First → List ℕ
  -- A text holds a PSK_FINISH_RSP, in any encoding.
  pub opens : List ℕ → Bool
  -- The texts of a request and of its reply are a KEY_UPDATE of the request key, or of all keys, and the
  -- acknowledgement that grants it; and the text of such an acknowledgement.
  pub is_update : List ℕ × List ℕ → Bool
  pub is_update_all : List ℕ × List ℕ → Bool
  pub granted : List ℕ
  -- The header and the encrypted text of a record of a session under a purpose and number, which tell the text.
  pub sealed : First → Purpose → ℕ → List ℕ → List ℕ
  pub sealed_tells : (t : First) (p : Purpose) (number : ℕ) (b c : List ℕ) → sealed t p number b ≡ sealed t p number c → b ≡ c

-- What the tag of a record is computed over: the number, and then header and encrypted text.
abbrev pub covered : Reading → First → Purpose → ℕ → List ℕ → List ℕ
covered r t p number text = number ∷ r.sealed t p number text
