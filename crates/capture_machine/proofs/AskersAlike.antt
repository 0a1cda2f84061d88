-- When two requesters of one capture are alike: their histories agree but for what the capture does not show yet.
use Rattle.std.proofs.Common.{◌≡◌, ◌<◌, ◌+◌, ◌==◌, ◌⊎◌, ℕ, List, ◌∷◌, refl, sym, ap, ◌∙◌, subst, length, drop, true, false, Option, Some, None, arith, inl, inr}
use Rattle.std.proofs.lemmas.Bool.{cases_order, false≢true}
use Rattle.chunking.specs.Cutting.{nth_chunk}
use Rattle.spdm_grammar.specs.Message.{RequestMessage}
use Rattle.spdm_grammar.specs.Message.RequestMessage.{ChunkSend}
use Rattle.spdm_grammar.specs.Requests.{canonical_request}
use Rattle.requester_machine.specs.Answers.{goes_on}
use Rattle.requester_machine.specs.History.{History, Entry, Led, sent_in, sent_count, outstanding, connection_terms, next_tag, begins_large}
use Rattle.requester_machine.specs.History.Effect.{Nothing}
use Rattle.requester_machine.specs.History.Entry.{Told, TookClear, TookRecord}
use Rattle.requester_machine.specs.Message.{Sent, body_of}
use Rattle.requester_machine.specs.Message.Aim.{ByChunks}
use Rattle.requester_machine.specs.Session.{Steps, session_of, is_accepted}
use Rattle.capture_machine.specs.CapturedRequests.{is_later}
use Rattle.requester_machine.specs.Owed.{with_next}
use Rattle.capture_machine.specs.LargeRequests.{common_of, piece_with}
use Rattle.capture_machine.specs.Rounds.{Round, no_draw, following_tag}
use Rattle.capture_machine.specs.SessionTable.{accepted_in}
use Rattle.capture_machine.proofs.Agrees.{Counted, Agree, agree_with, counted_with}
use Rattle.capture_machine.proofs.ChunksTell.{SameBelow, bytes_tell}
use Rattle.capture_machine.proofs.HeardNext.{IsOther}
use Rattle.capture_machine.proofs.HearsAlike.{SentAlike, LedAlike, EntryAlike, padded}
use Rattle.capture_machine.proofs.HearsAlike.SentAlike.{Equal, Padded}
use Rattle.capture_machine.proofs.RecordTells.{sealed_pad}

-- ---- A large request under way.

-- The own histories of a session are one, or PSK_EXCHANGE_RSP was taken in neither.
abbrev pub StepsAlike : Steps → Steps → Type 0
StepsAlike s t = (s ≡ t) ⊎ ((is_accepted s ≡ false) × (is_accepted t ≡ false))

abbrev pub transfer_of : History → ℕ
transfer_of h = (common_of h).to_responder.transfer

-- Bytes stand for a large request that was asked, and the chunks up to this number were sent. As soon as the requests
-- and the bytes are known to be one, the histories agree.
pub record UnderWay (h g : History) (w v : List ℕ) (a b : RequestMessage) (handle number : ℕ) : Type 0 where
  pub counted : Counted h g
  pub terms : connection_terms h ≡ connection_terms g
  pub accepted : accepted_in h ≡ accepted_in g
  pub size : length w ≡ length v
  pub short : length w < 65536
  pub parts : SameBelow (transfer_of h) handle w v (number + 1)
  pub asked : canonical_request a ≡ canonical_request b → a ≡ b
  pub resolves : a ≡ b → w ≡ v → Agree h g
  pub sessions : (id : ℕ) → StepsAlike (session_of id h) (session_of id g)

-- An acknowledgement was taken, which calls for the chunk of this number.
abbrev pub acked : ℕ → List ℕ → RequestMessage → List ℕ → ℕ → ℕ → History → History
acked tag m a w handle number h = TookClear tag m (goes_on Nothing (piece_with h a w handle number)) no_draw ∷ h

-- Nothing is hidden; the padding of a message that is owed, or the bytes of a large request that it begins; the bytes
-- of a large request whose last chunk so far was sent, or is owed.
pub data AskersAlike (round : Option Round) : History → History → Option (List ℕ) → Option (List ℕ) → Type 0 where
  Settled : (h g : History) → Agree h g → is_later round (outstanding h) ≡ false → next_tag h ≡ following_tag round → AskersAlike round h g None None
  Owing : (e f : Entry) → (h g : History) → (s t : Sent) → Agree h g → EntryAlike e f → sent_in e ≡ Some s → sent_in f ≡ Some t → SentAlike s t
      → s.tag ≡ following_tag round → IsOther s → is_later round (Some s) ≡ true → next_tag h ≡ following_tag round → AskersAlike round (e ∷ h) (f ∷ g) None None
  Shown : (h g : History) → (w v : List ℕ) → (a b : RequestMessage) → (handle number : ℕ) → (s t : Sent) → UnderWay h g w v a b handle number
      → outstanding h ≡ Some s → outstanding g ≡ Some t → s.aim ≡ ByChunks a handle number → t.aim ≡ ByChunks b handle number → s.tag ≡ t.tag
      → is_later round (Some s) ≡ false → next_tag h ≡ following_tag round → AskersAlike round h g (Some w) (Some v)
  Due : (tag : ℕ) → (m : List ℕ) → (h g : History) → (w v : List ℕ) → (a b : RequestMessage) → (handle number : ℕ) → UnderWay h g w v a b handle number
      → is_later round (Some (piece_with h a w handle (number + 1))) ≡ true → next_tag h ≡ following_tag round
      → AskersAlike round (acked tag m a w handle (number + 1) h) (acked tag m b v handle (number + 1) g) (Some w) (Some v)

-- ---- Messages.

-- A message that is shown tells its padding.
pub alike_told : (s t : Sent) → SentAlike s t → body_of s.content ≡ body_of t.content → s ≡ t
alike_told _ _ (Equal s) same = refl
alike_told _ _ (Padded tag psk s id ask inner pad padding) same =
    let one : pad ≡ padding = sealed_pad psk s inner pad padding (ap (λ (l : List ℕ). drop 1 l) same) in
    ap (padded tag psk s id ask inner) one

pub alike_tag : (s t : Sent) → SentAlike s t → s.tag ≡ t.tag
alike_tag _ _ (Equal s) = refl
alike_tag _ _ (Padded tag psk s id ask inner pad padding) = refl

pub alike_aim : (s t : Sent) → SentAlike s t → s.aim ≡ t.aim
alike_aim _ _ (Equal s) = refl
alike_aim _ _ (Padded tag psk s id ask inner pad padding) = refl

-- No record begins a large request.
pub alike_large : (s t : Sent) → SentAlike s t → begins_large s.aim ≡ true → s ≡ t
alike_large _ _ (Equal s) large = refl
alike_large _ _ (Padded tag psk s id ask inner pad padding) large = absurd (false≢true large)

-- ---- Entries.

led_told : (l m : Led) → LedAlike l m → l.next ≡ m.next → l ≡ m
led_told l m a same =
    ap (λ x. record l { event = x }) a.event ∙ ap (λ x. record l { event = m.event; effect = x }) a.effect ∙ ap (λ (o : Option Sent). record m { next = o }) same

-- Entries with one message are one.
pub entry_told : (e f : Entry) → EntryAlike e f → sent_in e ≡ sent_in f → e ≡ f
entry_told (TookClear tag m led d) (TookClear tag' m' led' d') a same =
    let l = led_told led led' a.2 same in let x = a.0 in let y = a.1 in let z = a.3 in cc
entry_told (TookRecord tag id sealed inner led d) (TookRecord tag' id' sealed' inner' led' d') a same =
    let l = led_told led led' a.4 same in let x = a.0 in let y = a.1 in let z = a.2 in let u = a.3 in let n = a.5 in cc
entry_told (Told c s d) f a same = absurd a
entry_told (TookClear tag m led d) (Told c s x) a same = absurd a
entry_told (TookClear tag m led d) (TookRecord tag' id' sealed' inner' led' d') a same = absurd a
entry_told (TookRecord tag id sealed inner led d) (Told c s x) a same = absurd a
entry_told (TookRecord tag id sealed inner led d) (TookClear tag' m' led' d') a same = absurd a

pub led_next : (l m : Led) (o : Option Sent) → LedAlike l m → record l { next = o } ≡ record m { next = o }
led_next l m o a = let event = a.event in let effect = a.effect in cc

-- With one message in their place, or with none, histories agree.
pub next_agree : (e f : Entry) (h g : History) (o : Option Sent) → EntryAlike e f → Agree h g → Agree (with_next o (e ∷ h)) (with_next o (f ∷ g))
next_agree (TookClear tag m led d) (TookClear tag' m' led' d') h g o a agree =
    let l = led_next led led' o a.2 in
    let same : TookClear tag m (record led { next = o }) d ≡ TookClear tag' m' (record led' { next = o }) d' = let x = a.0 in let y = a.1 in let z = a.3 in cc in
    let P : Entry → Type 0 = λ x. Agree (TookClear tag m (record led { next = o }) d ∷ h) (x ∷ g) in
    subst P same (agree_with (TookClear tag m (record led { next = o }) d) h g tt agree)
next_agree (TookRecord tag id sealed inner led d) (TookRecord tag' id' sealed' inner' led' d') h g o a agree =
    let l = led_next led led' o a.4 in
    let same : TookRecord tag id sealed inner (record led { next = o }) d ≡ TookRecord tag' id' sealed' inner' (record led' { next = o }) d' =
    let x = a.0 in let y = a.1 in let z = a.2 in let u = a.3 in let n = a.5 in cc in
    let P : Entry → Type 0 = λ x. Agree (TookRecord tag id sealed inner (record led { next = o }) d ∷ h) (x ∷ g) in
    subst P same (agree_with (TookRecord tag id sealed inner (record led { next = o }) d) h g tt agree)
next_agree (Told c s d) f h g o a agree = absurd a
next_agree (TookClear tag m led d) (Told c s x) h g o a agree = absurd a
next_agree (TookClear tag m led d) (TookRecord tag' id' sealed' inner' led' d') h g o a agree = absurd a
next_agree (TookRecord tag id sealed inner led d) (Told c s x) h g o a agree = absurd a
next_agree (TookRecord tag id sealed inner led d) (TookClear tag' m' led' d') h g o a agree = absurd a

-- The message that is owed took the next tag.
pub none_tag : (e f : Entry) (h : History) → EntryAlike e f → next_tag (with_next None (e ∷ h)) ≡ next_tag h
none_tag (TookClear tag m led d) f h a = refl
none_tag (TookRecord tag id sealed inner led d) f h a = refl
none_tag (Told c s d) f h a = absurd a

-- ---- Chunks.

pub piece_tells : (h g : History) (w v : List ℕ) (a b : RequestMessage) (handle number : ℕ) → connection_terms h ≡ connection_terms g → length w < 65536 → length v < 65536
    → body_of (piece_with h a w handle number).content ≡ body_of (piece_with g b v handle number).content
    → ((nth_chunk (transfer_of h) handle w number).chunk ≡ (nth_chunk (transfer_of h) handle v number).chunk) × ((number == 0) ≡ true → length w ≡ length v)
piece_tells h g w v a b handle number terms short few same =
    let at : body_of (piece_with h a w handle number).content ≡ body_of (piece_with h b v handle number).content =
    same ∙ ap (λ t. 5 ∷ canonical_request (ChunkSend (nth_chunk t.common.to_responder.transfer handle v number))) (sym terms) in
    bytes_tell (number == 0) _ _ handle number (length w) (length v) _ _ short few (ap (λ (l : List ℕ). drop 1 l) at)

pub below_next : (transfer handle number : ℕ) (w v : List ℕ) → SameBelow transfer handle w v number → (nth_chunk transfer handle w number).chunk ≡ (nth_chunk transfer handle v number).chunk
    → SameBelow transfer handle w v (number + 1)
below_next transfer handle number w v same here k less = elim (cases_order k number) [
  | inl is ↦ let P : ℕ → Type 0 = λ n. (nth_chunk transfer handle w n).chunk ≡ (nth_chunk transfer handle v n).chunk in subst P (sym is) here
  | inr apart ↦ elim apart [
    | inl below ↦ same k below
    | inr above ↦ absurd (omega arith)
  ]
]

pub piece_same : (h g : History) (w v : List ℕ) (a b : RequestMessage) (handle number : ℕ) → sent_count h ≡ sent_count g → connection_terms h ≡ connection_terms g → a ≡ b → w ≡ v
    → piece_with h a w handle number ≡ piece_with g b v handle number
piece_same h g w v a b handle number sent terms asked bytes = cc

-- One more chunk was sent.
pub under_way_next : (tag : ℕ) (m : List ℕ) (h g : History) (w v : List ℕ) (a b : RequestMessage) (handle number : ℕ) → UnderWay h g w v a b handle number
    → (nth_chunk (transfer_of h) handle w (number + 1)).chunk ≡ (nth_chunk (transfer_of h) handle v (number + 1)).chunk
    → UnderWay (acked tag m a w handle (number + 1) h) (acked tag m b v handle (number + 1) g) w v a b handle (number + 1)
unfolding session_of
under_way_next tag m h g w v a b handle number u here = record {
  counted = counted_with _ _ h g refl refl u.counted;
  terms = u.terms;
  accepted = refl;
  size = u.size;
  short = u.short;
  parts = below_next (transfer_of h) handle (number + 1) w v u.parts here;
  asked = u.asked;
  resolves = λ asks bytes.
      let same = piece_same h g w v a b handle (number + 1) u.counted.sent u.terms asks bytes in
      let P : Sent → Type 0 = λ x. Agree (acked tag m a w handle (number + 1) h) (TookClear tag m (goes_on Nothing x) no_draw ∷ g) in
      subst P same (agree_with (TookClear tag m (goes_on Nothing (piece_with h a w handle (number + 1))) no_draw) h g tt (u.resolves asks bytes));
  sessions = u.sessions;
}
