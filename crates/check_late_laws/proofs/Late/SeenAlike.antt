-- A session whose large response was not seen, and the same with some bytes as that answer: all that is read off it is
-- the same, but for those.
use Rattle.std.proofs.Common.{◌≡◌, ◌+◌, ◌==◌, ◌||◌, ℕ, List, [], ◌∷◌, refl, sym, ap, ◌∙◌, Bool, false, Option, cond}
use Rattle.spdm_grammar.specs.Message.{RequestMessage}
use Rattle.spdm_grammar.specs.Codes.{code_for}
use Rattle.spdm_grammar.specs.declared.told.phase.Stage.TheVariants.{Open, Verifying}
use Rattle.spdm_grammar.specs.declared.names.request_code.TheConstants.{PSK_FINISH, KEY_UPDATE}
use Rattle.spdm_machine.specs.Terms.{terms_of}
use Rattle.responder_machine.specs.Records.{opening_fault, opened}
use Rattle.responder_machine.specs.Session.{Events, Event, is_live, session_negotiation, exchange_of, exchange_answer, stage_of, last_of, request_epoch, response_epoch, request_next, response_next, finish_of, finish_answer, session_terms, taken_of}
use Rattle.responder_machine.specs.Session.Event.{Began, Heard, Waited}
use Rattle.responder_machine.specs.Turn.{Turn, is_data, takes, updates, answer_in, request_in}
use Rattle.responder_machine.specs.Turn.Effect.{Took}

-- One turn, with other bytes as its whole answer.
abbrev pub answered : Turn → RequestMessage → List ℕ → Option ℕ → List ℕ → Turn
answered t a m large answer = record t { effect = Took a m answer large }

-- Two own histories of a session that differ in such answers at most, and in how they go, none of them that to PSK_FINISH.
pub data SeenAlike : Events → Events → Type 0 where
  NoEvent : SeenAlike [] []
  Behind : (e : Event) → (s u : Events) → SeenAlike s u → SeenAlike (e ∷ s) (e ∷ u)
  Here : (sealed : List ℕ) → (t : Turn) → (a : RequestMessage) → (m : List ℕ) → (large other : Option ℕ) → (w v reply : List ℕ) → (s u : Events) → (code_for a == PSK_FINISH) ≡ false → SeenAlike s u
      → SeenAlike (Heard sealed (answered t a m large w) reply ∷ s) (Heard sealed (answered t a m other v) reply ∷ u)

pub live_alike : (s u : Events) → SeenAlike s u → is_live s ≡ is_live u
live_alike _ _ NoEvent = refl
live_alike _ _ (Behind e s u a) = refl
live_alike _ _ (Here sealed t x m large other w v reply s u not a) = refl

pub negotiation_alike : (s u : Events) → SeenAlike s u → session_negotiation s ≡ session_negotiation u
negotiation_alike _ _ NoEvent = refl
negotiation_alike _ _ (Behind (Began n x y) s u a) = refl
negotiation_alike _ _ (Behind (Heard sealed t reply) s u a) = negotiation_alike s u a
negotiation_alike _ _ (Behind (Waited n) s u a) = negotiation_alike s u a
negotiation_alike _ _ (Here sealed t x m large other w v reply s u not a) = negotiation_alike s u a

pub exchange_alike : (s u : Events) → SeenAlike s u → exchange_of s ≡ exchange_of u
exchange_alike _ _ NoEvent = refl
exchange_alike _ _ (Behind (Began n x y) s u a) = refl
exchange_alike _ _ (Behind (Heard sealed t reply) s u a) = exchange_alike s u a
exchange_alike _ _ (Behind (Waited n) s u a) = exchange_alike s u a
exchange_alike _ _ (Here sealed t x m large other w v reply s u not a) = exchange_alike s u a

pub answer_alike : (s u : Events) → SeenAlike s u → exchange_answer s ≡ exchange_answer u
answer_alike _ _ NoEvent = refl
answer_alike _ _ (Behind (Began n x y) s u a) = refl
answer_alike _ _ (Behind (Heard sealed t reply) s u a) = answer_alike s u a
answer_alike _ _ (Behind (Waited n) s u a) = answer_alike s u a
answer_alike _ _ (Here sealed t x m large other w v reply s u not a) = answer_alike s u a

pub last_alike : (s u : Events) → SeenAlike s u → last_of s ≡ last_of u
last_alike _ _ NoEvent = refl
last_alike _ _ (Behind (Began n x y) s u a) = last_alike s u a
last_alike _ _ (Behind (Heard sealed t reply) s u a) = refl
last_alike _ _ (Behind (Waited n) s u a) = last_alike s u a
last_alike _ _ (Here sealed t x m large other w v reply s u not a) = refl

stage_step : (t : Turn) (s u : Events) (sealed reply : List ℕ) → stage_of s ≡ stage_of u → stage_of (Heard sealed t reply ∷ s) ≡ stage_of (Heard sealed t reply ∷ u)
stage_step t s u sealed reply same = ap (λ x. cond (takes PSK_FINISH t) Open (cond (updates 3 t) Open (cond (takes KEY_UPDATE t) Verifying x))) same

pub stage_alike : (s u : Events) → SeenAlike s u → stage_of s ≡ stage_of u
stage_alike _ _ NoEvent = refl
stage_alike _ _ (Behind (Began n x y) s u a) = stage_alike s u a
stage_alike _ _ (Behind (Heard sealed t reply) s u a) = stage_step t s u sealed reply (stage_alike s u a)
stage_alike _ _ (Behind (Waited n) s u a) = stage_alike s u a
stage_alike _ _ (Here sealed t x m large other w v reply s u not a) = stage_step (answered t x m large w) s u sealed reply (stage_alike s u a)

pub taken_alike : (s u : Events) → SeenAlike s u → taken_of s ≡ taken_of u
taken_alike _ _ NoEvent = refl
taken_alike _ _ (Behind (Began n x y) s u a) = taken_alike s u a
taken_alike _ _ (Behind (Heard sealed t reply) s u a) = ap (λ (n : ℕ). cond (is_data t.effect) (n + 1) n) (taken_alike s u a)
taken_alike _ _ (Behind (Waited n) s u a) = taken_alike s u a
taken_alike _ _ (Here sealed t x m large other w v reply s u not a) = taken_alike s u a

pub epoch_alike : (s u : Events) → SeenAlike s u → request_epoch s ≡ request_epoch u
epoch_alike _ _ NoEvent = refl
epoch_alike _ _ (Behind (Began n x y) s u a) = epoch_alike s u a
epoch_alike _ _ (Behind (Heard sealed t reply) s u a) = ap (λ (n : ℕ). cond (updates 1 t || updates 2 t) (n + 1) n) (epoch_alike s u a)
epoch_alike _ _ (Behind (Waited n) s u a) = epoch_alike s u a
epoch_alike _ _ (Here sealed t x m large other w v reply s u not a) = ap (λ (n : ℕ). cond (updates 1 (answered t x m large w) || updates 2 (answered t x m large w)) (n + 1) n) (epoch_alike s u a)

pub response_epoch_alike : (s u : Events) → SeenAlike s u → response_epoch s ≡ response_epoch u
response_epoch_alike _ _ NoEvent = refl
response_epoch_alike _ _ (Behind (Began n x y) s u a) = response_epoch_alike s u a
response_epoch_alike _ _ (Behind (Heard sealed t reply) s u a) = ap (λ (n : ℕ). cond (updates 2 t) (n + 1) n) (response_epoch_alike s u a)
response_epoch_alike _ _ (Behind (Waited n) s u a) = response_epoch_alike s u a
response_epoch_alike _ _ (Here sealed t x m large other w v reply s u not a) = ap (λ (n : ℕ). cond (updates 2 (answered t x m large w)) (n + 1) n) (response_epoch_alike s u a)

pub number_alike : (s u : Events) → SeenAlike s u → request_next s ≡ request_next u
number_alike _ _ NoEvent = refl
number_alike _ _ (Behind (Began n x y) s u a) = number_alike s u a
number_alike _ _ (Behind (Heard sealed t reply) s u a) = ap (λ (n : ℕ). cond (takes PSK_FINISH t || updates 1 t || updates 2 t) 0 (n + 1)) (number_alike s u a)
number_alike _ _ (Behind (Waited n) s u a) = number_alike s u a
number_alike _ _ (Here sealed t x m large other w v reply s u not a) =
    ap (λ (n : ℕ). cond (takes PSK_FINISH (answered t x m large w) || updates 1 (answered t x m large w) || updates 2 (answered t x m large w)) 0 (n + 1)) (number_alike s u a)

pub response_number_alike : (s u : Events) → SeenAlike s u → response_next s ≡ response_next u
response_number_alike _ _ NoEvent = refl
response_number_alike _ _ (Behind (Began n x y) s u a) = response_number_alike s u a
response_number_alike _ _ (Behind (Heard sealed t reply) s u a) = ap (λ (n : ℕ). cond (takes PSK_FINISH t) 0 (cond (updates 2 t) 1 (n + 1))) (response_number_alike s u a)
response_number_alike _ _ (Behind (Waited n) s u a) = response_number_alike s u a
response_number_alike _ _ (Here sealed t x m large other w v reply s u not a) =
    ap (λ (n : ℕ). cond (takes PSK_FINISH (answered t x m large w)) 0 (cond (updates 2 (answered t x m large w)) 1 (n + 1))) (response_number_alike s u a)

pub finish_alike : (s u : Events) → SeenAlike s u → finish_of s ≡ finish_of u
finish_alike _ _ NoEvent = refl
finish_alike _ _ (Behind (Began n x y) s u a) = finish_alike s u a
finish_alike _ _ (Behind (Heard sealed t reply) s u a) = ap (cond (takes PSK_FINISH t) (request_in t.effect)) (finish_alike s u a)
finish_alike _ _ (Behind (Waited n) s u a) = finish_alike s u a
finish_alike _ _ (Here sealed t x m large other w v reply s u not a) = ap (cond (takes PSK_FINISH (answered t x m large w)) m) (finish_alike s u a)

pub finish_answer_alike : (s u : Events) → SeenAlike s u → finish_answer s ≡ finish_answer u
finish_answer_alike _ _ NoEvent = refl
finish_answer_alike _ _ (Behind (Began n x y) s u a) = finish_answer_alike s u a
finish_answer_alike _ _ (Behind (Heard sealed t reply) s u a) = ap (cond (takes PSK_FINISH t) (answer_in t.effect)) (finish_answer_alike s u a)
finish_answer_alike _ _ (Behind (Waited n) s u a) = finish_answer_alike s u a
finish_answer_alike _ _ (Here sealed t x m large other w v reply s u not a) =
    ap (λ (b : Bool). cond b w (finish_answer s)) not ∙ finish_answer_alike s u a ∙ sym (ap (λ (b : Bool). cond b v (finish_answer u)) not)

pub terms_alike : (s u : Events) → SeenAlike s u → session_terms s ≡ session_terms u
terms_alike s u a = ap terms_of (negotiation_alike s u a)

-- Why a record does not open, and what it opens to.
pub fault_alike : (psk : List ℕ) (s u : Events) (sealed : List ℕ) → SeenAlike s u → opening_fault psk s sealed ≡ opening_fault psk u sealed
unfolding opening_fault
fault_alike psk s u sealed a =
    let negotiation = negotiation_alike s u a in
    let exchange = exchange_alike s u a in
    let answer = answer_alike s u a in
    let stage = stage_alike s u a in
    let epoch = epoch_alike s u a in
    let number = number_alike s u a in
    let other = response_number_alike s u a in
    let finish = finish_alike s u a in
    let finished = finish_answer_alike s u a in
    cc

pub opened_alike : (psk : List ℕ) (s u : Events) (sealed : List ℕ) → SeenAlike s u → opened psk s sealed ≡ opened psk u sealed
unfolding opened
opened_alike psk s u sealed a =
    let negotiation = negotiation_alike s u a in
    let exchange = exchange_alike s u a in
    let answer = answer_alike s u a in
    let stage = stage_alike s u a in
    let epoch = epoch_alike s u a in
    let number = number_alike s u a in
    let finish = finish_alike s u a in
    let finished = finish_answer_alike s u a in
    cc

pub same_backwards : (s u : Events) → SeenAlike s u → SeenAlike u s
same_backwards _ _ NoEvent = NoEvent
same_backwards _ _ (Behind e s u a) = Behind e u s (same_backwards s u a)
same_backwards _ _ (Here sealed t x m large other w v reply s u not a) = Here sealed t x m other large v w reply u s not (same_backwards s u a)
