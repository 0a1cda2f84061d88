-- What an update and PSK_FINISH do to the numbers.
use Rattle.std.proofs.Common.{refl, ◌≡◌, ℕ, ◌+◌, List, ◌∷◌, true, false, Bool, Option, ap, sym, arith}
use Rattle.std.proofs.lemmas.Bool.{false≢true}
use Rattle.std.specs.Prelude.{if◌then◌else◌, ◌==◌, ◌||◌}
use Rattle.key_schedule.specs.declared.direction.Direction.TheVariants.{Response}
use Rattle.spdm_grammar.specs.Message.{ChunkMessage}
use Rattle.spdm_grammar.specs.Message.RequestMessage.{KeyUpdate}
use Rattle.spdm_grammar.specs.declared.messages.error_code.ErrorCode.{ErrorCode}
use Rattle.spdm_grammar.specs.declared.told.phase.Stage.TheVariants.{Open, Verifying}
use Rattle.responder_machine.proofs.Counts.{reply_by, past_purpose, requests_counted, responses_counted, none_sealed_later}
use Rattle.responder_machine.specs.Counts.{sealed_under}
use Rattle.responder_machine.specs.NumberLaws.{NextNumbersAreCounts, ReplyNumberIsCount, FinishBeginsAtZero, UpdateBeginsAtZero, UpdateAllIsAnsweredAtZero}
use Rattle.spdm_machine.specs.Sessions.{purpose_in}
use Rattle.responder_machine.specs.Records.{response_purpose, reply_purpose, reply_number}
use Rattle.responder_machine.specs.Session.{Events, stage_of, response_epoch, response_next, t1_of, t2_of}
use Rattle.spdm_machine.specs.Sessions.{is_past_handshake}
use Rattle.responder_machine.specs.Session.Event.{Heard}
use Rattle.responder_machine.specs.Turn.{Effect, takes, updates}
use Rattle.responder_machine.specs.Turn.Effect.{NoEffect, Took, TookData}
use Rattle.spdm_grammar.specs.declared.names.request_code.TheConstants.{PSK_FINISH}

pub numbers_counted : NextNumbersAreCounts
numbers_counted psk s staged = (requests_counted psk s staged, responses_counted psk s staged)

reply_counted : (psk : List ℕ) (s : Events) (all : Bool) → response_next s ≡ sealed_under psk (response_purpose psk s) s
    → (if all then 0 else response_next s) ≡ sealed_under psk (reply_by all (response_epoch s) (response_purpose psk s)) s
reply_counted psk s true before = sym (none_sealed_later psk (reply_by true (response_epoch s) (response_purpose psk s)) s (omega arith))
reply_counted psk s false before = before

pub reply_is_count : ReplyNumberIsCount
reply_is_count psk s t staged = reply_counted psk s (updates 2 t) (responses_counted psk s staged)

pub finish_begins : FinishBeginsAtZero
finish_begins s m t reply is = (rw is refl, rw is refl)

begins_anew : (a b c : Bool) (n : ℕ) → (b || c) ≡ true → (if a || b || c then 0 else n) ≡ 0
begins_anew true b c n h = refl
begins_anew false b c n h = rw h refl

pub update_begins : UpdateBeginsAtZero
update_begins s m t reply is = begins_anew (takes PSK_FINISH t) (updates 1 t) (updates 2 t) _ is

all_updated : (psk : List ℕ) (s : Events) (all verify : Bool) → all ≡ true → is_past_handshake (stage_of s) ≡ true
    → ((if all then 0 else response_next s) ≡ 0)
    × (reply_by all (response_epoch s) (response_purpose psk s) ≡ purpose_in (if verify then Open else Verifying) psk (t1_of s) (t2_of s) Response (if all then response_epoch s + 1 else response_epoch s))
    × ((if all then 1 else response_next s + 1) ≡ 1)
all_updated psk s false verify is past = absurd (false≢true is)
all_updated psk s true true is past = (refl, ap (reply_by true (response_epoch s)) (past_purpose (stage_of s) psk (t1_of s) (t2_of s) Response (response_epoch s) past), refl)
all_updated psk s true false is past = (refl, ap (reply_by true (response_epoch s)) (past_purpose (stage_of s) psk (t1_of s) (t2_of s) Response (response_epoch s) past), refl)

by_effect : (psk m message : List ℕ) (refused : Option ErrorCode) (chunk : Option ChunkMessage) (e : Effect) (answer reply : List ℕ) (s : Events)
    → updates 2 (record { message = message; refused = refused; chunk = chunk; effect = e; reply = answer }) ≡ true → is_past_handshake (stage_of s) ≡ true
    → (reply_number s (record { message = message; refused = refused; chunk = chunk; effect = e; reply = answer }) ≡ 0)
    × (reply_purpose psk s (record { message = message; refused = refused; chunk = chunk; effect = e; reply = answer }) ≡ response_purpose psk (Heard m (record { message = message; refused = refused; chunk = chunk; effect = e; reply = answer }) reply ∷ s))
    × (response_next (Heard m (record { message = message; refused = refused; chunk = chunk; effect = e; reply = answer }) reply ∷ s) ≡ 1)
by_effect psk m message refused chunk NoEffect answer reply s is past = absurd (false≢true is)
by_effect psk m message refused chunk (TookData bytes data_answer) answer reply s is past = absurd (false≢true is)
by_effect psk m message refused chunk (Took (KeyUpdate op tag) request whole large) answer reply s is past = all_updated psk s (op == 2) (op == 3) is past
by_effect psk m message refused chunk (Took _ request whole large) answer reply s is past = absurd (false≢true is)

pub all_answered : UpdateAllIsAnsweredAtZero
all_answered psk s m t reply is past = by_effect psk m t.message t.refused t.chunk t.effect t.reply reply s is past
