-- The last record that a session took, and the one that answered it, read again: where that record changed no key, both stand
-- under the present keys, by the numbers before the next ones. This project's own.
use Rattle.std.specs.Prelude.{◌==◌, ◌-◌, ◌&&◌, not, ℕ, List, Bool, false, Option, Some, None, bytes_eq, is_none}
use Rattle.responder_machine.specs.History.{KeptRecord}
use Rattle.responder_machine.specs.Records.{request_purpose, response_purpose}
use Rattle.responder_machine.specs.Session.{Events, id_bytes, last_of, request_next, response_next, session_terms}
use Rattle.spdm_machine.specs.Keys.{inner_message, record_fault}

-- These are the last record and its reply.
abbrev pub is_last : Option KeptRecord → (sealed answer : List ℕ) → Bool
is_last None sealed answer = false
is_last (Some kept) sealed answer = bytes_eq kept.sealed sealed && bytes_eq kept.reply answer

-- A record opens under the present key of requests, by the number before the next one.
abbrev pub opens_last : (psk : List ℕ) → Events → (sealed : List ℕ) → Bool
opens_last psk s sealed =
    not (request_next s == 0)
    && is_none (record_fault (session_terms s).choice (request_purpose psk s) (request_next s - 1) (id_bytes s) sealed)

-- The inner message that it has then.
abbrev pub last_opened : (psk : List ℕ) → Events → (sealed : List ℕ) → List ℕ
last_opened psk s sealed = inner_message (session_terms s).choice (request_purpose psk s) (request_next s - 1) sealed

-- An answer opens under the present key of answers, by the number before the next one.
abbrev pub opens_reply : (psk : List ℕ) → Events → (answer : List ℕ) → Bool
opens_reply psk s answer =
    not (response_next s == 0)
    && is_none (record_fault (session_terms s).choice (response_purpose psk s) (response_next s - 1) (id_bytes s) answer)

-- The inner message that it has then.
abbrev pub reply_opened : (psk : List ℕ) → Events → (answer : List ℕ) → List ℕ
reply_opened psk s answer = inner_message (session_terms s).choice (response_purpose psk s) (response_next s - 1) answer

-- These are the last record and its reply, and both open so.
abbrev pub reads_last : (psk : List ℕ) → Events → (sealed answer : List ℕ) → Bool
reads_last psk s sealed answer = is_last (last_of s) sealed answer && (opens_last psk s sealed && opens_reply psk s answer)
