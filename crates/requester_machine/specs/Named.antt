-- The session of a requester that a record names. This project's own.
use Rattle.std.specs.Prelude.{◌&&◌, ℕ, List, [], take, if◌then◌else◌, Bool, bytes_eq}
use Rattle.requester_machine.specs.History.{History}
use Rattle.requester_machine.specs.Session.{Steps, id_bytes, is_accepted, session_of}

-- The session took PSK_EXCHANGE_RSP, and its id precedes the record.
abbrev pub names : (sealed : List ℕ) → Steps → Bool
names sealed s = is_accepted s && bytes_eq (id_bytes s) (take 4 sealed)

-- The session that a record names so, the one of least ReqSessionID; none where it names none.
abbrev pub session_named : History → (sealed : List ℕ) → Steps
session_named h sealed =
    if names sealed (session_of 1 h) then session_of 1 h
    else (if names sealed (session_of 2 h) then session_of 2 h
    else (if names sealed (session_of 3 h) then session_of 3 h
    else (if names sealed (session_of 4 h) then session_of 4 h
    else [])))
