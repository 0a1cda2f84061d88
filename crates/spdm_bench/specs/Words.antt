-- The words of the command line. This project's own.
use Rattle.std.specs.Prelude.{ℕ, List, Option, Some, None, codes, if◌then◌else◌}
use Rattle.std.specs.Str.{bytes_eq}
use Rattle.spdm_bench.specs.declared.work.Kind.{Kind}
use Rattle.spdm_bench.specs.declared.work.Kind.TheVariants.{Gcm, Hmac, Session, Records, Ends}

-- The kind of work that a word names.
abbrev pub kind_named : List ℕ → Option Kind
kind_named word =
    if bytes_eq word (codes "gcm") then Some Gcm
    else if bytes_eq word (codes "hmac") then Some Hmac
    else if bytes_eq word (codes "session") then Some Session
    else if bytes_eq word (codes "records") then Some Records
    else if bytes_eq word (codes "ends") then Some Ends
    else None
