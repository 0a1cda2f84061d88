-- A session id as bytes (DSP0277, "Secured Message": the session id is ReqSessionID followed by RspSessionID).
use Rattle.std.specs.Prelude.{ℕ, List, [], ◌∷◌, ◌/◌, ◌%◌}

-- The four bytes of two numbers below 2^16, little-endian.
abbrev pub session_id_bytes : ℕ → ℕ → List ℕ
session_id_bytes req rsp = req % 256 ∷ req / 256 ∷ rsp % 256 ∷ rsp / 256 ∷ []
