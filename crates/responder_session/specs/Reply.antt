-- The reply that a session keeps.
use Rattle.std.specs.Prelude.{ℕ, List, Option, option_map}
use Rattle.responder_machine.specs.History.{KeptRecord}
use Rattle.responder_session.specs.Kept.{kept_record}
use Rattle.responder_session.specs.declared.session.RspSession.{RspSession}
use Rattle.responder_session.specs.declared.took.RspState.{RspState}
use Rattle.responder_session.specs.declared.took.RspState.TheVariants as state

-- The record that answered the last record taken; none before the first.
abbrev pub last_reply : Option KeptRecord → Option (List ℕ)
last_reply last = option_map (λ k. k.reply) last

-- The reply that is kept in a session.
abbrev pub kept_reply : RspSession → Option (List ℕ)
kept_reply session = last_reply (kept_record session.kept.last)

-- The reply that is kept in a state.
abbrev pub reply_of : RspState → Option (List ℕ)
reply_of (state.Handshake h) = kept_reply h.session
reply_of (state.Open o) = kept_reply o.session
reply_of (state.Verifying v) = kept_reply v.session
reply_of (state.Ended e) = kept_reply e.session
