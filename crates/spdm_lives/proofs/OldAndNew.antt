-- What the two ends of a pair did in a life, and what they did in the lives before it, are of different sessions.
use Rattle.std.proofs.Common.{◌≡◌, ℕ, ◌≤◌, ◌<◌, List, ◌++◌, sym, ap, ◌∙◌, subst, arith}
use Rattle.requester_machine.specs.Requesting.{Requesting}
use Rattle.requester_machine.specs.Setup.{ReqSetup}
use Rattle.responder_machine.specs.Responding.{Connection}
use Rattle.responder_machine.specs.Setup.{RspSetup, towards}
use Rattle.spdm_agreement.proofs.Messages.Beginnings.{reading_of, transcript_of}
use Rattle.spdm_agreement.proofs.Moves.Invariant.{Invariant}
use Rattle.spdm_agreement.proofs.Moves.Runs.{holds, same_opened, same_finished, one_beginning}
use Rattle.spdm_agreement.proofs.Worlds.Behind.{asked_behind, served_behind, accepted_new, opened_new, opened_old, begun_new, served_new, served_old}
use Rattle.spdm_agreement.proofs.Worlds.Fits.{IsPair, same_key}
use Rattle.spdm_agreement.proofs.Worlds.Pairs.{OpensNew, state_of}
use Rattle.spdm_agreement.specs.Marks.{Asked, Served, IsAccepted, IsOpened, HasBegun, HasOpened, next_asked, next_served}
use Rattle.spdm_agreement.specs.Reading.{First, Reading}
use Rattle.spdm_agreement.specs.Story.{Past, asked_marks, served_marks, asked_from}
use Rattle.spdm_lives.proofs.LifeKept.{IsLife}
use Rattle.spdm_lives.proofs.LifeSteps.{always}
use Rattle.spdm_lives.proofs.PastLives.{IsGood, framed, past_of}
use Rattle.spdm_lives.proofs.RequesterDraws.{accepted_within}
use Rattle.spdm_lives.proofs.RequesterSessions.{opened_accepted}
use Rattle.spdm_lives.proofs.ResponderDraws.{begun_within}
use Rattle.spdm_lives.proofs.ResponderSessions.{finished_began, opened_finished}
use Rattle.spdm_lives.specs.Lives.{Life, world_of}

module _ (life : Life) (earlier : List Life) (k : IsGood life earlier) (a : Requesting) (c : Connection) (pair : IsPair (world_of life).requesters (world_of life).responder.connections a c) where
  abbrev prior : Past
  prior = past_of earlier

  abbrev r : Reading
  r = reading_of a.setup.psk

  is_life : IsLife life.setup (world_of life)
  is_life = always life.setup k.configured life.entries

  abbrev new_asked : List Asked
  new_asked = asked_marks a.setup a.history

  abbrev new_served : List Served
  new_served = served_marks c.setup c.history

  abbrev old_asked : List Asked
  old_asked = prior.asked a.setup

  abbrev old_served : List Served
  old_served = prior.served c.setup

  key : c.setup.psk ≡ a.setup.psk
  key = same_key (world_of life).requesters (world_of life).responder.connections is_life.apart a c pair

  -- All that both ends did.
  pub now : Invariant r (new_asked ++ old_asked) (new_served ++ old_served) (framed life earlier).log
  now =
      subst (λ (l : List Asked). Invariant r l (new_served ++ old_served) (framed life earlier).log) (asked_behind prior a.setup a.history)
      (subst (λ (l : List Served). Invariant r (asked_from prior a.setup a.history) l (framed life earlier).log) (served_behind prior c.setup c.history)
      (holds r (state_of prior a c (framed life earlier).log) (k.fits.pairs a c pair)))

  -- All that they did before.
  pub before : Invariant r old_asked old_served prior.log
  before =
      let e = is_life.end_of a pair.requester in
      let q = is_life.known_of c pair.connection in
      let eid : q.0.eid ≡ e.0.setup.eid = sym (ap (λ (x : RspSetup). x.peer) q.2) ∙ pair.peer ∙ ap (λ (x : ReqSetup). x.eid) e.2 in
      subst (λ (x : ReqSetup). Invariant (reading_of x.psk) (prior.asked x) old_served prior.log) (sym e.2)
      (subst (λ (x : RspSetup). Invariant (reading_of e.0.setup.psk) (prior.asked e.0.setup) (prior.served x) prior.log) (sym q.2)
      (holds (reading_of e.0.setup.psk) (record { asked = prior.asked e.0.setup; served = prior.served (towards life.setup.responder.part q.0); log = prior.log }) (k.begins.pairs e.0 q.0 e.1 q.1 eid)))

  -- ---- No session is accepted, or begun, in both.

  pub accepted_once : (t : First) → IsAccepted new_asked t → IsAccepted old_asked t → ⊥
  accepted_once t n o =
      let own = is_life.asks a pair.requester in
      let e = is_life.end_of a pair.requester in
      let low = (accepted_within a.setup a.first own.setup a.history own.made own.life t n).low in
      let last = before.asks.below t o in
      let begins = subst (λ (x : ReqSetup). next_asked (prior.asked x) ≤ e.0.first) (sym e.2) (k.begins.asked e.0 e.1) in
      let first = e.3 in
      omega arith

  pub begun_once : (t : First) → HasBegun new_served t → HasBegun old_served t → ⊥
  begun_once t n o =
      let own = is_life.serves c pair.connection in
      let q = is_life.known_of c pair.connection in
      let within = begun_within c.setup (world_of life).responder.first own.setup c.history own.made own.life t n in
      let low = within.low in
      let front = within.front in
      let last = subst (λ (psk : List ℕ). (reading_of psk).responder_draw t < next_served (reading_of psk) old_served) (sym key) (before.serves.below t o) in
      let begins = subst (λ (x : RspSetup). next_served (reading_of x.psk) (prior.served x) ≤ life.setup.responder.first) (sym q.2) (k.begins.served q.0 q.1) in
      let first = is_life.first in
      omega arith

  -- ---- So none is opened in both.

  old_begun : (t : First) (u : List ℕ) → HasOpened old_served t u → HasBegun old_served t
  old_begun t u o = before.serves.replied t (r.finish_answer t) (before.serves.seconds t (before.serves.opened t u o).0).1

  new_begun : (t : First) (u : List ℕ) → HasOpened new_served t u → HasBegun new_served t
  new_begun t u o = finished_began c.setup c.history t (opened_finished new_served t u o)

  new_accepted : (t : First) (u : List ℕ) → IsOpened new_asked t u → IsAccepted new_asked t
  new_accepted t u o = opened_accepted a.setup a.history (is_life.asks a pair.requester).made t u o

  old_accepted : (t : First) (u : List ℕ) → IsOpened old_asked t u → IsAccepted old_asked t
  old_accepted t u o = (before.asks.opened t u o).0

  pub asked_asked : (t s : First) (u : List ℕ) → IsOpened new_asked t u → IsOpened old_asked s u → ⊥
  asked_asked t s u n o =
      let same : t ≡ s = same_opened r _ _ _ now t s u (opened_new new_asked old_asked t u n) (opened_old new_asked old_asked s u o) in
      accepted_once t (new_accepted t u n) (subst (IsAccepted old_asked) (sym same) (old_accepted s u o))

  pub served_served : (t s : First) (u : List ℕ) → HasOpened new_served t u → HasOpened old_served s u → ⊥
  served_served t s u n o =
      let same : t ≡ s = same_finished r _ _ _ now t s u (served_new new_served old_served t u n) (served_old new_served old_served s u o) in
      begun_once t (new_begun t u n) (subst (HasBegun old_served) (sym same) (old_begun s u o))

  pub asked_served : (t s : First) (u : List ℕ) → IsOpened new_asked t u → HasOpened old_served s u → ⊥
  asked_served t s u n o =
      let same : t ≡ s = one_beginning r _ _ _ now t s u (opened_new new_asked old_asked t u n) (served_old new_served old_served s u o) in
      accepted_once t (new_accepted t u n) (subst (IsAccepted old_asked) (sym same) (before.links.finished s (before.serves.opened s u o).0))

  pub served_asked : (t s : First) (u : List ℕ) → HasOpened new_served t u → IsOpened old_asked s u → ⊥
  served_asked t s u n o =
      let same : s ≡ t = one_beginning r _ _ _ now s t u (opened_old new_asked old_asked s u o) (served_new new_served old_served t u n) in
      begun_once t (new_begun t u n) (subst (HasBegun old_served) same (before.links.accepted s (old_accepted s u o)))

  pub opens_new : OpensNew prior a c
  opens_new t u n o = asked_served t t u n o

  -- A T1 is that of one session, in all lives.
  pub one_accepted : (t s : First) → IsAccepted new_asked t → IsAccepted old_asked s → transcript_of t ≡ transcript_of s → ⊥
  one_accepted t s n o e =
      let same : t ≡ s = r.transcript_tells t s (now.asks.well t (accepted_new new_asked old_asked t n)) (before.asks.well s o) e in
      accepted_once t n (subst (IsAccepted old_asked) (sym same) o)

  pub one_begun : (t s : First) → HasBegun new_served t → HasBegun old_served s → transcript_of t ≡ transcript_of s → ⊥
  one_begun t s n o e =
      let same : t ≡ s = r.transcript_tells t s (now.serves.well t (begun_new new_served old_served t n)) (before.serves.well s o) e in
      begun_once t n (subst (HasBegun old_served) (sym same) o)
