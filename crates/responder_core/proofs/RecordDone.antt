-- What comes of a record at a connection, by what comes of it at its sessions; and the values that are chosen for it.
use Rattle.std.proofs.Common.{◌∙◌, ◌≡◌, ℕ, List, [], Bool, ap, subst, sym}
use Rattle.responder_core.proofs.Outcomes.{kept_after_record, queue_after_record, turns_after_record}
use Rattle.responder_core.specs.Coming as coming
use Rattle.responder_core.specs.Connected.{HasSizesAt, IsDone, StandsFor, queue_left}
use Rattle.responder_core.specs.Sessions.{IsAnswered, body_by}
use Rattle.responder_core.specs.declared.connected.Connection.{Connection}
use Rattle.responder_core.specs.declared.in_sessions.sessions.Sessions.{Sessions}
use Rattle.responder_machine.specs.Answer.{Free}
use Rattle.responder_machine.specs.Does.{chosen, first_queued, record_chosen}
use Rattle.responder_machine.specs.History.{History, queue_of}
use Rattle.responder_machine.specs.LargeMessages.{next_handle}
use Rattle.responder_machine.specs.Responder.{on_record}
use Rattle.responder_machine.specs.Session.{id_in_record, session_of, turns_of}
use Rattle.responder_machine.specs.Setup.{RspSetup}
use Rattle.responder_machine.specs.Turn.{Turn}
use Rattle.responder_session.specs.RequestEffects.{AreFree}
use Rattle.responder_session.specs.declared.request_effect.ResponseValues.{ResponseValues}
use Rattle.spdm_grammar.specs.declared.told.heard.Heard.{Heard}
use Rattle.spdm_machine.specs.Keys.{Draw}

pub record_done : (r : RspSetup) (h : History) (tag : ℕ) (sealed : List ℕ) (f : Free) (d : Draw) (old : Connection) (hears : Heard) (seen : Sessions) (queue : List (List ℕ)) (drawn : Bool) (out : List ℕ) → StandsFor old r h
    → IsAnswered r h tag sealed f d hears seen out → queue ≡ queue_left hears old.queue
    → IsDone r h (on_record r h tag sealed f d) hears (body_by hears out) (record old { sessions = seen; queue = queue; drawn = drawn })
record_done r h tag sealed f d old hears seen queue drawn out stands done left =
    let turns = turns_after_record r h tag sealed f d in
    record {
      told = done.told;
      body = done.body;
      stands = record {
        clear = record {
          requests = subst (λ (ts : List Turn). coming.StandsFor old.clear.requests r ts) turns stands.clear.requests;
          kept = stands.clear.kept ∙ kept_after_record r h tag sealed f d;
        };
        sessions = done.stands;
        queue = left ∙ ap (queue_left hears) stands.queue ∙ ap (λ (x : Heard). queue_left x (queue_of h)) done.told ∙ queue_after_record r h tag sealed f d;
        sizes = subst (HasSizesAt r) turns stands.sizes;
      };
    }

-- The values that are handed on with a record are those that the responder chooses.
pub record_are : (r : RspSetup) (h : History) (sealed : List ℕ) (d : Draw) (seen : ResponseValues) → seen.nonce.now ≡ d.bytes → seen.opaque.now ≡ [] → seen.handle ≡ next_handle (turns_of (session_of (id_in_record sealed) h))
    → seen.reply.now ≡ first_queued (queue_of h) → seen.pad.now ≡ [] → AreFree seen (record_chosen r h sealed d)
unfolding chosen
record_are r h sealed d seen nonce measured_opaque handle reply pad = record { nonce = sym nonce; opaque = sym measured_opaque; handle = sym handle; reply = sym reply; pad = sym pad }
