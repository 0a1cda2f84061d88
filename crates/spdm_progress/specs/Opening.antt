-- What an open comes to where its messages are delivered honestly. This project's own.
use Rattle.std.specs.Prelude.{◌≢◌, ◌+◌, ◌==◌, ℕ, List, length, true, if◌then◌else◌}
use Rattle.requester_machine.specs.Does as asking
use Rattle.requester_machine.specs.History as asked
use Rattle.requester_machine.specs.Message.Command.{Open}
use Rattle.requester_machine.specs.Requesting.{Requesting}
use Rattle.responder_machine.specs.Place as serving
use Rattle.responder_machine.specs.Responding.{Connection}
use Rattle.responder_machine.specs.Setup.{RspSetup}
use Rattle.spdm_basis.specs.Sizes.{hash_size}
use Rattle.spdm_basis.specs.declared.values.session_id.SessionId.{SessionId}
use Rattle.spdm_grammar.specs.declared.told.event.Finished.TheVariants as finished
use Rattle.spdm_machine.specs.Terms.{Terms}
use Rattle.world_machine.specs.Happenings.{Entry}
use Rattle.world_machine.specs.Setup.{WorldSetup}
use Rattle.spdm_progress.specs.Fitting.{CanGo}
use Rattle.spdm_progress.specs.SessionCommands.{CompletesQuietly, IsToldQuietly}

-- The terms of the connection.
abbrev pub terms_now : Requesting → Terms
terms_now a = asked.connection_terms a.history

-- PSK_EXCHANGE_RSP has 12 bytes beside the summary, where one is asked for, the context, the opaque data and the verify
-- data; the summary, the context and the verify data are as long as the hash.
abbrev pub exchange_rsp_size : RspSetup → Terms → (summary : ℕ) → ℕ
exchange_rsp_size r terms summary =
    12 + (if summary == 0 then 0 else hash_size terms.choice.hash) + hash_size terms.choice.hash
    + length r.opaque + hash_size terms.choice.hash

-- What an open needs. The answer to PSK_EXCHANGE can go to the requester, in chunks too, and the responder holds fewer
-- sessions than four. Of the two requests nothing is asked: an open that is answered `ok` sends a PSK_EXCHANGE that can
-- go to the responder, in chunks too; and no hash is chosen that leaves no room for PSK_FINISH, which does not be sent
-- in chunks.
pub record CanOpen (a : Requesting) (c : Connection) (summary : ℕ) : Type 0 where
  pub answer_goes : CanGo (terms_now a).common (terms_now a).common.to_requester
      (exchange_rsp_size c.setup (terms_now a) summary)
  pub limit : serving.held_of c.history ≢ 4

-- The session that is opened has the least free id of either end.
abbrev pub opened_id : Requesting → Connection → SessionId
opened_id a c = record { req = asking.free_id a.history; rsp = serving.free_id c.history }

-- Whatever stands between this command and the next one of an honest script: once no packet waits any more, the session
-- is open, with this id.
abbrev pub OpenCompletes : Type 0
OpenCompletes =
    (w : WorldSetup) (before : List Entry) (n : ℕ) (a : Requesting) (c : Connection) (summary : ℕ)
    → IsToldQuietly w before n a c (Open summary) → CanOpen a c summary
    → CompletesQuietly w before n a c (Open summary) (finished.Opened (opened_id a c))
    (asking.free_id a.history) true
