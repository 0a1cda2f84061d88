-- Each law of specs/ that no function calls, at its statement.
use Rattle.check_fetched_ends.specs.AsksUpon.{AnswersTellAsking, ClearAsksOn, PlainEndsFetching, SessionAsksOn, VersionAsksNone}
use Rattle.check_fetched_ends.specs.LateApart.{LateApart}
use Rattle.check_fetched_ends.specs.LateBefore.{LateBefore}
use Rattle.check_fetched_ends.specs.LateLed.{LateIsLed}
use Rattle.check_fetched_ends.specs.Marked.{AnswerMovesMarks}
use Rattle.check_fetched_ends.specs.RefusedAgain.{NoneLargeAgain, RefusedAgain}
use Rattle.check_fetched_ends.specs.SameChunks.{SameCapabilities, SameCommon}
use Rattle.check_fetched_ends.proofs.MarksWalk as in_marks_walk
use Rattle.check_fetched_ends.proofs.LateLast as in_late_last
use Rattle.check_fetched_ends.proofs.LateRequest as in_late_request
use Rattle.check_fetched_ends.proofs.LateLed as in_late_led
use Rattle.check_fetched_ends.proofs.AsksTold as in_asks_told
use Rattle.check_fetched_ends.proofs.ClearAsks as in_clear_asks
use Rattle.check_fetched_ends.proofs.RefusedAgain as in_refused_again
use Rattle.check_fetched_ends.proofs.SameChunks as in_same_chunks
use Rattle.check_fetched_ends.proofs.SessionAsks as in_session_asks
use Rattle.check_fetched_ends.proofs.VersionAsks as in_version_asks

-- What an answer makes of them is determined by the responder's history before it and after it.
pub answer_moves_marks : AnswerMovesMarks
answer_moves_marks = in_marks_walk.answer_moves_marks

-- It is refused again, but for GET_MEASUREMENTS and PSK_EXCHANGE.
pub refused_again : RefusedAgain
refused_again = in_refused_again.refused_again

-- So its copy gets no LargeResponse.
pub none_large_again : NoneLargeAgain
none_large_again = in_refused_again.none_large_again

-- The verify data of its last chunk are alone wrong exactly when its request may lead, in front, to bytes from which
-- those of the chunks are apart, and no mark is set of the session that they begin.
pub late_apart : LateApart
late_apart = in_late_last.late_apart

-- What stands of the request of a new LargeResponse stands of one that passed, before what came since.
pub late_before : LateBefore
late_before = in_late_request.late_before

-- What its last chunk shows of its request is told before what came since, and no mark is set of the session that its
-- whole answer begins.
pub late_is_led : LateIsLed
late_is_led = in_late_led.late_is_led

-- What the requester took as CAPABILITIES is what the responder told it last, as long as its negotiation counts.
pub same_capabilities : SameCapabilities
same_capabilities = in_same_chunks.same_capabilities

-- So what both ends can do is the same at both of them.
pub same_common : SameCommon
same_common = in_same_chunks.same_common

-- In the clear on each answer that goes whole, but for VERSION.
pub clear_asks_on : ClearAsksOn
clear_asks_on = in_clear_asks.clear_asks_on

-- On the answer to GET_VERSION it asks for none.
pub version_asks_none : VersionAsksNone
version_asks_none = in_version_asks.version_asks_none

-- Where it is fetched in a session, on what comes in the clear.
pub session_asks_on : SessionAsksOn
session_asks_on = in_session_asks.session_asks_on

-- Where it is fetched on, or another one begins, and not where nothing is fetched after the answer.
pub answers_tell_asking : AnswersTellAsking
answers_tell_asking = in_asks_told.answers_tell_asking

-- An answer that goes whole, in response to which it asks for none, leaves the large one unseen.
pub plain_ends_fetching : PlainEndsFetching
plain_ends_fetching = in_asks_told.plain_ends_fetching
