-- Each law of specs/ that no function calls, at its statement.
use Rattle.check_fetched_laws.specs.AlikeAnswers.{AnswersAreAlike, LargeIsAlike, LastShowsChunk, TextIsAlike}
use Rattle.check_fetched_laws.specs.ClearApart.{LastApartIsShown, RepliesAreNotApart}
use Rattle.check_fetched_laws.specs.ClearChunks.{NextIsGiven, RepeatIsSame}
use Rattle.check_fetched_laws.specs.ClearMeanwhile.{GetBeginsNone, GetCompletes, GetGoesOn, NonePendsInClear, NoneTurnsInClear, RepeatBeginsNone, RepeatGoesSame, RepeatMayGo, VersionBeginsNone, VersionGoes}
use Rattle.check_fetched_laws.specs.ClearRounds.{GetIsNext, RoundIsThere}
use Rattle.check_fetched_laws.specs.ClearSessions.{ClearWhyIsBefore, KeysStandOn, LargeIsUnseen, OneHandshake, SessionsAreLeft, ViewsAreLeft}
use Rattle.check_fetched_laws.specs.JudgedFor.{BeginsJudging, PendingIsFetched, PendingIsMeasured}
use Rattle.check_fetched_laws.specs.LastShown.{LastIsShown, WholeHasLed}
use Rattle.check_fetched_laws.specs.PassedConnection.{StandsNear}
use Rattle.check_fetched_laws.specs.StandsAlike.{ExchangeEndsHandshake, LargeIsSized, StandsAlike, VersionEndsAll, VersionEndsFetch, VersionIsAnew, VersionIsGiven}
use Rattle.check_fetched_laws.proofs.AnswersAlike as in_answers_alike
use Rattle.check_fetched_laws.proofs.BegunJudged as in_begun_judged
use Rattle.check_fetched_laws.proofs.ChunkShown as in_chunk_shown
use Rattle.check_fetched_laws.proofs.ClearChunks as in_clear_chunks
use Rattle.check_fetched_laws.proofs.ClearLeft as in_clear_left
use Rattle.check_fetched_laws.proofs.ClearRound as in_clear_round
use Rattle.check_fetched_laws.proofs.ClearStands as in_clear_stands
use Rattle.check_fetched_laws.proofs.ClearViews as in_clear_views
use Rattle.check_fetched_laws.proofs.ConnectionNear as in_connection_near
use Rattle.check_fetched_laws.proofs.Handshakes as in_handshakes
use Rattle.check_fetched_laws.proofs.LargeAlike as in_large_alike
use Rattle.check_fetched_laws.proofs.LargeSized as in_large_sized
use Rattle.check_fetched_laws.proofs.LargeTurns as in_large_turns
use Rattle.check_fetched_laws.proofs.LastApart as in_last_apart
use Rattle.check_fetched_laws.proofs.LastShown as in_last_shown
use Rattle.check_fetched_laws.proofs.MeanwhileClear as in_meanwhile_clear
use Rattle.check_fetched_laws.proofs.NoneTurns as in_none_turns
use Rattle.check_fetched_laws.proofs.NotApart as in_not_apart
use Rattle.check_fetched_laws.proofs.PendingShown as in_pending_shown
use Rattle.check_fetched_laws.proofs.RestQuiet as in_rest_quiet
use Rattle.check_fetched_laws.proofs.TextAlike as in_text_alike
use Rattle.check_fetched_laws.proofs.VersionGiven as in_version_given
use Rattle.check_fetched_laws.proofs.VersionWalks as in_version_walks
use Rattle.check_fetched_laws.proofs.WholeDrops as in_whole_drops

-- A connection that stands for the one of two near histories stands for the other, once it has the last record of that
-- one's ended session.
pub stands_near : StandsNear
stands_near = in_connection_near.stands_near_too

-- A repeat is answered with the kept reply, and nothing changes.
pub repeat_goes_same : RepeatGoesSame
repeat_goes_same = in_meanwhile_clear.repeat_goes_same in_clear_chunks.repeat_is_same

-- That is always possible.
pub repeat_may_go : RepeatMayGo
repeat_may_go = in_none_turns.repeat_may_go

-- It begins no other large response, and is no last chunk.
pub repeat_begins_none : RepeatBeginsNone
repeat_begins_none = in_meanwhile_clear.repeat_begins_none in_clear_chunks.repeat_is_same

-- CHUNK_GET for a chunk that is not the last one is answered with that.
pub get_goes_on : GetGoesOn
get_goes_on = in_meanwhile_clear.get_goes_on in_clear_chunks.next_is_given

-- It begins no other large response.
pub get_begins_none : GetBeginsNone
get_begins_none = in_meanwhile_clear.get_begins_none in_clear_chunks.next_is_given

-- CHUNK_GET for the last chunk is answered with that, where the request may have led to all bytes.
pub get_completes : GetCompletes
get_completes = in_meanwhile_clear.get_completes in_clear_chunks.next_is_given

-- GET_VERSION is answered with VERSION.
pub version_goes : VersionGoes
version_goes = in_meanwhile_clear.version_goes in_version_given.version_is_given

-- It begins no other large response, and is no last chunk.
pub version_begins_none : VersionBeginsNone
version_begins_none = in_meanwhile_clear.version_begins_none in_version_given.version_is_given

-- No answer to another request than GET_VERSION begins another large response.
pub none_turns_in_clear : NoneTurnsInClear
none_turns_in_clear = in_none_turns.none_turns_in_clear

-- In a walk no large response is pending in the clear, as the responder is kept.
pub none_pends_in_clear : NonePendsInClear
none_pends_in_clear = in_rest_quiet.none_pends_in_clear

-- So it is told which bytes a request may have led to, and which session was dropped before it.
pub whole_has_led : WholeHasLed
whole_has_led = in_whole_drops.whole_has_led

-- Whether an answer is the last chunk of these bytes is determined by what both show.
pub last_is_shown : LastIsShown
last_is_shown = in_last_shown.last_is_shown

-- An answer depends on no more of the bytes of a large one than on those of its next chunk.
pub answers_are_alike : AnswersAreAlike
answers_are_alike = in_answers_alike.answers_are_alike

-- A new LargeResponse depends on none of them.
pub large_is_alike : LargeIsAlike
large_is_alike = in_large_alike.large_is_alike

-- What an answer to a record holds depends on none of them either.
pub text_is_alike : TextIsAlike
text_is_alike = in_text_alike.text_is_alike

-- So does the last chunk.
pub last_shows_chunk : LastShowsChunk
last_shows_chunk = in_chunk_shown.last_shows_chunk

-- In the clear CHUNK_GET for the next chunk is answered by it.
pub next_is_given : NextIsGiven
next_is_given = in_clear_chunks.next_is_given

-- A repeat in the clear gets what it got.
pub repeat_is_same : RepeatIsSame
repeat_is_same = in_clear_chunks.repeat_is_same

-- The history after LargeResponse is the one in which its answer was not seen, with that answer.
pub begins_judging : BeginsJudging
begins_judging = in_begun_judged.begins_judging

-- The bytes that are fetched are what is pending.
pub pending_is_fetched : PendingIsFetched
pending_is_fetched = in_pending_shown.pending_is_fetched

-- In a session they are MEASUREMENTS.
pub pending_is_measured : PendingIsMeasured
pending_is_measured = in_pending_shown.pending_is_measured

-- A round in the clear is GET_VERSION, a repeat, or CHUNK_GET for the next chunk.
pub get_is_next : GetIsNext
get_is_next = in_clear_round.get_is_next

-- The last request went to the place where the answer is fetched, or is GET_VERSION.
pub round_is_there : RoundIsThere
round_is_there = in_clear_round.round_is_there

-- A request in the clear whose answer goes by LargeResponse is not GET_VERSION.
pub large_is_unseen : LargeIsUnseen
large_is_unseen = in_large_turns.large_is_unseen

-- One session at most is in its handshake.
pub one_handshake : OneHandshake
one_handshake = in_handshakes.one_handshake

-- The sessions are those that were left before the request.
pub sessions_are_left : SessionsAreLeft
sessions_are_left = in_clear_left.sessions_are_left

-- A refused answer opens as it does without the large response.
pub clear_why_is_before : ClearWhyIsBefore
clear_why_is_before = in_clear_views.clear_why_is_before

-- The sessions that are shown are those that were left before the request.
pub views_are_left : ViewsAreLeft
views_are_left = in_clear_views.views_are_left

-- Messages in the clear leave the keys of the answers in sessions.
pub keys_stand_on : KeysStandOn
keys_stand_on = in_clear_views.keys_stand_on

-- Whether the verify data of the last chunk are alone wrong is determined by what is shown.
pub last_apart_is_shown : LastApartIsShown
last_apart_is_shown = in_last_apart.last_apart_is_shown

-- Those of no other answer are.
pub replies_are_not_apart : RepliesAreNotApart
replies_are_not_apart = in_not_apart.replies_are_not_apart

-- A connection stands for histories that are alike.
pub stands_alike : StandsAlike
stands_alike = in_clear_stands.stands_alike

-- PSK_EXCHANGE ends the handshake of a session, whether that was dropped before or not.
pub exchange_ends_handshake : ExchangeEndsHandshake
exchange_ends_handshake = in_clear_stands.exchange_ends_handshake

-- GET_VERSION is answered by VERSION.
pub version_is_given : VersionIsGiven
version_is_given = in_version_given.version_is_given

-- An answer goes by LargeResponse only where sizes are known.
pub large_is_sized : LargeIsSized
large_is_sized = in_large_sized.large_is_sized

-- GET_VERSION is no repeat while a large response is fetched.
pub version_is_anew : VersionIsAnew
version_is_anew = in_version_walks.version_is_anew

-- After it little counts of what was before.
pub version_ends_all : VersionEndsAll
version_ends_all = in_clear_stands.version_ends_all

-- A large response that was not seen does not count.
pub version_ends_fetch : VersionEndsFetch
version_ends_fetch = in_clear_stands.version_ends_fetch
