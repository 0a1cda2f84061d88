-- Each law of specs/ that no function calls, at its statement.
use Rattle.check_late_laws.specs.FetchingLaws.{BegunIsFetching, FetchingAsks, FetchingBegins, FetchingEnds, FetchingGoes, FetchingIsAlone, FetchingIsAsked, FetchingIsReplied, FetchingStays, FetchingTellsApart, FetchingTellsWhy, FetchingTurns, LargeIsOfAll, PlainIsOfAll}
use Rattle.check_late_laws.specs.Late.AgainInSession.{AgainIsNewest, AgainLeavesOthers}
use Rattle.check_late_laws.specs.Late.Marking.{RefusedLeavesMarks}
use Rattle.check_late_laws.specs.Late.Passed.{RepeatIsPassed, RepeatStandsBack, TouchIsTold}
use Rattle.check_late_laws.specs.Late.PassedLarge.{LargeIsInFront, LedElsewhere, LedGoesOn, RequestWasLed}
use Rattle.check_late_laws.specs.Late.PassedLast.{LastIsInFront, LastStaysBack, RequestWasAnew}
use Rattle.check_late_laws.specs.Late.PassedSessions.{AllArePast, NoneBeginsSince, UntouchedIsTold, UntouchedStays}
use Rattle.check_late_laws.specs.Late.PassedStands.{EndedStays, FrontIsNear, NearGoesOn, NearIsKept}
use Rattle.check_late_laws.proofs.Asked as in_asked
use Rattle.check_late_laws.proofs.BegunLaws as in_begun_laws
use Rattle.check_late_laws.proofs.GoesLaws as in_goes_laws
use Rattle.check_late_laws.proofs.LargeLaws as in_large_laws
use Rattle.check_late_laws.proofs.Late.Behind as in_behind
use Rattle.check_late_laws.proofs.Late.BehindClear as in_behind_clear
use Rattle.check_late_laws.proofs.Late.BehindSessions as in_behind_sessions
use Rattle.check_late_laws.proofs.Late.FrontNear as in_front_near
use Rattle.check_late_laws.proofs.Late.InFront as in_in_front
use Rattle.check_late_laws.proofs.Late.LargeFront as in_large_front
use Rattle.check_late_laws.proofs.Late.MarksStand as in_marks_stand
use Rattle.check_late_laws.proofs.Late.SessionNewest as in_session_newest
use Rattle.check_late_laws.proofs.Late.WalksAnew as in_walks_anew
use Rattle.check_late_laws.proofs.Late.WalksLed as in_walks_led
use Rattle.check_late_laws.proofs.PlainLaws as in_plain_laws
use Rattle.check_late_laws.proofs.Reasons as in_reasons
use Rattle.check_late_laws.proofs.RepliedOn as in_replied_on
use Rattle.check_late_laws.proofs.TurnsLaws as in_turns_laws

-- What is kept after a request.
pub fetching_asks : FetchingAsks
fetching_asks = in_asked.fetching_asks

-- Each request that goes on from some walk makes something of what is kept.
pub fetching_is_asked : FetchingIsAsked
fetching_is_asked = in_asked.fetching_is_asked

-- A packet between two other ends leaves what is kept.
pub fetching_stays : FetchingStays
fetching_stays = in_asked.fetching_stays

-- Why a packet is refused meanwhile depends on no byte of the large response.
pub fetching_tells_why : FetchingTellsWhy
fetching_tells_why = in_reasons.fetching_tells_why

-- Whether verify data are alone wrong meanwhile is determined by what is kept, and, of those of an answer, from the
-- bytes that stand for the large one.
pub fetching_tells_apart : FetchingTellsApart
fetching_tells_apart = in_reasons.fetching_tells_apart

-- What is kept after LargeResponse in response to which the requester asks for a chunk.
pub fetching_begins : FetchingBegins
fetching_begins = in_begun_laws.fetching_begins

-- Where a large response is fetched after a packet, the packet begins it.
pub begun_is_fetching : BegunIsFetching
begun_is_fetching = in_begun_laws.begun_is_fetching

-- After no packets both a large response is fetched and none is, and no large request is in progress meanwhile.
pub fetching_is_alone : FetchingIsAlone
fetching_is_alone = in_begun_laws.fetching_is_alone

-- What is kept after an answer with which nothing is fetched any more.
pub fetching_ends : FetchingEnds
fetching_ends = in_begun_laws.fetching_ends

-- Each answer that goes on from some walk makes something of what is kept.
pub fetching_is_replied : FetchingIsReplied
fetching_is_replied = in_replied_on.fetching_is_replied

-- What is kept after an answer with which the large response is fetched on.
pub fetching_goes : FetchingGoes
fetching_goes = in_goes_laws.fetching_goes

-- What is kept after another LargeResponse.
pub fetching_turns : FetchingTurns
fetching_turns = in_turns_laws.fetching_turns

-- An answer that goes whole may be given with each bytes that may stand after it, or with none.
pub plain_is_of_all : PlainIsOfAll
plain_is_of_all = in_plain_laws.plain_is_of_all

-- LargeResponse meanwhile may be given with each bytes that may stand, or with none.
pub large_is_of_all : LargeIsOfAll
large_is_of_all = in_large_laws.large_is_of_all

-- Where a repeat gets LargeResponse again, only records, refused messages and drops came after its request.
pub repeat_stands_back : RepeatStandsBack
repeat_stands_back = in_behind.repeat_stands_back

-- The repeat has the tag and the bytes of that request, and gets its reply.
pub repeat_is_passed : RepeatIsPassed
repeat_is_passed = in_behind.repeat_is_passed

-- A mark for each id tells whether its session was touched since.
pub touch_is_told : TouchIsTold
touch_is_told = in_behind.touch_is_told

-- A session that was not touched is what the request left of it.
pub untouched_stays : UntouchedStays
untouched_stays = in_behind_sessions.untouched_stays

-- No session begins since the request.
pub none_begins_since : NoneBeginsSince
none_begins_since = in_behind_sessions.none_begins_since

-- After PSK_EXCHANGE no session is in its handshake.
pub all_are_past : AllArePast
all_are_past = in_behind_sessions.all_are_past

-- What a session is now tells whether its id was in use at the request, where it was not touched since.
pub untouched_is_told : UntouchedIsTold
untouched_is_told = in_behind_sessions.untouched_is_told

-- After the last chunk the request and the drops before it stay at their place.
pub last_stays_back : LastStaysBack
last_stays_back = in_behind_clear.last_stays_back

-- A connection keeps the same of that as where the request stands in front, but for the kept message and the last
-- record of the ended session.
pub front_is_near : FrontIsNear
front_is_near = in_front_near.front_is_near

-- A further message in the clear leaves it so.
pub near_goes_on : NearGoesOn
near_goes_on = in_front_near.near_goes_on

-- After a message in the clear that was taken the kept message is the same too.
pub near_is_kept : NearIsKept
near_is_kept = in_front_near.near_is_kept

-- At its own place the request leaves the last record of a session that ended since.
pub ended_stays : EndedStays
ended_stays = in_front_near.ended_stays

-- The request may have led to its large response at its place exactly when it may lead to it now, as the newest one
-- under another tag, and the session that it begins was not touched since.
pub last_is_in_front : LastIsInFront
last_is_in_front = in_in_front.last_is_in_front

-- In a walk the request was no repeat.
pub request_was_anew : RequestWasAnew
request_was_anew = in_walks_anew.request_was_anew

-- Where LargeResponse comes again in a session, the record is the newest event of it.
pub again_is_newest : AgainIsNewest
again_is_newest = in_session_newest.again_is_newest

-- What came in the clear and in other sessions does not count there.
pub again_leaves_others : AgainLeavesOthers
again_leaves_others = in_session_newest.again_leaves_others

-- The request may get LargeResponse as the newest one too.
pub large_is_in_front : LargeIsInFront
large_is_in_front = in_large_front.large_is_in_front

-- Whether a request led to LargeResponse depends on the negotiation alone, where it is no repeat.
pub led_elsewhere : LedElsewhere
led_elsewhere = in_large_front.led_elsewhere

-- That the newest request in the clear led to LargeResponse, if its answer passed unseen, goes on entry by entry.
pub led_goes_on : LedGoesOn
led_goes_on = in_large_front.led_goes_on

-- In a walk the newest request in the clear led to LargeResponse, if its answer passed unseen.
pub request_was_led : RequestWasLed
request_was_led = in_walks_led.request_was_led

-- A message in the clear that was refused leaves the marks.
pub refused_leaves_marks : RefusedLeavesMarks
refused_leaves_marks = in_marks_stand.refused_leaves_marks
