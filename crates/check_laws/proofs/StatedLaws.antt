-- Each law of specs/ that no function calls, at its statement.
use Rattle.check_laws.specs.AnswersShown.{AnswersAreShown, LargeAreShown}
use Rattle.check_laws.specs.ApartShown.{ApartIsShown}
use Rattle.check_laws.specs.Awaits.{MoreConforms}
use Rattle.check_laws.specs.ChangeLaws.{CopyChanges, RequestChanges}
use Rattle.check_laws.specs.DropsShown.{PlainIsShown}
use Rattle.check_laws.specs.Going.{AsksGoOn, GoesOnFromEach, RepliesGoOn}
use Rattle.check_laws.specs.Keeping.{AsksAreKept, ConnectsAlways, KeptAsks, KeptBegins, KeptReplies, KeptStays, RepliesAreKept}
use Rattle.check_laws.specs.KeptChanges.{KeptAnswerChanges, KeptAnswerIsStep, KeptCopyIsRequest, KeptRoundIsRequest}
use Rattle.check_laws.specs.KeptRows.{AsksShow, MorePackets, NumbersAreOrder, RepliesShow, ShowBegins, ShownHavePlaces, ShownIsTable}
use Rattle.check_laws.specs.Large.SendingAnswers.{ChunksLeadPlainly, SendingAsksChunk}
use Rattle.check_laws.specs.Large.SendingLaws.{BegunIsSending, OwedMayBegin, SendingAsks, SendingBegins, SendingConnects, SendingEnds, SendingIsAlone, SendingIsAsked, SendingIsReplied, SendingReplies, SendingStays, SendingTellsApart, SendingTellsWhy}
use Rattle.check_laws.specs.Large.SendingShown.{FirstIsShown, OpenIsShown, PieceIsShown}
use Rattle.check_laws.specs.LargeShown.{LargeIsShown}
use Rattle.check_laws.specs.Laws.{OneRound, OrderIsAlone, OrderIsReason, OrderRefuses, OrderTells}
use Rattle.check_laws.specs.Padding.{OwedIsPadded, PaddingIsFree}
use Rattle.check_laws.specs.ReasonsEach.{AnsweredReasonIsEach, AskedReasonIsEach}
use Rattle.check_laws.specs.Refusing.{KeptTellsApart, KeptTellsReason, KeptTellsWhy}
use Rattle.check_laws.specs.RepliesShown.{RepliesAreShown}
use Rattle.check_laws.specs.RepliesTold.{RepliesAreTold}
use Rattle.check_laws.specs.Rows.{IdleRowsStay, OneKeepsPlaces, TableBegins, TableIsShown}
use Rattle.check_laws.specs.Showing.{ClearIsShown, SealedIsShown}
use Rattle.check_laws.specs.Walks.{LeadsIsEach}
use Rattle.check_laws.proofs.AllRows as in_all_rows
use Rattle.check_laws.proofs.Alone as in_alone
use Rattle.check_laws.proofs.AnswerChanges as in_answer_changes
use Rattle.check_laws.proofs.AnswerSteps as in_answer_steps
use Rattle.check_laws.proofs.ApartShown as in_apart_shown
use Rattle.check_laws.proofs.BodyShown as in_body_shown
use Rattle.check_laws.proofs.ChangesMade as in_changes_made
use Rattle.check_laws.proofs.Connecting as in_connecting
use Rattle.check_laws.proofs.EachWalks as in_each_walks
use Rattle.check_laws.proofs.FreePadding as in_free_padding
use Rattle.check_laws.proofs.GoingOn as in_going_on
use Rattle.check_laws.proofs.IdleRows as in_idle_rows
use Rattle.check_laws.proofs.KeptAll as in_kept_all
use Rattle.check_laws.proofs.KeptAnswers as in_kept_answers
use Rattle.check_laws.proofs.KeptReasons as in_kept_reasons
use Rattle.check_laws.proofs.KeptSteps as in_kept_steps
use Rattle.check_laws.proofs.Large.Asked as in_asked
use Rattle.check_laws.proofs.Large.AskedOn as in_asked_on
use Rattle.check_laws.proofs.Large.Begun as in_begun
use Rattle.check_laws.proofs.Large.ChunkAnswers as in_chunk_answers
use Rattle.check_laws.proofs.Large.ChunkRounds as in_chunk_rounds
use Rattle.check_laws.proofs.Large.CommandsShown as in_commands_shown
use Rattle.check_laws.proofs.Large.Meanwhile as in_meanwhile
use Rattle.check_laws.proofs.Large.PiecesShown as in_pieces_shown
use Rattle.check_laws.proofs.Large.Replied as in_replied
use Rattle.check_laws.proofs.Large.SendingReasons as in_sending_reasons
use Rattle.check_laws.proofs.LargeShown as in_large_shown
use Rattle.check_laws.proofs.Ordering as in_ordering
use Rattle.check_laws.proofs.PlacesShown as in_places_shown
use Rattle.check_laws.proofs.PlainShown as in_plain_shown
use Rattle.check_laws.proofs.Reasons as in_reasons
use Rattle.check_laws.proofs.ReasonsEach as in_reasons_each
use Rattle.check_laws.proofs.Refused as in_refused
use Rattle.check_laws.proofs.RepliesShown as in_replies_shown
use Rattle.check_laws.proofs.RepliesTold as in_replies_told
use Rattle.check_laws.proofs.RequestSteps as in_request_steps
use Rattle.check_laws.proofs.RowsKept as in_rows_kept
use Rattle.check_laws.proofs.Shown as in_shown
use Rattle.check_laws.proofs.ShownSealed as in_shown_sealed
use Rattle.check_laws.proofs.Unfinished as in_unfinished

-- By a copy of the last request no record was sent.
pub kept_copy_is_request : KeptCopyIsRequest
kept_copy_is_request = in_request_steps.kept_copy_is_request

-- By any other request the record of a session was sent, or none.
pub kept_round_is_request : KeptRoundIsRequest
kept_round_is_request = in_request_steps.kept_round_is_request

-- An answer that goes whole changes what it shows, and what the requester takes by it.
pub kept_answer_changes : KeptAnswerChanges
kept_answer_changes = in_answer_changes.kept_answer_changes

-- Each answer after which no large one is fetched is a step by which a change is taken.
pub kept_answer_is_step : KeptAnswerIsStep
kept_answer_is_step = in_answer_steps.kept_answer_is_step

-- Before the first packet no rows are shown.
pub show_begins : ShowBegins
show_begins = in_rows_kept.show_begins

-- What is shown has places of each requester.
pub shown_have_places : ShownHavePlaces
shown_have_places = in_places_shown.shown_have_places

-- A packet from a requester makes the rows that it makes by what is kept.
pub asks_show : AsksShow
asks_show = in_rows_kept.asks_show

-- So does a packet for it, where no large response is fetched then.
pub replies_show : RepliesShow
replies_show = in_rows_kept.replies_show

-- A table stands for the rows after more packets too, where they change none.
pub more_packets : MorePackets
more_packets = in_rows_kept.more_packets

-- A table that stands for the rows that a capture shows is its table.
pub shown_is_table : ShownIsTable
shown_is_table = in_rows_kept.shown_is_table

-- Each requester has its number in the configuration.
pub numbers_are_order : NumbersAreOrder
numbers_are_order = in_rows_kept.numbers_are_order

-- A copy changes nothing.
pub copy_changes : CopyChanges
copy_changes = in_changes_made.copy_changes

-- By any other request a round begins, with a record of a session or without.
pub request_changes : RequestChanges
request_changes = in_changes_made.request_changes

-- The round in progress between two ends is a function of the packets: all walks over them have it.
pub one_round : OneRound
one_round = in_ordering.one_round

-- A packet for which the order gives a reason does not conform, whatever the ends hold.
pub order_refuses : OrderRefuses
order_refuses = in_reasons.order_refuses

-- Verify data are not alone wrong there.
pub order_is_alone : OrderIsAlone
order_is_alone = in_alone.order_is_alone

-- After packets that conform that is the reason.
pub order_is_reason : OrderIsReason
order_is_reason = in_alone.order_is_reason

-- A packet in order that brings a part of a body conforms after packets that do.
pub more_conforms : MoreConforms
more_conforms = in_unfinished.more_conforms

-- Each of the three reasons of the order is given by the order.
pub order_tells : OrderTells
order_tells = in_reasons.order_tells

-- A request that goes on from one walk goes on from each other one, where no large request is in progress, and it is no
-- record that was owed.
pub asks_go_on : AsksGoOn
asks_go_on = in_going_on.asks_go_on

-- An answer that goes on from one walk goes on from each other one, where no large response is fetched.
pub replies_go_on : RepliesGoOn
replies_go_on = in_going_on.replies_go_on

-- A packet in which walks cannot differ goes on from each of them, or from none.
pub goes_on_from_each : GoesOnFromEach
goes_on_from_each = in_going_on.goes_on_from_each

-- A walk is a walk for each requester.
pub leads_is_each : LeadsIsEach
leads_is_each = in_each_walks.leads_is_each

-- A message that is owed is what it would be with some padding.
pub owed_is_padded : OwedIsPadded
owed_is_padded = in_free_padding.owed_is_padded

-- A record that is owed may have any padding.
pub padding_is_free : PaddingIsFree
padding_is_free = in_free_padding.padding_is_free

-- What is kept where nothing came yet.
pub kept_begins : KeptBegins
kept_begins = in_kept_answers.kept_begins

-- A packet between two other ends leaves what is kept.
pub kept_stays : KeptStays
kept_stays = in_kept_answers.kept_stays

-- What a request makes of what is kept, is kept after it.
pub kept_asks : KeptAsks
kept_asks = in_kept_steps.kept_asks

-- A request that goes on from some walk makes something of what is kept.
pub asks_are_kept : AsksAreKept
asks_are_kept = in_kept_all.asks_are_kept

-- GET_VERSION goes on from what is kept at any place.
pub connects_always : ConnectsAlways
connects_always = in_connecting.connects_always

-- A command in the clear is told by its request, and by the values that this shows.
pub clear_is_shown : ClearIsShown
clear_is_shown = in_shown.clear_is_shown

-- A command in a session is told by its record.
pub sealed_is_shown : SealedIsShown
sealed_is_shown = in_shown_sealed.sealed_is_shown

-- An answer that goes whole is told by its body, and by the values that this shows.
pub answers_are_shown : AnswersAreShown
answers_are_shown = in_body_shown.answers_are_shown

-- LargeResponse is told by its body too, but for the bytes of the answer that it stands for.
pub large_are_shown : LargeAreShown
large_are_shown = in_body_shown.large_are_shown

-- What an answer that goes whole leads to is a function of what it shows.
pub plain_is_shown : PlainIsShown
plain_is_shown = in_plain_shown.plain_is_shown

-- What an answer makes of what is kept, is kept after it.
pub kept_replies : KeptReplies
kept_replies = in_kept_answers.kept_replies

-- An answer that goes on from some walk makes something of what is kept.
pub replies_are_kept : RepliesAreKept
replies_are_kept = in_kept_answers.replies_are_kept

-- What is kept after an answer that goes whole is a function of what it shows.
pub replies_are_shown : RepliesAreShown
replies_are_shown = in_replies_shown.replies_are_shown

-- Which answers begin a large response is determined by what they show.
pub large_is_shown : LargeIsShown
large_is_shown = in_large_shown.large_is_shown

-- What is kept after any answer, with no large response fetched after it, is a function of what it shows.
pub replies_are_told : RepliesAreTold
replies_are_told = in_replies_told.replies_are_told

-- Whether the verify data of an answer are alone wrong is determined by what it shows.
pub apart_is_shown : ApartIsShown
apart_is_shown = in_apart_shown.apart_is_shown

-- The reason of a refused packet is determined by what is kept, but for wrong verify data.
pub kept_tells_why : KeptTellsWhy
kept_tells_why = in_refused.kept_tells_why

-- That verify data are alone wrong is determined by what is kept.
pub kept_tells_apart : KeptTellsApart
kept_tells_apart = in_refused.kept_tells_apart

-- What is kept of all requesters tells the reason of a refused packet.
pub kept_tells_reason : KeptTellsReason
kept_tells_reason = in_kept_reasons.kept_tells_reason

-- Why a request is refused depends on its requester alone.
pub asked_reason_is_each : AskedReasonIsEach
asked_reason_is_each = in_reasons_each.asked_reason_is_each

-- Why an answer is refused depends on the requester that it is for alone.
pub answered_reason_is_each : AnsweredReasonIsEach
answered_reason_is_each = in_reasons_each.answered_reason_is_each

-- A dialogue in which nothing changes leaves the rows.
pub idle_rows_stay : IdleRowsStay
idle_rows_stay = in_idle_rows.idle_rows_stay

-- Where its requester has places then, all have.
pub one_keeps_places : OneKeepsPlaces
one_keeps_places = in_all_rows.one_keeps_places

-- An empty table stands for the rows before the first packet.
pub table_begins : TableBegins
table_begins = in_all_rows.table_begins

-- A table that stands for the rows of a capture is its table.
pub table_is_shown : TableIsShown
table_is_shown = in_all_rows.table_is_shown

-- What is kept after the first chunk of a large request.
pub sending_begins : SendingBegins
sending_begins = in_begun.sending_begins

-- Where a large request is in progress after a packet, the packet begins one.
pub begun_is_sending : BegunIsSending
begun_is_sending = in_begun.begun_is_sending

-- What is kept after a copy, and after a chunk that is not the last one.
pub sending_asks : SendingAsks
sending_asks = in_asked_on.sending_asks

-- What is kept after the last chunk, and after GET_VERSION.
pub sending_ends : SendingEnds
sending_ends = in_asked.sending_ends

-- Each request that goes on from some walk makes something of what is kept.
pub sending_is_asked : SendingIsAsked
sending_is_asked = in_asked_on.sending_is_asked

-- What is kept after an answer.
pub sending_replies : SendingReplies
sending_replies = in_replied.sending_replies

-- Each answer that goes on from some walk makes something of what is kept.
pub sending_is_replied : SendingIsReplied
sending_is_replied = in_replied.sending_is_replied

-- A packet between two other ends leaves what is kept.
pub sending_stays : SendingStays
sending_stays = in_replied.sending_stays

-- Why a packet is refused meanwhile depends on no byte of the large request.
pub sending_tells_why : SendingTellsWhy
sending_tells_why = in_sending_reasons.sending_tells_why

-- No verify data of a request are alone wrong meanwhile, and those of an answer are where they are without the large
-- request.
pub sending_tells_apart : SendingTellsApart
sending_tells_apart = in_sending_reasons.sending_tells_apart

-- A first chunk is told by what it shows: the length, and its bytes.
pub first_is_shown : FirstIsShown
first_is_shown = in_pieces_shown.first_is_shown

-- Each chunk after it is told by its bytes.
pub piece_is_shown : PieceIsShown
piece_is_shown = in_pieces_shown.piece_is_shown

-- Whether a command may begin a large request is a question of a few numbers.
pub open_is_shown : OpenIsShown
open_is_shown = in_commands_shown.open_is_shown

-- A message that is owed and is a first chunk may begin a large request.
pub owed_may_begin : OwedMayBegin
owed_may_begin = in_meanwhile.owed_may_begin

-- GET_VERSION ends a large request at any place.
pub sending_connects : SendingConnects
sending_connects = in_meanwhile.sending_connects

-- After no packets both a large request is in progress and none is.
pub sending_is_alone : SendingIsAlone
sending_is_alone = in_meanwhile.sending_is_alone

-- While a large request is sent the last round asks with a chunk that is not the last one.
pub sending_asks_chunk : SendingAsksChunk
sending_asks_chunk = in_chunk_rounds.sending_asks_chunk

-- Such a chunk begins no large response, and ends none.
pub chunks_lead_plainly : ChunksLeadPlainly
chunks_lead_plainly = in_chunk_answers.chunks_lead_plainly
