use Rattle.std.proofs.Common.{◌≡◌, ◌∙◌, ◌≤◌, ap, sym, subst, refl, ℕ, List, drop, length, true, arith}
use Rattle.std.specs.Prelude.{◌==◌, None, Some}
use Rattle.chunking.specs.Collecting.{Collection, collected}
use Rattle.chunking.specs.Keeping as keeping
use Rattle.requester_machine.specs.Message.{Ask}
use Rattle.requester_machine.specs.Message.Ask.{AskChunk}
use Rattle.requester_machine.specs.Order.{waiting_ask}
use Rattle.requester_machine.specs.Records.{answer_fault, answer_inner}
use Rattle.requester_machine.specs.Sending.{update_tag}
use Rattle.requester_machine.specs.Session.{Steps, response_epoch, session_terms}
use Rattle.requester_machine.specs.Setup.{ReqSetup}
use Rattle.requester_machine.specs.UnderWay.{AreUnderWay}
use Rattle.spdm_grammar.specs.Message.{ChunkMessage, chunk_message}
use Rattle.psk_session.specs.Course.{Course, TakesCourse}
use Rattle.psk_session.specs.declared.response_outcome.ResponseOutcome.{ResponseOutcome}
use Rattle.spdm_machine.specs.Sessions.{is_past_handshake}
use Rattle.spdm_machine.specs.Terms.{hash_len}
use Rattle.psk_session.specs.Held.{seen_meaning, verdict_of}
use Rattle.psk_session.specs.Inner.{contents_of}
use Rattle.psk_session.specs.Kept.{Keeps}
use Rattle.psk_session.specs.ReqSession.{IsAwaiting, awaited_in}
use Rattle.psk_session.specs.Stepped.{Follows, IsToldOf}
use Rattle.psk_session.specs.Verdict.{Fits, Meaning, chunk_course, course_of, meaning_of}
use Rattle.psk_session.specs.Verdict as verdicts
use Rattle.psk_session.specs.Waiting.{awaited_by, awaited_epoch}
use Rattle.psk_session.specs.declared.session_request.Awaited.{Awaited}
use Rattle.psk_session.specs.declared.kept.Kept.{Kept}
use Rattle.psk_session.specs.declared.req_session.ReqSession.{ReqSession}
use Rattle.psk_session.proofs.Chunks.{chunk_awaited}
use Rattle.psk_session.proofs.Courses.{IsMeaning, Takes, takes, piece_takes}
use Rattle.psk_session.proofs.Meanings.{FitsMeaning, IsAskedFor}
use Rattle.psk_session.proofs.Taking.{fits, newest_waits, told_by}
use Rattle.psk_session.proofs.req_session.ReqSession.take_with.Goals as goal

-- What opened is kept under the same keys and numbers, and is read by what is awaited.
record IsOpened (old opened : ReqSession) (sealed came : List ℕ) (meaning : Meaning) (what : Awaited) (psk : List ℕ) (s : Steps) (a : Ask) : Type 0 where
  fault : answer_fault psk s a sealed ≡ None
  inner : came ≡ answer_inner psk s a sealed
  short : length came ≤ 4160
  same : opened ≡ record old { sent = opened.sent }
  awaited : what ≡ awaited_in opened.standing
  means : (epoch : ℕ) (before : List ChunkMessage) (q : ReqSetup) → Keeps opened.kept psk s epoch → q.transfer ≡ (session_terms s).common.to_requester.transfer
      → meaning ≡ meaning_of (session_terms s).common.chunk (update_tag s) (awaited_by what before) (contents_of q (hash_len (session_terms s)) came)

kept_by : (old opened : ReqSession) (sent psk : List ℕ) (s : Steps) (epoch : ℕ) → opened ≡ record old { sent = sent } → Keeps old.kept psk s epoch → Keeps opened.kept psk s epoch
kept_by old opened sent psk s epoch same keeps = subst (λ (x : Kept). Keeps x psk s epoch) (sym (ap (λ (x : ReqSession). x.kept) same)) keeps

meant : (old opened : ReqSession) (sealed inner : List ℕ) (meaning : Meaning) (what : Awaited) (psk : List ℕ) (s : Steps) (a : Ask) → IsAwaiting old psk s a → IsOpened old opened sealed inner meaning what psk s a → IsMeaning s a inner meaning
meant old opened sealed inner meaning what psk s a stands is = λ q transfer.
    let at = stands.1 in
    let before = at.awaits.before in
    is.means (awaited_epoch s a) before q (kept_by old opened opened.sent psk s (awaited_epoch s a) is.same at.keeps) transfer
    ∙ ap (λ (x : Ask). meaning_of (session_terms s).common.chunk (update_tag s) x (contents_of q (hash_len (session_terms s)) inner))
    (ap (λ (w : Awaited). awaited_by w before) (is.awaited ∙ ap (λ (x : ReqSession). awaited_in x.standing) is.same) ∙ sym at.awaits.is)

-- It takes the course that its meaning has, which goes with what was asked.
record HasMeaning (sealed inner psk : List ℕ) (s : Steps) (a : Ask) (meaning : Meaning) : Type 0 where
  waits : waiting_ask s ≡ Some a
  course : Takes psk s a sealed meaning
  fitting : FitsMeaning s a (drop 1 inner) meaning

has_meaning : (old opened : ReqSession) (sealed inner : List ℕ) (meaning : Meaning) (what : Awaited) (psk : List ℕ) (s : Steps) (a : Ask) → IsAwaiting old psk s a → IsOpened old opened sealed inner meaning what psk s a
    → HasMeaning sealed inner psk s a meaning
has_meaning old opened sealed inner meaning what psk s a stands is =
    let at = stands.1 in
    let waits = newest_waits a old.sent s at.newest in
    let past = ap is_past_handshake (sym at.stage) ∙ at.keeps.past in
    let m = meant old opened sealed inner meaning what psk s a stands is in
    record { waits = waits; course = takes psk s a sealed inner meaning waits past is.fault is.inner m; fitting = fits s a inner meaning is.short at.few m }

-- A verdict: what comes of its outcome.
done : (old opened : ReqSession) (sealed inner pad : List ℕ) (meaning : Meaning) (verdict : verdicts.Verdict) (what : Awaited) (psk : List ℕ) (s : Steps) (a : Ask) (new : ReqSession) (t : ResponseOutcome) → IsAwaiting old psk s a
    → IsOpened old opened sealed inner meaning what psk s a → meaning ≡ verdicts.Meaning.Done verdict
    → (Fits s a (drop 1 (answer_inner psk s a sealed)) verdict → waiting_ask s ≡ Some a → Keeps opened.kept psk s (awaited_epoch s a)
    → Follows psk s a sealed pad new t (course_of psk s a sealed (drop 1 (answer_inner psk s a sealed)) verdict))
    → IsToldOf old psk s a sealed pad new t
done old opened sealed inner pad meaning verdict what psk s a new t stands is e follows =
    let m = has_meaning old opened sealed inner meaning what psk s a stands is in
    let fit = subst (λ (x : List ℕ). FitsMeaning s a (drop 1 x) (verdicts.Meaning.Done verdict)) is.inner (subst (λ (x : Meaning). FitsMeaning s a (drop 1 inner) x) e m.fitting) in
    let course = subst (λ (x : Meaning). Takes psk s a sealed x) e m.course in
    told_by old psk s a sealed pad new t (course_of psk s a sealed (drop 1 (answer_inner psk s a sealed)) verdict) course
    (follows fit m.waits (kept_by old opened opened.sent psk s (awaited_epoch s a) is.same stands.1.keeps))

-- The chunk that is awaited: what it is asked as, and what was gathered before it.
record IsPiece (old opened : ReqSession) (sealed : List ℕ) (op : ℕ) (c : ChunkMessage) (psk : List ℕ) (s : Steps) (handle number : ℕ) (before : List ChunkMessage) : Type 0 where
  stands : IsAwaiting old psk s (AskChunk op handle number before)
  waits : waiting_ask s ≡ Some (AskChunk op handle number before)
  same_handle : (c.handle == handle) ≡ true
  same_number : (c.number == number) ≡ true
  under : AreUnderWay (session_terms s).common.to_requester.max handle number before
  gathered : keeping.StandsFor opened.gathered before
  max : opened.gathered.max ≡ (session_terms s).common.to_requester.max
  keeps : Keeps opened.kept psk s (response_epoch s)
  course : TakesCourse psk s (AskChunk op handle number before) sealed (chunk_course psk s op handle number before sealed c (collected (session_terms s).common.to_requester.max before c))

piece : (old opened : ReqSession) (sealed inner pad : List ℕ) (meaning : Meaning) (op : ℕ) (c : ChunkMessage) (what : Awaited) (psk : List ℕ) (s : Steps) (a : Ask) (new : ReqSession) (t : ResponseOutcome) → IsAwaiting old psk s a
    → IsOpened old opened sealed inner meaning what psk s a → meaning ≡ verdicts.Meaning.Piece op c
    → ((handle number : ℕ) (before : List ChunkMessage) → IsPiece old opened sealed op c psk s handle number before
    → Follows psk s (AskChunk op handle number before) sealed pad new t
    (chunk_course psk s op handle number before sealed c (collected (session_terms s).common.to_requester.max before c)))
    → IsToldOf old psk s a sealed pad new t
piece old opened sealed inner pad meaning op c what psk s a new t stands is e follows =
    let m = has_meaning old opened sealed inner meaning what psk s a stands is in
    let asked : IsAskedFor a op c = subst (λ (x : Meaning). FitsMeaning s a (drop 1 inner) x) e m.fitting in
    let b = AskChunk op asked.handle asked.number asked.before in
    let at = subst (λ (x : Ask). IsAwaiting old psk s x) asked.is stands in
    let waits = newest_waits b old.sent s at.1.newest in
    let taken = subst (λ (x : Ask). Takes psk s x sealed (verdicts.Meaning.Piece op c)) asked.is (subst (λ (x : Meaning). Takes psk s a sealed x) e m.course) in
    let most = (session_terms s).common.to_requester.max in
    let chunk = chunk_awaited most (awaited_in old.standing) old.gathered at.1.awaits.before asked.before op asked.handle asked.number (sym at.1.awaits.is) at.1.awaits.behind at.1.awaits.gathered in
    let gathered : opened.gathered ≡ old.gathered = ap (λ (x : ReqSession). x.gathered) is.same in
    let course = piece_takes psk s sealed op asked.handle asked.number asked.before c waits chunk.under.whole taken in
    subst (λ (x : Ask). IsToldOf old psk s x sealed pad new t) (sym asked.is)
    (told_by old psk s b sealed pad new t (chunk_course psk s op asked.handle asked.number asked.before sealed c (collected most asked.before c)) course
    (follows asked.handle asked.number asked.before (record {
      stands = at;
      waits = waits;
      same_handle = asked.same_handle;
      same_number = asked.same_number;
      under = chunk.under;
      gathered = subst (λ (x : keeping.Kept). keeping.StandsFor x asked.before) (sym gathered) chunk.gathered;
      max = ap (λ (x : keeping.Kept). x.max) gathered ∙ chunk.max;
      keeps = kept_by old opened opened.sent psk s (response_epoch s) is.same at.1.keeps;
      course = course;
    })))

pub returns-in-Done-clause-told : goal.returns-in-Done-clause-told
returns-in-Done-clause-told c = λ psk s a stands.
    let old = c.args.self.now in
    let opened = c.open_answer.new.self in
    let sealed = c.args.sealed.now in
    let pad = c.args.pad.now in
    let inner = c.as_slice.result.now in
    let most = c.as_slice.ensures.fits in
    let is : IsOpened old opened sealed inner (seen_meaning c.meaning.result) c.awaited.result psk s a = record {
      fault = c.in_default.ensures.fault psk s a stands;
      inner = c.as_slice.ensures.value ∙ c.in_default.ensures.inner psk s a stands;
      short = omega (arith, most, ap length c.as_slice.ensures.value);
      same = c.in_default.ensures.same;
      awaited = c.awaited.ensures;
      means = λ epoch before q keeps transfer. c.meaning.ensures psk s epoch before q keeps transfer;
    } in
    let verdict = verdict_of c.in-Done.verdict in
    let answer = drop 1 (answer_inner psk s a sealed) in
    done old opened sealed inner pad (seen_meaning c.meaning.result) verdict c.awaited.result psk s a c.led.new.self c.led.result stands is (ap seen_meaning c.in-Done.is)
    (λ fit waits keeps.
    let put = c.store_data-outcome.ensures s a answer fit in
    subst (λ (v : verdicts.Verdict). Follows psk s a sealed pad c.led.new.self c.led.result (course_of psk s a sealed answer v)) put
    (c.led.ensures.follows psk s a sealed answer keeps stands.1.stage waits stands.1.few (subst (λ (v : verdicts.Verdict). Fits s a answer v) (sym put) fit)))

pub returns-in-Some-clause-told : goal.returns-in-Some-clause-told
returns-in-Some-clause-told c = λ psk s a stands.
    let old = c.args.self.now in
    let opened = c.open_answer.new.self in
    let sealed = c.args.sealed.now in
    let pad = c.args.pad.now in
    let inner = c.as_slice.result.now in
    let most = c.as_slice.ensures.fits in
    let op = c.in-Piece.op in
    let chunk = chunk_message c.in-Piece.chunk in
    let is : IsOpened old opened sealed inner (seen_meaning c.meaning.result) c.awaited.result psk s a = record {
      fault = c.in_default.ensures.fault psk s a stands;
      inner = c.as_slice.ensures.value ∙ c.in_default.ensures.inner psk s a stands;
      short = omega (arith, most, ap length c.as_slice.ensures.value);
      same = c.in_default.ensures.same;
      awaited = c.awaited.ensures;
      means = λ epoch before q keeps transfer. c.meaning.ensures psk s epoch before q keeps transfer;
    } in
    piece old opened sealed inner pad (seen_meaning c.meaning.result) op chunk c.awaited.result psk s a c.led-in-Some.new.self c.led-in-Some.result stands is (ap seen_meaning c.in-Piece.is)
    (λ handle number before p.
    let got = c.in-Some.ensures psk s (response_epoch s) handle number before sealed p.keeps p.gathered p.max in
    subst (λ (x : Course). Follows psk s (AskChunk op handle number before) sealed pad c.led-in-Some.new.self c.led-in-Some.result x) (sym got.1)
    (c.led-in-Some.ensures.follows psk s (AskChunk op handle number before) sealed got.0 p.keeps p.stands.1.stage p.waits p.stands.1.few got.2))

pub returns-in-None-clause-told : goal.returns-in-None-clause-told
returns-in-None-clause-told c = λ psk s a stands.
    let old = c.args.self.now in
    let opened = c.open_answer.new.self in
    let sealed = c.args.sealed.now in
    let pad = c.args.pad.now in
    let inner = c.as_slice.result.now in
    let most = c.as_slice.ensures.fits in
    let op = c.in-Piece.op in
    let chunk = chunk_message c.in-Piece.chunk in
    let is : IsOpened old opened sealed inner (seen_meaning c.meaning.result) c.awaited.result psk s a = record {
      fault = c.in_default.ensures.fault psk s a stands;
      inner = c.as_slice.ensures.value ∙ c.in_default.ensures.inner psk s a stands;
      short = omega (arith, most, ap length c.as_slice.ensures.value);
      same = c.in_default.ensures.same;
      awaited = c.awaited.ensures;
      means = λ epoch before q keeps transfer. c.meaning.ensures psk s epoch before q keeps transfer;
    } in
    piece old opened sealed inner pad (seen_meaning c.meaning.result) op chunk c.awaited.result psk s a c.go_on.new.self c.go_on.result stands is (ap seen_meaning c.in-Piece.is)
    (λ handle number before p.
    let got = c.in-None.ensures psk s (response_epoch s) handle number before sealed p.keeps p.gathered p.max in
    subst (λ (x : Collection). Follows psk s (AskChunk op handle number before) sealed pad c.go_on.new.self c.go_on.result (chunk_course psk s op handle number before sealed chunk x)) got.0
    (c.go_on.ensures.follows psk s sealed handle number before chunk refl refl p.keeps p.stands.1.stage p.waits p.stands.1.few p.under got.1 got.2 p.same_handle p.same_number got.0))
