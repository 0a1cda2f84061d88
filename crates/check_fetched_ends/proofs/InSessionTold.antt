-- What is reported of a chunk of a large response that is fetched in a session.
use Rattle.std.proofs.Common.{◌≡◌, ◌≤◌, ◌<◌, ◌+◌, ◌-◌, ◌^◌, ◌==◌, ◌↔◌, ℕ, List, [], ◌∷◌, refl, sym, ap, ◌∙◌, subst, length, arith, Bool, true, false, Option, Some, Ok, cond}
use Rattle.std.specs.Prelude.{MatchBool}
use Rattle.std.proofs.lemmas.Bool.{false≢true}
use Rattle.mctp_framing.specs.Cutting.{RouteFields}
use Rattle.check_requester.proofs.FewMessages.{kept_messages}
use Rattle.check_ends.proofs.InTurn.{AnswersInTurn}
use Rattle.check_responder.specs.AnswerKeys.{StandFor, will_take}
use Rattle.check_responder.specs.JudgedResponder.{IsAnswerer}
use Rattle.check_requester.specs.JudgedRequester.{Carries, IsAsker}
use Rattle.check_requester.specs.HeardKept.{asks_upon}
use Rattle.check_ends.specs.declared.party.Party.{Party}
use Rattle.check_laws.specs.DropsShown.{IsShownAnswer}
use Rattle.check_laws.specs.Keeping.{Kept, restored}
use Rattle.check_laws.specs.RepliesShown.{responder_for}
use Rattle.check_laws.specs.Rows as rows_of
use Rattle.check_laws.specs.Rows.{StandsForRows}
use Rattle.check_laws.specs.declared.verdict.Seen.{Seen}
use Rattle.check_fetched_laws.specs.JudgedFor.{session_with}
use Rattle.check_fetched_laws.specs.LastShown.{IsShownEntry, IsShownWhole}
use Rattle.check_late_laws.specs.Fetching.{Fetching, IsFetchingOf, MayStand, answer_by, bytes_of, number_of, size_in, size_of}
use Rattle.check_late_laws.specs.FetchingShown.{ShowsChunk}
use Rattle.check_late_laws.specs.LargeAnswers.{StandsFor}
use Rattle.measurements.specs.Records.{is_missing}
use Rattle.requester_machine.specs.May.{IsSetUp}
use Rattle.requester_machine.specs.Setup.{ReqSetup}
use Rattle.responder_machine.specs.BoundLaws.{messages_of}
use Rattle.responder_machine.specs.History.{Entry, History}
use Rattle.responder_machine.specs.History.Entry.{Clear, Sealed, Queued, Ticked, Dropped}
use Rattle.responder_machine.specs.Place.{place_terms, session_place}
use Rattle.responder_machine.specs.Refusal.{has_pending}
use Rattle.responder_machine.specs.Session.{session_terms}
use Rattle.responder_machine.specs.Setup.{RspSetup, inventory_of}
use Rattle.capture_machine.specs.LargeAnswers.{is_unseen_in, seen, takes_get, with_large}
use Rattle.capture_machine.specs.SessionTable.{Row, number_from}
use Rattle.world_machine.specs.Setup.{Configuration}
use Rattle.check_fetched_ends.proofs.Filled.{stands_next}
use Rattle.check_fetched_ends.proofs.InSessionGone.{keys_next, pending_next, sizes_next}
use Rattle.check_fetched_ends.proofs.InSessionRecord.{behind_is, e, gets, goes, message_is, next, shows_chunk, unseen_none}
use Rattle.check_fetched_ends.specs.Fetched.{IsRepliedTo, rows_upon}
use Rattle.check_fetched_ends.specs.InSession.{AreLengths, AsksFor, IsFetchedIn, IsMeasuredBy, IsReadIn, bytes_with, filled, size_with}
use Rattle.check_fetched_ends.specs.declared.session_fetch.in_session.InSession.{InSession}
use Rattle.check_fetched_ends.specs.declared.upon.Upon.TheVariants as upon

-- As many messages came, whatever stands for a large response.
few_by : (at : Option ℕ) (v : List ℕ) (e : Entry) (g : History) (b : Bool) → messages_of (with_large at v g) ≡ messages_of g → messages_of (cond b (seen v e ∷ g) (e ∷ with_large at v g)) ≡ messages_of (e ∷ g)
few_by at v (Clear tag t d) g true same = refl
few_by at v (Sealed tag m t reply d) g true same = refl
few_by at v (Queued bytes) g true same = refl
few_by at v (Ticked seconds) g true same = refl
few_by at v (Dropped id) g true same = refl
few_by at v (Clear tag t d) g false same = ap (λ (n : ℕ). n + 1) same
few_by at v (Sealed tag m t reply d) g false same = ap (λ (n : ℕ). n + 1) same
few_by at v (Queued bytes) g false same = same
few_by at v (Ticked seconds) g false same = same
few_by at v (Dropped id) g false same = same

pub few_large : (at : Option ℕ) (v : List ℕ) (h : History) → messages_of (with_large at v h) ≡ messages_of h
few_large at v [] = refl
few_large at v (e ∷ h) = few_by at v e h (is_unseen_in at e) (few_large at v h)

abbrev first_of : History → Entry → Entry
first_of [] x = x
first_of (y ∷ l) x = y

module _ (w : Configuration) (q : ReqSetup) (older : List (List ℕ)) (rows : List Row) (f : Fetching) (route : RouteFields) (answer : List ℕ) (byte : w.responder.beat < 256) (limits : IsSetUp f.kept.setup) (own : IsFetchingOf w q older f) (turn : AnswersInTurn f.kept route answer)
    (party : Party) (fetched : InSession) (message whole : List ℕ) (read : IsReadIn party fetched w q f rows turn.round.body answer message whole) where
  abbrev k : Kept
  k = f.kept

  abbrev r : RspSetup
  r = responder_for w f.kept

  abbrev g : History
  g = with_large (Some fetched.id) whole f.kept.responder

  abbrev pub stand : MayStand f whole
  stand = subst (MayStand f) read.same read.kept.stands

  pub carries : Carries w q older k
  carries = (Some whole, own.all whole stand, own.kept)

  pub few : length older < 2 ^ 64 - 1 → messages_of g < 2 ^ 64 - 1
  few less = (let one = kept_messages w q older k carries in let same = few_large (Some fetched.id) whole f.kept.responder in omega (arith, one, same, less))

  pub judges : IsAnswerer party.answerer r g
  judges = subst (λ (l : List ℕ). IsAnswerer party.answerer r (with_large (Some fetched.id) l f.kept.responder)) read.same read.kept.judges

  -- What the calls leave.
  pub record AreBehind (new : Party) (newly : InSession) (table : List Seen) (next : Fetching) (entry : Entry) : Type 0 where
    pub asker : IsAsker new.asker q next.kept
    pub answerer : IsAnswerer new.answerer r (entry ∷ g)
    pub keys : StandFor new.keys r (entry ∷ g)
    pub number : new.number ≡ number_from 1 q.eid w.requesters
    pub places : rows_of.StandFor new.places (restored next.kept) (rows_upon f.kept next.kept rows)
    pub stands : StandsForRows table w (length older + 1) (rows_upon f.kept next.kept rows)
    pub came : StandsFor newly.answer next
    pub id : newly.id ≡ fetched.id
    pub least : newly.least ≡ fetched.least
    pub most : newly.most ≡ fetched.most
    pub op : newly.op ≡ fetched.op
    pub left : newly.left ≡ fetched.left

  number_is : fetched.answer.number ≡ number_of f
  number_is = read.kept.answer.number

  sized : fetched.answer.size ≡ size_of f
  sized = read.kept.answer.size

  bytes_is : fetched.answer.bytes ≡ bytes_of f
  bytes_is = read.kept.answer.bytes

  fills : whole ≡ filled (number_of f) (size_of f) (bytes_of f) message
  fills =
      read.fills ∙ ap (λ (n : ℕ). filled n fetched.answer.size fetched.answer.bytes message) number_is
      ∙ ap (λ (o : Option ℕ). filled (number_of f) o fetched.answer.bytes message) sized ∙ ap (λ (l : List ℕ). filled (number_of f) (size_of f) l message) bytes_is

  size_is : size_with fetched.answer.number fetched.answer.size message ≡ size_with (number_of f) (size_of f) message
  size_is = ap (λ (n : ℕ). size_with n fetched.answer.size message) number_is ∙ ap (λ (o : Option ℕ). size_with (number_of f) o message) sized

  with_is : bytes_with fetched.answer.number fetched.answer.bytes message ≡ bytes_with (number_of f) (bytes_of f) message
  with_is = ap (λ (n : ℕ). bytes_with n fetched.answer.bytes message) number_is ∙ ap (λ (l : List ℕ). bytes_with (number_of f) l message) bytes_is

  -- ---- A chunk, upon which the requester asks for the next one.

  module _ (shown : IsShownAnswer (responder_for w f.kept) (with_large (Some fetched.id) whole f.kept.responder) turn.round.tag turn.round.body answer) where
    abbrev at : f.at ≡ Some fetched.id
    at = read.kept.at

    abbrev will : will_take r g turn.round.body ≡ true
    will = read.read.taken

    abbrev pub added : Entry
    added = e w q older f route answer byte limits own turn fetched.id at read.record_is whole stand will read.sealed shown

    abbrev pub then_kept : Fetching
    then_kept = next w q older f route answer byte limits own turn fetched.id at read.record_is whole stand will read.sealed shown

    gets_it : takes_get added ≡ true
    gets_it = gets w q older f route answer byte limits own turn fetched.id at read.record_is whole stand will read.sealed shown read.text message read.holds.0 read.read.brief read.read.holds read.holds.1 read.chunk

    pub shows : ShowsChunk f then_kept answer
    shows = shows_chunk w q older f route answer byte limits own turn fetched.id at read.record_is whole stand will read.sealed shown read.text message read.holds.0 read.read.brief read.read.holds read.holds.1 read.chunk

    pub its_message : answer_by shows.entry ≡ message
    its_message =
        ap (λ (l : History). answer_by (first_of l added)) (sym shows.behind) ∙ message_is w q older f route answer byte limits own turn fetched.id at read.record_is whole stand will read.sealed shown read.text message read.holds.0 read.read.brief read.read.holds read.holds.1 read.chunk

    stands_then : MayStand then_kept whole
    stands_then =
        subst (MayStand then_kept) (sym fills)
        (stands_next f fetched.least fetched.most read.kept.lengths message
        (subst (λ (n : ℕ). length (bytes_with (number_of f) (bytes_of f) message) ≤ n) size_is (subst (λ (l : List ℕ). length l ≤ size_with fetched.answer.number fetched.answer.size message) with_is read.fits.within))
        (subst (λ (n : ℕ). fetched.least ≤ n) size_is read.fits.least) (subst (λ (n : ℕ). n ≤ fetched.most) size_is read.fits.most) then_kept refl
        (shows.bytes ∙ ap (λ (m : List ℕ). bytes_with (number_of f) (bytes_of f) m) its_message) (shows.told ∙ ap (λ (m : List ℕ). cond (number_of f == 0) (Some (size_in m)) (size_of f)) its_message))

    asks_then : AsksFor r fetched.id f.place fetched.op (added ∷ f.kept.responder)
    asks_then v fits =
        subst (λ (b : Bool). MatchBool b (IsShownEntry r f.kept.responder (seen v added)) (IsShownWhole r (Some fetched.id) v f.kept.responder) ↔ IsMeasuredBy r fetched.op v)
        (sym (unseen_none w q older f route answer byte limits own turn fetched.id at read.record_is whole stand will read.sealed shown)) (read.kept.asks v fits)

    behind : with_large (Some fetched.id) whole (added ∷ f.kept.responder) ≡ added ∷ g
    behind = behind_is w q older f route answer byte limits own turn fetched.id at read.record_is whole stand will read.sealed shown

    pending_before : has_pending (session_place (session_with fetched.id f.kept.responder whole)) ≡ true
    pending_before = subst (λ (l : List ℕ). has_pending (session_place (session_with fetched.id f.kept.responder l)) ≡ true) read.same (read.kept.pending ∙ read.left)

    sizes_before : (session_terms (session_with fetched.id f.kept.responder whole)).common ≡ (place_terms f.place).common
    sizes_before = subst (λ (l : List ℕ). (session_terms (session_with fetched.id f.kept.responder l)).common ≡ (place_terms f.place).common) read.same (read.kept.sizes read.left)

    kept_then : (new : Party) (newly : InSession) (table : List Seen) → AreBehind new newly table then_kept added → IsFetchedIn new newly w q then_kept (rows_upon f.kept then_kept.kept rows)
    kept_then new newly table are = record {
      beside = record {
        asker = are.asker;
        keys = keys_next w q older f route answer byte limits own turn fetched.id at read.record_is whole stand will read.sealed shown new.keys are.keys;
        number = are.number;
        places = are.places;
      };
      at = at ∙ ap Some (sym are.id);
      answer = are.came;
      lengths = subst (λ (n : ℕ). AreLengths f.place n newly.most) (sym are.least) (subst (AreLengths f.place fetched.least) (sym are.most) read.kept.lengths);
      asks = subst (λ (n : ℕ). AsksFor r n f.place newly.op (added ∷ f.kept.responder)) (sym are.id) (subst (λ (n : ℕ). AsksFor r fetched.id f.place n (added ∷ f.kept.responder)) (sym are.op) asks_then);
      found = subst (λ (n : ℕ). is_missing n (inventory_of r) ≡ false) (sym are.op) read.kept.found;
      whole = whole;
      stands = stands_then;
      judges = subst (λ (n : ℕ). IsAnswerer new.answerer r (with_large (Some n) whole (added ∷ f.kept.responder))) (sym are.id) (subst (IsAnswerer new.answerer r) (sym behind) are.answerer);
      pending = subst (λ (n : ℕ). has_pending (session_place (session_with n (added ∷ f.kept.responder) whole)) ≡ true) (sym are.id)
          (pending_next w q older f route answer byte limits own turn fetched.id at read.record_is whole stand will read.sealed shown gets_it) ∙ sym (are.left ∙ read.left);
      uncounted = λ none live. absurd (false≢true (sym none ∙ are.left ∙ read.left));
      sizes = λ some. subst (λ (n : ℕ). (session_terms (session_with n (added ∷ f.kept.responder) whole)).common ≡ (place_terms f.place).common) (sym are.id)
          (sizes_next w q older f route answer byte limits own turn fetched.id at read.record_is whole stand will read.sealed shown gets_it sizes_before);
      room = read.kept.room;
      anew = read.kept.anew;
    }

    pub fetched_on : (new : Party) (newly : InSession) (table : List Seen) → AreBehind new newly table then_kept added → asks_upon k route.tag answer ≡ true
        → IsRepliedTo w q older rows f route answer (Ok upon.Fetched) new (IsFetchedIn new newly w q) table
    fetched_on new newly table are asks =
        (then_kept, goes w q older f route answer byte limits own turn fetched.id at read.record_is whole stand will read.sealed shown asks, kept_then new newly table are, are.stands)
