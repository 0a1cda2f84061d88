-- Which answers in a session give no chunk of the large one that is fetched there.
use Rattle.std.proofs.Common.{◌≡◌, ◌≤◌, ◌<◌, ◌==◌, ◌&&◌, ℕ, List, [], ◌∷◌, refl, sym, ap, ◌∙◌, subst, drop, length, arith, Bool, true, false, Option, Some, None, is_some, cond, inl, inr}
use Rattle.std.specs.Prelude.{nat_lt, not, slice_index}
use Rattle.std.proofs.lemmas.Bool.{false≢true}
use Rattle.mctp_framing.specs.Cutting.{RouteFields}
use Rattle.chunking.specs.Cutting.{chunk_count}
use Rattle.check_ends.proofs.InTurn.{AnswersInTurn}
use Rattle.check_responder.proofs.KeysKept.{LeadsBy, record_leads}
use Rattle.check_responder.specs.AnswerKeys.{is_taken_in, will_take}
use Rattle.check_laws.specs.AnswersShown.{answered_text}
use Rattle.check_laws.specs.RepliesShown.{responder_for}
use Rattle.check_fetched_laws.specs.AnswerTexts.{Holds}
use Rattle.check_fetched_laws.specs.JudgedFor.{session_with}
use Rattle.check_late_laws.specs.Fetching.{Fetching, IsFetchingOf, MayStand, answer_by}
use Rattle.requester_machine.specs.May.{IsSetUp}
use Rattle.requester_machine.specs.Setup.{ReqSetup}
use Rattle.responder_machine.specs.Answer.{Free}
use Rattle.responder_machine.specs.History.{Entry, History, ended_of}
use Rattle.responder_machine.specs.History.Entry.{Sealed}
use Rattle.responder_machine.specs.Place.{session_place}
use Rattle.responder_machine.specs.Records.{opened, reply_record}
use Rattle.responder_machine.specs.Refusal.{has_pending}
use Rattle.responder_machine.specs.Responder.Outcome.{Adds}
use Rattle.responder_machine.specs.Responder.{after, inner_reply, on_clear, on_record, repeats, sent_by, session_turn}
use Rattle.responder_machine.specs.Session.{Events, id_in_record, session_of}
use Rattle.responder_machine.specs.Setup.{RspSetup}
use Rattle.responder_machine.specs.Turn.{Turn}
use Rattle.responder_machine.specs.LargeMessages.{given_of, large_of, still_pending}
use Rattle.secured_record.specs.Format.{plain_text}
use Rattle.capture_machine.proofs.GetTells.{IsGet, session_get, transfer_of}
use Rattle.capture_machine.proofs.RecordAdds.{record_added}
use Rattle.capture_machine.specs.CapturedAnswers.{MayLeadTo}
use Rattle.capture_machine.specs.LargeAnswers.{takes_get, with_large}
use Rattle.capture_machine.specs.Opening.{turn_in}
use Rattle.capture_machine.specs.Rounds.{Round, no_draw}
use Rattle.world_machine.specs.Setup.{Configuration}
use Rattle.check_fetched_ends.proofs.HeldMessages.{IsHeld, held_in}
use Rattle.check_fetched_ends.proofs.InSessionPut.{pending_same}
use Rattle.check_fetched_ends.proofs.InSessionRecord.{id_is, unseen_stand}
use Rattle.check_fetched_laws.proofs.OthersLed.{IsSealed, sealed_in}
use Rattle.check_fetched_ends.proofs.RefusedTexts.{refused_is}
use Rattle.check_fetched_ends.proofs.TextsAlike.{taken_moved, text_moved}
use Rattle.check_fetched_ends.specs.InSession.{IsTextOf, is_chunk}
use Rattle.check_fetched_ends.specs.SessionOthers.{IsOtherAnswer, IsRefusing, LeadsWith}
use Rattle.check_fetched_ends.specs.declared.session_fetch.in_session.InSession.{InSession}

-- ---- An entry by which a chunk is given.

pending_with : (transfer given : ℕ) (o : Option (List ℕ)) (whole : List ℕ) → o ≡ Some whole → nat_lt given (chunk_count transfer whole) ≡ true → is_some (still_pending transfer given o) ≡ true
pending_with transfer given o whole is more =
    ap (λ (x : Option (List ℕ)). is_some (still_pending transfer given x)) is ∙ ap (λ (c : Bool). is_some (cond c (Some whole) None)) more

module _ (r : RspSetup) (g : History) (tag : ℕ) (body : List ℕ) (e : Entry) (type : (slice_index body 0 == 5) ≡ false) (may : MayLeadTo r g tag body (Adds e)) (gets : takes_get e ≡ true) where
  abbrev s : Events
  s = session_of (id_in_record (drop 1 body)) g

  -- What was pending, and the chunk.
  record IsGiven : Type 0 where
    pending : has_pending (session_place s) ≡ true
    chunk : is_chunk (answer_by e) ≡ true

  given : IsGiven
  unfolding MayLeadTo
  given =
      let m : List ℕ = drop 1 body in
      let f : Free = may.0 in
      let inner : List ℕ = opened r.psk s m in
      let t : Turn = session_turn r s inner f in
      let leads : on_record r g tag m f no_draw ≡ Adds e = sym (ap (λ (b : Bool). cond b (on_clear r g tag m f no_draw) (on_record r g tag m f no_draw)) type) ∙ may.3 in
      let same : Sealed tag m t (reply_record r.psk s t (inner_reply t) f.pad) no_draw ≡ e = record_added r f tag m e g leads in
      let get : IsGet (session_place s) (drop 1 inner) t = session_get r s inner f (ap takes_get same ∙ gets) in
      record {
        pending = pending_with (transfer_of (session_place s)) (given_of (session_place s).turns) (large_of (session_place s).turns) get.whole get.large get.more;
        chunk = sym (ap (λ (x : Entry). is_chunk (answer_by x)) same) ∙ ap is_chunk get.gives;
      }

  pub was_pending : has_pending (session_place (session_of (id_in_record (drop 1 body)) g)) ≡ true
  was_pending = given.pending

  pub is_given : is_chunk (answer_by e) ≡ true
  is_given = given.chunk

-- ---- A record that its session takes.

one_more : (e : Entry) (g : History) → e ∷ g ≡ g → ⊥
one_more e g is = (let long = ap (λ (l : History). length l) is in absurd (omega (arith, long)))

pub entry_takes : (r : RspSetup) (g : History) (tag : ℕ) (body : List ℕ) (e : Entry) → (slice_index body 0 == 5) ≡ false → MayLeadTo r g tag body (Adds e) → will_take r g body ≡ true
unfolding MayLeadTo
entry_takes r g tag body e type may =
    let m : List ℕ = drop 1 body in
    let f : Free = may.0 in
    let s : Events = session_of (id_in_record m) g in
    let leads : on_record r g tag m f no_draw ≡ Adds e = sym (ap (λ (b : Bool). cond b (on_clear r g tag m f no_draw) (on_record r g tag m f no_draw)) type) ∙ may.3 in
    let taken : is_taken_in r s (repeats (ended_of g) m) m ≡ true = by_leads r g tag m f e leads (record_leads r g tag m f no_draw) in
    ap (λ (b : Bool). not b && is_taken_in r s (repeats (ended_of g) m) m) type ∙ taken
  where
    by_leads : (r : RspSetup) (g : History) (tag : ℕ) (m : List ℕ) (f : Free) (e : Entry) → on_record r g tag m f no_draw ≡ Adds e
        → LeadsBy r g tag m f no_draw (session_of (id_in_record m) g) (is_taken_in r (session_of (id_in_record m) g) (repeats (ended_of g) m) m) (on_record r g tag m f no_draw)
        → is_taken_in r (session_of (id_in_record m) g) (repeats (ended_of g) m) m ≡ true
    by_leads r g tag m f e leads (inl stays) = absurd (one_more e g (sym (ap (after g) leads) ∙ stays.0))
    by_leads r g tag m f e leads (inr adds) = adds.1

module _ (w : Configuration) (q : ReqSetup) (older : List (List ℕ)) (f : Fetching) (route : RouteFields) (answer : List ℕ) (byte : w.responder.beat < 256) (limits : IsSetUp f.kept.setup) (own : IsFetchingOf w q older f) (turn : AnswersInTurn f.kept route answer)
    (fetched : InSession) (at : f.at ≡ Some fetched.id) (x : List ℕ) (stand : MayStand f x) (refuses : Bool) (type : (slice_index turn.round.body 0 == 5) ≡ false) where
  abbrev r : RspSetup
  r = responder_for w f.kept

  abbrev h : History
  h = f.kept.responder

  abbrev round : Round
  round = turn.round

  abbrev id : ℕ
  id = fetched.id

  abbrev Leads : List ℕ → Entry → Type 0
  Leads v e = LeadsWith r fetched.id f round answer v e

  -- There is none.
  never : ((v : List ℕ) (e : Entry) → Leads v e → ⊥) → IsOtherAnswer r fetched f round answer refuses
  never none = record { record_is = type; none = λ v e leads. absurd (none v e leads); refused = λ left v e leads small. absurd (none v e leads) }

  sealed_at : (v : List ℕ) (e : Entry) → Leads v e → IsSealed r (with_large (Some id) v h) round.tag round.body e
  sealed_at v e leads = sealed_in r (with_large (Some id) v h) round.tag round.body e type leads.leads

  -- The answer is in the clear.
  pub other_clear : (slice_index answer 0 == 5) ≡ true → IsOtherAnswer (responder_for w f.kept) fetched f turn.round answer refuses
  other_clear clear = never (λ v e leads. false≢true (ap (λ (y : Entry). slice_index (sent_by y) 0 == 5) (sym (sealed_at v e leads).is) ∙ ap (λ (l : List ℕ). slice_index l 0 == 5) leads.sends ∙ clear))

  -- It is shorter than a record.
  pub other_short : length (drop 1 answer) < 26 → IsOtherAnswer (responder_for w f.kept) fetched f turn.round answer refuses
  other_short short = never (λ v e leads.
      let sealed = sealed_at v e leads in
      let same : length sealed.reply ≡ length (drop 1 answer) = ap (λ (y : Entry). length (drop 1 (sent_by y))) (sym sealed.is) ∙ ap (λ (l : List ℕ). length (drop 1 l)) leads.sends in
      let long = sealed.long in absurd (omega (arith, same, long, short)))

  -- The session does not take the record.
  pub other_untaken : will_take (responder_for w f.kept) (with_large (Some fetched.id) x f.kept.responder) turn.round.body ≡ false → IsOtherAnswer (responder_for w f.kept) fetched f turn.round answer refuses
  other_untaken none = never (λ v e leads.
      let none_seen = unseen_stand w q older f route answer byte limits own turn id at type x stand in
      false≢true (sym none ∙ taken_moved r id h none_seen round.body v x (entry_takes r (with_large (Some id) v h) round.tag round.body e type leads.leads)))

  -- No chunk is left to be given.
  pub other_gone : has_pending (session_place (session_with fetched.id f.kept.responder x)) ≡ fetched.left → fetched.left ≡ false → IsOtherAnswer (responder_for w f.kept) fetched f turn.round answer refuses
  other_gone pending gone = record {
    record_is = type;
    none = λ v e leads. by_gets v e leads (takes_get e) refl;
    refused = λ left v e leads small. absurd (false≢true (sym gone ∙ left));
  }
    where
      by_gets : (v : List ℕ) (e : Entry) → Leads v e → (b : Bool) → takes_get e ≡ b → b ≡ false
      by_gets v e leads false is = refl
      by_gets v e leads true is =
          let was = was_pending r (with_large (Some id) v h) round.tag round.body e type leads.leads is in
          let here = ap (λ (n : ℕ). has_pending (session_place (session_of n (with_large (Some id) v h)))) (id_is w q older f route answer byte limits own turn id at type v leads.stands) in
          absurd (false≢true (sym (pending ∙ gone) ∙ pending_same w q older f route answer byte limits own turn id at type x v stand leads.stands ∙ sym here ∙ was))

  -- Its text holds no CHUNK_RESPONSE.
  pub other_text : (text : List ℕ) → IsTextOf (responder_for w f.kept) (with_large (Some fetched.id) x f.kept.responder) turn.round.body answer text → ((message : List ℕ) → Holds text message → is_chunk message ≡ true → ⊥) → IsRefusing text refuses
      → IsOtherAnswer (responder_for w f.kept) fetched f turn.round answer refuses
  other_text text read none refusing = record {
    record_is = type;
    none = λ v e leads. by_gets v e leads (takes_get e) refl;
    refused = λ left v e leads small. refused_is r (with_large (Some id) v h) round.tag round.body answer text e refuses type leads.leads leads.sends small (read_at v) refusing;
  }
    where
      read_at : (v : List ℕ) → IsTextOf r (with_large (Some id) v h) round.body answer text
      read_at v = text_moved r id h (unseen_stand w q older f route answer byte limits own turn id at type x stand) round.body x v answer text read

      by_gets : (v : List ℕ) (e : Entry) → Leads v e → (b : Bool) → takes_get e ≡ b → b ≡ false
      by_gets v e leads false is = refl
      by_gets v e leads true is =
          let g : History = with_large (Some id) v h in
          let s : Events = session_of (id_in_record (drop 1 round.body)) g in
          let held : IsHeld r g round.body e = held_in r g round.tag round.body e type leads.leads in
          let there = (read_at v).holds ∙ ap (λ (l : List ℕ). answered_text r s (turn_in r s (drop 1 round.body)) (drop 1 l)) (sym leads.sends) ∙ held.text in
          absurd (none (answer_by e) (held.pad, there ∙ ap (λ (l : List ℕ). plain_text l held.pad) (held.gives is)) (is_given r g round.tag round.body e type leads.leads is))
