-- An answer is the next chunk of some bytes that may stand: what it shows of them, and that the bytes which it fills have the
-- same chunk.
use Rattle.std.proofs.Common.{◌≡◌, ◌≢◌, ◌≤◌, ◌<◌, ◌+◌, ◌-◌, ◌*◌, ◌==◌, ◌++◌, ℕ, suc, List, ◌∷◌, refl, sym, ap, ◌∙◌, subst, drop, take, length, arith, Bool, true, false, Option, Some, None, cond}
use Rattle.std.proofs.lemmas.Bool.{false≢true}
use Rattle.std.proofs.lemmas.List.{length-take}
use Rattle.std.proofs.lemmas.Option.{same_Some}
use Rattle.std.specs.Prelude.{slice_index, unwrap_or}
use Rattle.check_ends.specs.declared.party.Party.{Party}
use Rattle.check_laws.specs.RepliesShown.{responder_for}
use Rattle.chunking.specs.Cutting.{chunk_end, nth_chunk, unit_of}
use Rattle.check_fetched_laws.proofs.ClearChunks.{next_is_given}
use Rattle.check_fetched_laws.specs.ClearChunks.{get_entry, get_message, get_response}
use Rattle.check_fetched_ends.proofs.Filled.{filled_begins, filled_long}
use Rattle.check_fetched_ends.proofs.HeldCut.{bytes_is, filled_is, size_is}
use Rattle.check_fetched_ends.proofs.HeldRounds.{IsAsked, asked, fetch_is, handle_is, place, response_is, transfer_is, type}
use Rattle.check_fetched_ends.specs.Held.{AreHeldFitting, IsHeldIn, IsResponse, chunk_held, filled_with, repeats_held}
use Rattle.check_fetched_ends.specs.InSession.{bytes_with, filled, size_with}
use Rattle.check_fetched_ends.specs.declared.clear_fetch.held.Held.{Held}
use Rattle.check_late_laws.proofs.Cuts.{same_begin, same_chunk}
use Rattle.check_late_laws.proofs.Gave.{Gave, bytes_begin, bytes_next, number_next, size_next}
use Rattle.check_late_laws.proofs.GoesWith.{told_whole}
use Rattle.check_late_laws.proofs.Stood.{Came, came}
use Rattle.check_late_laws.proofs.Stood.Came.{Other, Chunk}
use Rattle.check_late_laws.specs.Fetching.{Fetching, IsFetchingOf, MayStand, answer_by, bytes_given, bytes_in, bytes_of, number_given, number_of, size_in, size_of, size_told}
use Rattle.requester_machine.specs.Setup.{ReqSetup}
use Rattle.responder_machine.specs.History.{Entry, History}
use Rattle.responder_machine.specs.May.{place_for}
use Rattle.responder_machine.specs.Place.{Place, clear_place}
use Rattle.responder_machine.specs.Responder.Outcome.{Adds}
use Rattle.responder_machine.specs.Setup.{RspSetup}
use Rattle.spdm_basis.proofs.Bools.{suc_units}
use Rattle.spdm_grammar.specs.Message.RequestMessage.{GetVersion}
use Rattle.spdm_grammar.specs.Message.ResponseMessage.{ChunkResponse}
use Rattle.spdm_grammar.specs.Requests.{canonical_request}
use Rattle.spdm_grammar.specs.Responses.{canonical_response}
use Rattle.spdm_grammar.specs.declared.names.TheConstants.{MAX_MESSAGE_SIZE}
use Rattle.spdm_machine.specs.Bodies.{clear_body}
use Rattle.capture_machine.proofs.GetTells.{transfer_of}
use Rattle.capture_machine.proofs.PlacesServed.{place_type}
use Rattle.capture_machine.specs.CapturedAnswers.{MayLeadTo}
use Rattle.capture_machine.specs.LargeAnswers.{place_named, takes_get, with_large}
use Rattle.capture_machine.specs.Rounds.{Round}
use Rattle.capture_machine.specs.SessionTable.{Row}
use Rattle.world_machine.specs.Setup.{Configuration}

told_by : (b : Bool) (x l : ℕ) (o : Option ℕ) → cond b (Some x) o ≡ Some l → cond b x (unwrap_or o 0) ≡ l
told_by true x l o is = same_Some x l is
told_by false x l o is = ap (λ (o : Option ℕ). unwrap_or o 0) is

module _ (w : Configuration) (q : ReqSetup) (older : List (List ℕ)) (rows : List Row) (f : Fetching) (own : IsFetchingOf w q older f) (party : Party) (held : Held) (kept : IsHeldIn party held w q f rows) (round : Round) (is : f.kept.round ≡ Some round) (other : round.body ≢ clear_body (canonical_request GetVersion)) (anew : repeats_held held round.tag round.body ≡ false)
    (v : List ℕ) (stand : MayStand f v) where
  abbrev r : RspSetup
  r = responder_for w f.kept

  abbrev h : History
  h = f.kept.responder

  abbrev pub get : IsAsked r f round v
  get = asked w q older rows f own party held kept round is other anew v stand

  abbrev pub response : List ℕ
  response = get_response h v get.handle (number_of f)

  abbrev pub e : Entry
  e = get_entry round.tag get.handle (number_of f) response

  at_none : place_named round.body ≡ None
  at_none = place w q older rows f own party held kept round is other

  pub leads : MayLeadTo r (with_large (place_named round.body) v h) round.tag round.body (Adds e)
  leads =
      let there : MayLeadTo r (with_large None v h) round.tag (clear_body (get_message get.handle (number_of f))) (Adds e) = (next_is_given r h v round.tag get.handle (number_of f) (Adds e) get.next).1 refl in
      subst (λ (o : Option ℕ). MayLeadTo r (with_large o v h) round.tag round.body (Adds e)) (sym at_none) (subst (λ (b : List ℕ). MayLeadTo r (with_large None v h) round.tag b (Adds e)) (sym get.body) there)

  abbrev pub p : Place
  p = place_for (with_large (place_named round.body) v h) round.body

  pub p_transfer : transfer_of p ≡ held.transfer
  p_transfer =
      ap transfer_of (place_type (with_large (place_named round.body) v h) round.body true (type w q older rows f own party held kept round is other))
      ∙ ap (λ (o : Option ℕ). transfer_of (clear_place (with_large o v h))) at_none ∙ transfer_is w q older rows f own party held kept round is other v

  gave : Gave (place_named round.body) h v p e
  gave = by_came (came r h v round.tag round.body e (fetch_is w q older rows f own party held kept round is other v stand) leads)
    where
      by_came : Came r h v round.tag round.body e → Gave (place_named round.body) h v p e
      by_came (Other none stays) = absurd (false≢true (sym none))
      by_came (Chunk takes g) = g

  pub gave_there : Gave f.at h v p e
  gave_there = subst (λ (o : Option ℕ). Gave o h v p e) (at_none ∙ sym kept.at) gave

  -- What it shows.
  module _ (answer : List ℕ) (given : answer ≡ clear_body (get_response f.kept.responder v (asked w q older rows f own party held kept round is other anew v stand).handle (number_of f))) where
    abbrev pub m : List ℕ
    m = drop 1 answer

    pub message_is : answer_by e ≡ m
    message_is = ap (drop 1) (sym given)

    pub begins : bytes_with (number_of f) (bytes_of f) m ≡ take (chunk_end (transfer_of p) (number_of f)) v
    begins =
        ap (λ (l : List ℕ). bytes_with (number_of f) (bytes_of f) l) (sym message_is) ∙ sym (bytes_next f.at h v p e gave_there) ∙ bytes_begin f.at h v p e gave_there
        ∙ ap (λ (n : ℕ). take n v) (let x = suc_units (number_of f) (unit_of (transfer_of p)) in omega (arith, x))

    pub long : size_with (number_of f) (size_of f) m ≡ length v
    long =
        told_by (number_of f == 0) (size_in m) (length v) (size_of f)
        (ap (λ (l : List ℕ). cond (number_of f == 0) (Some (size_in l)) (size_of f)) (sym message_is) ∙ sym (size_next f.at h v p e gave_there) ∙ told_whole f.at h v p e gave_there f.place stand)

    few : length (bytes_with (number_of f) (bytes_of f) m) ≤ length v
    few = (let same = ap length begins in let cut = length-take (chunk_end (transfer_of p) (number_of f)) v in omega (arith, same, cut))

    pub fits : AreHeldFitting held m
    fits =
        let size : size_with held.answer.number held.answer.size m ≡ length v = size_is w q rows f party held kept m ∙ long in
        let low = (kept.lengths v).0 stand.0 in
        let bytes = ap length (bytes_is w q rows f party held kept m) in
        let most : length v ≤ MAX_MESSAGE_SIZE = stand.0.2 in record {
          least = omega (arith, size, low.0);
          most = omega (arith, size, low.1);
          few = omega (arith, size, most);
          within = omega (arith, size, bytes, few);
        }

    -- The bytes that it fills have the same chunk.
    abbrev u : List ℕ
    u = filled (number_of f) (size_of f) (bytes_of f) m

    within : length (bytes_with (number_of f) (bytes_of f) m) ≤ size_with (number_of f) (size_of f) m
    within = (let some = few in let size = long in omega (arith, some, size))

    u_long : length u ≡ length v
    u_long = filled_long (number_of f) (size_of f) (bytes_of f) m within ∙ long

    u_begins : take (chunk_end (transfer_of p) (number_of f)) u ≡ take (chunk_end (transfer_of p) (number_of f)) v
    u_begins =
        same_begin (chunk_end (transfer_of p) (number_of f)) v u u_long
        (subst (λ (l : List ℕ). take (length l) u ≡ l) begins (filled_begins (number_of f) (size_of f) (bytes_of f) m within))

    same : chunk_held held round.body (filled_with held answer) ≡ chunk_held held round.body v
    same =
        let hd : ℕ = slice_index round.body 4 in
        ap (chunk_held held round.body) (filled_is w q rows f party held kept m)
        ∙ ap (λ (n : ℕ). nth_chunk held.transfer hd u n) kept.answer.number
        ∙ ap (λ (t : ℕ). nth_chunk t hd u (number_of f)) (sym p_transfer)
        ∙ same_chunk (transfer_of p) hd (number_of f) u v u_long u_begins
        ∙ ap (λ (t : ℕ). nth_chunk t hd v (number_of f)) p_transfer
        ∙ ap (λ (n : ℕ). nth_chunk held.transfer hd v n) (sym kept.answer.number)

    pub is_response : IsResponse (chunk_held held round.body (filled_with held answer)) answer
    is_response =
        ap (λ c. clear_body (canonical_response (ChunkResponse c))) same
        ∙ ap clear_body (sym (response_is w q older rows f own party held kept round is other anew v stand)) ∙ sym given
