-- The sessions of a responder in two of its lives have different T1, since their contexts hold draws of different lives.
use Rattle.std.proofs.Common.{◌≡◌, ◌∙◌, ◌≤◌, ◌+◌, ℕ, List, [], ◌∷◌, drop, ap, arith, sym}
use Rattle.responder_lives.proofs.Restarted.{ends}
use Rattle.responder_lives.specs.Laws.{AreApart, BegunApart, IsApart, RestartedApart}
use Rattle.responder_lives.specs.Restarts.{Again, AreRestarts, first_of, world_after_lives}
use Rattle.spdm_agreement.proofs.Messages.Beginnings.{context_number, first_hash, front_draw, parts_told, sound, summary_size}
use Rattle.spdm_agreement.specs.Reading.{First}
use Rattle.spdm_grammar.specs.Requests.{request_in}
use Rattle.spdm_lives.proofs.ResponderDraws.{begun_within, has_begun}
use Rattle.spdm_machine.proofs.Members.{in_contained}
use Rattle.spdm_machine.specs.Packets.{wear_limit}
use Rattle.spdm_machine.specs.Terms.{hash_len, terms_of}
use Rattle.transcript.specs.Transcripts.{Negotiation, without_verify}
use Rattle.world_machine.specs.Happenings.{Entry}
use Rattle.world_machine.specs.Setup.{WorldSetup}

abbrev front_at : Negotiation → (exchange front : List ℕ) → ℕ
front_at n exchange front = context_number (terms_of n).choice.hash (drop (12 + summary_size (hash_len (terms_of n)) (request_in (hash_len (terms_of n)) exchange)) front)

-- The draw of a life stands in T1.
front_told : (s t : First) → s.negotiation ≡ t.negotiation → s.exchange ≡ t.exchange → without_verify (first_hash s) s.answer ≡ without_verify (first_hash t) t.answer → front_draw s ≡ front_draw t
front_told s t n e f =
    ap (λ (x : Negotiation). front_at x s.exchange (without_verify (first_hash s) s.answer)) n ∙ ap (λ (x : List ℕ). front_at t.negotiation x (without_verify (first_hash s) s.answer)) e ∙ ap (front_at t.negotiation t.exchange) f

module _ (w : WorldSetup) (entries : List Entry) where
  begun_apart : (lives others : List Again) → AreRestarts w lives → AreRestarts w others → first_of w others + wear_limit ≤ first_of w lives → BegunApart (world_after_lives w entries lives) (world_after_lives w entries others)
  begun_apart lives others are were behind x y m n t1 a b =
      let own = ends w entries lives are in
      let theirs = ends w entries others were in
      let xs = own.serves x (in_contained (world_after_lives w entries lives).responder.connections x m) in
      let ys = theirs.serves y (in_contained (world_after_lives w entries others).responder.connections y n) in
      let t = has_begun x.setup x.history t1 a in
      let s = has_begun y.setup y.history t1 b in
      let tw = begun_within x.setup (world_after_lives w entries lives).responder.first xs.setup x.history xs.made xs.life t.0 t.1 in
      let sw = begun_within y.setup (world_after_lives w entries others).responder.first ys.setup y.history ys.made ys.life s.0 s.1 in
      let ts = sound x.setup.psk t.0 tw.sound in
      let ss = sound y.setup.psk s.0 sw.sound in
      let parts = parts_told t.0 s.0 (without_verify (first_hash t.0) t.0.answer) (without_verify (first_hash s.0) s.0.answer) ts.negotiated ss.negotiated ts.exchange ss.exchange (t.2 ∙ sym s.2) in
      let same = front_told t.0 s.0 parts.0 parts.1 parts.2 in
      let low = tw.low in
      let high = sw.high in
      let mine = own.first in
      let first = theirs.first in
      omega (arith, same, low, high, mine, first, behind)

  -- A life is behind each of those before it.
  apart_from : (lives others : List Again) → AreRestarts w lives → AreRestarts w others → first_of w others + wear_limit ≤ first_of w lives → IsApart w entries (world_after_lives w entries lives) others
  apart_from lives [] are were behind = begun_apart lives [] are were behind
  apart_from lives (life ∷ earlier) are were behind =
      let before = were.0 in
      (begun_apart lives (life ∷ earlier) are were behind, apart_from lives earlier are were.2 (omega (arith, behind, before)))

  all_apart : (lives : List Again) → AreRestarts w lives → AreApart w entries lives
  all_apart [] are = tt
  all_apart (life ∷ earlier) are = (apart_from (life ∷ earlier) earlier are are.2 are.0, all_apart earlier are.2)

pub restarted_apart : RestartedApart
restarted_apart w entries lives are = all_apart w entries lives are
