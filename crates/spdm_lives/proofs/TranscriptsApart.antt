-- The sessions of one end in two lives have different T1, since their contexts hold draws of different lives.
use Rattle.std.proofs.Common.{◌≡◌, ℕ, ◌≤◌, ◌+◌, List, [], ◌∷◌, drop, refl, sym, ap, ◌∙◌, inl, inr, arith}
use Rattle.requester_machine.specs.Requesting.{Requesting, new_requesting}
use Rattle.requester_machine.specs.Setup.{ReqSetup, ReqEnd}
use Rattle.spdm_agreement.proofs.Messages.Beginnings.{context_number, first_hash, front_draw, parts_told, sound, summary_size}
use Rattle.spdm_agreement.proofs.Worlds.Starts.{new_apart}
use Rattle.spdm_agreement.specs.Configured.{IsConfigured}
use Rattle.spdm_agreement.specs.Reading.{First}
use Rattle.spdm_grammar.specs.Requests.{request_in}
use Rattle.spdm_lives.proofs.LifeKept.{IsLife}
use Rattle.spdm_lives.proofs.LifeSteps.{always}
use Rattle.spdm_lives.proofs.RequesterDraws.{accepted_within, draw_in, has_accepted}
use Rattle.spdm_lives.proofs.ResponderDraws.{begun_within, has_begun}
use Rattle.spdm_lives.specs.Apart.{AreApart, BegunApart, AcceptedApart, IsApart}
use Rattle.spdm_lives.specs.Laws.{NoTranscriptTwice}
use Rattle.spdm_lives.specs.Lives.{Life, AreLives, GoesOn, RequestersGoOn, world_of}
use Rattle.spdm_machine.proofs.Members.{IsIn, in_contained, map_in}
use Rattle.spdm_machine.specs.Packets.{wear_limit}
use Rattle.spdm_machine.specs.Terms.{terms_of, hash_len}
use Rattle.transcript.specs.Transcripts.{Negotiation, without_verify}
use Rattle.world_machine.specs.Setup.{WorldSetup}

-- ---- One life is later than another.

pub record IsLater (before later : WorldSetup) : Type 0 where
  pub part : later.responder.part ≡ before.responder.part
  pub responder : before.responder.first + wear_limit ≤ later.responder.first
  pub requester : (e : ReqEnd) → IsIn later.requesters e → (f : ReqEnd) × IsIn before.requesters f × (e.setup ≡ f.setup) × (f.first + wear_limit ≤ e.first)

pub requester_before : (earlier later : List ReqEnd) → RequestersGoOn earlier later → (e : ReqEnd) → IsIn later e → (f : ReqEnd) × IsIn earlier f × (e.setup ≡ f.setup) × (f.first + wear_limit ≤ e.first)
requester_before [] [] go e m = absurd m
requester_before [] (y ∷ later) go e m = absurd go
requester_before (x ∷ earlier) [] go e m = absurd go
requester_before (x ∷ earlier) (y ∷ later) go e m = elim m [
  | inl is ↦ (x, inl refl, ap (λ (z : ReqEnd). z.setup) is ∙ go.0, (let first = ap (λ (z : ReqEnd). z.first) is in let behind = go.1 in omega arith))
  | inr l ↦ (let f = requester_before earlier later go.2 e l in (f.0, inr f.1, f.2, f.3))
]

pub is_later : (before later : WorldSetup) → GoesOn before later → IsLater before later
is_later before later go = record { part = go.part; responder = go.responder; requester = requester_before before.requesters later.requesters go.requesters }

later_still : (x y z : WorldSetup) → IsLater x y → IsLater y z → IsLater x z
later_still x y z a b = record {
  part = b.part ∙ a.part;
  responder = (let l = a.responder in let m = b.responder in omega arith);
  requester = λ e i. (let f = b.requester e i in let g = a.requester f.0 f.1 in (g.0, g.1, f.2 ∙ g.2, (let l = f.3 in let m = g.3 in omega arith)));
}

-- It is later than all of these.
abbrev pub IsLast : Life → List Life → Type 0
IsLast life [] = Unit {0}
IsLast life (before ∷ older) = IsConfigured before.setup × IsLater before.setup life.setup × IsLast life older

last_of : (life before : Life) (older : List Life) → IsLater before.setup life.setup → IsLast before older → IsLast life older
last_of life before [] l k = tt
last_of life before (x ∷ older) l k = (k.0, later_still x.setup before.setup life.setup k.1 l, last_of life before older l k.2)

pub configured : (life : Life) (earlier : List Life) → AreLives (life ∷ earlier) → IsConfigured life.setup
configured life [] are = are
configured life (before ∷ older) are = are.0

pub lives_before : (life : Life) (earlier : List Life) → AreLives (life ∷ earlier) → AreLives earlier
lives_before life [] are = tt
lives_before life (before ∷ older) are = are.2

pub is_last : (life : Life) (earlier : List Life) → AreLives (life ∷ earlier) → IsLast life earlier
is_last life [] are = tt
is_last life (before ∷ older) are =
    let l = is_later before.setup life.setup are.1 in
    (configured before older are.2, l, last_of life before older l (is_last before older are.2))

-- ---- The draw of a life stands in T1.

abbrev front_at : Negotiation → (exchange front : List ℕ) → ℕ
front_at n exchange front = context_number (terms_of n).choice.hash (drop (12 + summary_size (hash_len (terms_of n)) (request_in (hash_len (terms_of n)) exchange)) front)

front_told : (s t : First) → s.negotiation ≡ t.negotiation → s.exchange ≡ t.exchange → without_verify (first_hash s) s.answer ≡ without_verify (first_hash t) t.answer → front_draw s ≡ front_draw t
front_told s t n e f =
    ap (λ (x : Negotiation). front_at x s.exchange (without_verify (first_hash s) s.answer)) n ∙ ap (λ (x : List ℕ). front_at t.negotiation x (without_verify (first_hash s) s.answer)) e ∙ ap (front_at t.negotiation t.exchange) f

draw_told : (s t : First) → s.negotiation ≡ t.negotiation → s.exchange ≡ t.exchange → draw_in s.negotiation s.exchange ≡ draw_in t.negotiation t.exchange
draw_told s t n e = ap (λ (x : Negotiation). draw_in x s.exchange) n ∙ ap (draw_in t.negotiation) e

module _ (life other : Life) (c : IsConfigured life.setup) (d : IsConfigured other.setup) (l : IsLater other.setup life.setup) where
  own : IsLife life.setup (world_of life)
  own = always life.setup c life.entries

  theirs : IsLife other.setup (world_of other)
  theirs = always other.setup d other.entries

  begun_apart : BegunApart life other
  begun_apart x y m n t1 a b =
      let xs = own.serves x (in_contained (world_of life).responder.connections x m) in
      let ys = theirs.serves y (in_contained (world_of other).responder.connections y n) in
      let t = has_begun x.setup x.history t1 a in
      let s = has_begun y.setup y.history t1 b in
      let tw = begun_within x.setup (world_of life).responder.first xs.setup x.history xs.made xs.life t.0 t.1 in
      let sw = begun_within y.setup (world_of other).responder.first ys.setup y.history ys.made ys.life s.0 s.1 in
      let ts = sound x.setup.psk t.0 tw.sound in
      let ss = sound y.setup.psk s.0 sw.sound in
      let parts = parts_told t.0 s.0 (without_verify (first_hash t.0) t.0.answer) (without_verify (first_hash s.0) s.0.answer) ts.negotiated ss.negotiated ts.exchange ss.exchange (t.2 ∙ sym s.2) in
      let same = front_told t.0 s.0 parts.0 parts.1 parts.2 in
      let low = tw.low in
      let high = sw.high in
      let mine = own.first in
      let first = theirs.first in
      let behind = l.responder in
      omega arith

  -- Two requesters of one endpoint are set up alike, and one goes on after the other.
  pub first_behind : (a b : Requesting) → IsIn (world_of life).requesters a → IsIn (world_of other).requesters b → a.setup.eid ≡ b.setup.eid → (a.setup ≡ b.setup) × (b.first + wear_limit ≤ a.first)
  first_behind a b m n same =
      let e = own.end_of a m in
      let f = l.requester e.0 e.1 in
      let g = theirs.end_of b n in
      let eid : f.0.setup.eid ≡ g.0.setup.eid = sym (ap (λ (q : ReqSetup). q.eid) f.2) ∙ sym (ap (λ (q : ReqSetup). q.eid) e.2) ∙ same ∙ ap (λ (q : ReqSetup). q.eid) g.2 in
      let one : new_requesting f.0 ≡ new_requesting g.0 = (new_apart other.setup d).eids (new_requesting f.0) (new_requesting g.0) (map_in new_requesting other.setup.requesters f.0 f.1) (map_in new_requesting other.setup.requesters g.0 g.1) eid in
      let firsts : f.0.first ≡ g.0.first = ap (λ (x : Requesting). x.first) one in
      let behind = f.3 in
      let mine = e.3 in
      let their = g.3 in
      (e.2 ∙ f.2 ∙ ap (λ (x : Requesting). x.setup) one ∙ sym g.2, omega arith)

  accepted_apart : AcceptedApart life other
  accepted_apart a b m n same t1 x y =
      let am = in_contained (world_of life).requesters a m in
      let bn = in_contained (world_of other).requesters b n in
      let mine = own.asks a am in
      let their = theirs.asks b bn in
      let t = has_accepted a.setup a.history t1 x in
      let s = has_accepted b.setup b.history t1 y in
      let tw = accepted_within a.setup a.first mine.setup a.history mine.made mine.life t.0 t.1 in
      let sw = accepted_within b.setup b.first their.setup b.history their.made their.life s.0 s.1 in
      let parts = parts_told t.0 s.0 (without_verify (first_hash t.0) t.0.answer) (without_verify (first_hash s.0) s.0.answer) tw.negotiated sw.negotiated tw.exchange sw.exchange (t.2 ∙ sym s.2) in
      let draws = draw_told t.0 s.0 parts.0 parts.1 in
      let low = tw.low in
      let high = sw.high in
      let behind = (first_behind a b am bn same).1 in
      omega arith

  pub are_apart : AreApart life other
  are_apart = record { begun = begun_apart; accepted = accepted_apart }

-- ---- All lives.

pub apart_from_all : (life : Life) (earlier : List Life) → IsConfigured life.setup → IsLast life earlier → IsApart life earlier
apart_from_all life [] c k = tt
apart_from_all life (before ∷ older) c k = (are_apart life before c k.0 k.1, apart_from_all life older c k.2)

pub no_transcript_twice : NoTranscriptTwice
no_transcript_twice [] are = tt
no_transcript_twice (life ∷ earlier) are = (apart_from_all life earlier (configured life earlier are) (is_last life earlier are), no_transcript_twice earlier (lives_before life earlier are))
