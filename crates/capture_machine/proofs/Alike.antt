-- When the dialogues of two walks over one capture are alike, and what keeps them so.
use Rattle.std.proofs.Common.{◌≡◌, ◌+◌, ◌%◌, ◌==◌, ◌&&◌, ◌||◌, ◌⊎◌, ℕ, List, [], ◌∷◌, refl, sym, ap, ◌∙◌, subst, length, drop, map, Bool, Option, Some, None, cond, inl, inr, arith}
use Rattle.std.specs.Prelude.{nat_lt}
use Rattle.std.proofs.lemmas.Option.{same_Some}
use Rattle.mctp_framing.specs.Gathering.{Gathered}
use Rattle.mctp_framing.specs.Gathering.Gathered.{Whole, More, Dropped}
use Rattle.requester_machine.specs.History.{History, outstanding}
use Rattle.requester_machine.specs.Setup.{ReqSetup}
use Rattle.responder_machine.specs.History as responder_history
use Rattle.responder_machine.specs.Setup.{RspSetup}
use Rattle.capture_machine.specs.Capture.{AsksBy, Copies, Begins}
use Rattle.capture_machine.specs.CapturedRequests.{Sends, without_owed}
use Rattle.capture_machine.specs.Difference.{Why, comes_why, goes_why, request_why, asks_out_of_turn, is_other_type}
use Rattle.capture_machine.specs.Difference.Why.{BadPacket, WrongTurn, BadRequest, BadRecord}
use Rattle.capture_machine.specs.Opening.{opens_asking}
use Rattle.requester_machine.specs.Named.{session_named}
use Rattle.capture_machine.specs.Rounds.{Dialogue, Round, new_dialogue, new_round, following_tag}
use Rattle.capture_machine.specs.SessionTable.{Row, accepted_in, accepted_between, request_by, request_between, is_of, is_new, rows_between, row_after, new_row, with_responder, with_requester, has_begun, with_one, is_named}
use Rattle.spdm_machine.specs.Packets.{body_type}
use Rattle.capture_machine.proofs.Agrees.{agree_empty}
use Rattle.capture_machine.proofs.AskersAlike.{AskersAlike}
use Rattle.capture_machine.proofs.AskersAlike.AskersAlike.{Settled}
use Rattle.capture_machine.proofs.AskersBegin.{dial}
use Rattle.capture_machine.proofs.AskersHear.{same_round, asks_step}
use Rattle.capture_machine.proofs.ShownAlike.{size_alike, accepts_alike, of_alike, steps_alike, opens_alike}

-- Both fetch a large response, or neither does.
pub data FetchesAlike : Option (List ℕ) → Option (List ℕ) → Type 0 where
  NoneFetched : FetchesAlike None None
  BothFetched : (w v : List ℕ) → FetchesAlike (Some w) (Some v)

-- The set-up, the round and the responder's history are one, and the requesters are alike.
pub record Alike (d e : Dialogue) : Type 0 where
  pub setup : d.setup ≡ e.setup
  pub round : d.round ≡ e.round
  pub responder : d.responder ≡ e.responder
  pub askers : AskersAlike d.round d.requester e.requester d.sending e.sending
  pub fetches : FetchesAlike d.fetching e.fetching

pub begins_alike : (q : ReqSetup) → Alike (new_dialogue q) (new_dialogue q)
begins_alike q = record { setup = refl; round = refl; responder = refl; askers = Settled [] [] agree_empty refl refl; fetches = NoneFetched }

-- ---- A request.

one_round : (d e : Dialogue) (r s : Round) → Alike d e → d.round ≡ Some r → e.round ≡ Some s → r ≡ s
one_round d e r s a is are = same_Some r s (sym is ∙ a.round ∙ are)

copied : (d e : Dialogue) (r s : Round) → Alike d e → d.round ≡ Some r → e.round ≡ Some s
    → Alike (record d { round = Some (record r { waiting = r.waiting + 1 }) }) (record e { round = Some (record s { waiting = s.waiting + 1 }) })
copied d e r s a is are =
    let P : Option Round → Type 0 = λ o. AskersAlike o d.requester e.requester d.sending e.sending in
    record {
      setup = a.setup;
      round = ap (λ (x : Round). Some (record x { waiting = x.waiting + 1 })) (one_round d e r s a is are);
      responder = a.responder;
      askers = same_round r (record r { waiting = r.waiting + 1 }) d.requester e.requester d.sending e.sending refl (subst P is a.askers);
      fetches = a.fetches;
    }

begun : (d e : Dialogue) (tag : ℕ) (body : List ℕ) (h g : History) (sending sends : Option (List ℕ)) → Alike d e → tag ≡ following_tag d.round → Sends d body h sending → Sends e body g sends
    → Alike (record d { requester = h; sending = sending; round = Some (new_round tag body) }) (record e { requester = g; sending = sends; round = Some (new_round tag body) })
begun d e tag body h g sending sends a is one two =
    let S : ReqSetup → Type 0 = λ q. Sends (dial q e.requester e.responder e.round e.sending e.fetching) body g sends in
    let T : Option Round → Type 0 = λ o. Sends (dial d.setup e.requester e.responder o e.sending e.fetching) body g sends in
    let there = subst T (sym a.round) (subst S (sym a.setup) two) in
    record {
      setup = a.setup;
      round = refl;
      responder = a.responder;
      askers = asks_step d.setup d.requester e.requester d.sending e.sending d.responder e.responder d.round d.fetching e.fetching tag body h g sending sends a.askers is one there;
      fetches = a.fetches;
    }

-- No copy has the next tag.
not_next : (d : Dialogue) (r : Round) (tag : ℕ) → d.round ≡ Some r → r.tag ≡ tag → tag ≡ following_tag d.round → ⊥
not_next d r tag is at next = let e : tag ≡ (r.tag + 1) % 8 = next ∙ ap following_tag is in omega arith

asks_one : (d e : Dialogue) (tag : ℕ) (body : List ℕ) (next other : Dialogue) → Alike d e → Copies d tag body next ⊎ Begins d tag body next → Copies e tag body other ⊎ Begins e tag body other → Alike next other
asks_one d e tag body next other a (inl c) (inl k) =
    let P : Dialogue → Type 0 = λ x. Alike x other in
    let Q : Dialogue → Type 0 = λ x. Alike (record d { round = Some (record c.0 { waiting = c.0.waiting + 1 }) }) x in
    subst P (sym c.4) (subst Q (sym k.4) (copied d e c.0 k.0 a c.1 k.1))
asks_one d e tag body next other a (inr c) (inr k) =
    let P : Dialogue → Type 0 = λ x. Alike x other in
    let Q : Dialogue → Type 0 = λ x. Alike (record d { requester = c.2.0; sending = c.2.1; round = Some (new_round tag body) }) x in
    subst P (sym c.2.3) (subst Q (sym k.2.3) (begun d e tag body c.2.0 k.2.0 c.2.1 k.2.1 a c.1 c.2.2 k.2.2))
asks_one d e tag body next other a (inl c) (inr k) = absurd (not_next d c.0 tag c.1 c.2 (k.1 ∙ ap following_tag (sym a.round)))
asks_one d e tag body next other a (inr c) (inl k) = absurd (not_next e k.0 tag k.1 k.2 (c.1 ∙ ap following_tag a.round))

pub asks_alike : (d e : Dialogue) (g : Gathered) (next other : Dialogue) → Alike d e → AsksBy d g next → AsksBy e g other → Alike next other
asks_alike d e (Whole route body) next other a c k = asks_one d e route.tag body next other a c.2 k.2
asks_alike d e More next other a c k =
    let P : Dialogue → Type 0 = λ x. Alike x other in
    let Q : Dialogue → Type 0 = λ x. Alike d x in
    subst P (sym c) (subst Q (sym k) a)
asks_alike d e (Dropped cause) next other a c k = absurd c

-- ---- Reasons.

pub comes_alike : (d e : Dialogue) (g : Gathered) → Alike d e → comes_why d g ≡ comes_why e g
comes_alike d e (Whole route body) a =
    let turn : asks_out_of_turn d route.owner route.tag body ≡ asks_out_of_turn e route.owner route.tag body =
    ap (λ (o : Option Round). asks_out_of_turn (record d { round = o }) route.owner route.tag body) a.round in
    let sealed : List ℕ = drop 1 body in
    let opens : opens_asking d.setup (session_named (without_owed d) sealed) sealed ≡ opens_asking e.setup (session_named (without_owed e) sealed) sealed =
    opens_alike d.setup (without_owed d) (without_owed e) sealed (steps_alike d e a.round a.askers) ∙ ap (λ (q : ReqSetup). opens_asking q (session_named (without_owed e) sealed) sealed) a.setup in
    let why : request_why d body ≡ request_why e body = ap (λ (b : Bool). cond (body_type body == 5 || b) BadRequest BadRecord) opens in
    ap (λ (b : Bool). Some (cond (is_other_type body) BadPacket (cond b WrongTurn (request_why d body)))) turn
    ∙ ap (λ (y : Why). Some (cond (is_other_type body) BadPacket (cond (asks_out_of_turn e route.owner route.tag body) WrongTurn y))) why
comes_alike d e More a = refl
comes_alike d e (Dropped cause) a = refl

pub goes_alike : (r : RspSetup) (d e : Dialogue) (g : Gathered) → Alike d e → goes_why r d g ≡ goes_why r e g
goes_alike r d e (Whole route body) a =
    ap (λ (o : Option Round). goes_why r (record d { round = o }) (Whole route body)) a.round
    ∙ ap (λ (h : responder_history.History). goes_why r (record d { round = e.round; responder = h }) (Whole route body)) a.responder
goes_alike r d e More a = refl
goes_alike r d e (Dropped cause) a = refl

-- ---- The table of sessions.

map_same : {A : Type 0} (f k : A → A) (xs : List A) → ((x : A) → f x ≡ k x) → map f xs ≡ map k xs
map_same f k [] same = refl
map_same f k (x ∷ xs) same = ap (λ y. y ∷ map f xs) (same x) ∙ ap (λ ys. k x ∷ ys) (map_same f k xs same)

accepted_alike : (d e next other : Dialogue) → Alike d e → Alike next other → accepted_between d next ≡ accepted_between e other
accepted_alike d e next other a b =
    ap (λ (n : ℕ). cond (nat_lt n (length next.requester)) (accepted_in next.requester) None) (size_alike d.round d.requester e.requester d.sending e.sending a.askers)
    ∙ ap (λ (n : ℕ). cond (nat_lt (length e.requester) n) (accepted_in next.requester) None) (size_alike next.round next.requester other.requester next.sending other.sending b.askers)
    ∙ ap (λ (o : Option ℕ). cond (nat_lt (length e.requester) (length other.requester)) o None) (accepts_alike next.round next.requester other.requester next.sending other.sending b.askers)

request_by_alike : (d e next other : Dialogue) (id : ℕ) (o : Option Round) → Alike d e → Alike next other → request_by d next id o ≡ request_by e other id o
request_by_alike d e next other id None a b = refl
request_by_alike d e next other id (Some round) a b =
    ap (λ (o : Option Round). cond (is_new o round && is_of id (outstanding next.requester)) (Some round.body) None) a.round
    ∙ ap (λ (x : Bool). cond (is_new e.round round && x) (Some round.body) None) (of_alike id next.round next.requester other.requester next.sending other.sending b.askers)

request_alike : (d e next other : Dialogue) (o : Option ℕ) → Alike d e → Alike next other → request_between d next o ≡ request_between e other o
request_alike d e next other None a b = refl
request_alike d e next other (Some id) a b = request_by_alike d e next other id next.round a b ∙ ap (request_by e other id) b.round

requester_alike : (d e next other : Dialogue) (row : Row) → Alike d e → Alike next other → with_requester d next row ≡ with_requester e other row
requester_alike d e next other row a b =
    ap (λ (o : Option ℕ). record row { asks_as = cond (is_named row.asks_as o) None row.asks_as; sent = with_one (request_between d next row.asks_as) row.sent }) (accepted_alike d e next other a b)
    ∙ ap (λ (o : Option (List ℕ)). record row { asks_as = cond (is_named row.asks_as (accepted_between e other)) None row.asks_as; sent = with_one o row.sent }) (request_alike d e next other row.asks_as a b)

responder_alike : (d e next other : Dialogue) (row : Row) → Alike d e → Alike next other → with_responder d next row ≡ with_responder e other row
responder_alike d e next other row a b =
    ap (λ (h : responder_history.History). with_responder (record d { responder = h }) next row) a.responder
    ∙ ap (λ (h : responder_history.History). with_responder (record d { responder = e.responder }) (record next { responder = h }) row) b.responder

row_alike : (d e next other : Dialogue) → Alike d e → Alike next other → (row : Row) → row_after d next row ≡ row_after e other row
row_alike d e next other a b row =
    ap (λ (q : ReqSetup). cond (row.eid == q.eid) (with_requester d next (with_responder d next row)) row) b.setup
    ∙ ap (λ (x : Row). cond (row.eid == other.setup.eid) x row)
    (ap (with_requester d next) (responder_alike d e next other row a b) ∙ requester_alike d e next other (with_responder e other row) a b)

begun_alike : (d e next other : Dialogue) → Alike d e → Alike next other → has_begun d next ≡ has_begun e other
begun_alike d e next other a b =
    ap (λ (h : responder_history.History). has_begun (record d { responder = h }) next) a.responder
    ∙ ap (λ (h : responder_history.History). has_begun (record d { responder = e.responder }) (record next { responder = h })) b.responder

new_alike : (d e next other : Dialogue) → Alike d e → Alike next other → new_row d next ≡ new_row e other
new_alike d e next other a b =
    ap (λ (o : Option ℕ). record (new_row d next) { asks_as = o }) (accepted_alike d e next other a b)
    ∙ ap (λ (h : responder_history.History). record (new_row d (record next { responder = h })) { asks_as = accepted_between e other }) b.responder
    ∙ ap (λ (q : ReqSetup). record (new_row d (record next { responder = other.responder; setup = q })) { asks_as = accepted_between e other }) b.setup

pub rows_alike : (d e next other : Dialogue) (rows : List Row) → Alike d e → Alike next other → rows_between d next rows ≡ rows_between e other rows
rows_alike d e next other rows a b =
    let all = map_same (row_after d next) (row_after e other) rows (row_alike d e next other a b) in
    ap (λ (x : Bool). cond x (new_row d next ∷ map (row_after d next) rows) (map (row_after d next) rows)) (begun_alike d e next other a b)
    ∙ ap (λ (xs : List Row). cond (has_begun e other) (new_row d next ∷ xs) xs) all
    ∙ ap (λ (x : Row). cond (has_begun e other) (x ∷ map (row_after e other) rows) (map (row_after e other) rows)) (new_alike d e next other a b)
