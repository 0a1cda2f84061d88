-- Every run keeps the invariant, and what follows of it.
use Rattle.std.proofs.Common.{◌≡◌, ◌≢◌, ℕ, ◌<◌, List, [], ◌∷◌, length, Option, Some, None, true, refl, sym, ap, ◌∙◌, subst, inl, inr, arith, drop, ap₂}
use Rattle.key_schedule.specs.Purpose.{Purpose, Kind, is_record}
use Rattle.key_schedule.specs.Purpose.Kind.{Verify, HandshakeRecord, ApplicationRecord}
use Rattle.key_schedule.specs.declared.direction.Direction.{Direction}
use Rattle.key_schedule.specs.declared.direction.Direction.TheVariants.{Request, Response}
use Rattle.spdm_machine.specs.TagLog.{Log}
use Rattle.spdm_machine.specs.TagLog.Act.{Made}
use Rattle.world_machine.specs.Chance.{NoChance}
use Rattle.spdm_agreement.specs.Claims.{IsReached}
use Rattle.spdm_agreement.specs.Marks.{Asked, Served, Text, Exchange, IsAccepted, IsOpened, HasBegun, HasFinished, HasOpened, HasReplied, finishing, asked_open, handshake, served_open, requests, outstanding, heard, taken, firsts, request_number, reply_number, request_purpose, reply_purpose, request_input, reply_input}
use Rattle.spdm_agreement.specs.Moves.{State, Move, IsPassed, IsFinish, request_shake, response_shake, response_verify, after, IsLegal, IsRun, nothing_yet}
use Rattle.spdm_agreement.specs.Moves.Move.{Start, Begin, Accept, Finish, Refuse, Open, Say, Take, Hear, Check, Foreign}
use Rattle.spdm_agreement.specs.Reading.{First, Reading, covered}
use Rattle.spdm_agreement.proofs.Moves.Earlier.{IsEarlier, earlier_self, earlier_tail, same_place, same_length, same_count, longer}
use Rattle.spdm_agreement.proofs.Moves.Invariant.{IsBacked, IsBackedAs, Invariant, Talks, IsAhead, WasSaid}
use Rattle.spdm_agreement.proofs.Moves.EachMove.{passed_made, same_number, same_text, check_keeps, start_keeps, begin_keeps, accept_keeps, finish_keeps, refuse_keeps, open_keeps, say_keeps, take_keeps, hear_keeps}
use Rattle.spdm_machine.proofs.Members.{none_some, some_same}

-- A record, so that antt finds the state that a lemma speaks of.
pub record IsGood (r : Reading) (s : State) : Type 0 where
  pub holds : NoChance s.log → Invariant r s.asked s.served s.log

-- What a tag that passed says.
passed : (r : Reading) (s : State) → Invariant r s.asked s.served s.log → NoChance s.log → (p : Purpose) (i : List ℕ) → p.psk ≡ r.psk → IsPassed p i s.log → IsBacked r s.asked s.served p i
passed r s k n p i own m = k.backed p i (passed_made s.log p i n m) own

-- A record that opens in the handshake is the PSK_FINISH of the requester.
pub shaken : (r : Reading) (s : State) → Invariant r s.asked s.served s.log → NoChance s.log → (t : First) (number : ℕ) (b : Text) → HasBegun s.served t → IsPassed (request_shake r t) (covered r t (request_shake r t) number b) s.log → IsAccepted s.asked t × IsFinish r t number b
shaken r s k n t number b begun m =
    let back = passed r s k n (request_shake r t) (covered r t (request_shake r t) number b) refl m in
    let same : back.first ≡ t = r.transcript_tells back.first t (k.asks.well back.first back.story) (k.serves.well t begun) back.is in
    let covers : covered r t (request_shake r t) number b ≡ covered r t (request_shake r t) 0 (r.finish t) = back.covers ∙ ap (λ (x : First). covered r x (request_shake r x) 0 (r.finish x)) same in
    (subst (λ (x : First). IsAccepted s.asked x) same back.story, (same_number r t t (request_shake r t) (request_shake r t) number 0 b (r.finish t) covers, same_text r t t (request_shake r t) (request_shake r t) number 0 b (r.finish t) refl refl covers))

-- A record that opens at the requester in the handshake, and holds a PSK_FINISH_RSP, is that of the responder.
pub answered : (r : Reading) (s : State) → Invariant r s.asked s.served s.log → NoChance s.log → (t : First) (b : Text) → IsAccepted s.asked t → r.opens b ≡ true → IsPassed (response_shake r t) (covered r t (response_shake r t) 0 b) s.log → HasFinished s.served t × (b ≡ r.finish_answer t)
answered r s k n t b accepted opens m =
    let back = passed r s k n (response_shake r t) (covered r t (response_shake r t) 0 b) refl m in
    let same : back.first ≡ t = r.transcript_tells back.first t (k.serves.well back.first (k.serves.replied back.first back.reply back.story)) (k.asks.well t accepted) back.is in
    let covers : covered r t (response_shake r t) 0 b ≡ covered r t (response_shake r t) 0 back.reply = back.covers ∙ ap (λ (x : First). covered r x (response_shake r x) 0 back.reply) same in
    let text : b ≡ back.reply = same_text r t t (response_shake r t) (response_shake r t) 0 0 b back.reply refl refl covers in
    k.serves.answers t b (subst (λ (x : First). HasReplied r s.served x b) same (subst (λ (x : Text). HasReplied r s.served back.first x) (sym text) back.story)) opens

-- The requester accepts what the responder began.
pub begun_first : (r : Reading) (s : State) → Invariant r s.asked s.served s.log → NoChance s.log → (t : First) → r.is_sound t ≡ true → IsPassed (response_verify r t) (r.transcript t) s.log → HasBegun s.served t
begun_first r s k n t sound m =
    let back = passed r s k n (response_verify r t) (r.transcript t) refl m in
    subst (λ (x : First). HasBegun s.served x) (r.transcript_tells back.0 t (k.serves.well back.0 back.2) sound back.1) back.2

finish_good : (r : Reading) (s : State) (t : First) (u : List ℕ) (number : ℕ) (b : Text) (at : ℕ) (reply : Text) (v : List ℕ) → IsLegal r (Finish t u number b at reply v) s → Invariant r s.asked s.served s.log → NoChance s.log → Invariant r s.asked (after r (Finish t u number b at reply v) s).served (after r (Finish t u number b at reply v) s).log
finish_good r s t u number b at reply v l k n =
    let is = shaken r s k n t number b l.0 l.1 in
    let then = l.2 is.1 in
    subst (λ (m : ℕ). Invariant r s.asked (Served.Finished t u ∷ s.served) (Made (response_shake r t) (covered r t (response_shake r t) m reply) v ∷ s.log)) (sym then.0.1)
    (subst (λ (x : Text). Invariant r s.asked (Served.Finished t u ∷ s.served) (Made (response_shake r t) (covered r t (response_shake r t) 0 x) v ∷ s.log)) (sym then.1)
    (finish_keeps r _ _ _ k t u then.0.0 is.0 then.2 v))

refuse_good : (r : Reading) (s : State) (t : First) (number : ℕ) (b : Text) (at : ℕ) (reply : Text) (v : List ℕ) → IsLegal r (Refuse t number b at reply v) s → Invariant r s.asked s.served s.log → NoChance s.log → Invariant r s.asked (after r (Refuse t number b at reply v) s).served (after r (Refuse t number b at reply v) s).log
refuse_good r s t number b at reply v l k n =
    let is = shaken r s k n t number b l.0 l.1 in
    let then = l.2 is.1 in
    subst (λ (m : ℕ). Invariant r s.asked (Served.Refused t reply ∷ s.served) (Made (response_shake r t) (covered r t (response_shake r t) m reply) v ∷ s.log)) (sym then.0.1)
    (refuse_keeps r _ _ _ k t reply then.0.0 is.0 then.1 v)

open_good : (r : Reading) (s : State) (t : First) (u : List ℕ) (b : Text) → IsLegal r (Open t u b) s → Invariant r s.asked s.served s.log → NoChance s.log → Invariant r (Asked.Opened t u ∷ s.asked) s.served s.log
open_good r s t u b l k n =
    let is = answered r s k n t b (k.asks.finishes t l.0).0 l.1 l.2 in
    open_keeps r _ _ _ k t u l.0 is.0 (l.3 is.1)

foreign : (r : Reading) (s : State) (p : Purpose) (i v : List ℕ) → p.psk ≢ r.psk → Invariant r s.asked s.served s.log → Invariant r s.asked s.served (Made p i v ∷ s.log)
foreign r s p i v apart k =
    record { asks = k.asks; serves = k.serves; links = k.links; backed = λ q j m own. elim m [ inl e ↦ absurd (apart (ap (λ (x : Purpose). x.psk) e.0 ∙ own)) | inr y ↦ k.backed q j y own ] }

move_good : (r : Reading) (m : Move) (s : State) → IsLegal r m s → IsGood r s → IsGood r (after r m s)
move_good r (Start id draw) s l good = record { holds = λ n. start_keeps r _ _ _ (good.holds n) id draw l }
move_good r (Begin t v) s l good = record { holds = λ n. begin_keeps r _ _ _ (good.holds n.1) t l.0 l.1 v }
move_good r (Accept t input v w) s l good = record { holds = λ n. accept_keeps r _ _ _ (good.holds n.1.1) t l.1.0 l.0 l.1.1 l.1.2 (begun_first r s (good.holds n.1.1) n.1.1 t l.0 l.2) input v w }
move_good r (Finish t u number b at reply v) s l good = record { holds = λ n. finish_good r s t u number b at reply v l (good.holds n.1) n.1 }
move_good r (Refuse t number b at reply v) s l good = record { holds = λ n. refuse_good r s t number b at reply v l (good.holds n.1) n.1 }
move_good r (Open t u b) s l good = record { holds = λ n. open_good r s t u b l (good.holds n) n }
move_good r (Say t u b v) s l good = record { holds = λ n. say_keeps r _ _ _ (good.holds n.1) t u b ((good.holds n.1).asks.opens l.0.0 (t, u) l.0.1).0 l.1 v }
move_good r (Take t u b reply v) s l good = record {
  holds = λ n. take_keeps r _ _ _ (good.holds n.1) t u b reply ((good.holds n.1).serves.opens l.0.0 (t, u) l.0.1).0
      (passed r s (good.holds n.1) n.1 (request_purpose r u (taken u s.served)) (request_input r t u (taken u s.served) b) refl l.1) v;
}
move_good r (Hear t u b reply) s l good = record {
  holds = λ n. hear_keeps r _ _ _ (good.holds n) t u b reply ((good.holds n).asks.opens l.0.0 (t, u) l.0.1).0 l.1
      (passed r s (good.holds n) n (reply_purpose r u ((b, r.granted) ∷ heard u s.asked)) (reply_input r t u ((b, r.granted) ∷ heard u s.asked) reply) refl l.2);
}
move_good r (Check p i v w) s l good = record { holds = λ n. check_keeps r _ _ _ p i v w (good.holds n.2) }
move_good r (Foreign p i v) s l good = record { holds = λ n. foreign r s p i v l (good.holds n.1) }

pub run_good : (r : Reading) (ms : List Move) (s z : State) → IsRun r ms s z → IsGood r s → IsGood r z
run_good r [] s z run good = subst (IsGood r) run good
run_good r (m ∷ ms) s z run good = run_good r ms (after r m s) z run.1 (move_good r m s run.0 good)

pub starts_good : (r : Reading) → IsGood r nothing_yet
starts_good r = record {
  holds = λ n. record {
    asks = record {
      below = λ t a. elim a [ ];
      waits = λ x e. absurd (none_some _ e);
      once = λ s t a. elim a [ ];
      apart = tt;
      seconds = tt;
      well = λ t a. elim a [ ];
      finishes = λ x e. absurd (none_some _ e);
      opens = λ id x e. absurd (none_some _ e);
      opened = λ t u a. elim a [ ];
      quiet = λ u n. (refl, refl, refl);
      talks = λ u. refl;
    };
    serves = record {
      below = λ t a. elim a [ ];
      once = λ s t a. elim a [ ];
      well = λ t a. elim a [ ];
      shakes = λ t e. absurd (none_some _ e);
      opens = λ id x e. absurd (none_some _ e);
      opened = λ t u a. elim a [ ];
      seconds = λ t a. elim a [ ];
      replied = λ t b a. elim a [ ];
      answers = λ t b a. elim a [ ];
      only = λ t b c a. elim a [ ];
      quiet = λ u n. refl;
    };
    links = record { accepted = λ t a. elim a [ ]; finished = λ t a. elim a [ ]; replied = λ t b a. elim a [ ]; opened = λ id x e. absurd (none_some _ e); ever = λ t u a. elim a [ ]; order = λ s t a. elim a [ ]; ahead = λ u. inl refl };
    backed = λ p i m. elim m [ ];
  };
}

-- The invariant of every run without chance.
pub holds : (r : Reading) (s : State) → IsReached r s → Invariant r s.asked s.served s.log
holds r s reached = (run_good r reached.moves nothing_yet s reached.run (starts_good r)).holds reached.no_chance

-- ---- What follows.

pub agrees : (r : Reading) (asked : List Asked) (served : List Served) (log : Log) → Invariant r asked served log → (req rsp : ℕ) (t t' : First) (u u' : List ℕ) → asked_open r req asked ≡ Some (t, u) → r.responder_id t ≡ rsp → served_open r rsp served ≡ Some (t', u') → r.requester_id t' ≡ req → (t ≡ t') × (u ≡ u')
agrees r asked served log k req rsp t t' u u' a is_rsp b is_req =
    let l = k.links in
    let one = k.asks.opens req (t, u) a in
    let own = k.asks.opened t u one.0 in
    let two = k.serves.opens rsp (t', u') b in
    let their = k.serves.opened t' u' two.0 in
    let accepted = l.finished t' their.0 in
    let at_most = one.2 t' accepted is_req in
    let at_least = two.2 t (l.accepted t own.0) is_rsp in
    let not_less : r.requester_draw t' < r.requester_draw t → ⊥ = λ lt. (let o = l.order t' t accepted (l.opened req (t, u) a) lt in omega arith) in
    let same : t' ≡ t = k.asks.once t' t accepted own.0 (omega (arith, not_less)) in
    (sym same, own.1 ∙ ap r.second (sym same) ∙ sym their.1)

pub taken_was_said : (o : Option Text) (asks : List Text) (hs ts : List Exchange) → Talks o asks hs → IsAhead o hs ts → IsEarlier (firsts ts) asks
taken_was_said None asks hs ts t a = elim a [ inl e ↦ rw (t, e) (earlier_self _) | inr x ↦ absurd (none_some _ x.2) ]
taken_was_said (Some b) asks hs ts t a = elim a [ inl e ↦ rw (e, t) (inr (earlier_self _)) | inr x ↦ (let same : b ≡ x.0 = cc x.2 in rw (t, x.3, same) (inl refl)) ]

pub heard_was_taken : (o : Option Text) (hs ts : List Exchange) → IsAhead o hs ts → IsEarlier hs ts
heard_was_taken o hs ts a = elim a [ inl e ↦ rw e (earlier_self hs) | inr x ↦ rw x.3 (inr (earlier_self hs)) ]

pub opened_matches : (r : Reading) (asked : List Asked) (served : List Served) (log : Log) → Invariant r asked served log → (id : ℕ) (t : First) (u : List ℕ) → asked_open r id asked ≡ Some (t, u) → HasOpened served t u
opened_matches r asked served log k id t u o =
    let right = (k.asks.opened t u (k.asks.opens id (t, u) o).0).1 in
    subst (λ (l : List ℕ). HasOpened served t l) (sym right) (k.serves.seconds t (k.links.opened id (t, u) o)).0

-- A T2 under which the requester opened sessions is that of one session.
pub same_opened : (r : Reading) (asked : List Asked) (served : List Served) (log : Log) → Invariant r asked served log → (s t : First) (u : List ℕ) → IsOpened asked s u → IsOpened asked t u → s ≡ t
same_opened r asked served log k s t u a b =
    let one = k.asks.opened s u a in
    let two = k.asks.opened t u b in
    r.second_tells s t (k.asks.well s one.0) (k.asks.well t two.0) (sym one.1 ∙ two.1)

pub same_finished : (r : Reading) (asked : List Asked) (served : List Served) (log : Log) → Invariant r asked served log → (s t : First) (u : List ℕ) → HasOpened served s u → HasOpened served t u → s ≡ t
same_finished r asked served log k s t u a b =
    let one = k.serves.opened s u a in
    let two = k.serves.opened t u b in
    let well : (x : First) → HasFinished served x → r.is_sound x ≡ true = λ x f. k.serves.well x (k.serves.replied x (r.finish_answer x) (k.serves.seconds x f).1) in
    r.second_tells s t (well s one.0) (well t two.0) (sym one.1 ∙ two.1)

pub ever_matches : (r : Reading) (asked : List Asked) (served : List Served) (log : Log) → Invariant r asked served log → (t : First) (u : List ℕ) → IsOpened asked t u → HasOpened served t u
ever_matches r asked served log k t u o =
    let right = (k.asks.opened t u o).1 in
    subst (λ (l : List ℕ). HasOpened served t l) (sym right) (k.serves.seconds t (k.links.ever t u o)).0

-- A T2 under which both ends opened sessions is that of one session.
pub one_beginning : (r : Reading) (asked : List Asked) (served : List Served) (log : Log) → Invariant r asked served log → (s t : First) (u : List ℕ) → IsOpened asked s u → HasOpened served t u → s ≡ t
one_beginning r asked served log k s t u a b =
    let one = k.asks.opened s u a in
    let two = k.serves.opened t u b in
    let begun = k.serves.replied t (r.finish_answer t) (k.serves.seconds t two.0).1 in
    r.second_tells s t (k.asks.well s one.0) (k.serves.well t begun) (sym one.1 ∙ two.1)

pub one_id : (r : Reading) (asked : List Asked) (served : List Served) (log : Log) → Invariant r asked served log → (id other : ℕ) (t t' : First) (u : List ℕ) → asked_open r id asked ≡ Some (t, u) → asked_open r other asked ≡ Some (t', u) → id ≡ other
one_id r asked served log k id other t t' u a b =
    let one = k.asks.opens id (t, u) a in
    let two = k.asks.opens other (t', u) b in
    sym one.1 ∙ ap r.requester_id (same_opened r asked served log k t t' u one.0 two.0) ∙ two.1

-- ---- One record under a number.

abbrev newest_reply : List Exchange → Text
newest_reply [] = []
newest_reply (x ∷ older) = x.1

abbrev newest_request : List Exchange → Text
newest_request [] = []
newest_request (x ∷ older) = x.0

-- Two requests were sealed after the same exchanges only if they are one.
same_request : (o : Option Text) (hs : List Exchange) (b c : Text) (older : List Exchange) → WasSaid o hs b older → WasSaid o hs c older → b ≡ c
same_request o hs b c older x y = elim x [
  | inl ex ↦ elim y [ inl ey ↦ some_same _ _ (sym ex.0 ∙ ey.0) | inr hy ↦ absurd (let l = longer _ _ _ hy.1 in let n = ap length ex.1 in omega arith) ]
  | inr hx ↦ elim y [
    | inl ey ↦ absurd (let l = longer _ _ _ hx.1 in let n = ap length ey.1 in omega arith)
    | inr hy ↦ ap newest_request (same_length ((b, hx.0) ∷ older) ((c, hy.0) ∷ older) hs hx.1 hy.1 (omega arith))
  ]
]

was_earlier : (o : Option Text) (hs : List Exchange) (b : Text) (older : List Exchange) → WasSaid o hs b older → IsEarlier older hs
was_earlier o hs b older x = elim x [ inl e ↦ rw e.1 (earlier_self older) | inr h ↦ earlier_tail _ older hs h.1 ]

abbrev front : List ℕ → ℕ
front [] = 0
front (x ∷ xs) = x

one_record_as : (r : Reading) (asked : List Asked) (served : List Served) (log : Log) → Invariant r asked served log → (kind : Kind) (direction : Direction) (t1 : List ℕ) (e n : ℕ) (b c : List ℕ) → is_record kind ≡ true
    → IsBackedAs r asked served kind direction t1 e (n ∷ b) → IsBackedAs r asked served kind direction t1 e (n ∷ c) → b ≡ c
one_record_as r asked served log k Verify direction t1 e n b c is x y = absurd (cc)
one_record_as r asked served log k HandshakeRecord Request t1 e n b c is x y =
    let first : x.first ≡ y.first = r.transcript_tells x.first y.first (k.asks.well x.first x.story) (k.asks.well y.first y.story) (x.is ∙ sym y.is) in
    ap (λ (l : List ℕ). drop 1 l) (x.covers ∙ ap (λ (t : First). covered r t (request_shake r t) 0 (r.finish t)) first ∙ sym y.covers)
one_record_as r asked served log k HandshakeRecord Response t1 e n b c is x y =
    let well : (t : First) (reply : Text) → HasReplied r served t reply → r.is_sound t ≡ true = λ t reply a. k.serves.well t (k.serves.replied t reply a) in
    let first : x.first ≡ y.first = r.transcript_tells x.first y.first (well x.first x.reply x.story) (well y.first y.reply y.story) (x.is ∙ sym y.is) in
    let same : x.reply ≡ y.reply = k.serves.only y.first x.reply y.reply (subst (λ (t : First). HasReplied r served t x.reply) first x.story) y.story in
    ap (λ (l : List ℕ). drop 1 l) (x.covers ∙ ap (λ (t : First). covered r t (response_shake r t) 0 x.reply) first ∙ ap (covered r y.first (response_shake r y.first) 0) same ∙ sym y.covers)
one_record_as r asked served log k ApplicationRecord Request u e n b c is x y =
    let first : x.first ≡ y.first = same_opened r asked served log k x.first y.first u x.is y.is in
    let nx : n ≡ request_number r x.older = ap front x.covers in
    let ny : n ≡ request_number r y.older = ap front y.covers in
    let older : y.older ≡ x.older = same_place r.is_update 0 _ _ (heard u asked) (was_earlier _ _ _ _ y.was) (was_earlier _ _ _ _ x.was) (sym y.when ∙ x.when) (sym ny ∙ nx) in
    let same : x.text ≡ y.text = same_request _ _ _ _ _ x.was (subst (λ (l : List Exchange). WasSaid (outstanding u asked) (heard u asked) y.text l) older y.was) in
    let key : request_input r x.first u x.older x.text ≡ request_input r y.first u y.older y.text = ap (λ (t : First). request_input r t u x.older x.text) first ∙ ap₂ (request_input r y.first u) (sym older) same in
    ap (λ (l : List ℕ). drop 1 l) (x.covers ∙ key ∙ sym y.covers)
one_record_as r asked served log k ApplicationRecord Response u e n b c is x y =
    let first : x.first ≡ y.first = same_finished r asked served log k x.first y.first u x.is y.is in
    let nx : n ≡ reply_number r ((x.text, x.reply) ∷ x.older) = ap front x.covers in
    let ny : n ≡ reply_number r ((y.text, y.reply) ∷ y.older) = ap front y.covers in
    let count = same_count r (x.text, x.reply) (y.text, y.reply) x.older y.older (sym nx ∙ ny) in
    let same : (x.text, x.reply) ∷ x.older ≡ (y.text, y.reply) ∷ y.older = same_place r.is_update_all 1 _ _ (taken u served) x.was y.was (sym x.when ∙ y.when) count in
    let key : reply_input r x.first u ((x.text, x.reply) ∷ x.older) x.reply ≡ reply_input r y.first u ((y.text, y.reply) ∷ y.older) y.reply =
    ap (λ (t : First). reply_input r t u ((x.text, x.reply) ∷ x.older) x.reply) first ∙ ap (λ (l : List Exchange). reply_input r y.first u l (newest_reply l)) same in
    ap (λ (l : List ℕ). drop 1 l) (x.covers ∙ key ∙ sym y.covers)

pub one_sealed : (r : Reading) (asked : List Asked) (served : List Served) (log : Log) → Invariant r asked served log → (p : Purpose) (n : ℕ) (b c : List ℕ) → is_record p.kind ≡ true → IsBacked r asked served p (n ∷ b) → IsBacked r asked served p (n ∷ c) → b ≡ c
one_sealed r asked served log k p n b c is x y = one_record_as r asked served log k p.kind p.direction p.transcript p.epoch n b c is x y

-- ---- Nothing before a session opens.

pub unsaid : (r : Reading) (asked : List Asked) (served : List Served) (log : Log) → Invariant r asked served log → (t : First) → finishing asked ≡ Some t → (requests (r.second t) asked ≡ []) × (heard (r.second t) asked ≡ []) × (outstanding (r.second t) asked ≡ None)
unsaid r asked served log k t w =
    let l = k.asks.finishes t w in
    k.asks.quiet (r.second t) (λ s o.
    (let a = k.asks.opened s (r.second t) o in
    let same : t ≡ s = r.second_tells t s (k.asks.well t l.0) (k.asks.well s a.0) a.1 in
    l.2 (r.second t) (subst (λ (z : First). IsOpened asked z (r.second t)) (sym same) o)))

pub untaken : (r : Reading) (asked : List Asked) (served : List Served) (log : Log) → Invariant r asked served log → (t : First) → handshake served ≡ Some t → taken (r.second t) served ≡ []
untaken r asked served log k t w =
    let l = k.serves.shakes t w in
    k.serves.quiet (r.second t) (λ s o.
    (let a = k.serves.opened s (r.second t) o in
    let answer = (k.serves.seconds s a.0).1 in
    let same : t ≡ s = r.second_tells t s (k.serves.well t l.0) (k.serves.well s (k.serves.replied s (r.finish_answer s) answer)) a.1 in
    l.2 (r.finish_answer s) (subst (λ (z : First). HasReplied r served z (r.finish_answer s)) (sym same) answer)))
