-- The epochs and numbers of the sessions that a responder holds open are those that its marks count.
use Rattle.std.proofs.Common.{arith, ◌≡◌, ℕ, ◌+◌, List, [], ◌∷◌, ◌++◌, Bool, true, false, cond, Some, ◌==◌, ◌&&◌, ◌||◌, refl, sym, ap, ap₂, ◌∙◌, subst, true≢false, bytes_eq, eqb-true, eq-eqb}
use Rattle.std.proofs.lemmas.Slice.Eq.{bytes_eq-Decides}
use Rattle.spdm_grammar.specs.Message.RequestMessage.{KeyUpdate}
use Rattle.spdm_grammar.specs.declared.told.phase.Stage.{Stage}
use Rattle.spdm_grammar.specs.declared.told.phase.Stage.TheVariants as stage
use Rattle.responder_machine.specs.Answer.{Free}
use Rattle.responder_machine.specs.History.{History, clear_turns, negotiation_of}
use Rattle.responder_machine.specs.ResponderLog.{began_by}
use Rattle.responder_machine.specs.Session.{Event, Events, stage_of, is_live, after_record, after_exchange, after_tick, request_next, response_next, request_epoch, response_epoch, t2_of, gives_id}
use Rattle.spdm_machine.specs.Sessions.{is_past_handshake, id_in_exchange}
use Rattle.responder_machine.specs.Session.Event.{Began, Heard, Waited}
use Rattle.responder_machine.specs.Setup.{RspSetup}
use Rattle.spdm_machine.specs.TagLog.{Log}
use Rattle.responder_machine.specs.Turn.{Turn, Effect, code_in, takes, updates, answer_in, request_in, asked_in}
use Rattle.responder_machine.specs.Turn.Effect.{NoEffect, TookData}
use Rattle.spdm_agreement.specs.Marks.{Asked, Served, HasOpened, served_open, taken, epoch_of, count_of, Exchange}
use Rattle.spdm_agreement.specs.Marks.Served.{Finished, Refused, Took}
use Rattle.spdm_agreement.specs.Reading.{First}
use Rattle.spdm_agreement.specs.Story.{served_first, served_turn, record_marks, reply_text, taken_text}
use Rattle.spdm_agreement.proofs.Moves.Invariant.{Invariant}
use Rattle.spdm_agreement.proofs.Moves.Runs.{same_finished}
use Rattle.spdm_agreement.proofs.Responder.OpenSessions.{ServedAt, EndsByFinish, same_second}
use Rattle.spdm_agreement.proofs.Messages.Beginnings.{reading_of}
use Rattle.spdm_agreement.proofs.Responder.Replies.{updates_in, operation_known}
use Rattle.spdm_agreement.proofs.Delivery.Data.{verifying}
use Rattle.std.proofs.lemmas.Bool.{leb-true, and_parts}
use Rattle.std.specs.Prelude.{nat_le}
use Rattle.spdm_grammar.specs.Fields.{is_key_operation}
use Rattle.responder_machine.specs.Records.{opened}
use Rattle.spdm_agreement.proofs.Responder.RecordMoves.{Counts, Opens, is_verifying, exchange_of, updates_all, updates_any, updates_third}
use Rattle.spdm_grammar.specs.declared.names.request_code.TheConstants.{GET_VERSION, PSK_EXCHANGE, PSK_FINISH, KEY_UPDATE, END_SESSION}

-- What is held open is counted.
pub record IsCounted (psk : List ℕ) (s : Events) (m : List Served) : Type 0 where
  pub counts : (is_live s && is_past_handshake (stage_of s)) ≡ true → Counts psk s m

gone : (psk : List ℕ) (m : List Served) → IsCounted psk [] m
gone psk m = record { counts = λ e. absurd (true≢false (sym e)) }

-- Marks that are not of its T2 change nothing.
past_marks : (psk : List ℕ) (s : Events) (m m' : List Served) → ((is_live s && is_past_handshake (stage_of s)) ≡ true → taken (t2_of s) m' ≡ taken (t2_of s) m) → IsCounted psk s m → IsCounted psk s m'
past_marks psk s m m' same i = record {
  counts = λ e. (let c = i.counts e in record {
    request_epoch = c.request_epoch ∙ ap (epoch_of (reading_of psk).is_update) (sym (same e));
    request_next = c.request_next ∙ ap (count_of (reading_of psk).is_update 0) (sym (same e));
    response_epoch = c.response_epoch ∙ ap (epoch_of (reading_of psk).is_update_all) (sym (same e));
    response_next = c.response_next ∙ ap (count_of (reading_of psk).is_update_all 1) (sym (same e));
    stands = c.stands ∙ ap verifying (sym (same e));
  });
}

-- ---- Time.

ticked_by : (psk : List ℕ) (e : Event) (s : Events) (seconds : ℕ) (m : List Served) (a b : Bool) → IsCounted psk (e ∷ s) m → IsCounted psk (cond a (e ∷ s) (cond b [] (Waited seconds ∷ e ∷ s))) m
ticked_by psk e s seconds m true b i = i
ticked_by psk e s seconds m false true i = gone psk m
ticked_by psk e s seconds m false false i = record { counts = λ l. (let c = i.counts l in record { request_epoch = c.request_epoch; request_next = c.request_next; response_epoch = c.response_epoch; response_next = c.response_next; stands = c.stands }) }

pub ticked : (psk : List ℕ) (s : Events) (seconds : ℕ) (m : List Served) → IsCounted psk s m → IsCounted psk (after_tick s seconds) m
ticked psk [] seconds m i = gone psk m
ticked psk (e ∷ s) seconds m i = ticked_by psk e s seconds m _ _ i

-- ---- In the clear.

exchanged : (psk : List ℕ) (s : Events) (older : History) (t : Turn) (m : List Served) (c d : Bool) → IsCounted psk s m
    → IsCounted psk (cond c (Began (negotiation_of (clear_turns older)) (request_in t.effect) (answer_in t.effect) ∷ []) (cond d s [])) (Served.Began (served_first (began_by older t)) ∷ m)
exchanged psk s older t m true d i = record { counts = λ e. absurd (true≢false (sym e)) }
exchanged psk s older t m false true i = past_marks psk s m _ (λ e. refl) i
exchanged psk s older t m false false i = gone psk _

cleared_by : (psk : List ℕ) (id : ℕ) (s : Events) (older : History) (t : Turn) (m : List Served) (a b : Bool) → IsCounted psk s m
    → IsCounted psk (cond a [] (cond b (after_exchange id s t (negotiation_of (clear_turns older))) s)) (cond b (Served.Began (served_first (began_by older t)) ∷ []) [] ++ m)
cleared_by psk id s older t m true b i = gone psk _
cleared_by psk id s older t m false true i = exchanged psk s older t m (gives_id id (answer_in t.effect)) (is_past_handshake (stage_of s)) i
cleared_by psk id s older t m false false i = i

pub cleared : (psk : List ℕ) (id : ℕ) (s : Events) (older : History) (t : Turn) (m : List Served) → IsCounted psk s m
    → IsCounted psk (cond (takes GET_VERSION t) [] (cond (takes PSK_EXCHANGE t) (after_exchange id s t (negotiation_of (clear_turns older))) s)) (cond (takes PSK_EXCHANGE t) (Served.Began (served_first (began_by older t)) ∷ []) [] ++ m)
cleared psk id s older t m i = cleared_by psk id s older t m (takes GET_VERSION t) (takes PSK_EXCHANGE t) i

-- ---- A record of the session itself.

after_none : (a b c : Bool) (n k : ℕ) → a ≡ false → cond (a || b || c) n k ≡ cond (b || c) n k
after_none true b c n k e = absurd (true≢false e)
after_none false true c n k e = refl
after_none false false true n k e = refl
after_none false false false n k e = refl

then_none : (a : Bool) (n k : ℕ) → a ≡ false → cond a n k ≡ k
then_none true n k e = absurd (true≢false e)
then_none false n k e = refl

pub with_taken : (u : List ℕ) (b c : List ℕ) (m : List Served) → taken u (Took u b c ∷ m) ≡ (b, c) ∷ taken u m
with_taken u b c m = ap (λ (x : Bool). cond x ((b, c) ∷ taken u m) (taken u m)) ((bytes_eq-Decides u u).1 refl)

-- The stage goes by the updates that are granted.
by_operation : (op : ℕ) (old a b c : Bool) → (op == 1) ≡ a → (op == 2) ≡ b → (op == 3) ≡ c → is_key_operation op ≡ true → cond (op == 3) false true ≡ cond (op == 1 || op == 2) true (cond (op == 3) false old)
by_operation op old true b c x y z e = subst (λ (n : ℕ). cond (n == 3) false true ≡ cond (n == 1 || n == 2) true (cond (n == 3) false old)) (sym (eqb-true op 1 x)) refl
by_operation op old false true c x y z e = subst (λ (n : ℕ). cond (n == 3) false true ≡ cond (n == 1 || n == 2) true (cond (n == 3) false old)) (sym (eqb-true op 2 y)) refl
by_operation op old false false true x y z e = subst (λ (n : ℕ). cond (n == 3) false true ≡ cond (n == 1 || n == 2) true (cond (n == 3) false old)) (sym (eqb-true op 3 z)) refl
by_operation op old false false false x y z e =
    let l = and_parts (nat_le 1 op) (nat_le op 3) e in
    let least = leb-true 1 op l.0 in
    let most = leb-true op 3 l.1 in
    let no_one : op ≡ 1 → ⊥ = λ is. true≢false (sym (eq-eqb op 1 is) ∙ x) in
    let no_two : op ≡ 2 → ⊥ = λ is. true≢false (sym (eq-eqb op 2 is) ∙ y) in
    let no_three : op ≡ 3 → ⊥ = λ is. true≢false (sym (eq-eqb op 3 is) ∙ z) in
    absurd (omega (arith, no_one, no_two, no_three))

verifies_in : (e : Effect) (old : Bool) → ((op tag : ℕ) → asked_in e ≡ Some (KeyUpdate op tag) → is_key_operation op ≡ true)
    → cond (updates_in 3 e) false (cond (code_in e == KEY_UPDATE) true old) ≡ cond (updates_in 1 e || updates_in 2 e) true (cond (updates_in 3 e) false old)
verifies_in NoEffect old k = refl
verifies_in (TookData bytes answer) old k = refl
verifies_in (Effect.Took (KeyUpdate op tag) request answer large) old k = by_operation op old (op == 1) (op == 2) (op == 3) refl refl refl (k op tag refl)
verifies_in (Effect.Took v request answer large) old k = refl

stage_by : (a b c : Bool) (g : Stage) → a ≡ false → is_verifying (cond a stage.Open (cond b stage.Open (cond c stage.Verifying g))) ≡ cond b false (cond c true (is_verifying g))
stage_by true b c g e = absurd (true≢false e)
stage_by false true c g e = refl
stage_by false false true g e = refl
stage_by false false false g e = refl

verifies : (r : RspSetup) (s : Events) (f : Free) (sealed : List ℕ) (t : Turn) (reply : List ℕ) → Opens r s f sealed t reply → takes PSK_FINISH t ≡ false → (older : List Exchange) → is_verifying (stage_of s) ≡ verifying older
    → is_verifying (stage_of (Heard sealed t reply ∷ s)) ≡ verifying (exchange_of r s sealed t ∷ older)
verifies r s f sealed t reply o other older is =
    stage_by (takes PSK_FINISH t) (updates 3 t) (takes KEY_UPDATE t) (stage_of s) other
    ∙ verifies_in t.effect (is_verifying (stage_of s)) (operation_known r s (opened r.psk s sealed) f t o.turn)
    ∙ ap (λ (old : Bool). cond (updates 1 t || updates 2 t) true (cond (updates 3 t) false old)) is
    ∙ ap₂ (λ (a b : Bool). cond a true (cond b false (verifying older))) (sym (updates_any r s f sealed t reply o)) (sym (updates_third r s f sealed t reply o))

pub took_counts : (r : RspSetup) (s : Events) (f : Free) (sealed : List ℕ) (t : Turn) (reply : List ℕ) (m : List Served) → Opens r s f sealed t reply → takes PSK_FINISH t ≡ false → Counts r.psk s m
    → Counts r.psk (Heard sealed t reply ∷ s) (Took (t2_of s) (taken_text r.psk s sealed) (reply_text t) ∷ m)
took_counts r s f sealed t reply m o other c =
    let u = t2_of s in
    let x = exchange_of r s sealed t in
    let mark = Took u (taken_text r.psk s sealed) (reply_text t) in
    let now : x ∷ taken u m ≡ taken (t2_of (Heard sealed t reply ∷ s)) (mark ∷ m) =
    sym (ap (λ (v : List ℕ). taken v (mark ∷ m)) (sym (same_second s sealed t reply other)) ∙ with_taken u (taken_text r.psk s sealed) (reply_text t) m) in
    let any = sym (updates_any r s f sealed t reply o) in
    let all = sym (updates_all r s f sealed t reply o) in
    record {
      request_epoch = ap₂ (λ (b : Bool) (n : ℕ). cond b (n + 1) n) any c.request_epoch ∙ ap (epoch_of (reading_of r.psk).is_update) now;
      request_next = after_none (takes PSK_FINISH t) (updates 1 t) (updates 2 t) 0 (request_next s + 1) other ∙ ap₂ (λ (b : Bool) (n : ℕ). cond b 0 (n + 1)) any c.request_next ∙ ap (count_of (reading_of r.psk).is_update 0) now;
      response_epoch = ap₂ (λ (b : Bool) (n : ℕ). cond b (n + 1) n) all c.response_epoch ∙ ap (epoch_of (reading_of r.psk).is_update_all) now;
      response_next = then_none (takes PSK_FINISH t) 0 (cond (updates 2 t) 1 (response_next s + 1)) other ∙ ap₂ (λ (b : Bool) (n : ℕ). cond b 1 (n + 1)) all c.response_next ∙ ap (count_of (reading_of r.psk).is_update_all 1) now;
      stands = verifies r s f sealed t reply o other (taken u m) c.stands ∙ ap verifying now;
    }

-- A session in its handshake has changed no key.
no_update_in : (e : Effect) → (code_in e == PSK_FINISH) ≡ true → (updates_in 1 e ≡ false) × (updates_in 2 e ≡ false)
no_update_in NoEffect e = (refl, refl)
no_update_in (TookData bytes answer) e = (refl, refl)
no_update_in (Effect.Took (KeyUpdate op tag) request answer large) e = absurd (true≢false (sym e))
no_update_in (Effect.Took v request answer large) e = (refl, refl)

quiet_code : (e : Effect) → (code_in e == KEY_UPDATE) ≡ false → (updates_in 1 e ≡ false) × (updates_in 2 e ≡ false)
quiet_code NoEffect e = (refl, refl)
quiet_code (TookData bytes answer) e = (refl, refl)
quiet_code (Effect.Took (KeyUpdate op tag) request answer large) e = absurd (true≢false e)
quiet_code (Effect.Took v request answer large) e = (refl, refl)

shakes_still : (a b c : Bool) (g : Stage) → is_past_handshake (cond a stage.Open (cond b stage.Open (cond c stage.Verifying g))) ≡ false → (c ≡ false) × (is_past_handshake g ≡ false)
shakes_still true b c g e = absurd (true≢false e)
shakes_still false true c g e = absurd (true≢false e)
shakes_still false false true g e = absurd (true≢false e)
shakes_still false false false g e = (refl, e)

first_epochs : (s : Events) → is_past_handshake (stage_of s) ≡ false → (request_epoch s ≡ 0) × (response_epoch s ≡ 0)
first_epochs [] e = (refl, refl)
first_epochs (Began negotiation exchange answer ∷ s) e = first_epochs s e
first_epochs (Waited seconds ∷ s) e = first_epochs s e
first_epochs (Heard sealed t reply ∷ s) e =
    let l = shakes_still (takes PSK_FINISH t) (updates 3 t) (takes KEY_UPDATE t) (stage_of s) e in
    let older = first_epochs s l.1 in
    let none = quiet_code t.effect l.0 in (
      ap₂ (λ (a b : Bool). cond (a || b) (request_epoch s + 1) (request_epoch s)) none.0 none.1 ∙ older.0,
      ap (λ (b : Bool). cond b (response_epoch s + 1) (response_epoch s)) none.1 ∙ older.1,
    )

-- With PSK_FINISH all begins at 0.
pub finish_counts : (psk : List ℕ) (s : Events) (sealed : List ℕ) (t : Turn) (reply : List ℕ) (m : List Served) → is_past_handshake (stage_of s) ≡ false → takes PSK_FINISH t ≡ true → taken (t2_of (Heard sealed t reply ∷ s)) m ≡ [] → Counts psk (Heard sealed t reply ∷ s) m
finish_counts psk s sealed t reply m shakes finish none =
    let older = first_epochs s shakes in
    let quiet = no_update_in t.effect finish in
    record {
      request_epoch = ap₂ (λ (a b : Bool). cond (a || b) (request_epoch s + 1) (request_epoch s)) quiet.0 quiet.1 ∙ older.0 ∙ ap (epoch_of (reading_of psk).is_update) (sym none);
      request_next = ap (λ (b : Bool). cond (b || updates 1 t || updates 2 t) 0 (request_next s + 1)) finish ∙ ap (count_of (reading_of psk).is_update 0) (sym none);
      response_epoch = ap (λ (b : Bool). cond b (response_epoch s + 1) (response_epoch s)) quiet.1 ∙ older.1 ∙ ap (epoch_of (reading_of psk).is_update_all) (sym none);
      response_next = ap (λ (b : Bool). cond b 0 (cond (updates 2 t) 1 (response_next s + 1))) finish ∙ ap (count_of (reading_of psk).is_update_all 1) (sym none);
      stands = ap (λ (b : Bool). is_verifying (cond b stage.Open (cond (updates 3 t) stage.Open (cond (takes KEY_UPDATE t) stage.Verifying (stage_of s))))) finish ∙ ap verifying (sym none);
    }

finishes_by : (psk : List ℕ) (e : Event) (s : Events) (sealed : List ℕ) (t : Turn) (reply : List ℕ) (m : List Served) (b : Bool) → takes PSK_FINISH t ≡ b → is_past_handshake (stage_of (e ∷ s)) ≡ false
    → (is_past_handshake (stage_of (Heard sealed t reply ∷ e ∷ s)) ≡ true → takes PSK_FINISH t ≡ true) → (takes PSK_FINISH t ≡ true → taken (t2_of (Heard sealed t reply ∷ e ∷ s)) m ≡ [])
    → IsCounted psk (Heard sealed t reply ∷ e ∷ s) (cond b (Finished (served_first (e ∷ s)) (t2_of (Heard sealed t reply ∷ e ∷ s)) ∷ []) (Refused (served_first (e ∷ s)) (reply_text t) ∷ []) ++ m)
finishes_by psk e s sealed t reply m true is shakes ends none =
    let u = t2_of (Heard sealed t reply ∷ e ∷ s) in
    record { counts = λ l. finish_counts psk (e ∷ s) sealed t reply (Finished (served_first (e ∷ s)) u ∷ m) shakes is (none is) }
finishes_by psk e s sealed t reply m false is shakes ends none = record { counts = λ l. absurd (true≢false (sym (ends l) ∙ is)) }

own_stage : (r : RspSetup) (e : Event) (s : Events) (f : Free) (sealed : List ℕ) (t : Turn) (reply : List ℕ) (m : List Served) (g : Stage) → stage_of (e ∷ s) ≡ g → Opens r (e ∷ s) f sealed t reply → EndsByFinish g (e ∷ s) sealed t reply
    → (stage_of (e ∷ s) ≡ stage.Handshake → takes PSK_FINISH t ≡ true → taken (t2_of (Heard sealed t reply ∷ e ∷ s)) m ≡ []) → IsCounted r.psk (e ∷ s) m
    → IsCounted r.psk (Heard sealed t reply ∷ e ∷ s) (served_turn g r (e ∷ s) sealed t reply ++ m)
own_stage r e s f sealed t reply m stage.Handshake is o steady none i = finishes_by r.psk e s sealed t reply m (takes PSK_FINISH t) refl (ap is_past_handshake is) steady (none is)
own_stage r e s f sealed t reply m stage.Open is o steady none i = record { counts = λ l. took_counts r (e ∷ s) f sealed t reply m o steady (i.counts (ap is_past_handshake is)) }
own_stage r e s f sealed t reply m stage.Verifying is o steady none i = record { counts = λ l. took_counts r (e ∷ s) f sealed t reply m o steady (i.counts (ap is_past_handshake is)) }

ended_by : (psk : List ℕ) (s : Events) (m : List Served) (b : Bool) → IsCounted psk s m → IsCounted psk (cond b [] s) m
ended_by psk s m true i = gone psk m
ended_by psk s m false i = i

pub own_record : (r : RspSetup) (e : Event) (s : Events) (f : Free) (sealed : List ℕ) (t : Turn) (reply : List ℕ) (m : List Served) → Opens r (e ∷ s) f sealed t reply → EndsByFinish (stage_of (e ∷ s)) (e ∷ s) sealed t reply
    → (stage_of (e ∷ s) ≡ stage.Handshake → takes PSK_FINISH t ≡ true → taken (t2_of (Heard sealed t reply ∷ e ∷ s)) m ≡ []) → IsCounted r.psk (e ∷ s) m
    → IsCounted r.psk (after_record (e ∷ s) sealed t reply) (record_marks r (e ∷ s) sealed t reply ++ m)
own_record r e s f sealed t reply m o steady none i =
    ended_by r.psk (Heard sealed t reply ∷ e ∷ s) (record_marks r (e ∷ s) sealed t reply ++ m) (takes END_SESSION t) (own_stage r e s f sealed t reply m (stage_of (e ∷ s)) refl o steady none i)

-- ---- A record of another session: the T2 of two are different.

pub other_second : (psk : List ℕ) (id of : ℕ) (own s : Events) (asked : List Asked) (m : List Served) (log : Log) → Invariant (reading_of psk) asked m log → (of ≡ id → ⊥)
    → served_open (reading_of psk) of m ≡ Some (served_first own, t2_of own) → served_open (reading_of psk) id m ≡ Some (served_first s, t2_of s)
    → t2_of own ≡ t2_of s → ⊥
other_second psk id of own s asked m log k other a b same =
    let one = k.serves.opens of (served_first own, t2_of own) a in
    let two = k.serves.opens id (served_first s, t2_of s) b in
    let first : served_first own ≡ served_first s =
    same_finished (reading_of psk) asked m log k (served_first own) (served_first s) (t2_of s) (subst (λ (u : List ℕ). HasOpened m (served_first own) u) same one.0) two.0 in
    other (sym one.1 ∙ ap (λ (x : First). id_in_exchange x.answer) first ∙ two.1)

other_taken : (u v b c : List ℕ) (m : List Served) → (u ≡ v → ⊥) → taken v (Took u b c ∷ m) ≡ taken v m
other_taken u v b c m other = go (bytes_eq u v) refl
  where
    go : (x : Bool) → bytes_eq u v ≡ x → cond (bytes_eq u v) ((b, c) ∷ taken v m) (taken v m) ≡ taken v m
    go true e = absurd (other ((bytes_eq-Decides u v).0 e))
    go false e = ap (λ (x : Bool). cond x ((b, c) ∷ taken v m) (taken v m)) e

other_turn : (x : First) (u v reply : List ℕ) (m : List Served) (b : Bool) → taken v (cond b (Finished x u ∷ []) (Refused x reply ∷ []) ++ m) ≡ taken v m
other_turn x u v reply m true = refl
other_turn x u v reply m false = refl

pub other_stage : (r : RspSetup) (own : Events) (sealed : List ℕ) (t : Turn) (reply v : List ℕ) (m : List Served) (g : Stage) → (is_past_handshake g ≡ true → t2_of own ≡ v → ⊥) → taken v (served_turn g r own sealed t reply ++ m) ≡ taken v m
other_stage r own sealed t reply v m stage.Handshake other = other_turn (served_first own) (t2_of (Heard sealed t reply ∷ own)) v (reply_text t) m (takes PSK_FINISH t)
other_stage r own sealed t reply v m stage.Open other = other_taken (t2_of own) v (taken_text r.psk own sealed) (reply_text t) m (other refl)
other_stage r own sealed t reply v m stage.Verifying other = other_taken (t2_of own) v (taken_text r.psk own sealed) (reply_text t) m (other refl)

pub elsewhere : (r : RspSetup) (id of : ℕ) (e : Event) (own s : Events) (sealed : List ℕ) (t : Turn) (reply : List ℕ) (asked : List Asked) (m : List Served) (log : Log) → Invariant (reading_of r.psk) asked m log → (of ≡ id → ⊥)
    → ServedAt r.psk of (e ∷ own) m → ServedAt r.psk id s m → IsCounted r.psk s m → IsCounted r.psk s (record_marks r (e ∷ own) sealed t reply ++ m)
elsewhere r id of e own s sealed t reply asked m log k other a b i =
    past_marks r.psk s m _ (λ l. other_stage r (e ∷ own) sealed t reply (t2_of s) m (stage_of (e ∷ own)) (λ past same. other_second r.psk id of (e ∷ own) s asked m log k other (a.told past) (b.told l) same)) i
