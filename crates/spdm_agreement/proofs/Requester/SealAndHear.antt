-- A request that a requester seals and a reply that it takes are moves.
use Rattle.std.proofs.Common.{◌≡◌, ℕ, List, [], ◌∷◌, ◌++◌, drop, take, Bool, true, false, cond, not, Option, Some, None, is_none, refl, sym, ap, ◌∙◌, inl}
use Rattle.byteorder.specs.Endian.{little_number}
use Rattle.key_schedule.specs.Purpose.{Purpose, key_of, iv_of}
use Rattle.requester_machine.specs.Message.{Ask}
use Rattle.requester_machine.specs.Message.Content.{Sealed}
use Rattle.requester_machine.specs.Records.{request_purpose, answer_purpose, answer_number, answer_fault, answer_inner, sealed_next}
use Rattle.requester_machine.specs.RequesterLog.{record_made, record_check}
use Rattle.requester_machine.specs.Session.{Steps, stage_of, t2_of, session_terms, id_bytes, request_next}
use Rattle.secured_record.specs.Faults.{header_fault, fault_behind, fault_of, is_authentic, tag_part}
use Rattle.secured_record.specs.Format.{plain_text}
use Rattle.std.proofs.lemmas.Slice.Eq.{bytes_eq-Decides}
use Rattle.spdm_basis.specs.declared.causes.record_fault.RecordFault.{RecordFault}
use Rattle.spdm_basis.specs.declared.causes.record_fault.RecordFault.TheVariants.{BadTag}
use Rattle.spdm_grammar.specs.declared.messages.choice.Choice.{Choice}
use Rattle.spdm_machine.specs.Keys.{record_fault}
use Rattle.spdm_machine.specs.Sessions.{is_past_handshake}
use Rattle.requester_machine.specs.Setup.{ReqSetup}
use Rattle.spdm_machine.specs.TagLog.{Act, Log, record_input, record_tag}
use Rattle.spdm_machine.specs.TagLog.Act.{Made, Checked}
use Rattle.spdm_agreement.specs.Marks as marks
use Rattle.spdm_agreement.specs.Marks.{Served, Text, heard, outstanding, asked_open}
use Rattle.spdm_agreement.specs.Moves.{State, IsPassed}
use Rattle.spdm_agreement.specs.Moves.Move.{Say, Hear, Check}
use Rattle.spdm_agreement.specs.Reading.{covered}
use Rattle.spdm_agreement.specs.Story.{asked_first, answer_text}
use Rattle.spdm_agreement.proofs.Requester.Entries.{RequestTells}
use Rattle.spdm_agreement.proofs.Requester.Counts.{HeldWell, request_under, request_number, answer_under, answer_at}
use Rattle.spdm_agreement.proofs.Worlds.EndSteps.{OwnLeads}
use Rattle.spdm_agreement.proofs.Messages.Beginnings.{reading_of, sealed_of}
use Rattle.spdm_agreement.proofs.Messages.RecordTexts.{made_input, checked_input, inner_text}

abbrev pub at : List marks.Asked → List Served → Log → State
at m served log = record { asked = m; served = served; log = log }

-- ---- A record that is sealed.

pub next_input : (psk : List ℕ) (s : Steps) (inner pad : List ℕ) → record_input (request_next s) (sealed_next psk s inner pad) ≡ request_next s ∷ sealed_of (asked_first s) (request_purpose psk s) (request_next s) (plain_text inner pad)
unfolding sealed_next
next_input psk s inner pad = made_input (asked_first s) (request_purpose psk s) (request_next s) inner pad

abbrev pub tag_made : List ℕ → Steps → List ℕ → List ℕ → List ℕ
tag_made psk s inner pad = record_tag (session_terms s).choice (request_purpose psk s) (request_next s) (sealed_next psk s inner pad)

-- What is made, for a purpose and number that are those of the session.
pub made_as : (psk : List ℕ) (s : Steps) (inner pad : List ℕ) (p : Purpose) (n : ℕ) → request_purpose psk s ≡ p → request_next s ≡ n
    → record_made psk s (Sealed (sealed_next psk s inner pad) inner pad) ≡ Made p (covered (reading_of psk) (asked_first s) p n (plain_text inner pad)) (tag_made psk s inner pad) ∷ []
made_as psk s inner pad p n under number =
    ap (λ (i : List ℕ). Made (request_purpose psk s) i (tag_made psk s inner pad) ∷ []) (next_input psk s inner pad)
    ∙ ap (λ (x : Purpose). Made x (request_next s ∷ sealed_of (asked_first s) x (request_next s) (plain_text inner pad)) (tag_made psk s inner pad) ∷ []) under
    ∙ ap (λ (k : ℕ). Made p (k ∷ sealed_of (asked_first s) p k (plain_text inner pad)) (tag_made psk s inner pad) ∷ []) number

pub says : (psk : List ℕ) (s : Steps) (id : ℕ) (m : List marks.Asked) (served : List Served) (log : Log) (inner pad : List ℕ) → is_past_handshake (stage_of s) ≡ true
    → asked_open (reading_of psk) id m ≡ Some (asked_first s, t2_of s) → HeldWell psk s m None
    → OwnLeads (reading_of psk) (at m served log) (at (marks.Asked.Sealed (t2_of s) (plain_text inner pad) ∷ m) served (record_made psk s (Sealed (sealed_next psk s inner pad) inner pad) ++ log))
says psk s id m served log inner pad past is k =
    let r = reading_of psk in
    let acts = made_as psk s inner pad (marks.request_purpose r (t2_of s) (heard (t2_of s) m)) (marks.request_number r (heard (t2_of s) m)) (request_under psk s m None past k) (request_number psk s m k) in (
      Say (asked_first s) (t2_of s) (plain_text inner pad) (tag_made psk s inner pad) ∷ [],
      (tt, tt),
      (((id, is), k.outstanding), ap (λ (l : List Act). at (marks.Asked.Sealed (t2_of s) (plain_text inner pad) ∷ m) served (l ++ log)) (sym acts)),
    )

-- ---- A record that opened.

first_passed : (b : Bool) (fault : RecordFault) (others : Option RecordFault) → cond (not b) (Some fault) others ≡ None → b ≡ true
first_passed true fault others is = refl
first_passed false fault others is = absurd (cc)

no_fault_behind : (header : Option RecordFault) (key iv : List ℕ) (number : ℕ) (sealed : List ℕ) → fault_behind header key iv number sealed ≡ None → (header ≡ None) × (is_authentic key iv number sealed ≡ true)
no_fault_behind (Some fault) key iv number sealed is = absurd (cc)
no_fault_behind None key iv number sealed is = (refl, first_passed (is_authentic key iv number sealed) BadTag _ is)

pub opened_as : (choice : Choice) (p : Purpose) (number : ℕ) (id sealed : List ℕ) → record_fault choice p number id sealed ≡ None → (header_fault id number sealed ≡ None) × (record_tag choice p number sealed ≡ tag_part sealed)
unfolding record_fault fault_of is_authentic record_tag
opened_as choice p number id sealed is =
    let l = no_fault_behind (header_fault id number sealed) (key_of choice.hash choice.aead p) (iv_of choice.hash p) number sealed is in
    (l.0, sym ((bytes_eq-Decides _ _).0 l.1))

pub answer_opened : (psk : List ℕ) (s : Steps) (ask : Ask) (sealed : List ℕ) → answer_fault psk s ask sealed ≡ None
    → (header_fault (id_bytes s) (answer_number s ask) sealed ≡ None) × (record_tag (session_terms s).choice (answer_purpose psk s ask) (answer_number s ask) sealed ≡ tag_part sealed)
unfolding answer_fault
answer_opened psk s ask sealed is = opened_as (session_terms s).choice (answer_purpose psk s ask) (answer_number s ask) (id_bytes s) sealed is

-- The tag was compared, over this text and under these purpose and number.
abbrev pub tag_of_answer : List ℕ → Steps → Ask → List ℕ → List ℕ
tag_of_answer psk s ask sealed = record_tag (session_terms s).choice (answer_purpose psk s ask) (answer_number s ask) sealed

pub checked_as : (q : ReqSetup) (s : Steps) (ask : Ask) (sealed : List ℕ) → answer_fault q.psk s ask sealed ≡ None
    → record_check q s ask sealed ≡ Checked (answer_purpose q.psk s ask) (record_input (answer_number s ask) sealed) (tag_of_answer q.psk s ask sealed) (tag_part sealed) ∷ []
checked_as q s ask sealed is =
    ap (λ (o : Option RecordFault). cond (is_none o) (Checked (answer_purpose q.psk s ask) (record_input (answer_number s ask) sealed) (tag_of_answer q.psk s ask sealed) (tag_part sealed) ∷ []) []) (answer_opened q.psk s ask sealed is).0

pub passed_as : (psk : List ℕ) (s : Steps) (ask : Ask) (sealed : List ℕ) (log : Log) (p : Purpose) (n : ℕ) → answer_fault psk s ask sealed ≡ None → answer_purpose psk s ask ≡ p → answer_number s ask ≡ n
    → IsPassed p (covered (reading_of psk) (asked_first s) p n (answer_text psk s ask sealed)) (Checked (answer_purpose psk s ask) (record_input (answer_number s ask) sealed) (tag_of_answer psk s ask sealed) (tag_part sealed) ∷ log)
passed_as psk s ask sealed log p n is under number =
    let l = answer_opened psk s ask sealed is in
    inl (
      under,
      checked_input (asked_first s) (answer_purpose psk s ask) (answer_number s ask) sealed l.0
          ∙ ap (λ (x : Purpose). answer_number s ask ∷ sealed_of (asked_first s) x (answer_number s ask) (answer_text psk s ask sealed)) under
          ∙ ap (λ (k : ℕ). k ∷ sealed_of (asked_first s) p k (answer_text psk s ask sealed)) number,
      l.1,
    )

-- The inner message stands in the text.
pub inner_as : (psk : List ℕ) (s : Steps) (ask : Ask) (sealed : List ℕ) → answer_inner psk s ask sealed ≡ take (little_number 2 (answer_text psk s ask sealed)) (drop 2 (answer_text psk s ask sealed))
unfolding answer_inner
inner_as psk s ask sealed = inner_text (session_terms s).choice (answer_purpose psk s ask) (answer_number s ask) sealed

pub hears : (q : ReqSetup) (s : Steps) (id : ℕ) (m : List marks.Asked) (served : List Served) (log : Log) (ask : Ask) (b : Text) (sealed : List ℕ) → is_past_handshake (stage_of s) ≡ true
    → asked_open (reading_of q.psk) id m ≡ Some (asked_first s, t2_of s) → HeldWell q.psk s m (Some b) → RequestTells ask b → answer_fault q.psk s ask sealed ≡ None
    → OwnLeads (reading_of q.psk) (at m served log) (at (marks.Asked.Heard (t2_of s) b (answer_text q.psk s ask sealed) ∷ m) served (record_check q s ask sealed ++ log))
hears q s id m served log ask b sealed past is k tells opened =
    let r = reading_of q.psk in
    let u = t2_of s in (
      Check (answer_purpose q.psk s ask) (record_input (answer_number s ask) sealed) (tag_of_answer q.psk s ask sealed) (tag_part sealed) ∷ Hear (asked_first s) u b (answer_text q.psk s ask sealed) ∷ [],
      (tt, (tt, tt)),
      (
        tt,
        (
          ((id, is), k.outstanding, passed_as q.psk s ask sealed log (marks.reply_purpose r u ((b, r.granted) ∷ heard u m)) (marks.reply_number r ((b, r.granted) ∷ heard u m)) opened (answer_under q.psk s m ask b (Some b) past k tells) (answer_at q.psk s m ask b (Some b) k tells)),
          ap (λ (l : List Act). at (marks.Asked.Heard u b (answer_text q.psk s ask sealed) ∷ m) served (l ++ log)) (sym (checked_as q s ask sealed opened)),
        ),
      ),
    )
