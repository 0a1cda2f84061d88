-- What a requester may choose depends on the sessions that are live and on what was settled, and on no padding.
use Rattle.std.proofs.Common.{◌≡◌, ◌≢◌, ◌≤◌, ◌==◌, ℕ, List, ◌∷◌, sym, ap, ◌∙◌, subst, length, Bool, true, false, Option, cond}
use Rattle.spdm_machine.specs.Sessions.{one_if}
use Rattle.spdm_machine.specs.Terms.{Terms, hash_len, terms_of}
use Rattle.requester_machine.specs.Commands.{Free, live_count}
use Rattle.requester_machine.specs.History.{History, Effect, Entry, connection_terms, negotiation_after, negotiation_of}
use Rattle.requester_machine.specs.History.Entry.{Told, TookClear, TookRecord}
use Rattle.requester_machine.specs.May.{IsAllowed}
use Rattle.requester_machine.specs.Message.{Sent}
use Rattle.requester_machine.specs.Session.{Steps, after_clear, after_record, is_live, session_of, with_sent}
use Rattle.requester_machine.specs.Setup.{ReqSetup}
use Rattle.requester_machine.proofs.Ids.{with_sent-live}
use Rattle.capture_machine.proofs.Agrees.{Agree}
use Rattle.capture_machine.proofs.AsksAlike.{terms_same}
use Rattle.capture_machine.proofs.HearsAlike.{EntryAlike}

-- The same sessions are live, and the same was settled.
pub record Equals (h g : History) : Type 0 where
  pub terms : connection_terms h ≡ connection_terms g
  pub live : (id : ℕ) → is_live (session_of id h) ≡ is_live (session_of id g)

count_same : (h g : History) → Equals h g → live_count h ≡ live_count g
count_same h g e =
    let one = ap one_if (e.live 1) in
    let two = ap one_if (e.live 2) in
    let three = ap one_if (e.live 3) in
    let four = ap one_if (e.live 4) in
    cc

pub allowed_same : (q : ReqSetup) (h g : History) (f : Free) → Equals h g → IsAllowed q h f → IsAllowed q g f
allowed_same q h g f e allowed = record {
  least = allowed.least;
  most = allowed.most;
  unused = λ (room : live_count g ≢ 4). sym (e.live f.id) ∙ allowed.unused (λ full. room (sym (count_same h g e) ∙ full));
  context = subst (λ (t : Terms). hash_len t ≤ length f.context) e.terms allowed.context;
  opaque = allowed.opaque;
  exchange = allowed.exchange;
  pad = allowed.pad;
}

pub agree_equals : (h g : History) → Agree h g → Equals h g
agree_equals h g a = record { terms = terms_same h g a; live = λ id. ap is_live (a.sessions id) }

-- ---- Entries that differ at most in the padding of what is sent next.

pub clear_lives : (id : ℕ) (o p : Option Sent) (effect other : Effect) (s t : Steps) → effect ≡ other → s ≡ t → is_live (with_sent id o (after_clear id effect s)) ≡ is_live (with_sent id p (after_clear id other t))
clear_lives id o p effect other s t same steps =
    with_sent-live id o (after_clear id effect s) ∙ ap (λ e. is_live (after_clear id e s)) same ∙ ap (λ (x : Steps). is_live (after_clear id other x)) steps ∙ sym (with_sent-live id p (after_clear id other t))

pub record_lives : (id : ℕ) (b : Bool) (sealed inner : List ℕ) (o p : Option Sent) (effect other : Effect) (s t : Steps) → effect ≡ other → s ≡ t
    → is_live (cond b (with_sent id o (after_record sealed inner effect s)) s) ≡ is_live (cond b (with_sent id p (after_record sealed inner other t)) t)
record_lives id true sealed inner o p effect other s t same steps =
    with_sent-live id o (after_record sealed inner effect s) ∙ ap (λ e. is_live (after_record sealed inner e s)) same ∙ ap (λ (x : Steps). is_live (after_record sealed inner other x)) steps
    ∙ sym (with_sent-live id p (after_record sealed inner other t))
record_lives id false sealed inner o p effect other s t same steps = ap is_live steps

pub entry_equals : (e f : Entry) (h g : History) → EntryAlike e f → Agree h g → Equals (e ∷ h) (f ∷ g)
unfolding session_of
entry_equals (TookClear tag m led d) (TookClear tag' m' led' d') h g alike a = record {
  terms = ap (λ e. terms_of (negotiation_after e (negotiation_of h))) alike.2.effect ∙ ap (λ n. terms_of (negotiation_after led'.effect n)) a.negotiation;
  live = λ id. clear_lives id led.next led'.next led.effect led'.effect (session_of id h) (session_of id g) alike.2.effect (a.sessions id);
}
entry_equals (TookRecord tag of sealed inner led d) (TookRecord tag' of' sealed' inner' led' d') h g alike a = record {
  terms = terms_same h g a;
  live = λ id.
      let S : Steps = session_of id h in
      let T : Steps = session_of id g in
      let mine : Bool → List ℕ → List ℕ → Bool = λ b s i. is_live (cond b (with_sent id led'.next (after_record s i led'.effect T)) T) in
      record_lives id (of == id) sealed inner led.next led'.next led.effect led'.effect S T alike.4.effect (a.sessions id)
      ∙ ap (λ (n : ℕ). mine (n == id) sealed inner) alike.1 ∙ ap (λ (l : List ℕ). mine (of' == id) l inner) alike.2 ∙ ap (mine (of' == id) sealed') alike.3;
}
entry_equals (Told c s d) f h g alike a = absurd alike
entry_equals (TookClear tag m led d) (Told c s x) h g alike a = absurd alike
entry_equals (TookClear tag m led d) (TookRecord tag' id' sealed' inner' led' d') h g alike a = absurd alike
entry_equals (TookRecord tag id sealed inner led d) (Told c s x) h g alike a = absurd alike
entry_equals (TookRecord tag id sealed inner led d) (TookClear tag' m' led' d') h g alike a = absurd alike
