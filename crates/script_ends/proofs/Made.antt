-- What an end is made of, and why there is none.
use Rattle.std.proofs.Common.{refl, ◌≡◌, ◌∙◌, ◌<◌, ◌+◌, ◌++◌, ◌∷◌, [], ℕ, zero, suc, List, false, ap, sym, length, arith, get_or, map, take}
use Rattle.std.specs.Prelude.{is_ok, is_err, if◌then◌else◌, Result, Ok, Err}
use Rattle.script_ends.specs.Configured.{IsRequesterFault, IsResponderFault, SetsUpResponder, known_in, requester_in}
use Rattle.requester.specs.Config as asking
use Rattle.requester.specs.SetUp.{setup_of}
use Rattle.requester.specs.declared.config.ReqConfig.{ReqConfig}
use Rattle.requester.specs.declared.fault.ReqConfigFault.{ReqConfigFault}
use Rattle.requester.specs.declared.fault.ReqConfigFault.TheVariants as asks
use Rattle.responder.specs.Config as answering
use Rattle.responder.specs.SetUp as known
use Rattle.responder.specs.declared.config.Known.{Known}
use Rattle.responder.specs.declared.config.RspConfig.{RspConfig}
use Rattle.responder.specs.declared.fault.RspConfigFault.{RspConfigFault}
use Rattle.responder.specs.declared.fault.RspConfigFault.TheVariants as answers
use Rattle.responder_machine.specs.Setup as machine
use Rattle.script_text.specs.declared.configuration.config.ReqPart.{ReqPart}
use Rattle.script_text.specs.declared.configuration.config.ScriptConfig.{ScriptConfig}
use Rattle.world_machine.specs.Setup.{known_of}

-- ---- One more at the end of a list.

-- where a push went well it is there
pub added : {A U E : Type 0} (r : Result U E) (l more new : List A) → new ≡ (if is_ok r then l ++ more else l) → false ≡ is_err r → new ≡ l ++ more
added (Ok u) l more new is ok = is
added (Err e) l more new is ok = absurd (cc ok)

pub take_more : {A : Type 0} (i : ℕ) (l : List A) (x : A) → i < length l → x ≡ get_or l i x → take (i + 1) l ≡ take i l ++ x ∷ []
take_more i [] x inside is = absurd (omega (arith, inside))
take_more zero (y ∷ l) x inside is = ap (λ z. z ∷ []) (sym is)
take_more {A} (suc i) (y ∷ l) x inside is =
    let next : suc i + 1 ≡ suc (i + 1) = omega arith in
    ap (λ (n : ℕ). take n (y ∷ l)) next ∙ ap (λ (m : List A). y ∷ m) (take_more i l x (omega (arith, inside)) is)

map_more : {A B : Type 0} (f : A → B) (l : List A) (x : A) → map f (l ++ x ∷ []) ≡ map f l ++ f x ∷ []
map_more f [] x = refl
map_more {A} {B} f (y ∷ l) x = ap (λ (m : List B). f y ∷ m) (map_more f l x)

-- ---- What a responder knows.

pub known_more : (responder i : ℕ) (qs : List ReqPart) (q : ReqPart) (ks : List Known) (k : Known) → i < length qs → q ≡ get_or qs i q → map known.known_of ks ≡ known_in responder (take i qs) → known.known_of k ≡ known_of (requester_in responder q)
    → map known.known_of (ks ++ k ∷ []) ≡ known_in responder (take (i + 1) qs)
known_more responder i qs q ks k inside is same own =
    map_more known.known_of ks k
    ∙ ap (λ (l : List machine.Known). l ++ known.known_of k ∷ []) same
    ∙ ap (λ (m : machine.Known). known_in responder (take i qs) ++ m ∷ []) own
    ∙ sym (ap (λ (l : List ReqPart). known_in responder l) (take_more i qs q inside is)
    ∙ ap (map known_of) (map_more (requester_in responder) (take i qs) q)
    ∙ map_more known_of (map (requester_in responder) (take i qs)) (requester_in responder q))

-- ---- Faults.

pub responder_fault : (c : ScriptConfig) (o : RspConfig) (fault : RspConfigFault) → SetsUpResponder c o → answering.IsCause o fault → IsResponderFault c fault
responder_fault c o answers.TooManyRequesters up is = record { config = o; sets_up = up; is = is }
responder_fault c o answers.SameEid up is = record { config = o; sets_up = up; is = is }
responder_fault c o answers.SamePsk up is = record { config = o; sets_up = up; is = is }
responder_fault c o answers.SizeRange up is = record { config = o; sets_up = up; is = is }
responder_fault c o (answers.Inventory of_blocks) up is = record { config = o; sets_up = up; is = is }
responder_fault c o answers.OutOfMemory up is = tt

pub requester_fault : (responder : ℕ) (q : ReqPart) (o : ReqConfig) (fault : ReqConfigFault) → setup_of o ≡ requester_in responder q → asking.IsCause o fault → IsRequesterFault responder q fault
requester_fault responder q o asks.SameEid up is = record { config = o; sets_up = up; is = is }
requester_fault responder q o asks.SizeRange up is = record { config = o; sets_up = up; is = is }
requester_fault responder q o asks.OutOfMemory up is = record { config = o; sets_up = up; is = is }
