-- What the ends of one pre-shared key do, the ends of another see as tags of that key alone.
use Rattle.std.proofs.Common.{◌≢◌, List, [], ◌∷◌, refl, sym, subst}
use Rattle.spdm_machine.specs.TagLog.{Log}
use Rattle.spdm_agreement.specs.Marks.{Asked, Served, heard, taken, request_purpose, reply_purpose, request_input, reply_input}
use Rattle.spdm_agreement.specs.Moves.{State, Move, request_shake, response_shake, request_verify, response_verify, after, IsRun}
use Rattle.spdm_agreement.specs.Moves.Move.{Start, Begin, Accept, Finish, Refuse, Open, Say, Take, Hear, Check, Foreign}
use Rattle.spdm_agreement.specs.Reading.{Reading, covered}

-- The move is one of the ends of this key.
abbrev pub IsOwn : Move → Type 0
IsOwn (Foreign p i v) = ⊥
IsOwn _ = Unit {0}

abbrev pub AreOwn : List Move → Type 0
AreOwn [] = Unit {0}
AreOwn (m ∷ ms) = IsOwn m × AreOwn ms

-- Some moves lead from one state to another.
abbrev pub Leads : Reading → State → State → Type 0
Leads r s z = (ms : List Move) × IsRun r ms s z

-- With these marks, some moves lead from one log to another.
abbrev pub LogLeads : Reading → List Asked → List Served → (before later : Log) → Type 0
LogLeads r a v before later = Leads r (record { asked = a; served = v; log = before }) (record { asked = a; served = v; log = later })

one : (r other : Reading) (a : List Asked) (v : List Served) → r.psk ≢ other.psk → (m : Move) (s : State) → IsOwn m → LogLeads other a v s.log (after r m s).log
one r other a v n (Start id draw) s o = ([], refl)
one r other a v n (Begin t x) s o = (Foreign (response_verify r t) (r.transcript t) x ∷ [], (n, refl))
one r other a v n (Accept t input x y) s o = (Foreign (request_verify r t) input x ∷ Foreign (request_shake r t) (covered r t (request_shake r t) 0 (r.finish t)) y ∷ [], (n, (n, refl)))
one r other a v n (Finish t u number b at reply x) s o = (Foreign (response_shake r t) (covered r t (response_shake r t) at reply) x ∷ [], (n, refl))
one r other a v n (Refuse t number b at reply x) s o = (Foreign (response_shake r t) (covered r t (response_shake r t) at reply) x ∷ [], (n, refl))
one r other a v n (Open t u b) s o = ([], refl)
one r other a v n (Say t u b x) s o = (Foreign (request_purpose r u (heard u s.asked)) (request_input r t u (heard u s.asked) b) x ∷ [], (n, refl))
one r other a v n (Take t u b reply x) s o = (Foreign (reply_purpose r u ((b, reply) ∷ taken u s.served)) (reply_input r t u ((b, reply) ∷ taken u s.served) reply) x ∷ [], (n, refl))
one r other a v n (Hear t u b reply) s o = ([], refl)
one r other a v n (Check p i x y) s o = (Check p i x y ∷ [], (tt, refl))
one r other a v n (Foreign p i x) s o = absurd o

joined : (r : Reading) (ms ns : List Move) (s y z : State) → IsRun r ms s y → IsRun r ns y z → Leads r s z
joined r [] ns s y z run k = (ns, subst (λ (x : State). IsRun r ns x z) (sym run) k)
joined r (m ∷ ms) ns s y z run k = (let l = joined r ms ns (after r m s) y z run.1 k in (m ∷ l.0, (run.0, l.1)))

pub join : (r : Reading) (s y z : State) → Leads r s y → Leads r y z → Leads r s z
join r s y z run k = joined r run.0 k.0 s y z run.1 k.1

-- A run of one key, as the ends of another see it.
pub theirs : (r other : Reading) (a : List Asked) (v : List Served) → r.psk ≢ other.psk → (ms : List Move) (s z : State) → AreOwn ms → IsRun r ms s z → LogLeads other a v s.log z.log
theirs r other a v n [] s z o run = subst (λ (x : State). LogLeads other a v s.log x.log) run ([], refl)
theirs r other a v n (m ∷ ms) s z o run = join other _ _ _ (one r other a v n m s o.0) (theirs r other a v n ms (after r m s) z o.1 run.1)
