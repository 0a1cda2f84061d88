-- An assembler answers each packet as gathering does, and still stands for the packets that it was given.
use Rattle.std.proofs.Common.{◌≡◌, ◌∙◌, ◌&&◌, ℕ, Bool, true, false, not, cond, List, [], ◌∷◌, ◌++◌, length, refl, sym, ap, subst}
use Rattle.std.specs.Prelude.{filter, Option, Some, None, is_none, if◌then◌else◌}
use Rattle.spdm_basis.specs.declared.DropCause.{DropCause}
use Rattle.spdm_basis.specs.declared.DropCause.TheVariants.{NoStart, NotOurs}
use Rattle.mctp_framing.specs.declared.unfinished.Unfinished.{Unfinished}
use Rattle.mctp_framing.specs.Packet.{PacketFields}
use Rattle.mctp_framing.specs.Gathering.{Receiver, Gathered, is_ours, has_same_tag, group_of, is_unfinished, broken_rule, unit_of, joined, belongs_to, answer_of, gathered}
use Rattle.mctp_framing.specs.Gathering.Gathered.{Dropped}
use Rattle.mctp_framing.specs.Assembling.{Assembly, StandsForGroup, StandsFor, goes_on, next_rule, unfinished_after, grown_unless, after_first, after_next, after_later, after_packet, answer_later, answer_to}
use Rattle.mctp_framing.proofs.GroupStep.{with_packet, group_of-later, group_of-first}

and_false : (a : Bool) → a && false ≡ false
and_false true = refl
and_false false = refl

and_true : (a : Bool) → a && true ≡ a
and_true true = refl
and_true false = refl

abbrev assembly : Receiver → Option Unfinished → List ℕ → Assembly
assembly r u body = record { receiver = r; unfinished = u; body = body }

-- what a packet without SOM is answered
answers_later : (r : Receiver) (u : Option Unfinished) (body : List ℕ) (p : PacketFields) (group : List PacketFields) → StandsForGroup r.limit u body group →
    answer_later u (assembly r u body) p ≡ (if belongs_to r.limit p group then answer_of r.limit p group else Dropped NoStart)
answers_later r None body p [] stands = refl
answers_later r None body p (q ∷ earlier) stands =
    let no : has_same_tag p q && is_unfinished r.limit (q ∷ earlier) ≡ false = ap (λ (b : Bool). has_same_tag p q && b) stands ∙ and_false (has_same_tag p q) in
    sym (ap (λ (b : Bool). if b then answer_of r.limit p (q ∷ earlier) else Dropped NoStart) no)
answers_later r (Some u) body p [] stands = absurd stands
answers_later r (Some u) body p (q ∷ earlier) stands =
    let same : has_same_tag p q && is_unfinished r.limit (q ∷ earlier) ≡ has_same_tag p q = ap (λ (b : Bool). has_same_tag p q && b) stands.0 ∙ and_true (has_same_tag p q) in
    let answer : Unfinished → List ℕ → Gathered = λ v xs. answer_later (Some v) (assembly r (Some v) xs) p in
    ap (λ (v : Unfinished). answer v body) stands.1
    ∙ ap (λ (xs : List ℕ). answer (unfinished_after q (unit_of (q ∷ earlier))) xs) stands.2
    ∙ sym (ap (λ (b : Bool). if b then answer_of r.limit p (q ∷ earlier) else Dropped NoStart) same)

pub answers : (a : Assembly) (given : List PacketFields) (p : PacketFields) → StandsFor a given → answer_to a p ≡ gathered a.receiver given p
answers a given p stands =
    let r = a.receiver in
    let later = answers_later r a.unfinished a.body p (group_of (filter (is_ours r) given)) stands in
    ap (λ (x : Gathered). if not (is_ours r p) then Dropped NotOurs else (if p.start then answer_of r.limit p [] else x)) later

-- after a packet that breaks no rule
stands_grown : (limit : ℕ) (end : Bool) (p : PacketFields) (unit : ℕ) (body : List ℕ) (earlier : List PacketFields) →
    is_unfinished limit (p ∷ earlier) ≡ not end → unit_of (p ∷ earlier) ≡ unit → body ≡ joined (p ∷ earlier) →
    StandsForGroup limit (if end then None else Some (unfinished_after p unit)) body (p ∷ earlier)
stands_grown limit true p unit body earlier more size bytes = more
stands_grown limit false p unit body earlier more size bytes = (more, ap (λ (n : ℕ). unfinished_after p n) (sym size), bytes)

-- after a packet of a group, by the rule that it breaks
stands_unless : (r : Receiver) (rule : Option DropCause) (p : PacketFields) (unit : ℕ) (body : List ℕ) (earlier : List PacketFields) →
    is_unfinished r.limit (p ∷ earlier) ≡ not p.end && is_none rule → unit_of (p ∷ earlier) ≡ unit → body ++ p.payload ≡ joined (p ∷ earlier) →
    let a = grown_unless rule (assembly r None body) p unit in StandsForGroup r.limit a.unfinished a.body (p ∷ earlier)
stands_unless r (Some cause) p unit body earlier more size bytes = more ∙ and_false (not p.end)
stands_unless r None p unit body earlier more size bytes =
    stands_grown r.limit p.end p unit (body ++ p.payload) earlier (more ∙ and_true (not p.end)) size bytes

-- after a packet without SOM that has the tag of the group, and one that has another
stands_next : (r : Receiver) (same : Bool) (p q : PacketFields) (body : List ℕ) (earlier : List PacketFields) →
    is_unfinished r.limit (q ∷ earlier) ≡ true → body ≡ joined (q ∷ earlier) →
    let u = unfinished_after q (unit_of (q ∷ earlier)) in
    let a = (if same then after_next (assembly r (Some u) body) u p else assembly r (Some u) body) in
    StandsForGroup r.limit a.unfinished a.body (if same then p ∷ q ∷ earlier else q ∷ earlier)
stands_next r true p q body earlier more bytes =
    let u = unfinished_after q (unit_of (q ∷ earlier)) in
    let x : Bool = not p.end && is_none (broken_rule r.limit (p ∷ q ∷ earlier)) in
    let rule : next_rule r.limit u (length body) p ≡ broken_rule r.limit (p ∷ q ∷ earlier) = ap (λ (xs : List ℕ). next_rule r.limit u (length xs) p) bytes in
    let end : is_unfinished r.limit (p ∷ q ∷ earlier) ≡ not p.end && is_none (next_rule r.limit u (length body) p) =
    ap (λ (b : Bool). x && b) more ∙ and_true x ∙ ap (λ (o : Option DropCause). not p.end && is_none o) (sym rule) in
    stands_unless r (next_rule r.limit u (length body) p) p (unit_of (q ∷ earlier)) body (q ∷ earlier) end refl (ap (λ (xs : List ℕ). xs ++ p.payload) bytes)
stands_next r false p q body earlier more bytes = (more, refl, bytes)

-- where nothing is unfinished, nothing is after a packet without SOM
closed_later : (limit : ℕ) (same : Bool) (p q : PacketFields) (earlier : List PacketFields) → is_unfinished limit (q ∷ earlier) ≡ false →
    is_unfinished limit (if same then p ∷ q ∷ earlier else q ∷ earlier) ≡ false
closed_later limit true p q earlier closed =
    let x : Bool = not p.end && is_none (broken_rule limit (p ∷ q ∷ earlier)) in
    ap (λ (b : Bool). x && b) closed ∙ and_false x
closed_later limit false p q earlier closed = closed

stands_later : (r : Receiver) (u : Option Unfinished) (body : List ℕ) (p : PacketFields) (group : List PacketFields) → StandsForGroup r.limit u body group →
    let a = after_later u (assembly r u body) p in StandsForGroup r.limit a.unfinished a.body (with_packet p group)
stands_later r None body p [] stands = refl
stands_later r None body p (q ∷ earlier) stands = closed_later r.limit (has_same_tag p q) p q earlier stands
stands_later r (Some u) body p [] stands = absurd stands
stands_later r (Some u) body p (q ∷ earlier) stands =
    let P : Unfinished → Type 0 = λ v.
    let a = after_later (Some v) (assembly r (Some v) body) p in StandsForGroup r.limit a.unfinished a.body (with_packet p (q ∷ earlier)) in
    subst P (sym stands.1) (stands_next r (has_same_tag p q) p q body earlier stands.0 stands.2)

stands_first : (r : Receiver) (u : Option Unfinished) (body : List ℕ) (p : PacketFields) →
    let a = after_first (assembly r u body) p in StandsForGroup r.limit a.unfinished a.body (p ∷ [])
stands_first r u body p = stands_unless r (broken_rule r.limit (p ∷ [])) p (length p.payload) [] [] refl refl refl

-- what is kept stands for a group, at the limit of a receiver
abbrev StandsIn : Receiver → Assembly → List PacketFields → Type 0
StandsIn r a group = StandsForGroup r.limit a.unfinished a.body group

stands_ours : (a : Assembly) (packets : List PacketFields) (p : PacketFields) (start : Bool) → p.start ≡ start → StandsIn a.receiver a (group_of packets) →
    StandsIn a.receiver (if start then after_first a p else after_later a.unfinished a p) (group_of (p ∷ packets))
stands_ours a packets p true e before =
    let P : List PacketFields → Type 0 = λ group. StandsIn a.receiver (after_first a p) group in
    subst P (sym (group_of-first p packets e)) (stands_first a.receiver a.unfinished a.body p)
stands_ours a packets p false e before =
    let P : List PacketFields → Type 0 = λ group. StandsIn a.receiver (after_later a.unfinished a p) group in
    subst P (sym (group_of-later p packets e)) (stands_later a.receiver a.unfinished a.body p (group_of packets) before)

stands_after : (a : Assembly) (packets : List PacketFields) (p : PacketFields) (ours : Bool) → StandsIn a.receiver a (group_of packets) →
    StandsIn a.receiver (if not ours then a else (if p.start then after_first a p else after_later a.unfinished a p)) (group_of (cond ours (p ∷ packets) packets))
stands_after a packets p true before = stands_ours a packets p p.start refl before
stands_after a packets p false before = before

-- a packet changes neither the endpoints nor the limit
receiver_unless : (rule : Option DropCause) (a : Assembly) (p : PacketFields) (unit : ℕ) → (grown_unless rule a p unit).receiver ≡ a.receiver
receiver_unless (Some cause) a p unit = refl
receiver_unless None a p unit = refl

either : (b : Bool) (x y : Assembly) (r : Receiver) → x.receiver ≡ r → y.receiver ≡ r → (if b then x else y).receiver ≡ r
either true x y r ex ey = ex
either false x y r ex ey = ey

receiver_later : (u : Option Unfinished) (a : Assembly) (p : PacketFields) → (after_later u a p).receiver ≡ a.receiver
receiver_later None a p = refl
receiver_later (Some u) a p = either (goes_on p u) (after_next a u p) a a.receiver (receiver_unless _ _ p u.unit) refl

pub receiver_kept : (a : Assembly) (p : PacketFields) → (after_packet a p).receiver ≡ a.receiver
receiver_kept a p =
    let inner = either p.start (after_first a p) (after_later a.unfinished a p) a.receiver (receiver_unless _ _ p (length p.payload)) (receiver_later a.unfinished a p) in
    either (not (is_ours a.receiver p)) a (if p.start then after_first a p else after_later a.unfinished a p) a.receiver refl inner

pub stands : (a : Assembly) (given : List PacketFields) (p : PacketFields) → StandsFor a given → StandsFor (after_packet a p) (p ∷ given)
stands a given p before =
    let P : Receiver → Type 0 = λ r. StandsIn r (after_packet a p) (group_of (filter (is_ours r) (p ∷ given))) in
    subst P (sym (receiver_kept a p)) (stands_after a (filter (is_ours a.receiver) given) p (is_ours a.receiver p) before)
