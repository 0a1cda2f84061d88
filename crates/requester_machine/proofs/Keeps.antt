-- A session that is live after an entry was live before it, under the same negotiation, unless it was begun by it.
use Rattle.std.proofs.Common.{refl, ◌≡◌, ◌∙◌, ℕ, List, [], ◌∷◌, true, false, Bool, Option, Some, None}
use Rattle.std.specs.Prelude.{◌==◌, if◌then◌else◌}
use Rattle.std.proofs.lemmas.Bool.{false≢true}
use Rattle.spdm_grammar.specs.Message.RequestMessage.{PskExchange}
use Rattle.requester_machine.specs.History.{Effect}
use Rattle.requester_machine.specs.History.Effect.{Answers, Refuses}
use Rattle.requester_machine.specs.Message.{Ask, Aim, Content, Sent}
use Rattle.requester_machine.specs.Message.Aim.{InSession}
use Rattle.requester_machine.specs.Message.Content.{Clear, Sealed}
use Rattle.requester_machine.specs.Session.{Steps, session_negotiation, is_live, when_live, with_content, with_aim, with_sent, after_clear, after_record, ends}
use Rattle.requester_machine.specs.Session.Step.{Accepted, Asked, Took}

-- The steps s become x.
abbrev pub Keeps : Steps → Steps → Type 0
Keeps s x = is_live x ≡ true → (is_live s ≡ true) × (session_negotiation x ≡ session_negotiation s)

pub itself : (s : Steps) → Keeps s s
itself s live = (live, refl)

pub ended : (s : Steps) → Keeps s []
ended s live = absurd (false≢true live)

pub either_keeps : (b : Bool) (s x y : Steps) → Keeps s x → Keeps s y → Keeps s (if b then x else y)
either_keeps true s x y k l = k
either_keeps false s x y k l = l

pub both_keep : (s x y : Steps) → Keeps s x → Keeps x y → Keeps s y
both_keep s x y k l live = (let m = l live in let n = k m.0 in (n.0, m.1 ∙ n.1))

accepted_keeps : (answer : List ℕ) (s : Steps) → Keeps s (when_live s (Accepted answer))
accepted_keeps answer [] live = absurd (false≢true live)
accepted_keeps answer (x ∷ s) live = (refl, refl)

asked_keeps : (ask : Ask) (inner sealed : List ℕ) (s : Steps) → Keeps s (when_live s (Asked ask inner sealed))
asked_keeps ask inner sealed [] live = absurd (false≢true live)
asked_keeps ask inner sealed (x ∷ s) live = (refl, refl)

took_keeps : (sealed inner : List ℕ) (effect : Effect) (s : Steps) → Keeps s (when_live s (Took sealed inner effect))
took_keeps sealed inner effect [] live = absurd (false≢true live)
took_keeps sealed inner effect (x ∷ s) live = (refl, refl)

content_keeps : (ask : Ask) (content : Content) (s : Steps) → Keeps s (with_content ask content s)
content_keeps ask (Clear message) s = itself s
content_keeps ask (Sealed sealed inner pad) s = asked_keeps ask inner sealed s

aim_keeps : (id : ℕ) (aim : Aim) (content : Content) (s : Steps) → Keeps s (with_aim id aim content s)
aim_keeps id (InSession of ask) content s = either_keeps (of == id) s (with_content ask content s) s (content_keeps ask content s) (itself s)
aim_keeps id _ content s = itself s

pub sent_keeps : (id : ℕ) (next : Option Sent) (s : Steps) → Keeps s (with_sent id next s)
sent_keeps id None s = itself s
sent_keeps id (Some sent) s = aim_keeps id sent.aim sent.content s

clear_keeps : (id : ℕ) (effect : Effect) (s : Steps) → Keeps s (after_clear id effect s)
clear_keeps id (Answers (PskExchange exchange) answer) s = either_keeps (exchange.req_id == id) s (when_live s (Accepted answer)) s (accepted_keeps answer s) (itself s)
clear_keeps id (Refuses (PskExchange exchange)) s = either_keeps (exchange.req_id == id) s [] s (ended s) (itself s)
clear_keeps id _ s = itself s

record_keeps : (sealed inner : List ℕ) (effect : Effect) (s : Steps) → Keeps s (after_record sealed inner effect s)
record_keeps sealed inner effect s = either_keeps (ends effect) s [] (when_live s (Took sealed inner effect)) (ended s) (took_keeps sealed inner effect s)

-- After a clear message, and after a record.
pub behind_clear : (id : ℕ) (effect : Effect) (next : Option Sent) (s : Steps) → Keeps s (with_sent id next (after_clear id effect s))
behind_clear id effect next s = both_keep s (after_clear id effect s) (with_sent id next (after_clear id effect s)) (clear_keeps id effect s) (sent_keeps id next (after_clear id effect s))

pub behind_record : (b : Bool) (id : ℕ) (sealed inner : List ℕ) (effect : Effect) (next : Option Sent) (s : Steps) → Keeps s (if b then with_sent id next (after_record sealed inner effect s) else s)
behind_record b id sealed inner effect next s =
    either_keeps b s (with_sent id next (after_record sealed inner effect s)) s
    (both_keep s (after_record sealed inner effect s) (with_sent id next (after_record sealed inner effect s)) (record_keeps sealed inner effect s) (sent_keeps id next (after_record sealed inner effect s)))
    (itself s)
