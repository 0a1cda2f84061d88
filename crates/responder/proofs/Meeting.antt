-- A whole body that has an outcome.
use Rattle.std.proofs.Common.{◌≡◌, ◌∙◌, ℕ, List, Bool, true, ap, drop, subst, sym}
use Rattle.std.specs.Prelude.{◌==◌, ◌||◌, not, if◌then◌else◌}
use Rattle.mctp_framing.specs.Cutting.{RouteFields}
use Rattle.responder.specs.Came.{came_whole}
use Rattle.responder.specs.Came.Came.{Does, Told}
use Rattle.responder_core.specs.ClearPart.{is_drawn}
use Rattle.responder_core.specs.Connected.{IsDone}
use Rattle.responder_core.specs.declared.connected.Connection as kept
use Rattle.responder_machine.specs.Does.{clear_does, record_does, responder_does}
use Rattle.responder_machine.specs.Responder.{Outcome}
use Rattle.responder_machine.specs.Responding.{Connection}
use Rattle.spdm_grammar.specs.declared.told.heard.Heard.{Heard}
use Rattle.spdm_grammar.specs.declared.told.heard.Heard.TheVariants as heard
use Rattle.spdm_grammar.specs.declared.told.heard.RspIgnored.TheVariants as ignored
use Rattle.spdm_machine.specs.Keys.{Draw}
use Rattle.spdm_machine.specs.Packets.{body_type}

pub does_whole : (c : Connection) (d : Draw) (route : RouteFields) (body : List ℕ) → route.owner ≡ true → (body_type body == 5 || body_type body == 6) ≡ true
    → came_whole c d route body ≡ Does route body (responder_does c.setup c.history route.tag body d)
does_whole c d route body owner known =
    ap (λ (b : Bool). if not b then Told (heard.Ignored ignored.NotRequest) else (if not (body_type body == 5 || body_type body == 6) then Told (heard.Ignored ignored.OtherType) else Does route body (responder_does c.setup c.history route.tag body d))) owner
    ∙ ap (λ (b : Bool). if not b then Told (heard.Ignored ignored.OtherType) else Does route body (responder_does c.setup c.history route.tag body d)) known

-- Its type is known, and its connection did what it leads to.
pub record IsHeard (c : Connection) (tag : ℕ) (body : List ℕ) (d : Draw) (hears : Heard) (sent : List ℕ) (new : kept.Connection) : Type 0 where
  pub known : (body_type body == 5 || body_type body == 6) ≡ true
  pub done : IsDone c.setup c.history (responder_does c.setup c.history tag body d) hears sent new
  pub drawn : new.drawn ≡ is_drawn (responder_does c.setup c.history tag body d)

-- By its type.
heard_as : (c : Connection) (tag : ℕ) (body : List ℕ) (d : Draw) (hears : Heard) (sent : List ℕ) (new : kept.Connection) (o : Outcome) → (body_type body == 5 || body_type body == 6) ≡ true
    → responder_does c.setup c.history tag body d ≡ o → IsDone c.setup c.history o hears sent new → new.drawn ≡ is_drawn o → IsHeard c tag body d hears sent new
heard_as c tag body d hears sent new o known does done drawn =
    record { known = known; done = subst (λ (x : Outcome). IsDone c.setup c.history x hears sent new) (sym does) done; drawn = drawn ∙ ap is_drawn (sym does) }

pub clear_heard : (c : Connection) (tag : ℕ) (body message : List ℕ) (d : Draw) (hears : Heard) (sent : List ℕ) (new : kept.Connection) → body_type body ≡ 5 → message ≡ drop 1 body → IsDone c.setup c.history (clear_does c.setup c.history tag message d) hears sent new
    → new.drawn ≡ is_drawn (clear_does c.setup c.history tag message d) → IsHeard c tag body d hears sent new
clear_heard c tag body message d hears sent new is rest done drawn =
    heard_as c tag body d hears sent new (clear_does c.setup c.history tag message d) (ap (λ (n : ℕ). n == 5 || n == 6) is)
    (ap (λ (n : ℕ). if n == 5 then clear_does c.setup c.history tag (drop 1 body) d else record_does c.setup c.history tag (drop 1 body) d) is ∙ ap (λ (m : List ℕ). clear_does c.setup c.history tag m d) (sym rest)) done drawn

pub record_heard : (c : Connection) (tag : ℕ) (body message : List ℕ) (d : Draw) (hears : Heard) (sent : List ℕ) (new : kept.Connection) → body_type body ≡ 6 → message ≡ drop 1 body → IsDone c.setup c.history (record_does c.setup c.history tag message d) hears sent new
    → new.drawn ≡ is_drawn (record_does c.setup c.history tag message d) → IsHeard c tag body d hears sent new
record_heard c tag body message d hears sent new is rest done drawn =
    heard_as c tag body d hears sent new (record_does c.setup c.history tag message d) (ap (λ (n : ℕ). n == 5 || n == 6) is)
    (ap (λ (n : ℕ). if n == 5 then clear_does c.setup c.history tag (drop 1 body) d else record_does c.setup c.history tag (drop 1 body) d) is ∙ ap (λ (m : List ℕ). record_does c.setup c.history tag m d) (sym rest)) done drawn

-- The same at what is equal.
pub carried : (c : Connection) (tag : ℕ) (body : List ℕ) (d : Draw) (hears now_hears : Heard) (sent now_sent : List ℕ) (new now_new : kept.Connection) → now_hears ≡ hears → now_sent ≡ sent → now_new ≡ new
    → IsHeard c tag body d hears sent new → IsHeard c tag body d now_hears now_sent now_new
carried c tag body d hears now_hears sent now_sent new now_new same_hears same_sent same_new here =
    subst (λ (x : Heard). IsHeard c tag body d x now_sent now_new) (sym same_hears)
    (subst (λ (x : List ℕ). IsHeard c tag body d hears x now_new) (sym same_sent) (subst (λ (x : kept.Connection). IsHeard c tag body d hears sent x) (sym same_new) here))
