use Rattle.std.proofs.Common.{rules, ◌≡◌, ◌∙◌, ◌+◌, ◌-◌, ℕ, List, Bool, ap, drop, length, subst, sym, take, true, false}
use Rattle.std.proofs.lemmas.List.{take_rest}
use Rattle.std.specs.Prelude.{slice_index}
use Rattle.responder_core.specs.ClearPart.{is_drawn}
use Rattle.mctp_framing.specs.Cutting.{RouteFields, packets_of, route_of}
use Rattle.responder.proofs.Data.{body_data}
use Rattle.responder.proofs.Meeting.{IsHeard, carried, clear_heard, does_whole, record_heard}
use Rattle.responder.proofs.whole.hear_whole.Goals as goal
use Rattle.responder.proofs.whole.hear_whole.Goals.{in-5, in-6}
use Rattle.responder.specs.Came.{Came, IsMet, IsShort, last_for}
use Rattle.responder.specs.declared.room.Room.{Room}
use Rattle.responder_machine.specs.Does.{responder_does}
use Rattle.responder_machine.specs.Responder.{Outcome, after, body_of}
use Rattle.responder_machine.specs.Setup.{RspSetup}
use Rattle.spdm_grammar.specs.declared.told.heard.Heard.{Heard}
use Rattle.spdm_machine.specs.Keys.{Draw, draw_of}
use Rattle.session_keys.proofs.Draws.{draw_is}
use Rattle.session_keys.specs.Drawing.{draw_as, drawn_by}

pub returns : goal.returns
returns c = λ p q k part set towards_is made few below to from empty stands.
    let old = c.args.shared.now in
    let d : Draw = draw_of old.draws.seed old.draws.number in
    let next : Draw = draw_as c.peek-drawn.result in
    let bytes : List ℕ = c.args.bytes.now in
    let message : List ℕ = take (length bytes - 1) (drop 1 bytes) in
    let tag : ℕ = c.args.route.tag in
    let o : Outcome = responder_does k.setup k.history tag bytes d in
    let drawn = draw_is c.peek-drawn.result old.draws.seed old.draws.number c.peek-drawn.ensures.number c.peek-drawn.ensures.bytes in
    let here : IsHeard k tag bytes next c.match-bytes.heard c.match-bytes.room.body c.match-bytes.connection = elim c.match-bytes.branch [
      | in-5 w ↦
          let first : slice_index bytes 0 ≡ 5 = search rules in
          carried k tag bytes next w.hear_clear-heard.result c.match-bytes.heard w.hear_clear-heard.new.room.body c.match-bytes.room.body w.hear_clear-heard.new.connection c.match-bytes.connection
          w.heard-is (ap (λ (x : Room). x.body) w.room-is) w.connection-is
          (clear_heard k tag bytes message next w.hear_clear-heard.result w.hear_clear-heard.new.room.body w.hear_clear-heard.new.connection first (take_rest bytes 1)
          (w.hear_clear-heard.ensures.done k.setup k.history set made stands) (w.hear_clear-heard.ensures.drawn k.setup k.history set made stands))
      | in-6 w ↦
          let first : slice_index bytes 0 ≡ 6 = search rules in
          carried k tag bytes next w.hear_record-heard.result c.match-bytes.heard w.hear_record-heard.new.room.body c.match-bytes.room.body w.hear_record-heard.new.connection c.match-bytes.connection
          w.heard-is (ap (λ (x : Room). x.body) w.room-is) w.connection-is
          (record_heard k tag bytes message next w.hear_record-heard.result w.hear_record-heard.new.room.body w.hear_record-heard.new.connection first (take_rest bytes 1)
          (w.hear_record-heard.ensures.done k.setup k.history tag set few stands) (w.hear_record-heard.ensures.drawn k.setup k.history tag set few stands))
    ] in
    let heard = subst (λ (x : Draw). IsHeard k tag bytes x c.match-bytes.heard c.match-bytes.room.body c.match-bytes.connection) drawn here in
    let done = heard.done in
    let tells = body_data k.setup k.history tag bytes d old.last in
    let route : ℕ → ℕ → RouteFields = λ x y. record { to = x; from = y; owner = false; tag = tag } in
    let peer = ap (λ (s : RspSetup). s.peer) towards_is ∙ sym from in
    let eid = ap (λ (s : RspSetup). s.eid) towards_is ∙ sym to in
    let unit = ap (λ (s : RspSetup). s.unit) towards_is ∙ part.unit in
    let owned : c.args.route.owner ≡ true = search rules in
    subst (λ (x : Came). IsMet k x c.match-bytes.heard c.fill.new.self c.match-bytes.connection old c.follow.new.self) (sym (does_whole k d (route_of c.args.route) bytes owned heard.known))
    (record {
      told = done.told;
      sent =
          c.fill.ensures ∙ ap (λ (r : RouteFields). packets_of r c.from.result c.as_slice.result.now) c.reversed.ensures
          ∙ ap (λ (n : ℕ). packets_of (route c.args.route.from.number c.args.route.to.number) n c.as_slice.result.now) (c.from.ensures ∙ sym unit)
          ∙ ap (λ (xs : List ℕ). packets_of (route c.args.route.from.number c.args.route.to.number) k.setup.unit xs) (c.as_slice.ensures.value ∙ done.body)
          ∙ ap (λ (x : ℕ). packets_of (route x c.args.route.to.number) k.setup.unit (body_of o)) (sym peer)
          ∙ ap (λ (y : ℕ). packets_of (route k.setup.peer y) k.setup.unit (body_of o)) (sym eid);
      stands = done.stands;
      shared = record {
        seed = c.follow.ensures.seed;
        number = c.follow.ensures.number below ∙ ap (λ (b : Bool). old.draws.number + drawn_by b) heard.drawn;
        last =
            c.follow.ensures.last k.setup (after k.history o) done.stands (subst (λ (x : Heard). IsShort x (after k.history o)) (sym done.told) tells.short)
            ∙ ap (λ (x : Heard). last_for x (after k.history o) old.last) done.told ∙ tells.same;
      };
    })
