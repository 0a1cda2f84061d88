-- The moves of a session that opens, for any sound beginning: nothing agrees by chance in it, and both ends hold the
-- session open. So the laws speak of runs that exist.
use Rattle.std.proofs.Common.{◌≡◌, List, [], ◌∷◌, Bool, true, Some, None, refl, ap, inl, arith, eq-eqb, cond}
use Rattle.spdm_agreement.specs.Claims.{IsReached}
use Rattle.spdm_agreement.specs.Marks.{asked_open, served_open}
use Rattle.spdm_agreement.specs.Moves.{State, Move, after, request_shake, response_shake, response_verify, nothing_yet}
use Rattle.spdm_agreement.specs.Moves.Move.{Start, Begin, Accept, Finish, Open, Check}
use Rattle.spdm_agreement.specs.Reading.{First, Reading, covered}

-- The handshake. Each tag has a value of its own.
abbrev shake : Reading → First → List Move
shake r t =
    Start (r.requester_id t) (r.requester_draw t)
    ∷ Begin t (1 ∷ [])
    ∷ Check (response_verify r t) (r.transcript t) (1 ∷ []) (1 ∷ [])
    ∷ Accept t [] (2 ∷ []) (3 ∷ [])
    ∷ Check (request_shake r t) (covered r t (request_shake r t) 0 (r.finish t)) (3 ∷ []) (3 ∷ [])
    ∷ Finish t (r.second t) 0 (r.finish t) 0 (r.finish_answer t) (4 ∷ [])
    ∷ Check (response_shake r t) (covered r t (response_shake r t) 0 (r.finish_answer t)) (4 ∷ []) (4 ∷ [])
    ∷ Open t (r.second t) (r.finish_answer t) ∷ []

abbrev later : Reading → List Move → State → State
later r [] s = s
later r (m ∷ others) s = later r others (after r m s)

abbrev opened : Reading → First → State
opened r t = later r (shake r t) nothing_yet

pub opens : (r : Reading) (t : First) → r.is_sound t ≡ true → r.opens (r.finish_answer t) ≡ true → IsReached r (opened r t)
opens r t sound holds = record {
  moves = shake r t;
  run = (
    (omega arith),
    (
      (sound, (omega arith)),
      (
        tt,
        (
          (sound, ((r.requester_id t, r.requester_draw t), refl, refl), inl (refl, refl, refl)),
          (
            tt,
            (
              (inl refl, inl (refl, refl, refl), λ is. ((refl, refl), refl, refl)),
              (
                tt,
                ((refl, holds, inl (refl, refl, refl), λ is. refl), refl),
              ),
            ),
          ),
        ),
      ),
    ),
  );
  no_chance = (((λ e. (refl, refl)), ((λ e. absurd (cc)), ((λ e. absurd (cc)), ((λ e. absurd (cc)), ((λ e. absurd (cc)), ((λ e. absurd (cc)), tt)))))), (λ e. inl refl), (((λ e. absurd (cc)), ((λ e. absurd (cc)), ((λ e. absurd (cc)), ((λ e. absurd (cc)), ((λ e. absurd (cc)), tt))))), (((λ e. (refl, refl)), ((λ e. absurd (cc)), ((λ e. absurd (cc)), ((λ e. absurd (cc)), tt)))), (λ e. inl refl), (((λ e. absurd (cc)), ((λ e. absurd (cc)), ((λ e. absurd (cc)), tt))), (((λ e. absurd (cc)), ((λ e. absurd (cc)), tt)), (((λ e. (refl, refl)), tt), (λ e. inl refl), (tt, tt)))))));
}

pub both_hold : (r : Reading) (t : First) → (asked_open r (r.requester_id t) (opened r t).asked ≡ Some (t, r.second t)) × (served_open r (r.responder_id t) (opened r t).served ≡ Some (t, r.second t))
both_hold r t = (
  ap (λ (b : Bool). cond b (Some (t, r.second t)) (cond b None None)) (eq-eqb (r.requester_id t) (r.requester_id t) refl),
  ap (λ (b : Bool). cond b (Some (t, r.second t)) (cond b None None)) (eq-eqb (r.responder_id t) (r.responder_id t) refl),
)
