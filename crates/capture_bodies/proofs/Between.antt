-- What a packet completes, by whether it goes between the responder and a requester.
use Rattle.std.proofs.Common.{◌≡◌, ◌≢◌, ◌∙◌, ◌==◌, ◌&&◌, ℕ, List, Bool, true, false, cond, Option, ap, sym, eq-eqb, ne_eqb}
use Rattle.std.specs.List.{position_from}
use Rattle.std.specs.Prelude.{is_some, not}
use Rattle.capture_bodies.proofs.Places.{known}
use Rattle.capture_bodies.specs.Collecting.{large, large_between}
use Rattle.capture_bodies.specs.Collecting.Large.{NoChunk}
use Rattle.capture_bodies.specs.Completing.{Completed, alone, completed, completed_by, goes_between, is_one_of}
use Rattle.capture_bodies.specs.Keeping.{Keeps, has_eid}
use Rattle.capture_bodies.specs.declared.gathering.Gathering.{Gathering}
use Rattle.mctp_framing.specs.Packet.{PacketFields}
use Rattle.spdm_machine.specs.Packets.{gathered_from}

-- ---- By that.

pub completed_between : (own : ℕ) (eids : List ℕ) (older : List (List ℕ)) (p : PacketFields) → goes_between own eids p ≡ true → completed own eids older p ≡ completed_by (gathered_from p.to p.from older p)
completed_between own eids older p e = ap (λ (b : Bool). cond b (completed_by (gathered_from p.to p.from older p)) (alone p)) e

pub completed_alone : (own : ℕ) (eids : List ℕ) (older : List (List ℕ)) (p : PacketFields) → goes_between own eids p ≡ false → completed own eids older p ≡ alone p
completed_alone own eids older p e = ap (λ (b : Bool). cond b (completed_by (gathered_from p.to p.from older p)) (alone p)) e

pub large_where : (own : ℕ) (eids : List ℕ) (older : List (List ℕ)) (p : PacketFields) → goes_between own eids p ≡ true → large own eids older p ≡ large_between p.to p.from older (completed_by (gathered_from p.to p.from older p))
large_where own eids older p e =
    ap (λ (b : Bool). cond b (large_between p.to p.from older (completed own eids older p)) NoChunk) e
    ∙ ap (λ (done : Completed). large_between p.to p.from older done) (completed_between own eids older p e)

pub large_nowhere : (own : ℕ) (eids : List ℕ) (older : List (List ℕ)) (p : PacketFields) → goes_between own eids p ≡ false → large own eids older p ≡ NoChunk
large_nowhere own eids older p e = ap (λ (b : Bool). cond b (large_between p.to p.from older (completed own eids older p)) NoChunk) e

-- ---- Whether it does.

module _ (seen : Gathering) (own : ℕ) (eids : List ℕ) (older : List (List ℕ)) (k : Keeps seen own eids older) (p : PacketFields) where
  is_known : (eid : ℕ) → is_one_of eids eid ≡ is_some (position_from (has_eid eid) 0 seen.pairs.items)
  is_known eid = ap (λ (l : List ℕ). is_one_of l eid) (sym k.all) ∙ sym (known eid 0 seen.pairs.items)

  pub to_itself : p.to ≡ p.from → goes_between own eids p ≡ false
  to_itself same = ap (λ (b : Bool). not b && cond (p.to == own) (is_one_of eids p.from) (p.from == own && is_one_of eids p.to)) (eq-eqb p.to p.from same)

  asked : p.to ≢ p.from → p.to ≡ own → goes_between own eids p ≡ is_one_of eids p.from
  asked apart to =
      ap (λ (b : Bool). not b && cond (p.to == own) (is_one_of eids p.from) (p.from == own && is_one_of eids p.to)) (ne_eqb p.to p.from apart)
      ∙ ap (λ (b : Bool). cond b (is_one_of eids p.from) (p.from == own && is_one_of eids p.to)) (eq-eqb p.to own to)

  answered : p.to ≢ p.from → p.to ≢ own → goes_between own eids p ≡ (p.from == own && is_one_of eids p.to)
  answered apart to =
      ap (λ (b : Bool). not b && cond (p.to == own) (is_one_of eids p.from) (p.from == own && is_one_of eids p.to)) (ne_eqb p.to p.from apart)
      ∙ ap (λ (b : Bool). cond b (is_one_of eids p.from) (p.from == own && is_one_of eids p.to)) (ne_eqb p.to own to)

  pub asked_by : p.to ≢ p.from → p.to ≡ own → (found : Option ℕ) → found ≡ position_from (has_eid p.from) 0 seen.pairs.items → goes_between own eids p ≡ is_some found
  asked_by apart to found is = asked apart to ∙ is_known p.from ∙ ap (λ (o : Option ℕ). is_some o) (sym is)

  pub answered_to : p.to ≢ p.from → p.to ≢ own → p.from ≡ own → (found : Option ℕ) → found ≡ position_from (has_eid p.to) 0 seen.pairs.items → goes_between own eids p ≡ is_some found
  answered_to apart to from found is =
      answered apart to ∙ ap (λ (b : Bool). b && is_one_of eids p.to) (eq-eqb p.from own from) ∙ is_known p.to ∙ ap (λ (o : Option ℕ). is_some o) (sym is)

  pub of_others : p.to ≢ p.from → p.to ≢ own → p.from ≢ own → goes_between own eids p ≡ false
  of_others apart to from = answered apart to ∙ ap (λ (b : Bool). b && is_one_of eids p.to) (ne_eqb p.from own from)
