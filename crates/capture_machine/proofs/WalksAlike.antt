-- Dialogues of two walks over one capture stay alike, so a capture has one table, and a first difference one reason.
use Rattle.std.proofs.Common.{◌≡◌, ◌-◌, ◌⊎◌, ℕ, List, [], refl, sym, ◌∙◌, subst, reverse, take, Option, Some, None, inl, inr}
use Rattle.std.specs.Prelude.{slice_index_or}
use Rattle.std.proofs.lemmas.Option.{none-some, same_Some}
use Rattle.mctp_framing.specs.Gathering.{Gathered}
use Rattle.mctp_framing.specs.Gathering.Gathered.{Whole, More, Dropped}
use Rattle.responder_machine.specs.History.{History}
use Rattle.responder_machine.specs.Setup.{RspSetup, towards}
use Rattle.capture_machine.specs.Capture.{Leads, RepliesBy, Replies}
use Rattle.capture_machine.specs.CapturedAnswers.{Answers}
use Rattle.capture_machine.specs.Difference.{Why, IsReason, IsVerifyApart, IsOtherwiseWrong, OneReason}
use Rattle.capture_machine.specs.Difference.Why.{BadPacket, UnknownEnd, WrongTurn, BadRequest, BadReply, BadVerify, BadRecord}
use Rattle.capture_machine.specs.Rounds.{Dialogue, Round}
use Rattle.capture_machine.specs.SessionTable.{OneTable}
use Rattle.world_machine.specs.Setup.{Configuration, known_of}
use Rattle.capture_machine.proofs.Alike.{Alike, FetchesAlike, begins_alike, comes_alike, goes_alike, rows_alike, asks_alike}
use Rattle.capture_machine.proofs.Alike.FetchesAlike.{NoneFetched, BothFetched}
use Rattle.capture_machine.proofs.AskersBegin.{dial}
use Rattle.capture_machine.proofs.Captures.{one_is_first}
use Rattle.capture_machine.proofs.FetchedTold.{Stands, fetched_told}
use Rattle.capture_machine.proofs.Fetching.{IsSound, begins_sound, asks_sound, replies_sound, stands_of}
use Rattle.capture_machine.proofs.RepliesAlike.{gets, replied, replied_by, answer_moved, same_rounds}
use Rattle.capture_machine.proofs.Walks.{IsKept, All, leads_all, one_table_by, one_reason_by}

-- The dialogues are alike, and each is sound by itself.
pub record BothAlike (d e : Dialogue) : Type 0 where
  pub alike : Alike d e
  pub one : IsSound d
  pub other : IsSound e

-- ---- An answer while a large answer is fetched.

sound_stands : (d : Dialogue) (w : List ℕ) (round : Round) → IsSound d → d.fetching ≡ Some w → d.round ≡ Some round → Stands d.responder w round.tag round.body
sound_stands d w round sound is at =
    let old = sound.fetched w is in
    subst (λ (x : Round). Stands d.responder w x.tag x.body) (same_Some old.0 round (sym old.1 ∙ at)) (stands_of d.requester d.responder w old.0.tag old.0.body old.2)

fetched_replied : (w : Configuration) (d e : Dialogue) (tag : ℕ) (answer : List ℕ) (next other : Dialogue) (x y : List ℕ) → BothAlike d e → d.fetching ≡ Some x → e.fetching ≡ Some y
    → Replies w d tag answer next → Replies w e tag answer other → Alike next other
fetched_replied w d e tag answer next other x y both is are c k =
    let a = both.alike in
    let one = same_rounds w d e tag answer next other a c k in
    let r : RspSetup = towards w.responder (known_of d.setup) in
    let F : Option (List ℕ) → Type 0 = λ o. Answers r (dial d.setup d.requester d.responder d.round d.sending o) c.0 answer c.4.0 c.4.1 in
    let yours = answer_moved w d e c.0 k.0 answer k.4.0 k.4.1 (Some y) a one are k.4.2 in
    let mine = sound_stands d x c.0 both.one is c.1 in
    let theirs : Stands d.responder y c.0.tag c.0.body =
    subst (λ (h : History). Stands h y c.0.tag c.0.body) (sym a.responder) (subst (λ (z : Round). Stands e.responder y z.tag z.body) (sym one) (sound_stands e y k.0 both.other are k.1)) in
    replied_by w d e tag answer next other a c k one
    (fetched_told r d.responder x y d.setup e.setup d.requester e.requester d.round e.round d.sending e.sending c.0 answer c.4.0 k.4.0 c.4.1 k.4.1 (gets c.4.3.0)
    mine theirs (subst F is c.4.2) yours)

both_fetched : (o p : Option (List ℕ)) (x : List ℕ) → FetchesAlike o p → o ≡ Some x → (y : List ℕ) × (p ≡ Some y)
both_fetched _ _ x NoneFetched is = absurd (none-some x is)
both_fetched _ _ x (BothFetched w v) is = (v, refl)

-- ---- An answer.

one_replied : (w : Configuration) (d e : Dialogue) (tag : ℕ) (answer : List ℕ) (next other : Dialogue) (o : Option (List ℕ)) → BothAlike d e → d.fetching ≡ o → Replies w d tag answer next → Replies w e tag answer other → Alike next other
one_replied w d e tag answer next other None both is c k = replied w d e tag answer next other both.alike is c k
one_replied w d e tag answer next other (Some x) both is c k =
    let others = both_fetched d.fetching e.fetching x both.alike.fetches is in
    fetched_replied w d e tag answer next other x others.0 both is others.1 c k

replies_alike : (w : Configuration) (d e : Dialogue) (g : Gathered) (next other : Dialogue) → BothAlike d e → RepliesBy w d g next → RepliesBy w e g other → Alike next other
replies_alike w d e (Whole route body) next other both c k = one_replied w d e route.tag body next other d.fetching both refl c.2 k.2
replies_alike w d e More next other both c k =
    let P : Dialogue → Type 0 = λ x. Alike x other in
    let Q : Dialogue → Type 0 = λ x. Alike d x in
    subst P (sym c) (subst Q (sym k) both.alike)
replies_alike w d e (Dropped cause) next other both c k = absurd c

-- Each step keeps it.
pub kept : (w : Configuration) → IsKept w BothAlike
kept w = record {
  setups = λ d e both. both.alike.setup;
  begins = λ q. record { alike = begins_alike q; one = begins_sound q; other = begins_sound q };
  asks = λ d e g next other both one two. record { alike = asks_alike d e g next other both.alike one two; one = asks_sound d g next both.one one; other = asks_sound e g other both.other two };
  replies = λ d e g next other both one two. record { alike = replies_alike w d e g next other both one two; one = replies_sound w d g next both.one one; other = replies_sound w e g other both.other two };
  rows = λ d e next other rows a b. rows_alike d e next other rows a.alike b.alike;
  comes = λ d e g both. comes_alike d e g both.alike;
  goes = λ s d e g both. goes_alike s d e g both.alike;
}

-- ---- The laws.

-- All walks over the same packets are alike.
pub leads_alike : (w : Configuration) (older : List (List ℕ)) (ds es : List Dialogue) → Leads w older ds → Leads w older es → All BothAlike ds es
leads_alike w older ds es one other = leads_all BothAlike w (kept w) older ds es one other

pub one_table : OneTable
one_table w packets one other has had = one_table_by BothAlike w (kept w) packets one other has had

either_reason : (w : Configuration) (older : List (List ℕ)) (packet : List ℕ) (why : Why) → IsReason w older packet why → ((why ≡ BadVerify) × IsVerifyApart w older packet) ⊎ IsOtherwiseWrong w older packet why
either_reason w older packet BadVerify is = inl (refl, is)
either_reason w older packet BadPacket is = inr is
either_reason w older packet UnknownEnd is = inr is
either_reason w older packet WrongTurn is = inr is
either_reason w older packet BadRequest is = inr is
either_reason w older packet BadReply is = inr is
either_reason w older packet BadRecord is = inr is

one_why : (w : Configuration) (older : List (List ℕ)) (packet : List ℕ) (why because : Why) → ((why ≡ BadVerify) × IsVerifyApart w older packet) ⊎ IsOtherwiseWrong w older packet why
    → ((because ≡ BadVerify) × IsVerifyApart w older packet) ⊎ IsOtherwiseWrong w older packet because → why ≡ because
unfolding IsOtherwiseWrong
one_why w older packet why because (inl one) (inl other) = one.0 ∙ sym other.0
one_why w older packet why because (inr one) (inr other) = one_reason_by BothAlike w (kept w) older packet why because one other
one_why w older packet why because (inl one) (inr other) = absurd (other.0 one.1)
one_why w older packet why because (inr one) (inl other) = absurd (one.0 other.1)

pub one_reason : OneReason
one_reason w packets number other why because one two =
    let same : number ≡ other = one_is_first w packets number other one.first two.first in
    let reason = subst (λ (n : ℕ). IsReason w (reverse (take (n - 1) packets)) (slice_index_or packets (n - 1) []) because) (sym same) two.reason in
    let older : List (List ℕ) = reverse (take (number - 1) packets) in
    let packet : List ℕ = slice_index_or packets (number - 1) [] in
    (same, one_why w older packet why because (either_reason w older packet why one.reason) (either_reason w older packet because reason))
