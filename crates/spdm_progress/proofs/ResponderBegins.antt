-- In a history that a responder made, GET_VERSION is answered alike when it comes again; and queued data and time change
-- nothing of what stands in the clear.
use Rattle.std.proofs.Common.{◌≡◌, ◌∙◌, ℕ, ◌≤◌, List, [], ◌∷◌, Bool, true, false, Option, Some, None, is_none, refl, sym, ap, subst, arith}
use Rattle.std.proofs.lemmas.Bool.{false≢true}
use Rattle.spdm_grammar.specs.declared.messages.error_code.ErrorCode.{ErrorCode}
use Rattle.spdm_grammar.specs.declared.told.phase.Phase.{Phase}
use Rattle.spdm_machine.specs.Keys.{Draw}
use Rattle.spdm_machine.proofs.Members.{some_same, none_some}
use Rattle.responder_machine.proofs.Repeats.{kept_of-taken}
use Rattle.responder_machine.proofs.Sizes.{sizes_set_up}
use Rattle.responder_machine.proofs.Turns.{turn_of-effect}
use Rattle.responder_machine.specs.Does.{IsMade, clear_chosen}
use Rattle.responder_machine.specs.Handling.{turn_of}
use Rattle.responder_machine.specs.History.{History, Kept, kept_of, clear_turns, phase_of, negotiation_of}
use Rattle.responder_machine.specs.History.Entry.{Clear, Sealed, Queued, Ticked, Dropped}
use Rattle.responder_machine.specs.Place.{clear_place}
use Rattle.responder_machine.specs.Setup.{RspSetup}
use Rattle.responder_machine.specs.Turn.{Turn, is_taken}
use Rattle.responder_machine.specs.Turn.Effect.{NoEffect}
use Rattle.spdm_grammar.specs.Message.RequestMessage.{GetVersion}
use Rattle.responder_machine.specs.Refusal.{sizes_are_known}
use Rattle.spdm_machine.specs.Terms.{terms_of}
use Rattle.spdm_grammar.specs.declared.told.phase.Phase.TheVariants.{Versioned}
use Rattle.transcript.specs.Transcripts.{Negotiation}
use Rattle.spdm_agreement.specs.Configured.{IsResponder}
use Rattle.spdm_agreement.proofs.Responder.Negotiation.{entry_turn}
use Rattle.spdm_progress.proofs.ResponderStages.{AwaitsVersion, HasVersion, Stands, Takes, first_pair, get_version, version, version_turn, took_version}
use Rattle.spdm_progress.proofs.ResponderTurns.{taken_turn}

-- ---- The clear part of the connection alone tells.

pub record SameClear (old new : History) : Type 0 where
  pub phase : phase_of (clear_turns new) ≡ phase_of (clear_turns old)
  pub negotiation : negotiation_of (clear_turns new) ≡ negotiation_of (clear_turns old)
  pub kept : kept_of new ≡ kept_of old

pub stands_on : (phase : Phase) (n : Negotiation) (m : List ℕ) (old new : History) → SameClear old new → Stands phase n m old → Stands phase n m new
stands_on phase n m old new same s = record {
  phase_is = same.phase ∙ s.phase_is;
  negotiation = same.negotiation ∙ s.negotiation;
  last = record { kept = s.last.kept; is = same.kept ∙ s.last.is; message = s.last.message };
}

pub queued_same : (h : History) (bytes : List ℕ) → SameClear h (Queued bytes ∷ h)
queued_same h bytes = record { phase = refl; negotiation = refl; kept = refl }

pub ticked_same : (h : History) (seconds : ℕ) → SameClear h (Ticked seconds ∷ h)
ticked_same h seconds = record { phase = refl; negotiation = refl; kept = refl }

sealed_same : (h : History) (tag : ℕ) (m : List ℕ) (t : Turn) (reply : List ℕ) (d : Draw) → SameClear h (Sealed tag m t reply d ∷ h)
sealed_same h tag m t reply d = record { phase = refl; negotiation = refl; kept = refl }

no_effect : (tag : ℕ) (t : Turn) (d : Draw) (h : History) → is_taken t ≡ false → t.effect ≡ NoEffect → SameClear h (Clear tag t d ∷ h)
no_effect tag t d h refused nothing = record { phase = rw nothing refl; negotiation = rw nothing refl; kept = rw refused refl }

-- ---- GET_VERSION as the last request that was taken.

abbrev Again : History → Type 0
Again h = (k : Kept) → kept_of h ≡ Some k → k.message ≡ get_version → HasVersion h × (k.reply ≡ version)

again_on : (old new : History) → SameClear old new → Again old → Again new
again_on old new same again k is message = (let found = again k (sym same.kept ∙ is) message in (stands_on Versioned first_pair get_version old new same found.0, found.1))

pub takes_on : (n : ℕ) (old new : History) → SameClear old new → Takes (clear_place old) n → Takes (clear_place new) n
takes_on n old new same takes = record {
  both = λ known. subst (λ (x : Negotiation). (n ≤ (terms_of x).common.to_requester.max) × (n ≤ (terms_of x).common.to_requester.transfer)) (sym same.negotiation) (takes.both (sym (ap sizes_are_known same.phase) ∙ known));
}

pub awaits_on : (old new : History) → SameClear old new → AwaitsVersion old → AwaitsVersion new
awaits_on old new same awaits = record { sized = takes_on 8 old new same awaits.sized; again = again_on old new same awaits.again }

pub is_none_none : (o : Option ErrorCode) → is_none o ≡ true → o ≡ None
is_none_none None e = refl
is_none_none (Some x) e = absurd (false≢true e)

sized : (r : RspSetup) (h : History) → IsResponder r → IsMade r h → Takes (clear_place h) 8
sized r h setup made = record {
  both = λ known. (let s = sizes_set_up r h made setup.sizes.ordered setup.sizes.most known in let a = s.least in let b = s.crossed in ((omega arith), (omega arith)));
}

pub refused_with : (o : Option ErrorCode) → is_none o ≡ false → (e : ErrorCode) × (o ≡ Some e)
refused_with None refused = absurd (false≢true (sym refused))
refused_with (Some e) refused = (e, refl)

by_taken : (r : RspSetup) (older : History) (tag : ℕ) (t : Turn) (d : Draw) → IsResponder r → IsMade r (Clear tag t d ∷ older) → Again older → (b : Bool) → is_taken t ≡ b → Again (Clear tag t d ∷ older)
by_taken r older tag t d setup made next true taken = λ k is message.
    let f = clear_chosen r older d in
    let same : record { tag = tag; message = t.message; reply = t.reply } ≡ k = some_same _ k (sym (kept_of-taken tag t d older (is_none_none t.refused taken)) ∙ is) in
    let its : t.message ≡ get_version = ap (λ (x : Kept). x.message) same ∙ message in
    let least = setup.sizes.least in
    let turn : t ≡ taken_turn r (clear_place older) get_version f GetVersion =
    sym (entry_turn r older tag t d made.0) ∙ ap (λ (m : List ℕ). turn_of r (clear_place older) m f) its ∙ version_turn r older f (omega arith) (sized r older setup made.1) in (
      subst (λ (u : Turn). HasVersion (Clear tag u d ∷ older)) (sym turn) (took_version r older f tag d),
      sym (ap (λ (x : Kept). x.reply) same) ∙ ap (λ (u : Turn). u.reply) turn,
    )
by_taken r older tag t d setup made next false refused =
    let f = clear_chosen r older d in
    let turn = entry_turn r older tag t d made.0 in
    let code = refused_with t.refused refused in
    again_on older (Clear tag t d ∷ older) (no_effect tag t d older refused (sym (ap (λ (u : Turn). u.effect) turn) ∙ turn_of-effect r (clear_place older) t.message f code.0 (ap (λ (u : Turn). u.refused) turn ∙ code.1))) next

made_again : (r : RspSetup) (h : History) → IsResponder r → IsMade r h → Again h
made_again r [] setup made = λ k is message. absurd (none_some k is)
made_again r (Clear tag t d ∷ older) setup made = by_taken r older tag t d setup made (made_again r older setup made.1) (is_taken t) refl
made_again r (Sealed tag m t reply d ∷ older) setup made = again_on older (Sealed tag m t reply d ∷ older) (sealed_same older tag m t reply d) (made_again r older setup made.1)
made_again r (Queued bytes ∷ older) setup made = again_on older (Queued bytes ∷ older) (queued_same older bytes) (made_again r older setup made.2)
made_again r (Ticked seconds ∷ older) setup made = again_on older (Ticked seconds ∷ older) (ticked_same older seconds) (made_again r older setup made)
made_again r (Dropped id ∷ older) setup made = absurd made

-- So every responder awaits GET_VERSION.
pub awaits_version : (r : RspSetup) (h : History) → IsResponder r → IsMade r h → AwaitsVersion h
awaits_version r h setup made = record { sized = sized r h setup made; again = made_again r h setup made }
