-- What a first chunk depends on.
use Rattle.std.proofs.Common.{◌≡◌, ℕ, List, refl, sym, ap, ◌∙◌, subst, Bool, true, false, Option, None, cond}
use Rattle.std.proofs.lemmas.Bool.{false≢true}
use Rattle.std.proofs.lemmas.Option.{none-some}
use Rattle.requester_machine.specs.Asking.{Outcome}
use Rattle.requester_machine.specs.History.{History, next_handle, next_tag, outstanding}
use Rattle.requester_machine.specs.May.{MayAsk}
use Rattle.requester_machine.specs.Message.{Command}
use Rattle.requester_machine.specs.Owed.{with_next}
use Rattle.requester_machine.specs.Setup.{ReqSetup}
use Rattle.spdm_grammar.specs.Message.{RequestMessage}
use Rattle.check_laws.proofs.Allowed.{agree_equals, allowed_same}
use Rattle.capture_machine.proofs.Agrees.{Agree}
use Rattle.capture_machine.proofs.AskersAlike.{AskersAlike, none_tag, piece_same}
use Rattle.capture_machine.proofs.AskersAlike.AskersAlike.{Settled, Owing, Shown, Due}
use Rattle.capture_machine.proofs.AsksAlike.{asks_same, handle_same, terms_same}
use Rattle.capture_machine.specs.CapturedRequests.{is_later}
use Rattle.capture_machine.specs.LargeRequests.{first_piece, piece_with}
use Rattle.capture_machine.specs.Rounds.{Round, following_tag, no_draw}
use Rattle.check_laws.proofs.Large.Onward.{asked}

-- ---- Tags.

-- The tag of the next message, without one that is owed.
pub tag_by : (round : Option Round) (h g : History) (sd se : Option (List ℕ)) → AskersAlike round h g sd se → sd ≡ None → (b : Bool) → is_later round (outstanding h) ≡ b → next_tag (cond b (with_next None h) h) ≡ following_tag round
tag_by round _ _ _ _ (Settled h g agree not at) none true is = absurd (false≢true (sym not ∙ is))
tag_by round _ _ _ _ (Settled h g agree not at) none false is = at
tag_by round _ _ _ _ (Owing e f h g s t agree alike out sent like tagged else still at) none true is = none_tag e f h alike ∙ at
tag_by round _ _ _ _ (Owing e f h g s t agree alike out sent like tagged else still at) none false is = absurd (false≢true (sym is ∙ ap (is_later round) out ∙ still))
tag_by round _ _ _ _ (Shown h g w v a b handle number s t u waits wait aims aim tags not at) none x is = absurd (none-some w (sym none))
tag_by round _ _ _ _ (Due tag m h g w v a b handle number u still at) none x is = absurd (none-some w (sym none))

-- The first piece depends on what counts alone.
pub piece_on : (h g : History) (asked : RequestMessage) (whole : List ℕ) → Agree h g → first_piece h asked whole ≡ first_piece g asked whole
piece_on h g asked whole a =
    piece_same h g whole whole asked asked (next_handle h) 0 a.counted.sent (terms_same h g a) refl refl ∙ ap (λ (n : ℕ). piece_with g asked whole n 0) (handle_same h g a)

pub ask_moved : (q r : ReqSetup) (h g : History) (c : Command) (o : Outcome) → q ≡ r → Agree h g → MayAsk false q h c no_draw o → MayAsk false r g c no_draw o
ask_moved q r h g c o setup a m =
    subst (λ (x : ReqSetup). MayAsk false x g c no_draw o) setup
    (m.0, allowed_same q h g m.0 (agree_equals h g a) m.1, sym (asks_same false q h g a c m.0 no_draw) ∙ m.2)
