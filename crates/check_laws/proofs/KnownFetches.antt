-- While no large response is in progress the requester has no CHUNK_GET outstanding.
use Rattle.std.proofs.Common.{◌≡◌, ◌∙◌, ◌⊎◌, ◌||◌, ℕ, List, [], ◌∷◌, refl, sym, ap, subst, Bool, true, false, Option, Some, None, is_some, cond, inl, inr}
use Rattle.std.specs.Prelude.{not}
use Rattle.std.proofs.lemmas.Bool.{false≢true}
use Rattle.mctp_framing.specs.Gathering.{Gathered}
use Rattle.mctp_framing.specs.Gathering.Gathered.{Whole, More, Dropped}
use Rattle.requester_machine.proofs.Entries.{asked}
use Rattle.requester_machine.specs.Commands.{Free}
use Rattle.requester_machine.specs.History.{History, begins_large, outstanding}
use Rattle.requester_machine.specs.History.Entry.{Told, TookClear, TookRecord}
use Rattle.requester_machine.specs.Message.{Command, Sent}
use Rattle.requester_machine.specs.Message.Command.{Connect, Open, Send, Beat, Update, Measure, End, Retry}
use Rattle.requester_machine.specs.Owed.{with_next}
use Rattle.requester_machine.specs.Setup.{ReqSetup}
use Rattle.check_laws.proofs.KeptAnswers.{kept_is_restored}
use Rattle.check_laws.proofs.Steadily.{IsSteady}
use Rattle.check_laws.specs.Keeping.{Keeps, Kept, restored}
use Rattle.check_laws.proofs.KeptWalks.{walks_keep}
use Rattle.capture_machine.proofs.AskTells.{IsSent, kind_of, sent_by_kind}
use Rattle.capture_machine.specs.Capture.{AsksBy, Begins, Copies, RepliesBy}
use Rattle.capture_machine.specs.CapturedRequests.{Sends, Tells, without_owed}
use Rattle.capture_machine.specs.LargeAnswers.{is_fetching, is_for_chunk}
use Rattle.capture_machine.specs.Rounds.{Dialogue, no_draw}
use Rattle.world_machine.specs.Setup.{Configuration}

-- ---- No command asks for a chunk.

pub command_none : (q : ReqSetup) (h : History) (f : Free) (command : Command) (s : Sent) → IsSent q h f (kind_of q h f command) s → begins_large s.aim ≡ false → is_for_chunk s.aim ≡ false
command_none q h f Connect s is small = ap (λ (x : Sent). is_for_chunk x.aim) (is.0 small)
command_none q h f (Open summary) s is small = ap (λ (x : Sent). is_for_chunk x.aim) (is.0 small)
command_none q h f (Send id bytes) s is small = ap (λ (x : Sent). is_for_chunk x.aim) is
command_none q h f (Beat id) s is small = ap (λ (x : Sent). is_for_chunk x.aim) is
command_none q h f (Update id all) s is small = ap (λ (x : Sent). is_for_chunk x.aim) is
command_none q h f (Measure None op) s is small = ap (λ (x : Sent). is_for_chunk x.aim) (is.0 small)
command_none q h f (Measure (Some id) op) s is small = ap (λ (x : Sent). is_for_chunk x.aim) is
command_none q h f (End id) s is small = ap (λ (x : Sent). is_for_chunk x.aim) is
command_none q h f Retry s is small = absurd is

pub tells_none : (q : ReqSetup) (h : History) (command : Command) (body : List ℕ) (after : History) → Tells q h command body after → is_fetching (outstanding after) ≡ false
tells_none q h command body after tells =
    let kind = sent_by_kind q h tells.1.0 command tells.0 no_draw (asked false q h command tells.1.0 no_draw (Told command tells.0 no_draw) tells.1.2).1 in
    ap (λ (l : History). is_fetching (outstanding l)) tells.4 ∙ command_none q h tells.1.0 command tells.0 kind tells.2

-- ---- What is asked a chunk of is under way.

abbrev pub IsKnown : Dialogue → Type 0
IsKnown d = is_fetching (outstanding d.requester) ≡ true → is_some d.fetching ≡ true

pub piece_known : (x : Sent) (h : History) → is_for_chunk x.aim ≡ false → is_fetching (outstanding (with_next (Some x) h)) ≡ true → is_fetching (outstanding h) ≡ true
piece_known x [] none is = is
piece_known x (Told command sent d ∷ h) none is = is
piece_known x (TookClear tag m led d ∷ h) none is = absurd (false≢true (sym none ∙ is))
piece_known x (TookRecord tag id sealed inner led d ∷ h) none is = absurd (false≢true (sym none ∙ is))

pub sends_known : (d : Dialogue) (body : List ℕ) (after : History) (sending : Option (List ℕ)) → IsKnown d → Sends d body after sending → is_fetching (outstanding after) ≡ true → is_some d.fetching ≡ true
unfolding Sends
sends_known d body after sending here (inl (inl connect, none)) is = absurd (false≢true (sym (tells_none d.setup (without_owed d) Connect body after connect) ∙ is))
sends_known d body after sending here (inl (inr commands, none)) is = absurd (false≢true (sym (tells_none d.setup d.requester commands.0 body after commands.2) ∙ is))
sends_known d body after sending here (inr (inl goes)) is = here (sym (ap (λ (l : History). is_fetching (outstanding l)) goes.5) ∙ is)
sends_known d body after sending here (inr (inr (whole, inl large, at))) is = absurd (false≢true (sym (ap (λ (l : History). is_fetching (outstanding l)) large.8) ∙ is))
sends_known d body after sending here (inr (inr (whole, inr owed, at))) is =
    here (piece_known _ d.requester refl (sym (ap (λ (l : History). is_fetching (outstanding l)) owed.7) ∙ is))

pub asks_known : (d : Dialogue) (g : Gathered) (next : Dialogue) → IsKnown d → AsksBy d g next → IsKnown next
asks_known d (Whole route body) next here c = by_kind c.2
  where
    by_kind : Copies d route.tag body next ⊎ Begins d route.tag body next → IsKnown next
    by_kind (inl k) = subst IsKnown (sym k.4) here
    by_kind (inr k) = subst IsKnown (sym k.2.3) (sends_known d body k.2.0 k.2.1 here k.2.2)
asks_known d More next here c = subst IsKnown (sym c) here
asks_known d (Dropped cause) next here c = absurd c

pub replies_known : (w : Configuration) (d : Dialogue) (g : Gathered) (next : Dialogue) → IsKnown d → RepliesBy w d g next → IsKnown next
replies_known w d (Whole route body) next here c =
    let k = c.2 in
    let fetching : Option (List ℕ) = k.4.1 in
    subst IsKnown (sym k.4.3.2) (λ gets. ap (λ (b : Bool). is_some (cond b fetching None)) gets ∙ sym (ap (λ (b : Bool). not b || is_some fetching) gets) ∙ k.4.3.3)
replies_known w d More next here c = subst IsKnown (sym c) here
replies_known w d (Dropped cause) next here c = absurd c

known_steady : (w : Configuration) → IsSteady w IsKnown
known_steady w = record { begins = λ q is. absurd (false≢true is); asks = asks_known; replies = replies_known w }

-- So it is of what is kept.
pub kept_asks_none : (w : Configuration) (q : ReqSetup) (older : List (List ℕ)) (k : Kept) → Keeps w q older k → is_fetching (outstanding (restored k).requester) ≡ false
kept_asks_none w q older k keeps = by_fetching (is_fetching (outstanding (restored k).requester)) refl
  where
    by_fetching : (b : Bool) → is_fetching (outstanding (restored k).requester) ≡ b → b ≡ false
    by_fetching false is = refl
    by_fetching true is = absurd (false≢true (walks_keep w IsKnown (known_steady w) q older (restored k) (kept_is_restored w q older k keeps).0 is))
