-- What alike requesters have in common while a large request is in progress.
use Rattle.std.proofs.Common.{◌≡◌, ◌+◌, ℕ, List, refl, sym, ap, ◌∙◌, subst, length, true, false, Option, Some}
use Rattle.std.proofs.lemmas.Bool.{false≢true}
use Rattle.std.proofs.lemmas.Option.{none-some, same_Some}
use Rattle.requester_machine.specs.History.{History, connection_terms, next_tag, outstanding, sent_count}
use Rattle.requester_machine.specs.Message.{Sent}
use Rattle.requester_machine.specs.Message.Aim.{ByChunks}
use Rattle.spdm_grammar.specs.Message.{RequestMessage}
use Rattle.capture_machine.proofs.AskersAlike.{AskersAlike, transfer_of}
use Rattle.capture_machine.proofs.AskersAlike.AskersAlike.{Settled, Owing, Shown, Due}
use Rattle.capture_machine.proofs.ChunksTell.{SameBelow}
use Rattle.capture_machine.specs.CapturedRequests.{is_later}
use Rattle.capture_machine.specs.LargeRequests.{piece_with}
use Rattle.capture_machine.specs.Rounds.{Round, following_tag}

-- ---- In any case.

pub record Way (h g : History) (w : List ℕ) (se : Option (List ℕ)) : Type 0 where
  pub other : List ℕ
  pub sends : se ≡ Some other
  pub terms : connection_terms h ≡ connection_terms g
  pub sent : sent_count h ≡ sent_count g
  pub size : length w ≡ length other

pub way : (round : Option Round) (h g : History) (sd se : Option (List ℕ)) (x : List ℕ) → AskersAlike round h g sd se → sd ≡ Some x → Way h g x se
way round _ _ _ _ x (Settled h g agree not at) is = absurd (none-some x is)
way round _ _ _ _ x (Owing e f h g s t agree alike out sent like tagged else still at) is = absurd (none-some x is)
way round _ _ _ _ x (Shown h g w v a b handle number s t u waits wait aims aim tags not at) is = record {
  other = v;
  sends = refl;
  terms = u.terms;
  sent = u.counted.sent;
  size = ap length (sym (same_Some w x is)) ∙ u.size;
}
way round _ _ _ _ x (Due tag m h g w v a b handle number u still at) is = record {
  other = v;
  sends = refl;
  terms = u.terms;
  sent = ap (λ (n : ℕ). n + 1) u.counted.sent;
  size = ap length (sym (same_Some w x is)) ∙ u.size;
}

-- ---- A chunk was sent, and is not yet acknowledged.

pub record ShownWay (round : Option Round) (h g : History) (x : List ℕ) (se : Option (List ℕ)) : Type 0 where
  pub asked : RequestMessage
  pub handle : ℕ
  pub number : ℕ
  pub sent : Sent
  pub waits : outstanding h ≡ Some sent
  pub aim : sent.aim ≡ ByChunks asked handle number
  pub at : next_tag h ≡ following_tag round
  pub parts : (other : List ℕ) → se ≡ Some other → SameBelow (transfer_of h) handle x other (number + 1)

pub shown_way : (round : Option Round) (h g : History) (sd se : Option (List ℕ)) (x : List ℕ) → AskersAlike round h g sd se → sd ≡ Some x → is_later round (outstanding h) ≡ false → ShownWay round h g x se
shown_way round _ _ _ _ x (Settled h g agree not at) is shown = absurd (none-some x is)
shown_way round _ _ _ _ x (Owing e f h g s t agree alike out sent like tagged else still at) is shown = absurd (none-some x is)
shown_way round _ _ _ _ x (Shown h g w v a b handle number s t u waits wait aims aim tags not at) is shown = record {
  asked = a;
  handle = handle;
  number = number;
  sent = s;
  waits = waits;
  aim = aims;
  at = at;
  parts = λ other same. subst (λ (l : List ℕ). SameBelow (transfer_of h) handle x l (number + 1)) (same_Some v other same)
      (subst (λ (l : List ℕ). SameBelow (transfer_of h) handle l v (number + 1)) (same_Some w x is) u.parts);
}
shown_way round _ _ _ _ x (Due tag m h g w v a b handle number u still at) is shown = absurd (false≢true (sym shown ∙ still))

-- ---- The next chunk is owed.

pub record DueWay (round : Option Round) (h : History) : Type 0 where
  pub sent : Sent
  pub waits : outstanding h ≡ Some sent
  pub tag : sent.tag ≡ following_tag round

pub due_way : (round : Option Round) (h g : History) (sd se : Option (List ℕ)) (x : List ℕ) → AskersAlike round h g sd se → sd ≡ Some x → is_later round (outstanding h) ≡ true → DueWay round h
due_way round _ _ _ _ x (Settled h g agree not at) is due = absurd (none-some x is)
due_way round _ _ _ _ x (Owing e f h g s t agree alike out sent like tagged else still at) is due = absurd (none-some x is)
due_way round _ _ _ _ x (Shown h g w v a b handle number s t u waits wait aims aim tags not at) is due = absurd (false≢true (sym not ∙ ap (is_later round) (sym waits) ∙ due))
due_way round _ _ _ _ x (Due tag m h g w v a b handle number u still at) is due = record { sent = piece_with h a w handle (number + 1); waits = refl; tag = at }
