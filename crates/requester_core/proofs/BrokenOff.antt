-- A large request that is broken off: what its chunks counted.
use Rattle.std.proofs.Common.{refl, ◌≡◌, ◌∙◌, ◌∷◌, ℕ, zero, suc, true, Bool, Some, None, ap, sym, inl, inr, arith}
use Rattle.std.specs.Prelude.{◌+◌, ◌%◌, if◌then◌else◌}
use Rattle.requester_core.proofs.TakenBack.{without}
use Rattle.requester_core.specs.LargeRequests.{IsBrokenOff, IsSentOn}
use Rattle.requester_core.specs.Outgoing.{handle_after, passed_over}
use Rattle.requester_core.specs.Owed.{TookAny}
use Rattle.requester_core.specs.ClearState.{Counts, Seen, Shows}
use Rattle.requester_machine.specs.History.{History, begins_large, larges_of, outstanding, sent_count}
use Rattle.requester_machine.specs.History.Entry.{Told}
use Rattle.requester_machine.specs.Message.{Command, Sent}
use Rattle.requester_machine.specs.Owed.{with_next}
use Rattle.requester_machine.specs.Shown.{last_data}
use Rattle.spdm_machine.specs.Keys.{Draw}

-- A history with so many more messages, none of which begins a large request or brings data.
pub record Extends (first : History) (n : ℕ) (h : History) : Type 0 where
  pub sents : sent_count h ≡ sent_count first + n
  pub larges : larges_of h ≡ larges_of first
  pub brought : last_data h ≡ last_data first

one_more : (a b n : ℕ) → a ≡ b + n → a + 1 ≡ b + suc n
one_more a b n is = omega (arith, is)

none_more : (a b : ℕ) → a ≡ b → a ≡ b + 0
none_more a b is = omega (arith, is)

pub sent_on : (first : History) (n : ℕ) (h : History) → IsSentOn first n h → Extends first n h
unfolding IsSentOn
sent_on first zero h is = record { sents = none_more (sent_count h) (sent_count first) (ap sent_count is); larges = ap larges_of is; brought = ap last_data is }
sent_on first (suc n) h is =
    let was = sent_on first n is.0 is.5 in
    record {
      sents = ap sent_count is.7 ∙ one_more (sent_count is.0) (sent_count first) n was.sents;
      larges = ap larges_of is.7 ∙ ap (λ (b : Bool). if b then larges_of is.0 + 1 else larges_of is.0) is.6 ∙ was.larges;
      brought = ap last_data is.7 ∙ was.brought;
    }

-- The next one was never sent.
cut_short : (first : History) (n : ℕ) (over h : History) → IsSentOn first (suc n) over → h ≡ with_next None over → Extends first n h
unfolding IsSentOn
cut_short first n over h is without =
    let was = sent_on first n is.0 is.5 in
    let same = without ∙ ap (with_next None) is.7 in
    record { sents = ap sent_count same ∙ was.sents; larges = ap larges_of same ∙ was.larges; brought = ap last_data same ∙ was.brought }

pub broken_off : (first : History) (n : ℕ) (h : History) → IsBrokenOff first n h → Extends first n h
broken_off first n h (inl is) = sent_on first n h is
broken_off first n h (inr is) = cut_short first n is.0 h is.1 is.2

-- ---- What is kept.

tags_pass : (sents number : ℕ) → (sents % 8 + number + 1) % 8 ≡ (sents + 1 + number) % 8
tags_pass sents number = omega arith

handles_pass : (larges : ℕ) → handle_after (larges % 256) ≡ (larges + 1) % 256
handles_pass larges = omega arith

-- After a first chunk, which took a tag and a handle.
pub record Begins (seen : Seen) (first : History) : Type 0 where
  pub sents : ℕ
  pub larges : ℕ
  pub tag : seen.outgoing.tag ≡ sents % 8
  pub handle : seen.outgoing.handle ≡ larges % 256
  pub brought : seen.brought ≡ last_data first
  pub one : sent_count first ≡ sents + 1
  pub large : larges_of first ≡ larges + 1

pub passed : (first over : History) (number : ℕ) (seen : Seen) → Begins seen first → IsBrokenOff first number over → Counts (record seen { outgoing = passed_over number seen.outgoing }) over
passed first over number seen b is =
    let e = broken_off first number over is in
    record {
      tag = ap (λ (n : ℕ). (n + number + 1) % 8) b.tag ∙ tags_pass b.sents number ∙ sym (ap (λ (n : ℕ). n % 8) (e.sents ∙ ap (λ (n : ℕ). n + number) b.one));
      handle = ap handle_after b.handle ∙ handles_pass b.larges ∙ sym (ap (λ (n : ℕ). n % 256) (e.larges ∙ b.large));
      brought = b.brought ∙ sym e.brought;
    }

-- By a command.
pub told_begins : (h : History) (command : Command) (x : Sent) (d : Draw) (seen : Seen) → begins_large x.aim ≡ true → Shows seen h → Begins seen (Told command x d ∷ h)
told_begins h command x d seen large shows = record {
  sents = sent_count h;
  larges = larges_of h;
  tag = shows.outgoing.tag;
  handle = shows.outgoing.handle;
  brought = shows.brought;
  one = refl;
  large = ap (λ (b : Bool). if b then larges_of h + 1 else larges_of h) large;
}

-- By itself, in response to the last message.
pub owed_begins : (bare : History) (x : Sent) (seen : Seen) → TookAny bare → begins_large x.aim ≡ true → Shows seen bare → Begins seen (with_next (Some x) bare)
owed_begins bare x seen took large shows =
    let w = without bare x took in
    record {
      sents = sent_count bare;
      larges = larges_of bare;
      tag = shows.outgoing.tag;
      handle = shows.outgoing.handle;
      brought = shows.brought ∙ sym w.brought;
      one = w.sents;
      large = w.larges ∙ ap (λ (b : Bool). if b then larges_of bare + 1 else larges_of bare) large;
    }

-- ---- Nothing is outstanding, or a message that was never sent.

pub owed_is_out : (bare : History) (x : Sent) → TookAny bare → outstanding (with_next (Some x) bare) ≡ Some x
owed_is_out bare x took = (without bare x took).last
