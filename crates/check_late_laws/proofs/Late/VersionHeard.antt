-- A requester that awaits VERSION takes no answer for PSK_EXCHANGE_RSP, and asks for no chunk in response to it.
use Rattle.std.proofs.Common.{◌≡◌, ◌==◌, ◌&&◌, ◌∙◌, ℕ, List, [], refl, sym, ap, subst, drop, Bool, true, false, Option, Some, None, Result, Ok, Err, cond}
use Rattle.std.specs.Prelude.{slice_index}
use Rattle.std.proofs.lemmas.Option.{same_Some}
use Rattle.check_laws.specs.ChangeLaws.{accepted_by}
use Rattle.check_laws.specs.Keeping.{Kept, restored}
use Rattle.check_laws.specs.KeptChanges.{accepted_from}
use Rattle.check_laws.specs.RepliesShown.{no_values}
use Rattle.negotiate.specs.Versions.{first_of_1_2, version_entries}
use Rattle.requester_machine.specs.Answers.{answer_led, goes_on, is_refused, version_led}
use Rattle.requester_machine.specs.Bodies.{body_fault}
use Rattle.requester_machine.specs.ClearAnswers.{carried_by, clear_led, read_led, reading_of}
use Rattle.requester_machine.specs.Commands.{Free}
use Rattle.requester_machine.specs.Hearing.{clear_outcome, hears, hears_by, hears_to}
use Rattle.requester_machine.specs.History.{History, connection_terms, outstanding}
use Rattle.requester_machine.specs.History.Effect.{Nothing, Refuses}
use Rattle.requester_machine.specs.Message.{Aim, Sent}
use Rattle.requester_machine.specs.Message.Aim.{Plain}
use Rattle.requester_machine.specs.Sending.{get_sent}
use Rattle.requester_machine.specs.Setup.{ReqSetup}
use Rattle.spdm_grammar.specs.declared.names.error_number.TheConstants.{LARGE_RESPONSE}
use Rattle.spdm_grammar.specs.Message.{ResponseMessage}
use Rattle.spdm_grammar.specs.Message.RequestMessage.{GetVersion}
use Rattle.spdm_grammar.specs.Message.ResponseMessage.{Error, Version}
use Rattle.spdm_grammar.specs.declared.told.event.ReqIgnored.{ReqIgnored}
use Rattle.spdm_grammar.specs.declared.messages.malformed.Malformed.{Malformed}
use Rattle.capture_machine.specs.Rounds.{no_draw}

module _ (q : ReqSetup) (h : History) (f : Free) (tag : ℕ) (body : List ℕ) where
  abbrev m : List ℕ
  m = drop 1 body

  refused_none : (b : Bool) (code : ℕ) (extended : List ℕ) → accepted_by (clear_outcome tag m no_draw (Ok (cond b (goes_on Nothing (get_sent h GetVersion (slice_index extended 0) 0 [])) (is_refused code (Refuses GetVersion))))) ≡ None
  refused_none true code extended = refl
  refused_none false code extended = refl

  version_none : (o : Option ℕ) → accepted_by (clear_outcome tag m no_draw (Ok (version_led q h m o))) ≡ None
  version_none None = refl
  version_none (Some entry) = refl

  value_none : (v : ResponseMessage) → accepted_by (clear_outcome tag m no_draw (answer_led q h f 0 GetVersion m v)) ≡ None
  value_none (Error version code detail extended) = refused_none ((code == LARGE_RESPONSE && false) && (connection_terms h).common.chunk) code extended
  value_none (Version entries) = version_none (first_of_1_2 (version_entries entries))
  value_none _ = refl

  read_none : (x : Result ResponseMessage Malformed) → accepted_by (clear_outcome tag m no_draw (read_led q h f 0 GetVersion m x)) ≡ None
  read_none (Err fault) = refl
  read_none (Ok v) = value_none v

  aim_none : (aim : Aim) → aim ≡ Plain GetVersion → accepted_by (hears_to q h f tag body no_draw aim) ≡ None
  unfolding clear_led carried_by
  aim_none aim is = ap (λ (a : Aim). accepted_by (hears_to q h f tag body no_draw a)) is ∙ read_none (reading_of h GetVersion m)

  by_cause : (o : Option Sent) (cause : Option ReqIgnored) (sent : Sent) → o ≡ Some sent → sent.aim ≡ Plain GetVersion → accepted_by (hears_by q h f tag body no_draw o cause) ≡ None
  by_cause o (Some cause) sent is aims = refl
  by_cause None None sent is aims = refl
  by_cause (Some x) None sent is aims = aim_none x.aim (ap (λ (s : Sent). s.aim) (same_Some x sent is) ∙ aims)

  pub none_accepted : (sent : Sent) → outstanding h ≡ Some sent → sent.aim ≡ Plain GetVersion → accepted_by (hears q h false tag body f no_draw) ≡ None
  unfolding hears
  none_accepted sent waits aims = by_cause (outstanding h) (body_fault q (outstanding h) false tag body) sent waits aims

pub version_accepts_none : (k : Kept) (tag : ℕ) (answer : List ℕ) (sent : Sent) → outstanding (restored k).requester ≡ Some sent → sent.aim ≡ Plain GetVersion → accepted_from k tag answer ≡ None
unfolding accepted_from
version_accepts_none k tag answer sent waits aims = none_accepted k.setup (restored k).requester no_values tag answer sent waits aims
