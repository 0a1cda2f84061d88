-- A round in the clear of messages that both ends know beforehand.
use Rattle.std.proofs.Common.{◌≡◌, ◌∙◌, ℕ, ◌<◌, ◌==◌, List, ◌++◌, length, Bool, true, false, Some, None, refl, sym, subst}
use Rattle.std.proofs.lemmas.Bool.{false≢true}
use Rattle.requester_machine.proofs.Keeps.{Keeps, behind_clear, behind_record}
use Rattle.requester_machine.proofs.Making.{hears_made}
use Rattle.requester_machine.specs.Asking.{Outcome}
use Rattle.requester_machine.specs.Asking.Outcome.{Adds, Fails, Ignores, Resends, Warns}
use Rattle.requester_machine.specs.Does as asking_does
use Rattle.requester_machine.specs.Does.{body_chosen, requester_hears}
use Rattle.requester_machine.specs.History as asked
use Rattle.requester_machine.specs.History.Entry.{Told, TookClear, TookRecord}
use Rattle.requester_machine.specs.Message.{Sent, body_of}
use Rattle.requester_machine.specs.RequesterLog as asked_log
use Rattle.requester_machine.specs.Session.{Steps, is_live, session_of}
use Rattle.requester_machine.specs.Setup.{ReqSetup}
use Rattle.requester_machine.specs.Shown as shown
use Rattle.responder_machine.proofs.Making.{does_made}
use Rattle.responder_machine.specs.Does as serving_does
use Rattle.responder_machine.specs.Does.{responder_does}
use Rattle.responder_machine.specs.History as served
use Rattle.responder_machine.specs.Responder as answering
use Rattle.responder_machine.specs.ResponderLog as served_log
use Rattle.spdm_agreement.proofs.Requester.Entries.{no_command_heard}
use Rattle.spdm_grammar.specs.declared.told.event.Event.{Event}
use Rattle.spdm_machine.specs.Bodies.{clear_body}
use Rattle.spdm_machine.specs.Keys.{Draw}
use Rattle.spdm_machine.specs.TagLog.{Log}
use Rattle.world_machine.specs.Chance.{NoChance}
use Rattle.spdm_progress.proofs.ClearKept.{IsStable}
use Rattle.spdm_progress.proofs.ManyPackets.{clear_is_body}
use Rattle.spdm_progress.proofs.PacketSteps.{Pair}
use Rattle.spdm_progress.proofs.RequesterStages.{Hears}
use Rattle.spdm_progress.proofs.ResponderStages.{Answered}
use Rattle.spdm_progress.proofs.StillKept.{AreAlike}
use Rattle.spdm_progress.proofs.Talk.{IsSendable, Leads, Over, Stage}
use Rattle.spdm_progress.proofs.TwoRounds.{LeadsTo}

-- ---- No session is live.

abbrev pub IsBare : asked.History → Type 0
IsBare h = (id : ℕ) → is_live (session_of id h) ≡ false

not_live : (s t : Steps) → Keeps s t → is_live s ≡ false → (b : Bool) → is_live t ≡ b → b ≡ false
not_live s t keeps bare true live = absurd (false≢true (sym bare ∙ (keeps live).0))
not_live s t keeps bare false live = refl

bare_by : (q : ReqSetup) (h : asked.History) (tag : ℕ) (body : List ℕ) (d : Draw) → IsBare h → (o : Outcome) → requester_hears q h false tag body d ≡ o → IsBare (shown.after h o)
unfolding session_of
bare_by q h tag body d bare (Fails fault) is = bare
bare_by q h tag body d bare (Ignores cause) is = bare
bare_by q h tag body d bare (Warns code) is = bare
bare_by q h tag body d bare (Resends sent) is = bare
bare_by q h tag body d bare (Adds (Told command sent e)) is = absurd (no_command_heard q h false tag body (body_chosen q h d) command sent d e is)
bare_by q h tag body d bare (Adds (TookClear t m led e)) is = λ id. not_live (session_of id h) _ (behind_clear id led.effect led.next (session_of id h)) (bare id) _ refl
bare_by q h tag body d bare (Adds (TookRecord t of sealed inner led e)) is = λ id. not_live (session_of id h) _ (behind_record (of == id) id sealed inner led.effect led.next (session_of id h)) (bare id) _ refl

pub bare_hears : (q : ReqSetup) (h : asked.History) (tag : ℕ) (body : List ℕ) (d : Draw) → IsBare h → IsBare (shown.after h (requester_hears q h false tag body d))
bare_hears q h tag body d bare = bare_by q h tag body d bare (requester_hears q h false tag body d) refl

-- ---- One round.

module _ (p : Pair) (m : List ℕ) (Asked : ℕ → asked.History → Type 0) (Served : served.History → Type 0) where
  -- These bytes are on their way, to the responder or back.
  pub record ClearWay (tag : ℕ) (body : List ℕ) (log : Log) (h : asked.History) (g : served.History) : Type 0 where
    pub small : tag < 8
    pub body_is : body ≡ clear_body m
    pub asks : Asked tag h
    pub serves : Served g
    pub made : asking_does.IsMade p.requester h
    pub made_there : serving_does.IsMade p.responder g
    pub bare : IsBare h

  pub way_sent : length m < 4161 → (tag : ℕ) (body : List ℕ) (log : Log) (h : asked.History) (g : served.History) → ClearWay tag body log h g → IsSendable tag body
  way_sent short tag body log h g y = subst (IsSendable tag) (sym y.body_is) (record { small = y.small; whole = clear_is_body m short; typed = refl })

  pub way_still : IsStable Served → (tag : ℕ) (body : List ℕ) (log : Log) (h : asked.History) (g later : served.History) → AreAlike p.responder g later → ClearWay tag body log h g → ClearWay tag body log h later
  way_still stable tag body log h g later alike y = record {
    small = y.small;
    body_is = y.body_is;
    asks = y.asks;
    serves = stable g later alike.clear y.serves;
    made = y.made;
    made_there = alike.made y.made_there;
    bare = y.bare;
  }

-- ---- One message of it.

module _ (p : Pair) (m reply : List ℕ) (Asked : ℕ → asked.History → Type 0) (Served Behind : served.History → Type 0) (tag : ℕ) (body : List ℕ) (log : Log) (h : asked.History) (g : served.History) (d : Draw) where
  -- The responder answers this request.
  pub way_answered : Answered p.responder g tag m d reply Behind → ClearWay p m Asked Served tag body log h g
      → ClearWay p reply Asked Behind tag (answering.body_of (responder_does p.responder g tag body d)) (served_log.acts_of p.responder g body (responder_does p.responder g tag body d) ++ log) h (answering.after g (responder_does p.responder g tag body d))
  way_answered o y =
      subst (λ (b : List ℕ). ClearWay p reply Asked Behind tag (answering.body_of (responder_does p.responder g tag b d)) (served_log.acts_of p.responder g b (responder_does p.responder g tag b d) ++ log) h (answering.after g (responder_does p.responder g tag b d))) (sym y.body_is)
      (record {
        small = y.small;
        body_is = o.body;
        asks = y.asks;
        serves = o.leaves;
        made = y.made;
        made_there = (does_made p.responder g tag (clear_body m) d y.made_there).made;
        bare = y.bare;
      })

module _ (p : Pair) (reply next : List ℕ) (Asked Then : ℕ → asked.History → Type 0) (Served : served.History → Type 0) (told : Event) (tag : ℕ) (body : List ℕ) (log : Log) (h : asked.History) (g : served.History) (d : Draw) (follows : Sent) where
  -- The requester takes this answer, and asks further.
  pub way_leads : (follows.tag < 8) × (body_of follows.content ≡ clear_body next) → Hears p.requester h tag reply d told (Some follows) (Then follows.tag) → ClearWay p reply Asked Served tag body log h g
      → LeadsTo (ClearWay p next Then Served) (requester_hears p.requester h false tag body d) (asked_log.acts_of p.requester h body (requester_hears p.requester h false tag body d) ++ log) h g
  way_leads goes o y =
      subst (λ (b : List ℕ). LeadsTo (ClearWay p next Then Served) (requester_hears p.requester h false tag b d) (asked_log.acts_of p.requester h b (requester_hears p.requester h false tag b d) ++ log) h g) (sym y.body_is)
      (record {
        next = follows;
        sends = o.sends;
        asks = record {
          small = goes.0;
          body_is = goes.1;
          asks = o.leaves;
          serves = y.serves;
          made = (hears_made p.requester h false tag (clear_body reply) d y.made).made;
          made_there = y.made_there;
          bare = bare_hears p.requester h tag (clear_body reply) d y.bare;
        };
      })

-- The talk is over.
pub record ClearOver (p : Pair) (Ended : asked.History → Type 0) (Behind : served.History → Type 0) (log : Log) (h : asked.History) (g : served.History) : Type 0 where
  pub asks : Ended h
  pub serves : Behind g
  pub made : asking_does.IsMade p.requester h
  pub made_there : serving_does.IsMade p.responder g
  pub bare : IsBare h

module _ (p : Pair) (reply : List ℕ) (Asked : ℕ → asked.History → Type 0) (Ended : asked.History → Type 0) (Served Behind : served.History → Type 0) (told : Event) (Asks : Stage) (more tag : ℕ) (body : List ℕ) (log : Log) (h : asked.History) (g : served.History) (d : Draw) where
  -- The requester takes this answer, and is done.
  pub way_ends : (Served g → Behind g) → Hears p.requester h tag reply d told None Ended → ClearWay p reply Asked Served tag body log h g
      → Leads p Asks (ClearOver p Ended Behind) told more (requester_hears p.requester h false tag body d) (asked_log.acts_of p.requester h body (requester_hears p.requester h false tag body d) ++ log) h g
  way_ends means o y =
      subst (λ (b : List ℕ). Leads p Asks (ClearOver p Ended Behind) told more (requester_hears p.requester h false tag b d) (asked_log.acts_of p.requester h b (requester_hears p.requester h false tag b d) ++ log) h g) (sym y.body_is)
      (Over o.sends o.event (record {
        asks = o.leaves;
        serves = means y.serves;
        made = (hears_made p.requester h false tag (clear_body reply) d y.made).made;
        made_there = y.made_there;
        bare = bare_hears p.requester h tag (clear_body reply) d y.bare;
      }))

module _ (p : Pair) (m : List ℕ) (Asked : ℕ → asked.History → Type 0) (Served : served.History → Type 0) where
  -- What the responder makes of the time between does not matter.
  pub way_kept : ((g later : served.History) → AreAlike p.responder g later → Served g → Served later) → (tag : ℕ) (body : List ℕ) (log : Log) (h : asked.History) (g later : served.History) → AreAlike p.responder g later → ClearWay p m Asked Served tag body log h g → ClearWay p m Asked Served tag body log h later
  way_kept keeps tag body log h g later alike y = record {
    small = y.small;
    body_is = y.body_is;
    asks = y.asks;
    serves = keeps g later alike y.serves;
    made = y.made;
    made_there = alike.made y.made_there;
    bare = y.bare;
  }

-- ---- All messages of it.

module _ (p : Pair) (m reply : List ℕ) (Asked : ℕ → asked.History → Type 0) (Served Behind : served.History → Type 0)
    (answers : (tag : ℕ) (g : served.History) (d : Draw) → length d.bytes ≡ 32 → serving_does.IsMade p.responder g → Served g → Answered p.responder g tag m d reply Behind) where
  -- The responder answers.
  pub way_served : (tag : ℕ) (body : List ℕ) (log : Log) (h : asked.History) (g : served.History) (d : Draw) → length d.bytes ≡ 32 → NoChance log → ClearWay p m Asked Served tag body log h g
      → ClearWay p reply Asked Behind tag (answering.body_of (responder_does p.responder g tag body d)) (served_log.acts_of p.responder g body (responder_does p.responder g tag body d) ++ log) h (answering.after g (responder_does p.responder g tag body d))
  way_served tag body log h g d drawn chance y = way_answered p m reply Asked Served Behind tag body log h g d (answers tag g d drawn y.made_there y.serves) y

module _ (p : Pair) (reply next : List ℕ) (Asked Then : ℕ → asked.History → Type 0) (Served : served.History → Type 0) (told : Event) (follows : asked.History → Sent)
    (goes : (h : asked.History) → ((follows h).tag < 8) × (body_of (follows h).content ≡ clear_body next))
    (hears : (tag : ℕ) (h : asked.History) (d : Draw) → Asked tag h → Hears p.requester h tag reply d told (Some (follows h)) (Then (follows h).tag)) where
  -- The requester takes the answer, and asks further.
  pub way_heard : (tag : ℕ) (body : List ℕ) (log : Log) (h : asked.History) (g : served.History) (d : Draw) → NoChance log → ClearWay p reply Asked Served tag body log h g
      → LeadsTo (ClearWay p next Then Served) (requester_hears p.requester h false tag body d) (asked_log.acts_of p.requester h body (requester_hears p.requester h false tag body d) ++ log) h g
  way_heard tag body log h g d chance y = way_leads p reply next Asked Then Served told tag body log h g d (follows h) (goes h) (hears tag h d y.asks) y
