-- With which bytes a large request ends.
use Rattle.std.proofs.Common.{◌≡◌, ◌∙◌, ◌<◌, ◌+◌, ℕ, List, [], ◌∷◌, refl, sym, ap, subst, length, Bool, true, false, Option, Some, None, Ok, Err, cond, arith, eqb-true}
use Rattle.std.specs.Prelude.{Result, is_some, nat_lt}
use Rattle.std.specs.Result.{is_err}
use Rattle.std.proofs.lemmas.Bool.{false≢true, not-false}
use Rattle.std.proofs.lemmas.Bool.Decides.{nat_tests}
use Rattle.std.proofs.lemmas.Grind.{common_steps}
use Rattle.std.proofs.lemmas.Option.{none-some, same_Some}
use Rattle.requester_core.specs.Joined.{IsCommanded, IsDone, StandsFor}
use Rattle.requester_core.specs.declared.joined.RequesterCore.{RequesterCore}
use Rattle.chunking.specs.Cutting.{chunk_count}
use Rattle.requester_machine.proofs.Entries.{asked, test_is_false}
use Rattle.requester_machine.specs.Asking.{Outcome, asks, done}
use Rattle.requester_machine.specs.Asking.Outcome.{Adds, Fails}
use Rattle.requester_machine.specs.Commands.{Free, exchange_for, live_count}
use Rattle.requester_machine.specs.History.{History, begins_large, next_handle}
use Rattle.requester_machine.specs.History.Entry.{Told}
use Rattle.requester_machine.specs.May.{IsAllowed, MayAsk}
use Rattle.requester_machine.specs.Message.{Command, Sent, body_of}
use Rattle.requester_machine.specs.Message.Command.{Beat, Connect, End, Measure, Open, Retry, Send, Update}
use Rattle.requester_machine.specs.Sending.{piece_sent, plain_sent}
use Rattle.requester_machine.specs.Setup.{ReqSetup}
use Rattle.requester_machine.specs.Shown.{after, sent_by}
use Rattle.spdm_grammar.specs.Message.{ExchangeMessage, RequestMessage}
use Rattle.spdm_grammar.specs.Message.RequestMessage.{GetMeasurements, PskExchange}
use Rattle.spdm_grammar.specs.Requests.{canonical_request}
use Rattle.spdm_grammar.specs.declared.told.command_fault.CommandFault.{CommandFault}
use Rattle.spdm_grammar.specs.Fields.{is_summary}
use Rattle.spdm_grammar.specs.Requests.{request_in}
use Rattle.check_laws.proofs.Shown.{open_free}
use Rattle.check_requester.proofs.ClearRead.{no_padding}
use Rattle.check_requester.proofs.ClearTold.{adds, shows_by}
use Rattle.check_requester.specs.JudgedRequester.{IsAsker, IsKeptSetup, is_first_chunk}
use Rattle.check_requester.specs.declared.judged_requester.JudgedRequester.{JudgedRequester}
use Rattle.check_requester.specs.declared.judged_setup.JudgedSetup.{JudgedSetup}
use Rattle.check_laws.specs.Keeping.{Kept}
use Rattle.check_laws.proofs.Large.Onward.{some_size}
use Rattle.check_laws.specs.Large.Sending.{Ack, Beginning, IsSendingOf, MayBegin, MaySend, MayStand, Sending, asked_of, begun_with, behind, count_of, handle_of, is_last, number_in, number_of, requester_of, transfer_of}
use Rattle.check_laws.specs.Large.Sending.Beginning.{ByCommand, ByItself}
use Rattle.capture_machine.proofs.SentFacts.{large_kind}
use Rattle.world_machine.specs.Setup.{Configuration}
use Rattle.check_requester.specs.Commanded.{values_in}
use Rattle.check_requester.specs.LargeAsked.{IsCarried, IsEnded, IsFirstOut, IsOpenedLarge, exchange_shown}
use Rattle.capture_machine.proofs.AskTells.{exchange_read, kind_of, same_sent}
use Rattle.capture_machine.proofs.AskTells.Kind.{InClear}
use Rattle.capture_machine.proofs.AskersBegin.{large_command, not_four}
use Rattle.capture_machine.specs.LargeRequests.{common_of, first_piece}
use Rattle.capture_machine.specs.Rounds.{no_draw}

-- ---- Open.

-- Beside four sessions it is refused.
pub full_opens : (q : ReqSetup) (h : History) (x : ExchangeMessage) (new : RequesterCore) (room : List ℕ) → live_count h ≡ 4 → IsOpenedLarge q h x false new room
full_opens q h x new room full = λ allowed is.
    not_four (live_count h) (test_is_false false q h (Open x.summary) (values_in x) (asked false q h (Open x.summary) (values_in x) no_draw (Told (Open x.summary) _ no_draw) is).0 4) full

-- What is not allowed is not told.
pub not_opens : (q : ReqSetup) (h : History) (x : ExchangeMessage) (new : RequesterCore) (room : List ℕ) → (IsAllowed q h (values_in x) → live_count h ≡ 4) → IsOpenedLarge q h x false new room
not_opens q h x new room full = λ allowed is. full_opens q h x new room (full allowed) allowed is

pub fails_opens : (q : ReqSetup) (h : History) (x : ExchangeMessage) (r : Result ℕ CommandFault) (out room : List ℕ) (new other : RequesterCore) → is_err r ≡ true → IsCommanded q h (asks false q h (Open x.summary) (values_in x) no_draw) r out new → IsOpenedLarge q h x false other room
fails_opens q h x (Ok tag) out room new other is did = absurd (false≢true is)
fails_opens q h x (Err why) out room new other is did = λ allowed adds_it.
    let e : Fails why ≡ Adds (Told (Open x.summary) (piece_sent (common_of h) h (PskExchange x) (next_handle h) 0) no_draw) = sym did.0 ∙ adds_it in absurd (cc)

module _ (q : ReqSetup) (h : History) (x : ExchangeMessage) (allowed : IsAllowed q h (values_in x)) (tag : ℕ) (out : List ℕ) (new : RequesterCore) (did : IsDone q h (asks false q h (Open x.summary) (values_in x) no_draw) tag out new) where
  abbrev own : RequestMessage
  own = exchange_for q (values_in x) x.summary

  abbrev c : Command
  c = Open x.summary

  one : (s : Sent) × (asks false q h c (values_in x) no_draw ≡ Adds (Told c s no_draw))
  one = adds q h c (values_in x) refl did.fault

  out_is : out ≡ body_of one.0.content
  out_is = did.body_is ∙ ap (λ (s : Sent). body_of s.content) (sym (same_Some one.0 did.sent (ap sent_by (sym one.1) ∙ did.sends)))

  done_is : done q h c (values_in x) no_draw ≡ Adds (Told c one.0 no_draw)
  done_is = (asked false q h c (values_in x) no_draw (Told c one.0 no_draw) one.1).1

  first_is : is_first_chunk out ≡ begins_large one.0.aim
  first_is = ap is_first_chunk out_is ∙ shows_by q h c (values_in x) one.0 refl done_is

  -- By chunks it goes where it begins a large request.
  piece_by : (b : Bool) → cond b (piece_sent (common_of h) h own (next_handle h) 0) (plain_sent h own) ≡ one.0 → begins_large one.0.aim ≡ true → one.0 ≡ piece_sent (common_of h) h own (next_handle h) 0
  piece_by true is large = sym is
  piece_by false is large = absurd (false≢true (ap (λ (s : Sent). begins_large s.aim) is ∙ large))

  piece_is : begins_large one.0.aim ≡ true → one.0 ≡ piece_sent (common_of h) h own (next_handle h) 0
  piece_is large = piece_by _ (same_sent c _ one.0 no_draw done_is) large

  pub done_opens : (b : Bool) → is_first_chunk out ≡ b → IsOpenedLarge q h x b new out
  done_opens true first =
      let it = piece_is (sym first_is ∙ first) in
      let told : asks false q h c (values_in x) no_draw ≡ Adds (Told c (piece_sent (common_of h) h own (next_handle h) 0) no_draw) = one.1 ∙ ap (λ (s : Sent). Adds (Told c s no_draw)) it in
      (allowed, told, subst (λ (o : Outcome). StandsFor new q (after h o)) told did.stands, out_is ∙ ap (λ (s : Sent). body_of s.content) it)
  done_opens false first = λ fits is.
      false≢true (sym first ∙ first_is ∙ ap (λ (s : Sent). begins_large s.aim) (same_sent c one.0 _ no_draw (sym one.1 ∙ is)))

pub tells_opens : (q : ReqSetup) (h : History) (x : ExchangeMessage) (r : Result ℕ CommandFault) (out : List ℕ) (new : RequesterCore) (b : Bool) → IsAllowed q h (values_in x) → is_err r ≡ false → IsCommanded q h (asks false q h (Open x.summary) (values_in x) no_draw) r out new → is_first_chunk out ≡ b
    → IsOpenedLarge q h x b new out
tells_opens q h x (Ok tag) out new b allowed is did first = done_opens q h x allowed tag out new did b first
tells_opens q h x (Err why) out new b allowed is did first = absurd (false≢true (sym is))

-- ---- The bytes of a request that a command sends by chunks.

exchange_length : (x : ExchangeMessage) → length (canonical_request (PskExchange x)) ≡ 12 + length x.hint + length x.context + length x.opaque
exchange_length x = grind (arith, common_steps)

is_small : (transfer : ℕ) → 12 < transfer → nat_lt transfer 4 ≡ false
is_small transfer some = grind (arith, nat_tests)

small_sent : (b : Bool) (h : History) (a : RequestMessage) (s : Sent) → b ≡ false → cond b (piece_sent (common_of h) h a (next_handle h) 0) (plain_sent h a) ≡ s → begins_large s.aim ≡ false
small_sent true h a s is same = absurd (false≢true (sym is))
small_sent false h a s is same = ap (λ (m : Sent). begins_large m.aim) (sym same)

-- It is a PSK_EXCHANGE, which Open sends at the values in its fields.
pub record IsExchange (q : ReqSetup) (h : History) (whole : List ℕ) : Type 0 where
  pub exchange : ExchangeMessage
  pub spells : whole ≡ canonical_request (PskExchange exchange)
  pub reads : request_in 0 whole ≡ Some (PskExchange exchange)
  pub own : exchange_for q (values_in exchange) exchange.summary ≡ PskExchange exchange
  pub allowed : IsAllowed q h (values_in exchange)
  pub sends : asks false q h (Open exchange.summary) (values_in exchange) no_draw ≡ Adds (Told (Open exchange.summary) (piece_sent (common_of h) h (PskExchange exchange) (next_handle h) 0) no_draw)

module _ (q : ReqSetup) (h : History) (wide : 12 < (common_of h).to_responder.transfer) (whole : List ℕ) (f : Free) (fits : IsAllowed q h f) (a : RequestMessage) (is : whole ≡ canonical_request a) where
  abbrev sent : Sent
  sent = first_piece h a whole

  as_piece : sent ≡ piece_sent (common_of h) h a (next_handle h) 0
  as_piece = ap (first_piece h a) is

  pub by_command : (c : Command) → asks false q h c f no_draw ≡ Adds (Told c sent no_draw) → kind_of q h f c ≡ InClear a → IsExchange q h whole
  by_command Connect adds_it kind = absurd (false≢true (sym (large_command q h f Connect sent adds_it refl)))
  by_command (Open summary) adds_it kind =
      let it : exchange_for q f summary ≡ a = cc in
      let sound : is_summary summary ≡ true = not-false (is_summary summary) (test_is_false false q h (Open summary) f (asked false q h (Open summary) f no_draw (Told (Open summary) sent no_draw) adds_it).0 6) in
      let x : ExchangeMessage = record { summary = summary; req_id = f.id; hint = q.hint; context = f.context; opaque = f.opaque } in record {
        exchange = x;
        spells = is ∙ ap canonical_request (sym it);
        reads = ap (request_in 0) (is ∙ ap canonical_request (sym it)) ∙ exchange_read q h f summary fits sound;
        own = refl;
        allowed = no_padding q h f fits;
        sends = open_free q h summary f [] ∙ adds_it ∙ ap (λ (s : Sent). Adds (Told (Open summary) s no_draw)) (as_piece ∙ ap (λ (r : RequestMessage). piece_sent (common_of h) h r (next_handle h) 0) (sym it));
      }
  by_command (Measure None op) adds_it kind =
      let told = same_sent (Measure None op) _ sent no_draw (asked false q h (Measure None op) f no_draw (Told (Measure None op) sent no_draw) adds_it).1 in
      absurd (false≢true (sym (small_sent (nat_lt (common_of h).to_responder.transfer 4) h (GetMeasurements op) sent (is_small _ wide) told)))
  by_command (Send id bytes) adds_it kind = absurd (cc)
  by_command (Beat id) adds_it kind = absurd (cc)
  by_command (Update id all) adds_it kind = absurd (cc)
  by_command (Measure (Some id) op) adds_it kind = absurd (cc)
  by_command (End id) adds_it kind = absurd (cc)
  by_command Retry adds_it kind = absurd (cc)

-- ---- It ends.

-- The chunk that is owed is counted with those that were acknowledged.
all_acks : (s : Sending) (o : Option Ack) → is_some o ≡ true → (acks : List Ack) × (number_in acks ≡ number_of s + 1) × ((b : Beginning) (whole : List ℕ) → requester_of (record s { due = o }) b whole ≡ behind (asked_of b) whole (handle_of s) acks (begun_with s.before b whole))
all_acks s None due = absurd (false≢true due)
all_acks s (Some ack) due = (ack ∷ s.acks, refl, λ b whole. refl)

module _ (w : Configuration) (q : ReqSetup) (older : List (List ℕ)) (s : Sending) (own : IsSendingOf w q older s) (whole : List ℕ) (stand : MayStand s whole) (last : is_last s (number_of s + 1) ≡ true) (due : is_some s.due ≡ true) (seen : JudgedRequester) (asker : IsAsker seen q s.before) where
  abbrev k : Kept
  k = s.before

  wide : 12 < (common_of k.requester).to_responder.transfer
  wide = some_size (transfer_of s) (number_of s) own.stands.0 (subst (λ (n : ℕ). number_of s + 1 < count_of (transfer_of s) n) (sym own.stands.1.0) own.more)

  pub counted : (count number : ℕ) → number ≡ number_of s → count ≡ number + 1 → count + 1 ≡ chunk_count (common_of k.requester).to_responder.transfer whole
  counted count number is more = ap (λ (n : ℕ). n + 1) (more ∙ ap (λ (n : ℕ). n + 1) is) ∙ eqb-true (number_of s + 1 + 1) (count_of (transfer_of s) s.size) last ∙ ap (count_of (transfer_of s)) (sym stand.0)

  -- The requester after so many acknowledgements.
  pub behind_all : (new : JudgedRequester) (b : Beginning) → new.setup ≡ seen.setup → new.owes ≡ false → ((acks : List Ack) → number_in acks ≡ number_of s + 1 → StandsFor new.asking q (behind (asked_of b) whole (handle_of s) acks (begun_with k b whole)))
      → IsAsker new q (record k { requester = requester_of s b whole; owed = None })
  behind_all new b setup owes stands =
      let all = all_acks s s.due due in record {
        kept = subst (λ (x : JudgedSetup). IsKeptSetup x q) (sym setup) asker.kept;
        setup = asker.setup;
        stands = subst (StandsFor new.asking q) (sym (all.2 b whole)) (stands all.0 all.1);
        owes = owes;
      }

  -- ---- By a command.

  module _ (none : k.owed ≡ None) where
    as_exchange : (b : Beginning) → MayBegin k b → whole ≡ canonical_request (asked_of b) → MaySend k b whole → IsExchange q k.requester whole
    as_exchange (ByItself a) may is sends = absurd (none-some may.0 (sym none ∙ may.1))
    as_exchange (ByCommand c a) may is sends =
        let P : ReqSetup → Type 0 = λ x. MayAsk false x k.requester c no_draw (Adds (Told c (first_piece k.requester a whole) no_draw)) in
        let own_sends : P q = subst P asker.setup sends in
        by_command q k.requester wide whole own_sends.0 own_sends.1 a is c own_sends.2 (large_kind q k.requester own_sends.0 c (first_piece k.requester a whole) a own_sends.2 refl)

    pub no_exchange : (new : JudgedRequester) → exchange_shown (request_in 0 whole) ≡ None → IsEnded q s whole false new
    no_exchange new not b may is sends =
        let e = as_exchange b may is sends in
        none-some e.exchange (sym not ∙ ap exchange_shown e.reads)

    module _ (x : ExchangeMessage) (read : exchange_shown (request_in 0 whole) ≡ Some x) where
      same : (e : IsExchange q k.requester whole) → e.exchange ≡ x
      same e = same_Some e.exchange x (sym (ap exchange_shown e.reads) ∙ read)

      it_is : (b : Beginning) → MayBegin k b → whole ≡ canonical_request (asked_of b) → MaySend k b whole → (e : IsExchange q k.requester whole) × (e.exchange ≡ x)
      it_is b may is sends = let e = as_exchange b may is sends in (e, same e)

      pub not_ended : (new : JudgedRequester) (other : RequesterCore) (room : List ℕ) → IsOpenedLarge q k.requester x false other room → IsEnded q s whole false new
      not_ended new other room not b may is sends =
          let e = it_is b may is sends in
          subst (λ (y : ExchangeMessage). IsOpenedLarge q k.requester y false other room) (sym e.1) not e.0.allowed e.0.sends

      module _ (asking : RequesterCore) (room : List ℕ) (opened : IsOpenedLarge q k.requester x true asking room) where
        abbrev pub asked_own : RequestMessage
        asked_own = exchange_for q (values_in x) x.summary

        abbrev pub h : History
        h = Told (Open x.summary) (piece_sent (common_of k.requester) k.requester asked_own (next_handle k.requester) 0) no_draw ∷ k.requester

        pub first_out : IsFirstOut asking room q h asked_own (next_handle k.requester)
        first_out = record {
          sizes = asker.kept.sizes;
          wide = wide;
          short = let l = exchange_length (record { summary = x.summary; req_id = x.req_id; hint = q.hint; context = x.context; opaque = x.opaque }) in let f = opened.0.exchange in omega (arith, l, f);
          sent = piece_sent (common_of k.requester) k.requester asked_own (next_handle k.requester) 0;
          out = refl;
          aim = refl;
          body = opened.3;
          stands = opened.2;
        }

        pub ended_by : (b : Bool) (new : JudgedRequester) → new.setup ≡ seen.setup → new.owes ≡ false → IsCarried q h asked_own (next_handle k.requester) whole (number_of s + 1) b new.asking → IsEnded q s whole b new
        ended_by false new setup owes c = λ b may is sends.
            let e = it_is b may is sends in
            c (e.0.spells ∙ ap canonical_request (sym e.0.own ∙ ap (λ (y : ExchangeMessage). exchange_for q (values_in y) y.summary) e.1))
        ended_by true new setup owes c =
            let b : Beginning = ByCommand (Open x.summary) asked_own in
            let piece : first_piece k.requester asked_own whole ≡ piece_sent (common_of k.requester) k.requester asked_own (next_handle k.requester) 0 = ap (first_piece k.requester asked_own) c.0 in
            let asks_it : MayAsk false k.setup k.requester (Open x.summary) no_draw (Adds (Told (Open x.summary) (piece_sent (common_of k.requester) k.requester asked_own (next_handle k.requester) 0) no_draw)) =
            subst (λ (y : ReqSetup). MayAsk false y k.requester (Open x.summary) no_draw (Adds (Told (Open x.summary) (piece_sent (common_of k.requester) k.requester asked_own (next_handle k.requester) 0) no_draw))) (sym asker.setup) (values_in x, opened.0, opened.1) in
            let sends : MaySend k b whole = subst (λ (p : Sent). MayAsk false k.setup k.requester (Open x.summary) no_draw (Adds (Told (Open x.summary) p no_draw))) (sym piece) asks_it in
            let may : MayBegin k b = (none, (piece_sent (common_of k.requester) k.requester asked_own (next_handle k.requester) 0, asks_it, refl, refl)) in (
              b,
              may,
              c.0,
              sends,
              behind_all new b setup owes (λ acks n. subst (λ (p : Sent). StandsFor new.asking q (behind asked_own whole (handle_of s) acks (Told (Open x.summary) p no_draw ∷ k.requester))) (sym piece) (c.1 acks n)),
            )
