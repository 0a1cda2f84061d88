use Rattle.std.proofs.Common.{◌≡◌, ◌==◌, ◌∙◌, ℕ, List, Bool, true, false, Option, Some, None, refl, sym, ap, subst}
use Rattle.std.specs.Prelude.{slice_index}
use Rattle.std.proofs.lemmas.Bool.{false≢true}
use Rattle.spdm_basis.specs.Sizes.{hash_size}
use Rattle.chunking.specs.Collecting.{Collection, collected}
use Rattle.chunking.specs.Collecting.Collection.{Whole}
use Rattle.responder_core.specs.Gathering.{is_whole}
use Rattle.check_fetched_ends.specs.AskedInClear.{IsExchangeBy, chunk_at}
use Rattle.responder_machine.specs.Handling.{chunk_in}
use Rattle.responder_machine.specs.History.{clear_turns, negotiation_of}
use Rattle.responder_machine.specs.LargeMessages.{chunks_of}
use Rattle.spdm_grammar.specs.Message.{ChunkMessage, chunk_message}
use Rattle.spdm_grammar.specs.Requests.{request_in}
use Rattle.spdm_grammar.specs.declared.names.request_code.TheConstants.{PSK_EXCHANGE}
use Rattle.spdm_grammar.specs.declared.messages.choice.Choice.{Choice}
use Rattle.spdm_machine.specs.Terms.{hash_len, terms_of}
use Rattle.check_fetched_ends.proofs.clear_fetch.asked_exchange.asks_exchange.Goals as goal

-- The whole that is collected is one.
same_Whole : (answer : Collection) (l whole : List ℕ) → answer ≡ Whole l → answer ≡ Whole whole → l ≡ whole
same_Whole answer l whole is other = inj (sym is ∙ other)
  where
    of : Collection → List ℕ
    of (Whole x) = x
    of _ = l

    inj : Whole l ≡ Whole whole → l ≡ whole
    inj same = ap of same

not_whole : (answer : Collection) (whole : List ℕ) → is_whole answer ≡ false → answer ≡ Whole whole → false ≡ true
not_whole answer whole none is = sym none ∙ ap is_whole is

pub returns-then-not-completes : goal.returns-then-not-completes
returns-then-not-completes c = λ r h stands.
    let m : List ℕ = c.args.message.now in
    let turns = clear_turns h in
    let len : c.size.result ≡ hash_len (terms_of (negotiation_of turns)) = c.size.ensures ∙ ap (λ (x : Choice). hash_size x.hash) (c.choice.ensures.value r h stands) in
    let is : chunk_at turns m ≡ Some (chunk_message c.in-Some.chunk) = sym (c.in-Some.ensures ∙ ap (λ (n : ℕ). chunk_in (request_in n m)) len) in
    subst (λ (o : Option ChunkMessage). IsExchangeBy r turns m o false) (sym is) (λ whole completes. absurd (false≢true (not_whole (collected r.max (chunks_of turns) (chunk_message c.in-Some.chunk)) whole (c.if-not-completes.ensures r h stands) completes)))

pub returns-else-not-completes : goal.returns-else-not-completes
returns-else-not-completes c = λ r h stands.
    let m : List ℕ = c.args.message.now in
    let turns = clear_turns h in
    let len : c.size.result ≡ hash_len (terms_of (negotiation_of turns)) = c.size.ensures ∙ ap (λ (x : Choice). hash_size x.hash) (c.choice.ensures.value r h stands) in
    let is : chunk_at turns m ≡ Some (chunk_message c.in-Some.chunk) = sym (c.in-Some.ensures ∙ ap (λ (n : ℕ). chunk_in (request_in n m)) len) in
    let byte : c.byte_at.result ≡ slice_index c.completes.new.whole 1 = c.byte_at.ensures ∙ ap (λ (l : List ℕ). slice_index l 1) c.as_slice.ensures.value in
    subst (λ (o : Option ChunkMessage). IsExchangeBy r turns m o (c.byte_at.result == PSK_EXCHANGE)) (sym is)
    (λ whole completes. ap (λ (n : ℕ). n == PSK_EXCHANGE) (byte ∙ ap (λ (l : List ℕ). slice_index l 1) (same_Whole (collected r.max (chunks_of turns) (chunk_message c.in-Some.chunk)) c.completes.new.whole whole (c.if-not-completes.ensures r h stands) completes)))

pub returns-in-None : goal.returns-in-None
returns-in-None c = λ r h stands.
    let m : List ℕ = c.args.message.now in
    let turns = clear_turns h in
    let len : c.size.result ≡ hash_len (terms_of (negotiation_of turns)) = c.size.ensures ∙ ap (λ (x : Choice). hash_size x.hash) (c.choice.ensures.value r h stands) in
    let is : chunk_at turns m ≡ None = sym (c.in-None.ensures ∙ ap (λ (n : ℕ). chunk_in (request_in n m)) len) in
    subst (λ (o : Option ChunkMessage). IsExchangeBy r turns m o (c.byte_at-in-None.result == PSK_EXCHANGE)) (sym is) (ap (λ (n : ℕ). n == PSK_EXCHANGE) c.byte_at-in-None.ensures)
