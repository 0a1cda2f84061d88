use Rattle.std.proofs.Common.{◌≡◌, ◌∙◌, ℕ, List, ap, sym, subst, Option, Some, None}
use Rattle.std.proofs.lemmas.Bool.{false≢true}
use Rattle.responder_core.specs.Free.{IsFree}
use Rattle.responder_machine.specs.Answer.{Free, request_at}
use Rattle.responder_machine.specs.Handling.{chunk_in}
use Rattle.responder_machine.specs.LargeMessages.{chunks_of}
use Rattle.responder_machine.specs.Place.{clear_place, inside, place_terms}
use Rattle.spdm_basis.specs.Sizes.{hash_size}
use Rattle.spdm_grammar.specs.Message.{ChunkMessage, chunk_message}
use Rattle.spdm_grammar.specs.Requests.{request_in}
use Rattle.spdm_grammar.specs.declared.messages.choice.Choice.{Choice}
use Rattle.spdm_machine.specs.Terms.{hash_len}
use Rattle.check_responder.proofs.ClearAsked.{long_carried, long_itself}
use Rattle.check_responder.proofs.WholeAnswered.{completed_is, completes_large}
use Rattle.check_responder.proofs.judged_responder.JudgedResponder.leads_with.Goals as goal
use Rattle.check_responder.specs.ClearAnswers.{IsLongWith}
use Rattle.check_responder.specs.WholeAnswers.{clear_shown, clear_whole, whole_values}
use Rattle.check_laws.specs.AnswersShown.{clear_values}

pub returns-in-None-clause-told : goal.returns-in-None-clause-told
returns-in-None-clause-told c = λ r h set stands few anew free.
    let m : List ℕ = c.args.message.now in
    let whole : List ℕ = c.args.whole.now in
    let p = clear_place h in
    let k : Free = clear_values r h m c.args.reply.now in
    let chosen = ap (λ (x : Choice). x.hash) (sym (c.choice-hash.ensures.value r h stands)) in
    let len : c.size.result ≡ hash_len (place_terms p) = c.size.ensures ∙ ap hash_size (sym chosen) in
    let none : chunk_in (request_at p m) ≡ None = sym (c.in-None.ensures ∙ ap (λ (n : ℕ). chunk_in (request_in n m)) len) in
    let shown = subst (λ (o : Option ChunkMessage). IsFree c.field_values-shown.result (clear_whole p m k whole o)) (sym none) (c.field_values-shown.ensures p k chosen free) in
    c.leads_at.ensures.told r h (clear_shown r h m c.args.reply.now whole) set stands few shown (long_itself r h m (clear_shown r h m c.args.reply.now whole) none)

pub returns-in-None-clause-stands : goal.returns-in-None-clause-stands
returns-in-None-clause-stands c = λ r h set stands few free is.
    let m : List ℕ = c.args.message.now in
    let whole : List ℕ = c.args.whole.now in
    let p = clear_place h in
    let k : Free = clear_values r h m c.args.reply.now in
    let chosen = ap (λ (x : Choice). x.hash) (sym (c.choice-hash.ensures.value r h stands)) in
    let len : c.size.result ≡ hash_len (place_terms p) = c.size.ensures ∙ ap hash_size (sym chosen) in
    let none : chunk_in (request_at p m) ≡ None = sym (c.in-None.ensures ∙ ap (λ (n : ℕ). chunk_in (request_in n m)) len) in
    let shown = subst (λ (o : Option ChunkMessage). IsFree c.field_values-shown.result (clear_whole p m k whole o)) (sym none) (c.field_values-shown.ensures p k chosen free) in
    c.leads_at.ensures.stands r h (clear_shown r h m c.args.reply.now whole) set stands few shown is

pub returns-then-not-completes-clause-told : goal.returns-then-not-completes-clause-told
returns-then-not-completes-clause-told c = λ r h set stands few anew free.
    let m : List ℕ = c.args.message.now in
    let p = clear_place h in
    let chunk : ChunkMessage = chunk_message c.in-Some.chunk in
    let chosen = ap (λ (x : Choice). x.hash) (sym (c.choice-hash.ensures.value r h stands)) in
    let len : c.size.result ≡ hash_len (place_terms p) = c.size.ensures ∙ ap hash_size (sym chosen) in
    let some : chunk_in (request_at p m) ≡ Some chunk = sym (c.in-Some.ensures ∙ ap (λ (n : ℕ). chunk_in (request_in n m)) len) in
    (λ is. absurd (false≢true is), λ large. absurd (completes_large r h c.args.tag m c.args.reply.now anew (clear_shown r h m c.args.reply.now c.args.whole.now) large chunk some (c.if-not-completes.ensures r h stands)))

pub returns-else-not-completes-clause-told : goal.returns-else-not-completes-clause-told
returns-else-not-completes-clause-told c = λ r h set stands few anew free.
    let m : List ℕ = c.args.message.now in
    let whole : List ℕ = c.args.whole.now in
    let p = clear_place h in
    let k : Free = clear_values r h m c.args.reply.now in
    let chunk : ChunkMessage = chunk_message c.in-Some.chunk in
    let chosen = ap (λ (x : Choice). x.hash) (sym (c.choice-hash.ensures.value r h stands)) in
    let len : c.size.result ≡ hash_len (place_terms p) = c.size.ensures ∙ ap hash_size (sym chosen) in
    let some : chunk_in (request_at p m) ≡ Some chunk = sym (c.in-Some.ensures ∙ ap (λ (n : ℕ). chunk_in (request_in n m)) len) in
    let done = c.if-not-completes.ensures r h stands in
    let f : Free = clear_shown r h m c.args.reply.now whole in
    let bytes : c.as_slice.result.now ≡ c.completes.new.whole = c.as_slice.ensures.value in
    let joined = bytes ∙ sym (completed_is r.max (chunks_of p.turns) chunk c.completes.new.whole done) in
    let free_there = subst (λ (l : List ℕ). IsFree c.field_values-shown-in-Some.result (whole_values (inside p) l k whole)) joined (c.field_values-shown-in-Some.ensures (inside p) k chosen free) in
    let shown = subst (λ (o : Option ChunkMessage). IsFree c.field_values-shown-in-Some.result (clear_whole p m k whole o)) (sym some) free_there in
    let long = subst (λ (l : List ℕ). IsLongWith r h m l f) (sym c.as_slice-in-Some.ensures.value) (long_carried r h m f chunk c.completes.new.whole some done) in
    c.leads_at-in-Some.ensures.told r h f set stands few shown long

pub returns-else-not-completes-clause-stands : goal.returns-else-not-completes-clause-stands
returns-else-not-completes-clause-stands c = λ r h set stands few free is.
    let m : List ℕ = c.args.message.now in
    let whole : List ℕ = c.args.whole.now in
    let p = clear_place h in
    let k : Free = clear_values r h m c.args.reply.now in
    let chunk : ChunkMessage = chunk_message c.in-Some.chunk in
    let chosen = ap (λ (x : Choice). x.hash) (sym (c.choice-hash.ensures.value r h stands)) in
    let len : c.size.result ≡ hash_len (place_terms p) = c.size.ensures ∙ ap hash_size (sym chosen) in
    let some : chunk_in (request_at p m) ≡ Some chunk = sym (c.in-Some.ensures ∙ ap (λ (n : ℕ). chunk_in (request_in n m)) len) in
    let done = c.if-not-completes.ensures r h stands in
    let joined = c.as_slice.ensures.value ∙ sym (completed_is r.max (chunks_of p.turns) chunk c.completes.new.whole done) in
    let free_there = subst (λ (l : List ℕ). IsFree c.field_values-shown-in-Some.result (whole_values (inside p) l k whole)) joined (c.field_values-shown-in-Some.ensures (inside p) k chosen free) in
    let shown = subst (λ (o : Option ChunkMessage). IsFree c.field_values-shown-in-Some.result (clear_whole p m k whole o)) (sym some) free_there in
    c.leads_at-in-Some.ensures.stands r h (clear_shown r h m c.args.reply.now whole) set stands few shown is
