use Rattle.std.proofs.Common.{eqb-true, ◌≡◌, ◌≤◌, ◌+◌, ◌==◌, ◌++◌, ◌∙◌, ℕ, List, sym, ap, subst, arith, length, None}
use Rattle.std.specs.Prelude.{slice_index}
use Rattle.chunking.specs.Collecting.{joined}
use Rattle.chunking.specs.Cutting.{chunk_count, chunks_before, nth_chunk}
use Rattle.check_fetched_laws.specs.ClearChunks.{get_response}
use Rattle.check_fetched_laws.proofs.LastAsked.{extended}
use Rattle.responder_core.specs.Connected.{StandsFor}
use Rattle.check_fetched_ends.proofs.LastReady.{add_one}
use Rattle.capture_machine.specs.LargeAnswers.{with_large}
use Rattle.check_fetched_ends.proofs.LastGiven.{joined_few, joined_next, last_told, not_last, response_is}
use Rattle.check_fetched_ends.specs.LastHeld.{AreAsked, count_at, gets_behind, transfer_at}
use Rattle.check_late_laws.specs.Fetching.{bytes_in}
use Rattle.responder_machine.specs.History.{History}
use Rattle.check_fetched_ends.proofs.clear_fetch.held_given.give_next.Goals as goal

pub returns-clause-asked : goal.returns-clause-asked
returns-clause-asked c = λ r h whole set_up can within before.
    let tag : ℕ = c.args.tag in
    let handle : ℕ = c.args.handle in
    let n : ℕ = c.args.number in
    let g : History = gets_behind tag handle whole h n in
    let t : ℕ = transfer_at h whole in
    let next = can.next n within in
    let given = c.as_slice.ensures.value ∙ c.ask_chunk.ensures.gives r g whole set_up before.stands next in
    let more : c.bytes_in.result.now ≡ bytes_in n (get_response g whole handle n) = c.bytes_in.ensures ∙ ap (bytes_in n) given in
    let is = ap (λ (l : List ℕ). l ++ c.bytes_in.result.now) before.bytes_are ∙ ap (λ (l : List ℕ). joined (chunks_before t 0 whole n) ++ l) more ∙ joined_next tag handle whole h n in
    let few = joined_few t whole (n + 1) can.wide in
    let short = can.short in
    record {
      stands = subst (λ (x : ℕ). StandsFor c.ask_chunk.new.connection r (with_large None whole (gets_behind tag handle whole h x))) (sym (add_one n)) (c.ask_chunk.ensures.stands r g whole set_up before.stands next);
      bytes_are = extended c.extend.result c.extend.new.self c.args.bytes.now c.bytes_in.result.now (joined (chunks_before t 0 whole (n + 1))) is (omega (arith, few, short)) c.extend.ensures.ok c.extend.ensures.full;
    }

pub returns-clause-all : goal.returns-clause-all
returns-clause-all c = λ r h whole set_up can within before so.
    let tag : ℕ = c.args.tag in
    let handle : ℕ = c.args.handle in
    let n : ℕ = c.args.number in
    let g : History = gets_behind tag handle whole h n in
    let t : ℕ = transfer_at h whole in
    let next = can.next n within in
    let given = c.as_slice.ensures.value ∙ c.ask_chunk.ensures.gives r g whole set_up before.stands next in
    let more : c.bytes_in.result.now ≡ bytes_in n (get_response g whole handle n) = c.bytes_in.ensures ∙ ap (bytes_in n) given in
    let is = ap (λ (l : List ℕ). l ++ c.bytes_in.result.now) before.bytes_are ∙ ap (λ (l : List ℕ). joined (chunks_before t 0 whole n) ++ l) more ∙ joined_next tag handle whole h n in
    let few = joined_few t whole (n + 1) can.wide in
    let short = can.short in
    let given_again = c.as_slice-2.ensures.value ∙ c.ask_chunk.ensures.gives r g whole set_up before.stands next in
    let last = ap (λ (x : ℕ). x == 1) (c.byte_at.ensures ∙ ap (λ (l : List ℕ). slice_index l 2) (given_again ∙ response_is tag handle whole h n)) ∙ last_told t handle whole n in
    let all : n + 1 ≡ count_at h whole = eqb-true (n + 1) (count_at h whole) (sym last ∙ so) in
    subst (λ (x : ℕ). AreAsked c.ask_chunk.new.connection c.extend.new.self r h whole tag handle x) all (
    record {
      stands = subst (λ (x : ℕ). StandsFor c.ask_chunk.new.connection r (with_large None whole (gets_behind tag handle whole h x))) (sym (add_one n)) (c.ask_chunk.ensures.stands r g whole set_up before.stands next);
      bytes_are = extended c.extend.result c.extend.new.self c.args.bytes.now c.bytes_in.result.now (joined (chunks_before t 0 whole (n + 1))) is (omega (arith, few, short)) c.extend.ensures.ok c.extend.ensures.full;
    })

pub returns-clause-more : goal.returns-clause-more
returns-clause-more c = λ r h whole set_up can within before so.
    let tag : ℕ = c.args.tag in
    let handle : ℕ = c.args.handle in
    let n : ℕ = c.args.number in
    let g : History = gets_behind tag handle whole h n in
    let t : ℕ = transfer_at h whole in
    let next = can.next n within in
    let given_again = c.as_slice-2.ensures.value ∙ c.ask_chunk.ensures.gives r g whole set_up before.stands next in
    let last = ap (λ (x : ℕ). x == 1) (c.byte_at.ensures ∙ ap (λ (l : List ℕ). slice_index l 2) (given_again ∙ response_is tag handle whole h n)) ∙ last_told t handle whole n in
    not_last n (count_at h whole) within (sym last ∙ so)
