use Rattle.std.proofs.Common.{◌∙◌, subst, sym, ℕ, arith}
use Rattle.requester_core.proofs.Carrying.{whole_carried}
use Rattle.requester_core.proofs.Early.{fault_near}
use Rattle.requester_core.proofs.Fetched.{ack_sends_on, answered_leaves, carried_leaves, gathered_here, under_here}
use Rattle.requester_core.proofs.Taken.{ack_carried, awaited_here, get_aim, get_carried, kept_here, pieces_aim, pieces_cut, plain_aim, taken, up_here, whole_carries}
use Rattle.requester_core.specs.Gathering.{Leaves}
use Rattle.requester_machine.specs.ClearAnswers.{Carried, ack_carries, chunk_carries, has_summary, reading_of}
use Rattle.requester_machine.specs.ClearAnswers.Carried.{Whole}
use Rattle.requester_machine.specs.History.{connection_terms}
use Rattle.requester_machine.specs.Sending.{piece_of}
use Rattle.spdm_machine.specs.Terms.{hash_len}
use Rattle.requester_core.proofs.clear.clear_state.ClearState.on_transfer.Goals as goal

pub returns-in-Whole : goal.returns-in-Whole
returns-in-Whole c = λ q h sent request setup stands waits gathers asks kind mode short.
    let m = c.args.message.now in
    let g = c.args.gathered.now in
    let aim = plain_aim sent.aim request asks (mode ∙ c.in-Whole.is) in
    let awaits = awaited_here q h sent request stands.holds waits asks in
    let answered = c.on_answer.ensures q h request setup stands.shows awaits kind (kept_here c.args.self.now h sent request stands.shows waits asks) (up_here c.args.self.now h sent request stands.shows waits asks) short
    (λ e faulty. (let near = fault_near (hash_len (connection_terms h)) (has_summary request) m e faulty in omega (arith, near, short))) in
    let by = whole_carries q h m sent.aim request aim in (
      taken q h sent request m (Whole m 0) c.on_answer.result c.args.self.now c.on_answer.new.self c.on_answer.new.out stands.holds waits asks by (whole_carried q h request m 0 c.on_answer.result c.args.self.now c.on_answer.new.self c.on_answer.new.out answered),
      subst (λ (x : Carried). Leaves q x c.on_answer.result g g) (sym by) (answered_leaves q h 0 request m (Whole m 0) c.on_answer.result c.args.self.now c.on_answer.new.self c.on_answer.new.out g answered gathers.max),
    )

pub returns-in-ByChunks : goal.returns-in-ByChunks
returns-in-ByChunks c = λ q h sent request setup stands waits gathers asks kind mode short.
    let m = c.args.message.now in
    let g = c.args.gathered.now in
    let handle : ℕ = c.in-ByChunks.handle in
    let number : ℕ = c.in-ByChunks.number in
    let common = (connection_terms h).common in
    let carried = ack_carries h common request (piece_of common request handle number) (reading_of h request m) in
    let aim = pieces_aim sent.aim request handle number asks (mode ∙ c.in-ByChunks.is) in
    let awaits = awaited_here q h sent request stands.holds waits asks in
    let up = up_here c.args.self.now h sent request stands.shows waits asks in
    let cut = pieces_cut q h sent request handle number setup.sizes stands.holds waits aim awaits up in
    let by = ack_carried q h m sent.aim request handle number aim in
    let carries = c.on_sent.ensures q h request setup stands.shows awaits kind (kept_here c.args.self.now h sent request stands.shows waits asks) up short cut in (
      taken q h sent request m carried c.on_sent.result c.args.self.now c.on_sent.new.self c.on_sent.new.out stands.holds waits asks by carries,
      subst (λ (x : Carried). Leaves q x c.on_sent.result g g) (sym by)
          (carried_leaves q h request carried c.on_sent.result c.args.self.now c.on_sent.new.self c.on_sent.new.out g carries (λ next on. ack_sends_on h common request (piece_of common request handle number) (reading_of h request m) next on) gathers.max),
    )

pub returns-in-ForChunk : goal.returns-in-ForChunk
returns-in-ForChunk c = λ q h sent request setup stands waits gathers asks kind mode short.
    let m = c.args.message.now in
    let handle : ℕ = c.in-ForChunk.handle in
    let number : ℕ = c.in-ForChunk.number in
    let aim = get_aim sent.aim request handle number asks (mode ∙ c.in-ForChunk.is) in
    let by = get_carried q h m sent.aim request handle number aim.before aim.is in
    let carried = chunk_carries q h request handle number aim.before (reading_of h request m) in
    let awaits = awaited_here q h sent request stands.holds waits asks in
    let fetched = c.on_get.ensures q h request aim.before setup stands.shows awaits kind (kept_here c.args.self.now h sent request stands.shows waits asks) (up_here c.args.self.now h sent request stands.shows waits asks) short
    (under_here q h sent request handle number aim.before stands.holds waits aim.is) (gathered_here q h sent request handle number aim.before c.args.gathered.now waits aim.is gathers) gathers.max in (
      taken q h sent request m carried c.on_get.result c.args.self.now c.on_get.new.self c.on_get.new.out stands.holds waits asks by fetched.carries,
      subst (λ (x : Carried). Leaves q x c.on_get.result c.args.gathered.now c.on_get.new.gathered) (sym by) fetched.leaves,
    )
