use Rattle.std.proofs.Common.{◌≡◌, ◌-◌, ◌^◌, ◌<◌, ◌∙◌, ◌==◌, sym, ap, subst, length, arith, eq-eqb, ne_eqb, List, [], ℕ, false, Some, Option, inl, inr}
use Rattle.std.specs.Prelude.{slice_index}
use Rattle.std.proofs.lemmas.Option.{same_Some}
use Rattle.check_ends.proofs.InTurn.{answers_in_turn}
use Rattle.check_ends.proofs.PartyReplied.{kept_limits}
use Rattle.check_responder.specs.AnswerKeys.{will_take}
use Rattle.check_laws.specs.Keeping.{restored}
use Rattle.check_laws.specs.Order.{body_in}
use Rattle.check_laws.specs.RepliesShown.{responder_for}
use Rattle.responder_core.specs.Connected as connected
use Rattle.responder_core.specs.declared.connected.Connection.{Connection}
use Rattle.check_fetched_laws.specs.AnswerTexts.{Holds}
use Rattle.check_fetched_laws.specs.JudgedFor.{JudgesFor}
use Rattle.capture_machine.specs.LargeAnswers.{with_large}
use Rattle.capture_machine.specs.Rounds.{Round}
use Rattle.check_fetched_ends.proofs.FetchedKept.{fetched_in}
use Rattle.check_fetched_ends.proofs.InSessionRead.{few_kept, fills_there, fits_kept, judges_there, keys_kept, read_there, stand_there}
use Rattle.check_fetched_ends.proofs.InSessionRefused.{refused}
use Rattle.check_fetched_ends.proofs.InSessionWrong.{Fits, misfit_last, misfit_plain, never_large, wrong_last, wrong_plain}
use Rattle.check_fetched_ends.proofs.OthersNone.{other_clear, other_gone, other_short, other_text, other_untaken}
use Rattle.check_fetched_ends.proofs.session_fetch.in_session_replies.replies_in_session.Goals as goal
use Rattle.check_fetched_ends.specs.ChunkJudged.{IsChunkJudged, IsNoChunk}
use Rattle.check_fetched_ends.specs.InSession.{IsFetchedIn, IsReadIn, IsTextOf}
use Rattle.check_fetched_ends.specs.SessionOthers.{IsOtherAnswer, IsRefusing}
use Rattle.check_fetched_ends.specs.declared.upon.Upon.{Upon}

pub returns-then-byte_at-eq-SPDM-clause-told : goal.returns-then-byte_at-eq-SPDM-clause-told
returns-then-byte_at-eq-SPDM-clause-told c = λ w q older rows f route own below byte now set_up none is stands.
    let clear = ap (λ (n : ℕ). n == 5) (sym c.byte_at.ensures ∙ c.if-byte_at-eq-SPDM.true) in
    c.replies_version.ensures.told w q older rows f route own below byte now set_up none (ap (λ (l : List ℕ). slice_index l 0 == 5) (sym c.body-body.ensures) ∙ clear) is stands

pub returns-then-not-fetched-clause-told : goal.returns-then-not-fetched-clause-told
returns-then-not-fetched-clause-told c = λ w q older rows f route own below byte now set_up none is stands.
    let answer : List ℕ = c.args.answer.now in
    let fetched = c.args.fetched.now in
    let turn = answers_in_turn f.kept route answer none in
    let limits = kept_limits q f.kept c.args.party.now.asker is.beside.asker in
    let at = now ∙ turn.answers.0 in
    let body = c.body-body.ensures ∙ ap body_in at in
    let type = ne_eqb (slice_index turn.round.body 0) 5 (λ e. c.if-byte_at-eq-SPDM.false (c.byte_at.ensures ∙ ap (λ (l : List ℕ). slice_index l 0) body ∙ e)) in
    let other = other_gone w q older f route answer byte limits own turn fetched is.at is.whole is.stands false type is.pending c.if-not-fetched.true in
    c.judges_other.ensures.told w q older rows f route own below byte now set_up none (turn.round, turn.answers.0, other) is stands

pub returns-then-byte_at-eq-SPDM-2-clause-told : goal.returns-then-byte_at-eq-SPDM-2-clause-told
returns-then-byte_at-eq-SPDM-2-clause-told c = λ w q older rows f route own below byte now set_up none is stands.
    let answer : List ℕ = c.args.answer.now in
    let fetched = c.args.fetched.now in
    let turn = answers_in_turn f.kept route answer none in
    let limits = kept_limits q f.kept c.args.party.now.asker is.beside.asker in
    let at = now ∙ turn.answers.0 in
    let body = c.body-body.ensures ∙ ap body_in at in
    let type = ne_eqb (slice_index turn.round.body 0) 5 (λ e. c.if-byte_at-eq-SPDM.false (c.byte_at.ensures ∙ ap (λ (l : List ℕ). slice_index l 0) body ∙ e)) in
    let clear = ap (λ (n : ℕ). n == 5) (sym c.byte_at-2.ensures ∙ c.if-byte_at-eq-SPDM-2.true) in
    let other = other_clear w q older f route answer byte limits own turn fetched is.at is.whole is.stands false type clear in
    c.judges_other-then-byte_at-eq-SPDM-2.ensures.told w q older rows f route own below byte now set_up none (turn.round, turn.answers.0, other) is stands

pub returns-then-not-reads_text-clause-told : goal.returns-then-not-reads_text-clause-told
returns-then-not-reads_text-clause-told c = λ w q older rows f route own below byte now set_up none is stands.
    let fewer : length older < 2 ^ 64 - 1 = omega (arith, below) in
    let answer : List ℕ = c.args.answer.now in
    let fetched = c.args.fetched.now in
    let turn = answers_in_turn f.kept route answer none in
    let limits = kept_limits q f.kept c.args.party.now.asker is.beside.asker in
    let at = now ∙ turn.answers.0 in
    let body = c.body-body.ensures ∙ ap body_in at in
    let type = ne_eqb (slice_index turn.round.body 0) 5 (λ e. c.if-byte_at-eq-SPDM.false (c.byte_at.ensures ∙ ap (λ (l : List ℕ). slice_index l 0) body ∙ e)) in
    let r = responder_for w f.kept in
    let g = with_large (Some fetched.id) is.whole f.kept.responder in
    let small = few_kept w q older rows f route answer byte limits own turn c.args.party.now fetched is [] fewer in
    let there = fetched_in c.args.party.now c.reads_text.new.answerer fetched w q f rows is c.reads_text.ensures.same in
    let other : IsOtherAnswer r fetched f turn.round answer false = elim (c.reads_text.ensures.none r g is.judges small c.if-not-reads_text.true) [
      | inl short ↦ other_short w q older f route answer byte limits own turn fetched is.at is.whole is.stands false type short
      | inr none_taken ↦ other_untaken w q older f route answer byte limits own turn fetched is.at is.whole is.stands false type (subst (λ (b : List ℕ). will_take r g b ≡ false) body none_taken)
    ] in
    c.judges_other-then-not-reads_text.ensures.told w q older rows f route own below byte now set_up none (turn.round, turn.answers.0, other) there stands

pub returns-in_default-clause-told : goal.returns-in_default-clause-told
returns-in_default-clause-told c = λ w q older rows f route own below byte now set_up none is stands.
    let fewer : length older < 2 ^ 64 - 1 = omega (arith, below) in
    let answer : List ℕ = c.args.answer.now in
    let fetched = c.args.fetched.now in
    let turn = answers_in_turn f.kept route answer none in
    let limits = kept_limits q f.kept c.args.party.now.asker is.beside.asker in
    let at = now ∙ turn.answers.0 in
    let body = c.body-body.ensures ∙ ap body_in at in
    let type = ne_eqb (slice_index turn.round.body 0) 5 (λ e. c.if-byte_at-eq-SPDM.false (c.byte_at.ensures ∙ ap (λ (l : List ℕ). slice_index l 0) body ∙ e)) in
    let r = responder_for w f.kept in
    let g = with_large (Some fetched.id) is.whole f.kept.responder in
    let small = few_kept w q older rows f route answer byte limits own turn c.args.party.now fetched is [] fewer in
    let text = c.reads_text.new.text in
    let read = subst (λ (b : List ℕ). IsTextOf r g b answer text) body (c.reads_text.ensures.told r g is.judges small c.if-not-reads_text.false) in
    let there = fetched_in c.args.party.now c.reads_text.new.answerer fetched w q f rows is c.reads_text.ensures.same in
    let same = c.as_slice.ensures.value in
    let second = c.as_slice-in_default.ensures.value in
    let refusing = subst (λ (l : List ℕ). IsRefusing l c.holds_error-refuses.result) second (c.holds_error-refuses.ensures (subst (λ (l : List ℕ). length l < 65536) (sym second) read.brief)) in
    let other = other_text w q older f route answer byte limits own turn fetched is.at is.whole is.stands c.holds_error-refuses.result type text read
    (λ m held is_it. c.in_default.ensures (subst (λ (l : List ℕ). length l < 65536) (sym same) read.brief) m (subst (λ (l : List ℕ). Holds l m) (sym same) held) is_it) refusing in
    c.judges_other-in_default.ensures.told w q older rows f route own below byte now set_up none (turn.round, turn.answers.0, other) there stands

pub returns-in_default-filled-clause-told : goal.returns-in_default-filled-clause-told
returns-in_default-filled-clause-told c = λ w q older rows f route own below byte now set_up none is stands.
    let fewer : length older < 2 ^ 64 - 1 = omega (arith, below) in
    let answer : List ℕ = c.args.answer.now in
    let turn = answers_in_turn f.kept route answer none in
    let limits = kept_limits q f.kept c.args.party.now.asker is.beside.asker in
    let at = now ∙ turn.answers.0 in
    let body = c.body-body.ensures ∙ ap body_in at in
    let r = responder_for w f.kept in
    let g = with_large (Some c.args.fetched.now.id) is.whole f.kept.responder in
    let small = few_kept w q older rows f route answer byte limits own turn c.args.party.now c.args.fetched.now is [] fewer in
    let text = c.reads_text.new.text in
    let read = subst (λ (b : List ℕ). IsTextOf r g b answer text) body (c.reads_text.ensures.told r g is.judges small c.if-not-reads_text.false) in
    let type = ne_eqb (slice_index turn.round.body 0) 5 (λ e. c.if-byte_at-eq-SPDM.false (c.byte_at.ensures ∙ ap (λ (l : List ℕ). slice_index l 0) body ∙ e)) in
    let sealed = ne_eqb (slice_index answer 0) 5 (λ e. c.if-byte_at-eq-SPDM-2.false (c.byte_at-2.ensures ∙ e)) in
    let message = c.in-Some.message.now in
    let holds = subst (λ (l : List ℕ). Holds l message) c.as_slice.ensures.value c.in-Some.ensures.0 in
    let chunk = c.in-Some.ensures.1 in
    let first = subst (λ (x : Connection). connected.StandsFor x r g) (sym c.reads_text.ensures.same) is.judges in
    let why = c.reply_why-why.ensures.told r (record (restored f.kept) { responder = g }) turn.round first small (keys_kept w q older rows f route answer byte limits own turn c.args.party.now c.args.fetched.now is [] type) (sym body) in
    let misfit : Fits f c.args.fetched.now.least c.args.fetched.now.most message → ⊥ = λ fits. c.in_default-filled.ensures (fits_kept w q older rows f route answer byte limits own turn c.args.party.now c.args.fetched.now is message fits) in
    refused w q older rows f route answer byte limits own turn c.args.fetched.now.id is.at type c.args.fetched.now.least c.args.fetched.now.most c.args.fetched.now.op is.lengths is.asks is.whole is.stands c.reply_why-why.result why (record {
      plain = misfit_plain w q older f route answer byte limits own turn c.args.fetched.now.id is.at type sealed text message holds chunk is.whole is.stands read c.args.fetched.now.least c.args.fetched.now.most is.lengths misfit;
      large = never_large w q older f route answer byte limits own turn c.args.fetched.now.id is.at type sealed text message holds chunk is.whole is.stands read;
      last = misfit_last w q older f route answer byte limits own turn c.args.fetched.now.id is.at type sealed text message holds chunk is.whole is.stands read c.args.fetched.now.least c.args.fetched.now.most is.lengths misfit;
    }) c.args.party.now (IsFetchedIn c.args.party.now c.args.fetched.now w q) c.args.table.now

pub returns-in-Some-2-clause-told : goal.returns-in-Some-2-clause-told
returns-in-Some-2-clause-told c = λ w q older rows f route own below byte now set_up none is stands.
    let fewer : length older < 2 ^ 64 - 1 = omega (arith, below) in
    let answer : List ℕ = c.args.answer.now in
    let turn = answers_in_turn f.kept route answer none in
    let limits = kept_limits q f.kept c.args.party.now.asker is.beside.asker in
    let at = now ∙ turn.answers.0 in
    let body = c.body-body.ensures ∙ ap body_in at in
    let r = responder_for w f.kept in
    let g = with_large (Some c.args.fetched.now.id) is.whole f.kept.responder in
    let small = few_kept w q older rows f route answer byte limits own turn c.args.party.now c.args.fetched.now is [] fewer in
    let text = c.reads_text.new.text in
    let read = subst (λ (b : List ℕ). IsTextOf r g b answer text) body (c.reads_text.ensures.told r g is.judges small c.if-not-reads_text.false) in
    let type = ne_eqb (slice_index turn.round.body 0) 5 (λ e. c.if-byte_at-eq-SPDM.false (c.byte_at.ensures ∙ ap (λ (l : List ℕ). slice_index l 0) body ∙ e)) in
    let sealed = ne_eqb (slice_index answer 0) 5 (λ e. c.if-byte_at-eq-SPDM-2.false (c.byte_at-2.ensures ∙ e)) in
    let left = c.if-not-fetched.false in
    let message = c.in-Some.message.now in
    let holds = subst (λ (l : List ℕ). Holds l message) c.as_slice.ensures.value c.in-Some.ensures.0 in
    let chunk = c.in-Some.ensures.1 in
    let first = subst (λ (x : Connection). connected.StandsFor x r g) (sym c.reads_text.ensures.same) is.judges in
    let why = c.reply_why-why.ensures.told r (record (restored f.kept) { responder = g }) turn.round first small (keys_kept w q older rows f route answer byte limits own turn c.args.party.now c.args.fetched.now is [] type) (sym body) in
    let whole = c.as_slice-2.result.now in
    let fits = c.in-Some-filled.ensures.0 in
    let fills = c.as_slice-2.ensures.value ∙ c.in-Some-filled.ensures.1 in
    let same = c.reply_why-why.ensures.same ∙ c.reads_text.ensures.same in
    let judges = judges_there w q older rows f route answer byte limits own turn c.args.party.now c.args.fetched.now is message fits whole fills left type sealed text read holds chunk c.put_bytes.new.connection
    (λ s h l one two three stands_for. c.put_bytes.ensures s h l one two three (subst (λ (x : Connection). JudgesFor x s h (Some c.args.fetched.now.id) l) (sym same) stands_for)) in
    let answerer = record c.reply_why-why.new.self { connection = c.put_bytes.new.connection } in
    let there = read_there w q older rows f route answer byte limits own turn c.args.party.now c.args.fetched.now is message fits whole fills left type sealed text read holds chunk answerer judges in
    let in_round = subst (λ (b : List ℕ). IsReadIn (record c.args.party.now { answerer = answerer }) c.args.fetched.now w q f rows b answer message whole) (sym (ap body_in at)) there in
    let in_call = subst (IsReadIn (record c.args.party.now { answerer = answerer }) c.args.fetched.now w q f rows (body_in c.args.round.now) answer message) (c.as_slice-2.ensures.value ∙ sym c.as_slice-3.ensures.value) in_round in
    let told = c.in_ok-upon.ensures.told w q older rows f route own below byte now set_up none in_call stands in
    subst (λ (x : Option Upon). IsChunkJudged w q older rows f route answer c.as_slice-3.result.now c.args.fetched.now x c.judges_chunk.new.party (IsFetchedIn c.judges_chunk.new.party c.judges_chunk.new.fetched w q) c.judges_chunk.new.table) c.in-Some-2.is told

pub returns-in-None-clause-told : goal.returns-in-None-clause-told
returns-in-None-clause-told c = λ w q older rows f route own below byte now set_up none is stands.
    let fewer : length older < 2 ^ 64 - 1 = omega (arith, below) in
    let answer : List ℕ = c.args.answer.now in
    let turn = answers_in_turn f.kept route answer none in
    let limits = kept_limits q f.kept c.args.party.now.asker is.beside.asker in
    let at = now ∙ turn.answers.0 in
    let body = c.body-body.ensures ∙ ap body_in at in
    let r = responder_for w f.kept in
    let g = with_large (Some c.args.fetched.now.id) is.whole f.kept.responder in
    let small = few_kept w q older rows f route answer byte limits own turn c.args.party.now c.args.fetched.now is [] fewer in
    let text = c.reads_text.new.text in
    let read = subst (λ (b : List ℕ). IsTextOf r g b answer text) body (c.reads_text.ensures.told r g is.judges small c.if-not-reads_text.false) in
    let type = ne_eqb (slice_index turn.round.body 0) 5 (λ e. c.if-byte_at-eq-SPDM.false (c.byte_at.ensures ∙ ap (λ (l : List ℕ). slice_index l 0) body ∙ e)) in
    let sealed = ne_eqb (slice_index answer 0) 5 (λ e. c.if-byte_at-eq-SPDM-2.false (c.byte_at-2.ensures ∙ e)) in
    let left = c.if-not-fetched.false in
    let message = c.in-Some.message.now in
    let holds = subst (λ (l : List ℕ). Holds l message) c.as_slice.ensures.value c.in-Some.ensures.0 in
    let chunk = c.in-Some.ensures.1 in
    let first = subst (λ (x : Connection). connected.StandsFor x r g) (sym c.reads_text.ensures.same) is.judges in
    let why = c.reply_why-why.ensures.told r (record (restored f.kept) { responder = g }) turn.round first small (keys_kept w q older rows f route answer byte limits own turn c.args.party.now c.args.fetched.now is [] type) (sym body) in
    let whole = c.as_slice-2.result.now in
    let fits = c.in-Some-filled.ensures.0 in
    let fills = c.as_slice-2.ensures.value ∙ c.in-Some-filled.ensures.1 in
    let same = c.reply_why-why.ensures.same ∙ c.reads_text.ensures.same in
    let judges = judges_there w q older rows f route answer byte limits own turn c.args.party.now c.args.fetched.now is message fits whole fills left type sealed text read holds chunk c.put_bytes.new.connection
    (λ s h l one two three stands_for. c.put_bytes.ensures s h l one two three (subst (λ (x : Connection). JudgesFor x s h (Some c.args.fetched.now.id) l) (sym same) stands_for)) in
    let answerer = record c.reply_why-why.new.self { connection = c.put_bytes.new.connection } in
    let there = read_there w q older rows f route answer byte limits own turn c.args.party.now c.args.fetched.now is message fits whole fills left type sealed text read holds chunk answerer judges in
    let in_round = subst (λ (b : List ℕ). IsReadIn (record c.args.party.now { answerer = answerer }) c.args.fetched.now w q f rows b answer message whole) (sym (ap body_in at)) there in
    let in_call = subst (IsReadIn (record c.args.party.now { answerer = answerer }) c.args.fetched.now w q f rows (body_in c.args.round.now) answer message) (c.as_slice-2.ensures.value ∙ sym c.as_slice-3.ensures.value) in_round in
    let told = c.in_ok-upon.ensures.told w q older rows f route own below byte now set_up none in_call stands in
    let found = subst (λ (x : Option Upon). IsChunkJudged w q older rows f route answer c.as_slice-3.result.now c.args.fetched.now x c.judges_chunk.new.party (IsFetchedIn c.judges_chunk.new.party c.judges_chunk.new.fetched w q) c.judges_chunk.new.table) c.in-None.is told in
    let one = subst (λ (x : Round). IsNoChunk r (with_large (Some c.args.fetched.now.id) c.as_slice-3.result.now f.kept.responder) f.kept c.args.fetched.now.op x answer c.as_slice-3.result.now) (same_Some found.0 turn.round (sym found.1 ∙ turn.answers.0)) found.2 in
    let wrong = subst (λ (l : List ℕ). IsNoChunk r (with_large (Some c.args.fetched.now.id) l f.kept.responder) f.kept c.args.fetched.now.op turn.round answer l) (c.as_slice-3.ensures.value ∙ sym c.as_slice-2.ensures.value) one in
    let stand_new = stand_there w q older rows f route answer byte limits own turn c.args.party.now c.args.fetched.now is message fits whole fills in
    let fills_new = fills_there w q older rows f route answer byte limits own turn c.args.party.now c.args.fetched.now is message fits whole fills in
    refused w q older rows f route answer byte limits own turn c.args.fetched.now.id is.at type c.args.fetched.now.least c.args.fetched.now.most c.args.fetched.now.op is.lengths is.asks is.whole is.stands c.reply_why-why.result why (record {
      plain = wrong_plain w q older f route answer byte limits own turn c.args.fetched.now.id is.at type sealed text message holds chunk is.whole is.stands read c.args.fetched.now.least c.args.fetched.now.most c.args.fetched.now.op is.lengths is.asks whole stand_new fills_new wrong;
      large = never_large w q older f route answer byte limits own turn c.args.fetched.now.id is.at type sealed text message holds chunk is.whole is.stands read;
      last = wrong_last w q older f route answer byte limits own turn c.args.fetched.now.id is.at type sealed text message holds chunk is.whole is.stands read c.args.fetched.now.least c.args.fetched.now.most c.args.fetched.now.op is.lengths is.asks whole stand_new fills_new wrong;
    }) c.args.party.now (IsFetchedIn c.args.party.now c.args.fetched.now w q) c.args.table.now
