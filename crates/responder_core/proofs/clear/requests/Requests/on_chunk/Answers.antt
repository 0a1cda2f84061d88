use Rattle.std.proofs.Common.{◌≡◌, ◌∙◌, sym, subst, ap, List, ℕ, Option, arith}
use Rattle.chunking.specs.Keeping as keeping
use Rattle.responder_core.proofs.Chunked.{chunk_code, rule_more, rule_refused, rule_whole, turned_more, turned_refused}
use Rattle.responder_core.proofs.Draws.{more_draws}
use Rattle.responder_core.proofs.NoExchange.{more_takes_none}
use Rattle.responder_core.specs.Coming.{Seen, StandsFor}
use Rattle.responder_core.specs.Refused.{chunk_refusal}
use Rattle.responder_core.specs.ClearState.{place_at}
use Rattle.responder_machine.specs.Place.{Place}
use Rattle.responder_machine.specs.Place.Where.{InClear}
use Rattle.responder_machine.proofs.Codes.{asked-code}
use Rattle.spdm_grammar.specs.Message.{ChunkMessage, chunk_message}
use Rattle.spdm_grammar.specs.Message.RequestMessage.{ChunkSend}
use Rattle.chunking.specs.Collecting.{accepted_unless, broken_rule, joined_with, under_way}
use Rattle.responder_core.proofs.clear.requests.Requests.on_chunk.Goals as goal
use Rattle.responder_machine.specs.LargeMessages.{chunks_of}
use Rattle.spdm_grammar.specs.declared.messages.error_code.ErrorCode.{ErrorCode}
use Rattle.spdm_grammar.specs.declared.messages.part_faults.ChunkFault.{ChunkFault}

pub returns-in-Refused-clause-come : goal.returns-in-Refused-clause-come
returns-in-Refused-clause-come c = λ r turns f setup free stands form asked_is refused.
    let p : Place = place_at InClear turns c.args.held in
    let m : List ℕ = c.args.message.now in
    let chunk : ChunkMessage = chunk_message c.args.chunk in
    let before : Seen = record { standing = c.self.inside.standing; collector = c.self.inside.collector; whole = c.self.inside.whole } in
    let same : c.args.self.now ≡ before = sym c.self.view_is in
    let stood = subst (λ (s : Seen). StandsFor s r turns) same stands in
    let gathered : Seen = record { standing = c.self.inside.standing; collector = c.gather.new.collector; whole = c.gather.new.whole } in
    let rule : Option ChunkFault = broken_rule before.collector.max (under_way (chunks_of turns)) chunk in
    let own : broken_rule r.max (under_way (chunks_of turns)) chunk ≡ rule = ap (λ (n : ℕ). broken_rule n (under_way (chunks_of turns)) chunk) (sym stood.max) in
    let fault = c.in-Refused.fault in
    let code : ErrorCode = c.code_of_fault-code.result in
    let broke = rule_refused rule chunk (joined_with (under_way (chunks_of turns)) chunk) fault (c.in-Refused.ensures.answer (chunks_of turns) stood.collector) in
    let collector = subst (λ (x : Option ChunkFault). keeping.StandsFor c.gather.new.collector (accepted_unless x (chunks_of turns) chunk)) broke (c.in-Refused.ensures.stands (chunks_of turns) stood.collector) in
    let place = c.place-place.ensures turns c.args.held stood.standing in
    let told = c.code_of_fault-code.ensures in
    turned_refused r InClear turns c.args.held m f code gathered c.write_error.new.out (refused ∙ ap chunk_refusal (own ∙ broke) ∙ told)
    (record { standing = stood.standing; collector = collector; max = c.in-Refused.ensures.max ∙ stood.max })
    (c.write_error.ensures.value r p f place (λ large. absurd (chunk_code fault code told large)))

pub returns-in-More-clause-come : goal.returns-in-More-clause-come
returns-in-More-clause-come c = λ r turns f setup free stands form asked_is refused.
    let p : Place = place_at InClear turns c.args.held in
    let m : List ℕ = c.args.message.now in
    let chunk : ChunkMessage = chunk_message c.args.chunk in
    let before : Seen = record { standing = c.self.inside.standing; collector = c.self.inside.collector; whole = c.self.inside.whole } in
    let same : c.args.self.now ≡ before = sym c.self.view_is in
    let stood = subst (λ (s : Seen). StandsFor s r turns) same stands in
    let gathered : Seen = record { standing = c.self.inside.standing; collector = c.gather.new.collector; whole = c.gather.new.whole } in
    let rule : Option ChunkFault = broken_rule before.collector.max (under_way (chunks_of turns)) chunk in
    let own : broken_rule r.max (under_way (chunks_of turns)) chunk ≡ rule = ap (λ (n : ℕ). broken_rule n (under_way (chunks_of turns)) chunk) (sym stood.max) in
    let more = rule_more rule chunk (joined_with (under_way (chunks_of turns)) chunk) (c.in-More.ensures.answer (chunks_of turns) stood.collector) in
    let collector = subst (λ (x : Option ChunkFault). keeping.StandsFor c.gather.new.collector (accepted_unless x (chunks_of turns) chunk)) more.0 (c.in-More.ensures.stands (chunks_of turns) stood.collector) in
    let taken_is = refused ∙ ap chunk_refusal (own ∙ more.0) in (
      turned_more r InClear turns c.args.held m f chunk (record gathered { standing = c.take_chunk.new.self }) c.write_acknowledgement.new.out asked_is taken_is more.1
          (λ t taken nothing. c.take_chunk.ensures turns t stood.standing taken nothing) collector (c.in-More.ensures.max ∙ stood.max) (c.write_acknowledgement.ensures (omega arith)),
      more_takes_none r p m f chunk asked_is taken_is more.1,
      sym (more_draws r p m f chunk asked_is taken_is more.1),
      asked-code p m (ChunkSend chunk) asked_is,
    )

pub returns-in-Whole-clause-come : goal.returns-in-Whole-clause-come
returns-in-Whole-clause-come c = λ r turns f setup free stands form asked_is refused.
    let p : Place = place_at InClear turns c.args.held in
    let m : List ℕ = c.args.message.now in
    let chunk : ChunkMessage = chunk_message c.args.chunk in
    let before : Seen = record { standing = c.self.inside.standing; collector = c.self.inside.collector; whole = c.self.inside.whole } in
    let same : c.args.self.now ≡ before = sym c.self.view_is in
    let stood = subst (λ (s : Seen). StandsFor s r turns) same stands in
    let gathered : Seen = record { standing = c.self.inside.standing; collector = c.gather.new.collector; whole = c.gather.new.whole } in
    let rule : Option ChunkFault = broken_rule before.collector.max (under_way (chunks_of turns)) chunk in
    let own : broken_rule r.max (under_way (chunks_of turns)) chunk ≡ rule = ap (λ (n : ℕ). broken_rule n (under_way (chunks_of turns)) chunk) (sym stood.max) in
    let whole = rule_whole rule chunk (joined_with (under_way (chunks_of turns)) chunk) c.gather.new.whole (c.in-Whole.ensures.answer (chunks_of turns) stood.collector) in
    let collector = subst (λ (x : Option ChunkFault). keeping.StandsFor c.gather.new.collector (accepted_unless x (chunks_of turns) chunk)) whole.0 (c.in-Whole.ensures.stands (chunks_of turns) stood.collector) in
    c.on_whole.ensures.come r turns m f setup free (record {
      last = whole.1;
      form = form;
      asked_is = asked_is;
      refused = refused ∙ ap chunk_refusal (own ∙ whole.0);
      whole = whole.2;
      standing = stood.standing;
      collector = collector;
      max = c.in-Whole.ensures.max ∙ stood.max;
    })
