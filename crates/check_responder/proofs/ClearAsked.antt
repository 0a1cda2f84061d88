-- Which request's answer counts in an answer to a clear message.
use Rattle.std.proofs.Common.{◌≡◌, ◌≤◌, ◌==◌, ◌&&◌, ◌||◌, ◌∙◌, ℕ, List, [], ◌∷◌, ◌++◌, refl, sym, ap, subst, length, drop, Bool, true, false, Option, Some, None, is_some, cond, arith, length-append}
use Rattle.std.proofs.lemmas.Bool.{false≢true}
use Rattle.std.specs.Prelude.{nat_lt, slice_index}
use Rattle.chunking.specs.Collecting.{answer_from, broken_rule, collected, joined_with, under_way}
use Rattle.chunking.specs.Collecting.Collection.{More, Whole}
use Rattle.responder_core.proofs.Chunked.{rule_whole}
use Rattle.responder_core.specs.Gathering.{is_whole}
use Rattle.measurements.specs.Blocks.{at_most_one, block_bytes, block_of, record_of}
use Rattle.measurements.specs.Records.{asked}
use Rattle.responder_machine.proofs.Tests.{contents_shown}
use Rattle.responder_machine.specs.Answer.{Free, answer_bytes, answer_to, request_at}
use Rattle.responder_machine.specs.Handling.{chunk_in, turn_by, turn_of}
use Rattle.responder_machine.specs.History.{History, kept_of}
use Rattle.responder_machine.specs.History.Entry.{Clear}
use Rattle.responder_machine.specs.LargeMessages.{chunks_of}
use Rattle.responder_machine.specs.Place.{Place, clear_place, inside, place_terms}
use Rattle.responder_machine.specs.Refusal.{chunk_fault, refusal}
use Rattle.responder_machine.specs.Responder.{body_of, is_repeat, kept_reply, on_clear}
use Rattle.responder_machine.specs.Responder.Outcome.{Same, Adds}
use Rattle.responder_machine.specs.Setup.{RspSetup, inventory_of}
use Rattle.spdm_basis.specs.Sizes.{hash_size}
use Rattle.spdm_grammar.specs.Message.{ChunkMessage, RequestMessage}
use Rattle.spdm_grammar.specs.Message.RequestMessage.{GetVersion, GetCapabilities, NegotiateAlgorithms, GetMeasurements, PskExchange, PskFinish, Heartbeat, KeyUpdate, EndSession, ChunkSend, ChunkGet}
use Rattle.spdm_grammar.specs.declared.told.block_spec.BlockSpec.{BlockSpec}
use Rattle.spdm_grammar.specs.declared.messages.error_code.ErrorCode.{ErrorCode}
use Rattle.spdm_grammar.specs.declared.names.TheConstants.{MAX_MESSAGE_SIZE}
use Rattle.spdm_grammar.specs.declared.names.response_code.TheConstants.{CHUNK_SEND_ACK, ERROR}
use Rattle.spdm_grammar.specs.declared.messages.part_faults.ChunkFault.{ChunkFault}
use Rattle.spdm_machine.specs.Bodies.{clear_body}
use Rattle.check_laws.proofs.LeastValues.{least_are}
use Rattle.check_laws.proofs.LongAnswers.{most_hash}
use Rattle.check_responder.proofs.ReadLengths.{exchange_read_length, measured_read_length}
use Rattle.check_responder.proofs.ShortAnswers.{long_none, long_read, not_longer}
use Rattle.check_responder.specs.JudgedResponder.{free_length}
use Rattle.check_laws.specs.AnswersShown.{clear_values, least_values, values_in, values_in_reply}
use Rattle.check_responder.specs.ClearAnswers.{IsAnsweredAt, IsLongWith}
use Rattle.check_responder.specs.ShownBy.{AnswersSo}
use Rattle.capture_machine.proofs.TurnsAlike.{chunk_is}
use Rattle.capture_machine.specs.CapturedAnswers.{answer_at}
use Rattle.capture_machine.specs.Rounds.{no_draw}

-- ---- The least values never make an answer too long.

-- No operation of GET_MEASUREMENTS asks for too many blocks.
abbrev pub AreFewBlocks : RspSetup → Type 0
AreFewBlocks r = (op : ℕ) → length (record_of (asked op (inventory_of r))) ≤ 4054

one_few : (op : ℕ) (blocks : List BlockSpec) → length (record_of (at_most_one (block_of op blocks))) ≤ length (record_of blocks)
one_few op [] = omega arith
one_few op (block ∷ others) = by_index (block.index == op) (one_few op others)
  where
    by_index : (b : Bool) → length (record_of (at_most_one (block_of op others))) ≤ length (record_of others)
        → length (record_of (at_most_one (cond b (Some block) (block_of op others)))) ≤ length (block_bytes block ++ record_of others)
    by_index true rest = (let one = length-append (block_bytes block) (record_of others) in let two = length-append (block_bytes block) (record_of []) in omega (arith, one, two))
    by_index false rest = (let one = length-append (block_bytes block) (record_of others) in omega (arith, one, rest))

-- None asks for more blocks than all.
pub asked_few : (op : ℕ) (blocks : List BlockSpec) → length (record_of (asked op blocks)) ≤ length (record_of blocks)
asked_few op blocks = by_op (op == 0) (op == 255)
  where
    by_op : (zero all : Bool) → length (record_of (cond zero [] (cond all blocks (at_most_one (block_of op blocks))))) ≤ length (record_of blocks)
    by_op true all = omega arith
    by_op false true = omega arith
    by_op false false = one_few op blocks

flag_most : (b : Bool) (n : ℕ) → cond b n 0 ≤ n
flag_most true n = omega arith
flag_most false n = omega arith

module _ (r : RspSetup) (h : History) (p : Place) (m : List ℕ) (blocks : AreFewBlocks r) where
  abbrev k : Free
  k = least_values h p

  short_by : (q : RequestMessage) → free_length r p m k q ≤ 4096
  short_by (PskExchange x) =
      let all = exchange_read_length r p m k x in
      let least = least_are h p [] in
      let context = least.context in
      let hash = most_hash (place_terms p).choice.hash in
      let summary = flag_most (x.summary == 1 || x.summary == 255) (hash_size (place_terms p).choice.hash) in
      omega (arith, all, context, hash, summary)
  short_by (GetMeasurements op) =
      let all = measured_read_length r k op refl in
      let few = blocks op in
      omega (arith, all, few)
  short_by GetVersion = omega arith
  short_by (GetCapabilities caps) = omega arith
  short_by (NegotiateAlgorithms offer) = omega arith
  short_by (PskFinish verify) = omega arith
  short_by Heartbeat = omega arith
  short_by (KeyUpdate op tag) = omega arith
  short_by EndSession = omega arith
  short_by (ChunkSend chunk) = omega arith
  short_by (ChunkGet handle number) = omega arith

  by_read : (o : Option RequestMessage) → request_at p m ≡ o → nat_lt MAX_MESSAGE_SIZE (length (answer_bytes r p m k)) ≡ false
  by_read None is = long_none r p m k is
  by_read (Some q) is = long_read r p m k q is ∙ not_longer (free_length r p m k q) (short_by q)

  pub least_short : nat_lt MAX_MESSAGE_SIZE (length (answer_bytes r p m k)) ≡ false
  least_short = by_read (request_at p m) refl

-- ---- The answer to a large request is that in the clear.

module _ (r : RspSetup) (p : Place) (m : List ℕ) (f : Free) where
  inside_by : (o : Option RequestMessage) → answer_to r (inside p) m f o ≡ answer_to r p m f o
  inside_by None = refl
  inside_by (Some GetVersion) = refl
  inside_by (Some (GetCapabilities caps)) = refl
  inside_by (Some (NegotiateAlgorithms offer)) = refl
  inside_by (Some (GetMeasurements op)) = refl
  inside_by (Some (PskExchange x)) = refl
  inside_by (Some (PskFinish verify)) = refl
  inside_by (Some Heartbeat) = refl
  inside_by (Some (KeyUpdate op tag)) = refl
  inside_by (Some EndSession) = refl
  inside_by (Some (ChunkSend chunk)) = refl
  inside_by (Some (ChunkGet handle number)) = refl

  inside_same : answer_bytes r (inside p) m f ≡ answer_bytes r p m f
  unfolding answer_bytes
  inside_same = inside_by (request_at p m)

-- ---- The request whose answer counts.

module _ (r : RspSetup) (h : History) (m : List ℕ) where
  abbrev p : Place
  p = clear_place h

  abbrev long_at : Free → Option ChunkMessage → Bool
  long_at f c = nat_lt MAX_MESSAGE_SIZE (length (answer_at r p m f c))

  -- A message that is no chunk.
  pub long_itself : (f : Free) → chunk_in (request_at p m) ≡ None → IsLongWith r h m m f
  long_itself f is = ap (long_at f) is

  -- A chunk that completes a large request.
  pub long_carried : (f : Free) (c : ChunkMessage) (whole : List ℕ) → chunk_in (request_at p m) ≡ Some c → collected r.max (chunks_of p.turns) c ≡ Whole whole → IsLongWith r h m whole f
  long_carried f c whole is done =
      let gathered = rule_whole (broken_rule r.max (under_way (chunks_of p.turns)) c) c (joined_with (under_way (chunks_of p.turns)) c) whole (sym done) in
      ap (long_at f) is ∙ ap (λ (l : List ℕ). nat_lt MAX_MESSAGE_SIZE (length (answer_bytes r (inside p) l f))) (sym gathered.2) ∙ ap (λ (l : List ℕ). nat_lt MAX_MESSAGE_SIZE (length l)) (inside_same r p whole f)

  -- The least values, whatever the message is.
  pub long_least : AreFewBlocks r → IsLongWith r h m m (least_values h p)
  long_least blocks = by_chunk (chunk_in (request_at p m)) ∙ sym (least_short r h p m blocks)
    where
      by_chunk : (c : Option ChunkMessage) → long_at (least_values h p) c ≡ false
      by_chunk None = least_short r h p m blocks
      by_chunk (Some c) = least_short r h (inside p) (joined_with (under_way (chunks_of p.turns)) c) blocks

  -- A chunk that is not acknowledged as a last one shows the least values.
  pub long_chunk : (c : ChunkMessage) (reply : List ℕ) → AreFewBlocks r → chunk_in (request_at p m) ≡ Some c → (c.last && (slice_index reply 1 == CHUNK_SEND_ACK)) ≡ false → IsLongWith r h m m (clear_values r h m reply)
  long_chunk c reply blocks is other =
      let least : Free = least_values h p in
      let same : clear_values r h m reply ≡ least =
      ap (values_in_reply r p m least reply) is
      ∙ ap (λ (b : Bool). cond b (values_in r (inside p) (joined_with (under_way (chunks_of p.turns)) c) least (drop 6 reply)) least) other in
      subst (IsLongWith r h m m) (sym same) (long_least blocks)

  -- ---- A last chunk that does not complete a large request is refused.

  pub passed_whole : (f : Free) (c : ChunkMessage) → request_at p m ≡ Some (ChunkSend c) → c.last ≡ true → refusal r p m f ≡ None → is_whole (collected r.max (chunks_of p.turns) c) ≡ true
  passed_whole f c is last none =
      let before = under_way (chunks_of p.turns) in
      let tested : is_some (chunk_fault r p (request_at p m)) ≡ false = contents_shown r p m f none 8 in
      let rule : broken_rule r.max before c ≡ None = no_fault (broken_rule r.max before c) (ap (λ (o : Option RequestMessage). is_some (chunk_fault r p o)) (sym is) ∙ tested) in
      ap (λ (x : Option ChunkFault). is_whole (answer_from x c (joined_with before c))) rule ∙ by_last c.last last
    where
      no_fault : (x : Option ChunkFault) → is_some x ≡ false → x ≡ None
      no_fault None none = refl
      no_fault (Some fault) none = absurd (false≢true (sym none))

      by_last : (b : Bool) → b ≡ true → is_whole (cond b (Whole (joined_with (under_way (chunks_of p.turns)) c)) More) ≡ true
      by_last true is = refl
      by_last false is = absurd (false≢true is)

  acknowledges : (f : Free) (c : ChunkMessage) → request_at p m ≡ Some (ChunkSend c) → chunk_in (request_at p m) ≡ Some c → c.last ≡ true → is_whole (collected r.max (chunks_of p.turns) c) ≡ false
      → slice_index (turn_of r p m f).reply 1 ≡ CHUNK_SEND_ACK → ⊥
  unfolding turn_of
  acknowledges f c is chunk last none shows = by_refusal (refusal r p m f) refl shows
    where
      by_refusal : (o : Option ErrorCode) → refusal r p m f ≡ o → slice_index (turn_by r p m f o (chunk_in (request_at p m))).reply 1 ≡ CHUNK_SEND_ACK → ⊥
      by_refusal (Some e) refused ack = (let differs : ERROR ≡ CHUNK_SEND_ACK = ack in omega (arith, differs))
      by_refusal None passed ack = false≢true (sym none ∙ passed_whole f c is last passed)

  pub never_given : (f : Free) (c : ChunkMessage) (reply : List ℕ) → chunk_in (request_at p m) ≡ Some c → c.last ≡ true → is_whole (collected r.max (chunks_of p.turns) c) ≡ false → slice_index reply 1 ≡ CHUNK_SEND_ACK
      → AnswersSo r h m reply f → ⊥
  never_given f c reply chunk last none ack a = acknowledges f c (chunk_is (request_at p m) c chunk) chunk last none (a.answered ∙ ack)

  -- A message that is no repeat is answered by its turn.
  pub answers_so : (tag : ℕ) (f : Free) (reply : List ℕ) → is_repeat (kept_of h) tag m ≡ false → IsAnsweredAt r h tag m f reply → AnswersSo r h m reply f
  unfolding on_clear
  answers_so tag f reply anew a = record {
    allowed = a.allowed;
    short = a.short;
    answered = ap (λ (l : List ℕ). slice_index l 2) (sym (ap (λ (b : Bool). body_of (cond b (Same (clear_body (kept_reply (kept_of h)))) (Adds (Clear tag (turn_of r p m f) no_draw)))) anew) ∙ a.body);
  }
