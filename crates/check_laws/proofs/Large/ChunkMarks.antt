-- CHUNK_SEND is read with the mark of the last chunk that stands in it.
use Rattle.std.proofs.Common.{◌≡◌, ◌∙◌, ◌+◌, ◌%◌, ◌==◌, ◌++◌, ℕ, List, [], ◌∷◌, sym, ap, subst, length, arith, Bool, true, false, Option, Some, None, cond}
use Rattle.std.specs.Prelude.{slice_index}
use Rattle.byteorder.specs.Endian.{little_number}
use Rattle.responder_machine.proofs.Codes.{asked-code, one_byte}
use Rattle.responder_machine.specs.Answer.{request_at}
use Rattle.responder_machine.specs.Place.{Place, place_terms}
use Rattle.spdm_grammar.proofs.Spellings.{read_iff}
use Rattle.spdm_grammar.specs.Layout.{IsSpelling, Layout}
use Rattle.spdm_grammar.specs.Layout.Layout.{Whole, Optional, Bytes}
use Rattle.spdm_grammar.specs.Message.{ChunkMessage, RequestMessage}
use Rattle.spdm_grammar.specs.Message.RequestMessage.{ChunkSend}
use Rattle.spdm_grammar.specs.Requests.{IsRequestSpelling, canonical_request, chunk_send_layout, request_body, request_layout}
use Rattle.spdm_grammar.specs.declared.names.request_code.TheConstants.{CHUNK_SEND}
use Rattle.spdm_machine.specs.Terms.{hash_len}

-- The second byte is the code, and the third one the first field after it.
code_at : (version code others : List ℕ) → length version ≡ 1 → length code ≡ 1 → slice_index (version ++ (code ++ others)) 1 ≡ little_number 1 code
code_at [] code others v c = absurd (omega arith)
code_at (x ∷ y ∷ rest) code others v c = absurd (omega arith)
code_at (x ∷ []) [] others v c = absurd (omega arith)
code_at (x ∷ []) (y ∷ []) others v c = sym (one_byte y [])
code_at (x ∷ []) (y ∷ z ∷ rest) others v c = absurd (omega arith)

field_at : (version code field others : List ℕ) → length version ≡ 1 → length code ≡ 1 → length field ≡ 1 → slice_index (version ++ (code ++ (field ++ others))) 2 ≡ little_number 1 field
field_at [] code field others v c f = absurd (omega arith)
field_at (x ∷ y ∷ rest) code field others v c f = absurd (omega arith)
field_at (x ∷ []) [] field others v c f = absurd (omega arith)
field_at (x ∷ []) (y ∷ z ∷ rest) field others v c f = absurd (omega arith)
field_at (x ∷ []) (y ∷ []) [] others v c f = absurd (omega arith)
field_at (x ∷ []) (y ∷ []) (z ∷ w ∷ rest) others v c f = absurd (omega arith)
field_at (x ∷ []) (y ∷ []) (z ∷ []) others v c f = sym (one_byte z [])

-- The mark; none in any other request.
abbrev mark_in : RequestMessage → Bool
mark_in (ChunkSend c) = c.last
mark_in _ = false

-- What the first field after the code shows.
record IsMark (asked : RequestMessage) (others : List ℕ) : Type 0 where
  field : List ℕ
  behind : List ℕ
  is : others ≡ field ++ behind
  long : length field ≡ 1
  told : mark_in asked ≡ (little_number 1 field % 2 == 1)

-- After a field that may be left out stands the rest.
left_out : (b : Bool) (next : Option ℕ → Layout RequestMessage) (at : ℕ) (asked : RequestMessage) (bytes : List ℕ) (P : Type 0)
    → ((large : Option ℕ) (place : ℕ) (rest : List ℕ) → IsSpelling (next large) place asked rest → P) → IsSpelling (Optional b 4 next) at asked bytes → P
left_out false next at asked bytes P all s = all None at bytes s
left_out true next at asked bytes P all s = all (Some (little_number 4 s.0)) (at + 4) s.1 s.4

-- The bytes of the chunk.
abbrev ends_with : Bool → (handle number size : ℕ) → Option ℕ → Layout RequestMessage
ends_with last handle number size large = Bytes size (λ chunk. Whole (ChunkSend (record { last = last; handle = handle; number = number; large = large; chunk = chunk })))

mark_spelled : (size : ℕ) (others : List ℕ) (asked : RequestMessage) → IsSpelling (request_body size CHUNK_SEND) 2 asked others → IsMark asked others
unfolding request_body chunk_send_layout
mark_spelled size others asked s =
    let handle = s.5 in
    let number = handle.5 in
    let zeros = number.5 in
    let bytes = zeros.4 in
    let mark : Bool = little_number 1 s.0 % 2 == 1 in
    record {
      field = s.0;
      behind = s.1;
      is = s.2;
      long = s.3;
      told = left_out (little_number 2 number.0 == 0) (ends_with mark (little_number 1 handle.0) (little_number 2 number.0) (little_number 4 bytes.0)) 12 asked bytes.1 (mark_in asked ≡ mark)
          (λ large place rest chunk. ap mark_in chunk.4.0) bytes.5;
    }

pub mark_read : (p : Place) (m : List ℕ) (c : ChunkMessage) → request_at p m ≡ Some (ChunkSend c) → c.last ≡ (slice_index m 2 % 2 == 1)
mark_read p m c is = by_spelling ((read_iff (request_layout size) (ChunkSend c) m).0 is)
  where
    size : ℕ
    size = hash_len (place_terms p)

    by_spelling : IsRequestSpelling size (ChunkSend c) m → c.last ≡ (slice_index m 2 % 2 == 1)
    by_spelling s =
        let second : slice_index m 1 ≡ little_number 1 s.5.0 =
        ap (λ (bytes : List ℕ). slice_index bytes 1) s.2 ∙ ap (λ (bytes : List ℕ). slice_index (s.0 ++ bytes) 1) s.5.2 ∙ code_at s.0 s.5.0 s.5.1 s.3 s.5.3 in
        let code : little_number 1 s.5.0 ≡ CHUNK_SEND = sym (asked-code p m (ChunkSend c) is ∙ second) in
        let mark = mark_spelled size s.5.1 (ChunkSend c) (subst (λ (n : ℕ). IsSpelling (request_body size n) 2 (ChunkSend c) s.5.1) code s.5.5) in
        let third : slice_index m 2 ≡ little_number 1 mark.field =
        ap (λ (bytes : List ℕ). slice_index bytes 2) s.2 ∙ ap (λ (bytes : List ℕ). slice_index (s.0 ++ bytes) 2) s.5.2 ∙ ap (λ (bytes : List ℕ). slice_index (s.0 ++ (s.5.0 ++ bytes)) 2) mark.is
        ∙ field_at s.0 s.5.0 mark.field mark.behind s.3 s.5.3 mark.long in
        mark.told ∙ ap (λ (n : ℕ). n % 2 == 1) (sym third)

-- A chunk that is not the last one is read as one.
pub not_last : (p : Place) (c x : ChunkMessage) → c.last ≡ false → request_at p (canonical_request (ChunkSend c)) ≡ Some (ChunkSend x) → x.last ≡ false
not_last p c x not is = mark_read p (canonical_request (ChunkSend c)) x is ∙ ap (λ (b : Bool). cond b 1 0 % 2 == 1) not
