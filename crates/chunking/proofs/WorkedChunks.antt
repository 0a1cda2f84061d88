-- Worked rows: a message of 27 bytes at transfer size 42 has chunks of 26 bytes and of 1; one of 48 has chunks of 26
-- and 22; and sequences of chunks with the answer for each.
use Rattle.std.proofs.Common.{◌≡◌, refl, ℕ, Bool, true, false, List, [], ◌∷◌, length, map}
use Rattle.std.specs.Prelude.{Some, None}
use Rattle.std.specs.List.{range_with_len}
use Rattle.spdm_grammar.specs.Message.{ChunkMessage}
use Rattle.spdm_grammar.specs.declared.ChunkFault.TheVariants.{WrongHandle, WrongNumber, WrongSize, TooLarge, EarlyLast, MissingLast}
use Rattle.chunking.specs.Cutting.{chunks_of, nth_chunk}
use Rattle.chunking.specs.Collecting.{all_collected}
use Rattle.chunking.specs.Collecting.Collection.{Whole, More, Refused}

abbrev message : List ℕ
message = range_with_len 1 48

pub sizes_of_27 : map (λ (c : ChunkMessage). length c.chunk) (chunks_of 42 0 (range_with_len 1 27)) ≡ 26 ∷ 1 ∷ []
sizes_of_27 = refl

pub sizes_of_48 : map (λ (c : ChunkMessage). length c.chunk) (chunks_of 42 0 message) ≡ 26 ∷ 22 ∷ []
sizes_of_48 = refl

pub sizes_of_57 : map (λ (c : ChunkMessage). length c.chunk) (chunks_of 42 0 (range_with_len 1 57)) ≡ 26 ∷ 30 ∷ 1 ∷ []
sizes_of_57 = refl

pub second_of_27 : nth_chunk 42 7 (range_with_len 1 27) 1 ≡ record { last = true; handle = 7; number = 1; large = None; chunk = 27 ∷ [] }
second_of_27 = refl

pub marks_of_48 : map (λ (c : ChunkMessage). c.large) (chunks_of 42 0 message) ≡ Some 48 ∷ None ∷ []
marks_of_48 = refl

abbrev first : (told count : ℕ) → (last : Bool) → ChunkMessage
first told count last = record { last = last; handle = 0; number = 0; large = Some told; chunk = range_with_len 1 count }

abbrev later : (handle number from count : ℕ) → (last : Bool) → ChunkMessage
later handle number from count last = record { last = last; handle = handle; number = number; large = None; chunk = range_with_len from count }

-- in order
pub in_order : all_collected 48 (later 0 1 27 22 true ∷ first 48 26 false ∷ []) ≡ Whole message ∷ More ∷ []
in_order = refl

-- nothing is unfinished after a whole message
pub after_whole : all_collected 48 (later 0 2 49 26 true ∷ later 0 1 27 22 true ∷ first 48 26 false ∷ []) ≡ Refused WrongNumber ∷ Whole message ∷ More ∷ []
after_whole = refl

-- each fault, and that a refused chunk changes nothing
pub chunk_out_of_order : all_collected 100 (later 0 1 27 22 true ∷ later 0 2 27 22 true ∷ first 48 26 false ∷ later 0 1 27 22 true ∷ [])
    ≡ Whole message ∷ Refused WrongNumber ∷ More ∷ Refused WrongNumber ∷ []
chunk_out_of_order = refl

pub other_handle : all_collected 100 (later 1 2 27 22 true ∷ first 48 26 false ∷ []) ≡ Refused WrongHandle ∷ More ∷ []
other_handle = refl

pub too_large : all_collected 48 (first 49 0 true ∷ first 48 26 false ∷ []) ≡ Refused TooLarge ∷ More ∷ []
too_large = refl

pub above_all : all_collected 5000 (first 4097 26 false ∷ []) ≡ Refused TooLarge ∷ []
above_all = refl

pub wrong_sizes : all_collected 48 (later 0 1 27 23 true ∷ later 0 1 27 0 true ∷ first 48 26 false ∷ first 48 25 false ∷ []) ≡ Refused WrongSize ∷ Refused WrongSize ∷ More ∷ Refused WrongSize ∷ []
wrong_sizes = refl

pub wrong_marks : all_collected 100 (later 0 1 27 26 false ∷ later 0 1 27 25 true ∷ first 52 26 false ∷ []) ≡ Refused MissingLast ∷ Refused EarlyLast ∷ More ∷ []
wrong_marks = refl

-- a first chunk that is accepted drops what was unfinished, and one that is refused does not
pub begun_anew : all_collected 48 (later 0 1 27 22 true ∷ first 48 26 false ∷ first 49 26 false ∷ first 40 26 false ∷ []) ≡ Whole message ∷ More ∷ Refused TooLarge ∷ More ∷ []
begun_anew = refl
