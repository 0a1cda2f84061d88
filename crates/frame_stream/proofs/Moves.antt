-- Bytes of a frame that are taken one after another.
use Rattle.std.proofs.Common.{◌≡◌, ◌∙◌, ◌++◌, ◌≤◌, ℕ, List, Option, Some, ap, sym, arith, take, drop, append_assoc, take-append-drop, length-append, length-take}
use Rattle.frame_stream.proofs.Fronts.{behind_front, fault_later, in_front_of}
use Rattle.frame_stream.specs.Standing.{IsMoved, IsStopped, IsSupplied, IsTaken, left_of, whole_of}
use Rattle.frame_stream.specs.declared.filling.Stop.{Stop}
use Rattle.frame_stream.specs.declared.filling.Stop.TheVariants as stop
use Rattle.frame_stream.specs.declared.reader.FrameReader.{FrameReader}

-- bytes that were split, after those before them
joined : (front ahead rest : List ℕ) (count : ℕ) → (front ++ take count ahead) ++ (drop count ahead ++ rest) ≡ front ++ (ahead ++ rest)
joined front ahead rest count =
    append_assoc front (take count ahead) (drop count ahead ++ rest)
    ∙ ap (λ (l : List ℕ). front ++ l) (sym (append_assoc (take count ahead) (drop count ahead) rest) ∙ ap (λ (l : List ℕ). l ++ rest) (take-append-drop count ahead))

-- all bytes of a frame are there after a step
pub whole_more : (mid supplied new : FrameReader) (before after : Option (List ℕ)) (most : ℕ) → IsSupplied mid before supplied after → IsTaken most supplied new →
    (left : List ℕ) → whole_of mid before ≡ Some left → whole_of new after ≡ Some left
whole_more mid supplied new before after most s t left w =
    let a = behind_front mid.frame (left_of mid before) left w in
    let b = behind_front supplied.ahead after a.0 (s.whole a.0 a.1) in
    let there : left_of new after ≡ Some (new.ahead ++ b.0) = in_front_of new.ahead b.0 after b.1 in
    let all : whole_of new after ≡ Some (new.frame ++ (new.ahead ++ b.0)) = in_front_of new.frame (new.ahead ++ b.0) (left_of new after) there in
    let same : new.frame ++ (new.ahead ++ b.0) ≡ left =
    ap (λ (l : List ℕ). l ++ (new.ahead ++ b.0)) (t.frame ∙ ap (λ (l : List ℕ). l ++ take t.count supplied.ahead) s.frame)
    ∙ ap (λ (l : List ℕ). (mid.frame ++ take t.count supplied.ahead) ++ (l ++ b.0)) t.ahead
    ∙ joined mid.frame supplied.ahead b.0 t.count ∙ ap (λ (l : List ℕ). mid.frame ++ l) (sym b.2) ∙ sym a.2 in
    all ∙ ap (λ (l : List ℕ). Some l) same

pub moved_more : (old mid supplied new : FrameReader) (first before after : Option (List ℕ)) (most : ℕ) → IsMoved old first mid before → IsSupplied mid before supplied after →
    IsTaken most supplied new → IsMoved old first new after
moved_more old mid supplied new first before after most m s t =
    let front = take t.count supplied.ahead in
    record {
      more = m.more ++ front;
      frame = t.frame ∙ ap (λ (l : List ℕ). l ++ front) (s.frame ∙ m.frame) ∙ append_assoc old.frame m.more front;
      whole = λ left w. whole_more mid supplied new before after most s t left (m.whole left w);
      taken = omega (arith, t.taken, s.taken, m.taken, t.there, length-append m.more front, length-take t.count supplied.ahead);
      kinds = t.kinds ∙ s.kinds ∙ m.kinds;
      limit = t.limit ∙ s.limit ∙ m.limit;
    }

-- one after the other
pub moved_both : (old mid new : FrameReader) (first before after : Option (List ℕ)) → IsMoved old first mid before → IsMoved mid before new after → IsMoved old first new after
moved_both old mid new first before after m n = record {
  more = m.more ++ n.more;
  frame = n.frame ∙ ap (λ (l : List ℕ). l ++ n.more) m.frame ∙ append_assoc old.frame m.more n.more;
  whole = λ left w. n.whole left (m.whole left w);
  taken = omega (arith, n.taken, m.taken, length-append m.more n.more);
  kinds = n.kinds ∙ m.kinds;
  limit = n.limit ∙ m.limit;
}

-- what stopped the second stopped the whole
pub stopped_both : (size : ℕ) (old mid new : FrameReader) (first before : Option (List ℕ)) (failed between fails : ℕ) (s : Stop) → IsMoved old first mid before →
    failed ≤ between → between ≤ fails → IsStopped size mid before new between fails s → IsStopped size old first new failed fails s
stopped_both size old mid new first before failed between fails stop.End m low high (less, is) = (less, λ left w. is left (m.whole left w))
stopped_both size old mid new first before failed between fails stop.TooLong m low high (less, at, is) = (less, at, λ left w. is left (m.whole left w))
stopped_both size old mid new first before failed between fails stop.ReadFault m low high fault = fault_later failed between fails low high fault
