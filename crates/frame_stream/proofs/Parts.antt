-- A text that is read in pieces.
use Rattle.std.proofs.Common.{◌≡◌, ◌<◌, ◌≤◌, ◌-◌, ◌∙◌, ◌++◌, ℕ, List, [], ◌∷◌, Option, None, Some, length, take, drop, refl, ap, sym, arith, append_assoc, append-nil, take-append-drop, length-append, length-take}
use Rattle.std.proofs.Math.Seq.{drop-append_seam}
use Rattle.spdm_basis.specs.Stream.{Gives, GivesSome, IsAtEnd}
use Rattle.spdm_basis.proofs.Piece.{gives_both}
use Rattle.frame_stream.proofs.Fronts.{behind_front}
use Rattle.frame_stream.specs.Lines.{to_come}
use Rattle.frame_stream.specs.Parts.{IsTextTo}
use Rattle.frame_stream.specs.Standing.{in_front}
use Rattle.frame_stream.specs.Text.{line_of, text_to}
use Rattle.frame_stream.specs.declared.line.LastLine.{LastLine}
use Rattle.frame_stream.specs.declared.line.LastLine.TheVariants.{End, Go}
use Rattle.frame_stream.specs.declared.line.Place.{Place}
use Rattle.frame_stream.specs.declared.line.Place.TheVariants.{Begins, AfterOne, AfterTwo, AfterThree, Other, Ended}

drop-all : (bytes : List ℕ) → drop (length bytes) bytes ≡ []
drop-all [] = refl
drop-all (b ∷ bytes) = drop-all bytes

-- what a source gave in two steps
pub gives_all : (old mid new : Option (List ℕ)) (bs more : List ℕ) → Gives old bs mid → Gives mid more new → Gives old (bs ++ more) new
gives_all old mid new bs more first then = λ left e.
    let a = first left e in
    let b = then a.0 a.1 in
    (b.0, b.1, a.2 ∙ ap (λ (rest : List ℕ). bs ++ rest) b.2 ∙ sym (append_assoc bs more b.0))

-- a source that gave nothing gave some bytes, none; and what it gave in two steps is some bytes
pub gave_none : (o : Option (List ℕ)) → GivesSome o o
gave_none o = ([], λ left e. (left, e, refl))

pub gives_more : (old mid new : Option (List ℕ)) (more : List ℕ) → GivesSome old mid → Gives mid more new → GivesSome old new
gives_more old mid new more first then = gives_both old mid new first.0 more first.1 then

-- what was read before is before what the source has left
pub given_first : (before : List ℕ) (o : Option (List ℕ)) → Gives (in_front before o) ([] ++ before) o
given_first before o left e = behind_front before o left e

pub none_in_front : (o : Option (List ℕ)) → in_front [] o ≡ o
none_in_front None = refl
none_in_front (Some left) = refl

-- the bytes after the own part of a piece
parted : (text got : List ℕ) (own : ℕ) (left rest : List ℕ) → left ≡ (text ++ got) ++ rest → left ≡ (text ++ take own got) ++ (drop own got ++ rest)
parted text got own left rest e =
    e ∙ ap (λ (l : List ℕ). (text ++ l) ++ rest) (sym (take-append-drop own got)) ∙ ap (λ (l : List ℕ). l ++ rest) (sym (append_assoc text (take own got) (drop own got)))
    ∙ append_assoc (text ++ take own got) (drop own got) rest

-- nothing is to come where nothing follows
nothing_to_come : (last : LastLine) (place : Place) → to_come last place [] ≡ []
nothing_to_come End Begins = refl
nothing_to_come End AfterOne = refl
nothing_to_come End AfterTwo = refl
nothing_to_come End AfterThree = refl
nothing_to_come End Other = refl
nothing_to_come End Ended = refl
nothing_to_come Go Begins = refl
nothing_to_come Go AfterOne = refl
nothing_to_come Go AfterTwo = refl
nothing_to_come Go AfterThree = refl
nothing_to_come Go Other = refl
nothing_to_come Go Ended = refl

-- From the place after the beginning of a text on the rest is to come.
abbrev pub IsSoFar : LastLine → (text : List ℕ) → Place → Type 0
IsSoFar last text place = (bytes : List ℕ) → text_to (line_of last) (text ++ bytes) ≡ text ++ to_come last place bytes

-- and so it is after more bytes, over which the place goes on
pub so_far_more : (last : LastLine) (text own : List ℕ) (place behind : Place) → IsSoFar last text place →
    ((bytes : List ℕ) → to_come last place (own ++ bytes) ≡ own ++ to_come last behind bytes) → IsSoFar last (text ++ own) behind
so_far_more last text own place behind so_far goes bytes =
    ap (text_to (line_of last)) (append_assoc text own bytes) ∙ so_far (own ++ bytes) ∙ ap (λ (l : List ℕ). text ++ l) (goes bytes) ∙ sym (append_assoc text own (to_come last behind bytes))

pub too_long : (last : LastLine) (old new : Option (List ℕ)) (text got : List ℕ) (own limit : ℕ) (behind : Place) → Gives old (text ++ got) new →
    IsSoFar last (text ++ take own got) behind → limit - length text < own → own ≤ length got →
    (left : List ℕ) → old ≡ Some left → limit < length (text_to (line_of last) left)
too_long last old new text got own limit behind gives so_far over few left e =
    let a = gives left e in
    let rest = a.0 in
    let is : text_to (line_of last) left ≡ (text ++ take own got) ++ to_come last behind (drop own got ++ rest) =
    ap (text_to (line_of last)) (parted text got own left rest a.2) ∙ so_far (drop own got ++ rest) in
    let size : length (text_to (line_of last) left) ≡ length ((text ++ take own got) ++ to_come last behind (drop own got ++ rest)) = ap (λ (l : List ℕ). length l) is in
    omega (arith, length-append (text ++ take own got) (to_come last behind (drop own got ++ rest)), length-append text (take own got), length-take own got)

-- where the last line was seen
pub ended_text : (last : LastLine) (old new : Option (List ℕ)) (text got : List ℕ) (own : ℕ) (behind : Place) → behind ≡ Ended → Gives old (text ++ got) new →
    IsSoFar last (text ++ take own got) behind → IsTextTo (line_of last) old (text ++ take own got) (drop own got) new
ended_text last old new text got own behind is gives so_far left e =
    let a = gives left e in
    let rest = a.0 in
    let parts = parted text got own left rest a.2 in
    let front = text ++ take own got in
    let back = drop own got ++ rest in
    let none : front ++ to_come last behind back ≡ front = ap (λ (p : Place). front ++ to_come last p back) is ∙ append-nil front in
    let said : text_to (line_of last) left ≡ front = ap (text_to (line_of last)) parts ∙ so_far back ∙ none in
    (sym said, (rest, a.1, ap (λ (l : List ℕ). drop (length l) left) said ∙ ap (λ (l : List ℕ). drop (length front) l) parts ∙ drop-append_seam front back))

-- where the input ends
pub whole_text : (last : LastLine) (old mid new : Option (List ℕ)) (text : List ℕ) (place : Place) → Gives old text mid → IsAtEnd mid → Gives mid [] new →
    IsSoFar last text place → IsTextTo (line_of last) old text [] new
whole_text last old mid new text place gives ended then so_far left e =
    let a = gives left e in
    let b = then a.0 a.1 in
    let none : a.0 ≡ [] = ended a.0 a.1 in
    let whole : left ≡ text ++ [] = a.2 ∙ ap (λ (l : List ℕ). text ++ l) none in
    let said : text_to (line_of last) left ≡ text ++ [] = ap (text_to (line_of last)) whole ∙ so_far [] ∙ ap (λ (l : List ℕ). text ++ l) (nothing_to_come last place) in
    let plain : text ++ [] ≡ text = append-nil text in
    (sym (said ∙ plain), (b.0, b.1, ap (λ (l : List ℕ). drop (length l) left) said ∙ ap (λ (l : List ℕ). drop (length (text ++ [])) l) whole ∙ drop-all (text ++ []) ∙ sym none ∙ b.2))

-- a text stays within its limit by bytes that fit
pub within_limit : (limit : ℕ) (text own new : List ℕ) (n : ℕ) → new ≡ text ++ own → length own ≡ n → n ≤ limit - length text → length text ≤ limit → length new ≤ limit
within_limit limit text own new n is few fits within =
    let size : length new ≡ length (text ++ own) = ap (λ (l : List ℕ). length l) is in
    omega (arith, size, length-append text own)
