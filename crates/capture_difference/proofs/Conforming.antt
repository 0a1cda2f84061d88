-- What the checker tells of packets that come one after the other.
use Rattle.std.proofs.Common.{◌≡◌, ◌∙◌, ◌++◌, ◌∷◌, [], ◌<◌, ◌+◌, ◌-◌, ◌^◌, ℕ, List, Bool, true, false, Result, Ok, Err, IfOk, arith, ap, subst, sym, reverse, take, drop, get_or, length, append_assoc, length-append}
use Rattle.std.proofs.lemmas.List.{drop_more, length-reverse, length-take-le, reverse-append, take-append-drop, take_more}
use Rattle.capture_difference.specs.Difference.{IsFollowed, IsWhether}
use Rattle.capture_machine.proofs.Captures.{beginning, leads_too}
use Rattle.capture_machine.specs.Capture.{Conforms, Leads}
use Rattle.capture_machine.specs.Difference.{Why}
use Rattle.capture_machine.specs.SessionTable.{HasTable, Seen}
use Rattle.trace_check.specs.Checker.{IsChecker}
use Rattle.trace_check.specs.JudgedPair.{IsRefused}
use Rattle.trace_check.specs.declared.checker.Checker.{Checker}
use Rattle.world_machine.specs.Setup.{Configuration}

-- ---- Lists.

-- One more packet of these, behind others, the newest first.
pub behind_more : (before packets : List (List ℕ)) (i : ℕ) (packet : List ℕ) → i < length packets → packet ≡ get_or packets i packet → reverse (before ++ take (i + 1) packets) ≡ packet ∷ reverse (before ++ take i packets)
behind_more before packets i packet few at =
    ap (λ (l : List (List ℕ)). reverse (before ++ l)) (take_more packets i packet few)
    ∙ ap (λ (l : List (List ℕ)). reverse l) (sym (append_assoc before (take i packets) (get_or packets i packet ∷ [])))
    ∙ reverse-append (before ++ take i packets) (get_or packets i packet ∷ [])
    ∙ ap (λ (x : List ℕ). x ∷ reverse (before ++ take i packets)) (sym at)

-- They are few.
pub short_behind : (before packets : List (List ℕ)) (i : ℕ) → i < length packets → length before + length packets < 2 ^ 64 - 2 → length (reverse (before ++ take i packets)) < 2 ^ 64 - 2
short_behind before packets i few most =
    let turned = length-reverse (before ++ take i packets) in
    let joined = length-append before (take i packets) in
    let front = length-take-le i packets (omega (arith, few)) in
    omega (arith, turned, joined, front, few, most)

-- All of them, cut at one.
pub cut_at : (before packets : List (List ℕ)) (i : ℕ) (packet : List ℕ) → i < length packets → packet ≡ get_or packets i packet → before ++ packets ≡ (before ++ take i packets) ++ packet ∷ drop (i + 1) packets
cut_at before packets i packet few at =
    let rest : drop i packets ≡ packet ∷ drop (i + 1) packets = drop_more packets i packet few ∙ ap (λ (x : List ℕ). x ∷ drop (i + 1) packets) (sym at) in
    ap (λ (l : List (List ℕ)). before ++ l) (sym (take-append-drop i packets))
    ∙ ap (λ (l : List (List ℕ)). before ++ (take i packets ++ l)) rest
    ∙ sym (append_assoc before (take i packets) (packet ∷ drop (i + 1) packets))

-- ---- Packets.

-- Those of which something is kept conform.
pub kept_conforms : (w : Configuration) (packets : List (List ℕ)) (seen : Checker) → IsChecker seen w (reverse packets) → Conforms w packets
kept_conforms w packets seen is = (is.shows.0, leads_too w (reverse packets) is.shows.0 is.rows is.shows.1)

-- Where one is refused, none conform that go on from it.
pub refused_whole : (w : Configuration) (front behind : List (List ℕ)) (packet : List ℕ) (why : Why) → IsRefused w (reverse front) packet why → Conforms w (front ++ packet ∷ behind) → ⊥
refused_whole w front behind packet why refused conforms =
    let upto : Conforms w (front ++ packet ∷ []) = beginning w (front ++ packet ∷ []) behind (subst (Conforms w) (sym (append_assoc front (packet ∷ []) behind)) conforms) in
    refused.0 upto.0 (subst (λ (l : List (List ℕ)). Leads w l upto.0) (reverse-append front (packet ∷ [])) upto.1)

-- Where some do not conform, none do that go on from them.
pub none_behind : (w : Configuration) (front behind : List (List ℕ)) → (Conforms w front → ⊥) → Conforms w (front ++ behind) → ⊥
none_behind w front behind not conforms = not (beginning w front behind conforms)

-- What is told of packets that were followed.
pub followed_tells : (w : Configuration) (packets : List (List ℕ)) (seen : Checker) (goes : Bool) → IsFollowed w packets goes seen → IsWhether w packets goes
followed_tells w packets seen true is = kept_conforms w packets seen is
followed_tells w packets seen false is = is

-- What has a table conforms.
pub with_table : (w : Configuration) (packets : List (List ℕ)) (table : List Seen) → HasTable w packets table → Conforms w packets
with_table w packets table has = (has.0, leads_too w (reverse packets) has.0 has.1 has.2)

-- ---- What is told of a packet with those before it and those behind it.

module _ (w : Configuration) (before : List (List ℕ)) (packet : List ℕ) (behind : List (List ℕ)) where
  -- Those before it do not conform.
  pub stopped_before : (goes : Bool) (seen : Checker) → IsFollowed w before goes seen → goes ≡ false → Conforms w (before ++ packet ∷ behind) → ⊥
  stopped_before goes seen told stops whole =
      let none : Conforms w before → ⊥ = subst (λ (g : Bool). IsFollowed w before g seen) stops told in
      none_behind w before (packet ∷ behind) none whole

  -- They do, and it does not go on from them.
  pub kept_before : (goes : Bool) (seen : Checker) → IsFollowed w before goes seen → goes ≡ true → IsChecker seen w (reverse before)
  kept_before goes seen told on = subst (λ (g : Bool). IsFollowed w before g seen) on told

  -- It goes on.
  pub kept_with : (seen : Checker) → IsChecker seen w (packet ∷ reverse before) → IsChecker seen w (reverse (before ++ packet ∷ []))
  kept_with seen is = subst (IsChecker seen w) (sym (reverse-append before (packet ∷ []))) is

  pub went_on : {E : Type 0} (r : Result Bool E) (seen : Checker) → IfOk r (λ (goes : Bool). IsFollowed w ((before ++ packet ∷ []) ++ behind) goes seen) → IfOk r (IsWhether w (before ++ packet ∷ behind))
  went_on (Ok goes) seen told =
      subst (λ (l : List (List ℕ)). IsWhether w l goes) (append_assoc before (packet ∷ []) behind) (followed_tells w ((before ++ packet ∷ []) ++ behind) seen goes told)
  went_on (Err e) seen told = tt

  pub few_with : length before + length behind < 2 ^ 32 - 1 → length (before ++ packet ∷ []) + length behind < 2 ^ 64 - 2
  few_with few =
      let joined = length-append before (packet ∷ []) in
      omega (arith, joined, few)
