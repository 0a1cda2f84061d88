-- The record of a command tells the session, the command and the padding.
use Rattle.std.proofs.Common.{◌≡◌, ◌<◌, ◌≤◌, ◌%◌, ◌/◌, ℕ, List, [], ◌∷◌, refl, sym, ap, ◌∙◌, subst, length, drop, Bool, true, false, Some, None, arith}
use Rattle.std.specs.Prelude.{slice_index}
use Rattle.std.proofs.lemmas.Bool.{ltb-false, not-false}
use Rattle.secured_record.specs.Format.{record_of}
use Rattle.secured_record.proofs.Told.{record_tells, padding_told}
use Rattle.key_schedule.specs.Purpose.{key_of, iv_of}
use Rattle.spdm_grammar.specs.Message.RequestMessage.{GetMeasurements, Heartbeat, EndSession}
use Rattle.spdm_machine.specs.Keys.{sealed_of}
use Rattle.spdm_machine.specs.Sessions.{id_in_exchange}
use Rattle.requester_machine.specs.Setup.{ReqSetup}
use Rattle.requester_machine.specs.Commands.{Free, command_fault}
use Rattle.requester_machine.specs.History.{History}
use Rattle.requester_machine.specs.Message.{Command, Ask}
use Rattle.requester_machine.specs.Message.Command.{Connect, Open, Send, Beat, Update, Measure, End, Retry}
use Rattle.requester_machine.specs.Records.{sealed_next, request_purpose}
use Rattle.requester_machine.specs.Sending.{inner_request, inner_data, key_update, operation_of}
use Rattle.requester_machine.specs.Session.{Steps, session_of, is_live, session_terms, exchange_of, exchange_answer, request_next}
use Rattle.requester_machine.proofs.Entries.{test_is_false}
use Rattle.capture_machine.proofs.Agrees.{HaveIds}
use Rattle.capture_machine.proofs.AskTells.{kind_of, IsSoundCommand}
use Rattle.capture_machine.proofs.AskTells.Kind.{OfSession}

-- ---- What the tests of a command show.

-- The session that it names is live, and data are short.
abbrev pub IsLiveCommand : History → Command → Type 0
IsLiveCommand h (Send id bytes) = (is_live (session_of id h) ≡ true) × (length bytes ≤ 1024)
IsLiveCommand h (Beat id) = is_live (session_of id h) ≡ true
IsLiveCommand h (Update id all) = is_live (session_of id h) ≡ true
IsLiveCommand h (Measure (Some id) op) = is_live (session_of id h) ≡ true
IsLiveCommand h (End id) = is_live (session_of id h) ≡ true
IsLiveCommand h _ = Unit {0}

pub live_command : (worn : Bool) (q : ReqSetup) (h : History) (c : Command) (f : Free) → command_fault worn q h c f ≡ None → IsLiveCommand h c
live_command worn q h Connect f none = tt
live_command worn q h (Open summary) f none = tt
live_command worn q h (Send id bytes) f none =
    (not-false _ (test_is_false worn q h (Send id bytes) f none 3), ltb-false 1024 (length bytes) (test_is_false worn q h (Send id bytes) f none 8))
live_command worn q h (Beat id) f none = not-false _ (test_is_false worn q h (Beat id) f none 3)
live_command worn q h (Update id all) f none = not-false _ (test_is_false worn q h (Update id all) f none 3)
live_command worn q h (Measure None op) f none = tt
live_command worn q h (Measure (Some id) op) f none = not-false _ (test_is_false worn q h (Measure (Some id) op) f none 3)
live_command worn q h (End id) f none = not-false _ (test_is_false worn q h (End id) f none 3)
live_command worn q h Retry f none = tt

pub sound_command : (worn : Bool) (q : ReqSetup) (h : History) (c : Command) (f : Free) → command_fault worn q h c f ≡ None → IsSoundCommand c
sound_command worn q h Connect f none = tt
sound_command worn q h (Open summary) f none = not-false _ (test_is_false worn q h (Open summary) f none 6)
sound_command worn q h (Send id bytes) f none = tt
sound_command worn q h (Beat id) f none = tt
sound_command worn q h (Update id all) f none = tt
sound_command worn q h (Measure o op) f none = tt
sound_command worn q h (End id) f none = tt
sound_command worn q h Retry f none = tt

-- ---- What a record tells.

-- The id that stands first in it.
pub first_id : (psk : List ℕ) (s t : Steps) (inner other pad padding : List ℕ) → sealed_next psk s inner pad ≡ sealed_next psk t other padding → id_in_exchange (exchange_of s) ≡ id_in_exchange (exchange_of t)
unfolding sealed_next sealed_of record_of
first_id psk s t inner other pad padding same =
    let low : id_in_exchange (exchange_of s) % 256 ≡ id_in_exchange (exchange_of t) % 256 = ap (λ (l : List ℕ). slice_index l 0) same in
    let high : id_in_exchange (exchange_of s) / 256 ≡ id_in_exchange (exchange_of t) / 256 = ap (λ (l : List ℕ). slice_index l 1) same in
    omega arith

pub same_session : (psk : List ℕ) (h : History) (id other : ℕ) (inner message pad padding : List ℕ) → HaveIds h → is_live (session_of id h) ≡ true → is_live (session_of other h) ≡ true
    → sealed_next psk (session_of id h) inner pad ≡ sealed_next psk (session_of other h) message padding → id ≡ other
same_session psk h id other inner message pad padding ids live is same =
    sym (ids id live) ∙ first_id psk (session_of id h) (session_of other h) inner message pad padding same ∙ ids other is

-- The inner message and the padding.
pub sealed_tells : (psk : List ℕ) (s : Steps) (inner other pad padding : List ℕ) → length inner < 65536 → length other < 65536
    → sealed_next psk s inner pad ≡ sealed_next psk s other padding → (inner ≡ other) × (pad ≡ padding)
unfolding sealed_next sealed_of
sealed_tells psk s inner other pad padding less few same =
    record_tells (key_of (session_terms s).choice.hash (session_terms s).choice.aead (request_purpose psk s)) (iv_of (session_terms s).choice.hash (request_purpose psk s))
    (id_in_exchange (exchange_of s)) (id_in_exchange (exchange_answer s)) (request_next s) inner other pad padding less few same

pub sealed_pad : (psk : List ℕ) (s : Steps) (inner pad padding : List ℕ) → sealed_next psk s inner pad ≡ sealed_next psk s inner padding → pad ≡ padding
unfolding sealed_next sealed_of
sealed_pad psk s inner pad padding same =
    padding_told (key_of (session_terms s).choice.hash (session_terms s).choice.aead (request_purpose psk s)) (iv_of (session_terms s).choice.hash (request_purpose psk s))
    (id_in_exchange (exchange_of s)) (id_in_exchange (exchange_answer s)) (request_next s) inner pad padding same

-- ---- What an inner message tells.

abbrev inner_of : History → Command → List ℕ
inner_of h (Send id bytes) = inner_data bytes
inner_of h (Beat id) = inner_request Heartbeat
inner_of h (Update id all) = inner_request (key_update (session_of id h) (operation_of all))
inner_of h (Measure o op) = inner_request (GetMeasurements op)
inner_of h (End id) = inner_request EndSession
inner_of h _ = []

pub kind_is : (q : ReqSetup) (h : History) (f : Free) (c : Command) (id : ℕ) (ask : Ask) (inner : List ℕ) → kind_of q h f c ≡ OfSession id ask inner → inner ≡ inner_of h c
kind_is q h f Connect id ask inner is = absurd (cc)
kind_is q h f (Open summary) id ask inner is = absurd (cc)
kind_is q h f (Send of bytes) id ask inner is = cc
kind_is q h f (Beat of) id ask inner is = cc
kind_is q h f (Update of all) id ask inner is = cc
kind_is q h f (Measure None op) id ask inner is = absurd (cc)
kind_is q h f (Measure (Some of) op) id ask inner is = cc
kind_is q h f (End of) id ask inner is = cc
kind_is q h f Retry id ask inner is = absurd (cc)

pub kind_live : (q : ReqSetup) (h : History) (f : Free) (c : Command) (id : ℕ) (ask : Ask) (inner : List ℕ) → IsLiveCommand h c → kind_of q h f c ≡ OfSession id ask inner → is_live (session_of id h) ≡ true
kind_live q h f Connect id ask inner live is = absurd (cc)
kind_live q h f (Open summary) id ask inner live is = absurd (cc)
kind_live q h f (Send of bytes) id ask inner live is = let e : of ≡ id = cc in subst (λ n. is_live (session_of n h) ≡ true) e live.0
kind_live q h f (Beat of) id ask inner live is = let e : of ≡ id = cc in subst (λ n. is_live (session_of n h) ≡ true) e live
kind_live q h f (Update of all) id ask inner live is = let e : of ≡ id = cc in subst (λ n. is_live (session_of n h) ≡ true) e live
kind_live q h f (Measure None op) id ask inner live is = absurd (cc)
kind_live q h f (Measure (Some of) op) id ask inner live is = let e : of ≡ id = cc in subst (λ n. is_live (session_of n h) ≡ true) e live
kind_live q h f (End of) id ask inner live is = let e : of ≡ id = cc in subst (λ n. is_live (session_of n h) ≡ true) e live
kind_live q h f Retry id ask inner live is = absurd (cc)

inner_short : (q : ReqSetup) (h : History) (f : Free) (c : Command) (id : ℕ) (ask : Ask) (inner : List ℕ) → IsLiveCommand h c → kind_of q h f c ≡ OfSession id ask inner → length inner < 65536
inner_short q h f Connect id ask inner live is = absurd (cc)
inner_short q h f (Open summary) id ask inner live is = absurd (cc)
inner_short q h f (Send of bytes) id ask inner live is = let e : inner ≡ 1 ∷ bytes = cc in subst (λ (l : List ℕ). length l < 65536) (sym e) (omega (arith, live.1))
inner_short q h f (Beat of) id ask inner live is = let e : inner ≡ inner_request Heartbeat = cc in subst (λ (l : List ℕ). length l < 65536) (sym e) (omega arith)
inner_short q h f (Update of all) id ask inner live is = let e : inner ≡ inner_request (key_update (session_of of h) (operation_of all)) = cc in subst (λ (l : List ℕ). length l < 65536) (sym e) (omega arith)
inner_short q h f (Measure None op) id ask inner live is = absurd (cc)
inner_short q h f (Measure (Some of) op) id ask inner live is = let e : inner ≡ inner_request (GetMeasurements op) = cc in subst (λ (l : List ℕ). length l < 65536) (sym e) (omega arith)
inner_short q h f (End of) id ask inner live is = let e : inner ≡ inner_request EndSession = cc in subst (λ (l : List ℕ). length l < 65536) (sym e) (omega arith)
inner_short q h f Retry id ask inner live is = absurd (cc)

all_same : (a b : Bool) → operation_of a ≡ operation_of b → a ≡ b
all_same true true e = refl
all_same false false e = refl
all_same true false e = absurd (omega (arith, e))
all_same false true e = absurd (omega (arith, e))

-- Commands of one session with one inner message are one.
pub inner_tells : (h : History) (c e : Command) (id : ℕ) (ask asks : Ask) (q : ReqSetup) (f k : Free) (inner : List ℕ) → kind_of q h f c ≡ OfSession id ask inner → kind_of q h k e ≡ OfSession id asks inner → c ≡ e
inner_tells h (Send of bytes) (Send on others) id ask wants q f k inner is are =
    let x = kind_is q h f (Send of bytes) id ask inner is in let y = kind_is q h k (Send on others) id wants inner are in
    let m : of ≡ id = cc in let n : on ≡ id = cc in
    let t : bytes ≡ others = ap (λ (l : List ℕ). drop 1 l) (sym x ∙ y) in cc
inner_tells h (Send of bytes) (Beat on) id ask wants q f k inner is are =
    let x = kind_is q h f (Send of bytes) id ask inner is in let y = kind_is q h k (Beat on) id wants inner are in
    absurd (let t = ap (λ (l : List ℕ). slice_index l 0) (sym x ∙ y) in omega (arith, t))
inner_tells h (Send of bytes) (Update on every) id ask wants q f k inner is are =
    let x = kind_is q h f (Send of bytes) id ask inner is in let y = kind_is q h k (Update on every) id wants inner are in
    absurd (let t = ap (λ (l : List ℕ). slice_index l 0) (sym x ∙ y) in omega (arith, t))
inner_tells h (Send of bytes) (Measure (Some on) asks) id ask wants q f k inner is are =
    let x = kind_is q h f (Send of bytes) id ask inner is in let y = kind_is q h k (Measure (Some on) asks) id wants inner are in
    absurd (let t = ap (λ (l : List ℕ). slice_index l 0) (sym x ∙ y) in omega (arith, t))
inner_tells h (Send of bytes) (End on) id ask wants q f k inner is are =
    let x = kind_is q h f (Send of bytes) id ask inner is in let y = kind_is q h k (End on) id wants inner are in
    absurd (let t = ap (λ (l : List ℕ). slice_index l 0) (sym x ∙ y) in omega (arith, t))
inner_tells h (Beat of) (Send on others) id ask wants q f k inner is are =
    let x = kind_is q h f (Beat of) id ask inner is in let y = kind_is q h k (Send on others) id wants inner are in
    absurd (let t = ap (λ (l : List ℕ). slice_index l 0) (sym x ∙ y) in omega (arith, t))
inner_tells h (Beat of) (Beat on) id ask wants q f k inner is are =
    let x = kind_is q h f (Beat of) id ask inner is in let y = kind_is q h k (Beat on) id wants inner are in
    let m : of ≡ id = cc in let n : on ≡ id = cc in
    cc
inner_tells h (Beat of) (Update on every) id ask wants q f k inner is are =
    let x = kind_is q h f (Beat of) id ask inner is in let y = kind_is q h k (Update on every) id wants inner are in
    absurd (let t = ap (λ (l : List ℕ). slice_index l 2) (sym x ∙ y) in omega (arith, t))
inner_tells h (Beat of) (Measure (Some on) asks) id ask wants q f k inner is are =
    let x = kind_is q h f (Beat of) id ask inner is in let y = kind_is q h k (Measure (Some on) asks) id wants inner are in
    absurd (let t = ap (λ (l : List ℕ). slice_index l 2) (sym x ∙ y) in omega (arith, t))
inner_tells h (Beat of) (End on) id ask wants q f k inner is are =
    let x = kind_is q h f (Beat of) id ask inner is in let y = kind_is q h k (End on) id wants inner are in
    absurd (let t = ap (λ (l : List ℕ). slice_index l 2) (sym x ∙ y) in omega (arith, t))
inner_tells h (Update of all) (Send on others) id ask wants q f k inner is are =
    let x = kind_is q h f (Update of all) id ask inner is in let y = kind_is q h k (Send on others) id wants inner are in
    absurd (let t = ap (λ (l : List ℕ). slice_index l 0) (sym x ∙ y) in omega (arith, t))
inner_tells h (Update of all) (Beat on) id ask wants q f k inner is are =
    let x = kind_is q h f (Update of all) id ask inner is in let y = kind_is q h k (Beat on) id wants inner are in
    absurd (let t = ap (λ (l : List ℕ). slice_index l 2) (sym x ∙ y) in omega (arith, t))
inner_tells h (Update of all) (Update on every) id ask wants q f k inner is are =
    let x = kind_is q h f (Update of all) id ask inner is in let y = kind_is q h k (Update on every) id wants inner are in
    let m : of ≡ id = cc in let n : on ≡ id = cc in
    let t : all ≡ every = all_same all every (ap (λ (l : List ℕ). slice_index l 3) (sym x ∙ y)) in cc
inner_tells h (Update of all) (Measure (Some on) asks) id ask wants q f k inner is are =
    let x = kind_is q h f (Update of all) id ask inner is in let y = kind_is q h k (Measure (Some on) asks) id wants inner are in
    absurd (let t = ap (λ (l : List ℕ). slice_index l 2) (sym x ∙ y) in omega (arith, t))
inner_tells h (Update of all) (End on) id ask wants q f k inner is are =
    let x = kind_is q h f (Update of all) id ask inner is in let y = kind_is q h k (End on) id wants inner are in
    absurd (let t = ap (λ (l : List ℕ). slice_index l 2) (sym x ∙ y) in omega (arith, t))
inner_tells h (Measure (Some of) op) (Send on others) id ask wants q f k inner is are =
    let x = kind_is q h f (Measure (Some of) op) id ask inner is in let y = kind_is q h k (Send on others) id wants inner are in
    absurd (let t = ap (λ (l : List ℕ). slice_index l 0) (sym x ∙ y) in omega (arith, t))
inner_tells h (Measure (Some of) op) (Beat on) id ask wants q f k inner is are =
    let x = kind_is q h f (Measure (Some of) op) id ask inner is in let y = kind_is q h k (Beat on) id wants inner are in
    absurd (let t = ap (λ (l : List ℕ). slice_index l 2) (sym x ∙ y) in omega (arith, t))
inner_tells h (Measure (Some of) op) (Update on every) id ask wants q f k inner is are =
    let x = kind_is q h f (Measure (Some of) op) id ask inner is in let y = kind_is q h k (Update on every) id wants inner are in
    absurd (let t = ap (λ (l : List ℕ). slice_index l 2) (sym x ∙ y) in omega (arith, t))
inner_tells h (Measure (Some of) op) (Measure (Some on) asks) id ask wants q f k inner is are =
    let x = kind_is q h f (Measure (Some of) op) id ask inner is in let y = kind_is q h k (Measure (Some on) asks) id wants inner are in
    let m : of ≡ id = cc in let n : on ≡ id = cc in
    let t : op ≡ asks = ap (λ (l : List ℕ). slice_index l 4) (sym x ∙ y) in cc
inner_tells h (Measure (Some of) op) (End on) id ask wants q f k inner is are =
    let x = kind_is q h f (Measure (Some of) op) id ask inner is in let y = kind_is q h k (End on) id wants inner are in
    absurd (let t = ap (λ (l : List ℕ). slice_index l 2) (sym x ∙ y) in omega (arith, t))
inner_tells h (End of) (Send on others) id ask wants q f k inner is are =
    let x = kind_is q h f (End of) id ask inner is in let y = kind_is q h k (Send on others) id wants inner are in
    absurd (let t = ap (λ (l : List ℕ). slice_index l 0) (sym x ∙ y) in omega (arith, t))
inner_tells h (End of) (Beat on) id ask wants q f k inner is are =
    let x = kind_is q h f (End of) id ask inner is in let y = kind_is q h k (Beat on) id wants inner are in
    absurd (let t = ap (λ (l : List ℕ). slice_index l 2) (sym x ∙ y) in omega (arith, t))
inner_tells h (End of) (Update on every) id ask wants q f k inner is are =
    let x = kind_is q h f (End of) id ask inner is in let y = kind_is q h k (Update on every) id wants inner are in
    absurd (let t = ap (λ (l : List ℕ). slice_index l 2) (sym x ∙ y) in omega (arith, t))
inner_tells h (End of) (Measure (Some on) asks) id ask wants q f k inner is are =
    let x = kind_is q h f (End of) id ask inner is in let y = kind_is q h k (Measure (Some on) asks) id wants inner are in
    absurd (let t = ap (λ (l : List ℕ). slice_index l 2) (sym x ∙ y) in omega (arith, t))
inner_tells h (End of) (End on) id ask wants q f k inner is are =
    let x = kind_is q h f (End of) id ask inner is in let y = kind_is q h k (End on) id wants inner are in
    let m : of ≡ id = cc in let n : on ≡ id = cc in
    cc
inner_tells h Connect e id ask wants q f k inner is are = absurd (cc)
inner_tells h (Open summary) e id ask wants q f k inner is are = absurd (cc)
inner_tells h (Measure None op) e id ask wants q f k inner is are = absurd (cc)
inner_tells h Retry e id ask wants q f k inner is are = absurd (cc)
inner_tells h c Connect id ask wants q f k inner is are = absurd (cc)
inner_tells h c (Open summary) id ask wants q f k inner is are = absurd (cc)
inner_tells h c (Measure None op) id ask wants q f k inner is are = absurd (cc)
inner_tells h c Retry id ask wants q f k inner is are = absurd (cc)

-- A record tells the command, its session, its inner message and its padding.
pub record_command : (q : ReqSetup) (h : History) (f k : Free) (c e : Command) (id other : ℕ) (ask asks : Ask) (inner message : List ℕ) → HaveIds h → IsLiveCommand h c → IsLiveCommand h e
    → kind_of q h f c ≡ OfSession id ask inner → kind_of q h k e ≡ OfSession other asks message
    → sealed_next q.psk (session_of id h) inner f.pad ≡ sealed_next q.psk (session_of other h) message k.pad
    → (c ≡ e) × (id ≡ other) × (inner ≡ message) × (f.pad ≡ k.pad)
record_command q h f k c e id other ask asks inner message ids live lives is are same =
    let one : id ≡ other = same_session q.psk h id other inner message f.pad k.pad ids (kind_live q h f c id ask inner live is) (kind_live q h k e other asks message lives are) same in
    let at : sealed_next q.psk (session_of id h) inner f.pad ≡ sealed_next q.psk (session_of id h) message k.pad = same ∙ ap (λ (n : ℕ). sealed_next q.psk (session_of n h) message k.pad) (sym one) in
    let told = sealed_tells q.psk (session_of id h) inner message f.pad k.pad (inner_short q h f c id ask inner live is) (inner_short q h k e other asks message lives are) at in
    let there : kind_of q h k e ≡ OfSession id asks inner = are ∙ ap (λ (n : ℕ). OfSession n asks message) (sym one) ∙ ap (OfSession id asks) (sym told.0) in
    (inner_tells h c e id ask asks q f k inner is there, one, told.0, told.1)
