-- What the ends are made of that a configuration in range sets up has no fault.
use Rattle.std.proofs.Common.{◌≡◌, ◌∙◌, ◌==◌, ◌||◌, ◌&&◌, ◌++◌, ℕ, List, [], ◌∷◌, length, map, refl, sym, ap, Bool, true, false, nat_lt, nat_eq, arith, append_assoc, eq-eqb, None, Contains}
use Rattle.std.specs.List.{AllByRecursion, list_any}
use Rattle.std.specs.Prelude.{bytes_eq}
use Rattle.std.proofs.lemmas.Bool.{le-leb}
use Rattle.std.proofs.lemmas.List.{length-map}
use Rattle.std.proofs.lemmas.List.Elements.{All-contains, All-from_recursion}
use Rattle.std.proofs.lemmas.Slice.Eq.{bytes_eq-Decides}
use Rattle.negotiate.specs.OwnSizes.{may_be_own}
use Rattle.requester.specs.Config as asking
use Rattle.requester.specs.declared.config.ReqConfig.{ReqConfig}
use Rattle.requester_machine.specs.Setup.{ReqSetup}
use Rattle.responder.specs.Config.{config_fault, has_long_hint, has_same_eid, has_same_psk, is_eid_of_one, is_psk_of_one}
use Rattle.responder.specs.SetUp as answering
use Rattle.responder.specs.declared.config.Known.{Known}
use Rattle.responder.specs.declared.config.RspConfig.{RspConfig}
use Rattle.responder_machine.specs.Setup as machine
use Rattle.responder_machine.specs.Setup.{RspPart}
use Rattle.script_text.specs.Configuring.{has_psk, requester_has_eid}
use Rattle.script_text.specs.Sound.{IsSoundConfig, are_bytes_in, are_sound_requesters, is_sound_end, is_sound_requester}
use Rattle.script_text.specs.declared.configuration.config.ReqPart.{ReqPart}
use Rattle.script_text.specs.declared.configuration.config.ScriptConfig.{ScriptConfig}
use Rattle.script_laws.proofs.ScriptRead.{script_sound}
use Rattle.script_laws.proofs.SetUpRight.{are_few, at_most, differ, eid_among, has_sizes, is_fine, no_fault, own_fits, psk_among}
use Rattle.script_ends.specs.Configured.{SetsUpResponder, known_in, requester_in}
use Rattle.script_laws.specs.Ends.{HasNoFault, ReadEndsHaveNoFault, SetsUpRequester}
use Rattle.spdm_agreement.specs.Configured.{HasSizes}
use Rattle.spdm_basis.proofs.Bools.{and_first, and_second, lt_false}
use Rattle.spdm_grammar.specs.declared.messages.choice.FlagSet.{FlagSet}
use Rattle.spdm_grammar.specs.declared.names.TheConstants.{MIN_DATA_TRANSFER_SIZE, MAX_MESSAGE_SIZE}
use Rattle.world_machine.specs.Setup.{known_of}
use Rattle.script_laws.proofs.ConfigRead.{other_way}

-- ---- Sizes.

one_size : (chunk : Bool) (transfer max : ℕ) → (chunk ≡ false → max ≡ transfer) → (chunk || nat_eq max transfer) ≡ true
one_size true transfer max whole = refl
one_size false transfer max whole = eq-eqb max transfer (whole refl)

own_sizes : (transfer max unit : ℕ) (flags : FlagSet) → HasSizes transfer max unit flags → may_be_own (record { transfer = transfer; max = max }) flags.chunk ≡ true
own_sizes transfer max unit flags sizes =
    rw (le-leb MIN_DATA_TRANSFER_SIZE transfer sizes.least, le-leb transfer max sizes.ordered, le-leb max MAX_MESSAGE_SIZE sizes.most, one_size flags.chunk transfer max sizes.whole) refl

-- ---- Requesters apart.

not_equal : (xs ys : List ℕ) (b : Bool) → bytes_eq xs ys ≡ b → (xs ≡ ys → ⊥) → b ≡ false
not_equal xs ys true e fails = absurd (fails ((bytes_eq-Decides xs ys).0 e))
not_equal xs ys false e fails = refl

-- none of these requesters has the endpoint of one before them, nor its pre-shared key
none_has_eid : (e : ℕ) (front : List ReqPart) (q : ReqPart) (back qs : List ReqPart) → are_sound_requesters e (front ++ q ∷ back) qs ≡ true → requester_has_eid q.eid.number qs ≡ false
none_has_eid e front q back [] h = refl
none_has_eid e front q back (x ∷ qs) h =
    let fine = is_fine e (front ++ q ∷ back) x (and_first _ _ h) in
    let rest : are_sound_requesters e ((front ++ q ∷ back) ++ x ∷ []) qs ≡ true = and_second _ _ h in
    rw (other_way q.eid.number x.eid.number (eid_among x.eid.number front q back fine.new_eid)) (none_has_eid e front q (back ++ x ∷ []) qs (rw (append_assoc front (q ∷ back) (x ∷ [])) at rest))

none_has_psk : (e : ℕ) (front : List ReqPart) (q : ReqPart) (back qs : List ReqPart) → are_sound_requesters e (front ++ q ∷ back) qs ≡ true → has_psk q.psk qs ≡ false
none_has_psk e front q back [] h = refl
none_has_psk e front q back (x ∷ qs) h =
    let fine = is_fine e (front ++ q ∷ back) x (and_first _ _ h) in
    let rest : are_sound_requesters e ((front ++ q ∷ back) ++ x ∷ []) qs ≡ true = and_second _ _ h in
    let other : bytes_eq x.psk q.psk ≡ false = not_equal x.psk q.psk (bytes_eq x.psk q.psk) refl (λ same. differ q.psk x.psk (psk_among x.psk front q back fine.new_psk) (sym same)) in
    rw other (none_has_psk e front q (back ++ x ∷ []) qs (rw (append_assoc front (q ∷ back) (x ∷ [])) at rest))

-- none has that of the responder
none_is : (e : ℕ) (before qs : List ReqPart) → are_sound_requesters e before qs ≡ true → requester_has_eid e qs ≡ false
none_is e before [] h = refl
none_is e before (q ∷ qs) h =
    let fine = is_fine e before q (and_first _ _ h) in
    let rest : are_sound_requesters e (before ++ q ∷ []) qs ≡ true = and_second _ _ h in
    rw (other_way e q.eid.number fine.other) (none_is e (before ++ q ∷ []) qs rest)

-- ---- What a responder knows of them, as these lists.

abbrev any_eid : ℕ → List machine.Known → Bool
any_eid e known = list_any (λ (k : machine.Known). k.eid == e) known

abbrev any_twice : ℕ → List machine.Known → Bool
any_twice e [] = false
any_twice e (k ∷ others) = any_eid e (k ∷ others) || any_twice k.eid others

abbrev any_psk : List ℕ → List machine.Known → Bool
any_psk psk known = list_any (λ (k : machine.Known). bytes_eq k.psk psk) known

abbrev psk_twice : List machine.Known → Bool
psk_twice [] = false
psk_twice (k ∷ others) = any_psk k.psk others || psk_twice others

abbrev any_long : List machine.Known → Bool
any_long known = list_any (λ (k : machine.Known). nat_lt 64 (length k.hint)) known

eid_told : (e : ℕ) (known : List Known) → is_eid_of_one e known ≡ any_eid e (map answering.known_of known)
eid_told e [] = refl
eid_told e (k ∷ known) = ap (λ b. nat_eq k.eid.number e || b) (eid_told e known)

same_eid_told : (e : ℕ) (known : List Known) → has_same_eid e known ≡ any_twice e (map answering.known_of known)
same_eid_told e [] = refl
same_eid_told e (k ∷ known) = rw (eid_told e known, same_eid_told k.eid.number known) refl

psk_told : (psk : List ℕ) (known : List Known) → is_psk_of_one psk known ≡ any_psk psk (map answering.known_of known)
psk_told psk [] = refl
psk_told psk (k ∷ known) = ap (λ b. bytes_eq k.psk psk || b) (psk_told psk known)

same_psk_told : (known : List Known) → has_same_psk known ≡ psk_twice (map answering.known_of known)
same_psk_told [] = refl
same_psk_told (k ∷ known) = rw (psk_told k.psk known, same_psk_told known) refl

long_told : (known : List Known) → has_long_hint known ≡ any_long (map answering.known_of known)
long_told [] = refl
long_told (k ∷ known) = ap (λ b. nat_lt 64 (length k.hint) || b) (long_told known)

eid_known : (r e : ℕ) (qs : List ReqPart) → any_eid e (known_in r qs) ≡ requester_has_eid e qs
eid_known r e [] = refl
eid_known r e (q ∷ qs) = ap (λ b. nat_eq q.eid.number e || b) (eid_known r e qs)

psk_known : (r : ℕ) (psk : List ℕ) (qs : List ReqPart) → any_psk psk (known_in r qs) ≡ has_psk psk qs
psk_known r psk [] = refl
psk_known r psk (q ∷ qs) = ap (λ b. bytes_eq q.psk psk || b) (psk_known r psk qs)

none_twice_behind : (r e : ℕ) (before : List ReqPart) (q : ReqPart) (qs : List ReqPart) → are_sound_requesters e (before ++ q ∷ []) qs ≡ true → any_twice q.eid.number (known_in r qs) ≡ false
none_twice_behind r e before q [] h = refl
none_twice_behind r e before q (x ∷ qs) h =
    let rest : are_sound_requesters e ((before ++ q ∷ []) ++ x ∷ []) qs ≡ true = and_second _ _ h in
    rw (eid_known r q.eid.number (x ∷ qs), none_has_eid e before q [] (x ∷ qs) h, none_twice_behind r e (before ++ q ∷ []) x qs rest) refl

none_twice : (r e : ℕ) (qs : List ReqPart) → are_sound_requesters e [] qs ≡ true → any_twice e (known_in r qs) ≡ false
none_twice r e [] h = refl
none_twice r e (q ∷ qs) h =
    let rest : are_sound_requesters e (q ∷ []) qs ≡ true = and_second _ _ h in
    rw (eid_known r e (q ∷ qs), none_is e [] (q ∷ qs) h, none_twice_behind r e [] q qs rest) refl

no_psk_twice : (r e : ℕ) (before qs : List ReqPart) → are_sound_requesters e before qs ≡ true → psk_twice (known_in r qs) ≡ false
no_psk_twice r e before [] h = refl
no_psk_twice r e before (q ∷ qs) h =
    let rest : are_sound_requesters e (before ++ q ∷ []) qs ≡ true = and_second _ _ h in
    rw (psk_known r q.psk qs, none_has_psk e before q [] qs rest, no_psk_twice r e (before ++ q ∷ []) qs rest) refl

hint_fits : (q : ReqPart) → is_sound_requester q ≡ true → nat_lt 64 (length q.hint) ≡ false
hint_fits q sound =
    let end_is = is_sound_end 16 q.transfer q.max q.unit q.pad q.flags in
    let hint_is = are_bytes_in 0 64 q.hint in
    let psk_is = are_bytes_in 1 64 q.psk in
    let opaque_is = are_bytes_in 0 1024 q.opaque in
    lt_false 64 (length q.hint) (at_most q.hint 0 64 (and_second end_is hint_is (and_first (end_is && hint_is) psk_is (and_first (end_is && hint_is && psk_is) opaque_is sound))))

no_long_hint : (r e : ℕ) (before qs : List ReqPart) → are_sound_requesters e before qs ≡ true → any_long (known_in r qs) ≡ false
no_long_hint r e before [] h = refl
no_long_hint r e before (q ∷ qs) h =
    let fine = is_fine e before q (and_first _ _ h) in
    let rest : are_sound_requesters e (before ++ q ∷ []) qs ≡ true = and_second _ _ h in
    rw (hint_fits q fine.sound) (no_long_hint r e (before ++ q ∷ []) qs rest)

-- ---- The responder.

responder_fine : (c : ScriptConfig) → IsSoundConfig c → (config : RspConfig) → SetsUpResponder c config → config_fault config ≡ None
responder_fine c sound config up =
    let e = c.responder.eid.number in
    let r = c.responder in
    let end_is = is_sound_end 255 r.transfer r.max r.unit r.beat r.flags in
    let opaque_is = are_bytes_in 0 1024 r.opaque in
    let end = and_first end_is opaque_is sound.responder in
    let opaque_fits : opaque_is ≡ true = and_second end_is opaque_is sound.responder in
    let sizes = has_sizes 255 r.transfer r.max r.unit r.beat r.flags end in
    let known = config.known.now in
    let few = are_few e [] c.requesters sound.requesters (omega arith) in
    let count : length known ≡ length c.requesters =
    sym (length-map known answering.known_of) ∙ ap (λ (ks : List machine.Known). length ks) up.known
    ∙ length-map (map (requester_in e) c.requesters) known_of ∙ length-map c.requesters (requester_in e) in
    let eid : config.eid.number ≡ e = ap (λ (p : RspPart). p.eid) up.part in
    let transfer : config.transfer ≡ r.transfer = ap (λ (p : RspPart). p.transfer) up.part in
    let max : config.max ≡ r.max = ap (λ (p : RspPart). p.max) up.part in
    let unit : config.unit ≡ r.unit = ap (λ (p : RspPart). p.unit) up.part in
    let flags : config.flags ≡ r.flags = ap (λ (p : RspPart). p.flags) up.part in
    let opaque : config.opaque.now ≡ r.opaque = ap (λ (p : RspPart). p.opaque) up.part in
    let blocks : config.blocks.now ≡ c.blocks = ap (λ (p : RspPart). p.blocks) up.part in
    let known_eids : has_same_eid config.eid.number known ≡ false = same_eid_told config.eid.number known ∙ ap (any_twice config.eid.number) up.known ∙ ap (λ n. any_twice n (known_in e c.requesters)) eid ∙ none_twice e e c.requesters sound.requesters in
    let known_psks : has_same_psk known ≡ false = same_psk_told known ∙ ap psk_twice up.known ∙ no_psk_twice e e [] c.requesters sound.requesters in
    let hints : has_long_hint known ≡ false = long_told known ∙ ap any_long up.known ∙ no_long_hint e e [] c.requesters sound.requesters in
    let room : nat_lt 8 (length known) ≡ false = lt_false 8 (length known) (omega (arith, count, few)) in
    let own : may_be_own (record { transfer = config.transfer; max = config.max }) config.flags.chunk ≡ true = rw (transfer, max, flags) (own_sizes r.transfer r.max r.unit r.flags sizes) in
    let unit_low : nat_lt config.unit 64 ≡ false = rw unit (lt_false r.unit 64 sizes.payload) in
    let unit_high : nat_lt 1024 config.unit ≡ false = rw unit (lt_false 1024 r.unit sizes.payload_most) in
    let short : nat_lt 1024 (length config.opaque.now) ≡ false = rw opaque (lt_false 1024 (length r.opaque) (at_most r.opaque 0 1024 opaque_fits)) in
    rw (room, known_eids, known_psks, own, unit_low, unit_high, short, hints, blocks, no_fault c.blocks sound.blocks) refl

-- ---- A requester.

-- a requester in range, which has another endpoint than the responder
abbrev IsOne : ℕ → ReqPart → Type 0
IsOne e q = (is_sound_requester q ≡ true) × (nat_eq e q.eid.number ≡ false)

each_fine : (e : ℕ) (before qs : List ReqPart) → are_sound_requesters e before qs ≡ true → AllByRecursion (IsOne e) qs
each_fine e before [] h = tt
each_fine e before (q ∷ qs) h =
    let fine = is_fine e before q (and_first _ _ h) in
    ((fine.sound, fine.other), each_fine e (before ++ q ∷ []) qs (and_second _ _ h))

one_fine : (e : ℕ) (qs : List ReqPart) → are_sound_requesters e [] qs ≡ true → (q : ReqPart) → Contains qs q → IsOne e q
one_fine e qs h q is = All-contains (IsOne e) qs q (All-from_recursion (IsOne e) qs (each_fine e [] qs h)) is

requester_fine : (c : ScriptConfig) → IsSoundConfig c → (config : ReqConfig) → SetsUpRequester c config → asking.config_fault config ≡ None
requester_fine c sound config up =
    let e = c.responder.eid.number in
    let q = up.q in
    let fine = one_fine e c.requesters sound.requesters q up.is in
    let end_is = is_sound_end 16 q.transfer q.max q.unit q.pad q.flags in
    let hint_is = are_bytes_in 0 64 q.hint in
    let psk_is = are_bytes_in 1 64 q.psk in
    let opaque_is = are_bytes_in 0 1024 q.opaque in
    let a = and_first (end_is && hint_is && psk_is) opaque_is fine.0 in
    let end = and_first end_is hint_is (and_first (end_is && hint_is) psk_is a) in
    let opaque_fits : opaque_is ≡ true = and_second (end_is && hint_is && psk_is) opaque_is fine.0 in
    let sizes = has_sizes 16 q.transfer q.max q.unit q.pad q.flags end in
    let eid : config.eid.number ≡ q.eid.number = ap (λ (s : ReqSetup). s.eid) up.sets_up in
    let responder : config.responder.number ≡ e = ap (λ (s : ReqSetup). s.responder) up.sets_up in
    let transfer : config.transfer ≡ q.transfer = ap (λ (s : ReqSetup). s.transfer) up.sets_up in
    let max : config.max ≡ q.max = ap (λ (s : ReqSetup). s.max) up.sets_up in
    let unit : config.unit ≡ q.unit = ap (λ (s : ReqSetup). s.unit) up.sets_up in
    let pad : config.pad ≡ q.pad = ap (λ (s : ReqSetup). s.pad) up.sets_up in
    let flags : config.flags ≡ q.flags = ap (λ (s : ReqSetup). s.flags) up.sets_up in
    let hint : config.hint.now ≡ q.hint = ap (λ (s : ReqSetup). s.hint) up.sets_up in
    let opaque : config.opaque.now ≡ q.opaque = ap (λ (s : ReqSetup). s.opaque) up.sets_up in
    let other : nat_eq config.eid.number config.responder.number ≡ false = rw (eid, responder) (other_way e q.eid.number fine.1) in
    let own : may_be_own (record { transfer = config.transfer; max = config.max }) config.flags.chunk ≡ true = rw (transfer, max, flags) (own_sizes q.transfer q.max q.unit q.flags sizes) in
    let unit_low : nat_lt config.unit 64 ≡ false = rw unit (lt_false q.unit 64 sizes.payload) in
    let unit_high : nat_lt 1024 config.unit ≡ false = rw unit (lt_false 1024 q.unit sizes.payload_most) in
    let padding : nat_lt 16 config.pad ≡ false = rw pad (lt_false 16 q.pad (own_fits 16 q.transfer q.max q.unit q.pad q.flags end)) in
    let short : nat_lt 1024 (length config.opaque.now) ≡ false = rw opaque (lt_false 1024 (length q.opaque) (at_most q.opaque 0 1024 opaque_fits)) in
    let hints : nat_lt 64 (length config.hint.now) ≡ false = rw hint (hint_fits q fine.0) in
    rw (other, own, unit_low, unit_high, padding, short, hints) refl

-- Ends of a configuration in range have none.
pub sound_has_no_fault : (c : ScriptConfig) → IsSoundConfig c → HasNoFault c
sound_has_no_fault c sound = record { responder = responder_fine c sound; requester = requester_fine c sound }

pub no_end_has_fault : ReadEndsHaveNoFault
no_end_has_fault text script read = sound_has_no_fault script.config (script_sound text script read).0
