-- The request that bytes encode has the code that stands in them.
use Rattle.std.proofs.Common.{refl, ◌∙◌, ◌≡◌, ℕ, ◌+◌, List, [], ◌∷◌, true, false, Bool, Option, Some, None, Result, Ok, Err, ap, sym, subst, arith}
use Rattle.std.proofs.Math.Bool.{or-false}
use Rattle.std.proofs.lemmas.Bool.{false≢true}
use Rattle.std.proofs.lemmas.Bool.Decides.{nat_tests}
use Rattle.std.proofs.lemmas.Option.{none-some, same_Some}
use Rattle.std.specs.Prelude.{if◌then◌else◌, ◌||◌, ◌==◌, nat_lt, length, take}
use Rattle.std.specs.Result.{result_ok}
use Rattle.spdm_grammar.specs.Layout.{Layout}
use Rattle.spdm_grammar.specs.Layout.Layout.{Whole, Sized, Number, Optional, Bytes, Tables, UpTo, Remaining}
use Rattle.spdm_grammar.specs.Message.{RequestMessage}
use Rattle.spdm_grammar.specs.Reading.{read, and_then, ended, ended_sized, all_up_to, field_at, number_at, optional_at, tables_at, front}
use Rattle.spdm_grammar.specs.Reading as reading
use Rattle.spdm_grammar.specs.Requests.{request_in, request_body, get_version_layout, get_capabilities_layout, negotiate_algorithms_layout, get_measurements_layout, psk_exchange_layout, psk_finish_layout, heartbeat_layout, key_update_layout, end_session_layout, chunk_send_layout, chunk_get_layout}
use Rattle.spdm_grammar.specs.Codes.{is_request_code}
use Rattle.spdm_grammar.specs.declared.messages.malformed.Malformed.{Malformed}
use Rattle.byteorder.specs.Endian.{little_number}
use Rattle.spdm_grammar.specs.declared.messages.malformed.Part.TheVariants.{End, Field}
use Rattle.responder_machine.specs.Answer.{request_at}
use Rattle.responder_machine.specs.Place.{Place, place_terms}
use Rattle.spdm_machine.specs.Terms.{hash_len}
use Rattle.responder_machine.specs.Refusal.{code_of}
use Rattle.spdm_grammar.specs.Codes.{code_for}
use Rattle.spdm_grammar.specs.declared.names.request_code.TheConstants.{GET_VERSION, CHUNK_SEND, CHUNK_GET, GET_MEASUREMENTS, GET_CAPABILITIES, NEGOTIATE_ALGORITHMS, PSK_EXCHANGE, PSK_FINISH, HEARTBEAT, KEY_UPDATE, END_SESSION}
use Rattle.spdm_grammar.specs.declared.names.spdm_version.TheConstants.{V1_0, V1_2}

-- Every value that a layout gives has this code.
abbrev pub Gives : ℕ → Layout RequestMessage → Type 0
Gives code (Whole value) = code_for value ≡ code
Gives code (Sized told told_at value) = code_for value ≡ code
Gives code (Number width is_allowed next) = (n : ℕ) → Gives code (next n)
Gives code (Optional is_there width next) = (n : Option ℕ) → Gives code (next n)
Gives code (Bytes width next) = (bytes : List ℕ) → Gives code (next bytes)
Gives code (Tables count next) = (bytes : List ℕ) → Gives code (next bytes)
Gives code (UpTo most value) = (bytes : List ℕ) → code_for (value bytes) ≡ code
Gives code (Remaining value) = (bytes : List ℕ) → code_for (value bytes) ≡ code

-- A request, where there is one, has this code.
abbrev HasCode : ℕ → Option RequestMessage → Type 0
HasCode code None = Unit {0}
HasCode code (Some asked) = code_for asked ≡ code

abbrev value_of : Result RequestMessage Malformed → Option RequestMessage
value_of x = result_ok x

then-code : {A : Type 0} (code : ℕ) (x : Result A Malformed) (next : A → Result RequestMessage Malformed) → ((a : A) → HasCode code (value_of (next a))) → HasCode code (value_of (and_then x next))
then-code code (Ok a) next h = h a
then-code code (Err fault) next h = tt

either-code : (code : ℕ) (b : Bool) (x : Result RequestMessage Malformed) (fault : Malformed) → HasCode code (value_of x) → HasCode code (value_of (if b then x else Err fault))
either-code code true x fault h = h
either-code code false x fault h = tt

pub read-code : (code : ℕ) (layout : Layout RequestMessage) (p : reading.Place) → Gives code layout → HasCode code (value_of (read layout p))
read-code code (Whole value) p g = either-code code (length p.rest == 0) (Ok value) _ g
read-code code (Sized told told_at value) p g = either-code code (told == p.at) (ended value p) _ (either-code code (length p.rest == 0) (Ok value) _ g)
read-code code (Number width is_allowed next) p g =
    then-code code (number_at width p) _ (λ number. either-code code (is_allowed number.0) (read (next number.0) number.1) _ (read-code code (next number.0) number.1 (g number.0)))
read-code code (Optional is_there width next) p g =
    then-code code (optional_at is_there width p) _ (λ number. read-code code (next number.0) number.1 (g number.0))
read-code code (Bytes width next) p g =
    then-code code (field_at width p) _ (λ field. read-code code (next field.0) field.1 (g field.0))
read-code code (Tables count next) p g =
    then-code code (tables_at count p) _ (λ field. read-code code (next field.0) field.1 (g field.0))
read-code code (UpTo most value) p g =
    then-code code (all_up_to most p) _ (λ field. g field)
read-code code (Remaining value) p g = g p.rest

gives_eq : (n k : ℕ) (layout : Layout RequestMessage) → Gives k layout → (n == k) ≡ true → Gives n layout
gives_eq n k layout g is = subst (λ code. Gives code layout) (same n k is) g
  where
    same : (n k : ℕ) → (n == k) ≡ true → k ≡ n
    same n k is = grind (arith, nat_tests)

-- One test of a code: the fields of the code that it asks for, or what follows it.
gives_either : (n k : ℕ) (x : Bool) (a b : Layout RequestMessage) → (n == k) ≡ x → Gives k a → ((n == k) ≡ false → Gives n b) → Gives n (if x then a else b)
gives_either n k true a b is g h = gives_eq n k a g is
gives_either n k false a b is g h = h is

get_version-code : Gives GET_VERSION get_version_layout
unfolding get_version_layout
get_version-code = λ a. refl

get_capabilities-code : Gives GET_CAPABILITIES get_capabilities_layout
unfolding get_capabilities_layout
get_capabilities-code = λ a b c d e f. refl

negotiate_algorithms-code : Gives NEGOTIATE_ALGORITHMS negotiate_algorithms_layout
unfolding negotiate_algorithms_layout
negotiate_algorithms-code = λ a b c d e f g h i j k l m n. refl

get_measurements-code : Gives GET_MEASUREMENTS get_measurements_layout
unfolding get_measurements_layout
get_measurements-code = λ a b. refl

psk_exchange-code : (hash_len : ℕ) → Gives PSK_EXCHANGE (psk_exchange_layout hash_len)
unfolding psk_exchange_layout
psk_exchange-code hash_len = λ a b c d e f g h i. refl

psk_finish-code : (hash_len : ℕ) → Gives PSK_FINISH (psk_finish_layout hash_len)
unfolding psk_finish_layout
psk_finish-code hash_len = λ a b. refl

heartbeat-code : Gives HEARTBEAT heartbeat_layout
unfolding heartbeat_layout
heartbeat-code = λ a. refl

key_update-code : Gives KEY_UPDATE key_update_layout
unfolding key_update_layout
key_update-code = λ a b. refl

end_session-code : Gives END_SESSION end_session_layout
unfolding end_session_layout
end_session-code = λ a. refl

chunk_send-code : Gives CHUNK_SEND chunk_send_layout
unfolding chunk_send_layout
chunk_send-code = λ a b c d e f g. refl

chunk_get-code : Gives CHUNK_GET chunk_get_layout
unfolding chunk_get_layout
chunk_get-code = λ a b c. refl

-- A code that none of the others is, is the last one.
last_of_codes : (version b84 be1 be3 be0 be6 be7 be8 be9 bec b85 b86 : Bool) → (if version then b84 else be1 || (be3 || (be0 || (be6 || (be7 || (be8 || (be9 || (bec || (b85 || (b86 || false)))))))))) ≡ true
    → b84 ≡ false → be1 ≡ false → be3 ≡ false → be0 ≡ false → be6 ≡ false → be7 ≡ false → be8 ≡ false → be9 ≡ false → bec ≡ false → b85 ≡ false → b86 ≡ true
last_of_codes true b84 be1 be3 be0 be6 be7 be8 be9 bec b85 b86 is z84 ze1 ze3 ze0 ze6 ze7 ze8 ze9 zec z85 = absurd (false≢true (sym z84 ∙ is))
last_of_codes false b84 be1 be3 be0 be6 be7 be8 be9 bec b85 b86 is z84 ze1 ze3 ze0 ze6 ze7 ze8 ze9 zec z85 = sym (others be1 be3 be0 be6 be7 be8 be9 bec b85 b86 ze1 ze3 ze0 ze6 ze7 ze8 ze9 zec z85) ∙ is
  where
    others : (be1 be3 be0 be6 be7 be8 be9 bec b85 b86 : Bool) → be1 ≡ false → be3 ≡ false → be0 ≡ false → be6 ≡ false → be7 ≡ false → be8 ≡ false → be9 ≡ false → bec ≡ false → b85 ≡ false → (be1 || (be3 || (be0 || (be6 || (be7 || (be8 || (be9 || (bec || (b85 || (b86 || false)))))))))) ≡ b86
    others be1 be3 be0 be6 be7 be8 be9 bec b85 b86 ze1 ze3 ze0 ze6 ze7 ze8 ze9 zec z85 = rw (ze1, ze3, ze0, ze6, ze7, ze8, ze9, zec, z85) (or-false b86)

-- The fields after a code give requests of that code.
pub body-code : (hash_len version code : ℕ) → is_request_code version code ≡ true → Gives code (request_body hash_len code)
unfolding request_body
body-code hash_len version code is =
    gives_either code GET_VERSION (code == GET_VERSION) get_version_layout _ refl get_version-code (λ z84.
    gives_either code GET_CAPABILITIES (code == GET_CAPABILITIES) get_capabilities_layout _ refl get_capabilities-code (λ ze1.
    gives_either code NEGOTIATE_ALGORITHMS (code == NEGOTIATE_ALGORITHMS) negotiate_algorithms_layout _ refl negotiate_algorithms-code (λ ze3.
    gives_either code GET_MEASUREMENTS (code == GET_MEASUREMENTS) get_measurements_layout _ refl get_measurements-code (λ ze0.
    gives_either code PSK_EXCHANGE (code == PSK_EXCHANGE) (psk_exchange_layout hash_len) _ refl (psk_exchange-code hash_len) (λ ze6.
    gives_either code PSK_FINISH (code == PSK_FINISH) (psk_finish_layout hash_len) _ refl (psk_finish-code hash_len) (λ ze7.
    gives_either code HEARTBEAT (code == HEARTBEAT) heartbeat_layout _ refl heartbeat-code (λ ze8.
    gives_either code KEY_UPDATE (code == KEY_UPDATE) key_update_layout _ refl key_update-code (λ ze9.
    gives_either code END_SESSION (code == END_SESSION) end_session_layout _ refl end_session-code (λ zec.
    gives_either code CHUNK_SEND (code == CHUNK_SEND) chunk_send_layout _ refl chunk_send-code (λ z85.
    gives_eq code CHUNK_GET chunk_get_layout chunk_get-code (last_of_codes (version == V1_0) (code == GET_VERSION) (code == GET_CAPABILITIES) (code == NEGOTIATE_ALGORITHMS) (code == GET_MEASUREMENTS) (code == PSK_EXCHANGE) (code == PSK_FINISH) (code == HEARTBEAT) (code == KEY_UPDATE) (code == END_SESSION) (code == CHUNK_SEND) (code == CHUNK_GET) is z84 ze1 ze3 ze0 ze6 ze7 ze8 ze9 zec z85)))))))))))

-- ---- The whole request.

when-code : (code : ℕ) (b : Bool) (x : Result RequestMessage Malformed) (fault : Malformed) → (b ≡ true → HasCode code (value_of x)) → HasCode code (value_of (if b then x else Err fault))
when-code code true x fault h = h refl
when-code code false x fault h = tt

-- The number of one byte.
pub one_byte : (x : ℕ) (rest : List ℕ) → little_number 1 (take 1 (x ∷ rest)) ≡ x
one_byte x rest = omega arith

abbrev pub is_version : ℕ → Bool
is_version version = version == V1_0 || version == V1_2

not_short : (x : ℕ) (rest : List ℕ) → nat_lt (length (x ∷ rest)) 1 ≡ false
not_short x rest = grind (arith, nat_tests)

-- A byte is read where one is left.
pub number_at-cons : (x : ℕ) (rest : List ℕ) (at : ℕ) → number_at 1 (record { rest = x ∷ rest; at = at }) ≡ Ok (little_number 1 (take 1 (x ∷ rest)), record { rest = rest; at = at + 1 })
unfolding number_at field_at
number_at-cons x rest at = rw (not_short x rest) refl

then-at : {A : Type 0} (code : ℕ) (x : Result A Malformed) (a : A) (next : A → Result RequestMessage Malformed) → x ≡ Ok a → HasCode code (value_of (next a)) → HasCode code (value_of (and_then x next))
then-at code x a next is h = subst (λ y. HasCode code (value_of (and_then y next))) (sym is) h

-- The reading after SPDMVersion, and after the code.
behind_version : (size x y : ℕ) (rest : List ℕ) → HasCode (little_number 1 (take 1 (y ∷ rest))) (value_of (read (Number 1 (is_request_code x) (λ code. request_body size code)) (record { rest = y ∷ rest; at = 0 + 1 })))
behind_version size x y rest =
    then-at (little_number 1 (take 1 (y ∷ rest))) (number_at 1 (record { rest = y ∷ rest; at = 0 + 1 })) (little_number 1 (take 1 (y ∷ rest)), record { rest = rest; at = 0 + 1 + 1 }) _ (number_at-cons y rest (0 + 1))
    (when-code (little_number 1 (take 1 (y ∷ rest))) (is_request_code x (little_number 1 (take 1 (y ∷ rest)))) (read (request_body size (little_number 1 (take 1 (y ∷ rest)))) (record { rest = rest; at = 0 + 1 + 1 })) (record { at = 0 + 1; what = Field }) (λ is.
    read-code (little_number 1 (take 1 (y ∷ rest))) (request_body size (little_number 1 (take 1 (y ∷ rest)))) (record { rest = rest; at = 0 + 1 + 1 }) (body-code size x (little_number 1 (take 1 (y ∷ rest))) is)))

two_bytes : (size x y : ℕ) (rest : List ℕ) → HasCode (little_number 1 (take 1 (y ∷ rest))) (request_in size (x ∷ y ∷ rest))
two_bytes size x y rest =
    then-at (little_number 1 (take 1 (y ∷ rest))) (number_at 1 (front (x ∷ y ∷ rest))) (little_number 1 (take 1 (x ∷ y ∷ rest)), record { rest = y ∷ rest; at = 0 + 1 }) _ (number_at-cons x (y ∷ rest) 0)
    (when-code (little_number 1 (take 1 (y ∷ rest))) (is_version (little_number 1 (take 1 (x ∷ y ∷ rest)))) (read (Number 1 (is_request_code (little_number 1 (take 1 (x ∷ y ∷ rest)))) (λ code. request_body size code)) (record { rest = y ∷ rest; at = 0 + 1 })) (record { at = 0; what = Field }) (λ known.
    behind_version size (little_number 1 (take 1 (x ∷ y ∷ rest))) y rest))

request-code : (size : ℕ) (m : List ℕ) → HasCode (code_of m) (request_in size m)
unfolding number_at field_at
request-code size [] = tt
request-code size (x ∷ []) =
    when-code 0 (is_version (little_number 1 (take 1 (x ∷ [])))) (Err (record { at = 0 + 1 + 0; what = End })) (record { at = 0; what = Field }) (λ is. tt)
request-code size (x ∷ y ∷ rest) = subst (λ code. HasCode code (request_in size (x ∷ y ∷ rest))) (one_byte y rest) (two_bytes size x y rest)

known-code : (code : ℕ) (q : Option RequestMessage) (asked : RequestMessage) → HasCode code q → q ≡ Some asked → code_for asked ≡ code
known-code code None asked h is = absurd (none-some asked is)
known-code code (Some other) asked h is = ap code_for (sym (same_Some other asked is)) ∙ h

-- The request that a message is at a place has the code that stands in the message.
pub asked-code : (p : Place) (m : List ℕ) (asked : RequestMessage) → request_at p m ≡ Some asked → code_for asked ≡ code_of m
asked-code p m asked is = known-code (code_of m) (request_at p m) asked (request-code (hash_len (place_terms p)) m) is

-- The same at any length of the hash.
pub sized-code : (size : ℕ) (m : List ℕ) (asked : RequestMessage) → request_in size m ≡ Some asked → code_for asked ≡ code_of m
sized-code size m asked is = known-code (code_of m) (request_in size m) asked (request-code size m) is
