-- What an inner message leads to is decided by what it holds.
use Rattle.std.proofs.Common.{◌≡◌, ◌∙◌, ap, sym, refl, ℕ, List, drop, Bool, true, false, ◌==◌}
use Rattle.std.specs.Prelude.{if◌then◌else◌, slice_index, Option, Some, None, Result, Ok, Err}
use Rattle.requester_machine.specs.Commands.{Free}
use Rattle.requester_machine.specs.History.{History, Led}
use Rattle.requester_machine.specs.InnerMessages.{Came, inner_fault, inner_led, inner_led_by, read_led, message_led, data_led}
use Rattle.requester_machine.specs.Message.{Ask}
use Rattle.requester_machine.specs.Message.Ask.{AskFinish}
use Rattle.requester_machine.specs.Records.{answer_inner}
use Rattle.requester_machine.specs.Session.{Steps, session_terms}
use Rattle.requester_machine.specs.Setup.{ReqSetup}
use Rattle.spdm_basis.specs.Sizes.{hash_size}
use Rattle.spdm_basis.specs.declared.values.hash_alg.HashAlg.{HashAlg}
use Rattle.spdm_grammar.specs.Message.{ResponseMessage}
use Rattle.spdm_grammar.specs.Message.ResponseMessage.{Version, Capabilities, Algorithms, Measurements, PskExchangeRsp, PskFinishRsp, HeartbeatAck, KeyUpdateAck, EndSessionAck, ChunkSendAck, ChunkResponse, Error}
use Rattle.spdm_grammar.specs.Responses.{response_reading}
use Rattle.spdm_grammar.specs.declared.told.event.BadReply.{BadReply}
use Rattle.spdm_grammar.specs.declared.messages.malformed.Malformed.{Malformed}
use Rattle.spdm_machine.specs.Terms.{hash_len}
use Rattle.psk_session.specs.Course.{came_to}
use Rattle.psk_session.specs.Finished.{finish_fault, finish_led}
use Rattle.psk_session.specs.Inner.{Contents, contents_by, contents_of}
use Rattle.psk_session.specs.Inner.Contents.{Spoken, AppData}

-- What contents lead to.
abbrev pub led_by : ReqSetup → History → Free → Came → Ask → Result Contents BadReply → Result Led BadReply
led_by q h f came ask (Err fault) = Err fault
led_by q h f came ask (Ok (Spoken message)) = message_led q h f came ask message
led_by q h f came ask (Ok (AppData bytes)) = data_led came ask

by_type : (q : ReqSetup) (h : History) (f : Free) (came : Came) (ask : Ask) (b : Bool) (reading : Result ResponseMessage Malformed)
    → (if b then read_led q h f came ask reading else data_led came ask) ≡ led_by q h f came ask (contents_by None b reading (drop 1 came.inner))
by_type q h f came ask true (Err fault) = refl
by_type q h f came ask true (Ok message) = refl
by_type q h f came ask false reading = refl

by_fault : (q : ReqSetup) (h : History) (f : Free) (came : Came) (ask : Ask) (fault : Option BadReply)
    → inner_led_by q h f came ask fault
    ≡ led_by q h f came ask (contents_by fault (slice_index came.inner 0 == 5) (response_reading (hash_len (session_terms came.steps)) false (drop 1 came.inner)) (drop 1 came.inner))
by_fault q h f came ask (Some fault) = refl
by_fault q h f came ask None = by_type q h f came ask (slice_index came.inner 0 == 5) (response_reading (hash_len (session_terms came.steps)) false (drop 1 came.inner))

pub inner_led_is : (q : ReqSetup) (h : History) (f : Free) (came : Came) (ask : Ask)
    → inner_led q h f came ask ≡ led_by q h f came ask (contents_of q (hash_len (session_terms came.steps)) came.inner)
unfolding inner_led
inner_led_is q h f came ask = by_fault q h f came ask (inner_fault q came.inner)

finish_led_is : (q : ReqSetup) (h : History) (f : Free) (came : Came) (contents : Result Contents BadReply)
    → led_by q h f came AskFinish contents ≡ finish_led came (finish_fault contents)
finish_led_is q h f came (Err fault) = refl
finish_led_is q h f came (Ok (AppData bytes)) = refl
finish_led_is q h f came (Ok (Spoken (Version entries))) = refl
finish_led_is q h f came (Ok (Spoken (Capabilities caps))) = refl
finish_led_is q h f came (Ok (Spoken (Algorithms reply))) = refl
finish_led_is q h f came (Ok (Spoken (Measurements measured))) = refl
finish_led_is q h f came (Ok (Spoken (PskExchangeRsp rsp))) = refl
finish_led_is q h f came (Ok (Spoken PskFinishRsp)) = refl
finish_led_is q h f came (Ok (Spoken HeartbeatAck)) = refl
finish_led_is q h f came (Ok (Spoken (KeyUpdateAck op tag))) = refl
finish_led_is q h f came (Ok (Spoken EndSessionAck)) = refl
finish_led_is q h f came (Ok (Spoken (ChunkSendAck early handle number answer))) = refl
finish_led_is q h f came (Ok (Spoken (ChunkResponse chunk))) = refl
finish_led_is q h f came (Ok (Spoken (Error version code detail extended))) = refl

-- The verdict on an inner message of these bytes is that of the definitions on the record that held them.
pub judged : (psk : List ℕ) (s : Steps) (sealed inner : List ℕ) (hash : HashAlg) (verdict : Option BadReply) (q : ReqSetup) (h : History) (f : Free) (id : ℕ)
    → inner ≡ answer_inner psk s AskFinish sealed → hash ≡ (session_terms s).choice.hash → verdict ≡ finish_fault (contents_of q (hash_size hash) inner)
    → inner_led q h f (came_to psk id s AskFinish sealed) AskFinish ≡ finish_led (came_to psk id s AskFinish sealed) verdict
judged psk s sealed inner hash verdict q h f id same alike is =
    let came = came_to psk id s AskFinish sealed in
    inner_led_is q h f came AskFinish
    ∙ finish_led_is q h f came (contents_of q (hash_len (session_terms s)) (answer_inner psk s AskFinish sealed))
    ∙ sym (ap (finish_led came) (is ∙ ap (λ (x : HashAlg). finish_fault (contents_of q (hash_size x) inner)) alike ∙ ap (λ (x : List ℕ). finish_fault (contents_of q (hash_len (session_terms s)) x)) same))
