-- The lines of a packet that was given to a requester, by what is told and the data that came last.
use Rattle.std.proofs.Common.{refl, ◌≡◌, ◌∷◌, ◌++◌, ℕ, List, Bool, true, false, Option, Some, None, sym}
use Rattle.std.proofs.lemmas.Bool.{false≢true}
use Rattle.std.specs.Prelude.{if◌then◌else◌, is_some, unwrap_or, Result, Ok, Err}
use Rattle.std.specs.Option.{option_or}
use Rattle.mctp_framing.specs.Gathering.{Gathered}
use Rattle.mctp_framing.specs.Gathering.Gathered.{Dropped, More, Whole}
use Rattle.mctp_framing.specs.Packet.{PacketFields, parsed}
use Rattle.script_ends.proofs.Brings.{Agrees, EntryAgrees, entry_agrees, is_measured}
use Rattle.script_ends.specs.Told.{event_lines, is_answered}
use Rattle.requester_machine.specs.Asking.{Outcome}
use Rattle.requester_machine.specs.Asking.{Outcome as asked}
use Rattle.requester_machine.specs.Does.{requester_hears, body_chosen}
use Rattle.requester_machine.specs.History as asking
use Rattle.requester_machine.specs.History.Entry.{Told, TookClear, TookRecord}
use Rattle.requester_machine.specs.Requesting as requesting
use Rattle.requester_machine.specs.Requesting.{PacketStep, Requesting, requester_given}
use Rattle.requester_machine.specs.Shown as shown
use Rattle.spdm_basis.specs.declared.PacketFault.{PacketFault}
use Rattle.spdm_grammar.specs.Lines.{Whose}
use Rattle.spdm_grammar.specs.Lines.Line.{ToRequester}
use Rattle.spdm_grammar.specs.declared.told.event.Event.{Event}
use Rattle.spdm_grammar.specs.declared.told.event.Event.TheVariants as event
use Rattle.spdm_grammar.specs.declared.told.event.Finished.TheVariants as finished
use Rattle.world_machine.specs.World.{data_lines, id_in_event, record_lines}

-- The lines are those of what is told, of the data and of the measurement record.
abbrev pub GivenAs : ℕ → Event → (last : List ℕ) → (taken measured : Option (List ℕ)) → Type 0
GivenAs n told last taken measured = event_lines n told last ≡ ToRequester n told ∷ data_lines (Whose.Requester n) (id_in_event told) taken ++ record_lines n measured

neither : (P : Option (List ℕ) → Option (List ℕ) → Type 0) (taken measured : Option (List ℕ)) → is_some taken ≡ false → is_some measured ≡ false → P None None → P taken measured
neither P None None a b p = p
neither P None (Some x) a b p = absurd (false≢true (sym b))
neither P (Some x) measured a b p = absurd (false≢true (sym a))

by_event : (n : ℕ) (told : Event) (older : List ℕ) (taken measured : Option (List ℕ)) → is_some taken ≡ is_answered told → is_some measured ≡ is_measured told
    → GivenAs n told (unwrap_or (option_or taken measured) older) taken measured
by_event n (event.Done (finished.Answered id)) older (Some bytes) None a b = refl
by_event n (event.Done (finished.Answered id)) older None measured a b = absurd (false≢true a)
by_event n (event.Done (finished.Answered id)) older (Some bytes) (Some more) a b = absurd (false≢true (sym b))
by_event n (event.Done (finished.Measured number)) older None (Some bytes) a b = refl
by_event n (event.Done (finished.Measured number)) older taken None a b = absurd (false≢true b)
by_event n (event.Done (finished.Measured number)) older (Some bytes) (Some more) a b = absurd (false≢true (sym a))
by_event n (event.Done finished.Connected) older taken measured a b = neither (λ t m. GivenAs n (event.Done finished.Connected) (unwrap_or (option_or t m) older) t m) taken measured a b refl
by_event n (event.Done (finished.Opened id)) older taken measured a b = neither (λ t m. GivenAs n (event.Done (finished.Opened id)) (unwrap_or (option_or t m) older) t m) taken measured a b refl
by_event n (event.Done (finished.Alive id)) older taken measured a b = neither (λ t m. GivenAs n (event.Done (finished.Alive id)) (unwrap_or (option_or t m) older) t m) taken measured a b refl
by_event n (event.Done (finished.Updated id)) older taken measured a b = neither (λ t m. GivenAs n (event.Done (finished.Updated id)) (unwrap_or (option_or t m) older) t m) taken measured a b refl
by_event n (event.Done (finished.Ended id)) older taken measured a b = neither (λ t m. GivenAs n (event.Done (finished.Ended id)) (unwrap_or (option_or t m) older) t m) taken measured a b refl
by_event n event.Progress older taken measured a b = neither (λ t m. GivenAs n event.Progress (unwrap_or (option_or t m) older) t m) taken measured a b refl
by_event n event.More older taken measured a b = neither (λ t m. GivenAs n event.More (unwrap_or (option_or t m) older) t m) taken measured a b refl
by_event n (event.Refused code) older taken measured a b = neither (λ t m. GivenAs n (event.Refused code) (unwrap_or (option_or t m) older) t m) taken measured a b refl
by_event n (event.Warned code) older taken measured a b = neither (λ t m. GivenAs n (event.Warned code) (unwrap_or (option_or t m) older) t m) taken measured a b refl
by_event n (event.Stopped why) older taken measured a b = neither (λ t m. GivenAs n (event.Stopped why) (unwrap_or (option_or t m) older) t m) taken measured a b refl
by_event n (event.Lost id why) older taken measured a b = neither (λ t m. GivenAs n (event.Lost id why) (unwrap_or (option_or t m) older) t m) taken measured a b refl
by_event n (event.Ignored why) older taken measured a b = neither (λ t m. GivenAs n (event.Ignored why) (unwrap_or (option_or t m) older) t m) taken measured a b refl

by_led : (n : ℕ) (older : asking.History) (led : asking.Led) → Agrees led
    → GivenAs n led.event (unwrap_or (option_or (shown.bytes_in led.effect) (shown.blocks_in led.effect)) (shown.last_data older)) (shown.bytes_in led.effect) (shown.blocks_in led.effect)
by_led n older led agrees = by_event n led.event (shown.last_data older) (shown.bytes_in led.effect) (shown.blocks_in led.effect) agrees.bytes agrees.blocks

by_entry : (n : ℕ) (h : asking.History) (e : asking.Entry) → EntryAgrees e → GivenAs n (unwrap_or (shown.event_in e) event.More) (shown.last_data (e ∷ h)) (shown.bytes_in (shown.effect_in e)) (shown.blocks_in (shown.effect_in e))
by_entry n h (Told command sent d) agrees = refl
by_entry n h (TookClear tag m led d) agrees = by_led n h led agrees
by_entry n h (TookRecord tag id sealed inner led d) agrees = by_led n h led agrees

by_outcome : (n : ℕ) (h : asking.History) (o : Outcome) → ((e : asking.Entry) → o ≡ asked.Adds e → EntryAgrees e)
    → GivenAs n (unwrap_or (shown.event_of o) event.More) (shown.last_data (shown.after h o)) (shown.data_of o) (shown.record_of o)
by_outcome n h (asked.Fails fault) agrees = refl
by_outcome n h (asked.Ignores cause) agrees = refl
by_outcome n h (asked.Warns code) agrees = refl
by_outcome n h (asked.Resends sent) agrees = refl
by_outcome n h (asked.Adds e) agrees = by_entry n h e (agrees e refl)

-- The step of a packet tells what came.
abbrev pub GivenTells : ℕ → PacketStep → Type 0
GivenTells n step = GivenAs n step.event (shown.last_data step.after.history) step.taken step.measured

either_given : (n : ℕ) (b : Bool) (x y : PacketStep) → GivenTells n x → GivenTells n y → GivenTells n (if b then x else y)
either_given n true x y a b = a
either_given n false x y a b = b

gathered_given : (n : ℕ) (a : Requesting) (packet : List ℕ) (gathered : Gathered) → GivenTells n (requesting.hears_gathered a packet gathered)
gathered_given n a packet (Whole route body) =
    by_outcome n a.history (requester_hears a.setup a.history route.owner route.tag body (requesting.next_draw a))
    (λ e is. entry_agrees a.setup a.history route.owner route.tag body (body_chosen a.setup a.history (requesting.next_draw a)) (requesting.next_draw a) e is)
gathered_given n a packet More = refl
gathered_given n a packet (Dropped cause) = refl

packet_given : (n : ℕ) (a : Requesting) (packet : List ℕ) (fields : Result PacketFields PacketFault) → GivenTells n (requesting.hears_packet a packet fields)
packet_given n a packet (Err fault) = refl
packet_given n a packet (Ok fields) = gathered_given n a packet _

pub requester_tells : (n : ℕ) (a : Requesting) (packet : List ℕ) → GivenTells n (requester_given a packet)
unfolding requester_given
requester_tells n a packet = either_given n (requesting.is_worn a) _ _ refl (packet_given n a packet (parsed packet))
