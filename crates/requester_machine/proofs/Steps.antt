-- How the steps of a session stay in order, and go with what it waits for.
use Rattle.std.proofs.Common.{refl, ◌∙◌, ◌≡◌, ℕ, List, [], ◌∷◌, true, false, Bool, Some, ap}
use Rattle.std.specs.Prelude.{◌||◌, if◌then◌else◌}
use Rattle.std.proofs.lemmas.Bool.{false≢true}
use Rattle.std.proofs.lemmas.Option.{none-some, same_Some}
use Rattle.spdm_grammar.specs.declared.told.phase.Stage.{Stage}
use Rattle.spdm_grammar.specs.declared.told.phase.Stage.TheVariants as stage
use Rattle.requester_machine.specs.History.{Effect}
use Rattle.requester_machine.specs.Message.{Ask}
use Rattle.requester_machine.specs.Message.Ask.{AskFinish}
use Rattle.requester_machine.specs.Order.{IsOrdered, FitsWaits, Waits, is_opening, is_answer, waiting_ask, stage_for, may_bring}
use Rattle.requester_machine.specs.Order.Waits.{Rests, ForExchange, ForRecord}
use Rattle.requester_machine.specs.Session.{Steps, Step, stage_of, is_accepted, when_live, after_record, ends, finishes, updates, verifies}
use Rattle.requester_machine.specs.Session.Step.{Started, Accepted, Asked, Took}

abbrev pub Good : Waits → Steps → Type 0
Good waits s = IsOrdered s × FitsWaits waits s

-- ---- Commands.

-- A session that rests is asked something of an open one.
pub asked_good : (ask : Ask) (inner sealed : List ℕ) (s : Steps) → stage.Open ≡ stage_for ask → Good Rests s → Good (ForRecord ask) (when_live s (Asked ask inner sealed))
asked_good ask inner sealed [] here good = (tt, tt)
asked_good ask inner sealed (x ∷ s) here good = ((good.1.0 ∙ here, good.1.1, good.1.2, good.0), refl)

pub either_good : (b : Bool) (x y : Waits) (s t : Steps) → Good x s → Good y t → Good (if b then x else y) (if b then s else t)
either_good true x y s t a b = a
either_good false x y s t a b = b

-- ---- The exchange.

pub opening_stage : (s : Steps) → is_opening s ≡ true → stage_of s ≡ stage.Handshake
opening_stage [] is = absurd (false≢true is)
opening_stage (Started n x ∷ []) is = refl
opening_stage (Started n x ∷ (step ∷ older)) is = absurd (false≢true is)
opening_stage (Accepted a ∷ older) is = absurd (false≢true is)
opening_stage (Asked ask inner sealed ∷ older) is = absurd (false≢true is)
opening_stage (Took sealed inner effect ∷ older) is = absurd (false≢true is)

finish_good : (answer inner sealed : List ℕ) (s : Steps) → Good ForExchange s → Good (ForRecord AskFinish) (when_live (when_live s (Accepted answer)) (Asked AskFinish inner sealed))
finish_good answer inner sealed [] good = (tt, tt)
finish_good answer inner sealed (x ∷ s) good = ((opening_stage (x ∷ s) good.1, refl, refl, good.1), refl)

-- PSK_FINISH follows PSK_EXCHANGE_RSP in the session of this id, and nothing changes in any other.
pub exchange_good : (b : Bool) (answer inner sealed : List ℕ) (s : Steps) → Good (if b then ForExchange else Rests) s
    → Good (if b then ForRecord AskFinish else Rests)
    (if b then when_live (if b then when_live s (Accepted answer) else s) (Asked AskFinish inner sealed) else (if b then when_live s (Accepted answer) else s))
exchange_good true answer inner sealed s good = finish_good answer inner sealed s good
exchange_good false answer inner sealed s good = good

-- A refused one ends its session.
pub refused_good : (b : Bool) (s : Steps) → Good (if b then ForExchange else Rests) s → Good Rests (if b then [] else s)
refused_good true s good = (tt, tt)
refused_good false s good = good

-- ---- Records.

-- What waits was asked in its stage.
pub asked_stage : (ask : Ask) (s : Steps) → IsOrdered s → waiting_ask s ≡ Some ask → (stage_of s ≡ stage_for ask) × (is_accepted s ≡ true)
asked_stage ask [] ordered waits = absurd (none-some ask waits)
asked_stage ask (Started n x ∷ older) ordered waits = absurd (none-some ask waits)
asked_stage ask (Accepted a ∷ older) ordered waits = absurd (none-some ask waits)
asked_stage ask (Asked other inner sealed ∷ older) ordered waits = (ordered.0 ∙ ap stage_for (same_Some other ask waits), ordered.1)
asked_stage ask (Took sealed inner effect ∷ older) ordered waits = absurd (none-some ask waits)

-- The stage after a record taken.
abbrev pub stage_behind : Effect → Stage → Stage
stage_behind effect st = if finishes effect || verifies effect then stage.Open else (if updates effect then stage.Verifying else st)

-- A record taken is in order where it answers what waits.
taken_good : (sealed inner : List ℕ) (effect : Effect) (ask : Ask) (x : Step) (s : Steps) → may_bring effect ask ≡ true → Good (ForRecord ask) (x ∷ s) → IsOrdered (Took sealed inner effect ∷ (x ∷ s))
taken_good sealed inner effect ask x s may good = (ap (is_answer effect) good.1 ∙ may, good.0)

-- The session ends.
pub end_good : (b : Bool) (sealed inner : List ℕ) (effect : Effect) (ask : Ask) (s : Steps) → ends effect ≡ true
    → Good (if b then ForRecord ask else Rests) s → Good Rests (if b then after_record sealed inner effect s else s)
end_good true sealed inner effect ask s is good = rw is (tt, tt)
end_good false sealed inner effect ask s is good = good

-- It is open, and waits for nothing.
done_live : (sealed inner : List ℕ) (effect : Effect) (ask : Ask) (s : Steps) → may_bring effect ask ≡ true → stage_behind effect (stage_for ask) ≡ stage.Open
    → Good (ForRecord ask) s → Good Rests (when_live s (Took sealed inner effect))
done_live sealed inner effect ask [] may here good = (tt, tt)
done_live sealed inner effect ask (x ∷ s) may here good =
    (taken_good sealed inner effect ask x s may good, (ap (stage_behind effect) (asked_stage ask (x ∷ s) good.0 good.1).0 ∙ here, (asked_stage ask (x ∷ s) good.0 good.1).1, refl))

pub done_good : (b : Bool) (sealed inner : List ℕ) (effect : Effect) (ask : Ask) (s : Steps) → ends effect ≡ false → may_bring effect ask ≡ true → stage_behind effect (stage_for ask) ≡ stage.Open
    → Good (if b then ForRecord ask else Rests) s → Good Rests (if b then after_record sealed inner effect s else s)
done_good true sealed inner effect ask s stays may here good = rw stays (done_live sealed inner effect ask s may here good)
done_good false sealed inner effect ask s stays may here good = good

-- It waits for the answer to a further record.
next_live : (sealed inner : List ℕ) (effect : Effect) (ask next : Ask) (inner' sealed' : List ℕ) (s : Steps) → may_bring effect ask ≡ true → stage_behind effect (stage_for ask) ≡ stage_for next
    → Good (ForRecord ask) s → Good (ForRecord next) (when_live (when_live s (Took sealed inner effect)) (Asked next inner' sealed'))
next_live sealed inner effect ask next inner' sealed' [] may fits good = (tt, tt)
next_live sealed inner effect ask next inner' sealed' (x ∷ s) may fits good =
    ((ap (stage_behind effect) (asked_stage ask (x ∷ s) good.0 good.1).0 ∙ fits, (asked_stage ask (x ∷ s) good.0 good.1).1, refl, taken_good sealed inner effect ask x s may good), refl)

pub next_good : (b : Bool) (sealed inner : List ℕ) (effect : Effect) (ask next : Ask) (inner' sealed' : List ℕ) (s : Steps) → ends effect ≡ false → may_bring effect ask ≡ true → stage_behind effect (stage_for ask) ≡ stage_for next
    → Good (if b then ForRecord ask else Rests) s
    → Good (if b then ForRecord next else Rests) (if b then (if b then when_live (after_record sealed inner effect s) (Asked next inner' sealed') else after_record sealed inner effect s) else s)
next_good true sealed inner effect ask next inner' sealed' s stays may fits good = rw stays (next_live sealed inner effect ask next inner' sealed' s may fits good)
next_good false sealed inner effect ask next inner' sealed' s stays may fits good = good
