-- What an answer that gives what reading gives says of the input.
use Rattle.std.proofs.Common.{◌≡◌, ℕ, List, Result, Ok, Err, sym, ap, ◌∙◌}
use Rattle.std.specs.Prelude.{IfOk, IsOkAnd}
use Rattle.std.specs.Option.{option_map}
use Rattle.std.specs.Result.{result_ok, result_err}
use Rattle.spdm_grammar.specs.declared.messages.malformed.Malformed.{Malformed}
use Rattle.spdm_grammar.specs.Layout.{Layout, IsSpelling}
use Rattle.spdm_grammar.specs.Reading.{read, front}
use Rattle.spdm_grammar.proofs.Spellings.{read_spelling, spelling_read}
use Rattle.spdm_codec.specs.Answer.{Gives}

pub value_given : {X Y : Type 0} (view : X → Y) (r : Result X Malformed) (reading : Result Y Malformed) → Gives view r reading → option_map view (result_ok r) ≡ result_ok reading
value_given view (Ok x) reading given = sym (ap result_ok given)
value_given view (Err e) reading given = sym (ap result_ok given)

pub fault_given : {X Y : Type 0} (view : X → Y) (r : Result X Malformed) (reading : Result Y Malformed) → Gives view r reading → result_err r ≡ result_err reading
fault_given view (Ok x) reading given = sym (ap result_err given)
fault_given view (Err e) reading given = sym (ap result_err given)

pub found_given : {X Y : Type 0} (view : X → Y) (r : Result X Malformed) (l : Layout Y) (bytes : List ℕ) → Gives view r (read l (front bytes)) → IfOk r (λ x. IsSpelling l 0 (view x) bytes)
found_given view (Ok x) l bytes given = read_spelling l (front bytes) (view x) given
found_given view (Err e) l bytes given = tt

pub only_given : {X Y : Type 0} (view : X → Y) (r : Result X Malformed) (l : Layout Y) (bytes : List ℕ) → Gives view r (read l (front bytes)) → (y : Y) → IsSpelling l 0 y bytes → IsOkAnd r (λ x. view x ≡ y)
only_given view (Ok x) l bytes given y s = let e = sym given ∙ spelling_read l 0 y bytes s in cc
only_given view (Err e) l bytes given y s = let e = sym given ∙ spelling_read l 0 y bytes s in absurd cc
