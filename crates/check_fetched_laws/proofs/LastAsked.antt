-- CHUNK_GET is always written, and the bytes of the chunks always have room.
use Rattle.std.proofs.Common.{◌≡◌, ◌≤◌, ◌<◌, ◌+◌, ◌++◌, ◌∙◌, ℕ, List, sym, ap, arith, length, length-append, Result, Ok, Err}
use Rattle.std.specs.Prelude.{OnErr, OnOk}
use Rattle.check_fetched_laws.specs.ClearChunks.{get_message}
use Rattle.spdm_grammar.specs.declared.names.TheConstants.{MAX_MESSAGE_SIZE}

pub written : {E : Type 0} (handle number : ℕ) (result : Result Unit E) (out : List ℕ) → OnOk result (out ≡ get_message handle number) → OnErr result (MAX_MESSAGE_SIZE < length (get_message handle number)) → out ≡ get_message handle number
written handle number (Ok it) out ok err = ok
written handle number (Err fault) out ok err = absurd (omega (arith, err))

pub extended : {E : Type 0} (result : Result Unit E) (new old more all : List ℕ) → old ++ more ≡ all → length all ≤ MAX_MESSAGE_SIZE → OnOk result (new ≡ old ++ more) → OnErr result (MAX_MESSAGE_SIZE < length old + length more) → new ≡ all
extended (Ok it) new old more all is few ok full = ok ∙ is
extended (Err fault) new old more all is few ok full = absurd (let both = length-append old more in let same = ap (λ (l : List ℕ). length l) is in omega (arith, both, same, few, full))
