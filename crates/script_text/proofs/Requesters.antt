-- A requester that gets other algorithms.
use Rattle.std.proofs.Common.{◌≡◌, ℕ, zero, suc, List, [], ◌∷◌, length, get_or, ap, ◌<◌, arith}
use Rattle.std.specs.Prelude.{slice_set}
use Rattle.spdm_grammar.specs.declared.messages.choice.Suites.{Suites}
use Rattle.script_text.specs.declared.configuration.config.ReqPart.{ReqPart}
use Rattle.script_text.specs.Configuring.{with_suites}

pub with_suites-is : (n : ℕ) (suites : Suites) (qs : List ReqPart) (q : ReqPart) → n < length qs → q ≡ get_or qs n q →
    slice_set qs n (record q { suites = suites }) ≡ with_suites n suites qs
with_suites-is n suites [] q h e = absurd (omega arith)
with_suites-is zero suites (x ∷ qs) q h e = ap (λ (y : ReqPart). record y { suites = suites } ∷ qs) e
with_suites-is (suc n) suites (x ∷ qs) q h e = ap (λ ys. x ∷ ys) (with_suites-is n suites qs q (omega arith) e)
