use Rattle.std.proofs.Common.{◌≡◌, ◌∙◌, ℕ, List, IfOk, min, ap, arith, subst, length, take, length-take}
use Rattle.std.proofs.lemmas.List.{take_min}
use Rattle.capture_difference.proofs.judging.wrong_byte_in.Goals as goal
use Rattle.capture_difference.specs.Difference.{IsSought}
use Rattle.script_ends.specs.Configured.{configuration_in}
use Rattle.world_machine.specs.Setup.{Configuration}

pub returns : goal.returns
returns c = λ sound few.
    let w : Configuration = configuration_in c.args.capture.now.config in
    let packets = c.args.capture.now.packets in
    let number : ℕ = c.args.number in
    let items : List (List ℕ) = c.as_slice-packets.result.now in
    let all : items ≡ packets = c.as_slice-packets.ensures in
    let up_to : c.min.result ≡ min number (length items) = c.min.ensures in
    let cut : c.split_at.result.0.now ≡ take c.min.result items = c.split_at.ensures.front in
    let front : c.split_at.result.0.now ≡ take number packets = cut ∙ ap (λ (n : ℕ). take n items) up_to ∙ take_min number items ∙ ap (λ (l : List (List ℕ)). take number l) all in
    let long = ap length front in
    let part = length-take number packets in
    subst (λ (l : List (List ℕ)). IfOk c.seek_back.result (IsSought w l)) front (c.seek_back.ensures sound (omega (arith, long, part, few)))
