-- What a beginning sets up.
use Rattle.std.proofs.Common.{◌≡◌, ◌≤◌, ℕ, List, [], length, subst, sym, Option, Some}
use Rattle.stream_commands.specs.StreamStart.{IsBegun, config_text}
use Rattle.stream_commands.specs.Kept.{IsStreamUnread}
use Rattle.stream_commands.specs.Outside.{IsSeeded, Outside}
use Rattle.stream_commands.specs.SetUp.{IsSetUp}
use Rattle.stream_commands.specs.declared.begin.StreamStart.{StreamStart}

-- the end
pub set_up : (before after : Outside) (begun : StreamStart) (rest : Option (List ℕ)) → IsBegun before.left before.seeds begun rest after.seeds → IsSetUp begun.config begun.seed before after
set_up before after begun rest is = record { configured = is.configured; given = is.seed }

pub seeded : (before after : Outside) (begun : StreamStart) (rest : Option (List ℕ)) → IsBegun before.left before.seeds begun rest after.seeds → IsSeeded config_text before after
seeded before after begun rest is = record { good = (begun.config, is.configured); seed = begun.seed; given = is.seed }

-- told of the same bytes
pub with_bytes : (before after : Outside) (begun : StreamStart) (rest : Option (List ℕ)) (bytes : List ℕ) → bytes ≡ begun.before → IsBegun before.left before.seeds begun rest after.seeds →
    IsBegun before.left before.seeds (record begun { before = bytes }) rest after.seeds
with_bytes before after begun rest bytes same is = subst (λ (l : List ℕ). IsBegun before.left before.seeds (record begun { before = l }) rest after.seeds) (sym same) is

-- the stream is not read, but for what was read with the text
pub unread : (before after : Outside) (begun : StreamStart) → IsBegun before.left before.seeds begun after.left after.seeds → length begun.before ≤ 4096 → IsStreamUnread config_text before after
unread before after begun is few = λ input e. let behind = (is.read input e).1 in (begun.before, behind.0, behind.1, behind.2, few)

-- and what is behind the text was read to its end
pub read_to_end : (before after : Outside) (begun : StreamStart) (rest : Option (List ℕ)) → IsBegun before.left before.seeds begun rest after.seeds →
    ((left : List ℕ) → rest ≡ Some left → after.left ≡ Some []) → (input : List ℕ) → before.left ≡ Some input → after.left ≡ Some []
read_to_end before after begun rest is end input left = let behind = (is.read input left).1 in end behind.0 behind.1
