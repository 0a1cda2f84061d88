-- The secret after one key update more.
use Rattle.std.proofs.Common.{◌≡◌, ℕ, ◌+◌, List, ap, ◌∙◌, sym, add-one}
use Rattle.running_hash.specs.Hash.{Hash, hash_of}
use Rattle.key_schedule.specs.Keys.{DirectionSecret}
use Rattle.key_schedule.specs.Schedule.{secret_at, updated_secret}
use Rattle.key_schedule.specs.Purpose.{Purpose, IsSecretOf}

pub secret_at-next : (h : Hash) (first : List ℕ) (epoch : ℕ) → secret_at h first (epoch + 1) ≡ updated_secret h (secret_at h first epoch)
unfolding secret_at
secret_at-next h first epoch = ap (λ n. secret_at h first n) (add-one epoch)

pub updated : (key : DirectionSecret) (p : Purpose) → IsSecretOf key p →
    IsSecretOf (record key { secret = updated_secret (hash_of key.hash) key.secret; epoch = key.epoch + 1 }) (record p { epoch = p.epoch + 1 })
updated key p is = record {
  records = is.records;
  secret = ap (λ s. updated_secret (hash_of key.hash) s) is.secret ∙ sym (secret_at-next (hash_of key.hash) _ p.epoch);
  epoch = ap (λ n. n + 1) is.epoch;
}
