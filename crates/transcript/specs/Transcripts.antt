-- The transcripts of a session under a pre-shared key (DSP0274, "Transcript hash": VCA, TH1 and TH2 and what the verify data of PSK_EXCHANGE_RSP and of PSK_FINISH cover). Each message is the list of its bytes as sent.
use Rattle.std.specs.Prelude.{ℕ, ◌-◌, List, ◌++◌, length, take}
use Rattle.running_hash.specs.Hash.{Hash}

-- The six messages of a negotiation.
pub record Negotiation : Type 0 where
  pub get_version : List ℕ
  pub version : List ℕ
  pub get_capabilities : List ℕ
  pub capabilities : List ℕ
  pub negotiate_algorithms : List ℕ
  pub algorithms : List ℕ

-- VCA: the six messages, whole.
abbrev pub vca_of : Negotiation → List ℕ
vca_of n = n.get_version ++ n.version ++ n.get_capabilities ++ n.capabilities ++ n.negotiate_algorithms ++ n.algorithms

-- A message without its verify data, which is as long as the hash and stands at its end.
abbrev pub without_verify : Hash → List ℕ → List ℕ
without_verify h message = take (length message - h.size) message

-- T1: VCA, PSK_EXCHANGE, and PSK_EXCHANGE_RSP without its verify data.
abbrev pub t1_of : Hash → List ℕ → List ℕ → List ℕ → List ℕ
t1_of h vca exchange exchange_rsp = vca ++ exchange ++ without_verify h exchange_rsp

-- Tv: VCA, PSK_EXCHANGE, PSK_EXCHANGE_RSP whole, and PSK_FINISH without its verify data.
abbrev pub tv_of : Hash → List ℕ → List ℕ → List ℕ → List ℕ → List ℕ
tv_of h vca exchange exchange_rsp finish = vca ++ exchange ++ exchange_rsp ++ without_verify h finish

-- T2: VCA, PSK_EXCHANGE, PSK_EXCHANGE_RSP, PSK_FINISH and PSK_FINISH_RSP, all whole.
abbrev pub t2_of : List ℕ → List ℕ → List ℕ → List ℕ → List ℕ → List ℕ
t2_of vca exchange exchange_rsp finish finish_rsp = vca ++ exchange ++ exchange_rsp ++ finish ++ finish_rsp
