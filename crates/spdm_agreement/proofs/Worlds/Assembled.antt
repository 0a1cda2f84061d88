-- Agreement over every schedule: the steps of the two ends, put together.
use Rattle.spdm_agreement.specs.Worlds.{WorldsAgree, WorldsDeliver, WorldsMatch, WorldsSealOnce, WorldsShowAlike}
use Rattle.spdm_agreement.proofs.Requester.AfterBody as bodies
use Rattle.spdm_agreement.proofs.Requester.Whole as asks
use Rattle.spdm_agreement.proofs.Responder.DataAnswered as serves
use Rattle.spdm_agreement.proofs.Worlds.AllEvents as worlds
use Rattle.spdm_agreement.proofs.Worlds.Delivered as deliveries
use Rattle.spdm_agreement.specs.Story.{no_past}

pub agree : WorldsAgree
agree = worlds.worlds_agree (asks.IsKept no_past) (serves.IsKept no_past) (asks.starts no_past asks.begins_openly) (asks.asks_well no_past) (asks.hears_well no_past) bodies.steady (serves.served_starts no_past serves.begins_duly) (serves.does_well no_past) (serves.waits no_past)

pub matches : WorldsMatch
matches = worlds.worlds_match (asks.IsKept no_past) (serves.IsKept no_past) (asks.starts no_past asks.begins_openly) (asks.asks_well no_past) (asks.hears_well no_past) bodies.steady (serves.served_starts no_past serves.begins_duly) (serves.does_well no_past) (serves.waits no_past)

pub show_alike : WorldsShowAlike
show_alike = worlds.worlds_show_alike (asks.IsKept no_past) (serves.IsKept no_past) (asks.starts no_past asks.begins_openly) (asks.asks_well no_past) (asks.hears_well no_past) bodies.steady (serves.served_starts no_past serves.begins_duly) (serves.does_well no_past) (serves.waits no_past)

pub seal_once : WorldsSealOnce
seal_once = worlds.worlds_seal_once (asks.IsKept no_past) (serves.IsKept no_past) (asks.starts no_past asks.begins_openly) (asks.asks_well no_past) (asks.hears_well no_past) bodies.steady (serves.served_starts no_past serves.begins_duly) (serves.does_well no_past) (serves.waits no_past)

pub deliver : WorldsDeliver
deliver =
    deliveries.worlds_deliver (asks.IsKept no_past) (serves.IsKept no_past) (asks.starts no_past asks.begins_openly) (asks.asks_well no_past) (asks.hears_well no_past) bodies.steady (asks.keeps_openly no_past)
    (serves.served_starts no_past serves.begins_duly) (serves.does_well no_past) (serves.waits no_past) (serves.serves_duly no_past)
